-- An index without records.
use Rattle.std.proofs.Common.{◌≡◌, ℕ, Bool, true, List, [], ◌∷◌, length, None, eqb, arith}
use Rattle.std.specs.Prelude.{find}
use Rattle.std.proofs.lemmas.Bool.{eqb-true}
use Rattle.wol_model.specs.Index.{Indexed}
use Rattle.redirect_map.specs.Index.{IsAnswer}

pub none_of_none : (p : Indexed → Bool) (es : List Indexed) → eqb (length es) 0 ≡ true → IsAnswer (find p es) None
none_of_none p [] none = tt
none_of_none p (x ∷ xs) none =
    let e : length (x ∷ xs) ≡ 0 = eqb-true (length (x ∷ xs)) 0 none in
    absurd (omega arith)
