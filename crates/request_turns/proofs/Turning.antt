-- One turn, from entering to leaving.
use Rattle.std.proofs.Common.{◌≡◌, ℕ, Bool, List, [], ◌∷◌, ◌++◌, sym, ap, ◌∙◌}
use Rattle.std.specs.Prelude.{IsTrue}
use Rattle.turn_lock.specs.Histories.{Entry, own, Begins}
use Rattle.turn_lock.specs.Passes.{pass_number, pass_seen, pass_mine, IsSamePass}
use Rattle.wol_promise.specs.Ruled.{Noted}
use Rattle.request_turns.specs.Turns.{ManagerPass, coded, HasLeft, HasTurned}

pub turned : {D : Type 0} (tells : Bool) (p i q : ManagerPass D) (n : Noted) → IsSamePass p i → Begins (pass_seen p) (pass_seen i) → pass_mine i ≡ pass_mine p
    → own (pass_number i) (pass_seen i) ≡ pass_mine i → HasLeft tells n i q → IsTrue n.ruled → HasTurned tells p q (pass_seen i) n
turned tells p i q n same begins mine owns left ruled = record {
  same = (left.same.0 ∙ same.0, left.same.1 ∙ same.1);
  free = left.free;
  begins = begins;
  others = ap (λ (k : ℕ). own k (pass_seen i)) (sym same.1) ∙ owns ∙ mine;
  number = left.number ∙ same.1;
  seen = left.seen;
  mine = left.mine ∙ ap (λ (es : List Entry). es ++ coded n ∷ []) mine;
  ruled = ruled;
  history = left.history;
}
