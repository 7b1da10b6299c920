-- The same stop is handed on.
use Rattle.replay.proofs.Basics.{◌≡◌, sym, subst, Result, Ok, Err}
use Rattle.replay.proofs.Terms.{Stop}
use Rattle.std.specs.Result.{IsErrAnd}

pub same_stop : {T U : Type 0} {r : Result T Stop} {e : Stop} → (P : Result U Stop → Type 0) → (q : Result U Stop) → ((x : Stop) → r ≡ Err x → P (Err x)) → r ≡ Err e → IsErrAnd q (λ y. y ≡ e) → P q
same_stop P (Ok y) holds was same = absurd same
same_stop {T} {U} {r} {e} P (Err y) holds was same = subst (λ (x : Stop). P (Err x)) (sym same) (holds e was)
