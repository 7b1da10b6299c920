-- A history is that of one volume, as it was before the run and is after it.
use Rattle.replay.proofs.Basics.{◌≡◌, ℕ, Bool, List, length, Option, Some, arith, All, slice_get}
use Rattle.replay.proofs.Terms.{BayState, Config, Station, IsClosedVolume, ImageRest, History}
use Rattle.replay.proofs.HistoriesLeft.{IsHistoryAt, histories_of, history_at}
use Rattle.replay.proofs.RacksServed.{a_member, at_place}

pub record HasRan {D : Type 0} (tells : Bool) (config : Config) (out : List (Option (ImageRest D))) (opened left_ : BayState) (olds news : List (Station D)) (k : ℕ) (h : History) : Type 0 where
  pub old : Station D
  pub is_old : slice_get olds k ≡ Some old
  pub now : IsHistoryAt tells config out opened left_ news k h

-- so it is for each of them
pub has_ran : {D : Type 0} (tells : Bool) (config : Config) (out : List (Option (ImageRest D))) (opened left_ : BayState) (olds news : List (Station D)) (closed : All (IsClosedVolume tells config out opened left_) news) → length news ≡ length olds
    → (k : ℕ) (h : History) → slice_get (histories_of tells config out opened left_ news closed) k ≡ Some h → HasRan tells config out opened left_ olds news k h
has_ran {D} tells config out opened left_ olds news closed same k h here = record { old = was.0; is_old = was.1; now = at_ }
  where
    at_ : IsHistoryAt tells config out opened left_ news k h
    at_ = history_at tells config out opened left_ news closed k h here

    was : (s : Station D) × (slice_get olds k ≡ Some s)
    was = a_member olds k (let lt = (at_place news k at_.station at_.there).0 in omega (arith, lt, same))
