-- Where a call of a disk of a volume failed, the bay's count rose.
use Rattle.replay.proofs.Basics.{◌≡◌, ℕ, Bool, true, false, List, refl, subst, Option, None, Some, All, IsTrue, slice_get, option_map_or}
use Rattle.replay.proofs.Terms.{Rose, BayState, Config, notes_of, Station, IsClosedVolume, ImageRest, History, is_broken, is_broken_at}
use Rattle.replay.proofs.HistoriesLeft.{histories_of, history_at}
use Rattle.replay.proofs.WindowBroken.{not_none}

pub run_cause : {D : Type 0} (tells : Bool) (config : Config) (out : List (Option (ImageRest D))) (old new : BayState) (ss : List (Station D)) (all : All (IsClosedVolume tells config out old new) ss)
    → (v : ℕ) → IsTrue (is_broken_at (histories_of tells config out old new ss all) v) → Rose old.faults new.faults
run_cause {D} tells config out old new ss all v broken = at (slice_get (histories_of tells config out old new ss all) v) refl broken
  where
    at : (o : Option History) → slice_get (histories_of tells config out old new ss all) v ≡ o → IsTrue (option_map_or is_broken o false) → Rose old.faults new.faults
    at None none broke = absurd (cc broke)
    at (Some h) here broke =
        let one = history_at tells config out old new ss all v h here in
        one.closed.cause (not_none (notes_of one.closed.entries) (subst (λ (x : History). is_broken x ≡ true) one.is broke))
