-- Lists of lanes and of the records in their segments: one lane is another, and one segment in it is another or is new.
use Rattle.std.proofs.Common.{◌≡◌, ℕ, zero, suc, subst, List, [], ◌∷◌, Some}
use Rattle.std.specs.Prelude.{slice_get, slice_set}
use Rattle.std.proofs.lemmas.Option.{same_Some}
use Rattle.logger.specs.declared.lane.Lane.{Lane}
use Rattle.manager.specs.Stands.{AreNamed, IsNamed}
use Rattle.manager.specs.declared.base.LaneBase.{LaneBase}
pub use Rattle.volume_parts.proofs.Elements.{all_at, all_set, get_set, get_other, map_set}
pub use Rattle.volume_parts.proofs.Lanes.{held_as, none_taken}

-- ---- The names of lanes

pub named_set : {D : Type 0} (lanes : List (Lane D)) (bs : List LaneBase) (k : ℕ) (old new : Lane D) → slice_get lanes k ≡ Some old → ((b : LaneBase) → IsNamed old b → IsNamed new b) → AreNamed lanes bs → AreNamed (slice_set lanes k new) bs
named_set [] bs k old new lane so all = all
named_set (l ∷ lanes) [] zero old new lane so all = absurd all
named_set (l ∷ lanes) [] (suc k) old new lane so all = absurd all
named_set {D} (l ∷ lanes) (b ∷ bs) zero old new lane so all = (so b (let P : Lane D → Type 0 = λ q. IsNamed q b in subst P (same_Some l old lane) all.0), all.1)
named_set (l ∷ lanes) (b ∷ bs) (suc k) old new lane so all = (all.0, named_set lanes bs k old new lane so all.1)
