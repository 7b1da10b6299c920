-- The sources of blocks, as the index answers them, and the accesses that passes begin.
use Rattle.std.proofs.Common.{◌+◌, ℕ, not, refl, subst}
use Rattle.wol_model.specs.Index.{listed_in, is_covered}
use Rattle.redirect_map.specs.Index.{Contents}
use Rattle.manager.specs.Reading.{reads_home, reads_lane, NeedsWhere, NeedsSources, LaneRead, IsReadThrough}
use Rattle.logger.specs.Lanes.{spindle_of}
use Rattle.wol_disk.specs.Disk.{State}
use Rattle.wol_promise.specs.Policy.{has_newest_on}
use Rattle.manager.specs.declared.manager.Manager.{Manager}
use Rattle.volume_parts.proofs.Elements.{zip_get}
use Rattle.volume_parts.proofs.PartReads.{same_lane_spindle, needs_none, needs_then}
use Rattle.wol_promise.proofs.Woken.{any_joined}
pub use Rattle.volume_parts.proofs.Contents.{same_version}

-- ---- accesses

module _ {D : Type 0} (state : D → State) (old mid new : Manager D) (read : IsReadThrough state old mid) where
  pub needs_more : (first n m : ℕ) → NeedsSources old mid first n → NeedsSources mid new (first + n) m → NeedsSources old new first (n + m)
  needs_more first n m a b = record {
    home = rw (any_joined (λ c. not (is_covered (listed_in old.index.entries) c)) first n m)
        (needs_then old.spindle mid.spindle new.spindle _ _ a.home (subst (λ (i : Contents). NeedsWhere mid.spindle new.spindle (reads_home (listed_in i.entries) (first + n) m)) read.index b.home));
    lanes = λ k o l was is.
        let there = zip_get (LaneRead state) old.lanes.items mid.lanes.items k o read.lanes was in
        rw (any_joined (has_newest_on (listed_in old.index.entries) k) first n m)
        (needs_then (spindle_of o) (spindle_of there.0) (spindle_of l) _ _ (a.lanes k o there.0 was there.1)
        (subst (λ (i : Contents). NeedsWhere (spindle_of there.0) (spindle_of l) (reads_lane (listed_in i.entries) k (first + n) m)) read.index (b.lanes k there.0 l there.1 is)));
  }

pub needs_nothing : {D : Type 0} (m : Manager D) (first : ℕ) → NeedsSources m m first 0
needs_nothing m first = record {
  home = needs_none m.spindle m.spindle refl;
  lanes = λ k o n was is. needs_none (spindle_of o) (spindle_of n) (same_lane_spindle m.lanes.items k o n was is);
}
