-- Steps in which segments are read, and home takes blocks that the newest records have: each image that home had since an earlier moment
-- stands for the array, so a stop at any of them leaves it.
use Rattle.std.proofs.Common.{◌≡◌, ◌+◌, ℕ, Bool, true, List, [], length, Option, None, refl, sym, ap, subst, ◌∙◌}
use Rattle.std.specs.Prelude.{⊤, IsTrue}
use Rattle.std.specs.List.{AllZip}
use Rattle.wol_disk.specs.Disk.{State, Block, Values, IsDisk, IsImageOf, LeavesOnly}
use Rattle.wol_disk.proofs.Moments.{started, then_leaves, widened}
use Rattle.wol_model.specs.Extents.{Extent}
use Rattle.wol_model.specs.History.{writes}
use Rattle.wol_model.specs.Holding.{Holds as HoldsArray}
use Rattle.wol_model.specs.Index.{Indexed, listed_in, is_due}
use Rattle.wol_model.specs.Log.{has_bit}
use Rattle.wol_promise.specs.Manager.{Held, extents_held, is_homed_in}
use Rattle.wol_promise.specs.Ruled.{Noted, entries_of}
use Rattle.wol_promise.specs.Stands.{IsDataOf}
use Rattle.wol_promise.proofs.Stops.{still_stops}
use Rattle.spin_model.specs.Spun.{state_of}
use Rattle.spin_model.specs.declared.spun.Spun.{Spun}
use Rattle.log_segment.specs.Segment.{Holds}
use Rattle.logger.specs.declared.lane.Lane.{Lane}
use Rattle.redirect_map.specs.Index.{Contents}
use Rattle.volume_parts.proofs.Contents.{puts_from}
use Rattle.volume_parts.proofs.Elements.{zip_then}
use Rattle.volume_parts.proofs.Entries.{At}
use Rattle.volume_parts.proofs.Held.{moved_extents}
use Rattle.volume_parts.proofs.PartReads.{lane_then, lanes_self}
use Rattle.manager.specs.Reading.{HomeRead, LaneRead}
use Rattle.manager.specs.Reclaim.{IsPartlyPut, put_block}
use Rattle.manager.specs.Seen.{AllLanesHold, all_held}
use Rattle.manager.specs.Stands.{Keeps}
use Rattle.manager.specs.Stops.{HeldSince, HoldsSince, ImageSince, Stops}
use Rattle.manager.specs.declared.base.ManagerBase.{ManagerBase}
use Rattle.manager.specs.declared.manager.Manager.{Manager}
use Rattle.manager.proofs.LaidHome.{blend_holds}
use Rattle.manager.proofs.Moments.{stops_so, whole_now}
use Rattle.manager.proofs.ReadKeeps.{lanes_read}
use Rattle.manager.proofs.ReadStops.{logs_by, moved_by}
use Rattle.manager.proofs.StoreHome.{data_of, partly_image}

module _ {D : Type 0} (tells : Bool) (state : D → State) (sound : (d : D) → IsDisk (state d)) where
  -- with the records of then this image of home stands for the array
  abbrev StandsFor : (was : Manager D) (b : ManagerBase) (notes : List Noted) → Keeps tells state was b notes → List Block → Type 0
  StandsFor was b notes kept image = HoldsArray b.volume.began.array (writes (entries_of notes)) was.next image (extents_held (all_held 0 was.lanes.items kept.logs)) (is_homed_in was.index.entries)

  -- before the first step
  pub since_itself : (m : Manager D) (b : ManagerBase) (notes : List Noted) → m.down ≡ None → HoldsSince tells state m m b notes
  since_itself m b notes up = record {
    up = up;
    index = refl;
    lanes = lanes_self state sound m.lanes.items;
    home = λ told kept. started (sound m.home.inner) (λ c is. (whole_now tells state sound told m b notes kept up None).holds c (told, is));
  }

  module _ (was m : Manager D) (b : ManagerBase) (notes : List Noted) (since : HoldsSince tells state was m b notes) where
    -- so it does of each image that home has now
    holds_now : (told : IsTrue tells) (kept : Keeps tells state was b notes) (c : List Block) → IsImageOf (state_of state m.home).values c → StandsFor was b notes kept c
    holds_now told kept c is = let l = since.home told kept in l.each c ((sound m.home.inner).counts_now (state_of state was.home).clock c l.later is)

    -- a step that leaves home nothing but such images
    since_home : (n : Manager D) → n.index ≡ m.index → AllZip (LaneRead state) m.lanes.items n.lanes.items
        → ((told : IsTrue tells) (kept : Keeps tells state was b notes) → LeavesOnly (state_of state m.home) (state_of state n.home) (StandsFor was b notes kept)) → HoldsSince tells state was n b notes
    since_home n index lanes leaves = record {
      up = since.up;
      index = index ∙ since.index;
      lanes = zip_then (LaneRead state) (lane_then state sound) was.lanes.items m.lanes.items n.lanes.items since.lanes lanes;
      home = λ told kept. then_leaves {P = StandsFor was b notes kept} {Q = StandsFor was b notes kept} (since.home told kept) (leaves told kept) (λ c holds. holds);
    }

    -- a step that leaves home the images that it has
    since_images : (n : Manager D) → n.index ≡ m.index → AllZip (LaneRead state) m.lanes.items n.lanes.items → LeavesOnly (state_of state m.home) (state_of state n.home) (IsImageOf (state_of state m.home).values) → HoldsSince tells state was n b notes
    since_images n index lanes leaves = since_home n index lanes (λ told kept. widened {P = IsImageOf (state_of state m.home).values} {Q = StandsFor was b notes kept} leaves (λ c is. holds_now told kept c is))

    -- reads
    pub since_read : (n : Manager D) → n.index ≡ m.index → AllZip (LaneRead state) m.lanes.items n.lanes.items → HomeRead state m.home n.home → HoldsSince tells state was n b notes
    since_read n index lanes home = since_images n index lanes home.any_moment

    -- a sync of home
    pub since_synced : (part : Spun D) → LeavesOnly (state_of state m.home) (state_of state part) (IsImageOf (state_of state m.home).values) → HoldsSince tells state was (record m { home = part }) b notes
    since_synced part leaves = since_images (record m { home = part }) refl (lanes_self state sound m.lanes.items) leaves

    -- due blocks of a record that are laid home
    module _ (version mask : ℕ) (blocks : List Block) (e : Indexed) (at : At m.index.entries version e) (count : length blocks ≡ length e.listed.keep)
        (due : (i : ℕ) → has_bit mask i ≡ true → is_due (listed_in m.index.entries) e.listed (e.listed.first + i) ≡ true)
        (data_ : IsTrue tells → IsDataOf b.volume.began (writes (entries_of notes)) version e.listed.first blocks) where
      entries_same : m.index.entries ≡ was.index.entries
      entries_same = ap (λ (c : Contents). c.entries) since.index

      stands_then : (told : IsTrue tells) (kept : Keeps tells state was b notes) (c : List Block) → IsPartlyPut (state_of state m.home).values (put_block e.listed.first mask blocks) c → StandsFor was b notes kept c
      stands_then told kept c partly =
          let from = partly_image (state_of state m.home).values e.listed.first mask blocks c partly in
          blend_holds b.volume.began.array (writes (entries_of notes)) was.next from.0 c (extents_held (all_held 0 was.lanes.items kept.logs)) (is_homed_in was.index.entries) (puts_from 0 e.listed.first mask blocks)
          (holds_now told kept from.0 from.1)
          (data_of tells state was b notes kept since.up version mask blocks e (subst (λ (l : List Indexed). At l version e) entries_same at) count
          (subst (λ (l : List Indexed). (i : ℕ) → has_bit mask i ≡ true → is_due (listed_in l) e.listed (e.listed.first + i) ≡ true) entries_same due) data_ told)
          from.2

      pub since_laid : (part : Spun D) → LeavesOnly (state_of state m.home) (state_of state part) (IsPartlyPut (state_of state m.home).values (put_block e.listed.first mask blocks)) → HoldsSince tells state was (record m { home = part }) b notes
      since_laid part leaves = since_home (record m { home = part }) refl (lanes_self state sound m.lanes.items)
          (λ told kept. widened {P = IsPartlyPut (state_of state m.home).values (put_block e.listed.first mask blocks)} {Q = StandsFor was b notes kept} leaves (λ c partly. stands_then told kept c partly))

    -- stopped at any moment since then
    pub stops_since : IsTrue tells → Keeps tells state was b notes → Stops state was m None b notes []
    stops_since told kept = stops_so tells state sound told was b notes kept since.up None (ImageSince state was.home m.home) m.lanes.items kept.logs [] (λ h rs. ⊤) any_held
        (still_stops (ImageSince state was.home m.home) (HeldSince state (all_held 0 was.lanes.items kept.logs) None) b.volume.began.owner b.volume.began.array (writes (entries_of notes)) was.next (is_homed_in was.index.entries)
        (all_held 0 m.lanes.items kept.logs) [] (logs_by tells state sound told was b notes kept m.lanes.items since.lanes since.up)
        (λ home image. subst (λ (rs : List Extent). HoldsArray b.volume.began.array (writes (entries_of notes)) was.next home rs (is_homed_in was.index.entries))
        (sym (moved_extents state b.volume.began.owner (all_held 0 was.lanes.items kept.logs) (all_held 0 m.lanes.items kept.logs) (moved_by tells state sound told was b notes kept m.lanes.items since.lanes since.up)))
        ((since.home told kept).each home image)))
      where
        any_held : AllLanesHold (λ h rs. ⊤) m.lanes.items kept.logs
        any_held = lanes_read state (λ h rs. IsTrue tells → was.down ≡ None → Holds state h.segment rs) (λ h rs. ⊤) (λ h i rs r holds. tt) was.lanes.items m.lanes.items kept.logs since.lanes kept.held
