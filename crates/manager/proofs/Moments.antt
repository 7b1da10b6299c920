-- Images at any moment of a call: whichever records the segments are given, what a stop leaves is the same.
use Rattle.std.proofs.Common.{◌≡◌, Bool, sym, subst, ◌∙◌, List, Option, None, refl, ap}
use Rattle.std.specs.Prelude.{⊤, Contains, IsTrue, unwrap_or}
use Rattle.std.specs.List.{AllZip}
use Rattle.wol_disk.specs.Disk.{State, Block, IsDisk}
use Rattle.wol_model.specs.Blocks.{Write}
use Rattle.wol_model.specs.History.{writes, IsCut}
use Rattle.wol_model.specs.Holding.{Holds}
use Rattle.wol_model.specs.Log.{Record, IsLog}
use Rattle.spin_model.specs.declared.spun.Spun.{Spun}
use Rattle.wol_model.specs.Recovered.{recovered}
use Rattle.wol_promise.specs.Manager.{Held, Recovers, extents_held, is_homed_in}
use Rattle.wol_promise.specs.Ruled.{Noted, entries_of}
use Rattle.wol_promise.specs.Stands.{StopsSafely, IsWhole}
use Rattle.wol_promise.proofs.Choices.{AreLogs}
use Rattle.wol_promise.proofs.Lists.{all_map, all_member}
use Rattle.logger.specs.declared.lane.HeldSegment.{HeldSegment}
use Rattle.logger.specs.declared.lane.Lane.{Lane}
use Rattle.manager.specs.Seen.{Logs, AllLanesHold, all_held, parts_of}
use Rattle.manager.specs.Stands.{Keeps}
use Rattle.manager.specs.Stops.{ImageSince, HeldSince, was_held, was_free}
use Rattle.manager.specs.declared.base.ManagerBase.{ManagerBase}
use Rattle.manager.specs.declared.manager.Manager.{Manager}
use Rattle.manager.proofs.ReadContent.{unbroken, upholds_up}
use Rattle.volume_parts.proofs.Held.{IsSameHeld, same_held, same_member, zip_back, rezip, each_member}
use Rattle.volume_parts.proofs.Lanes.{same_place}
use Rattle.log_segment.specs.Segment as segment

-- ---- A call of a manager that is up and whose disks tell their content

module _ {D : Type 0} (tells : Bool) (state : D → State) (sound : (d : D) → IsDisk (state d)) (told : IsTrue tells) (m : Manager D) (b : ManagerBase) (notes : List Noted) (kp : Keeps tells state m b notes) (up : m.down ≡ None) (claimed : Option (Spun D)) where
  abbrev pub held : List (Held (Spun D))
  held = all_held 0 m.lanes.items kp.logs

  abbrev pub Since : Held (Spun D) → List Block → Type 0
  Since = HeldSince state held claimed

  pub whole_now : IsWhole (parts_of tells state) b.volume.began (writes (entries_of notes)) m.next m.home held m.index.entries
  whole_now = ((upholds_up tells state m b notes kp up).calm refl).whole told

  -- an image since the beginning of the call of a segment that is as it was
  pub still_log : (v : Held (Spun D)) → Contains held v → (bs : List Block) → Since v bs → IsLog bs b.volume.began.owner v.records
  still_log v has bs (was_held o was same image) = is_log v has bs (subst (λ (p : Spun D). ImageSince state p v.part bs) (ap (λ (w : Held (Spun D)). w.part) (same_place held o v kp.upholds.places.apart was has same)) image)
    where
      is_log : (v : Held (Spun D)) → Contains held v → (bs : List Block) → ImageSince state v.part v.part bs → IsLog bs b.volume.began.owner v.records
      is_log v has bs image = all_member (λ (w : Held (Spun D)). (bs : List Block) → (parts_of tells state).may_be w.part bs → IsLog bs b.volume.began.owner w.records) held v whole_now.logs has bs (told, (sound v.part.inner).only_now bs image)
  still_log v has bs (was_free p is other image) = absurd (other v has refl)

  pub still_logs : AreLogs Since b.volume.began.owner held
  still_logs = all_map (Contains held) (λ (v : Held (Spun D)). (bs : List Block) → Since v bs → IsLog bs b.volume.began.owner v.records) (λ v has. still_log v has) held (each_member held)

  -- home is as it was
  pub home_holds : (home : List Block) → ImageSince state m.home m.home home → Holds b.volume.began.array (writes (entries_of notes)) m.next home (extents_held held) (is_homed_in m.index.entries)
  home_holds home image = whole_now.holds home (told, (sound m.home.inner).only_now home image)

  -- what holds with the records that the manager stands for holds with any
  pub stops_so : (of_home : List Block → Type 0) (lanes : List (Lane D)) (logs : Logs) (flight : List Write) (R : HeldSegment D → List Record → Type 0) → AllLanesHold R lanes logs
      → Recovers of_home Since b.volume.began.owner (all_held 0 lanes logs) (IsCut b.volume.began.array (writes (entries_of notes)) flight)
      → (before after : Logs) → AllLanesHold (λ h rs. ⊤) m.lanes.items before → AllLanesHold (λ h rs. ⊤) lanes after
      → StopsSafely of_home (HeldSince state (all_held 0 m.lanes.items before) claimed) b.volume.began (entries_of notes) (all_held 0 lanes after) flight
  stops_so of_home lanes logs flight R shape recovers before after was is home segments home_is choice =
      subst (λ (o : Option (List Write)). IsCut b.volume.began.array (writes (entries_of notes)) (unwrap_or o flight) (recovered b.volume.began.owner home segments)) (sym (unbroken tells state m b notes kp up))
      (recovers home segments home_is (rezip (HeldSince state (all_held 0 m.lanes.items before) claimed) Since so (all_held 0 lanes after) (all_held 0 lanes logs) segments (same_held (λ h rs. ⊤) R 0 lanes after logs is shape) choice))
    where
      olds : AllZip IsSameHeld (all_held 0 m.lanes.items before) held
      olds = same_held (λ h rs. ⊤) (λ h rs. IsTrue tells → m.down ≡ None → segment.Holds state h.segment rs) 0 m.lanes.items before kp.logs was kp.held

      so : (v w : Held (Spun D)) (bs : List Block) → IsSameHeld v w → HeldSince state (all_held 0 m.lanes.items before) claimed v bs → Since w bs
      so v w bs same (was_held o has place image) =
          let o' = same_member (all_held 0 m.lanes.items before) held o olds has in
          was_held o'.0 o'.1 (o'.2.1 ∙ place ∙ sym same.1) (subst (λ (p : Spun D). ImageSince state o'.0.part p bs) (sym same.0) (subst (λ (p : Spun D). ImageSince state p v.part bs) (sym o'.2.0) image))
      so v w bs same (was_free p is other image) = was_free p is
          (λ o has place. let o' = same_member held (all_held 0 m.lanes.items before) o (zip_back (all_held 0 m.lanes.items before) held olds) has in other o'.0 o'.1 (o'.2.1 ∙ place ∙ same.1))
          (subst (λ (q : Spun D). ImageSince state p q bs) (sym same.0) image)
