-- A read that is stopped at any moment leaves what was acknowledged.
use Rattle.std.proofs.Common.{◌≡◌, Bool, true, false, List, [], ◌∷◌, Option, None, Some, refl, sym, ap, subst, ◌∙◌}
use Rattle.std.specs.Prelude.{⊤, IsTrue, Contains, unwrap_or, is_some}
use Rattle.std.specs.List.{AllByRecursion, AllZip}
use Rattle.wol_disk.specs.Disk.{State, Block, IsDisk, IsImageOf}
use Rattle.wol_model.specs.Blocks.{Write}
use Rattle.wol_model.specs.Extents.{Extent}
use Rattle.wol_model.specs.History.{writes, flight_of, IsCut}
use Rattle.wol_model.specs.Holding.{Holds as HoldsArray}
use Rattle.wol_model.specs.Log.{IsLog}
use Rattle.wol_promise.specs.Manager.{Held, Recovers, extents_held, is_homed_in}
use Rattle.wol_promise.specs.Ruled.{Noted, entries_of}
use Rattle.wol_promise.proofs.Choices.{AreLogs}
use Rattle.wol_promise.proofs.Lists.{all_map}
use Rattle.wol_promise.proofs.Stops.{still_stops}
use Rattle.spin_model.specs.Spun.{state_of}
use Rattle.spin_model.specs.declared.spun.Spun.{Spun}
use Rattle.log_segment.specs.Segment.{Holds, owner_of}
use Rattle.logger.specs.Lanes.{held_in, logger_of, lane_owner, segments_in, pool_of, IsHeld}
use Rattle.logger.specs.declared.lane.HeldSegment.{HeldSegment}
use Rattle.logger.specs.declared.lane.Lane.{Lane}
use Rattle.manager.specs.Reading.{IsReadThrough, LaneRead}
use Rattle.manager.specs.Seen.{all_held, parts_of, down_of}
use Rattle.manager.specs.Stands.{Keeps, IsReady, IsReadyLane}
use Rattle.manager.specs.Stops.{ImageSince, HeldSince, was_held, was_free, Stops}
use Rattle.manager.specs.declared.base.ManagerBase.{ManagerBase}
use Rattle.manager.specs.declared.manager.Manager.{Manager}
use Rattle.manager.specs.declared.part.Part.{Part}
use Rattle.volume_parts.proofs.Held.{IsSameHeld, same_held, same_member, rezip, each_member, IsMoved, moved_lanes, moved_extents}
use Rattle.volume_parts.proofs.Lanes.{same_place}
use Rattle.manager.proofs.Moments.{stops_so, whole_now}
use Rattle.manager.proofs.ReadKeeps.{held_read}
use Rattle.volume_parts.proofs.Elements.{zip_all}

-- ---- the call

module _ {D : Type 0} (tells : Bool) (state : D → State) (sound : (d : D) → IsDisk (state d)) (told : IsTrue tells) (old : Manager D) (b : ManagerBase) (notes : List Noted) (k : Keeps tells state old b notes) where
  abbrev pub held : List (Held (Spun D))
  held = all_held 0 old.lanes.items k.logs

  -- these lanes are those of before, which were read
  module _ (lanes : List (Lane D)) (lanes_read : AllZip (LaneRead state) old.lanes.items lanes) (up : old.down ≡ None) where
    abbrev held_by : List (Held (Spun D))
    held_by = all_held 0 lanes k.logs

    pub moved_by : AllZip (IsMoved state b.volume.began.owner) held held_by
    moved_by = moved_lanes state tells b.volume.began.owner (old.down ≡ None) told up 0 old.lanes.items lanes k.logs lanes_read
        (all_map (IsReadyLane state old.id old.most) (λ (l : Lane D). AllByRecursion (λ (h : HeldSegment D). owner_of h.segment ≡ b.volume.began.owner) (held_in l))
        (λ l is. all_map (IsHeld state (logger_of l) (lane_owner l) (segments_in l) (pool_of l)) (λ (h : HeldSegment D). owner_of h.segment ≡ b.volume.began.owner) (λ h held. held.owned ∙ is.owner ∙ k.locks.owner) (held_in l) is.lane.each) old.lanes.items k.ready.ready.each) k.held

    pub logs_by : AreLogs (HeldSince state held None) b.volume.began.owner held_by
    logs_by = zip_all (IsMoved state b.volume.began.owner) (Contains held) (λ (t : Held (Spun D)). (bs : List Block) → HeldSince state held None t bs → IsLog bs b.volume.began.owner t.records) of_moved held held_by moved_by (each_member held)
      where
        of_moved : (s t : Held (Spun D)) → IsMoved state b.volume.began.owner s t → Contains held s → (bs : List Block) → HeldSince state held None t bs → IsLog bs b.volume.began.owner t.records
        of_moved s t is has bs (was_held o was same image) = is.leaves.each bs
            (subst (λ (p : Spun D). ImageSince state p t.part bs) (ap (λ (w : Held (Spun D)). w.part) (same_place held o s k.upholds.places.apart was has (same ∙ is.place))) image)
        of_moved s t is has bs (was_free p none other image) = absurd (let no : None ≡ Some p = none in cc)

  module _ (new : Manager D) (read : IsReadThrough state old new) (ready : IsReady state new) (up : old.down ≡ None) where
    abbrev pub held' : List (Held (Spun D))
    held' = all_held 0 new.lanes.items k.logs

    pub moved : AllZip (IsMoved state b.volume.began.owner) held held'
    moved = moved_by new.lanes.items read.lanes up

    pub logs : AreLogs (HeldSince state held None) b.volume.began.owner held'
    logs = logs_by new.lanes.items read.lanes up

    home_kept : (home : List Block) → ImageSince state old.home new.home home → HoldsArray b.volume.began.array (writes (entries_of notes)) old.next home (extents_held held') (is_homed_in old.index.entries)
    home_kept home image = subst (λ (rs : List Extent). HoldsArray b.volume.began.array (writes (entries_of notes)) old.next home rs (is_homed_in old.index.entries)) (sym (moved_extents state b.volume.began.owner held held' moved))
        ((whole_now tells state sound told old b notes k up None).holds home (told, read.home.any_moment.each home image))

    pub stops_read : Stops state old new None b notes []
    stops_read = stops_so tells state sound told old b notes k up None (ImageSince state old.home new.home) new.lanes.items k.logs []
        (λ h rs. IsTrue tells → new.down ≡ None → Holds state h.segment rs) (held_read tells state old new b notes read ready up k)
        (still_stops (ImageSince state old.home new.home) (HeldSince state held None) b.volume.began.owner b.volume.began.array (writes (entries_of notes)) old.next (is_homed_in old.index.entries) held' [] logs home_kept)

-- ---- a refused call of a manager that is down

image_now : {D : Type 0} (state : D → State) (sound : (d : D) → IsDisk (state d)) (p q : Spun D) (bs : List Block) → p ≡ q → ImageSince state p q bs → IsImageOf (state_of state q).values bs
image_now {D = D} state sound p q bs same image = (sound q.inner).only_now bs (subst (λ (o : Spun D). ImageSince state o q bs) same image)

zip_with : {X Y : Type 0} (P : X → Type 0) (R S : X → Y → Type 0) → ((x : X) (y : Y) → P x → R x y → S x y) → (xs : List X) (ys : List Y) → AllByRecursion P xs → AllZip R xs ys → AllZip S xs ys
zip_with P R S so [] [] all zip = tt
zip_with P R S so [] (y ∷ ys) all zip = absurd zip
zip_with P R S so (x ∷ xs) [] all zip = absurd zip
zip_with P R S so (x ∷ xs) (y ∷ ys) all zip = (so x y all.0 zip.0, zip_with P R S so xs ys all.1 zip.1)

module _ {D : Type 0} (tells : Bool) (state : D → State) (sound : (d : D) → IsDisk (state d)) (told : IsTrue tells) (m : Manager D) (b : ManagerBase) (notes : List Noted) (k : Keeps tells state m b notes) (p : Part) (down : m.down ≡ Some p) where
  abbrev at_rest : List (Held (Spun D))
  at_rest = all_held 0 m.lanes.items k.logs

  abbrev Begun : Held (Spun D) → List Block → Type 0
  Begun = HeldSince state at_rest None

  cut_now : (o : Option (List Write)) → flight_of (entries_of notes) ≡ o → is_some (down_of m.down) ≡ is_some o → Recovers (ImageSince state m.home m.home) Begun b.volume.began.owner at_rest (IsCut b.volume.began.array (writes (entries_of notes)) (unwrap_or o []))
  cut_now None flight same home segments is choice = absurd (let no : true ≡ false = ap (λ (d : Option Part). is_some (down_of d)) (sym down) ∙ same in cc)
  cut_now (Some fl) flight same home segments is choice = k.upholds.cut told fl flight home segments (told, (sound m.home.inner).only_now home is)
      (zip_with (Contains at_rest) Begun (λ s bs. (parts_of tells state).may_be s.part bs) each at_rest segments (each_member at_rest) choice)
    where
      each : (s : Held (Spun D)) (bs : List Block) → Contains at_rest s → Begun s bs → (parts_of tells state).may_be s.part bs
      each s bs has (was_held o was same image) = (told, image_now state sound o.part s.part bs (ap (λ (w : Held (Spun D)). w.part) (same_place at_rest o s k.upholds.places.apart was has same)) image)
      each s bs has (was_free q none other image) = absurd (let no : None ≡ Some q = none in cc)

  pub stops_down : Stops state m m None b notes []
  stops_down before after was is home segments home_is choice =
      cut_now (flight_of (entries_of notes)) refl k.upholds.is_down home segments home_is
      (rezip (HeldSince state (all_held 0 m.lanes.items before) None) Begun so (all_held 0 m.lanes.items after) at_rest segments
      (same_held (λ h rs. ⊤) (λ h rs. IsTrue tells → m.down ≡ None → Holds state h.segment rs) 0 m.lanes.items after k.logs is k.held) choice)
    where
      so : (v w : Held (Spun D)) (bs : List Block) → IsSameHeld v w → HeldSince state (all_held 0 m.lanes.items before) None v bs → Begun w bs
      so v w bs same (was_held o has place image) =
          let o' = same_member (all_held 0 m.lanes.items before) at_rest o (same_held (λ h rs. ⊤) (λ h rs. IsTrue tells → m.down ≡ None → Holds state h.segment rs) 0 m.lanes.items before k.logs was k.held) has in
          was_held o'.0 o'.1 (o'.2.1 ∙ place ∙ sym same.1) (subst (λ (q : Spun D). ImageSince state o'.0.part q bs) (sym same.0) (subst (λ (q : Spun D). ImageSince state q v.part bs) (sym o'.2.0) image))
      so v w bs same (was_free q none other image) = absurd (let no : None ≡ Some q = none in cc)
