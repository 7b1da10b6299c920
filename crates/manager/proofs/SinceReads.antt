-- A call at any moment since an earlier one, after which there were reads alone: which images its parts may have, and what is left to
-- show where it stops.
use Rattle.std.proofs.Common.{◌≡◌, ℕ, Bool, List, [], ◌∷◌, ◌++◌, Option, None, Some, refl, sym, ap, subst, ◌∙◌}
use Rattle.std.specs.Prelude.{⊤, IsTrue, Contains}
use Rattle.std.specs.List.{AllByRecursion, AllZip}
use Rattle.wol_disk.specs.Disk.{State, Block, Values, IsDisk, IsImageOf, LeavesOnly}
use Rattle.wol_disk.proofs.Moments.{then_leaves, widened}
use Rattle.wol_model.specs.History.{writes, IsCut}
use Rattle.wol_model.specs.Log.{Record, IsLog}
use Rattle.spin_model.specs.Spun.{state_of}
use Rattle.spin_model.specs.declared.spun.Spun.{Spun}
use Rattle.log_segment.specs.Segment.{disk_of, part_of}
use Rattle.logger.specs.declared.lane.HeldSegment.{HeldSegment}
use Rattle.logger.specs.declared.lane.Lane.{Lane}
use Rattle.wol_promise.specs.Manager.{Held, Recovers}
use Rattle.wol_promise.specs.Ruled.{Noted, entries_of}
use Rattle.wol_promise.specs.Stands.{StopsSafely}
use Rattle.wol_promise.proofs.Choices.{AreLogs}
use Rattle.wol_promise.proofs.Lists.{all_parts, member_of, member_behind}
use Rattle.manager.specs.Reading.{IsReadThrough}
use Rattle.manager.specs.Seen.{Logs, AllLanesHold, all_held}
use Rattle.manager.specs.Stands.{Keeps, IsReady}
use Rattle.manager.specs.Stops.{ImageSince, HeldSince, was_held, was_free}
use Rattle.manager.specs.declared.base.ManagerBase.{ManagerBase}
use Rattle.manager.specs.declared.manager.Manager.{Manager}
use Rattle.volume_parts.proofs.Lanes.{held_as, same_place}
use Rattle.volume_parts.proofs.Held.{IsMoved}
use Rattle.manager.proofs.Moments.{stops_so}
use Rattle.manager.proofs.ReadStops.{moved, logs as logs_read}

-- the element in the place of one of the other list
partner : {X Y : Type 0} (R : X → Y → Type 0) (xs : List X) (front : List Y) (y : Y) (back : List Y) → AllZip R xs (front ++ y ∷ back) → (x : X) × Contains xs x × R x y
partner R [] [] y back zip = absurd zip
partner R [] (z ∷ front) y back zip = absurd zip
partner R (x ∷ xs) [] y back zip = (x, member_of (x ∷ xs) x 0 refl, zip.0)
partner R (x ∷ xs) (z ∷ front) y back zip = let rest = partner R xs front y back zip.1 in (rest.0, member_behind x xs rest.0 rest.1, rest.2)

-- home, which reads leave as it was
pub home_since : {D : Type 0} (state : D → State) (was m : Manager D) → IsReadThrough state was m → (home : List Block) → ImageSince state was.home m.home home → IsImageOf (state_of state m.home).values home
home_since state was m read home image = subst (λ (v : Option (List (Values Block))). IsImageOf v home) (sym read.home.values) (read.home.any_moment.each home image)

module _ {D : Type 0} (tells : Bool) (state : D → State) (sound : (d : D) → IsDisk (state d)) (told : IsTrue tells) (was m : Manager D) (read : IsReadThrough state was m) (ready : IsReady state m) (was_up : was.down ≡ None)
    (b : ManagerBase) (notes : List Noted) (kw : Keeps tells state was b notes) where
  abbrev olds : List (Held (Spun D))
  olds = all_held 0 was.lanes.items kw.logs

  abbrev pub HasLog : Held (Spun D) → Type 0
  HasLog v = (c : List Block) → HeldSince state olds None v c → IsLog c b.volume.began.owner v.records

  -- the segments around one
  pub logs_around : (front : List (Held (Spun D))) (v : Held (Spun D)) (back : List (Held (Spun D))) → all_held 0 m.lanes.items kw.logs ≡ front ++ v ∷ back → AllByRecursion HasLog front × AllByRecursion HasLog back
  logs_around front v back is = all_parts HasLog front v back (subst (AreLogs (HeldSince state olds None) b.volume.began.owner) is (logs_read tells state sound told was b notes kw m read ready was_up))

  -- a segment that is another one now
  pub image_since : (front : List (Held (Spun D))) (k : ℕ) (o n : HeldSegment D) (records : List Record) (back : List (Held (Spun D))) → all_held 0 m.lanes.items kw.logs ≡ front ++ held_as k o records ∷ back → n.index ≡ o.index
      → (P : List Block → Type 0) → ((c : List Block) → IsLog c b.volume.began.owner records → P c) → LeavesOnly (disk_of state o.segment) (disk_of state n.segment) P
      → (c : List Block) → HeldSince state olds None (held_as k n records) c → P c
  image_since front k o n records back is same_index P so leaves c (was_held x has place image) =
      let from = partner (IsMoved state b.volume.began.owner) olds front (held_as k o records) back (subst (AllZip (IsMoved state b.volume.began.owner) olds) is (moved tells state sound told was b notes kw m read ready was_up)) in
      let same_one : x ≡ from.0 = same_place olds x from.0 kw.upholds.places.apart has from.1 (place ∙ (λ j. (k, same_index j)) ∙ from.2.place) in
      (then_leaves {P = P} (widened from.2.leaves so) leaves (λ d l. l)).each c
      (subst (λ (q : Spun D). ImageSince state q (part_of n.segment) c) (ap (λ (v : Held (Spun D)). v.part) same_one) image)
  image_since front k o n records back is same_index P so leaves c (was_free q none other image) = absurd (let no : None ≡ Some q = none in cc)

  -- with these lanes it stops safely
  abbrev pub StopsHere : List (Lane D) → Type 0
  StopsHere lanes = (before after : Logs) → AllLanesHold (λ h rs. ⊤) was.lanes.items before → AllLanesHold (λ h rs. ⊤) lanes after
      → StopsSafely (ImageSince state was.home m.home) (HeldSince state (all_held 0 was.lanes.items before) None) b.volume.began (entries_of notes) (all_held 0 lanes after) []

  -- with these segments left it does so where a cut is recovered of them
  pub stops_with : (lanes : List (Lane D)) (lists : Logs) → AllLanesHold (λ h rs. ⊤) lanes lists → (left : List (Held (Spun D))) → all_held 0 lanes lists ≡ left
      → Recovers (ImageSince state was.home m.home) (HeldSince state olds None) b.volume.began.owner left (IsCut b.volume.began.array (writes (entries_of notes)) [])
      → StopsHere lanes
  stops_with lanes lists all left is recovers = stops_so tells state sound told was b notes kw was_up None (ImageSince state was.home m.home) lanes lists [] (λ h rs. ⊤) all
      (subst (λ (l : List (Held (Spun D))). Recovers (ImageSince state was.home m.home) (HeldSince state olds None) b.volume.began.owner l (IsCut b.volume.began.array (writes (entries_of notes)) [])) (sym is) recovers)
