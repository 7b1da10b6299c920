-- A segment is given up with all its records, all of whose kept blocks may go: what the manager upholds then, and what holds of it between its calls.
use Rattle.std.proofs.Common.{◌≡◌, ◌≢◌, ⊎_elim, ℕ, Bool, true, false, not, ◌&&◌, List, [], ◌∷◌, ◌++◌, map, None, refl, sym, ap, subst, ◌∙◌, eqb, Some, arith, ◌<◌, length}
use Rattle.std.specs.Prelude.{Contains, filter, IsTrue, slice_get, slice_set, remove}
use Rattle.std.specs.List.{AllByRecursion}
use Rattle.std.proofs.lemmas.Bool.{false≢true, eqb-true}
use Rattle.wol_disk.specs.Disk.{State}
use Rattle.wol_model.specs.History.{writes, flight_of}
use Rattle.wol_model.specs.Index.{Indexed}
use Rattle.wol_model.specs.Log.{Record, extent_of}
use Rattle.spin_model.specs.declared.spun.Spun.{Spun}
use Rattle.wol_promise.specs.Manager.{Held, IsEntryOf, ManagerSeen, AreInUse}
use Rattle.wol_promise.specs.Ruled.{Noted, entries_of}
use Rattle.wol_promise.specs.Stands.{Upholds, IsPlaced, AreApartPlaces, place_in}
use Rattle.wol_promise.proofs.Lists.{all_map, all_member, member_front, member_map, member_mid, all_front, all_back, all_joined}
use Rattle.wol_promise.proofs.Retires.{member_without}
use Rattle.wol_promise.proofs.Wholes.{all_filtered, retires_whole}
use Rattle.logger.specs.declared.lane.HeldSegment.{HeldSegment}
use Rattle.manager.specs.Reclaim.{AllGoIn, lies_elsewhere}
use Rattle.manager.specs.Seen.{Logs, parts_of, seen, all_held, down_of, all_taken}
use Rattle.manager.specs.declared.base.ManagerBase.{ManagerBase}
use Rattle.manager.specs.declared.manager.Manager.{Manager}
use Rattle.volume_parts.proofs.Entries.{lies_there, is_false, both_hold, counts_elsewhere}
use Rattle.volume_parts.proofs.Lanes.{held_as, InLanes, in_lanes, untaken_set, ready_set}
use Rattle.std.proofs.Math.ListN.{length-set}
use Rattle.wol_model.specs.Extents.{IsValid}
use Rattle.log_segment.specs.Segment.{Holds}
use Rattle.logger.specs.Lanes.{held_in, taken_in, IsLane, HoldsAll, IsSameLane}
use Rattle.logger.specs.declared.lane.Lane.{Lane}
use Rattle.wol_promise.proofs.Kept.{other_flags}
use Rattle.manager.specs.Stands.{Keeps, IsReady, IsUp, IsPlacedIn, IsInVolume}
use Rattle.manager.proofs.GoneSegment.{up_without}
use Rattle.manager.proofs.Putting.{Pieces}
use Rattle.manager.proofs.ReadContent.{unbroken, upholds_up}
use Rattle.std.specs.Vec.{with_item}
use Rattle.spin_model.specs.Spun.{state_of}
use Rattle.redirect_map.specs.Index.{Contents}
pub use Rattle.volume_parts.proofs.Entries.{covered_where}

-- ---- places

apart_from : {P : Type 0} (front : List (Held P)) (t : Held P) (back : List (Held P)) (v : Held P) → AreApartPlaces (map place_in (front ++ t ∷ back)) → Contains (front ++ back) v → place_in v ≡ place_in t → ⊥
apart_from [] t back v apart has same = all_member (λ (q : ℕ × ℕ). place_in t ≢ q) (map place_in back) (place_in v) apart.0 (member_map place_in back v has) (sym same)
apart_from (x ∷ front) t back v apart has same = ⊎_elim
    (λ (here : x ≡ v). all_member (λ (q : ℕ × ℕ). place_in x ≢ q) (map place_in (front ++ t ∷ back)) (place_in t) apart.0 (member_map place_in (front ++ t ∷ back) t (member_mid front t back)) (ap place_in here ∙ same))
    (λ there. apart_from front t back v apart.1 there same)
    (member_front x (front ++ back) v has)

-- ---- the promise

module _ {D : Type 0} (tells : Bool) (state : D → State) (m : Manager D) (b : ManagerBase) (notes : List Noted) (logs : Logs)
    (u : Upholds (parts_of tells state) b.volume.began (seen m logs) notes (writes (entries_of notes)) None) (up : m.down ≡ None)
    (k : ℕ) (o : HeldSegment D) (none : AllGoIn k o.index m.index.entries)
    (hf : List (Held (Spun D))) (records : List Record) (hb : List (Held (Spun D))) (held : all_held 0 m.lanes.items logs ≡ hf ++ held_as k o records ∷ hb) where
  abbrev s : Held (Spun D)
  s = held_as k o records

  abbrev Among : List (Held (Spun D)) → Indexed → Type 0
  Among l d = IsPlaced (parts_of tells state) l d

  moved : (d : Indexed) → lies_elsewhere k o.index d ≡ true → Among (hf ++ held_as k o records ∷ hb) d → Among (hf ++ hb) d
  moved d other is = ⊎_elim
      (λ has. record { segment = is.segment; is_held = has; lane = is.lane; index = is.index; behind = is.behind; within = is.within })
      (λ here. absurd (false≢true (sym (is_false (eqb d.listed.lane k && eqb d.index o.index) other)
      ∙ lies_there k o.index d (is.lane ∙ ap (λ (v : Held (Spun D)). v.lane) (sym here)) (is.index ∙ ap (λ (v : Held (Spun D)). v.index) (sym here)))))
      (member_without hf s hb is.segment is.is_held)

  elsewhere : AllByRecursion (IsPlaced (parts_of tells state) (hf ++ hb)) (filter (lies_elsewhere k o.index) m.index.entries)
  elsewhere = all_map (λ (d : Indexed). (lies_elsewhere k o.index d ≡ true) × Among (hf ++ held_as k o records ∷ hb) d) (Among (hf ++ hb)) (λ d is. moved d is.0 is.1) (filter (lies_elsewhere k o.index) m.index.entries)
      (all_filtered (Among (hf ++ held_as k o records ∷ hb)) (lies_elsewhere k o.index) m.index.entries (subst (λ (l : List (Held (Spun D))). AllByRecursion (Among l) m.index.entries) held (u.calm refl).placed))

  others_stay : (v : Held (Spun D)) (j : ℕ) (q : Record) (d : Indexed) → Contains (hf ++ hb) v → IsEntryOf v j q d → lies_elsewhere k o.index d ≡ true
  others_stay v j q d has its = at (eqb d.listed.lane k && eqb d.index o.index) refl
    where
      at : (t : Bool) → (eqb d.listed.lane k && eqb d.index o.index) ≡ t → lies_elsewhere k o.index d ≡ true
      at false is = ap not is
      at true is =
          let parts = both_hold (eqb d.listed.lane k) (eqb d.index o.index) is in
          let lane = eqb-true d.listed.lane k parts.0 in let index = eqb-true d.index o.index parts.1 in
          absurd (apart_from hf s hb v (subst (λ (l : List (Held (Spun D))). AreApartPlaces (map place_in l)) held u.places.apart) has (λ i. ((sym its.lane ∙ lane) i, (sym its.index ∙ index) i)))

  -- it upholds the same without the segment
  pub upheld : Upholds (parts_of tells state) b.volume.began (record (seen m logs) { held = hf ++ hb; indexed = filter (lies_elsewhere k o.index) m.index.entries }) notes (writes (entries_of notes)) None
  upheld = retires_whole (parts_of tells state) b.volume.began (seen m logs) notes (writes (entries_of notes)) hf s hb u (ap down_of up) held (lies_elsewhere k o.index) elsewhere others_stay
      (λ j q d its. ap not (lies_there k o.index d its.lane its.index)) none

module _ {D : Type 0} (tells : Bool) (state : D → State) (m : Manager D) (b : ManagerBase) (notes : List Noted) (kp : Keeps tells state m b notes) (up : m.down ≡ None)
    (k : ℕ) (old new : Lane D) (lane : slice_get m.lanes.items k ≡ Some old) (untaken : taken_in new ≡ None)
    (i : ℕ) (o : HeldSegment D) (there : slice_get (held_in old) i ≡ Some o) (none : AllGoIn k o.index m.index.entries) (held : held_in new ≡ remove (held_in old) i) where
  abbrev R : HeldSegment D → List Record → Type 0
  R h rs = IsTrue tells → m.down ≡ None → Holds state h.segment rs

  less : InLanes R k 0 m.lanes.items kp.logs k i old o
  less = in_lanes R k 0 m.lanes.items kp.logs k i old o (omega arith) lane there kp.held

  upheld_less : Upholds (parts_of tells state) b.volume.began (record (seen m kp.logs) { held = less.front ++ less.back; indexed = filter (lies_elsewhere k o.index) m.index.entries }) notes (writes (entries_of notes)) None
  upheld_less = upheld tells state m b notes kp.logs (upholds_up tells state m b notes kp up) up k o none less.front less.records less.back less.is

  held_less : all_held 0 (slice_set m.lanes.items k new) less.rest ≡ less.front ++ less.back
  held_less = less.rest_is new held

  abbrev Used : Held (Spun D) → Type 0
  Used v = (q : Record) × Contains v.records q × IsValid (extent_of q).cover

  pub leaves : Pieces tells state m b notes (slice_set m.lanes.items k new) (filter (lies_elsewhere k o.index) m.index.entries) m.next (slice_set m.ups.items k true) m.down
  leaves = record {
    logs = less.rest;
    held = less.rest_all R (λ h rs holds. holds) new held;
    upholds = subst (λ (q : ManagerSeen (Spun D)). Upholds (parts_of tells state) b.volume.began q notes (writes (entries_of notes)) (flight_of (entries_of notes))) seen_is
        (subst (Upholds (parts_of tells state) b.volume.began (record (seen m kp.logs) { held = less.front ++ less.back; indexed = filter (lies_elsewhere k o.index) m.index.entries; ups = slice_set m.ups.items k true }) notes (writes (entries_of notes))) (sym (unbroken tells state m b notes kp up))
        (other_flags (parts_of tells state) b.volume.began (record (seen m kp.logs) { held = less.front ++ less.back; indexed = filter (lies_elsewhere k o.index) m.index.entries }) m.home_up (slice_set m.ups.items k true) notes (writes (entries_of notes)) None upheld_less (length-set m.ups.items k true)));
    in_use = λ told is. subst AreInUse (sym held_less) (let all = subst AreInUse less.is (kp.in_use told up) in
        all_joined Used less.front less.back (all_front Used less.front (held_as k o less.records ∷ less.back) all) (all_back Used less.front (held_as k o less.records ∷ less.back) all).1);
  }
    where
      seen_is : record (seen m kp.logs) { held = less.front ++ less.back; indexed = filter (lies_elsewhere k o.index) m.index.entries; ups = slice_set m.ups.items k true }
          ≡ record { home = m.home; held = all_held 0 (slice_set m.lanes.items k new) less.rest; taken = all_taken 0 (slice_set m.lanes.items k new); indexed = filter (lies_elsewhere k o.index) m.index.entries; next = m.next; home_up = m.home_up; ups = slice_set m.ups.items k true; down = down_of m.down }
      seen_is = λ j. record { home = m.home; held = sym held_less j; taken = untaken_set state m.id m.most m.lanes.items k new kp.ready.ready.each untaken j; indexed = filter (lies_elsewhere k o.index) m.index.entries; next = m.next; home_up = m.home_up; ups = slice_set m.ups.items k true; down = down_of m.down }

module _ {D : Type 0} (state : D → State) (m : Manager D) (ready : IsReady state m) (up : m.down ≡ None) (k : ℕ) (old new : Lane D) (lane : slice_get m.lanes.items k ≡ Some old)
    (is_lane : IsLane state new) (same : IsSameLane old new) (all : HoldsAll old → HoldsAll new) (untaken : taken_in new ≡ None)
    (i : ℕ) (o : HeldSegment D) (there : slice_get (held_in old) i ≡ Some o) (held : held_in new ≡ remove (held_in old) i) where
  abbrev left : List Indexed
  left = filter (lies_elsewhere k o.index) m.index.entries

  -- what is so of each entry is so of those that are left
  left_all : (P : Indexed → Type 0) → AllByRecursion P m.index.entries → AllByRecursion P (filter (lies_elsewhere k o.index) m.index.entries)
  left_all P each = all_map (λ (d : Indexed). (lies_elsewhere k o.index d ≡ true) × P d) P (λ d is. is.1) left (all_filtered P (lies_elsewhere k o.index) m.index.entries each)

  up_less : IsUp (slice_set m.lanes.items k new) (filter (lies_elsewhere k o.index) m.index.entries)
  up_less = up_without state m ready up k old new lane i o there held left (counts_elsewhere k o.index m.index.entries) (left_all (IsPlacedIn m.lanes.items) (ready.up up).placed)
      (all_map (λ (d : Indexed). (lies_elsewhere k o.index d ≡ true) × IsPlacedIn m.lanes.items d) (λ (d : Indexed). (eqb d.listed.lane k && eqb d.index o.index) ≡ false)
      (λ d is. is_false (eqb d.listed.lane k && eqb d.index o.index) is.0) left (all_filtered (IsPlacedIn m.lanes.items) (lies_elsewhere k o.index) m.index.entries (ready.up up).placed))

  pub ready_less : (ups : List Bool) → ups ≡ slice_set m.ups.items k true → (index : Contents) → index.entries ≡ filter (lies_elsewhere k o.index) m.index.entries
      → IsReady state (record m { lanes = with_item m.lanes k new; index = index; ups = record { items = ups } })
  ready_less ups flags index entries = record {
    ready = ready_set state m.id m.most m.lanes.items k old new lane same ready.ready is_lane all untaken (ap length flags ∙ length-set m.ups.items k true);
    next = ready.next;
    below = subst (AllByRecursion (λ (d : Indexed). d.listed.version < m.next)) (sym entries) (left_all (λ (d : Indexed). d.listed.version < m.next) ready.below);
    ranges = subst (AllByRecursion (IsInVolume (state_of state m.home).size)) (sym entries) (left_all (IsInVolume (state_of state m.home).size) ready.ranges);
    up = λ none. subst (IsUp (slice_set m.lanes.items k new)) (sym entries) up_less;
  }
