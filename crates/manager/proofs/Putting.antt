-- What is known of a manager that is up when a write is put into one of its lanes.
use Rattle.std.proofs.Common.{◌≡◌, ℕ, true, sym, subst, ◌∙◌, List, ◌∷◌, ◌++◌, Bool, Option, None, Some, ap}
use Rattle.std.specs.Prelude.{⊤, Contains, slice_get, slice_set, IsTrue}
use Rattle.std.specs.Option.{option_map}
use Rattle.std.proofs.lemmas.Option.{slice_get-map}
use Rattle.wol_disk.specs.Disk.{State}
use Rattle.wol_model.specs.Blocks.{Write}
use Rattle.wol_model.specs.History.{writes, flight_of}
use Rattle.wol_model.specs.Index.{Indexed}
use Rattle.wol_model.specs.Extents.{IsValid}
use Rattle.wol_model.specs.Log.{Record, extent_of}
use Rattle.spin_model.specs.declared.spun.Spun.{Spun}
use Rattle.log_segment.specs.Segment.{Holds, IsBroken, part_of}
use Rattle.wol_promise.specs.Manager.{Parts, Base, Held, ManagerSeen, AreInUse}
use Rattle.wol_promise.specs.Ruled.{Noted, entries_of}
use Rattle.wol_promise.specs.Stands.{Upholds}
use Rattle.logger.specs.Lanes.{logger_of, lane_owner, held_in, taken_in}
use Rattle.logger.specs.declared.lane.HeldSegment.{HeldSegment}
use Rattle.logger.specs.declared.lane.Lane.{Lane}
use Rattle.manager.specs.Seen.{Logs, AllLanesHold, parts_of, seen, all_held, all_taken, name_of, down_of}
use Rattle.manager.specs.Stands.{Keeps, IsReadyLane}
use Rattle.manager.specs.declared.base.ManagerBase.{ManagerBase}
use Rattle.manager.specs.declared.manager.Manager.{Manager}
use Rattle.manager.specs.declared.part.Part.{Part}
use Rattle.volume_parts.proofs.Elements.{all_at}
use Rattle.volume_parts.proofs.Lanes.{held_as, lanes_map, untaken_set, InLanes}

module _ {D : Type 0} (tells : Bool) (state : D → State) (m : Manager D) (b : ManagerBase) (notes : List Noted) (kp : Keeps tells state m b notes) where
  abbrev pub parts : Parts (Spun D)
  parts = parts_of tells state

  abbrev pub base : Base
  base = b.volume.began

  abbrev pub ws : List Write
  ws = writes (entries_of notes)

  module _ (up : m.down ≡ None) where
    pub is_up : down_of m.down ≡ None
    is_up = ap down_of up

  module _ (k : ℕ) (old : Lane D) (lane : slice_get m.lanes.items k ≡ Some old) where
    pub old_lane : IsReadyLane state m.id m.most old
    old_lane = all_at (IsReadyLane state m.id m.most) m.lanes.items k old lane kp.ready.ready.each

    pub owner : lane_owner old ≡ base.owner
    owner = old_lane.owner ∙ kp.locks.owner

    pub logger : slice_get base.view k ≡ Some (logger_of old)
    logger = ap (λ (l : List ℕ). slice_get l k) (sym kp.locks.view) ∙ slice_get-map logger_of m.lanes.items k ∙ ap (option_map logger_of) lane

-- What a manager keeps up with an entry more, when its lanes, the entries of its index, its next version, flags and part at fault are these:
-- all but what holds between its calls whatever the entries are.
pub record Pieces {D : Type 0} (tells : Bool) (state : D → State) (m : Manager D) (b : ManagerBase) (notes : List Noted) (lanes : List (Lane D)) (indexed : List Indexed) (next : ℕ) (ups : List Bool) (down : Option Part) : Type 0 where
  pub logs : Logs
  pub held : AllLanesHold (λ h rs. IsTrue tells → down ≡ None → Holds state h.segment rs) lanes logs
  pub upholds : Upholds (parts_of tells state) b.volume.began (record { home = m.home; held = all_held 0 lanes logs; taken = all_taken 0 lanes; indexed = indexed; next = next; home_up = m.home_up; ups = ups; down = down_of down }) notes (writes (entries_of notes)) (flight_of (entries_of notes))
  pub in_use : IsTrue tells → down ≡ None → AreInUse (all_held 0 lanes logs)

-- it has a valid record
abbrev pub HasValid : {P : Type 0} → Held P → Type 0
HasValid v = (q : Record) × Contains v.records q × IsValid (extent_of q).cover

-- What is left where a lane took records: which segments the lanes hold then, the entries of the index and the next version.
pub pieces_more : {D : Type 0} (tells : Bool) (state : D → State) (m : Manager D) (b : ManagerBase) (notes then_ : List Noted) (kp : Keeps tells state m b notes) (k : ℕ) (new : Lane D) → taken_in new ≡ None
    → (logs : Logs) (held : List (Held (Spun D))) (es indexed : List Indexed) → es ≡ indexed → (next_ next : ℕ) → next_ ≡ next → (ups : List Bool)
    → AllLanesHold (λ h rs. IsTrue tells → m.down ≡ None → Holds state h.segment rs) (slice_set m.lanes.items k new) logs → all_held 0 (slice_set m.lanes.items k new) logs ≡ held
    → Upholds (parts_of tells state) b.volume.began (record { home = m.home; held = held; taken = all_taken 0 m.lanes.items; indexed = indexed; next = next_; home_up = m.home_up; ups = ups; down = down_of m.down }) then_ (writes (entries_of then_)) (flight_of (entries_of then_))
    → (IsTrue tells → m.down ≡ None → AreInUse held) → Pieces tells state m b then_ (slice_set m.lanes.items k new) es next ups m.down
pieces_more {D} tells state m b notes then_ kp k new untaken logs held es indexed indexed_is next_ next next_is ups holds held_is upheld in_use = record {
  logs = logs;
  held = holds;
  upholds = subst (λ (q : ManagerSeen (Spun D)). Upholds (parts_of tells state) b.volume.began q then_ (writes (entries_of then_)) (flight_of (entries_of then_)))
      (λ t. record { home = m.home; held = sym held_is t; taken = untaken_set state m.id m.most m.lanes.items k new kp.ready.ready.each untaken t; indexed = sym indexed_is t; next = next_is t; home_up = m.home_up; ups = ups; down = down_of m.down }) upheld;
  in_use = λ told is. subst AreInUse (sym held_is) (in_use told is);
}

-- What is left where a call of a part failed: which segments the lanes hold then, and the part.
pub pieces_failed : {D : Type 0} (tells : Bool) (state : D → State) (m : Manager D) (b : ManagerBase) (notes then_ : List Noted) (kp : Keeps tells state m b notes) (k : ℕ) (new : Lane D) → taken_in new ≡ None
    → (logs : Logs) (held : List (Held (Spun D))) (ups : List Bool) (p : Part) → AllLanesHold (λ h rs. ⊤) (slice_set m.lanes.items k new) logs → all_held 0 (slice_set m.lanes.items k new) logs ≡ held
    → Upholds (parts_of tells state) b.volume.began (record (seen m kp.logs) { held = held; ups = ups; down = Some (name_of p) }) then_ (writes (entries_of then_)) (flight_of (entries_of then_))
    → Pieces tells state m b then_ (slice_set m.lanes.items k new) m.index.entries m.next ups (Some p)
pieces_failed {D} tells state m b notes then_ kp k new untaken logs held ups p shape held_is upheld = record {
  logs = logs;
  held = lanes_map (λ h rs. ⊤) (λ h rs. IsTrue tells → Some p ≡ None → Holds state h.segment rs) (λ h rs any told is. absurd (let no : Some p ≡ None = is in cc)) (slice_set m.lanes.items k new) logs shape;
  upholds = subst (λ (q : ManagerSeen (Spun D)). Upholds (parts_of tells state) b.volume.began q then_ (writes (entries_of then_)) (flight_of (entries_of then_)))
      (λ t. record { home = m.home; held = sym held_is t; taken = untaken_set state m.id m.most m.lanes.items k new kp.ready.ready.each untaken t; indexed = m.index.entries; next = m.next; home_up = m.home_up; ups = ups; down = Some (name_of p) }) upheld;
  in_use = λ told is. absurd (let no : Some p ≡ None = is in cc);
}

-- So it is where a held segment is another one then, with the same records, and broken.
pub segment_failed : {D : Type 0} (tells : Bool) (state : D → State) (m : Manager D) (b : ManagerBase) (notes then_ : List Noted) (kp : Keeps tells state m b notes) (k : ℕ) (old new : Lane D) → taken_in new ≡ None
    → (i : ℕ) (o n : HeldSegment D) (R : HeldSegment D → List Record → Type 0) (split : InLanes R k 0 m.lanes.items kp.logs k i old o) → held_in new ≡ slice_set (held_in old) i n → n.index ≡ o.index → IsBroken n.segment → (ups : List Bool) (p : Part)
    → Upholds (parts_of tells state) b.volume.began (record (seen m kp.logs) { held = split.front ++ record (held_as k o split.records) { part = part_of n.segment; broken = true } ∷ split.back; ups = ups; down = Some (name_of p) }) then_ (writes (entries_of then_)) (flight_of (entries_of then_))
    → Pieces tells state m b then_ (slice_set m.lanes.items k new) m.index.entries m.next ups (Some p)
segment_failed tells state m b notes then_ kp k old new untaken i o n R split held index broken ups p upheld =
    pieces_failed tells state m b notes then_ kp k new untaken (split.lists split.records) (split.front ++ record (held_as k o split.records) { part = part_of n.segment; broken = true } ∷ split.back) ups p
    (split.then_all (λ h rs. ⊤) (λ h rs holds. tt) new n split.records held tt)
    (split.then_is new n split.records held ∙ (λ t. split.front ++ record { part = part_of n.segment; lane = k; index = index t; broken = broken t; records = split.records } ∷ split.back)) upheld
