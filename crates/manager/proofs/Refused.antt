-- A write before a pool is asked: the notes of rooms and the room of the index are all that may have changed.
use Rattle.std.proofs.Common.{◌≡◌, ℕ, zero, suc, Bool, true, false, List, [], ◌∷◌, ◌++◌, length, Option, None, Some, Result, Ok, Err, refl, sym, ap, subst, ◌∙◌, arith}
use Rattle.std.specs.Prelude.{IsTrue, OnOk, replicate, MatchBool}
use Rattle.std.specs.List.{AllByRecursion}
use Rattle.std.proofs.lemmas.Option.{slice_get_within}
use Rattle.wol_disk.specs.Disk.{State, IsDisk}
use Rattle.turn_lock.specs.Passes.{pass_mine}
use Rattle.log_segment.specs.Segment.{Holds}
use Rattle.wol_model.specs.History.{Kept, writes}
use Rattle.wol_promise.specs.Manager.{is_homed_in}
use Rattle.wol_promise.specs.Ruled.{Noted, last_look, entries_of}
use Rattle.wol_promise.proofs.Stops.{still_stops}
use Rattle.offload_policy.specs.declared.Room.{Room}
use Rattle.offload_policy.specs.declared.Room.TheVariants.{Unknown, Yes, No}
use Rattle.redirect_map.specs.Index.{Contents}
use Rattle.logger.specs.Lanes.{HasUsed, spindle_of}
use Rattle.logger.specs.declared.lane.Lane.{Lane}
use Rattle.manager.specs.Causes.{PartRoseOrClaimed, NoneRose}
use Rattle.manager.specs.Seen.{all_held, look_of_manager}
use Rattle.manager.specs.Stands.{Keeps, Stands, IsReady, IsNote, passed_in}
use Rattle.manager.specs.Stops.{ImageSince, HeldSince, Stops}
use Rattle.manager.specs.Writing.{HasAnswered, HaveAnswered, NeedsLogs, TellsFault, IsUntouched, takes_at}
use Rattle.manager.specs.declared.base.ManagerBase.{ManagerBase}
use Rattle.manager.specs.declared.manager.Manager.{Manager}
use Rattle.manager.specs.declared.part.Part.{Part}
use Rattle.manager.specs.declared.part.Place.{Place}
use Rattle.manager.specs.declared.part.WriteRefusal.{WriteRefusal}
use Rattle.manager.specs.declared.part.WriteRefusal.TheVariants.{Full, DiskFault, Down, VersionsSpent, NoMemory}
use Rattle.volume_parts.proofs.Elements.{get_inside, length_copies}
use Rattle.manager.proofs.Answered.{none_asked, passed_more}
use Rattle.manager.proofs.Frames.{ready_reframed, reframed, stands_kept}
use Rattle.manager.proofs.Moments.{still_logs, home_holds, stops_so}
use Rattle.manager.proofs.ReadStops.{stops_down}
use Rattle.wol_model.specs.Placing as placing
use Rattle.manager.specs.declared.part.Part.TheVariants as part

-- ---- Loggers' spindles

needs_of : {D : Type 0} (count : ℕ) (took : Bool) (r : Room) (o n : Lane D) → HasAnswered count took r o n → MatchBool took (HasUsed o n) (pass_mine (spindle_of n) ≡ pass_mine (spindle_of o))
needs_of count true r o n is = is.1.used
needs_of count false No o n is = is.spindle
needs_of {D} count false Unknown o n is = ap (λ (l : Lane D). pass_mine (spindle_of l)) is
needs_of count false Yes o n is = absurd is

-- what the lanes answered says which spindles were needed
pub needs_logs : {D : Type 0} (count : ℕ) (p : placing.Place) (r : Result Place WriteRefusal) (old new : Manager D) → HaveAnswered count (takes_at p r) new.rooms.items old.lanes.items new.lanes.items → NeedsLogs p r old new
needs_logs count p r old new all k o n is_o is_n =
    let room = get_inside new.rooms.items k (let lt = slice_get_within old.lanes.items k o is_o in let e = all.noted in omega arith) in
    needs_of count (takes_at p r k) room.0 o n (all.each k room.0 o n room.1 is_o is_n)

-- ---- Nothing is stopped

-- where nothing is written, whether or not a call failed before
pub stops_at_rest : {D : Type 0} (tells : Bool) (state : D → State) → ((d : D) → IsDisk (state d)) → IsTrue tells → (m : Manager D) (b : ManagerBase) (notes : List Noted) → Keeps tells state m b notes → Stops state m m None b notes []
stops_at_rest {D} tells state sound told m b notes k = at m.down refl
  where
    at : (o : Option Part) → m.down ≡ o → Stops state m m None b notes []
    at None up = stops_so tells state sound told m b notes k up None (ImageSince state m.home m.home) m.lanes.items k.logs [] (λ h rs. IsTrue tells → m.down ≡ None → Holds state h.segment rs) k.held
        (still_stops (ImageSince state m.home m.home) (HeldSince state (all_held 0 m.lanes.items k.logs) None) b.volume.began.owner b.volume.began.array (writes (entries_of notes)) m.next (is_homed_in m.index.entries) (all_held 0 m.lanes.items k.logs) []
        (still_logs tells state sound told m b notes k up None) (home_holds tells state sound told m b notes k up None))
    at (Some p) down = stops_down tells state sound told m b notes k p down

module _ {D : Type 0} (tells : Bool) (state : D → State) (old : Manager D) (rooms : List Room) (is : rooms ≡ replicate (length old.lanes.items) Unknown) (index : Contents) (entries : index.entries ≡ old.index.entries) where
  pub ready_then : IsReady state old → IsReady state (record old { rooms = record { items = rooms }; index = index })
  ready_then r = ready_reframed state old old.home_up old.ups.items rooms old.spindle index refl (ap length is ∙ (length_copies Unknown (length old.lanes.items) ∙ sym r.ready.rooms_)) (refl, refl) r.ready.spindle_free r.ready.settled r.ready.accesses entries r

  pub keeps_then : (b : ManagerBase) (notes : List Noted) → Keeps tells state old b notes → Keeps tells state (record old { rooms = record { items = rooms }; index = index }) b notes
  keeps_then b notes k = reframed tells state old b notes old.home_up old.ups.items rooms old.spindle index refl (refl, refl) entries (ready_then k.ready) k

  pub stands_refused : (b : ManagerBase) (notes : List Noted) (n : Noted) → IsNote (last_look b.volume.began.look notes) Kept (passed_in rooms) (look_of_manager (record old { rooms = record { items = rooms }; index = index })) n
      → Keeps tells state old b notes → Stands tells state (record old { rooms = record { items = rooms }; index = index }) b (notes ++ n ∷ [])
  stands_refused b notes n note k = stands_kept tells state (record old { rooms = record { items = rooms }; index = index }) b notes n (passed_in rooms) note
      (passed_more 0 (λ k. false) rooms old.lanes.items old.lanes.items (none_asked 0 rooms old.lanes.items is) b.lanes notes n k.locks.each note.passed_is k.passed) (keeps_then b notes k)

  pub untouched : IsUntouched old (record old { rooms = record { items = rooms }; index = index })
  untouched = record { rest = refl; index = entries; rooms = subst (AllByRecursion (λ (r : Room). r ≡ Unknown)) (sym is) (copies (length old.lanes.items)) }
    where
      copies : (n : ℕ) → AllByRecursion (λ (r : Room). r ≡ Unknown) (replicate n Unknown)
      copies zero = tt
      copies (suc n) = (refl, copies n)

  rose_then : (new : Manager D) (p : Part) → PartRoseOrClaimed state (record old { rooms = record { items = rooms }; index = index }) new p → PartRoseOrClaimed state old new p
  rose_then new (part.Home volume) rose = rose
  rose_then new (part.Segment logger i) rose = rose

  pub fault_then : (new : Manager D) (r : Result Place WriteRefusal) → TellsFault state r (record old { rooms = record { items = rooms }; index = index }) new → TellsFault state r old new
  fault_then new (Ok p) is_down = is_down
  fault_then new (Err (DiskFault p)) is_down = (is_down.0, rose_then new p is_down.1)
  fault_then new (Err Full) is_down = is_down
  fault_then new (Err (Down p)) is_down = is_down
  fault_then new (Err VersionsSpent) is_down = is_down
  fault_then new (Err NoMemory) is_down = is_down

  pub calm_then : (new : Manager D) (r : Result Place WriteRefusal) → OnOk r (NoneRose state (record old { rooms = record { items = rooms }; index = index }) new) → OnOk r (NoneRose state old new)
  calm_then new (Ok p) none = record { home = none.home; held = none.held }
  calm_then new (Err e) none = tt
