-- What a manager keeps up when its flags, its rooms, home's pass or the room of its index change, and with an entry more.
use Rattle.std.proofs.Common.{◌≡◌, ◌<◌, ◌≤◌, ◌+◌, ◌^◌, ℕ, Bool, true, false, List, [], ◌∷◌, ◌++◌, length, Option, None, cond, sym, ap, subst, ◌∙◌, arith}
use Rattle.std.specs.Prelude.{◌==◌}
use Rattle.std.specs.List.{list_any, AllByRecursion}
use Rattle.std.proofs.lemmas.List.Sums.{sum_by-append}
use Rattle.wol_disk.specs.Disk.{State}
use Rattle.turn_lock.specs.LockIds.{LockId}
use Rattle.turn_lock.specs.Passes.{pass_mine, pass_number, IsFree, IsSamePass}
use Rattle.turn_lock.specs.declared.pass.PassOf.{PassOf}
use Rattle.spin_model.specs.Operations.{has_token}
use Rattle.spin_model.specs.Spun.{state_of, volume_of}
use Rattle.spin_model.specs.declared.spindle.Spindle.{Spindle}
use Rattle.spin_model.specs.declared.spindle.SpindleBase.{SpindleBase}
use Rattle.spin_model.specs.declared.spun.Spun.{Spun}
use Rattle.wol_model.specs.History.{Kept, writes, flight_of}
use Rattle.wol_model.specs.Index.{Indexed}
use Rattle.wol_promise.specs.Ruled.{Noted, HasPassed, last_look, times_passed, entries_of}
use Rattle.wol_promise.specs.Stands.{Upholds}
use Rattle.wol_promise.proofs.Kept.{other_flags, kept_more}
use Rattle.wol_promise.proofs.OneMore.{last_more}
use Rattle.offload_policy.specs.declared.Room.{Room}
use Rattle.redirect_map.specs.Index.{Contents}
use Rattle.logger.specs.Lanes.{AreAccesses}
use Rattle.logger.proofs.Uses.{accesses_then}
use Rattle.manager.specs.Accesses.{HasUsedOnce}
use Rattle.manager.specs.Seen.{parts_of, seen, look_of_manager}
use Rattle.manager.specs.Stands.{Keeps, Stands, Ready, IsReady, IsUp, IsInVolume, IsNote, nones_at, AreStill}
use Rattle.manager.specs.declared.base.ManagerBase.{ManagerBase}
use Rattle.manager.specs.declared.manager.Manager.{Manager}
use Rattle.manager.specs.declared.part.Part.{Part}

-- ---- pools that were found empty

pub times_more : (k : ℕ) (notes : List Noted) (n : Noted) → times_passed k (notes ++ n ∷ []) ≡ times_passed k notes + cond (list_any (λ p. p == k) n.passed) 1 0
times_more k notes n = let e = sum_by-append (λ (m : Noted). cond (list_any (λ p. p == k) m.passed) 1 0) notes (n ∷ []) in omega (arith, e)

pub none_passed : (nones : ℕ → ℕ) (notes : List Noted) (n : Noted) → n.passed ≡ [] → HasPassed nones notes → HasPassed nones (notes ++ n ∷ [])
none_passed nones notes n is has k =
    let e = times_more k notes n in
    let z = ap (λ (ps : List ℕ). cond {A = ℕ} (list_any (λ p. p == k) ps) 1 0) is in
    omega (arith, e, z, has k)

-- ---- frames

-- a manager that is ready stays so with other flags, rooms, home's pass and room of the index
pub ready_reframed : {D : Type 0} (state : D → State) (m : Manager D) (home_up : Bool) (ups : List Bool) (rooms : List Room) (spindle : PassOf Spindle SpindleBase) (index : Contents)
    → length ups ≡ length m.ups.items → length rooms ≡ length m.rooms.items → IsSamePass m.spindle spindle → IsFree spindle → has_token (pass_mine spindle) ≡ false → AreAccesses (pass_mine spindle) → index.entries ≡ m.index.entries
    → IsReady state m → IsReady state (record m { home_up = home_up; ups = record { items = ups }; rooms = record { items = rooms }; spindle = spindle; index = index })
ready_reframed state m home_up ups rooms spindle index long wide pass free settled accesses entries r = record {
  ready = let s = r.ready in record {
    home_volume = s.home_volume;
    home_small = s.home_small;
    spindle_volume = ap (λ (l : LockId SpindleBase). l.base.volume) pass.0 ∙ s.spindle_volume;
    spindle_free = free;
    settled = settled;
    accesses = accesses;
    each = s.each;
    flags = long ∙ s.flags;
    rooms_ = wide ∙ s.rooms_;
    few = s.few;
    most_ = s.most_;
  };
  next = r.next;
  below = subst (AllByRecursion (λ (e : Indexed). e.listed.version < m.next)) (sym entries) r.below;
  ranges = subst (AllByRecursion (IsInVolume (state_of state m.home).size)) (sym entries) r.ranges;
  up = λ is. subst (IsUp m.lanes.items) (sym entries) (r.up is);
}

-- its locks, lanes and flags, with its home after a call
pub ready_used : {D : Type 0} (state : D → State) (m : Manager D) (part : Spun D) (spindle : PassOf Spindle SpindleBase) → volume_of part ≡ volume_of m.home → (state_of state part).size ≡ (state_of state m.home).size
    → IsSamePass m.spindle spindle → IsFree spindle → has_token (pass_mine spindle) ≡ false → HasUsedOnce m.spindle spindle → Ready state m.id m.most m.home m.spindle m.lanes.items m.ups.items m.rooms.items
    → Ready state m.id m.most part spindle m.lanes.items m.ups.items m.rooms.items
ready_used state m part spindle volume size pass free settled used s = record {
  home_volume = volume ∙ s.home_volume;
  home_small = subst (λ (n : ℕ). (1 ≤ n) × (n ≤ 2 ^ 32)) (sym size) s.home_small;
  spindle_volume = ap (λ (l : LockId SpindleBase). l.base.volume) pass.0 ∙ s.spindle_volume;
  spindle_free = free;
  settled = settled;
  accesses = accesses_then (pass_mine m.spindle) (pass_mine spindle) (pass_number m.spindle) used s.accesses;
  each = s.each;
  flags = s.flags;
  rooms_ = s.rooms_;
  few = s.few;
  most_ = s.most_;
}

-- and with its home after a call, whether or not the call failed
pub ready_homed : {D : Type 0} (state : D → State) (m : Manager D) (part : Spun D) (spindle : PassOf Spindle SpindleBase) (down : Option Part) → volume_of part ≡ volume_of m.home → (state_of state part).size ≡ (state_of state m.home).size
    → IsSamePass m.spindle spindle → IsFree spindle → has_token (pass_mine spindle) ≡ false → HasUsedOnce m.spindle spindle → m.down ≡ None → IsReady state m → IsReady state (record m { home = part; spindle = spindle; home_up = true; down = down })
ready_homed state m part spindle down volume size pass free settled used up r = record {
  ready = ready_used state m part spindle volume size pass free settled used r.ready;
  next = r.next;
  below = r.below;
  ranges = subst (λ (n : ℕ). AllByRecursion (IsInVolume n) m.index.entries) (sym size) r.ranges;
  up = λ _. r.up up;
}

module _ {D : Type 0} (tells : Bool) (state : D → State) (m : Manager D) (b : ManagerBase) (notes : List Noted) where
  -- other flags, rooms, home's pass and room of the index
  pub reframed : (home_up : Bool) (ups : List Bool) (rooms : List Room) (spindle : PassOf Spindle SpindleBase) (index : Contents)
      → length ups ≡ length m.ups.items → IsSamePass m.spindle spindle → index.entries ≡ m.index.entries
      → IsReady state (record m { home_up = home_up; ups = record { items = ups }; rooms = record { items = rooms }; spindle = spindle; index = index })
      → Keeps tells state m b notes
      → Keeps tells state (record m { home_up = home_up; ups = record { items = ups }; rooms = record { items = rooms }; spindle = spindle; index = index }) b notes
  reframed home_up ups rooms spindle index same pass entries ready k = record {
    logs = k.logs;
    held = k.held;
    upholds = subst (λ (es : List Indexed). Upholds (parts_of tells state) b.volume.began (record (seen m k.logs) { home_up = home_up; ups = ups; indexed = es }) notes (writes (entries_of notes)) (flight_of (entries_of notes)))
        (sym entries) (other_flags (parts_of tells state) b.volume.began (seen m k.logs) home_up ups notes (writes (entries_of notes)) (flight_of (entries_of notes)) k.upholds same);
    in_use = k.in_use;
    passed = k.passed;
    taken = k.taken;
    still = subst (AreStill b.volume.places b.volume.began.next) (sym entries) k.still;
    ready = ready;
    locks = let l = k.locks in record { pass = pass.0 ∙ l.pass; number = pass.1 ∙ l.number; each = l.each; owner = l.owner; most_ = l.most_; view = l.view };
  }

  -- a Kept more
  pub stands_kept : (n : Noted) (passed : List ℕ) → IsNote (last_look b.volume.began.look notes) Kept passed (look_of_manager m) n → HasPassed (nones_at m.lanes.items b.lanes) (notes ++ n ∷ [])
      → Keeps tells state m b notes → Stands tells state m b (notes ++ n ∷ [])
  stands_kept n passed note has k = record {
    keeps = record {
      logs = k.logs;
      held = k.held;
      upholds = (kept_more (parts_of tells state) b.volume.began (seen m k.logs) notes n note.follows note.operation_is k.upholds (λ _. note.look_is)).upholds;
      in_use = k.in_use;
      passed = has;
      taken = k.taken;
      still = k.still;
      ready = k.ready;
      locks = k.locks;
    };
    look = last_more b.volume.began.look notes n ∙ note.look_is;
  }
