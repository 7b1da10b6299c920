-- A rig whose manager made a step, and the locks of each rig.
use Rattle.std.proofs.Common.{◌≡◌, ℕ, false, true, Option, None, Some, Result, Ok, Err, List, [], ◌∷◌, ◌++◌, length, refl, sym, ap, subst, ◌∙◌, arith}
use Rattle.std.specs.Prelude.{map, slice_index_or}
use Rattle.std.specs.List.{AllByRecursion}
use Rattle.volume_tests.specs.Counting.{counting_state}
use Rattle.volume_tests.specs.declared.counting.CountingDisk.{CountingDisk}
use Rattle.turn_lock.specs.Passes.{lock_id, lock_passes}
use Rattle.turn_lock.specs.declared.lock.TurnLock.{TurnLock}
use Rattle.spin_model.specs.declared.spindle.Spindle.{Spindle}
use Rattle.spin_model.specs.declared.spindle.SpindleBase.{SpindleBase}
use Rattle.seg_pool.specs.declared.base.PoolBase.{PoolBase}
use Rattle.seg_pool.specs.declared.pool.Pool.{Pool}
use Rattle.log_segment.specs.declared.free.FreeSegment.{FreeSegment}
use Rattle.wol_model.specs.Blocks.{Write}
use Rattle.wol_model.specs.History.{Operation, Broke, worker, writes, written_by}
use Rattle.wol_promise.specs.Policy.{Look}
use Rattle.wol_promise.specs.Ruled.{Noted, entries_of, last_look}
use Rattle.wol_promise.specs.Stands.{IsDataOf}
use Rattle.wol_promise.proofs.Data.{data_stays}
use Rattle.wol_promise.proofs.OneMore.{writes_then}
use Rattle.logger.specs.Lanes.{IsAt, logger_of, pool_of, spindle_of}
use Rattle.logger.specs.declared.lane.Lane.{Lane}
use Rattle.manager.specs.Reclaim.{OnKept, OnFailed, KeepsOn, BreaksOff}
use Rattle.manager.specs.Seen.{look_of_manager}
use Rattle.manager.specs.Stands.{Keeps, IsHome, IsNote, IsReadyLane, Leaves}
use Rattle.manager.specs.declared.base.ManagerBase.{ManagerBase}
use Rattle.manager.specs.declared.part.StepFault.{StepFault}
use Rattle.manager.specs.declared.part.StepFault.TheVariants.{DiskFault, Down}
use Rattle.reclaimer.specs.Fetches.{HasData}
use Rattle.reclaimer.specs.Records.{FetchedRecord}
use Rattle.manager.specs.declared.manager.Manager.{Manager}
use Rattle.volume_tests.specs.Locked.{HasOnePass, HasTwoPasses}
use Rattle.volume_tests.specs.Rigs.{AreTwoLocks, IsRig}
use Rattle.volume_tests.specs.declared.rig.Rig.{Rig}

-- what was fetched stays data with an entry more
data_kept : (fetched : Option FetchedRecord) (b : ManagerBase) (notes : List Noted) (n : Noted) → HasData true fetched b notes → HasData true fetched b (notes ++ n ∷ [])
data_kept None b notes n is = tt
data_kept (Some f) b notes n is = λ told. subst (λ (ws : List Write). IsDataOf b.volume.began ws f.version f.first f.blocks) (sym (writes_then notes n n.entry.operation refl))
    (data_stays b.volume.began (writes (entries_of notes)) (written_by n.entry.operation) f.version f.first f.blocks (is told))

-- an entry that isn't held to the rules
abbrev entry_of : Operation → (passed : List ℕ) → (pass : ℕ) → Manager CountingDisk → Noted
entry_of operation passed pass m = record { entry = record { pass = pass; operation = operation }; look = look_of_manager m; passed = passed; after_drain = false; ruled = false }

is_note : (l : Look) (operation : Operation) (passed : List ℕ) (pass : ℕ) (m : Manager CountingDisk) → IsNote l operation passed (look_of_manager m) (entry_of operation passed pass m)
is_note l operation passed pass m = record { operation_is = refl; look_is = refl; passed_is = refl; drain = refl; follows = λ no. absurd (let e : false ≡ true = no in cc) }

module _ (r : Rig) (is : IsRig r) (m : Manager CountingDisk) (at : IsHome r.shared m) where
  -- with no entry more
  kept : (fetched : Option FetchedRecord) → HasData true fetched is.base is.notes → Keeps true counting_state m is.base is.notes → IsRig (record r { manager = m; fetched = fetched })
  kept fetched holds keeps = record { base = is.base; notes = is.notes; began = is.began; keeps = keeps; fetched = holds; at = at; pools = is.pools; spindles = is.spindles; own = is.own; free = is.free; keeper = is.keeper; keeper_free = is.keeper_free }

  -- with this entry more
  more : (fetched : Option FetchedRecord) → HasData true fetched is.base is.notes → (n : Noted) → Keeps true counting_state m is.base (is.notes ++ n ∷ []) → IsRig (record r { manager = m; fetched = fetched })
  more fetched holds n keeps = record { base = is.base; notes = is.notes ++ n ∷ []; began = is.began; keeps = keeps; fetched = data_kept fetched is.base is.notes n holds; at = at; pools = is.pools; spindles = is.spindles; own = is.own; free = is.free; keeper = is.keeper; keeper_free = is.keeper_free }

  -- after a call that leaves an entry
  pub rig_after : (operation : Operation) (passed : List ℕ) (pass : ℕ) → Leaves true counting_state r.manager m operation passed pass → IsRig (record r { manager = m })
  rig_after operation passed pass leaves =
      let n = entry_of operation passed pass m in
      more r.fetched is.fetched n (leaves is.base is.notes n refl (is_note (last_look is.base.volume.began.look is.notes) operation passed pass m) is.keeps).keeps

  -- after a step of reclaim
  pub rig_step : {T : Type 0} (Where : ManagerBase → List Noted → Type 0) (result : Result T StepFault) (fetched : Option FetchedRecord)
      → Where is.base is.notes → HasData true fetched is.base is.notes → OnKept result (KeepsOn true counting_state r.manager m Where) → OnFailed result (BreaksOff true counting_state r.manager m Where)
      → IsRig (record r { manager = m; fetched = fetched })
  rig_step Where (Ok x) fetched given holds keeps broke = kept fetched holds (keeps is.base is.notes given is.keeps)
  rig_step Where (Err (Down p)) fetched given holds keeps broke = kept fetched holds (keeps is.base is.notes given is.keeps)
  rig_step Where (Err (DiskFault p)) fetched given holds keeps broke =
      let n = entry_of (Broke []) [] worker m in
      more fetched holds n (broke is.base is.notes n given (is_note (last_look is.base.volume.began.look is.notes) (Broke []) [] worker m) is.keeps).keeps

-- ---- the locks

sole_of : {A : Type 0} (f : A → ℕ) (n : ℕ) (xs : List A) → map f xs ≡ n ∷ [] → (x : A) × (xs ≡ x ∷ [])
sole_of f n [] e = absurd (let no = ap length e in omega (arith, no))
sole_of f n (x ∷ []) e = (x, refl)
sole_of f n (x ∷ y ∷ ys) e = absurd (let no = ap length e in omega (arith, no))

pub sole_lane : (r : Rig) → IsRig r → (l : Lane CountingDisk) × (r.manager.lanes.items ≡ l ∷ [])
sole_lane r is = sole_of logger_of 1 r.manager.lanes.items (is.keeps.locks.view ∙ is.began.view)

firsts : {A : Type 0} (a b c d : A) → a ∷ b ∷ [] ≡ c ∷ d ∷ [] → a ≡ c
firsts a b c d e = ap (λ (ls : List _). slice_index_or ls 0 a) e

seconds : {A : Type 0} (a b c d : A) → a ∷ b ∷ [] ≡ c ∷ d ∷ [] → b ≡ d
seconds a b c d e = ap (λ (ls : List _). slice_index_or ls 1 a) e

one_second : {T B : Type 0} (locks : List (TurnLock T B)) (a b : TurnLock T B) → locks ≡ a ∷ b ∷ [] → AreTwoLocks locks → lock_passes b ≡ 1
one_second locks a b e two = ap lock_passes (seconds a b two.first two.second (sym e ∙ two.both)) ∙ two.one_pass.1

pub home_lock : (r : Rig) (is : IsRig r) (a b : TurnLock Spindle SpindleBase) → r.shared.spindles.items ≡ a ∷ b ∷ [] → HasTwoPasses a r.keeper r.manager.spindle
home_lock r is a b e = record {
  two = ap lock_passes (firsts a b is.spindles.first is.spindles.second (sym e ∙ is.spindles.both)) ∙ is.spindles.passes.0;
  own = is.at.spindle_is a ∙ ap (λ (ls : List (TurnLock Spindle SpindleBase)). lock_id (slice_index_or ls r.manager.id a)) e
      ∙ ap (λ (k : ℕ). lock_id (slice_index_or (a ∷ b ∷ []) k a)) (is.keeps.locks.owner ∙ is.began.owner);
  free = is.keeps.ready.ready.spindle_free;
  keeper_own = is.keeper ∙ ap lock_id (sym (firsts a b is.spindles.first is.spindles.second (sym e ∙ is.spindles.both)));
  keeper_free = is.keeper_free;
}

module _ (r : Rig) (is : IsRig r) (l : Lane CountingDisk) (sole : r.manager.lanes.items ≡ l ∷ []) where
  logger_is : logger_of l ≡ 1
  logger_is = ap (λ (ns : List ℕ). slice_index_or ns 0 0) (ap (map logger_of) (sym sole) ∙ is.keeps.locks.view ∙ is.began.view)

  ready : IsReadyLane counting_state r.manager.id r.manager.most l
  ready = (subst (AllByRecursion (IsReadyLane counting_state r.manager.id r.manager.most)) sole is.keeps.ready.ready.each).0

  at : IsAt r.shared l
  at = (subst (AllByRecursion (IsAt r.shared)) sole is.at.lanes_).0

  pub logger_lock : (a b : TurnLock Spindle SpindleBase) → r.shared.spindles.items ≡ a ∷ b ∷ [] → HasOnePass b (spindle_of l)
  logger_lock a b e = record {
    one = ap lock_passes (seconds a b is.spindles.first is.spindles.second (sym e ∙ is.spindles.both)) ∙ is.spindles.passes.1;
    own = at.spindle a ∙ ap (λ (ls : List (TurnLock Spindle SpindleBase)). lock_id (slice_index_or ls (logger_of l) a)) e
        ∙ ap (λ (k : ℕ). lock_id (slice_index_or (a ∷ b ∷ []) k a)) logger_is;
    free = ready.lane.spindle_free;
  }

  pub pool_lock : (a b : TurnLock (Pool (FreeSegment CountingDisk)) PoolBase) → r.shared.pools.items ≡ a ∷ b ∷ [] → HasOnePass b (pool_of l)
  pool_lock a b e = record {
    one = one_second r.shared.pools.items a b e is.pools;
    own = at.pool a ∙ ap (λ (ls : List (TurnLock (Pool (FreeSegment CountingDisk)) PoolBase)). lock_id (slice_index_or ls (logger_of l) a)) e
        ∙ ap (λ (k : ℕ). lock_id (slice_index_or (a ∷ b ∷ []) k a)) logger_is;
    free = ready.lane.pool_free;
  }
