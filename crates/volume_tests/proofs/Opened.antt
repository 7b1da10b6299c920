-- A manager that was just made, over locks that were just made: its home is zero, and its one lane holds nothing.
use Rattle.std.proofs.Common.{◌≡◌, ◌<◌, ◌≤◌, ◌+◌, ℕ, zero, suc, true, List, [], ◌∷◌, ◌++◌, length, Option, None, Some, refl, sym, ap, subst, ◌∙◌, arith}
use Rattle.std.specs.Prelude.{IsTrue, slice_get, slice_index_or, map, replicate}
use Rattle.std.specs.List.{AllByRecursion}
use Rattle.std.proofs.lemmas.Bool.{false≢true}
use Rattle.std.proofs.lemmas.Option.{same_Some, none-some}
use Rattle.std.specs.declared.alloc.Global.{Global}
use Rattle.std.specs.declared.vec.Vec.{Vec}
use Rattle.wol_disk.specs.Disk.{Block, IsImageOf, only}
use Rattle.volume_tests.specs.Counting.{counting_state}
use Rattle.wol_disk.specs.Zeros.{zeros}
use Rattle.volume_tests.specs.declared.counting.CountingDisk.{CountingDisk}
use Rattle.wol_disk.proofs.Images.{only_image}
use Rattle.turn_lock.specs.Passes.{lock_id, pass_lock, pass_number, pass_mine}
use Rattle.turn_lock.specs.declared.lock.TurnLock.{TurnLock}
use Rattle.turn_lock.specs.declared.pass.PassOf.{PassOf}
use Rattle.spin_model.specs.Spun.{state_of, volume_of}
use Rattle.spin_model.specs.declared.spindle.Spindle.{Spindle}
use Rattle.spin_model.specs.declared.spindle.SpindleBase.{SpindleBase}
use Rattle.spin_model.specs.declared.spun.Spun.{Spun}
use Rattle.seg_pool.specs.Operations.{holds}
use Rattle.seg_pool.specs.declared.base.PoolBase.{PoolBase}
use Rattle.seg_pool.specs.declared.pool.Pool.{Pool}
use Rattle.log_segment.specs.Segment.{Holds, valid_of}
use Rattle.log_segment.specs.declared.free.FreeSegment.{FreeSegment}
use Rattle.redirect_map.specs.Index.{Contents}
use Rattle.offload_policy.specs.declared.Room.TheVariants.{Unknown}
use Rattle.wol_model.specs.Extents.{newest_block, with_extents}
use Rattle.wol_model.specs.Index.{Indexed}
use Rattle.wol_model.specs.Log.{Record}
use Rattle.wol_promise.specs.Manager.{Base, ManagerSeen, AreInUse}
use Rattle.wol_promise.specs.Stands.{Upholds}
use Rattle.wol_promise.proofs.Opens.{opens}
use Rattle.logger.specs.Lanes.{AreWhole, HoldsAll, IsAt, logger_of, held_in, pool_of, spindle_of}
use Rattle.logger.specs.declared.lane.HeldSegment.{HeldSegment}
use Rattle.logger.specs.declared.lane.Lane.{Lane}
use Rattle.logger.specs.declared.shared.Shared.{Shared}
use Rattle.manager.specs.Seen.{Logs, AllHold, AllLanesHold, all_held, all_taken, held_with, parts_of, seen}
use Rattle.manager.specs.Stands.{Keeps, IsReady, IsReadyLane, IsHome, IsInVolume, IsPlacedIn, AreCounted, AreNamed, entries_at, opened, takes_in, takes_of, AreStill}
use Rattle.manager.specs.declared.base.LaneBase.{LaneBase}
use Rattle.manager.specs.declared.base.ManagerBase.{ManagerBase}
use Rattle.manager.specs.declared.manager.Manager.{Manager}
use Rattle.reclaimer.specs.Fetches.{HasData}
use Rattle.reclaimer.specs.Records.{FetchedRecord}
use Rattle.volume_tests.specs.Locked.{HasSpindle, HasKeptSpindle, HasPool}
use Rattle.volume_tests.specs.Rigs.{IsNewLane, IsOfVolume, IsRig}

no_extents : with_extents (zeros 8) [] ≡ zeros 8
unfolding with_extents newest_block
no_extents = refl

module _ (home : Spun CountingDisk) (home_lock logger_lock : TurnLock Spindle SpindleBase) (own_lock pool_lock : TurnLock (Pool (FreeSegment CountingDisk)) PoolBase)
    (keeper spindle logger_pass : PassOf Spindle SpindleBase) (pool : PassOf (Pool (FreeSegment CountingDisk)) PoolBase) (lanes : Vec (Lane CountingDisk) Global) (index : Contents) (l : Lane CountingDisk)
    (volume : volume_of home ≡ 0) (size : (state_of counting_state home).size ≡ 8) (values : (state_of counting_state home).values ≡ Some (only (zeros 8)))
    (of_home : HasKeptSpindle 0 home_lock keeper spindle) (of_logger : HasSpindle 1 logger_lock logger_pass) (of_pool : HasPool 1 32 pool_lock pool)
    (one : lanes.items ≡ l ∷ []) (new : IsNewLane pool logger_pass l) (bare : index.entries ≡ []) where
  abbrev made : Manager CountingDisk
  made = opened 0 home spindle lanes index 1 4

  abbrev lane_base : LaneBase
  lane_base = record {
    logger = logger_of l;
    pool = record { marker = record {}; id = pass_lock (pool_of l) };
    pool_number = pass_number (pool_of l);
    spindle = record { marker = record {}; id = pass_lock (spindle_of l) };
    spindle_number = pass_number (spindle_of l);
    nones = 0;
    takes = takes_in (pass_mine (pool_of l));
  }

  abbrev began : Base
  began = record {
    array = zeros 8;
    records = [];
    next = 1;
    owner = 0;
    home_blocks = 8;
    most = 4;
    view = 1 ∷ [];
    look = record { home_up = true; ups = true ∷ []; next = 1; listed = []; down = None };
  }

  abbrev pub opened_base : ManagerBase
  opened_base = record {
    volume = record { marker = record {}; began = began; places = [] };
    spindle = record { marker = record {}; id = pass_lock spindle };
    spindle_number = pass_number spindle;
    lanes = lane_base ∷ [];
  }

  pub opened_of : IsOfVolume opened_base
  opened_of = record { owner = refl; home_blocks = refl; most = refl; view = refl }

  long : 4 + 2 ≤ (pass_lock (pool_of l)).base.blocks
  long = let e = ap (λ (p : PassOf (Pool (FreeSegment CountingDisk)) PoolBase). (pass_lock p).base.blocks) new.pool_is ∙ of_pool.blocks_are in omega (arith, e)

  counted : (k : ℕ) (n : Lane CountingDisk) → slice_get (l ∷ []) k ≡ Some n → AllByRecursion (λ (h : HeldSegment CountingDisk). valid_of h.segment ≡ entries_at k h.index []) (held_in n)
  counted zero n is = subst (λ (n : Lane CountingDisk). AllByRecursion (λ (h : HeldSegment CountingDisk). valid_of h.segment ≡ entries_at 0 h.index []) (held_in n)) (same_Some l n is)
      (subst (AllByRecursion (λ (h : HeldSegment CountingDisk). valid_of h.segment ≡ entries_at 0 h.index [])) (sym new.held) tt)
  counted (suc k) n is = absurd (none-some n is)

  holds_none : HoldsAll l
  holds_none i holding = absurd (false≢true (sym (of_pool.unheld i) ∙ (ap (λ (p : PassOf (Pool (FreeSegment CountingDisk)) PoolBase). holds (pass_lock p).base (pass_number p) (pass_mine p) i) (sym new.pool_is) ∙ holding)))

  pub opened_ready : IsReady counting_state made
  opened_ready = record {
    ready = record {
      home_volume = volume;
      home_small = (omega (arith, size), omega (arith, size));
      spindle_volume = of_home.volume_is;
      spindle_free = of_home.both.free;
      settled = of_home.settled;
      accesses = of_home.accesses;
      each = subst (AllByRecursion (IsReadyLane counting_state 0 4)) (sym one) (record { lane = new.lane; owner = new.owner; untaken = new.taken; long = long; all = holds_none }, tt);
      flags = subst (λ (ls : List (Lane CountingDisk)). length (replicate (length ls) true) ≡ length ls) (sym one) refl;
      rooms_ = subst (λ (ls : List (Lane CountingDisk)). length (replicate (length ls) Unknown) ≡ length ls) (sym one) refl;
      few = subst (λ (ls : List (Lane CountingDisk)). length ls ≤ 16) (sym one) (omega arith);
      most_ = (omega arith, omega arith);
    };
    next = (omega arith, omega arith);
    below = subst (AllByRecursion (λ (e : Indexed). e.listed.version < 1)) (sym bare) tt;
    ranges = subst (AllByRecursion (IsInVolume (state_of counting_state home).size)) (sym bare) tt;
    up = λ is. record {
      whole = subst (AllByRecursion (λ (l : Lane CountingDisk). AreWhole (held_in l))) (sym one) (subst AreWhole (sym new.held) tt, tt);
      placed = subst (AllByRecursion (IsPlacedIn lanes.items)) (sym bare) tt;
      counted = subst (λ (ls : List (Lane CountingDisk)). AreCounted ls index.entries) (sym one) (subst (AreCounted (l ∷ [])) (sym bare) counted);
    };
  }

  abbrev logs : Logs
  logs = [] ∷ []

  held_is : all_held 0 lanes.items logs ≡ []
  held_is = ap (λ (ls : List (Lane CountingDisk)). all_held 0 ls logs) one ∙ ap (λ (hs : List (HeldSegment CountingDisk)). held_with 0 hs [] ++ []) new.held

  taken_is : all_taken 0 lanes.items ≡ []
  taken_is = ap (λ (ls : List (Lane CountingDisk)). all_taken 0 ls) one ∙ ap (λ (t : Option (ℕ × FreeSegment CountingDisk)). all_taken 0 (record l { taken = t } ∷ [])) new.taken

  abbrev plain : ManagerSeen (Spun CountingDisk)
  plain = record { home = home; held = []; taken = []; indexed = []; next = 1; home_up = true; ups = true ∷ []; down = None }

  seen_is : seen made logs ≡ plain
  seen_is = λ i. record { home = home; held = held_is i; taken = taken_is i; indexed = bare i; next = 1; home_up = true; ups = replicate (length (one i)) true; down = None }

  zero_home : (image : List Block) → (state_of counting_state home).values ≡ Some (only (zeros 8)) → IsImageOf (state_of counting_state home).values image → with_extents image [] ≡ zeros 8
  zero_home image is told = ap (λ (h : List Block). with_extents h []) (only_image (zeros 8) image (subst (λ (vs : _). IsImageOf vs image) is told)) ∙ no_extents

  upholds : Upholds (parts_of true counting_state) began plain [] [] None
  upholds = (opens (parts_of true counting_state) began plain
      (record { home_up = refl; ups = (refl, tt); up = refl; lanes = refl; next = refl; rising = tt; listed = tt; sized = refl }) refl refl
      (record { apart = tt; below = tt; in_order = λ none. (refl, refl); least = omega arith; most = omega arith }) tt (λ told. record { written = tt; below = tt; within = tt })
      (record { flags = refl; few = omega arith; home_blocks = (omega arith, omega arith); most = (omega arith, omega arith); home_size = size; home_volume = volume; each = tt; apart = tt })
      tt refl (record { rising = tt; listed = tt }) tt tt (λ told. tt) (λ told. tt) (λ told. record { each = tt; only = tt }) (λ told image is. zero_home image values is.1)).upholds

  abbrev Kept : HeldSegment CountingDisk → List Record → Type 0
  Kept h rs = IsTrue true → made.down ≡ None → Holds counting_state h.segment rs

  pub opened_keeps : Keeps true counting_state made opened_base []
  opened_keeps = record {
    logs = logs;
    held = subst (λ (ls : List (Lane CountingDisk)). AllLanesHold Kept ls logs) (sym one) (subst (λ (hs : List (HeldSegment CountingDisk)). AllHold Kept hs []) (sym new.held) tt, tt);
    upholds = subst (λ (m : ManagerSeen (Spun CountingDisk)). Upholds (parts_of true counting_state) began m [] [] None) (sym seen_is) upholds;
    in_use = λ told up. subst AreInUse (sym held_is) tt;
    passed = λ k. omega arith;
    taken = subst (λ (ls : List (Lane CountingDisk)). takes_of ls (lane_base ∷ []) + 1 ≤ 1 + 0) (sym one) (omega arith);
    still = subst (AreStill [] 1) (sym bare) tt;
    ready = opened_ready;
    locks = record {
      pass = refl;
      number = refl;
      each = subst (λ (ls : List (Lane CountingDisk)). AreNamed ls (lane_base ∷ [])) (sym one) (record { logger = refl; pool = refl; pool_number = refl; spindle = refl; spindle_number = refl; nones = omega arith }, tt);
      owner = refl;
      most_ = refl;
      view = ap (map logger_of) one ∙ ap (λ (n : ℕ). n ∷ []) new.logger_is;
    };
  }

  module _ (shared : Shared CountingDisk) (pools : shared.pools.items ≡ own_lock ∷ pool_lock ∷ []) (spindles : shared.spindles.items ≡ home_lock ∷ logger_lock ∷ []) where
    pub opened_home : IsHome shared made
    opened_home = record {
      spindle_in = let e = shared.spindles.ok.0 ∙ ap length spindles in omega (arith, e);
      spindle_is = λ d. of_home.both.own ∙ sym (ap (λ (ls : List (TurnLock Spindle SpindleBase)). lock_id (slice_index_or ls 0 d)) spindles);
      lanes_ = subst (AllByRecursion (IsAt shared)) (sym one) (
        record {
          pool_in = let e = shared.pools.ok.0 ∙ ap length pools in let k = new.logger_is in omega (arith, e, k);
          spindle_in = let e = shared.spindles.ok.0 ∙ ap length spindles in let k = new.logger_is in omega (arith, e, k);
          pool = λ d. ap (λ (p : PassOf (Pool (FreeSegment CountingDisk)) PoolBase). pass_lock p) new.pool_is ∙ of_pool.alone.own
              ∙ sym (ap (λ (k : ℕ). lock_id (slice_index_or shared.pools.items k d)) new.logger_is ∙ ap (λ (ls : List (TurnLock (Pool (FreeSegment CountingDisk)) PoolBase)). lock_id (slice_index_or ls 1 d)) pools);
          spindle = λ d. ap (λ (p : PassOf Spindle SpindleBase). pass_lock p) new.spindle_is ∙ of_logger.alone.own
              ∙ sym (ap (λ (k : ℕ). lock_id (slice_index_or shared.spindles.items k d)) new.logger_is ∙ ap (λ (ls : List (TurnLock Spindle SpindleBase)). lock_id (slice_index_or ls 1 d)) spindles);
        },
        tt,
      );
    }

    pub opened_rig : (own : PassOf (Pool (FreeSegment CountingDisk)) PoolBase) → HasPool 0 32 own_lock own → (m : Manager CountingDisk) → m ≡ made → (fetched : Option FetchedRecord) → fetched ≡ None → IsRig (record { shared = shared; manager = m; fetched = fetched; own_pool = own; keeper = keeper })
    opened_rig own of_own m is fetched empty = subst (λ (m : Manager CountingDisk). IsRig (record { shared = shared; manager = m; fetched = fetched; own_pool = own; keeper = keeper })) (sym is) (record {
      base = opened_base;
      notes = [];
      began = opened_of;
      keeps = opened_keeps;
      fetched = subst (λ (f : Option FetchedRecord). HasData true f opened_base []) (sym empty) tt;
      at = opened_home;
      pools = record { first = own_lock; second = pool_lock; both = pools; one_pass = (of_own.alone.one, of_pool.alone.one) };
      spindles = record { first = home_lock; second = logger_lock; both = spindles; passes = (of_home.both.two, of_logger.alone.one) };
      own = of_own.alone.own;
      free = of_own.alone.free;
      keeper = of_home.both.keeper_own;
      keeper_free = of_home.both.keeper_free;
    })
