-- A manager with all that it shares.
use Rattle.std.specs.Prelude.{◌≡◌, true, List, [], ◌∷◌, None}
use Rattle.volume_tests.specs.Counting.{counting_state}
use Rattle.volume_tests.specs.declared.counting.CountingDisk.{CountingDisk}
use Rattle.turn_lock.specs.Passes.{lock_passes, IsPassOf, IsFree}
use Rattle.turn_lock.specs.declared.lock.TurnLock.{TurnLock}
use Rattle.turn_lock.specs.declared.pass.PassOf.{PassOf}
use Rattle.spin_model.specs.declared.spindle.Spindle.{Spindle}
use Rattle.spin_model.specs.declared.spindle.SpindleBase.{SpindleBase}
use Rattle.seg_pool.specs.declared.base.PoolBase.{PoolBase}
use Rattle.seg_pool.specs.declared.pool.Pool.{Pool}
use Rattle.log_segment.specs.declared.free.FreeSegment.{FreeSegment}
use Rattle.wol_promise.specs.Ruled.{Noted}
use Rattle.logger.specs.Lanes.{IsLane, logger_of, lane_owner, held_in, taken_in, pool_of, spindle_of}
use Rattle.logger.specs.declared.lane.Lane.{Lane}
use Rattle.manager.specs.Stands.{Keeps, IsHome}
use Rattle.manager.specs.declared.base.ManagerBase.{ManagerBase}
use Rattle.reclaimer.specs.Fetches.{HasData}
use Rattle.volume_tests.specs.declared.rig.Rig.{Rig}

-- a lane of volume 0 on volume 1 that holds nothing yet, with these passes
pub record IsNewLane (pool : PassOf (Pool (FreeSegment CountingDisk)) PoolBase)
    (spindle : PassOf Spindle SpindleBase) (l : Lane CountingDisk) : Type 0 where
  pub lane : IsLane counting_state l
  pub logger_is : logger_of l ≡ 1
  pub owner : lane_owner l ≡ 0
  pub held : held_in l ≡ []
  pub taken : taken_in l ≡ None
  pub pool_is : pool_of l ≡ pool
  pub spindle_is : spindle_of l ≡ spindle

-- two locks of one pass each
pub record AreTwoLocks {T B : Type 0} (locks : List (TurnLock T B)) : Type 0 where
  pub first : TurnLock T B
  pub second : TurnLock T B
  pub both : locks ≡ first ∷ second ∷ []
  pub one_pass : (lock_passes first ≡ 1) × (lock_passes second ≡ 1)

-- the locks of the spindles of volumes 0 and 1, the first of which has a keeper's pass too
pub record AreSpindleLocks (locks : List (TurnLock Spindle SpindleBase)) : Type 0 where
  pub first : TurnLock Spindle SpindleBase
  pub second : TurnLock Spindle SpindleBase
  pub both : locks ≡ first ∷ second ∷ []
  pub passes : (lock_passes first ≡ 2) × (lock_passes second ≡ 1)

-- a manager of volume 0 with a home of 8 blocks, which logs on volume 1
pub record IsOfVolume (b : ManagerBase) : Type 0 where
  pub owner : b.volume.began.owner ≡ 0
  pub home_blocks : b.volume.began.home_blocks ≡ 8
  pub most : b.volume.began.most ≡ 4
  pub view : b.volume.began.view ≡ 1 ∷ []

-- The manager keeps up what it began with and what was done since, what was fetched are data of it,
-- and all locks are there.
pub record IsRig (r : Rig) : Type 0 where
  pub base : ManagerBase
  pub notes : List Noted
  pub began : IsOfVolume base
  pub keeps : Keeps true counting_state r.manager base notes
  pub fetched : HasData true r.fetched base notes
  pub at : IsHome r.shared r.manager
  pub pools : AreTwoLocks r.shared.pools.items
  pub spindles : AreSpindleLocks r.shared.spindles.items
  pub own : IsPassOf pools.first r.own_pool
  pub free : IsFree r.own_pool
  pub keeper : IsPassOf spindles.first r.keeper
  pub keeper_free : IsFree r.keeper
