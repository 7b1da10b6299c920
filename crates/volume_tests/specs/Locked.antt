-- Locks that have one pass each.
use Rattle.std.specs.Prelude.{◌≡◌, ℕ, None, [], false, length}
use Rattle.turn_lock.specs.Passes.{lock_passes, pass_lock, pass_number, pass_mine, IsPassOf, IsFree}
use Rattle.turn_lock.specs.declared.lock.TurnLock.{TurnLock}
use Rattle.turn_lock.specs.declared.pass.PassOf.{PassOf}
use Rattle.spin_model.specs.Operations.{has_token}
use Rattle.spin_model.specs.declared.spindle.Spindle.{Spindle}
use Rattle.spin_model.specs.declared.spindle.SpindleBase.{SpindleBase}
use Rattle.logger.specs.Lanes.{AreAccesses}
use Rattle.seg_pool.specs.Operations.{holds}
use Rattle.seg_pool.specs.declared.base.PoolBase.{PoolBase}
use Rattle.seg_pool.specs.declared.pool.Pool.{Pool}
use Rattle.seg_pool.specs.Pools.{StandsFor, base_of, blocks_of, note_at, room_of, volume_of}
use Rattle.log_segment.specs.Segment.{IsBlank}
use Rattle.log_segment.specs.declared.free.FreeSegment.{FreeSegment}
use Rattle.volume_tests.specs.Counting.{counting_state}
use Rattle.volume_tests.specs.declared.counting.CountingDisk.{CountingDisk}

-- the lock has this pass alone, which is in no turn
pub record HasOnePass {T B : Type 0} (lock : TurnLock T B) (pass : PassOf T B) : Type 0 where
  pub one : lock_passes lock ≡ 1
  pub own : IsPassOf lock pass
  pub free : IsFree pass

-- the lock of a volume's spindle, whose one pass has no token and made accesses alone
pub record HasSpindle (volume : ℕ) (lock : TurnLock Spindle SpindleBase)
    (pass : PassOf Spindle SpindleBase) : Type 0 where
  pub alone : HasOnePass lock pass
  pub volume_is : (pass_lock pass).base.volume ≡ volume
  pub settled : has_token (pass_mine pass) ≡ false
  pub accesses : AreAccesses (pass_mine pass)

-- the lock has these two passes alone, which are in no turn
pub record HasTwoPasses {T B : Type 0} (lock : TurnLock T B) (keeper pass : PassOf T B) :
    Type 0 where
  pub two : lock_passes lock ≡ 2
  pub own : IsPassOf lock pass
  pub free : IsFree pass
  pub keeper_own : IsPassOf lock keeper
  pub keeper_free : IsFree keeper

-- the lock of a volume's spindle: one of its two passes keeps the time, the other has no token and
-- made accesses alone
pub record HasKeptSpindle (volume : ℕ) (lock : TurnLock Spindle SpindleBase)
    (keeper pass : PassOf Spindle SpindleBase) : Type 0 where
  pub both : HasTwoPasses lock keeper pass
  pub volume_is : (pass_lock pass).base.volume ≡ volume
  pub settled : has_token (pass_mine pass) ≡ false
  pub accesses : AreAccesses (pass_mine pass)

-- a volume's pool with room for two segments of 32 blocks, none of which was noted as held
pub record IsPool (volume : ℕ) (pool : Pool (FreeSegment CountingDisk)) : Type 0 where
  pub volume_is : volume_of pool ≡ volume
  pub blocks_are : blocks_of pool ≡ 32
  pub room : room_of pool ≡ 2
  pub unnoted : (index : ℕ) → note_at pool index ≡ None
  pub stands : StandsFor (IsBlank counting_state) pool (base_of pool) []

-- the lock of a volume's pool with room for two segments, none of which its one pass holds
pub record HasPool {T : Type 0} (volume blocks : ℕ) (lock : TurnLock (Pool T) PoolBase)
    (pass : PassOf (Pool T) PoolBase) : Type 0 where
  pub alone : HasOnePass lock pass
  pub volume_is : (pass_lock pass).base.volume ≡ volume
  pub blocks_are : (pass_lock pass).base.blocks ≡ blocks
  pub few : length (pass_lock pass).base.holders ≡ 2
  pub unheld : (index : ℕ)
      → holds (pass_lock pass).base (pass_number pass) (pass_mine pass) index ≡ false
