-- A worker that serves its volume.
use Rattle.std.specs.Prelude.{◌≡◌, ◌≤◌, ℕ}
use Rattle.turn_lock.specs.Passes.{pass_lock, IsPassAt}
use Rattle.wol_model.specs.History.{worker}
use Rattle.logger.specs.declared.shared.Shared.{Shared}
use Rattle.manager.specs.Stands.{IsShared}
use Rattle.request_turns.specs.Helped.{ManagerLock}
use Rattle.request_turns.specs.Turns.{ManagerPass}

-- its pass is one of the lock, in no turn, and the worker's; the locks are those that the volume
-- shares; the sizes are the volume's own
pub record CanServe {D : Type 0} (lock : ManagerLock D) (p : ManagerPass D) (shared : Shared D)
    (home most : ℕ) : Type 0 where
  pub pass : IsPassAt lock worker p
  pub open pass use *
  pub at : IsShared shared (pass_lock p).base
  pub home_ : (pass_lock p).base.volume.began.home_blocks ≡ home
  pub most_ : (pass_lock p).base.volume.began.most ≡ most
  pub some : 1 ≤ most
  pub few : most ≤ 128
