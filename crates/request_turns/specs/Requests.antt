-- Requests that a manager can be asked.
use Rattle.std.specs.Prelude.{◌≤◌, ◌+◌}
use Rattle.trace_windows.specs.declared.request.Request.{Request}
use Rattle.manager.specs.declared.base.ManagerBase.{ManagerBase}

-- it has 1 to `most` blocks, which lie in the volume
pub record IsWithin (b : ManagerBase) (r : Request) : Type 0 where
  pub some : 1 ≤ r.count
  pub few : r.count ≤ b.volume.began.most
  pub fits : r.lbn + r.count ≤ b.volume.began.home_blocks
