use Rattle.std.proofs.Common.{rules}
use Rattle.volume_tests.proofs.tests.making.lanes.Goals as goal

pub returns : goal.returns
returns g c = (
  c.in-Ok.lane,
  search rules,
  record {
    lane = c.in-Ok.ensures.lane;
    logger_is = c.in-Ok.ensures.logger;
    owner = c.in-Ok.ensures.owner;
    held = c.in-Ok.ensures.held;
    taken = c.in-Ok.ensures.taken;
    pool_is = c.in-Ok.ensures.pool;
    spindle_is = c.in-Ok.ensures.spindle;
  },
)
