use Rattle.std.proofs.Common.{sym, subst}
use Rattle.std.specs.List.{AllByRecursion}
use Rattle.redirect_map.specs.Index.{with_homed}
use Rattle.garbage_list.specs.Least.{HasLane}
use Rattle.garbage_list.proofs.Lanes.{all_changed}
use Rattle.index_tests.proofs.tests.overlapping.put_home_next.Goals as goal

pub returns : goal.returns
returns c = subst (AllByRecursion (HasLane c.args.lanes.now)) (sym c.set_homed.ensures.entries)
    (all_changed (HasLane c.args.lanes.now) _ (with_homed c.live-live.result) c.args.index.now.entries (λ e on. on) c.requires)
