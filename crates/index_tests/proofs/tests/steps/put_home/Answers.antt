use Rattle.std.proofs.Common.{◌<◌, sym, subst}
use Rattle.wol_model.specs.Index.{Indexed}
use Rattle.redirect_map.specs.Index.{with_homed}
use Rattle.garbage_list.proofs.Lanes.{all_changed}
use Rattle.index_tests.specs.Below.{AreBelow}
use Rattle.index_tests.proofs.tests.steps.put_home.Goals as goal

pub returns : goal.returns
returns c = subst (AreBelow c.args.next) (sym c.set_homed.ensures.entries)
    (all_changed (λ (e : Indexed). (e.listed.version < c.args.next) × (e.listed.lane < 3)) _ (with_homed c.live-live.result) c.args.index.now.entries (λ e on. on) c.requires)
