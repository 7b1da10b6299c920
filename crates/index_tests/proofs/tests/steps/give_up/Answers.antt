use Rattle.std.proofs.Common.{◌<◌, sym, subst}
use Rattle.wol_model.specs.Index.{Indexed, keeps_a_block}
use Rattle.redirect_map.specs.Index.{given_up}
use Rattle.garbage_list.proofs.Lanes.{all_changed, all_filtered}
use Rattle.index_tests.specs.Below.{AreBelow}
use Rattle.index_tests.proofs.tests.steps.give_up.Goals as goal

pub returns-then-mask-ne0 : goal.returns-then-mask-ne0
returns-then-mask-ne0 c = subst (AreBelow c.args.next) (sym c.trim.ensures.entries)
    (all_filtered (λ (e : Indexed). (e.listed.version < c.args.next) × (e.listed.lane < 3)) (λ (e : Indexed). keeps_a_block e.listed) _
    (all_changed (λ (e : Indexed). (e.listed.version < c.args.next) × (e.listed.lane < 3)) _ (given_up c.may_go-mask.result) c.args.index.now.entries (λ e on. on) c.requires))
