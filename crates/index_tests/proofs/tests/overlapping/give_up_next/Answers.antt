use Rattle.std.proofs.Common.{sym, subst}
use Rattle.std.specs.List.{AllByRecursion}
use Rattle.wol_model.specs.Index.{Indexed, keeps_a_block}
use Rattle.redirect_map.specs.Index.{given_up}
use Rattle.garbage_list.specs.Least.{HasLane}
use Rattle.garbage_list.proofs.Lanes.{all_changed, all_filtered}
use Rattle.index_tests.proofs.tests.overlapping.give_up_next.Goals as goal

pub returns : goal.returns
returns c = subst (AllByRecursion (HasLane c.args.lanes.now)) (sym c.trim.ensures.entries)
    (all_filtered (HasLane c.args.lanes.now) (λ (e : Indexed). keeps_a_block e.listed) _ (all_changed (HasLane c.args.lanes.now) _ (given_up c.may_go-mask.result) c.args.index.now.entries (λ e on. on) c.requires))
