use Rattle.std.proofs.Common.{refl, sym, ap, ◌∙◌}
use Rattle.std.specs.Prelude.{is_some}
use Rattle.std.proofs.lemmas.Option.{slice_get_read}
use Rattle.manager_recovery.proofs.Outside.{outside_here, outside_later}
use Rattle.manager_recovery.proofs.names.outside_view.Goals as goal

pub returns-then-is_none : goal.returns-then-is_none
returns-then-is_none g c =
    let o = slice_get_read c.args.owned.now _ c.loop-part.part-index c.part-item.result refl c.loop-part-test.true c.part-item.is in
    (c.part-item.result, outside_here c.args.ids.now c.args.owned.now c.loop-part.part-index c.part-item.result o c.loop-part.invariant (sym (ap is_some c.place_of.ensures) ∙ c.if-is_none.ensures), refl, refl)

pub loop-part-preserved : goal.loop-part-preserved
loop-part-preserved g c =
    let o = slice_get_read c.args.owned.now _ c.loop-part.part-index c.part-item.result refl c.loop-part-test.true c.part-item.is in
    outside_later c.args.ids.now c.args.owned.now c.loop-part.part-index c.part-item.result o c.loop-part.invariant (sym (ap is_some c.place_of.ensures) ∙ c.if-is_none.ensures)
