use Rattle.std.proofs.Common.{ap, ◌∙◌}
use Rattle.std.specs.Prelude.{is_some}
use Rattle.wol_model.specs.History.{worker}
use Rattle.manager.specs.declared.manager.Manager.{Manager}
use Rattle.inspection.proofs.Looking.{dump_kept}
use Rattle.inspection.proofs.turn.append_asked.Goals as goal

pub returns-in-Check-clause-index : goal.returns-in-Check-clause-index
returns-in-Check-clause-index g c = c.check_line.ensures.read.index

pub returns-in-Dump-clause-index : goal.returns-in-Dump-clause-index
returns-in-Dump-clause-index g c = ap (λ (m : Manager _). m.index) c.dump_lines.ensures.unchanged

pub returns-in-Check-clause-down : goal.returns-in-Check-clause-down
returns-in-Check-clause-down g c p is =
    let r = c.check_line.ensures in let was = (r.down p).0 is in ap (λ (m : Manager _). m.down) (r.unchanged (ap is_some was)) ∙ was

pub returns-in-Check-clause-failed : goal.returns-in-Check-clause-failed
returns-in-Check-clause-failed g c p is = (c.check_line.ensures.cause p is).0

pub returns-in-Dump-clause-stands : goal.returns-in-Dump-clause-stands
returns-in-Dump-clause-stands g c = rw (dump_kept c.dump_lines.result c.dump_lines.ensures.calm) (c.dump_lines.ensures.stands worker)

pub returns-in-Dump-clause-down : goal.returns-in-Dump-clause-down
returns-in-Dump-clause-down g c p is = ap (λ (m : Manager _). m.down) c.dump_lines.ensures.unchanged ∙ (c.dump_lines.ensures.down p).0 is
