use Rattle.std.proofs.Common.{take}
use Rattle.std.specs.Prelude.{sum_by}
use Rattle.request_turns.specs.Counts.{CountsMore}
use Rattle.window_desks.specs.declared.desk.Desk.{Desk}
use Rattle.request_workers.proofs.calls.reclaimed.Given as goal

abbrev pub invariant-loop-desk : goal.invariant-loop-desk
invariant-loop-desk g l = CountsMore (sum_by (λ (d : Desk g.row.D.Denot). d.tally.blocks) (take l.desk-index l.desks)) (sum_by (λ (d : Desk g.row.D.Denot). d.tally.records) (take l.desk-index l.desks)) l.help.tally l.tally
