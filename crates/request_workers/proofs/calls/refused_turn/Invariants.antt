use Rattle.std.proofs.Common.{◌≡◌, map, drop}
use Rattle.window_desks.specs.Worked.{first_fault}
use Rattle.window_desks.specs.declared.desk.Desk.{Desk}
use Rattle.request_workers.proofs.calls.refused_turn.Given as goal

abbrev pub invariant-loop-k : goal.invariant-loop-k
invariant-loop-k g l = first_fault l.k (map (λ (d : Desk g.row.D.Denot). d.fault) (drop l.k l.desks)) ≡ first_fault 0 (map (λ (d : Desk g.row.D.Denot). d.fault) l.desks)
