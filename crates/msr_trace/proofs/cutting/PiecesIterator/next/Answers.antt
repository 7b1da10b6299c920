use Rattle.std.proofs.Common.{rules, arith, ◌≡◌, ◌∙◌, ◌-◌, ◌∷◌, sym}
use Rattle.wol_model.specs.Trace.{cut_run}
use Rattle.msr_trace.proofs.Runs.{next_piece}
use Rattle.msr_trace.proofs.cutting.PiecesIterator.next.Goals as goal

-- the pieces that are left are the one that is given and those of the new state
step : (c : goal.After-self-2-1) → c.args.self.now ≡ record { lbn = c.self.inside.first; count = c.min-count.result } ∷ cut_run (c.self.inside.count - c.min-count.result) c.self.inside.home c.self.inside.most c.behind-self-inside.result (c.self.inside.count - c.min-count.result)
step c =
    let i = c.self.inside in
    rw c.behind-self-inside.ensures (sym c.self.view_is ∙ next_piece i.home i.most i.first i.count c.min-count.result (omega (arith, c.from.ensures, c.min.ensures, c.min-count.ensures)) (omega arith) c.self.invariant.0 c.self.invariant.1)

pub returns-clause-goes : goal.returns-clause-goes
returns-clause-goes c = rw (step c) (search rules)

pub returns-clause-steps : goal.returns-clause-steps
returns-clause-steps c = step c
