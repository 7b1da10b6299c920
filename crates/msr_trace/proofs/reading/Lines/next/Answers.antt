use Rattle.std.proofs.Common.{◌≡◌, ◌∙◌, sym, ap, Err}
use Rattle.msr_trace.specs.declared.format.TraceFault.TheVariants as fault
use Rattle.msr_trace.proofs.reading.Lines.next.Goals.{in-Ok-Some, in-Ok-None, in-Err}
use Rattle.msr_trace.proofs.reading.Lines.next.Goals as goal

pub returns-clause-bad : goal.returns-clause-bad
returns-clause-bad g c = λ line why is. elim c.match-next_line.branch [
  | in-Ok-Some w ↦ absurd (cc (sym w.result-is ∙ is))
  | in-Ok-None w ↦ absurd (cc (sym w.result-is ∙ is))
  | in-Err w ↦
      let same : w.in-Err.fault ≡ fault.Bad line why = cc (sym w.result-is ∙ is) in
      w.in-Err.ensures.bad line why (ap Err same)
]
