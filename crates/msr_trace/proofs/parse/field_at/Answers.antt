use Rattle.std.proofs.Common.{refl}
use Rattle.msr_trace.proofs.Splitting.{field_at-get}
use Rattle.msr_trace.proofs.parse.field_at.Goals as goal

pub returns-in-Some : goal.returns-in-Some
returns-in-Some c = rw (← field_at-get _ _, ← c.in-Some.ensures.value) refl

pub returns-in-None : goal.returns-in-None
returns-in-None c = rw (← field_at-get _ _, ← c.in-None.ensures.value) refl
