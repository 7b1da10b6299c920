-- What ends a run.
use Rattle.msr_trace.specs.declared.format.TraceFault.{TraceFault}
use Rattle.msr_trace.specs.declared.format.TraceFault.TheVariants as trace
use Rattle.report.specs.declared.fault.Fault.{Fault}
use Rattle.report.specs.declared.fault.Fault.TheVariants.{Line, TraceSource, Memory, Lines}

-- what is told of a trace that gives no further line
abbrev pub fault_of_trace : TraceFault → Fault
fault_of_trace trace.Source = TraceSource
fault_of_trace (trace.Bad line why) = Line line why
fault_of_trace trace.Spent = Lines
fault_of_trace trace.NoMemory = Memory
