-- A fault of the reader of a trace, or of a bay, as one of the run.
use Rattle.msr_trace.specs.declared.format.TraceFault.{TraceFault}
use Rattle.msr_trace.specs.declared.format.TraceFault.TheVariants as trace
use Rattle.wol_bay.specs.declared.fault.BayFault.{BayFault}
use Rattle.wol_bay.specs.declared.fault.BayFault.TheVariants as bay
use Rattle.solo.specs.declared.fault.Fault.{Fault}
use Rattle.solo.specs.declared.fault.Fault.TheVariants as fault

abbrev pub fault_of : TraceFault → Fault
fault_of trace.Source = fault.Source
fault_of (trace.Bad line why) = fault.BadLine line why
fault_of trace.Spent = fault.Spent
fault_of trace.NoMemory = fault.NoMemory

abbrev pub fault_of_bay : BayFault → Fault
fault_of_bay bay.Absent = fault.Bay
fault_of_bay (bay.WrongLength bytes) = fault.Bay
fault_of_bay bay.Failed = fault.Bay
fault_of_bay bay.NoMemory = fault.NoMemory
