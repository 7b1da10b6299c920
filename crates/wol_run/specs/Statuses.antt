-- Exit statuses and the lines of faults.
use Rattle.std.specs.Prelude.{ℕ, ⊤, List, [], ◌++◌, codes, decimal}
use Rattle.msr_trace.specs.declared.format.BadLine.{BadLine}
use Rattle.msr_trace.specs.declared.format.BadLine.TheVariants as bad
use Rattle.solo.specs.declared.fault.Fault.{Fault}
use Rattle.solo.specs.declared.fault.Fault.TheVariants as fault

abbrev pub status_of : Fault → ℕ
status_of (fault.BadLine line why) = 3
status_of fault.Bay = 4
status_of fault.Disk = 4
status_of fault.Sink = 7
status_of fault.Source = 8
status_of fault.NoMemory = 9
status_of fault.Spent = 10

-- why a line is bad, and the end of the line that says so
abbrev pub why_text : BadLine → List ℕ
why_text bad.FieldCount = codes " fields\n"
why_text (bad.Number field) = codes " number " ++ (decimal field ++ codes "\n")
why_text bad.Kind = codes " kind\n"
why_text bad.TooLarge = codes " too large\n"
why_text bad.PastEnd = codes " past end\n"
why_text bad.LineTooLong = codes " too long\n"
why_text bad.Quote = codes " quote\n"

abbrev pub bad_line_text : (line : ℕ) → BadLine → List ℕ
bad_line_text line why = codes "fault 3 line " ++ (decimal line ++ why_text why)

-- the line of want of memory
abbrev pub no_memory_text : List ℕ
no_memory_text = codes "fault 9 memory\n"

-- the line of a fault; a failed sink has none
abbrev pub fault_text : Fault → List ℕ
fault_text (fault.BadLine line why) = bad_line_text line why
fault_text fault.Bay = codes "fault 4 solo disk bay\n"
fault_text fault.Disk = codes "fault 4 solo disk home\n"
fault_text fault.Sink = []
fault_text fault.Source = codes "fault 8 trace\n"
fault_text fault.NoMemory = no_memory_text
fault_text fault.Spent = codes "fault 10 lines\n"

-- a fault whose line is always the same
abbrev pub IsPlain : Fault → Type 0
IsPlain (fault.BadLine line why) = ⊥
IsPlain fault.Bay = ⊤
IsPlain fault.Disk = ⊤
IsPlain fault.Sink = ⊤
IsPlain fault.Source = ⊤
IsPlain fault.NoMemory = ⊤
IsPlain fault.Spent = ⊤
