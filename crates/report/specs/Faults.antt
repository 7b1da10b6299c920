-- What is printed of a run that wasn't done: the line of its fault.
use Rattle.std.specs.Prelude.{ℕ, List, [], ◌∷◌, codes, decimal}
use Rattle.msr_trace.specs.declared.format.BadLine.{BadLine}
use Rattle.msr_trace.specs.declared.format.BadLine.TheVariants as bad
use Rattle.wol_config.specs.Keys.{key_text}
use Rattle.wol_config.specs.declared.config.ConfigFault.{ConfigFault}
use Rattle.wol_config.specs.declared.config.ConfigFault.TheVariants as config
use Rattle.report.specs.declared.fault.Fault.{Fault}
use Rattle.report.specs.declared.fault.Fault.TheVariants as fault
use Rattle.report.specs.Words.{line_of, text_of}
use Rattle.report.specs.Names.{name_at}
use Rattle.report.specs.Troubles.{trouble_status, trouble_text}

-- why bytes are no configuration; want of memory has no such text
unfoldable pub config_text : ConfigFault → List ℕ
config_text config.NotToml = codes "not toml"
config_text (config.Missing key) = text_of (codes "missing" ∷ key_text key ∷ [])
config_text (config.WrongKind key) = text_of (codes "wrong kind" ∷ key_text key ∷ [])
config_text (config.OutOfRange key) = text_of (codes "out of range" ∷ key_text key ∷ [])
config_text (config.Twice volume name) = text_of (codes "twice" ∷ name ∷ [])
config_text (config.BadView volume name) = text_of (codes "bad view" ∷ name ∷ [])
config_text config.NoMemory = []
config_text config.TooLong = codes "too long"

-- why a line is no line of a trace
unfoldable pub bad_line_text : BadLine → List ℕ
bad_line_text bad.FieldCount = codes "fields"
bad_line_text (bad.Number field) = text_of (codes "number" ∷ decimal field ∷ [])
bad_line_text bad.Kind = codes "kind"
bad_line_text bad.TooLarge = codes "too large"
bad_line_text bad.PastEnd = codes "past end"
bad_line_text bad.LineTooLong = codes "too long"
bad_line_text bad.Quote = codes "quote"

-- what stands behind the status
unfoldable pub cause_text : (names : List (List ℕ)) → Fault → List ℕ
cause_text names fault.Words = codes "words"
cause_text names (fault.Config why) = text_of (codes "config" ∷ config_text why ∷ [])
cause_text names (fault.Line line why) =
    text_of (codes "line" ∷ decimal line ∷ bad_line_text why ∷ [])
cause_text names (fault.Volume volume trouble) =
    text_of (name_at names volume ∷ trouble_text names trouble ∷ [])
cause_text names fault.ConfigSource = codes "config"
cause_text names fault.TraceSource = codes "trace"
cause_text names fault.Memory = codes "memory"
cause_text names fault.Lines = codes "lines"
cause_text names (fault.Versions volume) = text_of (codes "versions" ∷ name_at names volume ∷ [])

-- the exit status
abbrev pub status_of : Fault → ℕ
status_of fault.Words = 1
status_of (fault.Config config.NoMemory) = 9
status_of (fault.Config _) = 2
status_of (fault.Line line why) = 3
status_of (fault.Volume volume trouble) = trouble_status trouble
status_of fault.ConfigSource = 8
status_of fault.TraceSource = 8
status_of fault.Memory = 9
status_of fault.Lines = 10
status_of (fault.Versions volume) = 11

-- the line of a fault, among volumes of these names
unfoldable pub fault_text : (names : List (List ℕ)) → Fault → List ℕ
fault_text names f = line_of (codes "fault" ∷ decimal (status_of f) ∷ cause_text names f ∷ [])
