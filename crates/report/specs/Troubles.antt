-- What is printed of a volume that isn't in order.
use Rattle.std.specs.Prelude.{ℕ, ⊤, ◌<◌, List, [], ◌∷◌, codes, decimal}
use Rattle.report.specs.declared.trouble.Trouble.{Trouble}
use Rattle.report.specs.declared.trouble.Trouble.TheVariants.{Absent, Length, LabelDiffers, Damaged, Twins, OutsideView, LoggerMissing, Bay, Label, Home, Segment}
use Rattle.report.specs.Words.{text_of}
use Rattle.report.specs.Names.{name_at}

-- a place in the image of the volume of this name
abbrev pub place_text : (what : List ℕ) → (number : ℕ) → (name : List ℕ) → List ℕ
place_text what number name = text_of (what ∷ decimal number ∷ codes "of" ∷ name ∷ [])

-- two blocks that have records of one version
abbrev pub twins_text : (first : ℕ) → (name : List ℕ) → (second : ℕ) → (other : List ℕ) → List ℕ
twins_text first name second other =
    text_of (codes "twins" ∷ decimal first ∷ codes "of" ∷ name
    ∷ codes "and" ∷ decimal second ∷ codes "of" ∷ other ∷ [])

-- the text of a trouble, among volumes of these names
unfoldable pub trouble_text : (names : List (List ℕ)) → Trouble → List ℕ
trouble_text names Absent = codes "absent"
trouble_text names (Length bytes) = text_of (codes "length" ∷ decimal bytes ∷ [])
trouble_text names LabelDiffers = codes "label differs"
trouble_text names (Damaged volume block) =
    place_text (codes "damaged") block (name_at names volume)
trouble_text names (Twins v first w second) =
    twins_text first (name_at names v) second (name_at names w)
trouble_text names (OutsideView logger segment) =
    place_text (codes "outside view segment") segment (name_at names logger)
trouble_text names (LoggerMissing id) = text_of (codes "logger" ∷ decimal id ∷ codes "missing" ∷ [])
trouble_text names Bay = codes "disk bay"
trouble_text names Label = codes "disk label"
trouble_text names Home = codes "disk home"
trouble_text names (Segment logger index) =
    place_text (codes "disk segment") index (name_at names logger)

-- the volumes whose names a trouble prints are among so many
abbrev pub IsAmong : (count : ℕ) → Trouble → Type 0
IsAmong count (Damaged volume block) = volume < count
IsAmong count (Twins v first w second) = (v < count) × (w < count)
IsAmong count (OutsideView logger segment) = logger < count
IsAmong count (Segment logger index) = logger < count
IsAmong count _ = ⊤

-- the exit status
abbrev pub trouble_status : Trouble → ℕ
trouble_status Absent = 12
trouble_status (Length bytes) = 5
trouble_status LabelDiffers = 5
trouble_status (Damaged volume block) = 5
trouble_status (Twins v first w second) = 5
trouble_status (OutsideView logger segment) = 5
trouble_status (LoggerMissing id) = 6
trouble_status Bay = 4
trouble_status Label = 4
trouble_status Home = 4
trouble_status (Segment logger index) = 4
