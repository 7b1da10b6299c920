-- How a line of a trace is spelled: seven fields with commas between them, maybe with a carriage
-- return behind.
use Rattle.std.specs.Prelude.{◌≡◌, ℕ, ◌≤◌, ◌<◌, ◌^◌, ◌⊎◌, ◌==◌, ◌||◌, Bool, false, List, [], ◌∷◌, ◌++◌, length, codes, decimal, None, Some, Ok}
use Rattle.std.specs.List.{list_any}
use Rattle.wol_model.specs.Trace.{TraceLine}
use Rattle.wol_model.specs.declared.trace.Kind.{Kind}
use Rattle.wol_model.specs.declared.trace.Kind.TheVariants as kind
use Rattle.msr_trace.specs.Numbers.{number_of}
use Rattle.msr_trace.specs.Lines.{Fits, is_mark, read_of}

abbrev pub kind_text : Kind → List ℕ
kind_text kind.Read = codes "Read"
kind_text kind.Write = codes "Write"

-- the digits of the numbers of a line
pub record Digits : Type 0 where
  pub time : List ℕ
  pub disk : List ℕ
  pub offset : List ℕ
  pub size : List ℕ
  pub response : List ℕ

-- the fields with these digits, with commas between them
abbrev pub fields_text : TraceLine → Digits → List ℕ
fields_text l d = d.time ++ 44 ∷ (l.host ++ 44 ∷ (d.disk ++ 44 ∷ (kind_text l.kind ++ 44 ∷ (d.offset
    ++ 44 ∷ (d.size ++ 44 ∷ d.response)))))

-- a comma, a quotation mark or a carriage return, none of which a host has
abbrev pub is_reserved : ℕ → Bool
is_reserved b = (b == 44) || is_mark b

-- the digits are those of the line, which is within its bounds
pub record AreDigits (l : TraceLine) (d : Digits) : Type 0 where
  pub time : number_of d.time ≡ Some l.time
  pub disk : number_of d.disk ≡ Some l.disk
  pub offset : number_of d.offset ≡ Some l.offset
  pub size : number_of d.size ≡ Some l.size
  pub response : number_of d.response ≡ Some l.response
  pub disk_fits : l.disk < 2 ^ 32
  pub fits : Fits l

-- a text, less its line feed, is a spelling of the line
pub record Spells (text : List ℕ) (l : TraceLine) (d : Digits) : Type 0 where
  pub short : length text ≤ 4096
  pub host : list_any is_reserved l.host ≡ false
  pub digits : AreDigits l d
  pub whole : (text ≡ fields_text l d) ⊎ (text ≡ fields_text l d ++ 13 ∷ [])

-- what is spelled is read
abbrev pub SpelledIsRead : Type 0
SpelledIsRead =
    (text : List ℕ) (l : TraceLine) (d : Digits) → Spells text l d → read_of text ≡ Ok (Some l)

-- what is read is spelled
abbrev pub ReadIsSpelled : Type 0
ReadIsSpelled =
    (text : List ℕ) (l : TraceLine) → read_of text ≡ Ok (Some l) → (d : Digits) × Spells text l d

-- exactly an empty line and a carriage return alone are blank
abbrev pub BlankIsRead : Type 0
BlankIsRead = (read_of [] ≡ Ok None) × (read_of (13 ∷ []) ≡ Ok None)

abbrev pub BlankIsEmpty : Type 0
BlankIsEmpty = (text : List ℕ) → read_of text ≡ Ok None → (text ≡ []) ⊎ (text ≡ 13 ∷ [])

-- the text that is written for a line: no leading zeros, and no carriage return
abbrev pub digits_of : TraceLine → Digits
digits_of l = record {
  time = decimal l.time;
  disk = decimal l.disk;
  offset = decimal l.offset;
  size = decimal l.size;
  response = decimal l.response;
}

abbrev pub line_text : TraceLine → List ℕ
line_text l = fields_text l (digits_of l)

-- a line whose text can be read again
pub record IsWritable (l : TraceLine) : Type 0 where
  pub host : list_any is_reserved l.host ≡ false
  pub time : l.time < 2 ^ 64
  pub disk : l.disk < 2 ^ 32
  pub response : l.response < 2 ^ 64
  pub fits : Fits l
  pub short : length (line_text l) ≤ 4096

-- the text of a line gives the line again
abbrev pub WrittenIsRead : Type 0
WrittenIsRead = (l : TraceLine) → IsWritable l → read_of (line_text l) ≡ Ok (Some l)
