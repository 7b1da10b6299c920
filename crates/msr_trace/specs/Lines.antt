-- How bytes are read as the lines of a trace: where lines end, what a line has, and which refusal
-- comes first.
use Rattle.std.specs.Prelude.{◌≡◌, ℕ, ◌+◌, ◌-◌, ◌^◌, ◌≤◌, ◌<◌, ◌==◌, ◌||◌, nat_lt, nat_le, Bool, not, List, [], ◌∷◌, length, take, codes, slice_index, slice_get, Option, None, Some, Result, Ok, Err, if◌then◌else◌, ⊤}
use Rattle.std.specs.List.{slice_split, list_any}
use Rattle.std.specs.Option.{ok_or}
use Rattle.std.specs.Str.{bytes_eq}
use Rattle.wol_model.specs.Trace.{TraceLine}
use Rattle.wol_model.specs.declared.trace.Kind.{Kind}
use Rattle.wol_model.specs.declared.trace.Kind.TheVariants as kind
use Rattle.msr_trace.specs.Numbers.{number_of}
use Rattle.msr_trace.specs.declared.format.Line.{Line}
use Rattle.msr_trace.specs.declared.format.BadLine.{BadLine}
use Rattle.msr_trace.specs.declared.format.BadLine.TheVariants as bad
use Rattle.msr_trace.specs.declared.format.LineFault.{LineFault}
use Rattle.msr_trace.specs.declared.format.LineFault.TheVariants as fault

-- ---- Where lines end

-- a line feed ends a line
abbrev pub is_feed : ℕ → Bool
is_feed b = b == 10

abbrev pub without_empty_last : List (List ℕ) → List (List ℕ)
without_empty_last [] = []
without_empty_last (part ∷ []) = if length part == 0 then [] else part ∷ []
without_empty_last (part ∷ next ∷ parts) = part ∷ without_empty_last (next ∷ parts)

-- the lines of a trace: its parts between line feeds, without an empty last one
unfoldable pub lines_of : List ℕ → List (List ℕ)
lines_of bytes = without_empty_last (slice_split is_feed bytes)

-- the line without one carriage return at its end
abbrev pub without_return : List ℕ → List ℕ
without_return line =
    if slice_index line (length line - 1) == 13 then take (length line - 1) line else line

-- ---- What a line has

-- what the Rust value tells
abbrev pub trace_line : Line → TraceLine
trace_line l = record {
  time = l.time;
  host = l.host;
  disk = l.disk;
  kind = l.kind;
  offset = l.offset;
  size = l.size;
  response = l.response;
}

-- the first refusal, or what was read goes on
infixl 10 ◌>>=◌
abbrev pub ◌>>=◌ : {A B : Type 0} → Result A BadLine → (A → Result B BadLine) → Result B BadLine
(Ok x) >>= f = f x
(Err e) >>= f = Err e

-- the parts between commas
abbrev pub fields_of : List ℕ → List (List ℕ)
fields_of body = slice_split (λ b. b == 44) body

-- the field at a place counted from 0
abbrev pub field_at : List (List ℕ) → ℕ → Result (List ℕ) BadLine
field_at fields at = ok_or (slice_get fields at) bad.FieldCount

-- the number in the field with this name, which counts from 1
unfoldable pub number_in : List (List ℕ) → ℕ → ℕ → Result ℕ BadLine
number_in fields at name = field_at fields at >>= λ f. ok_or (number_of f) (bad.Number name)

unfoldable pub disk_in : List (List ℕ) → Result ℕ BadLine
disk_in fields =
    number_in fields 2 3 >>= λ n. if nat_lt n (2 ^ 32) then Ok n else Err (bad.Number 3)

unfoldable pub kind_in : List (List ℕ) → Result Kind BadLine
kind_in fields = field_at fields 3 >>= λ f. if bytes_eq f (codes "Read") then Ok kind.Read
    else if bytes_eq f (codes "Write") then Ok kind.Write else Err bad.Kind

-- seven fields are a line
unfoldable pub line_in : List (List ℕ) → Result TraceLine BadLine
line_in fields =
    if not (length fields == 7) then Err bad.FieldCount
    else number_in fields 0 1 >>= λ time.
    disk_in fields >>= λ disk.
    kind_in fields >>= λ kind.
    number_in fields 4 5 >>= λ offset.
    number_in fields 5 6 >>= λ size.
    number_in fields 6 7 >>= λ response.
    if nat_lt 67108864 size then Err bad.TooLarge
    else (if nat_le (2 ^ 64) (offset + size) then Err bad.PastEnd
    else (field_at fields 1 >>= λ host.
    Ok (record {
      time = time;
      host = host;
      disk = disk;
      kind = kind;
      offset = offset;
      size = size;
      response = response;
    })))

-- a quotation mark or a carriage return
abbrev pub is_mark : ℕ → Bool
is_mark b = (b == 34) || (b == 13)

-- a line without its carriage return: it is blank, or no mark stands in it and its fields are read
unfoldable pub body_of : List ℕ → Result (Option TraceLine) BadLine
body_of body =
    if length body == 0 then Ok None
    else (if list_any is_mark body then Err bad.Quote
    else (line_in (fields_of body) >>= λ line. Ok (Some line)))

-- what a line is read as, without its line feed: nothing where it is blank, what it has, or the
-- first refusal
unfoldable pub read_of : List ℕ → Result (Option TraceLine) BadLine
read_of line =
    if nat_lt 4096 (length line) then Err bad.LineTooLong else body_of (without_return line)

-- a line's bounds: its size is at most 2^26 bytes, and it ends at or before byte 2^64 - 1
pub record Fits (l : TraceLine) : Type 0 where
  pub size : l.size ≤ 67108864
  pub end : l.offset + l.size < 2 ^ 64

-- ---- What a function answers

abbrev pub Fails : {Y : Type 0} → LineFault → Result Y BadLine → Type 0
Fails fault.NoMemory read = ⊤
Fails (fault.Bad why) read = read ≡ Err why

-- the answer, seen by view, is what reading gives, unless memory ran out
abbrev pub Gives : {X Y : Type 0} → (X → Y) → Result X LineFault → Result Y BadLine → Type 0
Gives view (Ok x) read = read ≡ Ok (view x)
Gives view (Err e) read = Fails e read
