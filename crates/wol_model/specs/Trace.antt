-- Traces: the requests that their lines ask for, what a plain array answers them, and the windows
-- that lines are served in.
use Rattle.std.specs.Prelude.{ℕ, zero, suc, ◌+◌, ◌-◌, ◌/◌, ◌%◌, ◌^◌, min, max, Bool, true, false, not, ◌&&◌, List, [], ◌∷◌, ◌++◌, Option, None, Some, is_none, length, map, take, sum_by, slice_range, slice_get, nat_lt, nat_le, if◌then◌else◌, ◌==◌, position}
use Rattle.std.specs.List.{count_by, range_with_len, flat_map, filter_map}
use Rattle.std.specs.Option.{option_map_or}
use Rattle.std.specs.Int.{w64, to_le_bytes, from_le_bytes}
use Rattle.std.specs.Str.{bytes_eq}
use Rattle.wol_disk.specs.Disk.{Block}
use Rattle.wol_model.specs.declared.trace.Kind.{Kind}
use Rattle.wol_model.specs.declared.trace.Kind.TheVariants.{Read, Write}
use Rattle.wol_model.specs.declared.trace.Piece.{Piece}
use Rattle.wol_model.specs.Blocks as blocks
use Rattle.wol_model.specs.Blocks.{after}

-- a line that isn't blank: time and response in units of 100 ns, offset and size in bytes
pub record TraceLine : Type 0 where
  pub time : ℕ
  pub host : List ℕ
  pub disk : ℕ
  pub kind : Kind
  pub offset : ℕ
  pub size : ℕ
  pub response : ℕ

-- ---- Pieces

-- a run of blocks of a volume of `home` blocks, cut where the volume ends and after each `most`
-- blocks
abbrev pub cut_run : (fuel home most first count : ℕ) → List Piece
cut_run zero home most first count = []
cut_run (suc fuel) home most first count =
    if count == 0 then []
    else let n = min count (min most (home - first)) in
    record { lbn = first; count = n } ∷ cut_run fuel home most ((first + n) % home) (count - n)

-- how many blocks the bytes of a line touch
abbrev pub blocks_touched : TraceLine → ℕ
blocks_touched l = (l.offset + l.size + 511) / 512 - l.offset / 512

-- the pieces of a line on a volume of `home` blocks, each of at most `most`
unfoldable pub pieces : (home most : ℕ) → TraceLine → List Piece
pieces home most l = if l.size == 0 then []
    else cut_run (blocks_touched l) home most (l.offset / 512 % home) (blocks_touched l)

-- ---- Payload and marks

-- what line `line` writes to block b: both numbers, 32 times
unfoldable pub payload_block : (line b : ℕ) → Block
payload_block line b =
    flat_map (λ k. to_le_bytes w64 line ++ to_le_bytes w64 b) (range_with_len 0 32)

-- the mark of a block: its first eight bytes as a number
abbrev pub block_mark : Block → ℕ
block_mark b = from_le_bytes w64 (take 8 b)

-- the mark of what a read gives
unfoldable pub mark : List Block → ℕ
mark bs = sum_by block_mark bs % 2 ^ 64

-- ---- Requests

-- a volume that a trace may name, with its number of home blocks
pub record Target : Type 0 where
  pub host : List ℕ
  pub disk : ℕ
  pub home : ℕ

-- what one piece of a line asks of a volume
pub record Request : Type 0 where
  pub line : ℕ
  pub volume : ℕ
  pub kind : Kind
  pub first : ℕ
  pub count : ℕ

-- a request of this kind is a write
abbrev pub is_write : Kind → Bool
is_write Read = false
is_write Write = true

-- how many of these requests are reads
abbrev pub read_count : List Request → ℕ
read_count rs = count_by (λ (r : Request). not (is_write r.kind)) rs

-- .. and how many are writes
abbrev pub write_count : List Request → ℕ
write_count rs = count_by (λ (r : Request). is_write r.kind) rs

-- the volume of a line, if one has its host and disk
abbrev pub volume_of : List Target → TraceLine → Option ℕ
volume_of targets l = position (λ t. bytes_eq t.host l.host && t.disk == l.disk) targets

-- a line that belongs to no volume
abbrev pub is_skipped : List Target → Option TraceLine → Bool
is_skipped targets None = false
is_skipped targets (Some l) = is_none (volume_of targets l)

-- the home blocks of volume v
abbrev pub home_of : List Target → ℕ → ℕ
home_of targets v = option_map_or (λ (t : Target). t.home) (slice_get targets v) 0

-- the requests of line `number`: one for each piece, none where the line is skipped
abbrev pub requests_on : (most : ℕ) → List Target → (number : ℕ) → TraceLine → Option ℕ
    → List Request
requests_on most targets number l None = []
requests_on most targets number l (Some v) =
    map (λ (p : Piece). record {
      line = number;
      volume = v;
      kind = l.kind;
      first = p.lbn;
      count = p.count;
    }) (pieces (home_of targets v) most l)

-- the requests of a line, by its host and disk
abbrev pub requests_of : (most : ℕ) → List Target → (number : ℕ) → TraceLine → List Request
requests_of most targets number l = requests_on most targets number l (volume_of targets l)

-- a line with its number
pub record Numbered : Type 0 where
  pub number : ℕ
  pub line : TraceLine

-- the lines that aren't blank, numbered from `next` on with the blank ones
abbrev pub numbered_from : (next : ℕ) → List (Option TraceLine) → List Numbered
numbered_from next [] = []
numbered_from next (None ∷ lines) = numbered_from (next + 1) lines
numbered_from next (Some l ∷ lines) =
    record { number = next; line = l } ∷ numbered_from (next + 1) lines

-- the requests of a trace, in order
unfoldable pub requests : (most : ℕ) → List Target → List (Option TraceLine) → List Request
requests most targets lines =
    flat_map (λ (n : Numbered). requests_of most targets n.number n.line) (numbered_from 1 lines)

-- ---- The plain answer

-- what a write request writes to its volume
abbrev pub payload : Request → blocks.Write
payload r = record {
  first = r.first;
  blocks = map (payload_block r.line) (range_with_len r.first r.count);
  version = None;
}

-- the writes of volume v among requests
abbrev pub write_to : (v : ℕ) → Request → Kind → Option blocks.Write
write_to v r Read = None
write_to v r Write = if r.volume == v then Some (payload r) else None

-- what these requests write to volume v, in order
abbrev pub payloads : (v : ℕ) → List Request → List blocks.Write
payloads v rs = filter_map (λ (r : Request). write_to v r r.kind) rs

-- the mark that a read gives: that of its range in its volume's array after the writes of the
-- earlier requests; a write gives none
abbrev pub answer : (arrays : ℕ → List Block) → (earlier : List Request) → Request → Kind → Option ℕ
answer arrays earlier r Read = Some (mark
    (slice_range (after (arrays r.volume) (payloads r.volume earlier)) r.first
    (r.first + r.count)))
answer arrays earlier r Write = None

-- the answers to requests that come after earlier ones
abbrev pub plain_after : (arrays : ℕ → List Block) → (earlier : List Request) → List Request
    → List (Option ℕ)
plain_after arrays earlier [] = []
plain_after arrays earlier (r ∷ rs) =
    answer arrays earlier r r.kind ∷ plain_after arrays (earlier ++ r ∷ []) rs

-- what plain arrays, one for each volume, answer to requests in order
unfoldable pub plain : (arrays : ℕ → List Block) → List Request → List (Option ℕ)
plain arrays rs = plain_after arrays [] rs

-- ---- Windows

-- a line with the time that it counts for
pub record Timed : Type 0 where
  pub time : ℕ
  pub number : ℕ
  pub line : TraceLine

-- a line's time is no earlier than that of the line before
abbrev pub timed_from : ℕ → List Numbered → List Timed
timed_from time [] = []
timed_from time (n ∷ lines) = record {
  time = max time n.line.time;
  number = n.number;
  line = n.line;
} ∷ timed_from (max time n.line.time) lines

-- the lines of a trace that are not blank, with their times
abbrev pub timed : List (Option TraceLine) → List Timed
timed lines = timed_from 0 (numbered_from 1 lines)

-- a window: its moment is the time of its first line
pub record Window : Type 0 where
  pub moment : ℕ
  pub pieces : ℕ
  pub lines : List Timed

-- less than a second after the first line, fewer than 4,096 lines before, and at most 65,536 pieces
-- with the further line's
abbrev pub joins : Window → Timed → (more : ℕ) → Bool
joins w l more = nat_lt l.time (w.moment + 10000000)
    && (nat_lt (length w.lines) 4096 && nat_le (w.pieces + more) 65536)

-- a window of one line
abbrev pub opened : Timed → (cost : ℕ) → Window
opened l cost = record { moment = l.time; pieces = cost; lines = l ∷ [] }

-- a window with one line more
abbrev pub joined : Window → Timed → (cost : ℕ) → Window
joined w l cost = record { moment = w.moment; pieces = w.pieces + cost; lines = w.lines ++ l ∷ [] }

-- each line joins the open window or opens the next one; `cost` is a line's number of pieces
abbrev pub windows_from : (cost : Timed → ℕ) → Window → List Timed → List Window
windows_from cost w [] = w ∷ []
windows_from cost w (l ∷ lines) =
    if joins w l (cost l) then windows_from cost (joined w l (cost l)) lines
    else w ∷ windows_from cost (opened l (cost l)) lines

-- the first line opens the first window
abbrev pub windows_by : (cost : Timed → ℕ) → List Timed → List Window
windows_by cost [] = []
windows_by cost (l ∷ lines) = windows_from cost (opened l (cost l)) lines

-- the number of pieces of a line
abbrev pub pieces_of : (most : ℕ) → List Target → Timed → ℕ
pieces_of most targets l = length (requests_of most targets l.number l.line)

-- the windows of a trace
unfoldable pub windows : (most : ℕ) → List Target → List (Option TraceLine) → List Window
windows most targets lines = windows_by (pieces_of most targets) (timed lines)

-- the account of a trace begins with its first line and ends with its last
abbrev pub last_time : ℕ → List Timed → ℕ
last_time time [] = time
last_time time (l ∷ lines) = last_time l.time lines

-- the time of the first line, and 0 where there is none
abbrev pub started : List Timed → ℕ
started [] = 0
started (l ∷ lines) = l.time

-- the time of the last line
abbrev pub ended : List Timed → ℕ
ended lines = last_time 0 lines
