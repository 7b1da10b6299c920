-- An entry with its notes as a list of numbers, for the history of a lock, and back.
use Rattle.std.specs.Prelude.{◌≡◌, ℕ, zero, suc, Bool, true, false, List, [], ◌∷◌, ◌++◌, Option, None, Some, length, unwrap_or, if◌then◌else◌, ◌==◌}
use Rattle.std.specs.List.{flat_map}
use Rattle.std.specs.Option.{option_map, option_and_then}
use Rattle.wol_disk.specs.Disk.{Block}
use Rattle.wol_model.specs.Blocks.{Write}
use Rattle.wol_model.specs.History.{Operation, Wrote, Read, Kept, Broke}
use Rattle.wol_model.specs.Index.{Listed}
use Rattle.wol_promise.specs.Policy.{Look, PartName, HomePart, SegmentPart}
use Rattle.wol_promise.specs.Ruled.{Noted}

-- ---- Writing

-- a list with its length in front
abbrev pub list_code : {X : Type 0} → (X → List ℕ) → List X → List ℕ
list_code code xs = length xs ∷ flat_map code xs

-- a number stands for itself
abbrev pub number_code : ℕ → List ℕ
number_code n = n ∷ []

-- 1 or 0
abbrev pub flag_code : Bool → List ℕ
flag_code true = 1 ∷ []
flag_code false = 0 ∷ []

-- a block's bytes with their number
abbrev pub block_code : Block → List ℕ
block_code b = list_code number_code b

-- 0, or 1 and the version
abbrev pub version_code : Option ℕ → List ℕ
version_code None = 0 ∷ []
version_code (Some v) = 1 ∷ v ∷ []

-- first block, version, blocks
abbrev pub write_code : Write → List ℕ
write_code w = w.first ∷ (version_code w.version ++ list_code block_code w.blocks)

-- 1 wrote, 2 read, 3 kept, 4 broke
abbrev pub operation_code : Operation → List ℕ
operation_code (Wrote ws) = 1 ∷ list_code write_code ws
operation_code (Read first reply) = 2 ∷ first ∷ list_code block_code reply
operation_code Kept = 3 ∷ []
operation_code (Broke ws) = 4 ∷ list_code write_code ws

-- version, first block, lane, kept and homed blocks
abbrev pub listed_code : Listed → List ℕ
listed_code e =
    e.version ∷ e.first ∷ e.lane ∷ (list_code flag_code e.keep ++ list_code flag_code e.homed)

-- 0, 1 for home, or 2, logger and index
abbrev pub part_code : Option PartName → List ℕ
part_code None = 0 ∷ []
part_code (Some HomePart) = 1 ∷ []
part_code (Some (SegmentPart logger index)) = 2 ∷ logger ∷ index ∷ []

-- next version, flags, part, records
abbrev pub look_code : Look → List ℕ
look_code l = l.next ∷ (flag_code l.home_up
    ++ (list_code flag_code l.ups ++ (part_code l.down ++ list_code listed_code l.listed)))

-- all of an entry but the pass
unfoldable pub code_of : Noted → List ℕ
code_of n = operation_code n.entry.operation
    ++ (look_code n.look
    ++ (list_code number_code n.passed ++ (flag_code n.after_drain ++ flag_code n.ruled)))

-- ---- Reading: a value and what follows it

-- a value at the front of a code, and the rest of it
abbrev pub Reader : Type 0 → Type 0
Reader X = List ℕ → Option (X × List ℕ)

-- n values, one after the other
abbrev pub read_many : {X : Type 0} → Reader X → (n : ℕ) → Reader (List X)
read_many read zero code = Some ([], code)
read_many read (suc n) code =
    option_and_then (λ x. option_map (λ xs. (x.0 ∷ xs.0, xs.1)) (read_many read n x.1)) (read code)

-- a list with its length in front
abbrev pub read_list : {X : Type 0} → Reader X → Reader (List X)
read_list read [] = None
read_list read (n ∷ code) = read_many read n code

-- a number
abbrev pub read_number : Reader ℕ
read_number [] = None
read_number (n ∷ code) = Some (n, code)

-- a flag
abbrev pub read_flag : Reader Bool
read_flag [] = None
read_flag (n ∷ code) = Some (n == 1, code)

-- a block
abbrev pub read_block : Reader Block
read_block code = read_list read_number code

-- a version or none
abbrev pub read_version : Reader (Option ℕ)
read_version [] = None
read_version (tag ∷ code) =
    if tag == 1 then option_map (λ v. (Some v.0, v.1)) (read_number code) else Some (None, code)

-- a write
abbrev pub read_write : Reader Write
read_write code =
    option_and_then (λ first. option_and_then
    (λ version. option_map
    (λ blocks. (record { first = first.0; blocks = blocks.0; version = version.0 }, blocks.1))
    (read_list read_block version.1)) (read_version first.1)) (read_number code)

-- writes
abbrev pub read_writes : Reader (List Write)
read_writes code = read_list read_write code

-- a read with its reply
abbrev pub read_reply : Reader Operation
read_reply code = option_and_then (λ first.
    option_map (λ reply. (Read first.0 reply.0, reply.1)) (read_list read_block first.1))
    (read_number code)

-- an operation, by its first number
abbrev pub read_operation : Reader Operation
read_operation [] = None
read_operation (tag ∷ code) =
    if tag == 1 then option_map (λ ws. (Wrote ws.0, ws.1)) (read_writes code)
    else (if tag == 2 then read_reply code
    else (if tag == 4 then option_map (λ ws. (Broke ws.0, ws.1)) (read_writes code)
    else Some (Kept, code)))

-- a listed record
abbrev pub read_listed : Reader Listed
read_listed code =
    option_and_then (λ version.
    option_and_then
    (λ first. option_and_then (λ lane. option_and_then (λ keep. option_map (λ homed. (
      record {
        version = version.0;
        first = first.0;
        keep = keep.0;
        lane = lane.0;
        homed = homed.0;
      },
      homed.1,
    ))
    (read_list read_flag keep.1)) (read_list read_flag
    lane.1)) (read_number first.1)) (read_number version.1)) (read_number code)

-- a part or none
abbrev pub read_part : Reader (Option PartName)
read_part [] = None
read_part (tag ∷ code) =
    if tag == 1 then Some (Some HomePart, code)
    else (if tag == 2 then option_and_then
    (λ logger. option_map (λ index. (Some (SegmentPart logger.0 index.0), index.1))
    (read_number logger.1)) (read_number code)
    else Some (None, code))

-- a look
abbrev pub read_look : Reader Look
read_look code =
    option_and_then (λ next. option_and_then
    (λ home_up. option_and_then (λ ups. option_and_then (λ down. option_map (λ listed. (
      record { home_up = home_up.0; ups = ups.0; next = next.0; listed = listed.0; down = down.0 },
      listed.1,
    ))
    (read_list read_listed down.1)) (read_part
    ups.1)) (read_list read_flag home_up.1)) (read_flag next.1)) (read_number code)

-- an entry of this pass with its notes
abbrev pub read_noted : (pass : ℕ) → Reader Noted
read_noted pass code =
    option_and_then (λ operation. option_and_then
    (λ look. option_and_then (λ passed. option_and_then (λ after_drain. option_map (λ ruled. (
      record {
        entry = record { pass = pass; operation = operation.0 };
        look = look.0;
        passed = passed.0;
        after_drain = after_drain.0;
        ruled = ruled.0;
      },
      ruled.1,
    ))
    (read_flag after_drain.1)) (read_flag
    passed.1)) (read_list read_number look.1)) (read_look operation.1)) (read_operation code)

-- what stands for nothing
abbrev pub no_note : (pass : ℕ) → Noted
no_note pass = record {
  entry = record { pass = pass; operation = Kept };
  look = record { home_up = false; ups = []; next = 0; listed = []; down = None };
  passed = [];
  after_drain = false;
  ruled = false;
}

-- the entry of a pass whose operation has this code
unfoldable pub noted_of : (pass : ℕ) → (code : List ℕ) → Noted
noted_of pass code = unwrap_or (option_map (λ n. n.0) (read_noted pass code)) (no_note pass)

-- ---- Laws

-- what was coded is read back, whatever follows
abbrev pub CodeReadsBack : Type 0
CodeReadsBack =
    (n : Noted) (rest : List ℕ) → read_noted n.entry.pass (code_of n ++ rest) ≡ Some (n, rest)

-- so an entry is known by its pass and its code
abbrev pub NotedBack : Type 0
NotedBack = (n : Noted) → noted_of n.entry.pass (code_of n) ≡ n
