-- The history of a volume, and what a stop may leave.
use Rattle.std.specs.Prelude.{⊤, ◌≡◌, ◌≢◌, ℕ, ◌+◌, ◌<◌, ◌≤◌, List, [], ◌∷◌, ◌++◌, Option, None, Some, map, length, take, unwrap_or, slice_range}
use Rattle.std.specs.List.{flat_map, AllByRecursion}
use Rattle.wol_disk.specs.Disk.{Block, IsBlend}
use Rattle.wol_model.specs.Blocks.{Write, after}

-- what a turn of a pass did: it wrote, it read, it left the content as it was, or a disk call
-- failed
pub data Operation : Type 0 where
  Wrote : (writes : List Write) → Operation
  Read : (first : ℕ) (reply : List Block) → Operation
  Kept : Operation
  -- with the writes that were in flight
  Broke : (writes : List Write) → Operation

-- an operation with the number of the pass that did it
pub record Entry : Type 0 where
  pub pass : ℕ
  pub operation : Operation

-- the pass that serves requests: a volume's one client
abbrev pub worker : ℕ
worker = 0

-- the pass that reclaims beside the worker
abbrev pub helper : ℕ
helper = 1

-- the pass that begins windows
abbrev pub keeper : ℕ
keeper = 2

-- the writes that an operation acknowledges
abbrev pub written_by : Operation → List Write
written_by (Wrote ws) = ws
written_by (Read first reply) = []
written_by Kept = []
written_by (Broke ws) = []

-- the acknowledged writes
abbrev pub writes : List Entry → List Write
writes entries = flat_map (λ e. written_by e.operation) entries

-- a reply is that range of the array, and a write isn't empty
abbrev pub IsLegalNext : List Block → Operation → Type 0
IsLegalNext a (Read first reply) = reply ≡ slice_range a first (first + length reply)
IsLegalNext a (Wrote ws) = 0 < length ws
IsLegalNext a Kept = ⊤
IsLegalNext a (Broke ws) = ⊤

-- so is each one, of the array after the writes before it
abbrev pub AreLegalNext : List Block → List Entry → Type 0
AreLegalNext a [] = ⊤
AreLegalNext a (e ∷ entries) =
    IsLegalNext a e.operation × AreLegalNext (after a (written_by e.operation)) entries

-- an operation that leaves the content as it was
abbrev pub IsKept : Operation → Type 0
IsKept Kept = ⊤
IsKept (Wrote ws) = ⊥
IsKept (Read first reply) = ⊥
IsKept (Broke ws) = ⊥

-- at most one entry is a Broke, and only Kept follows it
abbrev pub BreaksOnce : List Operation → Type 0
BreaksOnce [] = ⊤
BreaksOnce (Broke ws ∷ rest) = AllByRecursion IsKept rest
BreaksOnce (Wrote ws ∷ rest) = BreaksOnce rest
BreaksOnce (Read first reply ∷ rest) = BreaksOnce rest
BreaksOnce (Kept ∷ rest) = BreaksOnce rest

-- what passes other than the worker's may do
abbrev pub IsHelp : Operation → Type 0
IsHelp Kept = ⊤
IsHelp (Broke ws) = ws ≡ []
IsHelp (Wrote ws) = ⊥
IsHelp (Read first reply) = ⊥

-- a history that a volume with this array at its beginning may have
pub record IsLegal (a : List Block) (entries : List Entry) : Type 0 where
  pub replies : AreLegalNext a entries
  pub breaks : BreaksOnce (map (λ e. e.operation) entries)
  pub helpers : AllByRecursion (λ e. e.pass ≢ worker → IsHelp e.operation) entries

-- x is the array after the writes and some first ones of those in flight,
-- or some blocks of the one that was in flight, which goes home
pub data IsCut (a : List Block) (ws flight : List Write) (x : List Block) : Type 0 where
  whole : (k : ℕ) → k ≤ length flight → x ≡ after a (ws ++ take k flight) → IsCut a ws flight x
  torn : (w : Write) → flight ≡ w ∷ [] → w.version ≡ None
      → IsBlend (after a ws) (after a (ws ++ w ∷ [])) x → IsCut a ws flight x

-- the writes that were in flight when a disk call failed, if one did
abbrev pub flight_from : Operation → Option (List Write) → Option (List Write)
flight_from (Broke ws) rest = Some ws
flight_from (Wrote ws) rest = rest
flight_from (Read first reply) rest = rest
flight_from Kept rest = rest

-- the same of a history
abbrev pub flight_of : List Entry → Option (List Write)
flight_of [] = None
flight_of (e ∷ entries) = flight_from e.operation (flight_of entries)

-- the writes that were in flight when a call of a disk failed; none where none did
abbrev pub in_flight : List Entry → List Write
in_flight entries = unwrap_or (flight_of entries) []
