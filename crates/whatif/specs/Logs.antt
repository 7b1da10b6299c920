-- What a volume has in logs: how many blocks its records keep, and the segments in which they lie.
use Rattle.std.specs.Prelude.{ℕ, ◌+◌, ◌-◌, Bool, not, nat_le, ◌==◌, List, [], ◌∷◌, ◌++◌, Option, None, Some, if◌then◌else◌}
use Rattle.std.specs.List.{filter, list_any}
use Rattle.whatif.specs.declared.store.Given.{Given}

-- a segment: the blocks left in it, and the versions of its records
pub record Segment : Type 0 where
  pub left : ℕ
  pub records : List ℕ

-- what a volume has on one disk: the blocks that its records keep there, and its segments
pub record Shelf : Type 0 where
  pub kept : ℕ
  pub segments : List Segment

-- what it has on all disks, by their numbers, where a segment has `whole` blocks
pub record Store : Type 0 where
  pub whole : ℕ
  pub kept : ℕ
  pub shelf : ℕ → Shelf

abbrev pub no_shelf : Shelf
no_shelf = record { kept = 0; segments = [] }

abbrev pub first_store : (whole : ℕ) → Store
first_store whole = record { whole = whole; kept = 0; shelf = λ d. no_shelf }

-- ---- A record comes

-- a record with its head takes so many blocks of a segment
abbrev pub taking : (size version : ℕ) → Segment → Segment
taking size version s = record { left = s.left - size; records = s.records ++ version ∷ [] }

-- a segment of which one block is its own head
abbrev pub new_segment : (whole : ℕ) → Segment
new_segment whole = record { left = whole - 1; records = [] }

-- the record goes into the first segment that has as many blocks left; where there is none, into a
-- new one behind the others
abbrev pub filed : (whole size version : ℕ) → List Segment → List Segment
filed whole size version [] = taking size version (new_segment whole) ∷ []
filed whole size version (s ∷ ss) = if nat_le size s.left then taking size version s ∷ ss
    else s ∷ filed whole size version ss

abbrev pub filing : (whole count version : ℕ) → Shelf → Shelf
filing whole count version h = record {
  kept = h.kept + count;
  segments = filed whole (count + 1) version h.segments;
}

-- ---- A record gives blocks up

abbrev pub has_record : (version : ℕ) → Segment → Bool
has_record version s = list_any (λ r. r == version) s.records

-- a segment with these records, if it has any
abbrev pub if_some : (left : ℕ) → (records : List ℕ) → List Segment
if_some left [] = []
if_some left (r ∷ rs) = record { left = left; records = r ∷ rs } ∷ []

-- the record leaves its segment, and with its last record the segment is gone
abbrev pub cleared : (version : ℕ) → List Segment → List Segment
cleared version [] = []
cleared version (s ∷ ss) = if has_record version s
    then if_some s.left (filter (λ r. not (r == version)) s.records) ++ ss
    else s ∷ cleared version ss

abbrev pub giving : Given → Shelf → Shelf
giving g h = record {
  kept = h.kept - g.blocks;
  segments = if g.gone then cleared g.version h.segments else h.segments;
}

-- ---- What an action does

-- a new record of so many blocks comes to a disk, or one gives up blocks
pub data Move : Type 0 where
  Files : (disk version count : ℕ) → Move
  Gives : Given → Move

-- what is on one disk changes
abbrev pub shelf_changed : (disk : ℕ) → (Shelf → Shelf) → (ℕ → Shelf) → ℕ → Shelf
shelf_changed disk f shelf d = if d == disk then f (shelf d) else shelf d

abbrev pub moved : Move → Store → Store
moved (Files disk version count) s = record s {
  kept = s.kept + count;
  shelf = shelf_changed disk (filing s.whole count version) s.shelf;
}
moved (Gives g) s = record s {
  kept = s.kept - g.blocks;
  shelf = shelf_changed g.disk (giving g) s.shelf;
}

abbrev pub all_moved : List Move → Store → Store
all_moved [] s = s
all_moved (m ∷ ms) s = all_moved ms (moved m s)

-- the disk to which a new record comes, if one does
abbrev pub filed_on : List Move → Option ℕ
filed_on [] = None
filed_on (Files disk version count ∷ ms) = Some disk
filed_on (Gives g ∷ ms) = filed_on ms
