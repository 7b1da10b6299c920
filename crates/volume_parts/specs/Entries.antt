-- Entries of an index: where they lie, and where they are read.
use Rattle.std.specs.Prelude.{◌≡◌, ◌<◌, ◌≤◌, ◌+◌, ◌==◌, ◌&&◌, ℕ, List, length, Contains, Bool, not, Option}
use Rattle.std.specs.List.{AllByRecursion, count_by, list_any, range_with_len}
use Rattle.wol_model.specs.Index.{Indexed, Listed, is_covered}
use Rattle.wol_model.specs.Extents.{newest}
use Rattle.wol_promise.specs.Policy.{has_newest_on}
use Rattle.block_cells.specs.declared.record.Rec.{Rec}
use Rattle.redirect_map.specs.Index.{cover_at, IsAnswer}

-- how many entries of the index lie in the segment of this index of the lane at place k
abbrev pub entries_at : (k index : ℕ) → List Indexed → ℕ
entries_at k index es = count_by (λ (e : Indexed). e.listed.lane == k && e.index == index) es

-- an entry of the index has a version, and lies in the volume
pub record IsInVolume (size : ℕ) (e : Indexed) : Type 0 where
  pub least : 1 ≤ e.listed.version
  pub lies : e.listed.first + length e.listed.keep ≤ size

-- the record stands where it stood: it has the same version, first block, lane, segment and
-- position
pub record StandsAt (old e : Indexed) : Type 0 where
  pub version : e.listed.version ≡ old.listed.version
  pub first : e.listed.first ≡ old.listed.first
  pub lane : e.listed.lane ≡ old.listed.lane
  pub index : e.index ≡ old.index
  pub pos : e.pos ≡ old.pos

-- each record of a version below this one stands where one of these places is
abbrev pub AreStill : (places : List Indexed) → (next : ℕ) → List Indexed → Type 0
AreStill places next es = AllByRecursion
    (λ e. e.listed.version < next → (old : Indexed) × Contains places old × StandsAt old e) es

-- this is where each block of the range is read: in its newest record, or at home where there is
-- none
abbrev pub IsSource : List Indexed → (first count : ℕ) → Option Rec → Type 0
IsSource es first count source =
    (b : ℕ) → first ≤ b → b < first + count → IsAnswer (newest cover_at es b) source

-- a block of the range isn't covered
abbrev pub reads_home : List Listed → (first count : ℕ) → Bool
reads_home es first count = list_any (λ b. not (is_covered es b)) (range_with_len first count)

-- the newest record of a block of the range is on this lane's logger
abbrev pub reads_lane : List Listed → (lane first count : ℕ) → Bool
reads_lane es lane first count = list_any (has_newest_on es lane) (range_with_len first count)
