-- What becomes of the entries of an index: blocks that are home now, blocks that are given up, and
-- segments that go with all their records.
use Rattle.std.specs.Prelude.{◌≡◌, ◌&&◌, ◌||◌, ℕ, Bool, true, false, not, ◌==◌, List, filter, Option, None, if◌then◌else◌}
use Rattle.std.specs.List.{AllByRecursion}
use Rattle.wol_disk.specs.Disk.{Block}
use Rattle.wol_model.specs.Blocks.{block_of}
use Rattle.wol_model.specs.Index.{Indexed, cover_of, goes, listed_in, homing, is_live, keeping, keeps_a_block}
use Rattle.block_cells.specs.Masks.{in_mask}
use Rattle.redirect_map.specs.Index.{changed}

-- what blocks from block `first` on have for block b, where it is in the mask: bit i of the mask is
-- block `first + i`
abbrev pub put_block : (first mask : ℕ) → List Block → (b : ℕ) → Option Block
put_block first mask blocks b = if in_mask first mask b then block_of first blocks b else None

-- the blocks of the mask become homed
abbrev pub with_put : (mask : ℕ) → Indexed → Indexed
with_put mask e = record e { listed = homing (in_mask e.listed.first mask) e.listed }

-- the blocks that go are given up
abbrev pub with_kept : List Indexed → Indexed → Indexed
with_kept es e = record e { listed = keeping (listed_in es) e.listed }

-- the entries once this version's record gave up what goes: it is gone where it keeps nothing
abbrev pub given_of : (version : ℕ) → List Indexed → List Indexed
given_of version es = filter (λ e. keeps_a_block e.listed) (changed version (with_kept es) es)

-- the entry doesn't lie in the segment of this index of this lane
abbrev pub lies_elsewhere : (lane index : ℕ) → Indexed → Bool
lies_elsewhere lane index e = not (e.listed.lane == lane && e.index == index)

-- no record in the segment has a live block
abbrev pub NoneLiveIn : (lane index : ℕ) → List Indexed → Type 0
NoneLiveIn lane index es = AllByRecursion
    (λ e. lies_elsewhere lane index e ≡ false → (b : ℕ) → is_live (listed_in es) e.listed b ≡ false)
    es

-- where the entry lies in the segment of this index of this lane, all that it keeps may go
abbrev pub GoesIn : (lane index : ℕ) → List Indexed → Indexed → Type 0
GoesIn lane index es e = lies_elsewhere lane index e ≡ false → (b : ℕ)
    → (cover_of e.listed).covers b ≡ true → goes (listed_in es) e.listed b ≡ true

-- all that each record in the segment keeps may go: so the segment may go whole
abbrev pub AllGoIn : (lane index : ℕ) → List Indexed → Type 0
AllGoIn lane index es = AllByRecursion (GoesIn lane index es) es

-- the entry doesn't lie there, or has another version
abbrev pub stays_behind : (lane index version : ℕ) → Indexed → Bool
stays_behind lane index version e = lies_elsewhere lane index e || not (e.listed.version == version)
