-- Two off-loads that overlap, of blocks 1 to 4 and then of blocks 2 and 3: what is live, due and may go, before anything is home and after.
-- The first record then keeps a part of its blocks.
use Rattle.std.proofs.Common.{◌≡◌, ℕ, Bool, true, false, List, [], ◌∷◌, map, Some, refl}
use Rattle.std.specs.Prelude.{replicate}
use Rattle.wol_model.specs.Blocks.{after}
use Rattle.wol_model.specs.Extents.{newest_block, with_extents}
use Rattle.wol_model.specs.Heads.{RecordHead, head_block, owned_block, gate_block}
use Rattle.wol_model.specs.Index.{Listed, is_covered, is_live, is_due, goes, has_due, has_going, homing, keeping, left}
use Rattle.wol_model.specs.Log.{Record, marks_of, position_of, end_of}
use Rattle.wol_model.specs.Recovered.{fields_of, spelled_head, read_log, extents_in, recovered}
use Rattle.wol_model.proofs.Cells.{cells}

-- the two records in a segment of 16 blocks
abbrev head : ℕ → ℕ → ℕ → ℕ → RecordHead
head version first count mask = record { form = 2; owner = 0; version = version; first = first; count = count; mask = mask }

abbrev first_record : (mask : ℕ) → Record
first_record mask = record { head = head 1 1 4 mask; blocks = cells (11 ∷ 12 ∷ 13 ∷ 14 ∷ []) }

abbrev second_record : Record
second_record = record { head = head 2 2 2 3; blocks = cells (22 ∷ 23 ∷ []) }

abbrev both : (mask : ℕ) → List Record
both mask = first_record mask ∷ second_record ∷ []

positions : map (position_of (both 15)) (0 ∷ 1 ∷ []) ≡ 1 ∷ 6 ∷ []
positions = refl

end_is : end_of (both 15) ≡ 9
end_is = refl

abbrev segment : (mask : ℕ) → List (List ℕ)
segment mask =
    owned_block 0
    ∷ head_block (head 1 1 4 mask) ∷ (11 ∷ []) ∷ (12 ∷ []) ∷ (13 ∷ []) ∷ (14 ∷ [])
    ∷ head_block (head 2 2 2 3) ∷ (22 ∷ []) ∷ (23 ∷ [])
    ∷ gate_block ∷ replicate 6 gate_block

read_whole : read_log 0 (segment 15) ≡ Some (both 15)
unfolding spelled_head fields_of head_block owned_block gate_block read_log
read_whole = refl

-- the first keeps its blocks 1 and 4 alone: mask 9
read_in_part : read_log 0 (segment 9) ≡ Some (both 9)
unfolding spelled_head fields_of head_block owned_block gate_block read_log
read_in_part = refl

abbrev home : List (List ℕ)
home = cells (0 ∷ 1 ∷ 2 ∷ 3 ∷ 4 ∷ 5 ∷ [])

-- the same array is recovered
from_whole : recovered 0 home (segment 15 ∷ []) ≡ cells (0 ∷ 11 ∷ 22 ∷ 23 ∷ 14 ∷ 5 ∷ [])
unfolding spelled_head fields_of head_block owned_block gate_block recovered with_extents newest_block extents_in read_log
from_whole = refl

from_part : recovered 0 home (segment 9 ∷ []) ≡ cells (0 ∷ 11 ∷ 22 ∷ 23 ∷ 14 ∷ 5 ∷ [])
unfolding spelled_head fields_of head_block owned_block gate_block recovered with_extents newest_block extents_in read_log
from_part = refl

written : after home (record { first = 1; blocks = cells (11 ∷ 12 ∷ 13 ∷ 14 ∷ []); version = Some 1 } ∷ record { first = 2; blocks = cells (22 ∷ 23 ∷ []); version = Some 2 } ∷ [])
    ≡ cells (0 ∷ 11 ∷ 22 ∷ 23 ∷ 14 ∷ 5 ∷ [])
unfolding after
written = refl

-- the same records in an index
abbrev listed : ℕ → ℕ → ℕ → Listed
listed version first count = record { version = version; first = first; keep = replicate count true; lane = 0; homed = replicate count false }

abbrev before : List Listed
before = listed 1 1 4 ∷ listed 2 2 2 ∷ []

-- live: blocks 1 and 4 of the first, mask 9, and both blocks of the second, mask 3
abbrev among : (List Listed → Listed → ℕ → Bool) → List Listed → List (List Bool)
among test es = map (λ (e : Listed). map (test es e) (1 ∷ 2 ∷ 3 ∷ 4 ∷ [])) es

live : among is_live before ≡ (true ∷ false ∷ false ∷ true ∷ []) ∷ (false ∷ true ∷ true ∷ false ∷ []) ∷ []
live = refl

live_masks : map (λ (e : Listed). map (is_live before e) (1 ∷ 2 ∷ 3 ∷ 4 ∷ [])) (listed 1 1 4 ∷ []) ≡ marks_of 4 9 ∷ []
live_masks = refl

due : among is_due before ≡ among is_live before
due = refl

-- before anything is home the first may give up its middle blocks, mask 6, and the second none
going : among goes before ≡ (false ∷ true ∷ true ∷ false ∷ []) ∷ (false ∷ false ∷ false ∷ false ∷ []) ∷ []
going = refl

left_to_do : left before ≡ 10
left_to_do = refl

-- it keeps its ends then, the blocks are covered still, and nothing more may go
abbrev trimmed : List Listed
trimmed = map (keeping before) before

keeps_ends : map (λ (e : Listed). e.keep) trimmed ≡ marks_of 4 9 ∷ marks_of 2 3 ∷ []
keeps_ends = refl

covered_still : map (is_covered trimmed) (1 ∷ 2 ∷ 3 ∷ 4 ∷ []) ≡ true ∷ true ∷ true ∷ true ∷ []
covered_still = refl

nothing_more : map (has_going trimmed) trimmed ≡ false ∷ false ∷ []
nothing_more = refl

left_then : left trimmed ≡ 8
left_then = refl

-- once all is home, the first goes whole; the second may go only when the first is gone
abbrev all_home : List Listed → List Listed
all_home es = map (λ (e : Listed). homing (is_live es e) e) es

none_due : map (has_due (all_home before)) (all_home before) ≡ false ∷ false ∷ []
none_due = refl

first_goes : among goes (all_home before) ≡ (true ∷ true ∷ true ∷ true ∷ []) ∷ (false ∷ false ∷ false ∷ false ∷ []) ∷ []
first_goes = refl

second_goes : map (has_going (homing (λ b. true) (listed 2 2 2) ∷ [])) (homing (λ b. true) (listed 2 2 2) ∷ []) ≡ true ∷ []
second_goes = refl

-- a record kept in part that is home gives up its ends, and nothing of it is homed any more
part_goes : map (λ (e : Listed). keeping (all_home trimmed) e) (all_home trimmed)
    ≡ record { version = 1; first = 1; keep = replicate 4 false; lane = 0; homed = replicate 4 false }
    ∷ record { version = 2; first = 2; keep = replicate 2 false; lane = 0; homed = replicate 2 false } ∷ []
part_goes = refl
