-- The record of a disk in memory: what its blocks had after each call.
use Rattle.std.specs.Prelude.{ℕ, ◌+◌, ◌-◌, ◌%◌, ◌≤◌, nat_lt, nat_le, ◌&&◌, if◌then◌else◌, List, [], ◌∷◌, length, take, get_or, Some}
use Rattle.wol_disk.specs.Disk.{Values, Block, State, added, settled, fresh, renewed, IsImage}
use Rattle.wol_disk.specs.declared.record.Call.{Call}
use Rattle.wol_disk.specs.declared.record.Call.TheVariants.{Wrote, Synced}

abbrev pub step : Call → List (Values Block) → List (Values Block)
step (Wrote at v) vs = added at v.items vs
step Synced vs = settled vs

-- after these calls, the first of them first
abbrev pub values_after : List Call → List (Values Block) → List (Values Block)
values_after [] vs = vs
values_after (call ∷ calls) vs = values_after calls (step call vs)

abbrev pub record_state : List (Values Block) → List Call → ℕ → State
record_state start calls faults = record {
  values = Some (values_after calls start);
  size = length start;
  clock = length calls;
  since = λ t c.
      (k : ℕ) × (t ≤ k) × (k ≤ length calls) × IsImage (values_after (take k calls) start) c;
  faults = faults;
}

-- one block's values after a call
abbrev pub block_step : ℕ → Call → Values Block → Values Block
block_step i (Wrote at v) w = if nat_le at i && nat_lt (i - at) (length v.items)
    then renewed (get_or v.items (i - at) []) w else w
block_step i Synced w = fresh w.now

abbrev pub block_after : ℕ → List Call → Values Block → Values Block
block_after i [] w = w
block_after i (call ∷ calls) w = block_after i calls (block_step i call w)

-- the value at a place, the oldest at place 0
abbrev pub value_at : ℕ → Values Block → Block
value_at k w = get_or (w.now ∷ w.earlier) (length w.earlier - k) w.now

-- one image: of each block the value at the place that is chosen for it, and the last one where
-- none is
abbrev pub chosen : List ℕ → List (Values Block) → List Block
chosen choice [] = []
chosen [] (w ∷ ws) = w.now ∷ chosen [] ws
chosen (c ∷ cs) (w ∷ ws) = value_at (c % (length w.earlier + 1)) w ∷ chosen cs ws
