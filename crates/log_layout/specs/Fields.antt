-- What stands at the places of a block's fields, whatever the block is.
use Rattle.std.specs.Prelude.{ℕ, ◌-◌, ◌^◌, ◌==◌, if◌then◌else◌, List, drop, slice_index}
use Rattle.byteorder.specs.Endian.{little_number}
use Rattle.log_layout.specs.declared.label.Label.{Label}
use Rattle.log_layout.specs.declared.record.RecHead.{RecHead}

abbrev pub label_at : List ℕ → Label
label_at b = record {
  id = little_number 4 (drop 8 b);
  home = little_number 8 (drop 12 b);
  segments = little_number 4 (drop 20 b);
  segment_blocks = little_number 4 (drop 24 b);
}

-- the first form keeps all blocks where its state is 1, and else none
abbrev pub record_at : List ℕ → RecHead
record_at b = record {
  form = if slice_index b 7 == 49 then 1 else 2;
  keep = if slice_index b 7 == 49 then (if little_number 4 (drop 8 b) == 1
      then 2 ^ little_number 4 (drop 32 b) - 1 else 0) else little_number 16 (drop 36 b);
  owner = little_number 4 (drop 12 b);
  version = little_number 8 (drop 16 b);
  lbn = little_number 8 (drop 24 b);
  count = little_number 4 (drop 32 b);
}
