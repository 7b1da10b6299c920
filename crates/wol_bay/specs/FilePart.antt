-- A part of a file, as callers see it: it tells nothing of its content, so nothing is an image of
-- it.
use Rattle.std.specs.Prelude.{◌≡◌, List, Option, None, Some, IsTrue}
use Rattle.std.proofs.Common.{ap, true, false, is_some}
use Rattle.wol_disk.specs.Disk.{Block, Values, State, IsDisk, TellsContent}
use Rattle.wol_bay.specs.declared.files.FilePart.{FilePart}

abbrev pub file_part_state : FilePart → State
file_part_state p =
    record { values = None; size = p.blocks; clock = 0; since = λ t c. ⊥; faults = p.faults }

none_is_some : (vs : List (Values Block)) → None ≡ Some vs → ⊥
none_is_some vs e =
    let f : false ≡ true = ap (λ (o : Option (List (Values Block))). is_some o) e in cc

pub file_part_sound : (p : FilePart) → IsDisk (file_part_state p)
file_part_sound p = record {
  small = p.small;
  each_block = λ vs e.
      absurd (none_is_some vs e);
  counts_now = λ t c le i. i;
  only_now = λ c i. i;
}

pub file_part_told : IsTrue false → (p : FilePart) → TellsContent (file_part_state p)
file_part_told is p = absurd (let e : false ≡ true = is in cc)
