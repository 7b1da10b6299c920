-- Block 5 is fetched from version 1 and then written again as version 2: what was fetched is due no more.
use Rattle.std.proofs.Common.{◌≡◌, ℕ, true, false, [], ◌∷◌, map, refl}
use Rattle.wol_model.specs.Extents.{newest_block, with_extents}
use Rattle.wol_model.specs.Index.{Listed, is_due, cover_of}
use Rattle.wol_model.proofs.Cells.{cells}

abbrev one_block : ℕ → Listed
one_block version = record { version = version; first = 5; keep = true ∷ []; lane = 0; homed = false ∷ [] }

not_due : map (λ (e : Listed). is_due (one_block 1 ∷ one_block 2 ∷ []) e 5) (one_block 1 ∷ one_block 2 ∷ []) ≡ false ∷ true ∷ []
not_due = refl

-- and a read gives what was written last
reads_newest : with_extents (cells (0 ∷ 0 ∷ 0 ∷ 0 ∷ 0 ∷ 0 ∷ [])) (record { cover = cover_of (one_block 1); first = 5; blocks = cells (1 ∷ []) } ∷ record { cover = cover_of (one_block 2); first = 5; blocks = cells (2 ∷ []) } ∷ [])
    ≡ cells (0 ∷ 0 ∷ 0 ∷ 0 ∷ 0 ∷ 2 ∷ [])
unfolding with_extents newest_block
reads_newest = refl
