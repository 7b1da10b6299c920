-- Two valid records of one version on block 0, the first's block being home: the first may go by the rule, and then the second's block is recovered.
-- So that giving up changes nothing needs the premise that no two valid records have one version.
use Rattle.std.proofs.Common.{◌≡◌, true, ℕ, [], ◌∷◌, refl}
use Rattle.wol_model.specs.Extents.{Extent, marked, may_go, covers_of, newest_block, with_extents}
use Rattle.wol_model.proofs.Cells.{cells}

abbrev of_version_5 : ℕ → Extent
of_version_5 x = record { cover = record { version = 5; covers = marked 0 (true ∷ []) }; first = 0; blocks = cells (x ∷ []) }

first_may_go : may_go (covers_of (of_version_5 1 ∷ of_version_5 2 ∷ [])) (λ b. true) (record { version = 5; covers = marked 0 (true ∷ []) }) 0 ≡ true
first_may_go = refl

with_both : with_extents (cells (1 ∷ [])) (of_version_5 1 ∷ of_version_5 2 ∷ []) ≡ cells (1 ∷ [])
unfolding with_extents newest_block
with_both = refl

with_one : with_extents (cells (1 ∷ [])) (of_version_5 2 ∷ []) ≡ cells (2 ∷ [])
unfolding with_extents newest_block
with_one = refl
