-- A write home of blocks 0 to 2, stopped before its sync, leaves one of eight images.
use Rattle.std.proofs.Common.{◌≡◌, inl, inr, List, [], ◌∷◌, None, refl}
use Rattle.std.specs.List.{AllByRecursion}
use Rattle.wol_disk.specs.Disk.{Block, IsBlend}
use Rattle.wol_model.specs.Blocks.{Write, after}
use Rattle.wol_model.specs.History.{IsCut, torn}
use Rattle.wol_model.proofs.Cells.{cells}

abbrev old : List Block
old = cells (0 ∷ 1 ∷ 2 ∷ [])

abbrev write : Write
write = record { first = 0; blocks = cells (5 ∷ 6 ∷ 7 ∷ []); version = None }

new : after old (write ∷ []) ≡ cells (5 ∷ 6 ∷ 7 ∷ [])
unfolding after
new = refl

abbrev eight : List (List Block)
eight =
    cells (0 ∷ 1 ∷ 2 ∷ []) ∷ cells (0 ∷ 1 ∷ 7 ∷ []) ∷ cells (0 ∷ 6 ∷ 2 ∷ []) ∷ cells (0 ∷ 6 ∷ 7 ∷ [])
    ∷ cells (5 ∷ 1 ∷ 2 ∷ []) ∷ cells (5 ∷ 1 ∷ 7 ∷ []) ∷ cells (5 ∷ 6 ∷ 2 ∷ []) ∷ cells (5 ∷ 6 ∷ 7 ∷ []) ∷ []

-- each is a blend, and so a cut with the write in flight
blends : AllByRecursion (IsBlend old (cells (5 ∷ 6 ∷ 7 ∷ []))) eight
blends = (
  (inl refl, (inl refl, (inl refl, tt))),
  (
    (inl refl, (inl refl, (inr refl, tt))),
    (
      (inl refl, (inr refl, (inl refl, tt))),
      (
        (inl refl, (inr refl, (inr refl, tt))),
        (
          (inr refl, (inl refl, (inl refl, tt))),
          (
            (inr refl, (inl refl, (inr refl, tt))),
            (
              (inr refl, (inr refl, (inl refl, tt))),
              (
                (inr refl, (inr refl, (inr refl, tt))),
                tt,
              ),
            ),
          ),
        ),
      ),
    ),
  ),
)

cuts : AllByRecursion (IsCut old [] (write ∷ [])) eight
unfolding after
cuts = each eight blends
  where
    each : (xs : List (List Block)) → AllByRecursion (IsBlend old (cells (5 ∷ 6 ∷ 7 ∷ []))) xs → AllByRecursion (IsCut old [] (write ∷ [])) xs
    each [] all = tt
    each (x ∷ xs) all = (torn write refl refl all.0, each xs all.1)
