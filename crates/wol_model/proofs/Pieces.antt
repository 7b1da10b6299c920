-- Lines cut into pieces: inside a volume, at its end, and after each 128 or 14 blocks.
use Rattle.std.proofs.Common.{◌≡◌, ℕ, [], ◌∷◌, refl}
use Rattle.std.specs.Prelude.{codes}
use Rattle.wol_model.specs.declared.trace.Kind.TheVariants.{Read}
use Rattle.wol_model.specs.declared.trace.Piece.{Piece}
use Rattle.wol_model.specs.Trace.{TraceLine, pieces}

abbrev line : ℕ → ℕ → TraceLine
line offset size = record { time = 0; host = codes "usr"; disk = 0; kind = Read; offset = offset; size = size; response = 0 }

abbrev piece : ℕ → ℕ → Piece
piece first count = record { lbn = first; count = count }

inside : pieces 1000 128 (line 700 1000) ≡ piece 1 3 ∷ []
unfolding pieces
inside = refl

round_the_end : pieces 10 128 (line 4608 1536) ≡ piece 9 1 ∷ piece 0 2 ∷ []
unfolding pieces
round_the_end = refl

most_128 : pieces 1000 128 (line 0 66048) ≡ piece 0 128 ∷ piece 128 1 ∷ []
unfolding pieces
most_128 = refl

most_14 : pieces 1000 14 (line 0 10240) ≡ piece 0 14 ∷ piece 14 6 ∷ []
unfolding pieces
most_14 = refl

of_no_bytes : pieces 1000 128 (line 700 0) ≡ []
unfolding pieces
of_no_bytes = refl
