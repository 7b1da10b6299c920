-- A disk all of whose blocks were written and synced.
use Rattle.std.proofs.Common.{◌≡◌, zero, List, [], ◌∷◌, length, refl, ap, arith}
use Rattle.wol_disk.specs.Disk.{Block, only, reads, added, settled}

now_written : (xs ys : List Block) → length xs ≡ length ys → reads (added zero xs (only ys)) ≡ xs
now_written [] [] e = refl
now_written [] (y ∷ ys) e = absurd (omega (arith, e))
now_written (x ∷ xs) [] e = absurd (omega (arith, e))
now_written (x ∷ xs) (y ∷ ys) e = ap (λ l. x ∷ l) (now_written xs ys (omega (arith, e)))

pub all_written : (xs ys : List Block) → length xs ≡ length ys → settled (added zero xs (only ys)) ≡ only xs
all_written xs ys e = ap only (now_written xs ys e)
