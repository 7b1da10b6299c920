-- Damage, and what is read where there is none.
use Rattle.std.proofs.Common.{◌≡◌, ℕ, List, length, take, drop, ◌∙◌, ap, arith}
use Rattle.std.proofs.lemmas.List.{take_all}
use Rattle.wol_disk.specs.Disk.{Block, Values, settled, reads}
use Rattle.wol_disk.proofs.Images.{reads_only}

-- a read of the whole part, after a sync
pub all_read : (vs : List (Values Block)) (out : List Block) (n : ℕ) → length (reads vs) ≡ n → out ≡ take n (drop 0 (reads (settled vs))) → out ≡ reads vs
all_read vs out n size e = e ∙ ap (λ (l : List Block). take n l) (reads_only (reads vs)) ∙ take_all n (reads vs) (omega (arith, size))
