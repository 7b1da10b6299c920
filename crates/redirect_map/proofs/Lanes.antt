-- Bits of lanes.
use Rattle.std.proofs.Common.{◌≡◌, ◌<◌, ◌+◌, ◌-◌, ◌*◌, ◌%◌, ◌^◌, ℕ, true, ap, eqb, refl, ◌∙◌, arith}
use Rattle.std.proofs.lemmas.Bool.{lt-ltb, le-leb}
use Rattle.std.proofs.lemmas.Nat.Bits.{bit_at_ones}
use Rattle.wol_model.specs.Log.{has_bit}
use Rattle.block_cells.proofs.Bits.{moved_up}

-- a bit that is moved up to those of records that go
pub raised : (m r : ℕ) → r < 63 → has_bit (m * 2 ^ 63 % 2 ^ 128) (63 + r) ≡ has_bit m r
raised m r low =
    let same : 0 + (63 + r) - 63 ≡ r = omega arith in
    moved_up m 63 0 (63 + r) (omega arith) ∙ rw (lt-ltb (63 + r) 128 (omega arith), le-leb 63 (0 + (63 + r)) (omega arith), same) refl

-- a number of ones has the bits of all lanes
pub all_of : (r : ℕ) → r < 63 → has_bit (2 ^ 63 - 1) r ≡ true
all_of r low = ap (λ (k : ℕ). eqb k 1) (bit_at_ones 63 r low)
