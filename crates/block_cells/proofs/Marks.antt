-- Marks of the blocks of a mask.
use Rattle.std.proofs.Common.{◌≡◌, ⊎_elim, ◌<◌, ◌+◌, ◌-◌, ◌^◌, ℕ, Bool, false, ◌&&◌, length, get_or, refl, sym, ap, ◌∙◌, arith, leb}
use Rattle.std.proofs.lemmas.Bool.{cases_lt, le-leb}
use Rattle.std.proofs.lemmas.List.{get_or_past}
use Rattle.std.proofs.lemmas.List.FromFn.{get_or-map-range_with_len, length-map-range_with_len}
use Rattle.wol_model.specs.Log.{has_bit, marks_of}
use Rattle.wol_model.specs.Extents.{marked}
use Rattle.block_cells.specs.Masks.{in_mask}
use Rattle.block_cells.proofs.Bits.{has_bit-above}

-- a mark is the mask's bit
pub marks_at : (count mask i : ℕ) → mask < 2 ^ count → get_or (marks_of count mask) i false ≡ has_bit mask i
marks_at count mask i fits = ⊎_elim
    (λ inside. get_or-map-range_with_len (has_bit mask) 0 count i i false inside (omega arith))
    (λ past. get_or_past (marks_of count mask) i false (omega (arith, length-map-range_with_len (has_bit mask) 0 count, past)) ∙ sym (has_bit-above mask count i fits past))
    (cases_lt i count)

pub marked-marks_of : (first count mask b : ℕ) → mask < 2 ^ count → marked first (marks_of count mask) b ≡ in_mask first mask b
marked-marks_of first count mask b fits = ap (λ (t : Bool). leb first b && t) (marks_at count mask (b - first) fits)

pub length-marks_of : (count mask : ℕ) → length (marks_of count mask) ≡ count
length-marks_of count mask = length-map-range_with_len (has_bit mask) 0 count

-- a block of a mask, by its bit
pub in_mask-bit : (first mask i : ℕ) → in_mask first mask (first + i) ≡ has_bit mask i
in_mask-bit first mask i =
    let e : first + i - first ≡ i = omega arith in
    rw (le-leb first (first + i) (omega arith), e) refl
