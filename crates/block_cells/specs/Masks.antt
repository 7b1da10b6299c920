-- Masks of blocks: bit i of a mask that begins at block `first` is block `first + i`.
use Rattle.std.specs.Prelude.{◌≡◌, ◌+◌, ◌-◌, nat_le, ℕ, Bool, ◌&&◌}
use Rattle.wol_model.specs.Log.{has_bit}

-- block b is in the mask
abbrev pub in_mask : ℕ → ℕ → ℕ → Bool
in_mask first mask b = nat_le first b && has_bit mask (b - first)

-- the mask has exactly the blocks of this set that lie at `first` or behind it
abbrev pub IsMask : ℕ → (ℕ → Bool) → ℕ → Type 0
IsMask first set mask = (i : ℕ) → has_bit mask i ≡ set (first + i)
