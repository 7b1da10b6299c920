-- Versions with masks, and the tree of masks above them.
use Rattle.std.specs.Prelude.{◌≡◌, ◌<◌, ◌≤◌, ◌*◌, ◌/◌, ◌&&◌, ◌==◌, ℕ, true, false, List, [], ◌∷◌, length, slice_index, if◌then◌else◌}
use Rattle.wol_model.specs.Log.{has_bit}
use Rattle.wol_model.specs.Index.{AreRising}

-- what contracts see: versions that rise, each with its mask, and for how many more versions there
-- is room
pub record Contents : Type 0 where
  pub versions : List ℕ
  pub masks : List ℕ
  pub room : ℕ

-- the mask of version v, 0 where it isn't there
abbrev pub mask_in : List ℕ → List ℕ → ℕ → ℕ
mask_in [] ms v = 0
mask_in (w ∷ ws) [] v = 0
mask_in (w ∷ ws) (m ∷ ms) v = if w == v then m else mask_in ws ms v

abbrev pub mask_of : Contents → ℕ → ℕ
mask_of marks v = mask_in marks.versions marks.masks v

-- no bit is in both
abbrev pub AreApart : ℕ → ℕ → Type 0
AreApart a b = (i : ℕ) → (has_bit a i && has_bit b i) ≡ false

-- every bit of a is one of b
abbrev pub IsWithin : ℕ → ℕ → Type 0
IsWithin a b = (i : ℕ) → has_bit a i ≡ true → has_bit b i ≡ true

-- each node has the bits of the nodes 2 n and 2 n + 1 below it; node 0 stands above the root, node
-- 1
abbrev pub IsSummed : List ℕ → Type 0
IsSummed nodes =
    (n : ℕ) → n < length nodes → IsWithin (slice_index nodes n) (slice_index nodes (n / 2))

-- the same but for the node above k, where k is none of the uppermost
abbrev pub IsSummedBut : ℕ → List ℕ → Type 0
IsSummedBut k nodes = (n : ℕ) → n < length nodes → (n / 2 ≡ k / 2 → k ≡ 0)
    → IsWithin (slice_index nodes n) (slice_index nodes (n / 2))

-- what is so of all marks: the second half of the nodes are the masks
pub record IsTree (versions nodes : List ℕ) : Type 0 where
  pub rising : AreRising versions
  pub even : length nodes ≡ 2 * (length nodes / 2)
  pub fits : length versions ≤ length nodes / 2
  pub summed : IsSummed nodes
