-- Blocks, arrays of blocks, and what an array is after writes.
use Rattle.std.specs.Prelude.{⊤, ◌≡◌, ◌≢◌, ◌<◌, ℕ, zero, suc, ◌+◌, ◌-◌, List, [], ◌∷◌, Option, None, unwrap_or, nat_le, if◌then◌else◌, slice_get, length}
use Rattle.std.specs.List.{AllByRecursion}
use Rattle.std.specs.Option.{option_or}
use Rattle.wol_disk.specs.Disk.{Block}

-- blocks in a row from `first` on, written to a log under this version or, with none, to home
pub record Write : Type 0 where
  pub first : ℕ
  pub blocks : List Block
  pub version : Option ℕ

-- what a row of blocks from `first` on has for block b
abbrev pub block_of : ℕ → List Block → ℕ → Option Block
block_of first blocks b = if nat_le first b then slice_get blocks (b - first) else None

-- what the last write that covers block b has for it
abbrev pub last_written : List Write → ℕ → Option Block
last_written [] b = None
last_written (w ∷ ws) b = option_or (last_written ws b) (block_of w.first w.blocks b)

-- the array a, with what `over` has for a block in place of the block
abbrev pub overlaid_from : ℕ → List Block → (ℕ → Option Block) → List Block
overlaid_from b [] over = []
overlaid_from b (x ∷ xs) over = unwrap_or (over b) x ∷ overlaid_from (b + 1) xs over

-- the same from block 0 on
abbrev pub overlaid : List Block → (ℕ → Option Block) → List Block
overlaid a over = overlaid_from 0 a over

-- the array a after these writes: each block is what the last write that covers it has for it, or
-- a's own
unfoldable pub after : List Block → List Write → List Block
after a ws = overlaid a (last_written ws)

-- a list in which the element at this place becomes what f makes of it
abbrev pub changed_at : {X : Type 0} → (place : ℕ) → (X → X) → List X → List X
changed_at place f [] = []
changed_at zero f (x ∷ xs) = f x ∷ xs
changed_at (suc place) f (x ∷ xs) = x ∷ changed_at place f xs

-- no two numbers are the same
abbrev pub AreApart : List ℕ → Type 0
AreApart [] = ⊤
AreApart (v ∷ vs) = AllByRecursion (λ w. v ≢ w) vs × AreApart vs
