-- What records stand for: the newest one of each block, and what may be given up.
use Rattle.std.specs.Prelude.{⊤, ◌≡◌, ◌≢◌, ◌-◌, ◌+◌, nat_le, slice_index_or, slice_get, ℕ, Bool, true, false, not, ◌&&◌, ◌||◌, List, [], ◌∷◌, map, Option, None, Some, nat_lt, if◌then◌else◌, is_some}
use Rattle.std.specs.List.{list_any, AllByRecursion}
use Rattle.std.specs.Option.{option_and_then}
use Rattle.wol_disk.specs.Disk.{Block}
use Rattle.wol_model.specs.Blocks.{Write, block_of, overlaid}

-- a version, and the blocks that are kept under it
pub record Cover : Type 0 where
  pub version : ℕ
  pub covers : ℕ → Bool

-- block b's mark in a list of marks that begins at `first`, false outside
abbrev pub marked : ℕ → List Bool → ℕ → Bool
marked first marks b = nat_le first b && slice_index_or marks (b - first) false

-- the mark m of each block b becomes f b m
abbrev pub remarked : ℕ → List Bool → (ℕ → Bool → Bool) → List Bool
remarked b [] f = []
remarked b (m ∷ marks) f = f b m ∷ remarked (b + 1) marks f

-- what a record stands for: blocks in a row, some of which it covers under its version
pub record Extent : Type 0 where
  pub cover : Cover
  pub first : ℕ
  pub blocks : List Block

-- of two, the one of greater version, or the first
abbrev pub newer_of : {X : Type 0} → (X → Cover) → X → Option X → Option X
newer_of cover x None = Some x
newer_of cover x (Some y) = if nat_lt (cover x).version (cover y).version then Some y else Some x

-- the one of greatest version that covers block b
abbrev pub newest : {X : Type 0} → (X → Cover) → List X → ℕ → Option X
newest cover [] b = None
newest cover (x ∷ xs) b =
    if (cover x).covers b then newer_of cover x (newest cover xs b) else newest cover xs b

-- what the newest extent of block b has for it
unfoldable pub newest_block : List Extent → ℕ → Option Block
newest_block rs b = option_and_then (λ r. block_of r.first r.blocks b) (newest (λ r. r.cover) rs b)

-- the array that home and these extents stand for: the newest extent's block, or home's where none
-- covers it
unfoldable pub with_extents : List Block → List Extent → List Block
with_extents home rs = overlaid home (newest_block rs)

-- the covers of extents
abbrev pub covers_of : List Extent → List Cover
covers_of rs = map (λ r. r.cover) rs

-- an extent is valid where it keeps a block
abbrev pub IsValid : Cover → Type 0
IsValid c = (b : ℕ) × (c.covers b ≡ true)

-- no two valid extents have one version
abbrev pub AreDistinct : List Cover → Type 0
AreDistinct [] = ⊤
AreDistinct (c ∷ cs) =
    AllByRecursion (λ d. IsValid c → IsValid d → c.version ≢ d.version) cs × AreDistinct cs

-- it covers no block
abbrev pub CoversNothing : Extent → Type 0
CoversNothing r = (b : ℕ) → r.cover.covers b ≡ false

-- it covers each block that it has
abbrev pub KeepsAll : Extent → Type 0
KeepsAll r = (b : ℕ) → r.cover.covers b ≡ is_some (block_of r.first r.blocks b)

-- the write that an extent came from
abbrev pub write_of : Extent → Write
write_of r = record { first = r.first; blocks = r.blocks; version = Some r.cover.version }

-- ---- What may be given up

-- a newer one covers block b
abbrev pub has_newer : List Cover → (version b : ℕ) → Bool
has_newer cs version b = list_any (λ c. c.covers b && nat_lt version c.version) cs

-- an older one covers block b
abbrev pub has_older : List Cover → (version b : ℕ) → Bool
has_older cs version b = list_any (λ c. c.covers b && nat_lt c.version version) cs

-- a kept block may go where a newer one covers it, or where it is home and no older one covers it
abbrev pub may_go : List Cover → (homed : ℕ → Bool) → Cover → ℕ → Bool
may_go cs homed c b =
    c.covers b && (has_newer cs c.version b || (homed b && not (has_older cs c.version b)))

-- s is r without the blocks of this set
pub record GivesUp (given : ℕ → Bool) (r s : Extent) : Type 0 where
  pub version : s.cover.version ≡ r.cover.version
  pub first : s.first ≡ r.first
  pub blocks : s.blocks ≡ r.blocks
  pub keeps : (b : ℕ) → s.cover.covers b ≡ (r.cover.covers b && not (given b))

-- home's block is the newest extent's, for the blocks of this set
abbrev pub HoldsHomed : List Block → List Extent → (homed : ℕ → Bool) → Type 0
HoldsHomed home rs homed = (b : ℕ) (x y : Block) → homed b ≡ true → newest_block rs b ≡ Some x
    → slice_get home b ≡ Some y → y ≡ x

-- no extent covers a block of the write
abbrev pub IsUncovered : List Extent → Write → Type 0
IsUncovered rs w = (b : ℕ) → is_some (block_of w.first w.blocks b) ≡ true → newest_block rs b ≡ None

-- an extent covers each block of the write
abbrev pub IsCovered : List Extent → Write → Type 0
IsCovered rs w =
    (b : ℕ) → is_some (block_of w.first w.blocks b) ≡ true → is_some (newest_block rs b) ≡ true
