-- What the part of label and view says, and what is stored in it.
use Rattle.std.specs.Prelude.{◌≡◌, ◌⊎◌, ℕ, List, [], ◌∷◌, Some, slice_get, Contains}
use Rattle.wol_disk.specs.Disk.{Block, State, put, IsImageOf}
use Rattle.wol_model.specs.Heads.{Shape, SpellsLabel, SpellsView, label_block, view_block, free_block}

-- block 0 is the label of volume `id` with these sizes
pub record HasLabel (bs : List Block) (id : ℕ) (shape : Shape) : Type 0 where
  pub block : Block
  pub first : slice_get bs 0 ≡ Some block
  pub spelled : SpellsLabel block id shape

-- block 1 is the view of these loggers
pub record HasView (bs : List Block) (ids : List ℕ) : Type 0 where
  pub block : Block
  pub second : slice_get bs 1 ≡ Some block
  pub spelled : SpellsView block ids

-- ---- Damage

-- block 0 is no label
abbrev pub HasNoLabel : List Block → Type 0
HasNoLabel bs = (id : ℕ) (shape : Shape) → HasLabel bs id shape → ⊥

-- block 1 is no view
abbrev pub HasNoView : List Block → Type 0
HasNoView bs = (ids : List ℕ) → HasView bs ids → ⊥

-- the view names its own volume
abbrev pub NamesItself : (own : ℕ) → List Block → Type 0
NamesItself own bs = (ids : List ℕ) × HasView bs ids × Contains ids own

-- block 0 is no label; or it is one, and block 1 is no view or names its own volume
abbrev pub IsFirstFault : (own : ℕ) → List Block → (block : ℕ) → Type 0
IsFirstFault own bs block =
    ((block ≡ 0) × HasNoLabel bs) ⊎ ((block ≡ 1)
    × ((id : ℕ) × (shape : Shape) × HasLabel bs id shape) × (HasNoView bs ⊎ NamesItself own bs))

-- ---- Stores

-- the blocks with this label in the place of block 0
abbrev pub with_label : (id : ℕ) → Shape → List Block → List Block
with_label id shape bs = put 0 (label_block id shape ∷ []) bs

-- the blocks with this view in the place of block 1
abbrev pub with_view : List ℕ → List Block → List Block
with_view ids bs = put 1 (view_block ids ∷ []) bs

-- the blocks with the head of a free segment in the place of block 0
abbrev pub with_free_head : List Block → List Block
with_free_head bs = put 0 (free_block ∷ []) bs

-- an image of the disk, or one with the change
abbrev pub IsWithOrWithout : (change : List Block → List Block) → State → List Block → Type 0
IsWithOrWithout change d c = (e : List Block) × IsImageOf d.values e × ((c ≡ e) ⊎ (c ≡ change e))
