-- The parts of an image of which each has one image. `state` is that of a part.
use Rattle.std.specs.Prelude.{◌≡◌, ◌<◌, ℕ, List, [], ◌∷◌, length, IfSome, slice_index_or, ⊤}
use Rattle.std.specs.List.{flat_map}
use Rattle.wol_disk.specs.Disk.{Block, State, only}

-- a part that holds these blocks in every image, and had no fault
pub record IsSettledAs (bs : List Block) (part : State) : Type 0 where
  pub sized : part.size ≡ length bs
  pub quiet : part.faults ≡ 0
  pub content : IfSome part.values (λ vs. vs ≡ only bs)

-- each part holds its blocks
abbrev pub AreSettled : {D : Type 0} → (D → State) → List (List Block) → List D → Type 0
AreSettled state [] [] = ⊤
AreSettled state [] (part ∷ parts) = ⊥
AreSettled state (bs ∷ bss) [] = ⊥
AreSettled state (bs ∷ bss) (part ∷ parts) =
    IsSettledAs bs (state part) × AreSettled state bss parts

-- the blocks of all parts in order
abbrev pub joined_blocks : List (List Block) → List Block
joined_blocks bss = flat_map (λ bs. bs) bss

-- the part at this place had a fault
abbrev pub HasFault : {D : Type 0} → (D → State) → (place : ℕ) → List D → Type 0
HasFault {D} state place parts = (d : D) → 0 < (state (slice_index_or parts place d)).faults
