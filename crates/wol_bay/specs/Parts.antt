-- The parts of an image, seen as disks: `state` is that of a part.
use Rattle.std.specs.Prelude.{◌≡◌, ℕ, ◌+◌, nat_lt, List, [], ◌∷◌, ◌++◌, take, drop, map, Option, None, Some, option_map, IfSome, ⊤, if◌then◌else◌}
use Rattle.wol_disk.specs.Disk.{Block, Values, State, only}
use Rattle.wol_disk.specs.Zeros.{zeros}
use Rattle.wol_bay.specs.Bay.{Told}

-- a part as it goes out: of this size, without a fault, and with these values where they are told
pub record IsFresh (size : ℕ) (values : Option (List (Values Block))) (part : State) : Type 0 where
  pub sized : part.size ≡ size
  pub quiet : part.faults ≡ 0
  pub content : IfSome values (λ vs. part.values ≡ Some vs)

-- a part of zeros as it goes out: of this size, without a fault, zero in every image where it tells
-- them, and told where the bay tells
pub record IsBlank (size : ℕ) (told : Option Told) (part : State) : Type 0 where
  pub sized : part.size ≡ size
  pub quiet : part.faults ≡ 0
  pub content : IfSome told (λ t. part.values ≡ Some (only (zeros size)))
  pub zero : IfSome part.values (λ vs. vs ≡ only (zeros size))

-- parts of these sizes in order, all zero in every image
abbrev pub AreBlank : {D : Type 0} → (D → State) → Option Told → List ℕ → List D → Type 0
AreBlank state told [] [] = ⊤
AreBlank state told [] (part ∷ parts) = ⊥
AreBlank state told (n ∷ ns) [] = ⊥
AreBlank state told (n ∷ ns) (part ∷ parts) =
    IsBlank n told (state part) × AreBlank state told ns parts

-- parts of these sizes in order, cut from these blocks
abbrev pub AreCut : {D : Type 0} → (D → State) → Option (List (Values Block)) → List ℕ → List D
    → Type 0
AreCut state blocks [] [] = ⊤
AreCut state blocks [] (part ∷ parts) = ⊥
AreCut state blocks (n ∷ ns) [] = ⊥
AreCut state blocks (n ∷ ns) (part ∷ parts) =
    IsFresh n (option_map (take n) blocks) (state part)
    × AreCut state (option_map (drop n) blocks) ns parts

-- blocks and those behind them, where both are told
abbrev pub joined : Option (List (Values Block)) → Option (List (Values Block))
    → Option (List (Values Block))
joined None ws = None
joined (Some vs) None = None
joined (Some vs) (Some ws) = Some (vs ++ ws)

-- the blocks of all parts in order, where each tells its own
abbrev pub blocks_of : {D : Type 0} → (D → State) → List D → Option (List (Values Block))
blocks_of state [] = Some []
blocks_of state (part ∷ parts) = joined (state part).values (blocks_of state parts)

abbrev pub sizes_of : {D : Type 0} → (D → State) → List D → List ℕ
sizes_of state parts = map (λ part. (state part).size) parts

-- the places of the parts with a fault, the first part at place k
abbrev pub faulty_from : {D : Type 0} → ℕ → (D → State) → List D → List ℕ
faulty_from k state [] = []
faulty_from k state (part ∷ parts) = if nat_lt 0 (state part).faults
    then k ∷ faulty_from (k + 1) state parts else faulty_from (k + 1) state parts

abbrev pub faulty_places : {D : Type 0} → (D → State) → List D → List ℕ
faulty_places state parts = faulty_from 0 state parts
