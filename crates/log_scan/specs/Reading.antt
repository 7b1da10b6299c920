-- A segment that is read up to a place.
use Rattle.std.specs.Prelude.{⊤, ◌≡◌, ◌<◌, ◌≤◌, ◌+◌, ◌^◌, ℕ, List, [], ◌∷◌, ◌++◌, length, drop, slice_index_or, Option, Some}
use Rattle.std.specs.List.{AllByRecursion, flat_map}
use Rattle.wol_disk.specs.Disk.{Block, Values, only}
use Rattle.wol_model.specs.Heads.{RecordHead, IsRecordHead, head_block, owned_block, gate_block}
use Rattle.wol_model.specs.Log.{Record, IsNamed, written, end_of}
use Rattle.log_layout.specs.Values.{record_head}
use Rattle.log_scan.specs.declared.Found.{Found}

-- this block stands there
pub record StandsAt (bs : List Block) (at : ℕ) (b : Block) : Type 0 where
  pub rest : List Block
  pub here : drop at bs ≡ b ∷ rest
  pub size : at + 1 + length rest ≡ length bs

-- the first so many blocks of the room are those from this place on
abbrev pub AreAhead : Option (List (Values Block)) → (from count : ℕ) → (room : List Block) → Type 0
AreAhead values from count room = (bs : List Block) → values ≡ Some (only bs)
    → (k : ℕ) → k < count → StandsAt bs (from + k) (slice_index_or room k [])

-- a gate stands there
pub record IsGateAt (bs : List Block) (at : ℕ) : Type 0 where
  pub rest : List Block
  pub here : drop at bs ≡ gate_block ∷ rest

-- a head of this owner stands there, whose blocks end within the segment
pub record IsHeadAt (bs : List Block) (owner at : ℕ) (h : RecordHead) : Type 0 where
  pub rest : List Block
  pub here : drop at bs ≡ head_block h ∷ rest
  pub in_range : IsRecordHead h
  pub owned : h.owner ≡ owner
  pub fits : h.count ≤ length rest

-- the heads of these records, the first of them at this position
abbrev pub ArePlaced : (at : ℕ) → List Record → List Found → Type 0
ArePlaced at [] [] = ⊤
ArePlaced at [] (f ∷ fs) = ⊥
ArePlaced at (r ∷ rs) [] = ⊥
ArePlaced at (r ∷ rs) (f ∷ fs) =
    (f.pos ≡ at) × (record_head f.head ≡ r.head) × ArePlaced (at + 1 + length r.blocks) rs fs

-- the heads up to position `at` were read, and are these
pub record IsReading (bs : List Block) (owner at : ℕ) (found : List Found) : Type 0 where
  pub known : owner < 2 ^ 32
  pub rs : List Record
  pub joined : bs ≡ owned_block owner ∷ (flat_map written rs ++ drop at bs)
  pub place : at ≡ end_of rs
  pub named : AllByRecursion (IsNamed owner) rs
  pub placed : ArePlaced 1 rs found
