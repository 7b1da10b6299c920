-- What the disk of a segment keeps, and what a stop within a call may leave of it.
use Rattle.std.specs.Prelude.{◌≡◌, ◌⊎◌, ℕ, List, [], ◌∷◌, ◌++◌, Some, Result, OnOk, IsErr, slice_set}
use Rattle.wol_disk.specs.Disk.{Block, State, only, Rose, IsImageOf}
use Rattle.wol_model.specs.Log.{Record, IsIdle, IsLog}
use Rattle.spin_model.specs.Spun.{volume_of, state_of}
use Rattle.spin_model.specs.declared.spun.Spun.{Spun}

-- What a call leaves of a part, whatever it writes: its length and its volume. A failure that it
-- tells has its cause, and where it tells none there was none.
pub record KeepsPart {D T E : Type 0} (state : D → State) (old new : Spun D) (res : Result T E) :
    Type 0 where
  pub size : (state_of state new).size ≡ (state_of state old).size
  pub cause : IsErr res → Rose (state_of state old).faults (state_of state new).faults
  pub calm : OnOk res ((state_of state new).faults ≡ (state_of state old).faults)
  pub volume : volume_of new ≡ volume_of old

-- the disk has one image, which is a log of this owner with these records
pub record Keeps (d : State) (owner : ℕ) (rs : List Record) : Type 0 where
  pub bs : List Block
  pub settled : d.values ≡ Some (only bs)
  pub log : IsLog bs owner rs

-- each image says that the segment is free
abbrev pub IsFreeInAll : State → Type 0
IsFreeInAll d = (c : List Block) → IsImageOf d.values c → IsIdle c

-- free, or claimed and without a record
abbrev pub IsIdleOrClaimed : (owner : ℕ) → List Block → Type 0
IsIdleOrClaimed owner c = IsIdle c ⊎ IsLog c owner []

-- the old records, or these and the new one
abbrev pub IsWithOrWithout : (owner : ℕ) → List Record → Record → List Block → Type 0
IsWithOrWithout owner rs r c = IsLog c owner rs ⊎ IsLog c owner (rs ++ r ∷ [])

-- the old records, or these with record k trimmed
abbrev pub IsKeptOrTrimmed : (owner : ℕ) → List Record → (k : ℕ) → Record → List Block → Type 0
IsKeptOrTrimmed owner rs k s c = IsLog c owner rs ⊎ IsLog c owner (slice_set rs k s)

-- the old records, or free
abbrev pub IsKeptOrIdle : (owner : ℕ) → List Record → List Block → Type 0
IsKeptOrIdle owner rs c = IsLog c owner rs ⊎ IsIdle c
