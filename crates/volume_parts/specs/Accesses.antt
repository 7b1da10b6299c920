-- What a write of a part does, and what it leaves at each moment.
use Rattle.std.specs.Prelude.{◌≡◌, ◌∷◌, [], ◌++◌, ℕ, List, Option, option_map, Result, OnOk, OnErr}
use Rattle.wol_disk.specs.Disk.{State, Block, Values, IsImageOf, IsBlend, LeavesOnly, Rose, only, put, reads, settled}
use Rattle.wol_model.specs.Journal.{Needed, Done}
use Rattle.turn_lock.specs.Passes.{pass_mine, pass_number}
use Rattle.turn_lock.specs.declared.pass.PassOf.{PassOf}
use Rattle.spin_model.specs.Operations.{operation_of}
use Rattle.spin_model.specs.Spun.{state_of, volume_of}
use Rattle.spin_model.specs.declared.spun.Spun.{Spun}
use Rattle.wol_model.specs.Blocks.{overlaid}

-- the pass has made two turns: the disk was needed, and it was done
abbrev pub HasUsedOnce : {T B : Type 0} → (old new : PassOf T B) → Type 0
HasUsedOnce old new = pass_mine new ≡ pass_mine old
    ++ (pass_number old, operation_of Needed) ∷ (pass_number old, operation_of Done) ∷ []

-- an image of before, with some of these blocks in place
abbrev pub IsTornFrom : Option (List (Values Block)) → (at : ℕ) → List Block → List Block → Type 0
IsTornFrom values at xs c = (d : List Block) × IsImageOf values d × IsBlend d (put at xs d) c

-- a part before and after blocks were written and synced
pub record Stored {D T E : Type 0} (state : D → State) (old new : Spun D) (at : ℕ) (xs : List Block)
    (res : Result T E) : Type 0 where
  pub volume : volume_of new ≡ volume_of old
  pub size : (state_of state new).size ≡ (state_of state old).size
  pub ok : OnOk res ((state_of state new).values
      ≡ option_map (λ vs. only (put at xs (reads vs))) (state_of state old).values)
  pub images : (c : List Block) → IsImageOf (state_of state new).values c
      → IsTornFrom (state_of state old).values at xs c
  pub any_moment : LeavesOnly (state_of state old) (state_of state new)
      (IsTornFrom (state_of state old).values at xs)
  pub cause : OnErr res (Rose (state_of state old).faults (state_of state new).faults)
  pub calm : OnOk res ((state_of state new).faults ≡ (state_of state old).faults)

-- an image of before, in which some of these blocks are others
abbrev pub IsPartlyPut : Option (List (Values Block)) → (ℕ → Option Block) → List Block → Type 0
IsPartlyPut values over c = (d : List Block) × IsImageOf values d × IsBlend d (overlaid d over) c

-- a part before and after these blocks were written and synced
pub record IsPut {D T E : Type 0} (state : D → State) (old new : Spun D) (over : ℕ → Option Block)
    (res : Result T E) : Type 0 where
  pub volume : volume_of new ≡ volume_of old
  pub size : (state_of state new).size ≡ (state_of state old).size
  pub ok : OnOk res ((state_of state new).values
      ≡ option_map (λ vs. only (overlaid (reads vs) over)) (state_of state old).values)
  pub images : (c : List Block) → IsImageOf (state_of state new).values c
      → IsPartlyPut (state_of state old).values over c
  pub any_moment : LeavesOnly (state_of state old) (state_of state new)
      (IsPartlyPut (state_of state old).values over)
  pub cause : OnErr res (Rose (state_of state old).faults (state_of state new).faults)
  pub calm : OnOk res ((state_of state new).faults ≡ (state_of state old).faults)

-- A part before and after these blocks were written, without a sync: it reads as if they were there,
-- and each image has some of them.
pub record IsLaid {D T E : Type 0} (state : D → State) (old new : Spun D) (over : ℕ → Option Block)
    (res : Result T E) : Type 0 where
  pub volume : volume_of new ≡ volume_of old
  pub size : (state_of state new).size ≡ (state_of state old).size
  pub ok : OnOk res (option_map reads (state_of state new).values
      ≡ option_map (λ vs. overlaid (reads vs) over) (state_of state old).values)
  pub images : (c : List Block) → IsImageOf (state_of state new).values c
      → IsPartlyPut (state_of state old).values over c
  pub any_moment : LeavesOnly (state_of state old) (state_of state new)
      (IsPartlyPut (state_of state old).values over)
  pub cause : OnErr res (Rose (state_of state old).faults (state_of state new).faults)
  pub calm : OnOk res ((state_of state new).faults ≡ (state_of state old).faults)

-- a part before and after a sync: what it reads as is its only image, where that succeeded
pub record IsSynced {D T E : Type 0} (state : D → State) (old new : Spun D) (res : Result T E) :
    Type 0 where
  pub volume : volume_of new ≡ volume_of old
  pub size : (state_of state new).size ≡ (state_of state old).size
  pub ok : OnOk res ((state_of state new).values ≡ option_map settled (state_of state old).values)
  pub images : (c : List Block) → IsImageOf (state_of state new).values c
      → IsImageOf (state_of state old).values c
  pub any_moment : LeavesOnly (state_of state old) (state_of state new)
      (IsImageOf (state_of state old).values)
  pub cause : OnErr res (Rose (state_of state old).faults (state_of state new).faults)
  pub calm : OnOk res ((state_of state new).faults ≡ (state_of state old).faults)
