-- What the calls of a disk do to its blocks, and what a crash may leave.
-- Everything is said of blocks of any type B: no proof has to look into the 512 bytes of one.
use Rattle.std.specs.Prelude.{◌≡◌, ◌<◌, ◌≤◌, ◌⊎◌, ◌^◌, ◌-◌, min, ℕ, zero, suc, ◌+◌, List, [], ◌∷◌, length, map, Option, None, Some}
use Rattle.std.specs.List.{flat_map}

-- The values that a block had since the last sync that succeeded: the one that a read gives, and
-- the earlier ones, the latest first.
pub record Values (B : Type 0) : Type 0 where
  pub now : B
  pub earlier : List B

-- a block that has this value and no other
abbrev pub fresh : {B : Type 0} → B → Values B
fresh x = record { now = x; earlier = [] }

-- a block that has a further value
abbrev pub renewed : {B : Type 0} → B → Values B → Values B
renewed x v = record { now = x; earlier = v.now ∷ v.earlier }

-- what a read gives
abbrev pub reads : {B : Type 0} → List (Values B) → List B
reads vs = map (λ v. v.now) vs

-- blocks that have these values and no others
abbrev pub only : {B : Type 0} → List B → List (Values B)
only bs = map (λ b. fresh b) bs

-- after a sync that succeeded
abbrev pub settled : {B : Type 0} → List (Values B) → List (Values B)
settled vs = only (reads vs)

-- bs with xs in place of what stands from place at on
abbrev pub put : {B : Type 0} → ℕ → List B → List B → List B
put at xs [] = []
put zero [] (b ∷ bs) = b ∷ bs
put zero (x ∷ xs) (b ∷ bs) = x ∷ put zero xs bs
put (suc at) xs (b ∷ bs) = b ∷ put at xs bs

-- after a write of xs from place at on
abbrev pub added : {B : Type 0} → ℕ → List B → List (Values B) → List (Values B)
added at xs [] = []
added zero [] (v ∷ vs) = v ∷ vs
added zero (x ∷ xs) (v ∷ vs) = renewed x v ∷ added zero xs vs
added (suc at) xs (v ∷ vs) = v ∷ added at xs vs

-- after a write that failed: any of its blocks may have the new value, and no other block changes
abbrev pub AddsSome : {B : Type 0} → ℕ → List B → List (Values B) → List (Values B) → Type 0
AddsSome at xs [] ws = ws ≡ []
AddsSome at xs (v ∷ vs) [] = ⊥
AddsSome zero [] (v ∷ vs) (w ∷ ws) = (w ∷ ws) ≡ (v ∷ vs)
AddsSome zero (x ∷ xs) (v ∷ vs) (w ∷ ws) = ((w ≡ v) ⊎ (w ≡ renewed x v)) × AddsSome zero xs vs ws
AddsSome (suc at) xs (v ∷ vs) (w ∷ ws) = (w ≡ v) × AddsSome at xs vs ws

-- a value is among these
abbrev pub IsAmong : {B : Type 0} → List B → B → Type 0
IsAmong [] x = ⊥
IsAmong (y ∷ ys) x = (x ≡ y) ⊎ IsAmong ys x

-- an image has one of each block's values
abbrev pub IsImage : {B : Type 0} → List (Values B) → List B → Type 0
IsImage [] [] = Unit {0}
IsImage [] (x ∷ xs) = ⊥
IsImage (v ∷ vs) [] = ⊥
IsImage (v ∷ vs) (x ∷ xs) = ((x ≡ v.now) ⊎ IsAmong v.earlier x) × IsImage vs xs

-- of a disk that doesn't tell its content nothing is an image
abbrev pub IsImageOf : {B : Type 0} → Option (List (Values B)) → List B → Type 0
IsImageOf None c = ⊥
IsImageOf (Some vs) c = IsImage vs c

-- each block is that of one of both lists
abbrev pub IsBlend : {B : Type 0} → List B → List B → List B → Type 0
IsBlend [] [] [] = Unit {0}
IsBlend (x ∷ xs) (y ∷ ys) (z ∷ zs) = ((z ≡ x) ⊎ (z ≡ y)) × IsBlend xs ys zs
IsBlend xs ys zs = ⊥

-- the bytes of a block
abbrev pub Block : Type 0
Block = List ℕ

-- the bytes of blocks, block after block
abbrev pub bytes_of : List Block → List ℕ
bytes_of blocks = flat_map (λ b. b) blocks

-- A disk at one moment: the values of its blocks where it tells them, their number, the clock, the
-- images since each earlier moment, and the number of faults so far.
pub record State : Type 1 where
  pub values : Option (List (Values Block))
  pub size : ℕ
  pub clock : ℕ
  pub since : ℕ → List Block → Type 0
  pub faults : ℕ

-- a count that rises, or stands at its last value
abbrev pub Rose : ℕ → ℕ → Type 0
Rose old new = (old < new) ⊎ (2 ^ 64 - 1 ≤ new)

-- a count one further, which stands still at its last value
abbrev pub next_count : ℕ → ℕ
next_count n = min (n + 1) (2 ^ 64 - 1)

-- What holds of each call: no block is lost, time goes on, and a failure is counted.
pub record Passes (old new : State) (failed : Type 0) : Type 0 where
  pub same_size : new.size ≡ old.size
  pub later : old.clock ≤ new.clock
  -- an image since t was one before the call, or is one now
  pub nothing_else : (t : ℕ) (c : List Block) → t ≤ old.clock → new.since t c
      → old.since t c ⊎ IsImageOf new.values c
  pub keeps : (t : ℕ) (c : List Block) → t ≤ old.clock → old.since t c → new.since t c
  pub counts : old.faults ≤ new.faults
  pub caused : failed → Rose old.faults new.faults
  pub calm : ¬ failed → new.faults ≡ old.faults

-- What holds of each disk.
pub record IsDisk (d : State) : Type 0 where
  pub small : d.size < 2 ^ 64
  pub each_block : (vs : List (Values Block)) → d.values ≡ Some vs → length vs ≡ d.size
  pub counts_now : (t : ℕ) (c : List Block) → t ≤ d.clock → IsImageOf d.values c → d.since t c
  pub only_now : (c : List Block) → d.since d.clock c → IsImageOf d.values c

-- the values of its blocks are told
abbrev pub TellsContent : State → Type 0
TellsContent d = (vs : List (Values Block)) × (d.values ≡ Some vs)

-- Each image at a moment since old has P.
pub record LeavesOnly (old new : State) (P : List Block → Type 0) : Type 0 where
  pub later : old.clock ≤ new.clock
  pub each : (c : List Block) → new.since old.clock c → P c
  -- for a run that began earlier
  pub before : (t : ℕ) (c : List Block) → t ≤ old.clock → new.since t c → old.since t c ⊎ P c

-- a write that failed, where the content is told
abbrev pub AddsSomeOf : {B : Type 0} → ℕ → List B → Option (List (Values B))
    → Option (List (Values B)) → Type 0
AddsSomeOf at xs None new = new ≡ None
AddsSomeOf at xs (Some vs) None = ⊥
AddsSomeOf at xs (Some vs) (Some ws) = AddsSome at xs vs ws

-- Nothing changed. An equation of two states would be in Type 1, which no clause may be.
pub record IsUnchanged (old new : State) : Type 0 where
  pub values : new.values ≡ old.values
  pub size : new.size ≡ old.size
  pub clock : new.clock ≡ old.clock
  pub faults : new.faults ≡ old.faults
  pub since : (t : ℕ) (c : List Block) → new.since t c → old.since t c
  pub keeps : (t : ℕ) (c : List Block) → old.since t c → new.since t c
