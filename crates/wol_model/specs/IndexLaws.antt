-- Laws of an index of records and of masks.
use Rattle.std.specs.Prelude.{◌≡◌, ◌⊎◌, ◌<◌, ◌≤◌, ◌^◌, ◌-◌, ℕ, Bool, true, false, not, ◌&&◌, ◌||◌, List, [], ◌∷◌, ◌++◌, None, Some, slice_get, length, bit_and, bit_or, unwrap_or}
use Rattle.std.specs.List.{AllByRecursion, filter}
use Rattle.std.specs.Int.{bit_not, w128}
use Rattle.wol_disk.specs.Disk.{Block}
use Rattle.wol_model.specs.Blocks.{block_of}
use Rattle.wol_model.specs.Extents.{Cover, Extent, newest, newest_block, with_extents, has_newer, may_go, covers_of, AreDistinct, IsValid, KeepsAll}
use Rattle.wol_model.specs.Log.{Record, has_bit, extent_of}
use Rattle.wol_model.specs.Index.{Listed, is_due, goes, keeps_a_block, homing, keeping, left}

-- a block that no newer record covers is the newest record's
abbrev pub LiveIsNewest : Type 0
LiveIsNewest = (front back : List Extent) (r : Extent) (b : ℕ)
    → AreDistinct (covers_of (front ++ r ∷ back)) → r.cover.covers b ≡ true
    → has_newer (covers_of (front ++ r ∷ back)) r.cover.version b ≡ false
    → newest_block (front ++ r ∷ back) b ≡ block_of r.first r.blocks b

-- each block of a record below all others may go or isn't home yet
abbrev pub LeastGoesOrIsDue : Type 0
LeastGoesOrIsDue = (cs : List Cover) (homed : ℕ → Bool) (c : Cover) (b : ℕ)
    → AllByRecursion (λ d. c.version ≤ d.version) cs → c.covers b ≡ true
    → (may_go cs homed c b ≡ true) ⊎ ((has_newer cs c.version b ≡ false) × (homed b ≡ false))

-- ---- Reading by an index

-- a cover is one of these
abbrev pub IsOneOf : Cover → List Cover → Type 0
IsOneOf c [] = ⊥
IsOneOf c (d ∷ ds) = (c ≡ d) ⊎ IsOneOf c ds

-- an index that has the cover of each valid record finds the newest one
abbrev pub IndexFinds : Type 0
IndexFinds = (cs : List Cover) (front back : List Extent) (r : Extent) (b : ℕ)
    → AreDistinct (covers_of (front ++ r ∷ back))
    → AllByRecursion (λ s. IsValid s.cover → IsOneOf s.cover cs) (front ++ r ∷ back)
    → newest (λ c. c) cs b ≡ Some r.cover
    → newest_block (front ++ r ∷ back) b ≡ block_of r.first r.blocks b

-- and where it finds none, no record covers the block
abbrev pub IndexFindsNone : Type 0
IndexFindsNone = (cs : List Cover) (rs : List Extent) (b : ℕ)
    → AllByRecursion (λ s. IsValid s.cover → IsOneOf s.cover cs) rs → newest (λ c. c) cs b ≡ None
    → newest_block rs b ≡ None

-- a block of the array is the newest record's, or home's where none covers it
abbrev pub Reading : Type 0
Reading = (home : List Block) (rs : List Extent) (b : ℕ) (x : Block) → slice_get home b ≡ Some x
    → slice_get (with_extents home rs) b ≡ Some (unwrap_or (newest_block rs b) x)

-- ---- Masks

-- a head whose mask has a bit for each block keeps all of them
abbrev pub FullMask : Type 0
FullMask = (r : Record) → length r.blocks ≡ r.head.count → r.head.mask ≡ 2 ^ r.head.count - 1
    → KeepsAll (extent_of r)

-- or of masks: in one or the other
abbrev pub MaskOr : Type 0
MaskOr = (m n i : ℕ) → has_bit (bit_or m n) i ≡ (has_bit m i || has_bit n i)

-- and of masks: in both
abbrev pub MaskAnd : Type 0
MaskAnd = (m n i : ℕ) → has_bit (bit_and m n) i ≡ (has_bit m i && has_bit n i)

-- and-not of masks: in one and not in the other
abbrev pub MaskWithout : Type 0
MaskWithout = (m n i : ℕ) → m < 2 ^ 128 → n < 2 ^ 128
    → has_bit (bit_and m (bit_not w128 n)) i ≡ (has_bit m i && not (has_bit n i))

-- ---- What a drain lowers

-- a step that puts due blocks home, at least one of them, lowers what is left
abbrev pub PuttingLowers : Type 0
PuttingLowers = (front back : List Listed) (e : Listed) (put : ℕ → Bool) (b : ℕ)
    → length e.homed ≡ length e.keep
    → ((c : ℕ) → put c ≡ true → is_due (front ++ e ∷ back) e c ≡ true) → put b ≡ true
    → left (front ++ homing put e ∷ back) < left (front ++ e ∷ back)

-- so does a step in which a record gives up the blocks that go, at least one
abbrev pub GivingUpLowers : Type 0
GivingUpLowers =
    (front back : List Listed) (e : Listed) (b : ℕ) → goes (front ++ e ∷ back) e b ≡ true
    → left (filter keeps_a_block (front ++ keeping (front ++ e ∷ back) e ∷ back))
    < left (front ++ e ∷ back)
