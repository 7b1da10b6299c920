-- Chunks of blocks that records cover, and records that keep one each.
use Rattle.std.specs.Prelude.{⊤, ◌≡◌, ◌≢◌, ◌↔◌, ◌<◌, ◌≤◌, ◌+◌, ◌*◌, ◌&&◌, nat_le, nat_lt, ◌∷◌, ◌++◌, [], ℕ, Bool, true, false, List, length, Contains, slice_range}
use Rattle.std.specs.List.{AllByRecursion, list_any}
use Rattle.wol_disk.specs.Disk.{Block}
use Rattle.log_segment.specs.declared.item.Item.{Item}
use Rattle.wol_model.specs.Blocks.{Write}
use Rattle.wol_model.specs.Index.{Listed, cover_of, goes, is_homed, is_live}

-- ---- Chunks

-- A maximal run of covered blocks is cut after each `most` blocks from its start; these are so many
-- blocks between two cuts, or behind the last one.
pub record IsChunk (covered : ℕ → Bool) (most first count : ℕ) : Type 0 where
  -- where its run starts
  pub start : ℕ
  pub starts : (b : ℕ) → b + 1 ≡ start → covered b ≡ false
  pub cuts : ℕ
  pub cut : first ≡ start + cuts * most
  pub run : (b : ℕ) → start ≤ b → b < first + count → covered b ≡ true
  pub some : 1 ≤ count
  pub few : count ≤ most
  pub ends : count < most → covered (first + count) ≡ false

-- block b is one of so many from `first` on
abbrev pub is_within : (first count : ℕ) → (b : ℕ) → Bool
is_within first count b = nat_le first b && nat_lt b (first + count)

-- ---- Records

-- the record keeps just these blocks
abbrev pub KeepsJust : Listed → (first count : ℕ) → Type 0
KeepsJust e first count = (b : ℕ) → (cover_of e).covers b ≡ is_within first count b

-- it keeps none of them
abbrev pub KeepsNone : Listed → (first count : ℕ) → Type 0
KeepsNone e first count = (b : ℕ) → is_within first count b ≡ true → (cover_of e).covers b ≡ false

-- the record of this version keeps just these blocks
pub record IsOneOf (es : List Listed) (version first count : ℕ) : Type 0 where
  pub record_ : Listed
  pub listed : Contains es record_
  pub version_is : record_.version ≡ version
  pub keeps : KeepsJust record_ first count

-- a chunk is tidy where one record keeps just its blocks, and no other record keeps any of them
pub record IsTidy (es : List Listed) (first count : ℕ) : Type 0 where
  pub version : ℕ
  pub one : IsOneOf es version first count
  pub alone : AllByRecursion (λ e. e.version ≢ version → KeepsNone e first count) es

-- the record of this version keeps just these blocks, and no newer record keeps any of them
pub record IsUppermost (es : List Listed) (version first count : ℕ) : Type 0 where
  pub one : IsOneOf es version first count
  pub above : AllByRecursion (λ (e : Listed). version < e.version → KeepsNone e first count) es

-- no block of a record is home too
abbrev pub NoneHomed : List Listed → Type 0
NoneHomed es = AllByRecursion (λ e. (b : ℕ) → is_homed e b ≡ false) es

-- the records are one for each chunk of these covered blocks, each keeping that chunk
pub record IsClean (covered : ℕ → Bool) (most : ℕ) (es : List Listed) : Type 0 where
  pub each : (first count : ℕ) → IsChunk covered most first count → IsTidy es first count
  pub only : AllByRecursion (λ e.
      (first : ℕ) × (count : ℕ) × IsChunk covered most first count × KeepsJust e first count) es

-- each covered block below this one lies in a chunk that is tidy
abbrev pub AreTidyBelow : (covered : ℕ → Bool) → (most from : ℕ) → List Listed → Type 0
AreTidyBelow covered most from es = (b : ℕ) → b < from → covered b ≡ true
    → (first : ℕ) × (count : ℕ) × IsChunk covered most first count × (first ≤ b)
    × (b < first + count) × IsTidy es first count

-- ---- What may go

-- nothing may go
abbrev pub NoneGoes : List Listed → Type 0
NoneGoes es = AllByRecursion (λ e. (b : ℕ) → goes es e b ≡ false) es

-- ---- Live blocks, and what is tidy once all was given up that may go

-- the record of this version has this block as a live one
abbrev pub HasLive : List Listed → (version b : ℕ) → Type 0
HasLive es version b =
    (e : Listed) × Contains es e × (e.version ≡ version) × (is_live es e b ≡ true)

-- From its first block on, the live blocks of one record are just those of the chunk: once the
-- chunks before it were written again and all was given up that may go, it is tidy.
abbrev pub BecomesTidy : List Listed → (first count : ℕ) → Type 0
BecomesTidy es first count = (version : ℕ)
    × ((b : ℕ) → first ≤ b → HasLive es version b ↔ (is_within first count b ≡ true))

-- a block of one of these writes
abbrev pub is_copied : List Write → ℕ → Bool
is_copied copies b = list_any (λ w. is_within w.first (length w.blocks) b) copies

-- The chunk is tidy behind these copies once all was given up that may go: the live blocks of one
-- record that aren't among the copies are just those of the chunk.
abbrev pub IsTidyBehind : List Listed → (copies : List Write) → (first count : ℕ) → Type 0
IsTidyBehind es copies first count = (version : ℕ)
    × ((b : ℕ) → (HasLive es version b × (is_copied copies b ≡ false))
    ↔ (is_within first count b ≡ true))

-- Each of these writes is of a chunk that wasn't tidy so behind the copies before it, where there
-- were some.
abbrev pub AreUntidyBehind : List Listed → (before : List Write) → List Write → Type 0
AreUntidyBehind es before [] = ⊤
AreUntidyBehind es before (w ∷ ws) =
    ((before ≡ [] → ⊥) → IsTidyBehind es before w.first (length w.blocks) → ⊥)
    × AreUntidyBehind es (before ++ w ∷ []) ws

-- ---- Chunks one behind the other

-- The next chunk from a block on, tidy or not: no block before it is covered, and its blocks are.
pub record IsAhead (covered : ℕ → Bool) (most from : ℕ) (i : Item) : Type 0 where
  pub low : from ≤ i.lbn
  pub bare : (b : ℕ) → from ≤ b → b < i.lbn → covered b ≡ false
  pub some : 1 ≤ i.count
  pub few : i.count ≤ most
  pub run : (b : ℕ) → i.lbn ≤ b → b < i.lbn + i.count → covered b ≡ true
  pub ends : i.count < most → covered (i.lbn + i.count) ≡ false

-- .. which isn't tidy among these records
pub record IsNext (covered : ℕ → Bool) (es : List Listed) (most from : ℕ) (i : Item) : Type 0 where
  pub ahead : IsAhead covered most from i
  pub untidy : IsTidy es i.lbn i.count → ⊥

-- each is the next one behind those before it
abbrev pub AreNext : (covered : ℕ → Bool) → List Listed → (most from : ℕ) → List Item → Type 0
AreNext covered es most from [] = ⊤
AreNext covered es most from (i ∷ items) =
    IsNext covered es most from i × AreNext covered es most (i.lbn + i.count) items

-- where they end
abbrev pub end_of : (from : ℕ) → List Item → ℕ
end_of from [] = from
end_of from (i ∷ items) = end_of (i.lbn + i.count) items

-- ---- Copies

-- a write of what the array has there
abbrev pub IsCopyOf : List Block → Write → Type 0
IsCopyOf array w = w.blocks ≡ slice_range array w.first (w.first + length w.blocks)
