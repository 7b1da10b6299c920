-- Items of a run: their writes, and the looks that these leave.
use Rattle.std.specs.Prelude.{ℕ, List, None, Some, ⊤, ◌≡◌, ◌⊎◌, ◌≤◌, ◌+◌, ◌∷◌, [], length, take, drop}
use Rattle.std.specs.List.{AllByRecursion}
use Rattle.wol_disk.specs.Disk.{Block}
use Rattle.wol_model.specs.Blocks.{Write}
use Rattle.wol_promise.specs.Policy.{Look, placed}
use Rattle.log_segment.specs.declared.item.Item.{Item}
use Rattle.wol_model.specs.Placing as placing

-- a write home, and one to a log under this version
abbrev pub home_write : ℕ → List Block → Write
home_write first blocks = record { first = first; blocks = blocks; version = None }

abbrev pub log_write : (version first : ℕ) → List Block → Write
log_write version first blocks = record { first = first; blocks = blocks; version = Some version }

-- 1 to `most` blocks of a volume of this size
pub record IsItemOf (most size : ℕ) (i : Item) : Type 0 where
  pub some : 1 ≤ i.count
  pub few : i.count ≤ most
  pub within : i.lbn + i.count ≤ size

abbrev pub AreItemsOf : (most size : ℕ) → List Item → Type 0
AreItemsOf most size items = AllByRecursion (IsItemOf most size) items

-- the writes of items that have these blocks in order: home, or to a log under versions from this
-- one on
abbrev pub writes_to_home : List Item → List Block → List Write
writes_to_home [] from = []
writes_to_home (i ∷ items) from =
    home_write i.lbn (take i.count from) ∷ writes_to_home items (drop i.count from)

abbrev pub log_writes : (version : ℕ) → List Item → List Block → List Write
log_writes version [] from = []
log_writes version (i ∷ items) from =
    log_write version i.lbn (take i.count from) ∷ log_writes (version + 1) items (drop i.count from)

-- a write with fewer blocks than the first joins a group only where no logger was turned away for
-- the first
abbrev pub IsGroup : (passed : List ℕ) → List Write → Type 0
IsGroup passed [] = ⊤
IsGroup passed (w ∷ ws) = (passed ≡ []) ⊎ AllByRecursion (λ v. length w.blocks ≤ length v.blocks) ws

-- after writes all of which have this place
abbrev pub placed_all : placing.Place → Look → List Write → Look
placed_all p l [] = l
placed_all p l (w ∷ ws) = placed_all p (placed p l w) ws

-- where the first item begins, and its blocks
abbrev pub first_lbn : List Item → ℕ
first_lbn [] = 0
first_lbn (i ∷ items) = i.lbn

abbrev pub first_blocks : List Item → List Block → List Block
first_blocks [] from = []
first_blocks (i ∷ items) from = take i.count from
