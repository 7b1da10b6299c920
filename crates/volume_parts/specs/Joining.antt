-- Which items of a run go to a log together.
use Rattle.std.specs.Prelude.{◌≡◌, ◌⊎◌, ◌≤◌, ◌<◌, ◌+◌, ◌-◌, ◌||◌, ℕ, Bool, true, List, [], Some, length, take, nat_le, nat_lt, if◌then◌else◌, slice_get, IsTrue}
use Rattle.std.specs.List.{list_any, range_with_len}
use Rattle.wol_model.specs.Index.{Listed, is_covered}
use Rattle.log_segment.specs.Records.{count_of}
use Rattle.log_segment.specs.declared.item.Item.{Item}
use Rattle.logger.specs.Lanes.{first_count}

-- the first block of one of them is a block of the other
abbrev pub meets : Item → Item → Bool
meets i j = if nat_le i.lbn j.lbn then nat_lt j.lbn (i.lbn + i.count)
    else nat_lt i.lbn (j.lbn + j.count)

-- the item has a block that a record or one of the items before it covers
abbrev pub is_covered_behind : List Listed → (before : List Item) → Item → Bool
is_covered_behind es before i =
    list_any (is_covered es) (range_with_len i.lbn i.count) || list_any (λ j. meets j i) before

-- each of the first n items but the very first is covered behind those before it
abbrev pub AreCoveredBehind : List Listed → List Item → (n : ℕ) → Type 0
AreCoveredBehind es items n = (k : ℕ) (i : Item) → 1 ≤ k → k < n → slice_get items k ≡ Some i
    → is_covered_behind es (take k items) i ≡ true

-- none of the first n items has fewer blocks than the very first
abbrev pub AreAsLong : List Item → (n : ℕ) → Type 0
AreAsLong items n =
    (k : ℕ) (i : Item) → k < n → slice_get items k ≡ Some i → first_count items ≤ i.count

-- Where the first of these items goes to a log, the first n may go there together: none of the
-- others would go home, and, where a logger was turned away for the first, none is smaller.
pub record GoTogether (home_up : Bool) (es : List Listed) (passed : List ℕ) (items : List Item)
    (n : ℕ) : Type 0 where
  pub away : IsTrue home_up → AreCoveredBehind es items n
  pub long : (passed ≡ []) ⊎ AreAsLong items n

-- the room that items take of a segment, but for one head
abbrev pub room_for : List Item → ℕ
room_for items = count_of items + (length items - 1)
