-- A group of records: what a stop leaves of it, and what it is once it is whole.
use Rattle.std.proofs.Common.{◌≡◌, ◌⊎◌, inl, inr, ⊎_elim, ℕ, zero, suc, ◌+◌, ◌-◌, ◌^◌, ◌<◌, ◌≤◌, true, Bool, cond, eqb, not, List, [], ◌∷◌, ◌++◌, length, take, drop, refl, sym, ◌∙◌, ap, subst, arith, append_assoc, length-append, length-drop}
use Rattle.std.specs.Prelude.{slice_index_or}
use Rattle.std.specs.List.{flat_map, AllByRecursion}
use Rattle.std.proofs.lemmas.Grind.{flat_map-append}
use Rattle.std.proofs.lemmas.Bool.{ne_eqb}
use Rattle.std.proofs.lemmas.List.{length-take-le, take_all, drop_more}
use Rattle.std.proofs.lemmas.List.Sums.{sum_by-append, sum_by-cons}
use Rattle.wol_disk.specs.Disk.{Block, IsBlend}
use Rattle.wol_model.specs.Heads.{RecordHead, IsRecordHead, head_block, owned_block, gate_block}
use Rattle.wol_model.specs.Log.{Record, IsNamed, IsLog, EndsLog, HasFirstOf, written, end_of}
use Rattle.log_segment.specs.declared.item.Item.{Item}
use Rattle.log_segment.specs.Records.{new_head, new_record, group_of, count_of, AreItems, count_valid}
use Rattle.log_segment.specs.Group.{without_heads}
use Rattle.log_segment.proofs.Laid.{blend_past}

blend_of_same : (xs c : List Block) → IsBlend xs xs c → c ≡ xs
blend_of_same [] [] b = refl
blend_of_same [] (z ∷ c) b = absurd b
blend_of_same (x ∷ xs) [] b = absurd b
blend_of_same (x ∷ xs) (z ∷ c) b = λ i. ⊎_elim (λ p. p) (λ p. p) b.0 i ∷ blend_of_same xs c b.1 i

-- the items' blocks, one item at a time
pub count_more : (i : Item) (items : List Item) (n : ℕ) → count_of (i ∷ items) ≡ n → i.count + count_of items ≡ n
count_more i items n e = sym (sum_by-cons (λ (j : Item). j.count) i items) ∙ e

-- the item at an index, which stands in front of those behind it
abbrev pub item_at : List Item → (index : ℕ) → Item
item_at items index = slice_index_or items index (record { lbn = 0; count = 0 })

pub from_item : (items : List Item) (index : ℕ) → index < length items → drop index items ≡ item_at items index ∷ drop (index + 1) items
from_item items index lt = drop_more items index (record { lbn = 0; count = 0 }) lt

-- each item has a block
pub one_each : (items : List Item) → AreItems items → length items ≤ count_of items
one_each [] are = omega arith
one_each (i ∷ items) are = omega (arith, are.0.0, one_each items are.1, sum_by-cons (λ (j : Item). j.count) i items)

pow_pos : (n : ℕ) → 1 ≤ 2 ^ n
pow_pos zero = omega arith
pow_pos (suc n) = omega (arith, pow_pos n)

-- the heads of a group have their fields in their ranges
pub head_in_range : (owner version first count : ℕ) → owner < 2 ^ 32 → (1 ≤ version) × (version < 2 ^ 63) → (1 ≤ count) × (count ≤ 128) → first + count ≤ 2 ^ 32 → IsRecordHead (new_head owner version first count)
head_in_range owner version first count known v c range = record { owner = known; version = v; count = c; range = range; kept = let p = pow_pos count in omega arith; form = inl refl }

pub named_group : (owner version : ℕ) (items : List Item) (from : List Block) → owner < 2 ^ 32 → 1 ≤ version → version + length items ≤ 2 ^ 63 → AreItems items → count_of items ≡ length from → AllByRecursion (IsNamed owner) (group_of owner version items from)
named_group owner version [] from known one last are all = tt
named_group owner version (i ∷ items) from known one last are all =
    let total = count_more i items (length from) all in (
      record {
        in_range = head_in_range owner version i.lbn i.count known (one, omega arith) (are.0.0, are.0.1) are.0.2;
        owned = refl;
        counted = length-take-le i.count from (omega (arith, total));
      },
      named_group owner (version + 1) items (drop i.count from) known (omega arith) (omega arith) are.1 (omega (arith, total, length-drop i.count from)),
    )

named_take : (owner : ℕ) (rs items : List Record) (k : ℕ) → AllByRecursion (IsNamed owner) rs → AllByRecursion (IsNamed owner) items → AllByRecursion (IsNamed owner) (rs ++ take k items)
named_take owner [] [] zero h g = tt
named_take owner [] [] (suc k) h g = tt
named_take owner [] (q ∷ items) zero h g = tt
named_take owner [] (q ∷ items) (suc k) h g = (g.0, named_take owner [] items k tt g.1)
named_take owner (r ∷ rs) items k h g = (h.0, named_take owner rs items k h.1 g)

-- a group up to its first missing head, and a gate or nothing behind it
record Begins (c : List Block) (group : List Record) : Type 0 where
  pub count : ℕ
  pub within : count ≤ length group
  pub tail : List Block
  pub ends : EndsLog tail
  pub is : c ≡ flat_map written (take count group) ++ tail

begins : (owner version : ℕ) (items : List Item) (from rest c : List Block) → EndsLog rest → IsBlend (without_heads items from ++ rest) (flat_map written (group_of owner version items from) ++ rest) c → Begins c (group_of owner version items from)
begins owner version [] from rest c ends b = record { count = 0; within = omega arith; tail = rest; ends = ends; is = blend_of_same rest c b }
begins owner version (i ∷ items) from rest [] ends b = absurd b
begins owner version (i ∷ items) from rest (z ∷ c) ends b = ⊎_elim none (some (λ d way. begins owner (version + 1) items (drop i.count from) rest d ends way)) b.0
  where
    xs : List Block
    xs = take i.count from

    head : RecordHead
    head = new_head owner version i.lbn i.count

    later : List Block
    later = drop i.count from

    whole : List Record
    whole = group_of owner (version + 1) items later

    none : z ≡ gate_block → Begins (z ∷ c) (group_of owner version (i ∷ items) from)
    none is_gate = record { count = 0; within = omega arith; tail = z ∷ c; ends = is_gate; is = refl }

    some : ((d : List Block) → IsBlend (without_heads items later ++ rest) (flat_map written whole ++ rest) d → Begins d whole) → z ≡ head_block head → Begins (z ∷ c) (group_of owner version (i ∷ items) from)
    some again is_head =
        let joined : IsBlend (xs ++ (without_heads items later ++ rest)) (xs ++ (flat_map written whole ++ rest)) c =
        subst (λ (l : List Block). IsBlend l (xs ++ (flat_map written whole ++ rest)) c) (append_assoc xs (without_heads items later) rest)
        (subst (λ (l : List Block). IsBlend ((xs ++ without_heads items later) ++ rest) l c) (append_assoc xs (flat_map written whole) rest) b.1) in
        let past = blend_past xs (without_heads items later ++ rest) (flat_map written whole ++ rest) c joined in
        let more = again past.0 past.2 in
        record {
          count = suc more.count;
          within = omega (arith, more.within);
          tail = more.tail;
          ends = more.ends;
          is = λ j. is_head j ∷ (past.1 ∙ ap (λ l. xs ++ l) more.is ∙ sym (append_assoc xs (flat_map written (take more.count whole)) more.tail)) j;
        }

-- an image with some of the heads has the old records and some first ones of the group
pub first_left : (owner version : ℕ) (rs : List Record) (items : List Item) (from rest c : List Block) → owner < 2 ^ 32 → AllByRecursion (IsNamed owner) rs → AllByRecursion (IsNamed owner) (group_of owner version items from) → EndsLog rest
    → IsBlend ((owned_block owner ∷ flat_map written rs) ++ (without_heads items from ++ rest)) ((owned_block owner ∷ flat_map written rs) ++ (flat_map written (group_of owner version items from) ++ rest)) c
    → HasFirstOf c owner rs (group_of owner version items from)
first_left owner version rs items from rest c known named more ends b =
    let front = owned_block owner ∷ flat_map written rs in
    let group = group_of owner version items from in
    let past = blend_past front (without_heads items from ++ rest) (flat_map written group ++ rest) c b in
    let s = begins owner version items from rest past.0 ends past.2 in
    record {
      count = s.count;
      within = s.within;
      log = record {
        known = known;
        rest = s.tail;
        joined = past.1 ∙ ap (λ l. front ++ l) s.is ∙ sym (append_assoc front (flat_map written (take s.count group)) s.tail)
            ∙ ap (λ (l : List Block). (owned_block owner ∷ l) ++ s.tail) (sym (flat_map-append written rs (take s.count group)));
        named = named_take owner rs group s.count named more;
        ends = s.ends;
      };
    }

-- and one with all of them has all the group
pub grouped : (owner : ℕ) (rs group : List Record) (rest : List Block) → owner < 2 ^ 32 → AllByRecursion (IsNamed owner) rs → AllByRecursion (IsNamed owner) group → EndsLog rest
    → IsLog ((owned_block owner ∷ flat_map written rs) ++ (flat_map written group ++ rest)) owner (rs ++ group)
grouped owner rs group rest known named more ends = record {
  known = known;
  rest = rest;
  joined = sym (append_assoc (owned_block owner ∷ flat_map written rs) (flat_map written group) rest) ∙ ap (λ (l : List Block). (owned_block owner ∷ l) ++ rest) (sym (flat_map-append written rs group));
  named = let all = named_take owner rs group (length group) named more in subst (λ (l : List Record). AllByRecursion (IsNamed owner) (rs ++ l)) (take_all (length group) group (omega arith)) all;
  ends = ends;
}

-- the blocks of a group
group_size : (owner version : ℕ) (items : List Item) (from : List Block) → count_of items ≡ length from → length (flat_map written (group_of owner version items from)) ≡ length items + length from
group_size owner version [] from all = omega (arith, all)
group_size owner version (i ∷ items) from all =
    let total = count_more i items (length from) all in
    let more = group_size owner (version + 1) items (drop i.count from) (omega (arith, total, length-drop i.count from)) in
    omega (arith, total, more, length-drop i.count from, length-take-le i.count from (omega (arith, total)), length-append (take i.count from) (flat_map written (group_of owner (version + 1) items (drop i.count from))))

pub end_after : (owner version : ℕ) (rs : List Record) (items : List Item) (from : List Block) → count_of items ≡ length from → end_of (rs ++ group_of owner version items from) ≡ end_of rs + length items + length from
end_after owner version rs items from all =
    let group = group_of owner version items from in
    omega (arith, ap length (flat_map-append written rs group), length-append (flat_map written rs) (flat_map written group), group_size owner version items from all)

-- a new record keeps a block
keeps_some : (count : ℕ) → 1 ≤ count → not (eqb (2 ^ count - 1) 0) ≡ true
keeps_some zero le = absurd (omega arith)
keeps_some (suc n) le = more (2 ^ suc n - 1) (let p = pow_pos n in omega arith)
  where
    more : (m : ℕ) → 1 ≤ m → not (eqb m 0) ≡ true
    more zero le = absurd (omega arith)
    more (suc m) le = ap not (ne_eqb (suc m) 0 (λ e. absurd (omega (arith, e))))

group_valid : (owner version : ℕ) (items : List Item) (from : List Block) → AreItems items → count_valid (group_of owner version items from) ≡ length items
group_valid owner version [] from are = refl
group_valid owner version (i ∷ items) from are =
    let f : Record → ℕ = λ r. cond (not (eqb r.head.mask 0)) 1 0 in
    let one : f (record { head = new_head owner version i.lbn i.count; blocks = take i.count from }) ≡ 1 = ap (λ (b : Bool). cond b 1 0) (keeps_some i.count are.0.0) in
    let more = group_valid owner (version + 1) items (drop i.count from) are.1 in
    omega (arith, one, more, sum_by-cons f (record { head = new_head owner version i.lbn i.count; blocks = take i.count from }) (group_of owner (version + 1) items (drop i.count from)))

pub valid_after : (owner version : ℕ) (rs : List Record) (items : List Item) (from : List Block) → AreItems items → count_valid (rs ++ group_of owner version items from) ≡ count_valid rs + length items
valid_after owner version rs items from are =
    let f : Record → ℕ = λ r. cond (not (eqb r.head.mask 0)) 1 0 in
    omega (arith, sum_by-append f rs (group_of owner version items from), group_valid owner version items from are)

-- a group of one item is one new record
pub group_of_one : (owner version : ℕ) (item : Item) (from : List Block) → item.count ≡ length from → group_of owner version (item ∷ []) from ≡ new_record owner version item.lbn from ∷ []
group_of_one owner version item from is =
    λ j. record { head = new_head owner version item.lbn (is j); blocks = (ap (λ (n : ℕ). take n from) is ∙ take_all (length from) from (omega arith)) j } ∷ []

pub with_or_without : (c : List Block) (owner : ℕ) (rs : List Record) (r : Record) → HasFirstOf c owner rs (r ∷ []) → IsLog c owner rs ⊎ IsLog c owner (rs ++ r ∷ [])
with_or_without c owner rs r h = at h.count h.within h.log
  where
    nil : (l : List Record) → l ++ [] ≡ l
    nil [] = refl
    nil (x ∷ l) = ap (λ m. x ∷ m) (nil l)

    at : (k : ℕ) → k ≤ 1 → IsLog c owner (rs ++ take k (r ∷ [])) → IsLog c owner rs ⊎ IsLog c owner (rs ++ r ∷ [])
    at zero le log = inl (subst (λ (l : List Record). IsLog c owner l) (nil rs) log)
    at (suc zero) le log = inr log
    at (suc (suc k)) le log = absurd (omega arith)

-- none of the group
pub none_of : (c : List Block) (owner : ℕ) (rs group : List Record) → IsLog c owner rs → HasFirstOf c owner rs group
none_of c owner rs group log = record { count = 0; within = omega arith; log = subst (λ (l : List Record). IsLog c owner l) (sym (nil rs)) log }
  where
    nil : (l : List Record) → l ++ [] ≡ l
    nil [] = refl
    nil (x ∷ l) = ap (λ m. x ∷ m) (nil l)
