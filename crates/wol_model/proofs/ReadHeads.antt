-- A block spells one head at most, and its head is read back.
use Rattle.std.proofs.Common.{◌≡◌, ◌⊎◌, inl, inr, ℕ, ◌+◌, ◌-◌, ◌^◌, ◌<◌, ◌≤◌, Bool, true, false, cond, ◌&&◌, ◌||◌, [], ◌++◌, Option, None, Some, refl, sym, ap, ◌∙◌, arith, eqb, ltb, leb}
use Rattle.std.proofs.Math.Nat.{pow-le-pow_right}
use Rattle.std.specs.Str.{bytes_eq}
use Rattle.std.specs.Prelude.{codes}
use lib.Pointwise.{bytes_decides}
use Rattle.std.proofs.lemmas.Bool.{ltb-true, leb-true, eqb-true, eqb-false, lt-ltb, le-leb, eq-eqb}
use Rattle.byteorder.specs.Endian.{little_bytes, little_number}
use Rattle.byteorder.specs.Numbers.{little_number-reads_back}
use Rattle.wol_disk.specs.Disk.{Block}
use Rattle.wol_model.specs.Heads.{padded, span_bytes, RecordHead, IsRecordHead, IsMaskOfForm, SpellsRecord, head_block, gate_block}
use Rattle.wol_model.specs.Recovered.{is_in_range, fields_of, spelled_head}

pub read_back : (k n : ℕ) → n < 256 ^ k → little_number k (little_bytes k n ++ []) ≡ n
read_back k n lt = little_number-reads_back k n [] lt

pub same_bytes : (b : Block) → bytes_eq b b ≡ true
same_bytes b = (bytes_decides b b).1 refl

pub same_from : (a b : Block) → bytes_eq a b ≡ true → a ≡ b
same_from a b = (bytes_decides a b).0

both : (a b : Bool) → (a && b) ≡ true → (a ≡ true) × (b ≡ true)
both true b e = (refl, e)
both false b e = cc

either : (a b : Bool) → (a || b) ≡ true → (a ≡ true) ⊎ (b ≡ true)
either true b e = inl refl
either false b e = inr e

-- the test and the facts are one
pub in_range_from : (h : RecordHead) → is_in_range h ≡ true → IsRecordHead h
in_range_from h e =
    let owner = both (ltb h.owner (2 ^ 32)) _ e in
    let least = both (leb 1 h.version) _ owner.1 in
    let version = both (ltb h.version (2 ^ 63)) _ least.1 in
    let some = both (leb 1 h.count) _ version.1 in
    let most = both (leb h.count 128) _ some.1 in
    let first = both (leb (h.first + h.count) (2 ^ 32)) _ most.1 in
    let mask = both (ltb h.mask (2 ^ h.count)) _ first.1 in
    record {
      owner = ltb-true _ _ owner.0;
      version = (leb-true _ _ least.0, ltb-true _ _ version.0);
      count = (leb-true _ _ some.0, leb-true _ _ most.0);
      range = leb-true _ _ first.0;
      kept = ltb-true _ _ mask.0;
      form = form mask.1;
    }
  where
    form : ((eqb h.form 2) || (eqb h.form 1 && (eqb h.mask 0 || eqb h.mask (2 ^ h.count - 1)))) ≡ true → IsMaskOfForm h.form h.count h.mask
    form k = elim (either (eqb h.form 2) _ k) [
      | inl two ↦ inl (eqb-true _ _ two)
      | inr one ↦ let parts = both (eqb h.form 1) _ one in inr (eqb-true _ _ parts.0, elim (either (eqb h.mask 0) _ parts.1) [ inl none ↦ inl (eqb-true _ _ none) | inr whole ↦ inr (eqb-true _ _ whole) ])
    ]

pub in_range : (h : RecordHead) → IsRecordHead h → is_in_range h ≡ true
in_range h r = λ i.
    lt-ltb h.owner (2 ^ 32) r.owner i && (le-leb 1 h.version r.version.0 i && (lt-ltb h.version (2 ^ 63) r.version.1 i && (le-leb 1 h.count r.count.0 i && (le-leb h.count 128 r.count.1 i
    && (le-leb (h.first + h.count) (2 ^ 32) r.range i && (lt-ltb h.mask (2 ^ h.count) r.kept i && form r.form i))))))
  where
    true_or : (a b : Bool) → b ≡ true → (a || b) ≡ true
    true_or true b e = refl
    true_or false b e = e

    or_true : (a b : Bool) → a ≡ true → (a || b) ≡ true
    or_true a b e = λ i. e i || b

    form : IsMaskOfForm h.form h.count h.mask → ((eqb h.form 2) || (eqb h.form 1 && (eqb h.mask 0 || eqb h.mask (2 ^ h.count - 1)))) ≡ true
    form (inl two) = or_true (eqb h.form 2) _ (eq-eqb h.form 2 two)
    form (inr (one, inl none)) = true_or (eqb h.form 2) _ (λ i. eq-eqb h.form 1 one i && or_true (eqb h.mask 0) (eqb h.mask (2 ^ h.count - 1)) (eq-eqb h.mask 0 none) i)
    form (inr (one, inr whole)) = true_or (eqb h.form 2) _ (λ i. eq-eqb h.form 1 one i && true_or (eqb h.mask 0) _ (eq-eqb h.mask (2 ^ h.count - 1) whole) i)

-- the bounds that the widths of the fields ask for
record Fits (h : RecordHead) : Type 0 where
  owner : h.owner < 256 ^ 4
  version : h.version < 256 ^ 8
  first : h.first < 256 ^ 8
  count : h.count < 256 ^ 4
  mask : h.mask < 256 ^ 16

fits : (h : RecordHead) → IsRecordHead h → Fits h
fits h r =
    let room : 2 ^ h.count ≤ 2 ^ 128 = pow-le-pow_right (omega arith) r.count.1 in
    record { owner = r.owner; version = omega (arith, r.version.1); first = omega (arith, r.range); count = omega (arith, r.count.1); mask = omega (arith, room, r.kept) }

form_two : RecordHead → Block
form_two h = padded (codes "WOLREC02" ++ (little_bytes 4 0 ++ (span_bytes h ++ little_bytes 16 h.mask)))

form_one : RecordHead → ℕ → Block
form_one h state = padded (codes "WOLREC01" ++ (little_bytes 4 state ++ span_bytes h))

fields_two : (h : RecordHead) → IsRecordHead h → h.form ≡ 2 → fields_of (form_two h) ≡ h
unfolding fields_of form_two
fields_two h r two = λ i. record {
  form = sym two i;
  owner = read_back 4 h.owner (fits h r).owner i;
  version = read_back 8 h.version (fits h r).version i;
  first = read_back 8 h.first (fits h r).first i;
  count = read_back 4 h.count (fits h r).count i;
  mask = read_back 16 h.mask (fits h r).mask i;
}

mask_one : ℕ → ℕ → ℕ
mask_one state count = cond (eqb state 1) (2 ^ count - 1) 0

fields_one : (h : RecordHead) (state : ℕ) → IsRecordHead h → h.form ≡ 1 → state < 256 ^ 4 → mask_one state h.count ≡ h.mask → fields_of (form_one h state) ≡ h
unfolding fields_of form_one mask_one
fields_one h state r one small mask = λ i. record {
  form = sym one i;
  owner = read_back 4 h.owner (fits h r).owner i;
  version = read_back 8 h.version (fits h r).version i;
  first = read_back 8 h.first (fits h r).first i;
  count = read_back 4 h.count (fits h r).count i;
  mask = ((λ j. mask_one (read_back 4 state (small) j) (read_back 4 h.count (fits h r).count j)) ∙ mask) i;
}

block_two : (h : RecordHead) → h.form ≡ 2 → head_block h ≡ form_two h
unfolding head_block form_two
block_two h two = let not_one : eqb h.form 1 ≡ false = rw two refl in rw not_one

block_one : (h : RecordHead) → h.form ≡ 1 → head_block h ≡ form_one h (cond (eqb h.mask 0) 2 1)
unfolding head_block form_one
block_one h one = let is_one : eqb h.form 1 ≡ true = rw one refl in rw is_one

state_mask : (mask count : ℕ) (t : Bool) → eqb mask 0 ≡ t → (mask ≡ 0) ⊎ (mask ≡ 2 ^ count - 1) → mask_one (cond t 2 1) count ≡ mask
unfolding mask_one
state_mask mask count true is how = sym (eqb-true mask 0 is)
state_mask mask count false is (inl none) = absurd (eqb-false mask 0 is none)
state_mask mask count false is (inr whole) = sym whole

state_small : (t : Bool) → cond t 2 1 < 256 ^ 4
state_small true = omega arith
state_small false = omega arith

read_fields : (h : RecordHead) → IsRecordHead h → fields_of (head_block h) ≡ h
read_fields h r = elim r.form [
  | inl two ↦ ap fields_of (block_two h two) ∙ fields_two h r two
  | inr (one, how) ↦ ap fields_of (block_one h one) ∙ fields_one h (cond (eqb h.mask 0) 2 1) r one (state_small (eqb h.mask 0)) (state_mask h.mask h.count (eqb h.mask 0) refl how)
]

-- what is spelled is read
pub spelled_back : (h : RecordHead) → IsRecordHead h → spelled_head (head_block h) ≡ Some h
unfolding spelled_head
spelled_back h r = ap chosen (read_fields h r) ∙ ap (λ (t : Bool). cond t (Some h) None) (λ i. in_range h r i && same_bytes (head_block h) i)
  where
    chosen : RecordHead → Option RecordHead
    chosen g = cond (is_in_range g && bytes_eq (head_block h) (head_block g)) (Some g) None

-- what is read is spelled
pub spelled_from : (b : Block) (h : RecordHead) → spelled_head b ≡ Some h → SpellsRecord b h
unfolding spelled_head
spelled_from b h is = at (is_in_range (fields_of b) && bytes_eq b (head_block (fields_of b))) refl is
  where
    at : (t : Bool) → (is_in_range (fields_of b) && bytes_eq b (head_block (fields_of b))) ≡ t → cond t (Some (fields_of b)) None ≡ Some h → SpellsRecord b h
    at true e s = let parts = both (is_in_range (fields_of b)) _ e in let same : fields_of b ≡ h = grind arith in record {
      in_range = in_range_from h (ap is_in_range (sym same) ∙ parts.0);
      bytes = same_from b (head_block (fields_of b)) parts.1 ∙ ap head_block same;
    }
    at false e s = cc

-- a head is no gate
pub not_gate : (h : RecordHead) → bytes_eq (head_block h) gate_block ≡ false
unfolding head_block gate_block
not_gate h = at (eqb h.form 1)
  where
    at : (t : Bool) → bytes_eq (cond t (padded (codes "WOLREC01" ++ (little_bytes 4 (cond (eqb h.mask 0) 2 1) ++ span_bytes h))) (padded (codes "WOLREC02" ++ (little_bytes 4 0 ++ (span_bytes h ++ little_bytes 16 h.mask))))) gate_block ≡ false
    at true = refl
    at false = refl
