-- What a block spells is read back from the places of its fields.
use Rattle.std.proofs.Common.{◌≡◌, ◌≢◌, ◌⊎◌, ℕ, ◌-◌, ◌<◌, ◌≤◌, ◌^◌, Bool, true, false, cond, List, ◌++◌, drop, replicate, codes, nat_eq, refl, sym, ◌∙◌, ap, rules, arith, inl, inr}
use Rattle.std.proofs.lemmas.Bool.{eqb-true, eqb-false}
use Rattle.std.proofs.Math.Nat.{pow-le-pow_right}
use Rattle.byteorder.specs.Endian.{little_bytes, little_number}
use Rattle.byteorder.specs.Numbers.{little_number-reads_back}
use Rattle.wol_model.specs.Heads.{padded, Owned, owned_block, SpellsSegment, Shape, IsShape, label_block, SpellsLabel, RecordHead, IsRecordHead, span_bytes, head_block, SpellsRecord}
use Rattle.log_layout.specs.declared.label.Label.{Label}
use Rattle.log_layout.specs.declared.record.RecHead.{RecHead}
use Rattle.log_layout.specs.Fields.{label_at, record_at}
use Rattle.log_layout.specs.Values.{shape_of}

-- ---- Segment heads

pub owner_back : (b : List ℕ) (owner : ℕ) → SpellsSegment b (Owned owner) → little_number 4 (drop 8 b) ≡ owner
unfolding owned_block
owner_back b owner s = ap (λ l. little_number 4 (drop 8 l)) s.bytes ∙ little_number-reads_back 4 owner (replicate 500 0) s.in_range

-- ---- Labels

pub label_back : (v : Label) → IsShape (shape_of v) → v.id < 2 ^ 32 → label_at (label_block v.id (shape_of v)) ≡ v
unfolding label_block
label_back v r known =
    let zeros : List ℕ = replicate 484 0 in
    let b = label_block v.id (shape_of v) in
    let id : little_number 4 (drop 8 b) ≡ v.id = little_number-reads_back 4 v.id (little_bytes 8 v.home ++ (little_bytes 4 v.segments ++ (little_bytes 4 v.segment_blocks ++ zeros))) known in
    let home : little_number 8 (drop 12 b) ≡ v.home = little_number-reads_back 8 v.home (little_bytes 4 v.segments ++ (little_bytes 4 v.segment_blocks ++ zeros)) (omega (arith, r.home)) in
    let segments : little_number 4 (drop 20 b) ≡ v.segments = little_number-reads_back 4 v.segments (little_bytes 4 v.segment_blocks ++ zeros) (omega (arith, r.segments)) in
    let each : little_number 4 (drop 24 b) ≡ v.segment_blocks = little_number-reads_back 4 v.segment_blocks zeros (omega (arith, r.segment_blocks)) in
    λ i. record { id = id i; home = home i; segments = segments i; segment_blocks = each i }

-- the label of this volume and shape
abbrev pub label_of : ℕ → Shape → Label
label_of id s = record { id = id; home = s.home; segments = s.segments; segment_blocks = s.segment_blocks }

pub spelled_label : (b : List ℕ) (id : ℕ) (s : Shape) → SpellsLabel b id s → label_at b ≡ label_of id s
spelled_label b id s h = ap label_at h.bytes ∙ label_back (label_of id s) h.in_range h.id_in_range

-- ---- Record heads

form_one : RecordHead → ℕ → List ℕ
form_one h state = padded (codes "WOLREC01" ++ (little_bytes 4 state ++ span_bytes h))

form_two : RecordHead → List ℕ
form_two h = padded (codes "WOLREC02" ++ (little_bytes 4 0 ++ (span_bytes h ++ little_bytes 16 h.mask)))

block_one : (h : RecordHead) → h.form ≡ 1 → head_block h ≡ form_one h (cond (nat_eq h.mask 0) 2 1)
unfolding head_block form_one
block_one h one = let is_one : nat_eq h.form 1 ≡ true = rw one refl in rw is_one

block_two : (h : RecordHead) → h.form ≢ 1 → head_block h ≡ form_two h
unfolding head_block form_two
block_two h other = let not_one : nat_eq h.form 1 ≡ false = search (rules, other) in rw not_one

-- what the writer of the first form leaves, as the block of the head
pub first_written : (h : RecordHead) (state : ℕ) (b : List ℕ) → h.form ≡ 1 → state ≡ cond (nat_eq h.mask 0) 2 1
    → b ≡ codes "WOLREC01" ++ little_bytes 4 state ++ little_bytes 4 h.owner ++ little_bytes 8 h.version ++ little_bytes 8 h.first ++ little_bytes 4 h.count ++ replicate 476 0
    → b ≡ head_block h
unfolding form_one
first_written h state b one is e = e ∙ ap (form_one h) is ∙ sym (block_one h one)

pub second_written : (h : RecordHead) (b : List ℕ) → h.form ≢ 1
    → b ≡ codes "WOLREC02" ++ little_bytes 4 0 ++ little_bytes 4 h.owner ++ little_bytes 8 h.version ++ little_bytes 8 h.first ++ little_bytes 4 h.count ++ little_bytes 16 h.mask ++ replicate 460 0
    → b ≡ head_block h
unfolding form_two
second_written h b other e = e ∙ sym (block_two h other)

-- the head as this crate's value
abbrev pub head_of : RecordHead → RecHead
head_of h = record { form = h.form; keep = h.mask; owner = h.owner; version = h.version; lbn = h.first; count = h.count }

kept_by : ℕ → ℕ → ℕ
kept_by state count = cond (nat_eq state 1) (2 ^ count - 1) 0

one_back : (h : RecordHead) (state : ℕ) → IsRecordHead h → h.form ≡ 1 → state < 2 ^ 32 → kept_by state h.count ≡ h.mask → record_at (form_one h state) ≡ head_of h
unfolding form_one kept_by
one_back h state r one small kept =
    let zeros : List ℕ = replicate 476 0 in
    let b = form_one h state in
    let said : little_number 4 (drop 8 b) ≡ state = little_number-reads_back 4 state (span_bytes h ++ zeros) small in
    let owner : little_number 4 (drop 12 b) ≡ h.owner = little_number-reads_back 4 h.owner (little_bytes 8 h.version ++ (little_bytes 8 h.first ++ (little_bytes 4 h.count ++ zeros))) r.owner in
    let version : little_number 8 (drop 16 b) ≡ h.version = little_number-reads_back 8 h.version (little_bytes 8 h.first ++ (little_bytes 4 h.count ++ zeros)) (omega (arith, r.version)) in
    let first : little_number 8 (drop 24 b) ≡ h.first = little_number-reads_back 8 h.first (little_bytes 4 h.count ++ zeros) (omega (arith, r.range)) in
    let count : little_number 4 (drop 32 b) ≡ h.count = little_number-reads_back 4 h.count zeros (omega (arith, r.count)) in
    λ i. record { form = sym one i; keep = ((λ j. kept_by (said j) (count j)) ∙ kept) i; owner = owner i; version = version i; lbn = first i; count = count i }

two_back : (h : RecordHead) → IsRecordHead h → h.form ≡ 2 → record_at (form_two h) ≡ head_of h
unfolding form_two
two_back h r two =
    let zeros : List ℕ = replicate 460 0 in
    let b = form_two h in
    let few : h.count ≤ 128 = omega (arith, r.count) in
    let most : 2 ^ h.count ≤ 2 ^ 128 = pow-le-pow_right (omega arith) few in
    let mask : little_number 16 (drop 36 b) ≡ h.mask = little_number-reads_back 16 h.mask zeros (omega arith) in
    let owner : little_number 4 (drop 12 b) ≡ h.owner = little_number-reads_back 4 h.owner (little_bytes 8 h.version ++ (little_bytes 8 h.first ++ (little_bytes 4 h.count ++ (little_bytes 16 h.mask ++ zeros)))) r.owner in
    let version : little_number 8 (drop 16 b) ≡ h.version = little_number-reads_back 8 h.version (little_bytes 8 h.first ++ (little_bytes 4 h.count ++ (little_bytes 16 h.mask ++ zeros))) (omega (arith, r.version)) in
    let first : little_number 8 (drop 24 b) ≡ h.first = little_number-reads_back 8 h.first (little_bytes 4 h.count ++ (little_bytes 16 h.mask ++ zeros)) (omega (arith, r.range)) in
    let count : little_number 4 (drop 32 b) ≡ h.count = little_number-reads_back 4 h.count (little_bytes 16 h.mask ++ zeros) (omega (arith, r.count)) in
    λ i. record { form = sym two i; keep = mask i; owner = owner i; version = version i; lbn = first i; count = count i }

state_kept : (mask count : ℕ) (t : Bool) → nat_eq mask 0 ≡ t → (mask ≡ 0) ⊎ (mask ≡ 2 ^ count - 1) → kept_by (cond t 2 1) count ≡ mask
unfolding kept_by
state_kept mask count true is how = sym (eqb-true mask 0 is)
state_kept mask count false is (inl none) = absurd (eqb-false mask 0 is none)
state_kept mask count false is (inr whole) = sym whole

state_small : (t : Bool) → cond t 2 1 < 2 ^ 32
state_small true = omega arith
state_small false = omega arith

record_back : (h : RecordHead) → IsRecordHead h → record_at (head_block h) ≡ head_of h
record_back h r = elim r.form [
  | inl two ↦ ap record_at (block_two h (λ one. let e : 1 ≡ 2 = sym one ∙ two in absurd (omega arith))) ∙ two_back h r two
  | inr (one, how) ↦ ap record_at (block_one h one) ∙ one_back h (cond (nat_eq h.mask 0) 2 1) r one (state_small (nat_eq h.mask 0)) (state_kept h.mask h.count (nat_eq h.mask 0) refl how)
]

-- what stands at the places of the fields of a block that spells a head is that head
pub spelled_record : (b : List ℕ) (h : RecordHead) → SpellsRecord b h → record_at b ≡ head_of h
spelled_record b h s = ap record_at s.bytes ∙ record_back h s.in_range

-- the number of blocks alone
pub spelled_count : (b : List ℕ) (h : RecordHead) → SpellsRecord b h → little_number 4 (drop 32 b) ≡ h.count
spelled_count b h s = ap (λ (v : RecHead). v.count) (spelled_record b h s)

-- no head has no blocks, or over 128
pub count_within : (b : List ℕ) (h : RecordHead) → SpellsRecord b h → (1 ≤ little_number 4 (drop 32 b)) × (little_number 4 (drop 32 b) ≤ 128)
count_within b h s = let same = spelled_count b h s in (omega (arith, s.in_range.count, same), omega (arith, s.in_range.count, same))
