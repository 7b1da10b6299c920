-- Heads of segments and of records, written anew, and blocks read back.
use Rattle.std.proofs.Common.{◌≡◌, ◌⊎◌, inl, inr, ⊎_elim, ℕ, zero, suc, ◌+◌, ◌-◌, ◌<◌, ◌≤◌, ◌^◌, Bool, true, false, cond, eqb, not, List, [], ◌∷◌, ◌++◌, length, take, drop, Option, Some, option_map, sum_by, refl, sym, ◌∙◌, ap, subst, arith, append_assoc, length-append, length-drop}
use Rattle.std.specs.Prelude.{slice_get, slice_set}
use Rattle.std.specs.List.{flat_map, AllByRecursion}
use Rattle.std.proofs.lemmas.Grind.{flat_map-append}
use Rattle.std.proofs.lemmas.Option.{none-some, same_Some}
use Rattle.std.proofs.lemmas.List.{drop-append-le, take-append-le}
use Rattle.std.proofs.lemmas.Bool.{ne_eqb}
use Rattle.std.proofs.lemmas.List.Sums.{sum_by-append, sum_by-cons}
use Rattle.wol_disk.specs.Disk.{Block, Values, put, only, reads, IsImageOf}
use Rattle.wol_disk.proofs.Calls.{settled_from}
use Rattle.wol_disk.proofs.Images.{put_nothing, image_reads}
use Rattle.wol_model.specs.Heads.{RecordHead, IsRecordHead, head_block, free_block, owned_block, gate_block}
use Rattle.wol_model.specs.Log.{Record, IsNamed, IsIdle, IsLog, written, end_of, position_of}
use Rattle.log_segment.specs.Records.{count_valid, trimmed, IsSameHead}
use Rattle.log_segment.specs.Kept.{IsIdleOrClaimed}
use Rattle.log_segment.proofs.Laid.{put_one}

-- ---- Heads of segments

-- the first gate, and then the head
claimed : (owner : ℕ) (bs : List Block) → owner < 2 ^ 32 → 2 ≤ length bs → IsLog (put 0 (owned_block owner ∷ []) (put 1 (gate_block ∷ []) bs)) owner []
claimed owner [] known le = absurd (omega arith)
claimed owner (a ∷ []) known le = absurd (omega arith)
claimed owner (a ∷ b ∷ bs) known le = record { known = known; rest = gate_block ∷ bs; joined = ap (λ l. owned_block owner ∷ gate_block ∷ l) (put_nothing 0 bs); named = tt; ends = refl }

pub claimed_is : (owner : ℕ) (b h : Block) (bs : List Block) → b ≡ gate_block → h ≡ owned_block owner → owner < 2 ^ 32 → 2 ≤ length bs → IsLog (put 0 (h ∷ []) (put 1 (b ∷ []) bs)) owner []
claimed_is owner b h bs is_gate is_head known size = rw (is_gate, is_head) (claimed owner bs known size)

pub gated_idle : (bs xs : List Block) → IsIdle bs → IsIdle (put 1 xs bs)
gated_idle [] xs i = i
gated_idle (b ∷ bs) xs i = i

pub retired : (x : Block) (bs : List Block) → 1 ≤ length bs → x ≡ free_block → IsIdle (put 0 (x ∷ []) bs)
retired x [] le e = absurd (omega arith)
retired x (b ∷ bs) le e = e

pub length-told : (vs : List (Values Block)) → length (reads vs) ≡ length vs
length-told [] = refl
length-told (v ∷ vs) = ap suc (length-told vs)

told_image : (o : Option (List (Values Block))) (vs : List (Values Block)) → o ≡ Some vs → IsImageOf o (reads vs)
told_image o vs e = let P : Option (List (Values Block)) → Type 0 = λ l. IsImageOf l (reads vs) in subst P (sym e) (image_reads vs)

-- what a claim's last write leaves, of any disk each image of which is free
pub claim_leaves : (owner : ℕ) (b h : Block) (o mid : Option (List (Values Block))) (e c : List Block) → b ≡ gate_block → h ≡ owned_block owner → owner < 2 ^ 32 → mid ≡ option_map (λ vs. only (put 1 (b ∷ []) (reads vs))) o
    → ((vs : List (Values Block)) → o ≡ Some vs → 2 ≤ length (reads vs)) → ((d : List Block) → IsImageOf o d → IsIdle d) → IsImageOf mid e → (c ≡ e) ⊎ (c ≡ put 0 (h ∷ []) e) → IsIdleOrClaimed owner c
claim_leaves owner b h o mid e c is_gate is_head known m size idle i way =
    let P : Option (List (Values Block)) → Type 0 = λ l. IsImageOf l e in
    let from = settled_from (put 1 (b ∷ [])) o e (subst P m i) in
    let still : IsIdle (put 1 (b ∷ []) (reads from.0)) = gated_idle (reads from.0) (b ∷ []) (idle (reads from.0) (told_image o from.0 from.1)) in
    let is_log : IsLog (put 0 (h ∷ []) (put 1 (b ∷ []) (reads from.0))) owner [] = claimed_is owner b h (reads from.0) is_gate is_head known (size from.0 from.1) in
    ⊎_elim (λ p. inl (subst IsIdle (sym (p ∙ from.2)) still)) (λ p. inr (subst (λ (l : List Block). IsLog l owner []) (sym (p ∙ ap (put 0 (h ∷ [])) from.2)) is_log)) way

-- every image of a segment that was retired is free
pub retired_all : (b : Block) (o new : Option (List (Values Block))) (c : List Block) → b ≡ free_block → new ≡ option_map (λ vs. only (put 0 (b ∷ []) (reads vs))) o
    → ((vs : List (Values Block)) → o ≡ Some vs → 1 ≤ length (reads vs)) → IsImageOf new c → IsIdle c
retired_all b o new c is_free m size i =
    let P : Option (List (Values Block)) → Type 0 = λ l. IsImageOf l c in
    let from = settled_from (put 0 (b ∷ [])) o c (subst P m i) in
    subst IsIdle (sym from.2) (retired b (reads from.0) (size from.0 from.1) is_free)

-- ---- Heads of records

-- a list around one of its elements
pub split_at : (rs : List Record) (k : ℕ) (r : Record) → slice_get rs k ≡ Some r → rs ≡ take k rs ++ (r ∷ drop (suc k) rs)
split_at [] zero r e = absurd (none-some r e)
split_at [] (suc k) r e = absurd (none-some r e)
split_at (q ∷ rs) zero r e = λ i. same_Some q r e i ∷ rs
split_at (q ∷ rs) (suc k) r e = ap (λ l. q ∷ l) (split_at rs k r e)

pub set_at : (rs : List Record) (k : ℕ) (r s : Record) → slice_get rs k ≡ Some r → slice_set rs k s ≡ take k rs ++ (s ∷ drop (suc k) rs)
set_at [] zero r s e = absurd (none-some r e)
set_at [] (suc k) r s e = absurd (none-some r e)
set_at (q ∷ rs) zero r s e = refl
set_at (q ∷ rs) (suc k) r s e = ap (λ l. q ∷ l) (set_at rs k r s e)

named_at : (owner : ℕ) (ps qs : List Record) (r : Record) → AllByRecursion (IsNamed owner) (ps ++ r ∷ qs) → IsNamed owner r
named_at owner [] qs r named = named.0
named_at owner (p ∷ ps) qs r named = named_at owner ps qs r named.1

named_change : (owner : ℕ) (ps qs : List Record) (r s : Record) → IsNamed owner s → AllByRecursion (IsNamed owner) (ps ++ r ∷ qs) → AllByRecursion (IsNamed owner) (ps ++ s ∷ qs)
named_change owner [] qs r s is named = (is, named.1)
named_change owner (p ∷ ps) qs r s is named = (named.0, named_change owner ps qs r s is named.1)

around : (owner : ℕ) (ps qs : List Record) (r : Record) (rest : List Block)
    → owned_block owner ∷ (flat_map written (ps ++ r ∷ qs) ++ rest) ≡ (owned_block owner ∷ flat_map written ps) ++ (head_block r.head ∷ (r.blocks ++ (flat_map written qs ++ rest)))
around owner ps qs r rest =
    let front = owned_block owner ∷ flat_map written ps in
    ap (λ (l : List Block). owned_block owner ∷ (l ++ rest)) (flat_map-append written ps (r ∷ qs))
    ∙ append_assoc front (flat_map written (r ∷ qs)) rest
    ∙ ap (λ (l : List Block). front ++ (head_block r.head ∷ l)) (append_assoc r.blocks (flat_map written qs) rest)

-- a record's head written anew
changed : (owner : ℕ) (ps qs : List Record) (r : Record) (h : RecordHead) (bs : List Block) (n : ℕ) → IsLog bs owner (ps ++ r ∷ qs) → n ≡ end_of ps → IsRecordHead h → h.owner ≡ owner → h.count ≡ r.head.count
    → IsLog (put n (head_block h ∷ []) bs) owner (ps ++ record r { head = h } ∷ qs)
changed owner ps qs r h bs n log e range own count =
    let front = owned_block owner ∷ flat_map written ps in
    let was = named_at owner ps qs r log.named in
    let s : Record = record r { head = h } in
    record {
      known = log.known;
      rest = log.rest;
      joined =
          ap (put n (head_block h ∷ [])) (log.joined ∙ around owner ps qs r log.rest)
          ∙ put_one front (r.blocks ++ (flat_map written qs ++ log.rest)) (head_block h) (head_block r.head) n (omega (arith, e))
          ∙ sym (around owner ps qs s log.rest);
      named = named_change owner ps qs r s (record { in_range = range; owned = own; counted = was.counted ∙ sym count }) log.named;
      ends = log.ends;
    }

pub changed_at : (owner : ℕ) (rs : List Record) (k : ℕ) (r : Record) (h : RecordHead) (b : Block) (bs : List Block) (n : ℕ) → IsLog bs owner rs → slice_get rs k ≡ Some r → n ≡ position_of rs k → IsRecordHead h → h.owner ≡ owner → h.count ≡ r.head.count → b ≡ head_block h
    → IsLog (put n (b ∷ []) bs) owner (slice_set rs k (record r { head = h }))
changed_at owner rs k r h b bs n log at e range own count is =
    let ps = take k rs in
    let qs = drop (suc k) rs in
    let s : Record = record r { head = h } in
    let split : IsLog bs owner (ps ++ (r ∷ qs)) = subst (λ (l : List Record). IsLog bs owner l) (split_at rs k r at) log in
    let new : IsLog (put n (head_block h ∷ []) bs) owner (slice_set rs k s) = subst (λ (l : List Record). IsLog (put n (head_block h ∷ []) bs) owner l) (sym (set_at rs k r s at)) (changed owner ps qs r h bs n split e range own count) in
    subst (λ (x : Block). IsLog (put n (x ∷ []) bs) owner (slice_set rs k s)) (sym is) new

size_at : (ps qs : List Record) (r s : Record) → s.blocks ≡ r.blocks → length (flat_map written (ps ++ s ∷ qs)) ≡ length (flat_map written (ps ++ r ∷ qs))
size_at [] qs r s e = ap (λ (l : List Block). suc (length (l ++ flat_map written qs))) e
size_at (p ∷ ps) qs r s e = omega (arith, size_at ps qs r s e, length-append (written p) (flat_map written (ps ++ s ∷ qs)), length-append (written p) (flat_map written (ps ++ r ∷ qs)))

pub end_stays : (rs : List Record) (k : ℕ) (r : Record) (h : RecordHead) → slice_get rs k ≡ Some r → end_of (slice_set rs k (record r { head = h })) ≡ end_of rs
end_stays rs k r h at =
    let s : Record = record r { head = h } in
    ap end_of (set_at rs k r s at) ∙ ap (λ (n : ℕ). 1 + n) (size_at (take k rs) (drop (suc k) rs) r s refl) ∙ ap end_of (sym (split_at rs k r at))

is_kept : (m n : ℕ) → n < m → not (eqb m 0) ≡ true
is_kept zero n lt = absurd (omega arith)
is_kept (suc m) n lt = ap not (ne_eqb (suc m) 0 (λ e. absurd (omega (arith, e))))

-- how many records are valid after one of them was trimmed
pub valid_trimmed : (rs : List Record) (k : ℕ) (r : Record) (keep : ℕ) → slice_get rs k ≡ Some r → keep < r.head.mask → count_valid (slice_set rs k (trimmed keep r)) ≡ count_valid rs - cond (eqb keep 0) 1 0
valid_trimmed rs k r keep at lt =
    let f : Record → ℕ = λ q. cond (not (eqb q.head.mask 0)) 1 0 in
    let s = trimmed keep r in
    let ps = take k rs in
    let qs = drop (suc k) rs in
    let was : count_valid rs ≡ count_valid (ps ++ (r ∷ qs)) = ap count_valid (split_at rs k r at) in
    let now : count_valid (slice_set rs k s) ≡ count_valid (ps ++ (s ∷ qs)) = ap count_valid (set_at rs k r s at) in
    let one : sum_by f (r ∷ qs) ≡ 1 + sum_by f qs = sum_by-cons f r qs ∙ ap (λ (b : Bool). cond b 1 0 + sum_by f qs) (is_kept r.head.mask keep lt) in
    let other : sum_by f (s ∷ qs) + cond (eqb keep 0) 1 0 ≡ 1 + sum_by f qs = ap (λ (n : ℕ). n + cond (eqb keep 0) 1 0) (sum_by-cons f s qs) ∙ either (eqb keep 0) (sum_by f qs) in
    omega (arith, was, now, one, other, sum_by-append f ps (r ∷ qs), sum_by-append f ps (s ∷ qs))
  where
    either : (b : Bool) (n : ℕ) → (cond (not b) 1 0 + n) + cond b 1 0 ≡ 1 + n
    either true n = omega arith
    either false n = omega arith

-- ---- Reading

drop_past : (p l : List Block) (n k : ℕ) → n ≡ length p + k → drop n (p ++ l) ≡ drop k l
drop_past [] l n k e = let same : n ≡ k = omega arith in ap (λ (m : ℕ). drop m l) same
drop_past (x ∷ p) l zero k e = absurd (omega arith)
drop_past (x ∷ p) l (suc n) k e = drop_past p l n k (omega arith)

-- a read within a record's blocks
pub read_blocks : (owner : ℕ) (rs : List Record) (k : ℕ) (r : Record) (bs : List Block) (pos skip n : ℕ) → IsLog bs owner rs → slice_get rs k ≡ Some r → pos ≡ position_of rs k → skip + n ≤ length r.blocks
    → take n (drop (pos + 1 + skip) bs) ≡ take n (drop skip r.blocks)
read_blocks owner rs k r bs pos skip n log at e fits =
    let ps = take k rs in
    let qs = drop (suc k) rs in
    let front = owned_block owner ∷ flat_map written ps in
    let le : skip ≤ length r.blocks = omega arith in
    let room : n ≤ length (drop skip r.blocks) = omega (arith, length-drop skip r.blocks) in
    ap (λ (l : List Block). take n (drop (pos + 1 + skip) l)) (log.joined ∙ ap (λ (l : List Record). owned_block owner ∷ (flat_map written l ++ log.rest)) (split_at rs k r at) ∙ around owner ps qs r log.rest)
    ∙ ap (take n) (drop_past front (head_block r.head ∷ (r.blocks ++ (flat_map written qs ++ log.rest))) (pos + 1 + skip) (suc skip) (omega (arith, e)))
    ∙ ap (take n) (drop-append-le skip r.blocks (flat_map written qs ++ log.rest) le)
    ∙ take-append-le n (drop skip r.blocks) (flat_map written qs ++ log.rest) room

-- ---- Trimming

-- the head of the record that is trimmed
pub trimmed_is : (keep owner : ℕ) (h : RecordHead) (r : Record) → h.owner ≡ owner → IsSameHead h r.head → ◌≡◌ {A = Record} (record r { head = record h { form = 2; owner = owner; mask = keep } }) (trimmed keep r)
trimmed_is keep owner h r own same =
    ap (λ (o : ℕ). record r { head = record h { form = 2; owner = o; mask = keep } }) (sym own) ∙ ap (λ (g : RecordHead). record r { head = record g { form = 2; mask = keep } }) same
