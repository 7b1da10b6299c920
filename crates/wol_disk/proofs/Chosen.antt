-- The image that is chosen, block by block.
use Rattle.std.proofs.Common.{◌≡◌, ◌⊎◌, inl, inr, ℕ, zero, suc, ◌+◌, ◌-◌, ◌%◌, ◌<◌, ◌≤◌, true, false, cond, ◌&&◌, nat_lt, List, [], ◌∷◌, length, take, get_or, set, refl, sym, ◌∙◌, ap, arith, nat_le}
use Rattle.std.proofs.lemmas.Bool.{cases_lt}
use Rattle.std.proofs.lemmas.Bool.Decides.{nat_tests}
use Rattle.wol_disk.specs.Disk.{Values, Block, fresh, renewed, only, reads, settled, added}
use Rattle.wol_disk.specs.Record.{step, values_after, block_step, block_after, value_at, chosen}
use Rattle.wol_disk.specs.RecordSound.{length-step, length-values_after, length-only}
use Rattle.std.proofs.lemmas.List.{get_or_default, take_all}
use Rattle.wol_disk.specs.declared.record.Call.{Call}
use Rattle.wol_disk.specs.declared.record.Call.TheVariants.{Wrote, Synced}

at_covered : (at : ℕ) (xs : List Block) (vs : List (Values Block)) (i : ℕ) (d : Values Block) → i < length vs → at ≤ i → i - at < length xs → get_or (added at xs vs) i d ≡ renewed (get_or xs (i - at) []) (get_or vs i d)
at_covered at xs [] i d lt le c = absurd (omega arith)
at_covered zero [] (v ∷ vs) i d lt le c = absurd (omega arith)
at_covered zero (x ∷ xs) (v ∷ vs) zero d lt le c = refl
at_covered zero (x ∷ xs) (v ∷ vs) (suc i) d lt le c =
    let s : suc i - 0 ≡ suc i = omega arith in
    let z : i - 0 ≡ i = omega arith in
    at_covered zero xs vs i d (omega arith) (omega arith) (omega arith) ∙ ap (λ (n : ℕ). renewed (get_or xs n []) (get_or vs i d)) z ∙ sym (ap (λ (n : ℕ). renewed (get_or (x ∷ xs) n []) (get_or vs i d)) s)
at_covered (suc at) xs (v ∷ vs) zero d lt le c = absurd (omega arith)
at_covered (suc at) xs (v ∷ vs) (suc i) d lt le c =
    let s : suc i - suc at ≡ i - at = omega arith in
    at_covered at xs vs i d (omega arith) (omega arith) (omega arith) ∙ sym (ap (λ (n : ℕ). renewed (get_or xs n []) (get_or vs i d)) s)

at_other : (at : ℕ) (xs : List Block) (vs : List (Values Block)) (i : ℕ) (d : Values Block) → i < length vs → (i < at) ⊎ (at + length xs ≤ i) → get_or (added at xs vs) i d ≡ get_or vs i d
at_other at xs [] i d lt o = absurd (omega arith)
at_other zero [] (v ∷ vs) i d lt o = refl
at_other zero (x ∷ xs) (v ∷ vs) zero d lt (inl l) = absurd (omega arith)
at_other zero (x ∷ xs) (v ∷ vs) zero d lt (inr l) = absurd (omega arith)
at_other zero (x ∷ xs) (v ∷ vs) (suc i) d lt (inl l) = absurd (omega arith)
at_other zero (x ∷ xs) (v ∷ vs) (suc i) d lt (inr l) = at_other zero xs vs i d (omega arith) (inr (omega arith))
at_other (suc at) xs (v ∷ vs) zero d lt o = refl
at_other (suc at) xs (v ∷ vs) (suc i) d lt (inl l) = at_other at xs vs i d (omega arith) (inl (omega arith))
at_other (suc at) xs (v ∷ vs) (suc i) d lt (inr l) = at_other at xs vs i d (omega arith) (inr (omega arith))

at_settled : (vs : List (Values Block)) (i : ℕ) (d : Values Block) → i < length vs → get_or (settled vs) i d ≡ fresh (get_or vs i d).now
at_settled [] i d lt = absurd (omega arith)
at_settled (v ∷ vs) zero d lt = refl
at_settled (v ∷ vs) (suc i) d lt = at_settled vs i d (omega arith)

test_true : (at i n : ℕ) → at ≤ i → i - at < n → (nat_le at i && nat_lt (i - at) n) ≡ true
test_true at i n le lt = grind (arith, nat_tests)

test_false : (at i n : ℕ) → (i < at) ⊎ (at + n ≤ i) → (nat_le at i && nat_lt (i - at) n) ≡ false
test_false at i n o = grind (arith, nat_tests)

at_step : (call : Call) (vs : List (Values Block)) (i : ℕ) (d : Values Block) → i < length vs → get_or (step call vs) i d ≡ block_step i call (get_or vs i d)
at_step Synced vs i d lt = at_settled vs i d lt
at_step (Wrote at v) vs i d lt =
    let w = get_or vs i d in
    let other : (i < at) ⊎ (at + length v.items ≤ i) → get_or (added at v.items vs) i d ≡ block_step i (Wrote at v) w = λ o.
    at_other at v.items vs i d lt o ∙ sym (ap (λ b. cond b (renewed (get_or v.items (i - at) []) w) w) (test_false at i (length v.items) o)) in
    elim (cases_lt i at) [
      | inl l ↦ other (inl l)
      | inr le ↦ elim (cases_lt (i - at) (length v.items)) [
        | inl c ↦ at_covered at v.items vs i d lt le c ∙ sym (ap (λ b. cond b (renewed (get_or v.items (i - at) []) w) w) (test_true at i (length v.items) le c))
        | inr m ↦ other (inr (omega (arith, le, m)))
      ]
    ]

at_after : (calls : List Call) (vs : List (Values Block)) (i : ℕ) (d : Values Block) → i < length vs → get_or (values_after calls vs) i d ≡ block_after i calls (get_or vs i d)
at_after [] vs i d lt = refl
at_after (call ∷ calls) vs i d lt = at_after calls (step call vs) i d (omega (arith, lt, length-step call vs)) ∙ ap (block_after i calls) (at_step call vs i d lt)

at_only : (bs : List Block) (i : ℕ) (e : Block) → i < length bs → get_or (only bs) i (fresh e) ≡ fresh (get_or bs i e)
at_only [] i e lt = absurd (omega arith)
at_only (b ∷ bs) zero e lt = refl
at_only (b ∷ bs) (suc i) e lt = at_only bs i e (omega arith)

pub chosen_none : (vs : List (Values Block)) → chosen [] vs ≡ reads vs
chosen_none [] = refl
chosen_none (v ∷ vs) = ap (λ l. v.now ∷ l) (chosen_none vs)

chosen_more : (choice : List ℕ) (vs : List (Values Block)) (i c : ℕ) (w : Values Block) → i < length vs → i < length choice → c ≡ get_or choice i c → w ≡ get_or vs i w
    → chosen (take (i + 1) choice) vs ≡ set (chosen (take i choice) vs) i (value_at (c % (length w.earlier + 1)) w)
chosen_more choice [] i c w lt lc e f = absurd (omega arith)
chosen_more [] (v ∷ vs) i c w lt lc e f = absurd (omega arith)
chosen_more (a ∷ choice) (v ∷ vs) zero c w lt lc e f = λ j. value_at (sym e j % (length (sym f j).earlier + 1)) (sym f j) ∷ chosen [] vs
chosen_more (a ∷ choice) (v ∷ vs) (suc i) c w lt lc e f =
    let s : suc i + 1 ≡ suc (i + 1) = omega arith in
    ap (λ (n : ℕ). chosen (take n (a ∷ choice)) (v ∷ vs)) s ∙ ap (λ l. value_at (a % (length v.earlier + 1)) v ∷ l) (chosen_more choice vs i c w (omega arith) (omega arith) e f)

-- a block's values, found by the walk through the calls
pub values_here : (first : List Block) (calls : List Call) (i : ℕ) (b : Block) → i < length first → b ≡ get_or first i b → block_after i calls (fresh b) ≡ get_or (values_after calls (only first)) i (block_after i calls (fresh b))
values_here first calls i b lt e =
    let size : length (only first) ≡ length first = length-only first in
    let all : length (values_after calls (only first)) ≡ length (only first) = length-values_after calls (only first) in
    ap (λ (x : Block). block_after i calls (fresh x)) e ∙ sym (ap (block_after i calls) (at_only first i b lt)) ∙ sym (at_after calls (only first) i (fresh b) (omega (arith, lt, size)))
    ∙ get_or_default (values_after calls (only first)) i (fresh b) (block_after i calls (fresh b)) (omega (arith, lt, size, all))

pub one_chosen : (first : List Block) (calls : List Call) (choice : List ℕ) (i c : ℕ) (b x : Block) (out : List Block) → i < length first → i < length choice → b ≡ get_or first i b → c ≡ get_or choice i c
    → x ≡ value_at (c % (length (block_after i calls (fresh b)).earlier + 1)) (block_after i calls (fresh b)) → out ≡ chosen (take i choice) (values_after calls (only first))
    → set out i x ≡ chosen (take (i + 1) choice) (values_after calls (only first))
one_chosen first calls choice i c b x out lt lc e f is so_far =
    let vs = values_after calls (only first) in
    let size : length vs ≡ length first = length-values_after calls (only first) ∙ length-only first in
    ap (λ l. set l i x) so_far ∙ ap (set (chosen (take i choice) vs) i) is ∙ sym (chosen_more choice vs i c (block_after i calls (fresh b)) (omega (arith, lt, size)) lc f (values_here first calls i b lt e))

pub all_chosen : (choice : List ℕ) (vs : List (Values Block)) (n : ℕ) → length choice ≤ n → chosen (take n choice) vs ≡ chosen choice vs
all_chosen choice vs n le = ap (λ l. chosen l vs) (take_all n choice le)

pub enough_chosen : (choice : List ℕ) (vs : List (Values Block)) (n : ℕ) → length vs ≤ n → chosen (take n choice) vs ≡ chosen choice vs
enough_chosen choice [] n le = refl
enough_chosen choice (v ∷ vs) zero le = absurd (omega arith)
enough_chosen [] (v ∷ vs) (suc n) le = refl
enough_chosen (c ∷ choice) (v ∷ vs) (suc n) le = ap (λ l. value_at (c % (length v.earlier + 1)) v ∷ l) (enough_chosen choice vs n (omega arith))
