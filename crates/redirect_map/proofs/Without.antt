-- Entries of which some blocks are homed no more.
use Rattle.std.proofs.Common.{◌≡◌, ⊎_elim, ◌<◌, ◌≤◌, ◌+◌, ◌-◌, ◌*◌, ◌%◌, ◌^◌, ℕ, zero, suc, Bool, true, false, not, ◌&&◌, ◌||◌, List, [], ◌∷◌, ◌++◌, map, drop, set, Some, refl, sym, ap, ◌∙◌, subst, arith, eqb, leb, bit_and}
use Rattle.std.specs.Prelude.{slice_get}
use Rattle.std.specs.Int.{bit_not, w128}
use Rattle.std.specs.List.{AllByRecursion, AllZip, remove}
use Rattle.std.proofs.lemmas.Bool.{cases_lt, cases_eq, ne_eqb, eq-eqb, leb-true, false≢true, and_parts, or_parts, or_left, or_right, not-true, false_from_ne_true}
use Rattle.std.proofs.lemmas.Option.{none-some, same_Some}
use Rattle.wol_model.specs.Log.{has_bit}
use Rattle.wol_model.specs.Index.{AreRising}
use Rattle.block_cells.specs.declared.record.Rec.{Rec}
use Rattle.block_cells.specs.Masks.{in_mask}
use Rattle.block_cells.specs.Cells.{with_older}
use Rattle.block_cells.proofs.Bits.{has_bit-above, has_bit-zero, has_bit-without, has_bit-pow, small_from_bits}
use Rattle.block_cells.proofs.Marks.{in_mask-bit}
use Rattle.redirect_map.specs.declared.entry.Entry.{Entry}
use Rattle.redirect_map.specs.Kept.{keeps, one_keeps, IsInRange, IsWithout, IsUnhomed, AreLive, AreEntries, NoneHomed}
use Rattle.redirect_map.specs.Cells.{cell_of}
use Rattle.redirect_map.proofs.Answering.{wide}

-- ---- Sets of blocks

pub without_same : (S T : ℕ → Bool) → ((b : ℕ) → S b ≡ T b) → (old new : List Entry) → AllZip (IsWithout S) old new → AllZip (IsWithout T) old new
without_same S T same [] [] all = tt
without_same S T same [] (n ∷ ns) all = absurd all
without_same S T same (o ∷ os) [] all = absurd all
without_same S T same (o ∷ os) (n ∷ ns) all =
    (record { same = all.0.same; homed = λ i. all.0.homed i ∙ ap (λ (t : Bool). has_bit o.homed i && not t) (same (o.record.lbn + i)) }, without_same S T same os ns all.1)

and_true : (t : Bool) → (t && true) ≡ t
and_true true = refl
and_true false = refl

pub without_none : (S : ℕ → Bool) → ((b : ℕ) → S b ≡ false) → (xs : List Entry) → AllZip (IsWithout S) xs xs
without_none S none [] = tt
without_none S none (x ∷ xs) =
    (record { same = refl; homed = λ i. sym (ap (λ (t : Bool). has_bit x.homed i && not t) (none (x.record.lbn + i)) ∙ and_true (has_bit x.homed i)) }, without_none S none xs)

both : (h s t : Bool) → ((h && not s) && not t) ≡ (h && not (s || t))
both true true t = refl
both true false t = refl
both false s t = refl

pub without_more : (S T : ℕ → Bool) (a b c : List Entry) → AllZip (IsWithout S) a b → AllZip (IsWithout T) b c → AllZip (IsWithout (λ x. S x || T x)) a c
without_more S T [] [] [] first second = tt
without_more S T [] [] (z ∷ zs) first second = absurd second
without_more S T [] (y ∷ ys) c first second = absurd first
without_more S T (x ∷ xs) [] c first second = absurd first
without_more S T (x ∷ xs) (y ∷ ys) [] first second = absurd second
without_more S T (x ∷ xs) (y ∷ ys) (z ∷ zs) first second = (
  record {
    same = second.0.same ∙ first.0.same;
    homed = λ i. second.0.homed i
        ∙ (λ j. first.0.homed i j && not (T ((first.0.same j).lbn + i)))
        ∙ both (has_bit x.homed i) (S (x.record.lbn + i)) (T (x.record.lbn + i));
  },
  without_more S T xs ys zs first.1 second.1,
)

pub unhomed_from : (r : Rec) (old new : List Entry) → AllZip (IsWithout (in_mask r.lbn r.keep)) old new → AllZip (IsUnhomed r) old new
unhomed_from r [] [] all = tt
unhomed_from r [] (n ∷ ns) all = absurd all
unhomed_from r (o ∷ os) [] all = absurd all
unhomed_from r (o ∷ os) (n ∷ ns) all = (record { same = all.0.same; homed = all.0.homed }, unhomed_from r os ns all.1)

pub without_from : (r : Rec) (old new : List Entry) → AllZip (IsUnhomed r) old new → AllZip (IsWithout (in_mask r.lbn r.keep)) old new
without_from r [] [] all = tt
without_from r [] (n ∷ ns) all = absurd all
without_from r (o ∷ os) [] all = absurd all
without_from r (o ∷ os) (n ∷ ns) all = (record { same = all.0.same; homed = all.0.homed }, without_from r os ns all.1)

-- where no entry has a homed block, all stay as they are
pub unhomed_none : (r : Rec) (xs : List Entry) → NoneHomed xs → AllZip (IsUnhomed r) xs xs
unhomed_none r [] none = tt
unhomed_none r (x ∷ xs) none =
    (record { same = refl; homed = λ i. no_bit i ∙ sym (ap (λ (t : Bool). t && not (in_mask r.lbn r.keep (x.record.lbn + i))) (no_bit i)) }, unhomed_none r xs none.1)
  where
    no_bit : (i : ℕ) → has_bit x.homed i ≡ false
    no_bit i = ap (λ (m : ℕ). has_bit m i) none.0 ∙ has_bit-zero i

-- and where no entry keeps a block of the record
pub unhomed_apart : (r : Rec) (xs : List Entry) → AreLive xs → ((b : ℕ) → in_mask r.lbn r.keep b ≡ true → one_keeps xs b ≡ false) → AllZip (IsUnhomed r) xs xs
unhomed_apart r [] live none = tt
unhomed_apart r (x ∷ xs) live none = (
  record { same = refl; homed = λ i. at i (has_bit x.homed i) refl (in_mask r.lbn r.keep (x.record.lbn + i)) refl },
  unhomed_apart r xs live.1 (λ b on. (or_parts (keeps x b) (one_keeps xs b) (none b on)).1),
)
  where
    at : (i : ℕ) (t : Bool) → has_bit x.homed i ≡ t → (s : Bool) → in_mask r.lbn r.keep (x.record.lbn + i) ≡ s → t ≡ (t && not s)
    at i false off s is = refl
    at i true on false is = refl
    at i true on true is =
        let off : keeps x (x.record.lbn + i) ≡ false = (or_parts (keeps x (x.record.lbn + i)) (one_keeps xs (x.record.lbn + i)) (none (x.record.lbn + i) is)).0 in
        absurd (false≢true (sym off ∙ in_mask-bit x.record.lbn x.record.keep i ∙ (live.0 i on).0))

-- a further entry without a homed block, another one at a place, and one less
pub none_homed_added : (xs : List Entry) (x : Entry) → NoneHomed xs → x.homed ≡ 0 → NoneHomed (xs ++ x ∷ [])
none_homed_added [] x none here = (here, tt)
none_homed_added (y ∷ ys) x none here = (none.0, none_homed_added ys x none.1 here)

pub none_homed_set : (xs : List Entry) (k : ℕ) (x : Entry) → NoneHomed xs → x.homed ≡ 0 → NoneHomed (set xs k x)
none_homed_set [] k x none here = tt
none_homed_set (y ∷ ys) zero x none here = (here, none.1)
none_homed_set (y ∷ ys) (suc k) x none here = (none.0, none_homed_set ys k x none.1 here)

pub none_homed_removed : (xs : List Entry) (k : ℕ) → NoneHomed xs → NoneHomed (remove xs k)
none_homed_removed [] zero none = tt
none_homed_removed [] (suc k) none = tt
none_homed_removed (y ∷ ys) zero none = none.1
none_homed_removed (y ∷ ys) (suc k) none = (none.0, none_homed_removed ys k none.1)

-- the entry at a place
pub none_homed_at : (xs : List Entry) (k : ℕ) (x : Entry) → NoneHomed xs → slice_get xs k ≡ Some x → x.homed ≡ 0
none_homed_at [] k x none is = absurd (none-some x is)
none_homed_at (y ∷ ys) zero x none is = subst (λ (d : Entry). d.homed ≡ 0) (same_Some y x is) none.0
none_homed_at (y ∷ ys) (suc k) x none is = none_homed_at ys k x none.1 is

-- ---- What stays

versions_kept : (S : ℕ → Bool) (old new : List Entry) → AllZip (IsWithout S) old new → map (λ (d : Entry). d.record.version) new ≡ map (λ (d : Entry). d.record.version) old
versions_kept S [] [] all = refl
versions_kept S [] (n ∷ ns) all = absurd all
versions_kept S (o ∷ os) [] all = absurd all
versions_kept S (o ∷ os) (n ∷ ns) all = λ i. (all.0.same i).version ∷ versions_kept S os ns all.1 i

one_kept : (S : ℕ → Bool) (old new : List Entry) (b : ℕ) → AllZip (IsWithout S) old new → one_keeps new b ≡ one_keeps old b
one_kept S [] [] b all = refl
one_kept S [] (n ∷ ns) b all = absurd all
one_kept S (o ∷ os) [] b all = absurd all
one_kept S (o ∷ os) (n ∷ ns) b all = λ i. in_mask (all.0.same i).lbn (all.0.same i).keep b || one_kept S os ns b all.1 i

pub cell_kept : (S : ℕ → Bool) (old new : List Entry) (b : ℕ) → AllZip (IsWithout S) old new → cell_of new b ≡ cell_of old b
cell_kept S [] [] b all = refl
cell_kept S [] (n ∷ ns) b all = absurd all
cell_kept S (o ∷ os) [] b all = absurd all
cell_kept S (o ∷ os) (n ∷ ns) b all = λ i. with_older (in_mask (all.0.same i).lbn (all.0.same i).keep b) (all.0.same i).version (cell_kept S os ns b all.1 i)

homed_parts : (S : ℕ → Bool) (o n : Entry) (i : ℕ) → IsWithout S o n → has_bit n.homed i ≡ true → (has_bit o.homed i ≡ true) × (S (o.record.lbn + i) ≡ false)
homed_parts S o n i h on =
    let parts = and_parts (has_bit o.homed i) (not (S (o.record.lbn + i))) (sym (h.homed i) ∙ on) in
    (parts.0, not-true (S (o.record.lbn + i)) parts.1)

range_kept : (S : ℕ → Bool) (o n : Entry) → IsWithout S o n → IsInRange o → IsInRange n
range_kept S o n h range =
    let P : Rec → Type 0 = λ d. (1 ≤ d.count) × (d.count ≤ 128) × (d.lbn + d.count ≤ 2 ^ 32) × (0 < d.keep) × (d.keep < 2 ^ d.count) in
    let facts = subst P (sym h.same) (range.some, range.count, range.within, range.keeps, range.keep_within) in
    let Q : Rec → Type 0 = λ d. n.homed < 2 ^ d.count in
    let low : n.homed < 2 ^ o.record.count = small_from_bits n.homed o.record.count (λ i high. false_from_ne_true (has_bit n.homed i)
    (λ on. false≢true (sym (has_bit-above o.homed o.record.count i range.homed_within high) ∙ (homed_parts S o n i h on).0))) in
    record { some = facts.0; count = facts.1; within = facts.2; keeps = facts.3; keep_within = facts.4; homed_within = subst Q (sym h.same) low }

ranges_kept : (S : ℕ → Bool) (old new : List Entry) → AllZip (IsWithout S) old new → AllByRecursion IsInRange old → AllByRecursion IsInRange new
ranges_kept S [] [] all ranges = tt
ranges_kept S [] (n ∷ ns) all ranges = absurd all
ranges_kept S (o ∷ os) [] all ranges = absurd all
ranges_kept S (o ∷ os) (n ∷ ns) all ranges = (range_kept S o n all.0 ranges.0, ranges_kept S os ns all.1 ranges.1)

live_kept : (S : ℕ → Bool) (old new : List Entry) → AllZip (IsWithout S) old new → AreLive old → AreLive new
live_kept S [] [] all live = tt
live_kept S [] (n ∷ ns) all live = absurd all
live_kept S (o ∷ os) [] all live = absurd all
live_kept S (o ∷ os) (n ∷ ns) all live = (
  (λ i on.
      let parts = homed_parts S o n i all.0 on in
      let facts = live.0 i parts.0 in
      let P : Rec → Type 0 = λ d. (has_bit d.keep i ≡ true) × (one_keeps ns (d.lbn + i) ≡ false) in
      subst P (sym all.0.same) (facts.0, one_kept S os ns (o.record.lbn + i) all.1 ∙ facts.1)),
  live_kept S os ns all.1 live.1,
)

pub entries_kept : (S : ℕ → Bool) (old new : List Entry) → AllZip (IsWithout S) old new → AreEntries old → AreEntries new
entries_kept S old new all es = record {
  rising = subst AreRising (sym (versions_kept S old new all)) es.rising;
  ranges = ranges_kept S old new all es.ranges;
  live = live_kept S old new all es.live;
}

-- ---- One block

-- the homed bits of an entry that doesn't keep the block, or of which a later one does
untouched : (x : Entry) (b i : ℕ) → (has_bit x.homed i ≡ true → x.record.lbn + i ≡ b → ⊥) → has_bit x.homed i ≡ (has_bit x.homed i && not (eqb (x.record.lbn + i) b))
untouched x b i apart = at (has_bit x.homed i) refl
  where
    at : (t : Bool) → has_bit x.homed i ≡ t → t ≡ (t && not (eqb (x.record.lbn + i) b))
    at true on = sym (ap not (ne_eqb (x.record.lbn + i) b (apart on)))
    at false off = refl

pub all_untouched : (b : ℕ) (items : List Entry) → AreLive items → one_keeps items b ≡ false → AllZip (IsWithout (λ c. eqb c b)) items items
all_untouched b [] live none = tt
all_untouched b (x ∷ xs) live none =
    let parts = or_parts (keeps x b) (one_keeps xs b) none in
    (record { same = refl; homed = λ i. untouched x b i (λ on here. false≢true (sym parts.0 ∙ ap (keeps x) (sym here) ∙ in_mask-bit x.record.lbn x.record.keep i ∙ (live.0 i on).0)) }, all_untouched b xs live.1 parts.1)

keeps_one : (xs : List Entry) (k : ℕ) (e : Entry) (b : ℕ) → slice_get xs k ≡ Some e → keeps e b ≡ true → one_keeps xs b ≡ true
keeps_one [] k e b at keep = absurd (cc)
keeps_one (x ∷ xs) zero e b at keep =
    let f : x ≡ e = cc in
    or_left (keeps x b) (one_keeps xs b) (ap (λ (d : Entry). keeps d b) f ∙ keep)
keeps_one (x ∷ xs) (suc k) e b at keep = or_right (keeps x b) (one_keeps xs b) (keeps_one xs k e b at keep)

-- where the newest entry of the block has it homed no more, so have all
pub set_without : (items : List Entry) (k : ℕ) (e f : Entry) (b : ℕ) → slice_get items k ≡ Some e → AreLive items → keeps e b ≡ true → one_keeps (drop (suc k) items) b ≡ false
    → IsWithout (λ c. eqb c b) e f → AllZip (IsWithout (λ c. eqb c b)) items (set items k f)
set_without [] k e f b at live keep last h = absurd (cc)
set_without (x ∷ xs) zero e f b at live keep last h =
    let g : x ≡ e = cc in
    (subst (λ (d : Entry). IsWithout (λ c. eqb c b) d f) (sym g) h, all_untouched b xs live.1 last)
set_without (x ∷ xs) (suc k) e f b at live keep last h =
    (record { same = refl; homed = λ i. untouched x b i (λ on here. false≢true (sym (live.0 i on).1 ∙ ap (one_keeps xs) here ∙ keeps_one xs k e b at keep)) }, set_without xs k e f b at live.1 keep last h)

-- the bit of a block that an entry keeps
pub bit_within : (e : Entry) (b : ℕ) → IsInRange e → keeps e b ≡ true → (e.record.lbn ≤ b) × (b - e.record.lbn < 128)
bit_within e b r keep =
    let parts = and_parts (leb e.record.lbn b) (has_bit e.record.keep (b - e.record.lbn)) keep in
    (leb-true e.record.lbn b parts.0, ⊎_elim (λ less. less) (λ more. absurd (false≢true (sym (has_bit-above e.record.keep 128 (b - e.record.lbn) (wide e.record.keep e.record.count r.keep_within r.count) more) ∙ parts.1))) (cases_lt (b - e.record.lbn) 128))

unfoldable pub cleared : Entry → ℕ → Entry
cleared e mask = record { «record» = e.record; homed = bit_and e.homed (bit_not w128 mask) }

pub cleared_without : (e : Entry) (b : ℕ) → IsInRange e → keeps e b ≡ true → IsWithout (λ c. eqb c b) e (cleared e (1 * 2 ^ (b - e.record.lbn) % 2 ^ 128))
unfolding cleared
cleared_without e b r keep =
    let facts = bit_within e b r keep in
    let from : e.record.lbn ≤ b = facts.0 in
    let low : b - e.record.lbn < 128 = facts.1 in
    record {
      same = refl;
      homed = λ i. has_bit-without e.homed (1 * 2 ^ (b - e.record.lbn) % 2 ^ 128) i (wide e.homed e.record.count r.homed_within r.count) (omega arith)
          ∙ ap (λ (t : Bool). has_bit e.homed i && not t) (has_bit-pow (b - e.record.lbn) i low ∙ places i from);
    }
  where
    places : (i : ℕ) → e.record.lbn ≤ b → eqb i (b - e.record.lbn) ≡ eqb (e.record.lbn + i) b
    places i from = ⊎_elim
        (λ here. let at : e.record.lbn + i ≡ b = omega arith in eq-eqb i (b - e.record.lbn) here ∙ sym (eq-eqb (e.record.lbn + i) b at))
        (λ apart. ne_eqb i (b - e.record.lbn) apart ∙ sym (ne_eqb (e.record.lbn + i) b (λ same. apart (omega arith))))
        (cases_eq i (b - e.record.lbn))
