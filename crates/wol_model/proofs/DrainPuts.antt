-- A step that puts due blocks home lowers what is left.
use Rattle.std.proofs.Common.{◌≡◌, ◌<◌, ◌≤◌, ◌+◌, ℕ, Bool, true, false, not, ◌&&◌, ◌||◌, List, ◌∷◌, ◌++◌, length, refl, sym, ap, ◌∙◌, arith}
use Rattle.std.specs.Prelude.{sum_by}
use Rattle.std.specs.List.{count_by}
use Rattle.std.proofs.lemmas.List.{map-append}
use Rattle.wol_model.specs.Extents.{Cover, has_newer}
use Rattle.wol_model.specs.Index.{Listed, cover_of, is_homed, listed_covers, is_due, block_numbers, homing, left}
use Rattle.wol_model.specs.IndexLaws.{PuttingLowers}
use Rattle.wol_model.proofs.Counts.{both, not_false, not_true, Implies, count_lower, marked_within, marked_set, or_false_left, due_by, left_by, around}

module _ (front back : List Listed) (e : Listed) (put : ℕ → Bool) (b : ℕ) (sized : length e.homed ≡ length e.keep)
    (due : (c : ℕ) → put c ≡ true → is_due (front ++ e ∷ back) e c ≡ true) (is_put : put b ≡ true) where
  abbrev es : List Listed
  es = front ++ e ∷ back

  abbrev cs : List Cover
  cs = listed_covers es

  abbrev e' : Listed
  e' = homing put e

  same_covers : listed_covers (front ++ e' ∷ back) ≡ cs
  same_covers = map-append cover_of front (e' ∷ back) ∙ sym (map-append cover_of front (e ∷ back))

  range_of : (c : ℕ) → (cover_of e).covers c ≡ true → (e.first ≤ c) × (c < e.first + length e.keep)
  range_of c covers = marked_within e.first e.keep c covers

  homed_then : (c : ℕ) → (cover_of e).covers c ≡ true → is_homed e' c ≡ (is_homed e c || put c)
  homed_then c covers = let r = range_of c covers in marked_set e.first e.homed (λ d m. m || put d) c r.0 (omega (arith, r.1, sized))

  still_due : Implies (due_by cs e') (due_by cs e)
  still_due c is =
      let parts = both ((cover_of e).covers c && not (has_newer cs e.version c)) (not (is_homed e' c)) is in
      let covers = (both ((cover_of e).covers c) (not (has_newer cs e.version c)) parts.0).0 in
      let unhomed : is_homed e c ≡ false = or_false_left (is_homed e c) (put c) (sym (homed_then c covers) ∙ not_true (is_homed e' c) parts.1) in
      λ i. parts.0 i && not_false (is_homed e c) unhomed i

  was_due : due_by cs e b ≡ true
  was_due = due b is_put

  no_longer : due_by cs e' b ≡ false
  no_longer =
      let parts = both ((cover_of e).covers b && not (has_newer cs e.version b)) (not (is_homed e b)) was_due in
      let covers = (both ((cover_of e).covers b) (not (has_newer cs e.version b)) parts.0).0 in
      (λ i. ((cover_of e).covers b && not (has_newer cs e.version b)) && not (homed_then b covers i))
      ∙ (λ i. ((cover_of e).covers b && not (has_newer cs e.version b)) && not (is_homed e b || is_put i))
      ∙ closed ((cover_of e).covers b && not (has_newer cs e.version b)) (is_homed e b)
    where
      closed : (x y : Bool) → (x && not (y || true)) ≡ false
      closed true true = refl
      closed true false = refl
      closed false y = refl

  e_lower : left_by cs e' < left_by cs e
  e_lower =
      let parts = both ((cover_of e).covers b && not (has_newer cs e.version b)) (not (is_homed e b)) was_due in
      let covers = (both ((cover_of e).covers b) (not (has_newer cs e.version b)) parts.0).0 in
      let r = range_of b covers in
      let lower : count_by (due_by cs e') (block_numbers e) < count_by (due_by cs e) (block_numbers e) = count_lower (due_by cs e') (due_by cs e) e.first (length e.keep) b still_due r.0 r.1 was_due no_longer in
      omega (arith, lower)

  putting : left (front ++ e' ∷ back) < left es
  putting =
      let new : left (front ++ e' ∷ back) ≡ sum_by (left_by cs) front + (left_by cs e' + sum_by (left_by cs) back) = ap (λ (l : List Cover). sum_by (left_by l) (front ++ e' ∷ back)) same_covers ∙ around (left_by cs) front e' back in
      let old : left es ≡ sum_by (left_by cs) front + (left_by cs e + sum_by (left_by cs) back) = around (left_by cs) front e back in
      omega (arith, new, old, e_lower)

pub putting_lowers : PuttingLowers
putting_lowers front back e put b sized due is_put = putting front back e put b sized due is_put
