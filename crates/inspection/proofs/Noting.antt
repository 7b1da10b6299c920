-- Places that were noted: each of a list once.
use Rattle.std.proofs.Common.{◌≡◌, ◌+◌, ◌<◌, ◌||◌, ℕ, zero, suc, Bool, true, false, List, [], ◌∷◌, ◌++◌, length, map, take, Some, inl, inr, refl, sym, ap, subst, ◌∙◌, arith}
use Rattle.std.specs.Prelude.{IfSome, slice_get}
use Rattle.std.specs.List.{IsDistinct, list_any}
use Rattle.std.specs.Set.{is_member}
use Rattle.std.proofs.lemmas.Bool.{cases_Bool}
use Rattle.std.proofs.lemmas.List.{map-append, take_more}
use Rattle.std.proofs.lemmas.List.Folds.{list_any-append}
use Rattle.std.proofs.lemmas.Option.{get_or_from_slice_get, slice_get_within}
use Rattle.wol_model.specs.Index.{Indexed}
use Rattle.wol_promise.proofs.Lists.{all_push}
use Rattle.block_cells.specs.declared.record.Rec.{Rec}
use Rattle.redirect_map.specs.Index.{IsRecordOf}
use Rattle.inspection.specs.Segments.{is_same_place, noted, place_of}
use Rattle.inspection.proofs.HeldCount.{exact, laws}

-- an element stands at each place of a list
pub there_is : {X : Type 0} (xs : List X) (k : ℕ) → k < length xs → (x : X) × (slice_get xs k ≡ Some x)
there_is [] k within = absurd (omega (arith, within))
there_is (x ∷ xs) zero within = (x, refl)
there_is (x ∷ xs) (suc k) within = there_is xs k (omega (arith, within))

-- the first elements, and one more
pub first_more : {X : Type 0} (xs : List X) (k : ℕ) (x : X) → slice_get xs k ≡ Some x → take (k + 1) xs ≡ take k xs ++ x ∷ []
first_more {X} xs k x is = take_more xs k x (slice_get_within xs k x is) ∙ ap (λ (y : X). take k xs ++ y ∷ []) (get_or_from_slice_get xs k x x is)

-- the noted ones are the places of the list, each once
pub record AreNoted (places different : List (ℕ × ℕ)) : Type 0 where
  pub apart : IsDistinct is_same_place different
  pub same : (p : ℕ × ℕ) → is_member is_same_place different p ≡ is_member is_same_place places p

pub none_noted : AreNoted [] []
unfolding IsDistinct
none_noted = record { apart = tt; same = λ p. refl }

either : (a b : Bool) → (a || b) ≡ false → (a ≡ false) × (b ≡ false)
either true b is = absurd (cc is)
either false b is = (refl, is)

distinct_push : (ps : List (ℕ × ℕ)) (p : ℕ × ℕ) → IsDistinct is_same_place ps → list_any (is_same_place p) ps ≡ false → IsDistinct is_same_place (ps ++ p ∷ [])
unfolding IsDistinct
distinct_push [] p apart none = (tt, tt)
distinct_push (q ∷ ps) p apart none =
    let both = either (is_same_place p q) (list_any (is_same_place p) ps) none in
    (all_push (λ (r : ℕ × ℕ). is_same_place q r ≡ false) ps p apart.0 (laws.symm q p ∙ both.0), distinct_push ps p apart.1 both.1)

or_none : (b : Bool) → (b || false) ≡ b
or_none true = refl
or_none false = refl

-- one more is among them where it is the same as one that is
member_too : (ps : List (ℕ × ℕ)) (p q : ℕ × ℕ) → list_any (is_same_place p) ps ≡ true → is_member is_same_place ps q ≡ (is_member is_same_place ps q || (is_same_place q p || false))
member_too ps p q known = elim (cases_Bool (is_same_place q p)) [
  | inl same ↦
      let e : q ≡ p = exact q p same in
      let there : is_member is_same_place ps q ≡ true = rw e known in rw (there) refl
  | inr other ↦ rw other (sym (or_none (is_member is_same_place ps q)))
]

pub noted_more : (places different : List (ℕ × ℕ)) (p : ℕ × ℕ) → AreNoted places different → AreNoted (places ++ p ∷ []) (noted different p)
noted_more places different p are = elim (cases_Bool (list_any (is_same_place p) different)) [
  | inl known ↦ rw known (record {
    apart = are.apart;
    same = λ q. member_too different p q known ∙ rw (are.same q, list_any-append (is_same_place q) places (p ∷ [])) refl;
  })
  | inr new ↦ rw new (record {
    apart = distinct_push different p are.apart new;
    same = λ q. rw (list_any-append (is_same_place q) different (p ∷ []), list_any-append (is_same_place q) places (p ∷ []), are.same q) refl;
  })
]

-- the places of the first records, and that of the next
pub noted_next : (es : List Indexed) (k : ℕ) (different : List (ℕ × ℕ)) (r : Rec) → k < length es → IfSome (slice_get es k) (λ e. IsRecordOf e r) → AreNoted (map place_of (take k es)) different
    → AreNoted (map place_of (take (k + 1) es)) (noted different (r.lane, r.segment))
noted_next es k different r within has are =
    let e = there_is es k within in
    let is : IsRecordOf e.0 r = rw e.1 at has in
    let place : (r.lane, r.segment) ≡ place_of e.0 = λ i. (is.lane i, is.segment i) in
    let grown : map place_of (take (k + 1) es) ≡ map place_of (take k es) ++ place_of e.0 ∷ [] = ap (map place_of) (first_more es k e.0 e.1) ∙ map-append place_of (take k es) (e.0 ∷ []) in
    subst (λ (q : ℕ × ℕ). AreNoted (map place_of (take (k + 1) es)) (noted different q)) (sym place) (subst (λ (ps : List (ℕ × ℕ)). AreNoted ps (noted different (place_of e.0))) (sym grown) (noted_more (map place_of (take k es)) different (place_of e.0) are))
