-- Lists of parts, one part further.
use Rattle.std.proofs.Common.{◌≡◌, ℕ, ◌+◌, ◌-◌, ◌<◌, ◌≤◌, zero, suc, refl, arith, nat_lt, cond, List, [], ◌∷◌, ◌++◌, length, drop, take, get_or, Option, None, Some, subst, sym, ap, ◌∙◌, add-one, drop-cons}
use Rattle.std.specs.Prelude.{sum}
use Rattle.std.proofs.lemmas.List.{length-take-le, length-drop, take-map, drop-map}
use Rattle.std.proofs.lemmas.List.Sums.{sum_by-cons}
use Rattle.wol_disk.specs.BlockValues.{values_of, all_values}
use Rattle.wol_disk.specs.declared.values.BlockValues.{BlockValues}
use Rattle.wol_disk.specs.Disk.{State, Values, Block}
use Rattle.wol_bay.specs.Bay.{Told}
use Rattle.wol_bay.specs.Parts.{IsFresh, AreBlank, AreCut, faulty_from}

drop-none : {A : Type 0} (k : ℕ) → drop {A = A} k [] ≡ []
drop-none zero = refl
drop-none (suc k) = refl

drop-more : {A : Type 0} (m k : ℕ) (vs : List A) → drop (m + k) vs ≡ drop k (drop m vs)
drop-more zero k vs = let s : 0 + k ≡ k = omega arith in ap (λ (n : ℕ). drop n vs) s
drop-more (suc m) k [] = drop-none (suc m + k) ∙ sym (drop-none k)
drop-more (suc m) k (v ∷ vs) = let s : suc m + k ≡ suc (m + k) = omega arith in ap (λ (n : ℕ). drop n (v ∷ vs)) s ∙ drop-more m k vs

-- a part of the values from `first` on, as it goes out
pub fresh_part : (values : List BlockValues) (first n s : ℕ) (part : State) → first ≡ s → first + n ≤ length values → part.values ≡ Some (all_values (take (first + n - first) (drop first values)))
    → part.size ≡ length (take (first + n - first) (drop first values)) → part.faults ≡ 0 → IsFresh n (Some (take n (drop s (all_values values)))) part
fresh_part values first n s part same le told size quiet =
    let m : first + n - first ≡ n = omega arith in
    record {
      sized = size ∙ ap (λ (k : ℕ). length (take k (drop first values))) m ∙ length-take-le n (drop first values) (omega (arith, le, length-drop first values));
      quiet = quiet;
      content = told ∙ ap Some (ap (λ (k : ℕ). all_values (take k (drop first values))) m ∙ sym (take-map values_of n (drop first values)) ∙ ap (take n) (sym (drop-map values_of first values)) ∙ ap (λ (k : ℕ). take n (drop k (all_values values))) same);
    }

module _ {D : Type 0} (state : D → State) where
  -- one blank part more
  pub blank_push : (told : Option Told) (sizes : List ℕ) (n : ℕ) (parts : List D) (part : D) → AreBlank state told sizes parts → AreBlank state told (n ∷ []) (part ∷ []) → AreBlank state told (sizes ++ n ∷ []) (parts ++ part ∷ [])
  blank_push told [] n [] part some one = one
  blank_push told [] n (p ∷ parts) part some one = absurd some
  blank_push told (m ∷ sizes) n [] part some one = absurd some
  blank_push told (m ∷ sizes) n (p ∷ parts) part some one = (some.0, blank_push told sizes n parts part some.1 one)

  -- of a bay that tells nothing blank parts are cut ones
  pub blank_cut : (sizes : List ℕ) (parts : List D) → AreBlank state None sizes parts → AreCut state None sizes parts
  blank_cut [] [] all = tt
  blank_cut [] (p ∷ parts) all = all
  blank_cut (n ∷ sizes) [] all = all
  blank_cut (n ∷ sizes) (p ∷ parts) all = (record { sized = all.0.sized; quiet = all.0.quiet; content = tt }, blank_cut sizes parts all.1)

  -- one part more, cut from what is behind the others
  pub cut_push : (vs : List (Values Block)) (sizes : List ℕ) (n : ℕ) (parts : List D) (part : D) → AreCut state (Some vs) sizes parts → IsFresh n (Some (take n (drop (sum sizes) vs))) (state part) → AreCut state (Some vs) (sizes ++ n ∷ []) (parts ++ part ∷ [])
  cut_push vs [] n [] part all one = (one, tt)
  cut_push vs [] n (p ∷ parts) part all one = absurd all
  cut_push vs (m ∷ sizes) n [] part all one = absurd all
  cut_push vs (m ∷ sizes) n (p ∷ parts) part all one =
      (all.0, cut_push (drop m vs) sizes n parts part all.1 (subst (λ (l : List (Values Block)). IsFresh n (Some (take n l)) (state part)) (ap (λ (k : ℕ). drop k vs) (sum_by-cons (λ x. x) m sizes) ∙ drop-more m (sum sizes) vs) one))

  -- the parts with a fault, from the part at hand on
  pub faulty_step : (parts : List D) (i : ℕ) (part : D) → i < length parts → part ≡ get_or parts i part
      → faulty_from i state (drop i parts) ≡ cond (nat_lt 0 (state part).faults) (i ∷ faulty_from (i + 1) state (drop (i + 1) parts)) (faulty_from (i + 1) state (drop (i + 1) parts))
  faulty_step parts i part lt is = ap (λ (l : List D). faulty_from i state l) (drop-cons parts i part lt ∙ ap (λ (p : D). p ∷ drop (suc i) parts) (sym is)) ∙ ap (λ (n : ℕ). cond (nat_lt 0 (state part).faults) (i ∷ faulty_from (i + 1) state (drop n parts)) (faulty_from (i + 1) state (drop n parts))) (sym (add-one i))
