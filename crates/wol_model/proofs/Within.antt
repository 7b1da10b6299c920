-- A write within an array, by slices.
use Rattle.std.proofs.Common.{◌≡◌, ◌+◌, ◌-◌, ◌≤◌, ◌<◌, ℕ, zero, suc, Bool, cond, List, [], ◌∷◌, ◌++◌, Option, None, Some, refl, ap, ◌∙◌, arith, length, take, drop}
use Rattle.std.specs.Prelude.{slice_get, unwrap_or}
use Rattle.std.specs.Option.{option_or}
use Rattle.std.proofs.lemmas.Bool.{le-leb, lt-leb}
use Rattle.wol_disk.specs.Disk.{Block}
use Rattle.wol_model.proofs.Overlay.{same_overlay_from, none_over}
use Rattle.wol_model.specs.ArrayLaws.{AfterWithin}
use Rattle.wol_model.specs.Blocks.{block_of, overlaid_from, after}

-- from the place on where the write begins
here : (k : ℕ) (a blocks : List Block) (f : ℕ → Option Block) → length blocks ≤ length a → ((i : ℕ) → f (k + i) ≡ slice_get blocks i) → overlaid_from k a f ≡ blocks ++ drop (length blocks) a
here k [] [] f fits is = refl
here k [] (b ∷ blocks) f fits is = absurd (omega arith)
here k (x ∷ a) [] f fits is = same_overlay_from k (x ∷ a) f (λ b. None) (λ i y at. ap (λ (o : Option Block). unwrap_or o y) (is i)) ∙ none_over k (x ∷ a)
here k (x ∷ a) (b ∷ blocks) f fits is =
    let first : f k ≡ Some b = let e : k + 0 ≡ k = omega arith in rw e at (is 0) in
    let rest : overlaid_from (k + 1) a f ≡ blocks ++ drop (length blocks) a = here (k + 1) a blocks f (omega arith) (λ i. let e : k + 1 + i ≡ k + suc i = omega arith in rw e (is (suc i))) in
    λ i. unwrap_or (first i) x ∷ rest i

-- up to that place
before : (n k : ℕ) (a blocks : List Block) (f : ℕ → Option Block) → n + length blocks ≤ length a → ((i : ℕ) → i < n → f (k + i) ≡ None) → ((i : ℕ) → f (k + n + i) ≡ slice_get blocks i)
    → overlaid_from k a f ≡ take n a ++ (blocks ++ drop (n + length blocks) a)
before zero k a blocks f fits none is = let e : 0 + length blocks ≡ length blocks = omega arith in rw e (here k a blocks f (omega arith) (λ i. let e : k + 0 + i ≡ k + i = omega arith in rw e at (is i)))
before (suc n) k [] blocks f fits none is = absurd (omega arith)
before (suc n) k (x ∷ a) blocks f fits none is =
    let first : f k ≡ None = let e : k + 0 ≡ k = omega arith in rw e at (none 0 (omega arith)) in
    let rest : overlaid_from (k + 1) a f ≡ take n a ++ (blocks ++ drop (n + length blocks) a) =
    before n (k + 1) a blocks f (omega arith) (λ i lt. let e : k + 1 + i ≡ k + suc i = omega arith in rw e (none (suc i) (omega arith))) (λ i. let e : k + 1 + n + i ≡ k + suc n + i = omega arith in rw e (is i)) in
    let more : suc n + length blocks ≡ suc (n + length blocks) = omega arith in
    rw more (λ i. unwrap_or (first i) x ∷ rest i)

pub after_within : AfterWithin
unfolding after
after_within a first blocks version fits = before first 0 a blocks (λ b. option_or None (block_of first blocks b)) fits below at
  where
    below : (i : ℕ) → i < first → block_of first blocks (0 + i) ≡ None
    below i lt = let e : 0 + i ≡ i = omega arith in rw e (ap (λ (t : Bool). cond t (slice_get blocks (i - first)) None) (lt-leb first i lt))

    at : (i : ℕ) → block_of first blocks (0 + first + i) ≡ slice_get blocks i
    at i = let e : 0 + first + i ≡ first + i = omega arith in let d : first + i - first ≡ i = omega arith in rw e (rw d (ap (λ (t : Bool). cond t (slice_get blocks i) None) (le-leb first (first + i) (omega arith))))
