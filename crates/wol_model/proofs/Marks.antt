-- Marks of blocks.
use Rattle.std.proofs.Common.{◌≡◌, ◌+◌, ◌-◌, ◌≤◌, ℕ, zero, suc, Bool, true, false, ◌&&◌, List, [], ◌∷◌, refl, sym, subst, arith, leb, get_or, replicate}
use Rattle.std.proofs.lemmas.Bool.{leb-true}
use Rattle.wol_model.specs.Extents.{marked, remarked}

each_mark : (k : ℕ) (marks : List Bool) (f : ℕ → Bool → Bool) (i : ℕ) → f (k + i) false ≡ false → get_or (remarked k marks f) i false ≡ f (k + i) (get_or marks i false)
each_mark k [] f i none = sym none
each_mark k (m ∷ marks) f zero none = let e : k + 0 ≡ k = omega arith in rw e refl
each_mark k (m ∷ marks) f (suc i) none = let e : k + suc i ≡ k + 1 + i = omega arith in rw e (each_mark (k + 1) marks f i (subst (λ (n : ℕ). f n false ≡ false) e none))

-- a block's new mark, where none comes of none
pub remarked_is : (first : ℕ) (marks : List Bool) (f : ℕ → Bool → Bool) (b : ℕ) → f b false ≡ false → marked first (remarked first marks f) b ≡ f b (marked first marks b)
remarked_is first marks f b none = at (leb first b) refl
  where
    at : (t : Bool) → leb first b ≡ t → (t && get_or (remarked first marks f) (b - first) false) ≡ f b (t && get_or marks (b - first) false)
    at true is =
        let le : first ≤ b = leb-true first b is in
        let e : first + (b - first) ≡ b = omega arith in
        subst (λ (n : ℕ). get_or (remarked first marks f) (b - first) false ≡ f n (get_or marks (b - first) false)) e (each_mark first marks f (b - first) (subst (λ (n : ℕ). f n false ≡ false) (sym e) none))
    at false is = sym none

all_false : (n i : ℕ) → get_or (replicate n false) i false ≡ false
all_false zero i = refl
all_false (suc n) zero = refl
all_false (suc n) (suc i) = all_false n i

pub none_marked : (first n b : ℕ) → marked first (replicate n false) b ≡ false
none_marked first n b = at (leb first b)
  where
    at : (t : Bool) → (t && get_or (replicate n false) (b - first) false) ≡ false
    at true = all_false n (b - first)
    at false = refl
