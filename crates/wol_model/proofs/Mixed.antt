-- Blends of two arrays, block by block.
use Rattle.std.proofs.Common.{◌≡◌, ◌⊎◌, inl, inr, ⊎_elim, ℕ, zero, suc, List, [], ◌∷◌, Some, length, refl, sym, ap, arith}
use Rattle.std.specs.Prelude.{slice_get}
use Rattle.std.proofs.lemmas.Option.{none-some, same_Some}
use Rattle.wol_disk.specs.Disk.{Block, IsBlend}

-- each block of x is that of one or of the other
abbrev pub IsMixed : List Block → List Block → List Block → Type 0
IsMixed a c x = (b : ℕ) → (slice_get x b ≡ slice_get a b) ⊎ (slice_get x b ≡ slice_get c b)

pub mixed_of : (a c x : List Block) → IsBlend a c x → IsMixed a c x
mixed_of [] [] [] blend b = inl refl
mixed_of [] [] (z ∷ x) blend b = absurd blend
mixed_of [] (y ∷ c) x blend b = absurd blend
mixed_of (w ∷ a) [] x blend b = absurd blend
mixed_of (w ∷ a) (y ∷ c) [] blend b = absurd blend
mixed_of (w ∷ a) (y ∷ c) (z ∷ x) blend zero = ⊎_elim (λ one. inl (ap Some one)) (λ other. inr (ap Some other)) blend.0
mixed_of (w ∷ a) (y ∷ c) (z ∷ x) blend (suc b) = mixed_of a c x blend.1 b

pub blend_of : (a c x : List Block) → length c ≡ length a → IsMixed a c x → IsBlend a c x
blend_of [] [] [] same mixed = tt
blend_of [] [] (z ∷ x) same mixed = ⊎_elim (λ e. absurd (none-some z (sym e))) (λ e. absurd (none-some z (sym e))) (mixed 0)
blend_of [] (y ∷ c) x same mixed = absurd (omega arith)
blend_of (w ∷ a) [] x same mixed = absurd (omega arith)
blend_of (w ∷ a) (y ∷ c) [] same mixed = ⊎_elim (λ e. absurd (none-some w e)) (λ e. absurd (none-some y e)) (mixed 0)
blend_of (w ∷ a) (y ∷ c) (z ∷ x) same mixed =
    (⊎_elim (λ e. inl (same_Some z w e)) (λ e. inr (same_Some z y e)) (mixed 0), blend_of a c x (omega arith) (λ b. mixed (suc b)))
