-- Arrays with other arrays laid over them.
use Rattle.std.proofs.Common.{◌≡◌, ℕ, zero, suc, ◌+◌, List, [], ◌∷◌, ◌++◌, Option, None, Some, refl, sym, ap, ◌∙◌, arith, length}
use Rattle.std.specs.Prelude.{slice_get, unwrap_or}
use Rattle.std.specs.Option.{option_or, option_map}
use mathlib.Core.Path.{fun_ext}
use Rattle.std.proofs.lemmas.Option.{none-some, same_Some}
use Rattle.wol_disk.specs.Disk.{Block}
use Rattle.wol_model.specs.Blocks.{Write, block_of, last_written, overlaid_from, overlaid, after}

-- two that agree on the blocks of the array
pub same_overlay_from : (k : ℕ) (a : List Block) (f g : ℕ → Option Block) → ((i : ℕ) (x : Block) → slice_get a i ≡ Some x → unwrap_or (f (k + i)) x ≡ unwrap_or (g (k + i)) x) → overlaid_from k a f ≡ overlaid_from k a g
same_overlay_from k [] f g same = refl
same_overlay_from k (x ∷ xs) f g same =
    let here : unwrap_or (f k) x ≡ unwrap_or (g k) x = let e : k + 0 ≡ k = omega arith in rw e at (same 0 x refl) in
    let rest : overlaid_from (k + 1) xs f ≡ overlaid_from (k + 1) xs g = same_overlay_from (k + 1) xs f g (λ i y is. let e : k + 1 + i ≡ k + suc i = omega arith in rw e (same (suc i) y is)) in
    λ i. here i ∷ rest i

pub same_overlay : (a : List Block) (f g : ℕ → Option Block) → ((b : ℕ) (x : Block) → slice_get a b ≡ Some x → unwrap_or (f b) x ≡ unwrap_or (g b) x) → overlaid a f ≡ overlaid a g
same_overlay a f g same = same_overlay_from 0 a f g (λ i x is. let e : 0 + i ≡ i = omega arith in rw e (same i x is))

or_or : (f g : Option Block) (x : Block) → unwrap_or g (unwrap_or f x) ≡ unwrap_or (option_or g f) x
or_or f None x = refl
or_or f (Some y) x = refl

overlay_twice_from : (k : ℕ) (a : List Block) (f g : ℕ → Option Block) → overlaid_from k (overlaid_from k a f) g ≡ overlaid_from k a (λ b. option_or (g b) (f b))
overlay_twice_from k [] f g = refl
overlay_twice_from k (x ∷ xs) f g = λ i. or_or (f k) (g k) x i ∷ overlay_twice_from (k + 1) xs f g i

pub overlay_twice : (a : List Block) (f g : ℕ → Option Block) → overlaid (overlaid a f) g ≡ overlaid a (λ b. option_or (g b) (f b))
overlay_twice a f g = overlay_twice_from 0 a f g

pub overlay_at_from : (k : ℕ) (a : List Block) (f : ℕ → Option Block) (i : ℕ) (x : Block) → slice_get a i ≡ Some x → slice_get (overlaid_from k a f) i ≡ Some (unwrap_or (f (k + i)) x)
overlay_at_from k [] f i x is = cc
overlay_at_from k (y ∷ ys) f zero x is = let e : k + 0 ≡ k = omega arith in rw e (let s : y ≡ x = grind arith in ap (λ z. Some (unwrap_or (f k) z)) s)
overlay_at_from k (y ∷ ys) f (suc i) x is = let e : k + suc i ≡ k + 1 + i = omega arith in rw e (overlay_at_from (k + 1) ys f i x is)

-- what an overlaid array has at a block
pub overlay_get_from : (k : ℕ) (a : List Block) (f : ℕ → Option Block) (i : ℕ) → slice_get (overlaid_from k a f) i ≡ option_map (λ x. unwrap_or (f (k + i)) x) (slice_get a i)
overlay_get_from k [] f i = refl
overlay_get_from k (y ∷ ys) f zero = let e : k + 0 ≡ k = omega arith in rw e refl
overlay_get_from k (y ∷ ys) f (suc i) = let e : k + suc i ≡ k + 1 + i = omega arith in rw e (overlay_get_from (k + 1) ys f i)

pub overlay_get : (a : List Block) (f : ℕ → Option Block) (b : ℕ) → slice_get (overlaid a f) b ≡ option_map (λ x. unwrap_or (f b) x) (slice_get a b)
overlay_get a f b = let e : 0 + b ≡ b = omega arith in rw e at (overlay_get_from 0 a f b)

-- arrays with the same blocks are the same
pub same_array : (x y : List Block) → ((b : ℕ) → slice_get x b ≡ slice_get y b) → x ≡ y
same_array [] [] same = refl
same_array [] (b ∷ y) same = absurd (none-some b (same 0))
same_array (a ∷ x) [] same = absurd (none-some a (sym (same 0)))
same_array (a ∷ x) (b ∷ y) same = let head : a ≡ b = same_Some a b (same 0) in λ i. head i ∷ same_array x y (λ k. same (suc k)) i

pub overlay_length_from : (k : ℕ) (a : List Block) (f : ℕ → Option Block) → length (overlaid_from k a f) ≡ length a
overlay_length_from k [] f = refl
overlay_length_from k (x ∷ xs) f = ap suc (overlay_length_from (k + 1) xs f)

pub after_length : (a : List Block) (ws : List Write) → length (after a ws) ≡ length a
unfolding after
after_length a ws = overlay_length_from 0 a (last_written ws)

or_assoc : (a b c : Option Block) → option_or (option_or a b) c ≡ option_or a (option_or b c)
or_assoc None b c = refl
or_assoc (Some x) b c = refl

or_none : (a : Option Block) → a ≡ option_or a None
or_none None = refl
or_none (Some x) = refl

last_of_both : (ws vs : List Write) (b : ℕ) → last_written (ws ++ vs) b ≡ option_or (last_written vs b) (last_written ws b)
last_of_both [] vs b = or_none (last_written vs b)
last_of_both (w ∷ ws) vs b = ap (λ (o : Option Block). option_or o (block_of w.first w.blocks b)) (last_of_both ws vs b) ∙ or_assoc (last_written vs b) (last_written ws b) (block_of w.first w.blocks b)

pub after_more : (a : List Block) (ws vs : List Write) → after a (ws ++ vs) ≡ after (after a ws) vs
unfolding after
after_more a ws vs = ap (overlaid a) (fun_ext (last_of_both ws vs)) ∙ sym (overlay_twice a (last_written ws) (last_written vs))

pub none_over : (k : ℕ) (a : List Block) → overlaid_from k a (λ b. None) ≡ a
none_over k [] = refl
none_over k (x ∷ xs) = λ i. x ∷ none_over (k + 1) xs i

pub after_none : (a : List Block) → after a [] ≡ a
unfolding after
after_none a = none_over 0 a
