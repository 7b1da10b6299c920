-- Writes as a disk puts them, without their versions, and blends.
use Rattle.std.proofs.Common.{◌≡◌, inl, inr, ℕ, zero, suc, ◌-◌, Bool, true, false, cond, List, [], ◌∷◌, map, Option, None, Some, refl, sym, ap, ◌∙◌, arith, leb}
use Rattle.std.specs.Prelude.{slice_get, unwrap_or}
use Rattle.std.specs.Option.{option_or, option_map}
use Rattle.std.proofs.lemmas.Bool.{le-leb}
use Rattle.std.proofs.lemmas.Bool.Decides.{nat_tests}
use Rattle.wol_disk.specs.Disk.{Block, put}
use Rattle.wol_model.proofs.Mixed.{blend_of}
use Rattle.wol_model.proofs.Overlay.{after_length, overlay_get, same_array, after_none}
use Rattle.wol_model.specs.ArrayLaws.{AfterPut, AfterVersions, AfterNothing, BlendBefore, BlendAfter, unversioned}
use Rattle.wol_model.specs.Blocks.{Write, block_of, last_written, after}

pub after_nothing : AfterNothing
after_nothing = after_none

-- what a put has at a block
no_block : (b : ℕ) (t : Bool) → cond t (slice_get {X = Block} [] b) None ≡ None
no_block b true = refl
no_block b false = refl

as_it_was : (o : Option Block) → o ≡ option_map (λ x. unwrap_or None x) o
as_it_was None = refl
as_it_was (Some x) = refl

put_get : (first : ℕ) (xs a : List Block) (b : ℕ) → slice_get (put first xs a) b ≡ option_map (λ x. unwrap_or (block_of first xs b) x) (slice_get a b)
put_get first xs [] b = refl
put_get zero [] (y ∷ a) b =
    as_it_was (slice_get (y ∷ a) b) ∙ ap (λ (o : Option Block). option_map (λ x. unwrap_or o x) (slice_get (y ∷ a) b)) (sym (no_block (b - 0) (leb 0 b)))
put_get zero (x ∷ xs) (y ∷ a) zero = refl
put_get zero (x ∷ xs) (y ∷ a) (suc b) = put_get zero xs a b ∙ ap (λ (o : Option Block). option_map (λ z. unwrap_or o z) (slice_get a b)) (from_zero b xs ∙ sym (from_zero (suc b) (x ∷ xs)))
  where
    from_zero : (b : ℕ) (xs : List Block) → block_of 0 xs b ≡ slice_get xs b
    from_zero b xs = let e : b - 0 ≡ b = omega arith in let le : leb 0 b ≡ true = le-leb 0 b (omega arith) in rw (e, le) refl
put_get (suc first) xs (y ∷ a) zero = let le : leb (suc first) 0 ≡ false = grind (arith, nat_tests) in rw le refl
put_get (suc first) xs (y ∷ a) (suc b) = put_get first xs a b ∙ ap (λ (o : Option Block). option_map (λ z. unwrap_or o z) (slice_get a b)) (one_further first b xs)
  where
    one_further : (first b : ℕ) (xs : List Block) → block_of first xs b ≡ block_of (suc first) xs (suc b)
    one_further first b xs = let e : suc b - suc first ≡ b - first = omega arith in let le : leb (suc first) (suc b) ≡ leb first b = grind (arith, nat_tests) in rw (e, le) refl

pub after_put : AfterPut
unfolding after
after_put a w = same_array (after a (w ∷ [])) (put w.first w.blocks a) (λ b. overlay_get a (last_written (w ∷ [])) b ∙ sym (put_get w.first w.blocks a b))

last_unversioned : (ws : List Write) (b : ℕ) → last_written (map unversioned ws) b ≡ last_written ws b
last_unversioned [] b = refl
last_unversioned (w ∷ ws) b = ap (λ (o : Option Block). option_or o (block_of w.first w.blocks b)) (last_unversioned ws b)

pub after_versions : AfterVersions
unfolding after
after_versions a ws = same_array (after a (map unversioned ws)) (after a ws) (λ b.
    overlay_get a (last_written (map unversioned ws)) b ∙ ap (λ (o : Option Block). option_map (λ x. unwrap_or o x) (slice_get a b)) (last_unversioned ws b) ∙ sym (overlay_get a (last_written ws) b))

pub blend_before : BlendBefore
blend_before a ws = blend_of a (after a ws) a (after_length a ws) (λ b. inl refl)

pub blend_after : BlendAfter
blend_after a ws = blend_of a (after a ws) (after a ws) (after_length a ws) (λ b. inr refl)
