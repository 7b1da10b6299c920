-- Lists of extents that have the same valid ones have the same newest ones.
use Rattle.std.proofs.Common.{◌≡◌, inl, inr, ⊎_elim, ◌≤◌, ℕ, Bool, true, false, cond, ltb, List, [], ◌∷◌, Option, None, Some, refl, sym, ap, ◌∙◌, arith}
use Rattle.std.proofs.lemmas.Bool.{ltb-true, ltb-false}
use Rattle.std.specs.Option.{option_and_then}
use Rattle.wol_disk.specs.Disk.{Block, IsAmong}
use Rattle.wol_model.specs.Blocks.{block_of, overlaid}
use Rattle.wol_model.specs.Extents.{Extent, Cover, IsValid, newer_of, newest, newest_block, with_extents}

abbrev pub head : Extent → Cover
head r = r.cover

-- the newest one of these
pub record IsNewest (xs : List Extent) (b : ℕ) (x : Extent) : Type 0 where
  pub among : IsAmong xs x
  pub covers : x.cover.covers b ≡ true
  pub greatest : (y : Extent) → IsAmong xs y → y.cover.covers b ≡ true → y.cover.version ≤ x.cover.version

abbrev FoundOrNot : (xs : List Extent) (b : ℕ) → Option Extent → Type 0
FoundOrNot xs b None = (y : Extent) → IsAmong xs y → y.cover.covers b ≡ false
FoundOrNot xs b (Some x) = IsNewest xs b x

not_covering : (t : Bool) → t ≡ true → t ≡ false → ⊥
not_covering t covers none = let bad : true ≡ false = sym covers ∙ none in cc

newer_is : (x : Extent) (xs : List Extent) (b : ℕ) (o : Option Extent) → x.cover.covers b ≡ true → FoundOrNot xs b o → FoundOrNot (x ∷ xs) b (newer_of head x o)
newer_is x xs b None covers none = record {
  among = inl refl;
  covers = covers;
  greatest = λ y has c. ⊎_elim (λ same. let e = ap (λ (r : Extent). r.cover.version) same in omega (arith, e)) (λ more. absurd (not_covering (y.cover.covers b) c (none y more))) has;
}
newer_is x xs b (Some y) covers is = at (ltb x.cover.version y.cover.version) refl
  where
    at : (t : Bool) → ltb x.cover.version y.cover.version ≡ t → FoundOrNot (x ∷ xs) b (cond t (Some y) (Some x))
    at true e = let lt = ltb-true x.cover.version y.cover.version e in record {
      among = inr is.among;
      covers = is.covers;
      greatest = λ z has c. ⊎_elim (λ same. let v = ap (λ (r : Extent). r.cover.version) same in omega (arith, v, lt)) (λ more. is.greatest z more c) has;
    }
    at false e = let le = ltb-false x.cover.version y.cover.version e in record {
      among = inl refl;
      covers = covers;
      greatest = λ z has c. ⊎_elim (λ same. let v = ap (λ (r : Extent). r.cover.version) same in omega (arith, v)) (λ more. let g = is.greatest z more c in omega (arith, g, le)) has;
    }

newest_is : (xs : List Extent) (b : ℕ) → FoundOrNot xs b (newest head xs b)
newest_is [] b = λ y has. absurd has
newest_is (x ∷ xs) b = at (x.cover.covers b) refl (newest head xs b) (newest_is xs b)
  where
    later : (o : Option Extent) → x.cover.covers b ≡ false → FoundOrNot xs b o → FoundOrNot (x ∷ xs) b o
    later None e none = λ y has. ⊎_elim (λ same. ap (λ (r : Extent). r.cover.covers b) same ∙ e) (λ more. none y more) has
    later (Some y) e is = record {
      among = inr is.among;
      covers = is.covers;
      greatest = λ z has c. ⊎_elim (λ same. absurd (not_covering (z.cover.covers b) c (ap (λ (r : Extent). r.cover.covers b) same ∙ e))) (λ more. is.greatest z more c) has;
    }

    at : (t : Bool) → x.cover.covers b ≡ t → (o : Option Extent) → FoundOrNot xs b o → FoundOrNot (x ∷ xs) b (cond t (newer_of head x o) o)
    at true e o is = newer_is x xs b o e is
    at false e o is = later o e is

module _ (xs ys : List Extent) (to : (x : Extent) → IsAmong xs x → IsValid x.cover → IsAmong ys x) (from : (y : Extent) → IsAmong ys y → IsValid y.cover → IsAmong xs y)
    (once : (x y : Extent) → IsAmong ys x → IsAmong ys y → IsValid x.cover → IsValid y.cover → x.cover.version ≡ y.cover.version → x ≡ y) where
  one_newest : (b : ℕ) (o p : Option Extent) → FoundOrNot xs b o → FoundOrNot ys b p → o ≡ p
  one_newest b None None no_ no_' = refl
  one_newest b None (Some y) no_ is = absurd (not_covering (y.cover.covers b) is.covers (no_ y (from y is.among (b, is.covers))))
  one_newest b (Some x) None is no_ = absurd (not_covering (x.cover.covers b) is.covers (no_ x (to x is.among (b, is.covers))))
  one_newest b (Some x) (Some y) is is' =
      let here = to x is.among (b, is.covers) in
      let le = is'.greatest x here is.covers in
      let ge = is.greatest y (from y is'.among (b, is'.covers)) is'.covers in
      let same : x.cover.version ≡ y.cover.version = omega (arith, le, ge) in
      ap Some (once x y here is'.among (b, is.covers) (b, is'.covers) same)

  same_block : (b : ℕ) → newest_block xs b ≡ newest_block ys b
  unfolding newest_block
  same_block b = ap (option_and_then (λ (r : Extent). block_of r.first r.blocks b)) (one_newest b (newest head xs b) (newest head ys b) (newest_is xs b) (newest_is ys b))

  -- so they make the same array of the same home
  pub same_array : (home : List Block) → with_extents home xs ≡ with_extents home ys
  unfolding with_extents
  same_array home = ap (overlaid home) (λ i b. same_block b i)
