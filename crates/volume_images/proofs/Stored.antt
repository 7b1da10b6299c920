-- What one part in which content was stored makes of all parts.
use Rattle.std.proofs.Common.{◌≡◌, ◌⊎◌, inl, inr, ⊎_elim, ℕ, ◌<◌, ◌≤◌, ◌-◌, ◌^◌, List, ◌∷◌, [], length, get_or, set, Option, None, Some, option_map, IfSome, Result, Ok, Err, OnOk, OnErr, refl, sym, ap, ◌∙◌, subst, arith}
use Rattle.std.proofs.lemmas.List.{get_or_default}
use Rattle.std.specs.Prelude.{IsSome, IsErr}
use Rattle.wol_disk.specs.Disk.{Block, Values, State, only, reads, IsImageOf, Rose}
use Rattle.wol_disk.proofs.Images.{reads_only, length-put}
use Rattle.wol_model.specs.Heads.{label_block, view_block, free_block}
use Rattle.wol_bay.specs.Parts.{blocks_of, sizes_of}
use Rattle.log_layout.specs.Values.{shape_of}
use Rattle.logger_view.specs.Stored.{IsWithOrWithout}
use Rattle.volume_images.specs.declared.content.Content.{Content}
use Rattle.volume_images.specs.declared.content.Content.TheVariants.{View, Nothing, FreeHead, Label}
use Rattle.volume_images.specs.Contents.{changed}
use Rattle.wol_model.specs.Blocks.{changed_at}
use Rattle.volume_images.specs.Settled.{IsSettledAs, AreSettled, HasFault, joined_blocks}
use Rattle.volume_images.proofs.SettledParts.{settled_part, sizes_set, settled_set, images_set, told_set, fault_set}

pub length-changed : (content : Content) (bs : List Block) → length (changed content bs) ≡ length bs
length-changed (View ids) bs = length-put 1 (view_block ids ∷ []) bs
length-changed Nothing bs = refl
length-changed FreeHead bs = length-put 0 (free_block ∷ []) bs
length-changed (Label label) bs = length-put 0 (label_block label.id (shape_of label) ∷ []) bs

changed_values : (change : List Block → List Block) (bs : List Block) (old new : Option (List (Values Block))) → IfSome old (λ vs. vs ≡ only bs) → new ≡ option_map (λ vs. only (change (reads vs))) old → IfSome new (λ vs. vs ≡ only (change bs))
changed_values change bs None new is e = let P : Option (List (Values Block)) → Type 0 = λ o. IfSome o (λ vs. vs ≡ only (change bs)) in subst P (sym e) tt
changed_values change bs (Some vs) new is e =
    let P : Option (List (Values Block)) → Type 0 = λ o. IfSome o (λ vs. vs ≡ only (change bs)) in
    subst P (sym e) (ap (λ (l : List (Values Block)). only (change (reads l))) is ∙ ap (λ l. only (change l)) (reads_only bs))

pub rose_above : (old new : ℕ) → Rose old new → 0 < new
rose_above old new rose = ⊎_elim (λ (lt : old < new). omega (arith, lt)) (λ (le : 2 ^ 64 - 1 ≤ new). omega (arith, le)) rose

module _ {D : Type 0} (state : D → State) (content : Content) (xs ys : List D) (p : ℕ) (old y : D) (lt : p < length xs) (back : ys ≡ set xs p y) (is : old ≡ get_or xs p old)
    (size : (state y).size ≡ (state old).size) where
  same_at : get_or xs p y ≡ old
  same_at = get_or_default xs p y old lt ∙ sym is

  pub stored_sizes : sizes_of state ys ≡ sizes_of state xs
  stored_sizes = ap (sizes_of state) back ∙ sizes_set state xs p y (size ∙ ap (λ (d : D). (state d).size) (sym same_at))

  settles : (bs : List Block) → (state y).values ≡ option_map (λ vs. only (changed content (reads vs))) (state old).values → (state y).faults ≡ (state old).faults
      → IsSettledAs bs (state (get_or xs p y)) → IsSettledAs (changed content bs) (state y)
  settles bs values calm s =
      let was : IsSettledAs bs (state old) = subst (λ (d : D). IsSettledAs bs (state d)) same_at s in
      record { sized = size ∙ was.sized ∙ sym (length-changed content bs); quiet = calm ∙ was.quiet; content = changed_values (changed content) bs (state old).values (state y).values was.content values }

  pub stored_ok : {T E : Type 0} (r : Result T E) (bss : List (List Block)) → OnOk r ((state y).values ≡ option_map (λ vs. only (changed content (reads vs))) (state old).values) → OnOk r ((state y).faults ≡ (state old).faults)
      → AreSettled state bss xs → OnOk r (AreSettled state (changed_at p (changed content) bss) ys)
  stored_ok (Ok v) bss values calm s =
      subst (λ (l : List D). AreSettled state (changed_at p (changed content) bss) l) (sym back) (settled_set state (changed content) bss xs p y (λ bs was. settles bs values calm was) s)
  stored_ok (Err e) bss values calm s = tt

  one_of : (bs d : List Block) → IsSettledAs bs (state (get_or xs p y)) → IsWithOrWithout (changed content) (state old) d → (d ≡ bs) ⊎ (d ≡ changed content bs)
  one_of bs d s way =
      let was : IsSettledAs bs (state old) = subst (λ (d : D). IsSettledAs bs (state d)) same_at s in
      let e : way.0 ≡ bs = settled_part bs (state old) way.0 was way.1 in
      ⊎_elim (λ same. inl (same ∙ e)) (λ new. inr (new ∙ ap (changed content) e)) way.2

  pub stored_images : (bss : List (List Block)) (c : List Block) → ((d : List Block) → IsImageOf (state y).values d → IsWithOrWithout (changed content) (state old) d)
      → AreSettled state bss xs → IsImageOf (blocks_of state ys) c → (c ≡ joined_blocks bss) ⊎ (c ≡ joined_blocks (changed_at p (changed content) bss))
  stored_images bss c ways s i =
      images_set state (changed content) bss xs p y c (λ bs d was here. one_of bs d was (ways d here)) s (subst (λ (l : List D). IsImageOf (blocks_of state l) c) back i)

  pub stored_told : (IsSome (state old).values → IsSome (state y).values) → IsSome (blocks_of state xs) → IsSome (blocks_of state ys)
  stored_told told all =
      subst (λ (l : List D). IsSome (blocks_of state l)) (sym back) (told_set state xs p y (λ here. told (subst (λ (d : D). IsSome (state d).values) same_at here)) all)

  pub stored_fault : {T E : Type 0} (r : Result T E) → (IsErr r → Rose (state old).faults (state y).faults) → OnErr r (HasFault state p ys)
  stored_fault (Ok v) rose = tt
  stored_fault (Err e) rose = subst (λ (l : List D). HasFault state p l) (sym back) (fault_set state xs p y lt (rose_above (state old).faults (state y).faults (rose refl)))
