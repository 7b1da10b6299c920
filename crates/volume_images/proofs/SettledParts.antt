-- Parts that hold known blocks, and what one of them that changes does to all.
use Rattle.std.proofs.Common.{◌≡◌, ◌⊎◌, inl, inr, ⊎_elim, ℕ, zero, suc, ◌+◌, ◌<◌, nat_lt, Bool, true, false, cond, List, [], ◌∷◌, ◌++◌, length, map, get_or, set, Option, None, Some, is_some, IfSome, refl, sym, ap, ◌∙◌, subst, arith}
use Rattle.std.proofs.lemmas.Bool.Decides.{nat_tests}
use Rattle.std.proofs.lemmas.List.{get_or-set_same, length-replicate}
use Rattle.std.specs.Prelude.{IsSome, Contains}
use Rattle.wol_disk.specs.Disk.{Block, Values, State, only, fresh, IsImage, IsImageOf}
use Rattle.wol_disk.specs.Zeros.{zeros, zero_block}
use Rattle.wol_disk.proofs.Images.{only_image}
use Rattle.wol_bay.specs.Bay.{Told}
use Rattle.wol_bay.specs.Parts.{IsBlank, AreBlank, joined, blocks_of, sizes_of, faulty_from}
use Rattle.wol_model.specs.Blocks.{changed_at}
use Rattle.volume_images.specs.Settled.{IsSettledAs, AreSettled, HasFault, joined_blocks}

-- ---- Images of blocks in a row

-- an image of blocks in a row, cut where the first ones end
pub record IsCutIn (front back : Option (List (Values Block))) (c : List Block) : Type 0 where
  pub first : List Block
  pub rest : List Block
  pub in_front : IsImageOf front first
  pub behind : IsImageOf back rest
  pub is : c ≡ first ++ rest

cut_some : (vs ws : List (Values Block)) (c : List Block) → IsImage (vs ++ ws) c → IsCutIn (Some vs) (Some ws) c
cut_some [] ws c i = record { first = []; rest = c; in_front = tt; behind = i; is = refl }
cut_some (v ∷ vs) ws [] i = absurd i
cut_some (v ∷ vs) ws (x ∷ c) i =
    let more = cut_some vs ws c i.1 in
    record { first = x ∷ more.first; rest = more.rest; in_front = (i.0, more.in_front); behind = more.behind; is = ap (λ l. x ∷ l) more.is }

pub cut_image : (a b : Option (List (Values Block))) (c : List Block) → IsImageOf (joined a b) c → IsCutIn a b c
cut_image None b c i = absurd i
cut_image (Some vs) None c i = absurd i
cut_image (Some vs) (Some ws) c i = cut_some vs ws c i

only_image_of : (bs : List Block) (o : Option (List (Values Block))) (c : List Block) → IfSome o (λ vs. vs ≡ only bs) → IsImageOf o c → c ≡ bs
only_image_of bs None c e i = absurd i
only_image_of bs (Some vs) c e i = only_image bs c (subst (λ (l : List (Values Block)). IsImage l c) e i)

pub settled_part : (bs : List Block) (part : State) (c : List Block) → IsSettledAs bs part → IsImageOf part.values c → c ≡ bs
settled_part bs part c s i = only_image_of bs part.values c s.content i

only_more : (xs ys : List Block) → only xs ++ only ys ≡ only (xs ++ ys)
only_more [] ys = refl
only_more (x ∷ xs) ys = ap (λ l. fresh x ∷ l) (only_more xs ys)

pub both_told : (a b : Option (List (Values Block))) → IsSome (joined a b) → IsSome a × IsSome b
both_told None b told = absurd (cc told)
both_told (Some vs) None told = absurd (cc told)
both_told (Some vs) (Some ws) told = (refl, refl)

pub told_both : (a b : Option (List (Values Block))) → IsSome a → IsSome b → IsSome (joined a b)
told_both None b one two = absurd (cc one)
told_both (Some vs) None one two = absurd (cc two)
told_both (Some vs) (Some ws) one two = refl

some_only : (bs : List Block) (o : Option (List (Values Block))) → IfSome o (λ vs. vs ≡ only bs) → IsSome o → o ≡ Some (only bs)
some_only bs None e told = absurd (cc told)
some_only bs (Some vs) e told = ap Some e

-- ---- Parts

module _ {D : Type 0} (state : D → State) where
  pub sizes_set : (parts : List D) (p : ℕ) (y : D) → (state y).size ≡ (state (get_or parts p y)).size → sizes_of state (set parts p y) ≡ sizes_of state parts
  sizes_set [] p y e = refl
  sizes_set (q ∷ ps) zero y e = ap (λ n. n ∷ sizes_of state ps) e
  sizes_set (q ∷ ps) (suc p) y e = ap (λ l. (state q).size ∷ l) (sizes_set ps p y e)

  -- all images of settled parts
  pub settled_images : (bss : List (List Block)) (parts : List D) (c : List Block) → AreSettled state bss parts → IsImageOf (blocks_of state parts) c → c ≡ joined_blocks bss
  settled_images [] [] c s i = only_image_of [] (Some []) c refl i
  settled_images [] (q ∷ ps) c s i = absurd s
  settled_images (bs ∷ bss) [] c s i = absurd s
  settled_images (bs ∷ bss) (q ∷ ps) c s i =
      let cut = cut_image (state q).values (blocks_of state ps) c i in
      cut.is ∙ ap (λ l. l ++ cut.rest) (settled_part bs (state q) cut.first s.0 cut.in_front) ∙ ap (λ l. bs ++ l) (settled_images bss ps cut.rest s.1 cut.behind)

  pub settled_joined : (bss : List (List Block)) (parts : List D) → AreSettled state bss parts → IsSome (blocks_of state parts) → blocks_of state parts ≡ Some (only (joined_blocks bss))
  settled_joined [] [] s told = refl
  settled_joined [] (q ∷ ps) s told = absurd s
  settled_joined (bs ∷ bss) [] s told = absurd s
  settled_joined (bs ∷ bss) (q ∷ ps) s told =
      let both = both_told (state q).values (blocks_of state ps) told in
      ap (λ (o : Option (List (Values Block))). joined o (blocks_of state ps)) (some_only bs (state q).values s.0.content both.0)
      ∙ ap (joined (Some (only bs))) (settled_joined bss ps s.1 both.1)
      ∙ ap Some (only_more bs (joined_blocks bss))

  pub settled_sizes : (bss : List (List Block)) (parts : List D) → AreSettled state bss parts → sizes_of state parts ≡ map (λ bs. length bs) bss
  settled_sizes [] [] s = refl
  settled_sizes [] (q ∷ ps) s = absurd s
  settled_sizes (bs ∷ bss) [] s = absurd s
  settled_sizes (bs ∷ bss) (q ∷ ps) s = λ i. s.0.sized i ∷ settled_sizes bss ps s.1 i

  pub settled_quiet : (k : ℕ) (bss : List (List Block)) (parts : List D) → AreSettled state bss parts → faulty_from k state parts ≡ []
  settled_quiet k [] [] s = refl
  settled_quiet k [] (q ∷ ps) s = absurd s
  settled_quiet k (bs ∷ bss) [] s = absurd s
  settled_quiet k (bs ∷ bss) (q ∷ ps) s =
      ap (λ (n : ℕ). cond (nat_lt 0 n) (k ∷ faulty_from (k + 1) state ps) (faulty_from (k + 1) state ps)) s.0.quiet ∙ settled_quiet (k + 1) bss ps s.1

  -- one part more holds what the content makes of its blocks
  pub settled_set : (change : List Block → List Block) (bss : List (List Block)) (parts : List D) (p : ℕ) (y : D)
      → ((bs : List Block) → IsSettledAs bs (state (get_or parts p y)) → IsSettledAs (change bs) (state y))
      → AreSettled state bss parts → AreSettled state (changed_at p change bss) (set parts p y)
  settled_set change [] [] p y one s = tt
  settled_set change [] (q ∷ ps) p y one s = absurd s
  settled_set change (bs ∷ bss) [] p y one s = absurd s
  settled_set change (bs ∷ bss) (q ∷ ps) zero y one s = (one bs s.0, s.1)
  settled_set change (bs ∷ bss) (q ∷ ps) (suc p) y one s = (s.0, settled_set change bss ps p y one s.1)

  -- or one of both, in each image
  pub images_set : (change : List Block → List Block) (bss : List (List Block)) (parts : List D) (p : ℕ) (y : D) (c : List Block)
      → ((bs d : List Block) → IsSettledAs bs (state (get_or parts p y)) → IsImageOf (state y).values d → (d ≡ bs) ⊎ (d ≡ change bs))
      → AreSettled state bss parts → IsImageOf (blocks_of state (set parts p y)) c → (c ≡ joined_blocks bss) ⊎ (c ≡ joined_blocks (changed_at p change bss))
  images_set change [] [] p y c one s i = inl (only_image_of [] (Some []) c refl i)
  images_set change [] (q ∷ ps) p y c one s i = absurd s
  images_set change (bs ∷ bss) [] p y c one s i = absurd s
  images_set change (bs ∷ bss) (q ∷ ps) zero y c one s i =
      let cut = cut_image (state y).values (blocks_of state ps) c i in
      let behind = settled_images bss ps cut.rest s.1 cut.behind in
      ⊎_elim
      (λ e. inl (cut.is ∙ ap (λ l. l ++ cut.rest) e ∙ ap (λ l. bs ++ l) behind))
      (λ e. inr (cut.is ∙ ap (λ l. l ++ cut.rest) e ∙ ap (λ l. change bs ++ l) behind))
      (one bs cut.first s.0 cut.in_front)
  images_set change (bs ∷ bss) (q ∷ ps) (suc p) y c one s i =
      let cut = cut_image (state q).values (blocks_of state (set ps p y)) c i in
      let front = cut.is ∙ ap (λ l. l ++ cut.rest) (settled_part bs (state q) cut.first s.0 cut.in_front) in
      ⊎_elim (λ e. inl (front ∙ ap (λ l. bs ++ l) e)) (λ e. inr (front ∙ ap (λ l. bs ++ l) e)) (images_set change bss ps p y cut.rest one s.1 cut.behind)

  pub told_set : (parts : List D) (p : ℕ) (y : D) → (IsSome (state (get_or parts p y)).values → IsSome (state y).values) → IsSome (blocks_of state parts) → IsSome (blocks_of state (set parts p y))
  told_set [] p y one told = told
  told_set (q ∷ ps) zero y one told =
      let both = both_told (state q).values (blocks_of state ps) told in
      told_both (state y).values (blocks_of state ps) (one both.0) both.1
  told_set (q ∷ ps) (suc p) y one told =
      let both = both_told (state q).values (blocks_of state ps) told in
      told_both (state q).values (blocks_of state (set ps p y)) both.0 (told_set ps p y one both.1)

  pub fault_set : (parts : List D) (p : ℕ) (y : D) → p < length parts → 0 < (state y).faults → HasFault state p (set parts p y)
  fault_set parts p y lt fault = λ d. subst (λ (q : D). 0 < (state q).faults) (sym (get_or-set_same parts p y d lt)) fault

  -- a part with a fault is among the places
  more_there : (k x : ℕ) (places : List ℕ) → Contains places x → Contains (k ∷ places) x
  more_there k x places there = (suc there.0, omega (arith, there.1), there.2)

  found_first : (k n : ℕ) (places : List ℕ) → 0 < n → Contains (cond (nat_lt 0 n) (k ∷ places) places) (k + 0)
  found_first k n places lt =
      let t : nat_lt 0 n ≡ true = grind (arith, nat_tests, lt) in
      let e : k ≡ k + 0 = omega arith in
      subst (λ (b : Bool). Contains (cond b (k ∷ places) places) (k + 0)) (sym t) (0, omega arith, e)

  found_behind : (b : Bool) (k x : ℕ) (places : List ℕ) → Contains places x → Contains (cond b (k ∷ places) places) x
  found_behind true k x places there = more_there k x places there
  found_behind false k x places there = there

  pub fault_found : (k : ℕ) (parts : List D) (p : ℕ) → p < length parts → HasFault state p parts → Contains (faulty_from k state parts) (k + p)
  fault_found k [] p lt fault = absurd (omega arith)
  fault_found k (q ∷ ps) zero lt fault = found_first k (state q).faults (faulty_from (k + 1) state ps) (fault q)
  fault_found k (q ∷ ps) (suc p) lt fault =
      let e : k + 1 + p ≡ k + suc p = omega arith in
      subst (λ (x : ℕ). Contains (faulty_from k state (q ∷ ps)) x) e (found_behind (nat_lt 0 (state q).faults) k (k + 1 + p) (faulty_from (k + 1) state ps) (fault_found (k + 1) ps p (omega (arith, lt)) fault))

  -- ---- Parts as a bay hands them out

  blank_part : (told : Option Told) (n : ℕ) (part : State) → IsBlank n told part → IsSettledAs (zeros n) part
  blank_part told n part b = record { sized = b.sized ∙ sym (length-replicate n zero_block); quiet = b.quiet; content = b.zero }

  pub blank_settled : (told : Option Told) (sizes : List ℕ) (parts : List D) → AreBlank state told sizes parts → AreSettled state (map zeros sizes) parts
  blank_settled told [] [] b = tt
  blank_settled told [] (q ∷ ps) b = absurd b
  blank_settled told (n ∷ ns) [] b = absurd b
  blank_settled told (n ∷ ns) (q ∷ ps) b = (blank_part told n (state q) b.0, blank_settled told ns ps b.1)

  pub blank_told : (t : Told) (sizes : List ℕ) (parts : List D) → AreBlank state (Some t) sizes parts → IsSome (blocks_of state parts)
  blank_told t [] [] b = refl
  blank_told t [] (q ∷ ps) b = absurd b
  blank_told t (n ∷ ns) [] b = absurd b
  blank_told t (n ∷ ns) (q ∷ ps) b = told_both (state q).values (blocks_of state ps) (ap is_some b.0.content) (blank_told t ns ps b.1)
