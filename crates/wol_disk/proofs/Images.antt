-- What the images of a disk are after its calls.
use Rattle.std.proofs.Common.{◌≡◌, ◌⊎◌, inl, inr, ⊎_elim, ℕ, zero, suc, ◌+◌, ◌≤◌, List, [], ◌∷◌, ◌++◌, length, take, drop, Option, None, Some, option_map, Result, Ok, Err, OnOk, OnErr, refl, sym, ◌∙◌, ap, subst, arith}
use Rattle.wol_disk.specs.Disk.{Values, renewed, reads, only, settled, put, added, AddsSome, AddsSomeOf, IsAmong, IsImage, IsBlend}

module _ {B : Type 0} where
  -- an image of blocks with one value each
  pub only_image : (bs c : List B) → IsImage (only bs) c → c ≡ bs
  only_image [] [] i = refl
  only_image [] (x ∷ c) i = absurd i
  only_image (b ∷ bs) [] i = absurd i
  only_image (b ∷ bs) (x ∷ c) i = ⊎_elim (λ e. λ k. e k ∷ only_image bs c i.1 k) (λ n. absurd n) i.0

  pub image_only : (bs : List B) → IsImage (only bs) bs
  image_only [] = tt
  image_only (b ∷ bs) = (inl refl, image_only bs)

  pub reads_only : (bs : List B) → reads (only bs) ≡ bs
  reads_only [] = refl
  reads_only (b ∷ bs) = ap (λ l. b ∷ l) (reads_only bs)

  pub reads_added : (at : ℕ) (xs : List B) (vs : List (Values B)) → reads (added at xs vs) ≡ put at xs (reads vs)
  reads_added at xs [] = refl
  reads_added zero [] (v ∷ vs) = refl
  reads_added zero (x ∷ xs) (v ∷ vs) = ap (λ l. x ∷ l) (reads_added zero xs vs)
  reads_added (suc at) xs (v ∷ vs) = ap (λ l. v.now ∷ l) (reads_added at xs vs)

  -- what a read gives is an image
  pub image_reads : (vs : List (Values B)) → IsImage vs (reads vs)
  image_reads [] = tt
  image_reads (v ∷ vs) = (inl refl, image_reads vs)

  -- a sync leaves no new image
  pub settled_image : (vs : List (Values B)) (c : List B) → IsImage (settled vs) c → IsImage vs c
  settled_image vs c i = subst (λ (d : List B). IsImage vs d) (sym (only_image (reads vs) c i)) (image_reads vs)

  same_now : (v w : Values B) (x : B) → w ≡ v → ((x ≡ w.now) ⊎ IsAmong w.earlier x) → (x ≡ v.now) ⊎ IsAmong v.earlier x
  same_now v w x e i = subst (λ (u : Values B). (x ≡ u.now) ⊎ IsAmong u.earlier x) e i

  blend_same : (bs : List B) → IsBlend bs bs bs
  blend_same [] = tt
  blend_same (b ∷ bs) = (inl refl, blend_same bs)

  -- an image after a write, done in part or whole, is a blend of one before and that one overwritten
  pub image_of_some : (at : ℕ) (xs : List B) (vs ws : List (Values B)) (c : List B) → AddsSome at xs vs ws → IsImage ws c → (d : List B) × IsImage vs d × IsBlend d (put at xs d) c
  image_of_some at xs [] ws c a i =
      let e : c ≡ [] = only_image [] c (subst (λ (l : List (Values B)). IsImage l c) a i) in
      ([], tt, subst (λ (l : List B). IsBlend [] [] l) (sym e) tt)
  image_of_some at xs (v ∷ vs) [] c a i = absurd a
  image_of_some at xs (v ∷ vs) (w ∷ ws) [] a i = absurd i
  image_of_some zero [] (v ∷ vs) (w ∷ ws) (y ∷ c) a i = (y ∷ c, subst (λ (l : List (Values B)). IsImage l (y ∷ c)) a i, blend_same (y ∷ c))
  image_of_some zero (x ∷ xs) (v ∷ vs) (w ∷ ws) (y ∷ c) a i =
      let rest = image_of_some zero xs vs ws c a.1 i.1 in
      elim a.0 [
        | inl e ↦ (y ∷ rest.0, (same_now v w y e i.0, rest.1), (inl refl, rest.2))
        | inr e ↦ elim (same_now (renewed x v) w y e i.0) [
          | inl new ↦ (v.now ∷ rest.0, (inl refl, rest.1), (inr new, rest.2))
          | inr old ↦ (y ∷ rest.0, (old, rest.1), (inl refl, rest.2))
        ]
      ]
  image_of_some (suc at) xs (v ∷ vs) (w ∷ ws) (y ∷ c) a i =
      let rest = image_of_some at xs vs ws c a.1 i.1 in
      (y ∷ rest.0, (same_now v w y a.0 i.0, rest.1), (inl refl, rest.2))

  pub adds_all : (at : ℕ) (xs : List B) (vs : List (Values B)) → AddsSome at xs vs (added at xs vs)
  adds_all at xs [] = refl
  adds_all zero [] (v ∷ vs) = refl
  adds_all zero (x ∷ xs) (v ∷ vs) = (inr refl, adds_all zero xs vs)
  adds_all (suc at) xs (v ∷ vs) = (refl, adds_all at xs vs)

  -- where both lists have one front, so has each blend
  pub blend_front : (k : ℕ) (old new c : List B) → take k old ≡ take k new → IsBlend old new c → take k c ≡ take k old
  blend_front zero old new c e b = refl
  blend_front (suc k) [] [] [] e b = refl
  blend_front (suc k) [] [] (z ∷ zs) e b = absurd b
  blend_front (suc k) [] (y ∷ ys) c e b = absurd b
  blend_front (suc k) (x ∷ xs) [] c e b = absurd b
  blend_front (suc k) (x ∷ xs) (y ∷ ys) [] e b = absurd b
  blend_front (suc k) (x ∷ xs) (y ∷ ys) (z ∷ zs) e b =
      let first : x ≡ y = cc in
      let more : take k xs ≡ take k ys = cc in
      let is : z ≡ x = ⊎_elim (λ p. p) (λ p. p ∙ sym first) b.0 in
      λ i. is i ∷ blend_front k xs ys zs more b.1 i

  blend_of_same : (xs c : List B) → IsBlend xs xs c → c ≡ xs
  blend_of_same [] [] b = refl
  blend_of_same [] (z ∷ zs) b = absurd b
  blend_of_same (x ∷ xs) [] b = absurd b
  blend_of_same (x ∷ xs) (z ∷ zs) b = λ i. ⊎_elim (λ p. p) (λ p. p) b.0 i ∷ blend_of_same xs zs b.1 i

  pub put_nothing : (at : ℕ) (bs : List B) → put at [] bs ≡ bs
  put_nothing at [] = refl
  put_nothing zero (b ∷ bs) = refl
  put_nothing (suc at) (b ∷ bs) = ap (λ l. b ∷ l) (put_nothing at bs)

  -- one block is written whole or not at all
  pub blend_one : (at : ℕ) (x : B) (bs c : List B) → IsBlend bs (put at (x ∷ []) bs) c → (c ≡ bs) ⊎ (c ≡ put at (x ∷ []) bs)
  blend_one at x [] c b = inl (blend_of_same [] c b)
  blend_one zero x (y ∷ bs) [] b = absurd b
  blend_one zero x (y ∷ bs) (z ∷ c) b =
      let rest : c ≡ bs = blend_of_same bs c (subst (λ (l : List B). IsBlend bs l c) (put_nothing zero bs) b.1) in
      let rest' : c ≡ put zero [] bs = rest ∙ sym (put_nothing zero bs) in
      ⊎_elim (λ p. inl (λ i. p i ∷ rest i)) (λ p. inr (λ i. p i ∷ rest' i)) b.0
  blend_one (suc at) x (y ∷ bs) [] b = absurd b
  blend_one (suc at) x (y ∷ bs) (z ∷ c) b =
      let first : z ≡ y = ⊎_elim (λ p. p) (λ p. p) b.0 in
      ⊎_elim (λ p. inl (λ i. first i ∷ p i)) (λ p. inr (λ i. first i ∷ p i)) (blend_one at x bs c b.1)

  pub put_front : (at k : ℕ) (xs bs : List B) → k ≤ at → take k (put at xs bs) ≡ take k bs
  put_front at zero xs bs le = refl
  put_front at (suc k) xs [] le = refl
  put_front zero (suc k) xs (b ∷ bs) le = absurd (omega arith)
  put_front (suc at) (suc k) xs (b ∷ bs) le = ap (λ l. b ∷ l) (put_front at k xs bs (omega arith))

  -- a write leaves the blocks in front of it as they were, in each image
  pub front_of_some : (at k : ℕ) (xs : List B) (vs ws : List (Values B)) (c : List B) → k ≤ at → AddsSome at xs vs ws → IsImage ws c → (d : List B) × IsImage vs d × (take k c ≡ take k d)
  front_of_some at k xs vs ws c le a i =
      let from = image_of_some at xs vs ws c a i in
      (from.0, from.1, blend_front k from.0 (put at xs from.0) c (sym (put_front at k xs from.0 le)) from.2)

  pub length-put : (at : ℕ) (xs bs : List B) → length (put at xs bs) ≡ length bs
  length-put at xs [] = refl
  length-put zero [] (b ∷ bs) = refl
  length-put zero (x ∷ xs) (b ∷ bs) = ap suc (length-put zero xs bs)
  length-put (suc at) xs (b ∷ bs) = ap suc (length-put at xs bs)

  -- where the blocks are cut in three, a write of the middle replaces it
  pub put_at : (front xs ys rest : List B) (at : ℕ) → length front ≡ at → length xs ≡ length ys → put at xs (front ++ ys ++ rest) ≡ front ++ xs ++ rest
  put_at [] [] [] rest zero e f = put_nothing zero rest
  put_at [] [] (y ∷ ys) rest zero e f = absurd (omega arith)
  put_at [] (x ∷ xs) [] rest zero e f = absurd (omega arith)
  put_at [] (x ∷ xs) (y ∷ ys) rest zero e f = ap (λ l. x ∷ l) (put_at [] xs ys rest zero refl (omega arith))
  put_at [] xs ys rest (suc at) e f = absurd (omega arith)
  put_at (b ∷ front) xs ys rest zero e f = absurd (omega arith)
  put_at (b ∷ front) xs ys rest (suc at) e f = ap (λ l. b ∷ l) (put_at front xs ys rest at (omega arith) f)

  pub adds_none : (at : ℕ) (xs : List B) (vs : List (Values B)) → AddsSome at xs vs vs
  adds_none at xs [] = refl
  adds_none zero [] (v ∷ vs) = refl
  adds_none zero (x ∷ xs) (v ∷ vs) = (inl refl, adds_none zero xs vs)
  adds_none (suc at) xs (v ∷ vs) = (refl, adds_none at xs vs)

  -- a write of the front alone is a write of all that failed
  pub adds_front : (k at : ℕ) (xs : List B) (vs ws : List (Values B)) → AddsSome at (take k xs) vs ws → AddsSome at xs vs ws
  adds_front k at xs [] ws a = a
  adds_front k at xs (v ∷ vs) [] a = a
  adds_front zero zero xs (v ∷ vs) (w ∷ ws) a = subst (λ l. AddsSome zero xs (v ∷ vs) l) (sym a) (adds_none zero xs (v ∷ vs))
  adds_front (suc k) zero [] (v ∷ vs) (w ∷ ws) a = a
  adds_front (suc k) zero (x ∷ xs) (v ∷ vs) (w ∷ ws) a = (a.0, adds_front k zero xs vs ws a.1)
  adds_front k (suc at) xs (v ∷ vs) (w ∷ ws) a = (a.0, adds_front k at xs vs ws a.1)

  pub adds_none_of : (at : ℕ) (xs : List B) (o : Option (List (Values B))) → AddsSomeOf at xs o o
  adds_none_of at xs None = refl
  adds_none_of at xs (Some vs) = adds_none at xs vs

  pub adds_front_of : (k at : ℕ) (xs : List B) (old new : Option (List (Values B))) → AddsSomeOf at (take k xs) old new → AddsSomeOf at xs old new
  adds_front_of k at xs None new a = a
  adds_front_of k at xs (Some vs) None a = a
  adds_front_of k at xs (Some vs) (Some ws) a = adds_front k at xs vs ws a

  -- whatever a write answered
  pub adds_either : {T E : Type 0} (r : Result T E) (at : ℕ) (xs : List B) (old new : Option (List (Values B))) → OnOk r (new ≡ option_map (added at xs) old) → OnErr r (AddsSomeOf at xs old new) → AddsSomeOf at xs old new
  adds_either (Err e) at xs old new ok err = err
  adds_either (Ok x) at xs None new ok err = ok
  adds_either (Ok x) at xs (Some vs) new ok err = subst (λ l. AddsSomeOf at xs (Some vs) l) (sym ok) (adds_all at xs vs)

  -- std's form of a write to a part of a slice
  pub put_part : (at : ℕ) (xs bs : List B) → at + length xs ≤ length bs → put at xs bs ≡ take at bs ++ (xs ++ drop (length xs) (drop at bs))
  put_part zero [] [] le = refl
  put_part zero (x ∷ xs) [] le = absurd (omega (arith, le))
  put_part (suc at) xs [] le = absurd (omega (arith, le))
  put_part zero [] (b ∷ bs) le = refl
  put_part zero (x ∷ xs) (b ∷ bs) le = ap (λ l. x ∷ l) (put_part zero xs bs (omega (arith, le)))
  put_part (suc at) xs (b ∷ bs) le = ap (λ l. b ∷ l) (put_part at xs bs (omega (arith, le)))

  pub adds_none_err : {T E : Type 0} (r : Result T E) (at : ℕ) (xs : List B) (vs : List (Values B)) → OnErr r (AddsSome at xs vs vs)
  adds_none_err (Ok x) at xs vs = tt
  adds_none_err (Err e) at xs vs = adds_none at xs vs
