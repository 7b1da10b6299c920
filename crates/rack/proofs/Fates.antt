-- What became of the segments of an opening that was handed back, and that they may return.
use Rattle.rack.proofs.Basics.{◌≡◌, ◌≢◌, ◌⊎◌, inl, inr, ⊎_elim, ℕ, ◌+◌, ◌<◌, ◌≤◌, Bool, true, false, cond, eqb, List, ◌∷◌, ◌++◌, length, map, reverse, get_or, Option, refl, sym, ap, ◌∙◌}
use Rattle.rack.proofs.Basics.{subst, arith, AllPairs, Contains, All, cases_lt, eq-eqb, ne_eqb, append_assoc, append-nil, reverse-reverse, get_or-map, get_or_default, length-map}
use Rattle.rack.proofs.Basics.{All-contains, All-contains_itself, AllByRecursion, AllZip, []}
use Rattle.rack.proofs.Terms.{Block, Values, State, IsDisk, TellsContent, IsImageOf, reads, now_leaves, image_reads, Shape, owned_block, IsIdle, IsLog, SaysOwnerOrFree, Image, Entry}
use Rattle.rack.proofs.Terms.{IsSamePass, pass_lock, pass_number, pass_mine, state_of, Gave, holds, PoolBase, free_disk, FreeSegment, logger_of, pool_of, Lane, Station, Fate, Kept, Freed}
use Rattle.rack.proofs.Terms.{IsFateOf, AreFates, HasGiven, freed_on, kept_of, OwnedPart, HasHead, head_place, HadBefore, HadSegmentBefore, IsGone, AreInOrder, IsBefore, place_of}
use Rattle.std.proofs.lemmas.Bool.Decides.{eqb_tells}
use Rattle.std.proofs.lemmas.List.Kept.{AllPairs-cons}
use Rattle.seg_pool.specs.Operations.{operation_of}
use Rattle.seg_pool.proofs.Holding.{holds-push}
use Rattle.rack_parts.proofs.Members.{first_in, later_in, in_cases, none_in, of_recursion, all_member, all_reverse, in_map}
use Rattle.rack.proofs.OwnedSegments.{never_itself}
use Rattle.wol_model.specs.Heads as head

-- ---- What became of each segment that a volume owned when it was opened

-- lists of partners with the same numbers
pub zip_map : {X Y : Type 0} (R : X → Y → Type 0) (f : X → ℕ) (g : Y → ℕ) → ((x : X) (y : Y) → R x y → g y ≡ f x) → (xs : List X) (ys : List Y) → AllZip R xs ys → map g ys ≡ map f xs
zip_map R f g same [] [] zip = refl
zip_map R f g same [] (y ∷ ys) zip = absurd zip
zip_map R f g same (x ∷ xs) [] zip = absurd zip
zip_map R f g same (x ∷ xs) (y ∷ ys) zip = λ i. same x y zip.0 i ∷ zip_map R f g same xs ys zip.1 i

-- two elements of a list are the same where their numbers are, of which no two are
pub same_by : {X : Type 0} (f : X → ℕ) (xs : List X) (x y : X) → AllPairs (λ (j k : ℕ). j ≢ k) (map f xs) → Contains xs x → Contains xs y → f x ≡ f y → x ≡ y
same_by {X} f xs x y apart cx cy same =
    ⊎_elim
    (λ (less : cx.0 < cy.0). absurd (apart cx.0 cy.0 0 less (let n = length-map xs f in let w = cy.1 in omega (arith, n, w)) (at cx.0 x cx.1 cx.2 ∙ same ∙ sym (at cy.0 y cy.1 cy.2))))
    (λ (past : cy.0 ≤ cx.0).
    ⊎_elim
    (λ (less : cy.0 < cx.0). absurd (apart cy.0 cx.0 0 less (let n = length-map xs f in let w = cx.1 in omega (arith, n, w)) (at cy.0 y cy.1 cy.2 ∙ sym same ∙ sym (at cx.0 x cx.1 cx.2))))
    (λ (last : cx.0 ≤ cy.0).
    let e : cx.0 ≡ cy.0 = omega (arith, past, last) in
    sym cx.2 ∙ ap (λ (n : ℕ). get_or xs n x) e ∙ get_or_default xs cy.0 x y cy.1 ∙ cy.2)
    (cases_lt cy.0 cx.0))
    (cases_lt cx.0 cy.0)
  where
    at : (n : ℕ) (z : X) → n < length xs → get_or xs n z ≡ z → get_or (map f xs) n 0 ≡ f z
    at n z below is = get_or-map f xs n z 0 below ∙ ap f is

-- ---- What a pass holds that gave these

in_reverse : (xs : List ℕ) (i : ℕ) → Contains xs i → Contains (reverse xs) i
in_reverse xs i has =
    All-contains (Contains (reverse xs)) xs i (subst (All (Contains (reverse xs))) (reverse-reverse xs) (all_reverse (Contains (reverse xs)) (reverse xs) (All-contains_itself (reverse xs)))) has

of_reverse : (xs : List ℕ) (i : ℕ) → Contains (reverse xs) i → Contains xs i
of_reverse xs i has = All-contains (Contains xs) (reverse xs) i (all_reverse (Contains xs) xs (All-contains_itself xs)) has

module _ (b : PoolBase) (n i : ℕ) where
  -- it holds what it held and didn't give
  still_held : (xs : List ℕ) (es : List Entry) → holds b n (es ++ map (λ index. (n, operation_of (Gave index))) xs) i ≡ true → (holds b n es i ≡ true) × (Contains xs i → ⊥)
  still_held [] es is = (sym (ap (λ (l : List Entry). holds b n l i) (append-nil es)) ∙ is, none_in i)
  still_held (x ∷ xs) es is =
      let more = still_held xs (es ++ (n, operation_of (Gave x)) ∷ []) (ap (λ (l : List Entry). holds b n l i) (append_assoc es ((n, operation_of (Gave x)) ∷ []) (map (λ index. (n, operation_of (Gave index))) xs)) ∙ is) in
      one (eqb x i) refl (sym (holds-push b es n i (Gave x)) ∙ more.0) more.1
    where
      one : (t : Bool) → eqb x i ≡ t → cond (eqb x i) false (holds b n es i) ≡ true → (Contains xs i → ⊥) → (holds b n es i ≡ true) × (Contains (x ∷ xs) i → ⊥)
      one true same is never = absurd (let no : false ≡ true = sym (ap (λ (t : Bool). cond t false (holds b n es i)) same) ∙ is in cc no)
      one false other is never =
          (sym (ap (λ (t : Bool). cond t false (holds b n es i)) other) ∙ is, λ has. ⊎_elim (λ (e : x ≡ i). (let no : false ≡ true = sym other ∙ eq-eqb x i e in cc no)) never (in_cases x i xs has))

  holds_still : (xs : List ℕ) (es : List Entry) → holds b n es i ≡ true → (Contains xs i → ⊥) → holds b n (es ++ map (λ index. (n, operation_of (Gave index))) xs) i ≡ true
  holds_still [] es is never = ap (λ (l : List Entry). holds b n l i) (append-nil es) ∙ is
  holds_still (x ∷ xs) es is never =
      let other : eqb x i ≡ false = ne_eqb x i (λ e. never (first_in x i xs e)) in
      let next : holds b n (es ++ (n, operation_of (Gave x)) ∷ []) i ≡ true = holds-push b es n i (Gave x) ∙ ap (λ (t : Bool). cond t false (holds b n es i)) other ∙ is in
      sym (ap (λ (l : List Entry). holds b n l i) (append_assoc es ((n, operation_of (Gave x)) ∷ []) (map (λ index. (n, operation_of (Gave index))) xs))) ∙ holds_still xs (es ++ (n, operation_of (Gave x)) ∷ []) next (λ has. never (later_in x i xs has))

module _ {D : Type 0} (os : List (OwnedPart D)) (fates : List (Fate D)) (old new : Lane D) (same : IsSamePass (pool_of old) (pool_of new)) (given : HasGiven os fates old new) (i : ℕ) where
  alike : holds (pass_lock (pool_of new)).base (pass_number (pool_of new)) (pass_mine (pool_of new)) i
      ≡ holds (pass_lock (pool_of old)).base (pass_number (pool_of old)) (pass_mine (pool_of old) ++ map (λ index. (pass_number (pool_of old), operation_of (Gave index))) (reverse (freed_on (logger_of old) os fates))) i
  alike j = holds (same.0 j).base (same.1 j) (given j) i

  pub held_before : holds (pass_lock (pool_of new)).base (pass_number (pool_of new)) (pass_mine (pool_of new)) i ≡ true
      → (holds (pass_lock (pool_of old)).base (pass_number (pool_of old)) (pass_mine (pool_of old)) i ≡ true) × (Contains (freed_on (logger_of old) os fates) i → ⊥)
  held_before is =
      let x = still_held (pass_lock (pool_of old)).base (pass_number (pool_of old)) i (reverse (freed_on (logger_of old) os fates)) (pass_mine (pool_of old)) (sym alike ∙ is) in
      (x.0, λ has. x.1 (in_reverse (freed_on (logger_of old) os fates) i has))

  pub held_still : holds (pass_lock (pool_of old)).base (pass_number (pool_of old)) (pass_mine (pool_of old)) i ≡ true → (Contains (freed_on (logger_of old) os fates) i → ⊥)
      → holds (pass_lock (pool_of new)).base (pass_number (pool_of new)) (pass_mine (pool_of new)) i ≡ true
  held_still is never =
      alike ∙ holds_still (pass_lock (pool_of old)).base (pass_number (pool_of old)) i (reverse (freed_on (logger_of old) os fates)) (pass_mine (pool_of old)) is (λ has. never (of_reverse (freed_on (logger_of old) os fates) i has))

-- ---- Their images

module _ {D : Type 0} (state : D → State) (sound : (d : D) → IsDisk (state d)) (id : ℕ) where
  owner_says : (c : List Block) → (rs : List Rattle.wol_model.specs.Log.Record) → IsLog c id rs ⊎ IsIdle c → SaysOwnerOrFree id c
  owner_says [] rs (inl log) = absurd (let both = log.joined in cc both)
  owner_says [] rs (inr idle) = idle
  owner_says (x ∷ c) rs (inl log) = inl (first x c (owned_block id) _ log.joined)
    where
      first : (x : Block) (xs : List Block) (y : Block) (ys : List Block) → x ∷ xs ≡ y ∷ ys → x ≡ y
      first x xs y ys e = cc e
  owner_says (x ∷ c) rs (inr idle) = inr idle

  -- a kept one says its owner or is free, where it did
  pub kept_says : ((d : D) → TellsContent (state d)) → (part p : OwnedPart D) → IsFateOf state id part (Kept p) → ((c : List Block) → IsImageOf (state_of state part.part).values c → SaysOwnerOrFree id c)
      → (c : List Block) → IsImageOf (state_of state p.part).values c → SaysOwnerOrFree id c
  kept_says told part p fate says c im =
      let vs = told part.part.inner in
      ⊎_elim (says c) (λ x. owner_says c x.1 x.4) (now_leaves (fate.any_moment vs.0 vs.1) (sound p.part.inner) c im)

  -- it has no image that it hadn't, but where one was a log none of whose records keeps a block
  pub kept_had : (before : Image) (first behind : ℕ) (part p : OwnedPart D) → ((d : D) → TellsContent (state d)) → IsFateOf state id part (Kept p) → HadBefore state before first behind part.part → HadSegmentBefore state before first behind p.part
  kept_had before first behind part p told fate had c im =
      let vs = told part.part.inner in
      (id, ⊎_elim (λ was. inl (had c was)) (λ x. inr (x.0, x.1, had x.0 x.2, x.3, x.4)) (now_leaves (fate.any_moment vs.0 vs.1) (sound p.part.inner) c im))

  -- a freed one had an image that was free, or a log none of whose records keeps a block
  pub freed_gone : (volumes : ℕ) (s : Shape) (before : Image) (stations : List (Station D)) (i : ℕ) (part : OwnedPart D) (f : FreeSegment D) → ((d : D) → TellsContent (state d)) → IsFateOf state id part (Freed f)
      → HadBefore state before (head_place s i) (head_place s (i + 1)) part.part → IsGone volumes s before stations i
  freed_gone volumes s before stations i part f told fate had =
      let vs = told part.part.inner in
      let ws = told f.part.inner in
      let now : IsImageOf (free_disk state f).values (reads ws.0) = subst (λ (x : Option (List (Values Block))). IsImageOf x (reads ws.0)) (sym ws.1) (image_reads ws.0) in
      ⊎_elim
      (λ was. record { was = reads ws.0; had = had (reads ws.0) was; said = inl (free_head (reads ws.0) (fate.same.0.idle (reads ws.0) now)) })
      (λ x. record { was = x.0; had = had x.0 x.2; said = inr (inr (id, x.1, x.3)) })
      (now_leaves (fate.any_moment vs.0 vs.1) (sound f.part.inner) (reads ws.0) now)
    where
      free_head : (c : List Block) → IsIdle c → HasHead volumes c head.Free
      free_head [] idle = absurd idle
      free_head (x ∷ c) idle = record { block = x; first = refl; spelled = record { in_range = tt; bytes = idle }; configured = tt }

-- ---- What became of an owned segment of an opening, by its place

module _ {D : Type 0} (state : D → State) (id : ℕ) where
  -- what became of the segment at a place
  pub data FateAt (os : List (OwnedPart D)) (fates : List (Fate D)) (k i : ℕ) : Type 0 where
    stayed : (o n : OwnedPart D) → Contains os o → place_of o ≡ (k, i) → Contains (kept_of fates) n → place_of n ≡ (k, i) → IsFateOf state id o (Kept n) → (Contains (freed_on k os fates) i → ⊥) → FateAt os fates k i
    went : (o : OwnedPart D) (f : FreeSegment D) → Contains os o → place_of o ≡ (k, i) → IsFateOf state id o (Freed f) → Contains (freed_on k os fates) i
        → ((n : OwnedPart D) → Contains (kept_of fates) n → place_of n ≡ (k, i) → ⊥) → FateAt os fates k i

  -- a segment that was handed on stands where it stood
  same_place : (o n : OwnedPart D) → IsFateOf state id o (Kept n) → place_of n ≡ place_of o
  same_place o n fate = ap place_of fate.same.0

  freed_cases : (o : OwnedPart D) (os : List (OwnedPart D)) (f : FreeSegment D) (fates : List (Fate D)) (k i : ℕ) → Contains (freed_on k (o ∷ os) (Freed f ∷ fates)) i → (place_of o ≡ (k, i)) ⊎ Contains (freed_on k os fates) i
  freed_cases o os f fates k i has = ⊎_elim
      (λ e. ⊎_elim (λ (same : o.index ≡ i). inl (λ j. (e.1 j, same j))) (λ more. inr more)
      (in_cases o.index i (freed_on k os fates) (subst (λ (t : Bool). Contains (cond t (o.index ∷ freed_on k os fates) (freed_on k os fates)) i) e.0 has)))
      (λ e. inr (subst (λ (t : Bool). Contains (cond t (o.index ∷ freed_on k os fates) (freed_on k os fates)) i) e.0 has))
      (eqb_tells o.logger k)

  freed_here : (o : OwnedPart D) (os : List (OwnedPart D)) (f : FreeSegment D) (fates : List (Fate D)) (k i : ℕ) → place_of o ≡ (k, i) → Contains (freed_on k (o ∷ os) (Freed f ∷ fates)) i
  freed_here o os f fates k i is = ⊎_elim
      (λ e. subst (λ (t : Bool). Contains (cond t (o.index ∷ freed_on k os fates) (freed_on k os fates)) i) (sym e.0) (first_in o.index i (freed_on k os fates) (ap (λ (p : ℕ × ℕ). p.1) is)))
      (λ e. absurd (e.1 (ap (λ (p : ℕ × ℕ). p.0) is)))
      (eqb_tells o.logger k)

  freed_later : (o : OwnedPart D) (os : List (OwnedPart D)) (f : Fate D) (fates : List (Fate D)) (k i : ℕ) → Contains (freed_on k os fates) i → Contains (freed_on k (o ∷ os) (f ∷ fates)) i
  freed_later o os (Kept n) fates k i has = has
  freed_later o os (Freed f) fates k i has = at (eqb o.logger k)
    where
      at : (t : Bool) → Contains (cond t (o.index ∷ freed_on k os fates) (freed_on k os fates)) i
      at true = later_in o.index i (freed_on k os fates) has
      at false = has

  -- what was freed was owned
  pub freed_owned : (os : List (OwnedPart D)) (fates : List (Fate D)) (k i : ℕ) → Contains (freed_on k os fates) i → Contains (map place_of os) (k, i)
  freed_owned [] fates k i has = absurd (none_in i has)
  freed_owned (o ∷ os) [] k i has = absurd (none_in i has)
  freed_owned (o ∷ os) (Kept n ∷ fates) k i has = later_in (place_of o) (k, i) (map place_of os) (freed_owned os fates k i has)
  freed_owned (o ∷ os) (Freed f ∷ fates) k i has = ⊎_elim
      (λ is. first_in (place_of o) (k, i) (map place_of os) is)
      (λ more. later_in (place_of o) (k, i) (map place_of os) (freed_owned os fates k i more))
      (freed_cases o os f fates k i has)

  -- what was handed on was owned
  pub kept_owned : (os : List (OwnedPart D)) (fates : List (Fate D)) → AreFates state id os fates → (n : OwnedPart D) → Contains (kept_of fates) n → Contains (map place_of os) (place_of n)
  kept_owned [] [] zip n has = absurd (none_in n has)
  kept_owned [] (f ∷ fates) zip n has = absurd zip
  kept_owned (o ∷ os) [] zip n has = absurd zip
  kept_owned (o ∷ os) (Kept m ∷ fates) zip n has = ⊎_elim
      (λ (e : m ≡ n). first_in (place_of o) (place_of n) (map place_of os) (sym (same_place o m zip.0) ∙ ap place_of e))
      (λ more. later_in (place_of o) (place_of n) (map place_of os) (kept_owned os fates zip.1 n more))
      (in_cases m n (kept_of fates) has)
  kept_owned (o ∷ os) (Freed f ∷ fates) zip n has = later_in (place_of o) (place_of n) (map place_of os) (kept_owned os fates zip.1 n has)

  before_kept : (p : ℕ × ℕ) (os : List (OwnedPart D)) (fates : List (Fate D)) → AreFates state id os fates → AllByRecursion (IsBefore p) (map place_of os) → AllByRecursion (IsBefore p) (map place_of (kept_of fates))
  before_kept p [] [] zip all = tt
  before_kept p [] (f ∷ fates) zip all = absurd zip
  before_kept p (o ∷ os) [] zip all = absurd zip
  before_kept p (o ∷ os) (Kept n ∷ fates) zip all = (subst (IsBefore p) (sym (same_place o n zip.0)) all.0, before_kept p os fates zip.1 all.1)
  before_kept p (o ∷ os) (Freed f ∷ fates) zip all = before_kept p os fates zip.1 all.1

  -- and those that were handed on are in order
  pub kept_in_order : (os : List (OwnedPart D)) (fates : List (Fate D)) → AreFates state id os fates → AreInOrder (map place_of os) → AreInOrder (map place_of (kept_of fates))
  kept_in_order [] [] zip order = tt
  kept_in_order [] (f ∷ fates) zip order = absurd zip
  kept_in_order (o ∷ os) [] zip order = absurd zip
  kept_in_order (o ∷ os) (Kept n ∷ fates) zip order =
      (subst (λ (p : ℕ × ℕ). AllByRecursion (IsBefore p) (map place_of (kept_of fates))) (sym (same_place o n zip.0)) (before_kept (place_of o) os fates zip.1 order.0), kept_in_order os fates zip.1 order.1)
  kept_in_order (o ∷ os) (Freed f ∷ fates) zip order = kept_in_order os fates zip.1 order.1

  -- the first place stands nowhere behind it
  not_behind : (o : OwnedPart D) (os : List (OwnedPart D)) (k i : ℕ) → AreInOrder (map place_of (o ∷ os)) → place_of o ≡ (k, i) → Contains (map place_of os) (k, i) → ⊥
  not_behind o os k i order is has = never_itself (k, i) (subst (λ (p : ℕ × ℕ). IsBefore p (k, i)) is (of_recursion (IsBefore (place_of o)) (map place_of os) (k, i) order.0 has))

  -- each place of an owned segment has its fate
  pub fate_at : (os : List (OwnedPart D)) (fates : List (Fate D)) → AreInOrder (map place_of os) → AreFates state id os fates → (k i : ℕ) → Contains (map place_of os) (k, i) → FateAt os fates k i
  fate_at [] fates order zip k i has = absurd (none_in (k, i) has)
  fate_at (o ∷ os) [] order zip k i has = absurd zip
  fate_at (o ∷ os) (f ∷ fates) order zip k i has = go (λ more. fate_at os fates order.1 zip.1 k i more) (in_cases (place_of o) (k, i) (map place_of os) has)
    where
      first : (f : Fate D) → IsFateOf state id o f → place_of o ≡ (k, i) → FateAt (o ∷ os) (f ∷ fates) k i
      first (Kept n) fate is =
          stayed o n (first_in o o os refl) is (first_in n n (kept_of fates) refl) (same_place o n fate ∙ is) fate (λ freed. not_behind o os k i order is (freed_owned os fates k i freed))
      first (Freed f) fate is =
          went o f (first_in o o os refl) is fate (freed_here o os f fates k i is)
          (λ n kept at. not_behind o os k i order is (subst (λ (p : ℕ × ℕ). Contains (map place_of os) p) at (kept_owned os fates zip.1 n kept)))

      later : (f : Fate D) → IsFateOf state id o f → Contains (map place_of os) (k, i) → FateAt os fates k i → FateAt (o ∷ os) (f ∷ fates) k i
      later (Kept m) fate behind (stayed p n in_os is in_kept at own never) = stayed p n (later_in o p os in_os) is (later_in m n (kept_of fates) in_kept) at own never
      later (Freed m) fate behind (stayed p n in_os is in_kept at own never) =
          stayed p n (later_in o p os in_os) is in_kept at own (λ freed. ⊎_elim (λ same. not_behind o os k i order same behind) never (freed_cases o os m fates k i freed))
      later (Kept m) fate behind (went p g in_os is own freed none) =
          went p g (later_in o p os in_os) is own (freed_later o os (Kept m) fates k i freed)
          (λ n kept at. ⊎_elim (λ (e : m ≡ n). not_behind o os k i order (sym (same_place o m fate) ∙ ap place_of e ∙ at) behind) (λ more. none n more at) (in_cases m n (kept_of fates) kept))
      later (Freed m) fate behind (went p g in_os is own freed none) = went p g (later_in o p os in_os) is own (freed_later o os (Freed m) fates k i freed) none

      go : (Contains (map place_of os) (k, i) → FateAt os fates k i) → (place_of o ≡ (k, i)) ⊎ Contains (map place_of os) (k, i) → FateAt (o ∷ os) (f ∷ fates) k i
      go rest (inl is) = first f zip.0 is
      go rest (inr more) = later f zip.0 more (rest more)

  -- ---- Where as many were handed on as there were, none was freed

  few : (os : List (OwnedPart D)) (fates : List (Fate D)) → AreFates state id os fates → length (kept_of fates) ≤ length os
  few [] [] zip = omega arith
  few [] (f ∷ fates) zip = absurd zip
  few (o ∷ os) [] zip = absurd zip
  few (o ∷ os) (Kept n ∷ fates) zip = let rest = few os fates zip.1 in omega (arith, rest)
  few (o ∷ os) (Freed f ∷ fates) zip = let rest = few os fates zip.1 in omega (arith, rest)

  fewer : (os : List (OwnedPart D)) (fates : List (Fate D)) (k i : ℕ) → AreFates state id os fates → Contains (freed_on k os fates) i → length (kept_of fates) < length os
  fewer [] fates k i zip has = absurd (none_in i has)
  fewer (o ∷ os) [] k i zip has = absurd (none_in i has)
  fewer (o ∷ os) (Kept n ∷ fates) k i zip has = let rest = fewer os fates k i zip.1 has in omega (arith, rest)
  fewer (o ∷ os) (Freed f ∷ fates) k i zip has = let rest = few os fates zip.1 in omega (arith, rest)

  pub none_freed : (os ns : List (OwnedPart D)) (fates : List (Fate D)) (k i : ℕ) → AreFates state id os fates → ns ≡ kept_of fates → length os ≡ length ns → Contains (freed_on k os fates) i → ⊥
  none_freed os ns fates k i zip are same has =
      let less = fewer os fates k i zip has in
      let long : length ns ≡ length (kept_of fates) = ap (λ (l : List (OwnedPart D)). length l) are in
      omega (arith, less, same, long)

-- ---- What opening a volume hands back may come back to the rest that it was taken out of

-- the partners of an element in lists that two relations hold of
module _ {X Y : Type 0} (P Q : X → Y → Type 0) where
  pub partner_of : (xs : List X) (ys : List Y) (y : Y) → AllZip P xs ys → AllZip Q xs ys → Contains ys y → (x : X) × Contains xs x × P x y × Q x y
  partner_of [] [] y p q has = absurd (none_in y has)
  partner_of [] (b ∷ ys) y p q has = absurd p
  partner_of (x ∷ xs) [] y p q has = absurd p
  partner_of (x ∷ xs) (b ∷ ys) y p q has = ⊎_elim
      (λ (e : b ≡ y). (x, first_in x x xs refl, subst (λ (z : Y). P x z) e p.0, subst (λ (z : Y). Q x z) e q.0))
      (λ more. let rest = partner_of xs ys y p.1 q.1 more in (rest.0, later_in x rest.0 xs rest.1, rest.2, rest.3))
      (in_cases b y ys has)

-- places in order are apart
pub order_apart : {D : Type 0} (os : List (OwnedPart D)) → AreInOrder (map place_of os) → AllPairs (λ (o p : OwnedPart D). place_of o ≢ place_of p) os
order_apart [] order = λ i j d lt within. absurd (omega (arith, within))
order_apart {D} (o ∷ os) order = AllPairs-cons (λ (x y : OwnedPart D). place_of x ≢ place_of y) o os (all_member (λ (p : OwnedPart D). place_of o ≢ place_of p) os (λ p has same. never_itself (place_of p) (subst (λ (q : ℕ × ℕ). IsBefore q (place_of p)) same (behind p has)))) (order_apart os order.1)
  where
    behind : (p : OwnedPart D) → Contains os p → IsBefore (place_of o) (place_of p)
    behind p has = Rattle.rack_parts.proofs.Members.of_recursion (IsBefore (place_of o)) (map place_of os) (place_of p) order.0 (in_map place_of os p has)
