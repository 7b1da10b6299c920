-- The segments that a volume owns give all of what it recovers to.
use Rattle.rack.proofs.ClosingBasics.{◌≡◌, inl, inr, ⊎_elim, ◌<◌, ◌≤◌, ◌+◌, ◌^◌, ◌&&◌, ℕ, zero, suc, Bool, true, false, cond, ltb, List, [], ◌∷◌, ◌++◌, map, Option, None, Some, refl, sym, ap}
use Rattle.rack.proofs.ClosingBasics.{subst, ◌∙◌, length, arith, slice_get, unwrap_or, AllByRecursion, range_with_len, eq-eqb, ◌≢◌, flat_map, filter, cases_eq, map-append, All-contains}
use Rattle.rack.proofs.ClosingBasics.{slice_get_within}
use Rattle.rack.proofs.ClosingTerms.{Block, IsAmong, Shape, owned_block, Extent, with_extents, Images, image_of, image_size, home_of, home_in, segment_of, segments_of, all_segments, extent_of}
use Rattle.rack.proofs.ClosingTerms.{extents_of, read_records, AreInOrder, IsBefore, head_place, AreOwnedIn, IsOwnedIn, IsSegmentIn}
use Rattle.std.specs.Str.{bytes_eq}
use Rattle.std.proofs.lemmas.List.Concat.{flat_map_single}
use Rattle.wol_model.specs.Images.{recovered_from}
use Rattle.wol_model.specs.Recovered.{extents_in, read_log, recovered}
use Rattle.wol_model.proofs.ReadHeads.{same_bytes, same_from}
use Rattle.manager_recovery.specs.Owned.{Owned}
use Rattle.manager_recovery.proofs.ByLogger.{among_contains, contains_among, among_either, among_flat, flat_among, among_filter, filter_among}

-- ---- Lists in order

abbrev pub place : Owned → ℕ × ℕ
place o = (o.logger, o.index)

abbrev pub InOrder : List Owned → Type 0
InOrder os = AreInOrder (map (λ (o : Owned). (o.logger, o.index)) os)

pub never_itself : (p : ℕ × ℕ) → IsBefore p p → ⊥
never_itself p before = ⊎_elim (λ less. omega (arith, less)) (λ same. let l = same.1 in omega (arith, l)) before

never_both : (p q : ℕ × ℕ) → IsBefore p q → IsBefore q p → ⊥
never_both p q a b = ⊎_elim
    (λ less. ⊎_elim (λ more. omega (arith, less, more)) (λ same. let e = same.0 in omega (arith, less, e)) b)
    (λ same. ⊎_elim (λ more. let e = same.0 in omega (arith, e, more)) (λ other. let x = same.1 in let y = other.1 in omega (arith, x, y)) b) a

-- what holds of each place holds of the place of each element, and the other way
pub behind : (p : ℕ × ℕ) (os : List Owned) (o : Owned) → AllByRecursion (IsBefore p) (map (λ (x : Owned). (x.logger, x.index)) os) → IsAmong os o → IsBefore p (place o)
behind p [] o all has = absurd has
behind p (x ∷ os) o all has = ⊎_elim (λ same. subst (λ (y : Owned). IsBefore p (y.logger, y.index)) (sym same) all.0) (λ more. behind p os o all.1 more) has

all_behind : (p : ℕ × ℕ) (os : List Owned) → ((o : Owned) → IsAmong os o → IsBefore p (place o)) → AllByRecursion (IsBefore p) (map (λ (x : Owned). (x.logger, x.index)) os)
all_behind p [] each = tt
all_behind p (x ∷ os) each = (each x (inl refl), all_behind p os (λ o has. each o (inr has)))

-- lists in order with the same elements are the same
same_sorted : (xs ys : List Owned) → InOrder xs → InOrder ys → ((o : Owned) → IsAmong xs o → IsAmong ys o) → ((o : Owned) → IsAmong ys o → IsAmong xs o) → xs ≡ ys
same_sorted [] [] a b to from = refl
same_sorted [] (y ∷ ys) a b to from = absurd (from y (inl refl))
same_sorted (x ∷ xs) [] a b to from = absurd (to x (inl refl))
same_sorted (x ∷ xs) (y ∷ ys) a b to from =
    let same : x ≡ y = ⊎_elim (λ (e : x ≡ y). e) (λ more. ⊎_elim (λ (e : y ≡ x). sym e) (λ other. absurd (never_both (place y) (place x) (behind (place y) ys x b.0 more) (behind (place x) xs y a.0 other))) (from y (inl refl))) (to x (inl refl)) in
    let forth : (o : Owned) → IsAmong xs o → IsAmong ys o = λ o has. ⊎_elim
    (λ (e : o ≡ y). absurd (never_itself (place x) (subst (λ (z : Owned). IsBefore (x.logger, x.index) (z.logger, z.index)) (e ∙ sym same) (behind (place x) xs o a.0 has))))
    (λ more. more) (to o (inr has)) in
    let back : (o : Owned) → IsAmong ys o → IsAmong xs o = λ o has. ⊎_elim
    (λ (e : o ≡ x). absurd (never_itself (place y) (subst (λ (z : Owned). IsBefore (y.logger, y.index) (z.logger, z.index)) (e ∙ same) (behind (place y) ys o b.0 has))))
    (λ more. more) (from o (inr has)) in
    let rest = same_sorted xs ys a.1 b.1 forth back in
    λ i. same i ∷ rest i

join_order : (xs ys : List Owned) → InOrder xs → InOrder ys → ((x y : Owned) → IsAmong xs x → IsAmong ys y → IsBefore (place x) (place y)) → InOrder (xs ++ ys)
join_order [] ys a b cross = b
join_order (x ∷ xs) ys a b cross = (
  all_behind (place x) (xs ++ ys) (λ o has. ⊎_elim (λ front. behind (place x) xs o a.0 front) (λ back. cross x o (inl refl) back) (among_either xs ys o has)),
  join_order xs ys a.1 b (λ p q in_xs in_ys. cross p q (inr in_xs) in_ys),
)

keep_order : (test : Owned → Bool) (os : List Owned) → InOrder os → InOrder (filter test os)
keep_order test [] order = tt
keep_order test (o ∷ os) order = go (test o) (keep_order test os order.1)
  where
    go : (t : Bool) → InOrder (filter test os) → InOrder (cond t (o ∷ filter test os) (filter test os))
    go true rest = (all_behind (place o) (filter test os) (λ x has. behind (place o) os x order.0 (among_filter test os x has).0), rest)
    go false rest = rest

-- ---- Numbers in a row

range_bounds : (from n k : ℕ) → IsAmong (range_with_len from n) k → (from ≤ k) × (k < from + n)
range_bounds from zero k has = absurd has
range_bounds from (suc n) k has = ⊎_elim (λ same. (omega (arith, same), omega (arith, same))) (λ more. let w = range_bounds (from + 1) n k more in let low = w.0 in let high = w.1 in (omega (arith, low), omega (arith, high))) has

pub range_has : (from n k : ℕ) → from ≤ k → k < from + n → IsAmong (range_with_len from n) k
range_has from zero k le lt = absurd (omega (arith, le, lt))
range_has from (suc n) k le lt = ⊎_elim (λ (same : k ≡ from). inl same) (λ (differs : k ≢ from). inr (range_has (from + 1) n k (omega (arith, le, differs)) (omega (arith, lt)))) (cases_eq k from)

shifted : {Y : Type 0} (f : ℕ → List Y) (from n : ℕ) → flat_map f (range_with_len (from + 1) n) ≡ flat_map (λ (k : ℕ). f (suc k)) (range_with_len from n)
shifted f from zero = refl
shifted f from (suc n) = let e : from + 1 ≡ suc from = omega arith in λ i. f (e i) ++ shifted f (from + 1) n i

-- lists in order, one after the other
flat_order : (f : ℕ → List Owned) → ((k : ℕ) → InOrder (f k)) → ((k l : ℕ) (x y : Owned) → k < l → IsAmong (f k) x → IsAmong (f l) y → IsBefore (place x) (place y)) → (from n : ℕ) → InOrder (flat_map f (range_with_len from n))
flat_order f each later from zero = tt
flat_order f each later from (suc n) = join_order (f from) (flat_map f (range_with_len (from + 1) n)) (each from) (flat_order f each later (from + 1) n)
    (λ x y in_x in_y. let w = flat_among f (range_with_len (from + 1) n) y in_y in let b = (range_bounds (from + 1) n w.0 w.1).0 in later from w.0 x y (omega (arith, b)) in_x w.2)

-- ---- All segments of images

abbrev pub segment_at : (k : ℕ) → Shape → List Block → (i : ℕ) → Owned
segment_at k s image i = record { logger = k; index = i; first = head_place s i; blocks = segment_of s image i }

abbrev row : (k : ℕ) → Option Shape → Option (List Block) → List Owned
row k None o = []
row k (Some s) None = []
row k (Some s) (Some image) = flat_map (λ (i : ℕ). segment_at k s image i ∷ []) (range_with_len 0 s.segments)

abbrev pub every : List Shape → Images → List Owned
every shapes images = flat_map (λ (k : ℕ). row k (slice_get shapes k) (image_of images k)) (range_with_len 0 (length shapes))

of_row : (k : ℕ) (s : Shape) (image : List Block) (o : Owned) → IsAmong (row k (Some s) (Some image)) o → (i : ℕ) × (i < s.segments) × (o ≡ segment_at k s image i)
of_row k s image o has =
    let x = flat_among (λ (i : ℕ). segment_at k s image i ∷ []) (range_with_len 0 s.segments) o has in
    let lt = (range_bounds 0 s.segments x.0 x.1).1 in
    (x.0, omega (arith, lt), ⊎_elim (λ e. e) (λ never. absurd never) x.2)

pub stands : (shapes : List Shape) (images : Images) (o : Owned) → IsAmong (every shapes images) o → IsSegmentIn shapes images o
stands shapes images o has =
    let w = flat_among (λ (k : ℕ). row k (slice_get shapes k) (image_of images k)) (range_with_len 0 (length shapes)) o has in
    go w.0 (slice_get shapes w.0) refl (image_of images w.0) refl w.2
  where
    go : (k : ℕ) (s : Option Shape) → slice_get shapes k ≡ s → (i : Option (List Block)) → image_of images k ≡ i → IsAmong (row k s i) o → IsSegmentIn shapes images o
    go k None a i b has_it = absurd has_it
    go k (Some s) a None b has_it = absurd has_it
    go k (Some s) a (Some image) b has_it =
        let x = of_row k s image o has_it in
        let logger = ap (λ (p : Owned). p.logger) x.2 in
        let index = ap (λ (p : Owned). p.index) x.2 in
        let lt = x.1 in
        record {
          image = image;
          shape = s;
          there = ap (image_of images) logger ∙ b;
          shape_is = ap (slice_get shapes) logger ∙ a;
          within = omega (arith, lt, index);
          blocks_are = ap (λ (p : Owned). p.blocks) x.2 ∙ ap (segment_of s image) (sym index);
          first_is = ap (λ (p : Owned). p.first) x.2 ∙ ap (head_place s) (sym index);
        }

pub found : (shapes : List Shape) (images : Images) (k i : ℕ) (s : Shape) (image : List Block) → slice_get shapes k ≡ Some s → image_of images k ≡ Some image → i < s.segments → IsAmong (every shapes images) (segment_at k s image i)
found shapes images k i s image at there lt =
    let within = slice_get_within shapes k s at in
    among_flat (λ (j : ℕ). row j (slice_get shapes j) (image_of images j)) (range_with_len 0 (length shapes)) k (segment_at k s image i) (range_has 0 (length shapes) k (omega arith) (omega (arith, within)))
    (subst (λ (p : Option Shape × Option (List Block)). IsAmong (row k p.0 p.1) (segment_at k s image i)) (λ j. (sym at j, sym there j))
    (among_flat (λ (j : ℕ). segment_at k s image j ∷ []) (range_with_len 0 s.segments) i (segment_at k s image i) (range_has 0 s.segments i (omega arith) (omega (arith, lt))) (inl refl)))

pub ordered : (shapes : List Shape) (images : Images) → InOrder (every shapes images)
ordered shapes images = flat_order (λ (k : ℕ). row k (slice_get shapes k) (image_of images k)) (λ k. row_order k (slice_get shapes k) (image_of images k))
    (λ k l x y less in_x in_y. let a = of_logger k (slice_get shapes k) (image_of images k) x in_x in let b = of_logger l (slice_get shapes l) (image_of images l) y in_y in inl (omega (arith, less, a, b)))
    0 (length shapes)
  where
    row_order : (k : ℕ) (s : Option Shape) (o : Option (List Block)) → InOrder (row k s o)
    row_order k None o = tt
    row_order k (Some s) None = tt
    row_order k (Some s) (Some image) = flat_order (λ (i : ℕ). segment_at k s image i ∷ []) (λ i. (tt, tt)) (λ i j x y less in_x in_y. inr (two i j x y less in_x in_y)) 0 s.segments
      where
        two : (i j : ℕ) (x y : Owned) → i < j → IsAmong (segment_at k s image i ∷ []) x → IsAmong (segment_at k s image j ∷ []) y → (x.logger ≡ y.logger) × (x.index < y.index)
        two i j x y less in_x in_y =
            let a : x ≡ segment_at k s image i = ⊎_elim (λ e. e) (λ never. absurd never) in_x in
            let b : y ≡ segment_at k s image j = ⊎_elim (λ e. e) (λ never. absurd never) in_y in
            let p = ap (λ (o : Owned). o.index) a in
            let q = ap (λ (o : Owned). o.index) b in
            (ap (λ (o : Owned). o.logger) a ∙ sym (ap (λ (o : Owned). o.logger) b), omega (arith, less, p, q))

    of_logger : (k : ℕ) (s : Option Shape) (o : Option (List Block)) (x : Owned) → IsAmong (row k s o) x → x.logger ≡ k
    of_logger k None o x has = absurd has
    of_logger k (Some s) None x has = absurd has
    of_logger k (Some s) (Some image) x has = ap (λ (y : Owned). y.logger) (of_row k s image x has).2

-- ---- They have the blocks of all

abbrev pub blocks_of : List Owned → List (List Block)
blocks_of os = map (λ (o : Owned). o.blocks) os

abbrev segments_at : Option Shape → Option (List Block) → List (List Block)
segments_at None o = []
segments_at (Some s) o = segments_of s o

none_without : (shapes : List Shape) → all_segments shapes [] ≡ []
none_without [] = refl
none_without (s ∷ shapes) = refl

by_number : (shapes : List Shape) (images : Images) → all_segments shapes images ≡ flat_map (λ (k : ℕ). segments_at (slice_get shapes k) (image_of images k)) (range_with_len 0 (length shapes))
by_number [] images = refl
by_number (s ∷ shapes) [] = sym (none_without shapes) ∙ by_number shapes [] ∙ sym (shifted (λ (k : ℕ). segments_at (slice_get (s ∷ shapes) k) (image_of [] k)) 0 (length shapes))
by_number (s ∷ shapes) (o ∷ images) = ap (λ (l : List (List Block)). segments_of s o ++ l) (by_number shapes images ∙ sym (shifted (λ (k : ℕ). segments_at (slice_get (s ∷ shapes) k) (image_of (o ∷ images) k)) 0 (length shapes)))

map_flat : (f : ℕ → List Owned) (ks : List ℕ) → blocks_of (flat_map f ks) ≡ flat_map (λ (k : ℕ). blocks_of (f k)) ks
map_flat f [] = refl
map_flat f (k ∷ ks) = map-append (λ (o : Owned). o.blocks) (f k) (flat_map f ks) ∙ ap (λ (l : List (List Block)). blocks_of (f k) ++ l) (map_flat f ks)

pub every_blocks : (shapes : List Shape) (images : Images) → ((k : ℕ) (t : Shape) (i : List Block) → slice_get shapes k ≡ Some t → image_of images k ≡ Some i → length i ≡ image_size t) → blocks_of (every shapes images) ≡ all_segments shapes images
every_blocks shapes images sized =
    map_flat (λ (k : ℕ). row k (slice_get shapes k) (image_of images k)) (range_with_len 0 (length shapes))
    ∙ ap (λ (f : ℕ → List (List Block)). flat_map f (range_with_len 0 (length shapes))) (λ i k. of_number k (slice_get shapes k) (image_of images k) (λ t image at there. sized k t image at there) i)
    ∙ sym (by_number shapes images)
  where
    of_number : (k : ℕ) (s : Option Shape) (o : Option (List Block)) → ((t : Shape) (image : List Block) → s ≡ Some t → o ≡ Some image → length image ≡ image_size t) → blocks_of (row k s o) ≡ segments_at s o
    of_number k None o size = refl
    of_number k (Some s) None size = refl
    of_number k (Some s) (Some image) size =
        map_flat (λ (i : ℕ). segment_at k s image i ∷ []) (range_with_len 0 s.segments) ∙ flat_map_single (segment_of s image) (range_with_len 0 s.segments)
        ∙ sym (ap (λ (t : Bool). cond t (map (segment_of s image) (range_with_len 0 s.segments)) []) (eq-eqb (length image) (image_size s) (size s image refl refl)))

-- ---- The owned ones

-- its first block says that it is the volume's
abbrev says : (v : ℕ) → List Block → Bool
says v [] = false
says v (b ∷ bs) = bytes_eq b (owned_block v)

says_so : (v : ℕ) (bs : List Block) → says v bs ≡ true → (rest : List Block) × (bs ≡ owned_block v ∷ rest)
says_so v [] is = absurd (cc is)
says_so v (b ∷ bs) is = (bs, λ i. same_from b (owned_block v) is i ∷ bs)

says_of : (v : ℕ) (bs rest : List Block) → bs ≡ owned_block v ∷ rest → says v bs ≡ true
says_of v bs rest is = ap (says v) is ∙ same_bytes (owned_block v)

and_false : (t : Bool) → (t && false) ≡ false
and_false true = refl
and_false false = refl

says_nothing : (v : ℕ) (bs : List Block) → says v bs ≡ false → extents_in v bs ≡ []
unfolding extents_in read_log
says_nothing v [] is = refl
says_nothing v (b ∷ bs) is = ap records (ap (λ (t : Bool). ltb v (2 ^ 32) && t) is ∙ and_false (ltb v (2 ^ 32)))
  where
    records : Bool → List Extent
    records t = map extent_of (unwrap_or (cond t (read_records v 0 bs) None) [])

module _ (v : ℕ) where
  says_owned : Owned → Bool
  says_owned o = says v o.blocks

  kept_extents : (os : List Owned) → extents_of v (blocks_of os) ≡ extents_of v (blocks_of (filter says_owned os))
  unfolding says_owned
  kept_extents [] = refl
  kept_extents (o ∷ os) = go (says v o.blocks) refl (kept_extents os)
    where
      go : (t : Bool) → says v o.blocks ≡ t → extents_of v (blocks_of os) ≡ extents_of v (blocks_of (filter says_owned os)) → extents_in v o.blocks ++ extents_of v (blocks_of os) ≡ extents_of v (blocks_of (cond t (o ∷ filter says_owned os) (filter says_owned os)))
      go true is rest = ap (λ (l : List Extent). extents_in v o.blocks ++ l) rest
      go false is rest = ap (λ (l : List Extent). l ++ extents_of v (blocks_of os)) (says_nothing v o.blocks is) ∙ rest

  are_listed : (shapes : List Shape) (images : Images) (os : List Owned) → AreOwnedIn shapes images v os → os ≡ filter says_owned (every shapes images)
  unfolding says_owned
  are_listed shapes images os are = same_sorted os (filter says_owned (every shapes images)) are.in_order (keep_order says_owned (every shapes images) (ordered shapes images))
      (λ o has. listed o (All-contains (IsOwnedIn shapes images v) os o are.each (contains_among os o has)))
      (λ o has. let w = among_filter says_owned (every shapes images) o has in among_contains os o (are.all o (owned o (stands shapes images o w.0) w.1)))
    where
      owned : (o : Owned) → IsSegmentIn shapes images o → says v o.blocks ≡ true → IsOwnedIn shapes images v o
      owned o is so =
          let owner = says_so v o.blocks so in
          record { segment = is; rest = owner.0; owner = owner.1 }

      listed : (o : Owned) → IsOwnedIn shapes images v o → IsAmong (filter says_owned (every shapes images)) o
      listed o is =
          let s = is.segment in
          let there = found shapes images o.logger o.index s.shape s.image s.shape_is s.there s.within in
          let same : segment_at o.logger s.shape s.image o.index ≡ o = λ i. record { logger = o.logger; index = o.index; first = sym s.first_is i; blocks = sym s.blocks_are i } in
          filter_among says_owned (every shapes images) o (subst (λ (x : Owned). IsAmong (every shapes images) x) same there) (says_of v o.blocks is.rest is.owner)

-- the extents of all segments are those of the owned ones
pub extents_owned : (shapes : List Shape) (images : Images) (v : ℕ) (os : List Owned)
    → ((k : ℕ) (t : Shape) (i : List Block) → slice_get shapes k ≡ Some t → image_of images k ≡ Some i → length i ≡ image_size t)
    → AreOwnedIn shapes images v os → extents_of v (all_segments shapes images) ≡ extents_of v (map (λ (o : Owned). o.blocks) os)
extents_owned shapes images v os each are =
    ap (extents_of v) (sym (every_blocks shapes images each)) ∙ kept_extents v (every shapes images) ∙ ap (λ (l : List Owned). extents_of v (map (λ (o : Owned). o.blocks) l)) (sym (are_listed v shapes images os are))

-- what a volume recovers to is what its home and the segments that it owns do
pub recovered_owned : (shapes : List Shape) (images : Images) (v : ℕ) (s : Shape) (image : List Block) (os : List Owned)
    → ((k : ℕ) (t : Shape) (i : List Block) → slice_get shapes k ≡ Some t → image_of images k ≡ Some i → length i ≡ image_size t)
    → slice_get shapes v ≡ Some s → image_of images v ≡ Some image → AreOwnedIn shapes images v os
    → recovered_from shapes images v ≡ recovered v (home_of s image) (map (λ (o : Owned). o.blocks) os)
unfolding recovered_from recovered
recovered_owned shapes images v s image os each shape_is there are =
    λ i. with_extents (home_in (shape_is i) (there i)) (extents_owned shapes images v os each are i)
