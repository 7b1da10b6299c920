-- The segments that a volume has, in any order, give the same extents as all segments in theirs.
use Rattle.rack.proofs.ClosingBasics.{◌≡◌, ◌≢◌, ◌⊎◌, inl, inr, ⊎_elim, ◌<◌, ℕ, List, [], ◌∷◌, ◌++◌, map, Some, refl, sym, ap, subst, ◌∙◌, length, slice_get, All, ⊤, AllByRecursion, flat_map}
use Rattle.rack.proofs.ClosingBasics.{flat_map-append, All-from_recursion, All-contains}
use Rattle.rack.proofs.ClosingTerms.{Block, IsAmong, Shape, AreDistinct, Cover, Extent, covers_of, with_extents, IsValid, Images, image_of, image_size, segment_of, all_segments, extents_in}
use Rattle.rack.proofs.ClosingTerms.{extents_of, IsBefore}
use Rattle.manager_recovery.specs.Owned.{Owned}
use Rattle.wol_promise.proofs.Lists.{all_insert, all_mapped}
use Rattle.manager_recovery.proofs.SameNewest.{same_array}
use Rattle.std.proofs.lemmas.List.Folds.{flat_map-map}
use Rattle.manager_recovery.proofs.ByLogger.{all_among, all_from, among_map, map_among, contains_among}
use Rattle.rack.proofs.OwnedSegments.{InOrder, place, behind, every, every_blocks, found, never_itself, ordered, segment_at, stands}

-- ---- The same elements in another order

pub data Shuffled {X : Type 0} : List X → List X → Type 0 where
  none : Shuffled [] []
  insert : (x : X) (xs front back : List X) → Shuffled xs (front ++ back) → Shuffled (x ∷ xs) (front ++ x ∷ back)

module _ {X : Type 0} where
  pub all_shuffled : (P : X → Type 0) (xs ys : List X) → Shuffled xs ys → AllByRecursion P xs → AllByRecursion P ys
  all_shuffled P [] ys none all = tt
  all_shuffled P (x ∷ xs) ys (insert _ _ front back rest) all = all_insert P front x back all.0 (all_shuffled P xs (front ++ back) rest all.1)

  among_insert : (front : List X) (x : X) (back : List X) (y : X) → IsAmong (front ++ back) y → IsAmong (front ++ x ∷ back) y
  among_insert [] x back y has = inr has
  among_insert (z ∷ front) x back y has = ⊎_elim (λ same. inl same) (λ more. inr (among_insert front x back y more)) has

  among_middle : (front : List X) (x : X) (back : List X) → IsAmong (front ++ x ∷ back) x
  among_middle [] x back = inl refl
  among_middle (z ∷ front) x back = inr (among_middle front x back)

  -- one among these is that in the middle, or another
  among_split : (front : List X) (x : X) (back : List X) (y : X) → IsAmong (front ++ x ∷ back) y → (y ≡ x) ⊎ IsAmong (front ++ back) y
  among_split [] x back y has = has
  among_split (z ∷ front) x back y has = ⊎_elim (λ same. inr (inl same)) (λ more. ⊎_elim (λ same. inl same) (λ other. inr (inr other)) (among_split front x back y more)) has

  pub shuffled_to : (xs ys : List X) → Shuffled xs ys → (y : X) → IsAmong xs y → IsAmong ys y
  shuffled_to [] ys none y has = absurd has
  shuffled_to (x ∷ xs) ys (insert _ _ front back rest) y has =
      ⊎_elim (λ same. subst (λ (z : X). IsAmong (front ++ x ∷ back) z) (sym same) (among_middle front x back)) (λ more. among_insert front x back y (shuffled_to xs (front ++ back) rest y more)) has

  pub shuffled_from : (xs ys : List X) → Shuffled xs ys → (y : X) → IsAmong ys y → IsAmong xs y
  shuffled_from [] ys none y has = absurd has
  shuffled_from (x ∷ xs) ys (insert _ _ front back rest) y has = ⊎_elim (λ same. inl same) (λ more. inr (shuffled_from xs (front ++ back) rest y more)) (among_split front x back y has)

  -- some elements more, in one row
  insert_row : (row xs front back : List X) → Shuffled xs (front ++ back) → Shuffled (row ++ xs) (front ++ (row ++ back))
  insert_row [] xs front back rest = rest
  insert_row (y ∷ row) xs front back rest = insert y (row ++ xs) front (row ++ back) (insert_row row xs front back rest)

-- ---- Extents

pub unmapped : {X Y : Type 0} (P : Y → Type 0) (f : X → Y) (xs : List X) → AllByRecursion P (map f xs) → AllByRecursion (λ x. P (f x)) xs
unmapped P f [] all = tt
unmapped P f (x ∷ xs) all = (all.0, unmapped P f xs all.1)

distinct_insert : (front : List Extent) (x : Extent) (back : List Extent) → AllByRecursion (λ (d : Extent). IsValid x.cover → IsValid d.cover → x.cover.version ≢ d.cover.version) (front ++ back)
    → AreDistinct (covers_of (front ++ back)) → AreDistinct (covers_of (front ++ x ∷ back))
distinct_insert [] x back apart all = (all_mapped (λ (d : Cover). IsValid x.cover → IsValid d → x.cover.version ≢ d.version) (λ (e : Extent). e.cover) back apart, all)
distinct_insert (y ∷ front) x back apart all = (
  all_mapped (λ (d : Cover). IsValid y.cover → IsValid d → y.cover.version ≢ d.version) (λ (e : Extent). e.cover) (front ++ x ∷ back)
      (all_insert (λ (e : Extent). IsValid y.cover → IsValid e.cover → y.cover.version ≢ e.cover.version) front x back (λ vy vx same. apart.0 vx vy (sym same))
      (unmapped (λ (d : Cover). IsValid y.cover → IsValid d → y.cover.version ≢ d.version) (λ (e : Extent). e.cover) (front ++ back) all.0)),
  distinct_insert front x back apart.1 all.1,
)

pub shuffled_distinct : (rs ss : List Extent) → Shuffled rs ss → AreDistinct (covers_of rs) → AreDistinct (covers_of ss)
shuffled_distinct [] ss none distinct = tt
shuffled_distinct (r ∷ rs) ss (insert _ _ front back rest) distinct =
    distinct_insert front r back
    (all_shuffled (λ (d : Extent). IsValid r.cover → IsValid d.cover → r.cover.version ≢ d.cover.version) rs (front ++ back) rest
    (unmapped (λ (d : Cover). IsValid r.cover → IsValid d → r.cover.version ≢ d.version) (λ (e : Extent). e.cover) rs distinct.0))
    (shuffled_distinct rs (front ++ back) rest distinct.1)

-- of distinct ones two valid ones with one version are one
pub once : (rs : List Extent) → AreDistinct (covers_of rs) → (x y : Extent) → IsAmong rs x → IsAmong rs y → IsValid x.cover → IsValid y.cover → x.cover.version ≡ y.cover.version → x ≡ y
once [] distinct x y has other vx vy same = absurd has
once (r ∷ rs) distinct x y has other vx vy same =
    let apart = unmapped (λ (d : Cover). IsValid r.cover → IsValid d → r.cover.version ≢ d.version) (λ (e : Extent). e.cover) rs distinct.0 in
    ⊎_elim
    (λ (is_x : x ≡ r). ⊎_elim (λ (is_y : y ≡ r). is_x ∙ sym is_y)
    (λ more. absurd (all_among (λ (e : Extent). IsValid r.cover → IsValid e.cover → r.cover.version ≢ e.cover.version) rs y apart more (subst (λ (e : Extent). IsValid e.cover) is_x vx) vy (ap (λ (e : Extent). e.cover.version) (sym is_x) ∙ same))) other)
    (λ more. ⊎_elim
    (λ (is_y : y ≡ r). absurd (all_among (λ (e : Extent). IsValid r.cover → IsValid e.cover → r.cover.version ≢ e.cover.version) rs x apart more (subst (λ (e : Extent). IsValid e.cover) is_y vy) vx (ap (λ (e : Extent). e.cover.version) (sym is_y) ∙ sym same)))
    (λ too. once rs distinct.1 x y more too vx vy same) other) has

-- where no two valid ones have one version the order doesn't matter to the array
pub shuffled_same : (home : List Block) (rs ss : List Extent) → Shuffled rs ss → AreDistinct (covers_of rs) → with_extents home rs ≡ with_extents home ss
shuffled_same home rs ss shuffled distinct =
    same_array rs ss (λ x has valid. shuffled_to rs ss shuffled x has) (λ y has valid. shuffled_from rs ss shuffled y has) (once ss (shuffled_distinct rs ss shuffled distinct)) home

-- ---- Segments with their places

abbrev pub Placed : Type 0
Placed = (ℕ × ℕ) × List Block

-- no two have one place
abbrev pub AreApartPlaced : List Placed → Type 0
AreApartPlaced [] = ⊤
AreApartPlaced (h ∷ hs) = AllByRecursion (λ (g : Placed). h.0 ≢ g.0) hs × AreApartPlaced hs

-- Segments of these images with their places, which are those of a volume: of no other has it an extent.
pub record AreThese (shapes : List Shape) (images : Images) (v : ℕ) (held : List Placed) : Type 0 where
  pub sized : (k : ℕ) (s : Shape) (c : List Block) → slice_get shapes k ≡ Some s → image_of images k ≡ Some c → length c ≡ image_size s
  pub there : All (λ (h : Placed). (s : Shape) × (c : List Block) × (slice_get shapes h.0.0 ≡ Some s) × (image_of images h.0.0 ≡ Some c) × (h.0.1 < s.segments) × (h.1 ≡ segment_of s c h.0.1)) held
  pub apart : AreApartPlaced held
  pub others : (k i : ℕ) (s : Shape) (c : List Block) → slice_get shapes k ≡ Some s → image_of images k ≡ Some c → i < s.segments → All (λ (h : Placed). h.0 ≢ (k, i)) held → extents_in v (segment_of s c i) ≡ []

module _ (v : ℕ) where
  abbrev extents_at : List Placed → List Extent
  extents_at hs = flat_map (λ (h : Placed). extents_in v h.1) hs

  joined : (xs ys : List Placed) → extents_at (xs ++ ys) ≡ extents_at xs ++ extents_at ys
  joined xs ys = flat_map-append (λ (h : Placed). extents_in v h.1) xs ys

  nothing : (es : List Placed) → ((e : Placed) → IsAmong es e → extents_in v e.1 ≡ []) → extents_at es ≡ []
  nothing [] all = refl
  nothing (e ∷ es) all = (λ i. all e (inl refl) i ++ nothing es (λ d has. all d (inr has)) i)

  pub record Split (es : List Placed) (h : Placed) : Type 0 where
    front : List Placed
    back : List Placed
    is : es ≡ front ++ h ∷ back

  split : (es : List Placed) (h : Placed) → IsAmong es h → Split es h
  split [] h has = absurd has
  split (e ∷ es) h has = ⊎_elim (λ same. record { front = []; back = es; is = ap (λ (d : Placed). d ∷ es) (sym same) })
      (λ more. let rest = split es h more in record { front = e ∷ rest.front; back = rest.back; is = ap (λ (l : List Placed). e ∷ l) rest.is }) has

  -- the places of the others, where one stands in the middle
  others_apart : (front : List Placed) (h : Placed) (back : List Placed) → AreApartPlaced (front ++ h ∷ back) → (e : Placed) → IsAmong (front ++ back) e → e.0 ≢ h.0
  others_apart [] h back apart e has same = all_among (λ (g : Placed). h.0 ≢ g.0) back e apart.0 has (sym same)
  others_apart (f ∷ front) h back apart e has same = ⊎_elim
      (λ is. all_among (λ (g : Placed). f.0 ≢ g.0) (front ++ h ∷ back) h apart.0 (among_middle front h back) (ap (λ (g : Placed). g.0) (sym is) ∙ same))
      (λ more. others_apart front h back apart.1 e more same) has

  without : (front : List Placed) (h : Placed) (back : List Placed) → AreApartPlaced (front ++ h ∷ back) → AreApartPlaced (front ++ back)
  without [] h back apart = apart.1
  without (f ∷ front) h back apart = (drop_one front h back apart.0, without front h back apart.1)
    where
      drop_one : (xs : List Placed) (d : Placed) (ys : List Placed) → AllByRecursion (λ (g : Placed). f.0 ≢ g.0) (xs ++ d ∷ ys) → AllByRecursion (λ (g : Placed). f.0 ≢ g.0) (xs ++ ys)
      drop_one [] d ys all = all.1
      drop_one (x ∷ xs) d ys all = (all.0, drop_one xs d ys all.1)

  -- what is none of these is nothing
  gathered : (hs es : List Placed) → ((h : Placed) → IsAmong hs h → IsAmong es h) → AreApartPlaced hs → AreApartPlaced es
      → ((e : Placed) → IsAmong es e → AllByRecursion (λ (h : Placed). h.0 ≢ e.0) hs → extents_in v e.1 ≡ []) → Shuffled (extents_at hs) (extents_at es)
  gathered [] es within apart alone else_ = subst (λ (l : List Extent). Shuffled [] l) (sym (nothing es (λ e has. else_ e has tt))) none
  gathered (h ∷ hs) es within apart alone else_ =
      let at = split es h (within h (inl refl)) in
      let alone' : AreApartPlaced (at.front ++ h ∷ at.back) = subst AreApartPlaced at.is alone in
      let rest_within : (g : Placed) → IsAmong hs g → IsAmong (at.front ++ at.back) g
      = λ g has. ⊎_elim (λ same. absurd (first_apart g has (ap (λ (d : Placed). d.0) (sym same)))) (λ more. more) (among_split at.front h at.back g (subst (λ (l : List Placed). IsAmong l g) at.is (within g (inr has)))) in
      let rest = gathered hs (at.front ++ at.back) rest_within apart.1 (without at.front h at.back alone')
      (λ e has all. else_ e (subst (λ (l : List Placed). IsAmong l e) (sym at.is) (among_insert at.front h at.back e has)) ((λ same. others_apart at.front h at.back alone' e has (sym same)), all)) in
      subst (λ (l : List Extent). Shuffled (extents_in v h.1 ++ extents_at hs) l) (sym (ap extents_at at.is ∙ joined at.front (h ∷ at.back)))
      (insert_row (extents_in v h.1) (extents_at hs) (extents_at at.front) (extents_at at.back) (subst (λ (l : List Extent). Shuffled (extents_at hs) l) (joined at.front at.back) rest))
    where
      first_apart : (g : Placed) → IsAmong hs g → h.0 ≢ g.0
      first_apart g has = all_among (λ (x : Placed). h.0 ≢ x.0) hs g apart.0 has

-- ---- All segments of images

abbrev placed : Owned → Placed
placed o = ((o.logger, o.index), o.blocks)

order_apart : (os : List Owned) → InOrder os → AreApartPlaced (map placed os)
order_apart [] order = tt
order_apart (x ∷ os) order = (
  all_from (λ (g : Placed). (x.logger, x.index) ≢ g.0) (map placed os) (λ g has same.
      let w = map_among placed os g has in
      never_itself (place x) (subst (IsBefore (place x)) (sym (same ∙ ap (λ (h : Placed). h.0) w.2)) (behind (place x) os w.0 order.0 w.1))),
  order_apart os order.1,
)

-- the volume's segments, in any order, have the extents of all segments in theirs
pub same_extents : (shapes : List Shape) (images : Images) (v : ℕ) (held : List Placed) → AreThese shapes images v held
    → Shuffled (extents_of v (map (λ (h : Placed). h.1) held)) (extents_of v (all_segments shapes images))
same_extents shapes images v held are =
    let all : flat_map (λ (h : Placed). extents_in v h.1) (map placed os) ≡ extents_of v (all_segments shapes images)
    = flat_map-map (λ (h : Placed). extents_in v h.1) placed os ∙ sym (flat_map-map (extents_in v) (λ (o : Owned). o.blocks) os) ∙ ap (extents_of v) (every_blocks shapes images are.sized) in
    subst (λ (p : List Extent × List Extent). Shuffled p.0 p.1) (λ i. (sym (flat_map-map (extents_in v) (λ (h : Placed). h.1) held) i, all i))
    (gathered v held (map placed os) within are.apart (order_apart os (ordered shapes images)) rest)
  where
    os : List Owned
    os = every shapes images

    within : (h : Placed) → IsAmong held h → IsAmong (map placed os) h
    within h has =
        let w = All-contains (λ (g : Placed). (s : Shape) × (c : List Block) × (slice_get shapes g.0.0 ≡ Some s) × (image_of images g.0.0 ≡ Some c) × (g.0.1 < s.segments) × (g.1 ≡ segment_of s c g.0.1)) held h are.there (contains_among held h has) in
        let here = among_map placed os (segment_at h.0.0 w.0 w.1 h.0.1) (found shapes images h.0.0 h.0.1 w.0 w.1 w.2 w.3 w.4) in
        subst (λ (bs : List Block). IsAmong (map placed os) (h.0, bs)) (sym w.5) here

    rest : (e : Placed) → IsAmong (map placed os) e → AllByRecursion (λ (h : Placed). h.0 ≢ e.0) held → extents_in v e.1 ≡ []
    rest e has apart =
        let from = map_among placed os e has in
        let is = stands shapes images from.0 from.1 in
        let none_here = subst (λ (g : Placed). All (λ (h : Placed). h.0 ≢ g.0) held) from.2 (All-from_recursion (λ (h : Placed). h.0 ≢ e.0) held apart) in
        ap (λ (g : Placed). extents_in v g.1) from.2 ∙ ap (extents_in v) is.blocks_are ∙ are.others from.0.logger from.0.index is.shape is.image is.shape_is is.there is.within none_here
