-- Images whose fronts are those of sound ones, and whose segments are sound where theirs are, are sound.
use Rattle.rack.proofs.ClosingBasics.{◌≡◌, ◌⊎◌, inl, inr, ℕ, zero, suc, ◌+◌, ◌-◌, ◌<◌, ◌≤◌, List, [], ◌∷◌, map, length, take, Some, refl, sym, ap, ◌∙◌, subst, arith, ◌≢◌, ◌++◌, ⊎_elim, slice_get}
use Rattle.rack.proofs.ClosingBasics.{slice_range, Contains, AllByRecursion, range_with_len, cases_eq, none-some, same_Some, Option, ◌^◌}
use Rattle.rack.proofs.ClosingTerms.{Block, State, Values, IsImage, reads, image_reads, Image, Told, at_name, AreDistinct, covers_of, Extent, Cover, IsValid, Shape, owned_block, Owned, Images}
use Rattle.rack.proofs.ClosingTerms.{image_of, segment_of, segments_of, IsSoundSegment, IsSoundImage, AreSound, all_segments, idle, log, extents_in, extents_of, Record, IsIdle, IsLog, extent_of}
use Rattle.rack.proofs.ClosingTerms.{idle_none, log_read, one_segment_head, Config, VolumeConf, IsKeptOrIdle, Station, HasNothing, head_place, shape_in, ComesFrom, from_here, from_pool}
use Rattle.rack.proofs.ClosingTerms.{from_manager, IsLogOfStation, BeganWith, base_of_station, IsSegmentHere, Rack, Spun, Keeps, shapes_of, image_here, ImageRest}
use Rattle.wol_model.proofs.Images.{kept as log_extents}
use Rattle.wol_promise.proofs.LogWrites.{says_owner}
use Rattle.rack.proofs.KeptImages.{AreTwo, two_go}
pub use Rattle.rack.proofs.SameRecovered.{segments_are}
use Rattle.rack.proofs.SameRecovered.{ImagesGo, same_extents, images_go, image_goes, KeepsNothing, SegmentsKeep, keeping, none_keeps, nothing_same, idle_keeps, bare_keeps, gone_keeps}
use Rattle.rack.proofs.CutParts.{reads_range}
use Rattle.rack.proofs.HeldSegments.{not_of_other, not_idle}

pub rows_pass : (P Q : List Block → Type 0) (s : Shape) (c d : List Block) (from count : ℕ) → ((i : ℕ) → from ≤ i → i < from + count → P (segment_of s d i) → Q (segment_of s c i))
    → AllByRecursion P (map (segment_of s d) (range_with_len from count)) → AllByRecursion Q (map (segment_of s c) (range_with_len from count))
rows_pass P Q s c d from zero each all = tt
rows_pass P Q s c d from (suc count) each all =
    (each from (omega arith) (omega arith) all.0, rows_pass P Q s c d (from + 1) count (λ i le lt. each i (omega (arith, le)) (omega (arith, lt))) all.1)

-- an element of a front
pub at_front : (n i : ℕ) (c : List Block) → i < n → slice_get (slice_range c 0 n) i ≡ slice_get c i
at_front n i c lt = let all : n - 0 ≡ n = omega arith in ap (λ (m : ℕ). slice_get (take m c) i) all ∙ go n i c lt
  where
    go : (n i : ℕ) (c : List Block) → i < n → slice_get (take n c) i ≡ slice_get c i
    go zero i c lt = absurd (omega (arith, lt))
    go (suc n) i [] lt = refl
    go (suc n) zero (x ∷ c) lt = refl
    go (suc n) (suc i) (x ∷ c) lt = go n i c (omega (arith, lt))

pub image_some : (images : Images) (k : ℕ) (c : List Block) → image_of images k ≡ Some c → slice_get images k ≡ Some (Some c)
image_some [] k c is = absurd (none-some c is)
image_some (o ∷ images) zero c is = ap Some is
image_some (o ∷ images) (suc k) c is = image_some images k c is

pub some_image : (images : Images) (k : ℕ) (c : List Block) → slice_get images k ≡ Some (Some c) → image_of images k ≡ Some c
some_image [] k c is = absurd (none-some (Some c) is)
some_image (o ∷ images) zero c is = same_Some o (Some c) is
some_image (o ∷ images) (suc k) c is = some_image images k c is

-- each image is the same as one that was, or goes with it; label and view are the same
module _ (Fronts : (k : ℕ) → (now was : List Block) → Type 0) (Keeps : (k : ℕ) → (now was : List Block) → Type 0) (shapes : List Shape) (images before : Images)
    (each : (k : ℕ) (s : Shape) → slice_get shapes k ≡ Some s → (image_of before k ≡ image_of images k) ⊎ AreTwo (Fronts k) (Keeps k) s (image_of images k) (image_of before k))
    (fronts : (k i : ℕ) (now was : List Block) → Fronts k now was → i < 2 → slice_get was i ≡ slice_get now i) where
  -- they are sound where those were, if their segments are, and no two records have one version
  pub sound_with : (are : AreSound shapes before) → ((k : ℕ) (c d : List Block) → Keeps k c d → IsSoundSegment shapes are.views k d → IsSoundSegment shapes are.views k c)
      → ((v : ℕ) → v < length shapes → AreDistinct (covers_of (extents_of v (all_segments shapes images)))) → AreSound shapes images
  sound_with are sound distinct = record {
    views = are.views;
    each = λ v s at. let was = are.each v s at in image_at v s was.0 was.1 (some_image before v was.0 was.2) was.3 was.4 (each v s at);
    distinct = distinct;
  }
    where
      two_sound : (k : ℕ) (s : Shape) (ids : List ℕ) (two : AreTwo (Fronts k) (Keeps k) s (image_of images k) (image_of before k)) → IsSoundImage shapes are.views k s ids two.go.was → IsSoundImage shapes are.views k s ids two.go.now
      two_sound k s ids two is = record {
        sized = two.go.now_sized;
        label = (is.label.0, same_at 0 (omega arith) ∙ is.label.1, is.label.2);
        view = (is.view.0, same_at 1 (omega arith) ∙ is.view.1, is.view.2, is.view.3);
        segments = subst (λ (l : List (List Block)). AllByRecursion (IsSoundSegment shapes are.views k) l) (sym (segments_are s two.go.now two.go.now_sized))
            (rows_pass (IsSoundSegment shapes are.views k) (IsSoundSegment shapes are.views k) s two.go.now two.go.was 0 s.segments
            (λ i le lt. sound k (segment_of s two.go.now i) (segment_of s two.go.was i) (two.go.segments i (omega (arith, lt))))
            (subst (λ (l : List (List Block)). AllByRecursion (IsSoundSegment shapes are.views k) l) (segments_are s two.go.was two.go.was_sized) is.segments));
      }
        where
          same_at : (i : ℕ) → i < 2 → slice_get two.go.now i ≡ slice_get two.go.was i
          same_at i lt =
              sym (at_front (2 + s.home) i two.go.now (omega (arith, lt)))
              ∙ sym (fronts k i (slice_range two.go.now 0 (2 + s.home)) (slice_range two.go.was 0 (2 + s.home)) two.front lt)
              ∙ at_front (2 + s.home) i two.go.was (omega (arith, lt))

      image_at : (v : ℕ) (s : Shape) (was : List Block) (ids : List ℕ) → image_of before v ≡ Some was → slice_get are.views v ≡ Some ids → IsSoundImage shapes are.views v s ids was
          → (image_of before v ≡ image_of images v) ⊎ AreTwo (Fronts v) (Keeps v) s (image_of images v) (image_of before v)
          → (image : List Block) × (ids : List ℕ) × (slice_get images v ≡ Some (Some image)) × (slice_get are.views v ≡ Some ids) × IsSoundImage shapes are.views v s ids image
      image_at v s was ids is view was_sound (inl same) = (was, ids, image_some images v was (sym same ∙ is), view, was_sound)
      image_at v s was ids is view was_sound (inr two) =
          (two.go.now, ids, image_some images v two.go.now two.go.now_is, view, two_sound v s ids two (subst (λ (c : List Block). IsSoundImage shapes are.views v s ids c) (same_Some was two.go.was (sym is ∙ two.go.was_is)) was_sound))

pub sound_before : (Fronts : (k : ℕ) → (now was : List Block) → Type 0) (Keeps : (k : ℕ) → (now was : List Block) → Type 0) (shapes : List Shape) (images before : Images) (count : length images ≡ length before)
    (each : (k : ℕ) (s : Shape) → slice_get shapes k ≡ Some s → (image_of before k ≡ image_of images k) ⊎ AreTwo (Fronts k) (Keeps k) s (image_of images k) (image_of before k))
    (fronts : (k i : ℕ) (now was : List Block) → Fronts k now was → i < 2 → slice_get was i ≡ slice_get now i)
    (extents : (v k : ℕ) (c d : List Block) → Keeps k c d → extents_in v c ≡ extents_in v d)
    (sound : (views : List (List ℕ)) (k : ℕ) (c d : List Block) → Keeps k c d → IsSoundSegment shapes views k d → IsSoundSegment shapes views k c) → AreSound shapes before → AreSound shapes images
sound_before Fronts Keeps shapes images before count each fronts extents sound are = sound_with Fronts Keeps shapes images before each fronts are (sound are.views)
    (λ v lt. subst (λ es. AreDistinct (covers_of es)) (sym (same_extents v shapes images before count (λ k s at below. goes v k s at (each k s at)))) (are.distinct v lt))
  where
    goes : (v k : ℕ) (s : Shape) → slice_get shapes k ≡ Some s → (image_of before k ≡ image_of images k) ⊎ AreTwo (Fronts k) (Keeps k) s (image_of images k) (image_of before k)
        → ImagesGo (λ now was. extents_in v now ≡ extents_in v was) s (image_of images k) (image_of before k)
    goes v k s at (inl same) =
        let was = are.each k s at in
        let is = some_image before k was.0 was.2 in
        record { now = was.0; was = was.0; now_is = sym same ∙ is; was_is = is; now_sized = was.4.sized; was_sized = was.4.sized; segments = λ i lt. refl }
    goes v k s at (inr two) = two_go (Fronts k) (Keeps k) s (λ now was. extents_in v now ≡ extents_in v was) (image_of images k) (image_of before k) (extents v k) two

-- Extents of which some are left out: they have no twins where all have none.

-- these are some of those, in their order
pub data Fewer : List Extent → List Extent → Type 0 where
  none : (ys : List Extent) → Fewer [] ys
  kept : (x : Extent) (xs ys : List Extent) → Fewer xs ys → Fewer (x ∷ xs) (x ∷ ys)
  gone : (y : Extent) (xs ys : List Extent) → Fewer xs ys → Fewer xs (y ∷ ys)

pub fewer_same : (xs : List Extent) → Fewer xs xs
fewer_same [] = none []
fewer_same (x ∷ xs) = kept x xs xs (fewer_same xs)

fewer_behind : (front : List Extent) (xs ys : List Extent) → Fewer xs ys → Fewer xs (front ++ ys)
fewer_behind [] xs ys is = is
fewer_behind (x ∷ front) xs ys is = gone x xs (front ++ ys) (fewer_behind front xs ys is)

fewer_join : (xs ys vs ws : List Extent) → Fewer xs ys → Fewer vs ws → Fewer (xs ++ vs) (ys ++ ws)
fewer_join [] ys vs ws (none _) more = fewer_behind ys vs ws more
fewer_join (x ∷ xs) (y ∷ ys) vs ws (kept _ _ _ rest) more = kept x (xs ++ vs) (ys ++ ws) (fewer_join xs ys vs ws rest more)
fewer_join xs (y ∷ ys) vs ws (gone _ _ _ rest) more = gone y (xs ++ vs) (ys ++ ws) (fewer_join xs ys vs ws rest more)

all_fewer : (P : Cover → Type 0) (xs ys : List Extent) → Fewer xs ys → AllByRecursion P (covers_of ys) → AllByRecursion P (covers_of xs)
all_fewer P [] ys (none _) all = tt
all_fewer P (x ∷ xs) (y ∷ ys) (kept _ _ _ rest) all = (all.0, all_fewer P xs ys rest all.1)
all_fewer P xs (y ∷ ys) (gone _ _ _ rest) all = all_fewer P xs ys rest all.1

pub fewer_distinct : (xs ys : List Extent) → Fewer xs ys → AreDistinct (covers_of ys) → AreDistinct (covers_of xs)
fewer_distinct [] ys (none _) apart = tt
fewer_distinct (x ∷ xs) (y ∷ ys) (kept _ _ _ rest) apart = (all_fewer (λ d. IsValid x.cover → IsValid d → x.cover.version ≢ d.version) xs ys rest apart.0, fewer_distinct xs ys rest apart.1)
fewer_distinct xs (y ∷ ys) (gone _ _ _ rest) apart = fewer_distinct xs ys rest apart.1

-- ---- Those of images

-- segments that have none
pub none_of : (v : ℕ) (bss : List (List Block)) → AllByRecursion (λ bs. extents_in v bs ≡ []) bss → extents_of v bss ≡ []
none_of v [] all = refl
none_of v (bs ∷ bss) all = λ i. all.0 i ++ none_of v bss all.1 i

-- those of whole images whose segments have some of the others'
pub fewer_image : (v : ℕ) (s : Shape) (image before : Option (List Block)) → ImagesGo (λ now was. Fewer (extents_in v now) (extents_in v was)) s image before → Fewer (extents_of v (segments_of s image)) (extents_of v (segments_of s before))
fewer_image v s image before go = image_goes Fewer (none []) fewer_join v s image before go

-- those of all images
pub fewer_images : (v : ℕ) (shapes : List Shape) (images others : Images) → length images ≡ length others
    → ((k : ℕ) (s : Shape) → slice_get shapes k ≡ Some s → Fewer (extents_of v (segments_of s (image_of images k))) (extents_of v (segments_of s (image_of others k))))
    → Fewer (extents_of v (all_segments shapes images)) (extents_of v (all_segments shapes others))
fewer_images v shapes images others count each = images_go Fewer (none []) fewer_join v shapes images others count (λ k s at lt. each k s at)

-- What became of segments from the opening of a rack to its closing.

-- ---- Segments

-- a segment is a log of one owner, of one list of records
one_owner : (bs : List Block) (v w : ℕ) (rs ss : List Record) → IsLog bs v rs → IsLog bs w ss → v ≡ w
one_owner [] v w rs ss one two = absurd (cc one.joined)
one_owner (b ∷ bs) v w rs ss one two =
    let first : b ≡ owned_block v = cc one.joined in
    let second : b ≡ owned_block w = cc two.joined in
    cc (one_segment_head b (Owned v) (Owned w) (record { in_range = one.known; bytes = first }) (record { in_range = two.known; bytes = second }))

one_list : (bs : List Block) (v : ℕ) (rs ss : List Record) → IsLog bs v rs → IsLog bs v ss → rs ≡ ss
one_list bs v rs ss one two = same_Some rs ss (sym (log_read bs v rs one) ∙ log_read bs v ss two)

-- a log of another volume
pub other_log : (bs : List Block) (v w : ℕ) (rs : List Record) → IsLog bs w rs → v ≢ w → extents_in v bs ≡ []
other_log bs v w rs is differs = not_of_other v w bs is.known differs (says_owner w bs rs is)

-- blocks of an image as they read are some that it may be
pub reads_among : (vs : List (Values Block)) (a b : ℕ) → IsImage (slice_range vs a b) (slice_range (reads vs) a b)
reads_among vs a b = subst (λ (c : List Block). IsImage (slice_range vs a b) c) (reads_range vs a b) (image_reads (slice_range vs a b))

nothing_fewer : (v : ℕ) (bs was : List Block) → extents_in v bs ≡ [] → Fewer (extents_in v bs) (extents_in v was)
nothing_fewer v bs was e = subst (λ es. Fewer es (extents_in v was)) (sym e) (none (extents_in v was))

-- ---- What became of a segment

module _ {D : Type 0} (r : Rack D) where
  -- the volume has no station
  abbrev pub IsClosed : ℕ → Type 0
  IsClosed v = (s : Station D) → Contains r.stations.items s → v ≢ s.id

  -- what became of a segment that was so at entry; what wasn't here at the end, kept nothing of a volume without a station
  pub data Came (k : ℕ) (bs was : List Block) : Type 0 where
    as_was : bs ≡ was → Came k bs was
    emptied : (owner : ℕ) (rs : List Record) → HasNothing owner rs was → IsKeptOrIdle owner rs bs → Came k bs was
    free : IsIdle bs → ((v : ℕ) → IsClosed v → KeepsNothing v was) → Came k bs was
    of_station : (s : Station D) → Contains r.stations.items s → Contains (base_of_station s).volume.began.view k → IsLogOfStation s k bs → ((v : ℕ) → IsClosed v → KeepsNothing v was) → Came k bs was

  -- each segment that is left came of one that was there
  pub record HasCome (k : ℕ) (s : Shape) (before : Image) (i : ℕ) (bs : List Block) : Type 0 where
    pub was : List Block
    pub had : IsImage (slice_range before.blocks (head_place s i) (head_place s (i + 1))) was
    pub came : Came k bs was

  emptied_keeps : (v owner : ℕ) (rs : List Record) (bs was : List Block) → HasNothing owner rs was → IsKeptOrIdle owner rs bs → KeepsNothing v bs
  emptied_keeps v owner rs bs was has or = ⊎_elim (λ log. bare_keeps v owner bs rs (record { log = log; nothing = has.nothing })) (λ idle. idle_keeps v bs idle) or

  -- where a volume isn't open a segment keeps the same of it
  pub keeps_came : (v k : ℕ) (bs was : List Block) → IsClosed v → Came k bs was → SegmentsKeep v bs was
  keeps_came v k bs was closed (as_was same) = λ n. ap (λ (c : List Block). keeping n (extents_in v c)) same
  keeps_came v k bs was closed (emptied owner rs has or) = nothing_same v bs was (emptied_keeps v owner rs bs was has or) (bare_keeps v owner was rs has)
  keeps_came v k bs was closed (free is_idle gone_) = nothing_same v bs was (idle_keeps v bs is_idle) (gone_ v closed)
  keeps_came v k bs was closed (of_station s has view its gone_) = nothing_same v bs was (none_keeps v bs (other_log bs v s.id its.records its.log (closed s has))) (gone_ v closed)

  -- and has no more records of it than it had
  pub fewer_came : (v k : ℕ) (bs was : List Block) → IsClosed v → Came k bs was → Fewer (extents_in v bs) (extents_in v was)
  fewer_came v k bs was closed (as_was same) = subst (λ (c : List Block). Fewer (extents_in v bs) (extents_in v c)) same (fewer_same (extents_in v bs))
  fewer_came v k bs was closed (free is_idle gone_) = nothing_fewer v bs was (idle_none v bs is_idle)
  fewer_came v k bs was closed (of_station s has view its gone_) = nothing_fewer v bs was (other_log bs v s.id its.records its.log (closed s has))
  fewer_came v k bs was closed (emptied owner rs nothing (inr is_idle)) = nothing_fewer v bs was (idle_none v bs is_idle)
  fewer_came v k bs was closed (emptied owner rs nothing (inl is_log)) = ⊎_elim
      (λ (same : v ≡ owner).
      let now : extents_in v bs ≡ map extent_of rs = ap (λ (w : ℕ). extents_in w bs) same ∙ log_extents owner bs rs is_log in
      let then_ : extents_in v was ≡ map extent_of rs = ap (λ (w : ℕ). extents_in w was) same ∙ log_extents owner was rs nothing.log in
      subst (λ es. Fewer (extents_in v bs) es) (now ∙ sym then_) (fewer_same (extents_in v bs)))
      (λ (differs : v ≢ owner). nothing_fewer v bs was (other_log bs v owner rs is_log differs))
      (cases_eq v owner)

  module _ (shapes : List Shape) (views : List (List ℕ)) where
    -- an open volume, by these views
    pub record IsOpen (s : Station D) : Type 0 where
      pub shape : Shape
      pub shape_is : slice_get shapes s.id ≡ Some shape
      pub view : slice_get views s.id ≡ Some (base_of_station s).volume.began.view
      pub home : (base_of_station s).volume.began.home_blocks ≡ shape.home

    -- where all of them are so, it is sound as it was
    pub sound_came : ((s : Station D) → Contains r.stations.items s → IsOpen s) → (k : ℕ) (bs was : List Block) → Came k bs was → IsSoundSegment shapes views k was → IsSoundSegment shapes views k bs
    sound_came is_open k bs was (as_was same) sound = subst (λ (c : List Block). IsSoundSegment shapes views k c) (sym same) sound
    sound_came is_open k bs was (free is_idle gone_) sound = idle is_idle
    sound_came is_open k bs was (emptied owner rs nothing (inr is_idle)) sound = idle is_idle
    sound_came is_open k bs was (emptied owner rs nothing (inl is_log)) (idle was_idle) = absurd (not_idle owner was rs was_idle nothing.log)
    sound_came is_open k bs was (emptied owner rs nothing (inl is_log)) (log other s ids ss s_at view has was_log within) =
        let same : owner ≡ other = one_owner was owner other rs ss nothing.log was_log in
        let list : rs ≡ ss = one_list was other rs ss (subst (λ (v : ℕ). IsLog was v rs) same nothing.log) was_log in
        log other s ids ss s_at view has (subst (λ (l : List Record). IsLog bs other l) list (subst (λ (v : ℕ). IsLog bs v rs) same is_log)) within
    sound_came is_open k bs was (of_station s has view its gone_) sound =
        let o = is_open s has in
        log s.id o.shape (base_of_station s).volume.began.view its.records o.shape_is o.view view its.log
        (subst (λ (n : ℕ). AllByRecursion (λ (r : Record). r.head.first + r.head.count ≤ n) its.records) o.home its.within)

-- ---- Where a segment that is left comes from

pub has_come : {D : Type 0} (state : D → State) (config : Config) (few : length (shapes_of config) ≤ 2 ^ 32) (r : Rack D) (entry : Told) → BeganWith state config entry r → (k i : ℕ) (v : VolumeConf) (before : Image) (m : ImageRest D) (bs : List Block)
    → slice_get config.volumes.items k ≡ Some v → at_name v.name entry.images ≡ Some before → image_here r.rest.images.items k ≡ Some m → i < v.segments → ComesFrom state r k i bs → HasCome r k (shape_in config v) before i bs
has_come {D} state config few r entry began k i v before m bs at is here within from = go from
  where
    gone_of : ((p : Spun D) → IsSegmentHere r.rest k i p → ⊥) → ((was : List Block) → ((v : ℕ) → IsClosed r v → KeepsNothing v was) → Came r k bs was) → HasCome r k (shape_in config v) before i bs
    gone_of never came =
        let g = began.gone k i v before m at is here within never in
        record { was = g.was; had = g.had; came = came g.was (λ w closed. gone_keeps w (length (shapes_of config)) r.stations.items g.was few closed g.said) }

    go : ComesFrom state r k i bs → HasCome r k (shape_in config v) before i bs
    go (from_pool never free_) = gone_of never (λ was nothing. free free_ nothing)
    go (from_manager never s has view it unbroken) = gone_of never (λ was nothing. ⊎_elim (λ free_. free free_ nothing) (λ its. of_station s has view its nothing) it)
    go (from_here p place image) =
        let had = ⊎_elim (λ x. (began.left k v before x.0 at is x.1).segments i p x.2 bs image) (λ x. began.held x.0 k i v before p at is x.1 bs image) place in
        ⊎_elim
        (λ same. record { was = bs; had = same; came = as_was refl })
        (λ less. record { was = less.0; had = less.2; came = emptied had.0 less.1 less.3 less.4 })
        had.1
