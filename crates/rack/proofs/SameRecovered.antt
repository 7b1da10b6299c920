-- Images whose segments keep the same records, or nothing of a volume, recover to the same array.
use Rattle.rack.proofs.ClosingBasics.{◌≡◌, ◌⊎◌, inl, ⊎_elim, ℕ, zero, suc, ◌+◌, ◌<◌, ◌≤◌, Bool, true, false, cond, List, [], ◌∷◌, ◌++◌, map, length, Option, None, Some, refl, sym, ap, ◌∙◌, arith}
use Rattle.rack.proofs.ClosingBasics.{get_or, subst, ◌≢◌, ◌^◌, option_and_then, slice_get, AllByRecursion, range_with_len, eq-eqb, cases_eq, flat_map-append, length-map-range_with_len}
use Rattle.rack.proofs.ClosingBasics.{get_or-map-range_with_len, none-some, same_Some, slice_get_within}
use Rattle.rack.proofs.ClosingTerms.{Block, block_of, overlaid, Extent, Cover, newer_of, newest, CoversNothing, Shape, Images, image_of, image_size, home_in}
use Rattle.rack.proofs.ClosingTerms.{segment_of, segments_of, accepted, all_segments, Record, IsLog, extent_of, IsIdle, extents_of, idle_none, SaysOwnerOrFree, Config, VolumeConf}
use Rattle.rack.proofs.ClosingTerms.{Station, HasNothing, HasHead, recovered_but, HasNoLogIn}
use Rattle.wol_model.specs.Extents.{newest_block, with_extents}
use Rattle.wol_model.specs.Images.{recovered_from}
use Rattle.wol_model.specs.Recovered.{extents_in, recovered}
use Rattle.manager_recovery.proofs.Leaves.{all_bare}
use Rattle.wol_model.proofs.Images.{kept as log_extents}
use Rattle.wol_promise.proofs.LogWrites.{says_owner}
use Rattle.rack.proofs.LeftImage.{accepted_count, accepted_both, accepted_same, accepted_gone}
use Rattle.rack.proofs.HeldSegments.{no_log, not_of_other}
use Rattle.rack.proofs.Cases.{by_option}
use Rattle.wol_model.specs.Heads as head

-- Images whose segments keep the same records recover to the same array.

-- ---- Extents

-- those of these that keep block n
pub keeping : (n : ℕ) → List Extent → List Extent
keeping n [] = []
keeping n (e ∷ es) = cond (e.cover.covers n) (e ∷ keeping n es) (keeping n es)

abbrev cover : Extent → Cover
cover e = e.cover

newest_keeping : (n : ℕ) (es : List Extent) → newest cover es n ≡ newest cover (keeping n es) n
unfolding keeping
newest_keeping n [] = refl
newest_keeping n (e ∷ es) = go (newest_keeping n es) (e.cover.covers n) refl
  where
    go : newest cover es n ≡ newest cover (keeping n es) n → (t : Bool) → e.cover.covers n ≡ t → cond t (newer_of cover e (newest cover es n)) (newest cover es n) ≡ newest cover (cond t (e ∷ keeping n es) (keeping n es)) n
    go rest true is = ap (newer_of cover e) rest ∙ sym (ap (λ (t : Bool). cond t (newer_of cover e (newest cover (keeping n es) n)) (newest cover (keeping n es) n)) is)
    go rest false is = rest

pub keeping_join : (n : ℕ) (es fs : List Extent) → keeping n (es ++ fs) ≡ keeping n es ++ keeping n fs
unfolding keeping
keeping_join n [] fs = refl
keeping_join n (e ∷ es) fs = go (keeping_join n es fs) (e.cover.covers n)
  where
    go : keeping n (es ++ fs) ≡ keeping n es ++ keeping n fs → (t : Bool) → cond t (e ∷ keeping n (es ++ fs)) (keeping n (es ++ fs)) ≡ cond t (e ∷ keeping n es) (keeping n es) ++ keeping n fs
    go rest true = ap (λ (l : List Extent). e ∷ l) rest
    go rest false = rest

-- extents that keep nothing
pub keeping_none : (n : ℕ) (es : List Extent) → AllByRecursion (λ (e : Extent). e.cover.covers n ≡ false) es → keeping n es ≡ []
unfolding keeping
keeping_none n [] all = refl
keeping_none n (e ∷ es) all = ap (λ (t : Bool). cond t (e ∷ keeping n es) (keeping n es)) all.0 ∙ keeping_none n es all.1

-- they keep the same records of each block
abbrev pub KeepSame : (es fs : List Extent) → Type 0
KeepSame es fs = (n : ℕ) → keeping n es ≡ keeping n fs

same_newest : (es fs : List Extent) → KeepSame es fs → (n : ℕ) → newest_block es n ≡ newest_block fs n
unfolding newest_block
same_newest es fs same n = ap (option_and_then (λ (r : Extent). block_of r.first r.blocks n)) (newest_keeping n es ∙ ap (λ (l : List Extent). newest cover l n) (same n) ∙ sym (newest_keeping n fs))

pub same_kept : (home : List Block) (es fs : List Extent) → KeepSame es fs → with_extents home es ≡ with_extents home fs
unfolding with_extents
same_kept home es fs same = ap (overlaid home) (λ i n. same_newest es fs same n i)

-- ---- Segments

-- two segments keep the same records of a volume
abbrev pub SegmentsKeep : (v : ℕ) → (bs cs : List Block) → Type 0
SegmentsKeep v bs cs = KeepSame (extents_in v bs) (extents_in v cs)

-- two whole images whose segments go together
pub record ImagesGo (Together : (now was : List Block) → Type 0) (s : Shape) (image before : Option (List Block)) : Type 0 where
  pub now : List Block
  pub was : List Block
  pub now_is : image ≡ Some now
  pub was_is : before ≡ Some was
  pub now_sized : length now ≡ image_size s
  pub was_sized : length was ≡ image_size s
  pub segments : (i : ℕ) → i < s.segments → Together (segment_of s now i) (segment_of s was i)

pub segments_are : (s : Shape) (c : List Block) → length c ≡ image_size s → segments_of s (Some c) ≡ map (segment_of s c) (range_with_len 0 s.segments)
segments_are s c size = ap (λ (t : Bool). cond t (map (segment_of s c) (range_with_len 0 s.segments)) []) (eq-eqb (length c) (image_size s) size)

-- what relates lists of extents, and lists that are put together of related ones
module _ (R : (xs ys : List Extent) → Type 0) (nothing : R [] []) (join : (a b c d : List Extent) → R a b → R c d → R (a ++ c) (b ++ d)) (v : ℕ) where
  abbrev Related : (now was : List Block) → Type 0
  Related now was = R (extents_in v now) (extents_in v was)

  moved : (a b c d : List Extent) → a ≡ b → c ≡ d → R b d → R a c
  moved a b c d e f x = subst (λ (p : List Extent × List Extent). R p.0 p.1) (λ i. (sym e i, sym f i)) x

  rows_go : (s : Shape) (c d : List Block) (from count : ℕ) → ((i : ℕ) → from ≤ i → i < from + count → Related (segment_of s c i) (segment_of s d i))
      → R (extents_of v (map (segment_of s c) (range_with_len from count))) (extents_of v (map (segment_of s d) (range_with_len from count)))
  rows_go s c d from zero each = nothing
  rows_go s c d from (suc count) each =
      join (extents_in v (segment_of s c from)) (extents_in v (segment_of s d from)) (extents_of v (map (segment_of s c) (range_with_len (from + 1) count))) (extents_of v (map (segment_of s d) (range_with_len (from + 1) count)))
      (each from (omega arith) (omega arith)) (rows_go s c d (from + 1) count (λ i le lt. each i (omega (arith, le)) (omega (arith, lt))))

  -- it relates whole images whose segments it relates
  pub image_goes : (s : Shape) (image before : Option (List Block)) → ImagesGo Related s image before → R (extents_of v (segments_of s image)) (extents_of v (segments_of s before))
  image_goes s image before k =
      moved (extents_of v (segments_of s image)) (extents_of v (map (segment_of s k.now) (range_with_len 0 s.segments))) (extents_of v (segments_of s before)) (extents_of v (map (segment_of s k.was) (range_with_len 0 s.segments)))
      (ap (λ (o : Option (List Block)). extents_of v (segments_of s o)) k.now_is ∙ ap (extents_of v) (segments_are s k.now k.now_sized))
      (ap (λ (o : Option (List Block)). extents_of v (segments_of s o)) k.was_is ∙ ap (extents_of v) (segments_are s k.was k.was_sized))
      (rows_go s k.now k.was 0 s.segments (λ i le lt. k.segments i (omega (arith, lt))))

  -- and images each of which it relates
  pub images_go : (shapes : List Shape) (images before : Images) → length images ≡ length before
      → ((k : ℕ) (s : Shape) → slice_get shapes k ≡ Some s → k < length images → R (extents_of v (segments_of s (image_of images k))) (extents_of v (segments_of s (image_of before k))))
      → R (extents_of v (all_segments shapes images)) (extents_of v (all_segments shapes before))
  images_go [] images before count each = nothing
  images_go (s ∷ shapes) [] [] count each = nothing
  images_go (s ∷ shapes) [] (d ∷ before) count each = absurd (cc count)
  images_go (s ∷ shapes) (c ∷ images) [] count each = absurd (cc count)
  images_go (s ∷ shapes) (c ∷ images) (d ∷ before) count each =
      moved (extents_of v (segments_of s c ++ all_segments shapes images)) (extents_of v (segments_of s c) ++ extents_of v (all_segments shapes images))
      (extents_of v (segments_of s d ++ all_segments shapes before)) (extents_of v (segments_of s d) ++ extents_of v (all_segments shapes before))
      (flat_map-append (extents_in v) (segments_of s c) (all_segments shapes images)) (flat_map-append (extents_in v) (segments_of s d) (all_segments shapes before))
      (join (extents_of v (segments_of s c)) (extents_of v (segments_of s d)) (extents_of v (all_segments shapes images)) (extents_of v (all_segments shapes before)) (each 0 s refl (omega arith))
      (images_go shapes images before (omega (arith, count)) (λ k t at lt. each (suc k) t at (omega (arith, lt)))))

keep_join : (a b c d : List Extent) → KeepSame a b → KeepSame c d → KeepSame (a ++ c) (b ++ d)
keep_join a b c d first second n = keeping_join n a c ∙ (λ i. first n i ++ second n i) ∙ sym (keeping_join n b d)

-- two whole images keep the same records of a volume
abbrev pub ImagesKeep : (v : ℕ) → Shape → (image before : Option (List Block)) → Type 0
ImagesKeep v s image before = ImagesGo (SegmentsKeep v) s image before

module _ (v : ℕ) where
  -- images of which each is the same, or keeps the same
  each_keeps : (shapes : List Shape) (images before : Images) → length images ≡ length before
      → ((k : ℕ) (s : Shape) → slice_get shapes k ≡ Some s → (image_of images k ≡ image_of before k) ⊎ ImagesKeep v s (image_of images k) (image_of before k))
      → KeepSame (extents_of v (all_segments shapes images)) (extents_of v (all_segments shapes before))
  each_keeps shapes images before count each = images_go KeepSame (λ n. refl) keep_join v shapes images before count (λ k s at lt. ⊎_elim
      (λ same. λ n. ap (λ (o : Option (List Block)). keeping n (extents_of v (segments_of s o))) same)
      (λ go. image_goes KeepSame (λ n. refl) keep_join v s (image_of images k) (image_of before k) go)
      (each k s at))

  -- of the same home they recover to the same
  pub recovered_same : (refused : ℕ → Bool) (shapes : List Shape) (images before : Images) → length images ≡ length before
      → home_in (slice_get shapes v) (image_of images v) ≡ home_in (slice_get shapes v) (image_of before v)
      → ((k : ℕ) (s : Shape) → slice_get shapes k ≡ Some s → refused k ≡ false → (image_of images k ≡ image_of before k) ⊎ ImagesKeep v s (image_of images k) (image_of before k))
      → recovered_but shapes refused images v ≡ recovered_but shapes refused before v
  unfolding recovered
  recovered_same refused shapes images before count home each =
      ap (λ (h : List Block). with_extents h (extents_of v (all_segments shapes (accepted refused images)))) home
      ∙ same_kept (home_in (slice_get shapes v) (image_of before v)) (extents_of v (all_segments shapes (accepted refused images))) (extents_of v (all_segments shapes (accepted refused before)))
      (each_keeps shapes (accepted refused images) (accepted refused before) (accepted_count 0 refused images ∙ count ∙ sym (accepted_count 0 refused before))
      (λ k s at. accepted_both (λ o p. (o ≡ p) ⊎ ImagesKeep v s o p) refused images before k (inl refl) (each k s at)))

  -- where all images give their segments, an image that is the same too
  pub recovered_all : (shapes : List Shape) (images before : Images) → length images ≡ length before
      → home_in (slice_get shapes v) (image_of images v) ≡ home_in (slice_get shapes v) (image_of before v)
      → ((k : ℕ) (s : Shape) → slice_get shapes k ≡ Some s → (image_of images k ≡ image_of before k) ⊎ ImagesKeep v s (image_of images k) (image_of before k))
      → recovered_from shapes images v ≡ recovered_from shapes before v
  unfolding recovered recovered_from
  recovered_all shapes images before count home each =
      ap (λ (h : List Block). with_extents h (extents_of v (all_segments shapes images))) home
      ∙ same_kept (home_in (slice_get shapes v) (image_of before v)) (extents_of v (all_segments shapes images)) (extents_of v (all_segments shapes before)) (each_keeps shapes images before count each)

  -- segments without a log of the volume
  none_given : (bss : List (List Block)) → AllByRecursion (λ bs. (rs : List Record) → IsLog bs v rs → ⊥) bss → extents_of v bss ≡ []
  none_given [] all = refl
  none_given (bs ∷ bss) all = λ i. no_log v bs all.0 i ++ none_given bss all.1 i

  -- images that have no log of the volume may be refused
  pub recovered_none : (refused : ℕ → Bool) (shapes : List Shape) (images : Images) → HasNoLogIn shapes refused images v → recovered_from shapes images v ≡ recovered_but shapes refused images v
  unfolding recovered recovered_from
  recovered_none refused shapes images none = ap (with_extents (home_in (slice_get shapes v) (image_of images v)))
      (images_go (λ xs ys. xs ≡ ys) refl (λ a b c d e f i. e i ++ f i) v shapes images (accepted refused images) (sym (accepted_count 0 refused images)) (λ k s at lt. go k s at (refused k) refl))
    where
      go : (k : ℕ) (s : Shape) → slice_get shapes k ≡ Some s → (t : Bool) → refused k ≡ t → extents_of v (segments_of s (image_of images k)) ≡ extents_of v (segments_of s (image_of (accepted refused images) k))
      go k s at true e = none_given (segments_of s (image_of images k)) (none k s at e) ∙ sym (ap (λ (o : Option (List Block)). extents_of v (segments_of s o)) (accepted_gone refused images k e))
      go k s at false e = sym (ap (λ (o : Option (List Block)). extents_of v (segments_of s o)) (accepted_same refused images k e))

  -- where each segment has the same extents, all have
  pub same_extents : (shapes : List Shape) (images before : Images) → length images ≡ length before
      → ((k : ℕ) (s : Shape) → slice_get shapes k ≡ Some s → k < length images → ImagesGo (λ now was. extents_in v now ≡ extents_in v was) s (image_of images k) (image_of before k))
      → extents_of v (all_segments shapes images) ≡ extents_of v (all_segments shapes before)
  same_extents shapes images before count each = images_go (λ xs ys. xs ≡ ys) refl (λ a b c d e f i. e i ++ f i) v shapes images before count
      (λ k s at lt. image_goes (λ xs ys. xs ≡ ys) refl (λ a b c d e f i. e i ++ f i) v s (image_of images k) (image_of before k) (each k s at lt))

-- Choices of images, one volume at a time.

pub image_or : (images : Images) (k : ℕ) → image_of images k ≡ get_or images k None
image_or [] k = refl
image_or (i ∷ images) zero = refl
image_or (i ∷ images) (suc k) = image_or images k

-- one image of each volume of the configuration
module _ (config : Config) (P : ℕ → VolumeConf → Option (List Block) → Type 0)
    (choose : (k : ℕ) (conf : VolumeConf) → slice_get config.volumes.items k ≡ Some conf → (o : Option (List Block)) × P k conf o) where
  pub record ArePicked (images : Images) : Type 0 where
    pub count : length images ≡ length config.volumes.items
    pub each : (k : ℕ) (conf : VolumeConf) → slice_get config.volumes.items k ≡ Some conf → P k conf (image_of images k)

  pick : (k : ℕ) → (o : Option (List Block)) × ((conf : VolumeConf) → slice_get config.volumes.items k ≡ Some conf → P k conf o)
  pick k = by_option (slice_get config.volumes.items k)
      (λ e. (None, λ conf is. absurd (none-some conf (sym e ∙ is))))
      (λ conf e. let x = choose k conf e in (x.0, λ other is. subst (λ (c : VolumeConf). P k c x.0) (same_Some conf other (sym e ∙ is)) x.1))

  pub picked : (images : Images) × ArePicked images
  picked = (
    map one (range_with_len 0 (length config.volumes.items)),
    record {
      count = length-map-range_with_len one 0 (length config.volumes.items);
      each = λ k conf is. subst (P k conf) (sym (at k (slice_get_within config.volumes.items k conf is))) ((pick k).1 conf is);
    },
  )
    where
      one : ℕ → Option (List Block)
      one k = (pick k).0

      at : (k : ℕ) → k < length config.volumes.items → image_of (map one (range_with_len 0 (length config.volumes.items))) k ≡ one k
      at k lt = image_or (map one (range_with_len 0 (length config.volumes.items))) k ∙ get_or-map-range_with_len one 0 (length config.volumes.items) k k None lt (omega arith)

-- Segments that keep nothing of a volume.

abbrev pub KeepsNothing : (v : ℕ) → List Block → Type 0
KeepsNothing v bs = (n : ℕ) → keeping n (extents_in v bs) ≡ []

pub nothing_same : (v : ℕ) (bs cs : List Block) → KeepsNothing v bs → KeepsNothing v cs → SegmentsKeep v bs cs
nothing_same v bs cs first second n = first n ∙ sym (second n)

pub none_keeps : (v : ℕ) (bs : List Block) → extents_in v bs ≡ [] → KeepsNothing v bs
none_keeps v bs none n = ap (keeping n) none ∙ keeping_none n [] tt

-- a free one
pub idle_keeps : (v : ℕ) (bs : List Block) → IsIdle bs → KeepsNothing v bs
idle_keeps v bs idle = none_keeps v bs (idle_none v bs idle)

-- one that says another owner
pub other_keeps : (v w : ℕ) (bs : List Block) → w < 2 ^ 32 → v ≢ w → SaysOwnerOrFree w bs → KeepsNothing v bs
other_keeps v w bs small differs says = none_keeps v bs (not_of_other v w bs small differs says)

-- a log of records none of which keeps a block
pub bare_keeps : (v owner : ℕ) (bs : List Block) (rs : List Record) → HasNothing owner rs bs → KeepsNothing v bs
bare_keeps v owner bs rs has =
    ⊎_elim
    (λ (e : v ≡ owner). λ n.
    let es = map extent_of rs in
    ap (keeping n) (log_extents v bs rs (subst (λ (w : ℕ). IsLog bs w rs) (sym e) has.log)) ∙ keeping_none n es (all_at n es (all_bare rs has.nothing)))
    (λ (differs : v ≡ owner → ⊥). other_keeps v owner bs has.log.known differs (says_owner owner bs rs has.log))
    (cases_eq v owner)
  where
    all_at : (n : ℕ) (es : List Extent) → AllByRecursion CoversNothing es → AllByRecursion (λ (e : Extent). e.cover.covers n ≡ Rattle.std.proofs.Common.false) es
    all_at n [] all = tt
    all_at n (e ∷ es) all = (all.0 n, all_at n es all.1)

-- one whose head is free, or another's, or whose records keep nothing
pub gone_keeps : {D : Type 0} (v volumes : ℕ) (stations : List (Station D)) (was : List Block) → volumes ≤ 2 ^ 32 → ((s : Station D) → Rattle.std.specs.Prelude.Contains stations s → v ≢ s.id)
    → (HasHead volumes was head.Free ⊎ ((station : Station D) × Rattle.std.specs.Prelude.Contains stations station × HasHead volumes was (head.Owned station.id)) ⊎ ((owner : ℕ) × (rs : List Record) × HasNothing owner rs was)) → KeepsNothing v was
gone_keeps {D} v volumes stations was few others or =
    ⊎_elim
    (λ free. idle_keeps v was (idle_by was free))
    (λ rest. ⊎_elim (λ x. other_keeps v x.0.id was (let c = x.2.configured in omega (arith, c, few)) (others x.0 x.1) (owner_by x.0.id was x.2)) (λ x. bare_keeps v x.0 was x.1 x.2) rest)
    or
  where
    idle_by : (c : List Block) → HasHead volumes c head.Free → IsIdle c
    idle_by [] h = absurd (Rattle.std.proofs.lemmas.Option.none-some h.block h.first)
    idle_by (x ∷ c) h = Rattle.std.proofs.lemmas.Option.same_Some x h.block h.first ∙ h.spelled.bytes

    owner_by : (w : ℕ) (c : List Block) → HasHead volumes c (head.Owned w) → SaysOwnerOrFree w c
    owner_by w [] h = absurd (Rattle.std.proofs.lemmas.Option.none-some h.block h.first)
    owner_by w (x ∷ c) h = inl (Rattle.std.proofs.lemmas.Option.same_Some x h.block h.first ∙ h.spelled.bytes)
