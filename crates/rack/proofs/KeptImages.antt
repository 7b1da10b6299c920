-- Images that are left of those at entry, but for segments that keep the same records: they recover to what one at entry does.
use Rattle.rack.proofs.ClosingBasics.{◌≡◌, ℕ, zero, suc, ◌+◌, ◌-◌, ◌*◌, ◌<◌, ◌≤◌, List, [], ◌++◌, length, take, drop, sym, ap, ◌∙◌, subst, arith, ⊎_elim, Bool, true, false, Option, Some, refl}
use Rattle.rack.proofs.ClosingBasics.{slice_range, slice_get, slice_index_or, drop-append-add, take-append_seam, take_all, length-append, length-drop, length-take-le, drop-take, cases_lt}
use Rattle.rack.proofs.ClosingBasics.{slice_get-get_or, ◌⊎◌, inl, inr, None}
use Rattle.rack.proofs.ClosingTerms.{Block, Values, IsImage, Image, Told, at_name, Shape, image_size, segment_of, Images, image_of, home_in, home_of, recovered_from, Config, VolumeConf, shape_in}
use Rattle.rack.proofs.ClosingTerms.{shapes_of, MayLeave, AreLeft, recovered_but}
use Rattle.std.proofs.Math.Nat.{suc-mul, mul-le-mul_right}
use Rattle.rack_parts.proofs.GivenBack.{image_length}
use Rattle.rack.proofs.Places.{both_slices}
use Rattle.rack.proofs.LeftImage.{volume_at}
use Rattle.rack.proofs.SameRecovered.{SegmentsKeep, ImagesGo, ImagesKeep, picked, recovered_same, recovered_all}

-- An image that is put together of a front and of segments.

module _ (f : ℕ → List Block) where
  -- segments from this one on
  abbrev pub row : (from n : ℕ) → List Block
  row from zero = []
  row from (suc n) = f from ++ row (from + 1) n

  module _ (size : ℕ) (total : ℕ) (sized : (i : ℕ) → i < total → length (f i) ≡ size) where
    row_length : (from n : ℕ) → from + n ≤ total → length (row from n) ≡ n * size
    row_length from zero le = omega arith
    row_length from (suc n) le =
        let one = sized from (omega (arith, le)) in
        let rest = row_length (from + 1) n (omega (arith, le)) in
        let both = length-append (f from) (row (from + 1) n) in
        let s = suc-mul n size in
        omega (arith, one, rest, both, s)

    row_at : (from n i : ℕ) → from + n ≤ total → i < n → take size (drop (i * size) (row from n)) ≡ f (from + i)
    row_at from zero i le lt = absurd (omega (arith, lt))
    row_at from (suc n) zero le lt =
        let none : 0 * size ≡ 0 = omega arith in
        let here : from + 0 ≡ from = omega arith in
        let one = sized from (omega (arith, le)) in
        ap (λ (m : ℕ). take size (drop m (f from ++ row (from + 1) n))) none
        ∙ ap (λ (m : ℕ). take m (f from ++ row (from + 1) n)) (sym one)
        ∙ take-append_seam (f from) (row (from + 1) n) ∙ ap f (sym here)
    row_at from (suc n) (suc i) le lt =
        let one = sized from (omega (arith, le)) in
        let s = suc-mul i size in
        let at : suc i * size ≡ length (f from) + i * size = omega (arith, s, one) in
        let next : from + 1 + i ≡ from + suc i = omega arith in
        ap (λ (m : ℕ). take size (drop m (f from ++ row (from + 1) n))) at
        ∙ ap (take size) (drop-append-add (f from) (row (from + 1) n) (i * size))
        ∙ row_at (from + 1) n i (omega (arith, le)) (omega (arith, lt)) ∙ ap f next

-- front, and the segments of this shape
abbrev pub assembled : (s : Shape) → (front : List Block) → (ℕ → List Block) → List Block
assembled s front f = front ++ row f 0 s.segments

module _ (s : Shape) (front : List Block) (f : ℕ → List Block) (long : length front ≡ 2 + s.home) (sized : (i : ℕ) → i < s.segments → length (f i) ≡ s.segment_blocks) where
  pub assembled_size : length (assembled s front f) ≡ image_size s
  assembled_size =
      let rest = row_length f s.segment_blocks s.segments sized 0 s.segments (omega arith) in
      let both = length-append front (row f 0 s.segments) in
      omega (arith, both, rest, long)

  pub assembled_front : slice_range (assembled s front f) 0 (2 + s.home) ≡ front
  assembled_front =
      let all : 2 + s.home - 0 ≡ length front = omega (arith, long) in
      ap (λ (n : ℕ). take n (front ++ row f 0 s.segments)) all ∙ take-append_seam front (row f 0 s.segments)

  pub assembled_segment : (i : ℕ) → i < s.segments → segment_of s (assembled s front f) i ≡ f i
  assembled_segment i lt =
      let next = suc-mul i s.segment_blocks in
      let e : i + 1 ≡ suc i = omega arith in
      let m = ap (λ (n : ℕ). n * s.segment_blocks) e in
      let width : 2 + s.home + (i + 1) * s.segment_blocks - (2 + s.home + i * s.segment_blocks) ≡ s.segment_blocks = omega (arith, next, m) in
      let at : 2 + s.home + i * s.segment_blocks ≡ length front + i * s.segment_blocks = omega (arith, long) in
      let zero_ : 0 + i ≡ i = omega arith in
      ap (λ (n : ℕ). take n (drop (2 + s.home + i * s.segment_blocks) (front ++ row f 0 s.segments))) width
      ∙ ap (λ (n : ℕ). take s.segment_blocks (drop n (front ++ row f 0 s.segments))) at
      ∙ ap (take s.segment_blocks) (drop-append-add front (row f 0 s.segments) (i * s.segment_blocks))
      ∙ row_at f s.segment_blocks s.segments sized 0 s.segments i (omega arith) lt
      ∙ ap f zero_

  -- an image of blocks of which the front and each segment is one
  module _ (bs : List (Values Block)) (in_front : IsImage (slice_range bs 0 (2 + s.home)) front)
      (each : (i : ℕ) → i < s.segments → IsImage (slice_range bs (2 + s.home + i * s.segment_blocks) (2 + s.home + (i + 1) * s.segment_blocks)) (f i)) where
    row_image : (from n : ℕ) → from + n ≤ s.segments → IsImage (slice_range bs (2 + s.home + from * s.segment_blocks) (2 + s.home + (from + n) * s.segment_blocks)) (row f from n)
    row_image from zero le =
        let e : from + 0 ≡ from = omega arith in
        let m = ap (λ (k : ℕ). k * s.segment_blocks) e in
        let none : 2 + s.home + (from + 0) * s.segment_blocks - (2 + s.home + from * s.segment_blocks) ≡ 0 = omega (arith, m) in
        subst (λ (k : ℕ). IsImage (take k (drop (2 + s.home + from * s.segment_blocks) bs)) []) (sym none) tt
    row_image from (suc n) le =
        let e : from + 1 + n ≡ from + suc n = omega arith in
        let one = suc-mul from s.segment_blocks in
        let more : from + 1 ≡ suc from = omega arith in
        let more_ = ap (λ (k : ℕ). k * s.segment_blocks) more in
        let low : from + 1 ≤ from + suc n = omega arith in
        let last = mul-le-mul_right s.segment_blocks low in
        let rest = subst (λ (k : ℕ). IsImage (slice_range bs (2 + s.home + (from + 1) * s.segment_blocks) (2 + s.home + k * s.segment_blocks)) (row f (from + 1) n)) e (row_image (from + 1) n (omega (arith, le))) in
        both_slices bs (2 + s.home + from * s.segment_blocks) (2 + s.home + (from + 1) * s.segment_blocks) (2 + s.home + (from + suc n) * s.segment_blocks) (f from) (row f (from + 1) n)
        (omega (arith, one, more_)) (omega (arith, last)) (each from (omega (arith, le))) rest

    pub assembled_image : length bs ≡ image_size s → IsImage bs (assembled s front f)
    assembled_image size =
        let none : 2 + s.home + 0 * s.segment_blocks ≡ 2 + s.home = omega arith in
        let z : 0 + s.segments ≡ s.segments = omega arith in
        let rows = subst (λ (k : ℕ). IsImage (slice_range bs k (2 + s.home + (0 + s.segments) * s.segment_blocks)) (row f 0 s.segments)) none (row_image 0 s.segments (omega arith)) in
        let end : 2 + s.home + (0 + s.segments) * s.segment_blocks ≡ length bs = ap (λ (k : ℕ). 2 + s.home + k * s.segment_blocks) z ∙ sym size in
        let whole = both_slices bs 0 (2 + s.home) (2 + s.home + (0 + s.segments) * s.segment_blocks) front (row f 0 s.segments) (omega arith) (omega arith) in_front rows in
        let full : slice_range bs 0 (2 + s.home + (0 + s.segments) * s.segment_blocks) ≡ bs = ap (λ (k : ℕ). slice_range bs 0 k) end ∙ take_all (length bs - 0) bs (omega arith) in
        subst (λ (vs : List (Values Block)). IsImage vs (front ++ row f 0 s.segments)) full whole

-- a whole image of a volume's size
pub record IsEntered (s : Shape) (entry : Option Image) : Type 0 where
  pub image : Image
  pub there : entry ≡ Some image
  pub whole : image.rest ≡ []
  pub size : length image.blocks ≡ image_size s

-- the front of the image that is left of a volume, and each segment of it, goes with one that it might have been at entry
pub record IsKeptImage (Fronts : (now was : List Block) → Type 0) (Keeps : (now was : List Block) → Type 0) (s : Shape) (entry : Option Image) (image : Option (List Block)) : Type 0 where
  pub entered : IsEntered s entry
  pub now : List Block
  pub is : image ≡ Some now
  pub sized : length now ≡ image_size s
  pub front : (was : List Block) × IsImage (slice_range entered.image.blocks 0 (2 + s.home)) was × Fronts (slice_range now 0 (2 + s.home)) was
  pub segments : (i : ℕ) → i < s.segments → (was : List Block) × IsImage (slice_range entered.image.blocks (2 + s.home + i * s.segment_blocks) (2 + s.home + (i + 1) * s.segment_blocks)) was
      × Keeps (segment_of s now i) was

-- two whole images whose fronts and segments go together
pub record AreTwo (Fronts : (now was : List Block) → Type 0) (Keeps : (now was : List Block) → Type 0) (s : Shape) (image before : Option (List Block)) : Type 0 where
  pub go : ImagesGo Keeps s image before
  pub front : Fronts (slice_range go.now 0 (2 + s.home)) (slice_range go.was 0 (2 + s.home))

-- what was there where it is within
pub chosen : {P : ℕ → List Block → Type 0} (n : ℕ) → ((i : ℕ) → i < n → (was : List Block) × P i was) → (i : ℕ) → (was : List Block) × (i < n → P i was)
chosen {P} n each i = ⊎_elim (λ (lt : i < n). ((each i lt).0, λ _. (each i lt).1)) (λ (past : n ≤ i). ([], λ lt. absurd (omega (arith, past, lt)))) (cases_lt i n)

-- home of a front
pub front_home : (s : Shape) (c : List Block) → length c ≡ image_size s → slice_range (slice_range c 0 (2 + s.home)) 2 (2 + s.home) ≡ home_of s c
front_home s c z =
    let at : 2 + s.home - 0 ≡ 2 + s.home = omega arith in
    let some : 2 + s.home - 2 ≡ s.home = omega arith in
    let cut : drop 2 (slice_range c 0 (2 + s.home)) ≡ take s.home (drop 2 c) = ap (λ (n : ℕ). drop 2 (take n c)) at ∙ drop-take 2 s.home c in
    let n = length-drop 2 c in
    let full : length (take s.home (drop 2 c)) ≡ s.home = length-take-le s.home (drop 2 c) (omega (arith, n, z)) in
    ap (take (2 + s.home - 2)) cut ∙ take_all (2 + s.home - 2) (take s.home (drop 2 c)) (omega (arith, full)) ∙ ap (λ (m : ℕ). take m (drop 2 c)) (sym some)

-- an image of a segment of blocks
pub piece_length : (s : Shape) (vs : List (Values Block)) (i : ℕ) (c : List Block) → length vs ≡ image_size s → i < s.segments
    → IsImage (slice_range vs (2 + s.home + i * s.segment_blocks) (2 + s.home + (i + 1) * s.segment_blocks)) c → length c ≡ s.segment_blocks
piece_length s vs i c size lt image =
    let n = image_length (slice_range vs (2 + s.home + i * s.segment_blocks) (2 + s.home + (i + 1) * s.segment_blocks)) c image in
    let next : i + 1 ≡ suc i = omega arith in
    let more = ap (λ (m : ℕ). m * s.segment_blocks) next ∙ suc-mul i s.segment_blocks in
    let within : i + 1 ≤ s.segments = omega (arith, lt) in
    let most = mul-le-mul_right s.segment_blocks within in
    let width : 2 + s.home + (i + 1) * s.segment_blocks - (2 + s.home + i * s.segment_blocks) ≡ s.segment_blocks = omega (arith, more) in
    let behind = length-drop (2 + s.home + i * s.segment_blocks) vs in
    let long = length-take-le (2 + s.home + (i + 1) * s.segment_blocks - (2 + s.home + i * s.segment_blocks)) (drop (2 + s.home + i * s.segment_blocks) vs) (omega (arith, width, behind, size, more, most)) in
    n ∙ long ∙ width

module _ (Fronts : (now was : List Block) → Type 0) (Keeps : (now was : List Block) → Type 0) (s : Shape) where
  -- of one front they have one home
  pub two_home : (image before : Option (List Block)) → ((now was : List Block) → Fronts now was → slice_range was 2 (2 + s.home) ≡ slice_range now 2 (2 + s.home)) → AreTwo Fronts Keeps s image before → home_in (Some s) before ≡ home_in (Some s) image
  two_home image before same t =
      let g = t.go in
      ap (home_in (Some s)) g.was_is ∙ sym (front_home s g.was g.was_sized)
      ∙ same (slice_range g.now 0 (2 + s.home)) (slice_range g.was 0 (2 + s.home)) t.front
      ∙ front_home s g.now g.now_sized ∙ ap (home_in (Some s)) (sym g.now_is)

  -- they go together where their segments do
  pub two_go : (Together : (now was : List Block) → Type 0) (image before : Option (List Block)) → ((c d : List Block) → Keeps c d → Together c d) → AreTwo Fronts Keeps s image before → ImagesGo Together s image before
  two_go Together image before keeps t =
      let g = t.go in record { now = g.now; was = g.was; now_is = g.now_is; was_is = g.was_is; now_sized = g.now_sized; was_sized = g.was_sized; segments = λ i below. keeps (segment_of s g.now i) (segment_of s g.was i) (g.segments i below) }

  -- one that might have been left at entry
  pub record Earlier (entry : Option Image) (image : Option (List Block)) : Type 0 where
    pub was : List Block
    pub may : MayLeave entry (Some was)
    pub two : AreTwo Fronts Keeps s image (Some was)

  pub earlier : (entry : Option Image) (image : Option (List Block)) → IsKeptImage Fronts Keeps s entry image → Earlier entry image
  earlier entry image k = record {
    was = whole;
    may = subst (λ (e : Option Image). MayLeave e (Some whole)) (sym k.entered.there) (k.entered.whole, assembled_image s front piece long sized k.entered.image.blocks k.front.1 (λ i lt. ((segment i).1 lt).0) k.entered.size);
    two = record {
      go = record {
        now = k.now;
        was = whole;
        now_is = k.is;
        was_is = refl;
        now_sized = k.sized;
        was_sized = assembled_size s front piece long sized;
        segments = λ i lt. subst (λ (c : List Block). Keeps (segment_of s k.now i) c) (sym (assembled_segment s front piece long sized i lt)) (((segment i).1 lt).1);
      };
      front = subst (λ (c : List Block). Fronts (slice_range k.now 0 (2 + s.home)) c) (sym (assembled_front s front piece long sized)) k.front.2;
    };
  }
    where
      Holds : ℕ → List Block → Type 0
      Holds i was = IsImage (slice_range k.entered.image.blocks (2 + s.home + i * s.segment_blocks) (2 + s.home + (i + 1) * s.segment_blocks)) was × Keeps (segment_of s k.now i) was

      segment : (i : ℕ) → (was : List Block) × (i < s.segments → Holds i was)
      segment = chosen {P = Holds} s.segments (λ i lt. let g = k.segments i lt in (g.0, (g.1, g.2)))

      piece : ℕ → List Block
      piece i = (segment i).0

      sized : (i : ℕ) → i < s.segments → length (piece i) ≡ s.segment_blocks
      sized i lt = piece_length s k.entered.image.blocks i (piece i) k.entered.size lt ((segment i).1 lt).0

      front : List Block
      front = k.front.0

      whole : List Block
      whole = assembled s front piece

      long : length front ≡ 2 + s.home
      long =
          let at : 2 + s.home - 0 ≡ 2 + s.home = omega arith in
          image_length (slice_range k.entered.image.blocks 0 (2 + s.home)) k.front.0 k.front.1 ∙ length-take-le (2 + s.home - 0) k.entered.image.blocks (let z = k.entered.size in omega (arith, z, at)) ∙ at

module _ (Fronts : (k : ℕ) → (now was : List Block) → Type 0) (Keeps : (k : ℕ) → (now was : List Block) → Type 0) (config : Config) (old : Told) (refused : ℕ → Bool) (images : Images)
    (kept : (k : ℕ) (conf : VolumeConf) → slice_get config.volumes.items k ≡ Some conf → refused k ≡ false → IsKeptImage (Fronts k) (Keeps k) (shape_in config conf) (at_name conf.name old.images) (image_of images k))
    (still : (k : ℕ) (conf : VolumeConf) → slice_get config.volumes.items k ≡ Some conf → refused k ≡ true → MayLeave (at_name conf.name old.images) (image_of images k)) where
  record IsPicked (k : ℕ) (conf : VolumeConf) (o : Option (List Block)) : Type 0 where
    pub may : MayLeave (at_name conf.name old.images) o
    pub two : refused k ≡ false → AreTwo (Fronts k) (Keeps k) (shape_in config conf) (image_of images k) o
    pub same : refused k ≡ true → o ≡ image_of images k

  picks : (k : ℕ) (conf : VolumeConf) → slice_get config.volumes.items k ≡ Some conf → (o : Option (List Block)) × IsPicked k conf o
  picks k conf is = go (refused k) refl
    where
      go : (t : Bool) → refused k ≡ t → (o : Option (List Block)) × IsPicked k conf o
      go true e = (image_of images k, record { may = still k conf is e; two = λ not. absurd (cc (e, not)); same = λ _. refl })
      go false e = let was = earlier (Fronts k) (Keeps k) (shape_in config conf) (at_name conf.name old.images) (image_of images k) (kept k conf is e) in
          (Some was.was, record { may = was.may; two = λ _. was.two; same = λ not. absurd (cc (e, not)) })

  -- one choice that was left at entry
  pub record IsBefore (before : Images) : Type 0 where
    pub left : AreLeft config old before
    pub two : (k : ℕ) (conf : VolumeConf) → slice_get config.volumes.items k ≡ Some conf → refused k ≡ false → AreTwo (Fronts k) (Keeps k) (shape_in config conf) (image_of images k) (image_of before k)
    pub same : (k : ℕ) (conf : VolumeConf) → slice_get config.volumes.items k ≡ Some conf → refused k ≡ true → image_of before k ≡ image_of images k

  pub kept_before : (before : Images) × IsBefore before
  kept_before =
      let p = picked config IsPicked picks in (
        p.0,
        record {
          left = record { count = p.1.count; each = λ k d lt. (p.1.each k (slice_index_or config.volumes.items k d) (slice_get-get_or config.volumes.items k d lt)).may };
          two = λ k conf is not. (p.1.each k conf is).two not;
          same = λ k conf is e. (p.1.each k conf is).same e;
        },
      )

  -- a refused image is the same, and each other goes with one that was
  pub two_or_same : (before : Images) → IsBefore before → (k : ℕ) (z : Shape) → slice_get (shapes_of config) k ≡ Some z → ((refused k ≡ true) × (image_of before k ≡ image_of images k)) ⊎ ((refused k ≡ false) × AreTwo (Fronts k) (Keeps k) z (image_of images k) (image_of before k))
  two_or_same before is k z at = go (refused k) refl
    where
      v : (v : VolumeConf) × (slice_get config.volumes.items k ≡ Some v) × (shape_in config v ≡ z)
      v = volume_at config k z at

      go : (t : Bool) → refused k ≡ t → ((refused k ≡ true) × (image_of before k ≡ image_of images k)) ⊎ ((refused k ≡ false) × AreTwo (Fronts k) (Keeps k) z (image_of images k) (image_of before k))
      go true e = inl (e, is.same k v.0 v.1 e)
      go false e = inr (e, subst (λ (s : Shape). AreTwo (Fronts k) (Keeps k) s (image_of images k) (image_of before k)) v.2 (is.two k v.0 v.1 e))

  module _ (before : Images) (is : IsBefore before) (v : ℕ) (fronts : (now was : List Block) → Fronts v now was → was ≡ now)
      (count : length images ≡ length config.volumes.items) (keeps : (k : ℕ) (c d : List Block) → Keeps k c d → SegmentsKeep v c d) where
    each_keeps : (k : ℕ) (s : Shape) → slice_get (shapes_of config) k ≡ Some s → (image_of images k ≡ image_of before k) ⊎ ImagesKeep v s (image_of images k) (image_of before k)
    each_keeps k s at = ⊎_elim (λ same. inl (sym same.1)) (λ two. inr (two_go (Fronts k) (Keeps k) s (SegmentsKeep v) (image_of images k) (image_of before k) (keeps k) two.1)) (two_or_same before is k s at)

    own_home : (o : Option Shape) → slice_get (shapes_of config) v ≡ o → home_in o (image_of images v) ≡ home_in o (image_of before v)
    own_home None e = refl
    own_home (Some s) e = ⊎_elim
        (λ same. ap (home_in (Some s)) (sym same.1))
        (λ two. sym (two_home (Fronts v) (Keeps v) s (image_of images v) (image_of before v) (λ now was front. ap (λ (l : List Block). slice_range l 2 (2 + s.home)) (fronts now was front)) two.1))
        (two_or_same before is v s e)

    -- where its segments keep the same of this volume, it recovers to the same
    pub before_same : recovered_but (shapes_of config) refused images v ≡ recovered_but (shapes_of config) refused before v
    before_same = recovered_same v refused (shapes_of config) images before (count ∙ sym is.left.count) (own_home (slice_get (shapes_of config) v) refl) (λ k s at taken. each_keeps k s at)

    -- and where all images give their segments
    pub before_all : recovered_from (shapes_of config) images v ≡ recovered_from (shapes_of config) before v
    before_all = recovered_all v (shapes_of config) images before (count ∙ sym is.left.count) (own_home (slice_get (shapes_of config) v) refl) each_keeps
