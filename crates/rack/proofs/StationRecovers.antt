-- What images of a station's parts recover to, among all segments.
use Rattle.rack.proofs.ClosingBasics.{◌≡◌, ◌≢◌, ◌<◌, ◌≤◌, ◌⊎◌, inl, inr, ℕ, Bool, List, [], ◌∷◌, length, map, Option, Some, None, refl, sym, ap, ◌∙◌, subst, arith, AllPairs, Contains, IsTrue}
use Rattle.rack.proofs.ClosingBasics.{is_some, slice_get, unwrap_or, AllByRecursion, AllZip, cases_lt, slice_get_within, get_or_from_slice_get, All-from_recursion}
use Rattle.rack.proofs.ClosingTerms.{Block, State, IsImageOf, after, AreDistinct, Extent, covers_of, with_extents, Shape, writes, flight_of, IsCut, Images, image_of, image_size, segment_of}
use Rattle.rack.proofs.ClosingTerms.{all_segments, Indexed, Listed, listed_in, IsLog, extent_of, extents_in, extents_of, Held, IsBacked, extents_held, Noted, entries_of, state_of, volume_of}
use Rattle.rack.proofs.ClosingTerms.{Spun, parts_of, all_held, Keeps, AreListedOf, IsOfExtent, IsOnLogger, Write}
use Rattle.wol_model.specs.Recovered.{recovered}
use Rattle.wol_promise.specs.Stands.{place_in, ApartFrom, AreApartPlaces, IsHeldBy, IsWhole, IsSoundOf, AreSoundOf}
use Rattle.wol_promise.proofs.Choices.{chosen_extents, recovers_from}
use Rattle.wol_promise.proofs.SoundSegments.{logs_sound}
use Rattle.manager.specs.declared.base.ManagerBase.{ManagerBase}
use Rattle.manager.specs.declared.manager.Manager.{Manager}
use Rattle.wol_model.proofs.Histories.{cut_whole}
use Rattle.std.proofs.lemmas.List.Elements.{recursion_from_All}
use Rattle.rack_parts.proofs.Members.{of_map, of_recursion}
use Rattle.rack.proofs.HeldSegments.{listed_held, listed_same, of_record}
use Rattle.rack.proofs.SameSegments.{unmapped, Placed, AreApartPlaced, AreThese, Shuffled, same_extents, shuffled_same, shuffled_distinct, shuffled_to, shuffled_from}

-- the blocks of a segment of these images
abbrev pub blocks_in : Option Shape → Option (List Block) → (i : ℕ) → List Block
blocks_in None image i = []
blocks_in (Some z) None i = []
blocks_in (Some z) (Some c) i = segment_of z c i

-- two places of a list without twins that have one number are one
same_place : (xs : List ℕ) (i j n : ℕ) → AllPairs (λ a b. a ≢ b) xs → slice_get xs i ≡ Some n → slice_get xs j ≡ Some n → i ≡ j
same_place xs i j n apart at_i at_j = go (cases_lt i j) (cases_lt j i)
  where
    go : (i < j) ⊎ (j ≤ i) → (j < i) ⊎ (i ≤ j) → i ≡ j
    go (inl less) other = absurd (apart i j n less (slice_get_within xs j n at_j) (get_or_from_slice_get xs i n n at_i ∙ sym (get_or_from_slice_get xs j n n at_j)))
    go (inr le) (inl less) = absurd (apart j i n less (slice_get_within xs i n at_i) (get_or_from_slice_get xs j n n at_j ∙ sym (get_or_from_slice_get xs i n n at_i)))
    go (inr le) (inr also) = omega (arith, le, also)

same_recovered : (v : ℕ) (home : List Block) (ss ts : List (List Block)) → with_extents home (extents_of v ss) ≡ with_extents home (extents_of v ts) → recovered v home ss ≡ recovered v home ts
unfolding recovered
same_recovered v home ss ts same = same

module _ {D : Type 0} (tells : Bool) (state : D → State) (told : IsTrue tells) (m : Manager D) (b : ManagerBase) (notes : List Noted) (kp : Keeps tells state m b notes) (view_apart : AllPairs (λ j k. j ≢ k) b.volume.began.view)
    (shapes : List Shape) (images : Images) (home : List Block) where
  abbrev held : List (Held (Spun D))
  held = all_held 0 m.lanes.items kp.logs

  abbrev v : ℕ
  v = b.volume.began.owner

  -- the segment of these images at the place of a held one
  abbrev blocks_of_held : Held (Spun D) → List Block
  blocks_of_held h = blocks_in (slice_get shapes (volume_of h.part)) (image_of images (volume_of h.part)) h.index

  abbrev placed_held : Held (Spun D) → Placed
  placed_held h = ((volume_of h.part, h.index), blocks_of_held h)

  -- a held segment is there among these images
  pub record IsThereNow (h : Held (Spun D)) : Type 0 where
    pub shape : Shape
    pub image : List Block
    pub shape_is : slice_get shapes (volume_of h.part) ≡ Some shape
    pub image_is : image_of images (volume_of h.part) ≡ Some image
    pub within : h.index < shape.segments
    pub left : IsImageOf (state_of state h.part).values (segment_of shape image h.index)

  pub record AreLeftNow : Type 0 where
    pub sized : (k : ℕ) (z : Shape) (c : List Block) → slice_get shapes k ≡ Some z → image_of images k ≡ Some c → length c ≡ image_size z
    pub home_left : IsImageOf (state_of state m.home).values home
    pub each : AllByRecursion IsThereNow held
    pub others : (k i : ℕ) (z : Shape) (c : List Block) → slice_get shapes k ≡ Some z → image_of images k ≡ Some c → i < z.segments → AllByRecursion (λ (h : Held (Spun D)). ◌≢◌ {A = ℕ × ℕ} (volume_of h.part, h.index) (k, i)) held
        → extents_in v (segment_of z c i) ≡ []

  module _ (are : AreLeftNow) where
    abbrev Left : Held (Spun D) → List Block → Type 0
    Left h bs = IsTrue tells × IsImageOf (state_of state h.part).values bs

    chosen : (hs : List (Held (Spun D))) → AllByRecursion IsThereNow hs → AllZip (λ (h : Held (Spun D)) bs. IsTrue tells × IsImageOf (state_of state h.part).values bs) hs (map (λ (p : Placed). p.1) (map placed_held hs))
    chosen [] all = tt
    chosen (h ∷ hs) all =
        let t = all.0 in
        ((told, subst (λ (bs : List Block). IsImageOf (state_of state h.part).values bs) (sym (λ i. blocks_in (t.shape_is i) (t.image_is i) h.index)) t.left), chosen hs all.1)

    there_each : (hs : List (Held (Spun D))) → AllByRecursion IsThereNow hs
        → AllByRecursion (λ (p : Placed). (s : Shape) × (c : List Block) × (slice_get shapes p.0.0 ≡ Some s) × (image_of images p.0.0 ≡ Some c) × (p.0.1 < s.segments) × (p.1 ≡ segment_of s c p.0.1)) (map placed_held hs)
    there_each [] all = tt
    there_each (h ∷ hs) all = let t = all.0 in ((t.shape, t.image, t.shape_is, t.image_is, t.within, λ i. blocks_in (t.shape_is i) (t.image_is i) h.index), there_each hs all.1)

    apart_from : (h : Held (Spun D)) (hs : List (Held (Spun D))) → IsHeldBy (parts_of tells state) b.volume.began h → AllByRecursion (IsHeldBy (parts_of tells state) b.volume.began) hs → ApartFrom (place_in h) (map place_in hs)
        → AllByRecursion (λ (g : Placed). (volume_of h.part, h.index) ≢ g.0) (map placed_held hs)
    apart_from h [] mine all apart = tt
    apart_from h (g ∷ hs) mine all apart = (
      λ same.
          let volume : volume_of h.part ≡ volume_of g.part = ap (λ (p : ℕ × ℕ). p.0) same in
          let index : h.index ≡ g.index = ap (λ (p : ℕ × ℕ). p.1) same in
          let lane : h.lane ≡ g.lane = same_place b.volume.began.view h.lane g.lane (volume_of h.part) view_apart mine.logger (all.0.logger ∙ ap (λ (n : ℕ). Some n) (sym volume)) in
          apart.0 (λ i. (lane i, index i)),
      apart_from h hs mine all.1 apart.1,
    )

    apart_each : (hs : List (Held (Spun D))) → AllByRecursion (IsHeldBy (parts_of tells state) b.volume.began) hs → AreApartPlaces (map place_in hs) → AreApartPlaced (map placed_held hs)
    apart_each [] all apart = tt
    apart_each (h ∷ hs) all apart = (apart_from h hs all.0 all.1 apart.0, apart_each hs all.1 apart.1)

    these : AreThese shapes images v (map placed_held held)
    these = record {
      sized = are.sized;
      there = All-from_recursion (λ (p : Placed). (s : Shape) × (c : List Block) × (slice_get shapes p.0.0 ≡ Some s) × (image_of images p.0.0 ≡ Some c) × (p.0.1 < s.segments) × (p.1 ≡ segment_of s c p.0.1)) (map placed_held held) (there_each held are.each);
      apart = apart_each held kp.upholds.places.each kp.upholds.places.apart;
      others = λ k i z c shape_is image_is within all. are.others k i z c shape_is image_is within
          (unmapped (λ (p : Placed). ◌≢◌ {A = ℕ × ℕ} p.0 (k, i)) placed_held held (recursion_from_All (λ (p : Placed). ◌≢◌ {A = ℕ × ℕ} p.0 (k, i)) (map placed_held held) all));
    }

    abbrev chosen_segments : List (List Block)
    chosen_segments = map (λ (p : Placed). p.1) (map placed_held held)

    shuffled : Shuffled (extents_of v chosen_segments) (extents_of v (all_segments shapes images))
    shuffled = same_extents shapes images v (map placed_held held) these

    -- each of them is sound
    sound_chosen : AreSoundOf v b.volume.began.home_blocks chosen_segments
    sound_chosen = of_flight (flight_of (entries_of notes)) refl
      where
        of_flight : (o : Option (List Write)) → flight_of (entries_of notes) ≡ o → AreSoundOf v b.volume.began.home_blocks chosen_segments
        of_flight (Some fl) e = kp.upholds.sound told (ap is_some e) chosen_segments (chosen held are.each)
        of_flight None e =
            let whole = (kp.upholds.calm e).whole told in
            logs_sound (λ h bs. IsTrue tells × IsImageOf (state_of state h.part).values bs) v b.volume.began.home_blocks held whole.logs (kp.upholds.known told).within whole.distinct chosen_segments (chosen held are.each)

    pub sound_now : AllByRecursion (λ (h : Held (Spun D)). IsSoundOf v b.volume.began.home_blocks (blocks_of_held h)) held
    sound_now = unmapped (λ (p : Placed). IsSoundOf v b.volume.began.home_blocks p.1) placed_held held (unmapped (IsSoundOf v b.volume.began.home_blocks) (λ (p : Placed). p.1) (map placed_held held) sound_chosen.each)

    pub distinct_now : AreDistinct (covers_of (extents_of v (all_segments shapes images)))
    distinct_now = shuffled_distinct (extents_of v chosen_segments) (extents_of v (all_segments shapes images)) shuffled sound_chosen.distinct

    same_now : recovered v home chosen_segments ≡ recovered v home (all_segments shapes images)
    same_now = same_recovered v home chosen_segments (all_segments shapes images) (shuffled_same home (extents_of v chosen_segments) (extents_of v (all_segments shapes images)) shuffled sound_chosen.distinct)

    whole_chosen : flight_of (entries_of notes) ≡ None → recovered v home chosen_segments ≡ after b.volume.began.array (writes (entries_of notes))
    whole_chosen up =
        let whole = (kp.upholds.calm up).whole told in
        recovers_from (λ h bs. IsTrue tells × IsImageOf (state_of state h.part).values bs) v (λ bs. IsTrue tells × IsImageOf (state_of state m.home).values bs) held (after b.volume.began.array (writes (entries_of notes)))
        whole.logs (λ image is. (whole.holds image is).stands) home chosen_segments (told, are.home_left) (chosen held are.each)

    -- a cut of the writes in flight
    pub cut_now : IsCut b.volume.began.array (writes (entries_of notes)) (unwrap_or (flight_of (entries_of notes)) []) (recovered v home (all_segments shapes images))
    cut_now = subst (λ (x : List Block). IsCut b.volume.began.array (writes (entries_of notes)) (unwrap_or (flight_of (entries_of notes)) []) x) same_now (of_flight (flight_of (entries_of notes)) refl)
      where
        of_flight : (o : Option (List Write)) → flight_of (entries_of notes) ≡ o → IsCut b.volume.began.array (writes (entries_of notes)) (unwrap_or o []) (recovered v home chosen_segments)
        of_flight (Some fl) e = kp.upholds.cut told fl e home chosen_segments (told, are.home_left) (chosen held are.each)
        of_flight None e = subst (λ (x : List Block). IsCut b.volume.began.array (writes (entries_of notes)) [] x) (sym (whole_chosen e)) (cut_whole b.volume.began.array (writes (entries_of notes)) [])

    -- where nothing broke
    module _ (up : flight_of (entries_of notes) ≡ None) where
      whole_is : IsWhole (parts_of tells state) b.volume.began (writes (entries_of notes)) m.next m.home held m.index.entries
      whole_is = (kp.upholds.calm up).whole told

      pub whole_now : recovered v home (all_segments shapes images) ≡ after b.volume.began.array (writes (entries_of notes))
      whole_now = sym same_now ∙ whole_chosen up

      -- what the index lists is what is left
      pub listed_now : AreListedOf (listed_in m.index.entries) (extents_of v (all_segments shapes images))
      listed_now =
          let same : extents_of v chosen_segments ≡ extents_held held =
          chosen_extents (λ h bs. IsTrue tells × IsImageOf (state_of state h.part).values bs) v held chosen_segments whole_is.logs (chosen held are.each) in
          listed_same (listed_in m.index.entries) (extents_of v chosen_segments) (extents_of v (all_segments shapes images)) (shuffled_to (extents_of v chosen_segments) (extents_of v (all_segments shapes images)) shuffled)
          (shuffled_from (extents_of v chosen_segments) (extents_of v (all_segments shapes images)) shuffled)
          (subst (λ (xs : List Extent). AreListedOf (listed_in m.index.entries) xs) (sym same) (listed_held m.index.entries held whole_is.index (kp.upholds.calm up).sorted))

      -- and each lies on its lane's logger
      pub on_loggers_now : (e : Listed) → Contains (listed_in m.index.entries) e → IsOnLogger shapes images v b.volume.began.view e
      on_loggers_now e has =
          let d = of_map (λ (x : Indexed). x.listed) m.index.entries e has in
          let k : IsBacked held d.0 = of_recursion (IsBacked held) m.index.entries d.0 whole_is.index.only d.1 in
          let h = k.segment in
          let t : IsThereNow h = of_recursion IsThereNow held h are.each k.is_held in
          let placed : IsHeldBy (parts_of tells state) b.volume.began h = of_recursion (IsHeldBy (parts_of tells state) b.volume.began) held h kp.upholds.places.each k.is_held in
          let logs = of_recursion (λ (s : Held (Spun D)). (bs : List Block) → IsTrue tells × IsImageOf (state_of state s.part).values bs → IsLog bs v s.records) held h whole_is.logs k.is_held in
          record {
            its = record {
              logger = volume_of h.part;
              lane = ap (slice_get b.volume.began.view) (ap (λ (l : Listed). l.lane) (sym d.2) ∙ k.is_its.lane) ∙ placed.logger;
              shape = t.shape;
              shape_is = t.shape_is;
            };
            image = t.image;
            there = t.image_is;
            index = h.index;
            within = t.within;
            records = h.records;
            log = logs (segment_of t.shape t.image h.index) (told, t.left);
            record_ = k.record_;
            among = (k.k, slice_get_within h.records k.k k.record_ k.is_there, get_or_from_slice_get h.records k.k k.record_ k.record_ k.is_there);
            is_its = subst (λ (l : Listed). IsOfExtent (extent_of k.record_) l) d.2 (of_record h k.k k.record_ d.0 k.is_its);
          }
