-- What closing a rack leaves is sound where all was at its opening, and recovers to the same when it is opened again.
use Rattle.rack.proofs.ClosingBasics.{◌≡◌, ◌≢◌, ◌⊎◌, inl, inr, ⊎_elim, ℕ, ◌+◌, ◌<◌, Bool, true, not, List, [], ◌∷◌, map, length, Option, None, Some, is_some, refl, sym, ap, ◌∙◌, subst, arith}
use Rattle.rack.proofs.ClosingBasics.{◌≤◌, zero, suc, ◌++◌, Contains, All, slice_get, unwrap_or, IsTrue, AllByRecursion, range_with_len, cases_eq, All-contains, same_Some}
use Rattle.rack.proofs.ClosingTerms.{Block, State, reads, TellsContent, Told, BayState, AreDistinct, covers_of, Extent, with_extents, Shape, SpellsView, Images, image_of}
use Rattle.rack.proofs.ClosingTerms.{segment_of, segments_of, all_segments, accepted, IsSoundSegment, AreSound, idle, log, home_in, recovered_from, extents_in, extents_of, idle_none, one_view}
use Rattle.rack.proofs.ClosingTerms.{IsLog, IsIdle, after, writes, flight_of, IsCut, entries_of, Config, HasView, Station, notes_of, shapes_of, images_read, AreLeft}
use Rattle.rack.proofs.ClosingTerms.{IsTold, AreLeftOfParts, segments_out, is_kept_home, recovered_out, ComesFrom, from_here, from_pool, from_manager, IsLogOfStation, IsClosedVolume, RecoversTo}
use Rattle.rack.proofs.ClosingTerms.{BeganWith, WereThere, IsBegun, images_taken, HadRefused, IsOpenBase, IsStation, base_of_station, image_here, IsImageOut, IsSegmentHere, ImageRest, Rack, Rest}
use Rattle.rack.proofs.ClosingTerms.{AreForeign, IsForeign, FollowsOn, OpensAgain, OpensCut}
use Rattle.wol_model.specs.Index.{AreRising}
use Rattle.rack_parts.proofs.Members.{a_value, of_recursion, element_at, here_within, in_map}
use Rattle.wol_model.specs.Recovered.{recovered}
use Rattle.rack.proofs.SoundBefore.{Fewer, none, fewer_same, fewer_distinct, fewer_image, fewer_images, none_of, IsClosed, IsOpen, other_log, sound_came, fewer_came, segments_are}
use Rattle.rack.proofs.SoundBefore.{sound_with, some_image, at_front}
use Rattle.rack.proofs.KeptImages.{two_go}
use Rattle.rack.proofs.SameRecovered.{images_go}
use Rattle.rack.proofs.LeftImage.{volume_at, accepted_count, accepted_same, accepted_gone}
use Rattle.rack.proofs.LoggersNamed.{image_is_read}
use Rattle.rack.proofs.FinalImages.{IsCrash, distinct_left, array_out}
use Rattle.rack.proofs.StationParts.{place_of, one_place}
pub use Rattle.rack.proofs.LeftVolumes.{reads_are_left}
use Rattle.rack.proofs.LeftVolumes.{IsOver, shapes, refused, Fronts, Segments, before, chosen, is_out, two_or_same, has_station_or, over}
use Rattle.rack.proofs.HeldSegments.{no_log}

-- The images that a crash leaves of a rack that was closed are sound where all that it might have left at the rack's opening were.

module _ {D : Type 0} {state : D → State} {config : Config} {b : BayState} {r : Rack D} {entry new : Told} {images : Images} (over : IsOver state config b r entry new images)
    (apart : (s : Station D) → Contains r.stations.items s → AreDistinct (covers_of (extents_of s.id (segments_out config r.rest.images.items images)))) where
  open over use {can, began, left}

  module _ (are : AreSound (shapes over) (before over)) where
    is_open : (s : Station D) → Contains r.stations.items s → IsOpen r (shapes over) are.views s
    is_open s has =
        let base = All-contains (λ t. IsOpenBase config r.shared r.rest.images.items (base_of_station t)) r.stations.items s can.bases has in
        let owner : (base_of_station s).volume.began.owner ≡ s.id = (All-contains (λ t. IsStation t) r.stations.items s can.stations has).id in
        let begun = All-contains (λ t. IsBegun config (images_taken config r.rest.images.items entry) (base_of_station t).volume.began) r.stations.items s began.stations has in
        let out : IsImageOut r.rest.images.items s.id = subst (λ (k : ℕ). IsImageOut r.rest.images.items k) owner base.out in
        let m = a_value (image_here r.rest.images.items s.id) out in
        let within : s.id < length (shapes over) = let l = here_within r.rest.images.items s.id m.0 m.1 in omega (arith, l, can.rest.parts.images.0) in
        let z = element_at (shapes over) s.id within in
        let v = volume_at config s.id z.0 z.1 in
        let taken = ap not out in
        let o = is_out over s.id v.0 v.1 taken in
        let two = (chosen over).1.two s.id v.0 v.1 taken in
        let n = 2 + v.0.home in
        let sound = are.each s.id z.0 z.1 in
        let was : sound.0 ≡ two.go.was = same_Some sound.0 two.go.was (sym (some_image (before over) s.id sound.0 sound.2) ∙ two.go.was_is) in
        let now : two.go.now ≡ o.now = same_Some two.go.now o.now (sym two.go.now_is ∙ o.now_is) in
        let second : slice_get two.go.was 1 ≡ slice_get (reads o.entered.image.blocks) 1 =
        sym (at_front n 1 two.go.was (omega arith)) ∙ two.front.0 1 (omega arith) ∙ at_front n 1 two.go.now (omega arith) ∙ ap (λ (l : List Block). slice_get l 1) now
        ∙ sym (at_front 2 1 o.now (omega arith)) ∙ ap (λ (l : List Block). slice_get l 1) o.label ∙ at_front 2 1 (reads o.entered.image.blocks) (omega arith) in
        let read : image_of (images_taken config r.rest.images.items entry) s.id ≡ Some (reads o.entered.image.blocks) = accepted_same (refused over) (images_read config entry) s.id taken ∙ image_is_read config entry s.id v.0 o.entered.image v.1 o.entered.there o.entered.whole in
        let says : HasView (reads o.entered.image.blocks) (base_of_station s).volume.began.view = begun.view (reads o.entered.image.blocks) (ap (image_of (images_taken config r.rest.images.items entry)) owner ∙ read) in
        let block : says.block ≡ sound.4.view.0 = same_Some says.block sound.4.view.0 (sym says.second ∙ sym second ∙ ap (λ (l : List Block). slice_get l 1) (sym was) ∙ sound.4.view.1) in
        let same : sound.1 ≡ (base_of_station s).volume.began.view = one_view sound.4.view.0 sound.1 (base_of_station s).volume.began.view sound.4.view.2 (subst (λ (x : Block). SpellsView x (base_of_station s).volume.began.view) block says.spelled) in
        record { shape = z.0; shape_is = z.1; view = sound.3 ∙ ap (λ (ids : List ℕ). Some ids) same; home = base.home_blocks z.0 (ap (slice_get (shapes over)) owner ∙ z.1) }

    -- ---- No twins

    fewer_closed : (v : ℕ) → IsClosed r v → Fewer (extents_of v (all_segments (shapes over) images)) (extents_of v (all_segments (shapes over) (before over)))
    fewer_closed v closed = fewer_images v (shapes over) images (before over) (left.count ∙ sym (chosen over).1.left.count) (λ k z at. ⊎_elim
        (λ same. subst (λ (o : Option (List Block)). Fewer (extents_of v (segments_of z (image_of images k))) (extents_of v (segments_of z o))) (sym same.1) (fewer_same (extents_of v (segments_of z (image_of images k)))))
        (λ two. fewer_image v z (image_of images k) (image_of (before over) k) (two_go (Fronts over k) (Segments over k) z (λ now was. Fewer (extents_in v now) (extents_in v was)) (image_of images k) (image_of (before over) k) (λ c d came. fewer_came r v k c d closed came) two.1))
        (two_or_same over k z at))

    -- an open volume has no record in an image that isn't out
    module _ (s : Station D) (has : Contains r.stations.items s) where
      none_here : (k : ℕ) → refused over k ≡ true → (bs : List Block) → IsSoundSegment (shapes over) are.views k bs → extents_in s.id bs ≡ []
      none_here k is_refused bs (idle is_idle) = idle_none s.id bs is_idle
      none_here k is_refused bs (log owner z ids rs z_at view named is_log within) = ⊎_elim
          (λ (same : s.id ≡ owner).
          let base = All-contains (λ t. IsOpenBase config r.shared r.rest.images.items (base_of_station t)) r.stations.items s can.bases has in
          let ids_are : ids ≡ (base_of_station s).volume.began.view = same_Some ids (base_of_station s).volume.began.view (sym view ∙ ap (slice_get are.views) (sym same) ∙ (is_open s has).view) in
          let out = of_recursion (IsImageOut r.rest.images.items) (base_of_station s).volume.began.view k base.loggers_out (subst (λ (l : List ℕ). Contains l k) ids_are named) in
          absurd (cc (sym is_refused ∙ ap not out)))
          (λ (differs : s.id ≢ owner). other_log bs s.id owner rs is_log differs)
          (cases_eq s.id owner)

      all_none : (k : ℕ) → refused over k ≡ true → (bss : List (List Block)) → AllByRecursion (IsSoundSegment (shapes over) are.views k) bss → AllByRecursion (λ bs. extents_in s.id bs ≡ []) bss
      all_none k is_refused [] all = tt
      all_none k is_refused (bs ∷ bss) all = (none_here k is_refused bs all.0, all_none k is_refused bss all.1)

      fewer_open : Fewer (extents_of s.id (all_segments (shapes over) images)) (extents_of s.id (segments_out config r.rest.images.items images))
      fewer_open = fewer_images s.id (shapes over) images (accepted (refused over) images) (sym (accepted_count 0 (refused over) images)) (λ k z at. ⊎_elim
          (λ same.
          let was = are.each k z at in
          let nothing : extents_of s.id (segments_of z (image_of images k)) ≡ [] =
          ap (λ (o : Option (List Block)). extents_of s.id (segments_of z o)) (sym same.1 ∙ some_image (before over) k was.0 was.2)
          ∙ none_of s.id (segments_of z (Some was.0)) (all_none k same.0 (segments_of z (Some was.0)) was.4.segments) in
          subst (λ es. Fewer es (extents_of s.id (segments_of z (image_of (accepted (refused over) images) k)))) (sym nothing) (none (extents_of s.id (segments_of z (image_of (accepted (refused over) images) k)))))
          (λ two. subst (λ (o : Option (List Block)). Fewer (extents_of s.id (segments_of z (image_of images k))) (extents_of s.id (segments_of z o))) (sym (accepted_same (refused over) images k two.0)) (fewer_same (extents_of s.id (segments_of z (image_of images k)))))
          (two_or_same over k z at))

    sound_images : AreSound (shapes over) images
    sound_images = sound_with (Fronts over) (Segments over) (shapes over) images (before over) (λ k z at. ⊎_elim (λ same. inl same.1) (λ two. inr two.1) (two_or_same over k z at)) (λ k i now was front lt. front.0 i lt) are
        (λ k c d came. sound_came r (shapes over) are.views is_open k c d came)
        (λ v lt. ⊎_elim
        (λ s. subst (λ (w : ℕ). AreDistinct (covers_of (extents_of w (all_segments (shapes over) images)))) s.2
        (fewer_distinct (extents_of s.0.id (all_segments (shapes over) images)) (extents_of s.0.id (segments_out config r.rest.images.items images)) (fewer_open s.0 s.1) (apart s.0 s.1)))
        (λ closed. fewer_distinct (extents_of v (all_segments (shapes over) images)) (extents_of v (all_segments (shapes over) (before over))) (fewer_closed v closed) (are.distinct v lt))
        (has_station_or over v))

-- What closing leaves of a rack is sound where all was at its opening.
pub left_sound : {D : Type 0} {state : D → State} {tells : Bool} {config : Config} {b : BayState} {r : Rack D} {first second : Rest D} {old new : Told} {images : Images} (crash : IsCrash state tells config b r first second old new images) (entry : Told) → BeganWith state config entry r → WereThere config r.rest.images.items entry → HadRefused config r.rest.images.items entry old
    → ((choice : Images) → AreLeft config entry choice → AreSound (shapes_of config) choice) → AreSound (shapes_of config) images
left_sound crash entry began there had all_sound = let o = over crash entry began there had in sound_images o (λ s has. distinct_left crash s has) (all_sound (before o) (chosen o).1.left)

-- Images of which some aren't out again: a volume recovers to the same where its own and those of the loggers of its view are.

each_row : (P : List Block → Type 0) (f : ℕ → List Block) (from count : ℕ) → ((i : ℕ) → from ≤ i → i < from + count → P (f i)) → AllByRecursion P (map f (range_with_len from count))
each_row P f from zero each = tt
each_row P f from (suc count) each = (each from (omega arith) (omega arith), each_row P f (from + 1) count (λ i le lt. each i (omega (arith, le)) (omega (arith, lt))))

module _ {D : Type 0} (state : D → State) (tell_all : (d : D) → TellsContent (state d)) (config : Config) (t : Told) (r : Rack D) (stations : All (λ u. IsStation u) r.stations.items)
    (rising : AreRising (map (λ (u : Station D). u.id) r.stations.items)) (foreign : AreForeign state (map (λ (u : Station D). base_of_station u) r.stations.items) r.rest) (parts : AreLeftOfParts state config r t)
    (s : Station D) (has : Contains r.stations.items s) (images : Images) (left : AreLeft config t images) where
  -- a station with its number is this one
  same_station : (u : Station D) → Contains r.stations.items u → u.id ≡ s.id → u ≡ s
  same_station u x e = same_Some u s (sym (place_of r.stations.items u x) ∙ ap (slice_get r.stations.items) (one_place r.stations.items rising u s x has e) ∙ place_of r.stations.items s has)

  -- on another logger it has no log
  none_at : (k i : ℕ) (bs : List Block) → (Contains (base_of_station s).volume.began.view k → ⊥) → ComesFrom state r k i bs → extents_in s.id bs ≡ []
  none_at k i bs away (from_here p there im) = no_log s.id bs (λ rs log. is_foreign there tell_all bs (base_of_station s) rs im (in_map (λ (u : Station D). base_of_station u) r.stations.items s has)
      (subst (λ (w : ℕ). IsLog bs w rs) (sym (All-contains (λ u. IsStation u) r.stations.items s stations has).id) log))
    where
      is_foreign : IsSegmentHere r.rest k i p → IsForeign state (map (λ (u : Station D). base_of_station u) r.stations.items) p
      is_foreign (inl x) = foreign.places k i x.0 p x.1 x.2
      is_foreign (inr x) = foreign.held x.0 k i p x.1
  none_at k i bs away (from_pool never empty) = idle_none s.id bs empty
  none_at k i bs away (from_manager never u among view its whole) = go (cases_eq u.id s.id) its
    where
      go : (u.id ≡ s.id) ⊎ (u.id ≢ s.id) → IsIdle bs ⊎ IsLogOfStation u k bs → extents_in s.id bs ≡ []
      go (inl e) its_log = absurd (away (subst (λ (w : Station D). Contains (base_of_station w).volume.began.view k) (same_station u among e) view))
      go (inr differs) (inl empty) = idle_none s.id bs empty
      go (inr differs) (inr its_log) = other_log bs s.id u.id its_log.records its_log.log (λ e. differs (sym e))

  none_in_image : (k : ℕ) (z : Shape) (image : ImageRest D) → slice_get (shapes_of config) k ≡ Some z → image_here r.rest.images.items k ≡ Some image → (Contains (base_of_station s).volume.began.view k → ⊥)
      → extents_of s.id (segments_of z (image_of images k)) ≡ []
  none_in_image k z image at here away =
      let x = parts images left k z image at here in
      ap (λ (o : Option (List Block)). extents_of s.id (segments_of z o)) x.1
      ∙ ap (extents_of s.id) (segments_are z x.0 x.2.sized)
      ∙ none_of s.id (map (segment_of z x.0) (range_with_len 0 z.segments)) (each_row (λ bs. extents_in s.id bs ≡ []) (segment_of z x.0) 0 z.segments (λ i le lt. none_at k i (segment_of z x.0 i) away (x.2.segments i (omega (arith, lt)))))

  -- it recovers to the same of images some of which aren't out again
  module _ (out : List (Option (ImageRest D))) (no_more : (k : ℕ) → IsImageOut out k → IsImageOut r.rest.images.items k)
      (loggers : AllByRecursion (IsImageOut out) (base_of_station s).volume.began.view) where
    abbrev of_shape : Shape → Option (List Block) → List Extent
    of_shape z o = extents_of s.id (segments_of z o)

    taken : (k : ℕ) (z : Shape) → slice_get (shapes_of config) k ≡ Some z → of_shape z (image_of (accepted (is_kept_home out) images) k) ≡ of_shape z (image_of (accepted (is_kept_home r.rest.images.items) images) k)
    taken k z at = go (image_here out k) refl (image_here r.rest.images.items k) refl
      where
        here : (now : List (Option (ImageRest D))) (i : ImageRest D) → image_here now k ≡ Some i → image_of (accepted (is_kept_home now) images) k ≡ image_of images k
        here now i e = accepted_same (is_kept_home now) images k (ap (λ (x : Option (ImageRest D)). not (is_some x)) e)

        gone : (now : List (Option (ImageRest D))) → image_here now k ≡ None → image_of (accepted (is_kept_home now) images) k ≡ None
        gone now e = accepted_gone (is_kept_home now) images k (ap (λ (x : Option (ImageRest D)). not (is_some x)) e)

        go : (a : Option (ImageRest D)) → image_here out k ≡ a → (b : Option (ImageRest D)) → image_here r.rest.images.items k ≡ b
            → of_shape z (image_of (accepted (is_kept_home out) images) k) ≡ of_shape z (image_of (accepted (is_kept_home r.rest.images.items) images) k)
        go (Some a) e (Some b) f = ap (of_shape z) (here out a e ∙ sym (here r.rest.images.items b f))
        go None e None f = ap (of_shape z) (gone out e ∙ sym (gone r.rest.images.items f))
        go (Some a) e None f = let was = no_more k (ap is_some e) in absurd (let never = ap is_some f in cc (was, never))
        go None e (Some b) f =
            ap (of_shape z) (gone out e)
            ∙ sym (none_in_image k z b at f (λ view. let there = of_recursion (IsImageOut out) (base_of_station s).volume.began.view k loggers view in let never = ap is_some e in cc (there, never)))
            ∙ sym (ap (of_shape z) (here r.rest.images.items b f))

    pub recovered_again : recovered_out config out images s.id ≡ recovered_out config r.rest.images.items images s.id
    unfolding recovered
    recovered_again = ap (with_extents (home_in (slice_get (shapes_of config) s.id) (image_of images s.id)))
        (images_go (λ xs ys. xs ≡ ys) refl (λ a b c d e f i. e i ++ f i) s.id (shapes_of config) (accepted (is_kept_home out) images) (accepted (is_kept_home r.rest.images.items) images)
        (accepted_count 0 (is_kept_home out) images ∙ sym (accepted_count 0 (is_kept_home r.rest.images.items) images)) (λ k z at lt. taken k z at))

-- What a volume is opened with again, once its rack was closed.

module _ {D : Type 0} (tells : Bool) (state : D → State) (telling : IsTrue tells) (tell_all : (d : D) → TellsContent (state d)) (config : Config) (opened closed last : BayState) (t : Told) (r q : Rack D) (follows : FollowsOn state config opened closed last t r q)
    (s n : Station D) (has : Contains r.stations.items s) (has_next : Contains q.stations.items n) (same : n.id ≡ s.id) (loggers : AllByRecursion (IsImageOut q.rest.images.items) (base_of_station s).volume.began.view) (c : IsClosedVolume tells config r.rest.images.items opened closed s) where
  -- what closing said of the volume
  recovers : RecoversTo config r.rest.images.items s c.entries t
  recovers =
      let told = c.recovers telling in
      let R : Told → Told → Type 0 = λ o m. RecoversTo config r.rest.images.items s c.entries m in
      let one : IsTold R (Some follows.entry) closed.told = subst (λ o. IsTold R o closed.told) follows.entry_is told in
      let two : IsTold R (Some follows.entry) (Some t) = subst (λ o. IsTold R (Some follows.entry) o) follows.left_is one in
      two

  -- the array that it begins with again is what the images recover to as they read
  array_again : (base_of_station n).volume.began.array ≡ recovered_out config r.rest.images.items (images_read config t) s.id
  array_again =
      let begun = All-contains (λ (x : Station D). IsBegun config (images_taken config q.rest.images.items t) (base_of_station x).volume.began) q.stations.items n follows.began.stations has_next in
      let owner_next = (All-contains (λ (x : Station D). IsStation x) q.stations.items n follows.next.stations has_next).id in
      let base = All-contains (λ (x : Station D). IsOpenBase config q.shared q.rest.images.items (base_of_station x)) q.stations.items n follows.next.bases has_next in
      let out : IsImageOut q.rest.images.items s.id = subst (λ (k : ℕ). IsImageOut q.rest.images.items k) (owner_next ∙ same) base.out in
      begun.array
      ∙ ap (λ (k : ℕ). recovered_from (shapes_of config) (images_taken config q.rest.images.items t) k) (owner_next ∙ same)
      ∙ array_out config q.rest.images.items (images_read config t) s.id out
      ∙ recovered_again state tell_all config t r follows.rack.stations follows.rack.rising follows.rack.foreign follows.parts s has (images_read config t) (reads_are_left config t) q.rest.images.items follows.no_more loggers

  pub again : flight_of (entries_of (notes_of c.entries)) ≡ None → (base_of_station n).volume.began.array ≡ after (base_of_station s).volume.began.array (writes (entries_of (notes_of c.entries)))
  again up = array_again ∙ recovers.whole (images_read config t) (reads_are_left config t) up

  pub again_cut : IsCut (base_of_station s).volume.began.array (writes (entries_of (notes_of c.entries))) (unwrap_or (flight_of (entries_of (notes_of c.entries))) []) (base_of_station n).volume.began.array
  again_cut = subst (IsCut (base_of_station s).volume.began.array (writes (entries_of (notes_of c.entries))) (unwrap_or (flight_of (entries_of (notes_of c.entries))) [])) (sym array_again) (recovers.cut (images_read config t) (reads_are_left config t))

pub opens_again : {D : Type 0} (tells : Bool) (state : D → State) → (IsTrue tells → (d : D) → TellsContent (state d)) → OpensAgain tells state
opens_again tells state told telling config opened closed last t r q follows s n has has_next same loggers c up = again tells state telling (told telling) config opened closed last t r q follows s n has has_next same loggers c up

pub opens_cut : {D : Type 0} (tells : Bool) (state : D → State) → (IsTrue tells → (d : D) → TellsContent (state d)) → OpensCut tells state
opens_cut tells state told telling config opened closed last t r q follows s n has has_next same loggers c = again_cut tells state telling (told telling) config opened closed last t r q follows s n has has_next same loggers c
