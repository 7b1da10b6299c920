-- Images one of which has another view than before: what volumes recover to, and that they are sound.
use Rattle.std.proofs.Common.{◌≡◌, ◌≢◌, inl, inr, ℕ, zero, suc, ◌+◌, ◌-◌, ◌*◌, ◌<◌, ◌≤◌, List, [], ◌∷◌, length, drop, take, Option, Some, refl, sym, ap, ◌∙◌, subst, arith}
use Rattle.std.specs.Prelude.{slice_get, slice_set, slice_range, Contains}
use Rattle.std.specs.List.{AllByRecursion}
use Rattle.std.proofs.lemmas.Bool.{cases_eq}
use Rattle.std.proofs.lemmas.Option.{same_Some}
use Rattle.wol_disk.specs.Disk.{Block, put}
use Rattle.wol_model.specs.Extents.{AreDistinct, covers_of, with_extents}
use Rattle.wol_model.specs.Heads.{Shape, IsViewList, view_block}
use Rattle.wol_model.specs.Images.{Images, image_of, image_size, all_segments, home_in, recovered_from, segment_of, segments_of, NamesOthers, IsSoundSegment, idle, log, IsSoundImage, AreSound}
use Rattle.wol_model.specs.Log.{Record, IsLog}
use Rattle.wol_model.specs.Recovered.{extents_in, extents_of, recovered}
use Rattle.logger_view.specs.Stored.{HasView, with_view}
use Rattle.manager.proofs.Lanes.{get_set, get_other}
use Rattle.rack.proofs.SameRecovered.{ImagesGo, same_extents}
use Rattle.rack.proofs.SoundBefore.{image_some, rows_pass, segments_are, some_image}

-- ---- Block 1

nothing_put : (bs : List Block) → put zero [] bs ≡ bs
nothing_put [] = refl
nothing_put (b ∷ bs) = refl

-- all behind the view is the same
behind_view : (n : ℕ) (b : Block) (bs : List Block) → 2 ≤ n → drop n (put 1 (b ∷ []) bs) ≡ drop n bs
behind_view zero b bs le = absurd (omega (arith, le))
behind_view (suc zero) b bs le = absurd (omega (arith, le))
behind_view (suc (suc n)) b [] le = refl
behind_view (suc (suc n)) b (x ∷ []) le = refl
behind_view (suc (suc n)) b (x ∷ y ∷ bs) le = ap (drop n) (nothing_put bs)

part_behind : (from to : ℕ) (b : Block) (bs : List Block) → 2 ≤ from → slice_range (put 1 (b ∷ []) bs) from to ≡ slice_range bs from to
part_behind from to b bs le = ap (take (to - from)) (behind_view from b bs le)

-- as many blocks
as_many : (b : Block) (bs : List Block) → length (put 1 (b ∷ []) bs) ≡ length bs
as_many b [] = refl
as_many b (x ∷ []) = refl
as_many b (x ∷ y ∷ bs) = ap (λ (l : List Block). length (x ∷ b ∷ l)) (nothing_put bs)

-- the label is the same, and the view is this one
first_same : (b : Block) (bs : List Block) → slice_get (put 1 (b ∷ []) bs) 0 ≡ slice_get bs 0
first_same b [] = refl
first_same b (x ∷ bs) = refl

second_is : (b : Block) (bs : List Block) → 2 ≤ length bs → slice_get (put 1 (b ∷ []) bs) 1 ≡ Some b
second_is b [] le = absurd (omega (arith, le))
second_is b (x ∷ []) le = absurd (omega (arith, le))
second_is b (x ∷ y ∷ bs) le = refl

pub shows_view : (ids : List ℕ) (bs : List Block) → 2 ≤ length bs → IsViewList ids → HasView (with_view ids bs) ids
shows_view ids bs le is = record { block = view_block ids; second = second_is (view_block ids) bs le; spelled = record { in_range = is; bytes = refl } }

-- ---- Images

-- these images are those, but for the view in the image of this volume
pub record OnlyView (shapes : List Shape) (volume : ℕ) (ids : List ℕ) (images before : Images) : Type 0 where
  pub shape : Shape
  pub shape_is : slice_get shapes volume ≡ Some shape
  pub count : length images ≡ length before
  pub others : (k : ℕ) → k ≢ volume → image_of images k ≡ image_of before k
  pub was : List Block
  pub was_is : image_of before volume ≡ Some was
  pub sized : length was ≡ image_size shape
  pub now_is : image_of images volume ≡ Some (with_view ids was)

-- each volume's image is there with its length
abbrev pub AllThere : List Shape → Images → Type 0
AllThere shapes images = (k : ℕ) (s : Shape) → slice_get shapes k ≡ Some s → (c : List Block) × (image_of images k ≡ Some c) × (length c ≡ image_size s)

module _ (shapes : List Shape) (volume : ℕ) (ids : List ℕ) (images before : Images) (only : OnlyView shapes volume ids images before) where
  shape_at : (s : Shape) → slice_get shapes volume ≡ Some s → only.shape ≡ s
  shape_at s at = same_Some only.shape s (sym only.shape_is ∙ at)

  now_sized : length (with_view ids only.was) ≡ image_size only.shape
  now_sized = as_many (view_block ids) only.was ∙ only.sized

  segment_same : (i : ℕ) → segment_of only.shape (with_view ids only.was) i ≡ segment_of only.shape only.was i
  segment_same i = part_behind (2 + only.shape.home + i * only.shape.segment_blocks) (2 + only.shape.home + (i + 1) * only.shape.segment_blocks) (view_block ids) only.was (omega arith)

  module _ (all : AllThere shapes before) where
    goes : (v k : ℕ) (s : Shape) → slice_get shapes k ≡ Some s → ImagesGo (λ now was. extents_in v now ≡ extents_in v was) s (image_of images k) (image_of before k)
    goes v k s at = elim (cases_eq k volume) [
      | inl same ↦
          let at' : slice_get shapes volume ≡ Some s = ap (slice_get shapes) (sym same) ∙ at in
          subst (λ (z : Shape). ImagesGo (λ now was. extents_in v now ≡ extents_in v was) z (image_of images k) (image_of before k)) (shape_at s at')
          (record {
            now = with_view ids only.was;
            was = only.was;
            now_is = ap (image_of images) same ∙ only.now_is;
            was_is = ap (image_of before) same ∙ only.was_is;
            now_sized = now_sized;
            was_sized = only.sized;
            segments = λ i lt. ap (extents_in v) (segment_same i);
          })
      | inr other ↦
          let c = all k s at in
          record { now = c.0; was = c.0; now_is = only.others k other ∙ c.1; was_is = c.1; now_sized = c.2; was_sized = c.2; segments = λ i lt. refl }
    ]

    -- each image is there with its length
    pub shown_there : AllThere shapes images
    shown_there k s at = let go = goes 0 k s at in (go.now, go.now_is, go.now_sized)

    extents_same : (v : ℕ) → extents_of v (all_segments shapes images) ≡ extents_of v (all_segments shapes before)
    extents_same v = same_extents v shapes images before only.count (λ k s at lt. goes v k s at)

    home_same : (v : ℕ) → home_in (slice_get shapes v) (image_of images v) ≡ home_in (slice_get shapes v) (image_of before v)
    home_same v = elim (cases_eq v volume) [
      | inl same ↦
          let here : home_in (slice_get shapes volume) (image_of images volume) ≡ home_in (slice_get shapes volume) (image_of before volume) =
          ap (λ (o : Option Shape). home_in o (image_of images volume)) only.shape_is
          ∙ ap (home_in (Some only.shape)) only.now_is
          ∙ part_behind 2 (2 + only.shape.home) (view_block ids) only.was (omega arith)
          ∙ sym (ap (home_in (Some only.shape)) only.was_is)
          ∙ sym (ap (λ (o : Option Shape). home_in o (image_of before volume)) only.shape_is) in
          subst (λ (k : ℕ). home_in (slice_get shapes k) (image_of images k) ≡ home_in (slice_get shapes k) (image_of before k)) (sym same) here
      | inr other ↦ ap (home_in (slice_get shapes v)) (only.others v other)
    ]

    -- each volume recovers to the same
    pub recovers_same : (v : ℕ) → recovered_from shapes images v ≡ recovered_from shapes before v
    unfolding recovered_from recovered
    recovers_same v =
        ap (λ (h : List Block). with_extents h (extents_of v (all_segments shapes images))) (home_same v)
        ∙ ap (with_extents (home_in (slice_get shapes v) (image_of before v))) (extents_same v)

  -- ---- Sound

  module _ (are : AreSound shapes before) (is_view : IsViewList ids) (names : NamesOthers (length shapes) volume ids)
      -- a logger that has a log of the volume is in its view again
      (keeps : (old : List ℕ) → HasView only.was old → (k i : ℕ) (s : Shape) (c : List Block) (rs : List Record) → slice_get shapes k ≡ Some s → image_of before k ≡ Some c → i < s.segments
      → Contains old k → IsLog (segment_of s c i) volume rs → Contains ids k) where
    views : List (List ℕ)
    views = slice_set are.views volume ids

    there : (k : ℕ) (s : Shape) → slice_get shapes k ≡ Some s → (c : List Block) × (image_of before k ≡ Some c) × (length c ≡ image_size s)
    there k s at = let was = are.each k s at in (was.0, some_image before k was.0 was.2, was.4.sized)

    -- the view that the volume had
    old : List ℕ
    old = (are.each volume only.shape only.shape_is).1

    old_at : slice_get are.views volume ≡ Some old
    unfolding old
    old_at = (are.each volume only.shape only.shape_is).3

    old_view : HasView only.was old
    unfolding old
    old_view =
        let was = are.each volume only.shape only.shape_is in
        let same : was.0 ≡ only.was = same_Some was.0 only.was (sym (some_image before volume was.0 was.2) ∙ only.was_is) in
        let view = was.4.view in
        subst (λ (c : List Block). HasView c was.1) same (record { block = view.0; second = view.1; spelled = view.2 })

    new_at : slice_get views volume ≡ Some ids
    unfolding views
    new_at = get_set are.views volume old ids old_at

    other_at : (k : ℕ) → k ≢ volume → slice_get views k ≡ slice_get are.views k
    unfolding views
    other_at k other = get_other are.views volume k ids other

    segment_again : (k i : ℕ) (s : Shape) (c : List Block) → slice_get shapes k ≡ Some s → image_of before k ≡ Some c → i < s.segments → (bs : List Block) → bs ≡ segment_of s c i
        → IsSoundSegment shapes are.views k bs → IsSoundSegment shapes views k bs
    segment_again k i s c at here lt bs is (idle free) = idle free
    segment_again k i s c at here lt bs is (log owner z its rs shape view has lies within) = elim (cases_eq owner volume) [
      | inl same ↦
          let its_old : its ≡ old = same_Some its old (sym view ∙ ap (slice_get are.views) same ∙ old_at) in
          let lies' : IsLog (segment_of s c i) volume rs = subst (λ (b : List Block). IsLog b volume rs) is (subst (λ (n : ℕ). IsLog bs n rs) same lies) in
          log owner z ids rs shape (ap (slice_get views) same ∙ new_at) (keeps old old_view k i s c rs at here lt (subst (λ (l : List ℕ). Contains l k) its_old has) lies') lies within
      | inr other ↦ log owner z its rs shape (other_at owner other ∙ view) has lies within
    ]

    segments_again : (k : ℕ) (s : Shape) (c : List Block) → slice_get shapes k ≡ Some s → image_of before k ≡ Some c → length c ≡ image_size s
        → AllByRecursion (IsSoundSegment shapes are.views k) (segments_of s (Some c)) → AllByRecursion (IsSoundSegment shapes views k) (segments_of s (Some c))
    segments_again k s c at here size all =
        let Q : List (List Block) → Type 0 = λ l. AllByRecursion (IsSoundSegment shapes views k) l in
        let P : List (List Block) → Type 0 = λ l. AllByRecursion (IsSoundSegment shapes are.views k) l in
        subst Q (sym (segments_are s c size))
        (rows_pass (IsSoundSegment shapes are.views k) (IsSoundSegment shapes views k) s c c 0 s.segments
        (λ i le lt. segment_again k i s c at here (omega (arith, lt)) (segment_of s c i) refl)
        (subst P (segments_are s c size) all))

    -- with the new view the image is sound
    shown_sound : IsSoundImage shapes views volume only.shape ids (with_view ids only.was)
    shown_sound =
        let was = are.each volume only.shape only.shape_is in
        let same : was.0 ≡ only.was = same_Some was.0 only.was (sym (some_image before volume was.0 was.2) ∙ only.was_is) in
        let sound = subst (λ (c : List Block). IsSoundImage shapes are.views volume only.shape was.1 c) same was.4 in
        let again = segments_again volume only.shape only.was only.shape_is only.was_is only.sized sound.segments in
        let rows = subst (λ (l : List (List Block)). AllByRecursion (IsSoundSegment shapes views volume) l) (segments_are only.shape only.was only.sized) again in
        record {
          sized = now_sized;
          label = (sound.label.0, first_same (view_block ids) only.was ∙ sound.label.1, sound.label.2);
          view = (view_block ids, second_is (view_block ids) only.was (omega (arith, only.sized)), record { in_range = is_view; bytes = refl }, names);
          segments = subst (λ (l : List (List Block)). AllByRecursion (IsSoundSegment shapes views volume) l) (sym (segments_are only.shape (with_view ids only.was) now_sized))
              (rows_pass (IsSoundSegment shapes views volume) (IsSoundSegment shapes views volume) only.shape (with_view ids only.was) only.was 0 only.shape.segments
              (λ i le lt s. subst (IsSoundSegment shapes views volume) (sym (segment_same i)) s) rows);
        }

    abbrev Sound : (v : ℕ) → Shape → Type 0
    Sound v s = (image : List Block) × (its : List ℕ) × (slice_get images v ≡ Some (Some image)) × (slice_get views v ≡ Some its) × IsSoundImage shapes views v s its image

    each_sound : (v : ℕ) (s : Shape) → slice_get shapes v ≡ Some s → Sound v s
    each_sound v s at = elim (cases_eq v volume) [
      | inl same ↦
          let at' : slice_get shapes volume ≡ Some s = ap (slice_get shapes) (sym same) ∙ at in
          let here : Sound volume s = (
            with_view ids only.was,
            ids,
            image_some images volume (with_view ids only.was) only.now_is,
            new_at,
            subst (λ (z : Shape). IsSoundImage shapes views volume z ids (with_view ids only.was)) (shape_at s at') shown_sound,
          ) in
          subst (λ (k : ℕ). Sound k s) (sym same) here
      | inr other ↦
          let was = are.each v s at in
          let here = some_image before v was.0 was.2 in (
            was.0,
            was.1,
            image_some images v was.0 (only.others v other ∙ here),
            other_at v other ∙ was.3,
            record { sized = was.4.sized; label = was.4.label; view = was.4.view; segments = segments_again v s was.0 at here was.4.sized was.4.segments },
          )
    ]

    -- the images are sound again
    pub sound_shown : AreSound shapes images
    sound_shown = record {
      views = views;
      each = each_sound;
      distinct = λ v lt. subst (λ es. AreDistinct (covers_of es)) (sym (extents_same there v)) (are.distinct v lt);
    }
