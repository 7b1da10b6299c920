-- The images that a crash may leave of formatted volumes are sound, and recover to zeros.
use Rattle.std.proofs.Common.{◌≡◌, ◌≢◌, ℕ, zero, suc, ◌+◌, ◌^◌, ◌<◌, ◌≤◌, List, [], ◌∷◌, ◌++◌, length, map, get_or, Option, None, Some, option_map, refl, sym, ap, ◌∙◌, subst, arith}
use Rattle.std.specs.Prelude.{slice_get, unwrap_or}
use Rattle.std.specs.List.{AllByRecursion}
use Rattle.std.proofs.lemmas.List.{length-map}
use Rattle.std.proofs.lemmas.List.Elements.{recursion_from_All}
use Rattle.std.proofs.lemmas.Option.{slice_get-map, slice_get_within, slice_get-get_or, none-some, same_Some}
use Rattle.wol_disk.specs.Disk.{Block}
use Rattle.wol_disk.specs.Zeros.{zeros}
use Rattle.wol_disk.proofs.Images.{only_image}
use Rattle.wol_model.specs.Heads.{Shape, IsShape, label_block, view_block}
use Rattle.wol_model.specs.Log.{IsIdle}
use Rattle.wol_model.specs.Extents.{Extent, AreDistinct, covers_of, with_extents, newest_block}
use Rattle.wol_model.specs.Recovered.{extents_of, recovered}
use Rattle.wol_model.specs.Images.{Images, image_of, home_in, all_segments, segments_of, recovered_from, NamesOthers, IsSoundSegment, IsSoundImage, AreSound}
use Rattle.wol_model.proofs.Images.{idle_none}
use Rattle.wol_model.proofs.Overlay.{none_over}
use Rattle.wol_bay.specs.Bay.{Image, Told}
use Rattle.wol_config.specs.declared.config.Config.{Config}
use Rattle.wol_config.specs.declared.config.VolumeConf.{VolumeConf}
use Rattle.wol_config.specs.Configs.{IsValid, IsValidVolume}
use Rattle.volume_images.specs.Formatted.{formatted}
use Rattle.volume_images.specs.Left.{settled_image}
use Rattle.volume_images.specs.Volumes.{shape_in, shapes_of, MayLeave, AreLeft}
use Rattle.volume_images.specs.Formats.{FormatsFirst}
use Rattle.volume_images.proofs.WholeImages.{whole_length, whole_home, segments_idle}

-- ---- There is one choice of images

abbrev pub whole_of : Config → (k : ℕ) → VolumeConf → List Block
whole_of config k v = formatted k (shape_in config v) v.view

abbrev pub images_from : Config → (k : ℕ) → List VolumeConf → Images
images_from config k [] = []
images_from config k (v ∷ vs) = Some (whole_of config k v) ∷ images_from config (k + 1) vs

pub one_left : (bs : List Block) (image : Option Image) (c : Option (List Block)) → image ≡ Some (settled_image bs) → MayLeave image c → c ≡ Some bs
one_left bs image None is left = let P : Option Image → Type 0 = λ o. MayLeave o None in absurd ((subst P is left) refl)
one_left bs image (Some c) is left = let P : Option Image → Type 0 = λ o. MayLeave o (Some c) in ap Some (only_image bs c (subst P is left).1)

each_is : (config : Config) (k : ℕ) (vs : List VolumeConf) (images : Images) → length images ≡ length vs
    → ((j : ℕ) (d : VolumeConf) → j < length vs → image_of images j ≡ Some (whole_of config (k + j) (get_or vs j d))) → images ≡ images_from config k vs
each_is config k [] [] count is = refl
each_is config k [] (image ∷ images) count is = absurd (omega (arith, count))
each_is config k (v ∷ vs) [] count is = absurd (omega (arith, count))
each_is config k (v ∷ vs) (image ∷ images) count is =
    let here : k + 0 ≡ k = omega arith in
    let first : image ≡ Some (whole_of config k v) = is 0 v (omega arith) ∙ ap (λ (n : ℕ). Some (whole_of config n v)) here in
    let rest : images ≡ images_from config (k + 1) vs =
    each_is config (k + 1) vs images (omega (arith, count)) (λ j d lt.
    let next : k + suc j ≡ k + 1 + j = omega arith in
    is (suc j) d (omega (arith, lt)) ∙ ap (λ (n : ℕ). Some (whole_of config n (get_or vs j d))) next) in
    λ i. first i ∷ rest i

pub one_choice : (config : Config) (old new : Told) (images : Images) → FormatsFirst config (length config.volumes.items) old new → AreLeft config new images → images ≡ images_from config 0 config.volumes.items
one_choice config old new images first left =
    each_is config 0 config.volumes.items images left.count (λ j d lt.
    let here : j ≡ 0 + j = omega arith in
    one_left (whole_of config j (get_or config.volumes.items j d)) _ (image_of images j) (first.each j d lt) (left.each j d lt) ∙ ap (λ (n : ℕ). Some (whole_of config n (get_or config.volumes.items j d))) here)

image_at : (config : Config) (k v : ℕ) (vs : List VolumeConf) (w : VolumeConf) → slice_get vs v ≡ Some w → slice_get (images_from config k vs) v ≡ Some (Some (whole_of config (k + v) w))
image_at config k v [] w e = absurd (none-some w e)
image_at config k zero (x ∷ vs) w e =
    let here : k ≡ k + zero = omega arith in
    let same : x ≡ w = same_Some x w e in
    ap (λ (y : VolumeConf). Some (Some (whole_of config k y))) same ∙ ap (λ (n : ℕ). Some (Some (whole_of config n w))) here
image_at config k (suc v) (x ∷ vs) w e =
    let next : k + 1 + v ≡ k + suc v = omega arith in
    image_at config (k + 1) v vs w e ∙ ap (λ (n : ℕ). Some (Some (whole_of config n w))) next

-- ---- No segment has a record

idle_both : (xs ys : List (List Block)) → AllByRecursion IsIdle xs → AllByRecursion IsIdle ys → AllByRecursion IsIdle (xs ++ ys)
idle_both [] ys a b = b
idle_both (x ∷ xs) ys a b = (a.0, idle_both xs ys a.1 b)

all_idle : (config : Config) (k : ℕ) (vs : List VolumeConf) → 1 ≤ config.segment_blocks → AllByRecursion IsIdle (all_segments (map (shape_in config) vs) (images_from config k vs))
all_idle config k [] le = tt
all_idle config k (v ∷ vs) le =
    idle_both (segments_of (shape_in config v) (Some (whole_of config k v))) (all_segments (map (shape_in config) vs) (images_from config (k + 1) vs))
    (segments_idle k (shape_in config v) v.view le) (all_idle config (k + 1) vs le)

pub none_kept : (owner : ℕ) (segments : List (List Block)) → AllByRecursion IsIdle segments → extents_of owner segments ≡ []
none_kept owner [] idle = refl
none_kept owner (bs ∷ segments) idle = ap (λ (l : List Extent). l ++ extents_of owner segments) (idle_none owner bs idle.0) ∙ none_kept owner segments idle.1

pub no_extents : (home : List Block) → with_extents home [] ≡ home
unfolding with_extents newest_block
no_extents home = none_over 0 home

-- ---- Each volume

pub shape_valid : (config : Config) (valid : IsValid config) (v : ℕ) (w : VolumeConf) → IsValidVolume (length config.volumes.items) v w → IsShape (shape_in config w)
shape_valid config valid v w is = record { home = is.home; segments = is.segments; segment_blocks = valid.segment_blocks }

module _ (config : Config) (valid : IsValid config) where
  abbrev vs : List VolumeConf
  vs = config.volumes.items

  abbrev images : Images
  images = images_from config 0 vs

  few : 1 ≤ config.segment_blocks
  few = omega (arith, valid.segment_blocks.0)

  -- the volume of a shape
  record IsVolume (v : ℕ) (s : Shape) : Type 0 where
    pub volume : VolumeConf
    pub at : slice_get vs v ≡ Some volume
    pub shape : shape_in config volume ≡ s
    pub valid_volume : IsValidVolume (length vs) v volume

  volume_of : (v : ℕ) (s : Shape) → slice_get (shapes_of config) v ≡ Some s → IsVolume v s
  volume_of v s e = go (slice_get vs v) refl (sym (slice_get-map (shape_in config) vs v) ∙ e)
    where
      go : (o : Option VolumeConf) → slice_get vs v ≡ o → option_map (shape_in config) o ≡ Some s → IsVolume v s
      go None is same = absurd (none-some s same)
      go (Some w) is same =
          let lt : v < length vs = slice_get_within vs v w is in
          let at : get_or vs v w ≡ w = same_Some (get_or vs v w) w (sym (slice_get-get_or vs v w lt) ∙ is) in
          record { volume = w; at = is; shape = same_Some (shape_in config w) s same; valid_volume = subst (λ (x : VolumeConf). IsValidVolume (length vs) v x) at (valid.volumes v w lt) }

  no_records : (owner : ℕ) → extents_of owner (all_segments (shapes_of config) images) ≡ []
  no_records owner = none_kept owner (all_segments (shapes_of config) images) (all_idle config 0 vs few)

  whole_at : (v : ℕ) (w : VolumeConf) → slice_get vs v ≡ Some w → slice_get images v ≡ Some (Some (whole_of config v w))
  whole_at v w e = let here : 0 + v ≡ v = omega arith in image_at config 0 v vs w e ∙ ap (λ (n : ℕ). Some (Some (whole_of config n w))) here

  names_others : (v : ℕ) (w : VolumeConf) → IsValidVolume (length vs) v w → NamesOthers (length (shapes_of config)) v w.view
  names_others v w is =
      let same : length vs ≡ length (shapes_of config) = sym (length-map vs (shape_in config)) in
      subst (λ (n : ℕ). NamesOthers n v w.view) same (recursion_from_All (λ id. (id < length vs) × (id ≢ v)) w.view (λ k d lt. (is.known k d lt, is.others k d lt)))

  idle_sound : (views : List (List ℕ)) (logger : ℕ) (segments : List (List Block)) → AllByRecursion IsIdle segments → AllByRecursion (IsSoundSegment (shapes_of config) views logger) segments
  idle_sound views logger [] all = tt
  idle_sound views logger (bs ∷ segments) all = (IsSoundSegment.idle all.0, idle_sound views logger segments all.1)

  abbrev views : List (List ℕ)
  views = map (λ (w : VolumeConf). w.view) vs

  pub whole_sound : (views : List (List ℕ)) (v : ℕ) (w : VolumeConf) → v < 2 ^ 32 → IsValidVolume (length vs) v w → IsSoundImage (shapes_of config) views v (shape_in config w) w.view (whole_of config v w)
  unfolding formatted
  whole_sound views v w known is = record {
    sized = whole_length v (shape_in config w) w.view few;
    label = (label_block v (shape_in config w), refl, record { id_in_range = known; in_range = shape_valid config valid v w is; bytes = refl });
    view = (view_block w.view, refl, record { in_range = is.view; bytes = refl }, names_others v w is);
    segments = idle_sound views v (segments_of (shape_in config w) (Some (whole_of config v w))) (segments_idle v (shape_in config w) w.view few);
  }

  pub are_sound : AreSound (shapes_of config) images
  are_sound = record {
    views = views;
    each = λ v s e.
        let w = volume_of v s e in
        let lt : v < length vs = slice_get_within vs v w.volume w.at in (
          whole_of config v w.volume,
          w.volume.view,
          whole_at v w.volume w.at,
          slice_get-map (λ (x : VolumeConf). x.view) vs v ∙ ap (option_map (λ (x : VolumeConf). x.view)) w.at,
          subst (λ (t : Shape). IsSoundImage (shapes_of config) views v t w.volume.view (whole_of config v w.volume)) w.shape (whole_sound views v w.volume (omega (arith, lt, valid.count.1)) w.valid_volume),
        );
    distinct = λ v lt. let P : List Extent → Type 0 = λ l. AreDistinct (covers_of l) in subst P (sym (no_records v)) tt;
  }

  pub are_zeros : (v : ℕ) (s : Shape) → slice_get (shapes_of config) v ≡ Some s → recovered_from (shapes_of config) images v ≡ zeros s.home
  unfolding recovered_from recovered
  are_zeros v s e =
      let w = volume_of v s e in
      let image : image_of images v ≡ Some (whole_of config v w.volume) = ap (λ (o : Option (Option (List Block))). unwrap_or o None) (whole_at v w.volume w.at) in
      let home : home_in (slice_get (shapes_of config) v) (image_of images v) ≡ zeros s.home =
      ap (λ (o : Option Shape). home_in o (image_of images v)) e ∙ ap (λ (o : Option (List Block)). home_in (Some s) o) image
      ∙ sym (ap (λ (t : Shape). home_in (Some t) (Some (whole_of config v w.volume))) w.shape)
      ∙ whole_home v (shape_in config w.volume) w.volume.view few ∙ ap (λ (t : Shape). zeros t.home) w.shape in
      ap (λ (l : List Block). with_extents l (extents_of v (all_segments (shapes_of config) images))) home ∙ ap (with_extents (zeros s.home)) (no_records v) ∙ no_extents (zeros s.home)
