-- Where the images of all volumes are out, none is refused.
use Rattle.std.proofs.Common.{◌≡◌, ◌<◌, ◌+◌, ℕ, Bool, false, cond, List, [], ◌∷◌, length, refl, ap, ◌∙◌, Option, None, not, arith}
use Rattle.std.specs.Prelude.{slice_get}
use Rattle.std.proofs.lemmas.List.{length-map}
use Rattle.wol_model.specs.Images.{Images, accepted, accepted_from, all_segments, home_in, image_of, recovered_from}
use Rattle.wol_model.specs.Recovered.{recovered}
use Rattle.wol_bay.specs.Bay.{Told, at_name}
use Rattle.wol_config.specs.declared.config.Config.{Config}
use Rattle.wol_config.specs.declared.config.VolumeConf.{VolumeConf}
use Rattle.volume_images.specs.Volumes.{image_read, images_read, shape_in, shapes_of}
use Rattle.rack.specs.Closes.{is_kept_home, recovered_out}
use Rattle.rack.specs.Owners.{images_taken}
use Rattle.rack.specs.Rests.{IsImageOut}
use Rattle.rack_parts.specs.declared.rack.ImageRest.{ImageRest}

accepted_all_from : (n : ℕ) (refused : ℕ → Bool) (images : Images) → ((k : ℕ) → k < length images → refused (n + k) ≡ false) → accepted_from n refused images ≡ images
accepted_all_from n refused [] none = refl
accepted_all_from n refused (x ∷ images) none =
    let first : refused n ≡ false = ap refused (omega arith) ∙ none 0 (omega arith) in
    let others = accepted_all_from (n + 1) refused images (λ k lt. ap refused (omega arith) ∙ none (k + 1) (omega (arith, lt))) in
    λ i. cond (first i) None x ∷ others i

module _ {D : Type 0} (config : Config) (out : List (Option (ImageRest D))) (all_out : (k : ℕ) → k < length (shapes_of config) → IsImageOut out k) where
  pub accepted_all : (images : Images) → length images ≡ length config.volumes.items → accepted (is_kept_home out) images ≡ images
  accepted_all images count = accepted_all_from 0 (is_kept_home out) images (λ k lt. at k (omega (arith, lt, count, length-map config.volumes.items (shape_in config))))
    where
      at : (k : ℕ) → k < length (shapes_of config) → is_kept_home out (0 + k) ≡ false
      at k lt = ap (is_kept_home out) (omega arith) ∙ ap not (all_out k lt)

  -- so the images that were taken are those that were read
  pub taken_all : (t : Told) → images_taken config out t ≡ images_read config t
  taken_all t = accepted_all (images_read config t) (length-map config.volumes.items (λ (v : VolumeConf). image_read (at_name v.name t.images)))

  -- and each volume recovers to what it does of all images
  pub recovered_all : (images : Images) → length images ≡ length config.volumes.items → (v : ℕ) → recovered_out config out images v ≡ recovered_from (shapes_of config) images v
  unfolding recovered_from
  recovered_all images count v = ap (λ (l : Images). recovered v (home_in (slice_get (shapes_of config) v) (image_of images v)) (all_segments (shapes_of config) l)) (accepted_all images count)
