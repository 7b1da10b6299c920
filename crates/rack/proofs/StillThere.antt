-- An image that was there, whatever a crash had left of it, is there afterwards.
use Rattle.rack.proofs.Basics.{◌≡◌, ◌⊎◌, ⊎_elim, ℕ, List, Option, None, Some, true, is_some, option_map, sym, ap, ◌∙◌, subst, slice_get, slice_set, slice_index_or, unwrap_or, cases_eq, length-set}
use Rattle.rack.proofs.Basics.{get_or_from_slice_get, slice_get-map}
use Rattle.rack.proofs.Terms.{Block, State, Shape, Images, image_of, IsThere, Name, Told, at_name, Config, VolumeConf, shapes_of, image_read, images_read, MayLeave, AreLeft, AreLeftOfParts}
use Rattle.rack.proofs.Terms.{HadRefused, ImageRest, WasAccepted, WereThere, image_here, is_kept_home, Rack}
use Rattle.manager.proofs.Lanes.{get_set, get_other}
use Rattle.rack.proofs.LeftImage.{may_at, volume_at}
use Rattle.rack.proofs.SoundClosed.{reads_are_left}
use Rattle.rack.proofs.Cases.{by_option, none_or}

-- whatever a crash had left of the images, that of volume v was there
abbrev pub WasThere : Config → Told → (v : ℕ) → Type 0
WasThere config old v = (before : Images) → AreLeft config old before → IsThere (shapes_of config) before v

-- the name of a volume of the configuration
name_at : (config : Config) (v : ℕ) (d conf : VolumeConf) → slice_get config.volumes.items v ≡ Some conf → (slice_index_or config.volumes.items v d).name ≡ conf.name
name_at config v d conf at = ap (λ (w : VolumeConf). w.name) (get_or_from_slice_get config.volumes.items v conf d at)

-- what a crash may leave of one image
module _ (config : Config) (old : Told) (images : Images) (v : ℕ) (conf : VolumeConf) (at : slice_get config.volumes.items v ≡ Some conf) (may : MayLeave (at_name conf.name old.images) (image_of images v)) where
  -- the images as they read before, with this one
  abbrev before : Images
  before = slice_set (images_read config old) v (image_of images v)

  here : image_of before v ≡ image_of images v
  here =
      let read_at : slice_get (images_read config old) v ≡ Some (image_read (at_name conf.name old.images))
      = slice_get-map (λ (w : VolumeConf). image_read (at_name w.name old.images)) config.volumes.items v ∙ ap (option_map (λ (w : VolumeConf). image_read (at_name w.name old.images))) at in
      ap (λ (o : Option (Option (List Block))). unwrap_or o None) (get_set (images_read config old) v (image_read (at_name conf.name old.images)) (image_of images v) read_at)

  -- they might have been left
  before_left : AreLeft config old before
  before_left = record {
    count = length-set (images_read config old) v (image_of images v) ∙ (reads_are_left config old).count;
    each = λ k d lt. ⊎_elim
        (λ (same : k ≡ v).
        let name : (slice_index_or config.volumes.items k d).name ≡ conf.name = ap (λ (n : ℕ). (slice_index_or config.volumes.items n d).name) same ∙ name_at config v d conf at in
        let image : image_of before k ≡ image_of images v = ap (λ (n : ℕ). image_of before n) same ∙ here in
        subst (λ (o : Option (List Block)). MayLeave (at_name (slice_index_or config.volumes.items k d).name old.images) o) (sym image)
        (subst (λ (n : Name). MayLeave (at_name n old.images) (image_of images v)) (sym name) may))
        (λ (differs : k ≡ v → ⊥).
        let image : image_of before k ≡ image_of (images_read config old) k = ap (λ (o : Option (Option (List Block))). unwrap_or o None) (get_other (images_read config old) v k (image_of images v) differs) in
        subst (λ (o : Option (List Block)). MayLeave (at_name (slice_index_or config.volumes.items k d).name old.images) o) (sym image) ((reads_are_left config old).each k d lt))
        (cases_eq k v);
  }

  -- an image that might have been left before is there as those before
  pub there_may : WasThere config old v → IsThere (shapes_of config) images v
  there_may all = let x = all before before_left in (x.0, x.1, x.2, sym here ∙ x.3, x.4)

-- the volume that was there is one of the configuration
pub conf_there : (config : Config) (old : Told) (v : ℕ) → WasThere config old v → (z : Shape) × (conf : VolumeConf) × (slice_get (shapes_of config) v ≡ Some z) × (slice_get config.volumes.items v ≡ Some conf)
conf_there config old v all =
    let x = all (images_read config old) (reads_are_left config old) in
    let w = volume_at config v x.0 x.2 in
    (x.0, w.0, x.2, w.1)

-- of a rack that was closed: an image that was out is back whole, and one that wasn't is left as before
pub there_left : {D : Type 0} (state : D → State) (config : Config) (r : Rack D) (old new : Told) → HadRefused config r.rest.images.items old new → AreLeftOfParts state config r new
    → (images : Images) → AreLeft config new images → (v : ℕ) → WasThere config old v → IsThere (shapes_of config) images v
there_left {D} state config r old new had parts images left v all =
    let c = conf_there config old v all in
    by_option (image_here r.rest.images.items v)
    (λ none. there_may config old images v c.1 c.3 (had v c.1 c.3 none (image_of images v) (may_at config new images left v c.1 c.3)) all)
    (λ m here. let x = parts images left v c.0 m c.2 here in (c.0, x.0, c.2, x.1, x.2.sized))

-- an image that gives no segments, and one that couldn't be opened as it read, isn't out
pub kept_home : {D : Type 0} (config : Config) (out : List (Option (ImageRest D))) (t : Told) → WereThere config out t → (k : ℕ) (v : VolumeConf) → slice_get config.volumes.items k ≡ Some v
    → (is_kept_home out k ≡ true) ⊎ (WasAccepted config t k v → ⊥) → image_here out k ≡ None
kept_home config out t there k v at or = none_or (image_here out k)
    (λ r here. ⊎_elim (λ home. let is = ap is_some here in cc (is, home)) (λ never. never (there k v at (ap is_some here))) or)
