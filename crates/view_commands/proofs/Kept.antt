-- Images whose labels and views are those at entry.
use Rattle.std.proofs.Common.{◌≡◌, inl, inr, ◌<◌, ℕ, zero, suc, Bool, true, false, cond, List, [], ◌∷◌, length, take, nat_eq, Option, None, Some, option_map, refl, sym, ap, ◌∙◌, subst, arith}
use Rattle.std.specs.Prelude.{slice_get, slice_range, slice_index_or, unwrap_or}
use Rattle.std.proofs.lemmas.Bool.Decides.{nat_tests}
use Rattle.std.proofs.lemmas.List.{length-map}
use Rattle.std.proofs.lemmas.Option.{none-some, same_Some, slice_get-map, slice_get-get_or}
use Rattle.wol_disk.specs.Disk.{Block, reads}
use Rattle.wol_disk.proofs.Images.{image_reads}
use Rattle.wol_bay.specs.Bay.{Image, Told, at_name}
use Rattle.wol_config.specs.declared.config.Config.{Config}
use Rattle.wol_config.specs.declared.config.VolumeConf.{VolumeConf}
use Rattle.wol_model.specs.Heads.{Shape}
use Rattle.wol_model.specs.Images.{Images, image_of, image_size}
use Rattle.logger_view.specs.Stored.{HasLabel, HasView, IsFirstFault}
use Rattle.volume_images.specs.Volumes.{AreLeft, MayLeave, image_read, images_read, shape_in}
use Rattle.rack.specs.Opens.{WasAccepted}
use Rattle.rack.proofs.SoundBefore.{at_front}
use Rattle.view_commands.specs.Views.{HasViewIn}

-- The image of volume k that is left: it has its length, and its label and view read as those at entry. `ids` is its view.
pub record HasFront (config : Config) (entry : Told) (images : Images) (k : ℕ) (v : VolumeConf) : Type 0 where
  -- the one at entry
  pub was : WasAccepted config entry k v
  pub blocks : List Block
  pub here : image_of images k ≡ Some blocks
  pub sized : length blocks ≡ image_size (shape_in config v)
  pub front : slice_range blocks 0 2 ≡ slice_range (reads was.0.blocks) 0 2
  pub ids : List ℕ
  pub view : HasView (reads was.0.blocks) ids

-- that of each volume
abbrev pub KeepsFronts : Config → (entry left : Told) → Type 0
KeepsFronts config entry left = (images : Images) → AreLeft config left images → (k : ℕ) (v : VolumeConf) → slice_get config.volumes.items k ≡ Some v → HasFront config entry images k v

-- ---- Images as they read

pub read_whole : (i : Image) → i.rest ≡ [] → image_read (Some i) ≡ Some (reads i.blocks)
read_whole i is = ap (λ (l : List ℕ). cond (nat_eq (length l) 0) (Some (reads i.blocks)) None) is

no_bytes : (rest : List ℕ) → length rest ≡ 0 → rest ≡ []
no_bytes [] none = refl
no_bytes (x ∷ rest) none = absurd (omega (arith, none))

pub read_some : (o : Option Image) (c : List Block) → image_read o ≡ Some c → (i : Image) × (o ≡ Some i) × (i.rest ≡ []) × (reads i.blocks ≡ c)
read_some None c is = absurd (none-some c is)
read_some (Some i) c is = go (nat_eq (length i.rest) 0) refl
  where
    go : (b : Bool) → nat_eq (length i.rest) 0 ≡ b → (j : Image) × (Some i ≡ Some j) × (j.rest ≡ []) × (reads j.blocks ≡ c)
    go true t =
        let none : i.rest ≡ [] = no_bytes i.rest (grind (arith, nat_tests, t)) in
        (i, refl, none, same_Some (reads i.blocks) c (sym (read_whole i none) ∙ is))
    go false f = absurd (none-some c (sym (ap (λ (b : Bool). cond b (Some (reads i.blocks)) None) f) ∙ is))

may_read : (o : Option Image) → MayLeave o (image_read o)
may_read None = tt
may_read (Some i) = go (nat_eq (length i.rest) 0) refl
  where
    go : (b : Bool) → nat_eq (length i.rest) 0 ≡ b → MayLeave (Some i) (image_read (Some i))
    go true t =
        let none : i.rest ≡ [] = no_bytes i.rest (grind (arith, nat_tests, t)) in
        subst (λ (o : Option (List Block)). MayLeave (Some i) o) (sym (read_whole i none)) (none, image_reads i.blocks)
    go false f =
        let is : image_read (Some i) ≡ None = ap (λ (b : Bool). cond b (Some (reads i.blocks)) None) f in
        subst (λ (o : Option (List Block)). MayLeave (Some i) o) (sym is) (λ empty. (let zero_long : length i.rest ≡ 0 = ap length empty in absurd (grind (arith, nat_tests, f, zero_long))))

pub read_at : (config : Config) (t : Told) (k : ℕ) (v : VolumeConf) → slice_get config.volumes.items k ≡ Some v → image_of (images_read config t) k ≡ image_read (at_name v.name t.images)
read_at config t k v at =
    ap (λ (o : Option (Option (List Block))). unwrap_or o None)
    (slice_get-map (λ (w : VolumeConf). image_read (at_name w.name t.images)) config.volumes.items k ∙ ap (option_map (λ (w : VolumeConf). image_read (at_name w.name t.images))) at)

-- the images as they read are among those that a crash may leave
pub reads_left : (config : Config) (t : Told) → AreLeft config t (images_read config t)
reads_left config t = record {
  count = length-map config.volumes.items (λ (v : VolumeConf). image_read (at_name v.name t.images));
  each = λ k d lt.
      let v = slice_index_or config.volumes.items k d in
      let at : slice_get config.volumes.items k ≡ Some v = slice_get-get_or config.volumes.items k d lt in
      subst (λ (o : Option (List Block)). MayLeave (at_name v.name t.images) o) (sym (read_at config t k v at)) (may_read (at_name v.name t.images));
}

pub within_images : (images : Images) (k : ℕ) (c : List Block) → image_of images k ≡ Some c → k < length images
within_images [] k c is = absurd (none-some c is)
within_images (x ∷ images) zero c is = omega arith
within_images (x ∷ images) (suc k) c is = let less = within_images images k c is in omega (arith, less)

-- ---- Views

-- blocks with the same front have the same view
pub front_view : (c d : List Block) (ids : List ℕ) → slice_range c 0 2 ≡ slice_range d 0 2 → HasView c ids → HasView d ids
front_view c d ids same is = record {
  block = is.block;
  second = sym (at_front 2 1 d (omega arith)) ∙ ap (λ (l : List Block). slice_get l 1) (sym same) ∙ at_front 2 1 c (omega arith) ∙ is.second;
  spelled = is.spelled;
}

-- .. and the same label and the same first fault
module _ (c d : List Block) (same : slice_range c 0 2 ≡ slice_range d 0 2) where
  front_at : (i : ℕ) → i < 2 → slice_get (take 2 c) i ≡ slice_get d i
  front_at i lt = ap (λ (l : List Block). slice_get l i) same ∙ at_front 2 i d lt

  label_before : (id : ℕ) (s : Shape) → HasLabel d id s → HasLabel (take 2 c) id s
  label_before id s is = record { block = is.block; first = front_at 0 (omega arith) ∙ is.first; spelled = is.spelled }

  view_before : (ids : List ℕ) → HasView d ids → HasView (take 2 c) ids
  view_before ids is = record { block = is.block; second = front_at 1 (omega arith) ∙ is.second; spelled = is.spelled }

  label_behind : (id : ℕ) (s : Shape) → HasLabel (take 2 c) id s → HasLabel d id s
  label_behind id s is = record { block = is.block; first = sym (front_at 0 (omega arith)) ∙ is.first; spelled = is.spelled }

  pub view_behind : (ids : List ℕ) → HasView (take 2 c) ids → HasView d ids
  view_behind ids is = record { block = is.block; second = sym (front_at 1 (omega arith)) ∙ is.second; spelled = is.spelled }

  pub front_fault : (own block : ℕ) → IsFirstFault own (take 2 c) block → IsFirstFault own d block
  front_fault own block (inl (at, none)) = inl (at, λ id s has. none id s (label_before id s has))
  front_fault own block (inr (at, (id, s, has), inl none)) = inr (at, (id, s, label_behind id s has), inl (λ ids view. none ids (view_before ids view)))
  front_fault own block (inr (at, (id, s, has), inr (ids, view, names))) = inr (at, (id, s, label_behind id s has), inr (ids, view_behind ids view, names))

module _ (config : Config) (entry : Told) (images : Images) (k : ℕ) (v : VolumeConf) (at : slice_get config.volumes.items k ≡ Some v) (f : HasFront config entry images k v) where
  -- the image at entry as it reads
  pub entry_reads : image_of (images_read config entry) k ≡ Some (reads f.was.0.blocks)
  entry_reads = read_at config entry k v at ∙ ap image_read f.was.1 ∙ read_whole f.was.0 f.was.2

  pub view_at_entry : HasViewIn (images_read config entry) k f.ids
  view_at_entry = (reads f.was.0.blocks, entry_reads, f.view)

  -- a view at entry is left
  pub view_now : (ids : List ℕ) → HasViewIn (images_read config entry) k ids → HasViewIn images k ids
  view_now ids (image, is, view) =
      let same : image ≡ reads f.was.0.blocks = same_Some image (reads f.was.0.blocks) (sym is ∙ entry_reads) in
      (f.blocks, f.here, front_view (reads f.was.0.blocks) f.blocks ids (sym f.front) (subst (λ (c : List Block). HasView c ids) same view))

  -- and one that is left was there at entry
  pub view_then : (ids : List ℕ) → HasViewIn images k ids → HasView (reads f.was.0.blocks) ids
  view_then ids (image, is, view) =
      let same : image ≡ f.blocks = same_Some image f.blocks (sym is ∙ f.here) in
      front_view f.blocks (reads f.was.0.blocks) ids f.front (subst (λ (c : List Block). HasView c ids) same view)
