-- Images without those that were refused, and an image that a crash leaves of parts that went back.
use Rattle.rack.proofs.ClosingBasics.{◌≡◌, ◌+◌, ℕ, List, [], length, Option, Some, None, option_map, refl, sym, ap, ◌∙◌, subst, arith, slice_get, slice_range, length-map, same_Some}
use Rattle.rack.proofs.ClosingBasics.{slice_get_within, slice_get-map, get_or_from_slice_get, zero, suc, Bool, true, false, cond, ◌∷◌, is_some, not, unwrap_or, ◌⊎◌, inl, inr, eqb, ne_eqb}
use Rattle.rack.proofs.ClosingTerms.{Block, State, Values, IsDisk, TellsContent, IsImageOf, Shape, Images, image_of, image_size, segment_of, Name, Told, at_name, blocks_of, Config, VolumeConf}
use Rattle.rack.proofs.ClosingTerms.{state_of, Spun, shape_in, shapes_of, MayLeave, AreLeft, segment_here, IsImageRest, IsStoredAs, ImageRest, accepted_from, accepted, is_kept_home, image_here}
use Rattle.rack.proofs.ClosingTerms.{IsImageOut, images_read, image_read, Image, reads}
use Rattle.rack_parts.proofs.Members.{element_at}
use Rattle.rack_parts.proofs.GivenBack.{all_told, left_size, left_label, left_home, left_segment}

-- ---- Images without those that were refused

no_image : (t : Bool) → ◌≡◌ {A = Option (List Block)} None (cond t None None)
no_image true = refl
no_image false = refl

pub accepted_at : (n : ℕ) (refused : ℕ → Bool) (images : Images) (k : ℕ) → image_of (accepted_from n refused images) k ≡ cond (refused (n + k)) None (image_of images k)
accepted_at n refused [] k = no_image (refused (n + k))
accepted_at n refused (x ∷ images) zero = ap (λ (m : ℕ). cond (refused m) None x) (omega arith)
accepted_at n refused (x ∷ images) (suc k) = accepted_at (n + 1) refused images k ∙ ap (λ (m : ℕ). cond (refused m) None (image_of images k)) (omega arith)

pub accepted_here : (refused : ℕ → Bool) (images : Images) (k : ℕ) → image_of (accepted refused images) k ≡ cond (refused k) None (image_of images k)
accepted_here refused images k = accepted_at 0 refused images k ∙ ap (λ (m : ℕ). cond (refused m) None (image_of images k)) (omega arith)

pub accepted_count : (from : ℕ) (refused : ℕ → Bool) (images : Images) → length (accepted_from from refused images) ≡ length images
accepted_count from refused [] = refl
accepted_count from refused (c ∷ images) = ap suc (accepted_count (from + 1) refused images)

-- what holds of images, and of none, holds of those that are taken
pub accepted_both : (P : (o p : Option (List Block)) → Type 0) (refused : ℕ → Bool) (images before : Images) (k : ℕ) → P None None → (refused k ≡ false → P (image_of images k) (image_of before k)) → P (image_of (accepted refused images) k) (image_of (accepted refused before) k)
accepted_both P refused images before k none some =
    subst (λ (q : Option (List Block) × Option (List Block)). P q.0 q.1) (λ i. (sym (accepted_here refused images k) i, sym (accepted_here refused before k) i)) (go (refused k) refl)
  where
    go : (t : Bool) → refused k ≡ t → P (cond t None (image_of images k)) (cond t None (image_of before k))
    go true e = none
    go false e = some e

-- an image that is refused isn't taken
pub accepted_gone : (refused : ℕ → Bool) (images : Images) (k : ℕ) → refused k ≡ true → image_of (accepted refused images) k ≡ None
accepted_gone refused images k is = accepted_here refused images k ∙ ap (λ (t : Bool). cond t None (image_of images k)) is

-- and one that isn't is taken as it is
pub accepted_same : (refused : ℕ → Bool) (images : Images) (k : ℕ) → refused k ≡ false → image_of (accepted refused images) k ≡ image_of images k
accepted_same refused images k is = accepted_here refused images k ∙ ap (λ (t : Bool). cond t None (image_of images k)) is

-- and one that is taken isn't refused
taken_image : (t : Bool) (o : Option (List Block)) (c : List Block) → cond t None o ≡ Some c → (t ≡ false) × (o ≡ Some c)
taken_image true o c is = absurd (cc is)
taken_image false o c is = (refl, is)

pub accepted_is : (refused : ℕ → Bool) (images : Images) (k : ℕ) (c : List Block) → image_of (accepted refused images) k ≡ Some c → (refused k ≡ false) × (image_of images k ≡ Some c)
accepted_is refused images k c is = taken_image (refused k) (image_of images k) c (sym (accepted_here refused images k) ∙ is)

pub out_taken : {D : Type 0} (out : List (Option (ImageRest D))) (k : ℕ) → is_kept_home out k ≡ false → IsImageOut out k
out_taken out k is = go (is_some (image_here out k)) refl
  where
    go : (t : Bool) → is_some (image_here out k) ≡ t → is_some (image_here out k) ≡ true
    go true e = e
    go false e = absurd (cc (sym is ∙ ap not e))

-- ---- Images that are left

-- the image of a shape, by its volume
pub volume_at : (config : Config) (k : ℕ) (z : Shape) → slice_get (shapes_of config) k ≡ Some z → (v : VolumeConf) × (slice_get config.volumes.items k ≡ Some v) × (shape_in config v ≡ z)
volume_at config k z at =
    let n = length-map config.volumes.items (shape_in config) in
    let v = element_at config.volumes.items k (let w = slice_get_within (shapes_of config) k z at in omega (arith, n, w)) in
    (v.0, v.1, same_Some (shape_in config v.0) z (sym (slice_get-map (shape_in config) config.volumes.items k ∙ ap (option_map (shape_in config)) v.1) ∙ at))

-- an image that is left may be left of what stands under its name
pub may_at : (config : Config) (t : Told) (images : Images) → AreLeft config t images → (k : ℕ) (v : VolumeConf) → slice_get config.volumes.items k ≡ Some v → MayLeave (at_name v.name t.images) (image_of images k)
may_at config t images left k v at = subst (λ (w : VolumeConf). MayLeave (at_name w.name t.images) (image_of images k)) (get_or_from_slice_get config.volumes.items k v v at) (left.each k v (slice_get_within config.volumes.items k v at))

-- an image as it reads is that of what stands under its name
pub read_here : (config : Config) (t : Told) (k : ℕ) (v : VolumeConf) → slice_get config.volumes.items k ≡ Some v → image_of (images_read config t) k ≡ image_read (at_name v.name t.images)
read_here config t k v at =
    let f : VolumeConf → Option (List Block) = λ w. image_read (at_name w.name t.images) in
    ap (λ (x : Option (Option (List Block))). unwrap_or x None) (slice_get-map f config.volumes.items k ∙ ap (option_map f) at)

-- an image reads where it has whole blocks
pub read_cases : (i : Image) → ((i.rest ≡ []) × (image_read (Some i) ≡ Some (reads i.blocks))) ⊎ ((i.rest ≡ [] → ⊥) × (image_read (Some i) ≡ None))
read_cases i = go i.rest refl
  where
    go : (l : List ℕ) → i.rest ≡ l → ((i.rest ≡ []) × (image_read (Some i) ≡ Some (reads i.blocks))) ⊎ ((i.rest ≡ [] → ⊥) × (image_read (Some i) ≡ None))
    go [] e = inl (e, ap (λ (l : List ℕ). cond (eqb (length l) 0) (Some (reads i.blocks)) None) e)
    go (x ∷ l) e =
        let some = ap (λ (y : List ℕ). length y) e in
        let other : eqb (length i.rest) 0 ≡ false = ne_eqb (length i.rest) 0 (λ none. omega (arith, none, some)) in
        inr (λ none. cc (sym none ∙ e), ap (λ (t : Bool). cond t (Some (reads i.blocks)) None) other)

-- what is left of an image's parts
pub record IsLeftNow {D : Type 0} (state : D → State) (z : Shape) (q : ImageRest D) (c : List Block) : Type 0 where
  pub size : length c ≡ image_size z
  pub label : IsImageOf (state_of state q.label).values (slice_range c 0 2)
  pub home : (p : Spun D) → q.home ≡ Some p → IsImageOf (state_of state p).values (slice_range c 2 (2 + z.home))
  pub segments : (i : ℕ) (p : Spun D) → segment_here q i ≡ Some p → IsImageOf (state_of state p).values (segment_of z c i)

-- the image of a volume whose parts went back
pub left_image : {D : Type 0} (state : D → State) (tell_all : (d : D) → TellsContent (state d)) (sound : (d : D) → IsDisk (state d)) (config : Config) (new : Told) (images : Images) → AreLeft config new images
    → (k : ℕ) (z : Shape) (q : ImageRest D) → slice_get (shapes_of config) k ≡ Some z → IsImageRest state k z q → (more : List (Name × ℕ)) → ((v : VolumeConf) → slice_get config.volumes.items k ≡ Some v → IsStoredAs state v.name q more new)
    → (c : List Block) × (image_of images k ≡ Some c) × IsLeftNow state z q c
left_image {D} state tell_all sound config new images left k z q at rest more stored = go (image_of images k) refl may
  where
    v : (v : VolumeConf) × (slice_get config.volumes.items k ≡ Some v) × (shape_in config v ≡ z)
    v = volume_at config k z at

    back : IsStoredAs state v.0.name q more new
    back = stored v.0 v.1

    vs : (vs : List (Values Block)) × (blocks_of state back.disks ≡ Some vs)
    vs = all_told state tell_all back.disks

    may : MayLeave (Some (record { blocks = vs.0; rest = [] })) (image_of images k)
    may = subst (λ o. MayLeave o (image_of images k)) (back.stored vs.0 vs.1) (may_at config new images left k v.0 v.1)

    go : (o : Option (List Block)) → image_of images k ≡ o → MayLeave (Some (record { blocks = vs.0; rest = [] })) (image_of images k) → (c : List Block) × (image_of images k ≡ Some c) × IsLeftNow state z q c
    go None e m = absurd ((subst (λ o. MayLeave (Some (record { blocks = vs.0; rest = [] })) o) e m) refl)
    go (Some c) e m =
        let image = (subst (λ o. MayLeave (Some (record { blocks = vs.0; rest = [] })) o) e m).1 in (
          c,
          e,
          record {
            size = left_size state sound k z q rest back.disks back.together vs.0 vs.1 c image;
            label = left_label state sound k z q rest back.disks back.together vs.0 vs.1 c image;
            home = left_home state sound k z q rest back.disks back.together vs.0 vs.1 c image;
            segments = left_segment state sound k z q rest back.disks back.together vs.0 vs.1 c image;
          },
        )
