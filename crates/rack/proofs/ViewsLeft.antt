-- Labels and views of the images that are left of a rack.
use Rattle.rack.proofs.ClosingBasics.{◌≡◌, inl, inr, ℕ, List, [], Option, None, Some, option_map, sym, ap, ◌∙◌, subst, is_some, IfSome, slice_get, slice_get-map, same_Some}
use Rattle.rack.proofs.ClosingTerms.{State, Block, reads, Told, Image, at_name, Images, image_of, Config, VolumeConf, shapes_of, shape_in, AreLeft, MayLeave, IsTold}
use Rattle.rack.proofs.ClosingTerms.{image_here, IsImageOut, ImageRest, Rack, Rest, AreLeftOfParts, BeganWith, HasFaulty, WereThere}
use Rattle.rack.specs.Opens.{KeepsViews, LeavesFront, front_of}
use Rattle.rack.specs.Owners.{HadRefused}
use Rattle.rack.proofs.Cases.{by_option, some_or}
use Rattle.rack.proofs.LeftImage.{may_at}
use Rattle.rack.proofs.LoggersNamed.{image_is_read}

-- label and view of a volume whose image is out
record IsFrontLeft (config : Config) (entry : Told) (images : Images) (k : ℕ) (v : VolumeConf) : Type 0 where
  was : Image
  there : at_name v.name entry.images ≡ Some was
  whole : was.rest ≡ []
  blocks : List Block
  here : image_of images k ≡ Some blocks
  same : front_of blocks ≡ front_of (reads was.blocks)

-- `q` is the rack that was closed, with the images of the rack that was opened
module _ {D : Type 0} (state : D → State) (config : Config) (r q : Rack D) (rest : q.rest ≡ r.rest) (entry left : Told) (began : BeganWith state config entry r) (were : WereThere config r.rest.images.items entry)
    (parts : AreLeftOfParts state config q left) where
  front_at : (images : Images) → AreLeft config left images → (k : ℕ) (v : VolumeConf) → slice_get config.volumes.items k ≡ Some v → (image : ImageRest D) → image_here r.rest.images.items k ≡ Some image → IsFrontLeft config entry images k v
  front_at images are k v conf image out =
      let was = were k v conf (ap is_some out) in
      let shape : slice_get (shapes_of config) k ≡ Some (shape_in config v) = slice_get-map (shape_in config) config.volumes.items k ∙ ap (option_map (shape_in config)) conf in
      let c = parts images are k (shape_in config v) image shape (ap (λ (x : Rest D). image_here x.images.items k) rest ∙ out) in
      record {
        was = was.0;
        there = was.1;
        whole = was.2;
        blocks = c.0;
        here = c.1;
        same = (began.left k v was.0 image conf was.1 out).label (front_of c.0) c.2.label;
      }

  -- an image that was out has the label and the view that it had as it read
  pub front_left : (k : ℕ) (v : VolumeConf) → slice_get config.volumes.items k ≡ Some v → IsImageOut r.rest.images.items k → LeavesFront config k entry left
  front_left k v conf is_out images are =
      let out = some_or (image_here r.rest.images.items k) (λ none. let no = ap is_some none in cc (no, is_out)) in
      let f = front_at images are k v conf out.0 out.1 in
      ap (option_map front_of) f.here ∙ ap (λ (x : List Block). Some x) f.same ∙ sym (ap (option_map front_of) (image_is_read config entry k v f.was conf f.there f.whole))

  -- and another one is left as it might have been
  pub views_left : HadRefused config r.rest.images.items entry left → KeepsViews config entry left
  views_left kept images are k v conf blocks here = by_option (image_here r.rest.images.items k)
      (λ none. inl (kept k v conf none (Some blocks) (subst (MayLeave (at_name v.name left.images)) here (may_at config left images are k v conf))))
      (λ image out.
      let f = front_at images are k v conf image out in
      let same : f.blocks ≡ blocks = same_Some f.blocks blocks (sym f.here ∙ here) in
      inr (f.was, f.there, subst (λ (b : List Block). front_of b ≡ front_of (reads f.was.blocks)) same f.same))

-- what holds of images at entry and of what is left, where opening and closing say so
pub told_left : {D : Type 0} (state : D → State) (config : Config) (r q : Rack D) (P : Told → Told → Type 0) (o b n : Option Told)
    → ((entry left : Told) → BeganWith state config entry r → WereThere config r.rest.images.items entry → AreLeftOfParts state config q left → P entry left)
    → IfSome o (λ t. BeganWith state config t r) → IfSome o (λ t. WereThere config r.rest.images.items t) → IsTold HasFaulty o b → IsTold (λ x y. AreLeftOfParts state config q y) b n → IsTold P o n
told_left state config r q P None None n each began were sent parts = parts
told_left state config r q P None (Some b) n each began were sent parts = absurd (cc sent)
told_left state config r q P (Some o) None n each began were sent parts = absurd sent
told_left state config r q P (Some o) (Some b) None each began were sent parts = absurd parts
told_left state config r q P (Some o) (Some b) (Some n) each began were sent parts = each o n began were parts
