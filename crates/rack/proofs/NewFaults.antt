-- Parts that came back with a fault stay in the list of the bay.
use Rattle.rack.proofs.ClosingBasics.{◌≡◌, ℕ, ◌+◌, List, [], ◌++◌, Option, None, Some, option_map, sym, ap, ◌∙◌, subst, append-nil, append_assoc, length, Contains-append_left}
use Rattle.rack.proofs.ClosingBasics.{Contains-append_right, same_Some, Contains}
use Rattle.rack.proofs.ClosingTerms.{Name, Told, sent_out, Image, BayState, at_name, HasFaulty, IsFaultAmong, HasNewFault, RefusesImage, reads, Config, VolumeConf, IsImageFault, shape_in}
use Rattle.rack.proofs.ClosingTerms.{shapes_of, ImageRest, VolumeFault}
use Rattle.volume_images.specs.Left.{IsTold}
pub use Rattle.volume_images.proofs.InOrder.{told_weaker as told_each}
use Rattle.volume_images.specs.declared.reading.ImageFault.{ImageFault}
use Rattle.volume_images.specs.declared.reading.ImageFault.TheVariants as fault

pub told_with : (P Q : Told → Told → Type 0) (o n : Option Told) → IsTold P o n → IsTold Q o n → IsTold (λ x y. P x y × Q x y) o n
told_with P Q None n first then = first
told_with P Q (Some o) None first then = first
told_with P Q (Some o) (Some n) first then = (first, then)

-- no further part came back with a fault
pub none_faulty : (x y : Told) → y.faulty ≡ x.faulty → HasFaulty x y
none_faulty x y same = ([], same ∙ sym (append-nil x.faulty))

-- where nothing was done, or an image went out
pub same_faulty : (o n : Option Told) → IsTold (λ x y. y ≡ x) o n → IsTold HasFaulty o n
same_faulty o n = told_each (λ x y. y ≡ x) HasFaulty o n (λ x y same. none_faulty x y (ap (λ (t : Told). t.faulty) same))

pub sent_faulty : (name : Name) (sizes : List ℕ) (o n : Option Told) → n ≡ option_map (sent_out name sizes) o → IsTold HasFaulty o n
sent_faulty name sizes None n sent = sent
sent_faulty name sizes (Some t) n sent = subst (λ (x : Option Told). IsTold HasFaulty (Some t) x) (sym sent) ([], sym (append-nil t.faulty))

among_more : (name : Name) (f : ImageFault) (xs ys : List (Name × ℕ)) → ((p : Name × ℕ) → Contains xs p → Contains ys p) → IsFaultAmong name f xs → IsFaultAmong name f ys
among_more name (fault.Damaged block) xs ys more is = tt
among_more name fault.LabelDiffers xs ys more is = tt
among_more name fault.LabelFault xs ys more is = more (name, 0) is
among_more name (fault.SegmentFault index) xs ys more is = more (name, 2 + index) is

-- what came back since a moment came back since an earlier one
pub fault_since : (name : Name) (f : ImageFault) (e o n : Option Told) → IsTold HasFaulty e o → IsTold (HasNewFault name f) o n → IsTold (HasNewFault name f) e n
fault_since name f None None n gained new = new
fault_since name f None (Some o) n gained new = absurd (cc gained)
fault_since name f (Some e) None n gained new = absurd gained
fault_since name f (Some e) (Some o) None gained new = absurd new
fault_since name f (Some e) (Some o) (Some n) gained new = record {
  more = gained.0 ++ new.more;
  more_is = new.more_is ∙ ap (λ (fs : List (Name × ℕ)). fs ++ new.more) gained.1 ∙ append_assoc e.faulty gained.0 new.more;
  among = among_more name f new.more (gained.0 ++ new.more) (λ p. Contains-append_right gained.0 new.more p) new.among;
}

-- and until a later one
pub fault_later : (name : Name) (f : ImageFault) (e o n : Option Told) → IsTold (HasNewFault name f) e o → IsTold HasFaulty o n → IsTold (HasNewFault name f) e n
fault_later name f None None n new gained = gained
fault_later name f None (Some o) n new gained = absurd (cc new)
fault_later name f (Some e) None n new gained = absurd new
fault_later name f (Some e) (Some o) None new gained = absurd gained
fault_later name f (Some e) (Some o) (Some n) new gained = record {
  more = new.more ++ gained.0;
  more_is = gained.1 ∙ ap (λ (fs : List (Name × ℕ)). fs ++ gained.0) new.more_is ∙ append_assoc e.faulty new.more gained.0;
  among = among_more name f new.more (new.more ++ gained.0) (λ p. Contains-append_left new.more gained.0 p) new.among;
}

-- what the image that is told said
pub image_said : {D : Type 0} (config : Config) (old new : BayState) (out : List (Option (ImageRest D))) (k : ℕ) (v : VolumeConf) (f : VolumeFault) (t : Told) → old.told ≡ Some t
    → (r : RefusesImage config out old new k v f) → (i : Image) → at_name v.name t.images ≡ Some i → IsImageFault (length (shapes_of config)) k (shape_in config v) (reads i.blocks) r.image_fault
image_said config old new out k v f t told r i at =
    let was = r.said t told in
    subst (λ (x : Image). IsImageFault (length (shapes_of config)) k (shape_in config v) (reads x.blocks) r.image_fault) (same_Some was.0 i (sym was.1 ∙ at)) was.4
