-- An image is accepted or has one fault.
use Rattle.std.proofs.Common.{◌≡◌, ◌⊎◌, ⊎_elim, ℕ, ◌<◌, ◌≤◌, List, length, get_or, refl, sym, ap, ◌∙◌, arith}
use Rattle.std.proofs.lemmas.Bool.{cases_lt}
use Rattle.std.proofs.lemmas.Option.{slice_get-get_or}
use Rattle.wol_disk.specs.Disk.{Block}
use Rattle.wol_model.specs.Heads.{Shape, Free}
use Rattle.logger_view.specs.Stored.{IsFirstFault}
use Rattle.logger_view.proofs.Callers.{same_label, no_fault, one_fault}
use Rattle.volume_images.specs.declared.reading.ImageFault.TheVariants as fault
use Rattle.volume_images.specs.Accepted.{HasOwnLabel, HasOtherLabel, IsFirstHeadless, head_place}
use Rattle.volume_images.specs.OpeningLaws.{AcceptedOrFaulty, OneImageFault}

module _ (volumes own : ℕ) (s : Shape) (image : List Block) where
  not_other : (ids : List ℕ) → HasOwnLabel own s image ids → HasOtherLabel own s image → ⊥
  not_other ids mine other = let same = same_label image other.id own other.shape s other.label mine.label in other.differs same.0 same.1

  no_first : (ids : List ℕ) (block : ℕ) → HasOwnLabel own s image ids → IsFirstFault own image block → ⊥
  no_first ids block mine f = no_fault own image own s ids block mine.label mine.view mine.others f

  no_first_other : (block : ℕ) → HasOtherLabel own s image → IsFirstFault own image block → ⊥
  no_first_other block other f = no_fault own image other.id other.shape other.ids block other.label other.view other.others f

  -- the first segment without a head is one
  not_before : (i j : ℕ) → IsFirstHeadless volumes own s image i → IsFirstHeadless volumes own s image j → i < j → ⊥
  not_before i j one two lt = let has = two.before i lt in one.headless has.0 has.1

  one_headless : (i j : ℕ) → IsFirstHeadless volumes own s image i → IsFirstHeadless volumes own s image j → i ≡ j
  one_headless i j one two =
      ⊎_elim (λ (lt : i < j). absurd (not_before i j one two lt))
      (λ (le : j ≤ i). ⊎_elim (λ (lt : j < i). absurd (not_before j i two one lt)) (λ (ge : i ≤ j). omega (arith, le, ge)) (cases_lt j i)) (cases_lt i j)

  abbrev IsHeadlessAt : ℕ → Type 0
  IsHeadlessAt block = (index : ℕ) × (block ≡ head_place s index) × IsFirstHeadless volumes own s image index

  one_damage : (m n : ℕ) → IsFirstFault own image m ⊎ IsHeadlessAt m → IsFirstFault own image n ⊎ IsHeadlessAt n → m ≡ n
  one_damage m n one two =
      ⊎_elim
      (λ f. ⊎_elim (λ g. one_fault own image m n f g) (λ h. absurd (no_first h.2.ids m h.2.named f)) two)
      (λ h. ⊎_elim (λ g. absurd (no_first h.2.ids n h.2.named g)) (λ k. h.1 ∙ ap (head_place s) (one_headless h.0 k.0 h.2 k.2) ∙ sym k.1) two)
      one

  not_both : (block : ℕ) → IsFirstFault own image block ⊎ IsHeadlessAt block → HasOtherLabel own s image → ⊥
  not_both block damage other = ⊎_elim (λ f. no_first_other block other f) (λ h. not_other h.2.ids h.2.named other) damage

pub accepted_or_faulty : AcceptedOrFaulty
accepted_or_faulty volumes own s image ids heads (fault.Damaged block) of accepted f =
    ⊎_elim (λ first. no_first volumes own s image ids block accepted.named first)
    (λ h. let within : h.0 < length heads = omega (arith, h.2.within, accepted.count) in h.2.headless (get_or heads h.0 Free) (accepted.each h.0 (get_or heads h.0 Free) (slice_get-get_or heads h.0 Free within))) f
accepted_or_faulty volumes own s image ids heads fault.LabelDiffers of accepted f = not_other volumes own s image ids accepted.named f
accepted_or_faulty volumes own s image ids heads fault.LabelFault of accepted f = absurd of
accepted_or_faulty volumes own s image ids heads (fault.SegmentFault index) of accepted f = absurd of

pub one_image_fault : OneImageFault
one_image_fault volumes own s image (fault.Damaged m) (fault.Damaged n) of of' f g = ap (λ (b : ℕ). fault.Damaged b) (one_damage volumes own s image m n f g)
one_image_fault volumes own s image (fault.Damaged m) fault.LabelDiffers of of' f g = absurd (not_both volumes own s image m f g)
one_image_fault volumes own s image (fault.Damaged m) fault.LabelFault of of' f g = absurd of'
one_image_fault volumes own s image (fault.Damaged m) (fault.SegmentFault j) of of' f g = absurd of'
one_image_fault volumes own s image fault.LabelDiffers (fault.Damaged n) of of' f g = absurd (not_both volumes own s image n g f)
one_image_fault volumes own s image fault.LabelDiffers fault.LabelDiffers of of' f g = refl
one_image_fault volumes own s image fault.LabelDiffers fault.LabelFault of of' f g = absurd of'
one_image_fault volumes own s image fault.LabelDiffers (fault.SegmentFault j) of of' f g = absurd of'
one_image_fault volumes own s image fault.LabelFault g of of' f g' = absurd of
one_image_fault volumes own s image (fault.SegmentFault i) g of of' f g' = absurd of
