-- What is read of an image's label, and then of its segments.
use Rattle.std.proofs.Common.{◌≡◌, inr, ℕ, Bool, true, false, not, ◌&&◌, eqb, List, ◌++◌, length, take, drop, Result, Err, refl, ap, ◌∙◌, subst, arith, append-nil}
use Rattle.std.specs.Prelude.{IsErrOf, Contains}
use Rattle.std.proofs.lemmas.Bool.{eqb-true}
use Rattle.std.proofs.lemmas.List.{take_all}
use Rattle.std.proofs.Math.ListN.{drop_of_length-le}
use Rattle.wol_disk.specs.Disk.{Block, State}
use Rattle.wol_model.specs.Heads.{Shape}
use Rattle.logger_view.specs.Stored.{HasLabel, HasView}
use Rattle.log_layout.specs.Values.{shape_of}
use Rattle.log_layout.specs.declared.label.Label.{Label}
use Rattle.log_layout.specs.declared.segment.SegHead.{SegHead}
use Rattle.volume_images.specs.declared.parts.ImageParts.{ImageParts}
use Rattle.volume_images.specs.declared.reading.ImageFault.{ImageFault}
use Rattle.volume_images.specs.declared.reading.ImageFault.TheVariants as fault
use Rattle.volume_images.specs.Accepted.{HasOwnLabel}
use Rattle.volume_images.specs.Heads.{SayHeads, IsDamagedSegment, RoseAt}
use Rattle.volume_images.specs.ImageParts.{SaysLabel, MayNotOpen}

-- a list that was lent whole is what came back
pub came_back_whole : {A : Type 0} (n : ℕ) (xs ys : List A) → n ≡ length xs → length ys ≡ length xs → take n (ys ++ drop (length ys) xs) ≡ ys
came_back_whole n xs ys all same =
    ap (λ l. take n (ys ++ l)) (drop_of_length-le xs (omega (arith, same))) ∙ ap (take n) (append-nil ys) ∙ take_all n ys (omega (arith, all, same))

-- labels that aren't told apart are the same
both_same : (x y : Bool) → false ≡ not (x && y) → (x ≡ true) × (false ≡ not y)
both_same true y e = (refl, e)
both_same false y e = absurd (cc e)

one_same : (y : Bool) → false ≡ not y → y ≡ true
one_same true e = refl
one_same false e = absurd (cc e)

pub same_label : (a b : Label) → false ≡ not (eqb a.id b.id && (eqb a.home b.home && (eqb a.segments b.segments && eqb a.segment_blocks b.segment_blocks))) → a ≡ b
same_label a b e =
    let one = both_same (eqb a.id b.id) (eqb a.home b.home && (eqb a.segments b.segments && eqb a.segment_blocks b.segment_blocks)) e in
    let two = both_same (eqb a.home b.home) (eqb a.segments b.segments && eqb a.segment_blocks b.segment_blocks) one.1 in
    let three = both_same (eqb a.segments b.segments) (eqb a.segment_blocks b.segment_blocks) two.1 in
    let id = eqb-true a.id b.id one.0 in
    let home = eqb-true a.home b.home two.0 in
    let segments = eqb-true a.segments b.segments three.0 in
    let blocks = eqb-true a.segment_blocks b.segment_blocks (one_same (eqb a.segment_blocks b.segment_blocks) three.1) in
    λ i. record { id = id i; home = home i; segments = segments i; segment_blocks = blocks i }

-- the label that was read is the one that was asked for
pub own_label : (bs : List Block) (found want : Label) (ids : List ℕ) → found ≡ want → HasLabel bs found.id (shape_of found) → HasView bs ids → (Contains ids want.id → ⊥) → HasOwnLabel want.id (shape_of want) bs ids
own_label bs found want ids is label view others = record { label = subst (λ (l : Label). HasLabel bs l.id (shape_of l)) is label; view = view; others = others }

module _ {D : Type 0} (state : D → State) (volumes own : ℕ) (s : Shape) (old new : ImageParts D) where
  -- a segment refuses the image
  pub segment_refuses : {T : Type 0} (r : Result T ImageFault) (e : ImageFault) → r ≡ Err e → SaysLabel state old (λ bs. (ids : List ℕ) × HasOwnLabel own s bs ids)
      → ((block : ℕ) → IsErrOf r (fault.Damaged block) → IsDamagedSegment state volumes s old.segments.items block) → (IsErrOf r fault.LabelDiffers → ⊥) → (IsErrOf r fault.LabelFault → ⊥)
      → ((index : ℕ) → IsErrOf r (fault.SegmentFault index) → RoseAt state index old.segments.items new.segments.items)
      → ((index : ℕ) → IsErrOf r (fault.SegmentFault index) → (heads : List SegHead) × SayHeads state volumes old.segments.items index heads) → MayNotOpen state volumes own s old new e
  segment_refuses r (fault.Damaged block) is label damaged differs failed cause before = inr (record { label = label; segment = damaged block is })
  segment_refuses r fault.LabelDiffers is label damaged differs failed cause before = absurd (differs is)
  segment_refuses r fault.LabelFault is label damaged differs failed cause before = absurd (failed is)
  segment_refuses r (fault.SegmentFault index) is label damaged differs failed cause before = let found = before index is in record { label = label; rose = cause index is; heads = found.0; before = found.1 }
