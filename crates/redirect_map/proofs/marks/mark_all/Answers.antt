use Rattle.std.proofs.Common.{◌≡◌, ◌+◌, ◌≤◌, ◌==◌, not, sym, subst, take, drop, arith}
use Rattle.std.specs.List.{count_by}
use Rattle.redirect_map.specs.Marks.{Contents, mask_in, mask_of}
use Rattle.redirect_map.proofs.Masks.{copied_more, copied_none, count_some, count_none}
use Rattle.redirect_map.proofs.marks.mark_all.Goals as goal
use Rattle.redirect_map.proofs.marks.mark_all.Goals.{then-masks-place-ne0, else-masks-place-ne0}

pub loop-place-preserved : goal.loop-place-preserved
loop-place-preserved c = record {
  masks = λ v. elim c.if-masks-place-ne0.branch [
    | then-masks-place-ne0 w ↦ subst (λ (m : Contents). mask_of m v ≡ mask_in (take (c.loop-place.place + 1) c.args.versions.now) (take (c.loop-place.place + 1) c.args.masks.now) v) (sym w.marks-is)
        (copied_more c.args.versions.now c.args.masks.now c.loop-place.place v _ _ (omega arith) (omega arith) c.requires.rising (c.loop-place.invariant.masks v) (w.push.ensures.masks v))
    | else-masks-place-ne0 w ↦ subst (λ (m : Contents). mask_of m v ≡ mask_in (take (c.loop-place.place + 1) c.args.versions.now) (take (c.loop-place.place + 1) c.args.masks.now) v) (sym w.marks-is)
        (copied_none c.args.versions.now c.args.masks.now c.loop-place.place v _ (omega arith) (omega arith) c.requires.rising (c.loop-place.invariant.masks v) w.if-masks-place-ne0.false)
  ];
  room = elim c.if-masks-place-ne0.branch [
    | then-masks-place-ne0 w ↦ subst (λ (m : Contents). c.args.marks.now.room + count_by (λ m. not (m == 0)) (drop (c.loop-place.place + 1) c.args.masks.now) ≤ m.room + count_by (λ m. not (m == 0)) c.args.masks.now) (sym w.marks-is)
        (omega (arith, count_some c.args.masks.now c.loop-place.place (omega arith) w.if-masks-place-ne0.true, w.push.ensures.room, c.loop-place.invariant.room))
    | else-masks-place-ne0 w ↦ subst (λ (m : Contents). c.args.marks.now.room + count_by (λ m. not (m == 0)) (drop (c.loop-place.place + 1) c.args.masks.now) ≤ m.room + count_by (λ m. not (m == 0)) c.args.masks.now) (sym w.marks-is)
        (omega (arith, count_none c.args.masks.now c.loop-place.place (omega arith) w.if-masks-place-ne0.false, c.loop-place.invariant.room))
  ];
}
