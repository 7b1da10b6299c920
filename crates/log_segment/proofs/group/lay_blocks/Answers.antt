use Rattle.std.proofs.Common.{◌≡◌, ◌+◌, ◌≤◌, ◌<◌, [], ◌∷◌, ◌++◌, length, take, Some, refl, sym, ◌∙◌, ap, arith}
use Rattle.std.proofs.lemmas.Result.{on_ok_weaker}
use Rattle.wol_disk.proofs.Moments.{started}
use Rattle.wol_disk.proofs.Calls.{write_goes_on, front_kept}
use Rattle.wol_disk.specs.Disk.{put}
use Rattle.wol_model.specs.Heads.{gate_block}
use Rattle.spin_model.specs.Spun.{disk_of}
use Rattle.log_segment.proofs.Laid.{laid_behind, behind_take, put_both, gated_front}
use Rattle.log_segment.proofs.Told.{reads_put, reads_size}
use Rattle.log_segment.proofs.group.lay_blocks.Goals as goal
use Rattle.log_segment.proofs.group.lay_blocks.Goals.{then-next-blocks, else-next-blocks}

pub returns-then-from-le-COPIED-clause-ok : goal.returns-then-from-le-COPIED-clause-ok
returns-then-from-le-COPIED-clause-ok g c front tail place is ends =
    let at = c.args.at in
    let from = c.args.from.now in
    let m = c.if-next-blocks.gates in
    let size : length (front ++ tail) ≡ _ = reads_size (front ++ tail) (g.met.D.Disk.sound (disk_of c.args.part.now)) is in
    let next = at + 1 + length from in
    let one : next < length (front ++ tail) → m ≡ 1 = elim c.if-next-blocks.branch [ then-next-blocks w ↦ λ lt. w.gates-is | else-next-blocks w ↦ λ lt. absurd (omega (arith, size, w.if-next-blocks.false, c.blocks-2.ensures)) ] in
    let none : length (front ++ tail) ≤ next → m ≡ 0 = elim c.if-next-blocks.branch [ then-next-blocks w ↦ λ le. absurd (omega (arith, size, w.if-next-blocks.true, c.blocks-2.ensures)) | else-next-blocks w ↦ λ le. w.gates-is ] in
    let few : m ≤ 1 = elim c.if-next-blocks.branch [ then-next-blocks w ↦ omega (arith, w.gates-is) | else-next-blocks w ↦ omega (arith, w.gates-is) ] in
    let ys = take m (gate_block ∷ []) in
    let behind = behind_take gate_block m next (length (front ++ tail)) refl one none in
    let laid = laid_behind front tail from ys at place ends (omega (arith, size, c.requires.fits)) behind in
    let piece = gated_front from c.copy_with_gate.new.both c.copy_with_gate.ensures.0 gate_block m c.copy_with_gate.ensures.1 few in
    on_ok_weaker c.write.result (λ w. (laid.0, laid.1, reads_put (at + 1) _ (front ++ tail) _ _ is w ∙ ap (λ l. Some (put (at + 1) l (front ++ tail))) piece ∙ ap Some (sym (put_both from ys (front ++ tail) (at + 1) next refl) ∙ laid.2))) c.write.ensures.ok

pub returns-then-from-le-COPIED-clause-any_moment : goal.returns-then-from-le-COPIED-clause-any_moment
returns-then-from-le-COPIED-clause-any_moment g c =
    let at = c.args.at in
    let sound = g.met.D.Disk.sound in
    let begun = started (sound (disk_of c.args.part.now)) (λ d i. (d, i, refl)) in
    write_goes_on c.write.result (at + 1) (take (length c.args.from.now + c.if-next-blocks.gates) c.copy_with_gate.new.both) begun (sound (disk_of c.args.part.now)) c.write.ensures.ok c.write.ensures.err c.write.ensures.passes
    (λ d e P i b. (P.0, P.1, front_kept (at + 1) (at + 1) _ d e (omega arith) b ∙ P.2))

pub returns-in_err-write-clause-any_moment : goal.returns-in_err-write-clause-any_moment
returns-in_err-write-clause-any_moment g c =
    let at = c.args.at in
    let sound = g.met.D.Disk.sound in
    let begun = started (sound (disk_of c.args.part.now)) (λ d i. (d, i, refl)) in
    write_goes_on c.write-2.result (at + 1) c.args.from.now begun (sound (disk_of c.args.part.now)) c.write-2.ensures.ok c.write-2.ensures.err c.write-2.ensures.passes
    (λ d e P i b. (P.0, P.1, front_kept (at + 1) (at + 1) c.args.from.now d e (omega arith) b ∙ P.2))

pub returns-clause-ok : goal.returns-clause-ok
returns-clause-ok g c front tail place is ends =
    let at = c.args.at in
    let from = c.args.from.now in
    let size : length (front ++ tail) ≡ _ = reads_size (front ++ tail) (g.met.D.Disk.sound (disk_of c.args.part.now)) is in
    let next = at + 1 + length from in
    let one : next < length (front ++ tail) → c.if-next-blocks.gates ≡ 1 = elim c.if-next-blocks.branch [ then-next-blocks w ↦ λ lt. w.gates-is | else-next-blocks w ↦ λ lt. absurd (omega (arith, size, w.if-next-blocks.false, c.blocks-2.ensures)) ] in
    let none : length (front ++ tail) ≤ next → c.if-next-blocks.gates ≡ 0 = elim c.if-next-blocks.branch [ then-next-blocks w ↦ λ le. absurd (omega (arith, size, w.if-next-blocks.true, c.blocks-2.ensures)) | else-next-blocks w ↦ λ le. w.gates-is ] in
    let behind = behind_take c.write_gate.new.b c.if-next-blocks.gates next (length (front ++ tail)) c.write_gate.ensures one none in
    let laid = laid_behind front tail from _ at place ends (omega (arith, size, c.requires.fits)) behind in
    let first = reads_put (at + 1) from (front ++ tail) _ _ is c.in_ok-write.ensures.ok in
    on_ok_weaker c.write-3.result (λ w. (laid.0, laid.1, reads_put next _ _ _ _ first w ∙ ap Some laid.2)) c.write-3.ensures.ok

pub returns-clause-any_moment : goal.returns-clause-any_moment
returns-clause-any_moment g c =
    let at = c.args.at in
    let sound = g.met.D.Disk.sound in
    let next = at + 1 + length c.args.from.now in
    let begun = started (sound (disk_of c.args.part.now)) (λ d i. (d, i, refl)) in
    let one = write_goes_on c.write-2.result (at + 1) c.args.from.now begun (sound (disk_of c.args.part.now)) c.write-2.ensures.ok c.write-2.ensures.err c.write-2.ensures.passes
    (λ d e P i b. (P.0, P.1, front_kept (at + 1) (at + 1) c.args.from.now d e (omega arith) b ∙ P.2)) in
    write_goes_on c.write-3.result next (take c.if-next-blocks.gates (c.write_gate.new.b ∷ [])) one (sound (disk_of c.write-2.new.self)) c.write-3.ensures.ok c.write-3.ensures.err c.write-3.ensures.passes
    (λ d e P i b. (P.0, P.1, front_kept (at + 1) next _ d e (omega arith) b ∙ P.2))
