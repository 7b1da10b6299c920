use Rattle.std.proofs.Common.{◌≡◌, ◌≤◌, List, [], ◌∷◌, length, inl, inr, ⊎_elim, Some, option_map, ◌∙◌, ap, sym, subst, arith}
use Rattle.std.proofs.lemmas.Result.{on_ok_weaker}
use Rattle.wol_disk.specs.Disk.{Block, Values, put, only, reads}
use Rattle.wol_disk.specs.RecordSound.{length-only}
use Rattle.wol_disk.proofs.Moments.{widened}
use Rattle.wol_model.specs.Log.{IsLog, IsIdle}
use Rattle.spin_model.specs.Spun.{disk_of}
use Rattle.log_segment.proofs.Headed.{retired, retired_all, length-told}
use Rattle.log_segment.proofs.head.retire_part.Goals as goal

pub returns-clause-idle : goal.returns-clause-idle
returns-clause-idle g c =
    let was = g.D.Disk.state (disk_of c.args.part.now) in
    let sound = g.met.D.Disk.sound (disk_of c.args.part.now) in
    let size : (vs : List (Values Block)) → was.values ≡ Some vs → 1 ≤ length (reads vs) = λ vs is. omega (arith, length-told vs, sound.each_block vs is, c.requires.size) in
    on_ok_weaker c.store_block.result (λ s. λ d i. retired_all c.write_seg.new.b was.values _ d c.write_seg.ensures s size i) c.store_block.ensures.settles

pub returns-clause-told : goal.returns-clause-told
returns-clause-told g c vs is =
    on_ok_weaker c.store_block.result (λ s. (only (put 0 (c.write_seg.new.b ∷ []) (reads vs)), s ∙ ap (option_map (λ ws. only (put 0 (c.write_seg.new.b ∷ []) (reads ws)))) is)) c.store_block.ensures.settles

pub returns-clause-any_moment : goal.returns-clause-any_moment
returns-clause-any_moment g c owner rs k =
    let sound = g.met.D.Disk.sound (disk_of c.args.part.now) in
    let size : 1 ≤ length k.bs = omega (arith, length-only k.bs, sound.each_block (only k.bs) k.settled, c.requires.size) in
    widened (c.store_block.ensures.any_moment k.bs k.settled)
    (λ d. ⊎_elim (λ p. inl (subst (λ (l : List Block). IsLog l owner rs) (sym p) k.log)) (λ p. inr (subst IsIdle (sym p) (retired c.write_seg.new.b k.bs size c.write_seg.ensures))))
