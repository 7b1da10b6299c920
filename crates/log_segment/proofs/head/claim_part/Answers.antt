use Rattle.std.proofs.Common.{◌≡◌, ◌≤◌, List, [], ◌∷◌, length, inl, ⊎_elim, Some, option_map, ◌∙◌, ap, sym, subst, arith}
use Rattle.std.proofs.lemmas.Result.{on_ok_weaker}
use Rattle.wol_disk.specs.Disk.{Block, Values, put, only, reads, LeavesOnly}
use Rattle.wol_disk.proofs.Moments.{widened, then_leaves}
use Rattle.wol_model.specs.Log.{IsLog, IsIdle}
use Rattle.spin_model.specs.Spun.{disk_of}
use Rattle.log_segment.specs.Kept.{IsIdleOrClaimed}
use Rattle.log_segment.proofs.Headed.{claimed_is, gated_idle, length-told, claim_leaves}
use Rattle.log_segment.proofs.head.claim_part.Goals as goal

pub returns-in_err-store_block-clause-any_moment : goal.returns-in_err-store_block-clause-any_moment
returns-in_err-store_block-clause-any_moment g c all =
    widened c.store_block.ensures.from_images (λ d i. ⊎_elim (λ p. inl (subst IsIdle (sym p) (all i.0 i.1))) (λ p. inl (subst IsIdle (sym p) (gated_idle i.0 _ (all i.0 i.1)))) i.2)

pub returns-clause-ok : goal.returns-clause-ok
returns-clause-ok g c vs is =
    let sound = g.met.D.Disk.sound (disk_of c.args.part.now) in
    let size : 2 ≤ length (reads vs) = omega (arith, length-told vs, sound.each_block vs is, c.requires.size) in
    let b = c.write_gate.new.b in
    let h = c.write_seg.new.b in
    let staged = put 1 (b ∷ []) (reads vs) in
    let mid : (g.D.Disk.state (disk_of c.store_block.new.part)).values ≡ Some (only staged) = c.in_ok-store_block.ensures.settles ∙ ap (option_map (λ ws. only (put 1 (b ∷ []) (reads ws)))) is in
    let is_log : IsLog (put 0 (h ∷ []) staged) c.args.owner [] = claimed_is c.args.owner b h (reads vs) c.write_gate.ensures c.write_seg.ensures (omega (arith, c.ranges.owner)) size in
    on_ok_weaker c.store_block-2.result (λ s. record { bs = put 0 (h ∷ []) staged; settled = s; log = is_log }) (c.store_block-2.ensures.ok staged mid)

pub returns-clause-any_moment : goal.returns-clause-any_moment
returns-clause-any_moment g c all =
    let was = g.D.Disk.state (disk_of c.args.part.now) in
    let sound = g.met.D.Disk.sound (disk_of c.args.part.now) in
    let b = c.write_gate.new.b in
    let h = c.write_seg.new.b in
    let first : LeavesOnly was (g.D.Disk.state (disk_of c.store_block.new.part)) (IsIdleOrClaimed c.args.owner) =
    widened c.store_block.ensures.from_images (λ d i. ⊎_elim (λ p. inl (subst IsIdle (sym p) (all i.0 i.1))) (λ p. inl (subst IsIdle (sym p) (gated_idle i.0 _ (all i.0 i.1)))) i.2) in
    let size : (vs : List (Values Block)) → was.values ≡ Some vs → 2 ≤ length (reads vs) = λ vs is. omega (arith, length-told vs, sound.each_block vs is, c.requires.size) in
    then_leaves first c.store_block-2.ensures.from_images
    (λ d i. claim_leaves c.args.owner b h was.values _ i.0 d c.write_gate.ensures c.write_seg.ensures (omega (arith, c.ranges.owner)) c.in_ok-store_block.ensures.settles size all i.1 i.2)
