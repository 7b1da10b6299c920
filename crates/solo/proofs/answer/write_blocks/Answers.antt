use Rattle.std.proofs.Common.{refl}
use Rattle.solo.specs.Requests.{request_of}
use Rattle.solo.proofs.Cuts.{sync_cuts, write_cuts}
use Rattle.solo.proofs.Stored.{on_ok, stored, stored_settled}
use Rattle.solo.proofs.answer.write_blocks.Goals as goal

pub returns-then-is_err-clause-images : goal.returns-then-is_err-clause-images
returns-then-is_err-clause-images g c =
    write_cuts c.write.result (request_of c.args.request.now) c.fill.new.out _ _ c.requires.settled c.requires.kind refl (rw c.requires.count at c.fill.ensures) c.write.ensures.ok c.write.ensures.err

pub returns-then-is_err-2-clause-images : goal.returns-then-is_err-2-clause-images
returns-then-is_err-2-clause-images g c =
    sync_cuts c.sync.result _ _ _ (g.D.Disk.state c.write.new.self).values _ c.sync.ensures.ok c.sync.ensures.err
    (write_cuts c.write.result (request_of c.args.request.now) c.fill.new.out _ _ c.requires.settled c.requires.kind refl (rw c.requires.count at c.fill.ensures) c.write.ensures.ok c.write.ensures.err)

pub returns-clause-settled : goal.returns-clause-settled
returns-clause-settled g c = stored_settled _ (g.D.Disk.state c.write.new.self).values (on_ok c.sync.result _ c.if-is_err-2.ensures.value c.sync.ensures.ok)

pub returns-clause-values : goal.returns-clause-values
returns-clause-values g c =
    stored (request_of c.args.request.now) c.fill.new.out _ _ _ c.requires.kind refl (rw c.requires.count at c.fill.ensures)
    (on_ok c.write.result _ c.if-is_err.ensures.value c.write.ensures.ok) (on_ok c.sync.result _ c.if-is_err-2.ensures.value c.sync.ensures.ok)

pub returns-clause-images : goal.returns-clause-images
returns-clause-images g c =
    sync_cuts c.sync.result _ _ _ (g.D.Disk.state c.write.new.self).values _ c.sync.ensures.ok c.sync.ensures.err
    (write_cuts c.write.result (request_of c.args.request.now) c.fill.new.out _ _ c.requires.settled c.requires.kind refl (rw c.requires.count at c.fill.ensures) c.write.ensures.ok c.write.ensures.err)
