use Rattle.wol_disk.proofs.Moments.{started}
use Rattle.wol_disk.proofs.Calls.{sync_goes_on}
use Rattle.spin_model.specs.Spun.{disk_of}
use Rattle.logger.proofs.Uses.{accesses_over}
use Rattle.manager_recovery.proofs.retiring.sync_part.Goals as goal

pub returns-clause-part : goal.returns-clause-part
returns-clause-part g c =
    let sound = g.met.D.Disk.sound in let s = c.sync-synced in record {
      volume = s.ensures.volume;
      size = s.ensures.passes.same_size;
      any_moment = sync_goes_on s.result (started (sound (disk_of c.args.part.now)) (λ e is. is)) (sound (disk_of c.args.part.now)) s.ensures.ok s.ensures.err s.ensures.passes;
    }

pub returns-clause-accesses : goal.returns-clause-accesses
returns-clause-accesses g c = accesses_over _ _ _ _ _ c.take_token-token.ensures.mine c.take_token-token.ensures.same.1 c.give_token.ensures.mine c.requires.accesses
