use Rattle.std.proofs.Common.{true, [], refl, ◌∙◌}
use Rattle.logger.proofs.Uses.{accesses_over}
use Rattle.manager.proofs.Frames.{reframed, ready_reframed, stands_kept, none_passed}
use Rattle.volume_parts.proofs.PartReads.{home_self, lanes_self}
use Rattle.manager.proofs.Refused.{stops_at_rest}
use Rattle.manager.specs.Stands.{nones_at}
use Rattle.manager.proofs.manager.Manager.wake_home.Goals as goal

pub returns-clause-ready : goal.returns-clause-ready
returns-clause-ready g c =
    let m = c.args.self.now in let first = c.take_token-token.ensures in let then_ = c.give_token.ensures in
    ready_reframed g.D.Disk.state m true m.ups.items m.rooms.items c.give_token.new.pass m.index refl refl (then_.same.0 ∙ first.same.0, then_.same.1 ∙ first.same.1) then_.free then_.has_none
    (accesses_over _ _ _ _ _ first.mine first.same.1 then_.mine c.requires.ready.ready.accesses) refl c.requires.ready

pub returns-clause-stands : goal.returns-clause-stands
returns-clause-stands g c pass b notes n is note k =
    let m = c.args.self.now in let first = c.take_token-token.ensures.same in let then_ = c.give_token.ensures.same in
    stands_kept g.D.Disk.tells g.D.Disk.state _ b notes n [] note (none_passed (nones_at m.lanes.items b.lanes) notes n note.passed_is k.passed)
    (reframed g.D.Disk.tells g.D.Disk.state m b notes true m.ups.items m.rooms.items c.give_token.new.pass m.index refl (then_.0 ∙ first.0, then_.1 ∙ first.1) refl (returns-clause-ready g c) k)

pub returns-clause-any_moment : goal.returns-clause-any_moment
returns-clause-any_moment g c told b notes k = stops_at_rest g.D.Disk.tells g.D.Disk.state g.met.D.Disk.sound told c.args.self.now b notes k

pub returns-clause-read : goal.returns-clause-read
returns-clause-read g c =
    let m = c.args.self.now in let first = c.take_token-token.ensures.same in let then_ = c.give_token.ensures.same in record {
      same = record { id = refl; most = refl };
      home = home_self g.D.Disk.state g.met.D.Disk.sound m.home;
      spindle = (then_.0 ∙ first.0, then_.1 ∙ first.1);
      lanes = lanes_self g.D.Disk.state g.met.D.Disk.sound m.lanes.items;
      index = refl;
      next = refl;
      rooms = refl;
      down = refl;
    }
