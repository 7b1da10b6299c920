use Rattle.std.proofs.Common.{[], refl, sym}
use Rattle.std.specs.List.{length_refill}
use Rattle.manager.proofs.Frames.{reframed, ready_reframed, stands_kept, none_passed}
use Rattle.manager.proofs.Refused.{stops_at_rest}
use Rattle.manager.specs.Stands.{nones_at}
use Rattle.manager.proofs.manager.Manager.begin.Goals as goal

pub returns-clause-stands : goal.returns-clause-stands
returns-clause-stands g c pass b notes n is note k =
    let m = c.args.self.now in let s = c.requires.ready.ready in
    stands_kept g.D.Disk.tells g.D.Disk.state _ b notes n [] note (none_passed (nones_at m.lanes.items b.lanes) notes n note.passed_is k.passed)
    (reframed g.D.Disk.tells g.D.Disk.state m b notes c.args.home _ m.rooms.items m.spindle m.index (sym (length_refill _ _ _ refl)) (refl, refl) refl (ready_reframed g.D.Disk.state m c.args.home _ m.rooms.items m.spindle m.index (sym (length_refill _ _ _ refl)) refl (refl, refl) s.spindle_free s.settled s.accesses refl c.requires.ready) k)

pub returns-clause-any_moment : goal.returns-clause-any_moment
returns-clause-any_moment g c told b notes k = stops_at_rest g.D.Disk.tells g.D.Disk.state g.met.D.Disk.sound told c.args.self.now b notes k
