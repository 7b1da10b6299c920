use Rattle.std.proofs.Common.{Some, refl}
use Rattle.manager.specs.declared.part.Part.TheVariants as part
use Rattle.manager.proofs.Calm.{none_home}
use Rattle.manager.proofs.Frames.{ready_homed}
use Rattle.manager.proofs.WentHome.{home_stands, home_fails, home_stopped}
use Rattle.manager.proofs.manager.Manager.write_home.Goals as goal

pub returns-in-Ok-clause-ready : goal.returns-in-Ok-clause-ready
returns-in-Ok-clause-ready g c = let e = c.in-Ok.ensures in
    ready_homed g.D.Disk.state c.args.self.now c.store_at.new.part c.store_at.new.spindle c.args.self.now.down e.stored.volume e.stored.size e.same e.free e.settled e.used c.requires.serves.up c.requires.serves.ready

pub returns-in-Err-clause-ready : goal.returns-in-Err-clause-ready
returns-in-Err-clause-ready g c = let e = c.in-Err.ensures in
    ready_homed g.D.Disk.state c.args.self.now c.store_at.new.part c.store_at.new.spindle (Some (part.Home c.args.self.now.id)) e.stored.volume e.stored.size e.same e.free e.settled e.used c.requires.serves.up c.requires.serves.ready

pub returns-in-Ok-clause-stands : goal.returns-in-Ok-clause-stands
returns-in-Ok-clause-stands g c b notes ps n client note passed k =
    let e = c.in-Ok.ensures in
    home_stands g.D.Disk.tells g.D.Disk.state c.args.self.now b notes k c.requires.serves.up c.args.lbn c.args.from.now c.requires.bare c.requires.fits c.store_at.new.part c.store_at.new.spindle e.stored.volume e.stored.size e.same n client passed ps note e.stored.ok (returns-in-Ok-clause-ready g c)

pub returns-in-Err-clause-stands : goal.returns-in-Err-clause-stands
returns-in-Err-clause-stands g c b notes ps n client note passed k =
    let e = c.in-Err.ensures in
    home_fails g.D.Disk.tells g.D.Disk.state c.args.self.now b notes k c.requires.serves.up c.args.lbn c.args.from.now c.requires.bare c.requires.fits c.store_at.new.part c.store_at.new.spindle e.stored.volume e.stored.size e.same n client passed ps note e.stored.images e.stored.cause (returns-in-Err-clause-ready g c)

pub returns-in-Ok-clause-any_moment : goal.returns-in-Ok-clause-any_moment
returns-in-Ok-clause-any_moment g c told b notes k =
    home_stopped g.D.Disk.tells g.D.Disk.state c.args.self.now b notes k c.requires.serves.up c.args.lbn c.args.from.now c.requires.bare c.requires.fits g.met.D.Disk.sound told c.store_at.new.part c.in-Ok.ensures.stored.any_moment

pub returns-in-Err-clause-any_moment : goal.returns-in-Err-clause-any_moment
returns-in-Err-clause-any_moment g c told b notes k =
    home_stopped g.D.Disk.tells g.D.Disk.state c.args.self.now b notes k c.requires.serves.up c.args.lbn c.args.from.now c.requires.bare c.requires.fits g.met.D.Disk.sound told c.store_at.new.part c.in-Err.ensures.stored.any_moment

pub returns-in-Ok-clause-calm : goal.returns-in-Ok-clause-calm
returns-in-Ok-clause-calm g c = none_home g.D.Disk.state c.args.self.now _ c.requires.serves.ready c.in-Ok.ensures.stored.calm refl
