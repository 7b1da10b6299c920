-- Home is synced.
use Rattle.std.proofs.Common.{Some, refl, sym, ◌∙◌}
use Rattle.std.specs.Prelude.{IsTrue}
use Rattle.spin_model.specs.Spun.{state_of}
use Rattle.manager.specs.Reclaim.{Always, StopsSince, put_block}
use Rattle.manager.specs.Stops.{HoldsOn, HoldsSince}
use Rattle.manager.specs.declared.part.Part.TheVariants.{Home}
use Rattle.manager.proofs.Calm.{none_home}
use Rattle.manager.proofs.Frames.{ready_homed}
use Rattle.manager.proofs.HomeSince.{since_synced}
use Rattle.manager.proofs.LaidHome.{settled_twice, sync_fails, sync_keeps, sync_stops, synced_there}
use Rattle.volume_parts.proofs.PartReads.{never_some}
use Rattle.manager.proofs.manager.Manager.sync_home.Given as given
use Rattle.manager.proofs.manager.Manager.sync_home.Goals.{After-sync_at}
use Rattle.manager.proofs.manager.Manager.sync_home.Goals as goal

-- the call stopped at any moment
stops : (g : given.Over) (c : After-sync_at g) → IsTrue g.D.Disk.tells → StopsSince g.D.Disk.tells g.D.Disk.state c.args.self.now (record c.args.self.now { home = c.sync_at.new.part }) Always
stops g c told was read b notes always keeps =
    let m = c.args.self.now in
    sync_stops g.D.Disk.tells g.D.Disk.state g.met.D.Disk.sound told was m read c.requires.ready (sym read.down ∙ never_some m.down c.in_default.not-Some) b notes keeps c.sync_at.new.part c.sync_at.ensures.synced.any_moment

held_on : (g : given.Over) (c : After-sync_at g) → HoldsOn g.D.Disk.tells g.D.Disk.state c.args.self.now (record c.args.self.now { home = c.sync_at.new.part }) Always
held_on g c was b notes always before =
    since_synced g.D.Disk.tells g.D.Disk.state g.met.D.Disk.sound was c.args.self.now b notes before c.sync_at.new.part c.sync_at.ensures.synced.any_moment

pub returns-in-Ok-clause-ready : goal.returns-in-Ok-clause-ready
returns-in-Ok-clause-ready g c =
    let m = c.args.self.now in let p = c.in-Ok.ensures in
    ready_homed g.D.Disk.state m c.sync_at.new.part c.sync_at.new.spindle m.down p.synced.volume p.synced.size p.same p.free p.settled p.used (never_some m.down c.in_default.not-Some) c.requires.ready

pub returns-in-Ok-clause-keeps : goal.returns-in-Ok-clause-keeps
returns-in-Ok-clause-keeps g c b notes always keeps =
    let m = c.args.self.now in let p = c.in-Ok.ensures in
    sync_keeps g.D.Disk.tells g.D.Disk.state m b notes keeps (never_some m.down c.in_default.not-Some) c.sync_at.new.part c.sync_at.new.spindle p.synced.volume p.synced.size p.same p.synced.images (returns-in-Ok-clause-ready g c)

pub returns-in-Ok-clause-any_moment : goal.returns-in-Ok-clause-any_moment
returns-in-Ok-clause-any_moment g c = stops g (goal.at.returns-in-Ok-clause-any_moment g c).After-sync_at

pub returns-in-Err-clause-broke : goal.returns-in-Err-clause-broke
returns-in-Err-clause-broke g c b notes n always note keeps =
    let m = c.args.self.now in let p = c.in-Err.ensures in
    sync_fails g.D.Disk.tells g.D.Disk.state m b notes keeps (never_some m.down c.in_default.not-Some) c.sync_at.new.part c.sync_at.new.spindle p.synced.volume p.synced.size p.same p.synced.images n note p.synced.cause
    (ready_homed g.D.Disk.state m c.sync_at.new.part c.sync_at.new.spindle (Some (Home m.id)) p.synced.volume p.synced.size p.same p.free p.settled p.used (never_some m.down c.in_default.not-Some) c.requires.ready)

pub returns-in-Err-clause-any_moment : goal.returns-in-Err-clause-any_moment
returns-in-Err-clause-any_moment g c = stops g (goal.at.returns-in-Err-clause-any_moment g c).After-sync_at

pub returns-in-Ok-clause-calm : goal.returns-in-Ok-clause-calm
returns-in-Ok-clause-calm g c = none_home g.D.Disk.state c.args.self.now _ c.requires.ready c.in-Ok.ensures.synced.calm refl

pub returns-in-Ok-clause-there : goal.returns-in-Ok-clause-there
returns-in-Ok-clause-there g c v w b notes was =
    let old = (state_of g.D.Disk.state c.args.self.now.home).values in let new = (state_of g.D.Disk.state c.sync_at.new.part).values in let ok = c.in-Ok.ensures.synced.ok in
    ((λ told e is. let has = was told e is in (has.0, has.1, has.2, synced_there old new (put_block e.listed.first w has.0) ok has.3)), (λ told. settled_twice old new ok))

pub returns-in-Ok-clause-since : goal.returns-in-Ok-clause-since
returns-in-Ok-clause-since g c was b notes always before =
    let s = held_on g (goal.at.returns-in-Ok-clause-since g c).After-sync_at was b notes always before in
    record { up = s.up; index = s.index; lanes = s.lanes; home = s.home }

pub returns-in-Err-clause-since : goal.returns-in-Err-clause-since
returns-in-Err-clause-since g c was b notes always before =
    let s = held_on g (goal.at.returns-in-Err-clause-since g c).After-sync_at was b notes always before in
    record { up = s.up; index = s.index; lanes = s.lanes; home = s.home }
