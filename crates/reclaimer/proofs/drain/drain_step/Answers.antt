-- Home is woken, and then the step is made.
use Rattle.std.proofs.Common.{◌≡◌, ◌≤◌, refl, sym, ap, subst, ◌∙◌}
use Rattle.manager.specs.Reclaim.{Always}
use Rattle.manager.proofs.ReadThrough.{never_some}
use Rattle.manager.specs.Seen.{look_of_manager}
use Rattle.manager.specs.declared.manager.Manager.{Manager}
use Rattle.reclaimer.proofs.CountedDrain.{counts_since, listed_woken}
use Rattle.reclaimer.proofs.Moments.{at_rest}
use Rattle.reclaimer.proofs.TakenOff.{nothing_taken}
use Rattle.reclaimer.proofs.Woken.{step_calm, step_fault, step_drained, step_look, step_bare, step_keeps, step_broke, step_stops}
use Rattle.manager.specs.Stands.{nones_at}
use Rattle.reclaimer.proofs.drain.drain_step.Goals as goal

pub returns-in-Some-clause-any_moment : goal.returns-in-Some-clause-any_moment
returns-in-Some-clause-any_moment g c told = at_rest g.D.Disk.tells g.D.Disk.state g.met.D.Disk.sound Always told c.args.m.now

pub returns-clause-fault : goal.returns-clause-fault
returns-clause-fault g c = step_fault g.D.Disk.tells g.D.Disk.state g.met.D.Disk.sound c.args.m.now c.wake_home.new.self c.drain_awake.new.m c.requires.ready (sym c.down.ensures ∙ never_some c.down.result c.in_default.not-Some) c.wake_home.ensures.read c.wake_home.ensures.ready c.drain_awake.result c.drain_awake.ensures.fault

pub returns-clause-drained : goal.returns-clause-drained
returns-clause-drained g c = step_drained g.D.Disk.tells g.D.Disk.state g.met.D.Disk.sound c.args.m.now c.wake_home.new.self c.drain_awake.new.m c.requires.ready (sym c.down.ensures ∙ never_some c.down.result c.in_default.not-Some) c.wake_home.ensures.read c.wake_home.ensures.ready (record { rest = c.wake_home.ensures.unchanged; used = c.wake_home.ensures.waking }) c.drain_awake.result c.drain_awake.ensures.drains

pub returns-clause-look : goal.returns-clause-look
returns-clause-look g c = step_look g.D.Disk.tells g.D.Disk.state g.met.D.Disk.sound c.args.m.now c.wake_home.new.self c.drain_awake.new.m c.requires.ready (sym c.down.ensures ∙ never_some c.down.result c.in_default.not-Some) c.wake_home.ensures.read c.wake_home.ensures.ready (record { rest = c.wake_home.ensures.unchanged; used = c.wake_home.ensures.waking }) c.drain_awake.result c.drain_awake.ensures.look

pub returns-clause-bare_look : goal.returns-clause-bare_look
returns-clause-bare_look g c = step_bare g.D.Disk.tells g.D.Disk.state g.met.D.Disk.sound c.args.m.now c.wake_home.new.self c.drain_awake.new.m c.requires.ready (sym c.down.ensures ∙ never_some c.down.result c.in_default.not-Some) c.wake_home.ensures.read c.wake_home.ensures.ready (record { rest = c.wake_home.ensures.unchanged; used = c.wake_home.ensures.waking }) c.drain_awake.result c.drain_awake.ensures.drains

pub returns-clause-keeps : goal.returns-clause-keeps
returns-clause-keeps g c = step_keeps g.D.Disk.tells g.D.Disk.state g.met.D.Disk.sound c.args.m.now c.wake_home.new.self c.drain_awake.new.m c.requires.ready (sym c.down.ensures ∙ never_some c.down.result c.in_default.not-Some) c.wake_home.ensures.read c.wake_home.ensures.ready c.drain_awake.result c.drain_awake.ensures.keeps

pub returns-clause-broke : goal.returns-clause-broke
returns-clause-broke g c = step_broke g.D.Disk.tells g.D.Disk.state g.met.D.Disk.sound c.args.m.now c.wake_home.new.self c.drain_awake.new.m c.requires.ready (sym c.down.ensures ∙ never_some c.down.result c.in_default.not-Some) c.wake_home.ensures.read c.wake_home.ensures.ready c.drain_awake.result c.drain_awake.ensures.broke

pub returns-clause-any_moment : goal.returns-clause-any_moment
returns-clause-any_moment g c = step_stops g.D.Disk.tells g.D.Disk.state g.met.D.Disk.sound c.args.m.now c.wake_home.new.self c.drain_awake.new.m c.requires.ready (sym c.down.ensures ∙ never_some c.down.result c.in_default.not-Some) c.wake_home.ensures.read c.wake_home.ensures.ready c.drain_awake.result c.drain_awake.ensures.fault c.drain_awake.ensures.any_moment

pub returns-clause-passed : goal.returns-clause-passed
returns-clause-passed g c lanes k =
    subst (λ m. nones_at m.lanes.items lanes k ≤ nones_at c.drain_awake.new.m.lanes.items lanes k) (c.wake_home.ensures.unchanged) (c.drain_awake.ensures.passed lanes k)

pub returns-in-Some-clause-counted : goal.returns-in-Some-clause-counted
returns-in-Some-clause-counted g c = nothing_taken (look_of_manager c.args.m.now) (look_of_manager c.args.m.now) refl

pub returns-clause-counted : goal.returns-clause-counted
returns-clause-counted g c =
    let w = c.wake_home in let d = c.drain_awake in
    counts_since d.result (look_of_manager c.args.m.now) (look_of_manager w.new.self) (look_of_manager d.new.m) (listed_woken c.args.m.now w.new.self w.ensures.unchanged)
    d.ensures.counted

pub returns-clause-calm : goal.returns-clause-calm
returns-clause-calm g c = step_calm g.D.Disk.state c.args.m.now c.wake_home.new.self c.drain_awake.new.m c.wake_home.ensures.unchanged c.drain_awake.result c.drain_awake.ensures.calm

pub returns-clause-bare : goal.returns-clause-bare
returns-clause-bare g c =
    let b = c.drain_awake.ensures.bare in let same = ap (λ (m : Manager g.row.D.Denot). m.index.entries) c.wake_home.ensures.unchanged in
    ((λ is. (sym c.down.ensures ∙ never_some c.down.result c.in_default.not-Some, sym same ∙ b.0 is)), (λ both. b.1 (same ∙ both.1)))
