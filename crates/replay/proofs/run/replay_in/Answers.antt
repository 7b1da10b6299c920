use Rattle.replay.proofs.Basics.{ap, subst, sym, ◌∙◌, Global, Vec}
use Rattle.replay.proofs.Terms.{Station, AreMoved, first_closed}
use Rattle.replay.proofs.Lent.{floor_lent, moved_lent}
use Rattle.replay.proofs.ServingOn.{closed_otherwise, closed_runs, never_some, no_memory_runs, served_runs, session_ready}
use Rattle.replay.proofs.run.replay_in.Goals as goal

pub returns-in-Some-clause-runs : goal.returns-in-Some-clause-runs
returns-in-Some-clause-runs g c =
    closed_runs g.D.Disk.tells g.S.Source.left c.args.config.now c.args.options c.args.given.now c.args.rack.now (g.K.Sink.faults c.args.out.now) (g.K.Sink.taken c.args.out.now)
    c.as_slice.result.now c.first_closed.result c.in-Some.fault c.as_slice.ensures.value c.first_closed.ensures c.in-Some.is

pub returns-in-Some-clause-source : goal.returns-in-Some-clause-source
returns-in-Some-clause-source g c = λ same. absurd (closed_otherwise c.as_slice.result.now c.first_closed.result c.in-Some.fault c.first_closed.ensures c.in-Some.is same)

pub replay_on-requires-clause-session : goal.replay_on-requires-clause-session
replay_on-requires-clause-session g c κs within = λ floor of.
    let none = ap (first_closed 0) (sym c.as_slice.ensures.value) ∙ sym c.first_closed.ensures ∙ never_some c.first_closed.result c.in_default.not-Some in
    let e = c.in-Ok.ensures in
    session_ready c.args.config.now c.args.rack.now.shared c.args.rack.now.stations.items c.args.rack.now.keepers floor (c.requires.can_serve none)
    (moved_lent _ _ floor of.locks of.passes _ (subst (λ (x : Vec (Station _) Global). AreMoved x.items c.in-Ok.volumes.0.items c.in-Ok.volumes.1) c.replace-stations.ensures.value e.moved)) (floor_lent _ _ floor of.locks of.passes e.whole)

pub returns-in-Ok-clause-runs : goal.returns-in-Ok-clause-runs
returns-in-Ok-clause-runs g c =
    let on = c.replay_on.ensures.served in
    served_runs g.D.Disk.tells g.S.Source.left c.args.config.now c.args.options c.args.given.now c.replay_on.new.given c.args.rack.now c.replay_on.new.rack (g.K.Sink.faults c.args.out.now) (g.K.Sink.faults c.replay_on.new.out)
    (g.K.Sink.taken c.args.out.now) (g.K.Sink.taken c.replay_on.new.out) c.as_slice.result.now c.first_closed.result on.0 c.replace-stations.new.dest c.replace-stations.result c.replay_on.result
    c.as_slice.ensures.value c.first_closed.ensures (never_some c.first_closed.result c.in_default.not-Some) c.replace-stations.ensures.value
    (moved_lent _ _ on.0 on.1.locks on.1.passes _ c.in-Ok.ensures.moved) on.2

pub returns-in-Err-clause-runs : goal.returns-in-Err-clause-runs
returns-in-Err-clause-runs g c =
    no_memory_runs g.D.Disk.tells g.S.Source.left c.args.config.now c.args.options c.args.given.now c.args.rack.now (g.K.Sink.faults c.args.out.now) (g.K.Sink.taken c.args.out.now) c.put_stations.new.rack
    c.as_slice.result.now c.first_closed.result c.as_slice.ensures.value c.first_closed.ensures (never_some c.first_closed.result c.in_default.not-Some)
    (c.put_stations.ensures ∙ ap (λ (x : Vec (Station _) Global). record c.args.rack.now { stations = x }) (c.in-Err.ensures.refused ∙ c.replace-stations.ensures.value))
