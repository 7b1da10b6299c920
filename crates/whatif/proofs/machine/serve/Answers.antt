-- A volume does what is asked of it.
use Rattle.std.proofs.Common.{◌+◌, ℕ, Ok, get_or, subst}
use Rattle.std.specs.Prelude.{slice_set}
use Rattle.std.specs.List.{AllByRecursion}
use Rattle.whatif.specs.Stands.{IsAmong}
use Rattle.whatif.proofs.Lists.{got_or}
use Rattle.whatif.proofs.Served.{served_ready, served_turn}
use Rattle.whatif.proofs.Waited.{one_waited}
use Rattle.whatif.proofs.machine.serve.Goals as goal

pub returns-clause-ready : goal.returns-clause-ready
returns-clause-ready c =
    let v = get_or c.args.volumes.now c.args.ask.now.volume c.index-volumes-ask.result in let a = c.args.ask.now in let e = c.in_ok-served.ensures in
    served_ready (Ok tt) c.args.volumes.now c.args.disks.now c.serve.new.disks c.args.asked c.args.moment a v c.serve.new.self c.requires.ready (got_or c.args.volumes.now a.volume c.index-volumes-ask.result c.requires.ask.volume) e.volume e.kept e.moments e.done

pub held_if-held-requires-clause-volumes : goal.held_if-held-requires-clause-volumes
held_if-held-requires-clause-volumes c =
    let v = get_or c.args.volumes.now c.args.ask.now.volume c.index-volumes-ask.result in let a = c.args.ask.now in let e = c.in_ok-served.ensures in
    let ready = served_ready (Ok tt) c.args.volumes.now c.args.disks.now c.serve.new.disks c.args.asked c.args.moment a v c.serve.new.self c.requires.ready (got_or c.args.volumes.now a.volume c.index-volumes-ask.result c.requires.ask.volume) e.volume e.kept e.moments e.done in
    subst (λ (n : ℕ). AllByRecursion (IsAmong n (c.args.asked + 1)) (slice_set c.args.volumes.now a.volume c.serve.new.self)) ready.count ready.volumes

pub returns-clause-turn : goal.returns-clause-turn
returns-clause-turn c =
    let v = get_or c.args.volumes.now c.args.ask.now.volume c.index-volumes-ask.result in let a = c.args.ask.now in
    served_turn (Ok tt) c.args.volumes.now c.args.disks.now c.serve.new.disks a v c.serve.new.self (got_or c.args.volumes.now a.volume c.index-volumes-ask.result c.requires.ask.volume) c.in_ok-served.ensures.done

pub returns-clause-waits : goal.returns-clause-waits
returns-clause-waits c =
    let v = get_or c.args.volumes.now c.args.ask.now.volume c.index-volumes-ask.result in let a = c.args.ask.now in
    let at = got_or c.args.volumes.now a.volume c.index-volumes-ask.result c.requires.ask.volume in
    one_waited c.args.wake c.in_ok-served.served.wait c.args.volumes.now _ c.args.disks.now c.serve.new.disks a v c.in_ok-served.served.log c.held_if-held.result c.args.tallies.now c.add.new.self at c.in_ok-served.ensures.late
    c.in_ok-served.ensures.log c.held_if-held.ensures (served_turn (Ok tt) c.args.volumes.now c.args.disks.now c.serve.new.disks a v c.serve.new.self at c.in_ok-served.ensures.done)
    (λ ws are. c.add.ensures.told ws are)
