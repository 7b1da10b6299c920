-- What is given up first.
use Rattle.std.proofs.Common.{true, ◌∙◌}
use Rattle.reclaimer.proofs.DrainStep.{byte_is}
use Rattle.reclaimer.proofs.GivenFirst.{answer_there, go_there, going_there, one_done, one_failed, there, whole_given}
use Rattle.reclaimer.proofs.give_up.give_first.Given as given
use Rattle.reclaimer.proofs.give_up.give_first.Goals as goal

pub goes_whole-requires-clause-there : goal.goes_whole-requires-clause-there
goes_whole-requires-clause-there g c = answer_there g.D.Disk.state c.args.any c.args.m.now c.args.record.now c.requires.index c.requires.ready c.requires.up c.requires.first

pub drop_segment-requires-clause-there : goal.drop_segment-requires-clause-there
drop_segment-requires-clause-there g c = there g.D.Disk.state c.args.any c.args.m.now c.args.record.now c.requires.index c.requires.ready c.requires.up c.requires.first

pub drop_segment-requires-clause-go : goal.drop_segment-requires-clause-go
drop_segment-requires-clause-go g c = go_there g.D.Disk.state c.args.any c.args.m.now c.args.record.now c.requires.index c.requires.ready c.requires.up c.requires.first (c.goes_whole.ensures.go c.if-goes_whole.true)

pub drop_rec-requires-clause-there : goal.drop_rec-requires-clause-there
drop_rec-requires-clause-there g c = there g.D.Disk.state c.args.any c.args.m.now c.args.record.now c.requires.index c.requires.ready c.requires.up c.requires.first

pub drop_rec-requires-clause-goes : goal.drop_rec-requires-clause-goes
drop_rec-requires-clause-goes g c = going_there g.D.Disk.state c.args.any c.args.m.now c.args.record.now c.requires.index c.requires.ready c.requires.up c.requires.first

pub returns-then-goes_whole-clause-given : goal.returns-then-goes_whole-clause-given
returns-then-goes_whole-clause-given g c =
    let e = c.drop_segment.ensures in
    (whole_given g.D.Disk.state c.args.any c.args.m.now c.args.record.now c.requires.index c.requires.ready c.requires.up c.requires.first c.drop_segment.new.self (c.goes_whole.ensures.go c.if-goes_whole.true) (c.goes_whole.ensures.first c.if-goes_whole.true) c.drop_segment.result e.fault e.dropped e.gone).given

pub returns-then-goes_whole-clause-look : goal.returns-then-goes_whole-clause-look
returns-then-goes_whole-clause-look g c =
    let e = c.drop_segment.ensures in
    (whole_given g.D.Disk.state c.args.any c.args.m.now c.args.record.now c.requires.index c.requires.ready c.requires.up c.requires.first c.drop_segment.new.self (c.goes_whole.ensures.go c.if-goes_whole.true) (c.goes_whole.ensures.first c.if-goes_whole.true) c.drop_segment.result e.fault e.dropped e.gone).look

pub returns-then-goes_whole-clause-awake : goal.returns-then-goes_whole-clause-awake
returns-then-goes_whole-clause-awake g c =
    let e = c.drop_segment.ensures in
    (whole_given g.D.Disk.state c.args.any c.args.m.now c.args.record.now c.requires.index c.requires.ready c.requires.up c.requires.first c.drop_segment.new.self (c.goes_whole.ensures.go c.if-goes_whole.true) (c.goes_whole.ensures.first c.if-goes_whole.true) c.drop_segment.result e.fault e.dropped e.gone).awake

pub returns-then-goes_whole-clause-drains : goal.returns-then-goes_whole-clause-drains
returns-then-goes_whole-clause-drains g c =
    let e = c.drop_segment.ensures in
    (whole_given g.D.Disk.state c.args.any c.args.m.now c.args.record.now c.requires.index c.requires.ready c.requires.up c.requires.first c.drop_segment.new.self (c.goes_whole.ensures.go c.if-goes_whole.true) (c.goes_whole.ensures.first c.if-goes_whole.true) c.drop_segment.result e.fault e.dropped e.gone).drains

pub returns-then-goes_whole-clause-counted : goal.returns-then-goes_whole-clause-counted
returns-then-goes_whole-clause-counted g c =
    let e = c.drop_segment.ensures in
    (whole_given g.D.Disk.state c.args.any c.args.m.now c.args.record.now c.requires.index c.requires.ready c.requires.up c.requires.first c.drop_segment.new.self (c.goes_whole.ensures.go c.if-goes_whole.true) (c.goes_whole.ensures.first c.if-goes_whole.true) c.drop_segment.result e.fault e.dropped e.gone).counted

pub returns-then-goes_whole-clause-lowers : goal.returns-then-goes_whole-clause-lowers
returns-then-goes_whole-clause-lowers g c =
    let e = c.drop_segment.ensures in
    (whole_given g.D.Disk.state c.args.any c.args.m.now c.args.record.now c.requires.index c.requires.ready c.requires.up c.requires.first c.drop_segment.new.self (c.goes_whole.ensures.go c.if-goes_whole.true) (c.goes_whole.ensures.first c.if-goes_whole.true) c.drop_segment.result e.fault e.dropped e.gone).lowers

pub returns-then-goes_whole-clause-passed : goal.returns-then-goes_whole-clause-passed
returns-then-goes_whole-clause-passed g c =
    let e = c.drop_segment.ensures in
    (whole_given g.D.Disk.state c.args.any c.args.m.now c.args.record.now c.requires.index c.requires.ready c.requires.up c.requires.first c.drop_segment.new.self (c.goes_whole.ensures.go c.if-goes_whole.true) (c.goes_whole.ensures.first c.if-goes_whole.true) c.drop_segment.result e.fault e.dropped e.gone).passed

pub returns-in-Ok-clause-given : goal.returns-in-Ok-clause-given
returns-in-Ok-clause-given g c =
    let e = c.in-Ok.ensures in
    (one_done g.D.Disk.state c.args.any c.args.m.now c.args.record.now c.requires.index c.requires.ready c.requires.up c.requires.first c.drop_rec.new.self c.in-Ok.gone c.from.result (c.from.ensures ∙ byte_is c.in-Ok.gone) e.gone e.fault.1 e.dropped).given

pub returns-in-Ok-clause-look : goal.returns-in-Ok-clause-look
returns-in-Ok-clause-look g c =
    let e = c.in-Ok.ensures in
    (one_done g.D.Disk.state c.args.any c.args.m.now c.args.record.now c.requires.index c.requires.ready c.requires.up c.requires.first c.drop_rec.new.self c.in-Ok.gone c.from.result (c.from.ensures ∙ byte_is c.in-Ok.gone) e.gone e.fault.1 e.dropped).look

pub returns-in-Ok-clause-awake : goal.returns-in-Ok-clause-awake
returns-in-Ok-clause-awake g c =
    let e = c.in-Ok.ensures in
    (one_done g.D.Disk.state c.args.any c.args.m.now c.args.record.now c.requires.index c.requires.ready c.requires.up c.requires.first c.drop_rec.new.self c.in-Ok.gone c.from.result (c.from.ensures ∙ byte_is c.in-Ok.gone) e.gone e.fault.1 e.dropped).awake

pub returns-in-Ok-clause-drains : goal.returns-in-Ok-clause-drains
returns-in-Ok-clause-drains g c =
    let e = c.in-Ok.ensures in
    (one_done g.D.Disk.state c.args.any c.args.m.now c.args.record.now c.requires.index c.requires.ready c.requires.up c.requires.first c.drop_rec.new.self c.in-Ok.gone c.from.result (c.from.ensures ∙ byte_is c.in-Ok.gone) e.gone e.fault.1 e.dropped).drains

pub returns-in-Ok-clause-counted : goal.returns-in-Ok-clause-counted
returns-in-Ok-clause-counted g c =
    let e = c.in-Ok.ensures in
    (one_done g.D.Disk.state c.args.any c.args.m.now c.args.record.now c.requires.index c.requires.ready c.requires.up c.requires.first c.drop_rec.new.self c.in-Ok.gone c.from.result (c.from.ensures ∙ byte_is c.in-Ok.gone) e.gone e.fault.1 e.dropped).counted

pub returns-in-Ok-clause-lowers : goal.returns-in-Ok-clause-lowers
returns-in-Ok-clause-lowers g c =
    let e = c.in-Ok.ensures in
    (one_done g.D.Disk.state c.args.any c.args.m.now c.args.record.now c.requires.index c.requires.ready c.requires.up c.requires.first c.drop_rec.new.self c.in-Ok.gone c.from.result (c.from.ensures ∙ byte_is c.in-Ok.gone) e.gone e.fault.1 e.dropped).lowers

pub returns-in-Ok-clause-passed : goal.returns-in-Ok-clause-passed
returns-in-Ok-clause-passed g c =
    let e = c.in-Ok.ensures in
    (one_done g.D.Disk.state c.args.any c.args.m.now c.args.record.now c.requires.index c.requires.ready c.requires.up c.requires.first c.drop_rec.new.self c.in-Ok.gone c.from.result (c.from.ensures ∙ byte_is c.in-Ok.gone) e.gone e.fault.1 e.dropped).passed

pub returns-in-Err-clause-given : goal.returns-in-Err-clause-given
returns-in-Err-clause-given g c =
    let e = c.in-Err.ensures in
    (one_failed g.D.Disk.state c.args.any c.args.m.now c.args.record.now c.requires.index c.requires.ready c.requires.up c.requires.first c.drop_rec.new.self c.in-Err.fault e.fault e.dropped).given

pub returns-in-Err-clause-awake : goal.returns-in-Err-clause-awake
returns-in-Err-clause-awake g c =
    let e = c.in-Err.ensures in
    (one_failed g.D.Disk.state c.args.any c.args.m.now c.args.record.now c.requires.index c.requires.ready c.requires.up c.requires.first c.drop_rec.new.self c.in-Err.fault e.fault e.dropped).awake

pub returns-in-Err-clause-counted : goal.returns-in-Err-clause-counted
returns-in-Err-clause-counted g c =
    let e = c.in-Err.ensures in
    (one_failed g.D.Disk.state c.args.any c.args.m.now c.args.record.now c.requires.index c.requires.ready c.requires.up c.requires.first c.drop_rec.new.self c.in-Err.fault e.fault e.dropped).counted

pub returns-in-Err-clause-passed : goal.returns-in-Err-clause-passed
returns-in-Err-clause-passed g c =
    let e = c.in-Err.ensures in
    (one_failed g.D.Disk.state c.args.any c.args.m.now c.args.record.now c.requires.index c.requires.ready c.requires.up c.requires.first c.drop_rec.new.self c.in-Err.fault e.fault e.dropped).passed

pub returns-in-Err-clause-drains : goal.returns-in-Err-clause-drains
returns-in-Err-clause-drains g c =
    let e = c.in-Err.ensures in
    (one_failed g.D.Disk.state c.args.any c.args.m.now c.args.record.now c.requires.index c.requires.ready c.requires.up c.requires.first c.drop_rec.new.self c.in-Err.fault e.fault e.dropped).drains
