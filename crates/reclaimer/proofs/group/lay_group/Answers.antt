-- Records are laid home, one after another.
use Rattle.std.proofs.Common.{◌≡◌, ◌+◌, ◌∷◌, ◌++◌, ◌∙◌, [], ℕ, List, rules, subst, sym, arith, length}
use Rattle.reclaimer.specs.declared.group.Laid.{Laid}
use Rattle.reclaimer.proofs.LaidSoFar.{LaidSoFar, laid_more, lays_full, next_due, next_first, next_small, none_next, none_yet, passed_then, since_then, stopped_broke, stopped_fault}
use Rattle.garbage_list.specs.Least.{can_go_home}
use Rattle.reclaimer.specs.Groups.{lanes_of}
use Rattle.reclaimer.proofs.Firsts.{some_found}
use Rattle.reclaimer.proofs.LaysOne.{tried_as}
use Rattle.manager.specs.Stands.{Keeps}
use Rattle.manager.specs.Stops.{HoldsOn}
use Rattle.reclaimer.proofs.group.lay_group.Goals as goal

pub records-init : goal.records-init
records-init g c = subst (λ (ps : List Laid). LaidSoFar g.D.Disk.tells g.D.Disk.state c.args.shared.now c.args.any c.args.m.now c.args.m.now ps 0) (sym c.requires.empty)
    (none_yet g.D.Disk.tells g.D.Disk.state g.met.D.Disk.sound c.args.shared.now c.args.any c.args.m.now c.requires.up c.requires.ready c.requires.at c.requires.awake)

pub lay_record-requires-clause-due : goal.lay_record-requires-clause-due
lay_record-requires-clause-due g c = next_due g.D.Disk.tells g.D.Disk.state g.met.D.Disk.sound c.args.shared.now c.args.any c.args.m.now c.requires.up c.records.m c.records.group.items c.records.from c.records.invariant c.in-Some.record (next_first g.D.Disk.tells g.D.Disk.state g.met.D.Disk.sound c.args.shared.now c.args.any c.args.m.now c.requires.up c.records.m c.records.group.items c.records.from c.records.invariant c.in-Some.record c.in-Some.ensures.index c.in-Some.ensures.answer)

pub push-requires : goal.push-requires
push-requires g c = omega (arith, c.len.ensures.value, c.records-test.true)

pub overflow_add-from : goal.overflow_add-from
overflow_add-from g c = let lt = next_small g.D.Disk.tells g.D.Disk.state g.met.D.Disk.sound c.args.shared.now c.args.any c.args.m.now c.requires.up c.records.m c.records.group.items c.records.from c.records.invariant c.in-Some.record (next_first g.D.Disk.tells g.D.Disk.state g.met.D.Disk.sound c.args.shared.now c.args.any c.args.m.now c.requires.up c.records.m c.records.group.items c.records.from c.records.invariant c.in-Some.record c.in-Some.ensures.index c.in-Some.ensures.answer) in omega (arith, lt)

pub records-preserved : goal.records-preserved
records-preserved g c = let e = c.in_ok-mask.ensures in
    subst (λ (ps : List Laid). LaidSoFar g.D.Disk.tells g.D.Disk.state c.args.shared.now c.args.any c.args.m.now c.lay_record.new.m ps (c.in-Some.record.version + 1)) (sym c.push.ensures.items)
    (laid_more g.D.Disk.tells g.D.Disk.state g.met.D.Disk.sound c.args.shared.now c.args.any c.args.m.now c.requires.up c.records.m c.records.group.items c.records.from c.records.invariant c.in-Some.record c.in-Some.ensures.index (next_first g.D.Disk.tells g.D.Disk.state g.met.D.Disk.sound c.args.shared.now c.args.any c.args.m.now c.requires.up c.records.m c.records.group.items c.records.from c.records.invariant c.in-Some.record c.in-Some.ensures.index c.in-Some.ensures.answer) c.lay_record.new.m c.in_ok-mask.mask
    e.lays e.fault.1 (omega (arith, c.len.ensures.value, c.records-test.true)) e.ready e.at e.calm e.same e.reads e.drains e.passed e.due e.there e.others e.keeps e.since)

pub returns-in_default-clause-lays : goal.returns-in_default-clause-lays
returns-in_default-clause-lays g c = none_next g.D.Disk.tells g.D.Disk.state g.met.D.Disk.sound c.args.shared.now c.args.any c.args.m.now c.requires.up c.records.m c.records.group.items c.records.from c.records.invariant c.in_default.ensures.answer

pub returns-clause-lays : goal.returns-clause-lays
returns-clause-lays g c = let i = c.records.invariant in let full : length c.records.group.items ≡ 128 = omega (arith, c.len.ensures.value, c.records-test.false, i.few) in
    lays_full g.D.Disk.tells g.D.Disk.state g.met.D.Disk.sound c.args.shared.now c.args.any c.args.m.now c.requires.up c.records.m c.records.group.items c.records.from c.records.invariant (i.index (omega (arith, full))).rising full

pub returns-in_err-mask-clause-fault : goal.returns-in_err-mask-clause-fault
returns-in_err-mask-clause-fault g c = let e = c.in_err-mask.ensures in
    let so = stopped_fault g.D.Disk.tells g.D.Disk.state g.met.D.Disk.sound c.args.shared.now c.args.any c.args.m.now c.requires.up c.records.m c.records.group.items c.records.from c.records.invariant ℕ (Unit {0}) c.lay_record.new.m c.in_err-mask.field-0.0 e.fault in
    search rules

pub returns-in_err-mask-clause-broke : goal.returns-in_err-mask-clause-broke
returns-in_err-mask-clause-broke g c = let e = c.in_err-mask.ensures in
    let so = stopped_broke g.D.Disk.tells g.D.Disk.state g.met.D.Disk.sound c.args.shared.now c.args.any c.args.m.now c.requires.up c.records.m c.records.group.items c.records.from c.records.invariant ℕ (Unit {0}) c.lay_record.new.m c.in_err-mask.field-0.0 e.broke in
    search rules

pub returns-in_err-mask-clause-same : goal.returns-in_err-mask-clause-same
returns-in_err-mask-clause-same g c = c.in_err-mask.ensures.same ∙ c.records.invariant.same

pub returns-in_err-mask-clause-since : goal.returns-in_err-mask-clause-since
returns-in_err-mask-clause-since g c = let e = c.in_err-mask.ensures in let m = c.args.m.now in
    let so = tried_as ℕ (Unit {0}) c.in_err-mask.field-0.0 _ (HoldsOn g.D.Disk.tells g.D.Disk.state m c.lay_record.new.m (Keeps g.D.Disk.tells g.D.Disk.state m)) (λ h. since_then g.D.Disk.tells g.D.Disk.state g.met.D.Disk.sound c.args.shared.now c.args.any c.args.m.now c.requires.up c.records.m c.records.group.items c.records.from c.records.invariant c.lay_record.new.m h) e.since in
    search rules

pub returns-in_err-mask-clause-awake : goal.returns-in_err-mask-clause-awake
returns-in_err-mask-clause-awake g c = c.in_err-mask.ensures.awake c.records.invariant.awake

pub returns-in_err-mask-clause-passed : goal.returns-in_err-mask-clause-passed
returns-in_err-mask-clause-passed g c = passed_then g.D.Disk.tells g.D.Disk.state g.met.D.Disk.sound c.args.shared.now c.args.any c.args.m.now c.requires.up c.records.m c.records.group.items c.records.from c.records.invariant c.lay_record.new.m c.in_err-mask.ensures.passed

pub returns-in_err-mask-clause-due : goal.returns-in_err-mask-clause-due
returns-in_err-mask-clause-due g c = let n = (next_first g.D.Disk.tells g.D.Disk.state g.met.D.Disk.sound c.args.shared.now c.args.any c.args.m.now c.requires.up c.records.m c.records.group.items c.records.from c.records.invariant c.in-Some.record c.in-Some.ensures.index c.in-Some.ensures.answer) in
    let so = some_found c.records.from (can_go_home (lanes_of c.args.any c.args.m.now) c.args.m.now.index.entries) c.args.m.now.index.entries n.entry n.found in
    search rules
