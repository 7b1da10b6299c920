-- A group goes home: it is laid there, home is synced, and then it is marked.
use Rattle.std.proofs.Common.{◌≡◌, ◌<◌, ◌≤◌, ◌∙◌, ℕ, Bool, List, [], map, length, Ok, rules, refl, sym, ap, subst, arith}
use Rattle.std.specs.List.{AllByRecursion}
use Rattle.std.proofs.lemmas.Bool.{eqb-true}
use Rattle.wol_model.specs.Index.{Indexed, AreRising}
use Rattle.wol_promise.specs.Policy.{Look, AreReclaims}
use Rattle.wol_promise.specs.Policy as policy
use Rattle.redirect_map.specs.Index.{Contents}
use Rattle.manager.specs.Seen.{look_of_manager}
use Rattle.manager.specs.Stands.{IsHome}
use Rattle.manager.specs.declared.manager.Manager.{Manager}
use Rattle.reclaimer.specs.Groups.{group_of, lanes_of, IsToMark, LaysEach, AllHome, AllLaid}
use Rattle.reclaimer.specs.declared.group.Laid.{Laid}
use Rattle.reclaimer.proofs.Counted.{index_stays}
use Rattle.reclaimer.proofs.PutFirst.{above_zero, first_stops, group_calm, group_counted, group_drains, group_keeps, group_look, group_lowers, group_nothing, group_passed, group_put, group_stops, lays_none, none_due, not_none, refused_awake, refused_broke, refused_fault, refused_index, refused_passed, refused_put, refused_stops, stops_group}
use Rattle.reclaimer.proofs.group.put_first.Goals as goal

pub returns-in_err-lay_group-clause-put : goal.returns-in_err-lay_group-clause-put
returns-in_err-lay_group-clause-put g c = let e = c.in_err-lay_group.ensures in
    let so = refused_put g.D.Disk.state c.args.any c.args.m.now c.lay_group.new.m c.in_err-lay_group.field-0.0 c.requires.up e.fault e.same in
    search rules

pub returns-in_err-lay_group-clause-counted : goal.returns-in_err-lay_group-clause-counted
returns-in_err-lay_group-clause-counted g c = let so = index_stays c.args.m.now c.lay_group.new.m c.in_err-lay_group.ensures.same in search rules

pub returns-in_err-lay_group-clause-any_moment : goal.returns-in_err-lay_group-clause-any_moment
returns-in_err-lay_group-clause-any_moment g c = let e = c.in_err-lay_group.ensures in
    let so = first_stops g.D.Disk.tells g.D.Disk.state g.met.D.Disk.sound (Unit {0}) ℕ c.args.m.now c.lay_group.new.m c.in_err-lay_group.field-0.0 c.requires.up c.requires.ready e.since in
    search rules

pub returns-then-is_empty-clause-nothing : goal.returns-then-is_empty-clause-nothing
returns-then-is_empty-clause-nothing g c = ((λ _. none_due g.D.Disk.state c.args.any c.args.m.now c.lay_group.new.m c.lay_group.new.group.items c.in_ok-lay_group.ensures.lays (eqb-true (length c.lay_group.new.group.items) 0 (sym c.is_empty.ensures ∙ c.if-is_empty.true))), (λ _. refl))

pub returns-then-is_empty-clause-put : goal.returns-then-is_empty-clause-put
returns-then-is_empty-clause-put g c = ((λ _. (lays_none g.D.Disk.state c.args.m.now (group_of (lanes_of c.args.any c.args.m.now) c.args.m.now.index.entries) c.lay_group.new.group.items c.lay_group.new.m c.in_ok-lay_group.ensures.lays (eqb-true (length c.lay_group.new.group.items) 0 (sym c.is_empty.ensures ∙ c.if-is_empty.true)))), (λ lt. absurd (omega (arith, lt))))

pub returns-then-is_empty-clause-look : goal.returns-then-is_empty-clause-look
returns-then-is_empty-clause-look g c is = subst (AreReclaims (look_of_manager c.args.m.now)) (sym (c.in_ok-lay_group.ensures.look is)) (policy.none (look_of_manager c.args.m.now))

pub returns-then-is_empty-clause-counted : goal.returns-then-is_empty-clause-counted
returns-then-is_empty-clause-counted g c = index_stays c.args.m.now c.lay_group.new.m c.in_ok-lay_group.ensures.same

pub returns-then-is_empty-clause-any_moment : goal.returns-then-is_empty-clause-any_moment
returns-then-is_empty-clause-any_moment g c = stops_group g.D.Disk.tells g.D.Disk.state g.met.D.Disk.sound c.args.m.now c.lay_group.new.m c.requires.up c.requires.ready c.in_ok-lay_group.ensures.since

pub returns-in_err-sync_home-clause-fault : goal.returns-in_err-sync_home-clause-fault
returns-in_err-sync_home-clause-fault g c = let e = c.in_err-sync_home.ensures in
    let so = refused_fault g.D.Disk.tells g.D.Disk.state g.met.D.Disk.sound c.args.m.now c.lay_group.new.m c.requires.up c.in_ok-lay_group.ensures.fault.1 c.requires.ready c.in_ok-lay_group.ensures.same c.in_ok-lay_group.ensures.reads c.in_ok-lay_group.ensures.calm c.in_ok-lay_group.ensures.keeps c.in_ok-lay_group.ensures.since (Unit {0}) ℕ c.sync_home.new.self c.in_err-sync_home.field-0.0 e.fault in
    search rules

pub returns-in_err-sync_home-clause-put : goal.returns-in_err-sync_home-clause-put
returns-in_err-sync_home-clause-put g c = let e = c.in_err-sync_home.ensures in let f = c.in_err-sync_home.field-0.0 in
    let so = refused_put g.D.Disk.state c.args.any c.args.m.now c.sync_home.new.self f c.requires.up (refused_fault g.D.Disk.tells g.D.Disk.state g.met.D.Disk.sound c.args.m.now c.lay_group.new.m c.requires.up c.in_ok-lay_group.ensures.fault.1 c.requires.ready c.in_ok-lay_group.ensures.same c.in_ok-lay_group.ensures.reads c.in_ok-lay_group.ensures.calm c.in_ok-lay_group.ensures.keeps c.in_ok-lay_group.ensures.since (Unit {0}) ℕ c.sync_home.new.self f e.fault) (refused_index g.D.Disk.tells g.D.Disk.state g.met.D.Disk.sound c.args.m.now c.lay_group.new.m c.requires.up c.in_ok-lay_group.ensures.fault.1 c.requires.ready c.in_ok-lay_group.ensures.same c.in_ok-lay_group.ensures.reads c.in_ok-lay_group.ensures.calm c.in_ok-lay_group.ensures.keeps c.in_ok-lay_group.ensures.since (Unit {0}) c.sync_home.new.self f e.fault e.synced) in
    search rules

pub returns-in_err-sync_home-clause-counted : goal.returns-in_err-sync_home-clause-counted
returns-in_err-sync_home-clause-counted g c = let e = c.in_err-sync_home.ensures in
    let so = index_stays c.args.m.now c.sync_home.new.self (refused_index g.D.Disk.tells g.D.Disk.state g.met.D.Disk.sound c.args.m.now c.lay_group.new.m c.requires.up c.in_ok-lay_group.ensures.fault.1 c.requires.ready c.in_ok-lay_group.ensures.same c.in_ok-lay_group.ensures.reads c.in_ok-lay_group.ensures.calm c.in_ok-lay_group.ensures.keeps c.in_ok-lay_group.ensures.since (Unit {0}) c.sync_home.new.self c.in_err-sync_home.field-0.0 e.fault e.synced) in
    search rules

pub returns-in_err-sync_home-clause-broke : goal.returns-in_err-sync_home-clause-broke
returns-in_err-sync_home-clause-broke g c = let e = c.in_err-sync_home.ensures in
    let so = refused_broke g.D.Disk.tells g.D.Disk.state g.met.D.Disk.sound c.args.m.now c.lay_group.new.m c.requires.up c.in_ok-lay_group.ensures.fault.1 c.requires.ready c.in_ok-lay_group.ensures.same c.in_ok-lay_group.ensures.reads c.in_ok-lay_group.ensures.calm c.in_ok-lay_group.ensures.keeps c.in_ok-lay_group.ensures.since (Unit {0}) ℕ c.sync_home.new.self c.in_err-sync_home.field-0.0 e.broke in
    search rules

pub returns-in_err-sync_home-clause-any_moment : goal.returns-in_err-sync_home-clause-any_moment
returns-in_err-sync_home-clause-any_moment g c = let e = c.in_err-sync_home.ensures in
    let so = refused_stops g.D.Disk.tells g.D.Disk.state g.met.D.Disk.sound c.args.m.now c.lay_group.new.m c.requires.up c.in_ok-lay_group.ensures.fault.1 c.requires.ready c.in_ok-lay_group.ensures.same c.in_ok-lay_group.ensures.reads c.in_ok-lay_group.ensures.calm c.in_ok-lay_group.ensures.keeps c.in_ok-lay_group.ensures.since (Unit {0}) ℕ c.sync_home.new.self c.in_err-sync_home.field-0.0 e.since in
    search rules

pub mark_group-requires-clause-awake : goal.mark_group-requires-clause-awake
mark_group-requires-clause-awake g c = ap (λ (k : Manager g.row.D.Denot). k.home_up) c.in_ok-sync_home.ensures.synced.rest

pub mark_group-requires-clause-rising : goal.mark_group-requires-clause-rising
mark_group-requires-clause-rising g c = subst (λ (ps : List Laid). AreRising (map (λ (p : Laid). p.version) ps)) (sym c.as_slice.ensures.value) c.lay_group.ensures.rising

pub mark_group-requires-clause-marks : goal.mark_group-requires-clause-marks
mark_group-requires-clause-marks g c =
    subst (λ (es : List Indexed). AllByRecursion (IsToMark es) c.as_slice.result.now) (sym (ap (λ (k : Manager g.row.D.Denot). k.index.entries) c.in_ok-sync_home.ensures.synced.rest ∙ ap (λ (i : Contents). i.entries) c.in_ok-lay_group.ensures.same))
    (subst (AllByRecursion (IsToMark c.args.m.now.index.entries)) (sym c.as_slice.ensures.value) c.lay_group.ensures.marks)

pub mark_group-requires-clause-few : goal.mark_group-requires-clause-few
mark_group-requires-clause-few g c = let n = ap (λ (ps : List Laid). length ps) c.as_slice.ensures.value in omega (arith, n, c.lay_group.ensures.few)

pub returns-clause-at : goal.returns-clause-at
returns-clause-at g c = subst (IsHome c.args.shared.now) (sym c.mark_group.ensures.rest) c.in_ok-sync_home.ensures.at

pub returns-clause-fault : goal.returns-clause-fault
returns-clause-fault g c = (c.requires.up, ap (λ (k : Manager g.row.D.Denot). k.down) c.mark_group.ensures.rest ∙ c.in_ok-sync_home.ensures.fault.1)

pub returns-clause-calm : goal.returns-clause-calm
returns-clause-calm g c = group_calm g.D.Disk.tells g.D.Disk.state g.met.D.Disk.sound c.args.any c.args.m.now c.lay_group.new.m c.sync_home.new.self c.mark_group.new.m c.as_slice.result.now c.mark_group.result
    (subst (λ (ps : List Laid). LaysEach g.D.Disk.state c.args.m.now (group_of (lanes_of c.args.any c.args.m.now) c.args.m.now.index.entries) ps c.lay_group.new.m) (sym c.as_slice.ensures.value) c.in_ok-lay_group.ensures.lays) (let n = ap (λ (ps : List Laid). length ps) c.as_slice.ensures.value in let lt = above_zero (length c.lay_group.new.group.items) (sym c.is_empty.ensures ∙ c.if-is_empty.false) in omega (arith, n, lt)) c.in_ok-lay_group.ensures.same c.in_ok-lay_group.ensures.awake c.in_ok-lay_group.ensures.fault.1 c.in_ok-sync_home.ensures.synced c.in_ok-sync_home.ensures.fault.1 c.mark_group.ensures.rest c.mark_group.ensures.marked c.mark_group.ensures.count c.in_ok-lay_group.ensures.reads c.in_ok-lay_group.ensures.calm c.in_ok-sync_home.ensures.calm

pub returns-clause-nothing : goal.returns-clause-nothing
returns-clause-nothing g c = group_nothing g.D.Disk.tells g.D.Disk.state g.met.D.Disk.sound c.args.any c.args.m.now c.lay_group.new.m c.sync_home.new.self c.mark_group.new.m c.as_slice.result.now c.mark_group.result
    (subst (λ (ps : List Laid). LaysEach g.D.Disk.state c.args.m.now (group_of (lanes_of c.args.any c.args.m.now) c.args.m.now.index.entries) ps c.lay_group.new.m) (sym c.as_slice.ensures.value) c.in_ok-lay_group.ensures.lays) (let n = ap (λ (ps : List Laid). length ps) c.as_slice.ensures.value in let lt = above_zero (length c.lay_group.new.group.items) (sym c.is_empty.ensures ∙ c.if-is_empty.false) in omega (arith, n, lt)) c.in_ok-lay_group.ensures.same c.in_ok-lay_group.ensures.awake c.in_ok-lay_group.ensures.fault.1 c.in_ok-sync_home.ensures.synced c.in_ok-sync_home.ensures.fault.1 c.mark_group.ensures.rest c.mark_group.ensures.marked c.mark_group.ensures.count

pub returns-clause-put : goal.returns-clause-put
returns-clause-put g c = group_put g.D.Disk.tells g.D.Disk.state g.met.D.Disk.sound c.args.any c.args.m.now c.lay_group.new.m c.sync_home.new.self c.mark_group.new.m c.as_slice.result.now c.mark_group.result
    (subst (λ (ps : List Laid). LaysEach g.D.Disk.state c.args.m.now (group_of (lanes_of c.args.any c.args.m.now) c.args.m.now.index.entries) ps c.lay_group.new.m) (sym c.as_slice.ensures.value) c.in_ok-lay_group.ensures.lays) (let n = ap (λ (ps : List Laid). length ps) c.as_slice.ensures.value in let lt = above_zero (length c.lay_group.new.group.items) (sym c.is_empty.ensures ∙ c.if-is_empty.false) in omega (arith, n, lt)) c.in_ok-lay_group.ensures.same c.in_ok-lay_group.ensures.awake c.in_ok-lay_group.ensures.fault.1 c.in_ok-sync_home.ensures.synced c.in_ok-sync_home.ensures.fault.1 c.mark_group.ensures.rest c.mark_group.ensures.marked c.mark_group.ensures.count

pub returns-clause-look : goal.returns-clause-look
returns-clause-look g c is = group_look g.D.Disk.tells g.D.Disk.state g.met.D.Disk.sound c.args.any c.args.m.now c.lay_group.new.m c.sync_home.new.self c.mark_group.new.m c.as_slice.result.now c.mark_group.result
    (subst (λ (ps : List Laid). LaysEach g.D.Disk.state c.args.m.now (group_of (lanes_of c.args.any c.args.m.now) c.args.m.now.index.entries) ps c.lay_group.new.m) (sym c.as_slice.ensures.value) c.in_ok-lay_group.ensures.lays) (let n = ap (λ (ps : List Laid). length ps) c.as_slice.ensures.value in let lt = above_zero (length c.lay_group.new.group.items) (sym c.is_empty.ensures ∙ c.if-is_empty.false) in omega (arith, n, lt)) c.in_ok-lay_group.ensures.same c.in_ok-lay_group.ensures.awake c.in_ok-lay_group.ensures.fault.1 c.in_ok-sync_home.ensures.synced c.in_ok-sync_home.ensures.fault.1 c.mark_group.ensures.rest c.mark_group.ensures.marked c.mark_group.ensures.count (c.in_ok-lay_group.ensures.look is) c.mark_group.ensures.look

pub returns-clause-counted : goal.returns-clause-counted
returns-clause-counted g c = group_counted g.D.Disk.tells g.D.Disk.state g.met.D.Disk.sound c.args.any c.args.m.now c.lay_group.new.m c.sync_home.new.self c.mark_group.new.m c.as_slice.result.now c.mark_group.result
    (subst (λ (ps : List Laid). LaysEach g.D.Disk.state c.args.m.now (group_of (lanes_of c.args.any c.args.m.now) c.args.m.now.index.entries) ps c.lay_group.new.m) (sym c.as_slice.ensures.value) c.in_ok-lay_group.ensures.lays) (let n = ap (λ (ps : List Laid). length ps) c.as_slice.ensures.value in let lt = above_zero (length c.lay_group.new.group.items) (sym c.is_empty.ensures ∙ c.if-is_empty.false) in omega (arith, n, lt)) c.in_ok-lay_group.ensures.same c.in_ok-lay_group.ensures.awake c.in_ok-lay_group.ensures.fault.1 c.in_ok-sync_home.ensures.synced c.in_ok-sync_home.ensures.fault.1 c.mark_group.ensures.rest c.mark_group.ensures.marked c.mark_group.ensures.count c.mark_group.ensures.taken

pub returns-clause-lowers : goal.returns-clause-lowers
returns-clause-lowers g c _ = group_lowers g.D.Disk.tells g.D.Disk.state g.met.D.Disk.sound c.args.any c.args.m.now c.lay_group.new.m c.sync_home.new.self c.mark_group.new.m c.as_slice.result.now c.mark_group.result
    (subst (λ (ps : List Laid). LaysEach g.D.Disk.state c.args.m.now (group_of (lanes_of c.args.any c.args.m.now) c.args.m.now.index.entries) ps c.lay_group.new.m) (sym c.as_slice.ensures.value) c.in_ok-lay_group.ensures.lays) (let n = ap (λ (ps : List Laid). length ps) c.as_slice.ensures.value in let lt = above_zero (length c.lay_group.new.group.items) (sym c.is_empty.ensures ∙ c.if-is_empty.false) in omega (arith, n, lt)) c.in_ok-lay_group.ensures.same c.in_ok-lay_group.ensures.awake c.in_ok-lay_group.ensures.fault.1 c.in_ok-sync_home.ensures.synced c.in_ok-sync_home.ensures.fault.1 c.mark_group.ensures.rest c.mark_group.ensures.marked c.mark_group.ensures.count c.mark_group.ensures.fewer

pub returns-clause-keeps : goal.returns-clause-keeps
returns-clause-keeps g c = group_keeps g.D.Disk.tells g.D.Disk.state g.met.D.Disk.sound c.args.any c.args.m.now c.lay_group.new.m c.sync_home.new.self c.mark_group.new.m c.as_slice.result.now c.mark_group.result
    (subst (λ (ps : List Laid). LaysEach g.D.Disk.state c.args.m.now (group_of (lanes_of c.args.any c.args.m.now) c.args.m.now.index.entries) ps c.lay_group.new.m) (sym c.as_slice.ensures.value) c.in_ok-lay_group.ensures.lays) (let n = ap (λ (ps : List Laid). length ps) c.as_slice.ensures.value in let lt = above_zero (length c.lay_group.new.group.items) (sym c.is_empty.ensures ∙ c.if-is_empty.false) in omega (arith, n, lt)) c.in_ok-lay_group.ensures.same c.in_ok-lay_group.ensures.awake c.in_ok-lay_group.ensures.fault.1 c.in_ok-sync_home.ensures.synced c.in_ok-sync_home.ensures.fault.1 c.mark_group.ensures.rest c.mark_group.ensures.marked c.mark_group.ensures.count c.in_ok-lay_group.ensures.keeps (λ b notes k. subst (λ (ps : List Laid). AllLaid g.D.Disk.tells g.D.Disk.state c.lay_group.new.m ps b notes) (sym c.as_slice.ensures.value) (c.in_ok-lay_group.ensures.there b notes k)) c.in_ok-sync_home.ensures.keeps c.in_ok-sync_home.ensures.there c.mark_group.ensures.keeps

pub returns-clause-any_moment : goal.returns-clause-any_moment
returns-clause-any_moment g c = group_stops g.D.Disk.tells g.D.Disk.state g.met.D.Disk.sound c.args.any c.args.m.now c.lay_group.new.m c.sync_home.new.self c.mark_group.new.m c.as_slice.result.now c.mark_group.result
    (subst (λ (ps : List Laid). LaysEach g.D.Disk.state c.args.m.now (group_of (lanes_of c.args.any c.args.m.now) c.args.m.now.index.entries) ps c.lay_group.new.m) (sym c.as_slice.ensures.value) c.in_ok-lay_group.ensures.lays) (let n = ap (λ (ps : List Laid). length ps) c.as_slice.ensures.value in let lt = above_zero (length c.lay_group.new.group.items) (sym c.is_empty.ensures ∙ c.if-is_empty.false) in omega (arith, n, lt)) c.in_ok-lay_group.ensures.same c.in_ok-lay_group.ensures.awake c.in_ok-lay_group.ensures.fault.1 c.in_ok-sync_home.ensures.synced c.in_ok-sync_home.ensures.fault.1 c.mark_group.ensures.rest c.mark_group.ensures.marked c.mark_group.ensures.count c.requires.up c.requires.ready c.in_ok-lay_group.ensures.since c.in_ok-sync_home.ensures.since

pub returns-in_err-sync_home-clause-awake : goal.returns-in_err-sync_home-clause-awake
returns-in_err-sync_home-clause-awake g c = let e = c.in_err-sync_home.ensures in refused_awake g.D.Disk.tells g.D.Disk.state g.met.D.Disk.sound c.args.m.now c.lay_group.new.m c.requires.up c.in_ok-lay_group.ensures.fault.1 c.requires.ready c.in_ok-lay_group.ensures.same c.in_ok-lay_group.ensures.reads c.in_ok-lay_group.ensures.calm c.in_ok-lay_group.ensures.keeps c.in_ok-lay_group.ensures.since (Unit {0}) c.sync_home.new.self c.in_err-sync_home.field-0.0 e.fault e.synced

pub returns-in_err-sync_home-clause-passed : goal.returns-in_err-sync_home-clause-passed
returns-in_err-sync_home-clause-passed g c = let e = c.in_err-sync_home.ensures in refused_passed g.D.Disk.tells g.D.Disk.state g.met.D.Disk.sound c.args.m.now c.lay_group.new.m c.requires.up c.in_ok-lay_group.ensures.fault.1 c.requires.ready c.in_ok-lay_group.ensures.same c.in_ok-lay_group.ensures.reads c.in_ok-lay_group.ensures.calm c.in_ok-lay_group.ensures.keeps c.in_ok-lay_group.ensures.since (Unit {0}) c.sync_home.new.self c.in_err-sync_home.field-0.0 e.fault e.synced c.in_ok-lay_group.ensures.passed

pub returns-clause-awake : goal.returns-clause-awake
returns-clause-awake g c = ap (λ (k : Manager g.row.D.Denot). k.home_up) c.mark_group.ensures.rest ∙ ap (λ (k : Manager g.row.D.Denot). k.home_up) c.in_ok-sync_home.ensures.synced.rest

pub returns-clause-passed : goal.returns-clause-passed
returns-clause-passed g c = group_passed g.D.Disk.tells g.D.Disk.state g.met.D.Disk.sound c.args.any c.args.m.now c.lay_group.new.m c.sync_home.new.self c.mark_group.new.m c.as_slice.result.now c.mark_group.result
    (subst (λ (ps : List Laid). LaysEach g.D.Disk.state c.args.m.now (group_of (lanes_of c.args.any c.args.m.now) c.args.m.now.index.entries) ps c.lay_group.new.m) (sym c.as_slice.ensures.value) c.in_ok-lay_group.ensures.lays) (let n = ap (λ (ps : List Laid). length ps) c.as_slice.ensures.value in let lt = above_zero (length c.lay_group.new.group.items) (sym c.is_empty.ensures ∙ c.if-is_empty.false) in omega (arith, n, lt)) c.in_ok-lay_group.ensures.same c.in_ok-lay_group.ensures.awake c.in_ok-lay_group.ensures.fault.1 c.in_ok-sync_home.ensures.synced c.in_ok-sync_home.ensures.fault.1 c.mark_group.ensures.rest c.mark_group.ensures.marked c.mark_group.ensures.count c.in_ok-lay_group.ensures.passed

pub returns-clause-drains : goal.returns-clause-drains
returns-clause-drains g c = group_drains g.D.Disk.tells g.D.Disk.state g.met.D.Disk.sound c.args.any c.args.m.now c.lay_group.new.m c.sync_home.new.self c.mark_group.new.m c.as_slice.result.now c.mark_group.result
    (subst (λ (ps : List Laid). LaysEach g.D.Disk.state c.args.m.now (group_of (lanes_of c.args.any c.args.m.now) c.args.m.now.index.entries) ps c.lay_group.new.m) (sym c.as_slice.ensures.value) c.in_ok-lay_group.ensures.lays) (let n = ap (λ (ps : List Laid). length ps) c.as_slice.ensures.value in let lt = above_zero (length c.lay_group.new.group.items) (sym c.is_empty.ensures ∙ c.if-is_empty.false) in omega (arith, n, lt)) c.in_ok-lay_group.ensures.same c.in_ok-lay_group.ensures.awake c.in_ok-lay_group.ensures.fault.1 c.in_ok-sync_home.ensures.synced c.in_ok-sync_home.ensures.fault.1 c.mark_group.ensures.rest c.mark_group.ensures.marked c.mark_group.ensures.count c.in_ok-lay_group.ensures.drains c.mark_group.ensures.drains

pub returns-in_err-sync_home-clause-due : goal.returns-in_err-sync_home-clause-due
returns-in_err-sync_home-clause-due g c =
    let so = not_none g.D.Disk.state c.args.any c.args.m.now c.lay_group.new.m c.lay_group.new.group.items c.in_ok-lay_group.ensures.lays (above_zero (length c.lay_group.new.group.items) (sym c.is_empty.ensures ∙ c.if-is_empty.false)) in
    search rules
