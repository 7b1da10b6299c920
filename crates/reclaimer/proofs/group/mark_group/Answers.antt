-- Blocks are marked as home, record by record.
use Rattle.std.proofs.Common.{◌≡◌, ◌<◌, ◌+◌, ◌^◌, ◌∙◌, ℕ, List, length, take, drop, refl, sym, ap, subst, arith}
use Rattle.reclaimer.specs.Groups.{marked}
use Rattle.reclaimer.specs.declared.group.Laid.{Laid}
use Rattle.reclaimer.proofs.MarkedSoFar.{all_taken, laid_at, mark_few, marked_drains, marked_on, none_marked, to_mark}
use Rattle.reclaimer.proofs.group.mark_group.Goals as goal

pub loop-laid-init : goal.loop-laid-init
loop-laid-init g c = none_marked g.D.Disk.tells g.D.Disk.state c.args.m.now c.args.group.now c.requires.ready c.requires.up c.requires.awake c.requires.marks

pub mark_home-requires-clause-there : goal.mark_home-requires-clause-there
mark_home-requires-clause-there g c = (to_mark g.D.Disk.tells g.D.Disk.state c.args.m.now c.args.group.now c.loop-laid.m c.loop-laid.laid-index c.loop-laid.blocks c.loop-laid.invariant c.loop-laid-test.true c.requires.rising).there

pub mark_home-requires-clause-due : goal.mark_home-requires-clause-due
mark_home-requires-clause-due g c = (to_mark g.D.Disk.tells g.D.Disk.state c.args.m.now c.args.group.now c.loop-laid.m c.loop-laid.laid-index c.loop-laid.blocks c.loop-laid.invariant c.loop-laid-test.true c.requires.rising).due

pub overflow_add-blocks : goal.overflow_add-blocks
overflow_add-blocks g c =
    let e = c.mark_home.ensures in let lt = c.loop-laid-test.true in
    let few = mark_few c.loop-laid.m c.mark_home.new.self (laid_at c.args.group.now c.loop-laid.laid-index) e.unchanged e.marked e.index (to_mark g.D.Disk.tells g.D.Disk.state c.args.m.now c.args.group.now c.loop-laid.m c.loop-laid.laid-index c.loop-laid.blocks c.loop-laid.invariant lt c.requires.rising) c.loop-laid.invariant.awake in
    omega (arith, few, c.loop-laid.invariant.few, c.requires.few, lt)

pub loop-laid-preserved : goal.loop-laid-preserved
loop-laid-preserved g c =
    let e = c.mark_home.ensures in
    marked_on g.D.Disk.tells g.D.Disk.state c.args.m.now c.args.group.now c.loop-laid.m c.loop-laid.laid-index c.loop-laid.blocks c.loop-laid.invariant c.loop-laid-test.true c.requires.rising c.mark_home.new.self e.unchanged e.marked e.index e.ready e.keeps

pub returns-clause-marked : goal.returns-clause-marked
returns-clause-marked g c = let i = c.loop-laid.invariant in let all : c.loop-laid.laid-index ≡ length c.args.group.now = omega (arith, c.loop-laid-test.false, c.loop-laid.auto.laid-index-end) in
    i.marks_made ∙ ap (λ (n : ℕ). marked (take n c.args.group.now) c.args.m.now.index.entries) all ∙ ap (λ (ps : List Laid). marked ps c.args.m.now.index.entries) (all_taken c.args.group.now)

pub returns-clause-count : goal.returns-clause-count
returns-clause-count g c = let i = c.loop-laid.invariant in let all : c.loop-laid.laid-index ≡ length c.args.group.now = omega (arith, c.loop-laid-test.false, c.loop-laid.auto.laid-index-end) in
    omega (arith, i.some, all)

pub returns-clause-fewer : goal.returns-clause-fewer
returns-clause-fewer g c = let i = c.loop-laid.invariant in let all : c.loop-laid.laid-index ≡ length c.args.group.now = omega (arith, c.loop-laid-test.false, c.loop-laid.auto.laid-index-end) in
    omega (arith, i.fewer, all)

pub returns-clause-keeps : goal.returns-clause-keeps
returns-clause-keeps g c b notes home k = (c.loop-laid.invariant.keeps b notes home k).0

pub returns-clause-drains : goal.returns-clause-drains
returns-clause-drains g c = let i = c.loop-laid.invariant in marked_drains c.args.m.now c.loop-laid.m i.rest i.lanes
