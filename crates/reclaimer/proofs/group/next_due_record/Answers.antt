-- The first record within reach.
use Rattle.std.proofs.Common.{Bool, List, true, subst, sym}
use Rattle.std.specs.Prelude.{IfSome, replicate, find, if◌then◌else◌}
use Rattle.redirect_map.specs.Index.{Contents, IsAnswer, IsIndex}
use Rattle.garbage_list.specs.Least.{can_go_home, from_on}
use Rattle.reclaimer.specs.Groups.{lanes_of}
use Rattle.reclaimer.proofs.Reach.{within_own, within_reach}
use Rattle.reclaimer.proofs.group.next_due_record.Goals as goal

pub due_from-requires : goal.due_from-requires
due_from-requires g c = within_reach g.D.Disk.state c.args.m.now c.requires.ready c.requires.up c.index.result.now c.index.ensures (replicate 16 true) c.requires.ready.ready.few

pub due_from-requires-else-any : goal.due_from-requires-else-any
due_from-requires-else-any g c = within_own g.D.Disk.state c.args.m.now c.requires.ready c.requires.up c.index-else-any.result.now c.index-else-any.ensures c.ups.result.now c.ups.ensures

pub returns-then-any-clause-answer : goal.returns-then-any-clause-answer
returns-then-any-clause-answer g c = let m = c.args.m.now in let from = c.args.from in
    subst (λ (i : Contents). IsAnswer (find (from_on from (can_go_home (lanes_of c.args.any m) i.entries)) i.entries) c.due_from.result) c.index.ensures
    (subst (λ (ls : List Bool). IsAnswer (find (from_on from (can_go_home ls c.index.result.now.entries)) c.index.result.now.entries) c.due_from.result) (sym (λ i. if c.if-any.true i then replicate 16 true else m.ups.items)) c.due_from.ensures.answer)

pub returns-then-any-clause-index : goal.returns-then-any-clause-index
returns-then-any-clause-index g c = subst (λ (i : Contents). IfSome c.due_from.result (λ r. IsIndex i.entries)) c.index.ensures c.due_from.ensures.index

pub returns-else-any-clause-answer : goal.returns-else-any-clause-answer
returns-else-any-clause-answer g c = let m = c.args.m.now in let from = c.args.from in let es = c.index-else-any.result.now.entries in
    subst (λ (i : Contents). IsAnswer (find (from_on from (can_go_home (lanes_of c.args.any m) i.entries)) i.entries) c.due_from-else-any.result) c.index-else-any.ensures
    (subst (λ (ls : List Bool). IsAnswer (find (from_on from (can_go_home ls es)) es) c.due_from-else-any.result) (sym (λ i. if c.if-any.false i then replicate 16 true else m.ups.items))
    (subst (λ (ls : List Bool). IsAnswer (find (from_on from (can_go_home ls es)) es) c.due_from-else-any.result) c.ups.ensures c.due_from-else-any.ensures.answer))

pub returns-else-any-clause-index : goal.returns-else-any-clause-index
returns-else-any-clause-index g c = subst (λ (i : Contents). IfSome c.due_from-else-any.result (λ r. IsIndex i.entries)) c.index-else-any.ensures c.due_from-else-any.ensures.index
