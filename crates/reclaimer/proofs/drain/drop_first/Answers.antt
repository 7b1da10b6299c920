-- The first record of which something may go gives that up, or its whole segment goes.
use Rattle.std.proofs.Common.{◌≡◌, ◌<◌, ◌∷◌, [], true, Bool, List, None, Some, Result, Ok, Err, length, refl, ap, subst, arith}
use Rattle.std.specs.Prelude.{find}
use Rattle.std.specs.List.{AllByRecursion}
use Rattle.wol_model.specs.Index.{listed_in, has_going}
use Rattle.garbage_list.specs.Least.{can_go}
use Rattle.redirect_map.specs.Index.{Contents, IsAnswer}
use Rattle.manager.specs.declared.part.StepFault.{StepFault}
use Rattle.reclaimer.specs.declared.answers.Drain.{Drain}
use Rattle.reclaimer.specs.declared.answers.Drain.TheVariants.{Moved}
use Rattle.reclaimer.proofs.Draining.{none_left}
use Rattle.reclaimer.proofs.DrainGiven.{drains_given, drains_refused}
use Rattle.reclaimer.proofs.DrainStep.{awake_answer}
use Rattle.garbage_list.proofs.Nexts.{unanswered}
use Rattle.reclaimer.proofs.PutFirst.{moved_not_bare}
use Rattle.reclaimer.proofs.Reach.{within_reach}
use Rattle.reclaimer.proofs.drain.drop_first.Goals as goal

-- all loggers count as awake
abbrev awake : List Bool
awake = true ∷ true ∷ true ∷ true ∷ true ∷ true ∷ true ∷ true ∷ true ∷ true ∷ true ∷ true ∷ true ∷ true ∷ true ∷ true ∷ []

set : AllByRecursion (λ t. t ≡ true) awake
set = (refl, (refl, (refl, (refl, (refl, (refl, (refl, (refl, (refl, (refl, (refl, (refl, (refl, (refl, (refl, (refl, tt))))))))))))))))

pub going-requires : goal.going-requires
going-requires g c = within_reach g.D.Disk.state c.args.m.now c.requires.ready c.requires.up c.index.result.now c.index.ensures awake c.requires.ready.ready.few

pub unreachable-requires : goal.unreachable-requires
unreachable-requires g c =
    let m = c.args.m.now in let rd = c.requires.ready in
    let none_going = unanswered _ (awake_answer g.D.Disk.state m rd c.requires.up awake set rd.ready.few (λ es. has_going (listed_in es)) c.index.result.now c.index.ensures None c.in_default.ensures.answer) in
    let empty = ap length (none_left m.index.entries c.requires.index none_going c.requires.due) in
    let none : 0 < 0 = subst (λ n. 0 < n) empty c.requires.some in
    omega (arith, none)

pub give_first-requires-clause-first : goal.give_first-requires-clause-first
give_first-requires-clause-first g c = subst (λ (i : Contents). IsAnswer (find (can_go awake i.entries) i.entries) (Some c.in-Some.record)) c.index.ensures c.in-Some.ensures.answer

pub returns-in-Ok-clause-drains : goal.returns-in-Ok-clause-drains
returns-in-Ok-clause-drains g c = drains_given g.D.Disk.state c.args.m.now c.give_first.new.m c.requires.ready c.requires.up c.requires.due awake set c.requires.ready.ready.few c.in-Some.record (subst (λ (i : Contents). IsAnswer (find (can_go awake i.entries) i.entries) (Some c.in-Some.record)) c.index.ensures c.in-Some.ensures.answer) c.in-Ok.records c.in-Ok.ensures.given

pub returns-in-Err-clause-drains : goal.returns-in-Err-clause-drains
returns-in-Err-clause-drains g c = drains_refused g.D.Disk.state c.args.m.now c.give_first.new.m c.requires.ready c.requires.up c.requires.due awake set c.requires.ready.ready.few c.in-Some.record (subst (λ (i : Contents). IsAnswer (find (can_go awake i.entries) i.entries) (Some c.in-Some.record)) c.index.ensures c.in-Some.ensures.answer) c.in-Err.fault c.in-Err.ensures.fault c.in-Err.ensures.given

pub returns-in-Ok-clause-moved : goal.returns-in-Ok-clause-moved
returns-in-Ok-clause-moved g c is = let answer : Result Drain StepFault = Ok (Moved 0 c.in-Ok.records) in moved_not_bare answer refl is

pub returns-in-Err-clause-moved : goal.returns-in-Err-clause-moved
returns-in-Err-clause-moved g c is = let answer : Result Drain StepFault = Err c.in-Err.fault in moved_not_bare answer refl is
