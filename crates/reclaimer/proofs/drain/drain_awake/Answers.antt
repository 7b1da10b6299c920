-- A step of a drain with home awake.
use Rattle.std.proofs.Common.{◌≡◌, ◌<◌, ◌∷◌, [], ℕ, zero, suc, true, false, Bool, List, Option, None, Some, Result, Ok, Err, length, refl, sym, ap, subst, ◌∙◌, arith}
use Rattle.std.specs.Prelude.{find, is_some, if◌then◌else◌}
use Rattle.std.specs.List.{AllByRecursion}
use Rattle.wol_model.specs.Index.{Indexed, listed_in, has_due}
use Rattle.redirect_map.specs.Index.{Contents, IsAnswer, IsIndex}
use Rattle.manager.specs.Seen.{look_of_manager}
use Rattle.manager.proofs.Calm.{none_home}
use Rattle.manager.proofs.ReadStops.{stops_read}
use Rattle.garbage_list.specs.Least.{can_go_home}
use Rattle.reclaimer.specs.Drains.{first_due, put_home}
use Rattle.manager.specs.declared.part.StepFault.{StepFault}
use Rattle.reclaimer.specs.declared.answers.Drain.{Drain}
use Rattle.reclaimer.specs.declared.answers.Drain.TheVariants.{Bare, Moved}
use Rattle.reclaimer.proofs.DrainStep.{awake_answer}
use Rattle.reclaimer.proofs.PutFirst.{blocks_above, due_some, kept_refused, moved_not_bare, none_answered}
use Rattle.reclaimer.proofs.TakenOff.{nothing_taken}
use Rattle.reclaimer.proofs.Reach.{within_reach}
use Rattle.reclaimer.proofs.drain.drain_awake.Given as given
use Rattle.reclaimer.proofs.drain.drain_awake.Goals.{In-Ok}
use Rattle.reclaimer.proofs.drain.drain_awake.Goals as goal

-- all loggers count as awake
abbrev awake : List Bool
awake = true ∷ true ∷ true ∷ true ∷ true ∷ true ∷ true ∷ true ∷ true ∷ true ∷ true ∷ true ∷ true ∷ true ∷ true ∷ true ∷ []

set : AllByRecursion (λ t. t ≡ true) awake
set = (refl, (refl, (refl, (refl, (refl, (refl, (refl, (refl, (refl, (refl, (refl, (refl, (refl, (refl, (refl, (refl, tt))))))))))))))))

pub returns-then-len-eq0-clause-any_moment : goal.returns-then-len-eq0-clause-any_moment
returns-then-len-eq0-clause-any_moment g c told was through b notes _ k =
    stops_read g.D.Disk.tells g.D.Disk.state g.met.D.Disk.sound told was b notes k c.args.m.now through c.requires.ready (sym through.down ∙ c.requires.up)

pub returns-then-len-eq0-clause-calm : goal.returns-then-len-eq0-clause-calm
returns-then-len-eq0-clause-calm g c = none_home g.D.Disk.state c.args.m.now c.args.m.now c.requires.ready refl refl

pub returns-then-len-eq0-clause-counted : goal.returns-then-len-eq0-clause-counted
returns-then-len-eq0-clause-counted g c = nothing_taken (look_of_manager c.args.m.now) (look_of_manager c.args.m.now) refl

pub due_next-requires : goal.due_next-requires
due_next-requires g c = within_reach g.D.Disk.state c.args.m.now c.requires.ready c.requires.up c.index-2.result.now c.index-2.ensures awake c.requires.ready.ready.few

pub drop_first-requires-clause-some : goal.drop_first-requires-clause-some
drop_first-requires-clause-some g c = above (length c.args.m.now.index.entries) (λ none. c.if-len-eq0.false (c.len.ensures.value ∙ ap (λ (i : Contents). length i.entries) c.index.ensures ∙ none))
  where
    above : (n : ℕ) → (n ≡ 0 → ⊥) → 0 < n
    above zero other = absurd (other refl)
    above (suc n) other = omega arith

pub drop_first-requires-clause-index : goal.drop_first-requires-clause-index
drop_first-requires-clause-index g c = subst (λ (i : Contents). IsIndex i.entries) c.index.ensures c.len.ensures.index

pub drop_first-requires-clause-due : goal.drop_first-requires-clause-due
drop_first-requires-clause-due g c = none_answered (first_due c.args.m.now.index.entries) c.due_next.result
    (awake_answer g.D.Disk.state c.args.m.now c.requires.ready c.requires.up awake set c.requires.ready.ready.few (λ es. has_due (listed_in es)) c.index-2.result.now c.index-2.ensures c.due_next.result c.due_next.ensures.answer)
    (sym c.is_some-due.ensures ∙ c.if-not-due.true)

-- something is due, so some blocks went home
some_blocks : (g : given.Over) (c : In-Ok g) → 0 < c.in-Ok.blocks
some_blocks g c =
    let es = c.args.m.now.index.entries in
    blocks_above c.in-Ok.blocks (find (can_go_home awake es) es ≡ None) c.in-Ok.ensures.nothing
    (due_some (find (can_go_home awake es) es) c.due_next.result (subst (λ (i : Contents). IsAnswer (find (can_go_home awake i.entries) i.entries) c.due_next.result) c.index-2.ensures c.due_next.ensures.answer) (sym c.is_some-due.ensures ∙ c.if-not-due.false))

pub returns-in-Ok-clause-drains : goal.returns-in-Ok-clause-drains
returns-in-Ok-clause-drains g c = put_home (Ok c.in-Ok.blocks) c.in-Ok.ensures.put (some_blocks g (goal.at.returns-in-Ok-clause-drains g c).In-Ok, refl, refl)

pub returns-in-Ok-clause-lowers : goal.returns-in-Ok-clause-lowers
returns-in-Ok-clause-lowers g c = c.in-Ok.ensures.lowers (some_blocks g (goal.at.returns-in-Ok-clause-lowers g c).In-Ok)

pub returns-in-Err-clause-drains : goal.returns-in-Err-clause-drains
returns-in-Err-clause-drains g c = put_home (Err c.in-Err.fault) c.in-Err.ensures.put refl

pub returns-in-Err-clause-look : goal.returns-in-Err-clause-look
returns-in-Err-clause-look g c = kept_refused g.D.Disk.state ℕ Drain c.args.m.now c.put_first.new.m c.in-Err.fault c.requires.up c.in-Err.ensures.fault _

-- there is a record
not_empty : (es : List Indexed) → (length es ≡ 0 → ⊥) → es ≡ [] → ⊥
not_empty es some is = some (ap (λ (l : List Indexed). length l) is)

pub returns-then-len-eq0-clause-bare : goal.returns-then-len-eq0-clause-bare
returns-then-len-eq0-clause-bare g c = ((λ _. nothing c.args.m.now.index.entries (sym (c.len.ensures.value ∙ ap (λ (i : Contents). length i.entries) c.index.ensures) ∙ c.if-len-eq0.true)), (λ _. refl))
  where
    nothing : (es : List Indexed) → length es ≡ 0 → es ≡ []
    nothing [] is = refl
    nothing (x ∷ xs) is = absurd (omega (arith, is))

pub returns-then-not-due-clause-bare : goal.returns-then-not-due-clause-bare
returns-then-not-due-clause-bare g c = (
  (λ is. absurd (c.drop_first.ensures.moved is)),
  (λ is. absurd (not_empty c.args.m.now.index.entries (λ none. c.if-len-eq0.false (c.len.ensures.value ∙ ap (λ (i : Contents). length i.entries) c.index.ensures ∙ none)) is)),
)

pub returns-in-Ok-clause-bare : goal.returns-in-Ok-clause-bare
returns-in-Ok-clause-bare g c = let answer : Result Drain StepFault = Ok (Moved c.in-Ok.blocks 0) in (
  (λ is. absurd (moved_not_bare answer refl is)),
  (λ is. absurd (not_empty c.args.m.now.index.entries (λ none. c.if-len-eq0.false (c.len.ensures.value ∙ ap (λ (i : Contents). length i.entries) c.index.ensures ∙ none)) is)),
)

pub returns-in-Err-clause-bare : goal.returns-in-Err-clause-bare
returns-in-Err-clause-bare g c = let answer : Result Drain StepFault = Err c.in-Err.fault in (
  (λ is. absurd (moved_not_bare answer refl is)),
  (λ is. absurd (not_empty c.args.m.now.index.entries (λ none. c.if-len-eq0.false (c.len.ensures.value ∙ ap (λ (i : Contents). length i.entries) c.index.ensures ∙ none)) is)),
)
