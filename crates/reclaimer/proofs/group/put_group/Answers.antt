-- A group within reach goes home, where home is awake.
use Rattle.std.proofs.Common.{◌≡◌, ◌∙◌, Bool, Option, None, Some, false, true, refl, sym, ap, subst, arith}
use Rattle.std.specs.Prelude.{find, if◌then◌else◌}
use Rattle.wol_model.specs.Index.{Indexed}
use Rattle.garbage_list.specs.Least.{can_go_home}
use Rattle.manager.specs.Reclaim.{Always}
use Rattle.manager.specs.Seen.{look_of_manager}
use Rattle.manager.proofs.Calm.{none_home}
use Rattle.manager.proofs.ReadThrough.{never_some}
use Rattle.wol_promise.specs.Policy as policy
use Rattle.reclaimer.proofs.Moments.{at_rest}
use Rattle.reclaimer.proofs.PutFirst.{nothing_any, within_any}
use Rattle.reclaimer.proofs.TakenOff.{nothing_taken}
use Rattle.reclaimer.proofs.group.put_group.Goals as goal

pub returns-in-Some-clause-any_moment : goal.returns-in-Some-clause-any_moment
returns-in-Some-clause-any_moment g c told = at_rest g.D.Disk.tells g.D.Disk.state g.met.D.Disk.sound Always told c.args.m.now

pub returns-in-Some-clause-counted : goal.returns-in-Some-clause-counted
returns-in-Some-clause-counted g c = nothing_taken (look_of_manager c.args.m.now) (look_of_manager c.args.m.now) refl

pub returns-then-not-home_up-clause-any_moment : goal.returns-then-not-home_up-clause-any_moment
returns-then-not-home_up-clause-any_moment g c told = at_rest g.D.Disk.tells g.D.Disk.state g.met.D.Disk.sound Always told c.args.m.now

pub returns-then-not-home_up-clause-counted : goal.returns-then-not-home_up-clause-counted
returns-then-not-home_up-clause-counted g c = nothing_taken (look_of_manager c.args.m.now) (look_of_manager c.args.m.now) refl

pub returns-then-not-home_up-clause-calm : goal.returns-then-not-home_up-clause-calm
returns-then-not-home_up-clause-calm g c = none_home g.D.Disk.state c.args.m.now c.args.m.now c.requires.ready refl refl

pub returns-then-not-home_up-clause-look : goal.returns-then-not-home_up-clause-look
returns-then-not-home_up-clause-look g c = policy.none (look_of_manager c.args.m.now)

pub returns-then-not-home_up-clause-put : goal.returns-then-not-home_up-clause-put
returns-then-not-home_up-clause-put g c = ((λ _. refl), (λ lt. absurd (let no : ⊥ = omega (arith, lt) in no)))

pub put_first-requires-clause-up : goal.put_first-requires-clause-up
put_first-requires-clause-up g c = sym c.down.ensures ∙ never_some c.down.result c.in_default.not-Some

pub put_first-requires-clause-awake : goal.put_first-requires-clause-awake
put_first-requires-clause-awake g c = sym c.home_up.ensures ∙ c.if-not-home_up.false

pub returns-clause-nothing : goal.returns-clause-nothing
returns-clause-nothing g c =
    let m = c.args.m.now in
    let up = sym c.down.ensures ∙ never_some c.down.result c.in_default.not-Some in
    let awake = sym c.home_up.ensures ∙ c.if-not-home_up.false in
    let o : Option Indexed = find (can_go_home m.ups.items m.index.entries) m.index.entries in
    let n = nothing_any c.put_first.result (o ≡ None) c.put_first.ensures.nothing c.put_first.ensures.due in
    ((λ is. (up, (λ i. if awake i then o else None) ∙ n.0 is)), (λ both. n.1 (sym (λ i. if awake i then o else None) ∙ both.1)))

pub returns-clause-any_moment : goal.returns-clause-any_moment
returns-clause-any_moment g c = within_any g.D.Disk.tells g.D.Disk.state g.met.D.Disk.sound c.put_first.result c.args.m.now c.put_first.new.m c.put_first.ensures.fault c.put_first.ensures.any_moment
