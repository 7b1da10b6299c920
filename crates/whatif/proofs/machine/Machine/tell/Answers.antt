-- All lines of a policy, one after another.
use Rattle.std.proofs.Common.{◌++◌, ap, subst, sym, ◌∙◌}
use Rattle.whatif.specs.Waits.{AreLogged, helds}
use Rattle.whatif.specs.declared.policy.Compared.{Compared}
use Rattle.whatif.specs.Lines.{policy_text}
use Rattle.whatif.specs.Policies.{waits_by}
use Rattle.whatif.proofs.Lined.{all_told, on_ok}
use Rattle.whatif.proofs.machine.Machine.tell.Goals as goal

pub returns : goal.returns
returns c = λ from ws run.
    let p = c.args.policy in let config = c.args.config.now in let out = c.args.out.now.items in
    on_ok c.volumes_if.result _ _
    (λ e. all_told c.args.details p config from ws c.args.to out c.policy_line.new.out.items c.long_if.new.out.items c.volumes_if.new.out.items
    (c.in_ok-policy_line.ensures.ok ∙ ap (λ (u : Compared). out ++ policy_text p u) (c.used_until.ensures p config from ws run))
    (c.in_ok-long_if.ensures (waits_by p config from ws) (c.told.ensures p config from ws run) (subst (AreLogged (helds (waits_by p config from ws))) (sym c.logged.ensures) run.tallies.logged)) e)
    (c.volumes_if.ensures config from ws run c.deref.ensures.value)
