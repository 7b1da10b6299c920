-- Nothing is due where no record is found.
use Rattle.std.proofs.Common.{◌≡◌, true, ap, ◌∙◌, arith, rules}
use Rattle.std.specs.Prelude.{is_none}
use Rattle.garbage_list.specs.Least.{first_version, can_go_home}
use Rattle.whatif.proofs.Steps.{same_none}
use Rattle.whatif.proofs.volume.Volume.has_nothing_due.Goals as goal

pub returns-else-not-self : goal.returns-else-not-self
returns-else-not-self c =
    let v = c.args.self.now in let up : v.home_up ≡ true = search (rules, c.if-not-self.false) in
    let none : c.is_none.result ≡ is_none c.next_due.result = grind (arith, c.is_none.ensures) in
    none ∙ ap is_none (c.next_due.ensures.value ∙ (λ i. first_version (can_go_home (c.as_slice.ensures.value i) v.index.entries) v.index.entries)) ∙ same_none v up
