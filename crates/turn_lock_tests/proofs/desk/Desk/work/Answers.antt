use Rattle.std.proofs.Common.{ℕ, List, [], ◌∷◌, ◌++◌, ap, ◌∙◌}
use Rattle.turn_lock.specs.Histories.{Entry}
use Rattle.turn_lock.specs.Passes.{pass_number, pass_mine}
use Rattle.turn_lock_tests.proofs.Uses.{used_once_more}
use Rattle.turn_lock_tests.proofs.desk.Desk.work.Goals as goal

pub returns : goal.returns
returns g c b es n s =
    let a = c.count_as.ensures in let z = c.count_as-2.ensures in record {
      lock = z.same.0 ∙ (a.same.0 ∙ s.lock);
      number = z.same.1 ∙ (a.same.1 ∙ s.number);
      free = z.free;
      mine = z.mine ∙ (ap (λ (t : List Entry × ℕ). t.0 ++ (t.1, 2 ∷ []) ∷ []) (λ i. (a.mine i, (a.same.1 ∙ s.number) i)) ∙ used_once_more b.before (pass_mine c.args.self.now.counter) b.number (pass_number c.args.self.now.counter) es (n, 7 ∷ []) s.mine s.number);
    }
