-- The line tells what was told of logs.
use Rattle.std.proofs.Common.{◌≡◌, ◌++◌, ℕ, List, subst}
use Rattle.std.specs.Prelude.{OnOk}
use Rattle.whatif.proofs.Lined.{logged_told}
use Rattle.whatif.proofs.lines.logged_line.Goals as goal

pub returns-clause-ok : goal.returns-clause-ok
returns-clause-ok c = λ hs are.
    subst (λ (l : List ℕ). OnOk c.append_line.result (c.append_line.new.out.items ≡ c.args.out.now.items ++ l))
    (logged_told c.args.policy c.name_of.result.now hs c.args.logged.now are c.name_of.ensures) c.append_line.ensures.ok
