use Rattle.std.proofs.Common.{rules, ◌≡◌, Some, [], ◌∷◌, arith}
use Rattle.std.proofs.lemmas.Grind.{common_steps}
use Rattle.turn_lock.proofs.PassSteps.{begins}
use Rattle.turn_lock.proofs.making.lock_over.Goals as goal

pub new-made-requires : goal.new-made-requires
new-made-requires g c =
    let xs : c.push.new.self.items ≡ Some c.args.value ∷ [] = grind (arith, common_steps) in
    rw xs (begins g.T.Object.stands c.pick.result.value c.from.result c.args.value (search rules) (rw c.pick.ensures c.requires.1.1.1))
