-- Each return is the rule's step, and the rule's step is the model's place.
use Rattle.offload_policy.proofs.place.Goals as goal
use Rattle.offload_policy.proofs.Agreeing.{agrees_at}
use Rattle.std.proofs.Common.{rules}
use Rattle.offload_policy.specs.declared.Step.TheVariants.{WakeHome, Full}

pub returns-in-Some-clause-model : goal.returns-in-Some-clause-model
returns-in-Some-clause-model c = λ has known. agrees_at _ c.args.home_up c.args.covered c.args.ups.now c.args.rooms.now has (search rules) known

pub returns-then-not-covered-2-clause-model : goal.returns-then-not-covered-2-clause-model
returns-then-not-covered-2-clause-model c = λ has known. agrees_at WakeHome c.args.home_up c.args.covered c.args.ups.now c.args.rooms.now has (search rules) known

pub returns-in-Some-first_open-clause-model : goal.returns-in-Some-first_open-clause-model
returns-in-Some-first_open-clause-model c = λ has known. agrees_at _ c.args.home_up c.args.covered c.args.ups.now c.args.rooms.now has (search rules) known

pub returns-in-None-clause-model : goal.returns-in-None-clause-model
returns-in-None-clause-model c = λ has known. agrees_at Full c.args.home_up c.args.covered c.args.ups.now c.args.rooms.now has (search rules) known
