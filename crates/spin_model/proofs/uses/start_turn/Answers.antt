use Rattle.std.proofs.Common.{ap, ◌∙◌}
use Rattle.turn_lock.specs.Passes.{pass_mine, pass_number}
use Rattle.wol_model.specs.Journal.{Started}
use Rattle.spin_model.specs.Operations.{has_token}
use Rattle.spin_model.specs.Spindles.{HasMade}
use Rattle.spin_model.proofs.Owning.{token_started}
use Rattle.spin_model.proofs.Turning.{between, made_in_place}
use Rattle.spin_model.proofs.uses.start_turn.Goals as goal

pub leave-requires-clause-value : goal.leave-requires-clause-value
leave-requires-clause-value g c = let v = c.enter_in_place.ensures.value in let k = c.change.ensures in let w = k.worked v.0 v.1 in
    let made = between (HasMade (Started c.args.t0)) _ _ v.0 w.0 w.1.shows w.1.leaves w.1.met in
    (w.0, w.2, made_in_place c.enter_in_place.new.pass c.change.new.pass k.same k.seen (Started c.args.t0) v.0 w.0 made v.2 tt)

pub returns-clause-token : goal.returns-clause-token
returns-clause-token g c = let p = c.change.new.pass in ap has_token c.leave.ensures.3 ∙ (token_started (pass_mine p) (pass_number p) c.args.t0 ∙ ap has_token (c.change.ensures.mine ∙ c.enter_in_place.ensures.mine))
