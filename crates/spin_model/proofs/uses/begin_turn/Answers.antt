use Rattle.std.proofs.Common.{sym, ap, ◌∙◌, List}
use Rattle.turn_lock.specs.Histories.{Entry}
use Rattle.turn_lock.specs.LockIds.{LockId}
use Rattle.turn_lock.specs.Passes.{pass_lock, pass_seen, pass_mine, pass_number}
use Rattle.wol_model.specs.Journal.{Began}
use Rattle.spin_model.specs.declared.spindle.SpindleBase.{SpindleBase}
use Rattle.spin_model.specs.Operations.{has_token}
use Rattle.spin_model.specs.Spindles.{SpindleView, HasMade, state_after}
use Rattle.spin_model.proofs.Owning.{token_begun}
use Rattle.spin_model.proofs.Turning.{between, made_in_place}
use Rattle.spin_model.proofs.uses.begin_turn.Goals as goal

pub leave-requires-clause-value : goal.leave-requires-clause-value
leave-requires-clause-value g c = let v = c.enter_in_place.ensures.value in let k = c.change-awake.ensures in let w = k.worked v.0 v.1 in
    let made = between (HasMade (Began c.args.t)) _ _ v.0 w.0 w.1.shows w.1.leaves w.1.met.0 in
    (w.0, w.2, made_in_place c.enter_in_place.new.pass c.change-awake.new.pass k.same k.seen (Began c.args.t) v.0 w.0 made v.2 tt)

pub returns-clause-token : goal.returns-clause-token
returns-clause-token g c = let p = c.change-awake.new.pass in ap has_token c.leave.ensures.3 ∙ (token_begun (pass_mine p) (pass_number p) c.args.t ∙ ap has_token (c.change-awake.ensures.mine ∙ c.enter_in_place.ensures.mine))

pub returns-clause-answer : goal.returns-clause-answer
returns-clause-answer g c = let v = c.enter_in_place.ensures.value in let k = c.change-awake.ensures in let w = k.worked v.0 v.1 in
    let made = between (HasMade (Began c.args.t)) _ _ v.0 w.0 w.1.shows w.1.leaves w.1.met.0 in
    let st = made_in_place c.enter_in_place.new.pass c.change-awake.new.pass k.same k.seen (Began c.args.t) v.0 w.0 made v.2 tt in
    w.1.met.1 ∙ ap (λ (s : SpindleView). s.awake) w.1.leaves ∙ st.shows.awake
    ∙ sym (ap (λ (l : LockId SpindleBase). (state_after l.base (pass_seen c.leave.new.pass)).awake) c.leave.ensures.0.0
    ∙ ap (λ (es : List Entry). (state_after (pass_lock c.change-awake.new.pass).base es).awake) c.leave.ensures.2)
