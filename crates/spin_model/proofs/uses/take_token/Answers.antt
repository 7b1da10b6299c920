use Rattle.std.proofs.Common.{ap, ◌∙◌, arith}
use Rattle.turn_lock.specs.LockIds.{LockId}
use Rattle.turn_lock.specs.Passes.{pass_lock, pass_seen, pass_number, pass_mine}
use Rattle.wol_model.specs.Journal.{Needed}
use Rattle.spin_model.specs.declared.spindle.SpindleBase.{SpindleBase}
use Rattle.spin_model.specs.Operations.{has_token}
use Rattle.spin_model.specs.Spindles.{SpindleView, HasMade}
use Rattle.spin_model.proofs.Owning.{few_tokens, token_own, has_token-push}
use Rattle.spin_model.proofs.Turning.{same_value, between, made_in_place}
use Rattle.spin_model.proofs.uses.take_token.Goals as goal

pub change-token-requires-clause-work : goal.change-token-requires-clause-work
change-token-requires-clause-work g c p at = let e = c.enter_in_place.ensures in let v = e.value in
    let is = ap (λ (s : SpindleView). s.out) (same_value v.0 p.now c.enter_in_place.new.pass v.1 at) in let few = few_tokens v.0 _ _ 1024 v.2 e.numbers in omega arith

pub leave-requires-clause-value : goal.leave-requires-clause-value
leave-requires-clause-value g c = let e = c.enter_in_place.ensures in let v = e.value in let k = c.change-token.ensures in let w = k.worked v.0 v.1 in let i = c.enter_in_place.new.pass in
    let made = between (HasMade Needed) _ _ v.0 w.0 w.1.shows w.1.leaves w.1.met.0 in
    (w.0, w.2, made_in_place i c.change-token.new.pass k.same k.seen Needed v.0 w.0 made v.2 (token_own (pass_lock i).base (pass_seen i) (pass_number i) ∙ (ap has_token (e.own ∙ e.mine) ∙ c.requires.has_none)))

pub returns-clause-has_one : goal.returns-clause-has_one
returns-clause-has_one g c = ap has_token c.leave.ensures.3 ∙ has_token-push (pass_mine c.change-token.new.pass) (pass_number c.change-token.new.pass) Needed

pub returns-clause-volume : goal.returns-clause-volume
returns-clause-volume g c = let e = c.enter_in_place.ensures in let v = e.value in let w = c.change-token.ensures.worked v.0 v.1 in
    w.1.met.1 ∙ ap (λ (s : SpindleView). s.volume) w.1.shows ∙ v.2.volume ∙ ap (λ (l : LockId SpindleBase). l.base.volume) e.same.0
