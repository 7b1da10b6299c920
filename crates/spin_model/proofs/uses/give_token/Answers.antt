use Rattle.std.proofs.Common.{◌<◌, sym, ap, subst, ◌∙◌}
use Rattle.turn_lock.specs.LockIds.{LockId}
use Rattle.turn_lock.specs.Passes.{pass_lock, pass_seen, pass_number, pass_mine}
use Rattle.wol_model.specs.Journal.{Done}
use Rattle.spin_model.specs.declared.spindle.SpindleBase.{SpindleBase}
use Rattle.spin_model.specs.Operations.{has_token}
use Rattle.spin_model.specs.Spindles.{SpindleView, HasMade}
use Rattle.spin_model.proofs.Owning.{token_is_out, token_own, has_token-push}
use Rattle.spin_model.proofs.Turning.{same_value, between, made_in_place}
use Rattle.spin_model.proofs.uses.give_token.Goals as goal

pub change-requires-clause-work : goal.change-requires-clause-work
change-requires-clause-work g c p at = let e = c.enter_in_place.ensures in let v = e.value in
    let is = same_value v.0 p.now c.enter_in_place.new.pass v.1 at in (
      c.requires.volume ∙ sym (ap (λ (s : SpindleView). s.volume) (sym is) ∙ v.2.volume ∙ ap (λ (l : LockId SpindleBase). l.base.volume) e.same.0),
      subst (λ (s : SpindleView). 0 < s.out) is (token_is_out v.0 _ _ (pass_number c.enter_in_place.new.pass) v.2 (ap has_token (e.own ∙ e.mine) ∙ c.requires.has_one)),
    )

pub leave-requires-clause-value : goal.leave-requires-clause-value
leave-requires-clause-value g c = let e = c.enter_in_place.ensures in let v = e.value in let k = c.change.ensures in let w = k.worked v.0 v.1 in let i = c.enter_in_place.new.pass in
    let made = between (HasMade Done) _ _ v.0 w.0 w.1.shows w.1.leaves w.1.met in
    (w.0, w.2, made_in_place i c.change.new.pass k.same k.seen Done v.0 w.0 made v.2 (token_own (pass_lock i).base (pass_seen i) (pass_number i) ∙ (ap has_token (e.own ∙ e.mine) ∙ c.requires.has_one)))

pub returns-clause-has_none : goal.returns-clause-has_none
returns-clause-has_none g c = ap has_token c.leave.ensures.3 ∙ has_token-push (pass_mine c.change.new.pass) (pass_number c.change.new.pass) Done
