use Rattle.std.proofs.Common.{◌≡◌, None, Some, subst}
use Rattle.manager.specs.declared.manager.Manager.{Manager}
use Rattle.request_turns.proofs.InPlace.{same_value}
use Rattle.request_turns.proofs.Noting.{stands_coded, has_left, part_down, is_unbroken}
use Rattle.request_turns.proofs.noted.leave_noted_in_place.Goals as goal

pub leave_in_place-requires-clause-value : goal.leave_in_place-requires-clause-value
leave_in_place-requires-clause-value g c = let v = c.requires.value in (v.0, v.1, stands_coded _ _ v.0 _ _ _ _ c.requires.number v.2)

pub returns : goal.returns
returns g c = let l = c.leave_in_place.ensures in let v = c.requires.value in record {
  left = has_left _ _ v.0 _ _ _ c.requires.number v.2 l.seen l.same l.free l.mine;
  broken = λ m d at down. part_down _ _ v.0 _ _ _ c.requires.number v.2 l.seen d (subst (λ (z : Manager g.row.D.Denot). z.down ≡ Some d) (same_value m v.0 c.args.pass.now at v.1) down);
  unbroken = λ m at up. is_unbroken _ _ v.0 _ _ _ c.requires.number v.2 l.seen (subst (λ (z : Manager g.row.D.Denot). z.down ≡ None) (same_value m v.0 c.args.pass.now at v.1) up);
}
