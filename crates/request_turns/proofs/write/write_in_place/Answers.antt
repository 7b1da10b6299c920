use Rattle.std.proofs.Common.{length, refl, subst}
use Rattle.turn_lock.specs.Passes.{pass_lock}
use Rattle.request_turns.specs.Tried.{CanBeAsked, HasTried}
use Rattle.request_turns.proofs.InPlace.{same_value, between}
use Rattle.request_turns.proofs.Taking.{can_be_asked}
use Rattle.request_turns.proofs.write.write_in_place.Goals as goal

pub change-requires-clause-work : goal.change-requires-clause-work
change-requires-clause-work g c m at = let v = c.requires.value in let l = pass_lock c.args.pass.now in
    subst (CanBeAsked g.D.Disk.state c.args.shared.now c.args.lbn (length c.args.from.now)) (same_value v.0 m.now c.args.pass.now v.1 at)
    (can_be_asked c.args.shared.now _ _ v.0 l l _ refl v.3 c.args.lbn (length c.args.from.now) c.requires.blocks)

pub returns : goal.returns
returns g c = let k = c.change.ensures in record {
  same = k.same;
  seen = k.seen;
  mine = k.mine;
  tried = λ m at. let w = k.worked m at in (w.0, w.2, between (HasTried g.D.Disk.tells g.D.Disk.state c.args.lbn c.args.from.now c.change.result) _ _ m w.0 w.1.shows w.1.leaves w.1.met);
}
