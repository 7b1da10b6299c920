use Rattle.std.proofs.Common.{rules, ◌≡◌, Some, None, ap, ◌∙◌, sym, ◌++◌}
use Rattle.turn_lock.specs.Views.{claims_of}
use mathlib.Core.Option as maybe
use Rattle.turn_lock.specs.Passes.{claims_back, pass_lock, pass_number, pass_seen, pass_mine, lock_id, lock_passes}
use Rattle.turn_lock.proofs.PassSteps.{finals}
use Rattle.turn_lock.proofs.WholeHistory.{closes}
use Rattle.turn_lock.proofs.lock.TurnLock.close.Goals as goal

pub unreachable-requires-in_default-take : goal.unreachable-requires-in_default-take
unfolding pass_lock pass_number pass_seen pass_mine lock_id lock_passes
unreachable-requires-in_default-take g c =
    let f = finals g.T.Object.stands c.args.self.table.shared.key.base.value c.args.self.table.shared.key.passes _ _ _ _ c.join_all.ensures.free.0 (let a = c.join_all.ensures.free.1 in let b = c.requires.count in search rules) c.close_with-closed.ensures.values.2 in
    let same : maybe.some (Some f.0) ≡ maybe.some None = sym f.1 ∙ c.in_default-take.ensures.value in cc

pub returns : goal.returns
unfolding pass_lock pass_number pass_seen pass_mine lock_id lock_passes
returns g c =
    let e = c.join_all.ensures in let key = c.args.self.table.shared.key in
    closes g.T.Object.stands key.base.value c.args.self.base.value c.args.self.based key.passes _ _ _ _ c.in-Some.first c.pop.new.self.items c.args.passes.items
    e.free.0 (let a = e.free.1 in let b = c.requires.count in search rules) c.close_with-closed.ensures.values.2 c.in-Some-take.value c.in-Some-take.ensures.value
    (e.claims ∙ ap (λ z. claims_of z.me.0 ++ claims_back c.pop.new.self.items) c.into_seat-seat.ensures) c.in-Some.ensures.items
