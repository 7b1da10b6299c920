use Rattle.std.proofs.Common.{◌≤◌, ◌<◌, length, arith, sym, subst, get_or}
use Rattle.wol_model.specs.History.{keeper}
use Rattle.turn_lock.specs.Passes.{IsPassAt}
use Rattle.request_turns.specs.Helped.{ManagerLock}
use Rattle.window_desks.proofs.begin.begin_volumes.Goals as goal

pub begin_volume-requires-clause-pass : goal.begin_volume-requires-clause-pass
begin_volume-requires-clause-pass g c =
    let within : c.loop-k.k < length c.args.keepers.now = (let t = c.loop-k-test.true in let a = c.loop-k.auto.keepers in omega arith) in
    let same : c.loop-k.k ≤ c.loop-k.k = omega arith in
    rw (c.loop-k.invariant.rest c.loop-k.k c.index-keepers-k.result same)
    (subst (λ (l : ManagerLock g.row.D.Denot). IsPassAt l keeper (get_or c.args.keepers.now c.loop-k.k c.index-keepers-k.result)) (sym c.index-locks-k.is)
    (c.requires.passes c.loop-k.k c.index-locks-k.result c.index-keepers-k.result within))
