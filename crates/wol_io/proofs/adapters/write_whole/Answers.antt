use Rattle.std.proofs.Common.{rules, arith, length-drop, ℕ}
use Rattle.std.proofs.lemmas.List.{length-take}
use Rattle.wol_io.proofs.Appending.{appends_more, front_taken, appends_zero, keeps_same}
use Rattle.wol_io.proofs.adapters.write_whole.Goals as goal

pub loop-preserved : goal.loop-preserved
loop-preserved g c = record {
  within = omega (arith, length-drop {A = ℕ}, length-take {A = ℕ}, c.in-Ok.ensures.bound);
  so_far = search (rules, appends_more);
}

pub returns-in-Ok-eq0 : goal.returns-in-Ok-eq0
returns-in-Ok-eq0 g c =
    front_taken _ _ _ c.args.piece.now c.loop.done c.loop.invariant.so_far (appends_zero _ _ _ _ c.in-Ok-eq0.field-0-test c.in-Ok-eq0.ensures.bytes)

pub returns-in-Err : goal.returns-in-Err
returns-in-Err g c = front_taken _ _ _ c.args.piece.now c.loop.done c.loop.invariant.so_far c.in-Err.ensures.bytes

pub returns : goal.returns
returns g c = front_taken _ _ _ c.args.piece.now c.loop.done c.loop.invariant.so_far (keeps_same _)
