use Rattle.std.proofs.Common.{length, refl}
use Rattle.turn_lock.specs.Passes.{pass_lock}
use Rattle.request_turns.proofs.Counting.{counted_turn}
use Rattle.request_turns.proofs.Taking.{fits_volume}
use Rattle.request_turns.proofs.WroteTurn.{wrote_blocks}
use Rattle.request_turns.proofs.write.write_blocks.Goals as goal

pub write_within-requires-clause-blocks : goal.write_within-requires-clause-blocks
write_within-requires-clause-blocks g c =
    fits_volume c.args.shared.now c.args.lbn (length c.args.from.now) (pass_lock c.enter_in_place.new.pass) (pass_lock c.args.pass.now) c.enter_in_place.ensures.same.0 c.requires.blocks

pub returns-clause-written : goal.returns-clause-written
returns-clause-written g c = let e = c.enter_in_place.ensures in
    wrote_blocks _ _ c.args.from.now c.write_within.result c.args.pass.now c.enter_in_place.new.pass _ _ _ e.same e.seen e.mine e.own c.write_within.ensures

pub returns-clause-counted : goal.returns-clause-counted
returns-clause-counted g c = let e = c.enter_in_place.ensures in let w = c.write_within.ensures in
    counted_turn _ _ c.enter_in_place.new.pass _ w.note _ _ _ e.same e.seen e.mine e.own w.left w.ruled refl w.counted
