use Rattle.std.proofs.Common.{◌∙◌, length}
use Rattle.turn_lock.specs.Passes.{pass_lock}
use Rattle.request_turns.proofs.ReadNotes.{read_blocks_, read_counted_}
use Rattle.request_turns.proofs.Taking.{fits_volume}
use Rattle.request_turns.proofs.read.read_blocks.Goals as goal

pub read_within-requires-clause-turn : goal.read_within-requires-clause-turn
read_within-requires-clause-turn g c = let e = c.enter-turn.ensures in record { own = e.same.0 ∙ c.requires.pass.own; turn = e.turn }

pub read_within-requires-clause-blocks : goal.read_within-requires-clause-blocks
read_within-requires-clause-blocks g c =
    fits_volume c.args.shared.now c.args.lbn (length c.args.out.now) (pass_lock c.enter-turn.new.pass) (pass_lock c.args.pass.now) c.enter-turn.ensures.same.0 c.requires.blocks

pub returns-clause-read : goal.returns-clause-read
returns-clause-read g c = let e = c.enter-turn.ensures in
    read_blocks_ _ _ c.read_within.new.out c.read_within.result c.args.pass.now c.enter-turn.new.pass _ e.same e.seen e.mine e.own c.read_within.ensures

pub returns-clause-counted : goal.returns-clause-counted
returns-clause-counted g c = let e = c.enter-turn.ensures in
    read_counted_ _ _ c.read_within.new.out c.read_within.result c.args.pass.now c.enter-turn.new.pass _ e.same e.seen e.mine e.own c.read_within.ensures
