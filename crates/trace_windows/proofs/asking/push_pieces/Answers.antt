use Rattle.std.proofs.Common.{[], ◌∷◌, ◌∙◌, arith, length-append}
use Rattle.msr_trace.specs.Lines.{trace_line}
use Rattle.trace_windows.proofs.Numbering.{few_so_far, piece_more, split_more}
use Rattle.trace_windows.proofs.asking.push_pieces.Goals as goal
use Rattle.wol_config.specs.Configs.{most_of}

pub overflow_add-place : goal.overflow_add-place
overflow_add-place c =
    let few = few_so_far c.home_of-home.result (most_of c.args.config.now) (trace_line c.args.line.now) c.loop-piece.yielded c.loop-piece.piece-iterator c.requires.fits c.loop-piece.invariant.split in
    omega (arith, few, c.loop-piece.invariant.place)

pub loop-piece-preserved : goal.loop-piece-preserved
loop-piece-preserved c = record {
  pushed = c.in_ok-push.ensures.items ∙ piece_more c.args.next c.args.number c.args.volume c.args.line.now.kind _ _ c.loop-piece.yielded c.in-Some.piece c.loop-piece.place c.loop-piece.invariant.pushed c.loop-piece.invariant.place;
  place = omega (arith, c.loop-piece.invariant.place, length-append c.loop-piece.yielded (c.in-Some.piece ∷ []));
  split = split_more _ c.loop-piece.yielded _ _ c.in-Some.piece c.loop-piece.invariant.split c.in-Some.ensures.steps;
}
