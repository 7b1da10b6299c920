use Rattle.std.proofs.Common.{rules, arith, [], ◌∷◌, refl, sym, ◌∙◌, length-append}
use Rattle.std.proofs.lemmas.List.{length-take}
use Rattle.std.proofs.lemmas.Result.{err_from_is_err_and}
use Rattle.msr_trace.specs.Lines.{trace_line}
use Rattle.wol_io.proofs.Appending.{keeps_same}
use Rattle.solo.proofs.Answering.{answered_none}
use Rattle.solo.proofs.Marks.{content_none}
use Rattle.solo.proofs.LinePieces.{few_so_far, head_lies, piece_answered, piece_content, piece_left, split_more, tail_lies}
use Rattle.solo.proofs.line.run_line.Goals as goal

pub loop-piece-init : goal.loop-piece-init
loop-piece-init g c = record {
  size = refl;
  settled = c.requires.settled;
  values = sym (content_none _);
  answered = answered_none _ _ _ (keeps_same _);
  split = sym (c.into_iter-piece-iterator.ensures.into_iter_gives ∙ c.pieces-piece-items.ensures.content);
  lie = rw c.into_iter-piece-iterator.ensures.into_iter_gives c.pieces-piece-items.ensures.lies;
  count = refl;
  room = c.requires.room;
  disk_later = search rules;
  later = search rules;
  disk_calm = refl;
  sink_calm = refl;
}

pub overflow_add-earlier : goal.overflow_add-earlier
overflow_add-earlier g c =
    omega (arith, few_so_far c.blocks-home.result (trace_line c.args.line.now) c.loop-piece.yielded c.loop-piece.piece-iterator c.requires.fits c.loop-piece.invariant.split, c.loop-piece.invariant.count)

pub slice_bounds-serve-end : goal.slice_bounds-serve-end
slice_bounds-serve-end g c =
    let lies = head_lies c.blocks-home.result c.loop-piece.piece-iterator c.next.new.self c.in-Some.piece c.loop-piece.invariant.lie c.in-Some.ensures.steps in
    omega (arith, lies.short, c.loop-piece.invariant.room)

pub slice_bounds-serve-end-in-loop-piece : goal.slice_bounds-serve-end-in-loop-piece
slice_bounds-serve-end-in-loop-piece g c =
    let lies = head_lies c.blocks-home.result c.loop-piece.piece-iterator c.next.new.self c.in-Some.piece c.loop-piece.invariant.lie c.in-Some.ensures.steps in
    simp length-take (omega (arith, lies.short, c.loop-piece.invariant.room))

pub returns-in_err-serve-clause-content : goal.returns-in_err-serve-clause-content
returns-in_err-serve-clause-content g c =
    let p = err_from_is_err_and c.from_residual.result c.from_residual.ensures.1 in
    let split = split_more _ c.loop-piece.yielded _ _ c.in-Some.piece c.loop-piece.invariant.split c.in-Some.ensures.steps in
    let home = c.blocks-home.ensures in
    rw (p.1, p.2, ← home) (piece_left c.args.number c.args.line.now.kind _ _ _ _ c.loop-piece.yielded _ c.in-Some.piece _ _ _ _ split c.loop-piece.invariant.values c.loop-piece.invariant.answered c.in_err-serve.ensures.content)

pub overflow_add-count : goal.overflow_add-count
overflow_add-count g c =
    omega (arith, few_so_far c.blocks-home.result (trace_line c.args.line.now) c.loop-piece.yielded c.loop-piece.piece-iterator c.requires.fits c.loop-piece.invariant.split, c.loop-piece.invariant.count)

pub loop-piece-preserved : goal.loop-piece-preserved
loop-piece-preserved g c =
    let next = c.in-Some.ensures.steps in
    record {
      size = search rules;
      settled = search rules;
      values = piece_content c.args.number c.args.line.now.kind _ _ _ c.loop-piece.yielded c.in-Some.piece c.loop-piece.invariant.values c.in_ok-serve.ensures.values;
      answered = piece_answered c.args.number c.args.line.now.kind _ _ c.loop-piece.yielded c.in-Some.piece _ _ _ c.loop-piece.invariant.values c.loop-piece.invariant.answered c.in_ok-serve.ensures.content;
      split = split_more _ c.loop-piece.yielded _ _ c.in-Some.piece c.loop-piece.invariant.split next;
      lie = tail_lies c.blocks-home.result c.loop-piece.piece-iterator c.next.new.self c.in-Some.piece c.loop-piece.invariant.lie next;
      count = omega (arith, c.loop-piece.invariant.count, length-append c.loop-piece.yielded (c.in-Some.piece ∷ []));
      room = search rules;
      disk_later = search rules;
      later = search rules;
      disk_calm = search rules;
      sink_calm = search rules;
    }

pub returns-clause-few : goal.returns-clause-few
returns-clause-few g c =
    omega (arith, few_so_far c.blocks-home.result (trace_line c.args.line.now) c.loop-piece.yielded c.loop-piece.piece-iterator c.requires.fits c.loop-piece.invariant.split, c.loop-piece.invariant.count)
