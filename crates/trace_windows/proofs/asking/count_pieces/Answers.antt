use Rattle.std.proofs.Common.{◌≤◌, length, inl, arith}
use Rattle.msr_trace.specs.Lines.{trace_line}
use Rattle.trace_windows.proofs.Few.{few_pieces}
use Rattle.trace_windows.proofs.asking.count_pieces.Goals as goal

pub count-requires-clause-fits : goal.count-requires-clause-fits
count-requires-clause-fits c =
    let few : length c.pieces.result ≤ 131073 = rw c.pieces.ensures.content (few_pieces c.args.home c.args.most (trace_line c.args.line.now) c.requires.fits) in
    inl (omega arith)
