use Rattle.std.proofs.Common.{◌≡◌}
use Rattle.wol_run.proofs.Pending.{IsPending}
use Rattle.wol_run.proofs.listing.print_lines.Given as goal

abbrev pub invariant-loop-number : goal.invariant-loop-number
invariant-loop-number g l = record {
  at : l.generator ≡ record { seed = l.fn.asked.seed; given = l._number };
  quiet : g.K.Sink.faults l.out ≡ g.K.Sink.faults l.initial.out;
  pending : IsPending l.config l.fn.asked.seed l._number (g.K.Sink.taken l.initial.out) (g.K.Sink.taken l.out) l.text.items;
}
