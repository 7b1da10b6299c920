use Rattle.replay.proofs.Basics.{◌≡◌, take}
use Rattle.replay.proofs.Terms.{printed_names, lines_of_outcomes}
use Rattle.replay.proofs.Waiting.{IsPending}
use Rattle.replay.proofs.printing.print_reads.Given as goal

abbrev pub invariant-loop-at : goal.invariant-loop-at
invariant-loop-at g l = record {
  quiet : g.K.Sink.faults l.out ≡ g.K.Sink.faults l.initial.out;
  pending : IsPending (lines_of_outcomes (printed_names l.config.volumes.items) (take l.at l.requests) (take l.at l.outcomes)) (g.K.Sink.taken l.initial.out) (g.K.Sink.taken l.out) l.text.items;
}
