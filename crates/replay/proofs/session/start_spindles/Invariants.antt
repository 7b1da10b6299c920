use Rattle.replay.proofs.Basics.{◌≡◌, ◌<◌, ◌≤◌, ℕ, slice_index_or}
use Rattle.replay.proofs.Terms.{SpindlePass, AreKeepers, AreSamePasses, HasStarted}
use Rattle.replay.proofs.session.start_spindles.Given as goal

abbrev pub invariant-loop-k : goal.invariant-loop-k
invariant-loop-k g l = record {
  keepers : AreKeepers l.shared l.keepers;
  same : AreSamePasses l.initial.keepers l.keepers;
  started : (j : ℕ) (d : SpindlePass) → j < l.k → HasStarted l.at (slice_index_or l.initial.keepers j d) (slice_index_or l.keepers j d);
  waiting : (j : ℕ) (d : SpindlePass) → l.k ≤ j → slice_index_or l.keepers j d ≡ slice_index_or l.initial.keepers j d;
}
