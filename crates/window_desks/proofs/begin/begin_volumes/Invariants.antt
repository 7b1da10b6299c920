use Rattle.std.proofs.Common.{◌≡◌, ◌≤◌, ◌<◌, ℕ, slice_index_or}
use Rattle.request_turns.specs.Begun.{HasBegunVolume}
use Rattle.request_turns.specs.Turns.{ManagerPass}
use Rattle.window_desks.proofs.begin.begin_volumes.Given as goal

abbrev pub invariant-loop-k : goal.invariant-loop-k
invariant-loop-k g l = record {
  begun : (j : ℕ) (d : ManagerPass g.row.D.Denot) → j < l.k → HasBegunVolume g.D.Disk.tells l.awake (slice_index_or l.initial.keepers j d) (slice_index_or l.keepers j d);
  rest : (j : ℕ) (d : ManagerPass g.row.D.Denot) → l.k ≤ j → slice_index_or l.keepers j d ≡ slice_index_or l.initial.keepers j d;
}
