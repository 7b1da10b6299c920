use Rattle.rack.proofs.Basics.{◌≡◌, ◌≤◌, [], length, vec_capacity, All}
use Rattle.rack.proofs.lists.new_row.Given as goal

-- the empty lists so far
abbrev pub invariant-loop-logger : goal.invariant-loop-logger
invariant-loop-logger g l = record {
  count : length l.held.items ≡ l._logger;
  room : l.volumes ≤ vec_capacity l.held;
  empty : All (λ list. list.items ≡ []) l.held.items;
}
