use Rattle.std.proofs.Common.{◌≡◌, ◌+◌, ◌++◌, reverse, length}
use Rattle.std.specs.Prelude.{vec_len, vec_capacity}
use Rattle.request_workers.proofs.hands.cut_run.Given as goal

abbrev pub invariant-loop : goal.invariant-loop
invariant-loop g l = record {
  cut : l.initial.desks.items ≡ l.desks.items ++ reverse l.room.items;
  moved : vec_len l.room ≡ l.counter;
  left : vec_len l.desks + l.counter ≡ vec_len l.initial.desks;
  room : vec_capacity l.desks ≡ vec_capacity l.initial.desks;
  space : vec_capacity l.room ≡ vec_capacity l.initial.room;
}
