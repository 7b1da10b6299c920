use Rattle.std.proofs.Common.{◌≡◌, map, take}
use Rattle.std.specs.Prelude.{vec_capacity}
use Rattle.request_turns.specs.Groups.{item_of}
use Rattle.request_turns.proofs.group.list_items.Given as goal

abbrev pub invariant-loop-request : goal.invariant-loop-request
invariant-loop-request l = record {
  listed : l.items.items ≡ map item_of (take l.request-index l.requests);
  room : vec_capacity l.items ≡ vec_capacity l.fn.items;
}
