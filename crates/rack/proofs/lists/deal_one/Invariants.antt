use Rattle.rack.proofs.Basics.{◌≤◌, length, vec_capacity}
use Rattle.rack.proofs.Setting.{IsDealtTo}
use Rattle.rack.proofs.lists.deal_one.Given as goal

abbrev pub invariant-loop-row : goal.invariant-loop-row
invariant-loop-row g l = record {
  dealt : IsDealtTo l.fn.rows l.rows l.places.items l.row;
  room : length l.fn.rows ≤ vec_capacity l.places;
}
