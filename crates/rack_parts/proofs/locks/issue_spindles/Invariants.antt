use Rattle.rack_parts.proofs.Basics.{◌≡◌, ◌≤◌, length, vec_capacity}
use Rattle.rack_parts.proofs.Terms.{AreSpindlesOf}
use Rattle.spin_model.specs.Spindles.{base_of}
use Rattle.rack_parts.proofs.locks.issue_spindles.Given as goal

abbrev pub ghost-new : goal.ghost-new
ghost-new a = base_of a.value

-- the locks so far
abbrev pub invariant-loop-id : goal.invariant-loop-id
invariant-loop-id l = record {
  count : length l.made.items ≡ l.id;
  room : l.volumes ≤ vec_capacity l.made;
  spindles : AreSpindlesOf l.volumes l.timeout l.made.items;
}
