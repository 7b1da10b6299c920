use Rattle.rack_parts.proofs.Basics.{◌≡◌, ◌≤◌, ◌*◌, take}
use Rattle.rack_parts.proofs.Terms.{owned_total}
use Rattle.rack_parts.proofs.takes.count_owned.Given as goal

-- those of the images so far
abbrev pub invariant-loop-image : goal.invariant-loop-image
invariant-loop-image l = record {
  so_far : l.count ≡ owned_total l.id (take l.image l.said);
  few : l.count ≤ l.image * 1024;
}
