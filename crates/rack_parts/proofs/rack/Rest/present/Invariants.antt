use Rattle.rack_parts.proofs.Basics.{◌≡◌, ◌≤◌, map, take, is_some, length, vec_capacity, Option}
use Rattle.rack_parts.proofs.Terms.{ImageRest}
use Rattle.rack_parts.proofs.rack.Rest.present.Given as goal

-- those of the images so far
abbrev pub invariant-loop-image : goal.invariant-loop-image
invariant-loop-image g l = record {
  so_far : l.present.items ≡ map (λ (i : Option (ImageRest g.row.D.Denot)). is_some i) (take l.image-index l.self.images.items);
  room : length l.self.images.items ≤ vec_capacity l.present;
}
