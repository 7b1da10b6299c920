use Rattle.rack_parts.proofs.Basics.{length, vec_len}
use Rattle.rack_parts.proofs.Members.{IsFrontOf}
use Rattle.rack_parts.proofs.GivenBack.{IsBackFrom}
use Rattle.rack_parts.proofs.rest.give_back.Given as goal

-- the images behind those that are left are back
abbrev pub invariant-loop-image : goal.invariant-loop-image
invariant-loop-image g l = record {
  front : IsFrontOf l.images.items l.fn.images.items;
  back : IsBackFrom g.B.Part.Disk.state l.config l.fn.images.items (length l.images.items) (g.B.Bay.state l.fn.bay) (g.B.Bay.state l.bay);
}

abbrev pub decreases-loop-image : goal.decreases-loop-image
decreases-loop-image g l = vec_len l.images
