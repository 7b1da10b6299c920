use Rattle.rack.proofs.Basics.{◌≡◌, ◌≤◌, length, vec_capacity}
use Rattle.rack.proofs.Terms.{AreSpindlesOf, AreAsked, HasSentOut}
use Rattle.rack.proofs.images.open_images.Given as goal

-- the images before the one at hand were asked for
abbrev pub invariant-loop-id : goal.invariant-loop-id
invariant-loop-id g l = record {
  asked : AreAsked g.B.Part.Disk.tells g.B.Part.Disk.state l.config (g.B.Bay.state l.fn.bay) (g.B.Bay.state l.bay) l.id l.images;
  sent : HasSentOut l.config l.images.out.items l.id (g.B.Bay.state l.fn.bay) (g.B.Bay.state l.bay);
  said_room : length l.config.volumes.items ≤ vec_capacity l.images.said;
  out_room : length l.config.volumes.items ≤ vec_capacity l.images.out;
  fault_room : length l.config.volumes.items ≤ vec_capacity l.images.faults;
  count : length l.spindles ≡ length l.config.volumes.items;
  spindles : AreSpindlesOf (length l.config.volumes.items) l.config.timeout l.spindles;
}
