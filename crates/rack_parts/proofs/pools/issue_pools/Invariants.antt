use Rattle.rack_parts.proofs.Basics.{◌≡◌, ◌≤◌, length, vec_capacity}
use Rattle.rack_parts.proofs.LocksIssued.{AreIssuedTo}
use Rattle.rack_parts.proofs.pools.issue_pools.Given as goal

abbrev pub invariant-loop-id : goal.invariant-loop-id
invariant-loop-id g l = record {
  issued : AreIssuedTo g.D.Disk.state l.config l.config.volumes.len l.said l.fn.images l.images l.made.items l.id;
  images : length l.images ≡ length l.fn.images;
  room : l.count ≤ vec_capacity l.made;
}
