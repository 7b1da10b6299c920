use Rattle.std.proofs.Common.{map, take}
use Rattle.inspection.specs.Segments.{place_of}
use Rattle.inspection.proofs.Noting.{AreNoted}
use Rattle.inspection.proofs.segments.segments_in.Given as goal

abbrev pub invariant-loop-at : goal.invariant-loop-at
invariant-loop-at l = AreNoted (map place_of (take l.at l.index.entries)) l.places.items
