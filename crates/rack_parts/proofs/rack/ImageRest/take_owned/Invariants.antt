use Rattle.rack_parts.proofs.Basics.{◌≡◌, ◌++◌, List, vec_capacity}
use Rattle.rack_parts.proofs.Terms.{shape_of, OwnedPart}
use Rattle.rack_parts.proofs.OwnedTaken.{AreTakenTo}
use Rattle.rack_parts.proofs.rack.ImageRest.take_owned.Given as goal

abbrev pub invariant-loop-index : goal.invariant-loop-index
invariant-loop-index g l = record {
  taken : (os : List (OwnedPart g.row.D.Denot)) × (l.owned.items ≡ l.fn.owned.items ++ os) × AreTakenTo (shape_of l.label) l.id l.label.id l.heads l.fn.self l.self os l.index;
  room : vec_capacity l.owned ≡ vec_capacity l.fn.owned;
}
