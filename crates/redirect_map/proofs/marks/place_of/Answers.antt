use Rattle.std.proofs.Common.{arith}
use Rattle.redirect_map.proofs.Masks.{not_there}
use Rattle.redirect_map.proofs.marks.place_of.Goals as goal
use Rattle.redirect_map.proofs.marks.place_of.Goals.{else-place-versions-via-then-place-versions+else-versions-place, else-place-versions-via-else-place-versions}

pub returns-else-place-versions-clause-none : goal.returns-else-place-versions-clause-none
returns-else-place-versions-clause-none c = elim c.else-place-versions.branch [
  | else-place-versions-via-then-place-versions+else-versions-place w ↦ not_there c.args.versions.now c.below-place.result c.args.version c.requires c.below-place.ensures.low c.below-place.ensures.high (λ within. w.if-versions-place.false)
  | else-place-versions-via-else-place-versions w ↦ not_there c.args.versions.now c.below-place.result c.args.version c.requires c.below-place.ensures.low c.below-place.ensures.high (λ within. absurd (omega arith))
]
