use Rattle.std.proofs.Common.{◌≡◌}
use Rattle.wol_bay.specs.Bay.{outs}
use Rattle.volume_images.specs.Left.{IsTold}
use Rattle.volume_images.specs.Formats.{FormatsFirst}
use Rattle.volume_images.proofs.image.format.Given as goal

-- the volumes before the one at hand are formatted
abbrev pub invariant-loop-id : goal.invariant-loop-id
invariant-loop-id g l = record {
  home : outs (g.B.Bay.state l.bay) ≡ outs (g.B.Bay.state l.fn.bay);
  left : IsTold (FormatsFirst l.config l.id) (g.B.Bay.state l.fn.bay).told (g.B.Bay.state l.bay).told;
  calm : (g.B.Bay.state l.bay).faults ≡ (g.B.Bay.state l.fn.bay).faults;
}
