-- A flag is set.
use Rattle.std.proofs.Common.{◌∙◌, false, not, ◌&&◌, ◌||◌, refl}
use Rattle.std.specs.Vec.{with_item}
use Rattle.whatif.proofs.Lists.{same_default}
use Rattle.whatif.proofs.Seeing.{seen_logger}
use Rattle.whatif.proofs.volume.Volume.see_logger.Goals as goal

pub returns-clause-volume : goal.returns-clause-volume
returns-clause-volume c =
    let v = c.args.self.now in
    seen_logger v (with_item v.ups c.args.lane c.args.awake) c.args.lane c.args.awake _ refl
    (λ i. v.settled && (not c.args.awake || (c.index-2.ensures ∙ same_default v.ups.items c.args.lane c.index-2.result.now false c.requires.within) i)) c.requires.volume
