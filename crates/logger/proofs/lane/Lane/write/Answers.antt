use Rattle.std.proofs.Common.{List, length, refl, subst}
use Rattle.wol_model.specs.Log.{Record}
use Rattle.log_segment.specs.declared.item.Item.{Item}
use Rattle.log_segment.proofs.Grouped.{group_of_one}
use Rattle.logger.specs.Lanes.{HasWritten}
use Rattle.logger.proofs.Rooms.{some_fit}
use Rattle.logger.proofs.lane.Lane.write.Goals as goal

pub write_group-requires-clause-fits : goal.write_group-requires-clause-fits
write_group-requires-clause-fits g c = some_fit (length c.args.from.now) c.args.self.now c.requires.fits

pub returns : goal.returns
returns g c =
    let item : Item = record { lbn = c.args.lbn; count = length c.args.from.now } in record {
      moved = subst (λ (added : List Record). HasWritten g.D.Disk.state c.args.shared.now c.args.self.now c.write_group.new.self (length c.args.from.now) added c.write_group.result)
          (group_of_one c.args.self.now.owner c.args.version item c.args.from.now refl) c.write_group.ensures;
    }
