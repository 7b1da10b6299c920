use Rattle.std.proofs.Common.{◌∙◌, arith}
use Rattle.log_segment.proofs.Grouped.{end_after, valid_after, one_each}
use Rattle.log_segment.proofs.segment.Segment.append_group.Goals as goal

pub append_records-requires-clause-fits : goal.append_records-requires-clause-fits
append_records-requires-clause-fits g c =
    omega (arith, c.requires.shape.size, c.requires.shape.place, c.requires.room, c.requires.some, c.requires.blocks, one_each c.args.items.now c.requires.items)

pub returns-in-Ok-clause-shape : goal.returns-in-Ok-clause-shape
returns-in-Ok-clause-shape g c =
    let each = one_each c.args.items.now c.requires.items in
    record {
      size = c.append_records.ensures.leaves.size ∙ c.requires.shape.size;
      small = c.requires.shape.small;
      place = (omega (arith, c.requires.shape.place.0), omega (arith, c.requires.shape.place.1, c.requires.room, c.requires.some, c.requires.blocks, each));
      few = omega (arith, c.requires.shape.few);
    }

pub returns-in-Ok-clause-ok : goal.returns-in-Ok-clause-ok
returns-in-Ok-clause-ok g c rs h =
    record {
      disk = c.in-Ok.ensures.ok rs h.disk h.place;
      place = omega (arith, h.place, end_after c.args.self.now.owner c.args.version rs c.args.items.now c.args.from.now c.requires.blocks);
      valid = omega (arith, h.valid, valid_after c.args.self.now.owner c.args.version rs c.args.items.now c.args.from.now c.requires.items);
    }
