use Rattle.std.proofs.Common.{List, insert, ap, ◌∙◌, refl}
use Rattle.logger.specs.declared.lane.HeldSegment.{HeldSegment}
use Rattle.logger.proofs.Held.{there_get, within, insert-remove}
use Rattle.logger.proofs.trim.free_held.Goals as goal

pub returns-in-Ok-clause-ok : goal.returns-in-Ok-clause-ok
returns-in-Ok-clause-ok g c =
    let s = c.requires.segment in let k = c.in-Ok.ensures in record {
      segment = c.remove-index.result;
      there = there_get c.args.held.now.items c.args.place c.remove-index.result (within c.args.held.now.items c.args.place s.segment s.there) c.remove-index.ensures.value;
      gone = c.remove-index.ensures.items;
      freed = record { blank = record { free = k.shape; of = k.volume; long = k.blocks }; any_moment = k.any_moment; calm = k.calm };
    }

pub returns-in-Ok-back-clause-err : goal.returns-in-Ok-back-clause-err
returns-in-Ok-back-clause-err g c =
    let s = c.requires.segment in let k = c.in-Err.ensures in let o = c.remove-index.result in let items = c.args.held.now.items in
    let there = there_get items c.args.place o (within items c.args.place s.segment s.there) c.remove-index.ensures.value in
    let after : HeldSegment g.row.D.Denot = record { index = o.index; segment = c.in-Err.segment } in record {
      segment = o;
      there = there;
      after = after;
      held = c.in-Ok-back.ensures.items ∙ (ap (λ (xs : List (HeldSegment g.row.D.Denot)). insert xs c.args.place after) c.remove-index.ensures.items ∙ insert-remove items c.args.place o after there);
      stays = record { index = refl; shape = k.shape_err; same = k.same_err; end = k.err.place; broken = k.err.broken; any_moment = k.any_moment_err; cause = k.cause };
    }
