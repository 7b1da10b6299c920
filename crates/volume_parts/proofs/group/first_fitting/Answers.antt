use Rattle.std.proofs.Common.{◌<◌, length, arith}
use Rattle.log_segment.specs.declared.item.Item.{Item}
use Rattle.volume_parts.proofs.Records.{first_at, count_take_more}
use Rattle.volume_parts.proofs.group.first_fitting.Goals as goal

pub loop-place-init : goal.loop-place-init
loop-place-init c =
    let other : Item = record { lbn = 0; count = 0 } in let items = c.args.items.now in
    let e = count_take_more items 0 other c.requires.some in let f = first_at items other c.requires.some in
    record { blocks = omega (arith, e); fits = omega (arith, f, c.requires.first) }

pub loop-place-preserved : goal.loop-place-preserved
loop-place-preserved c =
    let other : Item = record { lbn = 0; count = 0 } in let items = c.args.items.now in let place = c.loop-place.place in
    let inside : place < length items = omega arith in
    let e = count_take_more items place other inside in
    record { blocks = omega (arith, e, c.loop-place.invariant.blocks); fits = omega arith }
