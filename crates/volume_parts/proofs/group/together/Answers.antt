use Rattle.std.proofs.Common.{◌≡◌, length, subst, arith}
use Rattle.wol_model.specs.Index.{listed_in}
use Rattle.volume_parts.specs.Offers.{passed_in}
use Rattle.volume_parts.specs.Joining.{GoTogether}
use Rattle.volume_parts.proofs.Records.{behind_one, behind_more, long_one, long_more, long_or_none}
use Rattle.volume_parts.proofs.group.together.Goals as goal

pub loop-place-init : goal.loop-place-init
loop-place-init c = record { away = λ up. behind_one (listed_in c.args.index.now.entries) c.args.items.now; long = λ passed. long_one c.args.items.now }

pub loop-place-preserved : goal.loop-place-preserved
loop-place-preserved c =
    let i = c.loop-place.invariant in record {
      away = λ up. behind_more (listed_in c.args.index.now.entries) c.args.items.now c.loop-place.place (i.away up) (c.joins.ensures.away c.if-not-joins.false up);
      long = λ passed. long_more c.args.items.now c.loop-place.place (i.long passed) (c.joins.ensures.long c.if-not-joins.false passed);
    }

pub returns-then-not-joins-clause-joins : goal.returns-then-not-joins-clause-joins
returns-then-not-joins-clause-joins c =
    let i = c.loop-place.invariant in record { away = i.away; long = long_or_none c.args.rooms.now c.args.items.now c.loop-place.place c.any_passed-passed.result c.any_passed-passed.ensures i.long }

pub returns-clause-joins : goal.returns-clause-joins
returns-clause-joins c =
    let i = c.loop-place.invariant in
    let e : c.loop-place.place ≡ length c.args.items.now = omega arith in
    let j : GoTogether c.args.home_up (listed_in c.args.index.now.entries) (passed_in c.args.rooms.now) c.args.items.now c.loop-place.place =
    record { away = i.away; long = long_or_none c.args.rooms.now c.args.items.now c.loop-place.place c.any_passed-passed.result c.any_passed-passed.ensures i.long } in
    subst (GoTogether c.args.home_up (listed_in c.args.index.now.entries) (passed_in c.args.rooms.now) c.args.items.now) e j
