use Rattle.rack.proofs.Basics.{◌<◌, length, arith, slice_index_or, get_or_default}
use Rattle.rack.proofs.Setting.{dealt_next, popped_none}
use Rattle.rack.proofs.lists.deal_one.Goals as goal

pub loop-row-preserved : goal.loop-row-preserved
loop-row-preserved g c =
    let inv = c.loop-row.invariant in let rows = c.loop-row.rows in let n = c.loop-row.row in let was = slice_index_or rows n c.index-rows-row.result in
    let lt : n < length c.args.rows.now = omega (arith, inv.dealt.count) in
    let in_now : n < length rows = omega (arith, lt, inv.dealt.count) in
    record {
      dealt = dealt_next c.args.rows.now rows c.loop-row.places.items c.push_reserved.new.self.items n was c.pop.new.self c.pop.result inv.dealt lt (get_or_default rows n c.index-rows-row.result was in_now)
          c.pop.ensures.value (popped_none c.pop.result _ _ c.pop.ensures.cases) c.pop.ensures.rest c.pop.ensures.capacity c.push_reserved.ensures.items;
      room = omega (arith, inv.room, c.push_reserved.ensures.capacity);
    }
