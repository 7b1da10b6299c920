use Rattle.std.proofs.Common.{◌∙◌}
use Rattle.wol_model.specs.declared.trace.Kind.TheVariants as kind
use Rattle.request_turns.proofs.GroupPayloads.{listed_more}
use Rattle.request_turns.proofs.group.list_items.Goals as goal

pub loop-request-preserved : goal.loop-request-preserved
loop-request-preserved c =
    let i = c.loop-request.invariant in
    record {
      listed = c.push_reserved.ensures.items ∙ listed_more c.args.requests.now c.loop-request.items.items c.loop-request.request-index (record { number = 0; line = 0; volume = 0; kind = kind.Read; lbn = 0; count = 0 }) c.loop-request-test.true i.listed;
      room = c.push_reserved.ensures.capacity ∙ i.room;
    }
