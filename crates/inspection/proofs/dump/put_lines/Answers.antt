use Rattle.std.proofs.Common.{◌≡◌, length}
use Rattle.inspection.proofs.Dumping.{dump_more, dump_none}
use Rattle.inspection.proofs.dump.put_lines.Goals as goal

pub loop-place-init : goal.loop-place-init
loop-place-init g c =
    let records : c.len-records.result ≡ length c.args.manager.now.index.entries = rw c.index.ensures at c.len-records.ensures.value in
    dump_none c.args.config.now c.args.name.now c.args.manager.now _ _ (rw records at c.in_ok-append_count.ensures.ok)

pub loop-place-preserved : goal.loop-place-preserved
loop-place-preserved g c = dump_more c.args.config.now c.args.name.now c.args.manager.now _ _ _ c.loop-place.place c.loop-place.invariant c.in_ok-put_record.ensures.ok
