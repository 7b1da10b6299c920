use Rattle.wol_promise.proofs.Lists.{all_member, member_of}
use Rattle.redirect_map.specs.Index.{IsRecordOf}
use Rattle.manager.specs.Stands.{IsPlacedIn}
use Rattle.inspection.proofs.Dumping.{has_line, logger_name, on_ok, version_there}
use Rattle.inspection.proofs.Noting.{there_is}
use Rattle.inspection.proofs.dump.put_record.Goals as goal

pub live-requires : goal.live-requires
live-requires g c = rw c.index-index.ensures (version_there c.args.manager.now.index.entries c.args.place c.at-record.result c.requires.index c.requires.there (rw c.index-index.ensures at c.at-record.ensures))

pub homed-requires : goal.homed-requires
homed-requires g c = rw c.index-index.ensures (version_there c.args.manager.now.index.entries c.args.place c.at-record.result c.requires.index c.requires.there (rw c.index-index.ensures at c.at-record.ensures))

pub returns-clause-ok : goal.returns-clause-ok
returns-clause-ok g c =
    let m = c.args.manager.now in
    let es = m.index.entries in
    let e = there_is es c.args.place c.requires.there in
    let of : IsRecordOf e.0 c.at-record.result = rw e.1 at (rw c.index-index.ensures at c.at-record.ensures) in
    let placed = all_member (IsPlacedIn m.lanes.items) es e.0 c.requires.placed (member_of es e.0 c.args.place e.1) in
    let name = logger_name c.args.config.now m e.0 c.logger.result c.index-logger.result.now c.as_bytes.result.now placed c.requires.loggers (rw of.lane at c.logger.ensures) c.index-logger.ensures c.as_bytes.ensures in
    on_ok c.append_record.result
    (has_line c.args.config.now m c.args.place c.args.out.now.items c.append_record.new.out.items c.at-record.result c.as_bytes.result.now c.mask_digits-live.result c.mask_digits-home.result c.live.result c.homed.result e.0
    c.requires.index e.1 of (rw c.index-index.ensures at c.live.ensures) (rw c.index-index.ensures at c.homed.ensures.value) name c.mask_digits-live.ensures c.mask_digits-home.ensures)
    c.append_record.ensures.ok
