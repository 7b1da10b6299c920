use Rattle.std.proofs.Common.{◌≡◌, sym, ap, ◌∙◌}
use Rattle.wol_config.specs.declared.config.VolumeConf.{VolumeConf}
use Rattle.wol_config.specs.Documents.{names_of}
use Rattle.report.specs.Names.{name_at}
use Rattle.manager.proofs.ReadThrough.{never_some}
use Rattle.inspection.proofs.Digesting.{kept_as_it_is}
use Rattle.inspection.proofs.Naming.{name_of_volume, read_at}
use Rattle.inspection.proofs.dump.dump_lines.Goals as goal

pub returns-in-Some-clause-stands : goal.returns-in-Some-clause-stands
returns-in-Some-clause-stands g c pass b notes n client note k = kept_as_it_is g.D.Disk.tells g.D.Disk.state c.args.manager.now b notes n note k

pub returns-in-Ok-clause-stands : goal.returns-in-Ok-clause-stands
returns-in-Ok-clause-stands g c pass b notes n client note k = kept_as_it_is g.D.Disk.tells g.D.Disk.state c.args.manager.now b notes n note k

pub returns-in-Err-clause-stands : goal.returns-in-Err-clause-stands
returns-in-Err-clause-stands g c pass b notes n client note k = kept_as_it_is g.D.Disk.tells g.D.Disk.state c.args.manager.now b notes n note k

pub returns-in-Ok-clause-content : goal.returns-in-Ok-clause-content
returns-in-Ok-clause-content g c =
    let items = c.args.config.now.volumes.items in
    let serves = c.requires.serves in
    let is = read_at items c.args.volume serves.volume c.index.result.now serves.there c.index.ensures in
    let name : c.as_bytes-name.result.now ≡ name_at (names_of items) c.args.volume = c.as_bytes-name.ensures ∙ ap (λ (v : VolumeConf). v.name) is ∙ sym (name_of_volume items c.args.volume serves.volume serves.there) in
    rw name at c.in-Ok.ensures.ok

pub put_lines-requires-clause-placed : goal.put_lines-requires-clause-placed
put_lines-requires-clause-placed g c = (c.requires.ready.up (sym c.down.ensures ∙ never_some c.down.result c.in_default.not-Some)).placed
