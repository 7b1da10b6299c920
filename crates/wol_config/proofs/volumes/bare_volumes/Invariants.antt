use Rattle.std.proofs.Common.{◌≡◌, None, map, take}
use Rattle.wol_config.specs.Documents.{volume_in, volumes_fault}
use Rattle.wol_config.specs.Tables.{members_in}
use Rattle.wol_config.proofs.volumes.bare_volumes.Given as goal

abbrev pub invariant-loop-table : goal.invariant-loop-table
invariant-loop-table l = record {
  made : l.volumes.items ≡ map volume_in (members_in (take l.table-index l.tables));
  faultless : volumes_fault (members_in (take l.table-index l.tables)) ≡ None;
}
