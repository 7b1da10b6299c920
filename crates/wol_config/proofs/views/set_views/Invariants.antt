use Rattle.std.proofs.Common.{◌≡◌, ◌++◌, map, take, drop}
use Rattle.wol_config.specs.Documents.{volume_in, view_fault}
use Rattle.wol_config.specs.Tables.{members_in, names_in}
use Rattle.wol_config.specs.Configs.{volume_of}
use Rattle.wol_config.proofs.views.set_views.Given as goal

abbrev pub invariant-loop-i : goal.invariant-loop-i
invariant-loop-i l = record {
  done : l.volumes ≡ map (volume_of (names_in l.tables)) (take l.i (members_in l.tables)) ++ map volume_in (drop l.i (members_in l.tables));
  left : view_fault (names_in l.tables) 0 (members_in l.tables) ≡ view_fault (names_in l.tables) l.i (drop l.i (members_in l.tables));
}
