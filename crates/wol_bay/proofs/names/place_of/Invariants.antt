use Rattle.std.proofs.Common.{◌≡◌, ◌++◌, take, drop}
use Rattle.wol_bay.specs.Bay.{at_name, without}
use Rattle.wol_bay.specs.Names.{by_name}
use Rattle.wol_bay.proofs.names.place_of.Given as goal

abbrev pub invariant-loop-i : goal.invariant-loop-i
invariant-loop-i g l = record {
  value : at_name l.name (by_name g.T.Entry.name_of l.entries) ≡ at_name l.name (drop l.i (by_name g.T.Entry.name_of l.entries));
  others : without l.name (by_name g.T.Entry.name_of l.entries) ≡ take l.i (by_name g.T.Entry.name_of l.entries) ++ without l.name (drop l.i (by_name g.T.Entry.name_of l.entries));
}
