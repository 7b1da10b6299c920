use Rattle.std.proofs.Common.{◌≡◌, true, false, length, take}
use Rattle.std.specs.List.{list_all}
use Rattle.wol_config.specs.Documents.{is_known, names_of, numbers_named, stands_in}
use Rattle.wol_config.specs.Tables.{texts_in}
use Rattle.wol_config.proofs.views.view_of.Given as goal

abbrev pub invariant-loop-i : goal.invariant-loop-i
invariant-loop-i l = record {
  room : length l.ids ≡ 16;
  known : list_all (is_known (names_of l.volumes)) (texts_in (take l.i l.texts)) ≡ true;
  others : stands_in (numbers_named (names_of l.volumes) (texts_in (take l.i l.texts))) l.own ≡ false;
  found : take l.i l.ids ≡ numbers_named (names_of l.volumes) (texts_in (take l.i l.texts));
}
