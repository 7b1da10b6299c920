use Rattle.std.proofs.Common.{◌↔◌, drop}
use Rattle.wol_model.specs.Blocks.{AreApart}
use Rattle.log_layout.proofs.view.are_apart.Given as goal

abbrev pub invariant-loop-i : goal.invariant-loop-i
invariant-loop-i l = AreApart l.ids ↔ AreApart (drop l.i l.ids)
