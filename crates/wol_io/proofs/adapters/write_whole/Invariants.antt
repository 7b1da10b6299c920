use Rattle.std.proofs.Common.{◌≤◌, length, take}
use Rattle.std.specs.Io.KnownBytes.{Appends}
use Rattle.wol_io.proofs.adapters.write_whole.Given as goal

abbrev pub invariant-loop : goal.invariant-loop
invariant-loop g l = record {
  within : l.done ≤ length l.piece;
  so_far : Appends (g.W.Write.contents l.initial.inner) (g.W.Write.contents l.inner) (take l.done l.piece);
}
