use Rattle.std.proofs.Common.{◌≡◌, ◌-◌, ◌≤◌}
use Rattle.std.specs.Prelude.{vec_len}
use Rattle.std.specs.Io.KnownBytes.{Consumes}
use Rattle.wol_run.proofs.settings.bytes_of.Given as goal

abbrev pub invariant-taking : goal.invariant-taking
invariant-taking g l = record {
  taken : Consumes (g.C.Source.left l.initial.source) (g.C.Source.left l.source) l.bytes.items;
  few : vec_len l.bytes ≤ 1048577;
  quiet : g.C.Source.faults l.source ≡ g.C.Source.faults l.initial.source;
}

abbrev pub decreases-taking : goal.decreases-taking
decreases-taking g l = 1048577 - vec_len l.bytes
