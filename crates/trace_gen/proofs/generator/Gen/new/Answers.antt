use Rattle.std.proofs.Common.{ap, ◌∙◌}
use Rattle.std.specs.Int.{w64, from_le_bytes}
use Rattle.trace_gen.proofs.Standing.{begins}
use Rattle.trace_gen.proofs.generator.Gen.new.Goals as goal

pub invariant_of-result : goal.invariant_of-result
invariant_of-result c = begins _ _ c.ranges.seed.fits (c.from_seed.ensures ∙ ap (from_le_bytes w64) c.to_le_bytes.ensures)
