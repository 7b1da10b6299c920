use Rattle.std.proofs.Common.{sym, ◌∙◌}
use Rattle.msr_trace.specs.Lines.{trace_line}
use Rattle.trace_gen.specs.Generated.{targets_of}
use Rattle.trace_windows.proofs.Few.{few_pieces, one_each}
use Rattle.trace_windows.proofs.asking.count_requests.Goals as goal
use Rattle.wol_config.specs.Configs.{most_of}

pub returns-clause-value : goal.returns-clause-value
returns-clause-value c = λ number.
    rw c.in-Some.is (one_each (most_of c.args.config.now) (targets_of c.args.config.now) number c.in-Some.volume (trace_line c.args.line.now) ∙ rw (← c.home_of.ensures.value, ← c.most.ensures) (sym c.count_pieces.ensures))

pub returns-clause-few : goal.returns-clause-few
returns-clause-few c = rw c.count_pieces.ensures (few_pieces c.home_of.result c.most.result (trace_line c.args.line.now) c.requires.fits)
