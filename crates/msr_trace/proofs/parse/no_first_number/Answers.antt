use Rattle.std.proofs.Common.{◌∙◌, sym}
use Rattle.msr_trace.proofs.Marked.{no_line, other_count}
use Rattle.msr_trace.proofs.parse.no_first_number.Goals as goal

pub returns-then-count_commas-eq6 : goal.returns-then-count_commas-eq6
returns-then-count_commas-eq6 c = no_line c.args.body.now c.requires.some c.requires.start (sym c.count_commas.ensures ∙ c.if-count_commas-eq6.true)

pub returns-else-count_commas-eq6 : goal.returns-else-count_commas-eq6
returns-else-count_commas-eq6 c = other_count c.args.body.now (λ six. c.if-count_commas-eq6.false (c.count_commas.ensures ∙ six))
