use Rattle.std.proofs.Common.{refl}
use Rattle.msr_trace.specs.Lines.{body_of, read_of}
use Rattle.msr_trace.proofs.ReadBack.{read_is_spelled, blank_is_empty}
use Rattle.msr_trace.proofs.Spelled.{spelled_is_read, written_is_read}
use Rattle.msr_trace.proofs.laws.spelling_laws.Goals as goal

pub returns-clause-spelled_is_read : goal.returns-clause-spelled_is_read
returns-clause-spelled_is_read c = spelled_is_read

pub returns-clause-read_is_spelled : goal.returns-clause-read_is_spelled
returns-clause-read_is_spelled c = read_is_spelled

pub returns-clause-blank_is_read : goal.returns-clause-blank_is_read
unfolding read_of body_of
returns-clause-blank_is_read c = (refl, refl)

pub returns-clause-blank_is_empty : goal.returns-clause-blank_is_empty
returns-clause-blank_is_empty c = blank_is_empty

pub returns-clause-written_is_read : goal.returns-clause-written_is_read
returns-clause-written_is_read c = written_is_read
