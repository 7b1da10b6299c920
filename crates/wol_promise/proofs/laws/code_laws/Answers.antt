use Rattle.wol_promise.proofs.laws.code_laws.Goals as goal
use Rattle.wol_promise.proofs.ReadCode.{code_reads_back, noted_is_back}

pub returns-clause-reading : goal.returns-clause-reading
returns-clause-reading c = code_reads_back

pub returns-clause-noted : goal.returns-clause-noted
returns-clause-noted c = noted_is_back
