use Rattle.trace_windows.proofs.Counting.{windows_have_requests}
use Rattle.trace_windows.proofs.Lying.{requests_lie}
use Rattle.trace_windows.proofs.Numbering.{numbers_leave}
use Rattle.trace_windows.proofs.Rising.{moments_rise}
use Rattle.trace_windows.proofs.laws.window_laws.Goals as goal

pub returns-clause-all : goal.returns-clause-all
returns-clause-all c = windows_have_requests

pub returns-clause-same : goal.returns-clause-same
returns-clause-same c = numbers_leave

pub returns-clause-lie : goal.returns-clause-lie
returns-clause-lie c = requests_lie

pub returns-clause-rise : goal.returns-clause-rise
returns-clause-rise c = moments_rise
