use Rattle.wol_promise.proofs.laws.answer_laws.Goals as goal
use Rattle.wol_promise.proofs.PlainAnswers.{marks_are_plain, payloads_by_volume}

pub returns-clause-marks : goal.returns-clause-marks
returns-clause-marks c = marks_are_plain

pub returns-clause-by_volume : goal.returns-clause-by_volume
returns-clause-by_volume c = payloads_by_volume
