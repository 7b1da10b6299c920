use Rattle.spin_model.proofs.Alternating.{journal_alternates}
use Rattle.spin_model.proofs.spindle.Spindle.sums_until.Goals as goal

pub returns-clause-legal : goal.returns-clause-legal
returns-clause-legal c b es st = journal_alternates c.args.self.now b es c.args.to st c.requires
