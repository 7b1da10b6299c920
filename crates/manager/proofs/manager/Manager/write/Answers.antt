use Rattle.manager.proofs.Runs.{one_stands, one_moments, one_placed, one_answered, one_home, one_logs, one_look}
use Rattle.manager.proofs.manager.Manager.write.Goals as goal

pub returns-clause-stands : goal.returns-clause-stands
returns-clause-stands g c = one_stands g.D.Disk.tells g.D.Disk.state c.args.lbn c.args.from.now c.args.self.now c.write_some.new.self c.write_some.result.answer c.write_some.result.items c.write_some.ensures.run

pub returns-clause-placed : goal.returns-clause-placed
returns-clause-placed g c = one_placed g.D.Disk.tells g.D.Disk.state c.args.lbn c.args.from.now c.args.self.now c.write_some.new.self c.write_some.result.answer c.write_some.result.items c.write_some.ensures.run c.write_some.ensures.placed

pub returns-clause-answered : goal.returns-clause-answered
returns-clause-answered g c = one_answered g.D.Disk.tells g.D.Disk.state c.args.lbn c.args.from.now c.args.self.now c.write_some.new.self c.write_some.result.answer c.write_some.result.items c.write_some.ensures.run c.write_some.ensures.answered

pub returns-clause-look : goal.returns-clause-look
returns-clause-look g c = one_look g.D.Disk.tells g.D.Disk.state c.args.lbn c.args.from.now c.args.self.now c.write_some.new.self c.write_some.result.answer c.write_some.result.items c.write_some.ensures.run c.write_some.ensures.unchanged

pub returns-clause-waking_home : goal.returns-clause-waking_home
returns-clause-waking_home g c = one_home g.D.Disk.tells g.D.Disk.state c.args.lbn c.args.from.now c.args.self.now c.write_some.new.self c.write_some.result.answer c.write_some.result.items c.write_some.ensures.run c.write_some.ensures.waking_home

pub returns-clause-waking_logs : goal.returns-clause-waking_logs
returns-clause-waking_logs g c = one_logs g.D.Disk.tells g.D.Disk.state c.args.lbn c.args.from.now c.args.self.now c.write_some.new.self c.write_some.result.answer c.write_some.result.items c.write_some.ensures.run c.write_some.ensures.waking_logs

pub returns-clause-any_moment : goal.returns-clause-any_moment
returns-clause-any_moment g c = one_moments g.D.Disk.tells g.D.Disk.state c.args.lbn c.args.from.now c.args.self.now c.write_some.new.self c.write_some.result.answer c.write_some.result.items c.write_some.ensures.run
