use Rattle.log_segment.proofs.segment.Segment.retire.Goals as goal

pub returns-in-Ok-clause-any_moment : goal.returns-in-Ok-clause-any_moment
returns-in-Ok-clause-any_moment g c rs h = c.retire_part.ensures.any_moment c.args.self.owner rs h.disk

pub returns-in-Err-clause-any_moment_err : goal.returns-in-Err-clause-any_moment_err
returns-in-Err-clause-any_moment_err g c rs h = c.retire_part.ensures.any_moment c.args.self.owner rs h.disk
