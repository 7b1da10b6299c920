use Rattle.msr_trace.specs.Lines.{is_feed}
use Rattle.msr_trace.proofs.Feeds.{sought_position}
use Rattle.msr_trace.proofs.intake.feed_in.Goals as goal

pub returns : goal.returns
returns c = sought_position is_feed c.args.bytes.now c.memchr.result c.memchr.ensures
