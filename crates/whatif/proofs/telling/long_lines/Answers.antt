-- The lines of reads, of writes and of logs.
use Rattle.std.proofs.Common.{true, false}
use Rattle.whatif.specs.Waits.{helds, waits_of}
use Rattle.whatif.proofs.Lined.{long_told, on_ok}
use Rattle.whatif.proofs.telling.long_lines.Goals as goal

pub returns : goal.returns
returns c = λ ws are logged.
    on_ok c.logged_line.result _ _
    (λ e. long_told c.args.policy c.args.wake ws c.args.out.now.items c.waits_line.new.out.items c.waits_line-2.new.out.items c.logged_line.new.out.items (c.in_ok-waits_line.ensures.ok (waits_of false ws) are.reads)
    (c.in_ok-waits_line-2.ensures.ok (waits_of true ws) are.writes) e)
    (c.logged_line.ensures.ok (helds ws) logged)
