use Rattle.std.proofs.Common.{append-nil, sym}
use Rattle.whatif.proofs.machine.Machine.volumes_if.Goals as goal

pub returns-then-told : goal.returns-then-told
returns-then-told c = λ config from ws run same. rw c.if-told.true (c.volume_lines.ensures config from ws run same)

pub returns : goal.returns
returns c = λ config from ws run same. rw c.if-told.false (sym (append-nil c.args.out.now.items))
