use Rattle.std.proofs.Common.{append-nil, sym}
use Rattle.whatif.proofs.telling.long_if.Goals as goal

pub returns-then-told : goal.returns-then-told
returns-then-told c = λ ws are logged. rw c.if-told.true (c.long_lines.ensures ws are logged)

pub returns : goal.returns
returns c = λ ws are logged. rw c.if-told.false (sym (append-nil c.args.out.now.items))
