use Rattle.std.proofs.Common.{List, ℕ, ◌++◌, ◌∙◌, ap, length}
use Rattle.nbd_session.specs.Options.{code_of, reply_head}
use Rattle.nbd_session.proofs.Sent.{two}
use Rattle.nbd_session.proofs.replies.append_reply.Goals as goal

pub returns : goal.returns
returns c =
    two c.args.to.now.items c.extend_from_slice.new.self.items c.extend_from_slice-2.new.self.items (reply_head c.args.number (code_of c.args.kind) (length c.args.given.now)) c.args.given.now
    (c.in_ok-extend_from_slice.ensures.items ∙ ap (λ (l : List ℕ). c.args.to.now.items ++ l) c.reply_head.ensures) c.in_ok-extend_from_slice-2.ensures.items
