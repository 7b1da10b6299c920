use Rattle.std.proofs.Common.{List, ℕ, ◌++◌, ◌∙◌, ap}
use Rattle.nbd_session.proofs.Sent.{names}
use Rattle.nbd_session.proofs.replies.append_names.Goals as goal

pub returns : goal.returns
returns c =
    names c.append_reply.result c.args.number c.args.export.now.name.now c.args.to.now.items c.extend_from_slice.new.self.items c.append_name.new.to.items c.append_reply.new.to.items
    (c.in_ok-extend_from_slice.ensures.items ∙ ap (λ (l : List ℕ). c.args.to.now.items ++ l) c.reply_head.ensures) c.in_ok-append_name.ensures c.append_reply.ensures
