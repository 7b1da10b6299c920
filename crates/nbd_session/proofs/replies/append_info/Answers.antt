use Rattle.std.proofs.Common.{List, ℕ, [], ◌++◌, ◌∙◌, ap}
use Rattle.nbd_session.specs.Options.{reply, size_bytes, told_bytes}
use Rattle.nbd_session.proofs.Sent.{three}
use Rattle.nbd_session.proofs.replies.append_info.Goals as goal

pub returns : goal.returns
returns c =
    let n = c.args.number in
    three c.append_reply-3.result c.args.to.now.items c.append_reply.new.to.items c.append_reply-2.new.to.items c.append_reply-3.new.to.items (reply n 3 (told_bytes c.args.export.now.blocks)) (reply n 3 size_bytes) (reply n 1 [])
    (c.in_ok-append_reply.ensures ∙ ap (λ (l : List ℕ). c.args.to.now.items ++ reply n 3 l) c.told_bytes.ensures)
    (c.in_ok-append_reply-2.ensures ∙ ap (λ (l : List ℕ). c.append_reply.new.to.items ++ reply n 3 l) c.size_bytes.ensures)
    c.append_reply-3.ensures
