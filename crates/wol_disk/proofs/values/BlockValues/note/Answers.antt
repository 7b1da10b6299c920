use Rattle.std.proofs.Common.{sym, ap, ◌∙◌}
use Rattle.wol_disk.specs.Disk.{fresh}
use Rattle.wol_disk.specs.Later.{with_later}
use Rattle.wol_disk.proofs.Building.{with_push}
use Rattle.wol_disk.proofs.values.BlockValues.note.Goals as goal

pub invariant_of-self-in-Wrote : goal.invariant_of-self-in-Wrote
invariant_of-self-in-Wrote c =
    let b = c.args.self.now in
    record { last = sym (ap (λ l. (with_later l (fresh b.oldest)).now) c.in_ok-push-in-Wrote.ensures.items ∙ ap (λ v. v.now) (with_push b.later.items c.in-Wrote.block (fresh b.oldest))) }

pub returns-in_ok-push-in-Wrote : goal.returns-in_ok-push-in-Wrote
returns-in_ok-push-in-Wrote c =
    let b = c.args.self.now in
    rw (c.in-Wrote.is, c.in_ok-push-in-Wrote.ensures.items) (with_push b.later.items c.in-Wrote.block (fresh b.oldest))
