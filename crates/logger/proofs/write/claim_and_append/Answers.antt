use Rattle.std.proofs.Common.{inl, inr, ⊎_elim, ℕ, ◌+◌, [], length, OnOk, sym, ap, ◌∙◌, subst, arith, zero-add}
use Rattle.std.proofs.lemmas.Result.{on_ok_weaker, on_err_weaker}
use Rattle.wol_disk.specs.Disk.{Rose}
use Rattle.wol_disk.proofs.Moments.{then_leaves, widened}
use Rattle.wol_model.specs.Log.{HasFirstOf}
use Rattle.log_segment.specs.Records.{group_of}
use Rattle.log_segment.specs.Segment.{Holds, disk_of}
use Rattle.logger.proofs.Results.{on_err, on_ok_any, length-group_of}
use Rattle.logger.proofs.write.claim_and_append.Goals as goal

pub returns-in-Ok-clause-claimed : goal.returns-in-Ok-clause-claimed
returns-in-Ok-clause-claimed g c =
    let state = g.D.Disk.state in let owner = c.args.owner in let s = c.in-Ok.segment in let n = c.append_group-written.new.self in let w = c.append_group-written.result in
    let k = c.in-Ok.ensures in let a = c.append_group-written.ensures in record {
      shape = a.shape;
      volume = a.same.volume ∙ k.volume;
      owned = a.same.owner ∙ k.owner;
      blocks = a.same.blocks ∙ k.blocks;
      claimed = λ vs told. on_ok_any _ w (s, k.shape, a.same, k.whole, k.ok vs told);
      ok = λ vs told. subst (λ (u : ℕ). OnOk w (Holds state n (group_of u c.args.group.now.version c.args.group.now.items.now c.args.group.now.from.now))) k.owner (a.ok [] (k.ok vs told));
      valid = on_ok_weaker w (λ e. e ∙ (ap (λ (k : ℕ). k + length c.args.group.now.items.now) k.valid ∙ (zero-add (length c.args.group.now.items.now) ∙ sym (length-group_of owner c.args.group.now.version c.args.group.now.items.now c.args.group.now.from.now)))) a.valid;
      whole = a.whole;
      broken = on_err_weaker w (λ b. b.broken) a.err;
      any_moment = λ vs told. then_leaves (widened k.any_moment (λ d is. ⊎_elim (λ idle. inl idle) (λ log. inr (record { count = 0; within = omega arith; log = log })) is)) (a.any_moment [] (k.ok vs told))
          (λ d first. inr (subst (λ (u : ℕ). HasFirstOf d u [] (group_of u c.args.group.now.version c.args.group.now.items.now c.args.group.now.from.now)) k.owner first));
      cause = on_err w (λ failed. subst (λ (m : ℕ). Rose m (disk_of state n).faults) k.calm (a.cause failed));
      calm = on_ok_weaker w (λ same. same ∙ k.calm) a.calm;
    }
