use Rattle.std.proofs.Common.{◌∷◌, ◌++◌, length, drop, suc, ap, ◌∙◌, arith}
use Rattle.log_segment.proofs.Laid.{gate_at}
use Rattle.log_segment.proofs.group.copy_with_gate.Goals as goal

pub returns : goal.returns
returns c =
    let from = c.args.from.now in
    let zs = c.args.both.now in
    (drop (suc (length from)) zs, rw (c.copy_from_slice.ensures.after) (ap (λ l. from ++ l) (gate_at zs (length from) c.write_gate.new.b (omega (arith, c.requires)) ∙ ap (λ x. x ∷ drop (suc (length from)) zs) c.write_gate.ensures)))
