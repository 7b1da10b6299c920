use Rattle.std.proofs.Common.{◌≡◌, ◌-◌, ◌^◌, ap, ◌∙◌, arith}
use Rattle.std.proofs.lemmas.Nat.Bits.{ones_shr}
use Rattle.volume_parts.proofs.group.all_kept.Goals as goal

pub returns : goal.returns
returns c =
    let n : 128 - (128 - c.args.count) ≡ c.args.count = omega (arith, c.requires.1) in
    ones_shr 128 (128 - c.args.count) (omega arith) ∙ ap (λ k. 2 ^ k - 1) n
