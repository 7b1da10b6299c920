use Rattle.std.proofs.Common.{◌≡◌, ◌-◌, ◌^◌, ap, ◌∙◌, arith}
use Rattle.std.proofs.lemmas.Nat.Bits.{ones_shr}
use Rattle.wol_model.specs.Heads.{RecordHead}
use Rattle.log_segment.specs.Records as records
use Rattle.log_segment.proofs.group.new_head.Goals as goal

pub returns : goal.returns
returns c =
    let item = c.args.item.now in
    let n : 128 - (128 - item.count) ≡ item.count = omega (arith, c.requires.1) in
    let all = ones_shr 128 (128 - item.count) (omega arith) ∙ ap (λ k. 2 ^ k - 1) n in
    let h : RecordHead = records.new_head c.args.owner c.args.version item.lbn item.count in
    ap (λ (k : _). record h { mask = k }) all
