-- One bit more was looked at.
use Rattle.std.proofs.Common.{◌≡◌, ◌+◌, ℕ, Bool, cond, sym, ap, ◌∙◌, arith}
use Rattle.wol_model.specs.Log.{has_bit}
use Rattle.whatif.proofs.Counting.{bit_more, one_at_most}
use Rattle.whatif.proofs.reclaim.bits.Goals as goal

pub loop-bit-preserved : goal.loop-bit-preserved
loop-bit-preserved c =
    let i = c.loop-bit.invariant in let k = c.loop-bit.bit in
    let one : c.one_if-set.result ≡ cond (has_bit c.args.mask k) 1 0 = c.one_if-set.ensures ∙ ap (λ (b : Bool). cond b 1 0) c.has.ensures in
    let most = one_at_most (has_bit c.args.mask k) in
    let few = i.few in record {
      sum = ap (λ (n : ℕ). c.loop-bit.set + n) one ∙ ap (λ (n : ℕ). n + cond (has_bit c.args.mask k) 1 0) i.sum ∙ sym (bit_more (has_bit c.args.mask) k);
      few = omega (arith, one, most, few);
    }
