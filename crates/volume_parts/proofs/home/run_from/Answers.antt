-- A run of blocks that are all in a mask, or all outside it.
use Rattle.std.proofs.Common.{◌≡◌, ⊎_elim, ◌/◌, ◌^◌, ℕ, sym, ap, ◌∙◌, arith, eqb, bit_and}
use Rattle.std.proofs.lemmas.Nat.Bits.{shr_and_one}
use Rattle.std.proofs.lemmas.Bool.{cases_lt}
use Rattle.wol_model.specs.Log.{has_bit}
use Rattle.volume_parts.proofs.home.run_from.Goals as goal

tested : (mask i : ℕ) → eqb (bit_and (mask / 2 ^ i) 1) 1 ≡ has_bit mask i
tested mask i = ap (λ (k : ℕ). eqb k 1) (shr_and_one mask i)

pub loop-i-init : goal.loop-i-init
loop-i-init c = λ i le lt. let same : i ≡ c.args.at = omega arith in ap (has_bit c.args.mask) same

pub loop-i-preserved : goal.loop-i-preserved
loop-i-preserved c = λ i le lt. ⊎_elim
    (λ before. c.loop-i.invariant i le before)
    (λ here. let same : i ≡ c.loop-i.i = omega arith in ap (has_bit c.args.mask) same ∙ sym (tested c.args.mask c.loop-i.i) ∙ ap (λ (k : ℕ). eqb k 1) c.if-mask-i.false ∙ tested c.args.mask c.args.at)
    (cases_lt i c.loop-i.i)
