use Rattle.std.proofs.Common.{◌≡◌, ◌-◌, ◌&&◌, ◌<◌, ◌≤◌, ◌^◌, Bool, true, false, refl, sym, ◌∙◌, arith, leb}
use Rattle.std.proofs.lemmas.Bool.{le-ltb}
use Rattle.block_cells.proofs.Bits.{has_bit-above}
use Rattle.log_cleaner.proofs.chunks.keeps.Goals as goal

and_false : (t : Bool) → (t && false) ≡ false
and_false true = refl
and_false false = refl

pub returns-else-place-lt128 : goal.returns-else-place-lt128
returns-else-place-lt128 c =
    let first = c.args.record.now.lbn in let place = c.args.block - first in
    let small : c.args.record.now.keep < 2 ^ 128 = omega arith in
    let far : 128 ≤ place = omega arith in
    le-ltb place 128 far ∙ sym ((λ i. leb first c.args.block && has_bit-above c.args.record.now.keep 128 place small far i) ∙ and_false (leb first c.args.block))
