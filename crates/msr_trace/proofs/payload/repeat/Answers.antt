use Rattle.std.proofs.Common.{rules, arith, ◌≡◌, ◌*◌, ◌∙◌, sym, length, refl, ℕ, length-drop, length-append}
use Rattle.std.proofs.lemmas.List.{take_all, length-take}
use Rattle.msr_trace.proofs.Stamps.{put_more}
use Rattle.msr_trace.proofs.payload.repeat.Goals as goal

pub loop-i-init : goal.loop-i-init
loop-i-init c = record { long = search rules; so_far = refl }

pub loop-i-preserved : goal.loop-i-preserved
loop-i-preserved c =
    let long : length c.put_four.new.place ≡ 64 = omega (arith, c.put_four.auto.place, length-take {A = ℕ}, length-drop {A = ℕ}) in
    record {
      long = omega (arith, long, length-take {A = ℕ}, length-drop {A = ℕ}, length-append {A = ℕ});
      so_far = put_more c.args.stamp (64 * c.loop-i.i) _ (4 * c.loop-i.i) 4 _ _ c.loop-i.block c.put_four.new.place (omega (arith, long)) (omega arith)
          c.loop-i.invariant.so_far c.put_four.ensures (omega arith);
    }

pub returns : goal.returns
returns c =
    let i : c.loop-i.i ≡ 8 = omega arith in
    sym (take_all 512 c.loop-i.block (omega arith)) ∙ (rw i at c.loop-i.invariant.so_far)
