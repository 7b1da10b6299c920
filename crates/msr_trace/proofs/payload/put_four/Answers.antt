use Rattle.std.proofs.Common.{arith, ◌≡◌, List, ◌∙◌, sym, length, refl, ℕ, length-drop, length-append, append-nil}
use Rattle.std.specs.List.{flat_map, range_with_len}
use Rattle.std.proofs.lemmas.List.{take_all, length-take}
use Rattle.msr_trace.proofs.Stamps.{put_more}
use Rattle.msr_trace.proofs.payload.put_four.Goals as goal

one : (s ys : List ℕ) → ys ≡ s → ys ≡ flat_map (λ k. s) (range_with_len 0 1)
one s ys e = e ∙ sym (append-nil s)

pub returns : goal.returns
returns c =
    let s = c.args.stamp in
    let long : length c.put.new.place ≡ 16 = omega (arith, c.put.auto.place, length-take {A = ℕ}) in
    let long-2 : length c.put-2.new.place ≡ 16 = omega (arith, c.put-2.auto.place, length-take {A = ℕ}, length-drop {A = ℕ}, length-append {A = ℕ}) in
    let long-3 : length c.put-3.new.place ≡ 16 = omega (arith, c.put-3.auto.place, length-take {A = ℕ}, length-drop {A = ℕ}, length-append {A = ℕ}) in
    let long-4 : length c.put-4.new.place ≡ 16 = omega (arith, c.put-4.auto.place, length-take {A = ℕ}, length-drop {A = ℕ}, length-append {A = ℕ}) in
    let first = put_more s 0 16 0 1 16 1 c.args.place.now c.put.new.place (omega arith) (omega arith) refl (one s _ c.put.ensures) refl in
    let two = put_more s 16 16 1 1 32 2 _ c.put-2.new.place (omega arith) (omega (arith, length-drop {A = ℕ}, length-append {A = ℕ})) first (one s _ c.put-2.ensures) refl in
    let three = put_more s 32 16 2 1 48 3 _ c.put-3.new.place (omega arith) (omega (arith, length-drop {A = ℕ}, length-append {A = ℕ})) two (one s _ c.put-3.ensures) refl in
    let four = put_more s 48 _ 3 1 64 4 _ c.put-4.new.place (omega arith) (omega (arith, length-drop {A = ℕ}, length-append {A = ℕ})) three (one s _ c.put-4.ensures) refl in
    sym (take_all 64 _ (omega (arith, length-take {A = ℕ}, length-drop {A = ℕ}, length-append {A = ℕ}))) ∙ four
