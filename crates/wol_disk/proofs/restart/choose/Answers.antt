use Rattle.std.proofs.Common.{◌≡◌, inl, inr, ◌<◌, [], length, get_or, sym, ◌∙◌, arith}
use Rattle.std.proofs.lemmas.List.{get_or_default}
use Rattle.std.proofs.lemmas.Bool.{cases_lt}
use Rattle.wol_disk.specs.Disk.{only}
use Rattle.wol_disk.specs.Record.{values_after}
use Rattle.wol_disk.specs.RecordSound.{length-values_after, length-only}
use Rattle.wol_disk.proofs.Chosen.{chosen_none, one_chosen, all_chosen, enough_chosen}
use Rattle.wol_disk.proofs.restart.choose.Goals as goal

pub loop-i-init : goal.loop-i-init
loop-i-init c = c.requires.last ∙ sym (chosen_none (values_after c.args.calls.now (only c.args.first.now)))

pub loop-i-preserved : goal.loop-i-preserved
loop-i-preserved c =
    let i = c.loop-i.i in
    let lt : i < length c.args.first.now = omega (arith, c.loop-i-test.true, c.min-n.ensures, c.requires.size) in
    let lc : i < length c.args.choice.now = omega (arith, c.loop-i-test.true, c.min-n.ensures) in
    let b = get_or c.args.first.now i [] in
    let k = get_or c.args.choice.now i 0 in
    one_chosen c.args.first.now c.args.calls.now c.args.choice.now i k b c.chosen_value-value.result c.loop-i.out lt lc
    (get_or_default c.args.first.now i [] b lt) (get_or_default c.args.choice.now i 0 k lc) c.chosen_value-value.ensures c.loop-i.invariant

pub returns : goal.returns
returns c =
    let i = c.loop-i.i in
    let vs = values_after c.args.calls.now (only c.args.first.now) in
    let size : length vs ≡ length c.args.first.now = length-values_after c.args.calls.now (only c.args.first.now) ∙ length-only c.args.first.now in
    elim (cases_lt i (length c.args.choice.now)) [
      | inl l ↦ c.loop-i.invariant ∙ enough_chosen c.args.choice.now vs i (omega (arith, l, size, c.requires.size, c.min-n.ensures, c.loop-i-test.false))
      | inr le ↦ c.loop-i.invariant ∙ all_chosen c.args.choice.now vs i le
    ]
