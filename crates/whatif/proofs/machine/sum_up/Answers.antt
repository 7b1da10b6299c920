-- The sums of the disks that were gone through.
use Rattle.std.proofs.Common.{◌≡◌, ◌+◌, ℕ, List, take, sym, ap, ◌∙◌, arith}
use Rattle.std.proofs.lemmas.List.{take_all}
use Rattle.wol_model.specs.Journal.{SpindleState, sleeps, units, wakes}
use Rattle.whatif.specs.Disks.{IsDisk}
use Rattle.whatif.specs.Machine.{all_sleeps, all_units, all_wakes}
use Rattle.whatif.proofs.Lists.{one_more, zip_length}
use Rattle.whatif.proofs.Sums.{at_place, moment_at}
use Rattle.whatif.proofs.machine.sum_up.Goals as goal

pub used_until-used-requires-clause-to : goal.used_until-used-requires-clause-to
used_until-used-requires-clause-to c = moment_at c.args.disks.now c.loop-place.place c.args.to _ c.loop-place-test.true c.requires.moments

pub loop-place-preserved : goal.loop-place-preserved
loop-place-preserved c =
    let i = c.loop-place.invariant in let u = c.used_until-used.ensures in let k = c.loop-place.place in let powers = c.args.powers.now in let to = c.args.to in record {
      few_wakes = (let a = i.few_wakes in let b = u.few_wakes in omega (arith, a, b));
      few_sleeps = (let a = i.few_sleeps in let b = u.few_sleeps in omega (arith, a, b));
      few_units = (let a = i.few_units in let b = u.few_units in omega (arith, a, b));
      wakes = λ ss are. let p = at_place c.args.disks.now ss k _ c.loop-place-test.true are in
          ap (λ (n : ℕ). n + c.used_until-used.result.wakes) (i.wakes ss are) ∙ (λ j. all_wakes (take k ss) + (u.value p.state p.is j).wakes) ∙ sym (p.more (λ s. wakes s.journal)) ∙ ap (λ (n : ℕ). all_wakes (take n ss)) (one_more k);
      sleeps = λ ss are. let p = at_place c.args.disks.now ss k _ c.loop-place-test.true are in
          ap (λ (n : ℕ). n + c.used_until-used.result.sleeps) (i.sleeps ss are) ∙ (λ j. all_sleeps (take k ss) + (u.value p.state p.is j).sleeps) ∙ sym (p.more (λ s. sleeps s.journal)) ∙ ap (λ (n : ℕ). all_sleeps (take n ss)) (one_more k);
      units = λ ss are. let p = at_place c.args.disks.now ss k _ c.loop-place-test.true are in
          ap (λ (n : ℕ). n + c.used_until-used.result.units) (i.units ss are) ∙ (λ j. all_units powers (take k ss) to + (u.value p.state p.is j).units) ∙ sym (p.more (λ s. units powers s.journal s.from to)) ∙ ap (λ (n : ℕ). all_units powers (take n ss) to) (one_more k);
    }

pub returns : goal.returns
returns c = λ ss are.
    let i = c.loop-place.invariant in
    let long = zip_length IsDisk c.args.disks.now ss are in
    let whole : take c.loop-place.place ss ≡ ss = take_all c.loop-place.place ss (let past = c.loop-place-test.false in omega (arith, long, past)) in
    λ j. record {
      wakes = (i.wakes ss are ∙ ap all_wakes whole) j;
      sleeps = (i.sleeps ss are ∙ ap all_sleeps whole) j;
      units = (i.units ss are ∙ ap (λ (l : List SpindleState). all_units c.args.powers.now l c.args.to) whole) j;
    }
