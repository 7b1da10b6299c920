-- Each run of the mask is written.
use Rattle.std.proofs.Common.{◌≡◌, ◌+◌, ◌-◌, ◌/◌, ◌^◌, ℕ, true, false, length, take, drop, refl, sym, ap, subst, ◌∙◌, arith, rules, eqb, bit_and}
use Rattle.std.specs.Prelude.{option_map}
use Rattle.std.proofs.lemmas.Nat.Bits.{shr_and_one}
use Rattle.std.proofs.lemmas.Bool.{eq-eqb, ne_eqb}
use Rattle.wol_disk.specs.Disk.{AddsSomeOf, added}
use Rattle.spin_model.specs.Spun.{state_of}
use Rattle.wol_model.specs.Log.{has_bit}
use Rattle.volume_parts.specs.Changes.{put_block}
use Rattle.volume_parts.proofs.Accesses.{Putting, putting_none, putting_skip, putting_more, put_failed, laid_all, laid_failed}
use Rattle.volume_parts.proofs.laying.lay.Goals as goal
use Rattle.volume_parts.proofs.laying.lay.Goals.{then-mask-at-eq1+in_ok-write, else-mask-at-eq1}

in_mask_at : (mask at : ℕ) → bit_and (mask / 2 ^ at) 1 ≡ 1 → has_bit mask at ≡ true
in_mask_at mask at is = ap (λ (k : ℕ). eqb k 1) (sym (shr_and_one mask at)) ∙ eq-eqb _ 1 is

not_in_mask : (mask at : ℕ) → (bit_and (mask / 2 ^ at) 1 ≡ 1 → ⊥) → has_bit mask at ≡ false
not_in_mask mask at not = ap (λ (k : ℕ). eqb k 1) (sym (shr_and_one mask at)) ∙ ne_eqb _ 1 not

pub loop-at-init : goal.loop-at-init
loop-at-init g c = (omega arith, putting_none g.D.Disk.state g.met.D.Disk.sound c.args.part.now c.args.lbn c.args.mask c.args.from.now)

pub returns-in_err-write : goal.returns-in_err-write
returns-in_err-write g c =
    let at = c.loop-at.at in let n = c.run_from-count.result in let e : at + n - at ≡ n = omega arith in
    let mid = c.loop-at.part in let new = c.write.new.self in
    laid_failed g.D.Disk.state c.args.part.now new (put_block c.args.lbn c.args.mask c.args.from.now) c.from_residual.result (search rules) (put_failed g.D.Disk.state g.met.D.Disk.sound c.args.part.now c.args.lbn c.args.mask c.args.from.now mid at n c.run_from-count.ensures.within
    (λ i le lt. c.run_from-count.ensures.same i le lt ∙ in_mask_at c.args.mask at c.if-mask-at-eq1.true) c.loop-at.invariant.1 new c.from_residual.result (search rules) (refl {a = true})
    (subst (λ (k : ℕ). AddsSomeOf (c.args.lbn + at) (take k (drop at c.args.from.now)) (state_of g.D.Disk.state mid).values (state_of g.D.Disk.state new).values) e c.in_err-write.ensures.err)
    c.in_err-write.ensures.passes c.in_err-write.ensures.volume)

pub loop-at-preserved : goal.loop-at-preserved
loop-at-preserved g c =
    let at = c.loop-at.at in let n = c.run_from-count.result in let e : at + n - at ≡ n = omega arith in
    let mid = c.loop-at.part in (
      c.run_from-count.ensures.within,
      elim c.if-mask-at-eq1.branch [
        | then-mask-at-eq1+in_ok-write w ↦
            let new = w.write.new.self in
            subst (λ p. Putting g.D.Disk.state c.args.part.now p (put_block c.args.lbn c.args.mask c.args.from.now) (c.args.lbn + (at + n))) (sym w.part-is)
            (putting_more g.D.Disk.state g.met.D.Disk.sound c.args.part.now c.args.lbn c.args.mask c.args.from.now mid at n c.run_from-count.ensures.within
            (λ i le lt. c.run_from-count.ensures.same i le lt ∙ in_mask_at c.args.mask at w.if-mask-at-eq1.true) c.loop-at.invariant.1 new (λ no. let wrong : false ≡ true = no in cc)
            (subst (λ (k : ℕ). (state_of g.D.Disk.state new).values ≡ option_map (added (c.args.lbn + at) (take k (drop at c.args.from.now))) (state_of g.D.Disk.state mid).values) e w.in_ok-write.ensures.ok)
            w.in_ok-write.ensures.passes w.in_ok-write.ensures.volume)
        | else-mask-at-eq1 w ↦
            subst (λ p. Putting g.D.Disk.state c.args.part.now p (put_block c.args.lbn c.args.mask c.args.from.now) (c.args.lbn + (at + n))) (sym w.part-is)
            (putting_skip g.D.Disk.state g.met.D.Disk.sound c.args.part.now c.args.lbn c.args.mask c.args.from.now mid at n
            (λ i le lt. c.run_from-count.ensures.same i le lt ∙ not_in_mask c.args.mask at w.if-mask-at-eq1.false) c.loop-at.invariant.1)
      ],
    )

pub returns : goal.returns
returns g c =
    let at = c.loop-at.at in let end : at ≡ length c.args.from.now = omega (arith, c.loop-at.invariant.0) in
    laid_all g.D.Disk.state g.met.D.Disk.sound c.args.part.now c.args.lbn c.args.mask c.args.from.now c.loop-at.part _ (λ no. let wrong : false ≡ true = no in cc)
    (subst (λ (k : ℕ). Putting g.D.Disk.state c.args.part.now c.loop-at.part (put_block c.args.lbn c.args.mask c.args.from.now) (c.args.lbn + k)) end c.loop-at.invariant.1)
