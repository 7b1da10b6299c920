use Rattle.std.proofs.Common.{ℕ, Bool, cond, ap, arith}
use Rattle.volume_parts.proofs.Forgetting.{forgetting_above, forgetting_counted, forgetting_end, forgetting_more, forgetting_none, one_goes}
use Rattle.volume_parts.proofs.leaving.forget.Goals as goal
use Rattle.volume_parts.proofs.leaving.forget.Goals.{then-forget_one, else-forget_one}

pub records-init : goal.records-init
records-init c = (forgetting_none c.args.lane c.args.segment c.args.index.now.entries c.requires.go, c.requires.count)

pub returns-in_default : goal.returns-in_default
returns-in_default c =
    forgetting_end c.args.lane c.args.segment c.args.index.now.entries c.requires.go c.records.from c.records.index.entries c.records.invariant.0 c.in_default.ensures.index c.args.ups.now c.requires.awake c.in_default.ensures.none

pub returns-then-version : goal.returns-then-version
returns-then-version c =
    forgetting_above c.args.lane c.args.segment c.args.index.now.entries c.requires.go c.records.from c.records.index.entries c.records.invariant.0 c.in-Some.ensures.index c.args.ups.now c.requires.awake
    c.in-Some.version c.in-Some.ensures.least c.requires.below c.if-version.true

pub forget_one-requires : goal.forget_one-requires
forget_one-requires c =
    record { goes = one_goes c.args.lane c.args.segment c.args.index.now.entries c.requires.go c.records.from c.records.index.entries c.records.invariant.0 c.in-Some.version }

pub records-preserved : goal.records-preserved
records-preserved c = (
  forgetting_more c.args.lane c.args.segment c.args.index.now.entries c.requires.go c.records.from c.records.index.entries c.records.invariant.0 c.in-Some.ensures.index c.args.ups.now c.requires.awake
      c.in-Some.version c.in-Some.ensures.least c.in-Some.ensures.from c.forget_one.new.index.entries c.forget_one.ensures.gone,
  let was = c.records.invariant.1 in let less = c.forget_one.ensures.counted in elim c.if-forget_one.branch [
    | then-forget_one w ↦ let one = ap (λ (t : Bool). cond {A = ℕ} t 1 0) w.if-forget_one.true in omega (arith, was, less, one, w.left-is)
    | else-forget_one w ↦ let none = ap (λ (t : Bool). cond {A = ℕ} t 1 0) w.if-forget_one.false in omega (arith, was, less, none, w.left-is)
  ],
)

pub returns : goal.returns
returns c =
    forgetting_counted c.args.lane c.args.segment c.args.index.now.entries c.requires.go c.records.from c.records.index.entries c.records.invariant.0 (let k = c.records.invariant.1 in let t = c.records-test.false in omega (arith, k, t))
