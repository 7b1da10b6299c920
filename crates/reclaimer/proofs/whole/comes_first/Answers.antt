-- Whether a segment's records come first.
use Rattle.std.proofs.Common.{◌≡◌, ◌<◌, ℕ, zero, suc, refl, sym, ◌∙◌, arith}
use Rattle.reclaimer.proofs.Fronts.{answer_at, at_place, first_all, first_ended, go_all, go_at, lane_at, one_more, one_past}
use Rattle.reclaimer.proofs.whole.comes_first.Goals.{then-lie_together+else-not-goes_all, else-lie_together+else-lanes-record}
use Rattle.reclaimer.proofs.whole.comes_first.Goals as goal

above : (n : ℕ) → (n ≡ 0 → ⊥) → 0 < n
above zero other = absurd (other refl)
above (suc n) other = omega arith

pub returns-then-left-eq0-clause-go : goal.returns-then-left-eq0-clause-go
returns-then-left-eq0-clause-go c _ =
    let i = c.loop-place.invariant in
    go_all c.args.index.now.entries c.args.first.now.lane c.args.first.now.segment c.args.lanes.now c.loop-place.place c.args.count i.0 i.1 c.requires.count (let e = i.2 in let z = c.if-left-eq0.true in omega (arith, e, z))

pub returns-then-left-eq0-clause-first : goal.returns-then-left-eq0-clause-first
returns-then-left-eq0-clause-first c _ =
    let i = c.loop-place.invariant in
    first_all c.args.index.now.entries c.args.first.now.lane c.args.first.now.segment c.args.lanes.now c.loop-place.place c.args.count i.0 i.1 c.requires.count (let e = i.2 in let z = c.if-left-eq0.true in omega (arith, e, z))

pub goes_all-requires-clause-there : goal.goes_all-requires-clause-there
goes_all-requires-clause-there c =
    let es = c.args.index.now.entries in let n = c.len-place-end.ensures.value in
    answer_at es c.len-place-end.ensures.index c.loop-place.place c.at-record.result (at_place es c.loop-place.place c.at-record.result (omega (arith, n, c.loop-place-test.true)) c.at-record.ensures)

pub bounds-lanes-record : goal.bounds-lanes-record
bounds-lanes-record c =
    let es = c.args.index.now.entries in let n = c.len-place-end.ensures.value in
    lane_at es c.len-place-end.ensures.index c.loop-place.place c.at-record.result (at_place es c.loop-place.place c.at-record.result (omega (arith, n, c.loop-place-test.true)) c.at-record.ensures) c.args.lanes.now c.requires.lanes

pub loop-place-preserved : goal.loop-place-preserved
loop-place-preserved c =
    let es = c.args.index.now.entries in let n = c.len-place-end.ensures.value in let index = c.len-place-end.ensures.index in
    let a = at_place es c.loop-place.place c.at-record.result (omega (arith, n, c.loop-place-test.true)) c.at-record.ensures in
    let lane = c.args.first.now.lane in let segment = c.args.first.now.segment in
    elim c.if-lie_together.branch [
      | then-lie_together+else-not-goes_all w ↦
          one_more es index c.loop-place.place c.at-record.result a lane segment c.loop-place.left c.args.count c.args.lanes.now _ c.loop-place.invariant (sym c.lie_together.ensures ∙ w.if-lie_together.true)
          (go_at es index c.loop-place.place c.at-record.result a (w.goes_all.ensures w.if-not-goes_all.false)) (above c.loop-place.left c.if-left-eq0.false) w.left-is
      | else-lie_together+else-lanes-record w ↦
          one_past es index c.loop-place.place c.at-record.result a lane segment c.loop-place.left c.args.count c.args.lanes.now _ c.loop-place.invariant (sym c.lie_together.ensures ∙ w.if-lie_together.false) w.if-lanes-record.false w.left-is
    ]

pub returns-clause-first : goal.returns-clause-first
returns-clause-first c _ =
    let i = c.loop-place.invariant in let n = c.len-place-end.ensures.value in
    first_ended c.args.index.now.entries c.args.first.now.lane c.args.first.now.segment c.args.lanes.now c.loop-place.place c.args.count i.0 i.1 (omega (arith, n, c.loop-place-test.false))
