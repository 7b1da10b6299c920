use Rattle.std.proofs.Common.{◌≡◌, true, false, get_or, sym, ◌∙◌}
use Rattle.log_layout.proofs.Apart.{is_among, behind, apart_more, apart_none}
use Rattle.log_layout.proofs.view.are_apart.Goals as goal

pub returns-then-contains : goal.returns-then-contains
returns-then-contains c =
    let found : is_among (get_or c.args.ids.now c.loop-i.i 0) (behind c.args.ids.now c.loop-i.i) ≡ true = sym c.contains.ensures.value ∙ c.if-contains.true in
    (λ e. cc, λ h. absurd (apart_none c.args.ids.now c.loop-i.i c.loop-i-test.true found (c.loop-i.invariant.0 h)))

pub loop-i-preserved : goal.loop-i-preserved
loop-i-preserved c =
    let absent : is_among (get_or c.args.ids.now c.loop-i.i 0) (behind c.args.ids.now c.loop-i.i) ≡ false = sym c.contains.ensures.value ∙ c.if-contains.false in
    let more = apart_more c.args.ids.now c.loop-i.i c.loop-i-test.true absent in
    (λ h. more.0 (c.loop-i.invariant.0 h), λ h. c.loop-i.invariant.1 (more.1 h))
