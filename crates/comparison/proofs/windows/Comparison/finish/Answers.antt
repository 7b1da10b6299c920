-- The lines of a trace that came to its end.
use Rattle.std.proofs.Common.{◌≡◌, ◌≤◌, ℕ, sym, ap, subst, ◌∙◌}
use Rattle.trace_windows.specs.declared.tally.Tally.{Tally}
use Rattle.comparison.specs.Asked.{asked_by}
use Rattle.comparison.specs.Side.{beginning}
use Rattle.comparison.proofs.Taking.{end_later}
use Rattle.std.specs.Prelude.{is_some}
use Rattle.comparison.proofs.Telling.{headed, told}
use Rattle.comparison.proofs.windows.Comparison.finish.Goals as goal

pub tell-requires-clause-later : goal.tell-requires-clause-later
tell-requires-clause-later c =
    let t = c.requires.some in
    subst (λ (n : ℕ). c.run_last.new.self.machines.always.moment ≤ n) (sym t.taken.cut.ended ∙ ap (λ (x : Tally). x.ended) (sym c.tally-tally.ensures.value))
    (end_later c.args.config.now t.lines c.run_last.new.self (c.in_ok-run_last.ensures.behind t.lines t.taken))

pub tell-requires-clause-count : goal.tell-requires-clause-count
tell-requires-clause-count c =
    let t = c.requires.some in sym (c.in_ok-run_last.ensures.behind t.lines t.taken).at.always.count

pub returns : goal.returns
returns c = λ ls taken.
    let config = c.args.config.now in let behind = c.in_ok-run_last.ensures.behind ls taken in
    let tally : c.tally-tally.result ≡ c.args.cutter.now.tally = c.tally-tally.ensures.value in
    told c.args.details (is_some c.run_last.new.self.machines.views) config ls c.tally-tally.result.ended c.in_ok-text.text.items c.tell.new.out.items
    (c.in_ok-run_last.ensures.more ∙ c.requires.more)
    (c.in_ok-tell.ensures (beginning (asked_by config ls)) (asked_by config ls) behind.run)
    (c.in_ok-text.ensures ∙ headed config ls taken.given c.args.cutter.now c.tally-tally.result c.args.details.long taken.cut tally)
    (ap (λ (x : Tally). x.ended) tally ∙ taken.cut.ended)
