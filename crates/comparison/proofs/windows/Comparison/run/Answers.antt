-- A window is run.
use Rattle.std.proofs.Common.{◌≡◌, ℕ, List, length, map, refl, sym, ap, subst, ◌∙◌}
use Rattle.std.specs.List.{AllByRecursion}
use Rattle.trace_windows.specs.Requests.{asked}
use Rattle.trace_windows.specs.declared.request.Request.{Request}
use Rattle.whatif.specs.declared.policy.Ask.{Ask}
use Rattle.whatif.specs.Stands.{IsAsk}
use Rattle.comparison.specs.Asked.{ask_of, asked_of}
use Rattle.comparison.proofs.Behind.{ran_on}
use Rattle.comparison.proofs.Taking.{are_asks}
use Rattle.comparison.proofs.windows.Comparison.run.Goals as goal

pub window-requires-clause-asks : goal.window-requires-clause-asks
window-requires-clause-asks c =
    let may = c.requires.may in
    let begun = c.in_ok-begin.ensures.begun may.ws may.behind in
    let asks : c.as_slice.result.now ≡ (asked_of c.args.batch.now).asks = c.as_slice.ensures.value ∙ c.in_ok-gather.ensures ∙ ap (map (λ (r : Request). ask_of (asked r))) c.requests.ensures.content in
    subst (AllByRecursion (IsAsk (length c.begin.new.self.machines.always.volumes.items))) (sym asks)
    (subst (λ (n : ℕ). AllByRecursion (IsAsk n) (asked_of c.args.batch.now).asks) (sym begun.at.always.count) (are_asks c.args.config.now c.requires.valid c.args.batch.now.requests c.requires.inside))

pub returns-clause-behind : goal.returns-clause-behind
returns-clause-behind c =
    let asks : c.as_slice.result.now ≡ (asked_of c.args.batch.now).asks = c.as_slice.ensures.value ∙ c.in_ok-gather.ensures ∙ ap (map (λ (r : Request). ask_of (asked r))) c.requests.ensures.content in
    ran_on c.window.result c.args.config.now c.args.batch.now c.args.self.now c.begin.new.self (record { machines = c.window.new.self; started = c.begin.new.self.started; asks = c.gather.new.asks }) c.moment-moment.result c.as_slice.result.now c.moment-moment.ensures asks
    (λ ws behind. c.in_ok-begin.ensures.begun ws behind) refl c.window.ensures.at c.window.ensures.run
