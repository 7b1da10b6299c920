use Rattle.replay.proofs.Basics.{◌≡◌, Some, sym, ap, ◌∙◌}
use Rattle.replay.proofs.Terms.{Fault, TraceSource}
use Rattle.replay.proofs.Refused.{window_refused}
use Rattle.replay.proofs.session.finish.Goals as goal

pub returns-in-Some-clause-not_source : goal.returns-in-Some-clause-not_source
returns-in-Some-clause-not_source g c is =
    let same : c.in-Some.fault ≡ TraceSource = cc in
    window_refused c.args.requests.now c.args.window.now (sym c.fault_of_window.ensures ∙ c.in-Some.is ∙ ap (λ (x : Fault). Some x) same)
