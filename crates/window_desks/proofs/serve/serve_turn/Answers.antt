use Rattle.std.proofs.Common.{ap, sym, ◌∙◌, ◌++◌, ◌-◌, ◌+◌, List, length, replicate}
use Rattle.request_turns.specs.declared.outcome.Outcome.{Outcome}
use Rattle.request_turns.specs.declared.outcome.Outcome.TheVariants as outcome
use Rattle.window_desks.proofs.Serving.{turn_answered, turn_refused}
use Rattle.window_desks.proofs.serve.serve_turn.Goals as goal

pub answer_first-count-requires-clause-at : goal.answer_first-count-requires-clause-at
answer_first-count-requires-clause-at g c = record { pass = c.requires.ready.pass; shared_ = c.requires.ready.shared_ }

pub returns-then-is_answered-clause-served : goal.returns-then-is_answered-clause-served
returns-then-is_answered-clause-served g c =
    let a = c.answer_first-count.ensures in let r = c.answer_first-count.result in
    turn_answered _ c.args.desk.now _ c.args.at c.args.end r.0 r.1 c.requires.ready.pass.number_is c.requires.some c.requires.end a.answered a.id a.requests a.fault (c.tell.ensures.room ∙ ap (λ v. v.cap) a.outcomes) a.counted
    (sym c.is_answered.ensures ∙ c.if-is_answered.true) (c.tell.ensures.items ∙ ap (λ v. v.items ++ replicate r.0 r.1) a.outcomes)

pub returns-clause-served : goal.returns-clause-served
returns-clause-served g c =
    let a = c.answer_first-count.ensures in let r = c.answer_first-count.result in let all = c.len-all.result in
    turn_refused _ c.args.desk.now _ c.args.at c.args.end r.0 r.1 c.requires.ready.pass.number_is c.requires.some c.requires.end a.answered a.id a.requests a.fault (c.tell-2.ensures.room ∙ (c.tell.ensures.room ∙ ap (λ v. v.cap) a.outcomes)) a.counted
    all (c.len-all.ensures ∙ (c.answer_first-count.new.desk.requests.ok.0 ∙ ap (λ v. length v.items) a.requests)) (sym c.is_answered.ensures ∙ c.if-is_answered.false)
    (c.tell-2.ensures.items ∙ ap (λ (l : List Outcome). l ++ replicate (all - (c.args.at + r.0)) outcome.NotRun) (c.tell.ensures.items ∙ ap (λ v. v.items ++ replicate r.0 r.1) a.outcomes))
