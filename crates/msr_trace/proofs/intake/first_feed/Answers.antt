use Rattle.std.proofs.Common.{◌≡◌, ◌+◌, ◌∙◌, ap, length, drop, arith, length-drop, ℕ}
use Rattle.std.specs.List.{position_or_len}
use Rattle.std.proofs.lemmas.List.{take_rest}
use Rattle.msr_trace.specs.Lines.{is_feed}
use Rattle.msr_trace.proofs.Feeds.{position_some, position_none, position_from}
use Rattle.msr_trace.proofs.intake.first_feed.Goals as goal

pub returns-in-Some-clause-first : goal.returns-in-Some-clause-first
returns-in-Some-clause-first c =
    let at = position_some is_feed (drop c.args.from c.args.bytes.now) c.in-Some.at (rw (take_rest c.args.bytes.now c.args.from) at c.in-Some.ensures) in
    ap (λ (n : ℕ). c.args.from + n) at ∙ position_from is_feed c.args.from c.args.bytes.now c.requires.within c.requires.none

pub returns-in-None-clause-first : goal.returns-in-None-clause-first
returns-in-None-clause-first c =
    let end : length (drop c.args.from c.args.bytes.now) ≡ position_or_len is_feed (drop c.args.from c.args.bytes.now) = position_none is_feed (drop c.args.from c.args.bytes.now) (rw (take_rest c.args.bytes.now c.args.from) at c.in-None.ensures) in
    omega (arith, end, length-drop c.args.from c.args.bytes.now, c.requires.within, position_from is_feed c.args.from c.args.bytes.now c.requires.within c.requires.none)
