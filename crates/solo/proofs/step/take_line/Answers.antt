use Rattle.std.proofs.Common.{refl, sym, ◌≡◌, []}
use Rattle.std.specs.Prelude.{option_map}
use Rattle.msr_trace.specs.Lines.{trace_line}
use Rattle.solo.specs.Volume.{target_of}
use Rattle.solo.specs.Requests.{requests_at, line_requests}
use Rattle.solo.proofs.Steps.{none_asked, none_changed}
use Rattle.solo.proofs.Tallies.{blank_tally, no_requests, not_ours, our_requests, our_tally, ours, skipped_tally}
use Rattle.solo.proofs.step.take_line.Goals as goal

pub returns-in_default-clause-tally : goal.returns-in_default-clause-tally
returns-in_default-clause-tally g c = rw c.in_default.is (blank_tally (target_of c.args.volume.now) c.args.number c.args.tally.now _ refl refl refl refl refl)

pub returns-in_default-clause-values : goal.returns-in_default-clause-values
returns-in_default-clause-values g c = rw c.in_default.is (none_changed [] _ refl)

pub returns-in_default-clause-content : goal.returns-in_default-clause-content
returns-in_default-clause-content g c = rw c.in_default.is (none_asked [] _ _ refl)

pub returns-then-not-belongs-clause-tally : goal.returns-then-not-belongs-clause-tally
returns-then-not-belongs-clause-tally g c =
    let none = not_ours (target_of c.args.volume.now) (trace_line c.in-Some.line) (sym c.if-not-belongs.ensures) in
    rw c.in-Some.is (skipped_tally (target_of c.args.volume.now) c.args.number (trace_line c.in-Some.line) c.args.tally.now _ none refl refl refl refl refl)

pub returns-then-not-belongs-clause-values : goal.returns-then-not-belongs-clause-values
returns-then-not-belongs-clause-values g c =
    let none = not_ours (target_of c.args.volume.now) (trace_line c.in-Some.line) (sym c.if-not-belongs.ensures) in
    rw c.in-Some.is (none_changed _ _ (no_requests (target_of c.args.volume.now) c.args.number (trace_line c.in-Some.line) none))

pub returns-then-not-belongs-clause-content : goal.returns-then-not-belongs-clause-content
returns-then-not-belongs-clause-content g c =
    let none = not_ours (target_of c.args.volume.now) (trace_line c.in-Some.line) (sym c.if-not-belongs.ensures) in
    rw c.in-Some.is (none_asked _ _ _ (no_requests (target_of c.args.volume.now) c.args.number (trace_line c.in-Some.line) none))

pub returns-clause-tally : goal.returns-clause-tally
returns-clause-tally g c =
    let some = ours (target_of c.args.volume.now) (trace_line c.in-Some.line) (sym c.if-not-belongs.ensures) in
    let counted = rw c.requires.size at c.in_ok-count.ensures.count in
    let add = c.add_requests.ensures in
    rw c.in-Some.is (our_tally (target_of c.args.volume.now) c.args.number c.in_ok-count.count (trace_line c.in-Some.line) c.args.tally.now c.add_requests.new.tally some counted add.lines add.blank add.skipped add.reads add.writes)

pub returns-clause-content : goal.returns-clause-content
returns-clause-content g c =
    let some = ours (target_of c.args.volume.now) (trace_line c.in-Some.line) (sym c.if-not-belongs.ensures) in
    let asked : requests_at (target_of c.args.volume.now) c.args.number (option_map trace_line c.args.line) ≡ line_requests c.args.volume.now.blocks c.args.number (trace_line c.in-Some.line) =
    rw c.in-Some.is (our_requests (target_of c.args.volume.now) c.args.number (trace_line c.in-Some.line) some) in
    rw asked (rw c.requires.size at c.in_ok-count.ensures.content)
