use Rattle.std.proofs.Common.{rules, arith, refl, sym, ap, ◌≡◌, ◌∙◌, ◌+◌, Ok, Err}
use Rattle.std.proofs.lemmas.Result.{err_from_is_err_and}
use Rattle.std.specs.Prelude.{option_map}
use Rattle.msr_trace.specs.Lines.{trace_line}
use Rattle.msr_trace.specs.Reading.{IsDone, TakesLine, pending}
use Rattle.solo.specs.Volume.{target_of}
use Rattle.solo.proofs.Running.{begins, ends, goes_on, reader_stops, stops_in_line}
use Rattle.solo.proofs.trace.run_lines.Goals as goal

pub loop-init : goal.loop-init
loop-init g c = record {
  so_far = rw c.requires.none (begins (target_of c.args.volume.now) (pending g.S.Source.left c.args.lines.now) (g.K.Sink.taken c.args.out.now) (g.D.Disk.state c.args.part.now).values c.requires.settled);
  live = c.requires.live;
  turns = c.requires.none;
  lines = sym c.requires.none;
  others = omega arith;
  requests = omega arith;
  few = omega (arith, c.requires.none);
  size = refl;
  room = c.requires.room;
  same_borrow = refl;
  source_later = search rules;
  disk_later = search rules;
  later = search rules;
  source_calm = refl;
  disk_calm = refl;
  sink_calm = refl;
}

pub returns-in-Ok-None-clause-content : goal.returns-in-Ok-None-clause-content
returns-in-Ok-None-clause-content g c =
    let done : IsDone g.S.Source.left c.loop.lines c.next.new.self = rw c.in-Ok-None.field-0-is at c.in-Ok-None.ensures.end in
    ends _ _ _ _ _ _ _ _ _ c.loop.invariant.so_far c.next.new.self.held (g.S.Source.left c.next.new.self.source) c.loop.invariant.few done.kept done.none_held done.at_end

pub returns-in-Err-clause-content : goal.returns-in-Err-clause-content
returns-in-Err-clause-content g c =
    rw c.fault_of.ensures (reader_stops _ _ _ _ _ _ _ _ _ c.loop.invariant.so_far c.in-Err.fault c.next.new.self.held (g.S.Source.left c.next.new.self.source) c.in-Err.ensures.size c.in-Err.ensures.kept
    (λ line why is. c.in-Err.ensures.bad line why (ap Err is)) (λ is. c.in-Err.ensures.spent.0 (ap Err is)) (λ is. c.in-Err.ensures.cut (ap Err is)))

pub returns-in_err-take_line-clause-content : goal.returns-in_err-take_line-clause-content
returns-in_err-take_line-clause-content g c =
    let p = err_from_is_err_and c.from_residual.result c.from_residual.ensures.1 in
    let number : (c.in-Ok-Some.numbered.0 ≡ c.loop.lines.given + 1) × (c.next.new.self.given ≡ c.in-Ok-Some.numbered.0) = rw c.in-Ok-Some.field-0-is at c.in-Ok-Some.ensures.number in
    let takes : TakesLine (pending g.S.Source.left c.loop.lines) (pending g.S.Source.left c.next.new.self) (Ok (option_map trace_line c.in-Ok-Some.numbered.1)) = rw c.in-Ok-Some.field-0-is at c.in-Ok-Some.ensures.line in
    rw (p.1, p.2) (stops_in_line _ _ _ _ _ _ _ _ _ c.loop.invariant.so_far c.in_err-take_line.field-0.0 (option_map trace_line c.in-Ok-Some.numbered.1) c.next.new.self.held (g.S.Source.left c.next.new.self.source) _ _ c.in-Ok-Some.ensures.size takes
    (rw number.0 at c.in_err-take_line.ensures.content))

pub loop-preserved : goal.loop-preserved
loop-preserved g c =
    let number : (c.in-Ok-Some.numbered.0 ≡ c.loop.lines.given + 1) × (c.next.new.self.given ≡ c.in-Ok-Some.numbered.0) = rw c.in-Ok-Some.field-0-is at c.in-Ok-Some.ensures.number in
    let takes : TakesLine (pending g.S.Source.left c.loop.lines) (pending g.S.Source.left c.next.new.self) (Ok (option_map trace_line c.in-Ok-Some.numbered.1)) = rw c.in-Ok-Some.field-0-is at c.in-Ok-Some.ensures.line in
    let given : c.next.new.self.given ≡ c.loop.lines.given + 1 = number.1 ∙ number.0 in
    let counted = rw number.0 at c.in_ok-take_line.ensures.tally in
    let content = rw number.0 at c.in_ok-take_line.ensures.values in
    let answered = rw number.0 at c.in_ok-take_line.ensures.content in
    record {
      so_far = rw given (goes_on _ _ _ _ _ _ _ _ _ c.loop.invariant.so_far (option_map trace_line c.in-Ok-Some.numbered.1) (pending g.S.Source.left c.next.new.self) c.take_line.new.tally _ _ takes counted c.in_ok-take_line.ensures.settled content answered);
      live = search rules;
      turns = omega (arith, given, c.loop.invariant.turns);
      lines = omega (arith, given, c.loop.invariant.lines, c.in_ok-take_line.ensures.lines);
      others = omega (arith, given, c.loop.invariant.others, c.in_ok-take_line.ensures.others);
      requests = omega (arith, given, c.loop.invariant.requests, c.in_ok-take_line.ensures.requests);
      few = c.in-Ok-Some.ensures.most;
      size = search rules;
      room = search rules;
      same_borrow = search rules;
      source_later = search rules;
      disk_later = search rules;
      later = search rules;
      source_calm = search rules;
      disk_calm = search rules;
      sink_calm = search rules;
    }
