use Rattle.replay.proofs.Basics.{◌≡◌, ◌≢◌, ◌+◌, ◌*◌, ◌++◌, [], true, false, refl, ap, ◌∙◌, append-nil, arith, err_from_is_err_and}
use Rattle.replay.proofs.Terms.{keeps_same, is_no_memory, none_further, at_end, at_refusal}
use Rattle.replay.proofs.LinesServed.{copied_line, current_lies, lacks_memory, last_ok, no_line, not_run_same, nothing_served, serves_whole, stops_at_line, stops_last, takes_on}
use Rattle.replay.proofs.Outcomes.{few_more, few_none}
use Rattle.replay.proofs.Serving.{same_both, same_passes}
use Rattle.msr_trace.specs.declared.format.TraceFault.TheVariants as refusal
use Rattle.replay.proofs.session.Session.serve_all.Goals as goal

pub loop-init : goal.loop-init
loop-init g c = record {
  so_far = nothing_served g.D.Disk.tells g.S.Source.left c.args.config.now c.args.options c.args.given.now c.args.self.now.floor c.args.self.now.keepers.items (g.K.Sink.faults c.args.out.now) (g.K.Sink.taken c.args.out.now)
      c.new-cutter.result c.args.self.now c.new-cutter.ensures.cut refl refl c.requires.started c.requires.totals;
  live = c.requires.new.0;
  turns = c.requires.new.1;
  lines = c.new-cutter.ensures.lines;
  most = (let new = c.requires.new.1 in omega (arith, new));
  few = few_none _ c.args.self.now.totals c.requires.totals;
  session = c.requires.session;
  crew = c.requires.crew;
  same = same_passes c.args.self.now.keepers.items;
  locks = refl;
  later = omega arith;
  source_later = omega arith;
  source_calm = refl;
  same_borrow = refl;
}

pub returns-in_err-take-in-Ok-Some-clause-some : goal.returns-in_err-take-in-Ok-Some-clause-some
returns-in_err-take-in-Ok-Some-clause-some g c =
    let p = err_from_is_err_and c.from_residual.result c.from_residual.ensures.1 in
    let so = c.loop.invariant.so_far in
    let next = rw c.in-Ok-Some.field-0-is at c.in-Ok-Some.ensures.line in
    let line = copied_line c.as_ref-line.result c.in-Ok-Some.line c.as_ref-line.ensures.value in
    let stops = rw line at (c.in_err-take-in-Ok-Some.ensures.err (so.run ++ so.more) so.ws so.cut) in
    rw (p.1, p.2) (stops_at_line g.D.Disk.tells g.S.Source.left c.args.config.now c.args.options c.args.given.now c.args.self.now.floor c.args.self.now.keepers.items (g.K.Sink.faults c.args.out.now) (g.K.Sink.taken c.args.out.now)
    c.loop.given c.loop.cutter c.loop.self (g.K.Sink.faults c.loop.out) (g.K.Sink.taken c.loop.out) so c.next.new.self _ c.take.new.cutter _ c.take.new.self (g.K.Sink.faults c.take.new.out) (g.K.Sink.taken c.take.new.out) stops (next c.args.given.now (so.run ++ so.more) so.given))

pub serve-requires-clause-inside : goal.serve-requires-clause-inside
serve-requires-clause-inside g c =
    let so = c.loop.invariant.so_far in
    rw c.current-batch.ensures (current_lies c.args.config.now (so.run ++ so.more) so.ws c.loop.cutter c.requires.valid so.cut)

pub returns-in_err-serve-in-Ok-None-clause-some : goal.returns-in_err-serve-in-Ok-None-clause-some
returns-in_err-serve-in-Ok-None-clause-some g c =
    let p = err_from_is_err_and c.from_residual-in_err-serve-in-Ok-None.result c.from_residual-in_err-serve-in-Ok-None.ensures.1 in
    let so = c.loop.invariant.so_far in
    let end = rw c.in-Ok-None.field-0-is at c.in-Ok-None.ensures.end in
    let stops = rw c.current-batch.ensures at c.in_err-serve-in-Ok-None.ensures.err in
    rw (p.1, p.2) (stops_last g.D.Disk.tells g.S.Source.left c.args.config.now c.args.options c.args.given.now c.args.self.now.floor c.args.self.now.keepers.items (g.K.Sink.faults c.args.out.now) (g.K.Sink.taken c.args.out.now)
    c.loop.given c.loop.cutter c.loop.self (g.K.Sink.faults c.loop.out) (g.K.Sink.taken c.loop.out) so c.next.new.self _ c.serve.new.self (g.K.Sink.faults c.serve.new.out) (g.K.Sink.taken c.serve.new.out)
    (at_end (end c.args.given.now (so.run ++ so.more) so.given).1) stops.0 stops.1 (end c.args.given.now (so.run ++ so.more) so.given).0)

pub returns-in-Ok-None-clause-whole : goal.returns-in-Ok-None-clause-whole
returns-in-Ok-None-clause-whole g c =
    let so = c.loop.invariant.so_far in
    let end = rw c.in-Ok-None.field-0-is at c.in-Ok-None.ensures.end in
    let has = end c.args.given.now (so.run ++ so.more) so.given in
    let ok = last_ok g.D.Disk.tells c.args.config.now c.args.options c.loop.cutter.current c.loop.self c.serve.new.self g.K.Sink.faults g.K.Sink.taken c.loop.out c.serve.new.out (rw c.current-batch.ensures at c.in_ok-serve-in-Ok-None.ensures.ok) in
    let t = c.counted.ensures in
    serves_whole g.D.Disk.tells g.S.Source.left c.args.config.now c.args.options c.args.given.now c.args.self.now.floor c.args.self.now.keepers.items (g.K.Sink.faults c.args.out.now) (g.K.Sink.taken c.args.out.now)
    c.loop.given c.loop.cutter c.loop.self (g.K.Sink.faults c.loop.out) (g.K.Sink.taken c.loop.out) so c.next.new.self c.serve.new.self c.counted.result (g.K.Sink.faults c.serve.new.out) (g.K.Sink.taken c.serve.new.out)
    ok has.0 has.1 (rw c.tally.ensures.value at t.totals) (rw c.tally.ensures.value at t.started) (rw c.tally.ensures.value at t.ended) (rw c.tally.ensures.value at c.tally.ensures.order)

pub loop-preserved : goal.loop-preserved
loop-preserved g c =
    let i = c.loop.invariant in
    let so = i.so_far in
    let next = rw c.in-Ok-Some.field-0-is at c.in-Ok-Some.ensures.line in
    let line = copied_line c.as_ref-line.result c.in-Ok-Some.line c.as_ref-line.ensures.value in
    let count = rw c.in-Ok-Some.field-0-is at c.in-Ok-Some.ensures.count in
    let e = c.in_ok-take-in-Ok-Some.ensures in
    record {
      so_far = takes_on g.D.Disk.tells g.S.Source.left c.args.config.now c.args.options c.args.given.now c.args.self.now.floor c.args.self.now.keepers.items (g.K.Sink.faults c.args.out.now) (g.K.Sink.taken c.args.out.now)
          c.loop.given c.loop.cutter c.loop.self (g.K.Sink.faults c.loop.out) (g.K.Sink.taken c.loop.out) so c.next.new.self _ c.take.new.cutter c.take.new.self (g.K.Sink.faults c.take.new.out) (g.K.Sink.taken c.take.new.out)
          (rw line at (e.ok (so.run ++ so.more) so.ws so.cut)) (next c.args.given.now (so.run ++ so.more) so.given);
      live = c.in-Ok-Some.ensures.live;
      turns = count ∙ ap (λ n. n + 1) i.turns;
      lines = e.lines ∙ ap (λ n. n + 1) i.lines;
      most = c.in-Ok-Some.ensures.most;
      few = few_more (131073 * c.loop.counter) (131073 * (c.loop.counter + 1)) 131073 c.loop.self.totals c.take.new.self.totals i.few e.few (omega arith);
      session = e.session;
      crew = e.crew;
      same = same_both c.args.self.now.keepers.items c.loop.self.keepers.items c.take.new.self.keepers.items i.same e.same;
      locks = e.locks ∙ i.locks;
      later = (let a = i.later in let b = e.later in omega (arith, a, b));
      source_later = (let a = i.source_later in let b = c.in-Ok-Some.ensures.later in omega (arith, a, b));
      source_calm = c.in-Ok-Some.ensures.calm (λ is. cc) ∙ i.source_calm;
      same_borrow = c.in-Ok-Some.ensures.same_borrow ∙ i.same_borrow;
    }

pub returns-then-is_memory-clause-some : goal.returns-then-is_memory-clause-some
returns-then-is_memory-clause-some g c =
    let so = c.loop.invariant.so_far in
    let has = c.in-Err.ensures.refused c.args.given.now (so.run ++ so.more) so.given in
    lacks_memory g.D.Disk.tells g.S.Source.left c.args.config.now c.args.options c.args.given.now c.args.self.now.floor c.args.self.now.keepers.items (g.K.Sink.faults c.args.out.now) (g.K.Sink.taken c.args.out.now)
    c.loop.given c.loop.cutter c.loop.self (g.K.Sink.faults c.loop.out) (g.K.Sink.taken c.loop.out) so c.next.new.self [] c.loop.self.floor c.loop.self.keepers.items (g.K.Sink.faults c.loop.out) (g.K.Sink.taken c.loop.out)
    (rw (append-nil so.more) has.0) (not_run_same g.D.Disk.tells c.loop.self.floor) (none_further refl refl) refl (keeps_same (g.K.Sink.taken c.loop.out))

pub serve-requires-in-Err-clause-inside : goal.serve-requires-in-Err-clause-inside
serve-requires-in-Err-clause-inside g c =
    let so = c.loop.invariant.so_far in
    rw c.current-batch-in-Err.ensures (current_lies c.args.config.now (so.run ++ so.more) so.ws c.loop.cutter c.requires.valid so.cut)

pub returns-in_err-serve-in-Err-clause-some : goal.returns-in_err-serve-in-Err-clause-some
returns-in_err-serve-in-Err-clause-some g c =
    let p = err_from_is_err_and c.from_residual-in_err-serve-in-Err.result c.from_residual-in_err-serve-in-Err.ensures.1 in
    let so = c.loop.invariant.so_far in
    let has = c.in-Err.ensures.refused c.args.given.now (so.run ++ so.more) so.given in
    let stops = rw c.current-batch-in-Err.ensures at c.in_err-serve-in-Err.ensures.err in
    rw (p.1, p.2) (stops_last g.D.Disk.tells g.S.Source.left c.args.config.now c.args.options c.args.given.now c.args.self.now.floor c.args.self.now.keepers.items (g.K.Sink.faults c.args.out.now) (g.K.Sink.taken c.args.out.now)
    c.loop.given c.loop.cutter c.loop.self (g.K.Sink.faults c.loop.out) (g.K.Sink.taken c.loop.out) so c.next.new.self _ c.serve-in-Err.new.self (g.K.Sink.faults c.serve-in-Err.new.out) (g.K.Sink.taken c.serve-in-Err.new.out)
    (at_refusal c.in-Err.fault (λ is. let none : false ≡ is_no_memory c.in-Err.fault = c.if-is_memory.ensures in let some : is_no_memory c.in-Err.fault ≡ true = ap is_no_memory is in cc) has.1) stops.0 stops.1 has.0)

pub returns-in-Err-clause-some : goal.returns-in-Err-clause-some
returns-in-Err-clause-some g c =
    let so = c.loop.invariant.so_far in
    let has = c.in-Err.ensures.refused c.args.given.now (so.run ++ so.more) so.given in
    let ok = last_ok g.D.Disk.tells c.args.config.now c.args.options c.loop.cutter.current c.loop.self c.serve-in-Err.new.self g.K.Sink.faults g.K.Sink.taken c.loop.out c.serve-in-Err.new.out (rw c.current-batch-in-Err.ensures at c.in_ok-serve-in-Err.ensures.ok) in
    let other : c.in-Err.fault ≢ refusal.NoMemory = (λ is. let none : false ≡ is_no_memory c.in-Err.fault = c.if-is_memory.ensures in let some : is_no_memory c.in-Err.fault ≡ true = ap is_no_memory is in cc) in
    rw c.fault_of_trace.ensures (no_line g.D.Disk.tells g.S.Source.left c.args.config.now c.args.options c.args.given.now c.args.self.now.floor c.args.self.now.keepers.items (g.K.Sink.faults c.args.out.now) (g.K.Sink.taken c.args.out.now)
    c.loop.given c.loop.cutter c.loop.self (g.K.Sink.faults c.loop.out) (g.K.Sink.taken c.loop.out) so c.next.new.self c.in-Err.fault c.serve-in-Err.new.self (g.K.Sink.faults c.serve-in-Err.new.out) (g.K.Sink.taken c.serve-in-Err.new.out)
    ok other has.0 has.1)
