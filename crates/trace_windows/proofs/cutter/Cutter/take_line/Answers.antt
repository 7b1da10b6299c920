use Rattle.std.proofs.Common.{ℕ, ◌+◌, List, refl, sym, ap, ◌∙◌, cond, Bool, Option}
use Rattle.std.specs.Prelude.{is_none}
use Rattle.trace_gen.specs.Generated.{targets_of}
use Rattle.wol_model.specs.Trace.{Target}
use Rattle.msr_trace.specs.Lines.{trace_line}
use Rattle.trace_windows.specs.Cutting.{Cutting, HasCut}
use Rattle.trace_windows.proofs.Taking.{Counts, none_of, takes_line}
use Rattle.trace_windows.proofs.cutter.Cutter.take_line.Goals as goal
use Rattle.wol_config.specs.Configs.{most_of}

pub returns-clause-ok : goal.returns-clause-ok
returns-clause-ok c = λ ls given cut.
    let most : ℕ = most_of c.args.config.now in
    let targets : List Target = targets_of c.args.config.now in
    let i = c.self.inside in
    let old : Cutting = record { tally = i.tally; current = i.current; whole = i.whole } in
    let new : Cutting = record { tally = c.add_line.new.self; current = c.put_line.new.current; whole = c.put_line.new.whole } in
    let before : HasCut most targets ls given old = rw (sym c.self.view_is) at cut in
    let volume : Option ℕ = c.volume_of-volume.result in
    let counted = c.add_line.ensures in
    let counts : Counts c.max.result (cond (is_none volume) 1 0) c.count_requests-count.result i.tally c.add_line.new.self = record {
      lines = counted.lines;
      blank = counted.blank;
      skipped = counted.skipped ∙ ap (λ (b : Bool). i.tally.skipped + cond b 1 0) (none_of volume c.is_none.result c.is_none.ensures);
      requests = counted.requests;
      started = counted.started;
      ended = counted.ended;
    } in
    takes_line most targets ls given (trace_line c.args.line.now) old new before c.in_ok-closes.closes c.max.result c.count_requests-count.result _ volume c.max.ensures (rw c.as_slice.ensures.value at c.volume_of-volume.ensures.value) refl
    (c.count_requests-count.ensures.value _) counts c.in_ok-closes.ensures.admits c.in_ok-closes.ensures.ok
