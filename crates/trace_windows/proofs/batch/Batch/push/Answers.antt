use Rattle.std.proofs.Common.{◌≡◌, ℕ, ◌+◌, ◌≤◌, List, length, sym, ap, ◌∙◌, arith, length-append}
use Rattle.trace_gen.specs.Generated.{targets_of}
use Rattle.wol_model.specs.Trace as trace
use Rattle.wol_model.specs.Trace.{requests_on}
use Rattle.msr_trace.specs.Lines.{trace_line}
use Rattle.trace_windows.specs.Requests.{numbered}
use Rattle.trace_windows.proofs.Numbering.{length-numbered}
use Rattle.trace_windows.proofs.batch.Batch.push.Goals as goal
use Rattle.trace_windows.proofs.batch.Batch.push.Goals.{then-self-eq0, else-self-eq0}
use Rattle.wol_config.specs.Configs.{most_of}

pub invariant_of-self-2 : goal.invariant_of-self-2
invariant_of-self-2 c =
    let rs : List trace.Request = requests_on (most_of c.args.config.now) (targets_of c.args.config.now) c.args.entry.number (trace_line c.args.line.now) c.args.entry.volume in
    let room : length c.self.inside.requests.items + length rs ≤ 131073 = rw (sym c.self.view_is) at c.requires.room in
    let count : length c.push_requests.new.out.items ≡ length c.self.inside.requests.items + length rs =
    ap length c.in_ok-push_requests.ensures.ok ∙ length-append c.self.inside.requests.items (numbered c.args.entry.next rs) ∙ ap (λ (n : ℕ). length c.self.inside.requests.items + n) (length-numbered c.args.entry.next rs) in
    let few : length c.push_requests.new.out.items ≤ 131073 = omega arith in
    elim c.if-self-eq0.branch [
      | then-self-eq0 w ↦ rw w.self-inside-is (few, λ none. absurd (omega arith))
      | else-self-eq0 w ↦ rw w.self-inside-is (few, λ none. absurd (omega arith))
    ]
