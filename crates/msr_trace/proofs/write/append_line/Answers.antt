use Rattle.std.proofs.Common.{decimal}
use Rattle.msr_trace.specs.Spelling.{kind_text}
use Rattle.msr_trace.proofs.Joined.{joined}
use Rattle.msr_trace.proofs.write.append_line.Goals as goal

pub returns-clause-ok : goal.returns-clause-ok
returns-clause-ok c =
    let l = c.args.line.now in
    rw (c.in_ok-append_number-5.ensures.ok, c.in_ok-append_number-4.ensures.ok, c.in_ok-append_number-3.ensures.ok, c.in_ok-append-2.ensures.ok, c.in_ok-append_number-2.ensures.ok, c.in_ok-append.ensures.ok, c.in_ok-append_number.ensures.ok, c.as_bytes.ensures, c.from.ensures, c.kind_name.ensures)
    (joined c.args.out.now.items (decimal l.time) l.host (decimal l.disk) (kind_text l.kind) (decimal l.offset) (decimal l.size) (decimal l.response) 44 10)
