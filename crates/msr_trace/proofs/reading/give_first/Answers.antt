use Rattle.std.proofs.Common.{arith, ◌≡◌, ◌+◌, length, take, min, Ok, Err}
use Rattle.std.specs.Prelude.{option_map}
use Rattle.msr_trace.specs.declared.format.LineFault.TheVariants as fault
use Rattle.msr_trace.specs.Lines.{is_feed, trace_line, read_of}
use Rattle.msr_trace.proofs.FirstLine.{gives_line, refuses_line}
use Rattle.msr_trace.proofs.Feeds.{none_before}
use Rattle.msr_trace.proofs.reading.give_first.Goals as goal

pub read_line-requires : goal.read_line-requires
read_line-requires g c = rw c.bytes-held.ensures.value (none_before is_feed c.args.end c.args.intake.now.bytes (omega (arith, c.requires.first)))

pub returns-in-Err-clause-bad : goal.returns-in-Err-clause-bad
returns-in-Err-clause-bad g c = λ why is.
    let same : c.in-Err.fault ≡ fault.Bad why = cc is in
    let read : read_of (take c.args.end c.args.intake.now.bytes) ≡ Err why = rw (same, c.bytes-held.ensures.value) at c.in-Err.ensures.content in
    refuses_line c.args.intake.now.bytes (g.S.Source.left c.args.intake.now.source) c.args.end c.args.intake.now.ended why c.requires.some c.requires.first c.requires.whole c.bytes-held.ensures.end read

pub returns-clause-line : goal.returns-clause-line
returns-clause-line g c =
    let read : read_of (take c.args.end c.args.intake.now.bytes) ≡ Ok (option_map trace_line c.in-Ok.line) = rw c.bytes-held.ensures.value at c.in-Ok.ensures.content in
    let taken : c.min-taken.result ≡ min (length c.args.intake.now.bytes) (c.args.end + 1) = rw c.bytes-held.ensures.value at c.min-taken.ensures in
    rw (c.skip.ensures, taken) (gives_line c.args.intake.now.bytes (g.S.Source.left c.args.intake.now.source) c.args.end c.args.intake.now.ended (option_map trace_line c.in-Ok.line) c.requires.some c.requires.first c.requires.whole c.bytes-held.ensures.end read)
