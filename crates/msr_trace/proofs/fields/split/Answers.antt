use Rattle.msr_trace.proofs.Splitting.{line_record, no_special}
use Rattle.msr_trace.proofs.fields.split.Goals as goal

pub unreachable-requires : goal.unreachable-requires
unreachable-requires c =
    let whole = line_record c.args.line.now c.requires.some (no_special c.args.line.now c.requires.marks c.requires.feeds) c.requires.start in
    let h = rw (c.in-Ok-None.field-0-is, whole) at c.in-Ok-None.ensures in cc h

pub returns-in-Ok-Some : goal.returns-in-Ok-Some
returns-in-Ok-Some c =
    let whole = line_record c.args.line.now c.requires.some (no_special c.args.line.now c.requires.marks c.requires.feeds) c.requires.start in
    let h = rw (c.in-Ok-Some.field-0-is, whole) at c.in-Ok-Some.ensures in cc h
