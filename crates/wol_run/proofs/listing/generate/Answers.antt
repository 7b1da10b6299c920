use Rattle.std.proofs.Common.{None, Some}
use Rattle.wol_run.proofs.GenEndings.{told_cut, told_front, told_listed, told_unread}
use Rattle.wol_run.proofs.listing.generate.Goals as goal

pub returns-in-Err-clause-content : goal.returns-in-Err-clause-content
returns-in-Err-clause-content g c = record { read = None; has = tt; is = told_unread c.args.asked _ _ _ _ _ _ c.in-Err.fault c.in-Err.ensures.err c.tell_fault.ensures.content }

pub returns-in-Ok-print_lines-clause-content : goal.returns-in-Ok-print_lines-clause-content
returns-in-Ok-print_lines-clause-content g c = record { read = Some c.in-Ok.config; has = c.in-Ok.ensures.ok; is = told_listed c.args.asked _ _ _ c.in-Ok.config _ _ c.in-Ok-print_lines.ensures.content.1 }

pub returns-in-Err-Sink-clause-content : goal.returns-in-Err-Sink-clause-content
returns-in-Err-Sink-clause-content g c = record { read = Some c.in-Ok.config; has = c.in-Ok.ensures.ok; is = told_front c.args.asked _ _ _ c.in-Ok.config _ _ (rw c.in-Err-Sink.field-0-is at c.in-Err-Sink.ensures.content).1 }

pub returns-clause-content : goal.returns-clause-content
returns-clause-content g c =
    let printed = rw c.in-Err-Memory.field-0-is at c.in-Err-Memory.ensures.content in
    record {
      read = Some c.in-Ok.config;
      has = c.in-Ok.ensures.ok;
      is = told_cut c.args.asked _ _ _ c.in-Ok.config _ _ (g.K.Sink.taken c.print_lines.new.out) _ printed.1.0 printed.1.1 printed.1.2 c.end_with.ensures.content;
    }
