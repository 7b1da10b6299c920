use Rattle.std.proofs.Common.{None, Some, Ok, Err, ap, refl, ◌∙◌}
use Rattle.wol_run.proofs.FormatEndings.{told_memory, told_stopped, told_untouched, told_whole}
use Rattle.wol_run.proofs.formatting.format.Goals as goal

pub returns-in-Err-clause-content : goal.returns-in-Err-clause-content
returns-in-Err-clause-content g c = record { read = None; has = tt; is = told_untouched _ _ _ _ _ _ _ _ c.in-Err.fault c.in-Err.ensures.err refl c.tell_fault.ensures.content }

pub returns-in-Err-format-clause-content : goal.returns-in-Err-format-clause-content
returns-in-Err-format-clause-content g c =
    let e = c.in-Err-format.ensures in
    record {
      read = Some c.in-Ok.config;
      has = c.in-Ok.ensures.ok;
      is = told_stopped _ _ _ _ _ _ _ _ c.in-Ok.config c.in-Err-format.fault
          (record { images = e.left; any_exit = e.any_exit; sound = e.sound; zeros_ = e.zeros; cause = e.cause; calm = e.calm })
          (λ n p same. e.volume n p (ap Err same))
          (rw (c.deref.ensures.value, c.fault_of.ensures) at c.tell_fault-in-Err-format.ensures.content);
    }

pub returns-in-Ok-lines_of-clause-content : goal.returns-in-Ok-lines_of-clause-content
returns-in-Ok-lines_of-clause-content g c =
    let e = c.in_default.ensures in
    record {
      read = Some c.in-Ok.config;
      has = c.in-Ok.ensures.ok;
      is = told_whole _ _ _ _ _ _ _ _ c.in-Ok.config
          (record { images = e.left; any_exit = e.any_exit; sound = e.sound; zeros_ = e.zeros; cause = e.cause; calm = e.calm })
          (rw (c.deref-in-Ok-lines_of.ensures.value ∙ c.in-Ok-lines_of.ensures) at c.end_with.ensures.content);
    }

pub returns-clause-content : goal.returns-clause-content
returns-clause-content g c =
    let e = c.in_default.ensures in
    record {
      read = Some c.in-Ok.config;
      has = c.in-Ok.ensures.ok;
      is = told_memory _ _ _ _ _ _ _ _ c.in-Ok.config (Ok tt)
          (record { images = e.left; any_exit = e.any_exit; sound = e.sound; zeros_ = e.zeros; cause = e.cause; calm = e.calm })
          c.end_with-in-Err-lines_of.ensures.content;
    }
