use Rattle.std.proofs.Common.{◌≡◌, inl, ◌∙◌}
use Rattle.wol_run.specs.Statuses.{bad_line_text}
use Rattle.wol_run.proofs.telling.tell_line.Goals as goal

pub returns-clause-content : goal.returns-clause-content
returns-clause-content g c =
    let text : c.as_bytes.result.now ≡ bad_line_text c.args.line c.args.why = c.as_bytes.ensures.value ∙ c.in-Ok.ensures in
    inl (rw text at c.end_with-2.ensures.content)
