use Rattle.std.proofs.Common.{◌≡◌, None, Some, inr, refl, rules}
use Rattle.wol_run.proofs.Compared.{uncompared}
use Rattle.wol_run.proofs.Completing.{complete_unread, may_compare}
use Rattle.wol_run.proofs.comparing.compare.Goals as goal

pub returns-in-Err-clause-content : goal.returns-in-Err-clause-content
returns-in-Err-clause-content g c = record { read = None; has = tt; is = uncompared _ _ _ _ _ _ _ _ c.in-Err.fault c.in-Err.ensures.err refl c.tell_fault.ensures.content }

pub returns-clause-content : goal.returns-clause-content
returns-clause-content g c =
    let same : c.compare_lines-status.result.1.source.now ≡ c.trace-1.given.0 = search rules in
    record { read = Some c.in-Ok.config; has = c.in-Ok.ensures.ok; is = rw (c.new-lines.ensures, same, c.with_timeout-config.ensures.value, c.details_of.ensures) at c.compare_lines-status.ensures.content }

pub returns-clause-source : goal.returns-clause-source
returns-clause-source g c eight =
    let same : c.compare_lines-status.result.1.source.now ≡ c.trace-1.given.0 = search rules in
    inr (rw (c.new-lines.ensures, same) at (c.compare_lines-status.ensures.source eight))

pub returns-in-Err-clause-complete : goal.returns-in-Err-clause-complete
returns-in-Err-clause-complete g c lines good configured source trace sink =
    complete_unread _ _ _ c.tell_fault.result _ _ c.in-Err.fault c.in-Err.ensures.err configured source (λ seven. sink (c.tell_fault.ensures.sink.cause seven)) c.tell_fault.ensures.content

pub returns-clause-complete : goal.returns-clause-complete
returns-clause-complete g c lines good configured source trace sink =
    let same : c.compare_lines-status.result.1.source.now ≡ c.trace-1.given.0 = search rules in
    (rw c.new-lines.ensures at c.compare_lines-status.ensures.complete)
    (may_compare _ c.in-Ok.config lines _ _ refl refl good _ _ _ _ sink (λ rose. trace (rw same at rose)))
