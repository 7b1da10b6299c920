use Rattle.std.proofs.Common.{Ok, ap, ◌∙◌}
use Rattle.nbd_doors.specs.Doors.{ServesClient}
use Rattle.nbd_doors.proofs.Clients.{failed, not_agreed, shaken}
use Rattle.nbd_doors.proofs.serve.serve_client.Goals as goal

pub returns-in-Ok-Agreed-clause-served : goal.returns-in-Ok-Agreed-clause-served
returns-in-Ok-Agreed-clause-served g c =
    let n = c.shake.new in
    ServesClient.served (record { input = n.input; output = n.out }) c.serve-ended.new.volume c.serve-ended.result
    (shaken _ _ _ _ _ _ _ _ _ c.home.ensures (c.in-Ok-Agreed.is ∙ ap Ok c.in-Ok-Agreed.field-0-is) c.shake.ensures.shake c.shake.ensures.faults)
    (record { session = c.serve-ended.ensures.session; faults = c.serve-ended.ensures.faults })

pub returns-in-Ok-Unagreed-clause-served : goal.returns-in-Ok-Unagreed-clause-served
returns-in-Ok-Unagreed-clause-served g c =
    not_agreed _ _ _ _ _ _ _ _ _ _ _ c.in-Ok-Unagreed._why
    (shaken _ _ _ _ _ _ _ _ _ c.home.ensures (c.in-Ok-Unagreed.is ∙ ap Ok c.in-Ok-Unagreed.field-0-is) c.shake.ensures.shake c.shake.ensures.faults)

pub returns-in-Err-clause-served : goal.returns-in-Err-clause-served
returns-in-Err-clause-served g c =
    failed _ _ _ _ _ _ _ _ _ _ _ c.in-Err._fault (shaken _ _ _ _ _ _ _ _ _ c.home.ensures c.in-Err.is c.shake.ensures.shake c.shake.ensures.faults)
