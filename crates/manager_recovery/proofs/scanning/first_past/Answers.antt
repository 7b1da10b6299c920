use Rattle.std.proofs.Common.{get_or, refl, arith}
use Rattle.std.proofs.lemmas.Option.{slice_get-get_or}
use Rattle.log_scan.specs.declared.Found.{Found}
use Rattle.manager_recovery.proofs.scanning.first_past.Goals as goal

pub returns-then-one-from : goal.returns-then-one-from
returns-then-one-from c =
    let nothing : Found = record { pos = 0; head = record { form = 0; keep = 0; owner = 0; version = 0; lbn = 0; count = 0 } } in
    let f : Found = get_or c.args.found.now c.loop-one.one-index nothing in
    (c.loop-one.one-index, f, slice_get-get_or c.args.found.now c.loop-one.one-index nothing c.loop-one-test.true, refl, omega arith, c.loop-one.invariant)
