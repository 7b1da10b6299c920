use Rattle.std.proofs.Common.{ℕ, Some, ◌∙◌, ap, subst}
use Rattle.wol_disk.specs.Disk.{reads}
use Rattle.wol_model.specs.Log.{IsLog}
use Rattle.spin_model.specs.Spun.{disk_of}
use Rattle.log_scan.specs.Adopted.{count_kept}
use Rattle.log_scan.proofs.Adopting.{free_in_all, scan_agrees}
use Rattle.log_scan.proofs.adopted.adopt.Goals as goal

pub new-requires-clause-idle : goal.new-requires-clause-idle
new-requires-clause-idle g c = free_in_all (g.D.Disk.state (disk_of c.args.part)).values c.args.scan.now c.in-None.is c.requires.scanned

pub returns-in-Some-clause-holds : goal.returns-in-Some-clause-holds
returns-in-Some-clause-holds g c vs is rs log =
    let w = c.requires.scanned vs is in
    let own : IsLog (reads vs) c.in-Some.owner rs = subst (λ (owner : ℕ). IsLog (reads vs) owner rs) c.restored.ensures.owner log in
    let agrees = scan_agrees (reads vs) c.args.scan.now c.in-Some.owner rs c.in-Some.is w.1 own in
    c.restored.ensures.holds rs (record { bs = reads vs; settled = is ∙ ap Some w.0; log = own }) agrees.place (c.count_valid-valid.ensures ∙ ap count_kept c.deref.ensures.value ∙ agrees.valid)
