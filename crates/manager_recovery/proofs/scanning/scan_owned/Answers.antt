use Rattle.std.proofs.Common.{sym, subst, arith, ◌+◌, ℕ, List, refl}
use Rattle.wol_disk.specs.Disk.{Block, reads}
use Rattle.spin_model.specs.Spun.{disk_of}
use Rattle.manager_recovery.specs.Owned.{IsIntact, IsFault, owned_of}
use Rattle.manager_recovery.specs.declared.opening.OwnedPart.{OwnedPart}
use Rattle.manager_recovery.proofs.SegmentFaults.{err_refuses, scanned_now, intact_from, fault_from, pos_inside, told_is}
use Rattle.manager_recovery.proofs.scanning.scan_owned.Goals as goal

pub returns-in-Err-clause-err : goal.returns-in-Err-clause-err
returns-in-Err-clause-err g c =
    let o = c.args.owned.now in
    let n : OwnedPart _ = record o { part = c.scan_part.new.part } in
    err_refuses g.D.Disk.tells g.D.Disk.state c.args.id c.args.home o n c.in-Err.fault c.refusal_of.result
    c.refusal_of.ensures.damaged c.refusal_of.ensures.failed c.refusal_of.ensures.no_memory
    (λ t. g.met.D.Disk.told t (disk_of o.part)) (g.met.D.Disk.sound (disk_of o.part)) c.requires.last c.in-Err.ensures.read

pub overflow_add-result : goal.overflow_add-result
overflow_add-result g c =
    let inside = pos_inside _ c.args.id c.args.home c.in-Some.pos c.in-Ok.scan c.in-Ok.ensures.read.shape c.in-Some.ensures in
    omega (arith, inside, c.from.ensures, c.requires.last)

pub returns-in-None-clause-scanned : goal.returns-in-None-clause-scanned
returns-in-None-clause-scanned g c =
    let o = c.args.owned.now in
    let n : OwnedPart _ = record o { part = c.scan_part.new.part } in
    scanned_now g.D.Disk.state c.args.id c.args.home o n c.in-Ok.scan c.in-Ok.ensures.read c.in-None.ensures

pub returns-in-None-clause-intact : goal.returns-in-None-clause-intact
returns-in-None-clause-intact g c tells =
    let o = c.args.owned.now in
    let v = g.met.D.Disk.told tells (disk_of o.part) in
    subst (λ (bs : List Block). IsIntact c.args.id c.args.home (record { logger = o.logger; index = o.index; first = o.first_block; blocks = bs })) (sym (told_is (g.D.Disk.state (disk_of o.part)) v.0 v.1))
    (intact_from (reads v.0) o.logger o.index o.first_block c.args.id c.args.home c.in-Ok.scan (c.in-Ok.ensures.read.scanned v.0 v.1) c.in-None.ensures)

pub returns-in-Some-clause-err : goal.returns-in-Some-clause-err
returns-in-Some-clause-err g c = (
  refl,
  λ tells.
      let o = c.args.owned.now in
      let v = g.met.D.Disk.told tells (disk_of o.part) in
      let found = fault_from g.D.Disk.state c.args.id c.args.home o v.0 c.in-Ok.scan c.in-Some.pos c.ranges.id.fits v.1 c.requires.head (c.in-Ok.ensures.read.scanned v.0 v.1) c.in-Some.ensures in
      subst (λ (p : ℕ). IsFault c.args.id c.args.home (owned_of g.D.Disk.state o) (o.first_block + p)) (sym c.from.ensures) found,
)
