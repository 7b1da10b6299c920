use Rattle.std.proofs.Common.{◌+◌, sym, subst, arith}
use Rattle.manager_recovery.proofs.ScanAll.{IsUpTo, at_start, parts_more, one_more, refused_here, at_end, names_after}
use Rattle.manager_recovery.proofs.scanning.scan_all.Goals as goal

pub loop-k-init : goal.loop-k-init
loop-k-init g c =
    let o = c.args.opening.now in
    subst (IsUpTo g.D.Disk.tells g.D.Disk.state c.args.shared.now o o 0) (sym c.new-scans.ensures.items) (at_start g.D.Disk.tells g.D.Disk.state g.met.D.Disk.sound c.args.shared.now o c.requires.ready)

pub scan_at-requires-clause-named : goal.scan_at-requires-clause-named
scan_at-requires-clause-named g c = names_after g.D.Disk.state c.args.shared.now c.args.opening.now c.loop-k.opening c.loop-k.invariant.parts c.requires.named

pub returns-in_default-clause-parts : goal.returns-in_default-clause-parts
returns-in_default-clause-parts g c =
    parts_more g.D.Disk.tells g.D.Disk.state g.met.D.Disk.sound c.args.shared.now c.args.opening.now c.loop-k.opening c.scan_at.new.opening c.loop-k.k c.loop-k.scans.items c.scan_at.result c.loop-k.invariant c.scan_at.ensures

pub returns-in-Err-clause-parts : goal.returns-in-Err-clause-parts
returns-in-Err-clause-parts g c =
    parts_more g.D.Disk.tells g.D.Disk.state g.met.D.Disk.sound c.args.shared.now c.args.opening.now c.loop-k.opening c.scan_at.new.opening c.loop-k.k c.loop-k.scans.items c.scan_at.result c.loop-k.invariant c.scan_at.ensures

pub returns-in-Err-clause-err : goal.returns-in-Err-clause-err
returns-in-Err-clause-err g c =
    refused_here g.D.Disk.tells g.D.Disk.state g.met.D.Disk.sound c.args.shared.now c.args.opening.now c.loop-k.opening c.scan_at.new.opening c.loop-k.k c.loop-k.scans.items c.scan_at.result c.loop-k.invariant c.scan_at.ensures
    c.requires.named c.in-Err.refusal c.in-Err.is

pub loop-k-preserved : goal.loop-k-preserved
loop-k-preserved g c =
    subst (IsUpTo g.D.Disk.tells g.D.Disk.state c.args.shared.now c.args.opening.now c.scan_at.new.opening (c.loop-k.k + 1)) (sym c.in-Ok-push.ensures.items)
    (one_more g.D.Disk.tells g.D.Disk.state g.met.D.Disk.sound c.args.shared.now c.args.opening.now c.loop-k.opening c.scan_at.new.opening c.loop-k.k c.loop-k.scans.items c.scan_at.result c.loop-k.invariant c.scan_at.ensures c.in-Ok.scan c.in-Ok.is)

pub returns-clause-ok : goal.returns-clause-ok
returns-clause-ok g c = at_end g.D.Disk.tells g.D.Disk.state g.met.D.Disk.sound c.args.shared.now c.args.opening.now c.loop-k.opening c.loop-k.k c.loop-k.scans.items (omega (arith, c.args.opening.now.owned.ok.0, c.len-k-end.ensures)) c.loop-k.invariant
