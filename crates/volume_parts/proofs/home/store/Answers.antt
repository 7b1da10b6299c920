use Rattle.std.proofs.Common.{◌≡◌, false, true, refl, rules}
use Rattle.volume_parts.proofs.Accesses.{not_written, written}
use Rattle.volume_parts.proofs.home.store.Goals as goal

pub returns-in_err-write : goal.returns-in_err-write
returns-in_err-write g c = let e = c.in_err-write.ensures in
    not_written g.D.Disk.state g.met.D.Disk.sound c.args.part.now c.args.at c.args.from.now c.write.new.self c.from_residual.result (search rules) refl e.err e.passes e.volume

pub returns : goal.returns
returns g c = let e = c.in_ok-write.ensures in let l = c.sync.ensures in
    written g.D.Disk.state g.met.D.Disk.sound c.args.part.now c.args.at c.args.from.now c.write.new.self c.sync.new.self c.sync.result (λ no. let wrong : false ≡ true = no in cc) e.ok e.passes e.volume l.ok l.err l.passes l.volume
