-- Blocks are read ahead.
use Rattle.std.proofs.Common.{◌≡◌, ℕ, ◌≤◌, List, length, take, drop, Option, subst, arith}
use Rattle.std.specs.Prelude.{IfSome}
use Rattle.std.proofs.lemmas.List.{length-take-le}
use Rattle.wol_disk.specs.Disk.{Block, Values, reads}
use Rattle.spin_model.specs.Spun.{disk_of}
use Rattle.log_scan.proofs.ReadAhead.{ahead_read}
use Rattle.log_scan.proofs.ahead.read_ahead.Goals as goal

pub returns-clause-ahead : goal.returns-clause-ahead
returns-clause-ahead g c =
    let count = c.span-count.result in let room = c.args.room.now in let s = c.span-count.ensures in
    let long : length (take count room) ≡ count = length-take-le count room (omega (arith, s.2, c.requires.room)) in
    ahead_read (g.met.D.Disk.sound (disk_of c.args.part.now)) c.args.at count c.read.new.out (drop count room) (omega (arith, s.1, c.requires.size, c.requires.inside))
    (subst (λ (n : ℕ). IfSome (g.D.Disk.state (disk_of c.args.part.now)).values (λ (vs : List (Values Block)). c.read.new.out ≡ take n (drop c.args.at (reads vs)))) long c.in_ok-read.ensures.content)
