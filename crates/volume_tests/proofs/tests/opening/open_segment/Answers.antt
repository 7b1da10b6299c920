use Rattle.spin_model.specs.Spun.{disk_of}
use Rattle.volume_tests.proofs.Synced.{still_scanned}
use Rattle.volume_tests.proofs.tests.opening.open_segment.Goals as goal

pub adopt-requires-clause-scanned : goal.adopt-requires-clause-scanned
adopt-requires-clause-scanned g c =
    still_scanned (g.D.Disk.state (disk_of c.args.part)).values (g.D.Disk.state (disk_of c.scan.new.part)).values c.in-Ok.found c.in-Ok.ensures.settled c.in-Ok.ensures.scanned
