use Rattle.rack.proofs.ImagesSent.{none_named}
use Rattle.bay_tests.proofs.tests.racks.open_and_close.Goals as goal

pub close_all-spindles-requires-clause-rack : goal.close_all-spindles-requires-clause-rack
close_all-spindles-requires-clause-rack g c =
    let r = c.in-Ok.ensures.rack in
    record { out = r.out; locks = r.locks; keepers = r.keepers; stations = r.stations; rising = r.rising; bases = r.bases; rest = r.rest; foreign = r.foreign; accesses = r.accesses }

pub returns : goal.returns
returns g c = c.close_all-spindles.ensures.home.again _ (none_named c.args.config.now (g.B.Bay.state c.args.bay.now) c.requires.home) c.in-Ok.ensures.out
