use Rattle.std.proofs.Common.{arith, length}
use Rattle.nbd_session.proofs.RequestAnswers.{payload_fits}
use Rattle.nbd_session.proofs.answer.admit.Goals as goal

pub take_data-requires : goal.take_data-requires
take_data-requires g c =
    let fits = payload_fits (g.V.Volume.home c.args.volume.now) c.args.header.now (length c.args.bytes.now) c.requires.known c.requires.bytes in
    omega (arith, fits, c.payload.ensures)
