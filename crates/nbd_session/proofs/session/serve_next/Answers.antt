use Rattle.nbd_session.proofs.Served.{at_fault_first}
use Rattle.nbd_session.proofs.session.serve_next.Goals as goal

pub returns-in-Err-clause-content : goal.returns-in-Err-clause-content
returns-in-Err-clause-content g c =
    at_fault_first g.V.Volume.Turned (g.V.Volume.home c.args.volume.now) (g.V.Volume.most c.args.volume.now) c.args.request c.args.volume.now (g.S.Source.left c.args.input.now) (g.S.Source.left c.next_header.new.input) (g.K.Sink.taken c.args.out.now) c.in-Err.ensures.content
