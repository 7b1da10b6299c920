use Rattle.std.proofs.Common.{ℕ, sym, ◌∙◌, ap}
use Rattle.wol_disk.specs.declared.disk.Failed.{Failed}
use Rattle.nbd_session.specs.Errors.{known_error}
use Rattle.nbd_session.proofs.Served.{refused_so}
use Rattle.nbd_session.proofs.answer.take_and_ask.Goals as goal

pub returns-in-Some-clause-content : goal.returns-in-Some-clause-content
returns-in-Some-clause-content g c =
    refused_so Failed g.V.Volume.Turned (g.V.Volume.home c.args.volume.now) (g.V.Volume.most c.args.volume.now) c.args.header.now c.args.volume.now (g.S.Source.left c.args.input.now) (g.S.Source.left c.refuse.new.input) _ c.in-Some.error c.refuse.result
    (sym (c.in-Some.ensures ∙ ap (λ (n : ℕ). known_error n c.args.header.now) c.home.ensures)) c.refuse.ensures.content
