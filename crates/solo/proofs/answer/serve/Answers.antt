use Rattle.std.proofs.Common.{◌∷◌, [], ◌∙◌, sym, ap, subst}
use Rattle.std.specs.Io.KnownBytes.{Appends}
use Rattle.wol_io.specs.Streams.{AppendsFront}
use Rattle.solo.specs.Requests.{request_of}
use Rattle.solo.specs.Served.{content_of}
use Rattle.solo.proofs.Answering.{answered_read, left_in_sink, left_out, write_served}
use Rattle.solo.proofs.Marks.{read_content}
use Rattle.solo.proofs.Stored.{on_ok, on_err, match_ok, marks_read}
use Rattle.solo.proofs.answer.serve.Goals as goal

pub returns-then-is_err-clause-content : goal.returns-then-is_err-clause-content
returns-then-is_err-clause-content g c =
    let r = request_of c.args.request.now in
    let (next, answered, cuts) = left_out r (r ∷ []) (g.D.Disk.state c.args.part.now).values (g.D.Disk.state c.read.new.self).values (g.K.Sink.taken c.args.out.now) c.requires.settled c.read.ensures.values in
    ([], r, next, answered, cuts)

pub returns-in_default-clause-content : goal.returns-in_default-clause-content
returns-in_default-clause-content g c =
    let r = request_of c.args.request.now in
    let (next, answered, cuts) = left_out r [] (g.D.Disk.state c.args.part.now).values (g.D.Disk.state c.read.new.self).values (g.K.Sink.taken c.args.out.now) c.requires.settled c.read.ensures.values in
    ([], r, next, c.in-Read.is, answered, cuts)

pub returns-then-is_err-2-clause-content : goal.returns-then-is_err-2-clause-content
returns-then-is_err-2-clause-content g c =
    let r = request_of c.args.request.now in
    let values = (g.D.Disk.state c.args.part.now).values in
    let marks = marks_read r c.read.new.out values c.mark.result _ c.in-Read.is c.requires.count (on_ok c.read.result _ c.if-is_err.ensures.value c.read.ensures.content) c.mark.ensures in
    left_in_sink r c.mark.result values (g.D.Disk.state c.read.new.self).values (g.K.Sink.taken c.args.out.now) (g.K.Sink.taken c.write.new.self) c.requires.settled c.read.ensures.values c.in-Read.is marks
    (subst (AppendsFront (g.K.Sink.taken c.args.out.now) (g.K.Sink.taken c.write.new.self)) (c.as_bytes.ensures.value ∙ c.in-Ok.ensures) (on_err c.write.result _ _ c.if-is_err-2.ensures.value c.write.ensures.content))

pub returns-else-is_err-2-clause-values : goal.returns-else-is_err-2-clause-values
returns-else-is_err-2-clause-values g c = ap content_of c.read.ensures.values ∙ sym (read_content (request_of c.args.request.now) (content_of (g.D.Disk.state c.args.part.now).values) c.in-Read.is)

pub returns-else-is_err-2-clause-content : goal.returns-else-is_err-2-clause-content
returns-else-is_err-2-clause-content g c =
    let r = request_of c.args.request.now in
    let values = (g.D.Disk.state c.args.part.now).values in
    let marks = marks_read r c.read.new.out values c.mark.result _ c.in-Read.is c.requires.count (on_ok c.read.result _ c.if-is_err.ensures.value c.read.ensures.content) c.mark.ensures in
    answered_read (content_of values) r c.mark.result (g.K.Sink.taken c.args.out.now) (g.K.Sink.taken c.write.new.self) marks
    (subst (Appends (g.K.Sink.taken c.args.out.now) (g.K.Sink.taken c.write.new.self)) (c.as_bytes.ensures.value ∙ c.in-Ok.ensures) (match_ok c.write.result _ _ c.if-is_err-2.ensures.value c.write.ensures.content))

pub returns-in-Write-clause-content : goal.returns-in-Write-clause-content
returns-in-Write-clause-content g c =
    write_served _ (request_of c.args.request.now) c.write_blocks.result (g.K.Sink.taken c.args.out.now) _ c.in-Write.is c.write_blocks.ensures.only c.write_blocks.ensures.images
