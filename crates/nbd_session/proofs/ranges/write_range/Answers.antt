use Rattle.std.proofs.Common.{◌≡◌, length, arith}
use Rattle.nbd_session.proofs.Piecewise.{whole_chunks, whole_of, written_bytes}
use Rattle.nbd_session.proofs.ranges.write_range.Goals as goal

pub write_blocks-requires-clause-whole : goal.write_blocks-requires-clause-whole
write_blocks-requires-clause-whole g c = whole_of c.args.bytes.now c.as_chunks.result.0.now c.as_chunks.ensures.front

pub returns-clause-written : goal.returns-clause-written
returns-clause-written g c =
    let bs = c.as_chunks.result.0.now in
    let n : length bs ≡ c.args.count = omega (arith, c.as_chunks.ensures.front_len, c.requires.bytes) in
    written_bytes g.V.Volume.Turned (g.V.Volume.most c.args.volume.now) c.args.at c.args.count c.args.volume.now c.write_blocks.new.volume bs c.args.bytes.now c.write_blocks.result n (whole_chunks c.args.bytes.now c.args.count bs c.requires.bytes c.as_chunks.ensures.front)
    c.write_blocks.ensures.written
