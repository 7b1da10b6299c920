use Rattle.std.proofs.Common.{arith, ◌≡◌, ◌∙◌, length}
use Rattle.std.proofs.lemmas.List.{drop_all, append-nil}
use Rattle.std.proofs.lemmas.Simd.{put_chunk_is}
use Rattle.msr_trace.proofs.payload.put.Goals as goal

pub returns : goal.returns
returns c =
    let long : length c.args.stamp ≡ 16 = c.fits-stamp.0 in
    put_chunk_is 0 c.args.place.now c.args.stamp (omega arith) ∙ rw (drop_all (length c.args.stamp) c.args.place.now (omega arith)) (append-nil c.args.stamp)
