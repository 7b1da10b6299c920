use Rattle.std.proofs.Common.{[], ◌++◌, refl, lit≤, codes}
use Rattle.byteorder.specs.Endian.{little_bytes}
use Rattle.log_layout.specs.Values.{record_head}
use Rattle.log_layout.proofs.Decode.{second_written}
use Rattle.log_layout.proofs.record.write_second_form.Goals as goal

pub returns : goal.returns
returns c =
    let v = c.args.v.now in
    let f1 = codes "WOLREC02" in
    let f2 = f1 ++ little_bytes 4 0 in
    let f3 = f2 ++ little_bytes 4 v.owner in
    let f4 = f3 ++ little_bytes 8 v.version in
    let f5 = f4 ++ little_bytes 8 v.lbn in
    let f6 = f5 ++ little_bytes 4 v.count in
    let one = c.put_bytes.ensures [] 512 refl (lit≤ tt) refl in
    let two = c.put_u32.ensures f1 504 refl (lit≤ tt) one in
    let three = c.put_u32-2.ensures f2 500 refl (lit≤ tt) two in
    let four = c.put_u64.ensures f3 496 refl (lit≤ tt) three in
    let five = c.put_u64-2.ensures f4 488 refl (lit≤ tt) four in
    let six = c.put_u32-3.ensures f5 480 refl (lit≤ tt) five in
    second_written (record_head v) c.put_u128.new.b c.requires (c.put_u128.ensures f6 476 refl (lit≤ tt) six)
