use Rattle.std.proofs.Common.{◌≡◌, [], ◌++◌, cond, nat_eq, refl, lit≤, codes, rules}
use Rattle.byteorder.specs.Endian.{little_bytes}
use Rattle.log_layout.specs.Values.{record_head}
use Rattle.log_layout.proofs.Decode.{first_written}
use Rattle.log_layout.proofs.record.write_first_form.Goals as goal
use Rattle.log_layout.proofs.record.write_first_form.Goals.{then-v-eq0, else-v-eq0}

pub returns : goal.returns
returns c =
    let v = c.args.v.now in
    let state : c.if-v-eq0.put_u32 ≡ cond (nat_eq v.keep 0) 2 1 = elim c.if-v-eq0.branch [ then-v-eq0 w ↦ search (rules, w.if-v-eq0.true, w.put_u32-is) | else-v-eq0 w ↦ search (rules, w.if-v-eq0.false, w.put_u32-is) ] in
    let f1 = codes "WOLREC01" in
    let f2 = f1 ++ little_bytes 4 c.if-v-eq0.put_u32 in
    let f3 = f2 ++ little_bytes 4 v.owner in
    let f4 = f3 ++ little_bytes 8 v.version in
    let f5 = f4 ++ little_bytes 8 v.lbn in
    let one = c.put_bytes.ensures [] 512 refl (lit≤ tt) refl in
    let two = c.put_u32.ensures f1 504 refl (lit≤ tt) one in
    let three = c.put_u32-2.ensures f2 500 refl (lit≤ tt) two in
    let four = c.put_u64.ensures f3 496 refl (lit≤ tt) three in
    let five = c.put_u64-2.ensures f4 488 refl (lit≤ tt) four in
    first_written (record_head v) c.if-v-eq0.put_u32 c.put_u32-3.new.b c.requires state (c.put_u32-3.ensures f5 480 refl (lit≤ tt) five)
