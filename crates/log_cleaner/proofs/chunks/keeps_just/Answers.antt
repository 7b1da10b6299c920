use Rattle.std.proofs.Common.{arith}
use Rattle.std.proofs.lemmas.Bool.{leb-true, le-leb}
use Rattle.log_cleaner.proofs.Finding.{just_kept, just_reaches}
use Rattle.log_cleaner.proofs.chunks.keeps_just.Goals as goal

pub returns-then-record-lbn : goal.returns-then-record-lbn
returns-then-record-lbn c =
    let t = c.loop-place-test.false in let p = c.loop-place.auto.place-end in
    let a = c.from-then-record-lbn.ensures in let b = c.from-then-record-lbn-2.ensures in (
      λ le. (let l = leb-true _ _ le in
          just_kept c.args.record.now.lbn c.args.record.now.count c.args.record.now.keep c.args.lbn c.args.count c.loop-place.place c.requires.kept (omega (arith, t, p)) c.loop-place.invariant c.if-record-lbn.true (omega (arith, l, a, b))),
      λ just. (let r = just_reaches c.args.record.now.lbn c.args.record.now.count c.args.record.now.keep c.args.lbn c.args.count c.requires.kept c.requires.count.0 just in
          let h = r.1 in le-leb _ _ (omega (arith, h, a, b))),
    )
