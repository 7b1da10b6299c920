use Rattle.std.proofs.Common.{◌≡◌, [], length, None, Some, Err, sym, ap, subst, ◌∙◌, arith}
use Rattle.std.proofs.lemmas.List.{length-take-le}
use Rattle.std.proofs.lemmas.Result.{err_from_is_err_and}
use Rattle.wol_model.specs.History.{Operation, worker}
use Rattle.manager.specs.Stands.{Leaves}
use Rattle.manager.proofs.ReadThrough.{rose_through, through_self}
use Rattle.inspection.specs.Faults.{was_told}
use Rattle.inspection.proofs.Digesting.{digested_all, digested_broke, digested_kept, digested_more, digested_none, refused_down, refused_fault, then_only_read, told_nothing, up_now}
use Rattle.inspection.proofs.digest.digest_of.Goals as goal

pub returns-in_err-piece-clause-read : goal.returns-in_err-piece-clause-read
returns-in_err-piece-clause-read g c = through_self g.D.Disk.state g.met.D.Disk.sound c.args.manager.now

pub returns-in_err-piece-clause-stands : goal.returns-in_err-piece-clause-stands
returns-in_err-piece-clause-stands g c b notes n client note k =
    let p = err_from_is_err_and c.from_residual.result c.from_residual.ensures.1 in
    told_nothing g.D.Disk.tells g.D.Disk.state c.args.manager.now c.from_residual.result (p.1 ∙ ap Err (p.2 ∙ c.in_err-piece.ensures.err)) b notes n client note k

pub reading-init : goal.reading-init
reading-init g c = record {
  digested = digested_none g.D.Disk.tells g.D.Disk.state g.met.D.Disk.sound c.args.shared.now c.args.manager.now c.new-hasher.result c.requires.ready c.requires.at c.new-hasher.ensures;
  room = omega (arith, c.in_ok-piece.ensures.size, c.in_ok-piece.piece.ok.0);
}

pub returns-in_err-read-clause-read : goal.returns-in_err-read-clause-read
returns-in_err-read-clause-read g c = then_only_read g.D.Disk.tells g.D.Disk.state g.met.D.Disk.sound c.args.shared.now c.args.manager.now c.reading.manager c.reading.at c.reading.hasher c.requires.up c.reading.invariant.digested c.read.new.self c.read.ensures.read

pub returns-in_err-read-clause-stands : goal.returns-in_err-read-clause-stands
returns-in_err-read-clause-stands g c b notes n client note k =
    let p = err_from_is_err_and c.from_residual-in_err-read.result c.from_residual-in_err-read.ensures.1 in
    let up = up_now g.D.Disk.tells g.D.Disk.state g.met.D.Disk.sound c.args.shared.now c.args.manager.now c.reading.manager c.reading.at c.reading.hasher c.requires.up c.reading.invariant.digested in
    subst (λ (o : Operation). Leaves g.D.Disk.tells g.D.Disk.state c.args.manager.now c.read.new.self o [] worker) (sym (ap was_told (p.1 ∙ ap Err p.2)))
    (digested_broke g.D.Disk.tells g.D.Disk.state g.met.D.Disk.sound c.args.shared.now c.args.manager.now c.reading.manager c.reading.at c.reading.hasher c.requires.up c.reading.invariant.digested c.read.new.self c.read.new.out c.in_err-read.field-0.0
    c.in_err-read.ensures.stands (λ q is. absurd (let down = (c.in_err-read.ensures.down q).0 (ap Err is) in let no : None ≡ Some q = sym up ∙ down in cc))) b notes n client note k

pub returns-in_err-read-clause-cause : goal.returns-in_err-read-clause-cause
returns-in_err-read-clause-cause g c p is =
    let q = err_from_is_err_and c.from_residual-in_err-read.result c.from_residual-in_err-read.ensures.1 in
    let why = refused_fault c.in_err-read.field-0.0 p (cc (q.1, q.2, is)) in
    let at = c.in_err-read.ensures.cause p (ap Err why) in
    (at.0, rose_through g.D.Disk.state g.met.D.Disk.sound c.args.manager.now c.reading.manager c.read.new.self c.reading.invariant.digested.read p at.1)

pub returns-in_err-read-clause-up_still : goal.returns-in_err-read-clause-up_still
returns-in_err-read-clause-up_still g c p is =
    let q = err_from_is_err_and c.from_residual-in_err-read.result c.from_residual-in_err-read.ensures.1 in
    let why = refused_down c.in_err-read.field-0.0 p (cc (q.1, q.2, is)) in
    let up = up_now g.D.Disk.tells g.D.Disk.state g.met.D.Disk.sound c.args.shared.now c.args.manager.now c.reading.manager c.reading.at c.reading.hasher c.requires.up c.reading.invariant.digested in
    let no : None ≡ Some p = sym up ∙ (c.in_err-read.ensures.down p).0 (ap Err why) in cc

pub reading-preserved : goal.reading-preserved
reading-preserved g c =
    let count = c.min-count.result in
    let long : length c.read.new.out ≡ count = c.read.auto.out ∙ length-take-le count c.deref_mut.result.now (omega (arith, c.deref_mut.ensures.len, c.reading.invariant.room)) in
    record {
      digested = digested_more g.D.Disk.tells g.D.Disk.state g.met.D.Disk.sound c.args.shared.now c.args.manager.now c.reading.manager c.reading.at c.reading.hasher c.requires.up c.reading.invariant.digested c.read.new.self count c.feed.new.hasher c.read.new.out
          c.read.ensures.ready c.read.ensures.at c.read.ensures.read c.in_ok-read.ensures.calm c.in_ok-read.ensures.up c.in_ok-read.ensures.stands (omega (arith, c.requires.blocks)) long c.feed.ensures;
      room = c.reading.invariant.room;
    }

pub returns-clause-stands : goal.returns-clause-stands
returns-clause-stands g c = digested_kept g.D.Disk.tells g.D.Disk.state g.met.D.Disk.sound c.args.shared.now c.args.manager.now c.reading.manager c.reading.at c.reading.hasher c.requires.up c.reading.invariant.digested

pub returns-clause-content : goal.returns-clause-content
returns-clause-content g c told b notes k =
    let all = digested_all g.D.Disk.tells g.D.Disk.state g.met.D.Disk.sound c.args.shared.now c.args.manager.now c.reading.manager c.reading.at c.reading.hasher c.requires.up c.reading.invariant.digested (omega (arith, c.requires.blocks, c.reading.invariant.digested.within)) told b notes k in
    c.finalize.ensures _ all
