use Rattle.std.proofs.Common.{◌≡◌, ℕ, List, [], length, refl, sym, subst, ◌∙◌, arith}
use Rattle.std.proofs.lemmas.Result.{err_from_is_err_and}
use Rattle.wol_io.proofs.Appending.{appends_none, keeps_same}
use Rattle.inspection.specs.Findings.{HasRoom}
use Rattle.inspection.specs.declared.beside.Finding.{Finding}
use Rattle.inspection.proofs.AsFound.{nothing_found}
use Rattle.inspection.proofs.AsPrinted.{GoesOn, ahead_so, few_so, goes_so, none_yet, printed_all, same_so, still_told}
use Rattle.inspection.proofs.SameRacks.{can_look_still}
use Rattle.inspection.proofs.calls.print_volumes.Given as given
use Rattle.inspection.proofs.calls.print_volumes.Goals.{In_ok-trouble}
use Rattle.inspection.proofs.calls.print_volumes.Goals as goal

-- the lines of the next volume
next : (g : given.Over) (c : In_ok-trouble g) → GoesOn g.D.Disk.tells g.D.Disk.state c.args.config.now c.args.rack.now c.loop-number.rack c.loop-number.findings c.loop-number.found c.loop-number.number c.loop-number.first (g.K.Sink.taken c.args.out.now) (g.K.Sink.taken c.loop-number.out)
    c.append_next.new.rack c.append_next.new.findings c.append_next.new.found c.in_ok-trouble.trouble c.append_next.new.out.items c.args.asked
next g c = goes_so _ _ _ _ _ _ _ _ _ _ _ _ _ _ c.in_ok-trouble.trouble _ (omega arith) c.args.asked c.loop-number.invariant.printed c.in_ok-trouble.ensures

pub returns-in_err-room : goal.returns-in_err-room
returns-in_err-room g c =
    let p = err_from_is_err_and c.from_residual.result c.from_residual.ensures.1 in
    rw (p.1, p.2) (nothing_found _ _ _ _ _ _ _ _ refl)

pub loop-number-init : goal.loop-number-init
loop-number-init g c =
    let v = c.args.rack.now.stations in
    let count : c.len.result ≡ length v.items = (let n = c.len.ensures in let most = v.ok.0 in omega arith) in
    let room = subst (λ (fs : List Finding). HasRoom c.args.asked c.len.result fs) (sym c.as_mut_slice-findings.ensures.value) c.in_ok-room.ensures in
    record {
      empty = c.new-text.ensures.items;
      calm = refl;
      printed = none_yet _ _ _ c.args.asked _ _ _ _ (subst (λ (n : ℕ). HasRoom c.args.asked n c.as_mut_slice-findings.result.now) count room) (appends_none _ _ (keeps_same _));
    }

pub append_next-requires-clause-rack : goal.append_next-requires-clause-rack
append_next-requires-clause-rack g c κs inside =
    can_look_still _ _ _ (same_so _ _ _ _ _ _ _ _ _ _ _ c.args.asked c.loop-number.invariant.printed) c.requires.rack

pub append_next-requires-clause-ahead : goal.append_next-requires-clause-ahead
append_next-requires-clause-ahead g c κs inside = ahead_so _ _ _ _ _ _ _ _ _ _ _ c.args.asked c.loop-number.invariant.printed

pub returns-in_err-trouble : goal.returns-in_err-trouble
returns-in_err-trouble g c =
    let p = err_from_is_err_and c.from_residual-in_err-trouble.result c.from_residual-in_err-trouble.ensures.1 in
    let s = still_told _ _ _ _ _ _ _ _ _ _ _ _ _ _ c.args.asked c.loop-number.invariant.printed _ _ c.append_next.ensures in
    rw (p.1, p.2) (record { same = s.same; later = omega (arith, c.loop-number.invariant.calm); told = s.told; are = s.are; prints = (c.loop-number.invariant.calm, s.prints) })

pub returns-in_err-write : goal.returns-in_err-write
returns-in_err-write g c =
    let p = err_from_is_err_and c.from_residual-in_err-write.result c.from_residual-in_err-write.ensures.1 in
    let n = next g (goal.at.returns-in_err-write g c).In_ok-trouble in
    rw (p.1, p.2) (record {
      same = n.same;
      later = omega (arith, c.loop-number.invariant.calm, c.in_err-write.ensures.later);
      told = n.told;
      are = n.are;
      prints = (
        rw c.loop-number.invariant.calm at c.in_err-write.ensures.cause,
        n.front _ (rw c.deref.ensures.value at c.in_err-write.ensures.content),
      );
    })

pub loop-number-preserved : goal.loop-number-preserved
loop-number-preserved g c =
    let n = next g (goal.at.loop-number-preserved g c).In_ok-trouble in
    record {
      empty = c.clear.ensures.items;
      calm = c.in_ok-write.ensures.calm ∙ c.loop-number.invariant.calm;
      printed = rw c.first_of-first.ensures (n.next _ (rw c.deref.ensures.value at c.in_ok-write.ensures.content));
    }

pub returns : goal.returns
returns g c =
    let all : c.loop-number.number ≡ length c.args.config.now.volumes.items = (let a = c.loop-number.auto.number-end in let b = c.loop-number-test.false in let n = c.len-number-end.ensures in let o = c.args.config.now.volumes.ok.0 in let few = few_so _ _ _ _ _ _ _ _ _ _ _ c.args.asked c.loop-number.invariant.printed in omega arith) in
    printed_all _ _ _ _ _ _ _ _ _ _ _ c.args.asked c.loop-number.invariant.printed all _ _ c.loop-number.invariant.calm
