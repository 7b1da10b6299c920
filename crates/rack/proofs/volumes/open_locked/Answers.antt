use Rattle.rack.proofs.Basics.{[], sym, ap, ◌∙◌, subst, arith}
use Rattle.rack.proofs.Terms.{Stands, Opens, base_at_opening}
use contract.BorrowLft.{⊑_meet, ⊑_static}
use Rattle.rack.proofs.volumes.open_locked.Goals as goal

pub new-requires : goal.new-requires
new-requires g c κs within =
    let opens = c.in-Ok.ensures.ok in
    let tells = g.D.Disk.tells in
    let state = g.D.Disk.state in
    let m = c.in-Ok.manager in
    (search (⊑_meet, ⊑_static, within) depth 200 fits 100000, (⊑_static κs.1.0, ((omega arith, omega arith), subst (λ b. Stands tells state m b []) (opens.is_base ∙ ap (λ o. base_at_opening tells state o m) c.requires.1.1.0) opens.stands)))

pub returns-in-Ok-new-clause-locked : goal.returns-in-Ok-new-clause-locked
returns-in-Ok-new-clause-locked g c =
    let tells = g.D.Disk.tells in
    let state = g.D.Disk.state in
    let m = c.in-Ok.manager in
    let opens : Opens tells state c.args.shared.now g.before m = subst (λ o. Opens tells state c.args.shared.now o m) c.requires.1.1.0 c.in-Ok.ensures.ok in
    let new = c.in-Ok-new.ensures in
    let n = new.count in
    let v = c.in-Ok-new.locked.1.ok.0 in
    record { manager = m; opens = opens; base = new.lock.0 ∙ sym opens.is_base; passes = new.lock.1; count = omega (arith, n, v); new = new.passes }
