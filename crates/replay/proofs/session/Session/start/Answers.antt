use Rattle.replay.proofs.Basics.{◌≡◌, List, length, sym, ap, subst, arith, with_items_is}
use Rattle.replay.proofs.Terms.{SpindlePass, StartsOnce}
use Rattle.replay.proofs.Serving.{starts_first}
use Rattle.replay.proofs.session.Session.start.Goals as goal

pub returns-then-not-self-clause-starts : goal.returns-then-not-self-clause-starts
returns-then-not-self-clause-starts g c =
    let v = c.args.self.now.keepers in
    let ws = c.start_spindles.new.keepers in
    let long : length ws ≡ v.len = (let a = c.start_spindles.ensures.same.count in let b = ap length c.as_mut_slice.ensures.value in let d = v.ok.0 in omega (arith, a, b, d)) in
    subst (λ (l : List SpindlePass). StartsOnce c.args.self.now.started c.args.moment v.items l) (sym (with_items_is v ws long))
    (starts_first c.args.self.now.started c.args.moment v.items ws c.if-not-self.true (rw c.as_mut_slice.ensures.value at c.start_spindles.ensures.started))
