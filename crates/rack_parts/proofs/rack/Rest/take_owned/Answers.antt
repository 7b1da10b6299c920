use Rattle.rack_parts.proofs.Basics.{◌≡◌, ◌+◌, List, Some, length, refl, sym, subst, arith, slice_get, slice_get_read}
use Rattle.rack_parts.proofs.Terms.{OwnedPart, owned_in}
use Rattle.rack_parts.proofs.OwnedTaken.{AreOwnedTo, owned_to_none, may_take_of, owned_to_next, owned_to_all, sum_front, total_next}
use Rattle.rack_parts.proofs.rack.Rest.take_owned.Goals as goal

pub loop-logger-init : goal.loop-logger-init
loop-logger-init g c =
    record {
      taken = subst (λ (l : List (OwnedPart g.row.D.Denot)). AreOwnedTo c.args.config.now c.args.said.now c.args.id c.args.self.now c.args.self.now l 0) (sym c.in_ok-owned.ensures.items) (owned_to_none c.args.config.now c.args.said.now c.args.id c.args.self.now);
      room = omega (arith, c.count_owned-count.ensures, c.in_ok-owned.ensures.capacity);
    }

pub take_owned_of-requires-clause-here : goal.take_owned_of-requires-clause-here
take_owned_of-requires-clause-here g c =
    let said = c.args.said.now in let n = c.loop-logger.logger in let o = c.index-said-logger.result in let new = c.loop-logger.self in
    let is : slice_get said n ≡ Some o = slice_get_read said (length said) n o refl (omega arith) c.index-said-logger.is in
    may_take_of c.args.config.now said c.args.id c.args.self.now new new c.loop-logger.owned.items n c.loop-logger.invariant.taken o is c.requires.here

pub take_owned_of-requires-clause-room : goal.take_owned_of-requires-clause-room
take_owned_of-requires-clause-room g c =
    let said = c.args.said.now in let n = c.loop-logger.logger in let o = c.index-said-logger.result in let v = c.args.id in
    let is : slice_get said n ≡ Some o = slice_get_read said (length said) n o refl (omega arith) c.index-said-logger.is in
    let front = sum_front (owned_in v) said (n + 1) in let next = total_next v said n o is in
    omega (arith, front, next, c.loop-logger.invariant.taken.total, c.loop-logger.invariant.room, c.loop-logger.owned.ok.0)

pub loop-logger-preserved : goal.loop-logger-preserved
loop-logger-preserved g c =
    let said = c.args.said.now in let n = c.loop-logger.logger in let o = c.index-said-logger.result in let v = c.args.id in let config = c.args.config.now in
    let old = c.args.self.now in let new = c.loop-logger.self in let newer = c.take_owned_of.new.self in let t = c.take_owned_of.ensures.taken in
    let is : slice_get said n ≡ Some o = slice_get_read said (length said) n o refl (omega arith) c.index-said-logger.is in
    record {
      taken = subst (λ (l : List (OwnedPart g.row.D.Denot)). AreOwnedTo config said v old newer l (n + 1)) (sym t.1)
          (owned_to_next config said v old new newer c.loop-logger.owned.items n c.loop-logger.invariant.taken o is t.0 t.2 t.3);
      room = omega (arith, c.take_owned_of.ensures.room, c.loop-logger.invariant.room);
    }

pub returns-clause-taken : goal.returns-clause-taken
returns-clause-taken g c =
    owned_to_all c.args.config.now c.args.said.now c.args.id c.args.self.now c.loop-logger.self c.loop-logger.owned.items c.loop-logger.logger c.loop-logger.invariant.taken (omega arith)
