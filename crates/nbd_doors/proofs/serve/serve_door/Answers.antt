use Rattle.std.proofs.Common.{◌≤◌, ◌^◌, ℕ, sym, subst}
use Rattle.nbd_session.proofs.Stays.{stays, stays_on}
use Rattle.nbd_doors.specs.Doors.{AreServed}
use Rattle.nbd_doors.proofs.Clients.{next_at, over_so}
use Rattle.nbd_doors.proofs.serve.serve_door.Goals as goal

pub clients-init : goal.clients-init
clients-init g c = record { stays = stays c.args.volume.now c.requires.ready; served = AreServed.none }

pub serve_next-requires-clause-ready : goal.serve_next-requires-clause-ready
serve_next-requires-clause-ready g c = c.clients.invariant.stays.ready

pub serve_next-requires-clause-small : goal.serve_next-requires-clause-small
serve_next-requires-clause-small g c = subst (λ (n : ℕ). n ≤ 2 ^ 32) (sym c.clients.invariant.stays.same_home) c.requires.small

pub returns-then-not-serve_next-clause-stays : goal.returns-then-not-serve_next-clause-stays
returns-then-not-serve_next-clause-stays g c = stays_on _ _ _ c.clients.invariant.stays c.serve_next.ensures.stays

pub returns-then-not-serve_next-clause-served : goal.returns-then-not-serve_next-clause-served
returns-then-not-serve_next-clause-served g c =
    over_so _ _ _ _ _ _ _ _ _ _ _ _ _ _ _ c.clients.invariant.served c.if-not-serve_next.ensures.served

pub clients-preserved : goal.clients-preserved
clients-preserved g c = record {
  stays = stays_on _ _ _ c.clients.invariant.stays c.serve_next.ensures.stays;
  served = AreServed.next c.clients.door c.serve_next.new.door c.clients.volume c.serve_next.new.volume c.clients.invariant.served
      (next_at _ _ _ _ _ _ g.G.Door.Gave c.clients.door c.clients.volume c.serve_next.new.door c.serve_next.new.volume c.clients.invariant.stays.same_home c.clients.invariant.stays.same_most c.if-not-serve_next.ensures.served);
}
