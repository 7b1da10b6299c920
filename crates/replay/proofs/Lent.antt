-- Locks and passes that become a floor, and a floor that becomes these.
use Rattle.replay.proofs.Basics.{◌≡◌, List, sym, subst}
use Rattle.replay.proofs.Terms.{Station, ManagerLock, AreWhole, IsFloor, passes_of, AreMoved, IsMoved, Floor}
use Rattle.window_desks.specs.declared.floor.Passes.{Passes}

module _ {D : Type 0} (ls : List (ManagerLock D)) (p : Passes D) (f : Floor D) (locks : f.locks.now ≡ ls) (passes : passes_of f ≡ p) where
  pub floor_lent : AreWhole ls p → IsFloor f
  floor_lent is = subst (λ (q : Passes D). AreWhole f.locks.now q) (sym passes) (subst (λ (ms : List (ManagerLock D)). AreWhole ms p) (sym locks) is)

  pub moved_lent : (ss : List (Station D)) → AreMoved ss ls p → IsMoved ss f
  moved_lent ss m = subst (λ (q : Passes D). AreMoved ss f.locks.now q) (sym passes) (subst (λ (ms : List (ManagerLock D)). AreMoved ss ms p) (sym locks) m)

  pub whole_back : IsFloor f → AreWhole ls p
  whole_back is = subst (λ (ms : List (ManagerLock D)). AreWhole ms p) locks (subst (λ (q : Passes D). AreWhole f.locks.now q) passes is)
