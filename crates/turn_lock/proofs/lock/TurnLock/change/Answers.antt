use Rattle.std.proofs.Common.{refl, ℕ, List, ◌≡◌, Option, Some, None, ap, sym, ◌∙◌, ◌∷◌, [], get_or}
use Rattle.atomic_table.specs.Table.{rest}
use Rattle.turn_lock.specs.Passes.{pass_lock, pass_number, pass_seen, pass_mine, lock_id, lock_passes}
use Rattle.turn_lock.proofs.lock.TurnLock.change.Goals as goal

pub slot_mut-requires : goal.slot_mut-requires
unfolding pass_lock pass_number pass_seen pass_mine lock_id lock_passes
slot_mut-requires g c = let t = c.requires.turn in (ap (λ k. k.table) c.requires.own, (Some t.0, t.1.1 ∙ ap (λ r. (0, Some t.0) ∷ rest r) (sym t.1.1)))

pub returns-clause-worked : goal.returns-clause-worked
unfolding pass_lock pass_number pass_seen pass_mine lock_id lock_passes
returns-clause-worked g c y at =
    let same : Some y ≡ c.slot_mut.result.now = ap (λ (l : List (ℕ × Option g.row.T.Denot)). (get_or l 0 (0, Some y)).1) (sym at.1 ∙ c.slot_mut.ensures.value) in
    let none-left = ap rest at.1 in (
      c.work.new.arg2,
      record { shown = _; shows = (let e : Some y ≡ Some c.in-Some.value = same ∙ c.in-Some.is in cc); left = _; met = c.work.ensures; leaves = refl },
      (at.0, ap (λ l. (0, Some c.work.new.arg2) ∷ l) none-left),
    )
