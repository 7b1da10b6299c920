use Rattle.rack_parts.proofs.Basics.{◌≡◌, ◌<◌, ◌≤◌, ◌+◌, ◌-◌, ℕ, List, [], ◌∷◌, ◌++◌, length, reverse, get_or, Some, refl, sym, ap, ◌∙◌, subst, arith, All, slice_get, vec_capacity}
use Rattle.rack_parts.proofs.Basics.{length_push, get_or-reverse, length-reverse, same_Some, slice_get-get_or, slice_get_within}
use Rattle.rack_parts.proofs.Terms.{TurnLock, PassOf, SpindleView, Spindle, SpindleBase, CanCloseSpindles, HasSpindlePasses, StandsClosed, KeepsOtherRows, spindle_pass}
use Rattle.rack_parts.proofs.Members.{all_front, all_last, front_all, pop_front}
use Rattle.rack_parts.proofs.SpindlesClosed.{same_count, next_passes, others_may, rows_same, rows_then, made_in, one_more_closed}
use Rattle.rack_parts.proofs.rack.Rest.close_spindles.Goals as goal

pub loop-lock-init : goal.loop-lock-init
loop-lock-init g c = record {
  front = front_all c.args.locks.items;
  keepers_front = front_all c.args.keepers.items;
  left = c.requires.locks;
  count = omega (arith, ap length c.requires.empty);
  closed = λ k f p d from at_lock. absurd (let below = slice_get_within c.args.locks.items k f at_lock in omega (arith, below, from));
  kept = λ v k less. refl;
  images = refl;
  rows = rows_same c.args.self.now;
}

pub close_spindle-spindle-requires : goal.close_spindle-spindle-requires
close_spindle-spindle-requires g c =
    let can : CanCloseSpindles (c.pop.new.self.items ++ c.in-Some.lock ∷ []) (c.pop-in-Some.new.self.items ++ c.in-Some-Some.keeper ∷ []) c.loop-lock.self =
    subst (λ (ls : List (TurnLock Spindle SpindleBase)). CanCloseSpindles ls (c.pop-in-Some.new.self.items ++ c.in-Some-Some.keeper ∷ []) c.loop-lock.self) c.in-Some.ensures.items
    (subst (λ (ks : List (PassOf Spindle SpindleBase)). CanCloseSpindles c.loop-lock.locks.items ks c.loop-lock.self) c.in-Some-Some.ensures.items c.loop-lock.invariant.left) in
    let x = next_passes c.pop.new.self.items c.in-Some.lock c.pop-in-Some.new.self.items c.in-Some-Some.keeper c.loop-lock.self can in
    let number : length c.pop.new.self.items ≡ c.len.result = omega (arith, c.len.ensures, c.pop.new.self.ok.0) in
    let y : HasSpindlePasses c.loop-lock.self c.len.result c.in-Some.lock c.in-Some-Some.keeper = subst (λ (n : ℕ). HasSpindlePasses c.loop-lock.self n c.in-Some.lock c.in-Some-Some.keeper) number x in
    let room = all_last (λ row. (row.items ≡ []) × (length c.loop-lock.self.passes.items + 1 ≤ vec_capacity row)) c.pop-in-Some-2.new.self.items c.in-Some-Some.room
    (subst (λ l. All (λ row. (row.items ≡ []) × (length c.loop-lock.self.passes.items + 1 ≤ vec_capacity row)) l) c.in-Some-Some.ensures'.items c.loop-lock.invariant.left.rooms) in
    record { passes = record { count = y.count; each = y.each; keeper_ = y.keeper_; accesses = y.accesses; settled = y.settled }; empty = room.0; room = room.1 }

pub loop-lock-preserved : goal.loop-lock-preserved
loop-lock-preserved g c =
    let can : CanCloseSpindles (c.pop.new.self.items ++ c.in-Some.lock ∷ []) (c.pop-in-Some.new.self.items ++ c.in-Some-Some.keeper ∷ []) c.loop-lock.self =
    subst (λ (ls : List (TurnLock Spindle SpindleBase)). CanCloseSpindles ls (c.pop-in-Some.new.self.items ++ c.in-Some-Some.keeper ∷ []) c.loop-lock.self) c.in-Some.ensures.items
    (subst (λ (ks : List (PassOf Spindle SpindleBase)). CanCloseSpindles c.loop-lock.locks.items ks c.loop-lock.self) c.in-Some-Some.ensures.items c.loop-lock.invariant.left) in
    let counts : length c.pop-in-Some.new.self.items ≡ length c.pop.new.self.items = same_count c.pop.new.self.items c.in-Some.lock c.pop-in-Some.new.self.items c.in-Some-Some.keeper c.loop-lock.self can in
    let from_locks = pop_front c.loop-lock.locks.items c.pop.new.self.items c.args.locks.items c.in-Some.lock c.in-Some.ensures.items c.loop-lock.invariant.front in
    let from_keepers = pop_front c.loop-lock.keepers.items c.pop-in-Some.new.self.items c.args.keepers.items c.in-Some-Some.keeper c.in-Some-Some.ensures.items c.loop-lock.invariant.keepers_front in
    let spindles : c.close_spindle-spindle.new.self.rooms.spindles.items ≡ c.pop-in-Some-2.new.self.items = ap (λ r. r.spindles.items) c.close_spindle-spindle.ensures.rooms in
    let closed : c.close_spindle-spindle.new.self.rooms.closed ≡ c.loop-lock.self.rooms.closed = ap (λ r. r.closed) c.close_spindle-spindle.ensures.rooms in
    let rows_left : length c.loop-lock.self.rooms.spindles.items ≡ length c.pop-in-Some-2.new.self.items + 1 = ap length c.in-Some-Some.ensures'.items ∙ length_push c.pop-in-Some-2.new.self.items c.in-Some-Some.room in
    let closed_items : c.push_reserved.new.self.items ≡ c.loop-lock.self.rooms.closed.items ++ c.close_spindle-spindle.result ∷ [] = c.push_reserved.ensures.items ∙ ap (λ v. v.items ++ c.close_spindle-spindle.result ∷ []) closed in
    let closed_count : length c.push_reserved.new.self.items ≡ length c.loop-lock.self.rooms.closed.items + 1 = ap length closed_items ∙ length_push c.loop-lock.self.rooms.closed.items c.close_spindle-spindle.result in
    let capacity : vec_capacity c.push_reserved.new.self ≡ vec_capacity c.loop-lock.self.rooms.closed = c.push_reserved.ensures.capacity ∙ ap (λ v. vec_capacity v) closed in
    let number : c.len.result ≡ length c.pop.new.self.items = omega (arith, c.len.ensures, c.pop.new.self.ok.0) in
    let rows : KeepsOtherRows c.loop-lock.self c.close_spindle-spindle.new.self = record { count = c.close_spindle-spindle.ensures.rows.count; each = c.close_spindle-spindle.ensures.rows.each } in
    let rows_now = rows_then c.args.self.now c.loop-lock.self c.close_spindle-spindle.new.self c.loop-lock.invariant.rows rows in
    record {
      front = from_locks.front;
      keepers_front = from_keepers.front;
      left = others_may c.pop.new.self.items c.in-Some.lock c.pop-in-Some.new.self.items c.in-Some-Some.keeper c.loop-lock.self can _
          (record { count = rows.count; each = rows.each })
          (λ v k differs. c.close_spindle-spindle.ensures.others v k (λ e. differs (e ∙ number)))
          (ap length spindles ∙ omega (arith, rows_left, c.loop-lock.invariant.left.room_count, from_locks.count))
          (subst (λ l. All (λ row. (row.items ≡ []) × (length c.loop-lock.self.passes.items + 1 ≤ vec_capacity row)) l) (sym spindles)
          (all_front (λ row. (row.items ≡ []) × (length c.loop-lock.self.passes.items + 1 ≤ vec_capacity row)) c.pop-in-Some-2.new.self.items c.in-Some-Some.room
          (subst (λ l. All (λ row. (row.items ≡ []) × (length c.loop-lock.self.passes.items + 1 ≤ vec_capacity row)) l) c.in-Some-Some.ensures'.items c.loop-lock.invariant.left.rooms)))
          (omega (arith, closed_count, capacity, c.loop-lock.invariant.left.closed, from_locks.count));
      count = omega (arith, closed_count, c.loop-lock.invariant.count, from_locks.count);
      closed = λ k f p d from at_lock at_keeper.
          rw closed_items (one_more_closed c.args.self.now (length c.args.locks.items) (length c.pop.new.self.items) c.loop-lock.self.rooms.closed.items c.close_spindle-spindle.result c.args.locks.items c.args.keepers.items c.in-Some.lock c.in-Some-Some.keeper
          (omega (arith, c.loop-lock.invariant.count, from_locks.count)) from_locks.there
          (subst (λ (n : ℕ). slice_get c.args.keepers.items n ≡ Some c.in-Some-Some.keeper) counts from_keepers.there)
          (made_in c.args.self.now c.loop-lock.self c.len.result (length c.pop.new.self.items) c.in-Some.lock c.in-Some-Some.keeper c.close_spindle-spindle.result number
          (λ v. ap (spindle_pass c.loop-lock.self v) number ∙ c.loop-lock.invariant.kept v (length c.pop.new.self.items) (omega (arith, from_locks.count)))
          (made_in c.loop-lock.self _ c.len.result c.len.result c.in-Some.lock c.in-Some-Some.keeper c.close_spindle-spindle.result refl (λ v. refl) c.close_spindle-spindle.ensures.spindle))
          (λ j h q e behind. c.loop-lock.invariant.closed j h q e (omega (arith, behind, from_locks.count)))
          k f p d (slice_get_within c.args.locks.items k f at_lock) from at_lock at_keeper);
      kept = λ v k less. c.close_spindle-spindle.ensures.others v k (λ e. omega (arith, e, less, number)) ∙ c.loop-lock.invariant.kept v k (omega (arith, less, from_locks.count));
      images = c.close_spindle-spindle.ensures.images ∙ c.loop-lock.invariant.images;
      rows = record { count = rows_now.count; each = rows_now.each };
    }

pub returns-clause-closed : goal.returns-clause-closed
returns-clause-closed g c =
    let none : length c.loop-lock.locks.items ≡ 0 = omega (arith, c.in_default.ensures.cases, c.loop-lock.locks.ok.0) in
    let count : length c.loop-lock.self.rooms.closed.items ≡ length c.args.locks.items = omega (arith, c.loop-lock.invariant.count, none) in
    record {
      count = count;
      each = λ k l p s at_lock at_keeper at.
          let below = slice_get_within c.args.locks.items k l at_lock in
          let within : k < length c.loop-lock.self.rooms.closed.items = omega (arith, below, count) in
          let is : s ≡ get_or c.loop-lock.self.rooms.closed.items (length c.args.locks.items - 1 - k) s =
          same_Some s (get_or c.loop-lock.self.rooms.closed.items (length c.args.locks.items - 1 - k) s) (sym at ∙ slice_get-get_or (reverse c.loop-lock.self.rooms.closed.items) k s (let n = length-reverse c.loop-lock.self.rooms.closed.items in omega (arith, n, within))
          ∙ ap (λ x. Some x) (get_or-reverse c.loop-lock.self.rooms.closed.items k s within ∙ ap (λ (n : ℕ). get_or c.loop-lock.self.rooms.closed.items (n - 1 - k) s) count)) in
          subst (λ (x : SpindleView). StandsClosed c.args.self.now k l p x) (sym is) (c.loop-lock.invariant.closed k l p s (omega (arith, none)) at_lock at_keeper);
    }

pub returns-clause-rows : goal.returns-clause-rows
returns-clause-rows g c = c.loop-lock.invariant.rows
