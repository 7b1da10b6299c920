-- A floor before and after a window.
use Rattle.std.proofs.Common.{All, ◌≡◌, ◌<◌, ◌+◌, ℕ, Bool, List, [], ◌∷◌, length, get_or, ap, ◌∙◌, sym, subst, arith, Option}
use Rattle.turn_lock.specs.LockIds.{LockId}
use Rattle.turn_lock.specs.Passes.{lock_id, pass_lock, pass_number, IsPassOf, IsFree, IsSamePass, IsPassAt}
use Rattle.wol_model.specs.History.{worker, helper}
use Rattle.logger.specs.declared.shared.Shared.{Shared}
use Rattle.manager.specs.Stands.{IsShared}
use Rattle.manager.specs.declared.base.ManagerBase.{ManagerBase}
use Rattle.manager.specs.declared.part.StepFault.{StepFault}
use Rattle.window_desks.specs.Closed.{IsClosed}
use Rattle.window_desks.specs.Desks.{IsReadyDesk, AreReady, AreServed, AreAt, ShareDesks, AreEmpty}
use Rattle.window_desks.specs.Floors.{IsFloor, IsOn, AreInside, AreSameButRoom}
use Rattle.request_turns.specs.Helped.{ManagerLock}
use Rattle.request_turns.specs.Requests.{IsWithin}
use Rattle.window_desks.specs.Handed.{IsHanded, HasOwn, AreHandedOut}
use Rattle.window_desks.specs.Helped.{ArePassesAt, AreSharing}
use Rattle.window_desks.specs.Requests.{AreWithin, own_requests}
use Rattle.request_turns.specs.Counts.{Counts, blocks_between, records_between}
use Rattle.request_turns.specs.Turns.{ManagerPass, IsHonest, Gains}
use Rattle.window_desks.specs.Worked.{HasWorked, AreWorked, HelpedIn}
use Rattle.window_desks.specs.declared.desk.Desk.{Desk}
use Rattle.window_desks.specs.declared.floor.Floor.{Floor}
use Rattle.window_desks.proofs.Handing.{own_within}
use Rattle.trace_windows.specs.declared.request.Request.{Request}
use Rattle.request_turns.specs.declared.outcome.Outcome.{Outcome}
use Rattle.window_desks.specs.declared.request.Reclaim.{Reclaim}
use Rattle.window_desks.specs.declared.request.Reclaim.TheVariants as reclaim

some_in : {A : Type 0} (xs : List A) (k : ℕ) → k < length xs → A
some_in [] k h = absurd (omega (arith, h))
some_in (x ∷ xs) k h = x

-- ---- Before

-- after the requests the passes are those of the locks still
module _ {D : Type 0} (ls : List (ManagerLock D)) (shared : Shared D) (tells : Bool) (ds es : List (Desk D)) (count : length ds ≡ length ls) (same : length es ≡ length ds) (ready : AreReady ls shared 0 ds) (served : AreServed tells ds es) where
  pub passes_served : AreAt ls es
  passes_served k l d h =
      let i = subst (λ (n : ℕ). k < n) same h in let r = ready k l d i in let g = (served k d i).gains in let from : 0 + k ≡ k = omega arith in record {
        own = g.same.0 ∙ subst (λ (j : ℕ). IsPassOf (get_or ls j l) (get_or ds k d).worker) from r.pass.own;
        free = g.free;
        number_is = g.same.1 ∙ r.pass.number_is;
      }

  pub shares_served : ShareDesks shared es
  shares_served k d h =
      let i = subst (λ (n : ℕ). k < n) same h in let j = subst (λ (n : ℕ). k < n) count i in let l = some_in ls k j in
      subst (λ (x : LockId ManagerBase). IsShared shared x.base) (sym (served k d i).gains.same.0) (ready k l d i).shared_

module _ {D : Type 0} (ls : List (ManagerLock D)) (shared : Shared D) (rs : List Request) where
  -- the managers of passes of these locks use the shared ones
  pub sharing : IsOn shared ls → (number : ℕ) (ps : List (ManagerPass D)) → length ps ≡ length ls → ArePassesAt ls number ps → AreSharing shared ps
  sharing on number ps count at k d h = let i = subst (λ (n : ℕ). k < n) count h in let l = some_in ls k i in
      subst (λ (j : LockId ManagerBase). IsShared shared j.base) (sym (at k l d h).own) (on k l i)

  ready_desk : IsOn shared ls → (k : ℕ) (l : ManagerLock D) (d e : Desk D) → k < length ls → IsPassAt (get_or ls k l) worker d.worker → d.outcomes.items ≡ [] → AreWithin (lock_id (get_or ls k l)).base k rs → HasOwn rs k d e
      → IsReadyDesk (get_or ls k l) shared e
  ready_desk on k l d e h at empty within own = let room = own.handed in record {
    pass = subst (IsPassAt (get_or ls k l) worker) (sym room.worker_is) at;
    shared_ = subst (λ (p : ManagerPass D). IsShared shared (pass_lock p).base) (sym room.worker_is) (subst (λ (j : LockId ManagerBase). IsShared shared j.base) (sym at.own) (on k l h));
    within = subst (λ (p : ManagerPass D). All (IsWithin (pass_lock p).base) e.requests.items) (sym room.worker_is)
        (subst (λ (j : LockId ManagerBase). All (IsWithin j.base) e.requests.items) (sym at.own) (subst (λ (qs : List Request). All (IsWithin (lock_id (get_or ls k l)).base) qs) (sym room.requests) (own_within (lock_id (get_or ls k l)).base k rs within)));
    empty = room.outcomes ∙ empty;
    room = own.room;
  }

  pub all_ready : IsOn shared ls → (ds es : List (Desk D)) → length ds ≡ length ls → length es ≡ length ds → AreAt ls ds → AreEmpty ds → AreInside ls rs → AreHandedOut rs ds es → AreReady ls shared 0 es
  all_ready on ds es count same at empty inside room k l d h =
      let i = subst (λ (n : ℕ). k < n) same h in let j = subst (λ (n : ℕ). k < n) count i in let from : 0 + k ≡ k = omega arith in
      rw from (ready_desk on k l (get_or ds k d) (get_or es k d) j (at k l d i) (empty k d i) (inside k l j) (room k d i))

-- ---- After

module _ {D : Type 0} (tells : Bool) (rs : List Request) (os : List Outcome) (mode : Reclaim) where
  roomy_worked : (k : ℕ) (d e f : Desk D) → IsHanded (own_requests k rs) d e → HasWorked tells rs os mode k e f → HasWorked tells rs os mode k d f
  roomy_worked k d e f r w = record {
    id = w.id ∙ r.id;
    middle = w.middle;
    more = w.more;
    notes = w.notes;
    gains = subst (λ (p : ManagerPass D). Gains tells p w.middle w.more w.notes) r.worker_is w.gains;
    made = rw (sym r.worker_is) w.made;
    answered = w.answered;
    stops = w.stops;
    stays = rw (sym r.worker_is) w.stays;
    faults = w.faults;
    closed = w.closed;
    empty = w.empty;
    counted = subst (λ (p : ManagerPass D). IsHonest tells p → Counts (blocks_between p f.worker) (records_between p f.worker) f.tally) r.worker_is w.counted;
  }

  pub all_roomy : (ds es fs : List (Desk D)) → length es ≡ length ds → AreHandedOut rs ds es → AreWorked tells rs os mode es fs → AreWorked tells rs os mode ds fs
  all_roomy ds es fs same r w k d h = roomy_worked k (get_or ds k d) (get_or es k d) (get_or fs k d) (r k d h).handed (w k d (subst (λ m. k < m) (sym same) h))

  closed_pass : (m : Reclaim) (f : Option StepFault) (p q : ManagerPass D) → IsClosed tells m f p q → IsFree p → IsSamePass p q × IsFree q
  closed_pass reclaim.Off f p q c free = ((ap (λ (x : ManagerPass D). pass_lock x) c.0, ap (λ (x : ManagerPass D). pass_number x) c.0), subst (λ (x : ManagerPass D). IsFree x) (sym c.0) free)
  closed_pass reclaim.Between f p q c free = (c.turned.same, c.turned.free)
  closed_pass reclaim.Beside f p q c free = (c.turned.same, c.turned.free)

  pass_after : (l : ManagerLock D) (k : ℕ) (d e : Desk D) → HasWorked tells rs os mode k d e → IsPassAt l worker d.worker → IsPassAt l worker e.worker
  pass_after l k d e w at = let c = closed_pass mode e.fault w.middle e.worker w.closed w.gains.free in
      record { own = c.0.0 ∙ (w.gains.same.0 ∙ at.own); free = c.1; number_is = c.0.1 ∙ (w.gains.same.1 ∙ at.number_is) }

  helped_passes : (ls : List (ManagerLock D)) (m : Reclaim) (ps qs : List (ManagerPass D)) → length qs ≡ length ps → HelpedIn tells m ps qs → ArePassesAt ls helper ps → ArePassesAt ls helper qs
  helped_passes ls reclaim.Off ps qs same h at = subst (ArePassesAt ls helper) (sym h) at
  helped_passes ls reclaim.Between ps qs same h at = subst (ArePassesAt ls helper) (sym h) at
  helped_passes ls reclaim.Beside ps qs same h at = λ k l d i. let j = subst (λ (n : ℕ). k < n) same i in let g = (h k d j).gains in let a = at k l d j in
      record { own = g.same.0 ∙ a.own; free = g.free; number_is = g.same.1 ∙ a.number_is }

  -- what is left after a window is a floor
  pub floor_after : (f g : Floor D) → IsFloor f → g.locks ≡ f.locks → g.keepers ≡ f.keepers → g.room ≡ f.room → length g.desks.items ≡ length f.desks.items → length g.helpers.items ≡ length f.helpers.items
      → AreWorked tells rs os mode f.desks.items g.desks.items → HelpedIn tells mode f.helpers.items g.helpers.items → IsFloor g
  floor_after f g is locks keepers room desks helpers worked helped =
      let same : length g.locks.now ≡ length f.locks.now = ap (λ v. length v.now) locks in record {
        desks = desks ∙ (is.desks ∙ sym same);
        helpers = helpers ∙ (is.helpers ∙ sym same);
        keepers = ap (λ v. length v.items) keepers ∙ (is.keepers ∙ sym same);
        numbered = λ k d h. let i = subst (λ n. k < n) desks h in (worked k d i).id ∙ is.numbered k d i;
        owners = rw locks is.owners;
        workers = λ k l d h. let i = subst (λ n. k < n) desks h in rw locks (pass_after (get_or f.locks.now k l) k (get_or f.desks.items k d) (get_or g.desks.items k d) (worked k d i) (is.workers k l d i));
        empty = λ k d h. (worked k d (subst (λ n. k < n) desks h)).empty;
        help = rw locks (helped_passes f.locks.now mode f.helpers.items g.helpers.items helpers helped is.help);
        keep = rw (locks, keepers) is.keep;
        left = rw room is.left;
        room = rw (locks, room) is.room;
      }

-- a floor with more room is one
pub floor_same : {D : Type 0} (f g : Floor D) → IsFloor f → g.locks ≡ f.locks → g.helpers ≡ f.helpers → g.keepers ≡ f.keepers → g.room ≡ f.room → length g.desks.items ≡ length f.desks.items → AreSameButRoom f.desks.items g.desks.items → IsFloor g
floor_same f g is locks helpers keepers room desks same =
    let count : length g.locks.now ≡ length f.locks.now = ap (λ v. length v.now) locks in record {
      desks = desks ∙ (is.desks ∙ sym count);
      helpers = ap (λ v. length v.items) helpers ∙ (is.helpers ∙ sym count);
      keepers = ap (λ v. length v.items) keepers ∙ (is.keepers ∙ sym count);
      numbered = λ k d h. let i = subst (λ n. k < n) desks h in (same k d i).id ∙ is.numbered k d i;
      owners = rw locks is.owners;
      workers = λ k l d h. let i = subst (λ n. k < n) desks h in rw (locks, (same k d i).worker_is) (is.workers k l d i);
      empty = λ k d h. let i = subst (λ n. k < n) desks h in (same k d i).outcomes ∙ is.empty k d i;
      help = rw (locks, helpers) is.help;
      keep = rw (locks, keepers) is.keep;
      left = rw room is.left;
      room = rw (locks, room) is.room;
    }
