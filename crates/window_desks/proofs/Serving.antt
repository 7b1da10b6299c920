-- Serving more requests.
use Rattle.std.proofs.Common.{◌≡◌, ◌≤◌, ◌<◌, ◌+◌, ◌-◌, zero, suc, vec_capacity, take, drop, ℕ, Bool, true, false, List, [], ◌∷◌, ◌++◌, length, replicate, inl, inr, refl, ap, ◌∙◌, sym, subst, append_assoc, arith}
use Rattle.std.specs.List.{AllByRecursion}
use Rattle.std.specs.Prelude.{All}
use Rattle.std.proofs.lemmas.List.{append-nil, length-append, take_rest}
use Rattle.turn_lock.specs.LockIds.{LockId}
use Rattle.turn_lock.specs.Passes.{pass_lock, pass_number, IsFree}
use Rattle.wol_model.specs.Blocks.{Write}
use Rattle.wol_model.specs.History.{worker}
use Rattle.wol_promise.specs.Ruled.{Noted}
use Rattle.wol_promise.proofs.Lists.{all_joined, all_map}
use Rattle.logger.specs.declared.shared.Shared.{Shared}
use Rattle.manager.specs.Stands.{notes_of, IsShared}
use Rattle.manager.specs.declared.base.ManagerBase.{ManagerBase}
use Rattle.manager.specs.declared.part.ReadRefusal.{ReadRefusal}
use Rattle.manager.specs.declared.part.ReadRefusal.TheVariants as refused_read
use Rattle.manager.specs.declared.part.WriteRefusal.{WriteRefusal}
use Rattle.manager.specs.declared.part.WriteRefusal.TheVariants as refused
use Rattle.request_turns.specs.Answered.{HasAnsweredMany}
use Rattle.request_turns.specs.Causes.{OneLacked}
use Rattle.request_turns.specs.Counts.{HasCounted}
use Rattle.request_turns.specs.Entries.{AreMade, none, TellsFault, TellsOfRead, TellsOfWrite}
use Rattle.request_turns.specs.Helped.{ManagerLock}
use Rattle.request_turns.specs.Requests.{IsWithin}
use Rattle.request_turns.specs.Turns.{began, notes_seen, LooksStay}
use Rattle.request_turns.specs.declared.outcome.Outcome.{Outcome}
use Rattle.request_turns.specs.declared.outcome.Outcome.TheVariants as outcome
use Rattle.request_turns.proofs.Counting.{counted_both, counted_none}
use Rattle.request_turns.proofs.Gaining.{gains_none, gains_both, gains_turn, looks_so, stays_both, stays_turn, turn_more, seen_more, down_more}
pub use Rattle.request_turns.proofs.Gaining.{spent_more}
use Rattle.request_turns.proofs.MadeLaws.{made_length, made_append}
use Rattle.window_desks.specs.Desks.{IsReadyDesk, IsReadyAt}
use Rattle.window_desks.specs.Requests.{was_answered, was_run, both, going_after, StopsAtRefusal}
use Rattle.window_desks.specs.Served.{HasServed, HasServedNext, HasServedUpTo}
use Rattle.window_desks.specs.declared.desk.Desk.{Desk}
use Rattle.window_desks.proofs.Batching.{parts_joined, front_of_part, part_length}
use Rattle.window_desks.proofs.Making.{first_run, first_single, first_made, first_refused}
use Rattle.trace_windows.specs.declared.request.Request.{Request}

-- ---- Outcomes

stops_both : (going : Bool) (os ps : List Outcome) → StopsAtRefusal going os → StopsAtRefusal (going_after going os) ps → StopsAtRefusal going (os ++ ps)
stops_both going [] ps first rest = rest
stops_both going (o ∷ os) ps first rest = (first.0, stops_both (both going (was_answered o)) os ps first.1 rest)

going_both : (going : Bool) (os ps : List Outcome) → going_after going (os ++ ps) ≡ going_after (going_after going os) ps
going_both going [] ps = refl
going_both going (o ∷ os) ps = going_both (both going (was_answered o)) os ps

-- all of them were answered
stops_never : (count : ℕ) (o : Outcome) → was_run o ≡ true → was_answered o ≡ true → StopsAtRefusal true (replicate count o)
stops_never zero o run answered = tt
stops_never (suc count) o run answered = (run, subst (λ b. StopsAtRefusal b (replicate count o)) (sym answered) (stops_never count o run answered))

going_on : (count : ℕ) (o : Outcome) → was_answered o ≡ true → going_after true (replicate count o) ≡ true
going_on zero o answered = refl
going_on (suc count) o answered = ap (λ b. going_after b (replicate count o)) answered ∙ going_on count o answered

-- none of them was run
stopped : (left : ℕ) → StopsAtRefusal false (replicate left outcome.NotRun)
stopped zero = tt
stopped (suc left) = (refl, stopped left)

stopped_after : (left : ℕ) → going_after false (replicate left outcome.NotRun) ≡ false
stopped_after zero = refl
stopped_after (suc left) = stopped_after left

-- one was refused, and no other was run
stops_refused : (count : ℕ) (o : Outcome) (left : ℕ) → count ≡ 1 → was_run o ≡ true → was_answered o ≡ false → StopsAtRefusal true (replicate count o ++ replicate left outcome.NotRun)
stops_refused count o left one run refused =
    subst (λ n. StopsAtRefusal true (replicate n o ++ replicate left outcome.NotRun)) (sym one) (run, subst (λ b. StopsAtRefusal b (replicate left outcome.NotRun)) (sym refused) (stopped left))

going_refused : (count : ℕ) (o : Outcome) (left : ℕ) → count ≡ 1 → was_answered o ≡ false → going_after true (replicate count o ++ replicate left outcome.NotRun) ≡ false
going_refused count o left one refused =
    ap (λ n. going_after true (replicate n o ++ replicate left outcome.NotRun)) one ∙ (ap (λ b. going_after b (replicate left outcome.NotRun)) refused ∙ stopped_after left)

-- ---- Writes that lacked memory

lacked_front : (rs qs : List Request) (os ps : List Outcome) (w : Write) → OneLacked rs os w → OneLacked (rs ++ qs) (os ++ ps) w
lacked_front [] qs os ps w is = absurd is
lacked_front (r ∷ rs) qs [] ps w is = absurd is
lacked_front (r ∷ rs) qs (o ∷ os) ps w (inl here) = inl here
lacked_front (r ∷ rs) qs (o ∷ os) ps w (inr later) = inr (lacked_front rs qs os ps w later)

lacked_behind : (rs qs : List Request) (os ps : List Outcome) → length os ≡ length rs → (w : Write) → OneLacked qs ps w → OneLacked (rs ++ qs) (os ++ ps) w
lacked_behind [] qs [] ps same w is = is
lacked_behind [] qs (o ∷ os) ps same w is = absurd (omega (arith, same))
lacked_behind (r ∷ rs) qs [] ps same w is = absurd (omega (arith, same))
lacked_behind (r ∷ rs) qs (o ∷ os) ps same w is = inr (lacked_behind rs qs os ps (omega (arith, same)) w is)

-- none did where the first was answered
lacked_none : (rs : List Request) (o : Outcome) (w : Write) → was_answered o ≡ true → OneLacked rs (o ∷ []) w → ⊥
lacked_none [] o w answered is = is
lacked_none (r ∷ rs) o w answered (inl (writes, (same, out))) = let no : true ≡ false = sym answered ∙ ap was_answered out in cc no
lacked_none (r ∷ rs) o w answered (inr later) = none_told rs later
  where
    none_told : (qs : List Request) → OneLacked qs [] w → ⊥
    none_told [] is = is
    none_told (q ∷ qs) is = is

all_same : (P : Outcome → Type 0) (count : ℕ) (o : Outcome) → P o → AllByRecursion P (replicate count o)
all_same P zero o is = tt
all_same P (suc count) o is = (is, all_same P count o is)

-- ---- Causes, with more entries

tells_read : (r : ReadRefusal) (seen more : List Noted) → TellsOfRead r seen → TellsOfRead r (seen ++ more)
tells_read (refused_read.DiskFault p) seen more is = down_more p seen more is
tells_read (refused_read.Down p) seen more is = down_more p seen more is

tells_write : (r : WriteRefusal) (seen more : List Noted) → TellsOfWrite r seen → TellsOfWrite r (seen ++ more)
tells_write refused.Full seen more is = tt
tells_write (refused.DiskFault p) seen more is = down_more p seen more is
tells_write (refused.Down p) seen more is = down_more p seen more is
tells_write refused.VersionsSpent seen more is = spent_more seen more is
tells_write refused.NoMemory seen more is = tt

tells_more : (seen more : List Noted) (o : Outcome) → TellsFault seen o → TellsFault (seen ++ more) o
tells_more seen more (outcome.Read mark sources) is = tt
tells_more seen more (outcome.Wrote place drained) is = tt
tells_more seen more (outcome.NoRead r) is = tells_read r seen more is
tells_more seen more (outcome.NoWrite r) is = tells_write r seen more is
tells_more seen more outcome.NotRun is = tt

-- ---- A desk

-- no request
pub served_none : {D : Type 0} (tells : Bool) (d : Desk D) → IsFree d.worker → HasServedNext tells [] true d d true
served_none tells d free = record {
  told = [];
  outcomes = sym (append-nil d.outcomes.items);
  id = refl;
  requests = refl;
  room = refl;
  more = [];
  notes = [];
  gains = gains_none tells d.worker free;
  made = none;
  stops = tt;
  next_is = refl;
  stays = λ _. tt;
  faults = tt;
  reclaim = refl;
  counted = counted_none tells d.worker d.tally;
}

-- some requests, and then others
served_both : {D : Type 0} (tells : Bool) (rs qs : List Request) (going mid next : Bool) (d e f : Desk D) → HasServedNext tells rs going d e mid → HasServedNext tells qs mid e f next → HasServedNext tells (rs ++ qs) going d f next
served_both {D} tells rs qs going mid next d e f s h = record {
  told = s.told ++ h.told;
  outcomes = h.outcomes ∙ (ap (λ (l : List Outcome). l ++ h.told) s.outcomes ∙ append_assoc d.outcomes.items s.told h.told);
  id = h.id ∙ s.id;
  requests = h.requests ∙ s.requests;
  room = h.room ∙ s.room;
  more = s.more ++ h.more;
  notes = s.notes ++ h.notes;
  gains = gains_both tells d.worker e.worker f.worker s.more h.more s.notes h.notes s.gains h.gains;
  made = made_append (began d.worker).view rs s.told s.notes qs h.told h.notes s.made (subst (λ (l : LockId ManagerBase). AreMade l.base.volume.began.view qs h.told h.notes) s.gains.same.0 h.made);
  stops = stops_both going s.told h.told s.stops (subst (λ b. StopsAtRefusal b h.told) s.next_is h.stops);
  next_is = h.next_is ∙ (ap (λ b. going_after b h.told) s.next_is ∙ sym (going_both going s.told h.told));
  stays = λ honest. stays_both tells d.worker e.worker f.worker s.more h.more s.notes h.notes s.gains h.gains (OneLacked (rs ++ qs) (s.told ++ h.told))
      (looks_so (OneLacked rs s.told) (OneLacked (rs ++ qs) (s.told ++ h.told)) (lacked_front rs qs s.told h.told) d.worker s.more (s.stays honest))
      (looks_so (OneLacked qs h.told) (OneLacked (rs ++ qs) (s.told ++ h.told)) (lacked_behind rs qs s.told h.told (made_length (began d.worker).view rs s.told s.notes s.made)) e.worker h.more (h.stays (s.gains.honest honest)));
  faults = all_joined (TellsFault (notes_seen f.worker)) s.told h.told
      (all_map (TellsFault (notes_seen e.worker)) (TellsFault (notes_seen f.worker)) (λ x t. subst (λ (ns : List Noted). TellsFault ns x) (sym (seen_more tells e.worker f.worker h.more h.notes h.gains)) (tells_more (notes_seen e.worker) (notes_of h.more) x t)) s.told s.faults) h.faults;
  reclaim = h.reclaim ∙ s.reclaim;
  counted = counted_both tells d.worker e.worker f.worker s.more h.more s.notes h.notes s.gains h.gains d.tally e.tally f.tally s.counted h.counted;
}

pub up_to_none : {D : Type 0} (tells : Bool) (at : ℕ) (d : Desk D) → at ≤ length d.requests.items → IsFree d.worker → HasServedUpTo tells at at d d
up_to_none tells at d within free = record {
  order = omega arith;
  within = within;
  next = true;
  served = (let none_left : at - at ≡ 0 = omega arith in subst (λ n. HasServedNext tells (take n (drop at d.requests.items)) true d d true) (sym none_left) (served_none tells d free));
  goes_on = λ _. refl;
}

pub up_to_both : {D : Type 0} (tells : Bool) (a b c : ℕ) (d e f : Desk D) → HasServedUpTo tells a b d e → b < length d.requests.items → HasServedUpTo tells b c e f → HasServedUpTo tells a c d f
up_to_both {D} tells a b c d e f s less h =
    let rs = d.requests.items in
    let same : e.requests.items ≡ rs = ap (λ v. v.items) s.served.requests in
    let first : HasServedNext tells (take (b - a) (drop a rs)) true d e true = subst (HasServedNext tells (take (b - a) (drop a rs)) true d e) (s.goes_on less) s.served in
    let then : HasServedNext tells (take (c - b) (drop b rs)) true e f h.next = subst (λ (l : List Request). HasServedNext tells (take (c - b) (drop b l)) true e f h.next) same h.served in
    record {
      order = (let l = s.order in let r = h.order in omega (arith, l, r));
      within = subst (λ (l : List Request). c ≤ length l) same h.within;
      next = h.next;
      served = subst (λ (l : List Request). HasServedNext tells l true d f h.next) (parts_joined rs a b c s.order h.order)
          (served_both tells (take (b - a) (drop a rs)) (take (c - b) (drop b rs)) true true h.next d e f first then);
      goes_on = λ more. h.goes_on (subst (λ (l : List Request). c < length l) (sym same) more);
    }

-- a desk is ready for the next requests
pub ready_next : {D : Type 0} (tells : Bool) (l : ManagerLock D) (shared : Shared D) (a b : ℕ) (d e : Desk D) → IsReadyAt l shared a d → HasServedUpTo tells a b d e → IsReadyAt l shared b e
ready_next {D} tells l shared a b d e r h =
    let s = h.served in let g = s.gains in record {
      pass = record { own = g.same.0 ∙ r.pass.own; free = g.free; number_is = g.same.1 ∙ r.pass.number_is };
      shared_ = subst (λ (i : LockId ManagerBase). IsShared shared i.base) (sym g.same.0) r.shared_;
      within = subst (λ (i : LockId ManagerBase). All (IsWithin i.base) e.requests.items) (sym g.same.0) (subst (λ v. All (IsWithin (pass_lock d.worker).base) v.items) (sym s.requests) r.within);
      told =
          (let made = made_length (began d.worker).view (take (b - a) (drop a d.requests.items)) s.told s.notes s.made in
          let part = part_length d.requests.items a b h.order h.within in
          let both = ap length s.outcomes ∙ length-append d.outcomes.items s.told in
          let before = r.told in let order = h.order in omega (arith, made, part, both, before, order));
      room = (let room = r.room in let same = ap (λ v. length v.items) s.requests in let cap = s.room in omega (arith, room, same, cap));
    }

pub ready_first : {D : Type 0} (l : ManagerLock D) (shared : Shared D) (d : Desk D) → IsReadyDesk l shared d → IsReadyAt l shared 0 d
ready_first l shared d r = record { pass = r.pass; shared_ = r.shared_; within = r.within; told = ap length r.empty; room = r.room }

-- all requests of a desk were served
pub all_served : {D : Type 0} (tells : Bool) (n : ℕ) (d e : Desk D) → d.outcomes.items ≡ [] → length d.requests.items ≤ n → HasServedUpTo tells 0 n d e → HasServed tells d.requests.items d e
all_served {D} tells n d e empty all h =
    let s = h.served in
    let are : e.outcomes.items ≡ s.told = s.outcomes ∙ ap (λ (l : List Outcome). l ++ s.told) empty in
    let whole : take (n - 0) (drop 0 d.requests.items) ≡ d.requests.items = (let w = h.within in let same : n - 0 ≡ length d.requests.items - 0 = omega (arith, w, all) in ap (λ k. take k (drop 0 d.requests.items)) same ∙ take_rest d.requests.items 0) in
    record {
      id = s.id;
      more = s.more;
      notes = s.notes;
      gains = s.gains;
      made = subst (λ (l : List Outcome). AreMade (began d.worker).view d.requests.items l s.notes) (sym are) (subst (λ (l : List Request). AreMade (began d.worker).view l s.told s.notes) whole s.made);
      stops = subst (StopsAtRefusal true) (sym are) s.stops;
      stays = λ honest. subst (λ (l : List Outcome). LooksStay (OneLacked d.requests.items l) d.worker s.more) (sym are)
          (subst (λ (l : List Request). LooksStay (OneLacked l s.told) d.worker s.more) whole (s.stays honest));
      faults = subst (AllByRecursion (TellsFault (notes_seen e.worker))) (sym are) s.faults;
      reclaim = s.reclaim;
      counted = s.counted;
    }

-- ---- A turn

module _ {D : Type 0} (tells : Bool) (d e : Desk D) (at end count : ℕ) (o : Outcome) (number : pass_number d.worker ≡ worker) (less : at < end) (within : end ≤ length d.requests.items)
    (a : HasAnsweredMany tells (take (end - at) (drop at d.requests.items)) count o d.worker e.worker)
    (id : e.id ≡ d.id) (requests : e.requests ≡ d.requests) (fault : e.fault ≡ d.fault) (room : vec_capacity e.outcomes ≡ vec_capacity d.outcomes)
    (counted : HasCounted tells d.tally e.tally d.worker e.worker) where
  batch : List Request
  batch = take (end - at) (drop at d.requests.items)

  few : count ≤ end - at
  few = subst (λ n. count ≤ n) (part_length d.requests.items at end (omega arith) within) a.within

  -- these requests were served, of which this was told
  served_by : (rs : List Request) (told : List Outcome) (next : Bool) → e.outcomes.items ≡ d.outcomes.items ++ told → AreMade (began d.worker).view rs told (a.note ∷ []) → StopsAtRefusal true told → next ≡ going_after true told
      → ((w : Write) → OneLacked (take (end - at) (drop at d.requests.items)) (o ∷ []) w → OneLacked rs told w) → AllByRecursion (TellsFault (notes_seen e.worker)) told → HasServedNext tells rs true d e next
  served_by rs told next outcomes made stops next_is lacked faults = record {
    told = told;
    outcomes = outcomes;
    id = id;
    requests = requests;
    room = room;
    more = _;
    notes = a.note ∷ [];
    gains = gains_turn tells d.worker e.worker a.before a.note a.turned;
    made = made;
    stops = stops;
    next_is = next_is;
    stays = λ honest. looks_so (OneLacked (take (end - at) (drop at d.requests.items)) (o ∷ [])) (OneLacked rs told) lacked d.worker (turn_more tells d.worker e.worker a.before a.note a.turned)
        (stays_turn tells d.worker e.worker a.before a.note a.turned (OneLacked (take (end - at) (drop at d.requests.items)) (o ∷ [])) number a.stays honest);
    faults = faults;
    reclaim = fault;
    counted = counted;
  }

  -- the first ones were answered
  pub turn_answered : was_answered o ≡ true → e.outcomes.items ≡ d.outcomes.items ++ replicate count o → HasServedUpTo tells at (at + count) d e
  unfolding batch
  turn_answered answered outcomes = record {
    order = omega arith;
    within = (let f = few in omega (arith, f, less, within));
    next = true;
    served = subst (λ (l : List Request). HasServedNext tells l true d e true) (front_of_part d.requests.items at end count few)
        (served_by _ (replicate count o) true outcomes (first_made (began d.worker).view batch count o a.note answered a.entry) (stops_never count o (first_run (began d.worker).view batch count o a.note a.entry) answered) (sym (going_on count o answered))
        (λ w lacked. absurd (lacked_none batch o w answered lacked)) (all_same (TellsFault (notes_seen e.worker)) count o a.fault));
    goes_on = λ _. refl;
  }

  refused_all : was_answered o ≡ false → e.outcomes.items ≡ (d.outcomes.items ++ replicate count o) ++ replicate (length d.requests.items - (at + count)) outcome.NotRun → HasServedUpTo tells at (length d.requests.items) d e
  unfolding batch
  refused_all refused outcomes =
      let all = length d.requests.items in let left = all - (at + count) in
      let later = take (all - end) (drop end d.requests.items) in
      let f = few in
      let whole : batch ++ later ≡ take (all - at) (drop at d.requests.items) = parts_joined d.requests.items at end all (omega arith) within in
      let sum : count + left ≡ length (batch ++ later) = (let l = ap length whole in let p = part_length d.requests.items at all (omega (arith, less, within)) (omega arith) in omega (arith, l, p, f, within, less)) in
      let run = first_run (began d.worker).view batch count o a.note a.entry in
      let single = first_single (began d.worker).view batch count o a.note refused a.entry in
      record {
        order = omega (arith, less, within);
        within = omega arith;
        next = false;
        served = subst (λ (l : List Request). HasServedNext tells l true d e false) whole
            (served_by _ (replicate count o ++ replicate left outcome.NotRun) false (outcomes ∙ append_assoc d.outcomes.items (replicate count o) (replicate left outcome.NotRun))
            (first_refused (began d.worker).view batch count o a.note refused a.entry later left sum) (stops_refused count o left single run refused) (sym (going_refused count o left single refused))
            (λ w lacked. subst (λ n. OneLacked (batch ++ later) (replicate n o ++ replicate left outcome.NotRun) w) (sym single) (lacked_front batch later (o ∷ []) (replicate left outcome.NotRun) w lacked))
            (all_joined (TellsFault (notes_seen e.worker)) (replicate count o) (replicate left outcome.NotRun) (all_same (TellsFault (notes_seen e.worker)) count o a.fault) (all_same (TellsFault (notes_seen e.worker)) left outcome.NotRun tt)));
        goes_on = λ more. absurd (omega (arith, more));
      }

  -- the first was refused, and no later one of the desk was run
  pub turn_refused : (all : ℕ) → all ≡ length d.requests.items → was_answered o ≡ false → e.outcomes.items ≡ (d.outcomes.items ++ replicate count o) ++ replicate (all - (at + count)) outcome.NotRun → HasServedUpTo tells at all d e
  turn_refused all same refused outcomes =
      subst (λ n. HasServedUpTo tells at n d e) (sym same) (refused_all refused (outcomes ∙ ap (λ n. (d.outcomes.items ++ replicate count o) ++ replicate (n - (at + count)) outcome.NotRun) same))
