-- Desks that are served in two parts, the last of them by a worker.
use Rattle.std.proofs.Common.{Bor, true, false, ◌≡◌, ◌<◌, ◌≤◌, ◌+◌, ◌-◌, ℕ, Bool, List, ◌++◌, length, get_or, inl, inr, Result, Ok, Err, sym, ap, subst, ◌∙◌, refl, length-append, arith}
use Rattle.std.specs.Prelude.{IsOk, vec_capacity, vec_len}
use Rattle.std.specs.declared.alloc.Global.{Global}
use Rattle.std.specs.declared.vec.Vec.{Vec}
use Rattle.std.proofs.lemmas.Bool.{cases_lt}
use Rattle.std.proofs.lemmas.List.{get_or_append_left, get_or-append-add, get_or-append_right}
use Rattle.logger.specs.declared.shared.Shared.{Shared}
use Rattle.request_turns.specs.Helped.{ManagerLock}
use Rattle.window_desks.specs.Desks.{AreReady, AreServed, IsReadyDesk}
use Rattle.request_workers.specs.Jobs.{IsReadyJob}
use Rattle.window_desks.specs.Served.{HasServed}
use Rattle.request_workers.specs.Shares.{CanShare, HasHelpedOn, HasShared}
use Rattle.window_desks.specs.declared.desk.Desk.{Desk}
use Rattle.window_desks.specs.declared.floor.Floor.{Floor}
use Rattle.window_desks.specs.declared.request.Reclaim.{Reclaim}
use Rattle.window_desks.specs.declared.work_room.WorkRoom.{WorkRoom}

module _ {D : Type 0} (ls : List (ManagerLock D)) (shared : Shared D) (ds es : List (Desk D)) (ready : AreReady ls shared 0 (ds ++ es)) where
  -- the first desks are ready where they are
  pub first_ready : AreReady ls shared 0 ds
  first_ready k l d h =
      let long = length-append ds es in
      subst (λ (x : Desk D). IsReadyDesk (get_or ls (0 + k) l) shared x) (get_or_append_left ds es d k h) (ready k l d (omega (arith, h, long)))

  -- .. and so are the last, behind them
  pub last_ready : AreReady ls shared (length ds) es
  last_ready k l d h =
      let long = length-append ds es in
      let from : 0 + (length ds + k) ≡ length ds + k = omega arith in
      subst (λ (n : ℕ). IsReadyDesk (get_or ls n l) shared (get_or es k d)) from
      (subst (λ (x : Desk D). IsReadyDesk (get_or ls (0 + (length ds + k)) l) shared x) (get_or-append-add ds es k d) (ready (length ds + k) l d (omega (arith, h, long))))

-- a job of the last desks
pub job_ready : {D : Type 0} (shared : Bor (Shared D)) (f : Floor D) (kept run : Vec (Desk D) Global) (start : ℕ) (work : WorkRoom) → f.desks.items ≡ kept.items ++ run.items → start ≡ vec_len kept → CanShare shared.now f
    → IsReadyJob (record { locks = f.locks; shared = shared; start = start; desks = run; work = work })
job_ready {D} shared f kept run start work cut is can =
    let n : start ≡ length kept.items = is ∙ kept.ok.0 in
    let long = ap length cut ∙ length-append kept.items run.items in let all = can.within in record {
      within = omega (arith, n, long, all);
      ready = subst (λ (k : ℕ). AreReady f.locks.now shared.now k run.items) (sym n)
          (last_ready f.locks.now shared.now kept.items run.items (subst (λ (xs : List (Desk D)). AreReady f.locks.now shared.now 0 xs) cut can.ready));
    }

-- it didn't fail
pub no_ok : {T E : Type 0} (r : Result T E) → IsOk r → ((x : T) → r ≡ Ok x → ⊥) → ⊥
no_ok (Ok x) is never = never x refl
no_ok (Err e) is never = absurd (let no : false ≡ true = is in cc)

-- the last desks of a floor are handed over, and the others can be shared
pub first_can : {D : Type 0} (shared : Shared D) (f : Floor D) (kept : Vec (Desk D) Global) (run : List (Desk D)) → f.desks.items ≡ kept.items ++ run → CanShare shared f → CanShare shared (record f { desks = kept })
first_can {D} shared f kept run cut can =
    let long = ap length cut ∙ length-append kept.items run in
    let all = can.within in record {
      within = omega (arith, long, all);
      ready = first_ready f.locks.now shared kept.items run (subst (λ (xs : List (Desk D)). AreReady f.locks.now shared 0 xs) cut can.ready);
      help = let h = can.help in record { count = h.count; few = h.few; passes = h.passes; sharing = h.sharing; cause = h.cause };
    }

module _ {D : Type 0} (tells : Bool) (ds es ds' es' : List (Desk D)) (same : length ds' ≡ length ds) (first : AreServed tells ds ds') (last : AreServed tells es es') where
  pub served_both : AreServed tells (ds ++ es) (ds' ++ es')
  served_both k d h = elim (cases_lt k (length ds)) [
    | inl lt ↦
        subst (λ (x : Desk D). HasServed tells x.requests.items x (get_or (ds' ++ es') k d)) (sym (get_or_append_left ds es d k lt))
        (subst (λ (y : Desk D). HasServed tells (get_or ds k d).requests.items (get_or ds k d) y) (sym (get_or_append_left ds' es' d k (omega (arith, lt, same)))) (first k d lt))
    | inr le ↦
        let long = length-append ds es in
        subst (λ (x : Desk D). HasServed tells x.requests.items x (get_or (ds' ++ es') k d)) (sym (get_or-append_right ds es (length ds) k d refl le))
        (subst (λ (y : Desk D). HasServed tells (get_or es (k - length ds) d).requests.items (get_or es (k - length ds) d) y) (sym (get_or-append_right ds' es' (length ds) k d same le))
        (last (k - length ds) d (omega (arith, h, le, long))))
  ]

-- what is made of the desks afterwards, in the caller's room
pub helped_still : {D : Type 0} (tells : Bool) (mode : Reclaim) (f g : Floor D) (ds : Vec (Desk D) Global) (work : WorkRoom) → HasHelpedOn tells mode f g → HasHelpedOn tells mode f (record g { desks = ds; work = work })
helped_still {D} tells mode f g ds work on = record {
  count = on.count;
  helped = on.helped;
  counted = on.counted;
  all_kept = on.all_kept;
  cause = on.cause;
  only = ap (λ (h : Floor D). record h { desks = ds; work = work }) on.only;
}

-- both parts are served, and together again
module _ {D : Type 0} (tells : Bool) (mode : Reclaim) (f g : Floor D) (kept back : Vec (Desk D) Global) (run run' : List (Desk D)) where
  pub shared_both : f.desks.items ≡ kept.items ++ run → vec_capacity kept ≡ vec_capacity f.desks → HasShared tells mode (record f { desks = kept }) g
      → back.items ≡ g.desks.items ++ run' → length run' ≡ length run → AreServed tells run run' → vec_capacity g.desks ≤ vec_capacity back → HasShared tells mode f (record g { desks = back })
  shared_both cut room s joined same served more =
      let long = ap length cut ∙ length-append kept.items run in
      let long' = ap length joined ∙ length-append g.desks.items run' in
      let kept_len = s.len in
      let grown = s.room in
      record {
        len = omega (arith, long, long', kept_len, same);
        served = subst (λ (xs : List (Desk D)). AreServed tells xs back.items) (sym cut)
            (subst (λ (ys : List (Desk D)). AreServed tells (kept.items ++ run) ys) (sym joined) (served_both tells kept.items run g.desks.items run' s.len s.served served));
        on = let h = s.on in record { count = h.count; helped = h.helped; counted = h.counted; all_kept = h.all_kept; cause = h.cause; only = ap (λ (x : Floor D). record x { desks = back }) h.only };
        room = omega (arith, room, grown, more);
      }

  -- there is room for the part that comes back
  pub fits_again : f.desks.items ≡ kept.items ++ run → vec_capacity kept ≡ vec_capacity f.desks → HasShared tells mode (record f { desks = kept }) g → length run' ≡ length run → length g.desks.items + length run' ≤ vec_capacity g.desks
  fits_again cut room s same =
      let long = ap length cut ∙ length-append kept.items run in
      let kept_len = s.len in
      let grown = s.room in
      let ok = f.desks.ok in
      let a = ok.0 in let b = ok.1 in
      omega (arith, long, kept_len, grown, same, room, a, b)
