-- Copies one after another, in a history and at each moment.
use Rattle.std.proofs.Common.{◌≡◌, ◌≤◌, ◌+◌, ◌-◌, inl, ℕ, zero, suc, Bool, true, false, List, [], ◌∷◌, ◌++◌, length, take, drop, Option, None, Some, refl, sym, ap, subst, ◌∙◌, arith, append_assoc}
use Rattle.std.specs.Prelude.{IsTrue, IsSome, slice_range}
use Rattle.std.specs.List.{AllByRecursion}
use Rattle.std.specs.Option.{option_or}
use Rattle.std.proofs.lemmas.List.{append-nil}
use Rattle.wol_disk.specs.Disk.{Block, State, put}
use Rattle.spin_model.specs.declared.spun.Spun.{Spun}
use Rattle.wol_model.specs.Blocks.{Write, after}
use Rattle.wol_model.specs.History.{Operation, Wrote, Read, Broke, worker, written_by, writes, flight_of, flight_from, IsLegalNext, IsCut, whole, torn}
use Rattle.wol_model.specs.Recovered.{recovered}
use Rattle.wol_model.proofs.Arrays.{after_put}
use Rattle.wol_model.proofs.Overlay.{after_more, after_none}
use Rattle.wol_promise.specs.Manager.{Base}
use Rattle.wol_promise.specs.Policy.{Look}
use Rattle.wol_promise.specs.Ruled.{Noted, entries_of, HasPassed, IsStep, last_look}
use Rattle.wol_promise.specs.Stands.{HasHistory, Upholds}
use Rattle.wol_promise.proofs.Kept.{not_broken, renoted as upheld_with}
use Rattle.wol_promise.proofs.Lists.{all_joined}
use Rattle.wol_promise.proofs.OneMore.{history_more, writes_then, flight_then, or_none, last_more}
use Rattle.manager.specs.Seen.{parts_of, seen, down_of, look_of_manager}
use Rattle.manager.specs.Stands.{Keeps, Stands, IsNote, Leaves, nones_at}
use Rattle.manager.specs.Stops.{Stops}
use Rattle.manager.specs.declared.base.ManagerBase.{ManagerBase}
use Rattle.manager.specs.declared.manager.Manager.{Manager}
use Rattle.manager.proofs.Frames.{none_passed, stands_kept}
use Rattle.log_cleaner.specs.Chunks.{IsCopyOf}
use Rattle.log_cleaner.specs.Copies.{AreCopies, AtEachMoment, Claims, no_call, one_more, KeepsCopies, LeavesEntry, array_of, copy_notes, wrote}
use Rattle.log_cleaner.proofs.Noting.{AreLogged, history_front, legal_last, passed_front, upholds_sooner}

-- ---- Arrays

put_same : (first n : ℕ) (a : List Block) → put first (take n (drop first a)) a ≡ a
put_same first n [] = refl
put_same zero zero (x ∷ a) = refl
put_same zero (suc n) (x ∷ a) = λ i. x ∷ put_same zero n a i
put_same (suc first) n (x ∷ a) = λ i. x ∷ put_same first n a i

-- a copy changes nothing
after_copy : (a : List Block) (w : Write) → IsCopyOf a w → after a (w ∷ []) ≡ a
after_copy a w is =
    let e : w.first + length w.blocks - w.first ≡ length w.blocks = omega arith in
    after_put a w ∙ ap (λ (xs : List Block). put w.first xs a) (is ∙ ap (λ (n : ℕ). take n (drop w.first a)) e) ∙ put_same w.first (length w.blocks) a

-- nor do several
pub after_copies : (a : List Block) (ws : List Write) → AllByRecursion (IsCopyOf a) ws → after a ws ≡ a
after_copies a [] all = after_none a
after_copies a (w ∷ ws) all = after_more a (w ∷ []) ws ∙ ap (λ (x : List Block). after x ws) (after_copy a w all.0) ∙ after_copies a ws all.1

-- ---- Cuts

pub cut_none : (a : List Block) (ws : List Write) (x : List Block) → IsCut a ws [] x → x ≡ after a ws
cut_none a ws x (whole k le is) = is ∙ ap (λ (l : List Write). after a (ws ++ l)) (nothing k) ∙ ap (after a) (append-nil ws)
  where
    nothing : (k : ℕ) → take {A = Write} k [] ≡ []
    nothing zero = refl
    nothing (suc k) = refl
cut_none a ws x (torn w is none blend) = absurd (let wrong : [] ≡ w ∷ [] = is in cc)

pub cut_some : (a : List Block) (ws fs : List Write) (x : List Block) → AreLogged fs → AllByRecursion (IsCopyOf (after a ws)) fs → IsCut a ws fs x → x ≡ after a ws
cut_some a ws fs x logged same (whole k le is) = is ∙ after_more a ws (take k fs) ∙ after_copies (after a ws) (take k fs) (front (IsCopyOf (after a ws)) k fs same)
  where
    front : (P : Write → Type 0) (k : ℕ) (vs : List Write) → AllByRecursion P vs → AllByRecursion P (take k vs)
    front P zero vs all = tt
    front P (suc k) [] all = tt
    front P (suc k) (v ∷ vs) all = (all.0, front P k vs all.1)
cut_some a ws fs x logged same (torn v is none blend) = absurd (no v.version none (subst AreLogged is logged).0)
  where
    no : (o : Option ℕ) → o ≡ None → IsSome o → ⊥
    no None e some = let wrong : false ≡ true = some in cc
    no (Some v) e some = let wrong : Some v ≡ None = e in cc

-- ---- Notes of copies

module _ (notes : List Noted) (look : Look) where
  pub writes_copies : (cs : List Write) → writes (entries_of (notes ++ copy_notes look cs)) ≡ writes (entries_of notes) ++ cs
  writes_copies [] = ap (λ (ns : List Noted). writes (entries_of ns)) (append-nil notes) ∙ sym (append-nil (writes (entries_of notes)))
  writes_copies (c ∷ cs) = writes_then notes (record { entry = record { pass = worker; operation = Wrote (c ∷ cs) }; look = look; passed = []; after_drain = false; ruled = false }) (Wrote (c ∷ cs)) refl

  pub flight_copies : (cs : List Write) → flight_of (entries_of (notes ++ copy_notes look cs)) ≡ flight_of (entries_of notes)
  flight_copies [] = ap (λ (ns : List Noted). flight_of (entries_of ns)) (append-nil notes)
  flight_copies (c ∷ cs) = flight_then notes (record { entry = record { pass = worker; operation = Wrote (c ∷ cs) }; look = look; passed = []; after_drain = false; ruled = false }) (Wrote (c ∷ cs)) refl ∙ or_none (flight_of (entries_of notes))

  pub history_before : (told : Type 0) (base : Base) (cs : List Write) → HasHistory told base (notes ++ copy_notes look cs) → HasHistory told base notes
  history_before told base [] h = subst (HasHistory told base) (append-nil notes) h
  history_before told base (c ∷ cs) h = history_front told base notes _ h

  pub history_copies : (told : Type 0) (base : Base) (cs : List Write) → flight_of (entries_of notes) ≡ None → HasHistory told base notes → HasHistory told base (notes ++ copy_notes look cs)
  history_copies told base [] none h = subst (HasHistory told base) (sym (append-nil notes)) h
  history_copies told base (c ∷ cs) none h = history_more told base notes _ h (record {
    legal = λ t. omega arith;
    unbroken = inl none;
    helps = λ other. absurd (other refl);
    step = λ no. absurd (let wrong : false ≡ true = no in cc);
  })

  pub passed_before : (nones : ℕ → ℕ) (cs : List Write) → HasPassed nones (notes ++ copy_notes look cs) → HasPassed nones notes
  passed_before nones [] h = subst (HasPassed nones) (append-nil notes) h
  passed_before nones (c ∷ cs) h = passed_front nones notes _ h

  pub passed_copies : (nones : ℕ → ℕ) (cs : List Write) → HasPassed nones notes → HasPassed nones (notes ++ copy_notes look cs)
  passed_copies nones [] h = subst (HasPassed nones) (sym (append-nil notes)) h
  passed_copies nones (c ∷ cs) h = none_passed nones notes _ refl h

-- ---- Other entries

module _ {D : Type 0} (tells : Bool) (state : D → State) (m : Manager D) (b : ManagerBase) where
  -- what is kept up with some entries, with others: by what is upheld and passed with these
  kept_with : {A B : List Noted} (k : Keeps tells state m b A) → Upholds (parts_of tells state) b.volume.began (seen m k.logs) B (writes (entries_of B)) (flight_of (entries_of B)) → HasPassed (nones_at m.lanes.items b.lanes) B
      → Keeps tells state m b B
  kept_with k upholds passed = record { logs = k.logs; held = k.held; upholds = upholds; in_use = k.in_use; passed = passed; taken = k.taken; still = k.still; ready = k.ready; locks = k.locks }

  -- so it is with others that have the same writes
  pub renoted : (A B : List Noted) → writes (entries_of B) ≡ writes (entries_of A) → flight_of (entries_of B) ≡ flight_of (entries_of A) → HasHistory (IsTrue tells) b.volume.began B → HasPassed (nones_at m.lanes.items b.lanes) B
      → Keeps tells state m b A → Keeps tells state m b B
  renoted A B ws fl history passed k = kept_with k
      (subst (λ (v : List Write). Upholds (parts_of tells state) b.volume.began (seen m k.logs) B v (flight_of (entries_of B))) (sym ws)
      (subst (λ (f : Option (List Write)). Upholds (parts_of tells state) b.volume.began (seen m k.logs) B (writes (entries_of A)) f) (sym fl) (upheld_with k.upholds history))) passed

  pub unbroken : (notes : List Noted) → Keeps tells state m b notes → m.down ≡ None → flight_of (entries_of notes) ≡ None
  unbroken notes k up = not_broken (parts_of tells state) b.volume.began (seen m k.logs) notes (writes (entries_of notes)) (flight_of (entries_of notes)) k.upholds (ap down_of up)

  -- an entry that writes nothing is left out
  pub left_out : (notes : List Noted) (n : Noted) (o : Operation) → n.entry.operation ≡ o → written_by o ≡ [] → flight_from o None ≡ None → Keeps tells state m b (notes ++ n ∷ []) → Keeps tells state m b notes
  left_out notes n o does none calm k = renoted (notes ++ n ∷ []) notes
      (sym (writes_then notes n o does ∙ ap (λ (l : List Write). writes (entries_of notes) ++ l) none ∙ append-nil (writes (entries_of notes))))
      (sym (flight_then notes n o does ∙ ap (option_or (flight_of (entries_of notes))) calm ∙ or_none (flight_of (entries_of notes))))
      (history_front (IsTrue tells) b.volume.began notes n k.upholds.history)
      (passed_front (nones_at m.lanes.items b.lanes) notes n k.passed) k

  -- the last entry with other notes
  pub other_note : (notes : List Noted) (p n : Noted) → n.entry.operation ≡ p.entry.operation → n.entry.pass ≡ worker → n.passed ≡ [] → (IsTrue n.ruled → IsStep n n.entry.pass n.entry.operation (last_look b.volume.began.look notes) n.look)
      → flight_of (entries_of notes) ≡ None → Keeps tells state m b (notes ++ p ∷ []) → Keeps tells state m b (notes ++ n ∷ [])
  other_note notes p n same client passed step none k = renoted (notes ++ p ∷ []) (notes ++ n ∷ [])
      (writes_then notes n p.entry.operation same ∙ sym (writes_then notes p p.entry.operation refl))
      (flight_then notes n p.entry.operation same ∙ sym (flight_then notes p p.entry.operation refl))
      (history_more (IsTrue tells) b.volume.began notes n (history_front (IsTrue tells) b.volume.began notes p k.upholds.history) (record {
        legal = λ t. subst (IsLegalNext (after b.volume.began.array (writes (entries_of notes)))) (sym same) (legal_of t);
        unbroken = inl none;
        helps = λ other. absurd (other client);
        step = step;
      }))
      (none_passed (nones_at m.lanes.items b.lanes) notes n passed (passed_front (nones_at m.lanes.items b.lanes) notes p k.passed)) k
    where
      legal_of : IsTrue tells → IsLegalNext (after b.volume.began.array (writes (entries_of notes))) p.entry.operation
      legal_of t = legal_last b.volume.began.array (entries_of notes) p.entry
          (subst (Rattle.wol_model.specs.History.AreLegalNext b.volume.began.array) (Rattle.wol_promise.proofs.OneMore.entries_more notes p) (k.upholds.history.replies t))

  -- copies after copies
  pub copies_joined : (notes : List Noted) (l l' : Look) (cs ds : List Write) → flight_of (entries_of notes) ≡ None → Keeps tells state m b ((notes ++ copy_notes l cs) ++ copy_notes l' ds) → Keeps tells state m b (notes ++ copy_notes l (cs ++ ds))
  copies_joined notes l l' cs ds none k = renoted ((notes ++ copy_notes l cs) ++ copy_notes l' ds) (notes ++ copy_notes l (cs ++ ds))
      (writes_copies notes l (cs ++ ds) ∙ sym (writes_copies (notes ++ copy_notes l cs) l' ds ∙ ap (λ (v : List Write). v ++ ds) (writes_copies notes l cs) ∙ append_assoc (writes (entries_of notes)) cs ds))
      (flight_copies notes l (cs ++ ds) ∙ sym (flight_copies (notes ++ copy_notes l cs) l' ds ∙ flight_copies notes l cs))
      (history_copies notes l (IsTrue tells) b.volume.began (cs ++ ds) none (history_before notes l (IsTrue tells) b.volume.began cs (history_before (notes ++ copy_notes l cs) l' (IsTrue tells) b.volume.began ds k.upholds.history)))
      (passed_copies notes l (nones_at m.lanes.items b.lanes) (cs ++ ds) (passed_before notes l (nones_at m.lanes.items b.lanes) cs (passed_before (notes ++ copy_notes l cs) l' (nones_at m.lanes.items b.lanes) ds k.passed))) k

  -- what stands with the entry of copies
  pub stands_copies : (notes : List Noted) (l : Look) (cs : List Write) (n : Noted) → flight_of (entries_of notes) ≡ None → n.entry.pass ≡ worker → IsNote (last_look b.volume.began.look notes) (wrote cs) [] (look_of_manager m) n
      → Keeps tells state m b (notes ++ copy_notes l cs) → Stands tells state m b (notes ++ n ∷ [])
  stands_copies notes l [] n none client note k =
      let k' = subst (Keeps tells state m b) (append-nil notes) k in
      stands_kept tells state m b notes n [] note (none_passed (nones_at m.lanes.items b.lanes) notes n note.passed_is k'.passed) k'
  stands_copies notes l (c ∷ cs) n none client note k = record {
    keeps = other_note notes _ n note.operation_is client note.passed_is note.follows none k;
    look = last_more b.volume.began.look notes n ∙ note.look_is;
  }

  -- copies, and then a disk call that failed
  pub stands_broken : (notes : List Noted) (l : Look) (cs fs : List Write) (p n : Noted) → flight_of (entries_of notes) ≡ None → AreLogged fs → n.entry.pass ≡ worker → IsNote (last_look b.volume.began.look notes) (Broke (cs ++ fs)) [] (look_of_manager m) n
      → p.entry.operation ≡ Broke fs → Keeps tells state m b ((notes ++ copy_notes l cs) ++ p ∷ []) → Stands tells state m b (notes ++ n ∷ [])
  stands_broken notes l cs fs p n none logged client note does k = record {
    keeps = kept_with k
        (subst (λ (v : List Write). Upholds (parts_of tells state) b.volume.began (seen m k.logs) (notes ++ n ∷ []) v (flight_of (entries_of (notes ++ n ∷ []))))
        (sym (writes_then notes n (Broke (cs ++ fs)) note.operation_is ∙ append-nil (writes (entries_of notes))))
        (subst (λ (f : Option (List Write)). Upholds (parts_of tells state) b.volume.began (seen m k.logs) (notes ++ n ∷ []) (writes (entries_of notes)) f)
        (sym (flight_then notes n (Broke (cs ++ fs)) note.operation_is ∙ ap (λ (o : Option (List Write)). option_or o (Some (cs ++ fs))) none))
        (upholds_sooner (parts_of tells state) b.volume.began (seen m k.logs) ((notes ++ copy_notes l cs) ++ p ∷ []) (notes ++ n ∷ []) (writes (entries_of notes)) cs fs was history logged)))
        (none_passed (nones_at m.lanes.items b.lanes) notes n note.passed_is (passed_before notes l (nones_at m.lanes.items b.lanes) cs (passed_front (nones_at m.lanes.items b.lanes) (notes ++ copy_notes l cs) p k.passed)));
    look = last_more b.volume.began.look notes n ∙ note.look_is;
  }
    where
      history : HasHistory (IsTrue tells) b.volume.began (notes ++ n ∷ [])
      history = history_more (IsTrue tells) b.volume.began notes n
          (history_before notes l (IsTrue tells) b.volume.began cs (history_front (IsTrue tells) b.volume.began (notes ++ copy_notes l cs) p k.upholds.history)) (record {
            legal = λ t. subst (IsLegalNext (after b.volume.began.array (writes (entries_of notes)))) (sym note.operation_is) tt;
            unbroken = inl none;
            helps = λ other. absurd (other client);
            step = note.follows;
          })

      was : Upholds (parts_of tells state) b.volume.began (seen m k.logs) ((notes ++ copy_notes l cs) ++ p ∷ []) (writes (entries_of notes) ++ cs) (Some fs)
      was = subst (λ (v : List Write). Upholds (parts_of tells state) b.volume.began (seen m k.logs) ((notes ++ copy_notes l cs) ++ p ∷ []) v (Some fs))
          (writes_then (notes ++ copy_notes l cs) p (Broke fs) does ∙ append-nil (writes (entries_of (notes ++ copy_notes l cs))) ∙ writes_copies notes l cs)
          (subst (λ (f : Option (List Write)). Upholds (parts_of tells state) b.volume.began (seen m k.logs) ((notes ++ copy_notes l cs) ++ p ∷ []) (writes (entries_of ((notes ++ copy_notes l cs) ++ p ∷ []))) f)
          (flight_then (notes ++ copy_notes l cs) p (Broke fs) does ∙ ap (λ (o : Option (List Write)). option_or o (Some fs)) (flight_copies notes l cs ∙ none)) k.upholds)

-- ---- Calls

module _ {D : Type 0} (tells : Bool) (state : D → State) where
  abbrev plain_note : Operation → Look → (passed : List ℕ) → Noted
  plain_note o look passed = record { entry = record { pass = worker; operation = o }; look = look; passed = passed; after_drain = false; ruled = false }

  is_plain : (l : Look) (o : Operation) (look : Look) (passed : List ℕ) → IsNote l o passed look (plain_note o look passed)
  is_plain l o look passed = record { operation_is = refl; look_is = refl; passed_is = refl; drain = refl; follows = λ no. absurd (let wrong : false ≡ true = no in cc) }

  -- a call that left an entry without writes
  pub keeps_plain : (old new : Manager D) (o : Operation) (passed : List ℕ) → written_by o ≡ [] → flight_from o None ≡ None → Leaves tells state old new o passed worker → KeepsCopies tells state old new []
  keeps_plain old new o passed none calm leaves b notes look k =
      let n = plain_note o (look_of_manager new) passed in
      subst (Keeps tells state new b) (sym (append-nil notes)) (left_out tells state new b notes n o refl none calm (leaves b notes n refl (is_plain (last_look b.volume.began.look notes) o (look_of_manager new) passed) k).keeps)

  -- a call that wrote
  pub keeps_wrote : (old new : Manager D) (ws : List Write) (passed : List ℕ) → 1 ≤ length ws → old.down ≡ None → Leaves tells state old new (Wrote ws) passed worker → KeepsCopies tells state old new ws
  keeps_wrote old new [] passed some up leaves b notes look k = absurd (omega (arith, some))
  keeps_wrote old new (w ∷ ws) passed some up leaves b notes look k =
      let n = plain_note (Wrote (w ∷ ws)) (look_of_manager new) passed in
      other_note tells state new b notes n _ refl refl refl (λ no. absurd (let wrong : false ≡ true = no in cc)) (unbroken tells state old b notes k up)
      (leaves b notes n refl (is_plain (last_look b.volume.began.look notes) (Wrote (w ∷ ws)) (look_of_manager new) passed) k).keeps

  -- a call that failed, with this in flight
  pub leaves_broken : (old new : Manager D) (fs : List Write) (passed : List ℕ) → old.down ≡ None → Leaves tells state old new (Broke fs) passed worker → LeavesEntry tells state old new (Broke fs)
  leaves_broken old new fs passed up leaves b notes n client note k =
      let p = plain_note (Broke fs) (look_of_manager new) passed in record {
        keeps = other_note tells state new b notes p n note.operation_is client note.passed_is note.follows (unbroken tells state old b notes k up)
            (leaves b notes p refl (is_plain (last_look b.volume.began.look notes) (Broke fs) (look_of_manager new) passed) k).keeps;
        look = last_more b.volume.began.look notes n ∙ note.look_is;
      }

  -- the content that a read gave, by the entry that it left
  pub read_content : (old new : Manager D) (first : ℕ) (reply : List Block) → Leaves tells state old new (Read first reply) [] worker → IsTrue tells → (b : ManagerBase) (notes : List Noted) → Keeps tells state old b notes
      → reply ≡ slice_range (array_of b notes) first (first + length reply)
  read_content old new first reply leaves told b notes k =
      let n = plain_note (Read first reply) (look_of_manager new) [] in
      let s = leaves b notes n refl (is_plain (last_look b.volume.began.look notes) (Read first reply) (look_of_manager new) []) k in
      legal_last b.volume.began.array (entries_of notes) n.entry (subst (Rattle.wol_model.specs.History.AreLegalNext b.volume.began.array) (Rattle.wol_promise.proofs.OneMore.entries_more notes n) (s.keeps.upholds.history.replies told))

  -- ---- One after another

  pub keeps_then : (old mid new : Manager D) (cs ds : List Write) → old.down ≡ None → KeepsCopies tells state old mid cs → KeepsCopies tells state mid new ds → KeepsCopies tells state old new (cs ++ ds)
  keeps_then old mid new cs ds up first second b notes look k =
      copies_joined tells state new b notes look look cs ds (unbroken tells state old b notes k up) (second b (notes ++ copy_notes look cs) look (first b notes look k))

  pub leaves_copies : (old new : Manager D) (cs : List Write) → old.down ≡ None → KeepsCopies tells state old new cs → LeavesEntry tells state old new (wrote cs)
  leaves_copies old new cs up keeps b notes n client note k =
      stands_copies tells state new b notes (look_of_manager new) cs n (unbroken tells state old b notes k up) client note (keeps b notes (look_of_manager new) k)

  pub leaves_then : (old mid new : Manager D) (cs fs : List Write) → old.down ≡ None → AreLogged fs → KeepsCopies tells state old mid cs → LeavesEntry tells state mid new (Broke fs) → LeavesEntry tells state old new (Broke (cs ++ fs))
  leaves_then old mid new cs fs up logged keeps leaves b notes n client note k =
      let l = look_of_manager new in
      let p = plain_note (Broke fs) l [] in
      stands_broken tells state new b notes l cs fs p n (unbroken tells state old b notes k up) logged client note refl
      (leaves b (notes ++ copy_notes l cs) p refl (is_plain (last_look b.volume.began.look (notes ++ copy_notes l cs)) (Broke fs) l []) (keeps b notes l k)).keeps

  moments_then : (owner : ℕ) (array : List Block) (old mid new : Manager D) → AtEachMoment tells state owner array old mid → AtEachMoment tells state owner array mid new → AtEachMoment tells state owner array old new
  moments_then owner array old mid new first (no_call m) = first
  moments_then owner array old mid new first (one_more m k n claimed before claims step) = one_more old k n claimed (moments_then owner array old m k first before) claims step

  -- the array is the same after copies
  pub array_copies : (b : ManagerBase) (notes : List Noted) (l : Look) (cs : List Write) → AllByRecursion (IsCopyOf (array_of b notes)) cs → array_of b (notes ++ copy_notes l cs) ≡ array_of b notes
  array_copies b notes l cs all = ap (after b.volume.began.array) (writes_copies notes l cs) ∙ after_more b.volume.began.array (writes (entries_of notes)) cs ∙ after_copies (array_of b notes) cs all

  pub copies_then : (old mid new : Manager D) (cs ds : List Write) → KeepsCopies tells state old mid cs → AreCopies tells state old mid cs → AreCopies tells state mid new ds → AreCopies tells state old new (cs ++ ds)
  copies_then old mid new cs ds keeps first second = record {
    same = λ told b notes k.
        let here = first.same told b notes k in
        let l = look_of_manager mid in
        all_joined (IsCopyOf (array_of b notes)) cs ds here (subst (λ (a : List Block). AllByRecursion (IsCopyOf a) ds) (array_copies b notes l cs here) (second.same told b (notes ++ copy_notes l cs) (keeps b notes l k)));
    any_moment = λ told b notes k.
        let here = first.same told b notes k in
        let l = look_of_manager mid in
        moments_then b.volume.began.owner (array_of b notes) old mid new (first.any_moment told b notes k)
        (subst (λ (a : List Block). AtEachMoment tells state b.volume.began.owner a mid new) (array_copies b notes l cs here) (second.any_moment told b (notes ++ copy_notes l cs) (keeps b notes l k)));
    logged = all_joined (λ (w : Write). IsSome w.version) cs ds first.logged second.logged;
  }

  -- nothing was done
  pub keeps_none : (m : Manager D) → KeepsCopies tells state m m []
  keeps_none m b notes look k = subst (Keeps tells state m b) (sym (append-nil notes)) k

  pub copies_none : (m : Manager D) → AreCopies tells state m m []
  copies_none m = record { same = λ told b notes k. tt; any_moment = λ told b notes k. no_call m; logged = tt }

  -- a call that writes nothing
  pub copies_plain : (old new : Manager D) → old.down ≡ None → (IsTrue tells → (claimed : Option (Spun D)) × Claims tells state old.lanes.items new.lanes.items claimed × ((b : ManagerBase) (notes : List Noted) → Keeps tells state old b notes → Stops state old new claimed b notes [])) → AreCopies tells state old new []
  copies_plain old new up stops = record {
    same = λ told b notes k. tt;
    any_moment = λ told b notes k. let s = stops told in one_more old old new s.0 (no_call old) s.1 (λ before after was is home segments h zip.
        cut_none b.volume.began.array (writes (entries_of notes)) (recovered b.volume.began.owner home segments)
        (subst (λ (f : List Write). IsCut b.volume.began.array (writes (entries_of notes)) f (recovered b.volume.began.owner home segments)) (nothing (flight_of (entries_of notes)) (unbroken tells state old b notes k up))
        (s.2 b notes k before after was is home segments h zip)));
    logged = tt;
  }
    where
      nothing : (f : Option (List Write)) → f ≡ None → Rattle.std.specs.Prelude.unwrap_or f [] ≡ []
      nothing f is = ap (λ (o : Option (List Write)). Rattle.std.specs.Prelude.unwrap_or o []) is
