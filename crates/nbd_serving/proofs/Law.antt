-- A session at a worker is one at a plain array: each turn is the next of the worker's entries in the one history of the lock.
use Rattle.std.proofs.Common.{◌≡◌, ◌<◌, ◌^◌, ◌++◌, ◌∷◌, [], ℕ, zero, suc, Bool, true, false, List, map, take, Option, Result, refl, sym, ap, subst, ◌∙◌, inl, inr, append_assoc}
use Rattle.std.specs.Prelude.{◌⊎◌, IsTrue}
use Rattle.wol_disk.specs.Disk.{Block}
use Rattle.turn_lock.specs.Histories.{Entry, own, Begins}
use Rattle.turn_lock.specs.LockIds.{LockId}
use Rattle.turn_lock.specs.Passes.{pass_lock, pass_number, pass_seen, pass_mine}
use Rattle.wol_model.specs.ArrayLaws.{unversioned}
use Rattle.wol_model.specs.Blocks.{Write}
use Rattle.wol_model.specs.History.{worker, Kept}
use Rattle.wol_promise.specs.Manager.{Base}
use Rattle.wol_promise.specs.Ruled.{Noted, last_look}
use Rattle.wol_promise.specs.Stands.{HasHistory}
use Rattle.manager.specs.Answers.{home_write}
use Rattle.manager.specs.Stands.{notes_of}
use Rattle.manager.specs.declared.base.ManagerBase.{ManagerBase}
use Rattle.manager.specs.declared.part.ReadRefusal.TheVariants as refused_read
use Rattle.manager.specs.declared.part.WriteRefusal.{WriteRefusal}
use Rattle.manager.specs.declared.part.WriteRefusal.TheVariants as refused_write
use Rattle.request_turns.specs.Causes.{CanTake, LackedMemory}
use Rattle.request_turns.specs.Entries.{IsFlight}
use Rattle.request_turns.specs.Turns.{ManagerPass, began, coded, HasTurned, Stays}
use Rattle.request_turns.specs.declared.outcome.Outcome.TheVariants as outcome
use Rattle.request_turns.proofs.Noting.{notes_at}
use Rattle.nbd_session.specs.Sessions.{IsSession}
use Rattle.nbd_session.specs.Turns.{Turn, Looked, NotLooked, Read, NotRead, Wrote, NotWrote}
use Rattle.nbd_session.specs.declared.session.Ended.{Ended}
use Rattle.nbd_session.specs.declared.session.NbdFault.{NbdFault}
use Rattle.nbd_session.specs.declared.volume.Refusal.{Refusal}
use Rattle.nbd_session.proofs.Along.{session_along}
use Rattle.nbd_serving.specs.Histories.{TurnsIn}
use Rattle.nbd_serving.specs.Pieces.{BreaksWith, Pieces, TakesWrites, IsTurnAt, RefusesRead, RefusesWrite, piece, pieces_of}
use Rattle.nbd_serving.specs.Turns.{MakesTurn}
use Rattle.nbd_serving.proofs.Alone.{AreOf, all_begins, own_all}
use Rattle.nbd_serving.proofs.Noting.{is_broken, is_up, kept_same, read_same, read_told, wrote_more, broke_with}

-- in flight of one payload was nothing, or that
one_in_flight : (w : Write) (flight : List Write) → IsFlight (w ∷ []) flight → (flight ≡ []) ⊎ ((v : Write) × (flight ≡ v ∷ []) × (unversioned v ≡ w))
one_in_flight w flight is = at is.count flight is.same
  where
    at : (n : ℕ) (ws : List Write) → map unversioned ws ≡ take n (w ∷ []) → (ws ≡ []) ⊎ ((v : Write) × (ws ≡ v ∷ []) × (unversioned v ≡ w))
    at n [] same = inl refl
    at zero (v ∷ ws) same = absurd (cc same)
    at (suc n) (v ∷ []) same = inr (v, refl, (let is_it : unversioned v ≡ w = cc same in is_it))
    at (suc zero) (v ∷ (u ∷ ws)) same = absurd (cc same)
    at (suc (suc n)) (v ∷ (u ∷ ws)) same = absurd (cc same)

-- what a pass has made, as pieces
abbrev pub made : {D : Type 0} → ManagerPass D → Pieces
made p = pieces_of (began p).look (notes_of (pass_mine p))

-- the pass is the worker's of this lock, and has seen a beginning of these entries
pub record IsWorkerOf {D : Type 0} (lock : LockId ManagerBase) (es : List Entry) (p : ManagerPass D) : Type 0 where
  pub own_lock : pass_lock p ≡ lock
  pub number : pass_number p ≡ worker
  pub begins : Begins (pass_seen p) es

-- what the manager under a lock began with
abbrev base_in : LockId ManagerBase → Base
base_in lock = lock.base.volume.began

module _ {D : Type 0} (tells : Bool) (lock : LockId ManagerBase) (es : List Entry) where
  module _ (p q : ManagerPass D) (before : List Entry) (n : Noted) (turn : HasTurned tells p q before n) (fits : IsWorkerOf lock es q) where
    abbrev ns : List Noted
    ns = notes_of before

    lock_is : pass_lock p ≡ lock
    lock_is = sym turn.same.0 ∙ fits.own_lock

    number_is : pass_number p ≡ worker
    number_is = sym turn.same.1 ∙ fits.number

    front_is : before ++ coded n ∷ fits.begins.0 ≡ es
    front_is = sym (append_assoc before (coded n ∷ []) fits.begins.0) ∙ ap (λ (xs : List Entry). xs ++ fits.begins.0) (sym turn.seen) ∙ fits.begins.1

    began_first : Begins (pass_seen p) es
    began_first = (turn.begins.0 ++ coded n ∷ fits.begins.0, sym (append_assoc (pass_seen p) turn.begins.0 (coded n ∷ fits.begins.0)) ∙ ap (λ (xs : List Entry). xs ++ coded n ∷ fits.begins.0) turn.begins.1 ∙ front_is)

    fits_before : IsWorkerOf lock es p
    fits_before = record { own_lock = lock_is; number = number_is; begins = began_first }

    history_is : HasHistory (IsTrue tells) (base_in lock) (ns ++ n ∷ [])
    history_is =
        subst (λ (k : LockId ManagerBase). HasHistory (IsTrue tells) k.base.volume.began (ns ++ n ∷ [])) fits.own_lock
        (subst (HasHistory (IsTrue tells) (began q)) (ap notes_of turn.seen ∙ notes_at before n.entry.pass n refl) turn.history)

    pub so : (t : Turn) → IsTurnAt (IsTrue tells) (base_in lock).array t (pieces_of (base_in lock).look ns) (pieces_of (base_in lock).look (ns ++ n ∷ [])) → IsWorkerOf lock es p × TurnsIn (IsTrue tells) (base_in lock) es t (pass_mine p) (pass_mine q)
    so t h = (
      fits_before,
      record {
        before = before;
        note = n;
        behind = fits.begins.0;
        at = sym front_is;
        pass = turn.number ∙ number_is;
        own_ = ap (λ (k : ℕ). own k before) (sym number_is) ∙ turn.others;
        adds = turn.mine;
        is_turn = h;
      },
    )

    stays_at : (lacked : Write → Type 0) → Stays lacked (last_look (began p).look ns) n → Stays lacked (last_look (base_in lock).look ns) n
    stays_at lacked h = subst (λ (k : LockId ManagerBase). Stays lacked (last_look k.base.volume.began.look ns) n) lock_is h

    next_at : (last_look (began p).look ns).next ≡ (pieces_of (base_in lock).look ns).next
    next_at = ap (λ (k : LockId ManagerBase). (last_look k.base.volume.began.look ns).next) lock_is

    pub takes_at : CanTake ns (last_look (began p).look ns) → TakesWrites (pieces_of (base_in lock).look ns)
    takes_at h = record { up = is_up (base_in lock).look ns h.unbroken; left = subst (λ (k : ℕ). k < 2 ^ 63) next_at h.left }

    kept_at : (lacked : Write → Type 0) → n.entry.operation ≡ Kept → Stays lacked (last_look (began p).look ns) n → pieces_of (base_in lock).look (ns ++ n ∷ []) ≡ pieces_of (base_in lock).look ns
    kept_at lacked kept stays = kept_same (base_in lock).look ns n lacked kept (stays_at lacked stays)

    -- nothing was drained, or it was for this write
    pub same_at : n.entry.operation ≡ Kept → n.look ≡ last_look (began p).look ns → pieces_of (base_in lock).look (ns ++ n ∷ []) ≡ pieces_of (base_in lock).look ns
    same_at kept same = kept_at (λ w. ⊥) kept (inl same)

    pub refused_at : (at : ℕ) (blocks : List Block) (why : WriteRefusal) → n.entry.operation ≡ Kept → Stays (LackedMemory (home_write at blocks) (outcome.NoWrite why)) (last_look (began p).look ns) n
        → pieces_of (base_in lock).look (ns ++ n ∷ []) ≡ pieces_of (base_in lock).look ns
    refused_at at blocks why kept stays = kept_at (LackedMemory (home_write at blocks) (outcome.NoWrite why)) kept stays

    pub spent_at : (last_look (began p).look ns).next ≡ 2 ^ 63 → (pieces_of (base_in lock).look ns).next ≡ 2 ^ 63
    spent_at h = sym next_at ∙ h

  pub step : (t : Turn) (p q : ManagerPass D) → IsWorkerOf lock es q → MakesTurn tells t p q → IsWorkerOf lock es p × TurnsIn (IsTrue tells) (base_in lock) es t (pass_mine p) (pass_mine q)
  step Looked p q fits h =
      so p q h.before h.note h.turned fits Looked (
        is_up (base_in lock).look (notes_of h.before) (λ broken. absurd (let no : false ≡ true = h.cause.1 broken in cc)),
        same_at p q h.before h.note h.turned fits h.kept h.same,
      )
  step (NotLooked r) p q fits (part, h, is) =
      so p q h.before h.note h.turned fits (NotLooked r) (is, is_broken (base_in lock).look (notes_of h.before) (h.cause.0 refl), same_at p q h.before h.note h.turned fits h.kept h.same)
  step (Read at blocks) p q fits (sources, h) =
      let history = history_is p q h.before h.note h.turned fits in
      so p q h.before h.note h.turned fits (Read at blocks) (
        is_up (base_in lock).look (notes_of h.before) h.cause,
        read_same (base_in lock).look (notes_of h.before) h.note (IsTrue tells) (base_in lock) refl h.turned.ruled history at blocks h.entry.operation,
        read_told (base_in lock).look (notes_of h.before) h.note (IsTrue tells) (base_in lock) refl h.turned.ruled history at blocks h.entry.operation,
      )
  step (NotRead at count r) p q fits (refused_read.DiskFault d, open_, h, long, is) =
      let P : Refusal → Type 0 = λ (x : Refusal). RefusesRead x (pieces_of (base_in lock).look (notes_of h.before)) (pieces_of (base_in lock).look (notes_of h.before ++ h.note ∷ [])) in
      so p q h.before h.note h.turned fits (NotRead at count r) (subst P (sym is) (is_up (base_in lock).look (notes_of h.before) h.cause, broke_with (base_in lock).look (notes_of h.before) h.note [] h.entry h.cause))
  step (NotRead at count r) p q fits (refused_read.Down d, open_, h, long, is) =
      let P : Refusal → Type 0 = λ (x : Refusal). RefusesRead x (pieces_of (base_in lock).look (notes_of h.before)) (pieces_of (base_in lock).look (notes_of h.before ++ h.note ∷ [])) in
      so p q h.before h.note h.turned fits (NotRead at count r) (subst P (sym is) (is_broken (base_in lock).look (notes_of h.before) h.cause, same_at p q h.before h.note h.turned fits h.entry (h.stays h.entry)))
  step (Wrote at blocks) p q fits (place, drained, h) =
      let history = history_is p q h.before h.note h.turned fits in
      let more = wrote_more (base_in lock).look (notes_of h.before) h.note (IsTrue tells) (base_in lock) refl h.turned.ruled history (piece at blocks) h.entry.write h.entry.operation h.entry.same h.cause.unbroken in
      so p q h.before h.note h.turned fits (Wrote at blocks) (record { takes = takes_at p q h.before h.note h.turned fits h.cause; stand_ = more.0; flight_ = more.1; next_ = more.2 })
  step (NotWrote at blocks r) p q fits (refused_write.Full, h, is) = absurd h.cause
  step (NotWrote at blocks r) p q fits (refused_write.DiskFault d, h, is) =
      let P : Refusal → Type 0 = λ (x : Refusal). RefusesWrite (piece at blocks) x (pieces_of (base_in lock).look (notes_of h.before)) (pieces_of (base_in lock).look (notes_of h.before ++ h.note ∷ [])) in
      so p q h.before h.note h.turned fits (NotWrote at blocks r) (subst P (sym is) (
        takes_at p q h.before h.note h.turned fits h.cause,
        elim (one_in_flight (piece at blocks) h.entry.0 h.entry.2) [
          | inl none ↦ inl (subst (λ (ws : List Write). BreaksWith ws (pieces_of (base_in lock).look (notes_of h.before)) (pieces_of (base_in lock).look (notes_of h.before ++ h.note ∷ []))) none (broke_with (base_in lock).look (notes_of h.before) h.note h.entry.0 h.entry.1 h.cause.unbroken))
          | inr (v, one, same) ↦ inr (v, same, subst (λ (ws : List Write). BreaksWith ws (pieces_of (base_in lock).look (notes_of h.before)) (pieces_of (base_in lock).look (notes_of h.before ++ h.note ∷ []))) one (broke_with (base_in lock).look (notes_of h.before) h.note h.entry.0 h.entry.1 h.cause.unbroken))
        ],
      ))
  step (NotWrote at blocks r) p q fits (refused_write.Down d, h, is) =
      let P : Refusal → Type 0 = λ (x : Refusal). RefusesWrite (piece at blocks) x (pieces_of (base_in lock).look (notes_of h.before)) (pieces_of (base_in lock).look (notes_of h.before ++ h.note ∷ [])) in
      so p q h.before h.note h.turned fits (NotWrote at blocks r) (subst P (sym is) (is_broken (base_in lock).look (notes_of h.before) h.cause, refused_at p q h.before h.note h.turned fits at blocks (refused_write.Down d) h.entry (h.stays h.entry)))
  step (NotWrote at blocks r) p q fits (refused_write.VersionsSpent, h, is) =
      let P : Refusal → Type 0 = λ (x : Refusal). RefusesWrite (piece at blocks) x (pieces_of (base_in lock).look (notes_of h.before)) (pieces_of (base_in lock).look (notes_of h.before ++ h.note ∷ [])) in
      so p q h.before h.note h.turned fits (NotWrote at blocks r) (subst P (sym is) (is_up (base_in lock).look (notes_of h.before) h.cause.0, spent_at p q h.before h.note h.turned fits h.cause.1, refused_at p q h.before h.note h.turned fits at blocks refused_write.VersionsSpent h.entry.0 (h.stays h.entry.0)))
  step (NotWrote at blocks r) p q fits (refused_write.NoMemory, h, is) =
      let P : Refusal → Type 0 = λ (x : Refusal). RefusesWrite (piece at blocks) x (pieces_of (base_in lock).look (notes_of h.before)) (pieces_of (base_in lock).look (notes_of h.before ++ h.note ∷ [])) in
      so p q h.before h.note h.turned fits (NotWrote at blocks r) (subst P (sym is) (takes_at p q h.before h.note h.turned fits h.cause, refused_at p q h.before h.note h.turned fits at blocks refused_write.NoMemory h.entry (h.stays h.entry)))

  -- so a session is one of the worker's entries in this history
  pub session_in : (home most : ℕ) (p q : ManagerPass D) (left left' taken taken' : Option (List ℕ)) (result : Result Ended NbdFault) → IsWorkerOf lock es q → IsSession (MakesTurn tells) home most p q left left' taken taken' result
      → IsWorkerOf lock es p × IsSession (TurnsIn (IsTrue tells) (base_in lock) es) home most (pass_mine p) (pass_mine q) left left' taken taken' result
  session_in home most p q left left' taken taken' result fits s = session_along (MakesTurn tells) (TurnsIn (IsTrue tells) (base_in lock) es) pass_mine (IsWorkerOf lock es) step home most p q left left' taken taken' result s fits

  -- ---- Where nobody else made an entry

  module _ (alone : AreOf worker es) (t : Turn) (p q : ManagerPass D) (fits : IsWorkerOf lock es q) (fits_then : IsWorkerOf lock es p) (turn : TurnsIn (IsTrue tells) (base_in lock) es t (pass_mine p) (pass_mine q)) where
    before_is : turn.before ≡ pass_mine p
    before_is = sym (own_all worker turn.before (all_begins worker turn.before es (coded turn.note ∷ turn.behind, sym turn.at) alone)) ∙ turn.own_

    old_is : pieces_of (base_in lock).look (notes_of turn.before) ≡ made p
    old_is = λ i. pieces_of (sym fits_then.own_lock i).base.volume.began.look (notes_of (before_is i))

    mine_is : notes_of turn.before ++ turn.note ∷ [] ≡ notes_of (pass_mine q)
    mine_is = ap (λ (xs : List Entry). notes_of xs ++ turn.note ∷ []) before_is ∙ sym (notes_at (pass_mine p) turn.note.entry.pass turn.note refl) ∙ ap notes_of (sym turn.adds)

    new_is : pieces_of (base_in lock).look (notes_of turn.before ++ turn.note ∷ []) ≡ made q
    new_is = λ i. pieces_of (sym fits.own_lock i).base.volume.began.look (mine_is i)

    alone_turn : IsTurnAt (IsTrue tells) (base_in lock).array t (made p) (made q)
    alone_turn = subst (λ (x : Pieces). IsTurnAt (IsTrue tells) (base_in lock).array t (made p) x) new_is
        (subst (λ (x : Pieces). IsTurnAt (IsTrue tells) (base_in lock).array t x (pieces_of (base_in lock).look (notes_of turn.before ++ turn.note ∷ []))) old_is turn.is_turn)

  pub step_alone : AreOf worker es → (t : Turn) (p q : ManagerPass D) → IsWorkerOf lock es q → MakesTurn tells t p q → IsWorkerOf lock es p × IsTurnAt (IsTrue tells) (base_in lock).array t (made p) (made q)
  step_alone alone t p q fits makes =
      let at = step t p q fits makes in
      (at.0, alone_turn alone t p q fits at.0 at.1)
