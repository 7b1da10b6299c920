-- What turns of a worker's pass add to the entries of a volume that nobody else uses.
use Rattle.std.proofs.Common.{◌≡◌, ◌++◌, ◌∷◌, [], ℕ, Bool, List, refl, sym, ap, subst, ◌∙◌, inl, append_assoc}
use Rattle.std.specs.Prelude.{IsTrue}
use Rattle.turn_lock.specs.Histories.{Entry, own, Begins}
use Rattle.turn_lock.specs.LockIds.{LockId}
use Rattle.turn_lock.specs.Passes.{pass_mine}
use Rattle.wol_model.specs.Blocks.{Write}
use Rattle.wol_model.specs.History.{Broke, Kept, worker}
use Rattle.wol_promise.specs.Manager.{Base}
use Rattle.wol_promise.specs.Policy.{Look}
use Rattle.wol_promise.specs.Ruled.{AreRuled, IsStep, Noted, last_look}
use Rattle.manager.specs.Answers.{home_write}
use Rattle.manager.specs.Stands.{notes_of}
use Rattle.manager.specs.declared.base.ManagerBase.{ManagerBase}
use Rattle.manager.specs.declared.part.WriteRefusal.TheVariants as refused_write
use Rattle.request_turns.specs.Causes as causes
use Rattle.request_turns.specs.Turns.{ManagerPass, began, coded, HasTurned, Stays}
use Rattle.request_turns.specs.declared.outcome.Outcome.TheVariants as outcome
use Rattle.request_turns.proofs.Gaining.{stays_so}
use Rattle.request_turns.proofs.Noting.{notes_at}
use Rattle.nbd_session.specs.Turns.{Turn, Looked, NotLooked, Read, NotRead, Wrote, NotWrote}
use Rattle.nbd_serving.specs.Pieces.{IsTurnAt, Pieces, pieces_of}
use Rattle.nbd_serving.specs.Turns.{MakesTurn, write_refusal}
use Rattle.nbd_serving.proofs.Alone.{AreOf, all_begins, own_all}
use Rattle.nbd_serving.proofs.Law.{IsWorkerOf, step_alone}
use Rattle.nbd_serving.specs.Entries.{AddsEntry, BreaksAt, LackedMemory}
use Rattle.nbd_serving.proofs.Flights.{kept_breaks, read_breaks, wrote_breaks, not_read_breaks, not_written_breaks}

-- the entry of one turn, behind these
record IsOneTurn {D : Type 0} (tells : Bool) (t : Turn) (p q : ManagerPass D) : Type 0 where
  before : List Entry
  note : Noted
  turned : HasTurned tells p q before note
  stays : note.entry.operation ≡ Kept → Stays (LackedMemory t) (last_look (began p).look (notes_of before)) note
  breaks : (flight : List Write) → note.entry.operation ≡ Broke flight → BreaksAt (began p).owner (notes_of before) note flight

one_turn : {D : Type 0} (tells : Bool) (t : Turn) (p q : ManagerPass D) → MakesTurn tells t p q → IsOneTurn tells t p q
one_turn tells Looked p q h = record {
  before = h.before;
  note = h.note;
  turned = h.turned;
  stays = λ kept. inl h.same;
  breaks = kept_breaks (began p).owner (notes_of h.before) h.note h.kept;
}
one_turn tells (NotLooked r) p q (part, h, is) = record {
  before = h.before;
  note = h.note;
  turned = h.turned;
  stays = λ kept. inl h.same;
  breaks = kept_breaks (began p).owner (notes_of h.before) h.note h.kept;
}
one_turn tells (Read at blocks) p q (sources, h) = record {
  before = h.before;
  note = h.note;
  turned = h.turned;
  stays = λ kept. inl (h.stays kept);
  breaks = read_breaks (began p).owner (notes_of h.before) h.note at blocks h.entry.operation;
}
one_turn tells (NotRead at count r) p q (why, open_, h, long, is) = record {
  before = h.before;
  note = h.note;
  turned = h.turned;
  stays = λ kept. inl (h.stays kept);
  breaks = not_read_breaks tells at open_ why p q h;
}
one_turn tells (Wrote at blocks) p q (place, drained, h) = record {
  before = h.before;
  note = h.note;
  turned = h.turned;
  stays = λ kept. stays_so (causes.LackedMemory (home_write at blocks) (outcome.Wrote place drained)) (LackedMemory (Wrote at blocks))
      (λ w lacked. absurd (let no : outcome.Wrote place drained ≡ outcome.NoWrite refused_write.NoMemory = lacked.1 in cc)) (last_look (began p).look (notes_of h.before)) h.note (h.stays kept);
  breaks = wrote_breaks (began p).owner (notes_of h.before) h.note (h.entry.write ∷ []) h.entry.operation;
}
one_turn tells (NotWrote at blocks r) p q (why, h, is) = record {
  before = h.before;
  note = h.note;
  turned = h.turned;
  stays = λ kept. stays_so (causes.LackedMemory (home_write at blocks) (outcome.NoWrite why)) (LackedMemory (NotWrote at blocks r))
      (λ w lacked. let out : outcome.NoWrite why ≡ outcome.NoWrite refused_write.NoMemory = lacked.1 in let wanting : why ≡ refused_write.NoMemory = cc out in (at, blocks, ap (NotWrote at blocks) (is ∙ ap write_refusal wanting), lacked.0))
      (last_look (began p).look (notes_of h.before)) h.note (h.stays kept);
  breaks = not_written_breaks tells at blocks why p q h;
}

ruled_last : (l : Look) (notes : List Noted) (n : Noted) → AreRuled l (notes ++ n ∷ []) → IsTrue n.ruled → IsStep n n.entry.pass n.entry.operation (last_look l notes) n.look
ruled_last l [] n all ruled = all.0 ruled
ruled_last l (m ∷ notes) n all ruled = ruled_last m.look notes n all.1 ruled

-- what the manager under a lock began with
abbrev base_in : LockId ManagerBase → Base
base_in lock = lock.base.volume.began

-- the entries that a pass has made
abbrev pub noted : {D : Type 0} → ManagerPass D → List Noted
noted p = notes_of (pass_mine p)

module _ {D : Type 0} (tells : Bool) (lock : LockId ManagerBase) (es : List Entry) (alone : AreOf worker es) where
  module _ (p q : ManagerPass D) (fits : IsWorkerOf lock es p) (fits_then : IsWorkerOf lock es q) (t : Turn) (one : IsOneTurn tells t p q) where
    abbrev n : Noted
    n = one.note

    front_begins : Begins one.before es
    front_begins =
        (coded n ∷ fits_then.begins.0, sym (append_assoc one.before (coded n ∷ []) fits_then.begins.0) ∙ ap (λ (xs : List Entry). xs ++ fits_then.begins.0) (sym one.turned.seen) ∙ fits_then.begins.1)

    -- nobody else made an entry before
    before_is : one.before ≡ pass_mine p
    before_is = sym (own_all worker one.before (all_begins worker one.before es front_begins alone)) ∙ ap (λ (k : ℕ). own k one.before) (sym fits.number) ∙ one.turned.others

    adds_one : noted q ≡ noted p ++ n ∷ []
    adds_one = ap notes_of one.turned.mine ∙ notes_at (pass_mine p) n.entry.pass n refl

    pass_is : n.entry.pass ≡ worker
    pass_is = one.turned.number ∙ fits.number

    history : AreRuled (began q).look (notes_of one.before ++ n ∷ [])
    history = subst (AreRuled (began q).look) (ap notes_of one.turned.seen ∙ notes_at one.before n.entry.pass n refl) one.turned.history.ruled

    look_then : last_look (began q).look (notes_of one.before) ≡ last_look (base_in lock).look (noted p)
    look_then = λ i. last_look (fits_then.own_lock i).base.volume.began.look (notes_of (before_is i))

    look_before : last_look (began p).look (notes_of one.before) ≡ last_look (base_in lock).look (noted p)
    look_before = λ i. last_look (fits.own_lock i).base.volume.began.look (notes_of (before_is i))

    ruled : IsStep n worker n.entry.operation (last_look (base_in lock).look (noted p)) n.look
    ruled =
        subst (λ (k : ℕ). IsStep n k n.entry.operation (last_look (base_in lock).look (noted p)) n.look) pass_is
        (subst (λ (l : Look). IsStep n n.entry.pass n.entry.operation l n.look) look_then (ruled_last (began q).look (notes_of one.before) n history one.turned.ruled))

    pieces_at : (r : ManagerPass D) → IsWorkerOf lock es r → pieces_of (began r).look (noted r) ≡ pieces_of (base_in lock).look (noted r)
    pieces_at r is = ap (λ (l : LockId ManagerBase). pieces_of l.base.volume.began.look (noted r)) is.own_lock

    breaks_then : (flight : List Write) → n.entry.operation ≡ Broke flight → BreaksAt (base_in lock).owner (noted p) n flight
    breaks_then flight is =
        subst (λ (xs : List Entry). BreaksAt (base_in lock).owner (notes_of xs) n flight) before_is
        (subst (λ (l : LockId ManagerBase). BreaksAt l.base.volume.began.owner (notes_of one.before) n flight) fits.own_lock (one.breaks flight is))

    adds_at : IsTurnAt (IsTrue tells) (base_in lock).array t (pieces_of (began p).look (noted p)) (pieces_of (began q).look (noted q)) → AddsEntry (IsTrue tells) (base_in lock) t (noted p) (noted q)
    adds_at turn = record {
      note = n;
      adds = adds_one;
      pass = pass_is;
      step = ruled;
      stays = λ kept. subst (λ (l : Look). Stays (LackedMemory t) l n) look_before (one.stays kept);
      breaks = breaks_then;
      is_turn = subst (λ (x : Pieces). IsTurnAt (IsTrue tells) (base_in lock).array t x (pieces_of (base_in lock).look (noted q))) (pieces_at p fits)
          (subst (λ (x : Pieces). IsTurnAt (IsTrue tells) (base_in lock).array t (pieces_of (began p).look (noted p)) x) (pieces_at q fits_then) turn);
    }

  pub adds : (t : Turn) (p q : ManagerPass D) → IsWorkerOf lock es q → MakesTurn tells t p q → IsWorkerOf lock es p × AddsEntry (IsTrue tells) (base_in lock) t (noted p) (noted q)
  adds t p q fits makes =
      let at = step_alone tells lock es alone t p q fits makes in
      (at.0, adds_at p q at.0 fits t (one_turn tells t p q makes) at.1)
