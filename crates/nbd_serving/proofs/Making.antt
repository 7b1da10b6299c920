-- A worker behind a turn.
use Rattle.std.proofs.Common.{◌≡◌, ℕ, Bool, List, length, Result, Err, refl, sym, ap, subst, ◌∙◌}
use Rattle.turn_lock.specs.Histories.{Entry}
use Rattle.turn_lock.specs.LockIds.{LockId}
use Rattle.turn_lock.specs.Passes.{pass_lock, IsFree, IsSamePass}
use Rattle.wol_disk.specs.Disk.{Block}
use Rattle.wol_promise.specs.Ruled.{Noted}
use Rattle.logger.specs.declared.shared.Shared.{Shared}
use Rattle.manager.specs.Stands.{IsShared}
use Rattle.manager.specs.declared.base.ManagerBase.{ManagerBase}
use Rattle.manager.specs.declared.part.ReadRefusal.{ReadRefusal}
use Rattle.request_turns.specs.Blocks.{HasReadBlocks, HasWrittenBlocks}
use Rattle.request_turns.specs.Helped.{ManagerLock}
use Rattle.request_turns.specs.Turns.{ManagerPass, HasTurned}
use Rattle.request_turns.specs.declared.outcome.Outcome.{Outcome}
use Rattle.request_turns.specs.declared.outcome.Outcome.TheVariants as outcome
use Rattle.nbd_session.specs.Turns.{Turn, Looked, NotLooked, Read, NotRead, Wrote, NotWrote, write_turn}
use Rattle.nbd_session.specs.declared.volume.Refusal.{Refusal}
use Rattle.nbd_serving.specs.Turns.{AnswersWrite, IsOfWrite, MakesTurn, read_refusal}
use Rattle.nbd_serving.specs.Workers.{CanServe}

-- it can serve still, whatever its turns were
pub still : {D : Type 0} (lock : ManagerLock D) (p q : ManagerPass D) (shared : Shared D) (home most : ℕ) → IsSamePass p q → IsFree q → CanServe lock p shared home most → CanServe lock q shared home most
still lock p q shared home most same free can =
    let based : (pass_lock q).base ≡ (pass_lock p).base = ap (λ (l : LockId ManagerBase). l.base) same.0 in record {
      pass = record { own = same.0 ∙ can.own; free = free; number_is = same.1 ∙ can.number_is };
      at = subst (IsShared shared) (sym based) can.at;
      home_ = ap (λ (b : ManagerBase). b.volume.began.home_blocks) based ∙ can.home_;
      most_ = ap (λ (b : ManagerBase). b.volume.began.most) based ∙ can.most_;
      some = can.some;
      few = can.few;
    }

-- a turn of a session is one of the pass, behind these entries
pub record IsTurnOf {D : Type 0} (tells : Bool) (p q : ManagerPass D) : Type 0 where
  pub before : List Entry
  pub note : Noted
  pub turned : HasTurned tells p q before note

pub turned_of : {D : Type 0} (tells : Bool) (p q : ManagerPass D) (t : Turn) → MakesTurn tells t p q → IsTurnOf tells p q
turned_of tells p q Looked h = record { before = h.before; note = h.note; turned = h.turned }
turned_of tells p q (NotLooked r) (part, h, is) = record { before = h.before; note = h.note; turned = h.turned }
turned_of tells p q (Read at blocks) (sources, h) = record { before = h.before; note = h.note; turned = h.turned }
turned_of tells p q (NotRead at count r) (why, open_, h, long, is) = record { before = h.before; note = h.note; turned = h.turned }
turned_of tells p q (Wrote at blocks) (place, drained, h) = record { before = h.before; note = h.note; turned = h.turned }
turned_of tells p q (NotWrote at blocks r) (why, h, is) = record { before = h.before; note = h.note; turned = h.turned }

-- behind each turn of a session
pub made_still : {D : Type 0} (tells : Bool) (lock : ManagerLock D) (p q : ManagerPass D) (t : Turn) (shared : Shared D) (home most : ℕ) → MakesTurn tells t p q → CanServe lock p shared home most → CanServe lock q shared home most
made_still tells lock p q t shared home most made can =
    let one = turned_of tells p q t made in
    still lock p q shared home most one.turned.same one.turned.free can

-- ---- A read

-- what it answers is its turn
pub read_made : {D : Type 0} (tells : Bool) (first count : ℕ) (blocks : List Block) (p q : ManagerPass D) (why : ReadRefusal) (r : Refusal) → length blocks ≡ count → r ≡ read_refusal why → HasReadBlocks tells first blocks (Err why) p q
    → MakesTurn tells (NotRead first count r) p q
read_made tells first count blocks p q why r long is h = (why, blocks, h, long, is)

-- ---- A write

-- its outcome is that of a write
pub of_write : {D : Type 0} (tells : Bool) (first : ℕ) (blocks : List Block) (o : Outcome) (p q : ManagerPass D) → HasWrittenBlocks tells first blocks o p q → IsOfWrite o
of_write tells first blocks (outcome.Read mark sources) p q h = absurd h.cause
of_write tells first blocks (outcome.Wrote place drained) p q h = tt
of_write tells first blocks (outcome.NoRead refusal) p q h = absurd h.cause
of_write tells first blocks (outcome.NoWrite refusal) p q h = tt
of_write tells first blocks outcome.NotRun p q h = absurd h.cause

-- and what it answers is its turn
pub write_made : {D : Type 0} (tells : Bool) (first : ℕ) (blocks : List Block) (o : Outcome) (p q : ManagerPass D) (answer : Result (Unit {0}) Refusal) → AnswersWrite o answer → HasWrittenBlocks tells first blocks o p q → MakesTurn tells (write_turn first blocks answer) p q
write_made tells first blocks (outcome.Read mark sources) p q answer is h = absurd is
write_made tells first blocks (outcome.Wrote place drained) p q answer is h =
    subst (λ (a : Result (Unit {0}) Refusal). MakesTurn tells (write_turn first blocks a) p q) (sym is) (place, drained, h)
write_made tells first blocks (outcome.NoRead refusal) p q answer is h = absurd is
write_made tells first blocks (outcome.NoWrite refusal) p q answer is h =
    subst (λ (a : Result (Unit {0}) Refusal). MakesTurn tells (write_turn first blocks a) p q) (sym is) (refusal, h, refl)
write_made tells first blocks outcome.NotRun p q answer is h = absurd is
