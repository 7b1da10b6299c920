-- A request, or several writes, in one turn.
use Rattle.std.specs.Prelude.{◌≡◌, ◌≤◌, ◌∷◌, ℕ, Bool, List, [], Some, length, slice_get}
use Rattle.turn_lock.specs.Histories.{Entry}
use Rattle.wol_model.specs.History.{Kept}
use Rattle.wol_model.specs.declared.trace.Kind.TheVariants as kind
use Rattle.wol_promise.specs.Ruled.{Noted, last_look}
use Rattle.trace_windows.specs.declared.request.Request.{Request}
use Rattle.manager.specs.Stands.{notes_of}
use Rattle.request_turns.specs.Causes.{IsCauseOfWrite, OneLacked}
use Rattle.request_turns.specs.Turns.{ManagerPass, began, notes_seen, HasTurned, Stays}
use Rattle.request_turns.specs.Entries.{IsEntryOf, IsEntryOfFirst, TellsFault}
use Rattle.request_turns.specs.declared.outcome.Outcome.{Outcome}

-- one request that reads, in one turn
pub record HasAnswered {D : Type 0} (tells : Bool) (r : Request) (o : Outcome)
    (p q : ManagerPass D) : Type 0 where
  pub before : List Entry
  pub note : Noted
  pub turned : HasTurned tells p q before note
  pub entry : IsEntryOf (began p).view r [] o note
  pub stays : note.entry.operation ≡ Kept
      → note.look ≡ last_look (began p).look (notes_of before)
  pub fault : TellsFault (notes_seen q) o

-- some first ones of these requests, `count`, in one turn, all with this outcome
pub record HasAnsweredMany {D : Type 0} (tells : Bool) (rs : List Request) (count : ℕ) (o : Outcome)
    (p q : ManagerPass D) : Type 0 where
  pub some : 1 ≤ count
  pub within : count ≤ length rs
  pub before : List Entry
  pub note : Noted
  pub turned : HasTurned tells p q before note
  pub entry : IsEntryOfFirst (began p).view rs count o note
  -- a drain may stay behind the first of them alone
  pub stays : note.entry.operation ≡ Kept
      → Stays (OneLacked rs (o ∷ [])) (last_look (began p).look (notes_of before)) note
  -- where the first is a write
  pub cause : (r : Request) → slice_get rs 0 ≡ Some r → r.kind ≡ kind.Write
      → IsCauseOfWrite (notes_of before) (last_look (began p).look (notes_of before)) o
  pub fault : TellsFault (notes_seen q) o
