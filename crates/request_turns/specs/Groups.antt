-- Several writes of one volume in one turn, and what some first ones of them leave.
use Rattle.std.specs.Prelude.{◌≡◌, ◌≤◌, ◌∷◌, ℕ, Bool, false, List, Result, Ok, Err, length, map, take, IsTrue}
use Rattle.std.specs.List.{range_with_len}
use Rattle.wol_disk.specs.Disk.{Block}
use Rattle.wol_model.specs.Blocks.{Write}
use Rattle.wol_model.specs.History.{Kept}
use Rattle.wol_model.specs.Trace.{payload_block}
use Rattle.wol_promise.specs.Ruled.{Noted, last_look}
use Rattle.log_segment.specs.declared.item.Item.{Item}
use Rattle.manager.specs.Answers.{home_write}
use Rattle.manager.specs.Groups.{first_blocks, first_lbn, writes_to_home}
use Rattle.manager.specs.declared.part.Place.{Place}
use Rattle.manager.specs.declared.part.WriteRefusal.{WriteRefusal}
use Rattle.trace_windows.specs.declared.request.Request.{Request}
use Rattle.request_turns.specs.Causes.{IsCauseOfWrite, LackedMemory}
use Rattle.request_turns.specs.Counts.{CountsEntry}
use Rattle.request_turns.specs.Entries.{AreWrittenTogether, IsWrittenAs, TellsFault}
use Rattle.request_turns.specs.Turns.{ManagerPass, began, notes_seen, HasLeft, Stays}
use Rattle.request_turns.specs.declared.outcome.Outcome.{Outcome}
use Rattle.request_turns.specs.declared.outcome.Outcome.TheVariants as outcome
use Rattle.request_turns.specs.declared.tally.Tally.{Tally}

-- ---- Items

-- the item of a request
abbrev pub item_of : Request → Item
item_of r = record { lbn = r.lbn; count = r.count }

-- the blocks that it writes
abbrev pub blocks_of : Request → List Block
blocks_of r = map (payload_block r.line) (range_with_len r.lbn r.count)

-- how many of some writes have this answer, where so many were tried: all of these, and the first
-- alone where it is a refusal
abbrev pub answered_of : (tried : ℕ) → Result Place WriteRefusal → ℕ
answered_of tried (Ok place) = tried
answered_of tried (Err refusal) = 1

-- ---- Entries

-- the entry of some first ones of writes of these payloads, `count`, all with this outcome
pub data AreWrittenAs (view : List ℕ) (payloads : List Write) (count : ℕ) (o : Outcome)
    (n : Noted) : Type 0 where
  one : (w : Write) (behind : List Write) → payloads ≡ w ∷ behind → count ≡ 1
      → IsWrittenAs view w behind o n → AreWrittenAs view payloads count o n
  several : (place : Place) → 2 ≤ count → count ≤ length payloads → o ≡ outcome.Wrote place false
      → AreWrittenTogether view (take count payloads) place n → AreWrittenAs view payloads count o n

-- a pass in a turn leaves it with the entry of some first ones of these items, `count`, all with
-- this outcome; what it reclaimed was counted
pub record HasWrittenMany {D : Type 0} (tells : Bool) (items : List Item) (from : List Block)
    (count : ℕ) (o : Outcome) (t u : Tally) (p q : ManagerPass D) : Type 0 where
  pub some : 1 ≤ count
  pub within : count ≤ length items
  pub note : Noted
  pub left : HasLeft tells note p q
  pub ruled : IsTrue note.ruled
  pub entry : AreWrittenAs (began p).view (writes_to_home items from) count o note
  pub stays : note.entry.operation ≡ Kept
      → Stays (LackedMemory (home_write (first_lbn items) (first_blocks items from)) o)
      (last_look (began p).look (notes_seen p)) note
  pub cause : IsCauseOfWrite (notes_seen p) (last_look (began p).look (notes_seen p)) o
  pub fault : TellsFault (notes_seen q) o
  pub counted : CountsEntry (last_look (began p).look (notes_seen p)) note t u
