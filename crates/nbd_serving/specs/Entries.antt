-- What a turn of a session adds to the entries of the volume that is served.
use Rattle.std.specs.Prelude.{◌≡◌, ◌++◌, ◌∷◌, [], ℕ, List, None, Some}
use Rattle.wol_disk.specs.Disk.{Block}
use Rattle.wol_model.specs.Blocks.{Write}
use Rattle.wol_model.specs.History.{Broke, Kept, flight_of, worker}
use Rattle.wol_promise.specs.Manager.{Base}
use Rattle.wol_promise.specs.Policy.{PartName}
use Rattle.wol_promise.specs.Ruled.{IsStep, Noted, entries_of, last_look}
use Rattle.rack.specs.Closes.{part_named}
use Rattle.request_turns.specs.Entries.{IsFlightAt}
use Rattle.request_turns.specs.Turns.{Stays}
use Rattle.nbd_session.specs.Turns.{NotWrote, Turn}
use Rattle.nbd_session.specs.declared.volume.Refusal.TheVariants as refusal
use Rattle.nbd_serving.specs.Pieces.{IsTurnAt, piece, pieces_of}

-- the turn refused the write w for want of memory
abbrev pub LackedMemory : Turn → (w : Write) → Type 0
LackedMemory turn w = (at : ℕ) × (blocks : List Block)
    × (turn ≡ NotWrote at blocks refusal.NoMemory) × (w ≡ piece at blocks)

-- In this entry a call of a disk failed, and in none of those before it: a part of the owner is down
-- then, and what was in flight was on its way home, where that is its home, and else to some log.
pub record BreaksAt (owner : ℕ) (old : List Noted) (n : Noted) (flight : List Write) : Type 0 where
  pub unbroken : flight_of (entries_of old) ≡ None
  pub name : PartName
  pub down : n.look.down ≡ Some name
  pub way : IsFlightAt (part_named owner name) flight

-- A turn adds one entry, the worker's, to those of a volume that began with this base. The entry
-- follows the rules of placing and reclaim, from the look that those before it leave; one that
-- changes no content leaves that look, or its turn drained for the write that lacked memory then.
pub record AddsEntry (told : Type 0) (base : Base) (turn : Turn) (old new : List Noted) :
    Type 0 where
  pub note : Noted
  pub adds : new ≡ old ++ note ∷ []
  pub pass : note.entry.pass ≡ worker
  pub step : IsStep note worker note.entry.operation (last_look base.look old) note.look
  pub stays : note.entry.operation ≡ Kept
      → Stays (LackedMemory turn) (last_look base.look old) note
  pub breaks : (flight : List Write) → note.entry.operation ≡ Broke flight
      → BreaksAt base.owner old note flight
  pub is_turn : IsTurnAt told base.array turn (pieces_of base.look old) (pieces_of base.look new)
