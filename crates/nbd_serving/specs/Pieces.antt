-- What a client knows of a volume that it has for itself: the array that it began with, and what
-- was made of it since.
use Rattle.std.specs.Prelude.{◌≡◌, ◌⊎◌, ◌<◌, ◌+◌, ◌++◌, ◌∷◌, ◌^◌, ℕ, List, [], length, map, Option, None, Some, slice_range, IsSome}
use Rattle.wol_disk.specs.Disk.{Block}
use Rattle.wol_model.specs.ArrayLaws.{unversioned}
use Rattle.wol_model.specs.Blocks.{Write, after}
use Rattle.wol_model.specs.History.{writes, flight_of}
use Rattle.wol_promise.specs.Policy.{Look}
use Rattle.wol_promise.specs.Ruled.{Noted, entries_of, last_look}
use Rattle.nbd_session.specs.Turns.{Turn, Looked, NotLooked, Read, NotRead, Wrote, NotWrote}
use Rattle.nbd_session.specs.declared.volume.Refusal.{Refusal}
use Rattle.nbd_session.specs.declared.volume.Refusal.TheVariants as refusal

-- The pieces that stand, in order; what was in flight when a call of a disk failed, where one did,
-- under its version; and the version that the next write to a log gets.
pub record Pieces : Type 0 where
  pub stand : List Write
  pub flight : Option (List Write)
  pub next : ℕ

-- blocks in a row from `at` on
abbrev pub piece : (at : ℕ) → List Block → Write
piece at blocks = record { first = at; blocks = blocks; version = None }

-- the entries of a volume as pieces, behind a look
abbrev pub pieces_of : Look → List Noted → Pieces
pieces_of l notes = record {
  stand = map unversioned (writes (entries_of notes));
  flight = flight_of (entries_of notes);
  next = (last_look l notes).next;
}

-- no call of a disk had failed
abbrev pub IsUp : Pieces → Type 0
IsUp p = p.flight ≡ None

-- .. and a version is left to give to a write
pub record TakesWrites (p : Pieces) : Type 0 where
  pub up : IsUp p
  pub left : p.next < 2 ^ 63

-- a call of a disk failed, with these in flight
pub record BreaksWith (ws : List Write) (old new : Pieces) : Type 0 where
  pub stand_ : new.stand ≡ old.stand
  pub flight_ : new.flight ≡ Some ws

-- a look or a read was refused so
abbrev pub RefusesRead : Refusal → (old new : Pieces) → Type 0
RefusesRead refusal.Down old new = IsSome old.flight × (new ≡ old)
RefusesRead refusal.VersionsSpent old new = ⊥
RefusesRead refusal.NoMemory old new = ⊥
RefusesRead refusal.Broke old new = IsUp old × BreaksWith [] old new

-- a write of this piece was: its cause is the first that applies. In flight was nothing or the
-- piece, with a version or without
abbrev pub RefusesWrite : Write → Refusal → (old new : Pieces) → Type 0
RefusesWrite w refusal.Down old new = IsSome old.flight × (new ≡ old)
RefusesWrite w refusal.VersionsSpent old new = IsUp old × (old.next ≡ 2 ^ 63) × (new ≡ old)
RefusesWrite w refusal.NoMemory old new = TakesWrites old × (new ≡ old)
RefusesWrite w refusal.Broke old new = TakesWrites old
    × (BreaksWith [] old new ⊎ ((v : Write) × (unversioned v ≡ w) × BreaksWith (v ∷ []) old new))

-- one piece more stands, which took a version or none
pub record StandsMore (w : Write) (old new : Pieces) : Type 0 where
  pub takes : TakesWrites old
  pub stand_ : new.stand ≡ old.stand ++ w ∷ []
  pub flight_ : new.flight ≡ None
  pub next_ : (new.next ≡ old.next) ⊎ (new.next ≡ old.next + 1)

-- a turn of a session at a volume that began with this array; what was read is that of the array
-- after the pieces that stand, where disks tell their content
abbrev pub IsTurnAt : (told : Type 0) → (array : List Block) → Turn → (old new : Pieces) → Type 0
IsTurnAt told array Looked old new = IsUp old × (new ≡ old)
IsTurnAt told array (NotLooked r) old new = (r ≡ refusal.Down) × IsSome old.flight × (new ≡ old)
IsTurnAt told array (Read at blocks) old new =
    IsUp old × (new ≡ old)
    × (told → blocks ≡ slice_range (after array old.stand) at (at + length blocks))
IsTurnAt told array (NotRead at count r) old new = RefusesRead r old new
IsTurnAt told array (Wrote at blocks) old new = StandsMore (piece at blocks) old new
IsTurnAt told array (NotWrote at blocks r) old new = RefusesWrite (piece at blocks) r old new
