-- A write within a turn, and one for which no log had room.
use Rattle.std.specs.Prelude.{◌≡◌, ◌≤◌, ◌+◌, ◌∷◌, ◌++◌, ℕ, Bool, List, [], None}
use Rattle.turn_lock.specs.Passes.{pass_lock, IsInTurnWith}
use Rattle.wol_disk.specs.Disk.{State, Block}
use Rattle.wol_model.specs.History.{Kept}
use Rattle.wol_model.specs.Placing.{Full}
use Rattle.wol_promise.specs.Policy.{place_of}
use Rattle.wol_promise.specs.Ruled.{Noted, last_look}
use Rattle.logger.specs.declared.shared.Shared.{Shared}
use Rattle.manager.specs.Answers.{home_write}
use Rattle.manager.specs.Stands.{Keeps, IsShared}
use Rattle.manager.specs.declared.base.ManagerBase.{ManagerBase}
use Rattle.manager.specs.declared.manager.Manager.{Manager}
use Rattle.request_turns.specs.Causes.{CanTake}
use Rattle.request_turns.specs.Turns.{ManagerPass, began, notes_seen}

-- a request of so many blocks from `first` on fits the volume with this base
pub record FitsVolume {D : Type 0} (shared : Shared D) (first count : ℕ) (b : ManagerBase) :
    Type 0 where
  pub at : IsShared shared b
  pub some : 1 ≤ count
  pub few : count ≤ b.volume.began.most
  pub fits : first + count ≤ b.volume.began.home_blocks

-- A write of these blocks was refused, since no log had room, in a turn that keeps the manager in
-- its place. `n` is the note of that refusal: it changed nothing, and with the pools that it names
-- as found empty the rules have no place for the write. The manager isn't down, and keeps up what
-- it must for the entries with this one behind them.
pub record IsFullInPlace {D : Type 0} (tells : Bool) (state : D → State) (first : ℕ)
    (blocks : List Block) (n : Noted) (p : ManagerPass D) : Type 0 where
  pub kept : n.entry.operation ≡ Kept
  pub full : place_of n.passed (last_look (began p).look (notes_seen p)) (home_write first blocks)
      ≡ Full
  pub takes : CanTake (notes_seen p) (last_look (began p).look (notes_seen p))
  pub value : (m : Manager D) × IsInTurnWith m p × (m.down ≡ None)
      × Keeps tells state m (pass_lock p).base (notes_seen p ++ n ∷ [])
