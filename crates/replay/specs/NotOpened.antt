-- What a run over a bay comes to where not all of its volumes could be opened.
use Rattle.std.specs.Prelude.{◌≡◌, ℕ, List, Option}
use Rattle.std.specs.Io.KnownBytes.{Keeps}
pub use Rattle.rack.specs.NotOpened.{IsFirstClosed, IsOfCall, LeavesAsOpened, LeavesBay, LeavesViews}

-- no line was asked for, and nothing was printed
pub record AsksNone {G : Type 0} (start now : G) (sink sink' : ℕ)
    (printed printed' : Option (List ℕ)) : Type 0 where
  pub unread : now ≡ start
  pub calm : sink' ≡ sink
  pub kept : Keeps printed printed'
