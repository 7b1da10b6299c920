-- What a turn, and a number of turns, leave of a pass.
use Rattle.std.specs.Prelude.{◌≡◌, ◌<◌, ℕ, List, [], ◌∷◌, ◌++◌, length}
use Rattle.turn_lock.specs.Histories.{Entry, AreNumberedBelow}
use Rattle.turn_lock.specs.Passes.{pass_number, pass_seen, pass_mine, IsPassOf, IsFree, IsSamePass}
use Rattle.turn_lock.specs.declared.lock.TurnLock.{TurnLock}
use Rattle.turn_lock.specs.declared.pass.PassOf.{PassOf}

-- the pass made one turn with this operation, after others that it had not seen
pub record TurnMade {T B : Type 0} (op : List ℕ) (p q : PassOf T B) : Type 0 where
  pub same : IsSamePass p q
  pub free : IsFree q
  pub between : List Entry
  pub number : pass_number p < 1024
  pub below : AreNumberedBelow 1024 (pass_seen p ++ between)
  pub seen : pass_seen q ≡ (pass_seen p ++ between) ++ (pass_number p, op) ∷ []
  pub mine : pass_mine q ≡ pass_mine p ++ (pass_number p, op) ∷ []

-- a free pass of this lock, with so many entries
pub record HasMade {T B : Type 0} (l : TurnLock T B) (n : ℕ) (p : PassOf T B) : Type 0 where
  pub own : IsPassOf l p
  pub free : IsFree p
  pub made : length (pass_mine p) ≡ n
