-- A desk stands for its entries: in each it has counted twice.
use Rattle.std.specs.Prelude.{◌≡◌, ℕ, List, [], ◌∷◌, ◌++◌}
use Rattle.turn_lock.specs.Histories.{Entry}
use Rattle.turn_lock.specs.Passes.{pass_lock, pass_number, pass_mine, IsFree}
use Rattle.turn_lock_tests.specs.declared.desk.Desk.{Desk}
use Rattle.turn_lock_tests.specs.declared.desk.DeskBase.{DeskBase}

-- for each entry of the desk two of the counter
abbrev pub uses : ℕ → List Entry → List Entry
uses n [] = []
uses n (e ∷ es) = (n, 1 ∷ []) ∷ (n, 2 ∷ []) ∷ uses n es

pub record DeskStands (d : Desk) (b : DeskBase) (es : List Entry) : Type 0 where
  pub lock : pass_lock d.counter ≡ b.counter.id
  pub number : pass_number d.counter ≡ b.number
  pub free : IsFree d.counter
  pub mine : pass_mine d.counter ≡ b.before ++ uses b.number es
