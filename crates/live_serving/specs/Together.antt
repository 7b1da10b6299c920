-- Moments that come on a floor whose workers serve elsewhere.
use Rattle.std.specs.Prelude.{◌≡◌, ℕ, Bool, List, Option}
use Rattle.logger.specs.declared.shared.Shared.{Shared}
use Rattle.window_desks.specs.Begun.{SpindlePass}
use Rattle.window_desks.specs.declared.floor.Floor.{Floor}
use Rattle.live_serving.specs.Moments.{CanTick, Hands, HasRunOut, hands}

-- the passes of a floor, and those of the spindles' keepers, by which moments come
abbrev pub hands_on : {D : Type 0} → List SpindlePass → Floor D → Hands D
hands_on spindles floor = hands spindles floor.keepers.items floor.helpers.items

-- moments can come there
abbrev pub CanTickOn : {D : Type 0} → Shared D → List SpindlePass → Floor D → Type 0
CanTickOn shared spindles floor =
    CanTick floor.locks.now shared (hands_on spindles floor) floor.help.fault

-- they came, and can come still; nothing of the floor is another but keepers and helpers
pub record HasTickedOn {T D : Type 0} (gave : T → Option ℕ → T → Type 0) (last_of : T → ℕ)
    (tells : Bool) (shared : Shared D) (s : List SpindlePass) (f : Floor D) (k : T)
    (s' : List SpindlePass) (f' : Floor D) (k' : T) : Type 0 where
  pub only : f' ≡ record f { keepers = f'.keepers; helpers = f'.helpers; help = f'.help }
  pub ready : CanTickOn shared s' f'
  pub ticked : HasRunOut gave last_of tells k (hands_on s f) k' (hands_on s' f')
