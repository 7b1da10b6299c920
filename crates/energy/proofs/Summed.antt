-- What a disk used by the sums over its journal is what it used by the journal.
use Rattle.std.proofs.Common.{◌≡◌, ◌+◌, ◌-◌, ◌*◌, ◌^◌, ℕ, List}
use Rattle.wol_model.specs.declared.journal.Powers.{Powers}
use Rattle.wol_model.specs.declared.journal.Turned.{Turned}
use Rattle.energy.specs.Sums.{AreSumsOf, amounts_by, amounts_of}
use Rattle.energy.specs.declared.Sums.{Sums}

pub amounts_of_sums : (powers : Powers) (from to : ℕ) (s : Sums) (journal : List Turned) → AreSumsOf s journal to → amounts_by powers from to s ≡ amounts_of powers from to journal
amounts_of_sums powers from to s journal are = λ i. record {
  wakes = are.wakes i;
  sleeps = are.sleeps i;
  awake = (to - from) - are.standby i;
  standby = are.standby i;
  units = ((to - from) - are.standby i) * powers.awake_mw + are.standby i * powers.standby_mw + are.wakes i * powers.wake_mj * 10 ^ 7;
}
