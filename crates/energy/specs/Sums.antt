-- The sums over a journal, and what a disk with that journal used.
use Rattle.std.specs.Prelude.{◌≡◌, ℕ, ◌+◌, ◌-◌, ◌*◌, ◌^◌, List}
use Rattle.wol_model.specs.Journal.{IsJournal, awake_time, sleeps, standby, units, wakes}
use Rattle.wol_model.specs.declared.journal.Powers.{Powers}
use Rattle.wol_model.specs.declared.journal.Turned.{Turned}
use Rattle.energy.specs.declared.Amounts.{Amounts}
use Rattle.energy.specs.declared.Sums.{Sums}

-- the sums over a journal that goes on until a moment
pub record AreSumsOf (s : Sums) (journal : List Turned) (to : ℕ) : Type 0 where
  pub wakes : s.wakes ≡ wakes journal
  pub sleeps : s.sleeps ≡ sleeps journal
  pub standby : s.standby ≡ standby journal to

-- they are those over some journal from one moment to another
abbrev pub AreSums : (from to : ℕ) → Sums → Type 0
AreSums from to s = (journal : List Turned) × IsJournal from journal to × AreSumsOf s journal to

-- what a disk with these sums used from one moment to another
abbrev pub amounts_by : Powers → (from to : ℕ) → Sums → Amounts
amounts_by powers from to s = record {
  wakes = s.wakes;
  sleeps = s.sleeps;
  awake = (to - from) - s.standby;
  standby = s.standby;
  units = ((to - from) - s.standby) * powers.awake_mw + s.standby * powers.standby_mw
      + s.wakes * powers.wake_mj * 10 ^ 7;
}

-- what a disk with this journal used from one moment to another
abbrev pub amounts_of : Powers → (from to : ℕ) → List Turned → Amounts
amounts_of powers from to journal = record {
  wakes = wakes journal;
  sleeps = sleeps journal;
  awake = awake_time journal from to;
  standby = standby journal to;
  units = units powers journal from to;
}
