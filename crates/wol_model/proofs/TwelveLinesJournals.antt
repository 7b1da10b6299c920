-- The journals and the energy of three spindles over the trace of twelve lines. A disk is down after 60 seconds without use.
use Rattle.std.proofs.Common.{◌≡◌, ◌+◌, ◌*◌, ℕ, List, [], ◌∷◌, ◌++◌, map, refl}
use Rattle.wol_model.specs.declared.journal.Turned.{Turned}
use Rattle.wol_model.specs.declared.journal.Turned.TheVariants.{Down, Up}
use Rattle.wol_model.specs.declared.journal.Powers.{Powers}
use Rattle.wol_model.specs.Journal.{Use, Started, Began, Needed, Done, new_spindle, spindle_after, AreUses, IsJournal, standby, awake_time, wakes, sleeps, units, millijoules}

-- the keeper is pass 2 and the worker pass 0; moments are in tenths of a second
abbrev began : ℕ → ℕ × Use
began at = (2, Began (at * 1000000))

abbrev access : List (ℕ × Use)
access = (0, Needed) ∷ (0, Done) ∷ []

abbrev usr0_uses : List (ℕ × Use)
usr0_uses =
    (2, Started 0) ∷ began 0 ∷ access ++ (began 500 ∷ began 1000 ∷ began 1200 ∷ began 1500 ∷ began 2000 ∷ access ++ (began 2300 ∷ access ++ (began 3000 ∷ began 3200 ∷ began 4000 ∷ [])))

usr0_may : AreUses 600000000 new_spindle usr0_uses
usr0_may = (tt, (tt, (refl, (refl, (tt, (tt, (tt, (tt, (tt, (refl, (refl, (tt, (refl, (refl, (tt, (tt, (tt, tt)))))))))))))))))

abbrev journal_of : List (ℕ × Use) → List Turned
journal_of uses = (spindle_after 600000000 new_spindle uses).journal

usr0_journal : journal_of usr0_uses ≡ Down 600000000 ∷ Up 2000000000 ∷ Down 2900000000 ∷ []
usr0_journal = refl

abbrev web0_uses : List (ℕ × Use)
web0_uses =
    (2, Started 0) ∷ began 0 ∷ access ++ (began 500 ∷ access ++ (began 1000 ∷ access ++ (access ++ (began 1200 ∷ access ++ (began 1500 ∷ access
    ++ (began 2000 ∷ access ++ (began 2300 ∷ began 3000 ∷ access ++ (began 3200 ∷ access ++ (began 4000 ∷ access)))))))))

web0_journal : journal_of web0_uses ≡ Down 2600000000 ∷ Up 3000000000 ∷ Down 3800000000 ∷ Up 4000000000 ∷ []
web0_journal = refl

powers : Powers
powers = record { awake_mw = 8000; standby_mw = 1000; wake_mj = 50000 }

record Amounts : Type 0 where
  times_up : ℕ
  times_down : ℕ
  awake : ℕ
  asleep : ℕ
  energy : ℕ

amounts : List Turned → Amounts
amounts journal = record { times_up = wakes journal; times_down = sleeps journal; awake = awake_time journal 0 4000000000; asleep = standby journal 4000000000; energy = millijoules (units powers journal 0 4000000000) }

usr0_amounts : amounts (journal_of usr0_uses) ≡ record { times_up = 1; times_down = 2; awake = 1500000000; asleep = 2500000000; energy = 1500000 }
unfolding amounts powers
usr0_amounts = refl

web0_amounts : amounts (journal_of web0_uses) ≡ record { times_up = 2; times_down = 2; awake = 3400000000; asleep = 600000000; energy = 2880000 }
unfolding amounts powers
web0_amounts = refl

-- a journal that begins awake, turns down and up in turn, and may end in standby
usr0_is : IsJournal 0 (Down 600000000 ∷ Up 2000000000 ∷ Down 2900000000 ∷ []) 4000000000
usr0_is = (refl, later 0 600000000, (refl, later 600000000 1400000000, (refl, later 2000000000 900000000, later 2900000000 1100000000)))
  where
    later : (from more : ℕ) → Rattle.std.proofs.Common.◌≤◌ from (from + more)
    later from more = omega Rattle.std.proofs.Common.arith

-- not while an access goes on: the disk stays awake over a window's beginning
abbrev held_awake : List (ℕ × Use)
held_awake = (2, Started 0) ∷ (0, Needed) ∷ began 1000 ∷ (0, Done) ∷ []

no_rest : journal_of held_awake ≡ []
no_rest = refl
