-- The time in standby lies within the time of the journal.
use Rattle.std.proofs.Common.{◌≡◌, ℕ, ◌+◌, ◌-◌, ◌≤◌, Bool, true, false, List, [], ◌∷◌, arith}
use Rattle.wol_model.specs.declared.journal.Turned.{Turned}
use Rattle.wol_model.specs.declared.journal.Turned.TheVariants.{Down, Up}
use Rattle.wol_model.specs.Journal.{Alternates, IsJournal, next_up, standby}

abbrev pub IsWithin : Bool → ℕ → List Turned → ℕ → Type 0
IsWithin true from journal to = standby journal to + from ≤ to
IsWithin false since journal to = (since ≤ next_up journal to) × ((next_up journal to - since) + standby journal to + since ≤ to)

-- a disk is in standby within its time
within : (awake : Bool) (from : ℕ) (journal : List Turned) (to : ℕ) → Alternates awake from journal to → IsWithin awake from journal to
within true from [] to h = omega arith
within false from [] to h = (omega arith, omega arith)
within true from (Down at ∷ rest) to h = let (lower, sum) = within false at rest to h.2 in omega (arith, h.1, lower, sum)
within false from (Down at ∷ rest) to h = absurd (let e : false ≡ true = h.0 in cc)
within true from (Up at ∷ rest) to h = absurd (let e : true ≡ false = h.0 in cc)
within false from (Up at ∷ rest) to h = let sum = within true at rest to h.2 in (h.1, omega (arith, h.1, sum))

pub standby_within : (from : ℕ) (journal : List Turned) (to : ℕ) → IsJournal from journal to → standby journal to + from ≤ to
standby_within from journal to h = within true from journal to h
