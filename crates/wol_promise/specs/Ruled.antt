-- Entries with the looks that they leave, and which of them follow the rules of placing and
-- reclaim.
use Rattle.std.specs.Prelude.{⊤, ◌≡◌, ◌⊎◌, ◌≤◌, ◌==◌, ℕ, Bool, true, false, List, [], ◌∷◌, map, length, IsTrue}
use Rattle.std.specs.List.{list_any, count_by}
use Rattle.wol_model.specs.Blocks.{Write}
use Rattle.wol_model.specs.History.{Entry, Operation, Wrote, Read, Kept, Broke, worker, helper, keeper}
use Rattle.wol_model.specs.Placing.{Full}
use Rattle.wol_promise.specs.Policy.{Look, place_of, AreWrites, drained, woken, IsReclaim, AreReclaims}
use Rattle.std.specs.Prelude.{None}

-- an entry with what is noted beside it
pub record Noted : Type 0 where
  pub entry : Entry
  -- the look that it leaves
  pub look : Look
  -- the places of the view whose pools answered in this turn that they are empty
  pub passed : List ℕ
  pub after_drain : Bool
  pub ruled : Bool

-- the entries without their notes
abbrev pub entries_of : List Noted → List Entry
entries_of notes = map (λ n. n.entry) notes

-- a write that finds no place, after which everything is drained
pub record IsDrained (passed : List ℕ) (l : Look) (w : Write) (m : Look) : Type 0 where
  pub full : place_of passed l w ≡ Full
  pub bare : m ≡ drained l

-- the one write after a drain goes home
pub record IsDrainedWrite (passed : List ℕ) (l : Look) (ws : List Write) (m : Look) : Type 0 where
  pub write : Write
  pub only : ws ≡ write ∷ []
  pub home : write.version ≡ None
  pub drains : IsDrained passed l write m

-- what a Kept of each pass may do: nothing; the worker drains for a write that was then refused for
-- want of memory; the keeper sets the flags; the helper takes one step of reclaim, the worker any
-- number
pub data IsKeep (passed : List ℕ) (pass : ℕ) (l m : Look) : Type 0 where
  same : m ≡ l → IsKeep passed pass l m
  refused : (w : Write) → pass ≡ worker → IsDrained passed l w m → IsKeep passed pass l m
  flags : pass ≡ keeper → length m.ups ≡ length l.ups
      → m ≡ record l { home_up = m.home_up; ups = m.ups } → IsKeep passed pass l m
  helped : pass ≡ helper → IsReclaim l m → IsKeep passed pass l m
  reclaimed : pass ≡ worker → AreReclaims l m → IsKeep passed pass l m

-- an operation leads from the look l to the look m
abbrev pub IsStep : Noted → (pass : ℕ) → Operation → (l m : Look) → Type 0
IsStep n pass (Read first reply) l m = (n.after_drain ≡ false) × (m ≡ woken l first (length reply))
IsStep n pass (Wrote ws) l m = ((n.after_drain ≡ false) × AreWrites n.passed l ws m)
    ⊎ ((n.after_drain ≡ true) × IsDrainedWrite n.passed l ws m)
IsStep n pass Kept l m = (n.after_drain ≡ false) × IsKeep n.passed pass l m
IsStep n pass (Broke ws) l m = n.after_drain ≡ false

-- each ruled entry is a step from the look before it
abbrev pub AreRuled : Look → List Noted → Type 0
AreRuled l [] = ⊤
AreRuled l (n ∷ notes) =
    (IsTrue n.ruled → IsStep n n.entry.pass n.entry.operation l n.look) × AreRuled n.look notes

-- the look that the last entry leaves
abbrev pub last_look : Look → List Noted → Look
last_look l [] = l
last_look l (n ∷ notes) = last_look n.look notes

-- in how many turns the pool at place k of the view was found empty
abbrev pub times_passed : (k : ℕ) → List Noted → ℕ
times_passed k notes = count_by (λ n. list_any (λ p. p == k) n.passed) notes

-- no more often than that lane's pass was told so
abbrev pub HasPassed : (nones : ℕ → ℕ) → List Noted → Type 0
HasPassed nones notes = (k : ℕ) → times_passed k notes ≤ nones k
