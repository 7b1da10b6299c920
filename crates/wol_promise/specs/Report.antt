-- The counts that a report prints, from the histories.
use Rattle.std.specs.Prelude.{◌≢◌, IsTrue, ◌≡◌, ◌+◌, ◌==◌, ◌&&◌, ℕ, Bool, true, false, not, List, [], ◌∷◌, map, is_some}
use Rattle.std.specs.List.{AllByRecursion, list_any, filter, flat_map, count_by}
use Rattle.wol_model.specs.Blocks.{Write}
use Rattle.wol_model.specs.History.{Operation, Wrote, Read, Kept, Broke, writes, keeper, helper, worker}
use Rattle.wol_model.specs.Index.{Listed, is_due, block_numbers}
use Rattle.wol_promise.specs.Policy.{Look, IsIdleLook}
use Rattle.wol_promise.specs.Ruled.{Noted, entries_of, last_look}

-- ---- Placed

-- the acknowledged writes that went to logs
abbrev pub logged_writes : List Noted → ℕ
logged_writes notes = count_by (λ (w : Write). is_some w.version) (writes (entries_of notes))

-- the acknowledged writes that went home
abbrev pub home_writes : List Noted → ℕ
home_writes notes = count_by (λ (w : Write). not (is_some w.version)) (writes (entries_of notes))

-- the writes after a drain
abbrev pub is_drained_write : Bool → Operation → Bool
is_drained_write after_drain (Wrote ws) = after_drain
is_drained_write after_drain (Read first reply) = false
is_drained_write after_drain Kept = false
is_drained_write after_drain (Broke ws) = false

-- how many writes went home after a drain
abbrev pub drains : List Noted → ℕ
drains notes = count_by (λ n. is_drained_write n.after_drain n.entry.operation) notes

-- ---- Reclaimed

-- the due blocks of a look, each with its version
abbrev pub dues_of : Look → Listed → List (ℕ × ℕ)
dues_of l e = map (λ b. (e.version, b)) (filter (is_due l.listed e) (block_numbers e))

-- the due blocks of all records of a look
abbrev pub dues : Look → List (ℕ × ℕ)
dues l = flat_map (dues_of l) l.listed

-- a pair is among these
abbrev pub is_among : List (ℕ × ℕ) → (ℕ × ℕ) → Bool
is_among ps p = list_any (λ q. q.0 == p.0 && q.1 == p.1) ps

-- how many due blocks of one look aren't due in another
abbrev pub no_longer_due : (l m : Look) → ℕ
no_longer_due l m = count_by (λ p. not (is_among (dues m) p)) (dues l)

-- a Kept entry, or a write after a drain
abbrev pub reclaims : Bool → Operation → Bool
reclaims after_drain Kept = true
reclaims after_drain (Wrote ws) = after_drain
reclaims after_drain (Read first reply) = false
reclaims after_drain (Broke ws) = false

-- the blocks put home by such entries
abbrev pub put_home_by : Bool → (l m : Look) → ℕ
put_home_by true l m = no_longer_due l m
put_home_by false l m = 0

-- the blocks put home by the entries that follow a look
abbrev pub blocks_put_home : Look → List Noted → ℕ
blocks_put_home l [] = 0
blocks_put_home l (n ∷ notes) =
    put_home_by (reclaims n.after_drain n.entry.operation) l n.look + blocks_put_home n.look notes

-- the records that are gone: with those at exit they are those at opening and the writes to logs
abbrev pub AreGone : (gone at_opening logged at_exit : ℕ) → Type 0
AreGone gone at_opening logged at_exit = gone + at_exit ≡ at_opening + logged

-- ---- Windows

-- an answered beginning of a window: the keeper's entry, whose flags are what the spindles answered
pub record IsBegun (home_up : Bool) (ups : List Bool) (n : Noted) : Type 0 where
  pub does : n.entry.operation ≡ Kept
  pub keeper : n.entry.pass ≡ keeper
  pub home : n.look.home_up ≡ home_up
  pub loggers : n.look.ups ≡ ups

-- each of these entries follows the rules
abbrev pub AreAllRuled : (added : List Noted) → Type 0
AreAllRuled added = AllByRecursion (λ n. IsTrue n.ruled) added

-- where nothing is reclaimed beside the requests, the helper adds no entry
abbrev pub HasNoHelp : (added : List Noted) → Type 0
HasNoHelp added = AllByRecursion (λ n. n.entry.pass ≢ helper) added

-- the worker's entries
abbrev pub by_worker : List Noted → List Noted
by_worker notes = filter (λ n. n.entry.pass == worker) notes

-- where reclaim is done after a window's requests, the worker's last entry leaves an idle look
abbrev pub LeavesIdle : (look : Look) → (added : List Noted) → Type 0
LeavesIdle look added = IsIdleLook (last_look look (by_worker added))
