-- How many blocks the entries of a pass put home and how many records they dropped, and what is
-- counted of it.
use Rattle.std.specs.Prelude.{◌≡◌, ◌+◌, ◌-◌, ◌^◌, ◌==◌, ℕ, Bool, true, false, List, [], ◌∷◌, cond, drop, length, min}
use Rattle.turn_lock.specs.Histories.{Entry}
use Rattle.turn_lock.specs.Passes.{pass_number, pass_seen}
use Rattle.wol_promise.specs.Policy.{Look}
use Rattle.wol_promise.specs.Report.{reclaims, put_home_by}
use Rattle.wol_promise.specs.Ruled.{Noted, last_look}
use Rattle.manager.specs.Stands.{notes_of}
use Rattle.reclaimer.specs.Counts.{TakesOff}
use Rattle.reclaimer.specs.declared.answers.Gone.{Gone}
use Rattle.reclaimer.specs.declared.answers.Gone.TheVariants as gone
use Rattle.request_turns.specs.Turns.{ManagerPass, began, notes_seen, IsHonest}
use Rattle.request_turns.specs.declared.tally.Tally.{Tally}

-- ---- Entries

-- the records dropped by an entry that reclaims, which leads from one look to the other; it lists
-- none
abbrev pub dropped_by : Bool → (l m : Look) → ℕ
dropped_by true l m = length l.listed - length m.listed
dropped_by false l m = 0

-- the records dropped by the entries that follow a look
abbrev pub records_dropped : Look → List Noted → ℕ
records_dropped l [] = 0
records_dropped l (n ∷ notes) =
    dropped_by (reclaims n.after_drain n.entry.operation) l n.look + records_dropped n.look notes

-- what the entries after a look that are of this pass come to, each by the look before it and the
-- look that it leaves
abbrev pub added_up : (Bool → Look → Look → ℕ) → (pass : ℕ) → Look → List Noted → ℕ
added_up worth pass l [] = 0
added_up worth pass l (n ∷ notes) = cond (n.entry.pass == pass)
    (worth (reclaims n.after_drain n.entry.operation) l n.look) 0 + added_up worth pass n.look notes

-- ---- Passes

-- the entries that a pass saw since
abbrev pub seen_since : {D : Type 0} → (p q : ManagerPass D) → List Entry
seen_since p q = drop (length (pass_seen p)) (pass_seen q)

-- what its own entries among these come to
abbrev pub added_between : {D : Type 0} → (Bool → Look → Look → ℕ) → (p q : ManagerPass D) → ℕ
added_between worth p q = added_up worth (pass_number p) (last_look (began p).look (notes_seen p))
    (notes_of (seen_since p q))

-- the blocks that they put home
abbrev pub blocks_between : {D : Type 0} → (p q : ManagerPass D) → ℕ
blocks_between p q = added_between put_home_by p q

-- the records that they dropped
abbrev pub records_between : {D : Type 0} → (p q : ManagerPass D) → ℕ
records_between p q = added_between dropped_by p q

-- ---- What is counted

-- so many were counted; a count stands still at its type's end
pub record Counts (blocks records : ℕ) (t : Tally) : Type 0 where
  pub blocks_ : t.blocks ≡ min blocks (2 ^ 64 - 1)
  pub records_ : t.records ≡ min records (2 ^ 64 - 1)

-- so many more were counted
abbrev pub CountsMore : (blocks records : ℕ) → (t u : Tally) → Type 0
CountsMore blocks records t u = (b r : ℕ) → Counts b r t → Counts (b + blocks) (r + records) u

-- how many records are gone with this answer
abbrev pub gone_count : Gone → ℕ
gone_count (gone.Version version) = 1
gone_count (gone.Trimmed version) = 0
gone_count gone.Nothing = 0

-- what steps of reclaim took off was counted
pub record HasTaken (t u : Tally) (l m : Look) : Type 0 where
  pub blocks : ℕ
  pub records : ℕ
  pub taken : TakesOff blocks records l m
  pub counts : CountsMore blocks records t u

-- that is all that was counted
pub record IsTakenOff (t : Tally) (l m : Look) : Type 0 where
  pub blocks : ℕ
  pub records : ℕ
  pub taken : TakesOff blocks records l m
  pub counts : Counts blocks records t

-- what an entry behind this look put home and dropped was counted
abbrev pub CountsEntry : Look → Noted → (t u : Tally) → Type 0
CountsEntry l n t u = CountsMore (put_home_by (reclaims n.after_drain n.entry.operation) l n.look)
    (dropped_by (reclaims n.after_drain n.entry.operation) l n.look) t u

-- what the pass's own entries put home and dropped was counted
abbrev pub HasCounted : {D : Type 0} → (tells : Bool) → (t u : Tally) → (p q : ManagerPass D)
    → Type 0
HasCounted tells t u p q =
    IsHonest tells p → CountsMore (blocks_between p q) (records_between p q) t u

-- they put nothing home and dropped nothing
abbrev pub ReclaimsNothing : {D : Type 0} → (tells : Bool) → (p q : ManagerPass D) → Type 0
ReclaimsNothing tells p q = (t : Tally) → HasCounted tells t t p q
