-- The lines that come of a trace or of a seed.
use Rattle.std.specs.Prelude.{⊤, ◌≡◌, ◌≤◌, ◌+◌, ◌-◌, ◌^◌, ℕ, true, false, List, [], ◌∷◌, length, map, Option, Some, Err}
use Rattle.std.specs.List.{list_any, range_with_len}
use Rattle.std.specs.Io.KnownBytes.{IsAtEnd, prepend_known}
use Rattle.wol_disk.specs.Disk.{Rose}
use Rattle.wol_model.specs.Trace.{Target, TraceLine}
use Rattle.msr_trace.specs.Lines.{is_feed}
use Rattle.msr_trace.specs.Reading.{pending}
use Rattle.msr_trace.specs.declared.format.BadLine.{BadLine}
use Rattle.msr_trace.specs.declared.format.TraceFault.{TraceFault}
use Rattle.msr_trace.specs.declared.format.TraceFault.TheVariants as fault
use Rattle.trace_gen.specs.Generated.{line}
use Rattle.solo.specs.Requests.{LineRead, HasLines, HasLinesBefore}
use Rattle.replay.specs.declared.given.Given.{Given}
use Rattle.replay.specs.declared.given.Given.TheVariants.{Trace, Generated}

-- how many lines came
abbrev pub given_count : {S : Type 0} → Given S → ℕ
given_count (Trace r) = r.given
given_count (Generated g lines) = g.given

-- a further line may be asked for
abbrev pub IsLive : {S : Type 0} → Given S → Type 0
IsLive (Trace r) = r.live ≡ true
IsLive (Generated g lines) = (g.given ≤ lines) × (lines ≤ 2 ^ 31)

-- no more generated lines came than are asked for
abbrev pub IsWithin : {S : Type 0} → Given S → Type 0
IsWithin (Trace r) = ⊤
IsWithin (Generated g lines) = g.given ≤ lines

-- no line came yet
abbrev pub IsNew : {S : Type 0} → Given S → Type 0
IsNew g = IsLive g × (given_count g ≡ 0)

-- how many calls of the source have failed; a generator has none
abbrev pub faults_of : {S : Type 0} → (S → ℕ) → Given S → ℕ
faults_of faults (Trace r) = faults r.source
faults_of faults (Generated g lines) = 0

-- which borrow its source is, where it has one
abbrev pub borrow_of : {S : Type 0} → (S → ℕ) → Given S → ℕ
borrow_of borrow (Trace r) = borrow r.source
borrow_of borrow (Generated g lines) = 0

module _ {S : Type 0} (left : S → Option (List ℕ)) (targets : List Target) where
  -- these are the lines that came since, none of which is bad; a blank one is none
  abbrev pub HasGiven : (start now : Given S) → List (Option TraceLine) → Type 0
  HasGiven (Trace r) (Trace q) ls =
      HasLinesBefore (pending left r) ls (pending left q) × (q.given ≡ r.given + length ls)
  HasGiven (Trace r) (Generated h m) ls = ⊥
  HasGiven (Generated g n) (Trace q) ls = ⊥
  HasGiven (Generated g n) (Generated h m) ls =
      (m ≡ n) × (h ≡ record g { given = g.given + length ls })
      × (ls ≡ map (λ k. Some (line targets g.seed k)) (range_with_len g.given (length ls)))

  -- these are all that come: all lines of the trace, or those up to the last one that is asked for
  abbrev pub HasGivenAll : (start now : Given S) → List (Option TraceLine) → Type 0
  HasGivenAll (Trace r) (Trace q) ls =
      HasLines (pending left r) ls [] × (q.held ≡ []) × IsAtEnd (left q.source)
  HasGivenAll (Trace r) (Generated h m) ls = ⊥
  HasGivenAll (Generated g n) (Trace q) ls = ⊥
  HasGivenAll (Generated g n) (Generated h m) ls =
      (h.given ≡ n)
      × (ls ≡ map (λ k. Some (line targets g.seed k)) (range_with_len g.given (n - g.given)))

-- what behind these lines of a trace is the cause of a fault: a bad line; more than 2^32 lines; of
-- a source that failed no whole line is held back
abbrev pub RefusesTrace : TraceFault → (trace left : Option (List ℕ)) → (held : List ℕ)
    → (earlier : ℕ) → List (Option TraceLine) → Type 0
RefusesTrace fault.Source trace left held earlier ls =
    (list_any is_feed held ≡ false) × HasLinesBefore trace ls (prepend_known held left)
RefusesTrace (fault.Bad line why) trace left held earlier ls =
    (more : List LineRead) × HasLines trace ls (Err why ∷ more) × (line ≡ earlier + length ls + 1)
RefusesTrace fault.Spent trace left held earlier ls =
    (next : LineRead) × (more : List LineRead) × HasLines trace ls (next ∷ more)
    × (earlier + length ls ≡ 2 ^ 32)
RefusesTrace fault.NoMemory trace left held earlier ls = ⊤

-- the cause of a fault behind these lines; generated lines are refused for want of memory alone
abbrev pub Refuses : {S : Type 0} → (S → Option (List ℕ)) → TraceFault → (start now : Given S)
    → List (Option TraceLine) → Type 0
Refuses left e (Trace r) (Trace q) ls =
    RefusesTrace e (pending left r) (left q.source) q.held r.given ls
Refuses left e (Trace r) (Generated h m) ls = ⊥
Refuses left e (Generated g n) (Trace q) ls = ⊥
Refuses left e (Generated g n) (Generated h m) ls = e ≡ fault.NoMemory

-- Nothing stands in the way of the lines: no call of their source failed, and no line is bad or one
-- too many.
pub record MayGiveAll {S : Type 0} (left : S → Option (List ℕ)) (start now : Given S)
    (source source' : ℕ) : Type 0 where
  pub source_calm : Rose source source' → ⊥
  pub spelled : (line : ℕ) (why : BadLine) (ls : List (Option TraceLine))
      → Refuses left (fault.Bad line why) start now ls → ⊥
  pub few : (ls : List (Option TraceLine)) → Refuses left fault.Spent start now ls → ⊥
