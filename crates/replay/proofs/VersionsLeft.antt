-- The next versions that the entries of a volume leave are those of its writes to logs.
use Rattle.replay.proofs.Basics.{◌≡◌, ◌≤◌, ◌+◌, ℕ, List, [], ◌∷◌, ◌++◌, Option, None, Some, refl, ap, ◌∙◌, inl, inr, arith, cond, is_some}
use Rattle.replay.proofs.Basics.{count_by, AllByRecursion, sum_by-append}
use Rattle.replay.proofs.Terms.{Write, Operation, Wrote, Read, Kept, Broke, flight_from, flight_of, written_by, writes, Look, AreWrites}
use Rattle.replay.proofs.Terms.{placed, place_of, version_at, logged_writes, Noted, AreRuled, IsStep}
use Rattle.replay.proofs.Terms.{entries_of}
use Rattle.wol_model.specs.Placing.{Home, Log, Full}
use Rattle.replay.proofs.PassesRuled.{IsRuled}
use Rattle.wol_model.specs.Placing as placing
use Rattle.wol_promise.proofs.DownAndNext.{keep_same}

versioned : List Write → ℕ
versioned ws = count_by (λ (w : Write). is_some w.version) ws

versioned_joined : (ws vs : List Write) → versioned (ws ++ vs) ≡ versioned ws + versioned vs
unfolding versioned
versioned_joined ws vs = sum_by-append (λ (w : Write). cond (is_some w.version) 1 0) ws vs

-- ---- One entry

module _ (passed : List ℕ) where
  writes_next : (l : Look) (ws : List Write) (m : Look) → AreWrites passed l ws m → m.next ≡ l.next + versioned ws
  unfolding versioned
  writes_next l [] m h = ap (λ (k : Look). k.next) h ∙ omega arith
  writes_next l (w ∷ ws) m h = by (place_of passed l w) h.0 h.1 (writes_next (placed (place_of passed l w) l w) ws m h.2)
    where
      split : versioned (w ∷ ws) ≡ versioned (w ∷ []) + versioned ws
      split = versioned_joined (w ∷ []) ws

      one : (v : Option ℕ) → w.version ≡ v → versioned (w ∷ []) ≡ cond (is_some v) 1 0
      one v is = ap (λ (o : Option ℕ). 0 + cond (is_some o) 1 0) is ∙ omega arith

      by : (P : placing.Place) → (P ≡ Full → ⊥) → w.version ≡ version_at P l → m.next ≡ (placed P l w).next + versioned ws → m.next ≡ l.next + versioned (w ∷ ws)
      by Home not is rest = let a = split in let b = one None is in omega (arith, a, b, rest)
      by (Log lane) not is rest = let a = split in let b = one (Some l.next) is in omega (arith, a, b, rest)
      by Full not is rest = absurd (not refl)

step_next : (n : Noted) (pass : ℕ) (o : Operation) (l m : Look) → IsStep n pass o l m → ((ws : List Write) → o ≡ Broke ws → ⊥) → m.next ≡ l.next + versioned (written_by o)
unfolding versioned
step_next n pass (Read first reply) l m step whole = ap (λ (x : Look). x.next) step.1 ∙ omega arith
step_next n pass (Wrote ws) l m step whole = elim step [
  | inl placed_ ↦ writes_next n.passed l ws m placed_.1
  | inr drained_ ↦
      let d = drained_.1 in
      let next : m.next ≡ l.next = ap (λ (x : Look). x.next) d.drains.bare in
      let none : versioned ws ≡ 0 = ap versioned d.only ∙ ap (λ (o : Option ℕ). 0 + cond (is_some o) 1 0) d.home in
      omega (arith, next, none)
]
step_next n pass Kept l m step whole = (keep_same n.passed pass l m step.1).1 ∙ omega arith
step_next n pass (Broke ws) l m step whole = absurd (whole ws refl)

-- ---- All entries

-- no call failed in the first of these, nor in the others
unbroken : (n : Noted) (notes : List Noted) → flight_of (entries_of (n ∷ notes)) ≡ None → ((ws : List Write) → n.entry.operation ≡ Broke ws → ⊥) × (flight_of (entries_of notes) ≡ None)
unbroken n notes none = at n.entry.operation none
  where
    at : (o : Operation) → flight_from o (flight_of (entries_of notes)) ≡ None → ((ws : List Write) → o ≡ Broke ws → ⊥) × (flight_of (entries_of notes) ≡ None)
    at (Wrote vs) is = (λ ws so. cc so, is)
    at (Read first reply) is = (λ ws so. cc so, is)
    at Kept is = (λ ws so. cc so, is)
    at (Broke vs) is = absurd (cc is)

-- no next version that an entry leaves is above the one at the end
pub next_below : (l : Look) (notes : List Noted) (most : ℕ) → AreRuled l notes → AllByRecursion IsRuled notes → flight_of (entries_of notes) ≡ None → l.next + logged_writes notes ≤ most
    → AllByRecursion (λ (n : Noted). n.look.next ≤ most) notes
unfolding versioned
next_below l [] most rules all none le = tt
next_below l (n ∷ notes) most rules all none le =
    let (here, rest) = unbroken n notes none in
    let step : n.look.next ≡ l.next + versioned (written_by n.entry.operation) = step_next n n.entry.pass n.entry.operation l n.look (rules.0 all.0) here in
    let joined : logged_writes (n ∷ notes) ≡ versioned (written_by n.entry.operation) + logged_writes notes = versioned_joined (written_by n.entry.operation) (writes (entries_of notes)) in
    (omega (arith, step, joined, le), next_below n.look notes most rules.1 all.1 rest (omega (arith, step, joined, le)))

-- an entry behind which no call had failed leaves a next version that isn't above the one at the end, whatever comes behind it
pub next_at_most : (l : Look) (front : List Noted) (n : Noted) (later : List Noted) → AreRuled l (front ++ n ∷ later) → AllByRecursion IsRuled (front ++ n ∷ later) → flight_of (entries_of (front ++ n ∷ [])) ≡ None
    → n.look.next ≤ l.next + logged_writes (front ++ n ∷ later)
unfolding versioned
next_at_most l [] n later rules all none =
    let (here, rest) = unbroken n [] none in
    let step : n.look.next ≡ l.next + versioned (written_by n.entry.operation) = step_next n n.entry.pass n.entry.operation l n.look (rules.0 all.0) here in
    let joined : logged_writes (n ∷ later) ≡ versioned (written_by n.entry.operation) + logged_writes later = versioned_joined (written_by n.entry.operation) (writes (entries_of later)) in
    omega (arith, step, joined)
next_at_most l (m ∷ front) n later rules all none =
    let (here, rest) = unbroken m (front ++ n ∷ []) none in
    let step : m.look.next ≡ l.next + versioned (written_by m.entry.operation) = step_next m m.entry.pass m.entry.operation l m.look (rules.0 all.0) here in
    let joined : logged_writes (m ∷ (front ++ n ∷ later)) ≡ versioned (written_by m.entry.operation) + logged_writes (front ++ n ∷ later)
    = versioned_joined (written_by m.entry.operation) (writes (entries_of (front ++ n ∷ later))) in
    let more = next_at_most m.look front n later rules.1 all.1 rest in
    omega (arith, step, joined, more)
