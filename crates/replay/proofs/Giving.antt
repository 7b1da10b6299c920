-- A line more of those that are given, and what comes after the last.
use Rattle.replay.proofs.Basics.{◌≡◌, ◌<◌, ◌≤◌, ◌+◌, ◌-◌, ◌^◌, ℕ, false, List, [], ◌∷◌, ◌++◌, length, map, Option, Some, refl, sym, ap, ◌∙◌, arith}
use Rattle.replay.proofs.Basics.{length-append, list_any, range_with_len, Keeps, Result, Ok, Err, None, option_map, IfOk, IfErr, IfSome, OnErr}
use Rattle.std.specs.Prelude.{IfNone}
use Rattle.replay.proofs.Terms.{Target, TraceLine, is_feed, Reading, IsDone, RefusesLine, pending, TraceFault, Generator, line, Given}
use Rattle.replay.proofs.Terms.{HasGiven, HasGivenAll, Refuses, RefusesTrace}
use Rattle.std.proofs.lemmas.List.FromFn.{map-range_with_len_more}
use Rattle.msr_trace.specs.declared.format.BadLine.{BadLine}
use Rattle.solo.specs.Requests.{HasLinesBefore}
use Rattle.solo.proofs.Running.{has_all, has_bad, has_kept, has_more, has_next, has_none}
use Rattle.msr_trace.specs.Reading.{TakesLine}
use Rattle.replay.specs.declared.given.Given.TheVariants.{Trace, Generated}
use Rattle.msr_trace.specs.declared.format.TraceFault.TheVariants as fault

module _ {S : Type 0} (left : S → Option (List ℕ)) (targets : List Target) where
  -- ---- A trace

  pub read_all : (start : Given S) (r q : Reading S) (ls : List (Option TraceLine)) → HasGiven left targets start (Trace r) ls → IsDone left r q → HasGivenAll left targets start (Trace q) ls
  read_all (Trace s) r q ls (has, count) done = (has_all (pending left s) (pending left r) (left q.source) q.held ls has done.kept done.none_held done.at_end, done.none_held, done.at_end)
  read_all (Generated g n) r q ls has done = absurd has

  refused_trace : (s r q : Reading S) (e : TraceFault) (ls : List (Option TraceLine)) → HasLinesBefore (pending left s) ls (pending left r) → r.given ≡ s.given + length ls → Keeps (pending left r) (pending left q)
      → ((number : ℕ) (why : BadLine) → e ≡ fault.Bad number why → (number ≡ r.given + 1) × RefusesLine (pending left r) why)
      → (e ≡ fault.Spent → (r.given ≡ 2 ^ 32) × (0 < length q.held)) → (e ≡ fault.Source → list_any is_feed q.held ≡ false) → RefusesTrace e (pending left s) (left q.source) q.held s.given ls
  refused_trace s r q fault.Source ls has count keeps bad spent cut = (cut refl, has_kept (pending left s) (pending left r) (pending left q) ls has keeps)
  refused_trace s r q (fault.Bad number why) ls has count keeps bad spent cut =
      let (is, refuses) = bad number why refl in
      let (more, found) = has_bad (pending left s) (pending left r) ls why has refuses in
      (more, found, is ∙ ap (λ (n : ℕ). n + 1) count)
  refused_trace s r q fault.Spent ls has count keeps bad spent cut =
      let (full, some) = spent refl in
      let (next, more, found) = has_next (pending left s) (left q.source) q.held ls (has_kept (pending left s) (pending left r) (pending left q) ls has keeps) some in
      (next, more, found, sym count ∙ full)
  refused_trace s r q fault.NoMemory ls has count keeps bad spent cut = tt

  pub read_refused : (start : Given S) (r q : Reading S) (e : TraceFault) (ls : List (Option TraceLine)) → HasGiven left targets start (Trace r) ls → Keeps (pending left r) (pending left q)
      → ((number : ℕ) (why : BadLine) → e ≡ fault.Bad number why → (number ≡ r.given + 1) × RefusesLine (pending left r) why)
      → (e ≡ fault.Spent → (r.given ≡ 2 ^ 32) × (0 < length q.held)) → (e ≡ fault.Source → list_any is_feed q.held ≡ false) → Refuses left e start (Trace q) ls
  read_refused (Trace s) r q e ls (has, count) keeps bad spent cut = refused_trace s r q e ls has count keeps bad spent cut
  read_refused (Generated g n) r q e ls has keeps bad spent cut = absurd has

  pub read_kept : (start : Given S) (r q : Reading S) (ls : List (Option TraceLine)) → HasGiven left targets start (Trace r) ls → Keeps (pending left r) (pending left q) → q.given ≡ r.given → HasGiven left targets start (Trace q) ls
  read_kept (Trace s) r q ls (has, count) keeps same = (has_kept (pending left s) (pending left r) (pending left q) ls has keeps, same ∙ count)
  read_kept (Generated g n) r q ls has keeps same = absurd has

  read_more : (start : Given S) (r q : Reading S) (ls : List (Option TraceLine)) (l : Option TraceLine) → HasGiven left targets start (Trace r) ls → TakesLine (pending left r) (pending left q) (Ok l) → q.given ≡ r.given + 1
      → HasGiven left targets start (Trace q) (ls ++ l ∷ [])
  read_more (Trace s) r q ls l (has, count) takes one =
      let more : length (ls ++ l ∷ []) ≡ length ls + 1 = length-append ls (l ∷ []) in
      (has_more (pending left s) (pending left r) (pending left q) ls l has takes, omega (arith, count, one, more))
  read_more (Generated g n) r q ls l has takes one = absurd has

  -- what a call of the trace answers: a line more, the end, or a refusal
  pub lines_more : {L : Type 0} (of : L → TraceLine) (r q : Reading S) (result : Result (Option (Option L)) TraceFault)
      → IfOk result (λ o. IfSome o (λ l. TakesLine (pending left r) (pending left q) (Ok (option_map of l)))) → IfOk result (λ o. IfSome o (λ _. q.given ≡ r.given + 1))
      → IfOk result (λ o. IfSome o (λ l. (start : Given S) (ls : List (Option TraceLine)) → HasGiven left targets start (Trace r) ls → HasGiven left targets start (Trace q) (ls ++ option_map of l ∷ [])))
  lines_more of r q (Err e) takes one = tt
  lines_more of r q (Ok None) takes one = tt
  lines_more of r q (Ok (Some l)) takes one = λ start ls has. read_more start r q ls (option_map of l) has takes one

  pub lines_end : {X : Type 0} (r q : Reading S) (result : Result (Option X) TraceFault) → IfOk result (λ o. IfNone o (IsDone left r q))
      → IfOk result (λ o. IfNone o ((start : Given S) (ls : List (Option TraceLine)) → HasGiven left targets start (Trace r) ls → HasGiven left targets start (Trace q) ls × HasGivenAll left targets start (Trace q) ls))
  lines_end r q (Err e) done = tt
  lines_end r q (Ok (Some x)) done = tt
  lines_end r q (Ok None) done = λ start ls has. (read_kept start r q ls has done.kept done.given, read_all start r q ls has done)

  pub lines_refused : {X : Type 0} (r q : Reading S) (result : Result X TraceFault) → OnErr result (Keeps (pending left r) (pending left q)) → OnErr result (q.given ≡ r.given)
      → ((number : ℕ) (why : BadLine) → result ≡ Err (fault.Bad number why) → (number ≡ r.given + 1) × (number ≤ 2 ^ 32) × RefusesLine (pending left r) why)
      → (result ≡ Err fault.Spent → (r.given ≡ 2 ^ 32) × (0 < length q.held)) → (result ≡ Err fault.Source → list_any is_feed q.held ≡ false)
      → IfErr result (λ e. (start : Given S) (ls : List (Option TraceLine)) → HasGiven left targets start (Trace r) ls → HasGiven left targets start (Trace q) ls × Refuses left e start (Trace q) ls)
  lines_refused r q (Ok x) keeps same bad spent cut = tt
  lines_refused r q (Err e) keeps same bad spent cut = λ start ls has. (
    read_kept start r q ls has keeps same,
    read_refused start r q e ls has keeps (λ number why is. let b = bad number why (ap Err is) in (b.0, b.2)) (λ is. spent (ap Err is)) (λ is. cut (ap Err is)),
  )

  -- ---- A seed

  pub made_more : (start : Given S) (g h : Generator) (n : ℕ) (ls : List (Option TraceLine)) (l : TraceLine) → HasGiven left targets start (Generated g n) ls → l ≡ line targets g.seed g.given → h ≡ record g { given = g.given + 1 }
      → HasGiven left targets start (Generated h n) (ls ++ Some l ∷ [])
  made_more (Trace s) g h n ls l has is next = absurd has
  made_more (Generated s m) g h n ls l (same, at, are) is next =
      let count : length (ls ++ Some l ∷ []) ≡ length ls + 1 = length-append ls (Some l ∷ []) in
      let reached : (s.given + length ls) + 1 ≡ s.given + length (ls ++ Some l ∷ []) = omega (arith, count) in
      let f : ℕ → Option TraceLine = λ (k : ℕ). Some (line targets s.seed k) in
      let last : Some l ≡ f (s.given + length ls) = ap (λ (x : TraceLine). Some x) (is ∙ ap (λ (r : Generator). line targets r.seed r.given) at) in
      let more : map f (range_with_len s.given (length ls + 1)) ≡ map f (range_with_len s.given (length ls)) ++ f (s.given + length ls) ∷ [] = map-range_with_len_more f s.given (length ls) (s.given + length ls) refl in (
        same,
        next ∙ ap (λ (r : Generator). record r { given = r.given + 1 }) at ∙ ap (λ (k : ℕ). record s { given = k }) reached,
        ap (λ (xs : List (Option TraceLine)). xs ++ Some l ∷ []) are ∙ ap (λ (x : Option TraceLine). map f (range_with_len s.given (length ls)) ++ x ∷ []) last ∙ sym more
            ∙ ap (λ (k : ℕ). map f (range_with_len s.given k)) (sym count),
      )

  pub made_all : (start : Given S) (g : Generator) (n : ℕ) (ls : List (Option TraceLine)) → HasGiven left targets start (Generated g n) ls → g.given ≡ n → HasGivenAll left targets start (Generated g n) ls
  made_all (Trace s) g n ls has end = absurd has
  made_all (Generated s m) g n ls (same, at, are) end =
      let reached : g.given ≡ s.given + length ls = ap (λ (r : Generator). r.given) at in
      let count : length ls ≡ m - s.given = omega (arith, reached, end, same) in
      (end ∙ same, are ∙ ap (λ (k : ℕ). map (λ (i : ℕ). Some (line targets s.seed i)) (range_with_len s.given k)) count)

  pub none_given : (start : Given S) → HasGiven left targets start start []
  none_given (Trace s) = (has_none (pending left s), omega arith)
  none_given (Generated g n) = (refl, ap (λ (k : ℕ). record g { given = k }) (omega arith), refl)
