-- Windows that are served one after another.
use Rattle.replay.proofs.Basics.{◌≡◌, ◌<◌, ◌+◌, ℕ, zero, suc, Bool, true, false, not, List, [], ◌∷◌, ◌++◌, length, length-append, map, min}
use Rattle.replay.proofs.Basics.{refl, sym, ap, subst, zero-add, ◌∙◌, append-nil, Option, Result, Ok, Err, inl, inr, arith, count_by}
use Rattle.replay.proofs.Basics.{sum_by, slice_index_or, slice_set, OnErr, OnOk, IfErr, flat_map, AllByRecursion, All-from_recursion}
use Rattle.replay.proofs.Basics.{cases_eq, get_or-set_same, get_or-set_other, flat_map-append, sum_by-append}
use Rattle.replay.proofs.Terms.{joined_lines, Config, most_of, targets_of, Batched, IsBatchOf, next_number, IsInside, numbered}
use Rattle.replay.proofs.Terms.{requests_in_all, Request, length-numbered, numbered_both, Totals, Outcome, ManagerLock, SpindlePass}
use Rattle.replay.proofs.Terms.{HaveBegun, HaveBegunVolumes, HasRun, AreOfVolumes, Floor, Reclaim, CountsWindow, most_count}
use Rattle.replay.proofs.Terms.{was_read, was_written, was_logged, went_home, was_drained, AreSamePasses, AreTotals, HaveStarted}
use Rattle.replay.proofs.Terms.{ServedFromStart, ServedWindow, StartsOnce, WasServed, WereServed, is_none_served, outcomes_in}
use Rattle.replay.proofs.Terms.{AreServedFrom, AreServedOf, AreVolumes, EndsIn, Finishes, GoesOn, HasBegunWindow, HasFailedToBegin}
use Rattle.replay.proofs.Terms.{HasServed, lines_of_window, lines_of_windows, Options, Session, Stop, AreWindowsOf, EndsWithWindow, Given}
use Rattle.replay.proofs.Terms.{HasGiven, RunsLines, TraceLine, WentWell}
use Rattle.wol_model.specs.Trace.{Window}
use Rattle.trace_windows.specs.Requests.{requests_in}
use Rattle.window_desks.specs.declared.request.Window.{Window as Answer}
use Rattle.replay.proofs.Outcomes.{counted_both}
use Rattle.replay.proofs.Waiting.{joined_both}

-- ---- Lines

-- all windows of these lines went well
abbrev pub all_went : {S : Type 0} (left : S → Option (List ℕ)) (config : Config) (start now : Given S) (run more : List (Option TraceLine)) → HasGiven left (targets_of config) start now (run ++ more) → (ss : List ServedWindow) → AreWindowsOf config run ss
    → ((ss ≡ [] → ⊥) → EndsWithWindow left config start now run more) → AllByRecursion WentWell ss → RunsLines left config start now
all_went left config start now run more given ss are whole well = record {
  run = run;
  more = more;
  given = given;
  earlier = ss;
  last = [];
  windows_ = subst (λ (ws : List ServedWindow). AreWindowsOf config run ws) (sym (append-nil ss)) are;
  whole = λ some. whole (λ none. some (append-nil ss ∙ none));
  ahead = λ some. absurd (some refl);
  well = well;
}

-- ---- Passes

pub same_passes : (ps : List SpindlePass) → AreSamePasses ps ps
same_passes ps = record { count = refl; each = λ k d h. (refl, refl) }

pub same_both : (ps qs rs : List SpindlePass) → AreSamePasses ps qs → AreSamePasses qs rs → AreSamePasses ps rs
same_both ps qs rs first then = record {
  count = then.count ∙ first.count;
  each = λ k d h. let (lock, number) = first.each k d h in let (lock', number') = then.each k d (omega (arith, h, first.count)) in (lock' ∙ lock, number' ∙ number);
}

-- an account that wasn't started starts
pub starts_first : (started : Bool) (at : ℕ) (ps qs : List SpindlePass) → started ≡ false → HaveStarted at ps qs → StartsOnce started at ps qs
starts_first true at ps qs is have = absurd (cc is)
starts_first false at ps qs is have = have

-- one place more, at which another value is put
module _ {B : Type 0} (R : B → B → Type 0) (ps qs : List B) (q : B) (k : ℕ) (room : k < length qs) where
  pub each_then : ((j : ℕ) (d : B) → j < k → R (slice_index_or ps j d) (slice_index_or qs j d)) → ((d : B) → R (slice_index_or ps k d) q)
      → (j : ℕ) (d : B) → j < k + 1 → R (slice_index_or ps j d) (slice_index_or (slice_set qs k q) j d)
  each_then before here j d lt = elim (cases_eq j k) [
    | inl same ↦ subst (λ (i : ℕ). R (slice_index_or ps i d) (slice_index_or (slice_set qs k q) i d)) (sym same) (subst (λ (z : B). R (slice_index_or ps k d) z) (sym (get_or-set_same qs k q d room)) (here d))
    | inr other ↦ subst (λ (z : B). R (slice_index_or ps j d) z) (sym (get_or-set_other qs k j q d other)) (before j d (omega (arith, lt, other)))
  ]

-- ---- The floor

module _ {D : Type 0} (tells : Bool) (mode : Reclaim) where
  were_more : (ss : List ServedWindow) (s : ServedWindow) (f : Floor D) (ps : List SpindlePass) (g : Floor D) (qs : List SpindlePass) (h : Floor D) (rs : List SpindlePass)
      → WereServed tells mode ss f ps g qs → WasServed tells mode s g qs h rs → WereServed tells mode (ss ++ s ∷ []) f ps h rs
  were_more [] s f ps g qs h rs (floor, passes) was =
      (h, rs, subst (λ (x : Floor D). WasServed tells mode s x ps h rs) floor (subst (λ (x : List SpindlePass). WasServed tells mode s g x h rs) passes was), (refl, refl))
  were_more (x ∷ ss) s f ps g qs h rs (i, ts, first, others) was = (i, ts, first, were_more ss s i ts g qs h rs others was)

  -- a window more was served
  pub served_more : (ss : List ServedWindow) (s : ServedWindow) (f : Floor D) (ps : List SpindlePass) (g : Floor D) (qs start : List SpindlePass) (h : Floor D) (rs : List SpindlePass)
      → ServedFromStart tells mode ss f ps g qs → StartsOnce (not (is_none_served ss)) s.batch.moment qs start → WasServed tells mode s g start h rs
      → ServedFromStart tells mode (ss ++ s ∷ []) f ps h rs
  served_more [] s f ps g qs start h rs (floor, passes) starts was = (
    start,
    subst (λ (x : List SpindlePass). HaveStarted s.batch.moment x start) passes starts,
    (h, rs, subst (λ (x : Floor D). WasServed tells mode s x start h rs) floor was, (refl, refl)),
  )
  served_more (x ∷ ss) s f ps g qs start h rs (begun, started, were) starts was =
      (begun, started, were_more (x ∷ ss) s f begun g qs h rs were (subst (λ (x : List SpindlePass). WasServed tells mode s g x h rs) starts was))

pub some_served : (ss : List ServedWindow) (s : ServedWindow) → not (is_none_served (ss ++ s ∷ [])) ≡ true
some_served [] s = refl
some_served (x ∷ ss) s = refl

-- ---- Counts

one_outcomes : (s : ServedWindow) → outcomes_in (s ∷ []) ≡ s.answer.outcomes.items
one_outcomes s = append-nil s.answer.outcomes.items

outcomes_more : (ss : List ServedWindow) (s : ServedWindow) → outcomes_in (ss ++ s ∷ []) ≡ outcomes_in ss ++ s.answer.outcomes.items
outcomes_more ss s = flat_map-append (λ (x : ServedWindow). x.answer.outcomes.items) ss (s ∷ []) ∙ ap (λ (os : List Outcome). outcomes_in ss ++ os) (one_outcomes s)

count_more : (p : Outcome → Bool) (ss : List ServedWindow) (s : ServedWindow) (a b : ℕ) → a ≡ count_by p (outcomes_in ss) → b ≡ a + count_by p s.answer.outcomes.items → b ≡ count_by p (outcomes_in (ss ++ s ∷ []))
count_more p ss s a b before more = rw (outcomes_more ss s) (counted_both p (outcomes_in ss) s.answer.outcomes.items 0 a b (before ∙ sym (zero-add (count_by p (outcomes_in ss)))) more ∙ zero-add (count_by p (outcomes_in ss ++ s.answer.outcomes.items)))

-- a count that stands still at its type's end
sum_more : (f : ServedWindow → ℕ) (ss : List ServedWindow) (s : ServedWindow) (a b : ℕ) → a ≡ min (sum_by f ss) most_count → b ≡ min (a + f s) most_count → b ≡ min (sum_by f (ss ++ s ∷ [])) most_count
sum_more f ss s a b before more =
    let all : sum_by f (ss ++ s ∷ []) ≡ sum_by f ss + f s = omega (arith, sum_by-append f ss (s ∷ [])) in
    rw (more, before, all) (capped (sum_by f ss) (f s) most_count)
  where
    capped : (x y m : ℕ) → min (min x m + y) m ≡ min (x + y) m
    capped x y m = omega arith

pub totals_none : (t : Totals) → t ≡ record { lines = 0; blank = 0; skipped = 0; reads = 0; writes = 0; home = 0; log = 0; drains = 0; blocks = 0; records = 0; span = 0 } → AreTotals [] t
totals_none t is = rw is (record { reads = refl; writes = refl; home = refl; log = refl; drains = refl; blocks = refl; records = refl })

pub totals_more : (ss : List ServedWindow) (s : ServedWindow) (t u : Totals) → AreTotals ss t → CountsWindow s.answer t u → AreTotals (ss ++ s ∷ []) u
totals_more ss s t u are counts = record {
  reads = count_more was_read ss s t.reads u.reads are.reads counts.reads;
  writes = count_more was_written ss s t.writes u.writes are.writes counts.writes;
  home = count_more went_home ss s t.home u.home are.home counts.home;
  log = count_more was_logged ss s t.log u.log are.log counts.log;
  drains = count_more was_drained ss s t.drains u.drains are.drains counts.drains;
  blocks = sum_more (λ (x : ServedWindow). x.answer.blocks) ss s t.blocks u.blocks are.blocks counts.blocks;
  records = sum_more (λ (x : ServedWindow). x.answer.records) ss s t.records u.records are.records counts.records;
}

-- ---- Windows

pub served_none : (config : Config) → AreServedOf config [] []
served_none config = tt

module _ (config : Config) where
  -- one window more
  from_more : (next : ℕ) (ws : List Window) (w : Window) (ss : List ServedWindow) (s : ServedWindow) → AreServedFrom config next ws ss
      → IsBatchOf (most_of config) (targets_of config) (next + next_number (most_of config) (targets_of config) ws) w s.batch → AreServedFrom config next (ws ++ w ∷ []) (ss ++ s ∷ [])
  from_more next [] w [] s are of = (subst (λ (n : ℕ). IsBatchOf (most_of config) (targets_of config) n w s.batch) (omega arith) of, tt)
  from_more next [] w (t ∷ ss) s are of = absurd are
  from_more next (v ∷ ws) w [] s are of = absurd are
  from_more next (v ∷ ws) w (t ∷ ss) s (first, others) of =
      let here : length t.batch.requests ≡ length (requests_in (most_of config) (targets_of config) v) = ap length first.requests ∙ length-numbered next (requests_in (most_of config) (targets_of config) v) in
      let both = length-append (requests_in (most_of config) (targets_of config) v) (requests_in_all (most_of config) (targets_of config) ws) in
      (first, from_more (next + length t.batch.requests) ws w ss s others (subst (λ (n : ℕ). IsBatchOf (most_of config) (targets_of config) n w s.batch) (omega (arith, here, both)) of))

  from_moments : (next : ℕ) (ws : List Window) (ss : List ServedWindow) → AreServedFrom config next ws ss → map (λ (s : ServedWindow). s.batch.moment) ss ≡ map (λ (w : Window). w.moment) ws
  from_moments next [] [] are = refl
  from_moments next [] (s ∷ ss) are = absurd are
  from_moments next (w ∷ ws) [] are = absurd are
  from_moments next (w ∷ ws) (s ∷ ss) (first, others) = λ i. first.moment i ∷ from_moments (next + length s.batch.requests) ws ss others i

  from_requests : (next : ℕ) (ws : List Window) (ss : List ServedWindow) → AreServedFrom config next ws ss
      → flat_map (λ (s : ServedWindow). s.batch.requests) ss ≡ numbered next (requests_in_all (most_of config) (targets_of config) ws)
  from_requests next [] [] are = refl
  from_requests next [] (s ∷ ss) are = absurd are
  from_requests next (w ∷ ws) [] are = absurd are
  from_requests next (w ∷ ws) (s ∷ ss) (first, others) =
      let here : length s.batch.requests ≡ length (requests_in (most_of config) (targets_of config) w) = ap length first.requests ∙ length-numbered next (requests_in (most_of config) (targets_of config) w) in
      (λ i. first.requests i ++ from_requests (next + length s.batch.requests) ws ss others i)
      ∙ ap (λ (n : ℕ). numbered next (requests_in (most_of config) (targets_of config) w) ++ numbered (next + n) (requests_in_all (most_of config) (targets_of config) ws)) here
      ∙ sym (numbered_both next (requests_in (most_of config) (targets_of config) w) (requests_in_all (most_of config) (targets_of config) ws))

  pub served_of_more : (ws : List Window) (w : Window) (ss : List ServedWindow) (s : ServedWindow) → AreServedOf config ws ss
      → IsBatchOf (most_of config) (targets_of config) (next_number (most_of config) (targets_of config) ws) w s.batch → AreServedOf config (ws ++ w ∷ []) (ss ++ s ∷ [])
  served_of_more ws w ss s are of = from_more 0 ws w ss s are (subst (λ (n : ℕ). IsBatchOf (most_of config) (targets_of config) n w s.batch) (omega arith) of)

  pub served_moments : (ws : List Window) (ss : List ServedWindow) → AreServedOf config ws ss → map (λ (s : ServedWindow). s.batch.moment) ss ≡ map (λ (w : Window). w.moment) ws
  served_moments ws ss are = from_moments 0 ws ss are

  pub served_requests : (ws : List Window) (ss : List ServedWindow) → AreServedOf config ws ss → flat_map (λ (s : ServedWindow). s.batch.requests) ss ≡ numbered 0 (requests_in_all (most_of config) (targets_of config) ws)
  served_requests ws ss are = from_requests 0 ws ss are

-- ---- Lines

pub lines_of_more : (config : Config) (options : Options) (ss : List ServedWindow) (s : ServedWindow) → joined_lines (lines_of_windows config options (ss ++ s ∷ []))
    ≡ joined_lines (lines_of_windows config options ss) ++ joined_lines (lines_of_window config options s)
lines_of_more config options ss s =
    ap joined_lines (flat_map-append (lines_of_window config options) ss (s ∷ []) ∙ ap (λ (x : List (List ℕ)). lines_of_windows config options ss ++ x) (append-nil (lines_of_window config options s)))
    ∙ joined_both (lines_of_windows config options ss) (lines_of_window config options s)

-- each went well
pub well_more : (P : ServedWindow → Type 0) (ss : List ServedWindow) (s : ServedWindow) → AllByRecursion P ss → P s → AllByRecursion P (ss ++ s ∷ [])
well_more P [] s all here = (here, tt)
well_more P (x ∷ ss) s (first, others) here = (first, well_more P ss s others here)

-- ---- Requests that lie in their volumes

pub all_at : {X : Type 0} (P : X → Type 0) (xs : List X) → AllByRecursion P xs → (k : ℕ) (d : X) → k < length xs → P (slice_index_or xs k d)
all_at P [] all k d lt = absurd (omega (arith, lt))
all_at P (x ∷ xs) (first, others) zero d lt = first
all_at P (x ∷ xs) (first, others) (suc k) d lt = all_at P xs others k d (omega (arith, lt))

module _ {D : Type 0} (config : Config) (ls : List (ManagerLock D)) (sizes : AreVolumes config ls) (rs : List Request) (lie : AllByRecursion (IsInside (most_of config) (targets_of config)) rs) where
  pub of_volumes : (n : ℕ) → n ≡ length ls → AreOfVolumes n rs
  of_volumes n is = All-from_recursion (λ (r : Request). r.volume < n) rs (each rs lie)
    where
      each : (xs : List Request) → AllByRecursion (IsInside (most_of config) (targets_of config)) xs → AllByRecursion (λ (r : Request). r.volume < n) xs
      each [] all = tt
      each (x ∷ xs) (first, others) = (omega (arith, first.volume, sizes.count, is), each xs others)

-- ---- A window is begun and served

pub on_ok : {T E P Q : Type 0} (r : Result T E) → (P → Q) → OnOk r P → OnOk r Q
on_ok (Ok x) f h = f h
on_ok (Err e) f h = tt

pub on_err : {T E P Q R : Type 0} (r : Result T E) → (P → Q → R) → OnErr r P → OnErr r Q → OnErr r R
on_err (Ok x) f p q = tt
on_err (Err e) f p q = f p q

-- a fact more about an error
pub err_with : {T E X : Type 0} (Q : E → Type 0) (r : Result T E) → X → IfErr r Q → IfErr r (λ e. X × Q e)
err_with Q (Ok x) fact q = tt
err_with Q (Err e) fact q = (fact, q)

-- it wasn't begun
pub window_failed : {D : Type 0} (t : ℕ) (s m n : Session D) → m ≡ record s { keepers = m.keepers; started = true } → StartsOnce s.started t s.keepers.items m.keepers.items
    → n.keepers.items ≡ m.keepers.items → n.floor ≡ m.floor → HasFailedToBegin t s n
window_failed {D} t s m n only starts failed rest = record { start = m.keepers.items; starts = starts; spindles = failed; floor_ = rest ∙ ap (λ (x : Session D). x.floor) only }

pub window_begun : {D : Type 0} (tells : Bool) (t : ℕ) (s m n : Session D) → m ≡ record s { keepers = m.keepers; started = true } → StartsOnce s.started t s.keepers.items m.keepers.items
    → n.floor ≡ record m.floor { keepers = n.floor.keepers }
    → ((awake : List Bool) × HaveBegun t awake m.keepers.items n.keepers.items × HaveBegunVolumes tells awake m.floor.keepers.items n.floor.keepers.items) → HasBegunWindow tells t s n
window_begun {D} tells t s m n only starts rest (awake, spindles, volumes) =
    let floor : m.floor ≡ s.floor = ap (λ (x : Session D). x.floor) only in
    record {
      start = m.keepers.items;
      starts = starts;
      awake = awake;
      spindles = spindles;
      volumes = subst (λ (x : Floor D). HaveBegunVolumes tells awake x.keepers.items n.floor.keepers.items) floor volumes;
      only = subst (λ (x : Floor D). n.floor ≡ record x { keepers = n.floor.keepers }) floor rest;
    }

module _ {D : Type 0} (tells : Bool) (config : Config) (options : Options) (b : Batched) (s m n : Session D) (begun : HasBegunWindow tells b.moment s m) (answer : Answer)
    (run : HasRun tells b.requests options.reclaim m.floor n.floor answer) (counts : CountsWindow answer s.totals n.totals) (same : n.keepers.items ≡ m.keepers.items) where
  abbrev served_here : HasServed tells options b s n
  served_here = record {
    answer = answer;
    start = begun.start;
    starts = begun.starts;
    was = record {
      awake = begun.awake;
      begun = m.floor;
      spindles = subst (λ (x : List SpindlePass). HaveBegun b.moment begun.awake begun.start x) (sym same) begun.spindles;
      volumes = begun.volumes;
      only = begun.only;
      run = run;
    };
    counted = counts;
  }

  pub goes_on : {T : Type 0} (result : Result T Stop) (faults faults' : ℕ) (printed new : Option (List ℕ)) → Finishes result config options b.requests answer faults faults' printed new
      → OnOk result (GoesOn tells config options b s n faults faults' printed new)
  goes_on (Ok x) faults faults' printed new (well, calm, prints) = (served_here, well, calm, prints)
  goes_on (Err e) faults faults' printed new finishes = tt

  pub ends_in : {T : Type 0} (result : Result T Stop) (faults faults' : ℕ) (printed new : Option (List ℕ)) → Finishes result config options b.requests answer faults faults' printed new
      → IfErr result (λ e. EndsIn e tells config options b s n faults faults' printed new)
  ends_in (Ok x) faults faults' printed new finishes = tt
  ends_in (Err e) faults faults' printed new finishes = inr (served_here, finishes)
