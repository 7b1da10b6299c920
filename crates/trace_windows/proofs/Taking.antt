-- What a cutter has cut, with a line more.
use Rattle.std.proofs.Common.{◌≡◌, ℕ, ◌+◌, max, Bool, true, false, not, cond, List, [], ◌∷◌, ◌++◌, length, Option, Some, None, refl, sym, ap, ◌∙◌, append-nil, arith, length-append}
use Rattle.std.specs.Prelude.{is_none, is_some, count_by, if◌then◌else◌, ◌==◌}
use Rattle.std.proofs.lemmas.Grind.{flat_map-append}
use Rattle.std.proofs.lemmas.List.Sums.{sum_by-cons}
use Rattle.std.proofs.lemmas.Bool.{eq-eqb, ne_eqb}
use Rattle.wol_model.specs.Trace as trace
use Rattle.wol_model.specs.Trace.{Target, Timed, TraceLine, Window, joined, joins, numbered_from, opened, pieces_of, requests, requests_of, requests_on, timed, timed_from, volume_of, windows, is_skipped}
use Rattle.trace_windows.specs.declared.request.Request.{Request}
use Rattle.trace_windows.specs.declared.tally.Tally.{Tally}
use Rattle.trace_windows.specs.Requests.{numbered, requests_in, requests_in_all}
use Rattle.trace_windows.specs.Batches.{Admits, Batched, IsBatchOf, IsPut, no_lines, with_line}
use Rattle.trace_windows.specs.Cutting.{AreWindows, Cutting, HasCut, Takes, next_number}
use Rattle.trace_windows.proofs.Counting.{counts_more, have_requests, requests_blank, requests_more}
use Rattle.trace_windows.proofs.Joining.{last_more, next_timed, timed_blank, timed_more, windows_blank, windows_close, windows_first, windows_join}
use Rattle.trace_windows.proofs.Numbering.{length-numbered, numbered_both}

-- ---- Batches

module _ (most : ℕ) (targets : List Target) where
  -- a window of one line
  batch_opened : (next : ℕ) (t : Timed) (b : Batched) → b ≡ with_line t.time (numbered next (requests_of most targets t.number t.line)) no_lines → IsBatchOf most targets next (opened t (pieces_of most targets t)) b
  batch_opened next t b is =
      let rs : List trace.Request = requests_of most targets t.number t.line in
      let all : rs ++ [] ≡ rs = append-nil rs in
      rw is (record { some = omega arith; moment = refl; lines = refl; pieces = length-numbered next rs; requests = ap (numbered next) (sym all) })

  -- a window with a line more
  batch_joined : (next place : ℕ) (w : Window) (t : Timed) (b c : Batched) → IsBatchOf most targets next w b → place ≡ next + length (requests_in most targets w)
      → c ≡ with_line t.time (numbered place (requests_of most targets t.number t.line)) b → IsBatchOf most targets next (joined w t (pieces_of most targets t)) c
  batch_joined next place w t b c of at is =
      let rs : List trace.Request = requests_of most targets t.number t.line in
      let here : List trace.Request = requests_in most targets w in
      let further : (b.lines == 0) ≡ false = ne_eqb b.lines 0 (λ none. absurd (omega (arith, of.some))) in
      let more : requests_in most targets (joined w t (pieces_of most targets t)) ≡ here ++ rs =
      flat_map-append (λ (l : Timed). requests_of most targets l.number l.line) w.lines (t ∷ []) ∙ ap (λ (others : List trace.Request). here ++ others) (append-nil rs) in
      rw is (record {
        some = omega arith;
        moment = ap (λ (b' : Bool). cond b' t.time b.moment) further ∙ of.moment;
        lines = omega (arith, of.lines, length-append w.lines (t ∷ []));
        pieces = length-append b.requests (numbered place rs) ∙ omega (arith, of.pieces, length-numbered place rs);
        requests = ap (λ (others : List Request). others ++ numbered place rs) of.requests ∙ ap (λ (n : ℕ). numbered next here ++ numbered n rs) at
            ∙ sym (numbered_both next here rs) ∙ ap (numbered next) (sym more);
      })

  -- the number of the next request is that behind all windows
  number_behind : (ls : List (Option TraceLine)) (given : List Window) (w : Window) → windows most targets ls ≡ given ++ w ∷ [] → length (requests most targets ls) ≡ next_number most targets given + length (requests_in most targets w)
  number_behind ls given w is =
      let all : requests most targets ls ≡ requests_in_all most targets given ++ (requests_in most targets w ++ []) =
      sym (have_requests most targets ls) ∙ ap (requests_in_all most targets) is ∙ flat_map-append (requests_in most targets) given (w ∷ []) in
      ap length all ∙ length-append (requests_in_all most targets given) (requests_in most targets w ++ []) ∙ ap (λ (rs : List trace.Request). next_number most targets given + length rs) (append-nil (requests_in most targets w))

  number_after : (given : List Window) (w : Window) → next_number most targets (given ++ w ∷ []) ≡ next_number most targets given + length (requests_in most targets w)
  number_after given w =
      ap length (flat_map-append (requests_in most targets) given (w ∷ [])) ∙ length-append (requests_in_all most targets given) (requests_in most targets w ++ []) ∙ ap (λ (rs : List trace.Request). next_number most targets given + length rs) (append-nil (requests_in most targets w))

-- ---- Counts

-- each line is blank or has a time
timed_or_blank : (n t : ℕ) (ls : List (Option TraceLine)) → length (timed_from t (numbered_from n ls)) + count_by is_none ls ≡ length ls
timed_or_blank n t [] = refl
timed_or_blank n t (None ∷ ls) = let rest = timed_or_blank (n + 1) t ls in omega (arith, rest, sum_by-cons (λ (l : Option TraceLine). cond (is_none l) 1 0) None ls)
timed_or_blank n t (Some l ∷ ls) = let rest = timed_or_blank (n + 1) (max t l.time) ls in omega (arith, rest, sum_by-cons (λ (k : Option TraceLine). cond (is_none k) 1 0) (Some l) ls)

started_more : (ls : List (Option TraceLine)) (t : Timed) → (if length ls == count_by is_none ls then t.time else trace.started (timed ls)) ≡ trace.started (timed ls ++ t ∷ [])
started_more ls t = at (timed ls) (timed_or_blank 1 0 ls)
  where
    at : (ts : List Timed) → length ts + count_by is_none ls ≡ length ls → cond (length ls == count_by is_none ls) t.time (trace.started ts) ≡ trace.started (ts ++ t ∷ [])
    at [] all = ap (λ (b : Bool). cond b t.time 0) (eq-eqb (length ls) (count_by is_none ls) (omega (arith, all)))
    at (u ∷ ts) all = ap (λ (b : Bool). cond b t.time u.time) (ne_eqb (length ls) (count_by is_none ls) (λ same. absurd (omega (arith, all))))

pub none_of : (v : Option ℕ) (b : Bool) → is_some v ≡ not b → b ≡ is_none v
none_of None true is = refl
none_of None false is = cc
none_of (Some n) true is = cc
none_of (Some n) false is = refl

-- what is counted of a line that isn't blank
pub record Counts (time skips asks : ℕ) (old new : Tally) : Type 0 where
  pub lines : new.lines ≡ old.lines + 1
  pub blank : new.blank ≡ old.blank
  pub skipped : new.skipped ≡ old.skipped + skips
  pub requests : new.requests ≡ old.requests + asks
  pub started : new.started ≡ (if old.lines == old.blank then time else old.started)
  pub ended : new.ended ≡ time

module _ (most : ℕ) (targets : List Target) (ls : List (Option TraceLine)) (given : List Window) where
  -- a blank line
  pub takes_blank : (old new : Cutting) → HasCut most targets ls given old → new.current ≡ old.current → new.whole ≡ no_lines
      → new.tally ≡ record old.tally { lines = old.tally.lines + 1; blank = old.tally.blank + 1 } → Takes most targets ls given None false new
  takes_blank old new cut same none is = (
    rw (same, is) (record {
      last = cut.last;
      windows = rw (windows_blank most targets ls) cut.windows;
      lines = omega (arith, cut.lines, length-append ls (None ∷ []));
      blank = ap (λ (n : ℕ). n + 1) cut.blank ∙ sym (counts_more is_none ls None);
      skipped = cut.skipped ∙ omega (arith, counts_more (is_skipped targets) ls None);
      requests = cut.requests ∙ ap length (sym (requests_blank most targets ls));
      started = cut.started ∙ ap trace.started (sym (timed_blank ls));
      ended = cut.ended ∙ ap trace.ended (sym (timed_blank ls));
    }),
    none,
  )

  module _ (l : TraceLine) (old new : Cutting) (cut : HasCut most targets ls given old) where
    abbrev here : Timed
    here = next_timed ls l

    abbrev asked_here : List trace.Request
    asked_here = requests_of most targets (length ls + 1) l

    -- the counts and the windows together
    with_counts : (given' : List Window) (last : Window) → windows most targets (ls ++ Some l ∷ []) ≡ given' ++ last ∷ [] → IsBatchOf most targets (next_number most targets given') last new.current
        → Counts here.time (cond (is_skipped targets (Some l)) 1 0) (length asked_here) old.tally new.tally → HasCut most targets (ls ++ Some l ∷ []) given' new
    with_counts given' last is of counts = record {
      last = Some last;
      windows = (is, of);
      lines = omega (arith, counts.lines, cut.lines, length-append ls (Some l ∷ []));
      blank = counts.blank ∙ cut.blank ∙ omega (arith, counts_more is_none ls (Some l));
      skipped = counts.skipped ∙ ap (λ (n : ℕ). n + cond (is_skipped targets (Some l)) 1 0) cut.skipped ∙ sym (counts_more (is_skipped targets) ls (Some l));
      requests = counts.requests ∙ ap (λ (n : ℕ). n + length asked_here) cut.requests ∙ sym (ap length (requests_more most targets ls l) ∙ length-append (requests most targets ls) asked_here);
      started = counts.started ∙ rw (cut.lines, cut.blank, cut.started) (started_more ls here) ∙ ap trace.started (sym (timed_more ls l));
      ended = counts.ended ∙ sym (last_more 0 (timed ls) here) ∙ ap trace.ended (sym (timed_more ls l));
    }

    module _ (counts : Counts here.time (cond (is_skipped targets (Some l)) 1 0) (length asked_here) old.tally new.tally) where
      -- the first line that isn't blank
      takes_first : (closes : Bool) → AreWindows most targets (windows most targets ls) given None old.current → Admits old.current here.time (length asked_here) (not closes)
          → IsPut here.time (numbered old.tally.requests asked_here) old.current new.current new.whole closes → Takes most targets ls given (Some l) closes new
      takes_first true (none, no_given, no_current) admits put = let first : not true ≡ true = admits.first (ap (λ (b : Batched). b.lines) no_current) in cc
      takes_first false (none, no_given, no_current) admits put =
          let number : old.tally.requests ≡ 0 = cut.requests ∙ ap length (sym (have_requests most targets ls) ∙ ap (requests_in_all most targets) none) in
          let is : new.current ≡ with_line here.time (numbered 0 asked_here) no_lines = put.0 ∙ ap (λ (b : Batched). with_line here.time (numbered old.tally.requests asked_here) b) no_current ∙ ap (λ (n : ℕ). with_line here.time (numbered n asked_here) no_lines) number in
          (rw no_given (with_counts [] (opened here (pieces_of most targets here)) (windows_first most targets ls l none) (batch_opened most targets 0 here new.current is) counts), put.1)

      -- a further line
      takes_further : (closes : Bool) (w : Window) → AreWindows most targets (windows most targets ls) given (Some w) old.current → Admits old.current here.time (length asked_here) (not closes)
          → IsPut here.time (numbered old.tally.requests asked_here) old.current new.current new.whole closes → Takes most targets ls given (Some l) closes new
      takes_further true w (is, of) admits put =
          let may : joins w here (pieces_of most targets here) ≡ false = admits.further of.some w here (sym of.moment) (sym of.lines) (sym of.pieces) refl in
          let number : old.tally.requests ≡ next_number most targets (given ++ w ∷ []) = cut.requests ∙ number_behind most targets ls given w is ∙ sym (number_after most targets given w) in
          let opens : new.current ≡ with_line here.time (numbered (next_number most targets (given ++ w ∷ [])) asked_here) no_lines = put.0 ∙ ap (λ (n : ℕ). with_line here.time (numbered n asked_here) no_lines) number in
          (w, rw put.1 of, with_counts (given ++ w ∷ []) (opened here (pieces_of most targets here)) (windows_close most targets ls l given w is may) (batch_opened most targets (next_number most targets (given ++ w ∷ [])) here new.current opens) counts)
      takes_further false w (is, of) admits put =
          let may : joins w here (pieces_of most targets here) ≡ true = admits.further of.some w here (sym of.moment) (sym of.lines) (sym of.pieces) refl in
          let number : old.tally.requests ≡ next_number most targets given + length (requests_in most targets w) = cut.requests ∙ number_behind most targets ls given w is in
          (with_counts given (joined w here (pieces_of most targets here)) (windows_join most targets ls l given w is may) (batch_joined most targets (next_number most targets given) old.tally.requests w here old.current new.current of number put.0) counts, put.1)

      takes_timed : (closes : Bool) → Admits old.current here.time (length asked_here) (not closes)
          → IsPut here.time (numbered old.tally.requests asked_here) old.current new.current new.whole closes → Takes most targets ls given (Some l) closes new
      takes_timed closes admits put = at cut.last cut.windows
        where
          at : (last : Option Window) → AreWindows most targets (windows most targets ls) given last old.current → Takes most targets ls given (Some l) closes new
          at None are = takes_first closes are admits put
          at (Some w) are = takes_further closes w are admits put

    -- a line that isn't blank, as the call has it
    pub takes_line : (closes : Bool) (time count number : ℕ) (volume : Option ℕ) → time ≡ max old.tally.ended l.time → volume ≡ volume_of targets l → number ≡ old.tally.lines + 1
        → length (requests_on most targets number l volume) ≡ count → Counts time (cond (is_none volume) 1 0) count old.tally new.tally → Admits old.current time count (not closes)
        → IsPut time (numbered old.tally.requests (requests_on most targets number l volume)) old.current new.current new.whole closes → Takes most targets ls given (Some l) closes new
    takes_line closes time count number volume at on is asks counts admits put =
        let t : time ≡ here.time = at ∙ ap (λ (n : ℕ). max n l.time) cut.ended in
        let n : number ≡ length ls + 1 = is ∙ ap (λ (k : ℕ). k + 1) cut.lines in
        let rs : requests_on most targets number l volume ≡ asked_here = ap (requests_on most targets number l) on ∙ ap (λ (k : ℕ). requests_on most targets k l (volume_of targets l)) n in
        let c : count ≡ length asked_here = sym asks ∙ ap length rs in
        let skips : Option ℕ → ℕ = λ v. cond (is_none v) 1 0 in
        let s : skips volume ≡ skips (volume_of targets l) = ap skips on in
        takes_timed (rw (t, c, s) at counts) closes (rw (t, c) at admits) (rw (t, rs) at put)

-- before the first line
pub cut_none : (most : ℕ) (targets : List Target) (c : Cutting) → c.tally ≡ record { lines = 0; blank = 0; skipped = 0; requests = 0; started = 0; ended = 0 } → c.current ≡ no_lines → HasCut most targets [] [] c
unfolding requests windows
cut_none most targets c none is = rw none (record { last = None; windows = (refl, refl, is); lines = refl; blank = refl; skipped = refl; requests = refl; started = refl; ended = refl })
