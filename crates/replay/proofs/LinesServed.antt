-- The lines of a trace, whose windows are served one after another.
use Rattle.replay.proofs.Basics.{◌≡◌, ◌≢◌, ◌≤◌, ◌<◌, ◌-◌, ℕ, suc, Bool, true, false, not, slice_index_or, Bor, List, [], ◌∷◌, ◌++◌, length}
use Rattle.replay.proofs.Basics.{map, Option, None, Some, inl, inr, ◌⊎◌, refl, sym, ap, subst, ◌∙◌, append_assoc, append-nil, length-append}
use Rattle.replay.proofs.Basics.{arith, option_copied, option_map, AllByRecursion, Appends, Keeps}
use Rattle.replay.proofs.Terms.{trace_line, appends_both, appends_kept, appends_none, keeps_same, Target, TraceLine, joins, pieces_of}
use Rattle.replay.proofs.Terms.{started, ended, joined_lines, Config, VolumeConf, IsValid, most_of, target_of, targets_of, Batched}
use Rattle.replay.proofs.Terms.{IsBatchOf, AreWindows, Cutting, HasCut, next_number, IsInside, TraceFault, Memory, HaveBegun}
use Rattle.replay.proofs.Terms.{HaveBegunVolumes, SpindlePass, AreSameButRoom, IsAsItWas, Floor, no_totals, HasGiven, HasGivenAll, Refuses}
use Rattle.replay.proofs.Terms.{AreTotals, Further, ServedFromStart, ServedWindow, WasNotRun, begins_alone, fails_to_begin, is_none_served}
use Rattle.replay.proofs.Terms.{none_further, AreServedOf, Closes, EndsIn, EndsWithWindow, GoesOn, HasBegunWindow, HasFailedToBegin}
use Rattle.replay.proofs.Terms.{HasServed, ServesSome, ServesWindows, StopsAfter, StopsAtLine, TakesOn, ServesWhole, WentWell, at_refusal, lines_of_window}
use Rattle.replay.proofs.Terms.{lines_of_windows, opens, fault_of_trace, Counted, Given, Options, Session, Stop}
use Rattle.wol_model.specs.Trace.{Window, windows}
use Rattle.msr_trace.specs.declared.format.Line.{Line}
use Rattle.trace_gen.proofs.Fair.{no_volume}
use Rattle.trace_windows.proofs.Joining.{next_timed, windows_blank, windows_close, windows_first, windows_join}
use Rattle.trace_windows.proofs.Lying.{requests_lie}
use Rattle.replay.proofs.Giving.{none_given}
use Rattle.replay.proofs.Serving.{all_went, lines_of_more, served_more, served_none, served_of_more, some_served, totals_more, totals_none, well_more}
use Rattle.wol_model.specs.Trace as trace
use Rattle.msr_trace.specs.declared.format.TraceFault.TheVariants as refusal
use Rattle.replay.specs.declared.stop.Stop.TheVariants as stop

-- ---- Windows that are whole

-- lists with the same elements and one at their ends
last_same : {X : Type 0} (xs ys : List X) (x y : X) → xs ++ x ∷ [] ≡ ys ++ y ∷ [] → xs ≡ ys
last_same [] [] x y same = refl
last_same [] (b ∷ ys) x y same = absurd (let long = ap length same in omega (arith, long, length-append ys (y ∷ [])))
last_same (a ∷ xs) [] x y same = absurd (let long = ap length same in omega (arith, long, length-append xs (x ∷ [])))
last_same (a ∷ xs) (b ∷ ys) x y same =
    let first : a ≡ b = cc in
    let others : xs ++ x ∷ [] ≡ ys ++ y ∷ [] = cc in
    let rest : xs ≡ ys = last_same xs ys x y others in
    cc

not_empty : {X : Type 0} (xs : List X) (x : X) → xs ++ x ∷ [] ≡ [] → ⊥
not_empty [] x is = absurd (cc is)
not_empty (y ∷ xs) x is = absurd (cc is)

module _ (most : ℕ) (targets : List Target) (ls : List (Option TraceLine)) where
  -- the windows of the lines before the one that closed one
  two_more : (given : List Window) (w x : Window) (l : Option TraceLine) → windows most targets (ls ++ l ∷ []) ≡ (given ++ w ∷ []) ++ x ∷ [] → (last : Option Window) (current : Batched)
      → AreWindows most targets (windows most targets ls) given last current → windows most targets ls ≡ given ++ w ∷ []
  two_more given w x None now None current (none, no_given, at) =
      let long : length (windows most targets ls) ≡ length ((given ++ w ∷ []) ++ x ∷ []) = sym (ap length (windows_blank most targets ls)) ∙ ap length now in
      absurd (omega (arith, long, ap length none, length-append (given ++ w ∷ []) (x ∷ [])))
  two_more given w x None now (Some v) current (is, of) =
      let long : length (windows most targets ls) ≡ length ((given ++ w ∷ []) ++ x ∷ []) = sym (ap length (windows_blank most targets ls)) ∙ ap length now in
      absurd (omega (arith, long, ap length is, length-append given (v ∷ []), length-append (given ++ w ∷ []) (x ∷ []), length-append given (w ∷ [])))
  two_more given w x (Some l) now None current (none, no_given, at) =
      absurd (omega (arith, ap length (windows_first most targets ls l none), ap length now, length-append (given ++ w ∷ []) (x ∷ []), length-append given (w ∷ [])))
  two_more given w x (Some l) now (Some v) current (is, of) = at (joins v (next_timed ls l) (pieces_of most targets (next_timed ls l))) refl
    where
      at : (b : Bool) → joins v (next_timed ls l) (pieces_of most targets (next_timed ls l)) ≡ b → windows most targets ls ≡ given ++ w ∷ []
      at true may =
          let join = windows_join most targets ls l given v is may in
          absurd (omega (arith, ap length join, ap length now, length-append given (w ∷ []), length-append (given ++ w ∷ []) (x ∷ []), length-append given (trace.joined v (next_timed ls l) (pieces_of most targets (next_timed ls l)) ∷ [])))
      at false may =
          let close : windows most targets (ls ++ Some l ∷ []) ≡ (given ++ v ∷ []) ++ trace.opened (next_timed ls l) (pieces_of most targets (next_timed ls l)) ∷ [] = windows_close most targets ls l given v is may in
          is ∙ last_same (given ++ v ∷ []) (given ++ w ∷ []) _ x (sym close ∙ now)

  -- where a line closed a window, the windows of the lines before it are those that were given and this one
  pub closed : (given : List Window) (w : Window) (l : Option TraceLine) (old new : Cutting) → HasCut most targets ls given old → HasCut most targets (ls ++ l ∷ []) (given ++ w ∷ []) new → windows most targets ls ≡ given ++ w ∷ []
  closed given w l old new before after = at after.last after.windows
    where
      at : (last : Option Window) → AreWindows most targets (windows most targets (ls ++ l ∷ [])) (given ++ w ∷ []) last new.current → windows most targets ls ≡ given ++ w ∷ []
      at None (none, no_given, here) = absurd (omega (arith, ap length no_given, length-append given (w ∷ [])))
      at (Some x) (is, of) = two_more given w x l is before.last old.current before.windows

-- ---- Requests lie in their volumes

homes : (config : Config) → IsValid config → AllByRecursion (λ (t : Target). 1 ≤ t.home) (targets_of config)
homes config valid = all config.volumes.items (λ n lt. (valid.volumes n no_volume lt).home.0)
  where
    all : (vs : List VolumeConf) → ((n : ℕ) → n < length vs → 1 ≤ (slice_index_or vs n no_volume).home) → AllByRecursion (λ (t : Target). 1 ≤ t.home) (map target_of vs)
    all [] each = tt
    all (v ∷ vs) each = (each 0 (omega arith), all vs (λ n lt. each (suc n) (omega (arith, lt))))

pub batch_lies : (config : Config) (next : ℕ) (w : Window) (b : Batched) → IsValid config → IsBatchOf (most_of config) (targets_of config) next w b → AllByRecursion (IsInside (most_of config) (targets_of config)) b.requests
batch_lies config next w b valid of =
    let some : 1 ≤ most_of config = (let low = valid.segment_blocks.0 in omega (arith, low)) in
    rw of.requests (requests_lie (most_of config) next (targets_of config) w some (homes config valid))

-- the open window's requests do
pub current_lies : (config : Config) (ls : List (Option TraceLine)) (given : List Window) (c : Cutting) → IsValid config → HasCut (most_of config) (targets_of config) ls given c
    → AllByRecursion (IsInside (most_of config) (targets_of config)) c.current.requests
current_lies config ls given c valid cut = at cut.last cut.windows
  where
    at : (last : Option Window) → AreWindows (most_of config) (targets_of config) (windows (most_of config) (targets_of config) ls) given last c.current → AllByRecursion (IsInside (most_of config) (targets_of config)) c.current.requests
    at None (none, no_given, here) = rw here tt
    at (Some w) (is, of) = batch_lies config (next_number (most_of config) (targets_of config) given) w c.current valid of

-- a line that is borrowed
pub copied_line : (r : Option (Bor Line)) (l : Option Line) → option_copied r ≡ l → option_map (λ (x : Bor Line). trace_line x.now) r ≡ option_map trace_line l
copied_line None l is = rw (← is) refl
copied_line (Some x) l is = rw (← is) refl

-- how a window was left
module _ {D O : Type 0} (tells : Bool) (config : Config) (options : Options) (b : Batched) (s n : Session D) (faults : O → ℕ) (taken : O → Option (List ℕ)) (old now : O) where
  -- one with a line was served
  pub window_served : 0 < b.lines → ((b.lines ≡ 0) × (n ≡ s) × (now ≡ old)) ⊎ ((0 < b.lines) × GoesOn tells config options b s n (faults old) (faults now) (taken old) (taken now))
      → GoesOn tells config options b s n (faults old) (faults now) (taken old) (taken now)
  window_served some (inl (none, same, out)) = absurd (omega (arith, none, some))
  window_served some (inr (has, goes)) = goes

  -- the last one, by the sink
  pub last_ok : ((b.lines ≡ 0) × (n ≡ s) × (now ≡ old)) ⊎ ((0 < b.lines) × GoesOn tells config options b s n (faults old) (faults now) (taken old) (taken now))
      → ((b.lines ≡ 0) × (n ≡ s) × (faults now ≡ faults old) × Keeps (taken old) (taken now)) ⊎ ((0 < b.lines) × GoesOn tells config options b s n (faults old) (faults now) (taken old) (taken now))
  last_ok (inl (empty, same, out)) = inl (empty, same, ap faults out, rw out (keeps_same (taken old)))
  last_ok (inr goes) = inr goes

-- ---- What was served so far

pub not_run_same : {D : Type 0} (tells : Bool) (f : Floor D) → WasNotRun tells f f
not_run_same tells f = record { desks = λ k d lt. record { id = refl; worker_is = refl; outcomes = refl }; helpers = refl; locks = refl; keepers = inl refl }

-- memory ran out before a request of a window was run: as the window began, or behind that
module _ {D : Type 0} (tells : Bool) (config : Config) (options : Options) (b : Batched) (s n : Session D) (faults : ℕ) (printed : Option (List ℕ)) where
  pub ends_unbegun : HasFailedToBegin b.moment s n → EndsIn (stop.Fault Memory) tells config options b s n faults faults printed printed
  ends_unbegun failed = inl (
    refl,
    subst (λ (f : Floor D). WasNotRun tells s.floor f) (sym failed.floor_) (not_run_same tells s.floor),
    fails_to_begin b.moment failed.start (ap (λ (f : Floor D). f.keepers) failed.floor_) failed.starts failed.spindles,
    refl,
    keeps_same printed,
  )

  pub ends_unrun : (m : Session D) → HasBegunWindow tells b.moment s m → IsAsItWas m.floor n.floor → n.keepers.items ≡ m.keepers.items → EndsIn (stop.Fault Memory) tells config options b s n faults faults printed printed
  ends_unrun m begun same passes =
      let volumes : HaveBegunVolumes tells begun.awake s.floor.keepers.items n.floor.keepers.items = subst (λ x. HaveBegunVolumes tells begun.awake s.floor.keepers.items x.items) (sym same.keepers) begun.volumes in
      inl (
        refl,
        record {
          desks = subst (λ (f : Floor D). AreSameButRoom f.desks.items n.floor.desks.items) begun.only same.desks;
          helpers = same.helpers ∙ ap (λ (f : Floor D). f.helpers) begun.only;
          locks = same.locks ∙ ap (λ (f : Floor D). f.locks) begun.only;
          keepers = inr (begun.awake, volumes);
        },
        begins_alone b.moment begun.start begun.awake begun.starts (subst (λ (x : List SpindlePass). HaveBegun b.moment begun.awake begun.start x) (sym passes) begun.spindles) volumes,
        refl,
        keeps_same printed,
      )

no_windows : (most : ℕ) (targets : List Target) → windows most targets [] ≡ []
unfolding windows
no_windows most targets = refl

-- the line behind these opens a further window
pub record OpensNext (config : Config) (run more : List (Option TraceLine)) : Type 0 where
  pub line : Option TraceLine
  pub rest : List (Option TraceLine)
  pub window : Window
  pub more_is : more ≡ line ∷ rest
  pub windows_are : windows (most_of config) (targets_of config) (run ++ line ∷ []) ≡ windows (most_of config) (targets_of config) run ++ window ∷ []

-- whatever comes behind it
opens_more : (config : Config) (run more further : List (Option TraceLine)) → OpensNext config run more → OpensNext config run (more ++ further)
opens_more config run more further o = record {
  line = o.line;
  rest = o.rest ++ further;
  window = o.window;
  more_is = ap (λ (ls : List (Option TraceLine)). ls ++ further) o.more_is;
  windows_are = o.windows_are;
}

ends_open : {S : Type 0} (left : S → Option (List ℕ)) (config : Config) (start now : Given S) (run more : List (Option TraceLine)) → OpensNext config run more → EndsWithWindow left config start now run more
ends_open left config start now run more o = opens o.line o.rest o.window o.more_is o.windows_are

module _ {D S : Type 0} (tells : Bool) (left : S → Option (List ℕ)) (config : Config) (options : Options) (start : Given S) (f : Floor D) (ps : List SpindlePass) (faults : ℕ) (printed : Option (List ℕ)) where
  pub record SoFar (now : Given S) (c : Cutting) (s : Session D) (faults' : ℕ) (new : Option (List ℕ)) : Type 0 where
    pub run : List (Option TraceLine)
    pub more : List (Option TraceLine)
    pub given : HasGiven left (targets_of config) start now (run ++ more)
    pub ws : List Window
    pub cut : HasCut (most_of config) (targets_of config) (run ++ more) ws c
    pub whole : windows (most_of config) (targets_of config) run ≡ ws
    pub ss : List ServedWindow
    -- the last window that was served is whole
    pub opened : ss ≢ [] → OpensNext config run more
    pub are : AreServedOf config ws ss
    pub well : AllByRecursion WentWell ss
    pub from_start : ServedFromStart tells options.reclaim ss f ps s.floor s.keepers.items
    pub started_ : s.started ≡ not (is_none_served ss)
    pub totals_ : AreTotals ss s.totals
    pub prints : Appends printed new (joined_lines (lines_of_windows config options ss))
    pub calm : faults' ≡ faults

  pub nothing_served : (c : Cutting) (s : Session D) → ((most : ℕ) (targets : List Target) → HasCut most targets [] [] c) → s.floor ≡ f → s.keepers.items ≡ ps → s.started ≡ false → s.totals ≡ no_totals
      → SoFar start c s faults printed
  nothing_served c s cut floor keepers started_ totals_ = record {
    run = [];
    more = [];
    given = none_given left (targets_of config) start;
    ws = [];
    cut = cut (most_of config) (targets_of config);
    whole = no_windows (most_of config) (targets_of config);
    ss = [];
    opened = λ some. absurd (some refl);
    are = served_none config;
    well = tt;
    from_start = (floor, keepers);
    started_ = started_;
    totals_ = totals_none s.totals totals_;
    prints = appends_none printed printed (keeps_same printed);
    calm = refl;
  }

  module _ (now : Given S) (c : Cutting) (s : Session D) (faults' : ℕ) (new : Option (List ℕ)) (so : SoFar now c s faults' new) where
    -- a line more came
    longer : (next : Given S) (l : Option TraceLine) → HasGiven left (targets_of config) start next ((so.run ++ so.more) ++ l ∷ []) → HasGiven left (targets_of config) start next (so.run ++ (so.more ++ l ∷ []))
    longer next l has = subst (λ (ls : List (Option TraceLine)). HasGiven left (targets_of config) start next ls) (append_assoc so.run so.more (l ∷ [])) has

    -- .. and closed no window
    line_more : (next : Given S) (l : Option TraceLine) (c' : Cutting) (faults'' : ℕ) (then : Option (List ℕ)) → HasGiven left (targets_of config) start next ((so.run ++ so.more) ++ l ∷ [])
        → HasCut (most_of config) (targets_of config) ((so.run ++ so.more) ++ l ∷ []) so.ws c' → faults'' ≡ faults' → Keeps new then → SoFar next c' s faults'' then
    line_more next l c' faults'' then has cut calm keeps = record {
      run = so.run;
      more = so.more ++ l ∷ [];
      given = longer next l has;
      ws = so.ws;
      cut = subst (λ (ls : List (Option TraceLine)). HasCut (most_of config) (targets_of config) ls so.ws c') (append_assoc so.run so.more (l ∷ [])) cut;
      whole = so.whole;
      ss = so.ss;
      opened = λ some. opens_more config so.run so.more (l ∷ []) (so.opened some);
      are = so.are;
      well = so.well;
      from_start = so.from_start;
      started_ = so.started_;
      totals_ = so.totals_;
      prints = appends_kept printed new then (joined_lines (lines_of_windows config options so.ss)) so.prints keeps;
      calm = calm ∙ so.calm;
    }

    -- the next window was served
    module _ (w : Window) (b : Batched) (of : IsBatchOf (most_of config) (targets_of config) (next_number (most_of config) (targets_of config) so.ws) w b)
        (n : Session D) (h : HasServed tells options b s n) where
      abbrev here : ServedWindow
      here = record { batch = b; answer = h.answer }

      from_start_more : ServedFromStart tells options.reclaim (so.ss ++ here ∷ []) f ps n.floor n.keepers.items
      from_start_more = served_more tells options.reclaim so.ss here f ps s.floor s.keepers.items h.start n.floor n.keepers.items so.from_start (rw so.started_ at h.starts) h.was

      are_more : AreServedOf config (so.ws ++ w ∷ []) (so.ss ++ here ∷ [])
      are_more = served_of_more config so.ws w so.ss here so.are of

      prints_more : (then : Option (List ℕ)) → Appends new then (joined_lines (lines_of_window config options here)) → Appends printed then (joined_lines (lines_of_windows config options (so.ss ++ here ∷ [])))
      prints_more then more = rw (lines_of_more config options so.ss here) (appends_both printed new then (joined_lines (lines_of_windows config options so.ss)) (joined_lines (lines_of_window config options here)) so.prints more)

    -- a line that closes a window opens the next one
    opened_by : (w : Window) (l : Option TraceLine) (c' : Cutting) → HasCut (most_of config) (targets_of config) ((so.run ++ so.more) ++ l ∷ []) (so.ws ++ w ∷ []) c' → OpensNext config (so.run ++ so.more) (l ∷ [])
    opened_by w l c' cut = at cut.last cut.windows
      where
        at : (further : Option Window) → AreWindows (most_of config) (targets_of config) (windows (most_of config) (targets_of config) ((so.run ++ so.more) ++ l ∷ [])) (so.ws ++ w ∷ []) further c'.current → OpensNext config (so.run ++ so.more) (l ∷ [])
        at None (none, given, blank) = absurd (not_empty so.ws w given)
        at (Some v) (is, further_of) = record {
          line = l;
          rest = [];
          window = v;
          more_is = refl;
          windows_are = is ∙ ap (λ (vs : List Window). vs ++ v ∷ []) (sym (closed (most_of config) (targets_of config) (so.run ++ so.more) so.ws w l c c' so.cut cut));
        }

    -- a line came that closed a window, and all went well
    line_closes : (w : Window) (b : Batched) (next : Given S) (l : Option TraceLine) (c' : Cutting) (n : Session D) (faults'' : ℕ) (then : Option (List ℕ))
        → Closes config (so.run ++ so.more) so.ws l c' w b → n.started ≡ true → GoesOn tells config options b s n faults' faults'' new then
        → HasGiven left (targets_of config) start next ((so.run ++ so.more) ++ l ∷ []) → SoFar next c' n faults'' then
    line_closes w b next l c' n faults'' then (of, cut) has_started (h, well, calm, prints) has = record {
      run = so.run ++ so.more;
      more = l ∷ [];
      given = has;
      ws = so.ws ++ w ∷ [];
      cut = cut;
      whole = closed (most_of config) (targets_of config) (so.run ++ so.more) so.ws w l c c' so.cut cut;
      ss = so.ss ++ record { batch = b; answer = h.answer } ∷ [];
      opened = λ some. opened_by w l c' cut;
      are = are_more w b of n h;
      well = well_more WentWell so.ss (record { batch = b; answer = h.answer }) so.well well;
      from_start = from_start_more w b of n h;
      started_ = has_started ∙ sym (some_served so.ss (record { batch = b; answer = h.answer }));
      totals_ = totals_more so.ss (record { batch = b; answer = h.answer }) s.totals n.totals so.totals_ h.counted;
      prints = prints_more w b of n h then prints;
      calm = calm ∙ so.calm;
    }

    pub takes_on : (next : Given S) (l : Option TraceLine) (c' : Cutting) (n : Session D) (faults'' : ℕ) (then : Option (List ℕ)) → TakesOn tells config options (so.run ++ so.more) so.ws l c' s n faults' faults'' new then
        → HasGiven left (targets_of config) start next ((so.run ++ so.more) ++ l ∷ []) → SoFar next c' n faults'' then
    takes_on next l c' n faults'' then (inl (cut, same, calm, keeps)) has = rw same (line_more next l c' faults'' then has cut calm keeps)
    takes_on next l c' n faults'' then (inr (w, b, closes, has_started, goes)) has = line_closes w b next l c' n faults'' then closes has_started goes has

    -- ---- The run ends

    -- behind the windows that were served, for want of memory
    pub lacks_memory : (next : Given S) (further : List (Option TraceLine)) (g : Floor D) (qs : List SpindlePass) (faults'' : ℕ) (then : Option (List ℕ)) → HasGiven left (targets_of config) start next (so.run ++ (so.more ++ further)) → WasNotRun tells s.floor g
        → Further tells s.started s.floor s.keepers.items g qs → faults'' ≡ faults' → Keeps new then → ServesSome tells left config options start (stop.Fault Memory) next f ps g qs faults faults'' printed then
    lacks_memory next further g qs faults'' then has not_run begun calm keeps = record {
      of = all_went left config start next so.run (so.more ++ further) has so.ss (rw so.whole so.are)
          (λ some. ends_open left config start next so.run (so.more ++ further) (opens_more config so.run so.more further (so.opened some))) so.well;
      middle = s.floor;
      between = s.keepers.items;
      from_start = rw (append-nil so.ss) so.from_start;
      then = new;
      printed_before = so.prints;
      ends = (calm ∙ so.calm, keeps, inr (refl, not_run));
      further = rw (append-nil so.ss) (rw so.started_ at begun);
    }

    -- behind a window
    stops_behind : (w : Window) (b : Batched) (next : Given S) (more : List (Option TraceLine)) (e : Stop) (n : Session D) (faults'' : ℕ) (then : Option (List ℕ)) → IsBatchOf (most_of config) (targets_of config) (next_number (most_of config) (targets_of config) so.ws) w b
        → windows (most_of config) (targets_of config) (so.run ++ so.more) ≡ so.ws ++ w ∷ [] → EndsWithWindow left config start next (so.run ++ so.more) more → HasGiven left (targets_of config) start next ((so.run ++ so.more) ++ more)
        → length more ≤ 1 → (h : HasServed tells options b s n) → StopsAfter e config options (record { batch = b; answer = h.answer }) faults' faults'' new then
        → ServesSome tells left config options start e next f ps n.floor n.keepers.items faults faults'' printed then
    stops_behind w b next more e n faults'' then of whole last has few h stops = record {
      of = record {
        run = so.run ++ so.more;
        more = more;
        given = has;
        earlier = so.ss;
        last = record { batch = b; answer = h.answer } ∷ [];
        windows_ = rw whole (are_more w b of n h);
        whole = λ some. last;
        ahead = λ some. few;
        well = so.well;
      };
      middle = n.floor;
      between = n.keepers.items;
      from_start = from_start_more w b of n h;
      then = new;
      printed_before = so.prints;
      ends = (refl, refl, subst (λ (x : ℕ). StopsAfter e config options (record { batch = b; answer = h.answer }) x faults'' new then) so.calm stops);
      further = none_further refl refl;
    }

    -- in a window that is whole with these lines, or for want of memory before it
    ends_in_window : (w : Window) (b : Batched) (next : Given S) (more : List (Option TraceLine)) (e : Stop) (n : Session D) (faults'' : ℕ) (then : Option (List ℕ)) → IsBatchOf (most_of config) (targets_of config) (next_number (most_of config) (targets_of config) so.ws) w b
        → windows (most_of config) (targets_of config) (so.run ++ so.more) ≡ so.ws ++ w ∷ [] → EndsWithWindow left config start next (so.run ++ so.more) more → HasGiven left (targets_of config) start next ((so.run ++ so.more) ++ more)
        → length more ≤ 1 → EndsIn e tells config options b s n faults' faults'' new then → ServesSome tells left config options start e next f ps n.floor n.keepers.items faults faults'' printed then
    ends_in_window w b next more e n faults'' then of whole last has few (inl (memory, not_run, begun, calm, keeps)) =
        rw memory (lacks_memory next more n.floor n.keepers.items faults'' then (subst (λ (ls : List (Option TraceLine)). HasGiven left (targets_of config) start next ls) (append_assoc so.run so.more more) has) not_run begun calm keeps)
    ends_in_window w b next more e n faults'' then of whole last has few (inr (h, stops)) = stops_behind w b next more e n faults'' then of whole last has few h stops

    pub stops_at_line : (next : Given S) (l : Option TraceLine) (c' : Cutting) (e : Stop) (n : Session D) (faults'' : ℕ) (then : Option (List ℕ)) → StopsAtLine e tells config options (so.run ++ so.more) so.ws l c' s n faults' faults'' new then
        → HasGiven left (targets_of config) start next ((so.run ++ so.more) ++ l ∷ []) → ServesSome tells left config options start e next f ps n.floor n.keepers.items faults faults'' printed then
    stops_at_line next l c' e n faults'' then (inl (memory, same, calm, keeps)) has =
        rw (memory, same) (lacks_memory next (l ∷ []) s.floor s.keepers.items faults'' then (longer next l has) (not_run_same tells s.floor) (none_further refl refl) calm keeps)
    stops_at_line next l c' e n faults'' then (inr (w, b, (of, cut), ends)) has =
        ends_in_window w b next (l ∷ []) e n faults'' then of (closed (most_of config) (targets_of config) (so.run ++ so.more) so.ws w l c c' so.cut cut)
        (ends_open left config start next (so.run ++ so.more) (l ∷ []) (opened_by w l c' cut)) has (omega arith) ends

    -- in the last window
    pub stops_last : (next : Given S) (e : Stop) (n : Session D) (faults'' : ℕ) (then : Option (List ℕ)) → EndsWithWindow left config start next (so.run ++ so.more) [] → 0 < c.current.lines → EndsIn e tells config options c.current s n faults' faults'' new then
        → HasGiven left (targets_of config) start next (so.run ++ so.more) → ServesSome tells left config options start e next f ps n.floor n.keepers.items faults faults'' printed then
    stops_last next e n faults'' then last some ends has = at so.cut.last so.cut.windows
      where
        at : (last : Option Window) → AreWindows (most_of config) (targets_of config) (windows (most_of config) (targets_of config) (so.run ++ so.more)) so.ws last c.current → ServesSome tells left config options start e next f ps n.floor n.keepers.items faults faults'' printed then
        at None (none, no_given, here) = absurd (omega (arith, some, ap (λ (x : Batched). x.lines) here))
        at (Some w) (is, of) = ends_in_window w c.current next [] e n faults'' then of is last (rw (append-nil (so.run ++ so.more)) has) (omega arith) ends

    -- ---- All lines were run

    -- all windows of the lines were served
    record AllServed (n : Session D) (faults'' : ℕ) (then : Option (List ℕ)) : Type 0 where
      all : ServesWindows tells config options (so.run ++ so.more) f ps n.floor n.keepers.items printed then
      all_totals : AreTotals all.served n.totals
      all_calm : faults'' ≡ faults

    -- .. the last one too, if there is one
    abbrev LastOk : (n : Session D) (faults'' : ℕ) (then : Option (List ℕ)) → Type 0
    LastOk n faults'' then = ((c.current.lines ≡ 0) × (n ≡ s) × (faults'' ≡ faults') × Keeps new then) ⊎ ((0 < c.current.lines) × GoesOn tells config options c.current s n faults' faults'' new then)

    none_last : (n : Session D) (faults'' : ℕ) (then : Option (List ℕ)) → n ≡ s → faults'' ≡ faults' → Keeps new then → windows (most_of config) (targets_of config) (so.run ++ so.more) ≡ so.ws → AllServed n faults'' then
    none_last n faults'' then same calm keeps whole = record {
      all = record {
        served = so.ss;
        are = rw whole so.are;
        well = so.well;
        from_start = rw same so.from_start;
        prints = appends_kept printed new then (joined_lines (lines_of_windows config options so.ss)) so.prints keeps;
      };
      all_totals = rw same so.totals_;
      all_calm = calm ∙ so.calm;
    }

    one_last : (w : Window) (n : Session D) (faults'' : ℕ) (then : Option (List ℕ)) → windows (most_of config) (targets_of config) (so.run ++ so.more) ≡ so.ws ++ w ∷ []
        → IsBatchOf (most_of config) (targets_of config) (next_number (most_of config) (targets_of config) so.ws) w c.current → GoesOn tells config options c.current s n faults' faults'' new then → AllServed n faults'' then
    one_last w n faults'' then is of (h, well, calm, prints) = record {
      all = record {
        served = so.ss ++ record { batch = c.current; answer = h.answer } ∷ [];
        are = rw is (are_more w c.current of n h);
        well = well_more WentWell so.ss (record { batch = c.current; answer = h.answer }) so.well well;
        from_start = from_start_more w c.current of n h;
        prints = prints_more w c.current of n h then prints;
      };
      all_totals = totals_more so.ss (record { batch = c.current; answer = h.answer }) s.totals n.totals so.totals_ h.counted;
      all_calm = calm ∙ so.calm;
    }

    all_served : (n : Session D) (faults'' : ℕ) (then : Option (List ℕ)) → LastOk n faults'' then → AllServed n faults'' then
    all_served n faults'' then ok = at so.cut.last so.cut.windows ok
      where
        at : (last : Option Window) → AreWindows (most_of config) (targets_of config) (windows (most_of config) (targets_of config) (so.run ++ so.more)) so.ws last c.current → LastOk n faults'' then → AllServed n faults'' then
        at None (none, no_given, here) (inl (empty, same, calm, keeps)) = none_last n faults'' then same calm keeps (none ∙ sym no_given)
        at None (none, no_given, here) (inr (some, goes)) = absurd (omega (arith, some, ap (λ (x : Batched). x.lines) here))
        at (Some w) (is, of) (inl (empty, same, calm, keeps)) = absurd (let some = of.some in omega (arith, some, empty))
        at (Some w) (is, of) (inr (some, goes)) = one_last w n faults'' then is of goes

    -- no further line came
    pub no_line : (next : Given S) (e : TraceFault) (n : Session D) (faults'' : ℕ) (then : Option (List ℕ)) → LastOk n faults'' then → e ≢ refusal.NoMemory → HasGiven left (targets_of config) start next (so.run ++ so.more)
        → Refuses left e start next (so.run ++ so.more) → ServesSome tells left config options start (stop.Fault (fault_of_trace e)) next f ps n.floor n.keepers.items faults faults'' printed then
    no_line next e n faults'' then ok other has refuses =
        let a = all_served n faults'' then ok in
        record {
          of = all_went left config start next (so.run ++ so.more) [] (rw (append-nil (so.run ++ so.more)) has) a.all.served a.all.are (λ some. at_refusal e other refuses) a.all.well;
          middle = n.floor;
          between = n.keepers.items;
          from_start = rw (append-nil a.all.served) a.all.from_start;
          then = then;
          printed_before = a.all.prints;
          ends = (a.all_calm, keeps_same then, inl (e, other, refl, refl, refuses, refl, refl));
          further = none_further refl refl;
        }

    -- the trace is at its end
    pub serves_whole : (next : Given S) (n : Session D) (counted : Counted) (faults'' : ℕ) (then : Option (List ℕ)) → LastOk n faults'' then → HasGiven left (targets_of config) start next (so.run ++ so.more)
        → HasGivenAll left (targets_of config) start next (so.run ++ so.more) → counted.totals ≡ record n.totals { lines = c.tally.lines; blank = c.tally.blank; skipped = c.tally.skipped; span = c.tally.ended - c.tally.started }
        → counted.started ≡ c.tally.started → counted.ended ≡ c.tally.ended → c.tally.started ≤ c.tally.ended → ServesWhole tells left config options start next f ps n.floor n.keepers.items counted faults faults'' printed then
    serves_whole next n counted faults'' then ok has ends totals began ended_ order =
        let a = all_served n faults'' then ok in
        let t = a.all_totals in
        record {
          lines = so.run ++ so.more;
          given = has;
          all = ends;
          windows_ = a.all;
          totals_ = rw totals (record { reads = t.reads; writes = t.writes; home = t.home; log = t.log; drains = t.drains; blocks = t.blocks; records = t.records });
          line_count = rw totals so.cut.lines;
          blank = rw totals so.cut.blank;
          skipped = rw totals so.cut.skipped;
          span = rw (totals, began, ended_) refl;
          order = rw (began, ended_) order;
          started_ = began ∙ so.cut.started;
          ended_ = ended_ ∙ so.cut.ended;
          calm = a.all_calm;
        }
