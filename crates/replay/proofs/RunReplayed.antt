-- Replaying a trace on a rack all of whose volumes are open.
use Rattle.replay.proofs.Basics.{◌≡◌, ◌≢◌, ◌⊎◌, ◌<◌, ◌≤◌, ◌^◌, ℕ, Bool, false, not, List, [], ◌∷◌, ◌++◌, length, Option, None, Some, Result}
use Rattle.replay.proofs.Basics.{Ok, Err, refl, sym, ap, subst, ◌∙◌, append-nil, inl, inr, arith, AllByRecursion, All, IfSome, IsTrue}
use Rattle.replay.proofs.Basics.{Contains, option_map_or, slice_get, slice_index_or, length-map}
use Rattle.replay.proofs.Terms.{appends_none, BayState, Told, State, Began, new_spindle, Target, TraceLine, started, timed, Config, IsTold}
use Rattle.replay.proofs.Terms.{shape_in, shapes_of, target_of, targets_of, Shared, Station, status_of, printed_names, summary_text, Fault}
use Rattle.replay.proofs.Terms.{Memory, Versions, Volume, Trouble, TraceFault, fault_of_trace, fault_of_window, IsClosedSpindle}
use Rattle.replay.proofs.Terms.{IsClosedVolume, SharePools, BeganWith, HasFaulty, KeepsAllSound, LeavesFronts, ArePools, PassesEmpty, TakesFew, AreUnused}
use Rattle.replay.proofs.Terms.{IsClosable, IsRack, IsUnused, KeepToViews, base_of_station, IsImageOut, image_here, Rack, uses_of}
use Rattle.replay.proofs.Terms.{SpindleView, HaveBegun, SpindlePass, AreStations, IsMoved, Floor, Reclaim, memory, HasGiven}
use Rattle.replay.proofs.Terms.{AreAllOpen, AreHistories, BeginAsRead, CountAnswered, History, answers_in, is_broken_at, next_at, view_at, CutsLines}
use Rattle.replay.proofs.Terms.{PrintsText, all_amounts, Replays, status_in, RunsNone, ServesFrom, Further, ServedFromStart, ServedWindow}
use Rattle.replay.proofs.Terms.{StartsOnce, WasNotRun, begins_alone, fails_to_begin, is_none_served, none_further, AreWindowsOf, EndsBy}
use Rattle.replay.proofs.Terms.{ServesSome, ServesWhole, WentWell, at_end, lines_of_window, HaveAccounts, HaveShortAccounts, IsAccountBy}
use Rattle.replay.proofs.Terms.{IsSummaryOf, PrintsRun, column, lines_asked, of_all, of_none, started_uses, Counted, Given}
use Rattle.replay.proofs.Terms.{Options, Stop, CountsPlaced, CountsReclaimed, AreWorked, Entry, IsFree, IsPartOf, lock_id, pass_lock}
use Rattle.replay.proofs.Terms.{pass_number, HasNoHelp, HasHistory, answers_of, answers_by, AreAllAnswered, most_of}
use Rattle.wol_model.specs.Trace.{requests, windows}
use Rattle.replay.proofs.HistoriesLeft.{each_closed, histories_of}
use Rattle.rack.specs.PoolUses.{HadLogger}
use Rattle.rack.proofs.Cases.{by_option}
use Rattle.rack.proofs.LoggersNamed.{names_logger}
use Rattle.rack_parts.proofs.Members.{a_value, none_in}
use Rattle.rack.proofs.FailedParts.{faulty_since}
use Rattle.replay.proofs.AllAsked.{AreAllCounted, all_counted_asked}
use Rattle.replay.proofs.PartNamed.{HasDownAt, breaks_at, came_at}
use Rattle.replay.proofs.CauseServed.{named_down, rises, rose_from}
use Rattle.replay.proofs.CountsLeft.{counts_cut, counts_refused, counts_whole}
use Rattle.replay.proofs.DrainsCounted.{counts_drained}
use Rattle.replay.proofs.Giving.{none_given}
use Rattle.replay.proofs.RacksServed.{a_member, at_place, closable_after, rack_closable}
use Rattle.replay.proofs.Statuses.{not_success}
use Rattle.replay.proofs.RunEnded.{TellsRise, ends_stopped, ends_summed, prints_stopped, prints_summed}
use Rattle.replay.proofs.RunWorked.{none_worked, run_unbroken, run_worked, told_awake, told_more}
use Rattle.replay.proofs.CutShort.{AccountOf, HasReached, account_of, all_reached, begun_last, ends_so, failed_told, first_is, kept_told, none_told, reached_none, none_begun}
use Rattle.replay.proofs.ToldAwake.{WasTold, all_told, served_told, timeout_of}
use Rattle.replay.proofs.WorksServed.{awake_in, awake_last, awake_last_none}
use Rattle.replay.proofs.RunKept.{RunKept, kept_is, kept_none, kept_served, none_is}
use Rattle.replay.proofs.PassesRuled.{IsRuled}
use Rattle.replay.proofs.ReclaimPlaced.{counts_reclaimed, none_reclaimed}
use Rattle.replay.proofs.RunLeft.{base_same}
use Rattle.request_turns.specs.Turns.{began as pass_began}
use Rattle.replay.proofs.Serving.{all_went}
use Rattle.replay.proofs.StationsRan.{AreNumbered, EndsOn}
use Rattle.replay.proofs.Accounts.{moments_of}
use Rattle.replay.proofs.SummaryKept.{accounts_of, summary_now}
use Rattle.msr_trace.specs.declared.format.TraceFault.TheVariants as trace
use Rattle.window_desks.specs.declared.request.Reclaim.TheVariants as reclaim
use Rattle.replay.specs.declared.stop.Stop.TheVariants as stop

-- ---- Without a line

no_requests : (most : ℕ) (targets : List Target) → requests most targets [] ≡ []
unfolding requests
no_requests most targets = refl

no_windows : (config : Config) → AreWindowsOf config [] []
unfolding windows
no_windows config = tt

-- ---- Faults for which no volume had a version left

trace_versions : (refusal : TraceFault) (v : ℕ) → stop.Fault (fault_of_trace refusal) ≡ stop.Fault (Versions v) → ⊥
trace_versions trace.Source v is = absurd (cc is)
trace_versions (trace.Bad line why) v is = absurd (cc is)
trace_versions trace.Spent v is = absurd (cc is)
trace_versions trace.NoMemory v is = absurd (cc is)

cut_versions : (e : Stop) (lines : List (List ℕ)) (faults faults' : ℕ) (printed new : Option (List ℕ)) (v : ℕ) → CutsLines e lines faults faults' printed new → e ≡ stop.Fault (Versions v) → ⊥
cut_versions stop.Sink lines faults faults' printed new v cuts is = absurd (cc is)
cut_versions (stop.Fault f) lines faults faults' printed new v (memory_is, calm, some) is = let no : stop.Fault Memory ≡ stop.Fault (Versions v) = ap (λ (x : Fault). stop.Fault x) (sym memory_is) ∙ is in absurd (cc no)

text_versions : {T : Type 0} (done : Result T Stop) (text : List ℕ) (faults faults' : ℕ) (printed new : Option (List ℕ)) (v : ℕ) → PrintsText done text faults faults' printed new → done ≡ Err (stop.Fault (Versions v)) → ⊥
text_versions (Ok x) text faults faults' printed new v prints is = absurd (cc is)
text_versions (Err stop.Sink) text faults faults' printed new v prints is = absurd (cc is)
text_versions (Err (stop.Fault f)) text faults faults' printed new v (memory_is, calm, keeps) is =
    let same : f ≡ Versions v = cc is in let no : Memory ≡ Versions v = sym memory_is ∙ same in absurd (cc no)

-- ---- How a window ended a run

module _ {D S : Type 0} (T : Type 0) (tells : Bool) (left : S → Option (List ℕ)) (config : Config) (options : Options) (start now : Given S) (entry opened left_ : BayState) (run more : List (Option TraceLine)) (earlier : List ServedWindow)
    (h : Floor D) (ms : List SpindlePass) (g : Floor D) (qs : List SpindlePass) (faults faults' : ℕ) (printed new : Option (List ℕ)) where
  -- nothing more was done, but where memory ran out
  ends_there : (e : Stop) (last : List ServedWindow) → EndsBy tells left config options start e now run more last h ms g qs faults faults' printed new → ((g ≡ h) × (qs ≡ ms)) ⊎ ((e ≡ stop.Fault Memory) × WasNotRun tells h g)
  ends_there e [] (calm, keeps, inl (refusal, other, is, none_more, refuses, floor, passes)) = inl (floor, passes)
  ends_there e [] (calm, keeps, inr (is, not_run)) = inr (is, not_run)
  ends_there e (s ∷ []) (floor, passes, stops) = inl (floor, passes)
  ends_there e (s ∷ t ∷ rest) ends = absurd ends

  one_last : (e : Stop) (last : List ServedWindow) → EndsBy tells left config options start e now run more last h ms g qs faults faults' printed new → length last ≤ 1
  one_last e [] ends = omega arith
  one_last e (s ∷ []) ends = omega arith
  one_last e (s ∷ t ∷ rest) ends = absurd ends

  counts_some : (e : Stop) (last : List ServedWindow) → EndsBy tells left config options start e now run more last h ms g qs faults faults' printed new → (kept : RunKept tells config options.reclaim entry opened left_ run earlier last)
      → CountAnswered (answers_in earlier) (answers_in (earlier ++ last)) (status_in {T = T} (Err e)) kept.kept
  counts_some e [] ends kept = counts_whole earlier [] kept.kept kept.well (status_in {T = T} (Err e)) (λ v. tt)
  counts_some e (s ∷ []) (floor, passes, inl (f, told, is, calm, prints)) kept =
      subst (λ (x : Stop). CountAnswered (answers_in earlier) (answers_in (earlier ++ s ∷ [])) (status_in {T = T} (Err x)) kept.kept) (sym is)
      (counts_refused earlier (s ∷ []) kept.kept kept.well (status_of f) (not_success f) (λ v not_9 whole few. kept.unless s refl f told (λ lacked. not_9 (ap status_of lacked)) v whole few))
  counts_some e (s ∷ []) (floor, passes, inr cuts) kept = at e cuts
    where
      at : (x : Stop) → CutsLines x (lines_of_window config options s) faults faults' printed new → CountAnswered (answers_in earlier) (answers_in (earlier ++ s ∷ [])) (status_in {T = T} (Err x)) kept.kept
      at stop.Sink cut = counts_cut earlier (s ∷ []) kept.kept kept.well 7 (λ is. absurd (cc is)) (λ not_7 not_9. not_7 refl)
      at (stop.Fault f) cut = counts_cut earlier (s ∷ []) kept.kept kept.well (status_of f) (not_success f) (λ not_7 not_9. not_9 (ap status_of cut.0))
  counts_some e (s ∷ t ∷ rest) ends kept = absurd ends

  -- where versions ended it, a volume had none left
  spent_some : (e : Stop) (last : List ServedWindow) → EndsBy tells left config options start e now run more last h ms g qs faults faults' printed new → (kept : RunKept tells config options.reclaim entry opened left_ run earlier last)
      → (v : ℕ) → e ≡ stop.Fault (Versions v) → 2 ^ 63 ≤ next_at kept.kept v
  spent_some e [] (calm, keeps, inl (refusal, other, is, none_more, refuses, floor, passes)) kept v named = absurd (trace_versions refusal v (sym is ∙ named))
  spent_some e [] (calm, keeps, inr (is, not_run)) kept v named = let no : stop.Fault Memory ≡ stop.Fault (Versions v) = sym is ∙ named in absurd (cc no)
  spent_some e (s ∷ []) (floor, passes, inl (f, told, is, calm, prints)) kept v named =
      let same : f ≡ Versions v = cc (sym is ∙ named) in kept.spent s refl v (subst (λ (x : Fault). fault_of_window s.batch.requests s.answer ≡ Some x) same told)
  spent_some e (s ∷ []) (floor, passes, inr cuts) kept v named = absurd (cut_versions e (lines_of_window config options s) faults faults' printed new v cuts named)
  spent_some e (s ∷ t ∷ rest) ends kept v named = absurd ends

-- how it ended, without the reason
abbrev there_now : {D : Type 0} {tells : Bool} {h g : Floor D} {ms qs : List SpindlePass} {e : Stop} → ((g ≡ h) × (qs ≡ ms)) ⊎ ((e ≡ stop.Fault Memory) × WasNotRun tells h g) → ((g ≡ h) × (qs ≡ ms)) ⊎ WasNotRun tells h g
there_now (inl same) = inl same
there_now (inr (is, not_run)) = inr not_run

-- ---- Faults that name no part

trace_other : (refusal : TraceFault) (v : ℕ) (t : Trouble) → stop.Fault (fault_of_trace refusal) ≡ stop.Fault (Volume v t) → ⊥
trace_other trace.Source v t is = absurd (cc is)
trace_other (trace.Bad line why) v t is = absurd (cc is)
trace_other trace.Spent v t is = absurd (cc is)
trace_other trace.NoMemory v t is = absurd (cc is)

cut_other : (e : Stop) (lines : List (List ℕ)) (faults faults' : ℕ) (printed new : Option (List ℕ)) (v : ℕ) (t : Trouble) → CutsLines e lines faults faults' printed new → e ≡ stop.Fault (Volume v t) → ⊥
cut_other stop.Sink lines faults faults' printed new v t cuts is = absurd (cc is)
cut_other (stop.Fault f) lines faults faults' printed new v t (memory_is, calm, some) is = let no : stop.Fault Memory ≡ stop.Fault (Volume v t) = ap (λ (x : Fault). stop.Fault x) (sym memory_is) ∙ is in absurd (cc no)

text_other : {T : Type 0} (done : Result T Stop) (text : List ℕ) (faults faults' : ℕ) (printed new : Option (List ℕ)) (v : ℕ) (t : Trouble) → PrintsText done text faults faults' printed new → done ≡ Err (stop.Fault (Volume v t)) → ⊥
text_other (Ok x) text faults faults' printed new v t prints is = absurd (cc is)
text_other (Err stop.Sink) text faults faults' printed new v t prints is = absurd (cc is)
text_other (Err (stop.Fault f)) text faults faults' printed new v t (memory_is, calm, keeps) is =
    let same : f ≡ Volume v t = cc is in let no : Memory ≡ Volume v t = sym memory_is ∙ same in absurd (cc no)

stop_some : (T : Type 0) (e : Stop) → status_in {T = T} (Err e) ≡ 0 → ⊥
stop_some T stop.Sink is = absurd (cc is)
stop_some T (stop.Fault f) is = not_success f is

-- ---- Histories

-- each is that of the volume at its place, and has no entry of a helper but beside the requests
abbrev AreOwned : Reclaim → List History → Type 0
AreOwned mode hs = (v : ℕ) (h : History) → slice_get hs v ≡ Some h → (h.base.owner ≡ v) × (mode ≢ reclaim.Beside → HasNoHelp h.notes)

module _ (tells : Bool) (config : Config) (mode : Reclaim) (entry opened left_ : BayState) (run : List (Option TraceLine)) (earlier last : List ServedWindow) (kept : RunKept tells config mode entry opened left_ run earlier last) where
  owned_by : (hs : List History) → kept.kept ≡ hs → AreOwned mode hs
  owned_by hs same = subst (λ (x : List History). AreOwned mode x) same (λ v h here. ((kept.are.each v h here).owner, λ other. kept.reclaims.alone other v h here))

  placed_by : (awake : List (List Bool)) → AreWorked mode (earlier ++ last) awake kept.kept → CountsPlaced (earlier ++ last) kept.kept
  placed_by awake worked = record {
    log = kept.placed.log;
    home = kept.placed.home;
    drained = counts_drained mode (earlier ++ last) awake kept.kept worked kept.sized kept.within (λ v h here. (kept.are.each v h here).legal.helpers);
  }

-- ---- What was at entry

told_first : (P : Told → Told → Type 0) (X : Told → Type 0) (a b : Option Told) → IsTold P a b → IfSome a X → IsTold (λ o n. X o) a b
told_first P X None b p x = p
told_first P X (Some o) None p x = p
told_first P X (Some o) (Some n) p x = x

-- ---- The whole

numbered_all : {D : Type 0} (ss : List (Station D)) → AreStations ss → (v : ℕ) (s : Station D) → slice_get ss v ≡ Some s → AreNumbered s
numbered_all ss all v s there =
    let (less, at) = at_place ss v s there in
    let one = all v s less in
    subst (λ (x : Station _). AreNumbered x) (at s) (one.worker_.number_is, one.helper_.number_is, one.keeper_.number_is)

module _ {D S : Type 0} (T : Type 0) (state : D → State) (tells : Bool) (left : S → Option (List ℕ)) (config : Config) (options : Options) (start now : Given S) (entry opened left_ : BayState) (r q : Rack D)
    (is : IsRack state config opened r) (counted_stations : length r.stations.items ≡ length (shapes_of config)) (some : 1 ≤ length r.stations.items) (all_out : (k : ℕ) → k < length (shapes_of config) → IsImageOut r.rest.images.items k)
    (began : IsTrue tells → IfSome entry.told (λ t. BeganWith state config t r)) (told_open : IsTold HasFaulty entry.told opened.told)
    (Q : Told → Told → Type 0) (told_left : IsTrue tells → IsTold Q opened.told left_.told) (opening : entry.faults ≤ opened.faults)
    (closed : All (IsClosedVolume tells config q.rest.images.items opened left_) q.stations.items) (shared : SharePools tells config opened left_ q closed)
    (keep : KeepToViews (view_at (histories_of tells config q.rest.images.items opened left_ q.stations.items closed)) q) (fresh : AreUnused r.stations.items)
    (unfaulty : IsTold (λ x y. y.faulty ≡ x.faulty) entry.told opened.told) (sound : IsTrue tells → IsTold (KeepsAllSound config) entry.told left_.told) (fronts : IsTrue tells → IsTold (LeavesFronts config) entry.told left_.told) (open_ : IsTrue tells → IfSome entry.told (λ t. AreAllOpen config t)) (faults faults' : ℕ) (printed printed' : Option (List ℕ)) where
  abbrev views : ℕ → List ℕ
  views = view_at (histories_of tells config q.rest.images.items opened left_ q.stations.items closed)

  module _ (hs : List History) (hs_are : hs ≡ histories_of tells config q.rest.images.items opened left_ q.stations.items closed) (owners : (v : ℕ) (h : History) → slice_get hs v ≡ Some h → h.base.owner ≡ v) where
    -- a volume whose history names a logger had it in its view
    logger_had : (t : Told) → AreAllOpen config t → BeginAsRead config t hs → (n k : ℕ) → n < length config.volumes.items → Contains (view_at hs n) k → HadLogger config t n k
    logger_had t all_open begun n k lt names = by_option (slice_get hs n)
        (λ none. absurd (none_in k (subst (λ (o : Option History). Contains (option_map_or (λ (h : History). h.base.view) o []) k) none names)))
        (λ h here.
        let (v, conf) = a_member config.volumes.items n lt in
        names_logger config t n k v conf (all_open n v conf) h.base (owners n h here) (begun n h here) (subst (λ (o : Option History). Contains (option_map_or (λ (h : History). h.base.view) o []) k) here names))

    -- the pools began with the segments as the images had them
    pools_at : q.shared ≡ r.shared → (t : Told) → BeganWith state config t r → AreAllOpen config t → BeginAsRead config t hs → ArePools config t shared.pools
    pools_at same t with all_open begun k v conf =
        let less = (at_place config.volumes.items k v conf).0 in
        let within : k < length (shapes_of config) = omega (arith, less, length-map config.volumes.items (shape_in config)) in
        let (l, lock) = a_member r.shared.pools.items k (omega (arith, within, is.locks.pool_count)) in
        let (image, here) = a_value (image_here r.rest.images.items k) (all_out k within) in
        let at = ap (λ (x : Shared D). slice_get x.pools.items k) same ∙ lock in
        let kept = subst (λ (l : List History). KeepToViews (view_at l) q) (sym hs_are) keep in
        record {
          holders = (lock_id l).base.holders;
          had = with.pools k v l image conf lock here;
          legal = shared.legal k l at;
          users = λ n never. shared.users k l at (view_at hs) kept n (λ used. never (logger_had t all_open begun n k used.0 used.1));
        }

    pools_began : q.shared ≡ r.shared → (IsTrue tells → IsTold (λ entry_ exit. BeginAsRead config entry_ hs) entry.told left_.told) → IsTrue tells → IsTold (λ entry_ exit. ArePools config entry_ shared.pools) entry.told left_.told
    pools_began same begun telling = at entry.told left_.told (began telling) (open_ telling) (begun telling)
      where
        at : (o n : Option Told) → IfSome o (λ t. BeganWith state config t r) → IfSome o (λ t. AreAllOpen config t) → IsTold (λ entry_ exit. BeginAsRead config entry_ hs) o n → IsTold (λ entry_ exit. ArePools config entry_ shared.pools) o n
        at None n with all_open told = told
        at (Some t) None with all_open told = told
        at (Some t) (Some x) with all_open told = pools_at same t with all_open told

  -- no pool was passed over more often than it was found empty
  passed_by : (hs : List History) → hs ≡ histories_of tells config q.rest.images.items opened left_ q.stations.items closed → (v : ℕ) (h : History) → slice_get hs v ≡ Some h → PassesEmpty shared.pools h.base h.notes
  passed_by hs same v h here =
      each_closed tells config q.rest.images.items opened left_ (λ b notes. PassesEmpty shared.pools b notes) q.stations.items closed shared.passed v h (ap (λ (l : List History). slice_get l v) (sym same) ∙ here)

  -- no more segments were taken than were written to logs
  taken_by : (hs : List History) → hs ≡ histories_of tells config q.rest.images.items opened left_ q.stations.items closed → (v : ℕ) (h : History) → slice_get hs v ≡ Some h → TakesFew shared.pools h.base h.notes
  taken_by hs same v h here =
      each_closed tells config q.rest.images.items opened left_ (λ b notes. TakesFew shared.pools b notes) q.stations.items closed shared.taken v h (ap (λ (l : List History). slice_get l v) (sym same) ∙ here)

  -- there was no memory to serve
  pub replays_none : RunsNone tells left config options start now r q faults faults' printed printed' → AreStations q.stations.items → (spindles : List SpindleView) → length spindles ≡ length (shapes_of config)
      → length spindles ≡ length config.volumes.items → ((k : ℕ) (s : SpindleView) → slice_get spindles k ≡ Some s → IsClosedSpindle q k s) → All (λ (p : SpindlePass). IsUnused p) r.keepers.items
      → Replays {T = T} tells left config options start now entry left_ (Err (stop.Fault Memory)) faults faults' printed printed'
  replays_none runs stations spindles count sized each unused =
      let kept = kept_none state tells config entry opened left_ r q (ap (λ (x : Rack D). x.rest) runs.same) counted_stations all_out began told_open Q told_left closed stations fresh unfaulty sound fronts (ap (λ (x : Rack D). x.stations.items) runs.same)
      (no_requests (most_of config) (targets_of config)) options.reclaim in
      let is_none = none_is state tells config entry opened left_ r q (ap (λ (x : Rack D). x.rest) runs.same) counted_stations all_out began told_open Q told_left closed stations fresh unfaulty sound fronts (ap (λ (x : Rack D). x.stations.items) runs.same) (no_requests (most_of config) (targets_of config)) options.reclaim in
      record {
        of = all_went left config start now [] [] (subst (λ (g : Given S). HasGiven left (targets_of config) start g []) (sym runs.unread) (none_given left (targets_of config) start)) [] (no_windows config) (λ some. absurd (some refl)) tt;
        one = omega arith;
        asked = kept.asked;
        ends = memory;
        histories = kept.kept;
        are = kept.are;
        cause = λ v broken. rose_from entry.faults opened.faults left_.faults opening (kept.cause v broken);
        part = λ v t is. (let no : stop.Fault Memory ≡ stop.Fault (Volume v t) = cc is in absurd (cc no));
        named = λ v t is. (let no : stop.Fault Memory ≡ stop.Fault (Volume v t) = cc is in absurd (cc no));
        spent = λ v is. (let no : stop.Fault Memory ≡ stop.Fault (Versions v) = cc is in absurd (cc no));
        open_ = λ telling. told_first (KeepsAllSound config) (AreAllOpen config) entry.told left_.told (sound telling) (open_ telling);
        begun = kept.begun;
        pools = shared.pools;
        are_pools = pools_began kept.kept is_none (λ v h here. (kept.are.each v h here).owner) (ap (λ (x : Rack D). x.shared) runs.same) kept.begun;
        passed = passed_by kept.kept is_none;
        taken = taken_by kept.kept is_none;
        counts = counts_whole [] [] kept.kept kept.well 9 (λ v. tt);
        placed = placed_by tells config options.reclaim entry opened left_ [] [] [] kept [] (worked is_none runs stations);
        reclaimed = subst (λ (hs : List History). CountsReclaimed [] hs) (sym is_none) (none_reclaimed tells config q.rest.images.items opened left_ q.stations.items closed (numbered_all q.stations.items stations)
            (subst (λ (x : Rack D). AreUnused x.stations.items) (sym runs.same) fresh) (subst (λ (hs : List History). (v : ℕ) (h : History) → slice_get hs v ≡ Some h → HasHistory (IsTrue tells) h.base h.notes × AllByRecursion IsRuled h.notes) (is_none) (λ v h here. ((kept.are.each v h here).legal, kept.ruled v h here))));
        reclaims = kept.reclaims;
        awake = [];
        worked = worked is_none runs stations;
        disks = subst (λ (hs : List History). HaveAccounts config (view_at hs) [] [] [] ⊎ ((status_in {T = T} (Err (stop.Fault Memory)) ≡ 9) × HaveShortAccounts config (view_at hs) [] [] [])) (sym is_none) (inl (record {
          spindles = spindles;
          count = sized;
          each = λ k s there.
              let closable = subst (λ (x : Rack D). IsClosable state config opened x) (sym runs.same) (rack_closable state config opened r is) in
              let a = account_of state config views opened r q is unused closable keep spindles count each k s there in
              let here : slice_index_or r.keepers.items k a.pass ≡ a.pass = ap (λ (x : Rack D). slice_index_or x.keepers.items k a.pass) (sym runs.same) ∙ (at_place q.keepers.items k a.pass a.there).1 a.pass in
              a.so [] [] (subst (λ (p : SpindlePass). HasReached [] [] p a.pass) (sym here) (reached_none a.pass));
        }));
        unbroken = λ is. absurd (cc is);
        marks = kept.marks;
        images = kept.images;
        summary = [];
        summary_is = of_none (stop.Fault Memory);
        prints = (runs.calm, inr (refl, 0, appends_none printed printed' runs.kept));
      }
    where
      worked : {hs : List History} → hs ≡ histories_of tells config q.rest.images.items opened left_ q.stations.items closed → RunsNone tells left config options start now r q faults faults' printed printed' → AreStations q.stations.items
          → AreWorked options.reclaim [] [] hs
      worked is_none none all = subst (λ (hs : List History). AreWorked options.reclaim [] [] hs) (sym is_none)
          (none_worked tells options.reclaim config q.rest.images.items opened left_ q.stations.items closed (numbered_all q.stations.items all) (subst (λ (x : Rack D). AreUnused x.stations.items) (sym none.same) fresh))

  numbers : (v : ℕ) (s : Station D) → slice_get r.stations.items v ≡ Some s → AreNumbered s
  numbers v s there =
      let (less, at) = at_place r.stations.items v s there in
      let one = is.stations v s less in
      subst (λ (x : Station D). AreNumbered x) (at s) (one.worker_.number_is, one.helper_.number_is, one.keeper_.number_is)

  module _ (before : Floor D) (moved : IsMoved r.stations.items before) (result : Result Counted Stop) (from : ServesFrom tells left config options start now r q faults faults' printed printed' before result) where
    rest_same : q.rest ≡ r.rest
    rest_same = ap (λ (x : Rack D). x.rest) from.only

    targets_same : length r.stations.items ≡ length (targets_of config)
    targets_same = counted_stations ∙ length-map config.volumes.items (shape_in config) ∙ sym (length-map config.volumes.items target_of)

    stations_same : length q.stations.items ≡ length r.stations.items
    stations_same = sym (length-map q.stations.items (λ (s : Station D). s.lock)) ∙ ap length from.locks ∙ ap length moved.locks ∙ length-map r.stations.items (λ (s : Station D). s.lock)

    rise_by : (e : Stop) (run more : List (Option TraceLine)) (earlier last : List ServedWindow) (h : Floor D) (ms : List SpindlePass) (then_ : Option (List ℕ))
        → EndsBy tells left config options start e now run more last h ms from.after q.keepers.items faults faults' then_ printed' → ServedFromStart tells options.reclaim (earlier ++ last) before r.keepers.items h ms
        → AreWindowsOf config run (earlier ++ last) → TellsRise last entry.faults left_.faults
    rise_by e run more earlier [] h ms then_ ends served are = λ f s only. absurd (cc only)
    rise_by e run more earlier (s ∷ []) h ms then_ (floor, passes, stops) served are =
        rises tells options.reclaim config q.rest.images.items opened left_ r.stations.items q.stations.items closed before from.after moved from.moved_back targets_same stations_same run earlier (s ∷ []) r.keepers.items ms are
        (subst (λ (f : Floor D). ServedFromStart tells options.reclaim (earlier ++ s ∷ []) before r.keepers.items f ms) (sym floor) served) entry.faults opening
    rise_by e run more earlier (s ∷ t ∷ others) h ms then_ ends served are = absurd ends

    new_ids : (v : ℕ) (s : Station D) → slice_get q.stations.items v ≡ Some s → s.id ≡ v
    new_ids v s there = let (less, at) = at_place q.stations.items v s there in subst (λ (x : Station D). x.id ≡ v) (at s) (from.can.each v s less).id

    new_numbers : (v : ℕ) (s : Station D) → slice_get q.stations.items v ≡ Some s → AreNumbered s
    new_numbers = numbered_all q.stations.items from.can.each

    free : (v : ℕ) (s : Station D) → slice_get r.stations.items v ≡ Some s → IsFree s.worker × IsFree s.helper
    free v s there =
        let (less, at) = at_place r.stations.items v s there in
        let one = is.stations v s less in
        subst (λ (x : Station D). IsFree x.worker × IsFree x.helper) (at s) (one.worker_.free, one.helper_.free)

    looks : (v : ℕ) (old new : Station D) → slice_get r.stations.items v ≡ Some old → slice_get q.stations.items v ≡ Some new
        → (pass_began old.worker ≡ (base_of_station new).volume.began) × (pass_began old.helper ≡ (base_of_station new).volume.began) × (pass_began new.keeper ≡ (base_of_station new).volume.began)
    looks v old new was now =
        let (less, at) = at_place r.stations.items v old was in
        let one = is.stations v old less in
        let (within, place) = at_place q.stations.items v new now in
        let two = from.can.each v new within in
        let base : base_of_station new ≡ base_of_station old = base_same r.stations.items q.stations.items (from.locks ∙ moved.locks) v old new was now in
        let own = subst (λ (x : Station D). (pass_lock x.worker ≡ lock_id x.lock) × (pass_lock x.helper ≡ lock_id x.lock)) (at old) (one.worker_.own, one.helper_.own) in
        let keeps = subst (λ (x : Station D). pass_lock x.keeper ≡ lock_id x.lock) (place new) two.keeper_.own in
        (ap (λ x. x.base.volume.began) own.0 ∙ sym (ap (λ b. b.volume.began) base), ap (λ x. x.base.volume.began) own.1 ∙ sym (ap (λ b. b.volume.began) base), ap (λ x. x.base.volume.began) keeps)

    -- what is counted of reclaim
    reclaimed_by : (ss : List ServedWindow) (middle : Floor D) (ms : List SpindlePass) → ServedFromStart tells options.reclaim ss before r.keepers.items middle ms → EndsOn tells middle from.after
        → ((v : ℕ) (h : History) → slice_get (histories_of tells config q.rest.images.items opened left_ q.stations.items closed) v ≡ Some h → HasHistory (IsTrue tells) h.base h.notes × AllByRecursion IsRuled h.notes)
        → CountsReclaimed ss (histories_of tells config q.rest.images.items opened left_ q.stations.items closed)
    reclaimed_by ss middle ms served ends rules =
        counts_reclaimed tells options.reclaim config q.rest.images.items opened left_ r.stations.items q.stations.items closed before middle from.after r.keepers.items ms moved from.moved_back ss served ends fresh numbers new_numbers free looks stations_same some rules

    -- what the spindles answered, and what the worker and the keeper of each volume did
    told_by : (ss : List ServedWindow) (middle : Floor D) (ms : List SpindlePass) → ServedFromStart tells options.reclaim ss before r.keepers.items middle ms → EndsOn tells middle from.after → List (List Bool)
    told_by ss middle ms served ends =
        told_awake tells options.reclaim config q.rest.images.items opened left_ r.stations.items q.stations.items closed before middle from.after r.keepers.items ms moved from.moved_back ss served ends fresh numbers new_numbers free looks stations_same some

    worked_by : (ss : List ServedWindow) (middle : Floor D) (ms : List SpindlePass) (served : ServedFromStart tells options.reclaim ss before r.keepers.items middle ms) (ends : EndsOn tells middle from.after)
        → AreOwned options.reclaim (histories_of tells config q.rest.images.items opened left_ q.stations.items closed)
        → AreWorked options.reclaim ss (told_by ss middle ms served ends) (histories_of tells config q.rest.images.items opened left_ q.stations.items closed)
    unfolding told_by
    worked_by ss middle ms served ends owned =
        run_worked tells options.reclaim config q.rest.images.items opened left_ r.stations.items q.stations.items closed before middle from.after r.keepers.items ms moved from.moved_back ss served ends fresh numbers new_numbers free looks stations_same some owned

    awake_by : (ss : List ServedWindow) (middle : Floor D) (ms : List SpindlePass) (served : ServedFromStart tells options.reclaim ss before r.keepers.items middle ms) (ends : EndsOn tells middle from.after) (last : List (List Bool))
        → awake_last tells options.reclaim middle from.after ends ≡ last → told_by ss middle ms served ends ≡ awake_in tells options.reclaim ss before r.keepers.items middle ms served ++ last
    unfolding told_by
    awake_by ss middle ms served ends last is =
        told_more tells options.reclaim config q.rest.images.items opened left_ r.stations.items q.stations.items closed before middle from.after r.keepers.items ms moved from.moved_back ss served ends fresh numbers new_numbers free looks stations_same some
        ∙ ap (λ (l : List (List Bool)). awake_in tells options.reclaim ss before r.keepers.items middle ms served ++ l) is

    awake_alone : (ss : List ServedWindow) (middle : Floor D) (ms : List SpindlePass) (served : ServedFromStart tells options.reclaim ss before r.keepers.items middle ms) (ends : EndsOn tells middle from.after)
        → awake_last tells options.reclaim middle from.after ends ≡ [] → told_by ss middle ms served ends ≡ awake_in tells options.reclaim ss before r.keepers.items middle ms served
    awake_alone ss middle ms served ends none = awake_by ss middle ms served ends [] none ∙ append-nil (awake_in tells options.reclaim ss before r.keepers.items middle ms served)

    module _ (ss : List ServedWindow) (middle : Floor D) (ms : List SpindlePass) (served : ServedFromStart tells options.reclaim ss before r.keepers.items middle ms) (ends : EndsOn tells middle from.after)
        (awake_is : told_by ss middle ms served ends ≡ awake_in tells options.reclaim ss before r.keepers.items middle ms served) (passes : q.keepers.items ≡ ms) (unused : All (λ (p : SpindlePass). IsUnused p) r.keepers.items) where
      -- what the keepers were told is what the spindles' journals say
      keepers_told : (k : ℕ) (p : SpindlePass) (entries : List Entry) → k < length r.keepers.items → slice_get q.keepers.items k ≡ Some p → IsPartOf entries p
          → answers_by (timeout_of p) new_spindle (pass_number p) (uses_of entries) ≡ column k (told_by ss middle ms served ends)
      keepers_told k p entries lt there part =
          let here : slice_index_or ms k p ≡ p = ap (λ (l : List SpindlePass). slice_index_or l k p) (sym passes) ∙ (at_place q.keepers.items k p there).1 p in
          all_told (column k (told_by ss middle ms served ends)) (slice_index_or r.keepers.items k p) p entries (unused k p lt)
          (subst (λ (l : List (List Bool)). WasTold (column k l) (slice_index_or r.keepers.items k p) p) (sym awake_is)
          (subst (λ (x : SpindlePass). WasTold (column k (awake_in tells options.reclaim ss before r.keepers.items middle ms served)) (slice_index_or r.keepers.items k p) x) here
          (served_told tells options.reclaim k ss before r.keepers.items middle ms p served lt))) part

      -- the accounts of the disks, where no further window began
      disks_by : (lines : List (Option TraceLine)) → AreWindowsOf config lines ss → (spindles : List SpindleView) → length spindles ≡ length (shapes_of config) → length spindles ≡ length config.volumes.items
          → ((k : ℕ) (s : SpindleView) → slice_get spindles k ≡ Some s → IsClosedSpindle q k s) → HaveAccounts config views lines ss (told_by ss middle ms served ends)
      disks_by lines are spindles count sized each = record {
        spindles = spindles;
        count = sized;
        each = accounts_of state tells left config options start now opened r q faults faults' printed printed' is unused (told_by ss middle ms served ends) views lines ss are before middle
            (subst (λ (l : List SpindlePass). ServedFromStart tells options.reclaim ss before r.keepers.items middle l) (sym passes) served)
            (closable_after state config opened r q (rack_closable state config opened r is) from.only from.can (from.locks ∙ moved.locks) from.same) keep spindles count each keepers_told;
      }

    closable_now : IsClosable state config opened q
    closable_now = closable_after state config opened r q (rack_closable state config opened r is) from.only from.can (from.locks ∙ moved.locks) from.same

    -- .. and where one may have begun
    module _ (e : Stop) (ss : List ServedWindow) (middle : Floor D) (ms : List SpindlePass) (served : ServedFromStart tells options.reclaim ss before r.keepers.items middle ms) (unused : All (λ (p : SpindlePass). IsUnused p) r.keepers.items)
        (lines : List (Option TraceLine)) (are : AreWindowsOf config lines ss) (spindles : List SpindleView) (count : length spindles ≡ length (shapes_of config)) (sized : length spindles ≡ length config.volumes.items)
        (each : (k : ℕ) (s : SpindleView) → slice_get spindles k ≡ Some s → IsClosedSpindle q k s) where
      abbrev AllBegun : Type 0
      AllBegun = Further tells (not (is_none_served ss)) middle ms from.after q.keepers.items

      abbrev so_on : ((from.after ≡ middle) × (q.keepers.items ≡ ms)) ⊎ WasNotRun tells middle from.after → AllBegun → EndsOn tells middle from.after
      so_on there further = ends_so tells options.reclaim (not (is_none_served ss)) middle ms from.after q.keepers.items there further

      abbrev DisksEnded : EndsOn tells middle from.after → Type 0
      DisksEnded ends = HaveAccounts config views lines ss (told_by ss middle ms served ends) ⊎ ((status_in {T = T} (Err e) ≡ 9) × HaveShortAccounts config views lines ss (told_by ss middle ms served ends))

      alone : (ends : EndsOn tells middle from.after) → awake_last tells options.reclaim middle from.after ends ≡ [] → q.keepers.items ≡ ms → DisksEnded ends
      alone ends none passes = inl (disks_by ss middle ms served ends (awake_alone ss middle ms served ends none) passes unused lines are spindles count sized each)

      at_9 : e ≡ stop.Fault Memory → status_in {T = T} (Err e) ≡ 9
      at_9 is = ap (λ (x : Stop). status_in {T = T} (Err x)) is

      account_now : (k : ℕ) (s : SpindleView) → slice_get spindles k ≡ Some s → AccountOf config views r q k s
      account_now = account_of state config views opened r q is unused closable_now keep spindles count each

      pass_at : (k : ℕ) (s : SpindleView) (a : AccountOf config views r q k s) → slice_index_or q.keepers.items k a.pass ≡ a.pass
      pass_at k s a = (at_place q.keepers.items k a.pass a.there).1 a.pass

      -- the accounts where a further window began at this moment
      short : e ≡ stop.Fault Memory → (ends : EndsOn tells middle from.after) (moment : ℕ)
          → ((k : ℕ) (s : SpindleView) → slice_get spindles k ≡ Some s → IsAccountBy config views k (started_uses (started (timed lines)) moment (moments_of ss)) (column k (told_by ss middle ms served ends)) s)
          ⊎ ((k : ℕ) (s : SpindleView) → slice_get spindles k ≡ Some s → IsAccountBy config views k (started_uses (started (timed lines)) moment (moments_of ss) ++ Began moment ∷ []) (column k (told_by ss middle ms served ends)) s) → DisksEnded ends
      short is ends moment each = inr (at_9 is, record { spindles = spindles; count = sized; moment = moment; each = each })

      failed : e ≡ stop.Fault Memory → (ends : EndsOn tells middle from.after) → awake_last tells options.reclaim middle from.after ends ≡ [] → (moment : ℕ) (begun : List SpindlePass)
          → StartsOnce (not (is_none_served ss)) moment ms begun → q.keepers.items ≡ begun → DisksEnded ends
      failed is ends none moment begun once fails = short is ends moment
          (inl (λ k s there.
          let a = account_now k s there in
          subst (λ (l : List (List Bool)). IsAccountBy config views k (started_uses (started (timed lines)) moment (moments_of ss)) (column k l) s) (sym (awake_alone ss middle ms served ends none))
          (none_begun tells options.reclaim k (started (timed lines)) ss before r.keepers.items middle ms served a.less (first_is config lines ss are) moment begun once config views s q.keepers.items a.pass
          (λ us xs reached. a.so us xs (subst (λ (p : SpindlePass). HasReached us xs (slice_index_or r.keepers.items k a.pass) p) (pass_at k s a) reached)) fails)))

      all_begun : e ≡ stop.Fault Memory → (ends : EndsOn tells middle from.after) (awake : List Bool) → awake_last tells options.reclaim middle from.after ends ≡ awake ∷ [] → (moment : ℕ) (begun : List SpindlePass)
          → StartsOnce (not (is_none_served ss)) moment ms begun → HaveBegun moment awake begun q.keepers.items → DisksEnded ends
      all_begun is ends awake last moment begun once have = short is ends moment
          (inr (λ k s there.
          let a = account_now k s there in
          subst (λ (l : List (List Bool)). IsAccountBy config views k (started_uses (started (timed lines)) moment (moments_of ss) ++ Began moment ∷ []) (column k l) s) (sym (awake_by ss middle ms served ends (awake ∷ []) last))
          (a.so _ _ (subst (λ (p : SpindlePass). HasReached (started_uses (started (timed lines)) moment (moments_of ss) ++ Began moment ∷ []) (column k (awake_in tells options.reclaim ss before r.keepers.items middle ms served ++ awake ∷ [])) (slice_index_or r.keepers.items k a.pass) p) (pass_at k s a)
          (all_reached tells options.reclaim k (started (timed lines)) ss before r.keepers.items middle ms served a.less (first_is config lines ss are) moment begun once awake q.keepers.items have a.pass)))))

      disks_ended : (there : ((from.after ≡ middle) × (q.keepers.items ≡ ms)) ⊎ ((e ≡ stop.Fault Memory) × WasNotRun tells middle from.after)) (further : AllBegun)
          → DisksEnded (so_on (there_now there) further)
      disks_ended (inl (floor, passes)) further = alone _ (none_told tells options.reclaim (not (is_none_served ss)) middle ms from.after q.keepers.items floor passes further) passes
      disks_ended (inr (is, not_run)) (none_further same passes) = alone _ (kept_told tells options.reclaim (not (is_none_served ss)) middle ms from.after q.keepers.items not_run same passes) passes
      disks_ended (inr (is, not_run)) (fails_to_begin moment begun same once fails) =
          failed is _ (failed_told tells options.reclaim (not (is_none_served ss)) middle ms from.after q.keepers.items not_run moment begun same once fails) moment begun once fails
      disks_ended (inr (is, not_run)) (begins_alone moment begun awake once have volumes) =
          all_begun is _ awake (begun_last tells options.reclaim (not (is_none_served ss)) middle ms from.after q.keepers.items not_run moment begun awake once have volumes) moment begun once have

    unbroken_by : (ss : List ServedWindow) (ms : List SpindlePass) → ServedFromStart tells options.reclaim ss before r.keepers.items from.after ms → AreOwned options.reclaim (histories_of tells config q.rest.images.items opened left_ q.stations.items closed)
        → AllByRecursion WentWell ss → (v : ℕ) → is_broken_at (histories_of tells config q.rest.images.items opened left_ q.stations.items closed) v ≡ false
    unbroken_by ss ms served owned well =
        run_unbroken tells options.reclaim config q.rest.images.items opened left_ r.stations.items q.stations.items closed before from.after from.after r.keepers.items ms moved from.moved_back ss served (inl refl) fresh numbers new_numbers free looks stations_same some owned well refl

    -- where a part is at fault, it was down in the history of the named volume
    down_by : (e : Stop) (run more : List (Option TraceLine)) (earlier last : List ServedWindow) (h : Floor D) (ms : List SpindlePass) (then_ : Option (List ℕ))
        → EndsBy tells left config options start e now run more last h ms from.after q.keepers.items faults faults' then_ printed' → ServedFromStart tells options.reclaim (earlier ++ last) before r.keepers.items h ms
        → AreWindowsOf config run (earlier ++ last) → (v : ℕ) (t : Trouble) → e ≡ stop.Fault (Volume v t) → HasDownAt (histories_of tells config q.rest.images.items opened left_ q.stations.items closed) v t
    down_by e run more earlier [] h ms then_ (calm, keeps, inl (refusal, other, is, none_more, refuses, floor, passes)) served are v t named = absurd (trace_other refusal v t (sym is ∙ named))
    down_by e run more earlier [] h ms then_ (calm, keeps, inr (is, not_run)) served are v t named = let no : stop.Fault Memory ≡ stop.Fault (Volume v t) = sym is ∙ named in absurd (cc no)
    down_by e run more earlier (s ∷ []) h ms then_ (floor, passes, inl (f, told, is, calm, prints)) served are v t named =
        let same : f ≡ Volume v t = cc (sym is ∙ named) in
        named_down tells options.reclaim config q.rest.images.items opened left_ r.stations.items q.stations.items closed before from.after moved from.moved_back targets_same stations_same run earlier s r.keepers.items ms are
        (subst (λ (x : Floor D). ServedFromStart tells options.reclaim (earlier ++ s ∷ []) before r.keepers.items x ms) (sym floor) served) v t (subst (λ (x : Fault). fault_of_window s.batch.requests s.answer ≡ Some x) same told)
    down_by e run more earlier (s ∷ []) h ms then_ (floor, passes, inr cuts) served are v t named = absurd (cut_other e _ faults faults' then_ printed' v t cuts named)
    down_by e run more earlier (s ∷ u ∷ rest) h ms then_ ends served are v t named = absurd ends

    -- the trace wasn't served to its end
    pub replays_some : (e : Stop) → ServesSome tells left config options start e now before r.keepers.items from.after q.keepers.items faults faults' printed printed' → (spindles : List SpindleView)
        → length spindles ≡ length (shapes_of config) → length spindles ≡ length config.volumes.items → ((k : ℕ) (s : SpindleView) → slice_get spindles k ≡ Some s → IsClosedSpindle q k s) → All (λ (p : SpindlePass). IsUnused p) r.keepers.items
        → Replays {T = T} tells left config options start now entry left_ (Err e) faults faults' printed printed'
    replays_some e w spindles count sized each unused =
        let one = one_last T tells left config options start now entry opened left_ w.run w.more w.earlier w.middle w.between from.after q.keepers.items faults faults' w.then printed' e w.last w.ends in
        let there = ends_there T tells left config options start now entry opened left_ w.run w.more w.earlier w.middle w.between from.after q.keepers.items faults faults' w.then printed' e w.last w.ends in
        let on = ends_so tells options.reclaim (not (is_none_served (w.earlier ++ w.last))) w.middle w.between from.after q.keepers.items (there_now there) w.further in
        let kept = kept_served state tells config entry opened left_ r q rest_same counted_stations all_out began told_open Q told_left closed from.can.each fresh unfaulty sound fronts options.reclaim before w.middle from.after r.keepers.items w.between moved from.moved_back from.locks numbers
        w.run w.earlier w.last w.windows_ w.well one w.from_start on in
        let is_kept = kept_is state tells config entry opened left_ r q rest_same counted_stations all_out began told_open Q told_left closed from.can.each fresh unfaulty sound fronts options.reclaim before w.middle from.after r.keepers.items w.between moved from.moved_back from.locks numbers
        w.run w.earlier w.last w.windows_ w.well one w.from_start on in
        let awake = told_by (w.earlier ++ w.last) w.middle w.between w.from_start on in
        let worked = subst (λ (hs : List History). AreWorked options.reclaim (w.earlier ++ w.last) awake hs) (sym is_kept)
        (worked_by (w.earlier ++ w.last) w.middle w.between w.from_start on (owned_by tells config options.reclaim entry opened left_ w.run w.earlier w.last kept _ is_kept)) in
        record {
          of = w.of;
          one = one;
          asked = kept.asked;
          ends = ends_stopped T tells left config options start now e w.run w.more w.last w.middle w.between from.after q.keepers.items faults faults' w.then printed' entry.faults left_.faults w.ends
              (rise_by e w.run w.more w.earlier w.last w.middle w.between w.then w.ends w.from_start w.windows_);
          histories = kept.kept;
          are = kept.are;
          cause = λ v broken. rose_from entry.faults opened.faults left_.faults opening (kept.cause v broken);
          part = λ v t is. (subst (λ (hs : List History). IsTrue (is_broken_at hs v)) (sym is_kept) (breaks_at _ v t (down_by e w.run w.more w.earlier w.last w.middle w.between w.then w.ends w.from_start w.windows_ v t (cc is))));
          named = λ v t is. (
              let one = came_at tells config q.rest.images.items opened left_ q.stations.items closed (answers_in (w.earlier ++ w.last)) (subst (λ (hs : List History). AreHistories (IsTrue tells) config (answers_in (w.earlier ++ w.last)) hs) is_kept kept.are)
              new_ids v t (down_by e w.run w.more w.earlier w.last w.middle w.between w.then w.ends w.from_start w.windows_ v t (cc is)) in
              (one.0, ap (λ (hs : List History). slice_get hs v) is_kept ∙ one.1, one.2, one.3, faulty_since tells config v one.0.base.view one.2 entry.told opened.told left_.told told_open one.4));
          spent = λ v is. spent_some T tells left config options start now entry opened left_ w.run w.more w.earlier w.middle w.between from.after q.keepers.items faults faults' w.then printed' e w.last w.ends kept v (cc is);
          open_ = λ telling. told_first (KeepsAllSound config) (AreAllOpen config) entry.told left_.told (sound telling) (open_ telling);
          begun = kept.begun;
          pools = shared.pools;
          are_pools = pools_began kept.kept is_kept (λ v h here. (kept.are.each v h here).owner) (ap (λ (x : Rack D). x.shared) from.only) kept.begun;
          passed = passed_by kept.kept is_kept;
          taken = taken_by kept.kept is_kept;
          counts = counts_some T tells left config options start now entry opened left_ w.run w.more w.earlier w.middle w.between from.after q.keepers.items faults faults' w.then printed' e w.last w.ends kept;
          placed = placed_by tells config options.reclaim entry opened left_ w.run w.earlier w.last kept awake worked;
          reclaimed = subst (λ (hs : List History). CountsReclaimed (w.earlier ++ w.last) hs) (sym is_kept) (reclaimed_by (w.earlier ++ w.last) w.middle w.between w.from_start on (subst (λ (hs : List History). (v : ℕ) (h : History) → slice_get hs v ≡ Some h → HasHistory (IsTrue tells) h.base h.notes × AllByRecursion IsRuled h.notes) (is_kept) (λ v h here. ((kept.are.each v h here).legal, kept.ruled v h here))));
          reclaims = kept.reclaims;
          awake = awake;
          worked = worked;
          disks = subst (λ (hs : List History). HaveAccounts config (view_at hs) w.run (w.earlier ++ w.last) awake ⊎ ((status_in {T = T} (Err e) ≡ 9) × HaveShortAccounts config (view_at hs) w.run (w.earlier ++ w.last) awake)) (sym is_kept)
              (disks_ended e (w.earlier ++ w.last) w.middle w.between w.from_start unused w.run w.windows_ spindles count sized each there w.further);
          unbroken = λ is. absurd (stop_some T e is);
          marks = kept.marks;
          images = kept.images;
          summary = [];
          summary_is = of_none e;
          prints = prints_stopped T tells left config options start now e w.run w.more w.earlier w.last w.middle w.between from.after q.keepers.items faults faults' printed w.then printed' w.printed_before w.ends;
        }

    -- it was served to its end, and the summary was printed or not
    pub replays_whole : (counted : Counted) (w : ServesWhole tells left config options start now before r.keepers.items from.after q.keepers.items counted faults faults' printed printed') (spindles : List SpindleView)
        → length spindles ≡ length (shapes_of config) → length spindles ≡ length config.volumes.items → ((k : ℕ) (s : SpindleView) → slice_get spindles k ≡ Some s → IsClosedSpindle q k s) → All (λ (p : SpindlePass). IsUnused p) r.keepers.items
        → (done : Result T Stop) (faults'' : ℕ) (printed'' : Option (List ℕ))
        → PrintsText done (summary_text counted.totals (printed_names config.volumes.items) (all_amounts config.powers counted.started counted.ended spindles)) faults' faults'' printed' printed''
        → Replays tells left config options start now entry left_ done faults faults'' printed printed''
    replays_whole counted w spindles count sized each unused done faults'' printed'' prints =
        let text = summary_text counted.totals (printed_names config.volumes.items) (all_amounts config.powers counted.started counted.ended spindles) in
        let all_windows : w.served ++ [] ≡ w.served = append-nil w.served in
        let are = subst (λ (ss : List ServedWindow). AreWindowsOf config w.lines ss) (sym all_windows) w.are in
        let from_start = subst (λ (ss : List ServedWindow). ServedFromStart tells options.reclaim ss before r.keepers.items from.after q.keepers.items) (sym all_windows) w.from_start in
        let kept = kept_served state tells config entry opened left_ r q rest_same counted_stations all_out began told_open Q told_left closed from.can.each fresh unfaulty sound fronts options.reclaim before from.after from.after r.keepers.items q.keepers.items moved from.moved_back from.locks numbers
        w.lines w.served [] are w.well (omega arith) from_start (inl refl) in
        let is_kept = kept_is state tells config entry opened left_ r q rest_same counted_stations all_out began told_open Q told_left closed from.can.each fresh unfaulty sound fronts options.reclaim before from.after from.after r.keepers.items q.keepers.items moved from.moved_back from.locks numbers
        w.lines w.served [] are w.well (omega arith) from_start (inl refl) in
        let owned = owned_by tells config options.reclaim entry opened left_ w.lines w.served [] kept _ is_kept in
        let awake = told_by (w.served ++ []) from.after q.keepers.items from_start (inl refl) in
        let worked = subst (λ (hs : List History). AreWorked options.reclaim (w.served ++ []) awake hs) (sym is_kept) (worked_by (w.served ++ []) from.after q.keepers.items from_start (inl refl) owned) in
        let awake_same = awake_alone (w.served ++ []) from.after q.keepers.items from_start (inl refl) (awake_last_none tells options.reclaim from.after from.after refl) in
        let all_asked = subst (λ (ss : List ServedWindow). AreAllCounted (requests (most_of config) (targets_of config) w.lines) ss) all_windows
        (all_counted_asked (requests (most_of config) (targets_of config) w.lines) (w.served ++ []) kept.kept kept.sized kept.within kept.asked (λ v h here. (kept.are.each v h here).answered)
        (λ v. subst (λ (ss : List ServedWindow). AreAllAnswered (answers_of v (answers_in ss))) (sym all_windows) (kept.well v))) in
        let summary = summary_now state tells left config options start now opened r q faults faults' printed printed' is unused awake views before from.after counted w
        (closable_after state config opened r q (rack_closable state config opened r is) from.only from.can (from.locks ∙ moved.locks) from.same) keep spindles count each
        (keepers_told (w.served ++ []) from.after q.keepers.items from_start (inl refl) awake_same refl unused) all_asked sized in
        record {
          of = all_went left config start now w.lines [] (subst (λ (ls : List (Option TraceLine)). HasGiven left (targets_of config) start now ls) (sym (append-nil w.lines)) w.given) w.served w.are (λ some. at_end w.all) w.well;
          one = omega arith;
          asked = kept.asked;
          ends = ends_summed left config start now w.lines [] entry.faults left_.faults text done faults faults' faults'' printed' printed'' refl w.all w.calm prints;
          histories = kept.kept;
          are = kept.are;
          cause = λ v broken. rose_from entry.faults opened.faults left_.faults opening (kept.cause v broken);
          part = λ v t is. absurd (text_other done text faults' faults'' printed' printed'' v t prints is);
          named = λ v t is. absurd (text_other done text faults' faults'' printed' printed'' v t prints is);
          spent = λ v is. absurd (text_versions done text faults' faults'' printed' printed'' v prints is);
          open_ = λ telling. told_first (KeepsAllSound config) (AreAllOpen config) entry.told left_.told (sound telling) (open_ telling);
          begun = kept.begun;
          pools = shared.pools;
          are_pools = pools_began kept.kept is_kept (λ v h here. (kept.are.each v h here).owner) (ap (λ (x : Rack D). x.shared) from.only) kept.begun;
          passed = passed_by kept.kept is_kept;
          taken = taken_by kept.kept is_kept;
          counts = counts_whole w.served [] kept.kept kept.well (status_in done) (λ v. tt);
          placed = placed_by tells config options.reclaim entry opened left_ w.lines w.served [] kept awake worked;
          reclaimed = subst (λ (hs : List History). CountsReclaimed (w.served ++ []) hs) (sym is_kept) (reclaimed_by (w.served ++ []) from.after q.keepers.items from_start (inl refl) (subst (λ (hs : List History). (v : ℕ) (h : History) → slice_get hs v ≡ Some h → HasHistory (IsTrue tells) h.base h.notes × AllByRecursion IsRuled h.notes) (is_kept) (λ v h here. ((kept.are.each v h here).legal, kept.ruled v h here))));
          reclaims = kept.reclaims;
          awake = awake;
          worked = worked;
          disks = subst (λ (hs : List History). HaveAccounts config (view_at hs) w.lines (w.served ++ []) awake ⊎ ((status_in done ≡ 9) × HaveShortAccounts config (view_at hs) w.lines (w.served ++ []) awake)) (sym is_kept)
              (inl (disks_by (w.served ++ []) from.after q.keepers.items from_start (inl refl) awake_same refl unused w.lines are spindles count sized each));
          unbroken = λ is v. subst (λ (hs : List History). is_broken_at hs v ≡ false) (sym is_kept)
              (unbroken_by (w.served ++ []) q.keepers.items from_start owned (subst (λ (ss : List ServedWindow). AllByRecursion WentWell ss) (sym all_windows) w.well) v);
          marks = kept.marks;
          images = kept.images;
          summary = text;
          summary_is = subst (λ (hs : List History). IsSummaryOf left config (view_at hs) start now w.lines (w.served ++ []) awake done text) (sym is_kept) (of_all done text w.all summary);
          prints = subst (λ (ss : List ServedWindow). PrintsRun done (lines_asked config options.each (answers_in ss)) text faults faults'' printed printed'') (sym all_windows)
              (prints_summed config options w.served text done faults faults' faults'' printed printed' printed'' w.prints w.calm prints);
        }
