-- Where nothing stands in the way, a run comes to its end, or there is no memory.
use Rattle.std.proofs.Common.{◌≡◌, ◌≢◌, ◌⊎◌, inl, inr, ℕ, ◌+◌, ◌-◌, ◌≤◌, Bool, cond, List, [], ◌∷◌, ◌++◌, length, map, Option, None, Some, Result, Ok, Err, refl, sym, ap, subst, ◌∙◌, append_assoc, append-nil, length-append, true≢false, arith}
use Rattle.std.specs.Bool.{⊤}
use Rattle.std.specs.Prelude.{◌==◌, IsOk}
use Rattle.std.specs.List.{count_by, range_with_len}
use Rattle.std.proofs.lemmas.List.{length-map, map-append}
use Rattle.wol_promise.proofs.Woken.{range_joined}
use Rattle.std.proofs.lemmas.List.Elements.{filter-append}
use Rattle.std.proofs.lemmas.List.Sums.{sum_by-append}
use Rattle.wol_disk.specs.Disk.{Rose}
use Rattle.wol_bay.specs.Bay.{BayState}
use Rattle.wol_model.specs.Trace.{Request, Target, TraceLine, requests, requests_of, is_write}
use Rattle.wol_promise.specs.Manager.{Base}
use Rattle.wol_promise.specs.Outcomes.{of_volume}
use Rattle.wol_config.specs.declared.config.Config.{Config}
use Rattle.msr_trace.specs.Reading.{Reading, pending}
use Rattle.msr_trace.specs.declared.format.BadLine.{BadLine}
use Rattle.msr_trace.specs.declared.format.TraceFault.{TraceFault}
use Rattle.msr_trace.specs.declared.format.TraceFault.TheVariants as trace
use Rattle.command_words.specs.declared.command.Generated.{Generated as Asked}
use Rattle.report.specs.Faults.{fault_text, status_of}
use Rattle.report.specs.declared.fault.Fault.{Fault}
use Rattle.report.specs.declared.fault.Fault.TheVariants as fault
use Rattle.report.specs.declared.trouble.Trouble.{Trouble}
use Rattle.solo.specs.Requests.{HasLines, HasLinesBefore, LineRead, lines_read}
use Rattle.trace_gen.specs.Generated.{Generator, line, targets_of}
use Rattle.trace_windows.proofs.Counting.{requests_blank, requests_more}
use Rattle.comparison.specs.Compares.{MayCompare}
use Rattle.replay.specs.Givens.{HasGiven, IsWithin, Refuses}
use Rattle.replay.specs.Completes.{Completes, MayComplete, writes_to}
use Rattle.replay.specs.declared.given.Given.{Given}
use Rattle.replay.specs.declared.given.Given.TheVariants.{Generated, Trace}
use Rattle.replay.specs.declared.stop.Stop.{Stop}
use Rattle.replay.specs.declared.stop.Stop.TheVariants as stop
use Rattle.inspection.specs.Runs as look
use Rattle.inspection.specs.declared.calls.Stop.{Stop as LookStop}
use Rattle.inspection.specs.declared.calls.Stop.TheVariants as look_stop
use Rattle.wol_run.specs.Completing.{HasSoundImages, HasVersions, HaveVersions, IsGoodTrace, seed_lines}
use Rattle.wol_run.specs.Inspecting.{status_of_first}
use Rattle.wol_run.specs.Settings.{HasConfig, IsConfigured, IsUnread, line_of_fault}
use Rattle.wol_run.specs.Tops.{EndsWith, IsDoneOrMemory, TellsNoMemory}
use Rattle.wol_run.proofs.Complete.{no_both}
use Rattle.wol_run.proofs.Unread.{ends_unread, line_unread, wanted_or_sink}
use Rattle.wol_config.specs.Configs.{most_of}

-- ---- Counts

-- a count that rose has risen later too
pub rose_later : (a b c : ℕ) → Rose a b → b ≤ c → Rose a c
rose_later a b c (inl less) on = inl (omega (arith, less, on))
rose_later a b c (inr most) on = inr (omega (arith, most, on))

pub rose_from : (a b c : ℕ) → a ≤ b → Rose b c → Rose a c
rose_from a b c on (inl less) = inl (omega (arith, less, on))
rose_from a b c on (inr most) = inr most

-- ---- A configuration

-- where there is a configuration and its source didn't fail, it isn't had for want of memory alone
pub complete_unread : (left : Option (List ℕ)) (faults faults' status : ℕ) (printed new : Option (List ℕ)) (e : Fault) → IsUnread e left faults faults' → IsConfigured left → ¬ Rose faults faults' → (status ≡ 7 → ⊥)
    → EndsWith (line_of_fault e) (status_of e) status printed new ⊎ TellsNoMemory status printed new → IsDoneOrMemory status
complete_unread left faults faults' status printed new e cause is calm whole (inr ends) = elim (wanted_or_sink _ 9 status printed new ends) [
  | inl nine ↦ inr nine
  | inr seven ↦ absurd (whole seven)
]
complete_unread left faults faults' status printed new e cause is calm whole (inl ends) = elim (wanted_or_sink _ (status_of e) status printed new ends) [
  | inr seven ↦ absurd (whole seven)
  | inl same ↦ elim (ends_unread left faults faults' (line_of_fault e) (status_of e) (line_unread e left faults faults' cause)) [
    | inl (two, none_had) ↦ absurd (no_both left is none_had)
    | inr (inl (eight, rose)) ↦ absurd (calm rose)
    | inr (inr nine) ↦ inr (same ∙ nine)
  ]
]

-- ---- Volumes that are looked at

module _ (tells : Bool) (left : Option (List ℕ)) (config : Config) (has : HasConfig left config) (old new : BayState) (sink sink' : ℕ) where
  unfoldable pub may_look : HasSoundImages tells left old → ¬ Rose old.faults new.faults → ¬ Rose sink sink' → look.MayComplete tells config old new sink sink'
  may_look is bay_calm sink_calm =
      record { telling = is.telling; entry = is.entry; entry_is = is.entry_is; sound = is.sound config has; bay_calm = bay_calm; sink_calm = sink_calm }

abbrev IsWhole : Result (Option Trouble) LookStop → Type 0
IsWhole (Ok None) = ⊤
IsWhole (Ok (Some t)) = ⊥
IsWhole (Err e) = ⊥

abbrev IsCut : Result (Option Trouble) LookStop → Type 0
IsCut (Ok first) = ⊥
IsCut (Err look_stop.Sink) = ⊥
IsCut (Err look_stop.Memory) = ⊤

pub look_whole_done : (first : Option Trouble) → look.Completes (Ok first) → status_of_first first ≡ 0
look_whole_done None done = refl
look_whole_done (Some t) (inl same) = absurd (subst IsWhole (sym same) tt)
look_whole_done (Some t) (inr same) = absurd (subst IsCut (sym same) tt)

pub look_not_sink : (e : LookStop) → e ≡ look_stop.Sink → look.Completes (Err e) → ⊥
look_not_sink e is (inl same) = subst IsWhole (sym same) tt
look_not_sink e is (inr same) = subst (λ (x : LookStop). IsCut (Err x)) is (subst IsCut (sym same) tt)

-- ---- Traces that are replayed

writes_joined : (v : ℕ) (xs ys : List Request) → writes_to v (xs ++ ys) ≡ writes_to v xs + writes_to v ys
writes_joined v xs ys =
    ap (count_by (λ (r : Request). is_write r.kind)) (filter-append (λ (r : Request). r.volume == v) xs ys)
    ∙ sum_by-append (λ (r : Request). cond (is_write r.kind) 1 0) (of_volume v xs) (of_volume v ys)

module _ (most : ℕ) (targets : List Target) (v : ℕ) where
  -- a front of the lines has no more writes
  pub front_few : (ls rest : List (Option TraceLine)) → writes_to v (requests most targets ls) ≤ writes_to v (requests most targets (ls ++ rest))
  front_few ls [] = rw (append-nil ls) (omega arith)
  front_few ls (None ∷ rest) =
      let on = front_few (ls ++ None ∷ []) rest in
      rw (requests_blank most targets ls, append_assoc ls (None ∷ []) rest) at on
  front_few ls (Some l ∷ rest) =
      let on = rw (append_assoc ls (Some l ∷ []) rest) at (front_few (ls ++ Some l ∷ []) rest) in
      let more = ap (writes_to v) (requests_more most targets ls l) ∙ writes_joined v (requests most targets ls) (requests_of most targets (length ls + 1) l) in
      omega (arith, on, more)

abbrev IsGood : LineRead → Type 0
IsGood (Ok l) = ⊤
IsGood (Err e) = ⊥

none_more : (x : LineRead) (xs : List LineRead) → [] ≡ x ∷ xs → ⊥
none_more x xs is = let no : [] ≡ x ∷ xs = is in cc

first_is : (x y : LineRead) (xs ys : List LineRead) → x ∷ xs ≡ y ∷ ys → x ≡ y
first_is x y xs ys is = cc

rest_is : (x y : LineRead) (xs ys : List LineRead) → x ∷ xs ≡ y ∷ ys → xs ≡ ys
rest_is x y xs ys is = cc

line_in : Option TraceLine → LineRead → Option TraceLine
line_in other (Ok l) = l
line_in other (Err e) = other

same_line : (l x : Option TraceLine) (a b : LineRead) → a ≡ b → a ≡ Ok l → b ≡ Ok x → l ≡ x
unfolding line_in
same_line l x a b is left right = ap (line_in l) (sym left ∙ is ∙ right)

-- lines that were all read well have no bad one behind
all_well : (ls rs : List (Option TraceLine)) (e : BadLine) (more : List LineRead) → map Ok ls ++ [] ≡ map Ok rs ++ (Err e ∷ more) → ⊥
all_well [] [] e more is = absurd (none_more (Err e) more is)
all_well [] (r ∷ rs) e more is = absurd (none_more (Ok r) (map Ok rs ++ (Err e ∷ more)) is)
all_well (l ∷ ls) [] e more is = subst IsGood (first_is (Ok l) (Err e) (map Ok ls ++ []) more is) tt
all_well (l ∷ ls) (r ∷ rs) e more is = all_well ls rs e more (rest_is (Ok l) (Ok r) (map Ok ls ++ []) (map Ok rs ++ (Err e ∷ more)) is)

front_of : (ls xs : List (Option TraceLine)) (more : List LineRead) → map Ok ls ++ [] ≡ map Ok xs ++ more → (rest : List (Option TraceLine)) × (ls ≡ xs ++ rest)
front_of ls [] more is = (ls, refl)
front_of [] (x ∷ xs) more is = absurd (none_more (Ok x) (map Ok xs ++ more) is)
front_of (l ∷ ls) (x ∷ xs) more is =
    let on = front_of ls xs more (rest_is (Ok l) (Ok x) (map Ok ls ++ []) (map Ok xs ++ more) is) in
    let same = same_line l x (Ok l) (Ok x) (first_is (Ok l) (Ok x) (map Ok ls ++ []) (map Ok xs ++ more) is) refl refl in
    (on.0, ap (λ (y : Option TraceLine). y ∷ ls) same ∙ ap (λ (ys : List (Option TraceLine)). x ∷ ys) on.1)

abbrev read_well : Option TraceLine → LineRead
read_well l = Ok l

-- as many lines as there are, and one more, are too many
too_many : (ls xs : List (Option TraceLine)) (next : LineRead) (more : List LineRead) → map Ok ls ++ [] ≡ map Ok xs ++ (next ∷ more) → length ls ≡ length xs + 1 + length more
too_many ls xs next more is =
    let one : length (map read_well ls ++ []) ≡ length ls = length-append (map read_well ls) [] ∙ ap (λ n. n + 0) (length-map ls read_well) ∙ (omega arith) in
    let other : length (map read_well xs ++ (next ∷ more)) ≡ length xs + length (next ∷ more) = length-append (map read_well xs) (next ∷ more) ∙ ap (λ n. n + length (next ∷ more)) (length-map xs read_well) in
    let tail : length (next ∷ more) ≡ length more + 1 = omega arith in
    let same : length (map read_well ls ++ []) ≡ length (map read_well xs ++ (next ∷ more)) = ap length is in
    omega (arith, one, other, same, tail)

-- versions that suffice for lines do for a front of them
versions_of : (config : Config) (b : Base) (lines run more rest : List (Option TraceLine)) → HasVersions config b lines → lines ≡ (run ++ more) ++ rest → HasVersions config b run
versions_of config b lines run more rest all same =
    let few = front_few (most_of config) (targets_of config) b.owner run (more ++ rest) in
    let split : lines ≡ run ++ (more ++ rest) = same ∙ append_assoc run more rest in
    let whole : HasVersions config b (run ++ (more ++ rest)) = subst (HasVersions config b) split all in
    omega (arith, whole, few)

-- nothing stands in the way of a run of some first of these lines
may_run : {S : Type 0} (tells : Bool) (left : S → Option (List ℕ)) (config : Config) (bytes : Option (List ℕ)) → HasConfig bytes config → (start now : Given S) (old new : BayState) (sink sink' source source' : ℕ) (is : HasSoundImages tells bytes old)
    → ¬ Rose old.faults new.faults → ¬ Rose sink sink' → ¬ Rose source source' → ((number : ℕ) (why : BadLine) (ls : List (Option TraceLine)) → Refuses left (trace.Bad number why) start now ls → ⊥)
    → ((ls : List (Option TraceLine)) → Refuses left trace.Spent start now ls → ⊥) → (lines : Config → List (Option TraceLine)) → HaveVersions bytes is.entry lines
    → ((ls : List (Option TraceLine)) → HasGiven left (targets_of config) start now ls → (rest : List (Option TraceLine)) × (lines config ≡ ls ++ rest)) → MayComplete tells left config start now old new sink sink' source source'
may_run tells left config bytes has start now old new sink sink' source source' is bay_calm sink_calm source_calm spelled few lines versions front = record {
  opens = record {
    telling = is.telling;
    entry = is.entry;
    entry_is = is.entry_is;
    sound = is.sound config has;
    bay_calm = bay_calm;
    sink_calm = sink_calm;
  };
  gives = record { source_calm = source_calm; spelled = spelled; few = few };
  versions = λ b begun run more given.
      let first = front (run ++ more) given in
      versions_of config b (lines config) run more first.0 (versions config has b begun) first.1;
}

module _ {S : Type 0} (left : S → Option (List ℕ)) (config : Config) (lines : List (Option TraceLine)) (r q : Reading S) where
  module _ (none_held : r.held ≡ []) (none_given : r.given ≡ 0) (good : IsGoodTrace (left r.source) lines) where
    is_pending : pending left r ≡ Some good.bytes
    is_pending = rw (none_held, good.told) refl

    lines_of_bytes : lines_read good.bytes ≡ map Ok lines ++ []
    lines_of_bytes = subst (λ (o : Option (List ℕ)). HasLines o lines []) good.told good.all

    given_front : (o : Option (List ℕ)) (ls : List (Option TraceLine)) → HasLinesBefore (pending left r) ls o → (rest : List (Option TraceLine)) × (lines ≡ ls ++ rest)
    given_front None ls before = absurd (subst (λ (p : Option (List ℕ)). HasLinesBefore p ls None) is_pending before)
    given_front (Some l) ls before = front_of lines ls (lines_read l) (sym lines_of_bytes ∙ subst (λ (p : Option (List ℕ)). HasLinesBefore p ls (Some l)) is_pending before)

    none_bad : (number : ℕ) (why : BadLine) (ls : List (Option TraceLine)) → Refuses left (trace.Bad number why) (Trace r) (Trace q) ls → ⊥
    none_bad number why ls bad = all_well lines ls why bad.0 (sym lines_of_bytes ∙ subst (λ (p : Option (List ℕ)). HasLines p ls (Err why ∷ bad.0)) is_pending bad.1)

    not_spent : (ls : List (Option TraceLine)) → Refuses left trace.Spent (Trace r) (Trace q) ls → ⊥
    not_spent ls spent =
        let many = too_many lines ls spent.0 spent.1 (sym lines_of_bytes ∙ subst (λ (p : Option (List ℕ)). HasLines p ls (spent.0 ∷ spent.1)) is_pending spent.2) in
        let count = spent.3 in
        let most = good.few in
        omega (arith, many, count, none_given, most)

    module _ (sink sink' source source' : ℕ) (sink_calm : ¬ Rose sink sink') (source_calm : ¬ Rose source source') where
      pub may_compare : MayCompare left (Trace r) (Trace q) sink sink' source source'
      may_compare = record { sink_calm = sink_calm; gives = record { source_calm = source_calm; spelled = none_bad; few = not_spent } }

      pub may_replay : (tells : Bool) (bytes : Option (List ℕ)) → HasConfig bytes config → (old new : BayState) (is : HasSoundImages tells bytes old) → HaveVersions bytes is.entry (λ c. lines) → ¬ Rose old.faults new.faults
          → MayComplete tells left config (Trace r) (Trace q) old new sink sink' source source'
      may_replay tells bytes has old new is versions bay_calm =
          may_run tells left config bytes has (Trace r) (Trace q) old new sink sink' source source' is bay_calm sink_calm source_calm none_bad not_spent (λ c. lines) versions (λ ls given. given_front (pending left q) ls given.0)

-- ---- Seeds

abbrev IsBad : TraceFault → Type 0
IsBad trace.Source = ⊥
IsBad (trace.Bad number why) = ⊤
IsBad trace.Spent = ⊥
IsBad trace.NoMemory = ⊥

abbrev IsSpent : TraceFault → Type 0
IsSpent trace.Source = ⊥
IsSpent (trace.Bad number why) = ⊥
IsSpent trace.Spent = ⊤
IsSpent trace.NoMemory = ⊥

none_of_seed : {S : Type 0} (left : S → Option (List ℕ)) (g : Generator) (n : ℕ) (now : Given S) (ls : List (Option TraceLine)) (refusal : TraceFault) → refusal ≢ trace.NoMemory → Refuses left refusal (Generated g n) now ls → ⊥
none_of_seed left g n (Trace q) ls refusal other refuses = refuses
none_of_seed left g n (Generated k m) ls refusal other refuses = other refuses

module _ {S : Type 0} (left : S → Option (List ℕ)) (config : Config) (asked : Asked) where
  abbrev nth_line : ℕ → Option TraceLine
  nth_line k = Some (line (targets_of config) asked.seed k)

  given_of_seed : (now : Given S) (ls : List (Option TraceLine)) → IsWithin now → HasGiven left (targets_of config) (Generated (record { seed = asked.seed; given = 0 }) asked.lines) now ls
      → (rest : List (Option TraceLine)) × (seed_lines asked config ≡ ls ++ rest)
  given_of_seed (Trace q) ls within given = absurd given
  given_of_seed (Generated k m) ls within (same_count, same_generator, are) =
      let count : k.given ≡ 0 + length ls = ap (λ (g : Generator). g.given) same_generator in
      let few : length ls ≤ asked.lines = omega (arith, within, same_count, count) in
      let split : asked.lines ≡ length ls + (asked.lines - length ls) = omega (arith, few) in
      let rest = map nth_line (range_with_len (0 + length ls) (asked.lines - length ls)) in
      let both : range_with_len 0 asked.lines ≡ range_with_len 0 (length ls) ++ range_with_len (0 + length ls) (asked.lines - length ls) = ap (range_with_len 0) split ∙ range_joined 0 (length ls) (asked.lines - length ls) in
      (rest, ap (map nth_line) both ∙ map-append nth_line (range_with_len 0 (length ls)) (range_with_len (0 + length ls) (asked.lines - length ls)) ∙ ap (λ (xs : List (Option TraceLine)). xs ++ rest) (sym are))

pub may_soak : {S : Type 0} (tells : Bool) (left : S → Option (List ℕ)) (config : Config) (bytes : Option (List ℕ)) → HasConfig bytes config → (asked : Asked) (now : Given S) (old new : BayState) (sink sink' source source' : ℕ)
    → ¬ Rose source source' → IsWithin now → (is : HasSoundImages tells bytes old) → HaveVersions bytes is.entry (seed_lines asked) → ¬ Rose old.faults new.faults → ¬ Rose sink sink'
    → MayComplete tells left config (Generated (record { seed = asked.seed; given = 0 }) asked.lines) now old new sink sink' source source'
may_soak tells left config bytes has asked now old new sink sink' source source' source_calm within is versions bay_calm sink_calm =
    may_run tells left config bytes has (Generated (record { seed = asked.seed; given = 0 }) asked.lines) now old new sink sink' source source' is bay_calm sink_calm source_calm
    (λ number why ls bad. none_of_seed left (record { seed = asked.seed; given = 0 }) asked.lines now ls (trace.Bad number why) (λ same. subst IsBad same tt) bad)
    (λ ls spent. none_of_seed left (record { seed = asked.seed; given = 0 }) asked.lines now ls trace.Spent (λ same. subst IsSpent same tt) spent)
    (seed_lines asked) versions (λ ls given. given_of_seed left config asked now ls within given)

-- ---- Ends of replays

-- it ended for want of memory
abbrev IsForMemory : {T : Type 0} → Result T Stop → Type 0
IsForMemory (Ok done) = ⊥
IsForMemory (Err stop.Sink) = ⊥
IsForMemory (Err (stop.Fault f)) = f ≡ fault.Memory

for_memory : {T : Type 0} (r : Result T Stop) → IsOk r ⊎ (r ≡ Err (stop.Fault fault.Memory)) → IsOk r ⊎ IsForMemory r
for_memory r (inl done) = inl done
for_memory r (inr same) = inr (subst IsForMemory (sym same) refl)

pub replay_not_sink : {T : Type 0} (r : Result T Stop) (e : Stop) → r ≡ Err e → e ≡ stop.Sink → Completes r → ⊥
replay_not_sink {T = T} r e err is done = elim (for_memory r done) [
  | inl ok ↦ absurd (true≢false (sym (subst IsOk err ok)))
  | inr memory ↦ subst (λ (x : Stop). IsForMemory {T = T} (Err x)) is (subst IsForMemory err memory)
]

pub replay_memory : {T : Type 0} (r : Result T Stop) (e : Stop) (f : Fault) → r ≡ Err e → e ≡ stop.Fault f → Completes r → f ≡ fault.Memory
replay_memory {T = T} r e f err is done = elim (for_memory r done) [
  | inl ok ↦ absurd (true≢false (sym (subst IsOk err ok)))
  | inr memory ↦ subst (λ (x : Stop). IsForMemory {T = T} (Err x)) is (subst IsForMemory err memory)
]

-- the line of want of memory
pub told_memory : (names : List (List ℕ)) (f : Fault) (status : ℕ) (printed new : Option (List ℕ)) → f ≡ fault.Memory → (status ≡ 7 → ⊥)
    → EndsWith (fault_text names f) (status_of f) status printed new ⊎ TellsNoMemory status printed new → IsDoneOrMemory status
told_memory names f status printed new is whole (inl ends) = elim (wanted_or_sink _ (status_of f) status printed new ends) [
  | inl same ↦ inr (same ∙ ap status_of is)
  | inr seven ↦ absurd (whole seven)
]
told_memory names f status printed new is whole (inr ends) = elim (wanted_or_sink _ 9 status printed new ends) [
  | inl nine ↦ inr nine
  | inr seven ↦ absurd (whole seven)
]

-- a sink that didn't fail in all hadn't failed before
pub earlier_calm : {S : Type 0} (tells : Bool) (left : S → Option (List ℕ)) (config : Config) (start now : Given S) (old new : BayState) (sink sink' later source source' : ℕ) → sink' ≤ later
    → MayComplete tells left config start now old new sink later source source' → MayComplete tells left config start now old new sink sink' source source'
earlier_calm tells left config start now old new sink sink' later source source' on is = record {
  opens = record {
    telling = is.telling;
    entry = is.entry;
    entry_is = is.entry_is;
    sound = is.sound;
    bay_calm = is.bay_calm;
    sink_calm = λ rose. is.sink_calm (rose_later sink sink' later rose on);
  };
  gives = is.gives;
  versions = is.versions;
}

pub earlier_compared : {S : Type 0} (left : S → Option (List ℕ)) (start now : Given S) (sink sink' later source source' : ℕ) → sink' ≤ later
    → MayCompare left start now sink later source source' → MayCompare left start now sink sink' source source'
earlier_compared left start now sink sink' later source source' on is = record {
  sink_calm = λ rose. is.sink_calm (rose_later sink sink' later rose on);
  gives = is.gives;
}
