-- The headline holds of each run.
use Rattle.replay.proofs.Basics.{◌≡◌, ◌<◌, ◌++◌, ℕ, Bool, false, List, [], ◌∷◌, length, take, refl, sym, ap, subst, ◌∙◌, Option, None, Some}
use Rattle.replay.proofs.Basics.{is_some, Result, Ok, Err, inl, inr, append-nil, arith, IsTrue, slice_get, option_map_or, Appends, true}
use Rattle.replay.proofs.Basics.{unwrap_or}
use Rattle.replay.proofs.Terms.{AppendsFront, appends_none, front_whole, BayState, Told, Block, State, AreLegalNext, IsCut, flight_of}
use Rattle.replay.proofs.Terms.{writes, in_flight, recovered_from, TraceLine, Answered, entries_of, joined_lines, answers_of, HasOneHistory}
use Rattle.replay.proofs.Terms.{IsReopened, Config, IsTold, AreLeft, images_read, shapes_of, status_of, Volume, targets_of, trouble_of}
use Rattle.replay.proofs.Terms.{VolumeFault, HasGivenAll, AreAllOpen, ArePrinted, HasFailed, HasNotBegun, KeepsHeadline, MeetsHeadline, ArePlainMarks}
use Rattle.replay.proofs.Terms.{BeginAsRead, History, answers_in, is_broken, is_broken_at, LeavesImages, AsksNone, LeavesBay, Replayed}
use Rattle.replay.proofs.Terms.{Replays, status_in, ServedWindow, PrintsRun, lines_asked, Given, Options, Stop}
use Rattle.replay.proofs.Terms.{CameBackFaulty, HasFaultyPart, IsFlightAt, PartName, Write, part_named}
use Rattle.rack.proofs.NewFaults.{told_with}
use Rattle.replay.proofs.ImagesLeft.{none_or}
use Rattle.replay.proofs.RacksServed.{a_member}
use Rattle.replay.proofs.Statuses.{not_success}
use Rattle.manager.specs.declared.part.Part.TheVariants.{Home}
use Rattle.wol_promise.specs.Policy.{HomePart, SegmentPart}
use Rattle.replay.specs.Ended as ended
use Rattle.replay.specs.Replays as replays
use Rattle.replay.specs.declared.stop.Stop.TheVariants as stop

-- ---- What is printed

all_taken : {X : Type 0} (xs : List X) → take (length xs) xs ≡ xs
all_taken [] = refl
all_taken (x ∷ xs) = ap (λ l. x ∷ l) (all_taken xs)

-- all of the lines were printed, and then this
abbrev printed_all : (lines : List (List ℕ)) (ending : List ℕ) (status : ℕ) (taken taken' : Option (List ℕ)) → Appends taken taken' (joined_lines lines ++ ending) → ArePrinted lines status taken taken'
printed_all lines ending status taken taken' is =
    let here = subst (λ (l : List (List ℕ)). Appends taken taken' (joined_lines l ++ ending)) (sym (all_taken lines)) is in
    record { count = length lines; ending = ending; all = λ not_7 not_9. all_taken lines; whole = λ not_7. here; front = front_whole taken taken' _ here }

printed_kept : {T : Type 0} (result : Result T Stop) (lines : List (List ℕ)) (summary : List ℕ) (faults faults' : ℕ) (taken taken' : Option (List ℕ)) → PrintsRun result lines summary faults faults' taken taken'
    → ArePrinted lines (status_in result) taken taken'
printed_kept (Ok done) lines summary faults faults' taken taken' (calm, is) = printed_all lines summary 0 taken taken' is
printed_kept (Err stop.Sink) lines summary faults faults' taken taken' (rose, is) =
    record { count = length lines; ending = summary; all = λ not_7 not_9. all_taken lines; whole = λ not_7. absurd (not_7 refl); front = subst (λ (l : List (List ℕ)). AppendsFront taken taken' (joined_lines l ++ summary)) (sym (all_taken lines)) is }
printed_kept (Err (stop.Fault f)) lines summary faults faults' taken taken' (calm, inl (other, is)) =
    printed_all lines [] (status_of f) taken taken' (subst (λ (l : List ℕ). Appends taken taken' l) (sym (append-nil (joined_lines lines))) is)
printed_kept (Err (stop.Fault f)) lines summary faults faults' taken taken' (calm, inr (lacked, k, is)) =
    let here = subst (λ (l : List ℕ). Appends taken taken' l) (sym (append-nil (joined_lines (take k lines)))) is in
    record { count = k; ending = []; all = λ not_7 not_9. absurd (not_9 (ap status_of lacked)); whole = λ not_7. here; front = front_whole taken taken' _ here }

-- ---- Runs over open volumes

-- what holds of what was told at both ends, three times
told_thrice : (P Q R X : Told → Told → Type 0) (a b : Option Told) → IsTold P a b → IsTold Q a b → IsTold R a b → ((o n : Told) → P o n → Q o n → R o n → X o n) → IsTold X a b
told_thrice P Q R X None b p q r all = p
told_thrice P Q R X (Some o) None p q r all = p
told_thrice P Q R X (Some o) (Some n) p q r all = all o n p q r

-- a single write was in flight
one_flying : (x : Option (List Write)) (w : Write) → unwrap_or x [] ≡ w ∷ [] → is_some x ≡ true
one_flying None w is = absurd (cc is)
one_flying (Some ws) w is = refl

-- at status 0 the trace was run to its end
pub to_the_end : {S T : Type 0} (left : S → Option (List ℕ)) (config : Config) (start now : Given S) (run : List (Option TraceLine)) (last : List ServedWindow) (bay bay' sink sink' : ℕ) (result : Result T Stop)
    → ended.EndsFor left config start now run last bay bay' sink sink' result → status_in result ≡ 0 → HasGivenAll left (targets_of config) start now run
to_the_end left config start now run last bay bay' sink sink' (Ok done) (ended.whole _ _ all) is = all
to_the_end left config start now run last bay bay' sink sink' (Err stop.Sink) ends is = absurd (cc is)
to_the_end left config start now run last bay bay' sink sink' (Err (stop.Fault f)) ends is = absurd (not_success f is)

module _ {S T : Type 0} (tells : Bool) (left : S → Option (List ℕ)) (config : Config) (options : Options) (start now : Given S) (old new : BayState) (result : Result T Stop) (sink sink' : ℕ) (taken taken' : Option (List ℕ))
    (r : Replays tells left config options start now old new result sink sink' taken taken') (telling : IsTrue tells) where
  abbrev answers : List Answered
  answers = answers_in (r.earlier ++ r.last)

  -- the history of a volume that was open
  member : (v : ℕ) → v < length (shapes_of config) → (h : History) × (slice_get r.histories v ≡ Some h)
  member v lt = a_member r.histories v (omega (arith, lt, r.are.count))

  module _ (entry exit : Told) (begun : BeginAsRead config entry r.histories) (images : LeavesImages tells config answers r.histories entry exit) (v : ℕ) (h : History) (here : slice_get r.histories v ≡ Some h) where
    abbrev opened : List Block
    opened = recovered_from (shapes_of config) (images_read config entry) v

    array : h.base.array ≡ opened
    array = (begun v h here).array ∙ ap (recovered_from (shapes_of config) (images_read config entry)) (r.are.each v h here).owner

    abbrev one_history : HasOneHistory opened (answers_of v answers)
    one_history =
        let one = r.are.each v h here in
        record {
          history = entries_of h.notes;
          legal = record { replies = subst (λ (a : List Block). AreLegalNext a (entries_of h.notes)) array (one.legal.replies telling); breaks = one.legal.breaks; helpers = one.legal.helpers };
          served = one.answered;
          first = r.are.first v;
        }

    -- a single write in flight that has no version was on its way home, which came back with a fault
    home_faulty : (w : Write) → in_flight (entries_of h.notes) ≡ w ∷ [] → w.version ≡ None → CameBackFaulty config (Home v) entry exit
    home_faulty w flight unversioned_ =
        let (name, down, way, faulty) = images.faulty v h here (one_flying (flight_of (entries_of h.notes)) w flight) in
        at name (subst (IsFlightAt (part_named v name)) flight way) faulty
      where
        at : (name : PartName) → IsFlightAt (part_named v name) (w ∷ []) → HasFaultyPart tells config v h.base.view name entry exit → CameBackFaulty config (Home v) entry exit
        at HomePart way faulty = (faulty.more, faulty.more_is, (faulty.conf, faulty.conf_is, faulty.among))
        at (SegmentPart logger index) way faulty = let no : false ≡ true = ap is_some (sym unversioned_) ∙ way.0 in absurd (cc no)

    -- where a call failed a part of the volume came back with a fault
    part_faulty : (name : PartName) → HasFaultyPart tells config v h.base.view name entry exit → HasFaultyPart true config v h.base.view name entry exit
    part_faulty HomePart faulty = record { more = faulty.more; more_is = faulty.more_is; conf = faulty.conf; conf_is = faulty.conf_is; among = faulty.among; lies = faulty.lies }
    part_faulty (SegmentPart logger index) faulty =
        record { more = faulty.more; more_is = faulty.more_is; conf = faulty.conf; conf_is = faulty.conf_is; among = faulty.among; lies = (faulty.lies.0, λ yes. faulty.lies.1 telling) }

    has_failed : IsTrue (is_broken h) → HasFailed config entry exit old.faults new.faults v
    has_failed broke =
        let (name, down, way, faulty) = images.faulty v h here broke in
        let broken : is_broken_at r.histories v ≡ is_broken h = ap (λ (o : Option History). option_map_or is_broken o false) here in
        record { rose = r.cause v (broken ∙ broke); base = h.base; owner = (r.are.each v h here).owner; begun = begun v h here; name = name; part = part_faulty name faulty }

    reopened : IsReopened (shapes_of config) (AreLeft config exit) (HasFailed config entry exit old.faults new.faults v) (CameBackFaulty config (Home v) entry exit) v opened (answers_of v answers) (entries_of h.notes)
    reopened =
        record {
          cut = λ left_ is_left. subst (λ (a : List Block). IsCut a (writes (entries_of h.notes)) (in_flight (entries_of h.notes)) (recovered_from (shapes_of config) left_ v)) array (images.stopped v h here left_ is_left);
          torn = home_faulty;
          one_action = images.action v h here;
          calm = λ none. none_or (flight_of (entries_of h.notes)) (λ some. none (has_failed some));
        }

  pub headline_kept : IsTold (λ entry exit. MeetsHeadline left config options.each start now entry exit old.faults new.faults (status_in result) taken taken') old.told new.told
  headline_kept = told_thrice (λ entry exit. AreAllOpen config entry × BeginAsRead config entry r.histories) (λ entry exit. ArePlainMarks config answers entry) (LeavesImages tells config answers r.histories)
      (λ entry exit. MeetsHeadline left config options.each start now entry exit old.faults new.faults (status_in result) taken taken') old.told new.told
      (told_with (λ entry exit. AreAllOpen config entry) (λ entry exit. BeginAsRead config entry r.histories) old.told new.told (r.open_ telling) (r.begun telling)) (r.marks telling) (r.images telling)
      (λ entry exit opened marks images. record {
        open_ = opened.0;
        lines = r.run;
        given = (r.more, r.given);
        answers = answers;
        asked = r.asked;
        done = λ is. (to_the_end left config start now r.run r.last old.faults new.faults sink sink' result r.ends is, λ v. r.counts.at_0 v is);
        headline = record {
          each_volume = λ v lt. one_history entry exit opened.1 images v (member v lt).0 (member v lt).1;
          marks = marks;
          reopens = λ v lt. reopened entry exit opened.1 images v (member v lt).0 (member v lt).1;
          sound = images.sound;
        };
        printed = printed_kept result (lines_asked config options.each answers) r.summary sink sink' taken taken' r.prints;
      })

-- ---- All runs

-- a run that ended before all volumes were open: there was no memory
pub no_memory_yet : {D S : Type 0} (tells : Bool) (state : D → State) (config : Config) (start now : Given S) (old new : BayState) (sink sink' : ℕ) (taken taken' : Option (List ℕ)) → AsksNone start now sink sink' taken taken'
    → LeavesBay tells state config old new → HasNotBegun tells state config start now old new 9 taken taken'
no_memory_yet tells state config start now old new sink sink' taken taken' asks bay = record { refused = λ is. absurd (cc is); unread = asks.unread; none = printed_all [] [] 9 taken taken' (appends_none taken taken' asks.kept); left = bay }

-- .. or a volume isn't open
pub closed_yet : {D S : Type 0} (tells : Bool) (state : D → State) (config : Config) (start now : Given S) (old new : BayState) (sink sink' : ℕ) (taken taken' : Option (List ℕ)) (k : ℕ) (f : VolumeFault) → AsksNone start now sink sink' taken taken'
    → LeavesBay tells state config old new → HasNotBegun tells state config start now old new (status_of (Volume k (trouble_of f))) taken taken'
closed_yet tells state config start now old new sink sink' taken taken' k f asks bay =
    record { refused = not_success (Volume k (trouble_of f)); unread = asks.unread; none = printed_all [] [] (status_of (Volume k (trouble_of f))) taken taken' (appends_none taken taken' asks.kept); left = bay }

pub keeps_headline : {D S T : Type 0} (tells : Bool) (state : D → State) (left : S → Option (List ℕ)) (config : Config) (options : Options) (start now : Given S) (old new : BayState) (sink sink' : ℕ) (taken taken' : Option (List ℕ)) (result : Result T Stop)
    → Replayed tells state left config options start now old new sink sink' taken taken' result → KeepsHeadline tells state left config options.each start now old new (status_in result) taken taken'
keeps_headline tells state left config options start now old new sink sink' taken taken' _ (replays.no_memory asks leaves) = inl (no_memory_yet tells state config start now old new sink sink' taken taken' asks leaves.bay)
keeps_headline tells state left config options start now old new sink sink' taken taken' _ (replays.closed k f asks first leaves) = inl (closed_yet tells state config start now old new sink sink' taken taken' k f asks leaves.bay)
keeps_headline tells state left config options start now old new sink sink' taken taken' result (replays.ran _ r) = inr (λ telling. headline_kept tells left config options start now old new result sink sink' taken taken' r telling)
