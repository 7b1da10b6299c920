-- The headline holds of the program's runs, by the text and the status that end them.
use Rattle.std.proofs.Common.{◌≡◌, ◌≢◌, ◌++◌, ℕ, Bool, List, [], take, Option, None, Some, Result, Ok, Err, inl, inr, refl, sym, subst, ◌∙◌, append_assoc, arith}
use Rattle.std.specs.Io.KnownBytes.{Appends}
use Rattle.wol_io.specs.Streams.{AppendsFront}
use Rattle.wol_io.proofs.Appending.{appends_both, front_last, front_whole}
use Rattle.wol_disk.specs.Disk.{State}
use Rattle.wol_bay.specs.Bay.{BayState, Told}
use Rattle.wol_promise.specs.Run.{joined_lines}
use Rattle.wol_config.specs.declared.config.Config.{Config}
use Rattle.report.specs.Faults.{status_of}
use Rattle.volume_images.specs.Left.{IsTold}
use Rattle.replay.specs.Headlined.{ArePrinted, HasNotBegun, KeepsHeadline, MeetsHeadline}
use Rattle.replay.specs.Replays.{status_in}
use Rattle.replay.specs.declared.given.Given.{Given}
use Rattle.replay.specs.declared.session.Options.{Options}
use Rattle.replay.specs.declared.stop.Stop.{Stop}
use Rattle.replay.specs.declared.stop.Stop.TheVariants as stop
use Rattle.replay.proofs.HeadlineKept.{keeps_headline}
use Rattle.replay.proofs.Statuses.{not_sink, not_success}
use Rattle.wol_run.specs.Replaying.{EndsReplay, GivenLines, IsReplay, RunsKept, RunsReplay}
use Rattle.wol_run.specs.Tops.{EndsWith}

-- ---- What is printed, and then the line of a fault

-- behind these lines a text was written, or a front of it
then_text : (lines : List (List ℕ)) (before wanted status : ℕ) (text : List ℕ) (taken then taken' : Option (List ℕ)) → before ≢ 7 → (wanted ≢ 7 → wanted ≢ 9 → before ≡ wanted)
    → ArePrinted lines before taken then → EndsWith text wanted status then taken' → ArePrinted lines status taken taken'
then_text lines before wanted status text taken then taken' not_7 same printed (inl (is, more)) =
    let whole = appends_both taken then taken' _ text (printed.whole not_7) more in
    let here = subst (λ (l : List ℕ). Appends taken taken' l) (append_assoc (joined_lines (take printed.count lines)) printed.ending text) whole in
    record {
      count = printed.count;
      ending = printed.ending ++ text;
      all = λ no_7 no_9. printed.all not_7 (λ nine. no_9 (is ∙ sym (same (λ seven. no_7 (is ∙ seven)) (λ w. no_9 (is ∙ w))) ∙ nine));
      whole = λ _. here;
      front = front_whole taken taken' _ here;
    }
then_text lines before wanted status text taken then taken' not_7 same printed (inr (seven, more)) =
    record {
      count = printed.count;
      ending = printed.ending ++ text;
      all = λ no_7 no_9. absurd (no_7 seven);
      whole = λ no_7. absurd (no_7 seven);
      front = subst (λ (l : List ℕ). AppendsFront taken taken' l) (append_assoc (joined_lines (take printed.count lines)) printed.ending text) (front_last taken then taken' _ text (printed.whole not_7) more);
    }

same_printed : (lines : List (List ℕ)) (before status : ℕ) (taken then taken' : Option (List ℕ)) → status ≡ before → taken' ≡ then → ArePrinted lines before taken then → ArePrinted lines status taken taken'
same_printed lines before status taken then taken' is same printed = subst (λ (t : Option (List ℕ)). ArePrinted lines status taken t) (sym same) (subst (λ (n : ℕ). ArePrinted lines n taken then) (sym is) printed)

printed_ends : {T : Type 0} (config : Config) (result : Result T Stop) (lines : List (List ℕ)) (status : ℕ) (taken then taken' : Option (List ℕ)) → ArePrinted lines (status_in result) taken then → EndsReplay config result status then taken' → ArePrinted lines status taken taken'
printed_ends config (Ok done) lines status taken then taken' printed (is, same) = same_printed lines 0 status taken then taken' is same printed
printed_ends config (Err stop.Sink) lines status taken then taken' printed (is, same) = same_printed lines 7 status taken then taken' is same printed
printed_ends config (Err (stop.Fault f)) lines status taken then taken' printed (inl ends) = then_text lines (status_of f) (status_of f) status _ taken then taken' (not_sink f) (λ a b. refl) printed ends
printed_ends config (Err (stop.Fault f)) lines status taken then taken' printed (inr ends) = then_text lines (status_of f) 9 status _ taken then taken' (not_sink f) (λ a b. absurd (b refl)) printed ends

-- ---- The status

-- status 0 is that of a run that was done
pub of_success : {T : Type 0} (config : Config) (result : Result T Stop) (status : ℕ) (then taken' : Option (List ℕ)) → EndsReplay config result status then taken' → status ≡ 0 → status_in result ≡ 0
of_success config (Ok done) status then taken' ends zero_is = refl
of_success config (Err stop.Sink) status then taken' (is, same) zero_is = absurd (omega (arith, is, zero_is))
of_success config (Err (stop.Fault f)) status then taken' (inl (inl (is, more))) zero_is = sym is ∙ zero_is
of_success config (Err (stop.Fault f)) status then taken' (inl (inr (is, more))) zero_is = absurd (omega (arith, is, zero_is))
of_success config (Err (stop.Fault f)) status then taken' (inr (inl (is, more))) zero_is = absurd (omega (arith, is, zero_is))
of_success config (Err (stop.Fault f)) status then taken' (inr (inr (is, more))) zero_is = absurd (omega (arith, is, zero_is))

-- a status that isn't the sink's or that of want of memory is that of the run
pub same_status : {T : Type 0} (config : Config) (result : Result T Stop) (status : ℕ) (then taken' : Option (List ℕ)) → EndsReplay config result status then taken' → status ≢ 7 → status ≢ 9 → status ≡ status_in result
same_status config (Ok done) status then taken' (is, same) not_7 not_9 = is
same_status config (Err stop.Sink) status then taken' (is, same) not_7 not_9 = is
same_status config (Err (stop.Fault f)) status then taken' (inl (inl (is, more))) not_7 not_9 = is
same_status config (Err (stop.Fault f)) status then taken' (inl (inr (is, more))) not_7 not_9 = absurd (not_7 is)
same_status config (Err (stop.Fault f)) status then taken' (inr (inl (is, more))) not_7 not_9 = absurd (not_9 is)
same_status config (Err (stop.Fault f)) status then taken' (inr (inr (is, more))) not_7 not_9 = absurd (not_7 is)

-- behind such a run nothing more was written
pub same_taken : {T : Type 0} (config : Config) (result : Result T Stop) (status : ℕ) (taken then taken' : Option (List ℕ)) (text : List ℕ) → EndsReplay config result status then taken' → status ≡ 0 → Appends taken then text → Appends taken taken' text
same_taken config (Ok done) status taken then taken' text (is, same) zero_is appends = subst (λ (t : Option (List ℕ)). Appends taken t text) (sym same) appends
same_taken config (Err stop.Sink) status taken then taken' text (is, same) zero_is appends = absurd (omega (arith, is, zero_is))
same_taken {T} config (Err (stop.Fault f)) status taken then taken' text ends zero_is appends = absurd (not_success f (of_success {T = T} config (Err (stop.Fault f)) status then taken' ends zero_is))

-- what is told of the lines that were run is told of the program
pub on_told : (P Q : Told → Told → Type 0) (a b : Option Told) → IsTold P a b → ((o n : Told) → P o n → Q o n) → IsTold Q a b
on_told P Q None b p all = p
on_told P Q (Some o) None p all = p
on_told P Q (Some o) (Some n) p all = all o n p

-- a run that ended before all volumes were open
pub not_begun_ends : {D S T : Type 0} (tells : Bool) (state : D → State) (config : Config) (start now : Given S) (old new : BayState) (result : Result T Stop) (status : ℕ) (taken then taken' : Option (List ℕ))
    → HasNotBegun tells state config start now old new (status_in result) taken then → EndsReplay config result status then taken' → HasNotBegun tells state config start now old new status taken taken'
not_begun_ends tells state config start now old new result status taken then taken' none ends =
    record { refused = λ zero_is. none.refused (of_success config result status then taken' ends zero_is); unread = none.unread; none = printed_ends config result [] status taken then taken' none.none ends; left = none.left }

keeps_ends : {D S T : Type 0} (tells : Bool) (state : D → State) (left : S → Option (List ℕ)) (config : Config) (each : Bool) (start now : Given S) (old new : BayState) (result : Result T Stop) (status : ℕ) (taken then taken' : Option (List ℕ))
    → KeepsHeadline tells state left config each start now old new (status_in result) taken then → EndsReplay config result status then taken' → KeepsHeadline tells state left config each start now old new status taken taken'
keeps_ends tells state left config each start now old new result status taken then taken' (inl none) ends = inl (not_begun_ends tells state config start now old new result status taken then taken' none ends)
keeps_ends tells state left config each start now old new result status taken then taken' (inr keeps) ends = inr (λ telling. on_told
    (λ entry exit. MeetsHeadline left config each start now entry exit old.faults new.faults (status_in result) taken then) (λ entry exit. MeetsHeadline left config each start now entry exit old.faults new.faults status taken taken') old.told new.told (keeps telling)
    (λ entry exit h. record {
      open_ = h.open_;
      lines = h.lines;
      given = h.given;
      answers = h.answers;
      asked = h.asked;
      done = λ zero_is. h.done (of_success config result status then taken' ends zero_is);
      headline = h.headline;
      printed = printed_ends config result _ status taken then taken' h.printed ends;
    }))

-- what is kept of each run over a configuration that was had
pub runs_kept : {D : Type 0} (tells : Bool) (state : D → State) (options : Options) (start : GivenLines) (left : Option (List ℕ)) (faults faults' : ℕ) (left_of_trace : Option (List ℕ)) (old new : BayState) (sink sink' status : ℕ) (taken taken' : Option (List ℕ))
    → (Keeps : Config → GivenLines → Type 0) → ((config : Config) (run : IsReplay tells state options config start left_of_trace old new sink sink' status taken taken') → Keeps config run.now)
    → (read : Option Config) → RunsReplay tells state options read start left faults faults' left_of_trace old new sink sink' status taken taken' → RunsKept Keeps read start left faults faults' left_of_trace old new status taken taken'
runs_kept tells state options start left faults faults' left_of_trace old new sink sink' status taken taken' Keeps keeps (Some config) run = record { now = run.now; rest = run.rest; keeps = keeps config run }
runs_kept tells state options start left faults faults' left_of_trace old new sink sink' status taken taken' Keeps keeps None unread = unread

pub headline_kept : {D : Type 0} (tells : Bool) (state : D → State) (options : Options) (config : Config) (start : GivenLines) (left_of_trace : Option (List ℕ)) (old new : BayState) (sink sink' status : ℕ) (taken taken' : Option (List ℕ))
    → (run : IsReplay tells state options config start left_of_trace old new sink sink' status taken taken') → KeepsHeadline tells state (λ bytes. bytes) config options.each start run.now old new status taken taken'
headline_kept tells state options config start left_of_trace old new sink sink' status taken taken' run = keeps_ends tells state (λ bytes. bytes) config options.each start run.now old new run.over.result status taken run.over.printed_then taken'
    (keeps_headline tells state (λ bytes. bytes) config options start run.now old new sink run.over.sink_then taken run.over.printed_then run.over.result run.replayed) run.over.ends
