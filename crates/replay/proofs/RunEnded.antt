-- Why a run over open volumes ended, and what the sink took.
use Rattle.replay.proofs.Basics.{◌≡◌, ◌≢◌, ◌++◌, ◌⊎◌, ◌+◌, ℕ, Bool, List, [], ◌∷◌, length, take, refl, sym, ap, subst, ◌∙◌, Option, Some}
use Rattle.replay.proofs.Basics.{Result, Ok, Err, inl, inr, append-nil, Appends, Keeps, flat_map-append, take-append-add, take-length}
use Rattle.replay.proofs.Terms.{Rose, AppendsFront, appends_both, appends_kept, front_last, TraceLine, joined_lines, Config, Fault, Memory}
use Rattle.replay.proofs.Terms.{Versions, SpindlePass, Floor, targets_of, fault_of_window, EndsFor, HasRefusedWrite, IsPartFault, memory}
use Rattle.replay.proofs.Terms.{no_line, refused, sink_failed, HasGivenAll, answers_in, CutsLines, PrintsText, ServedWindow, EndsBy}
use Rattle.replay.proofs.Terms.{lines_of_window, lines_of_windows, fault_of_trace, PrintsRun, lines_asked, Given, Options, Stop}
use Rattle.replay.specs.Ended.{whole}
use Rattle.replay.proofs.LinesTold.{lines_told}
use Rattle.replay.specs.declared.stop.Stop.TheVariants as stop

-- ---- Why it ended

-- a fault of a part in the window that was served last comes with a higher count of the bay, and versions end at a write
abbrev pub TellsRise : (last : List ServedWindow) → (bay bay' : ℕ) → Type 0
TellsRise last bay bay' = (f : Fault) (s : ServedWindow) → last ≡ s ∷ [] → fault_of_window s.batch.requests s.answer ≡ Some f → (IsPartFault f → Rose bay bay') × ((v : ℕ) → f ≡ Versions v → HasRefusedWrite v s)

module _ {D S : Type 0} (T : Type 0) (tells : Bool) (left : S → Option (List ℕ)) (config : Config) (options : Options) (start now : Given S) where
  pub ends_stopped : (e : Stop) (run more : List (Option TraceLine)) (last : List ServedWindow) (h : Floor D) (ms : List SpindlePass) (g : Floor D) (qs : List SpindlePass) (faults faults' : ℕ) (printed new : Option (List ℕ)) (bay bay' : ℕ)
      → EndsBy tells left config options start e now run more last h ms g qs faults faults' printed new → TellsRise last bay bay' → EndsFor left config start now run last bay bay' faults faults' {T = T} (Err e)
  ends_stopped e run more [] h ms g qs faults faults' printed new bay bay' (calm, keeps, inl (refusal, other, is, none_more, refuses, floor, passes)) rises =
      subst (λ (x : Stop). EndsFor left config start now run [] bay bay' faults faults' {T = T} (Err x)) (sym is) (no_line refusal other refl refuses)
  ends_stopped e run more [] h ms g qs faults faults' printed new bay bay' (calm, keeps, inr (is, not_run)) rises =
      subst (λ (x : Stop). EndsFor left config start now run [] bay bay' faults faults' {T = T} (Err x)) (sym is) memory
  ends_stopped e run more (s ∷ []) h ms g qs faults faults' printed new bay bay' (floor, passes, inl (f, told, is, calm, prints)) rises =
      subst (λ (x : Stop). EndsFor left config start now run (s ∷ []) bay bay' faults faults' {T = T} (Err x)) (sym is) (let (rose, spent) = rises f s refl told in refused f s refl told rose spent)
  ends_stopped e run more (s ∷ []) h ms g qs faults faults' printed new bay bay' (floor, passes, inr cuts) rises = at e cuts
    where
      at : (x : Stop) → CutsLines x (lines_of_window config options s) faults faults' printed new → EndsFor left config start now run (s ∷ []) bay bay' faults faults' {T = T} (Err x)
      at stop.Sink (rose, front) = sink_failed rose
      at (stop.Fault f) (is, calm, some) = subst (λ (x : Fault). EndsFor left config start now run (s ∷ []) bay bay' faults faults' {T = T} (Err (stop.Fault x))) (sym is) memory
  ends_stopped e run more (s ∷ t ∷ rest) h ms g qs faults faults' printed new bay bay' ends rises = absurd ends

-- the summary was printed or not, behind all lines
pub ends_summed : {S T : Type 0} (left : S → Option (List ℕ)) (config : Config) (start now : Given S) (run : List (Option TraceLine)) (last : List ServedWindow) (bay bay' : ℕ) (text : List ℕ) (done : Result T Stop)
    (faults faults' faults'' : ℕ) (printed' printed'' : Option (List ℕ)) → last ≡ [] → HasGivenAll left (targets_of config) start now run → faults' ≡ faults → PrintsText done text faults' faults'' printed' printed''
    → EndsFor left config start now run last bay bay' faults faults'' done
ends_summed left config start now run last bay bay' text (Ok x) faults faults' faults'' printed' printed'' none all calm prints = whole x none all
ends_summed {S} {T} left config start now run last bay bay' text (Err (stop.Fault f)) faults faults' faults'' printed' printed'' none all calm (is, same, keeps) =
    subst (λ (x : Fault). EndsFor left config start now run last bay bay' faults faults'' {T = T} (Err (stop.Fault x))) (sym is) memory
ends_summed left config start now run last bay bay' text (Err stop.Sink) faults faults' faults'' printed' printed'' none all calm (rose, front) = sink_failed (subst (λ (n : ℕ). Rose n faults'') calm rose)

-- ---- What was printed

memory_or : (f : Fault) → (f ≢ Memory) ⊎ (f ≡ Memory)
memory_or Memory = inr refl
memory_or f = inl (λ is. absurd (cc is))

joined_both : (xs ys : List (List ℕ)) → joined_lines (xs ++ ys) ≡ joined_lines xs ++ joined_lines ys
joined_both xs ys = flat_map-append (λ (l : List ℕ). l) xs ys

-- all lines were printed behind a fault
all_printed : (T : Type 0) (f : Fault) (lines : List (List ℕ)) (summary : List ℕ) (faults faults' : ℕ) (printed new : Option (List ℕ)) → faults' ≡ faults → Appends printed new (joined_lines lines)
    → PrintsRun {T = T} (Err (stop.Fault f)) lines summary faults faults' printed new
all_printed T f lines summary faults faults' printed new calm prints = elim (memory_or f) [
  | inl other ↦ (calm, inl (other, prints))
  | inr is ↦ (calm, inr (is, length lines, subst (λ (l : List (List ℕ)). Appends printed new (joined_lines l)) (sym (take-length lines)) prints))
]

lines_last : (config : Config) (options : Options) (earlier : List ServedWindow) (s : ServedWindow) → lines_of_windows config options (earlier ++ s ∷ []) ≡ lines_of_windows config options earlier ++ lines_of_window config options s
lines_last config options earlier s = flat_map-append (lines_of_window config options) earlier (s ∷ []) ∙ ap (λ (l : List (List ℕ)). lines_of_windows config options earlier ++ l) (append-nil (lines_of_window config options s))

-- all lines of these windows were printed behind a fault
abbrev Printed : (T : Type 0) → Stop → List (List ℕ) → (faults faults' : ℕ) → (printed new : Option (List ℕ)) → Type 0
Printed T e lines faults faults' printed new = PrintsRun {T = T} (Err e) lines [] faults faults' printed new

between : (T : Type 0) (config : Config) (options : Options) (e : Stop) (f : Fault) (earlier : List ServedWindow) (faults faults' : ℕ) (printed then new : Option (List ℕ)) → e ≡ stop.Fault f → faults' ≡ faults
    → Appends printed then (joined_lines (lines_of_windows config options earlier)) → Keeps then new → Printed T e (lines_of_windows config options (earlier ++ [])) faults faults' printed new
between T config options e f earlier faults faults' printed then new is calm before keeps =
    subst (λ (ss : List ServedWindow). Printed T e (lines_of_windows config options ss) faults faults' printed new) (sym (append-nil earlier))
    (subst (λ (x : Stop). Printed T x (lines_of_windows config options earlier) faults faults' printed new) (sym is)
    (all_printed T f (lines_of_windows config options earlier) [] faults faults' printed new calm (appends_kept printed then new (joined_lines (lines_of_windows config options earlier)) before keeps)))

cut_off : (T : Type 0) (e : Stop) (lines others : List (List ℕ)) (faults faults' : ℕ) (printed then new : Option (List ℕ)) → Appends printed then (joined_lines lines) → CutsLines e others faults faults' then new
    → Printed T e (lines ++ others) faults faults' printed new
cut_off T stop.Sink lines others faults faults' printed then new before (rose, front) = (
  rose,
  subst (λ (l : List ℕ). AppendsFront printed new l) (sym (append-nil (joined_lines (lines ++ others)) ∙ joined_both lines others)) (front_last printed then new (joined_lines lines) (joined_lines others) before front),
)
cut_off T (stop.Fault f) lines others faults faults' printed then new before (is, calm, (k, le, taken)) = (
  calm,
  inr (
    is,
    length lines + k,
    subst (λ (l : List ℕ). Appends printed new l) (sym (ap joined_lines (take-append-add lines others k) ∙ joined_both lines (take k others)))
        (appends_both printed then new (joined_lines lines) (joined_lines (take k others)) before taken),
  ),
)

module _ {D S : Type 0} (T : Type 0) (tells : Bool) (left : S → Option (List ℕ)) (config : Config) (options : Options) (start now : Given S) where
  printed_stopped : (e : Stop) (run more : List (Option TraceLine)) (earlier last : List ServedWindow) (h : Floor D) (ms : List SpindlePass) (g : Floor D) (qs : List SpindlePass) (faults faults' : ℕ) (printed then new : Option (List ℕ))
      → Appends printed then (joined_lines (lines_of_windows config options earlier)) → EndsBy tells left config options start e now run more last h ms g qs faults faults' then new
      → Printed T e (lines_of_windows config options (earlier ++ last)) faults faults' printed new
  printed_stopped e run more earlier [] h ms g qs faults faults' printed then new before (calm, keeps, inl (refusal, other, is, none_more, refuses, floor, passes)) =
      between T config options e (fault_of_trace refusal) earlier faults faults' printed then new is calm before keeps
  printed_stopped e run more earlier [] h ms g qs faults faults' printed then new before (calm, keeps, inr (is, not_run)) = between T config options e Memory earlier faults faults' printed then new is calm before keeps
  printed_stopped e run more earlier (s ∷ []) h ms g qs faults faults' printed then new before (floor, passes, inl (f, told, is, calm, prints)) =
      let lines : List (List ℕ) = lines_of_windows config options earlier in
      let others : List (List ℕ) = lines_of_window config options s in
      subst (λ (ls : List (List ℕ)). Printed T e ls faults faults' printed new) (sym (lines_last config options earlier s))
      (subst (λ (x : Stop). Printed T x (lines ++ others) faults faults' printed new) (sym is)
      (all_printed T f (lines ++ others) [] faults faults' printed new calm
      (subst (λ (l : List ℕ). Appends printed new l) (sym (joined_both lines others)) (appends_both printed then new (joined_lines lines) (joined_lines others) before prints))))
  printed_stopped e run more earlier (s ∷ []) h ms g qs faults faults' printed then new before (floor, passes, inr cuts) =
      subst (λ (ls : List (List ℕ)). Printed T e ls faults faults' printed new) (sym (lines_last config options earlier s))
      (cut_off T e (lines_of_windows config options earlier) (lines_of_window config options s) faults faults' printed then new before cuts)
  printed_stopped e run more earlier (s ∷ t ∷ rest) h ms g qs faults faults' printed then new before ends = absurd ends

  -- the lines that are asked for
  pub prints_stopped : (e : Stop) (run more : List (Option TraceLine)) (earlier last : List ServedWindow) (h : Floor D) (ms : List SpindlePass) (g : Floor D) (qs : List SpindlePass) (faults faults' : ℕ) (printed then new : Option (List ℕ))
      → Appends printed then (joined_lines (lines_of_windows config options earlier)) → EndsBy tells left config options start e now run more last h ms g qs faults faults' then new
      → PrintsRun {T = T} (Err e) (lines_asked config options.each (answers_in (earlier ++ last))) [] faults faults' printed new
  prints_stopped e run more earlier last h ms g qs faults faults' printed then new before ends =
      subst (λ (ls : List (List ℕ)). PrintsRun {T = T} (Err e) ls [] faults faults' printed new) (lines_told config options (earlier ++ last))
      (printed_stopped e run more earlier last h ms g qs faults faults' printed then new before ends)

-- the summary behind all lines
pub prints_summed : {T : Type 0} (config : Config) (options : Options) (ss : List ServedWindow) (text : List ℕ) (done : Result T Stop) (faults faults' faults'' : ℕ) (printed printed' printed'' : Option (List ℕ))
    → Appends printed printed' (joined_lines (lines_of_windows config options ss)) → faults' ≡ faults → PrintsText done text faults' faults'' printed' printed''
    → PrintsRun done (lines_asked config options.each (answers_in ss)) text faults faults'' printed printed''
prints_summed {T} config options ss text done faults faults' faults'' printed printed' printed'' before calm prints =
    subst (λ (ls : List (List ℕ)). PrintsRun done ls text faults faults'' printed printed'') (lines_told config options ss) (at done prints)
  where
    at : (r : Result T Stop) → PrintsText r text faults' faults'' printed' printed'' → PrintsRun r (lines_of_windows config options ss) text faults faults'' printed printed''
    at (Ok x) (same, taken) = (same ∙ calm, appends_both printed printed' printed'' (joined_lines (lines_of_windows config options ss)) text before taken)
    at (Err stop.Sink) (rose, front) = (subst (λ (n : ℕ). Rose n faults'') calm rose, front_last printed printed' printed'' (joined_lines (lines_of_windows config options ss)) text before front)
    at (Err (stop.Fault f)) (is, same, keeps) = all_printed T f (lines_of_windows config options ss) text faults faults'' printed printed'' (same ∙ calm) (appends_kept printed printed' printed'' (joined_lines (lines_of_windows config options ss)) before keeps)
