-- The lines that a session prints are those of the answered reads.
use Rattle.replay.proofs.Basics.{◌≡◌, ℕ, Bool, true, false, List, [], ◌∷◌, ◌++◌, refl, sym, ap, flat_map-append}
use Rattle.replay.proofs.Terms.{Answered, mark_in, read_text, told_lines, Config, printed_names, asked, Request, Outcome, answers_to}
use Rattle.replay.proofs.Terms.{lines_of_outcomes, answers_in, line_of_read, lines_asked, ServedWindow, lines_of_window, lines_of_windows}
use Rattle.replay.proofs.Terms.{Options}
use Rattle.wol_model.specs.Trace as trace
use Rattle.request_turns.specs.declared.outcome.Outcome.TheVariants as outcome

told_joined : (text : trace.Request → ℕ → List ℕ) (xs ys : List Answered) → told_lines text (xs ++ ys) ≡ told_lines text xs ++ told_lines text ys
told_joined text xs ys = flat_map-append (λ (a : Answered). read_text text a.request (mark_in a.outcome)) xs ys

told_window : (config : Config) (rs : List Request) (os : List Outcome) → told_lines (line_of_read config) (answers_to rs os) ≡ lines_of_outcomes (printed_names config.volumes.items) rs os
told_window config [] os = refl
told_window config (r ∷ rs) [] = refl
told_window config (r ∷ rs) (outcome.Read mark sources ∷ os) = ap (λ (l : List (List ℕ)). line_of_read config (asked r) mark ∷ l) (told_window config rs os)
told_window config (r ∷ rs) (outcome.Wrote place drained ∷ os) = told_window config rs os
told_window config (r ∷ rs) (outcome.NoRead refusal ∷ os) = told_window config rs os
told_window config (r ∷ rs) (outcome.NoWrite refusal ∷ os) = told_window config rs os
told_window config (r ∷ rs) (outcome.NotRun ∷ os) = told_window config rs os

-- the lines of windows, where they are asked for
pub lines_told : (config : Config) (options : Options) (ss : List ServedWindow) → lines_of_windows config options ss ≡ lines_asked config options.each (answers_in ss)
lines_told config options ss = at options.each refl
  where
    no_lines : options.each ≡ false → (xs : List ServedWindow) → lines_of_windows config options xs ≡ []
    no_lines is [] = refl
    no_lines is (x ∷ xs) = rw is (no_lines is xs)

    all_lines : options.each ≡ true → (xs : List ServedWindow) → lines_of_windows config options xs ≡ told_lines (line_of_read config) (answers_in xs)
    all_lines is [] = refl
    all_lines is (x ∷ xs) =
        let here : lines_of_window config options x ≡ told_lines (line_of_read config) (answers_to x.batch.requests x.answer.outcomes.items)
        = rw is (sym (told_window config x.batch.requests x.answer.outcomes.items)) in
        rw (here, all_lines is xs) (sym (told_joined (line_of_read config) (answers_to x.batch.requests x.answer.outcomes.items) (answers_in xs)))

    at : (t : Bool) → options.each ≡ t → lines_of_windows config options ss ≡ lines_asked config t (answers_in ss)
    at true is = all_lines is ss
    at false is = no_lines is ss
