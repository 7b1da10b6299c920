-- The writes after a drain that are counted of windows are those of the volumes' histories.
use Rattle.replay.proofs.Basics.{◌≡◌, ◌≢◌, ◌==◌, ◌<◌, ◌+◌, ◌++◌, ℕ, Bool, true, false, cond, List, [], ◌∷◌, length, refl, ap, ◌∙◌, Some}
use Rattle.replay.proofs.Basics.{arith, count_by, slice_get, sum_by, AllByRecursion, eqb-false, sum_by-append, sum_by-cons}
use Rattle.replay.proofs.Terms.{Broke, IsHelp, Kept, Operation, Read, Wrote, worker, Answered, Unanswered, WasRead, WasWritten, by_worker}
use Rattle.replay.proofs.Terms.{drains, is_drained_write, Noted, entries_of, answers_of, volume_joined, Place, asked, Request, AreEntriesOf}
use Rattle.replay.proofs.Terms.{AreMade, IsGroupEntry, answers_to, outcomes_of, own_requests, told, Reclaim, was_drained, History}
use Rattle.replay.proofs.Terms.{answers_in, ServedWindow, outcomes_in, AreClosings, AreWorked, AreWorks}
use Rattle.wol_promise.specs.Outcomes.{Outcome}
use Rattle.replay.proofs.AnswersServed.{own_answers}
use Rattle.replay.proofs.Grouped.{all_wrote, answers_behind, made_by_cases, wrote_all}
use Rattle.replay.proofs.WritesPlaced.{all_counted, counted_more, does, joined}
use Rattle.wol_model.specs.History as history
use Rattle.manager.specs.declared.part.ReadRefusal.TheVariants as read
use Rattle.manager.specs.declared.part.WriteRefusal.TheVariants as write
use Rattle.request_turns.specs.declared.outcome.Outcome as turns
use Rattle.request_turns.specs.declared.outcome.Outcome.TheVariants as outcome
use Rattle.window_desks.specs.declared.request.Reclaim.TheVariants as reclaim

-- a write that was answered after a drain
abbrev drained_in : Outcome → Bool
drained_in (WasRead mark) = false
drained_in (WasWritten logged drained) = drained
drained_in Unanswered = false

-- ---- Entries

drains_more : (n : Noted) (notes : List Noted) → drains (n ∷ notes) ≡ cond (is_drained_write n.after_drain n.entry.operation) 1 0 + drains notes
drains_more n notes = sum_by-cons (λ (m : Noted). cond (is_drained_write m.after_drain m.entry.operation) 1 0) n notes

drains_joined : (xs ys : List Noted) → drains (xs ++ ys) ≡ drains xs + drains ys
drains_joined xs ys = sum_by-append (λ (m : Noted). cond (is_drained_write m.after_drain m.entry.operation) 1 0) xs ys

-- an entry that changes no content is no write
help_drains : (after_drain : Bool) (o : Operation) → IsHelp o → is_drained_write after_drain o ≡ false
help_drains after_drain Kept help = refl
help_drains after_drain (Broke ws) help = refl
help_drains after_drain (Wrote ws) help = absurd help
help_drains after_drain (Read first reply) help = absurd help

-- ---- The requests of a window

one_drain : (r : Request) (rs : List Request) (o : turns.Outcome) (os : List turns.Outcome) (first rest : List Noted) (n : Noted) → first ≡ n ∷ []
    → is_drained_write n.after_drain n.entry.operation ≡ drained_in (told o) → drains rest ≡ count_by (does drained_in) (answers_to rs os) → drains (first ++ rest) ≡ count_by (does drained_in) (answers_to (r ∷ rs) (o ∷ os))
one_drain r rs o os first rest n one is others =
    let all : drains (first ++ rest) ≡ drains (n ∷ rest) = ap (λ (l : List Noted). drains (l ++ rest)) one in
    let here : cond {A = ℕ} (is_drained_write n.after_drain n.entry.operation) 1 0 ≡ cond {A = ℕ} (drained_in (told o)) 1 0 = ap (λ (t : Bool). cond {A = ℕ} t 1 0) is in
    let a = drains_more n rest in
    let b = counted_more drained_in (record { request = asked r; outcome = told o }) (answers_to rs os) in
    omega (arith, all, here, a, b, others)

request_drains : (view : List ℕ) (r : Request) (rs : List Request) (o : turns.Outcome) (os : List turns.Outcome) (first rest : List Noted) → AreEntriesOf view r rs o first → drains rest ≡ count_by (does drained_in) (answers_to rs os)
    → drains (first ++ rest) ≡ count_by (does drained_in) (answers_to (r ∷ rs) (o ∷ os))
request_drains view r rs (outcome.Read mark sources) os first rest (n, one, entry) others =
    one_drain r rs (outcome.Read mark sources) os first rest n one (ap (is_drained_write n.after_drain) entry.operation) others
request_drains view r rs (outcome.Wrote place drained) os first rest (n, one, (is_write, entry)) others =
    one_drain r rs (outcome.Wrote place drained) os first rest n one (ap (is_drained_write n.after_drain) entry.operation ∙ entry.drain) others
request_drains view r rs (outcome.NoRead (read.DiskFault p)) os first rest (n, one, (is_read, broke)) others =
    one_drain r rs (outcome.NoRead (read.DiskFault p)) os first rest n one (ap (is_drained_write n.after_drain) broke) others
request_drains view r rs (outcome.NoRead (read.Down p)) os first rest (n, one, (is_read, kept)) others =
    one_drain r rs (outcome.NoRead (read.Down p)) os first rest n one (ap (is_drained_write n.after_drain) kept) others
request_drains view r rs (outcome.NoWrite write.Full) os first rest (n, one, (is_write, full)) others = absurd full
request_drains view r rs (outcome.NoWrite (write.DiskFault p)) os first rest (n, one, (is_write, (ws, broke, flight, at))) others =
    one_drain r rs (outcome.NoWrite (write.DiskFault p)) os first rest n one (ap (is_drained_write n.after_drain) broke) others
request_drains view r rs (outcome.NoWrite (write.Down p)) os first rest (n, one, (is_write, kept)) others =
    one_drain r rs (outcome.NoWrite (write.Down p)) os first rest n one (ap (is_drained_write n.after_drain) kept) others
request_drains view r rs (outcome.NoWrite write.VersionsSpent) os first rest (n, one, (is_write, (kept, spent))) others =
    one_drain r rs (outcome.NoWrite write.VersionsSpent) os first rest n one (ap (is_drained_write n.after_drain) kept) others
request_drains view r rs (outcome.NoWrite write.NoMemory) os first rest (n, one, (is_write, kept)) others =
    one_drain r rs (outcome.NoWrite write.NoMemory) os first rest n one (ap (is_drained_write n.after_drain) kept) others
request_drains view r rs outcome.NotRun os first rest none others =
    let all : drains (first ++ rest) ≡ drains rest = ap (λ (l : List Noted). drains (l ++ rest)) none in
    let b = counted_more drained_in (record { request = asked r; outcome = told outcome.NotRun }) (answers_to rs os) in
    omega (arith, all, b, others)

-- none of several writes in one entry followed a drain
none_drained : (group : List Request) (place : Place) → count_by (does drained_in) (wrote_all group place) ≡ 0
none_drained [] place = refl
none_drained (r ∷ group) place =
    let a = counted_more drained_in (record { request = asked r; outcome = told (outcome.Wrote place false) }) (wrote_all group place) in
    let more = none_drained group place in
    omega (arith, a, more)

group_drains : (view : List ℕ) (group rs : List Request) (place : Place) (os : List turns.Outcome) (n : Noted) (rest : List Noted) → IsGroupEntry view group place n → drains rest ≡ count_by (does drained_in) (answers_to rs os)
    → drains (n ∷ rest) ≡ count_by (does drained_in) (answers_to (group ++ rs) (all_wrote (length group) place ++ os))
group_drains view group rs place os n rest entry more =
    let here : cond {A = ℕ} (is_drained_write n.after_drain n.entry.operation) 1 0 ≡ 0
    = ap (λ (t : Bool). cond {A = ℕ} t 1 0) (ap (is_drained_write n.after_drain) entry.together.operation ∙ entry.together.drain) in
    let a = drains_more n rest in
    let both : count_by (does drained_in) (answers_to (group ++ rs) (all_wrote (length group) place ++ os)) ≡ count_by (does drained_in) (wrote_all group place) + count_by (does drained_in) (answers_to rs os)
    = ap (λ (l : List Answered). count_by (does drained_in) l) (answers_behind group rs place os) ∙ joined drained_in (wrote_all group place) (answers_to rs os) in
    let none_here = none_drained group place in
    omega (arith, here, a, both, none_here, more)

made_drains : (view : List ℕ) (rs : List Request) (os : List turns.Outcome) (notes : List Noted) → AreMade view rs os notes → drains notes ≡ count_by (does drained_in) (answers_to rs os)
made_drains view rs os notes made =
    made_by_cases view (λ rs os notes. drains notes ≡ count_by (does drained_in) (answers_to rs os)) refl (λ r rs o os first rest entries others more. request_drains view r rs o os first rest entries more)
    (λ group rs place os n rest two entry more. group_drains view group rs place os n rest entry more) rs os notes made

-- ---- Windows

turn_drains : (whole : Type 0) (notes : List Noted) (n : Noted) → notes ≡ n ∷ [] → IsHelp n.entry.operation → drains notes ≡ 0
turn_drains whole notes n one help =
    let none : cond {A = ℕ} (is_drained_write n.after_drain n.entry.operation) 1 0 ≡ 0 = ap (λ (t : Bool). cond {A = ℕ} t 1 0) (help_drains n.after_drain n.entry.operation help) in
    let a = drains_more n [] in
    let b : drains notes ≡ drains (n ∷ []) = ap drains one in
    omega (arith, none, a, b)

closing_drains : (mode : Reclaim) (whole : Type 0) (notes : List Noted) → AreClosings mode whole notes → drains notes ≡ 0
closing_drains reclaim.Off whole notes none = ap drains none
closing_drains reclaim.Between whole notes (n, one, is) = turn_drains whole notes n one is.help
closing_drains reclaim.Beside whole notes (n, one, is) = turn_drains whole notes n one is.help

works_drains : (mode : Reclaim) (view : List ℕ) (v : ℕ) (whole : Type 0) (ss : List ServedWindow) (notes : List Noted) → AreWorks mode view v whole ss notes → drains notes ≡ count_by (does drained_in) (answers_of v (answers_in ss))
works_drains mode view v whole [] notes none = ap drains none
works_drains mode view v whole (s ∷ ss) notes (first, rest, same, work, others) =
    let rs = s.batch.requests in
    let os = s.answer.outcomes.items in
    let all : drains notes ≡ drains (first ++ rest) = ap drains same in
    let both = drains_joined first rest in
    let split : drains first ≡ drains (work.served ++ work.closing) = ap drains work.split in
    let parts = drains_joined work.served work.closing in
    let of_requests = made_drains view (own_requests v rs) (outcomes_of v rs os) work.served work.made in
    let none = closing_drains mode whole work.closing work.closes in
    let own : count_by (does drained_in) (answers_of v (answers_to rs os)) ≡ count_by (does drained_in) (answers_to (own_requests v rs) (outcomes_of v rs os)) = ap (λ (l : List Answered). count_by (does drained_in) l) (own_answers v rs os) in
    let more = works_drains mode view v whole ss rest others in
    let here : count_by (does drained_in) (answers_of v (answers_in (s ∷ ss))) ≡ count_by (does drained_in) (answers_of v (answers_to rs os)) + count_by (does drained_in) (answers_of v (answers_in ss))
    = ap (λ (l : List Answered). count_by (does drained_in) l) (volume_joined v (answers_to rs os) (answers_in ss)) ∙ joined drained_in (answers_of v (answers_to rs os)) (answers_of v (answers_in ss)) in
    omega (arith, all, both, split, parts, of_requests, none, own, more, here)

-- ---- Histories

-- the writes are the worker's
own_drains : (notes : List Noted) → AllByRecursion (λ (e : history.Entry). e.pass ≢ worker → IsHelp e.operation) (entries_of notes) → drains notes ≡ drains (by_worker notes)
own_drains [] help = refl
own_drains (n ∷ notes) (help, others) = at (n.entry.pass == worker) refl (own_drains notes others)
  where
    at : (t : Bool) → (n.entry.pass == worker) ≡ t → drains notes ≡ drains (by_worker notes) → drains (n ∷ notes) ≡ drains (cond t (n ∷ by_worker notes) (by_worker notes))
    at true is rest = let a = drains_more n notes in let b = drains_more n (by_worker notes) in omega (arith, a, b, rest)
    at false is rest =
        let none : cond {A = ℕ} (is_drained_write n.after_drain n.entry.operation) 1 0 ≡ 0 = ap (λ (t : Bool). cond {A = ℕ} t 1 0) (help_drains n.after_drain n.entry.operation (help (eqb-false n.entry.pass worker is))) in
        let a = drains_more n notes in
        omega (arith, none, a, rest)

drained_same : (o : turns.Outcome) → was_drained o ≡ drained_in (told o)
drained_same (outcome.Read mark sources) = refl
drained_same (outcome.Wrote place drained) = refl
drained_same (outcome.NoRead refusal) = refl
drained_same (outcome.NoWrite refusal) = refl
drained_same outcome.NotRun = refl

pub counts_drained : (mode : Reclaim) (ss : List ServedWindow) (awake : List (List Bool)) (hs : List History) → AreWorked mode ss awake hs
    → AllByRecursion (λ (s : ServedWindow). length s.answer.outcomes.items ≡ length s.batch.requests) ss → AllByRecursion (λ (a : Answered). a.request.volume < length hs) (answers_in ss)
    → ((v : ℕ) (h : History) → slice_get hs v ≡ Some h → AllByRecursion (λ (e : history.Entry). e.pass ≢ worker → IsHelp e.operation) (entries_of h.notes))
    → count_by was_drained (outcomes_in ss) ≡ sum_by (λ (h : History). drains h.notes) hs
counts_drained mode ss awake hs worked sized within help =
    all_counted drained_in was_drained drained_same ss hs sized within (λ (h : History). drains h.notes) (λ v h here. own_drains h.notes (help v h here) ∙ works_drains mode h.base.view v _ ss (by_worker h.notes) (worked.each v h here).worker_)
