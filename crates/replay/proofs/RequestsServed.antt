-- The requests of the windows that were served are those of the lines, and each names one of the volumes.
use Rattle.replay.proofs.Basics.{◌≡◌, ◌<◌, ◌≤◌, ◌==◌, ℕ, Bool, true, false, cond, List, [], ◌∷◌, ◌++◌, length, map, Option, None, Some}
use Rattle.replay.proofs.Basics.{refl, sym, ap, ◌∙◌, arith, ◌&&◌, AllByRecursion, flat_map, map-append, eqb-true}
use Rattle.replay.proofs.Terms.{Numbered, Target, TraceLine, home_of, numbered_from, pieces, requests_of, requests_on, volume_of, windows}
use Rattle.replay.proofs.Terms.{Answered, of_volume, Config, targets_of, asked, requests_in_all, Request, windows_have_requests}
use Rattle.replay.proofs.Terms.{numbers_leave, answers_of, requests_in, volume_requests, Outcome, answers_to, Floor, Reclaim, answers_in}
use Rattle.replay.proofs.Terms.{ServedFromStart, ServedWindow, WereServed, AreWindowsOf, most_of}
use Rattle.std.specs.Str.{bytes_eq}
use Rattle.std.proofs.lemmas.List.Quantifiers.{position-Some}
use Rattle.wol_model.specs.Trace.{requests}
use Rattle.wol_model.specs.declared.trace.Piece.{Piece}
use Rattle.replay.proofs.AnswersServed.{all_both}
use Rattle.replay.proofs.Serving.{served_requests}
use Rattle.wol_model.specs.Trace as trace

-- ---- As many outcomes as requests

asked_of : (rs : List Request) (os : List Outcome) → length os ≡ length rs → requests_in (answers_to rs os) ≡ map asked rs
asked_of [] os same = refl
asked_of (r ∷ rs) [] same = absurd (omega (arith, same))
asked_of (r ∷ rs) (o ∷ os) same = ap (λ l. asked r ∷ l) (asked_of rs os (omega (arith, same)))

-- each window has as many outcomes as requests
abbrev pub AreAnsweredWindows : List ServedWindow → Type 0
AreAnsweredWindows ss = AllByRecursion (λ (s : ServedWindow). length s.answer.outcomes.items ≡ length s.batch.requests) ss

asked_in : (ss : List ServedWindow) → AreAnsweredWindows ss → requests_in (answers_in ss) ≡ map asked (flat_map (λ (s : ServedWindow). s.batch.requests) ss)
asked_in [] all = refl
asked_in (s ∷ ss) (first, others) =
    map-append (λ (a : Answered). a.request) (answers_to s.batch.requests s.answer.outcomes.items) (answers_in ss)
    ∙ (λ i. asked_of s.batch.requests s.answer.outcomes.items first i ++ asked_in ss others i)
    ∙ sym (map-append asked s.batch.requests (flat_map (λ (x : ServedWindow). x.batch.requests) ss))

module _ {D : Type 0} (tells : Bool) (mode : Reclaim) where
  were_counted : (ss : List ServedWindow) (f : Floor D) (ps : List _) (g : Floor D) (qs : List _) → WereServed tells mode ss f ps g qs → AreAnsweredWindows ss
  were_counted [] f ps g qs were = tt
  were_counted (s ∷ ss) f ps g qs (h, rs, was, others) = (was.run.len, were_counted ss h rs g qs others)

  pub served_counted : (ss : List ServedWindow) (f : Floor D) (ps : List _) (g : Floor D) (qs : List _) → ServedFromStart tells mode ss f ps g qs → AreAnsweredWindows ss
  served_counted [] f ps g qs served = tt
  served_counted (s ∷ ss) f ps g qs (rs, started, were) = were_counted (s ∷ ss) f rs g qs were

  pub served_asked : (config : Config) (run : List (Option TraceLine)) (ss : List ServedWindow) (f : Floor D) (ps : List _) (g : Floor D) (qs : List _) → ServedFromStart tells mode ss f ps g qs
      → AreWindowsOf config run ss → requests_in (answers_in ss) ≡ requests (most_of config) (targets_of config) run
  served_asked config run ss f ps g qs served are =
      asked_in ss (served_counted ss f ps g qs served) ∙ ap (map asked) (served_requests config (windows (most_of config) (targets_of config) run) ss are)
      ∙ numbers_leave 0 (requests_in_all (most_of config) (targets_of config) (windows (most_of config) (targets_of config) run))
      ∙ windows_have_requests (most_of config) (targets_of config) run

-- ---- Volumes

module _ (most : ℕ) (targets : List Target) where
  abbrev pub IsOfVolume : trace.Request → Type 0
  IsOfVolume r = r.volume < length targets

  of_pieces : (number v : ℕ) (l : TraceLine) (ps : List Piece) → v < length targets
      → AllByRecursion IsOfVolume (map (λ (p : Piece). record { line = number; volume = v; kind = l.kind; first = p.lbn; count = p.count }) ps)
  of_pieces number v l [] lt = tt
  of_pieces number v l (p ∷ ps) lt = (lt, of_pieces number v l ps lt)

  of_line : (number : ℕ) (l : TraceLine) (volume : Option ℕ) → ((v : ℕ) → volume ≡ Some v → v < length targets) → AllByRecursion IsOfVolume (requests_on most targets number l volume)
  of_line number l None lt = tt
  of_line number l (Some v) lt = of_pieces number v l (pieces (home_of targets v) most l) (lt v refl)

  of_lines : (ns : List Numbered) → AllByRecursion IsOfVolume (flat_map (λ (n : Numbered). requests_of most targets n.number n.line) ns)
  of_lines [] = tt
  of_lines (n ∷ ns) =
      all_both IsOfVolume (requests_of most targets n.number n.line) (flat_map (λ (m : Numbered). requests_of most targets m.number m.line) ns)
      (of_line n.number n.line (volume_of targets n.line) (λ v is. (position-Some (λ (t : Target). bytes_eq t.host n.line.host && t.disk == n.line.disk) targets v (record { host = []; disk = 0; home = 0 }) is).0)) (of_lines ns)

  pub requests_of_volumes : (lines : List (Option TraceLine)) → AllByRecursion IsOfVolume (requests most targets lines)
  unfolding requests
  requests_of_volumes lines = of_lines (numbered_from 1 lines)

  none_of : (v : ℕ) (rs : List trace.Request) → length targets ≤ v → AllByRecursion IsOfVolume rs → of_volume v rs ≡ []
  none_of v [] beyond all = refl
  none_of v (r ∷ rs) beyond (first, others) = at (r.volume == v) refl (none_of v rs beyond others)
    where
      at : (t : Bool) → (r.volume == v) ≡ t → of_volume v rs ≡ [] → cond t (r ∷ of_volume v rs) (of_volume v rs) ≡ []
      at true is rest = let same : r.volume ≡ v = eqb-true r.volume v is in absurd (omega (arith, same, first, beyond))
      at false is rest = rest

  -- no request is of a volume that isn't there
  pub others_none : (lines : List (Option TraceLine)) (answers : List Answered) → requests_in answers ≡ requests most targets lines → (v : ℕ) → length targets ≤ v → answers_of v answers ≡ []
  others_none lines answers are v beyond =
      let none : requests_in (answers_of v answers) ≡ [] = volume_requests v answers ∙ ap (of_volume v) are ∙ none_of v (requests most targets lines) beyond (requests_of_volumes lines) in
      empty (answers_of v answers) none
    where
      empty : (xs : List Answered) → requests_in xs ≡ [] → xs ≡ []
      empty [] is = refl
      empty (x ∷ xs) is = absurd (cc is)
