-- Counts of lines and of requests, and the requests of windows.
use Rattle.std.proofs.Common.{◌≡◌, ℕ, suc, ◌+◌, Bool, true, false, cond, List, [], ◌∷◌, ◌++◌, length, Option, Some, None, refl, sym, ap, ◌∙◌, append_assoc, append-nil, arith, length-append}
use Rattle.std.specs.List.{count_by, flat_map}
use Rattle.std.proofs.lemmas.Grind.{flat_map-append}
use Rattle.std.proofs.lemmas.List.Sums.{sum_by_push}
use Rattle.wol_model.specs.Trace as trace
use Rattle.wol_model.specs.Trace.{Numbered, Target, Timed, TraceLine, Window, numbered_from, requests, requests_of, timed, timed_from, windows}
use Rattle.wol_model.proofs.TraceLaws.{windows_have_all}
use Rattle.trace_windows.specs.Requests.{requests_in_all}
use Rattle.trace_windows.specs.Laws.{WindowsHaveRequests}
use Rattle.trace_windows.proofs.Joining.{next_timed, timed_blank, timed_more}

flat_map_twice : {X Y Z : Type 0} (f : X → List Y) (g : Y → List Z) (xs : List X) → flat_map (λ x. flat_map g (f x)) xs ≡ flat_map g (flat_map f xs)
flat_map_twice f g [] = refl
flat_map_twice f g (x ∷ xs) = ap (λ ys. flat_map g (f x) ++ ys) (flat_map_twice f g xs) ∙ sym (flat_map-append g (f x) (flat_map f xs))

module _ (most : ℕ) (targets : List Target) where
  -- the requests of a line with its time
  abbrev asks : Timed → List trace.Request
  asks l = requests_of most targets l.number l.line

  untimed : (t : ℕ) (ns : List Numbered) → flat_map asks (timed_from t ns) ≡ flat_map (λ (n : Numbered). requests_of most targets n.number n.line) ns
  untimed t [] = refl
  untimed t (n ∷ ns) = ap (λ (rs : List trace.Request). requests_of most targets n.number n.line ++ rs) (untimed (Rattle.std.proofs.Common.max t n.line.time) ns)

  -- the requests of a trace are those of its lines with their times
  of_timed : (ls : List (Option TraceLine)) → requests most targets ls ≡ flat_map asks (timed ls)
  unfolding requests
  of_timed ls = sym (untimed 0 (numbered_from 1 ls))

  pub have_requests : (ls : List (Option TraceLine)) → requests_in_all most targets (windows most targets ls) ≡ requests most targets ls
  have_requests ls = flat_map_twice (λ (w : Window). w.lines) asks (windows most targets ls) ∙ ap (flat_map asks) (windows_have_all most targets ls) ∙ sym (of_timed ls)

  pub requests_more : (ls : List (Option TraceLine)) (l : TraceLine) → requests most targets (ls ++ Some l ∷ []) ≡ requests most targets ls ++ requests_of most targets (length ls + 1) l
  requests_more ls l =
      of_timed (ls ++ Some l ∷ []) ∙ ap (flat_map asks) (timed_more ls l) ∙ flat_map-append asks (timed ls) (next_timed ls l ∷ [])
      ∙ ap (λ (rs : List trace.Request). rs ++ (requests_of most targets (length ls + 1) l ++ [])) (sym (of_timed ls)) ∙ ap (λ (rs : List trace.Request). requests most targets ls ++ rs) (append-nil (requests_of most targets (length ls + 1) l))

  pub requests_blank : (ls : List (Option TraceLine)) → requests most targets (ls ++ None ∷ []) ≡ requests most targets ls
  requests_blank ls = of_timed (ls ++ None ∷ []) ∙ ap (flat_map asks) (timed_blank ls) ∙ sym (of_timed ls)

pub windows_have_requests : WindowsHaveRequests
windows_have_requests most targets ls = have_requests most targets ls

pub counts_more : {X : Type 0} (p : X → Bool) (xs : List X) (x : X) → count_by p (xs ++ x ∷ []) ≡ count_by p xs + cond (p x) 1 0
counts_more p xs x = sum_by_push (λ y. cond (p y) 1 0) xs x
