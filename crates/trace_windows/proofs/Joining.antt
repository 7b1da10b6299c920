-- Windows of a line more.
use Rattle.std.proofs.Common.{◌≡◌, ℕ, suc, ◌+◌, max, Bool, true, false, cond, List, [], ◌∷◌, ◌++◌, length, Option, Some, None, refl, sym, ap, ◌∙◌, append_assoc, arith}
use Rattle.wol_model.specs.Trace as trace
use Rattle.wol_model.specs.Trace.{Numbered, Target, Timed, TraceLine, Window, joined, joins, numbered_from, opened, pieces_of, requests_of, timed, timed_from, windows, windows_by, windows_from}

-- ---- Lines

numbered_push : (n : ℕ) (ls : List (Option TraceLine)) (l : TraceLine) → numbered_from n (ls ++ Some l ∷ []) ≡ numbered_from n ls ++ record { number = n + length ls; line = l } ∷ []
numbered_push n [] l = let same : n ≡ n + 0 = omega arith in ap (λ (m : ℕ). record { number = m; line = l } ∷ []) same
numbered_push n (None ∷ ls) l = let later : (n + 1) + length ls ≡ n + suc (length ls) = omega arith in numbered_push (n + 1) ls l ∙ ap (λ (m : ℕ). numbered_from (n + 1) ls ++ record { number = m; line = l } ∷ []) later
numbered_push n (Some k ∷ ls) l = let later : (n + 1) + length ls ≡ n + suc (length ls) = omega arith in
    ap (λ (others : List Numbered). record { number = n; line = k } ∷ others) (numbered_push (n + 1) ls l ∙ ap (λ (m : ℕ). numbered_from (n + 1) ls ++ record { number = m; line = l } ∷ []) later)

numbered_blank : (n : ℕ) (ls : List (Option TraceLine)) → numbered_from n (ls ++ None ∷ []) ≡ numbered_from n ls
numbered_blank n [] = refl
numbered_blank n (None ∷ ls) = numbered_blank (n + 1) ls
numbered_blank n (Some k ∷ ls) = ap (λ (others : List Numbered). record { number = n; line = k } ∷ others) (numbered_blank (n + 1) ls)

timed_push : (t : ℕ) (ns : List Numbered) (n : Numbered) → timed_from t (ns ++ n ∷ []) ≡ timed_from t ns ++ record { time = max (trace.last_time t (timed_from t ns)) n.line.time; number = n.number; line = n.line } ∷ []
timed_push t [] n = refl
timed_push t (m ∷ ns) n = ap (λ (others : List Timed). record { time = max t m.line.time; number = m.number; line = m.line } ∷ others) (timed_push (max t m.line.time) ns n)

-- the line after these lines, with its time
abbrev pub next_timed : List (Option TraceLine) → TraceLine → Timed
next_timed ls l = record { time = max (trace.ended (timed ls)) l.time; number = length ls + 1; line = l }

pub timed_more : (ls : List (Option TraceLine)) (l : TraceLine) → timed (ls ++ Some l ∷ []) ≡ timed ls ++ next_timed ls l ∷ []
timed_more ls l =
    let place : 1 + length ls ≡ length ls + 1 = omega arith in
    ap (timed_from 0) (numbered_push 1 ls l) ∙ timed_push 0 (numbered_from 1 ls) (record { number = 1 + length ls; line = l })
    ∙ ap (λ (m : ℕ). timed ls ++ record { time = max (trace.ended (timed ls)) l.time; number = m; line = l } ∷ []) place

pub timed_blank : (ls : List (Option TraceLine)) → timed (ls ++ None ∷ []) ≡ timed ls
timed_blank ls = ap (timed_from 0) (numbered_blank 1 ls)

-- ---- Times

pub last_more : (t : ℕ) (ls : List Timed) (l : Timed) → trace.last_time t (ls ++ l ∷ []) ≡ l.time
last_more t [] l = refl
last_more t (k ∷ ls) l = last_more k.time ls l

-- ---- Windows

-- windows, the last of which is open, with a line more
abbrev pub extended : (cost : Timed → ℕ) → List Window → Timed → List Window
extended cost [] l = opened l (cost l) ∷ []
extended cost (w ∷ []) l = cond (joins w l (cost l)) (joined w l (cost l) ∷ []) (w ∷ opened l (cost l) ∷ [])
extended cost (w ∷ v ∷ ws) l = w ∷ extended cost (v ∷ ws) l

extended_behind : (cost : Timed → ℕ) (u w : Window) (ls : List Timed) (l : Timed) → extended cost (u ∷ windows_from cost w ls) l ≡ u ∷ extended cost (windows_from cost w ls) l
extended_behind cost u w [] l = refl
extended_behind cost u w (k ∷ ls) l = at (joins w k (cost k)) (extended_behind cost u (joined w k (cost k)) ls l)
  where
    at : (t : Bool) → extended cost (u ∷ windows_from cost (joined w k (cost k)) ls) l ≡ u ∷ extended cost (windows_from cost (joined w k (cost k)) ls) l
        → extended cost (u ∷ cond t (windows_from cost (joined w k (cost k)) ls) (w ∷ windows_from cost (opened k (cost k)) ls)) l ≡ u ∷ extended cost (cond t (windows_from cost (joined w k (cost k)) ls) (w ∷ windows_from cost (opened k (cost k)) ls)) l
    at true in_it = in_it
    at false in_it = refl

from_more : (cost : Timed → ℕ) (w : Window) (ls : List Timed) (l : Timed) → windows_from cost w (ls ++ l ∷ []) ≡ extended cost (windows_from cost w ls) l
from_more cost w [] l = refl
from_more cost w (k ∷ ls) l = at (joins w k (cost k)) (from_more cost (joined w k (cost k)) ls l) (from_more cost (opened k (cost k)) ls l)
  where
    at : (t : Bool) → windows_from cost (joined w k (cost k)) (ls ++ l ∷ []) ≡ extended cost (windows_from cost (joined w k (cost k)) ls) l
        → windows_from cost (opened k (cost k)) (ls ++ l ∷ []) ≡ extended cost (windows_from cost (opened k (cost k)) ls) l
        → cond t (windows_from cost (joined w k (cost k)) (ls ++ l ∷ [])) (w ∷ windows_from cost (opened k (cost k)) (ls ++ l ∷ [])) ≡ extended cost (cond t (windows_from cost (joined w k (cost k)) ls) (w ∷ windows_from cost (opened k (cost k)) ls)) l
    at true in_it next = in_it
    at false in_it next = ap (λ (ws : List Window). w ∷ ws) next ∙ sym (extended_behind cost w (opened k (cost k)) ls l)

by_more : (cost : Timed → ℕ) (ls : List Timed) (l : Timed) → windows_by cost (ls ++ l ∷ []) ≡ extended cost (windows_by cost ls) l
by_more cost [] l = refl
by_more cost (k ∷ ls) l = from_more cost (opened k (cost k)) ls l

extended_last : (cost : Timed → ℕ) (ws : List Window) (w : Window) (l : Timed) → extended cost (ws ++ w ∷ []) l ≡ ws ++ extended cost (w ∷ []) l
extended_last cost [] w l = refl
extended_last cost (v ∷ []) w l = refl
extended_last cost (v ∷ u ∷ ws) w l = ap (λ (others : List Window). v ∷ others) (extended_last cost (u ∷ ws) w l)

module _ (most : ℕ) (targets : List Target) (ls : List (Option TraceLine)) where
  pub windows_blank : windows most targets (ls ++ None ∷ []) ≡ windows most targets ls
  unfolding windows
  windows_blank = ap (windows_by (pieces_of most targets)) (timed_blank ls)

  windows_more : (l : TraceLine) → windows most targets (ls ++ Some l ∷ []) ≡ extended (pieces_of most targets) (windows most targets ls) (next_timed ls l)
  unfolding windows
  windows_more l = ap (windows_by (pieces_of most targets)) (timed_more ls l) ∙ by_more (pieces_of most targets) (timed ls) (next_timed ls l)

  -- the first line that isn't blank opens the first window
  pub windows_first : (l : TraceLine) → windows most targets ls ≡ [] → windows most targets (ls ++ Some l ∷ []) ≡ opened (next_timed ls l) (pieces_of most targets (next_timed ls l)) ∷ []
  windows_first l none = windows_more l ∙ ap (λ (ws : List Window). extended (pieces_of most targets) ws (next_timed ls l)) none

  -- a further line joins the open window ..
  pub windows_join : (l : TraceLine) (given : List Window) (w : Window) → windows most targets ls ≡ given ++ w ∷ [] → joins w (next_timed ls l) (pieces_of most targets (next_timed ls l)) ≡ true
      → windows most targets (ls ++ Some l ∷ []) ≡ given ++ joined w (next_timed ls l) (pieces_of most targets (next_timed ls l)) ∷ []
  windows_join l given w is may =
      windows_more l ∙ ap (λ (ws : List Window). extended (pieces_of most targets) ws (next_timed ls l)) is ∙ extended_last (pieces_of most targets) given w (next_timed ls l)
      ∙ ap (λ (t : Bool). given ++ cond t (joined w (next_timed ls l) (pieces_of most targets (next_timed ls l)) ∷ []) (w ∷ opened (next_timed ls l) (pieces_of most targets (next_timed ls l)) ∷ [])) may

  -- .. or makes it whole
  pub windows_close : (l : TraceLine) (given : List Window) (w : Window) → windows most targets ls ≡ given ++ w ∷ [] → joins w (next_timed ls l) (pieces_of most targets (next_timed ls l)) ≡ false
      → windows most targets (ls ++ Some l ∷ []) ≡ (given ++ w ∷ []) ++ opened (next_timed ls l) (pieces_of most targets (next_timed ls l)) ∷ []
  windows_close l given w is may =
      windows_more l ∙ ap (λ (ws : List Window). extended (pieces_of most targets) ws (next_timed ls l)) is ∙ extended_last (pieces_of most targets) given w (next_timed ls l)
      ∙ ap (λ (t : Bool). given ++ cond t (joined w (next_timed ls l) (pieces_of most targets (next_timed ls l)) ∷ []) (w ∷ opened (next_timed ls l) (pieces_of most targets (next_timed ls l)) ∷ [])) may
      ∙ sym (append_assoc given (w ∷ []) (opened (next_timed ls l) (pieces_of most targets (next_timed ls l)) ∷ []))

  -- where there is no window, each line is blank
  pub none_timed : windows most targets ls ≡ [] → timed ls ≡ []
  unfolding windows
  none_timed none = at (timed ls) none
    where
      some_from : (cost : Timed → ℕ) (w : Window) (ks : List Timed) → windows_from cost w ks ≡ [] → ⊥
      some_from cost w [] e = cc
      some_from cost w (k ∷ ks) e = by (joins w k (cost k)) (some_from cost (joined w k (cost k)) ks) e
        where
          by : (t : Bool) → (windows_from cost (joined w k (cost k)) ks ≡ [] → ⊥) → cond t (windows_from cost (joined w k (cost k)) ks) (w ∷ windows_from cost (opened k (cost k)) ks) ≡ [] → ⊥
          by true in_it h = in_it h
          by false in_it h = cc

      at : (ts : List Timed) → windows_by (pieces_of most targets) ts ≡ [] → ts ≡ []
      at [] e = refl
      at (t ∷ ts) e = absurd (some_from (pieces_of most targets) (opened t (pieces_of most targets t)) ts e)
