-- What windows count, one after another.
use Rattle.std.proofs.Common.{◌≡◌, ◌<◌, ◌+◌, ◌-◌, ◌^◌, ℕ, zero, suc, Bool, List, [], ◌∷◌, ◌++◌, map, length, get_or, drop, min, sym, ap, subst, ◌∙◌, arith}
use Rattle.std.specs.Prelude.{⊤}
use Rattle.turn_lock.specs.Histories.{Entry, own}
use Rattle.turn_lock.specs.Passes.{pass_number, pass_seen}
use Rattle.wol_promise.specs.Policy.{Look}
use Rattle.wol_promise.specs.Report.{put_home_by}
use Rattle.wol_promise.specs.Ruled.{Noted, last_look}
use Rattle.manager.specs.Stands.{notes_of}
use Rattle.request_turns.specs.Counts.{Counts, added_up, added_between, seen_since, dropped_by}
use Rattle.request_turns.specs.Turns.{ManagerPass, began, notes_seen, Gains}
use Rattle.request_turns.specs.declared.tally.Tally.{Tally}
use Rattle.request_turns.proofs.Counting.{added_joined, others_nothing, between_both, counts_is, adds_up, more_of}
use Rattle.request_turns.proofs.Gaining.{gains_turn, gains_both, notes_joined}
use Rattle.window_desks.specs.Closed.{IsClosed}
use Rattle.window_desks.specs.Counted.{AreHonest, all_between}
use Rattle.window_desks.specs.Worked.{HasWorked, AreWorked}
use Rattle.window_desks.specs.declared.desk.Desk.{Desk}
use Rattle.window_desks.specs.declared.request.Reclaim.{Reclaim}
use Rattle.window_desks.specs.declared.request.Reclaim.TheVariants as reclaim
use Rattle.trace_windows.specs.declared.request.Request.{Request}
use Rattle.request_turns.specs.declared.outcome.Outcome.{Outcome}

-- ---- Passes that made turns

abbrev pub HasGained : {D : Type 0} → (tells : Bool) → (p q : ManagerPass D) → Type 0
HasGained tells p q = (more : List Entry) × (notes : List Noted) × Gains tells p q more notes

-- each of them, in order
abbrev pub HaveGained : {D : Type 0} → (tells : Bool) → (ps qs : List (ManagerPass D)) → Type 0
HaveGained tells [] [] = ⊤
HaveGained tells [] (q ∷ qs) = ⊥
HaveGained tells (p ∷ ps) [] = ⊥
HaveGained tells (p ∷ ps) (q ∷ qs) = HasGained tells p q × HaveGained tells ps qs

module _ {D : Type 0} (tells : Bool) where
  gained_both : (p q r : ManagerPass D) → HasGained tells p q → HasGained tells q r → HasGained tells p r
  gained_both p q r a b = (a.0 ++ b.0, a.1 ++ b.1, gains_both tells p q r a.0 b.0 a.1 b.1 a.2 b.2)

  pub have_gained_both : (ps qs rs : List (ManagerPass D)) → HaveGained tells ps qs → HaveGained tells qs rs → HaveGained tells ps rs
  have_gained_both [] [] [] f g = tt
  have_gained_both [] [] (r ∷ rs) f g = absurd g
  have_gained_both [] (q ∷ qs) rs f g = absurd f
  have_gained_both (p ∷ ps) [] rs f g = absurd f
  have_gained_both (p ∷ ps) (q ∷ qs) [] f g = absurd g
  have_gained_both (p ∷ ps) (q ∷ qs) (r ∷ rs) f g = (gained_both p q r f.0 g.0, have_gained_both ps qs rs f.1 g.1)

  pub gained_honest : (ps qs : List (ManagerPass D)) → HaveGained tells ps qs → AreHonest tells ps → AreHonest tells qs
  gained_honest [] [] g honest k d h = absurd (omega (arith, h))
  gained_honest [] (q ∷ qs) g honest k d h = absurd g
  gained_honest (p ∷ ps) [] g honest k d h = absurd g
  gained_honest (p ∷ ps) (q ∷ qs) g honest zero d h = g.0.2.honest (honest 0 d (omega arith))
  gained_honest (p ∷ ps) (q ∷ qs) g honest (suc k) d h = gained_honest ps qs g.1 (λ j x i. honest (suc j) x (omega (arith, i))) k d (omega (arith, h))

  pub all_both : (worth : Bool → Look → Look → ℕ) (ps qs rs : List (ManagerPass D)) → HaveGained tells ps qs → HaveGained tells qs rs → all_between worth ps rs ≡ all_between worth ps qs + all_between worth qs rs
  all_both worth [] [] rs f g = omega arith
  all_both worth [] (q ∷ qs) rs f g = absurd f
  all_both worth (p ∷ ps) [] rs f g = absurd f
  all_both worth (p ∷ ps) (q ∷ qs) [] f g = absurd g
  all_both worth (p ∷ ps) (q ∷ qs) (r ∷ rs) f g =
      let one = between_both tells p q r f.0.0 g.0.0 f.0.1 g.0.1 f.0.2 g.0.2 worth in let rest = all_both worth ps qs rs f.1 g.1 in omega (arith, one, rest)

  -- ---- In a window

  closed_gained : (mode : Reclaim) (fault : _) (p q r : ManagerPass D) → HasGained tells p q → IsClosed tells mode fault q r → HasGained tells p r
  closed_gained reclaim.Off fault p q r a c = subst (HasGained tells p) (sym c.0) a
  closed_gained reclaim.Between fault p q r a c = gained_both p q r a (_, _, gains_turn tells q r c.before c.note c.turned)
  closed_gained reclaim.Beside fault p q r a c = gained_both p q r a (_, _, gains_turn tells q r c.before c.note c.turned)

  worked_gained : (rs : List Request) (os : List Outcome) (mode : Reclaim) (k : ℕ) (d e : Desk D) → HasWorked tells rs os mode k d e → HasGained tells d.worker e.worker
  worked_gained rs os mode k d e w = closed_gained mode e.fault d.worker w.middle e.worker (w.more, w.notes, w.gains) w.closed

  -- the workers' passes
  pub workers_gained : (ds es : List (Desk D)) → length es ≡ length ds → ((k : ℕ) (d : Desk D) → k < length ds → HasGained tells (get_or ds k d).worker (get_or es k d).worker)
      → HaveGained tells (map (λ (d : Desk D). d.worker) ds) (map (λ (d : Desk D). d.worker) es)
  workers_gained [] [] same h = tt
  workers_gained [] (e ∷ es) same h = absurd (omega (arith, same))
  workers_gained (d ∷ ds) [] same h = absurd (omega (arith, same))
  workers_gained (d ∷ ds) (e ∷ es) same h = (h 0 d (omega arith), workers_gained ds es (omega (arith, same)) (λ k x i. h (suc k) x (omega (arith, i))))

  pub window_gained : (rs : List Request) (os : List Outcome) (mode : Reclaim) (ds es : List (Desk D)) → length es ≡ length ds → AreWorked tells rs os mode ds es
      → HaveGained tells (map (λ (d : Desk D). d.worker) ds) (map (λ (d : Desk D). d.worker) es)
  window_gained rs os mode ds es same w = workers_gained ds es same (λ k d h. worked_gained rs os mode k (get_or ds k d) (get_or es k d) (w k d h))

-- ---- Totals

-- a window more was counted
pub counts_on : {D : Type 0} (tells : Bool) (ps qs rs hs is js : List (ManagerPass D)) (t w u : Tally) → HaveGained tells ps qs → HaveGained tells qs rs → HaveGained tells hs is → HaveGained tells is js
    → AreHonest tells ps → AreHonest tells hs
    → Counts (all_between put_home_by ps qs + all_between put_home_by hs is) (all_between dropped_by ps qs + all_between dropped_by hs is) t
    → (AreHonest tells qs → AreHonest tells is → Counts (all_between put_home_by qs rs + all_between put_home_by is js) (all_between dropped_by qs rs + all_between dropped_by is js) w)
    → u.blocks ≡ min (t.blocks + w.blocks) (2 ^ 64 - 1) → u.records ≡ min (t.records + w.records) (2 ^ 64 - 1)
    → Counts (all_between put_home_by ps rs + all_between put_home_by hs js) (all_between dropped_by ps rs + all_between dropped_by hs js) u
counts_on tells ps qs rs hs is js t w u f g h i honest helps before now blocks records =
    let window = now (gained_honest tells ps qs f honest) (gained_honest tells hs is h helps) in
    let a = all_both tells put_home_by ps qs rs f g in let b = all_both tells put_home_by hs is js h i in
    let c = all_both tells dropped_by ps qs rs f g in let d = all_both tells dropped_by hs is js h i in
    counts_is _ _ _ _ u (omega (arith, a, b)) (omega (arith, c, d)) (more_of _ _ w t u window (adds_up t u w.blocks w.records blocks records) _ _ before)

-- ---- A whole history

-- what a pass's own entries come to in the history that begins with what it saw, where the rest has none of them
pub all_added : {D : Type 0} (worth : Bool → Look → Look → ℕ) (p q : ManagerPass D) (history rest : List Entry) → pass_seen p ≡ [] → history ≡ pass_seen q ++ rest → own (pass_number p) rest ≡ []
    → added_up worth (pass_number p) (began p).look (notes_of history) ≡ added_between worth p q
all_added worth p q history rest none is others =
    let k : ℕ = pass_number p in let l : Look = (began p).look in
    let since : seen_since p q ≡ pass_seen q = ap (λ (es : List Entry). drop (length es) (pass_seen q)) none in
    let seen : last_look l (notes_seen p) ≡ l = ap (λ (es : List Entry). last_look l (notes_of es)) none in
    ap (λ (es : List Entry). added_up worth k l (notes_of es)) is
    ∙ ap (added_up worth k l) (notes_joined (pass_seen q) rest)
    ∙ added_joined worth k l (notes_of (pass_seen q)) (notes_of rest)
    ∙ ap (λ (n : ℕ). added_up worth k l (notes_of (pass_seen q)) + n) (others_nothing worth k (last_look l (notes_of (pass_seen q))) rest others)
    ∙ omega arith
    ∙ (λ i. added_up worth k (sym seen i) (notes_of (sym since i)))
