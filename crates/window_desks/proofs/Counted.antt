-- What a window counts, from desk to desk.
use Rattle.std.proofs.Common.{◌≡◌, ◌<◌, ◌≤◌, ◌+◌, ◌-◌, ◌^◌, ℕ, zero, suc, Bool, List, [], ◌∷◌, map, length, get_or, set, min, Option, refl, sym, ap, subst, ◌∙◌, arith}
use Rattle.std.specs.Prelude.{sum_by}
use Rattle.std.proofs.lemmas.List.Sums.{sum_by-cons}
use Rattle.wol_promise.specs.Policy.{Look}
use Rattle.wol_promise.specs.Report.{put_home_by}
use Rattle.wol_promise.specs.Ruled.{Noted}
use Rattle.turn_lock.specs.Histories.{Entry}
use Rattle.manager.specs.declared.part.StepFault.{StepFault}
use Rattle.request_turns.specs.Counts.{Counts, CountsMore, HasCounted, added_between, blocks_between, records_between, dropped_by}
use Rattle.request_turns.specs.Helped.{HasHelped}
use Rattle.request_turns.specs.Turns.{ManagerPass, IsHonest, Gains}
use Rattle.request_turns.specs.declared.tally.Tally.{Tally}
use Rattle.request_turns.proofs.Counting.{more_is, more_both, counts_is, none_more, between_none, between_both, counted_both}
use Rattle.request_turns.proofs.Gaining.{gains_none, gains_turn}
use Rattle.window_desks.specs.Closed.{IsClosed}
use Rattle.window_desks.specs.Counted.{AreHonest, HaveCounted, all_between}
use Rattle.window_desks.specs.Helped.{AreHelped}
use Rattle.window_desks.specs.declared.desk.Desk.{Desk}
use Rattle.window_desks.specs.declared.request.Reclaim.{Reclaim}
use Rattle.window_desks.specs.declared.request.Reclaim.TheVariants as reclaim

-- ---- A desk

module _ {D : Type 0} (tells : Bool) (d e f : ManagerPass D) (more : List Entry) (notes : List Noted) (a : Gains tells d e more notes) (t u v : Tally) (first : HasCounted tells t u d e) where
  -- its requests, and then its reclaim turn
  pub closed_counted : (mode : Reclaim) (fault : Option StepFault) → IsClosed tells mode fault e f → HasCounted tells u v e f → HasCounted tells t v d f
  closed_counted reclaim.Off fault c then = subst (λ (q : ManagerPass D). HasCounted tells t v d q) (sym c.0)
      (counted_both tells d e e more [] notes [] a (gains_none tells e a.free) t u v first (subst (λ (q : ManagerPass D). HasCounted tells u v e q) c.0 then))
  closed_counted reclaim.Between fault c then = counted_both tells d e f more _ notes _ a (gains_turn tells e f c.before c.note c.turned) t u v first then
  closed_counted reclaim.Beside fault c then = counted_both tells d e f more _ notes _ a (gains_turn tells e f c.before c.note c.turned) t u v first then

-- turns of a helper
pub helped_counted : {D : Type 0} (tells : Bool) (p q r : ManagerPass D) (t u v : Tally) → HasHelped tells p q → HasHelped tells q r → HasCounted tells t u p q → HasCounted tells u v q r → HasCounted tells t v p r
helped_counted tells p q r t u v a b first then = counted_both tells p q r a.more b.more a.notes b.notes a.gains b.gains t u v first then

-- counted from nothing on
pub from_none : {D : Type 0} (tells : Bool) (p q : ManagerPass D) (t u : Tally) → Counts 0 0 t → HasCounted tells t u p q → IsHonest tells p → Counts (blocks_between p q) (records_between p q) u
from_none tells p q t u none more honest = counts_is (0 + blocks_between p q) (blocks_between p q) (0 + records_between p q) (records_between p q) u (omega arith) (omega arith) (more honest 0 0 none)

-- ---- Passes of all volumes

honest_rest : {D : Type 0} (tells : Bool) (p : ManagerPass D) (ps : List (ManagerPass D)) → AreHonest tells (p ∷ ps) → AreHonest tells ps
honest_rest tells p ps h k d i = h (suc k) d (omega (arith, i))

module _ {D : Type 0} (worth : Bool → Look → Look → ℕ) where
  none_between : (ps : List (ManagerPass D)) → all_between worth ps ps ≡ 0
  none_between [] = refl
  none_between (p ∷ ps) = let a = between_none worth p in let b = none_between ps in omega (arith, a, b)

  -- one of them goes on
  set_between : (is ps : List (ManagerPass D)) (k : ℕ) (p q : ManagerPass D) → length ps ≡ length is → k < length ps → get_or ps k p ≡ p → get_or is k p ≡ p
      → all_between worth is (set ps k q) ≡ all_between worth is ps + added_between worth p q
  set_between is [] k p q same h at was = absurd (omega (arith, h))
  set_between [] (x ∷ ps) k p q same h at was = absurd (omega (arith, same))
  set_between (i ∷ is) (x ∷ ps) zero p q same h at was =
      let none : added_between worth i x ≡ 0 = (λ j. added_between worth (was j) (at j)) ∙ between_none worth p in
      let here : added_between worth i q ≡ added_between worth p q = ap (λ (r : ManagerPass D). added_between worth r q) was in
      omega (arith, none, here)
  set_between (i ∷ is) (x ∷ ps) (suc k) p q same h at was = let rest = set_between is ps k p q (omega (arith, same)) (omega (arith, h)) at was in omega (arith, rest)

  module _ (tells : Bool) where
    between_all : (ps qs rs : List (ManagerPass D)) → length qs ≡ length ps → length rs ≡ length ps → AreHelped tells ps qs → AreHelped tells qs rs
        → all_between worth ps rs ≡ all_between worth ps qs + all_between worth qs rs
    between_all [] qs rs e f g h = by qs e
      where
        by : (qs : List (ManagerPass D)) → length qs ≡ 0 → 0 ≡ 0 + all_between worth qs rs
        by [] e = refl
        by (q ∷ qs) e = absurd (omega (arith, e))
    between_all (p ∷ ps) [] rs e f g h = absurd (omega (arith, e))
    between_all (p ∷ ps) (q ∷ qs) [] e f g h = absurd (omega (arith, f))
    between_all (p ∷ ps) (q ∷ qs) (r ∷ rs) e f g h =
        let a : HasHelped tells p q = g 0 p (omega arith) in let b : HasHelped tells q r = h 0 q (omega arith) in
        let one = between_both tells p q r a.more b.more a.notes b.notes a.gains b.gains worth in
        let rest = between_all ps qs rs (omega (arith, e)) (omega (arith, f)) (λ k d i. g (suc k) d (omega (arith, i))) (λ k d i. h (suc k) d (omega (arith, i))) in
        omega (arith, one, rest)

module _ {D : Type 0} (tells : Bool) where
  pub have_none : (ps : List (ManagerPass D)) (t : Tally) → HaveCounted tells t t ps ps
  have_none ps t = record { more = λ honest. more_is 0 _ 0 _ t t (sym (none_between put_home_by ps)) (sym (none_between dropped_by ps)) (none_more t) }

  honest_helped : (ps qs : List (ManagerPass D)) → length qs ≡ length ps → AreHelped tells ps qs → AreHonest tells ps → AreHonest tells qs
  honest_helped ps qs e g h k d i = let j = subst (λ (n : ℕ). k < n) e i in (g k d j).gains.honest (h k d j)

  -- rounds, one after another
  pub have_both : (ps qs rs : List (ManagerPass D)) (t u v : Tally) → length qs ≡ length ps → length rs ≡ length ps → AreHelped tells ps qs → AreHelped tells qs rs
      → HaveCounted tells t u ps qs → HaveCounted tells u v qs rs → HaveCounted tells t v ps rs
  have_both ps qs rs t u v e f g h a b = record {
    more = λ honest. more_is _ _ _ _ t v (sym (between_all put_home_by tells ps qs rs e f g h)) (sym (between_all dropped_by tells ps qs rs e f g h)) (more_both _ _ _ _ t u v (a.more honest) (b.more (honest_helped ps qs e g honest)));
  }

  -- one volume more in a round
  pub have_set : (is ps : List (ManagerPass D)) (k : ℕ) (p q : ManagerPass D) (t u v : Tally) → length ps ≡ length is → k < length ps → p ≡ get_or ps k p
      → ((j : ℕ) (d : ManagerPass D) → k ≤ j → get_or ps j d ≡ get_or is j d) → HaveCounted tells t u is ps → HasCounted tells u v p q → HaveCounted tells t v is (set ps k q)
  have_set is ps k p q t u v e within at rest a b =
      let was : get_or is k p ≡ p = sym (rest k p (omega arith)) ∙ sym at in
      let i : k < length is = subst (λ (n : ℕ). k < n) e within in record {
        more = λ honest. more_is _ _ _ _ t v (sym (set_between put_home_by is ps k p q e within (sym at) was)) (sym (set_between dropped_by is ps k p q e within (sym at) was))
            (more_both _ _ _ _ t u v (a.more honest) (b (subst (IsHonest tells) was (honest k p i))));
      }

-- ---- The window

-- sums that end alike
abbrev EndAlike : (top x y : ℕ) → Type 0
EndAlike top x y = (a : ℕ) → min (a + x) top ≡ min (a + y) top

alike_both : (top x y v w : ℕ) → EndAlike top x y → EndAlike top v w → EndAlike top (x + v) (y + w)
alike_both top x y v w f g a = let first = f (a + v) in let then = g (a + y) in omega (arith, first, then)

alike_one : (top x b : ℕ) → x ≡ min b top → EndAlike top x b
alike_one top x b is a = omega (arith, is)

pub more_alike : (b c r s : ℕ) (t u : Tally) → EndAlike (2 ^ 64 - 1) b c → EndAlike (2 ^ 64 - 1) r s → CountsMore b r t u → CountsMore c s t u
more_alike b c r s t u f g more x y h = let m = more x y h in record { blocks_ = m.blocks_ ∙ f x; records_ = m.records_ ∙ g y }

alike_sum : {X : Type 0} (top : ℕ) (f : X → ℕ) (x : X) (xs : List X) (b y : ℕ) → f x ≡ min b top → EndAlike top (sum_by f xs) y → EndAlike top (sum_by f (x ∷ xs)) (b + y)
alike_sum top f x xs b y is rest = subst (λ (n : ℕ). EndAlike top n (b + y)) (sym (sum_by-cons f x xs)) (alike_both top (f x) b (sum_by f xs) y (alike_one top (f x) b is) rest)

module _ {D : Type 0} (tells : Bool) where
  desks_alike : (ds es : List (Desk D)) → length es ≡ length ds
      → ((k : ℕ) (d : Desk D) → k < length ds → IsHonest tells (get_or ds k d).worker → Counts (blocks_between (get_or ds k d).worker (get_or es k d).worker) (records_between (get_or ds k d).worker (get_or es k d).worker) (get_or es k d).tally)
      → AreHonest tells (map (λ (d : Desk D). d.worker) ds)
      → EndAlike (2 ^ 64 - 1) (sum_by (λ (d : Desk D). d.tally.blocks) es) (all_between put_home_by (map (λ (d : Desk D). d.worker) ds) (map (λ (d : Desk D). d.worker) es))
      × EndAlike (2 ^ 64 - 1) (sum_by (λ (d : Desk D). d.tally.records) es) (all_between dropped_by (map (λ (d : Desk D). d.worker) ds) (map (λ (d : Desk D). d.worker) es))
  desks_alike [] [] same counts honest = ((λ a. refl), (λ a. refl))
  desks_alike [] (e ∷ es) same counts honest = absurd (omega (arith, same))
  desks_alike (d ∷ ds) [] same counts honest = absurd (omega (arith, same))
  desks_alike (d ∷ ds) (e ∷ es) same counts honest =
      let one = counts 0 d (omega arith) (honest 0 d.worker (omega arith)) in
      let rest = desks_alike ds es (omega (arith, same)) (λ k x i. counts (suc k) x (omega (arith, i))) (honest_rest tells d.worker (map (λ (x : Desk D). x.worker) ds) honest) in (
        alike_sum (2 ^ 64 - 1) (λ (x : Desk D). x.tally.blocks) e es _ _ one.blocks_ rest.0,
        alike_sum (2 ^ 64 - 1) (λ (x : Desk D). x.tally.records) e es _ _ one.records_ rest.1,
      )

  pub window_counts : (ds es : List (Desk D)) (ps qs : List (ManagerPass D)) (t u w : Tally) → length es ≡ length ds
      → ((k : ℕ) (d : Desk D) → k < length ds → IsHonest tells (get_or ds k d).worker → Counts (blocks_between (get_or ds k d).worker (get_or es k d).worker) (records_between (get_or ds k d).worker (get_or es k d).worker) (get_or es k d).tally)
      → Counts 0 0 t → HaveCounted tells t u ps qs → CountsMore (sum_by (λ (d : Desk D). d.tally.blocks) es) (sum_by (λ (d : Desk D). d.tally.records) es) u w
      → AreHonest tells (map (λ (d : Desk D). d.worker) ds) → AreHonest tells ps
      → Counts (all_between put_home_by (map (λ (d : Desk D). d.worker) ds) (map (λ (d : Desk D). d.worker) es) + all_between put_home_by ps qs)
      (all_between dropped_by (map (λ (d : Desk D). d.worker) ds) (map (λ (d : Desk D). d.worker) es) + all_between dropped_by ps qs) w
  window_counts ds es ps qs t u w same counts none helped more honest helps =
      let alike = desks_alike ds es same counts honest in
      let first = helped.more helps 0 0 none in
      let all = more_alike _ _ _ _ u w alike.0 alike.1 more (0 + all_between put_home_by ps qs) (0 + all_between dropped_by ps qs) first in
      counts_is _ _ _ _ w (omega arith) (omega arith) all
