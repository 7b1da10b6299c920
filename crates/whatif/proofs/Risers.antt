-- A request for whose uses a disk comes up waits as long as that takes.
use Rattle.std.proofs.Common.{◌≡◌, ◌<◌, ◌≤◌, ◌-◌, inl, inr, ℕ, zero, suc, Bool, true, false, cond, List, [], ◌∷◌, ◌++◌, Some, max, refl, ap, ◌∙◌, arith}
use Rattle.std.specs.Prelude.{slice_get}
use Rattle.std.proofs.lemmas.Bool.{cases_lt}
use Rattle.std.proofs.lemmas.List.Sums.{sum_by-cons}
use Rattle.wol_model.specs.declared.journal.Turned.TheVariants.{Up}
use Rattle.wol_model.specs.Blocks.{changed_at}
use Rattle.wol_model.specs.Journal.{SpindleState, wakes}
use Rattle.whatif.specs.Laws.{RisersWait}
use Rattle.whatif.specs.Machine.{accessed, all_wakes}
use Rattle.whatif.specs.Waits.{lag, lag_among, lag_behind, last_up, wait_on}
use Rattle.whatif.proofs.Longest.{among_short, wait_short}
use Rattle.whatif.proofs.Spinning.{last_up_up}

-- ---- one disk

-- a disk that is used comes up, or was awake
pub one_rises : (timeout wake : ℕ) (s : SpindleState) → wakes s.journal < wakes (accessed timeout s).journal → lag wake (accessed timeout s) ≡ wake
one_rises timeout wake s rises = by s.awake refl
  where
    by : (up : Bool) → s.awake ≡ up → lag wake (accessed timeout s) ≡ wake
    by true is =
        let same : wakes (accessed timeout s).journal ≡ wakes s.journal = ap (λ (b : Bool). wakes (cond b s.journal (s.journal ++ Up s.now ∷ []))) is in
        absurd (omega (arith, rises, same))
    by false is =
        let up : last_up (accessed timeout s).journal ≡ Some s.now = ap (λ (b : Bool). last_up (cond b s.journal (s.journal ++ Up s.now ∷ []))) is ∙ last_up_up s.journal s.now in
        ap (lag_behind wake s.now) up ∙ at wake s.now
      where
        at : (n t : ℕ) → n - (t - t) ≡ n
        at n t = omega arith

-- .. among others
place_rises : (timeout wake : ℕ) (d : ℕ) (ss : List SpindleState) → all_wakes ss < all_wakes (changed_at d (accessed timeout) ss) → lag_among wake (changed_at d (accessed timeout) ss) d ≡ wake
place_rises timeout wake d [] rises = absurd (omega (arith, rises))
place_rises timeout wake zero (s ∷ ss) rises =
    let count = λ (x : SpindleState). wakes x.journal in
    let before = sum_by-cons count s ss in
    let after = sum_by-cons count (accessed timeout s) ss in
    one_rises timeout wake s (omega (arith, rises, before, after))
place_rises timeout wake (suc d) (s ∷ ss) rises =
    let count = λ (x : SpindleState). wakes x.journal in
    let before = sum_by-cons count s ss in
    let after = sum_by-cons count s (changed_at d (accessed timeout) ss) in
    place_rises timeout wake d ss (omega (arith, rises, before, after))

-- ---- disks that are used one after another

pub most_first : (a b wake : ℕ) → a ≡ wake → b ≤ wake → max a b ≡ wake
most_first a b wake x y = omega arith

pub most_then : (a b wake : ℕ) → a ≤ wake → b ≡ wake → max a b ≡ wake
most_then a b wake x y = omega arith

pub risers_wait : RisersWait
risers_wait timeout wake [] ss rises = absurd (omega (arith, rises))
risers_wait timeout wake (d ∷ uses) ss rises =
    let after = changed_at d (accessed timeout) ss in
    elim (cases_lt (all_wakes ss) (all_wakes after)) [
      | inl here ↦ most_first (lag_among wake after d) (wait_on timeout wake uses after) wake (place_rises timeout wake d ss here) (wait_short timeout wake uses after)
      | inr none ↦ most_then (lag_among wake after d) (wait_on timeout wake uses after) wake (among_short wake (slice_get after d)) (risers_wait timeout wake uses after (omega (arith, none, rises)))
    ]
