-- The sums over a journal, as it goes on.
use Rattle.std.proofs.Common.{◌≡◌, ◌+◌, ◌-◌, ℕ, suc, true, false, not, eqb, List, [], ◌∷◌, ◌++◌, cond, refl, ap, ◌∙◌, arith}
use Rattle.std.proofs.Math.Dec.{eqb-suc-zero}
use Rattle.std.proofs.lemmas.List.Sums.{sum_by-append, sum_by-cons}
use Rattle.wol_model.specs.declared.journal.Turned.{Turned}
use Rattle.wol_model.specs.declared.journal.Turned.TheVariants.{Down, Up}
use Rattle.wol_model.specs.Journal.{Alternates, is_empty, next_up, sleeps, standby, turns_up, wakes}

next_up_joined : (j k : List Turned) (to : ℕ) → next_up (j ++ k) to ≡ next_up j (next_up k to)
next_up_joined [] k to = refl
next_up_joined (Up at ∷ j) k to = refl
next_up_joined (Down at ∷ j) k to = next_up_joined j k to

-- the time in standby of a journal that goes on
standby_joined : (j k : List Turned) (to : ℕ) → standby (j ++ k) to ≡ standby j (next_up k to) + standby k to
standby_joined [] k to = omega arith
standby_joined (Up at ∷ j) k to = standby_joined j k to
standby_joined (Down at ∷ j) k to =
    let a = next_up_joined j k to in let b = standby_joined j k to in
    ap (λ (n : ℕ). n - at + standby (j ++ k) to) a ∙ omega (arith, b)

pub standby_down : (j : List Turned) (at to : ℕ) → standby (j ++ Down at ∷ []) to ≡ standby j to + (to - at)
standby_down j at to = let a = standby_joined j (Down at ∷ []) to in omega (arith, a)

pub standby_up : (j : List Turned) (at to : ℕ) → standby (j ++ Up at ∷ []) to ≡ standby j at
standby_up j at to = let a = standby_joined j (Up at ∷ []) to in omega (arith, a)

pub wakes_down : (j : List Turned) (at : ℕ) → wakes (j ++ Down at ∷ []) ≡ wakes j
wakes_down j at = let a = sum_by-append (λ (t : Turned). cond (turns_up t) 1 0) j (Down at ∷ []) in omega (arith, a)

pub wakes_up : (j : List Turned) (at : ℕ) → wakes (j ++ Up at ∷ []) ≡ wakes j + 1
wakes_up j at = let a = sum_by-append (λ (t : Turned). cond (turns_up t) 1 0) j (Up at ∷ []) in omega (arith, a)

pub sleeps_down : (j : List Turned) (at : ℕ) → sleeps (j ++ Down at ∷ []) ≡ sleeps j + 1
sleeps_down j at = let a = sum_by-append (λ (t : Turned). cond (not (turns_up t)) 1 0) j (Down at ∷ []) in omega (arith, a)

pub sleeps_up : (j : List Turned) (at : ℕ) → sleeps (j ++ Up at ∷ []) ≡ sleeps j
sleeps_up j at = let a = sum_by-append (λ (t : Turned). cond (not (turns_up t)) 1 0) j (Up at ∷ []) in omega (arith, a)

-- a journal that begins awake is empty where the disk never went down
pub empty_by_sleeps : (from : ℕ) (j : List Turned) (to : ℕ) → Alternates true from j to → eqb (sleeps j) 0 ≡ is_empty j
empty_by_sleeps from [] to a = refl
empty_by_sleeps from (Down at ∷ j) to a =
    let more : sleeps (Down at ∷ j) ≡ suc (sleeps j) = (let e = sum_by-cons (λ (t : Turned). cond (not (turns_up t)) 1 0) (Down at) j in omega (arith, e)) in
    ap (λ (n : ℕ). eqb n 0) more ∙ eqb-suc-zero (sleeps j)
empty_by_sleeps from (Up at ∷ j) to a = absurd (let e : true ≡ false = a.0 in cc)
