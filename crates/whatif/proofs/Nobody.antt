-- No request waits at all, or one waits as long as a disk takes to come up.
use Rattle.std.proofs.Common.{◌≡◌, ◌≤◌, ◌⊎◌, inl, inr, ⊎_elim, ℕ, zero, suc, Bool, true, false, cond, ◌||◌, List, [], ◌∷◌, ◌++◌, map, Option, None, Some, max, refl, ap, ◌∙◌, arith, eqb}
use Rattle.std.specs.Prelude.{slice_get}
use Rattle.std.specs.List.{AllByRecursion, list_any}
use Rattle.std.specs.Option.{option_map_or}
use Rattle.std.proofs.lemmas.Bool.{cases_lt, eq-eqb}
use Rattle.std.proofs.lemmas.List.Folds.{list_any-append}
use Rattle.std.proofs.lemmas.List.Sums.{sum_by-cons}
use Rattle.wol_model.specs.declared.journal.Turned.{Turned}
use Rattle.wol_model.specs.declared.journal.Turned.TheVariants.{Down, Up}
use Rattle.wol_model.specs.Blocks.{changed_at}
use Rattle.wol_model.specs.Journal.{SpindleState, Started, new_spindle, turns_up, used, wakes}
use Rattle.whatif.specs.declared.policy.Ask.{Ask}
use Rattle.whatif.specs.Laws.{LongestIsWake, ups_of}
use Rattle.whatif.specs.Machine as machine
use Rattle.whatif.specs.Machine.{Asked, Machine, Reach, Setting, accessed, after_turns, after_window, all_accessed, all_wakes, answering, asking, begun, first_machine, turned, turned_at}
use Rattle.whatif.specs.Policies.{setting_of, waits_by}
use Rattle.whatif.specs.Waits.{Waited, lag, lag_among, lag_behind, last_up, uses_of, wait_on, waits_among, waits_in}
use Rattle.whatif.proofs.Risers.{risers_wait}
use Rattle.whatif.proofs.Spinning.{wakes_up}
use Rattle.whatif.proofs.Windows.{begun_same, reclaim_same}

-- no disk ever came up
abbrev pub NoneRose : List SpindleState → Type 0
NoneRose ss = (k : ℕ) → ups_of ss k ≡ 0

none_sum : (ss : List SpindleState) → NoneRose ss → all_wakes ss ≡ 0
none_sum [] none = refl
none_sum (s ∷ ss) none =
    let parts = sum_by-cons (λ (x : SpindleState). wakes x.journal) s ss in
    let here : wakes s.journal ≡ 0 = none 0 in
    let rest = none_sum ss (λ k. none (suc k)) in
    omega (arith, parts, here, rest)

sum_none : (ss : List SpindleState) → all_wakes ss ≡ 0 → NoneRose ss
sum_none [] is k = refl
sum_none (s ∷ ss) is zero =
    let parts = sum_by-cons (λ (x : SpindleState). wakes x.journal) s ss in omega (arith, parts, is)
sum_none (s ∷ ss) is (suc k) =
    let parts = sum_by-cons (λ (x : SpindleState). wakes x.journal) s ss in sum_none ss (omega (arith, parts, is)) k

-- ---- lags

never_up : (j : List Turned) → wakes j ≡ 0 → last_up j ≡ None
never_up [] is = refl
never_up (Up at ∷ j) is = let parts = sum_by-cons (λ (t : Turned). cond (turns_up t) 1 0) (Up at) j in absurd (omega (arith, parts, is))
never_up (Down at ∷ j) is = never_up j is

no_lag : (wake : ℕ) (ss : List SpindleState) (d : ℕ) → NoneRose ss → lag_among wake ss d ≡ 0
no_lag wake ss d none = at (slice_get ss d) (none d)
  where
    at : (o : Option SpindleState) → option_map_or (λ (s : SpindleState). wakes s.journal) o 0 ≡ 0 → option_map_or (lag wake) o 0 ≡ 0
    at None is = refl
    at (Some s) is = ap (lag_behind wake s.now) (never_up s.journal is)

one_rise : (t : ℕ) (s : SpindleState) → wakes s.journal ≤ wakes (accessed t s).journal
one_rise t s = at s.awake
  where
    at : (b : Bool) → wakes s.journal ≤ wakes (cond b s.journal (s.journal ++ Up s.now ∷ []))
    at true = omega arith
    at false = let up = wakes_up s.journal s.now in omega (arith, up)

place_rise : (t d : ℕ) (ss : List SpindleState) (k : ℕ) → ups_of ss k ≤ ups_of (changed_at d (accessed t) ss) k
place_rise t d [] k = omega arith
place_rise t zero (s ∷ ss) zero = one_rise t s
place_rise t zero (s ∷ ss) (suc k) = omega arith
place_rise t (suc d) (s ∷ ss) zero = omega arith
place_rise t (suc d) (s ∷ ss) (suc k) = place_rise t d ss k

all_rise : (t : ℕ) (us : List ℕ) (ss : List SpindleState) (k : ℕ) → ups_of ss k ≤ ups_of (all_accessed t us ss) k
all_rise t [] ss k = omega arith
all_rise t (u ∷ us) ss k = let one = place_rise t u ss k in let rest = all_rise t us (changed_at u (accessed t) ss) k in omega (arith, one, rest)

no_wait : (t wake : ℕ) (us : List ℕ) (ss : List SpindleState) → NoneRose (all_accessed t us ss) → wait_on t wake us ss ≡ 0
no_wait t wake [] ss none = refl
no_wait t wake (d ∷ us) ss none =
    let after = changed_at d (accessed t) ss in
    let here : NoneRose after = λ k. (let le = all_rise t us after k in let is = none k in omega (arith, le, is)) in
    most (lag_among wake after d) (wait_on t wake us after) (no_lag wake after d here) (no_wait t wake us after none)
  where
    most : (a b : ℕ) → a ≡ 0 → b ≡ 0 → max a b ≡ 0
    most a b x y = omega arith

-- ---- requests and windows

abbrev AreZero : List Waited → Type 0
AreZero ws = AllByRecursion (λ (x : Waited). x.wait ≡ 0) ws

abbrev one_is : (wake : ℕ) → List Waited → Bool
one_is wake ws = list_any (λ (x : Waited). eqb x.wait wake) ws

zero_joined : (xs ys : List Waited) → AreZero xs → AreZero ys → AreZero (xs ++ ys)
zero_joined [] ys first then = then
zero_joined (x ∷ xs) ys first then = (first.0, zero_joined xs ys first.1 then)

or_left : (b c : Bool) → b ≡ true → (b || c) ≡ true
or_left b c is = ap (λ (x : Bool). x || c) is

or_right : (b c : Bool) → c ≡ true → (b || c) ≡ true
or_right true c is = refl
or_right false c is = is

-- one request
request_none : (t wake : ℕ) (a : Ask) (m : Machine) → NoneRose m.spindles → ((wait_on t wake (uses_of a m) m.spindles ≡ 0) × NoneRose (turned t (asking a) m).spindles) ⊎ (wait_on t wake (uses_of a m) m.spindles ≡ wake)
request_none t wake a m none = at (slice_get m.volumes a.volume)
  where
    at : (o : Option machine.Volume)
        → ((wait_on t wake (option_map_or (λ (v : machine.Volume). (answering a.kind a.lbn a.count v.reach v.look).uses) o []) m.spindles ≡ 0) × NoneRose (turned_at t (asking a) m o).spindles)
        ⊎ (wait_on t wake (option_map_or (λ (v : machine.Volume). (answering a.kind a.lbn a.count v.reach v.look).uses) o []) m.spindles ≡ wake)
    at None = inl (refl, none)
    at (Some v) =
        let us = (answering a.kind a.lbn a.count v.reach v.look).uses in
        let start = none_sum m.spindles none in
        ⊎_elim (λ rises. inr (risers_wait t wake us m.spindles rises))
        (λ same. let still : NoneRose (all_accessed t us m.spindles) = sum_none (all_accessed t us m.spindles) (omega (arith, same, start)) in inl (no_wait t wake us m.spindles still, still))
        (cases_lt (all_wakes m.spindles) (all_wakes (all_accessed t us m.spindles)))

requests_none : (t wake : ℕ) (asks : List Ask) (m : Machine) → NoneRose m.spindles → (AreZero (waits_among t wake asks m) × NoneRose (after_turns t (map asking asks) m).spindles) ⊎ (one_is wake (waits_among t wake asks m) ≡ true)
requests_none t wake [] m none = inl (tt, none)
requests_none t wake (a ∷ asks) m none =
    let next = turned t (asking a) m in let wait = wait_on t wake (uses_of a m) m.spindles in
    ⊎_elim
    (λ here. ⊎_elim (λ rest. inl ((here.0, rest.0), rest.1)) (λ rest. inr (or_right (eqb wait wake) (one_is wake (waits_among t wake asks next)) rest)) (requests_none t wake asks next here.1))
    (λ is. inr (or_left (eqb wait wake) (one_is wake (waits_among t wake asks next)) (eq-eqb wait wake is)))
    (request_none t wake a m none)

windows_none : (s : Setting) (wake : ℕ) (ws : List Asked) (m : Machine) → NoneRose m.spindles → AreZero (waits_in s wake ws m) ⊎ (one_is wake (waits_in s wake ws m) ≡ true)
windows_none s wake [] m none = inl tt
windows_none s wake (w ∷ ws) m none =
    let first = waits_among s.timeout wake w.asks (begun s w.moment m) in
    let then = waits_in s wake ws (after_window s w m) in
    let joined = list_any-append (λ (x : Waited). eqb x.wait wake) first then in
    ⊎_elim
    (λ here. ⊎_elim (λ rest. inl (zero_joined first then here.0 rest)) (λ rest. inr (joined ∙ or_right (one_is wake first) (one_is wake then) rest))
    (windows_none s wake ws (after_window s w m) (λ k. reclaim_same s w m k ∙ here.1 k)))
    (λ is. inr (joined ∙ or_left (one_is wake first) (one_is wake then) is))
    (requests_none s.timeout wake w.asks (begun s w.moment m) (λ k. begun_same s w.moment m k ∙ none k))

first_none : (t from : ℕ) (rs : List Reach) → NoneRose (map (λ r. used t new_spindle 0 (Started from)) rs)
first_none t from [] k = refl
first_none t from (r ∷ rs) zero = refl
first_none t from (r ∷ rs) (suc k) = first_none t from rs k

pub longest_is_wake : LongestIsWake
unfolding waits_by
longest_is_wake p c from ws = windows_none (setting_of p c) c.wake ws (first_machine (setting_of p c) from) (first_none c.timeout from (setting_of p c).reaches)
