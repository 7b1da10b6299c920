-- Window by window: reclaim wakes no disk, and each disk that comes up lets a request wait.
use Rattle.std.proofs.Common.{◌≡◌, ◌<◌, ◌+◌, inl, inr, ℕ, zero, suc, Bool, true, false, cond, ◌||◌, List, [], ◌∷◌, ◌++◌, map, length, Option, None, Some, max, refl, ap, ◌∙◌, arith, eqb}
use Rattle.std.specs.Prelude.{slice_get}
use Rattle.std.specs.List.{list_any, range_with_len}
use Rattle.std.specs.Option.{option_map_or}
use Rattle.std.proofs.lemmas.Bool.{cases_lt, eq-eqb}
use Rattle.wol_model.specs.Blocks.{changed_at}
use Rattle.wol_model.specs.declared.journal.Turned.TheVariants.{Down}
use Rattle.wol_model.specs.Journal.{SpindleState, Began, used, wakes}
use Rattle.whatif.specs.declared.policy.Ask.{Ask}
use Rattle.whatif.specs.Laws.{EachUpIsWaited, ReclaimWakesNone, ups_of}
use Rattle.whatif.specs.Machine as machine
use Rattle.whatif.specs.Machine.{Asked, Machine, Setting, Turn, accessed, after_turns, after_window, all_accessed, answering, asking, begun, tidying, turned, turned_at}
use Rattle.whatif.specs.Policies.{machine_after, setting_of}
use Rattle.whatif.specs.Waits.{Waited, lag_among, uses_of, wait_on, waits_among}
use Rattle.whatif.proofs.Longest.{among_short, wait_short}
use Rattle.whatif.proofs.Risers.{most_first, most_then, one_rises}
use Rattle.whatif.proofs.Showing.{AreShown, all_seen, answering_shown, asked_shown, tidied_shown}
use Rattle.whatif.proofs.Spinning.{wakes_down}
use Rattle.whatif.proofs.Turning.{one_window}

-- ---- reclaim

pub requests_shown : (t : ℕ) (asks : List Ask) (m : Machine) → AreShown m.spindles m.volumes → AreShown (after_turns t (map asking asks) m).spindles (after_turns t (map asking asks) m).volumes
requests_shown t [] m all = all
requests_shown t (a ∷ asks) m all = requests_shown t asks (turned t (asking a) m) (asked_shown t (asking a) (λ ss r l shown. answering_shown t a.kind a.lbn a.count ss r l shown) m all)

tidied_all : (t : ℕ) (ns : List ℕ) (m : Machine) (k : ℕ) → AreShown m.spindles m.volumes → ups_of (after_turns t (map tidying ns) m).spindles k ≡ ups_of m.spindles k
tidied_all t [] m k all = refl
tidied_all t (n ∷ ns) m k all = let one = tidied_shown t n m all in tidied_all t ns (turned t (tidying n) m) k one.0 ∙ one.1 k

pub reclaim_same : (s : Setting) (w : Asked) (m : Machine) (k : ℕ) → ups_of (after_window s w m).spindles k ≡ ups_of (after_turns s.timeout (map asking w.asks) (begun s w.moment m)).spindles k
reclaim_same s w m k = tidied_all s.timeout (range_with_len 0 (length m.volumes)) (after_turns s.timeout (map asking w.asks) (begun s w.moment m)) k
    (requests_shown s.timeout w.asks (begun s w.moment m) (all_seen (begun s w.moment m).spindles m.volumes))

pub reclaim_wakes_none : ReclaimWakesNone
reclaim_wakes_none p c from ws w d = ap (λ (m : Machine). ups_of m.spindles d) (one_window p c from ws w) ∙ reclaim_same (setting_of p c) w (machine_after p c from ws) d

-- ---- a window begins

began_same : (t at : ℕ) (s : SpindleState) → wakes (used t s 0 (Began at)).journal ≡ wakes s.journal
began_same t at s = by _
  where
    later : SpindleState
    later = record s { now = max at s.now }

    asleep : SpindleState
    asleep = record later { awake = false; journal = s.journal ++ Down (s.last_use + t) ∷ [] }

    by : (b : Bool) → wakes (cond b asleep later).journal ≡ wakes s.journal
    by true = wakes_down s.journal (s.last_use + t)
    by false = refl

mapped_same : (f : SpindleState → SpindleState) → ((s : SpindleState) → wakes (f s).journal ≡ wakes s.journal) → (ss : List SpindleState) (k : ℕ) → ups_of (map f ss) k ≡ ups_of ss k
mapped_same f same [] k = refl
mapped_same f same (s ∷ ss) zero = same s
mapped_same f same (s ∷ ss) (suc k) = mapped_same f same ss k

pub begun_same : (s : Setting) (at : ℕ) (m : Machine) (k : ℕ) → ups_of (begun s at m).spindles k ≡ ups_of m.spindles k
begun_same s at m k = by s.sleeps
  where
    by : (b : Bool) → ups_of (cond b (map (λ d. used s.timeout d 0 (Began at)) m.spindles) m.spindles) k ≡ ups_of m.spindles k
    by true = mapped_same (λ d. used s.timeout d 0 (Began at)) (began_same s.timeout at) m.spindles k
    by false = refl

-- ---- a disk that comes up

place_rises : (t wake d : ℕ) (ss : List SpindleState) (k : ℕ) → ups_of ss k < ups_of (changed_at d (accessed t) ss) k → lag_among wake (changed_at d (accessed t) ss) d ≡ wake
place_rises t wake d [] k rises = absurd (omega (arith, rises))
place_rises t wake zero (s ∷ ss) zero rises = one_rises t wake s rises
place_rises t wake zero (s ∷ ss) (suc k) rises = absurd (omega (arith, rises))
place_rises t wake (suc d) (s ∷ ss) zero rises = absurd (omega (arith, rises))
place_rises t wake (suc d) (s ∷ ss) (suc k) rises = place_rises t wake d ss k rises

uses_rise : (t wake : ℕ) (us : List ℕ) (ss : List SpindleState) (k : ℕ) → ups_of ss k < ups_of (all_accessed t us ss) k → wait_on t wake us ss ≡ wake
uses_rise t wake [] ss k rises = absurd (omega (arith, rises))
uses_rise t wake (d ∷ us) ss k rises =
    let after = changed_at d (accessed t) ss in
    elim (cases_lt (ups_of ss k) (ups_of after k)) [
      | inl here ↦ most_first (lag_among wake after d) (wait_on t wake us after) wake (place_rises t wake d ss k here) (wait_short t wake us after)
      | inr none ↦ most_then (lag_among wake after d) (wait_on t wake us after) wake (among_short wake (slice_get after d)) (uses_rise t wake us after k (omega (arith, none, rises)))
    ]

request_rises : (t wake : ℕ) (a : Ask) (m : Machine) (k : ℕ) → ups_of m.spindles k < ups_of (turned t (asking a) m).spindles k → wait_on t wake (uses_of a m) m.spindles ≡ wake
request_rises t wake a m k rises = at (slice_get m.volumes a.volume) rises
  where
    at : (o : Option machine.Volume) → ups_of m.spindles k < ups_of (turned_at t (asking a) m o).spindles k → wait_on t wake (option_map_or (λ (v : machine.Volume). (answering a.kind a.lbn a.count v.reach v.look).uses) o []) m.spindles ≡ wake
    at None rises = absurd (omega (arith, rises))
    at (Some v) rises = uses_rise t wake (answering a.kind a.lbn a.count v.reach v.look).uses m.spindles k rises

abbrev is_wake : (wake : ℕ) → Waited → Bool
is_wake wake x = eqb x.wait wake

pub requests_rise : (t wake : ℕ) (asks : List Ask) (m : Machine) (k : ℕ) → ups_of m.spindles k < ups_of (after_turns t (map asking asks) m).spindles k → list_any (λ (x : Waited). eqb x.wait wake) (waits_among t wake asks m) ≡ true
requests_rise t wake [] m k rises = absurd (omega (arith, rises))
requests_rise t wake (a ∷ asks) m k rises =
    let next = turned t (asking a) m in
    elim (cases_lt (ups_of m.spindles k) (ups_of next.spindles k)) [
      | inl here ↦ ap (λ (b : Bool). b || list_any (λ (x : Waited). eqb x.wait wake) (waits_among t wake asks next)) (eq-eqb (wait_on t wake (uses_of a m) m.spindles) wake (request_rises t wake a m k here))
      | inr none ↦ later (eqb (wait_on t wake (uses_of a m) m.spindles) wake) (requests_rise t wake asks next k (omega (arith, none, rises)))
    ]
  where
    later : (b : Bool) → list_any (λ (x : Waited). eqb x.wait wake) (waits_among t wake asks (turned t (asking a) m)) ≡ true → (b || list_any (λ (x : Waited). eqb x.wait wake) (waits_among t wake asks (turned t (asking a) m))) ≡ true
    later true is = refl
    later false is = is

pub each_up_is_waited : EachUpIsWaited
each_up_is_waited p c from ws w d rises =
    let m = machine_after p c from ws in
    let whole = reclaim_wakes_none p c from ws w d in
    let start = begun_same (setting_of p c) w.moment m d in
    requests_rise c.timeout c.wake w.asks (begun (setting_of p c) w.moment m) d (omega (arith, rises, whole, start))
