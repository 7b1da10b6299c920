-- The sums of a disk are those of its journal, and stay so.
use Rattle.std.proofs.Common.{◌≡◌, ◌<◌, ◌≤◌, ◌+◌, ◌-◌, ℕ, zero, suc, Bool, true, false, cond, List, [], ◌∷◌, ◌++◌, length, Option, Some, refl, sym, ap, subst, ◌∙◌, arith, max, eqb, get_or}
use Rattle.std.specs.Prelude.{slice_get, slice_set, nat_le, not, ◌&&◌}
use Rattle.std.specs.List.{filter}
use Rattle.std.proofs.lemmas.Option.{none-some, same_Some}
use Rattle.std.proofs.lemmas.Bool.{false≢true, le-leb, lt-leb}
use Rattle.std.proofs.lemmas.List.Sums.{sum_by-append}
use Rattle.wol_model.specs.declared.journal.Turned.{Turned}
use Rattle.wol_model.specs.declared.journal.Turned.TheVariants.{Down, Up}
use Rattle.wol_model.specs.Journal.{SpindleState, Began, used, is_empty, standby, wakes, sleeps, next_up, turns_up}
use Rattle.whatif.specs.declared.disk.Disk.{Disk}
use Rattle.whatif.specs.Disks.{AreDisks, IsDisk, moments_of, standby_of}
use Rattle.wol_model.specs.Blocks.{changed_at}
use Rattle.whatif.specs.Machine.{accessed}
use Rattle.whatif.specs.Waits.{last_up}
use Rattle.std.specs.Option.{option_map_or}

next_up_joined : (j k : List Turned) (to : ℕ) → next_up (j ++ k) to ≡ next_up j (next_up k to)
next_up_joined [] k to = refl
next_up_joined (Up at ∷ j) k to = refl
next_up_joined (Down at ∷ j) k to = next_up_joined j k to

-- the time in standby of a journal that goes on
pub standby_joined : (j k : List Turned) (to : ℕ) → standby (j ++ k) to ≡ standby j (next_up k to) + standby k to
standby_joined [] k to = omega arith
standby_joined (Up at ∷ j) k to = standby_joined j k to
standby_joined (Down at ∷ j) k to =
    let a = next_up_joined j k to in let b = standby_joined j k to in
    ap (λ (n : ℕ). n - at + standby (j ++ k) to) a ∙ omega (arith, b)

pub standby_down : (j : List Turned) (at to : ℕ) → standby (j ++ Down at ∷ []) to ≡ standby j to + (to - at)
standby_down j at to = let a = standby_joined j (Down at ∷ []) to in omega (arith, a)

pub standby_up : (j : List Turned) (at to : ℕ) → standby (j ++ Up at ∷ []) to ≡ standby j at
standby_up j at to = let a = standby_joined j (Up at ∷ []) to in omega (arith, a)

pub wakes_down : (j : List Turned) (at : ℕ) → wakes (j ++ Down at ∷ []) ≡ wakes j
wakes_down j at = let a = sum_by-append (λ (t : Turned). cond (turns_up t) 1 0) j (Down at ∷ []) in omega (arith, a)

pub wakes_up : (j : List Turned) (at : ℕ) → wakes (j ++ Up at ∷ []) ≡ wakes j + 1
wakes_up j at = let a = sum_by-append (λ (t : Turned). cond (turns_up t) 1 0) j (Up at ∷ []) in omega (arith, a)

pub sleeps_down : (j : List Turned) (at : ℕ) → sleeps (j ++ Down at ∷ []) ≡ sleeps j + 1
sleeps_down j at = let a = sum_by-append (λ (t : Turned). cond (not (turns_up t)) 1 0) j (Down at ∷ []) in omega (arith, a)

pub sleeps_up : (j : List Turned) (at : ℕ) → sleeps (j ++ Up at ∷ []) ≡ sleeps j
sleeps_up j at = let a = sum_by-append (λ (t : Turned). cond (not (turns_up t)) 1 0) j (Up at ∷ []) in omega (arith, a)

-- the last time up of a journal that goes on
pub last_up_down : (j : List Turned) (at : ℕ) → last_up (j ++ Down at ∷ []) ≡ last_up j
last_up_down [] at = refl
last_up_down (Up x ∷ j) at = ap (λ (o : Option ℕ). Some (option_map_or (λ (u : ℕ). u) o x)) (last_up_down j at)
last_up_down (Down x ∷ j) at = last_up_down j at

pub last_up_up : (j : List Turned) (at : ℕ) → last_up (j ++ Up at ∷ []) ≡ Some at
last_up_up [] at = refl
last_up_up (Up x ∷ j) at = ap (λ (o : Option ℕ). Some (option_map_or (λ (u : ℕ). u) o x)) (last_up_up j at)
last_up_up (Down x ∷ j) at = last_up_up j at

-- one disk is used
pub disk_changed : (t : ℕ) (ds : List Disk) (ss : List SpindleState) (k : ℕ) (d e : Disk) → ((s : SpindleState) → IsDisk d s → IsDisk e (accessed t s)) → slice_get ds k ≡ Some d → AreDisks ds ss → AreDisks (slice_set ds k e) (changed_at k (accessed t) ss)
disk_changed t [] ss k d e so is zip = absurd (none-some d is)
disk_changed t (x ∷ ds) [] k d e so is zip = absurd zip
disk_changed t (x ∷ ds) (s ∷ ss) zero d e so is zip = (so s (subst (λ (y : Disk). IsDisk y s) (same_Some x d is) zip.0), zip.1)
disk_changed t (x ∷ ds) (s ∷ ss) (suc k) d e so is zip = (zip.0, disk_changed t ds ss k d e so is zip.1)

-- no moment came
pub moments_kept : (ds : List Disk) (k : ℕ) (d e : Disk) → e.moment ≡ d.moment → slice_get ds k ≡ Some d → moments_of (slice_set ds k e) ≡ moments_of ds
moments_kept [] k d e same is = refl
moments_kept (x ∷ ds) zero d e same is = λ i. (same ∙ ap (λ (y : Disk). y.moment) (sym (same_Some x d is))) i ∷ moments_of ds
moments_kept (x ∷ ds) (suc k) d e same is = λ i. x.moment ∷ moments_kept ds k d e same is i

-- ---- a moment comes

module _ (d : Disk) (s : SpindleState) (at timeout : ℕ) (is : IsDisk d s) where
  abbrev test : Bool
  test = s.awake && (is_empty s.needing && nat_le (s.last_use + timeout) (max at s.now))

  abbrev later : SpindleState
  later = record s { now = max at s.now }

  abbrev asleep : SpindleState
  asleep = record later { awake = false; journal = s.journal ++ Down (s.last_use + timeout) ∷ [] }

  -- it goes down at the end of the timeout
  pub goes_down : (e : Disk) → e ≡ record d { moment = max at d.moment; awake = false; since = d.since + timeout; sleeps = d.sleeps + 1 } → d.awake ≡ true → d.since + timeout ≤ max at d.moment → IsDisk e (used timeout s 0 (Began at))
  goes_down e same up idle = subst (λ (x : Disk). IsDisk x (used timeout s 0 (Began at))) (sym same) (subst (λ (t : Bool). IsDisk (record d { moment = max at d.moment; awake = false; since = d.since + timeout; sleeps = d.sleeps + 1 }) (cond t asleep later)) (sym yes) here)
    where
      last : s.last_use ≡ d.since
      last = is.last_use up

      yes : test ≡ true
      yes = (λ i. (is.awake ∙ up) i && (is_empty (is.needing i) && nat_le (last i + timeout) (max at (is.moment i)))) ∙ le-leb (d.since + timeout) (max at d.moment) idle

      here : IsDisk (record d { moment = max at d.moment; awake = false; since = d.since + timeout; sleeps = d.sleeps + 1 }) asleep
      here = record {
        from = is.from;
        moment = ap (max at) is.moment;
        awake = refl;
        last_use = λ no. absurd (false≢true no);
        needing = is.needing;
        wakes = wakes_down s.journal (s.last_use + timeout) ∙ is.wakes;
        sleeps = sleeps_down s.journal (s.last_use + timeout) ∙ ap (λ (n : ℕ). n + 1) is.sleeps;
        raised = last_up_down s.journal (s.last_use + timeout) ∙ is.raised;
        standby = λ to. standby_down s.journal (s.last_use + timeout) to ∙ (λ i. (is.standby to ∙ (λ j. standby_of d (up j) to)) i + (to - (last i + timeout)));
      }

  -- or stays as it is
  pub stays : (e : Disk) → e ≡ record d { moment = max at d.moment } → (d.awake ≡ true → max at d.moment < d.since + timeout) → IsDisk e (used timeout s 0 (Began at))
  stays e same busy = subst (λ (x : Disk). IsDisk x (used timeout s 0 (Began at))) (sym same) (subst (λ (t : Bool). IsDisk (record d { moment = max at d.moment }) (cond t asleep later)) (sym no) (record {
    from = is.from;
    moment = ap (max at) is.moment;
    awake = is.awake;
    last_use = is.last_use;
    needing = is.needing;
    wakes = is.wakes;
    sleeps = is.sleeps;
    standby = λ to. is.standby to ∙ kept d.awake to;
    raised = is.raised;
  }))
    where
      kept : (t : Bool) (to : ℕ) → standby_of d t to ≡ standby_of (record d { moment = max at d.moment }) t to
      kept true to = refl
      kept false to = refl

      tests : (t : Bool) → d.awake ≡ t → (t && nat_le (s.last_use + timeout) (max at s.now)) ≡ false
      tests false is_asleep = refl
      tests true up = (λ i. nat_le (is.last_use up i + timeout) (max at (is.moment i))) ∙ lt-leb (d.since + timeout) (max at d.moment) (busy up)

      no : test ≡ false
      no = (λ i. is.awake i && (is_empty (is.needing i) && nat_le (s.last_use + timeout) (max at s.now))) ∙ tests d.awake refl

-- ---- a use

done_again : (needing : List ℕ) → needing ≡ [] → filter (λ p. not (eqb p 0)) (0 ∷ needing) ≡ []
done_again needing is = ap (λ (l : List ℕ). filter (λ p. not (eqb p 0)) (0 ∷ l)) is

-- it comes up for a use
pub comes_up : (d e : Disk) (timeout : ℕ) (s : SpindleState) → e ≡ record d { awake = true; since = d.moment; wakes = d.wakes + 1; standby = d.standby + (d.moment - d.since); up_at = Some d.moment } → d.awake ≡ false → IsDisk d s
    → IsDisk e (accessed timeout s)
comes_up d e timeout s same down is = subst (λ (x : Disk). IsDisk x (accessed timeout s)) (sym same) (let up : s.awake ≡ false = is.awake ∙ down in record {
  from = is.from;
  moment = is.moment;
  awake = refl;
  last_use = λ yes. is.moment;
  needing = done_again s.needing is.needing;
  wakes = (λ i. wakes (cond (up i) s.journal (s.journal ++ Up s.now ∷ []))) ∙ wakes_up s.journal s.now ∙ ap (λ (n : ℕ). n + 1) is.wakes;
  sleeps = (λ i. sleeps (cond (up i) s.journal (s.journal ++ Up s.now ∷ []))) ∙ sleeps_up s.journal s.now ∙ is.sleeps;
  raised = (λ i. last_up (cond (up i) s.journal (s.journal ++ Up s.now ∷ []))) ∙ last_up_up s.journal s.now ∙ ap Some is.moment;
  standby = λ to. (λ i. standby (cond (up i) s.journal (s.journal ++ Up s.now ∷ [])) to) ∙ standby_up s.journal s.now to ∙ is.standby s.now ∙ (λ i. standby_of d (down i) (is.moment i));
})

-- or is awake
pub is_used : (d e : Disk) (timeout : ℕ) (s : SpindleState) → e ≡ record d { since = d.moment } → d.awake ≡ true → IsDisk d s → IsDisk e (accessed timeout s)
is_used d e timeout s same awake is = subst (λ (x : Disk). IsDisk x (accessed timeout s)) (sym same) (let up : s.awake ≡ true = is.awake ∙ awake in record {
  from = is.from;
  moment = is.moment;
  awake = sym awake;
  last_use = λ yes. is.moment;
  needing = done_again s.needing is.needing;
  wakes = (λ i. wakes (cond (up i) s.journal (s.journal ++ Up s.now ∷ []))) ∙ is.wakes;
  sleeps = (λ i. sleeps (cond (up i) s.journal (s.journal ++ Up s.now ∷ []))) ∙ is.sleeps;
  raised = (λ i. last_up (cond (up i) s.journal (s.journal ++ Up s.now ∷ []))) ∙ is.raised;
  standby = λ to. (λ i. standby (cond (up i) s.journal (s.journal ++ Up s.now ∷ [])) to) ∙ is.standby to ∙ (λ i. standby_of d (awake i) to) ∙ sym (λ i. standby_of (record d { since = d.moment }) (awake i) to);
})

-- the disk at a place
pub got : (ds : List Disk) (k : ℕ) (d : Disk) → k < length ds → slice_get ds k ≡ Some (get_or ds k d)
got [] k d lt = absurd (omega arith)
got (x ∷ ds) zero d lt = refl
got (x ∷ ds) (suc k) d lt = got ds k d (omega arith)

-- a disk that was just used is used once more
pub used_again : (t : ℕ) (ds : List Disk) (ss : List SpindleState) (k : ℕ) (e : Disk) → e.awake ≡ true → e.since ≡ e.moment → k < length ds → AreDisks (slice_set ds k e) ss → AreDisks (slice_set ds k e) (changed_at k (accessed t) ss)
used_again t [] ss k e awake now lt zip = absurd (omega arith)
used_again t (x ∷ ds) [] zero e awake now lt zip = absurd zip
used_again t (x ∷ ds) [] (suc k) e awake now lt zip = absurd zip
used_again t (x ∷ ds) (s ∷ ss) zero e awake now lt zip = (is_used e e t s (ap (λ (n : ℕ). record e { since = n }) now) awake zip.0, zip.1)
used_again t (x ∷ ds) (s ∷ ss) (suc k) e awake now lt zip = (zip.0, used_again t ds ss k e awake now (omega arith) zip.1)
