-- A record that was just written keeps all its blocks, and the rule of placing where each log has room.
use Rattle.std.proofs.Common.{◌≡◌, ◌<◌, ◌≤◌, ◌+◌, ◌-◌, ◌*◌, ◌^◌, ◌⊎◌, inl, inr, ⊎_elim, ℕ, zero, suc, Bool, true, false, cond, not, ◌&&◌, List, [], ◌∷◌, ◌++◌, map, length, Option, None, Some, refl, sym, ap, subst, ◌∙◌, arith, eqb, leb, ltb, get_or, replicate}
use Rattle.std.specs.Prelude.{slice_get, slice_set, position, IfSome}
use Rattle.std.specs.List.{AllByRecursion, list_any, range_with_len, zip}
use Rattle.std.proofs.lemmas.Bool.{leb-true, lt-ltb, le-ltb, cases_lt}
use Rattle.std.proofs.lemmas.List.{get_or-replicate, get_or_past}
use Rattle.std.proofs.lemmas.Nat.Bits.{bit_at_ones, bit_at-zero}
use mathlib.Core.Path.{fun_ext}
use Rattle.std.proofs.lemmas.Nat.{pow-add, pow_pos}
use Rattle.wol_model.specs.Extents.{marked, remarked}
use Rattle.wol_model.specs.Index.{Listed, Indexed, listed_in, is_covered}
use Rattle.wol_model.specs.Log.{has_bit, marks_of}
use Rattle.std.proofs.lemmas.List.Quantifiers.{position-Some}
use Rattle.std.proofs.lemmas.Option.{none-some, same_Some}
use Rattle.wol_model.specs.Placing.{Place, Home, Log, Full, place}
use Rattle.wol_model.specs.Journal.{SpindleState}
use Rattle.block_cells.specs.Runs.{runs_after, runs_of}
use Rattle.block_cells.specs.declared.record.Rec.{Rec}
use Rattle.redirect_map.specs.Index.{entry_of, unhomed, cover_at}
use Rattle.offload_policy.specs.Placing.{step_of, decided_by, is_open, place_of as place_of_step, AreRooms, log_or}
use Rattle.offload_policy.specs.declared.Room.{Room}
use Rattle.offload_policy.specs.declared.Room.TheVariants.{Yes}
use Rattle.offload_policy.specs.declared.Step.{Step}
use Rattle.offload_policy.specs.declared.Step.TheVariants as step
use Rattle.wol_promise.specs.Policy.{Look, place_of, placed, is_in, rooms_but}
use Rattle.whatif.specs.declared.disk.Disk.{Disk}
use Rattle.whatif.specs.declared.volume.Volume.{Volume}
use Rattle.whatif.specs.Disks.{AreDisks}
use Rattle.whatif.specs.Machine.{Reach, all_accessed, answering, disk_of, filed_at, write_of, writing}
use Rattle.whatif.specs.Logs.{all_moved}
use Rattle.wol_model.specs.declared.trace.Kind.{Kind}
use Rattle.wol_model.specs.declared.trace.Kind.TheVariants as kind
use Rattle.whatif.specs.Volumes.{HasDone, IsLogged, IsVolume, look_in, reach_in, store_in}
use Rattle.wol_promise.proofs.Lists.{all_push}

-- ---- Its marks

each_same : {X : Type 0} (f : ℕ → X) (x : X) (a n : ℕ) → ((i : ℕ) → a ≤ i → i < a + n → f i ≡ x) → map f (range_with_len a n) ≡ replicate n x
each_same f x a zero same = refl
each_same f x a (suc n) same = λ i. same a (omega arith) (omega arith) i ∷ each_same f x (a + 1) n (λ k above below. same k (omega arith) (omega arith)) i

full_marks : (n : ℕ) → marks_of n (2 ^ n - 1) ≡ replicate n true
full_marks n = each_same (has_bit (2 ^ n - 1)) true 0 n (λ i above below. let inside : i < n = omega arith in ap (λ (k : ℕ). eqb k 1) (bit_at_ones n i inside))

no_marks : (n : ℕ) → marks_of n 0 ≡ replicate n false
no_marks n = each_same (has_bit 0) false 0 n (λ i above below. ap (λ (k : ℕ). eqb k 1) (bit_at-zero i))

run_on : (n : ℕ) → runs_after true (replicate n true) ≡ 0
run_on zero = refl
run_on (suc n) = run_on n

-- they are one run
pub one_run : (n : ℕ) → 1 ≤ n → runs_of (marks_of n (2 ^ n - 1)) ≡ 1
one_run zero le = absurd (omega arith)
one_run (suc n) le = ap runs_of (full_marks (suc n)) ∙ ap (λ (k : ℕ). 1 + k) (run_on n)

length_replicated : {X : Type 0} (m : ℕ) (x : X) → length (replicate m x) ≡ m
length_replicated zero x = refl
length_replicated (suc m) x = ap suc (length_replicated m x)

marked_full : (first n b : ℕ) → marked first (replicate n true) b ≡ (leb first b && ltb b (first + n))
marked_full first n b = at (leb first b) refl
  where
    inside : (k : ℕ) → b ≡ first + k → get_or (replicate n true) k false ≡ ltb b (first + n)
    inside k is = let long = length_replicated n true in ⊎_elim
        (λ lt. get_or-replicate n k true false lt ∙ sym (let less : b < first + n = omega arith in lt-ltb b (first + n) less))
        (λ past. get_or_past (replicate n true) k false (omega (arith, long, past)) ∙ sym (let more : first + n ≤ b = omega arith in le-ltb b (first + n) more))
        (cases_lt k n)

    at : (t : Bool) → leb first b ≡ t → (t && get_or (replicate n true) (b - first) false) ≡ (t && ltb b (first + n))
    at true is = inside (b - first) (let le : first ≤ b = leb-true first b is in omega arith)
    at false is = refl

-- a new record as the index is given it
abbrev pub rec_at : (version lbn count lane : ℕ) → Rec
rec_at version lbn count lane = record { version = version; lbn = lbn; count = count; keep = 2 ^ count - 1; lane = lane; segment = 0; pos = 0 }

abbrev pub entered : List Indexed → Rec → List Indexed
entered es rec = map (unhomed (cover_at (entry_of rec 0))) es ++ entry_of rec 0 ∷ []

module _ (version lbn count : ℕ) where
  long : length (write_of lbn count).blocks ≡ count
  long = length_replicated count []

  covers_its : marked lbn (marks_of count (2 ^ count - 1)) ≡ is_in (write_of lbn count)
  covers_its = fun_ext (λ b. ap (λ (marks : List Bool). marked lbn marks b) (full_marks count) ∙ marked_full lbn count b ∙ ap (λ (n : ℕ). leb lbn b && ltb b (lbn + n)) (sym long))

  -- the look is that of a write placed there
  pub logged_look : (es : List Indexed) (home_up : Bool) (ups : List Bool) (lane : ℕ)
      → (let l : Look = record { home_up = home_up; ups = slice_set ups lane true; next = version + 1; listed = listed_in (entered es (rec_at version lbn count lane)); down = None } in l)
      ≡ placed (Log lane) (record { home_up = home_up; ups = ups; next = version; listed = listed_in es; down = None }) (write_of lbn count)
  logged_look es home_up ups lane = λ i. record { home_up = home_up; ups = slice_set ups lane true; next = version + 1; listed = (listed_then es ∙ marks) i; down = None }
    where
      new : (keep homed : List Bool) → Listed
      new keep homed = record { version = version; first = lbn; keep = keep; lane = lane; homed = homed }

      clear : (ℕ → Bool) → Listed → Listed
      clear covers e = record e { homed = remarked e.first e.homed (λ b m. m && not (covers b)) }

      listed_then : (ds : List Indexed) → listed_in (entered ds (rec_at version lbn count lane)) ≡ map (clear (marked lbn (marks_of count (2 ^ count - 1)))) (listed_in ds) ++ new (marks_of count (2 ^ count - 1)) (marks_of count 0) ∷ []
      listed_then [] = refl
      listed_then (d ∷ ds) = λ i. clear (marked lbn (marks_of count (2 ^ count - 1))) d.listed ∷ listed_then ds i

      marks : map (clear (marked lbn (marks_of count (2 ^ count - 1)))) (listed_in es) ++ new (marks_of count (2 ^ count - 1)) (marks_of count 0) ∷ []
          ≡ map (clear (is_in (write_of lbn count))) (listed_in es) ++ new (replicate (length (write_of lbn count).blocks) true) (replicate (length (write_of lbn count).blocks) false) ∷ []
      marks = λ i. map (clear (covers_its i)) (listed_in es) ++ new ((full_marks count ∙ ap (λ (n : ℕ). replicate n true) (sym long)) i) ((no_marks count ∙ ap (λ (n : ℕ). replicate n false) (sym long)) i) ∷ []

-- the records stay among their lanes and versions
pub logged_more : (lanes next lbn count lane : ℕ) (es : List Indexed) → lane < lanes → AllByRecursion (IsLogged lanes next) es → AllByRecursion (IsLogged lanes (next + 1)) (entered es (rec_at next lbn count lane))
logged_more lanes next lbn count lane es within all = all_push (IsLogged lanes (next + 1)) (map (unhomed (cover_at (entry_of (rec_at next lbn count lane) 0))) es) (entry_of (rec_at next lbn count lane) 0) (each es all) (record { lane = within; version = omega arith })
  where
    each : (ds : List Indexed) → AllByRecursion (IsLogged lanes next) ds → AllByRecursion (IsLogged lanes (next + 1)) (map (unhomed (cover_at (entry_of (rec_at next lbn count lane) 0))) ds)
    each [] all = tt
    each (d ∷ ds) all = (record { lane = all.0.lane; version = (let v = all.0.version in omega (arith, v)) }, each ds all.1)

-- ---- Where it goes

all_room : (ups : List Bool) → rooms_but [] ups ≡ replicate (length ups) true
all_room ups = each_same (λ k. not (list_any (λ p. eqb p k) [])) true 0 (length ups) (λ i above below. refl)

rooms_known : (n : ℕ) → AreRooms (replicate n Yes) (replicate n true)
rooms_known zero = tt
rooms_known (suc n) = (refl, rooms_known n)

known : (n lane : ℕ) (s : Step) → decided_by (slice_get (replicate n Yes) lane) lane s ≡ s
known n lane s = at (slice_get (replicate n Yes) lane) (each n lane)
  where
    each : (m k : ℕ) → (slice_get (replicate m Yes) k ≡ None) ⊎ (slice_get (replicate m Yes) k ≡ Some Yes)
    each zero k = inl refl
    each (suc m) zero = inr refl
    each (suc m) (suc k) = each m k

    at : (o : Option Room) → (o ≡ None) ⊎ (o ≡ Some Yes) → decided_by o lane s ≡ s
    at o is = ⊎_elim (λ none. ap (λ (q : Option Room). decided_by q lane s) none) (λ yes. ap (λ (q : Option Room). decided_by q lane s) yes) is

-- the step names a place
names : (home_up covered : Bool) (ups : List Bool) → (p : Place) × (place_of_step (step_of home_up covered ups (replicate (length ups) Yes)) ≡ Some p)
names home_up covered ups = at (home_up && not covered) (position (is_open true) (zip ups (replicate (length ups) Yes))) covered (position (is_open false) (zip ups (replicate (length ups) Yes)))
  where
    at : (h : Bool) (first : Option ℕ) (c : Bool) (second : Option ℕ)
        → (p : Place) × (place_of_step (cond h step.Home (log_or (replicate (length ups) Yes) step.Log first (cond c (log_or (replicate (length ups) Yes) step.WakeLog second step.Full) step.WakeHome))) ≡ Some p)
    at true first c second = (_, refl)
    at false (Some lane) c second = (_, ap place_of_step (known (length ups) lane (step.Log lane)))
    at false None true (Some lane) = (_, ap place_of_step (known (length ups) lane (step.WakeLog lane)))
    at false None true None = (_, refl)
    at false None false second = (_, refl)

-- it is the place of the rule with room in every log
pub placed_at : (l : Look) (lbn count : ℕ) (covered : Bool) (rooms : List Room) (s : Step) → rooms ≡ replicate (length l.ups) Yes → covered ≡ list_any (is_covered l.listed) (range_with_len lbn count)
    → s ≡ step_of l.home_up covered l.ups rooms → ((has : List Bool) → AreRooms rooms has → IfSome (place_of_step s) (λ p. p ≡ place l.home_up covered l.ups has))
    → place_of_step s ≡ Some (place_of [] l (write_of lbn count))
placed_at l lbn count covered rooms s all_yes is value model =
    let named = names l.home_up covered l.ups in
    let here : place_of_step s ≡ Some named.0 = ap place_of_step (value ∙ ap (λ (rs : List Room). step_of l.home_up covered l.ups rs) all_yes) ∙ named.1 in
    let same : named.0 ≡ place l.home_up covered l.ups (replicate (length l.ups) true) =
    subst (λ (o : Option Place). IfSome o (λ p. p ≡ place l.home_up covered l.ups (replicate (length l.ups) true))) here
    (model (replicate (length l.ups) true) (subst (λ (rs : List Room). AreRooms rs (replicate (length l.ups) true)) (sym all_yes) (rooms_known (length l.ups)))) in
    here ∙ ap Some (same ∙ (λ i. place l.home_up (is i) l.ups (sym (all_room l.ups) i))
    ∙ ap (λ (n : ℕ). place l.home_up (list_any (is_covered l.listed) (range_with_len lbn n)) l.ups (rooms_but [] l.ups)) (sym (length_replicated count [])))

-- ---- Which lane it goes to

zip_short : {X Y : Type 0} (xs : List X) (ys : List Y) → length (zip xs ys) ≤ length xs
zip_short [] ys = omega arith
zip_short (x ∷ xs) [] = omega arith
zip_short (x ∷ xs) (y ∷ ys) = let rest = zip_short xs ys in omega (arith, rest)

-- a step to a log names one of the lanes
pub lane_of_step : (home_up covered : Bool) (ups : List Bool) (rooms : List Room) (lane : ℕ) → rooms ≡ replicate (length ups) Yes → place_of_step (step_of home_up covered ups rooms) ≡ Some (Log lane) → lane < length ups
lane_of_step home_up covered ups rooms lane all_yes found =
    at (home_up && not covered) (position (is_open true) (zip ups (replicate (length ups) Yes))) covered (position (is_open false) (zip ups (replicate (length ups) Yes))) refl refl
    (subst (λ (rs : List Room). place_of_step (step_of home_up covered ups rs) ≡ Some (Log lane)) all_yes found)
  where
    under : (awake : Bool) (l : ℕ) → position (is_open awake) (zip ups (replicate (length ups) Yes)) ≡ Some l → l < length ups
    under awake l is = let lt = (position-Some (is_open awake) (zip ups (replicate (length ups) Yes)) l (true, Yes) is).0 in omega (arith, lt, zip_short ups (replicate (length ups) Yes))

    at : (h : Bool) (first : Option ℕ) (c : Bool) (second : Option ℕ) → position (is_open true) (zip ups (replicate (length ups) Yes)) ≡ first → position (is_open false) (zip ups (replicate (length ups) Yes)) ≡ second
        → place_of_step (cond h step.Home (log_or (replicate (length ups) Yes) step.Log first (cond c (log_or (replicate (length ups) Yes) step.WakeLog second step.Full) step.WakeHome))) ≡ Some (Log lane) → lane < length ups
    at true first c second f s is = absurd (cc is)
    at false (Some l) c second f s is = let same : l ≡ lane = (let e : Some (Log l) ≡ Some (Log lane) = sym (ap place_of_step (known (length ups) l (step.Log l))) ∙ is in cc e) in let lt = under true l f in omega (arith, same, lt)
    at false None true (Some l) f s is = let same : l ≡ lane = (let e : Some (Log l) ≡ Some (Log lane) = sym (ap place_of_step (known (length ups) l (step.WakeLog l))) ∙ is in cc e) in let lt = under false l s in omega (arith, same, lt)
    at false None true None f s is = absurd (cc is)
    at false None false second f s is = absurd (cc is)

-- ---- What a request does

pub wrote : (first count : ℕ) (p : Place) (v w : Volume) (ds es : List Disk) → place_of [] (look_in v) (write_of first count) ≡ p → reach_in w ≡ reach_in v → look_in w ≡ placed p (look_in v) (write_of first count)
    → store_in w.store ≡ all_moved (filed_at v.next count (reach_in v) p) (store_in v.store)
    → ((t : ℕ) (ss : List SpindleState) → AreDisks ds ss → AreDisks es (all_accessed t (disk_of (reach_in v) p) ss)) → HasDone (writing first count) v w ds es
wrote first count p v w ds es is reach look store disks = record {
  reach = reach;
  look = look ∙ sym (ap (λ (q : Place). placed q (look_in v) (write_of first count)) is);
  store = store ∙ sym (ap (λ (q : Place). all_moved (filed_at v.next count (reach_in v) q) (store_in v.store)) is);
  disks = λ t ss are. subst (λ (q : Place). AreDisks es (all_accessed t (disk_of (reach_in v) q) ss)) (sym is) (disks t ss are);
}

next_placed : (p : Place) (l : Look) (first count : ℕ) → (placed p l (write_of first count)).next ≤ l.next + 1
next_placed Home l first count = omega arith
next_placed (Log lane) l first count = omega arith
next_placed Full l first count = omega arith

-- a request takes one version at most
pub asked_next : (k : Kind) (first count : ℕ) (r : Reach) (l : Look) → (answering k first count r l).look.next ≤ l.next + 1
asked_next kind.Read first count r l = omega arith
asked_next kind.Write first count r l = next_placed (place_of [] l (write_of first count)) l first count

-- ---- Its mask

-- a record has a block
pub some_kept : (n : ℕ) → 1 ≤ n → 1 ≤ 2 ^ n - 1
some_kept zero le = absurd (omega arith)
some_kept (suc n) le =
    let one : suc n ≡ 1 + n = omega arith in
    let twice : 2 ^ suc n ≡ 2 * 2 ^ n = ap (λ (k : ℕ). 2 ^ k) one ∙ pow-add 2 1 n in
    let some = pow_pos n in
    omega (arith, twice, some)

-- ---- Where a volume writes

module _ (v : Volume) (lbn count : ℕ) (covered : Bool) (ups : List Bool) (rooms : List Room) (s : Step) (so : IsVolume v) (ups_is : ups ≡ v.ups.items) (rooms_is : rooms ≡ v.rooms.items)
    (covered_is : covered ≡ list_any (is_covered (listed_in v.index.entries)) (range_with_len lbn count)) (value : s ≡ step_of v.home_up covered ups rooms)
    (model : (has : List Bool) → AreRooms rooms has → IfSome (place_of_step s) (λ p. p ≡ place v.home_up covered ups has)) where
  all_yes : rooms ≡ replicate (length v.ups.items) Yes
  all_yes = rooms_is ∙ so.rooms_ ∙ ap (λ (n : ℕ). replicate n Yes) (sym so.flags)

  stepped : s ≡ step_of v.home_up covered v.ups.items rooms
  stepped = value ∙ ap (λ (l : List Bool). step_of v.home_up covered l rooms) ups_is

  goes_to : place_of_step s ≡ Some (place_of [] (look_in v) (write_of lbn count))
  goes_to = placed_at (look_in v) lbn count covered rooms s all_yes covered_is stepped (λ has are. subst (λ (l : List Bool). IfSome (place_of_step s) (λ p. p ≡ place v.home_up covered l has)) ups_is (model has are))

  pub to_home : (s ≡ step.Home) ⊎ (s ≡ step.WakeHome) → place_of [] (look_in v) (write_of lbn count) ≡ Home
  to_home is = ⊎_elim (λ a. same_Some _ Home (sym goes_to ∙ ap place_of_step a)) (λ a. same_Some _ Home (sym goes_to ∙ ap place_of_step a)) is

  pub to_none : s ≡ step.Full → place_of [] (look_in v) (write_of lbn count) ≡ Full
  to_none is = same_Some _ Full (sym goes_to ∙ ap place_of_step is)

  pub to_log : (lane : ℕ) → (s ≡ step.Log lane) ⊎ ((s ≡ step.WakeLog lane) ⊎ (s ≡ step.Ask lane)) → place_of [] (look_in v) (write_of lbn count) ≡ Log lane
  to_log lane is = ⊎_elim (λ a. same_Some _ (Log lane) (sym goes_to ∙ ap place_of_step a))
      (λ others. ⊎_elim (λ a. same_Some _ (Log lane) (sym goes_to ∙ ap place_of_step a)) (λ a. absurd (none-some _ (sym (ap place_of_step a) ∙ goes_to))) others) is

  pub lane_under : (lane : ℕ) → (s ≡ step.Log lane) ⊎ ((s ≡ step.WakeLog lane) ⊎ (s ≡ step.Ask lane)) → lane < length v.ups.items
  lane_under lane is = lane_of_step v.home_up covered v.ups.items rooms lane all_yes (sym (ap place_of_step stepped) ∙ goes_to ∙ ap (λ (p : Place). Some p) (to_log lane is))
