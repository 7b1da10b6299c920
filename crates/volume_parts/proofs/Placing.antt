-- Where the rule places a write, by what is known of the loggers' rooms.
use Rattle.std.proofs.Common.{◌≡◌, ◌⊎◌, inl, inr, ◌<◌, ◌≤◌, ◌+◌, ℕ, zero, suc, Bool, true, false, cond, not, ◌&&◌, ◌||◌, eqb, List, [], ◌∷◌, map, length, get_or, Option, None, Some, refl, sym, ap, subst, ◌∙◌, arith}
use Rattle.std.specs.Prelude.{slice_get, slice_set, position, ◌==◌}
use Rattle.std.specs.List.{zip, list_any, filter, range_with_len, position_from, AllByRecursion}
use Rattle.std.proofs.lemmas.Bool.{ne_eqb}
use Rattle.std.proofs.lemmas.Bool.Decides.{eqb_tells}
use Rattle.std.proofs.lemmas.Iterator.Adapters.{position_from-zero}
use Rattle.std.proofs.lemmas.List.Quantifiers.{position-Some}
use Rattle.std.proofs.lemmas.Option.{slice_get_within, get_or_from_slice_get, same_Some, none-some}
use Rattle.offload_policy.specs.Placing.{may_hold, is_open, decided_by, log_or, step_of}
use Rattle.offload_policy.specs.declared.Room.{Room}
use Rattle.offload_policy.specs.declared.Room.TheVariants.{Unknown, Yes, No}
use Rattle.offload_policy.specs.declared.Step.{Step}
use Rattle.offload_policy.specs.declared.Step.TheVariants.{Home, WakeHome, Log, WakeLog, Ask, Full}
use Rattle.wol_model.specs.Placing.{Place, Home as AtHome, Log as InLog, Full as Nowhere, place, log_or as log_or_in}
use Rattle.wol_promise.specs.Policy.{rooms_but}
use Rattle.volume_parts.specs.Offers.{passed_in}
use Rattle.volume_parts.proofs.Elements.{all_at}

-- where a step leads, if the logger that it asks has room
abbrev pub led_by : Step → Place
led_by Home = AtHome
led_by WakeHome = AtHome
led_by (Log lane) = InLog lane
led_by (WakeLog lane) = InLog lane
led_by (Ask lane) = InLog lane
led_by Full = Nowhere

-- ---- The first logger that may have room

first_from : (awake : Bool) (i : ℕ) (ups : List Bool) (rooms : List Room)
    → position_from (is_open awake) i (zip ups rooms) ≡ position_from (λ (l : Bool × Bool). cond awake l.0 (not l.0) && l.1) i (zip ups (map may_hold rooms))
first_from awake i [] rooms = refl
first_from awake i (u ∷ ups) [] = refl
first_from awake i (u ∷ ups) (r ∷ rooms) = ap (λ (o : Option ℕ). cond (cond awake u (not u) && may_hold r) (Some i) o) (first_from awake (i + 1) ups rooms)

first_same : (awake : Bool) (ups : List Bool) (rooms : List Room)
    → position (is_open awake) (zip ups rooms) ≡ position (λ (l : Bool × Bool). cond awake l.0 (not l.0) && l.1) (zip ups (map may_hold rooms))
first_same awake ups rooms =
    position_from-zero (is_open awake) (zip ups rooms) ∙ first_from awake 0 ups rooms
    ∙ sym (position_from-zero (λ (l : Bool × Bool). cond awake l.0 (not l.0) && l.1) (zip ups (map may_hold rooms)))

-- ---- The step and the place

led_on : (o : Option Room) (j : ℕ) (known : Step) → led_by known ≡ InLog j → led_by (decided_by o j known) ≡ InLog j
led_on None j known is = is
led_on (Some Unknown) j known is = refl
led_on (Some Yes) j known is = is
led_on (Some No) j known is = is

led_or : (rooms : List Room) (log : ℕ → Step) → ((j : ℕ) → led_by (log j) ≡ InLog j) → (o : Option ℕ) (other : Step) → led_by (log_or rooms log o other) ≡ log_or_in o (led_by other)
led_or rooms log logs None other = refl
led_or rooms log logs (Some j) other = led_on (slice_get rooms j) j (log j) (logs j)

-- with room in each lane that may have it, the place is where the step leads
pub place_is : (home_up covered : Bool) (ups : List Bool) (rooms : List Room) → place home_up covered ups (map may_hold rooms) ≡ led_by (step_of home_up covered ups rooms)
place_is home_up covered ups rooms = at (home_up && not covered) covered
  where
    asleep : (c : Bool) → cond c (log_or_in (position (λ (l : Bool × Bool). not l.0 && l.1) (zip ups (map may_hold rooms))) Nowhere) AtHome
        ≡ led_by (cond c (log_or rooms WakeLog (position (is_open false) (zip ups rooms)) Full) WakeHome)
    asleep true = ap (λ (o : Option ℕ). log_or_in o Nowhere) (sym (first_same false ups rooms)) ∙ sym (led_or rooms WakeLog (λ j. refl) (position (is_open false) (zip ups rooms)) Full)
    asleep false = refl

    at : (t c : Bool) → cond t AtHome (log_or_in (position (λ (l : Bool × Bool). l.0 && l.1) (zip ups (map may_hold rooms))) (cond c (log_or_in (position (λ (l : Bool × Bool). not l.0 && l.1) (zip ups (map may_hold rooms))) Nowhere) AtHome))
        ≡ led_by (cond t Home (log_or rooms Log (position (is_open true) (zip ups rooms)) (cond c (log_or rooms WakeLog (position (is_open false) (zip ups rooms)) Full) WakeHome)))
    at true c = refl
    at false c = (λ i. log_or_in (sym (first_same true ups rooms) i) (asleep c i)) ∙ sym (led_or rooms Log (λ j. refl) (position (is_open true) (zip ups rooms)) (cond c (log_or rooms WakeLog (position (is_open false) (zip ups rooms)) Full) WakeHome))

-- ---- Lanes that were passed over

none_past : (q : ℕ → Bool) (a n k : ℕ) → k < a → list_any (λ p. p == k) (filter q (range_with_len a n)) ≡ false
none_past q a zero k lt = refl
none_past q a (suc n) k lt = at (q a) (none_past q (a + 1) n k (omega arith))
  where
    at : (t : Bool) → list_any (λ p. p == k) (filter q (range_with_len (a + 1) n)) ≡ false → list_any (λ p. p == k) (cond t (a ∷ filter q (range_with_len (a + 1) n)) (filter q (range_with_len (a + 1) n))) ≡ false
    at true rest = λ i. ne_eqb a k (λ e. omega arith) i || rest i
    at false rest = rest

pub in_filter : (q : ℕ → Bool) (a n k : ℕ) → a ≤ k → k < a + n → list_any (λ p. p == k) (filter q (range_with_len a n)) ≡ q k
in_filter q a zero k le lt = absurd (omega arith)
in_filter q a (suc n) k le lt = at (filter q (range_with_len (a + 1) n)) (q a) refl (eqb_tells a k) (none_past q (a + 1) n k) (λ past. in_filter q (a + 1) n k past (omega arith))
  where
    at : (rest : List ℕ) (t : Bool) → q a ≡ t → ((eqb a k ≡ true) × (a ≡ k)) ⊎ ((eqb a k ≡ false) × (a ≡ k → ⊥)) → (k < a + 1 → list_any (λ p. p == k) rest ≡ false) → (a + 1 ≤ k → list_any (λ p. p == k) rest ≡ q k)
        → list_any (λ p. p == k) (cond t (a ∷ rest) rest) ≡ q k
    at rest true is (inl here) early later = (λ i. here.0 i || list_any (λ p. p == k) rest) ∙ (sym is ∙ ap q here.1)
    at rest true is (inr other) early later = (λ i. other.0 i || list_any (λ p. p == k) rest) ∙ later (let ne : a ≡ k → ⊥ = other.1 in omega arith)
    at rest false is (inl here) early later = early (let e : a ≡ k = here.1 in omega arith) ∙ (sym is ∙ ap q here.1)
    at rest false is (inr other) early later = later (let ne : a ≡ k → ⊥ = other.1 in omega arith)

none_beyond : (q : ℕ → Bool) (a n k : ℕ) → a + n ≤ k → list_any (λ p. p == k) (filter q (range_with_len a n)) ≡ false
none_beyond q a zero k le = refl
none_beyond q a (suc n) k le = at (q a) (none_beyond q (a + 1) n k (omega arith))
  where
    at : (t : Bool) → list_any (λ p. p == k) (filter q (range_with_len (a + 1) n)) ≡ false → list_any (λ p. p == k) (cond t (a ∷ filter q (range_with_len (a + 1) n)) (filter q (range_with_len (a + 1) n))) ≡ false
    at true rest = λ i. ne_eqb a k (λ e. omega arith) i || rest i
    at false rest = rest

-- a lane is passed over where its room was found empty
pub is_passed : (rooms : List Room) (k : ℕ) (r : Room) → slice_get rooms k ≡ Some r → list_any (λ p. p == k) (passed_in rooms) ≡ not (may_hold r)
is_passed rooms k r is =
    in_filter (λ (i : ℕ). not (may_hold (get_or rooms i Unknown))) 0 (length rooms) k (omega arith) (let lt = slice_get_within rooms k r is in omega arith)
    ∙ ap (λ (x : Room). not (may_hold x)) (get_or_from_slice_get rooms k r Unknown is)

pub none_passed_beyond : (rooms : List Room) (k : ℕ) → length rooms ≤ k → list_any (λ p. p == k) (passed_in rooms) ≡ false
none_passed_beyond rooms k le = none_beyond (λ (i : ℕ). not (may_hold (get_or rooms i Unknown))) 0 (length rooms) k (omega arith)

map_range : {X Y : Type 0} (f : ℕ → Y) (g : X → Y) (a : ℕ) (xs : List X) → ((i : ℕ) (x : X) → slice_get xs i ≡ Some x → f (a + i) ≡ g x) → map f (range_with_len a (length xs)) ≡ map g xs
map_range f g a [] each = refl
map_range f g a (x ∷ xs) each =
    let zero_ : a + 0 ≡ a = omega arith in
    λ i. (sym (ap f zero_) ∙ each 0 x refl) i ∷ map_range f g (a + 1) xs (λ j y is. let e : a + 1 + j ≡ a + suc j = omega arith in ap f e ∙ each (suc j) y is) i

twice : (t : Bool) → not (not t) ≡ t
twice true = refl
twice false = refl

-- so there is room in the others
pub rooms_are : (ups : List Bool) (rooms : List Room) → length ups ≡ length rooms → rooms_but (passed_in rooms) ups ≡ map may_hold rooms
rooms_are ups rooms same =
    ap (λ (n : ℕ). map (λ k. not (list_any (λ p. p == k) (passed_in rooms))) (range_with_len 0 n)) same
    ∙ map_range (λ k. not (list_any (λ p. p == k) (passed_in rooms))) may_hold 0 rooms (λ k r is. let e : 0 + k ≡ k = omega arith in ap (λ (j : ℕ). not (list_any (λ p. p == j) (passed_in rooms))) e ∙ ap not (is_passed rooms k r is) ∙ twice (may_hold r))

-- ---- What a step tells

module _ (home_up covered : Bool) (ups : List Bool) (rooms : List Room) where
  -- only a lane is asked of which nothing is known
  pub ask_unknown : (lane : ℕ) → step_of home_up covered ups rooms ≡ Ask lane → slice_get rooms lane ≡ Some Unknown
  ask_unknown lane = at (home_up && not covered) covered (position (is_open true) (zip ups rooms)) (position (is_open false) (zip ups rooms))
    where
      decided : (known : Step) → (known ≡ Ask lane → ⊥) → (j : ℕ) (o : Option Room) → slice_get rooms j ≡ o → decided_by o j known ≡ Ask lane → slice_get rooms lane ≡ Some Unknown
      decided known never j None room is = absurd (never is)
      decided known never j (Some Unknown) room is = let same : j ≡ lane = cc in subst (λ (k : ℕ). slice_get rooms k ≡ Some Unknown) same room
      decided known never j (Some Yes) room is = absurd (never is)
      decided known never j (Some No) room is = absurd (never is)

      at : (t c : Bool) (o q : Option ℕ) → cond t Home (log_or rooms Log o (cond c (log_or rooms WakeLog q Full) WakeHome)) ≡ Ask lane → slice_get rooms lane ≡ Some Unknown
      at true c o q is = absurd (cc is)
      at false c (Some j) q is = decided (Log j) (λ e. cc) j (slice_get rooms j) refl is
      at false true None (Some j) is = decided (WakeLog j) (λ e. cc) j (slice_get rooms j) refl is
      at false true None None is = absurd (cc is)
      at false false None q is = absurd (cc is)

  -- blocks go home only where no record covers one
  pub home_is_bare : step_of home_up covered ups rooms ≡ Home → covered ≡ false
  home_is_bare = at home_up covered (position (is_open true) (zip ups rooms)) (position (is_open false) (zip ups rooms))
    where
      decided : (known : Step) → (known ≡ Home → ⊥) → (j : ℕ) (o : Option Room) → decided_by o j known ≡ Home → ⊥
      decided known never j None is = never is
      decided known never j (Some Unknown) is = absurd (cc is)
      decided known never j (Some Yes) is = never is
      decided known never j (Some No) is = never is

      at : (h c : Bool) (o q : Option ℕ) → cond (h && not c) Home (log_or rooms Log o (cond c (log_or rooms WakeLog q Full) WakeHome)) ≡ Home → c ≡ false
      at h false o q is = refl
      at true true None None is = absurd (cc is)
      at true true None (Some j) is = absurd (decided (WakeLog j) (λ e. cc) j (slice_get rooms j) is)
      at true true (Some j) q is = absurd (decided (Log j) (λ e. cc) j (slice_get rooms j) is)
      at false true None None is = absurd (cc is)
      at false true None (Some j) is = absurd (decided (WakeLog j) (λ e. cc) j (slice_get rooms j) is)
      at false true (Some j) q is = absurd (decided (Log j) (λ e. cc) j (slice_get rooms j) is)

  pub woken_home_is_bare : step_of home_up covered ups rooms ≡ WakeHome → covered ≡ false
  woken_home_is_bare = at (home_up && not covered) covered (position (is_open true) (zip ups rooms)) (position (is_open false) (zip ups rooms))
    where
      decided : (known : Step) → (known ≡ WakeHome → ⊥) → (j : ℕ) (o : Option Room) → decided_by o j known ≡ WakeHome → ⊥
      decided known never j None is = never is
      decided known never j (Some Unknown) is = absurd (cc is)
      decided known never j (Some Yes) is = never is
      decided known never j (Some No) is = never is

      at : (t c : Bool) (o q : Option ℕ) → cond t Home (log_or rooms Log o (cond c (log_or rooms WakeLog q Full) WakeHome)) ≡ WakeHome → c ≡ false
      at true c o q is = absurd (cc is)
      at false false o q is = refl
      at false true None None is = absurd (cc is)
      at false true None (Some j) is = absurd (decided (WakeLog j) (λ e. cc) j (slice_get rooms j) is)
      at false true (Some j) q is = absurd (decided (Log j) (λ e. cc) j (slice_get rooms j) is)

  module _ (none : AllByRecursion (λ (r : Room). r ≡ Yes → ⊥) rooms) where
    second_of : (us : List Bool) (rs : List Room) (j : ℕ) (d : Bool × Room) → j < length (zip us rs) → slice_get rs j ≡ Some (get_or (zip us rs) j d).1
    second_of [] rs j d lt = absurd (omega arith)
    second_of (u ∷ us) [] j d lt = absurd (omega arith)
    second_of (u ∷ us) (r ∷ rs) zero d lt = refl
    second_of (u ∷ us) (r ∷ rs) (suc j) d lt = second_of us rs j d (omega arith)

    right : (s t : Bool) → (s && t) ≡ true → t ≡ true
    right true t is = is
    right false t is = absurd (let no : false ≡ true = is in cc)

    -- the first one that may have room is one of which nothing is known
    found_unknown : (awake : Bool) (j : ℕ) → position (is_open awake) (zip ups rooms) ≡ Some j → slice_get rooms j ≡ Some Unknown
    found_unknown awake j is =
        let d : Bool × Room = (true, No) in let p = position-Some (is_open awake) (zip ups rooms) j d is in let room = second_of ups rooms j d p.0 in
        room ∙ ap Some (unknown (get_or (zip ups rooms) j d).1 (right (cond awake (get_or (zip ups rooms) j d).0 (not (get_or (zip ups rooms) j d).0)) (may_hold (get_or (zip ups rooms) j d).1) p.1) (all_at (λ (r : Room). r ≡ Yes → ⊥) rooms j (get_or (zip ups rooms) j d).1 room none))
      where
        unknown : (r : Room) → may_hold r ≡ true → (r ≡ Yes → ⊥) → r ≡ Unknown
        unknown Unknown may never = refl
        unknown Yes may never = absurd (never refl)
        unknown No may never = absurd (let wrong : false ≡ true = may in cc)

    decided : (known wanted : Step) → ((j : ℕ) → Ask j ≡ wanted → ⊥) → (j : ℕ) → slice_get rooms j ≡ Some Unknown → decided_by (slice_get rooms j) j known ≡ wanted → ⊥
    decided known wanted never j room is = never j (sym (ap (λ (o : Option Room). decided_by o j known) room) ∙ is)

    -- so the step is home, a question or none
    only_asks : (wanted : Step) → (Home ≡ wanted → ⊥) → (WakeHome ≡ wanted → ⊥) → ((j : ℕ) → Ask j ≡ wanted → ⊥) → (Full ≡ wanted → ⊥) → step_of home_up covered ups rooms ≡ wanted → ⊥
    only_asks wanted home woken asked full = at (home_up && not covered) covered (position (is_open true) (zip ups rooms)) (position (is_open false) (zip ups rooms)) refl refl
      where
        at : (t c : Bool) (o q : Option ℕ) → position (is_open true) (zip ups rooms) ≡ o → position (is_open false) (zip ups rooms) ≡ q → cond t Home (log_or rooms Log o (cond c (log_or rooms WakeLog q Full) WakeHome)) ≡ wanted → ⊥
        at true c o q first second is = home is
        at false c (Some j) q first second is = decided (Log j) wanted asked j (found_unknown true j first) is
        at false true None (Some j) first second is = decided (WakeLog j) wanted asked j (found_unknown false j second) is
        at false true None None first second is = full is
        at false false None q first second is = woken is

    -- no lane is known to have room
    pub no_log : (lane : ℕ) → step_of home_up covered ups rooms ≡ Log lane → ⊥
    no_log lane = only_asks (Log lane) (λ e. cc) (λ e. cc) (λ k e. cc) (λ e. cc)

    pub no_woken_log : (lane : ℕ) → step_of home_up covered ups rooms ≡ WakeLog lane → ⊥
    no_woken_log lane = only_asks (WakeLog lane) (λ e. cc) (λ e. cc) (λ k e. cc) (λ e. cc)

-- ---- Each lane is asked once

-- how many lanes may have room
abbrev pub open_in : List Room → ℕ
open_in [] = 0
open_in (r ∷ rooms) = cond (may_hold r) 1 0 + open_in rooms

pub fewer_open : (rooms : List Room) (k : ℕ) → slice_get rooms k ≡ Some Unknown → open_in (slice_set rooms k No) < open_in rooms
fewer_open [] k is = absurd (none-some Unknown is)
fewer_open (r ∷ rooms) zero is = let one = ap (λ (x : Room). cond {A = ℕ} (may_hold x) 1 0) (same_Some r Unknown is) in omega (arith, one)
fewer_open (r ∷ rooms) (suc k) is = let rest = fewer_open rooms k is in omega (arith, rest)
