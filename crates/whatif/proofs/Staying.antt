-- A disk that is awake stays so and comes up no more, until a later window begins.
use Rattle.std.proofs.Common.{◌≡◌, ℕ, zero, suc, Bool, true, false, cond, not, ◌||◌, List, [], ◌∷◌, ◌++◌, Option, None, Some, refl, sym, ap, subst, ◌∙◌, eqb}
use Rattle.std.specs.Prelude.{slice_get}
use Rattle.std.specs.List.{AllByRecursion, list_any}
use Rattle.std.specs.Option.{option_map_or}
use Rattle.std.proofs.lemmas.Bool.{false≢true, eqb-true}
use Rattle.wol_model.specs.declared.journal.Turned.TheVariants.{Up}
use Rattle.wol_model.specs.Blocks.{changed_at}
use Rattle.wol_model.specs.Journal.{SpindleState, wakes}
use Rattle.whatif.specs.Laws.{UsedStayUp, ups_of}
use Rattle.whatif.specs.Machine.{Machine, Turn, Volume, accessed, after_turns, all_accessed, turned, turned_at}

-- the disk at a place is in standby
abbrev pub is_down : List SpindleState → (d : ℕ) → Bool
is_down ss d = option_map_or (λ (s : SpindleState). not s.awake) (slice_get ss d) false

-- ---- one use

one_same : (t : ℕ) (s : SpindleState) → not s.awake ≡ false → wakes (accessed t s).journal ≡ wakes s.journal
one_same t s up = at s.awake refl up
  where
    at : (b : Bool) → s.awake ≡ b → not b ≡ false → wakes (accessed t s).journal ≡ wakes s.journal
    at true is up = ap (λ (b : Bool). wakes (cond b s.journal (s.journal ++ Up s.now ∷ []))) is
    at false is up = absurd (false≢true (sym up))

pub stays_up : (t d : ℕ) (ss : List SpindleState) (k : ℕ) → is_down ss k ≡ false → is_down (changed_at d (accessed t) ss) k ≡ false
stays_up t d [] k up = up
stays_up t zero (s ∷ ss) zero up = refl
stays_up t zero (s ∷ ss) (suc k) up = up
stays_up t (suc d) (s ∷ ss) zero up = up
stays_up t (suc d) (s ∷ ss) (suc k) up = stays_up t d ss k up

pub used_up : (t d : ℕ) (ss : List SpindleState) → is_down (changed_at d (accessed t) ss) d ≡ false
used_up t d [] = refl
used_up t zero (s ∷ ss) = refl
used_up t (suc d) (s ∷ ss) = used_up t d ss

-- a disk that is awake comes up for no use
pub up_same : (t d : ℕ) (ss : List SpindleState) (k : ℕ) → is_down ss k ≡ false → ups_of (changed_at d (accessed t) ss) k ≡ ups_of ss k
up_same t d [] k up = refl
up_same t zero (s ∷ ss) zero up = one_same t s up
up_same t zero (s ∷ ss) (suc k) up = refl
up_same t (suc d) (s ∷ ss) zero up = refl
up_same t (suc d) (s ∷ ss) (suc k) up = up_same t d ss k up

-- and none comes up for the use of one that is
pub used_same : (t d : ℕ) (ss : List SpindleState) (k : ℕ) → is_down ss d ≡ false → ups_of (changed_at d (accessed t) ss) k ≡ ups_of ss k
used_same t d [] k up = refl
used_same t zero (s ∷ ss) zero up = one_same t s up
used_same t zero (s ∷ ss) (suc k) up = refl
used_same t (suc d) (s ∷ ss) zero up = refl
used_same t (suc d) (s ∷ ss) (suc k) up = used_same t d ss k up

-- ---- uses, one after another

pub all_stay : (t : ℕ) (us : List ℕ) (ss : List SpindleState) (k : ℕ) → is_down ss k ≡ false → is_down (all_accessed t us ss) k ≡ false
all_stay t [] ss k up = up
all_stay t (u ∷ us) ss k up = all_stay t us (changed_at u (accessed t) ss) k (stays_up t u ss k up)

pub all_same : (t : ℕ) (us : List ℕ) (ss : List SpindleState) (k : ℕ) → is_down ss k ≡ false → ups_of (all_accessed t us ss) k ≡ ups_of ss k
all_same t [] ss k up = refl
all_same t (u ∷ us) ss k up = all_same t us (changed_at u (accessed t) ss) k (stays_up t u ss k up) ∙ up_same t u ss k up

pub all_used : (t : ℕ) (us : List ℕ) (ss : List SpindleState) (k : ℕ) → list_any (λ u. eqb u k) us ≡ true → is_down (all_accessed t us ss) k ≡ false
all_used t [] ss k has = absurd (false≢true has)
all_used t (u ∷ us) ss k has = at (eqb u k) refl has (λ rest. all_used t us (changed_at u (accessed t) ss) k rest)
  where
    at : (b : Bool) → eqb u k ≡ b → (b || list_any (λ x. eqb x k) us) ≡ true → (list_any (λ x. eqb x k) us ≡ true → is_down (all_accessed t us (changed_at u (accessed t) ss)) k ≡ false) → is_down (all_accessed t us (changed_at u (accessed t) ss)) k ≡ false
    at true is has then = all_stay t us (changed_at u (accessed t) ss) k (subst (λ (n : ℕ). is_down (changed_at u (accessed t) ss) n ≡ false) (eqb-true u k is) (used_up t u ss))
    at false is has then = then has

-- disks that are awake are used
abbrev pub AreUp : List SpindleState → List ℕ → Type 0
AreUp ss us = AllByRecursion (λ u. is_down ss u ≡ false) us

are_up_later : (t d : ℕ) (ss : List SpindleState) (us : List ℕ) → AreUp ss us → AreUp (changed_at d (accessed t) ss) us
are_up_later t d ss [] all = tt
are_up_later t d ss (u ∷ us) all = (stays_up t d ss u all.0, are_up_later t d ss us all.1)

pub none_rises : (t : ℕ) (us : List ℕ) (ss : List SpindleState) (k : ℕ) → AreUp ss us → ups_of (all_accessed t us ss) k ≡ ups_of ss k
none_rises t [] ss k all = refl
none_rises t (u ∷ us) ss k all = none_rises t us (changed_at u (accessed t) ss) k (are_up_later t u ss us all.1) ∙ used_same t u ss k all.0

-- ---- turns

pub turn_stays : (t : ℕ) (x : Turn) (m : Machine) (k : ℕ) → is_down m.spindles k ≡ false → (is_down (turned t x m).spindles k ≡ false) × (ups_of (turned t x m).spindles k ≡ ups_of m.spindles k)
turn_stays t x m k up = at (slice_get m.volumes x.volume)
  where
    at : (o : Option Volume) → (is_down (turned_at t x m o).spindles k ≡ false) × (ups_of (turned_at t x m o).spindles k ≡ ups_of m.spindles k)
    at None = (up, refl)
    at (Some v) = (all_stay t (x.action v.reach v.look).uses m.spindles k up, all_same t (x.action v.reach v.look).uses m.spindles k up)

pub turns_stay : (t : ℕ) (xs : List Turn) (m : Machine) (k : ℕ) → is_down m.spindles k ≡ false → ups_of (after_turns t xs m).spindles k ≡ ups_of m.spindles k
turns_stay t [] m k up = refl
turns_stay t (x ∷ xs) m k up = let one = turn_stays t x m k up in turns_stay t xs (turned t x m) k one.0 ∙ one.1

pub used_stay_up : UsedStayUp
used_stay_up timeout t later m v d at has = turns_stay timeout later (turned timeout t m) d
    (subst (λ (o : Option Volume). is_down (turned_at timeout t m o).spindles d ≡ false) (sym at) (all_used timeout (t.action v.reach v.look).uses m.spindles d has))
