-- The lane of the logger of an owned segment.
use Rattle.std.proofs.Common.{◌≡◌, ◌+◌, ◌<◌, ℕ, zero, suc, Bool, true, false, not, cond, eqb, List, [], ◌∷◌, length, map, Option, None, Some, refl, sym, ap, subst, ◌∙◌, arith}
use Rattle.std.specs.Prelude.{slice_get, filter, find, position, is_some, slice_index_or, nat_lt}
use Rattle.std.specs.List.{position_or_len}
use Rattle.std.proofs.lemmas.Bool.{eqb-true, ltb-true}
use Rattle.std.proofs.lemmas.Option.{same_Some, none-some, slice_get_within}
use Rattle.wol_disk.specs.Disk.{State}
use Rattle.logger.specs.Lanes.{logger_of}
use Rattle.logger.specs.declared.lane.Lane.{Lane}
use Rattle.logger.proofs.Held.{there_get}
use Rattle.logger.specs.declared.shared.Shared.{Shared}
use Rattle.manager_recovery.specs.Opening.{CanOpen}
use Rattle.manager_recovery.specs.Refused.{IsNamesAnswer, first_missing, is_named}
use Rattle.manager_recovery.specs.declared.opening.Opening.{Opening}
use Rattle.manager_recovery.specs.declared.opening.OwnedPart.{OwnedPart}

kept_some : {X : Type 0} (b : Bool) (x y : X) → cond b (Some x) None ≡ Some y → (b ≡ true) × (x ≡ y)
kept_some true x y is = (refl, same_Some x y is)
kept_some false x y is = absurd (none-some y is)

module _ {X : Type 0} where
  -- no element passes
  pub none_found : (test : X → Bool) (xs : List X) (k : ℕ) (x : X) → find test xs ≡ None → slice_get xs k ≡ Some x → test x ≡ false
  none_found test [] k x none is = absurd (none-some x is)
  none_found test (y ∷ ys) k x none is = at (none_found test ys) (test y) refl k none is
    where
      at : ((k : ℕ) (x : X) → find test ys ≡ None → slice_get ys k ≡ Some x → test x ≡ false) → (t : Bool) → test y ≡ t → (k : ℕ) → cond t (Some y) (find test ys) ≡ None → slice_get (y ∷ ys) k ≡ Some x → test x ≡ false
      at more true e k none is = absurd (none-some y (sym none))
      at more false e zero none is = ap test (sym (same_Some y x is)) ∙ e
      at more false e (suc k) none is = more k x none is

  found_at : (test : X → Bool) (xs : List X) (k : ℕ) (x : X) → slice_get xs k ≡ Some x → k ≡ position_or_len test xs → test x ≡ true
  found_at test [] k x is at = absurd (none-some x is)
  found_at test (y ∷ ys) k x is at = by (found_at test ys) (test y) refl k is at
    where
      by : ((k : ℕ) (x : X) → slice_get ys k ≡ Some x → k ≡ position_or_len test ys → test x ≡ true) → (t : Bool) → test y ≡ t → (k : ℕ) → slice_get (y ∷ ys) k ≡ Some x → k ≡ cond (not t) (1 + position_or_len test ys) 0 → test x ≡ true
      by more true e zero is at = ap test (sym (same_Some y x is)) ∙ e
      by more true e (suc k) is at = absurd (omega (arith, at))
      by more false e zero is at = absurd (omega (arith, at))
      by more false e (suc k) is at = more k x is (omega (arith, at))

  pub get_below : (xs : List X) (k : ℕ) → k < length xs → (x : X) × (slice_get xs k ≡ Some x)
  get_below [] k lt = absurd (omega arith)
  get_below (x ∷ xs) zero lt = (x, refl)
  get_below (x ∷ xs) (suc k) lt = get_below xs k (omega arith)

  -- the element at the first place where one passes
  pub at_position : (test : X → Bool) (xs : List X) (k : ℕ) → position test xs ≡ Some k → (x : X) × (slice_get xs k ≡ Some x) × (test x ≡ true)
  at_position test xs k is =
      let w = kept_some (nat_lt (position_or_len test xs) (length xs)) (position_or_len test xs) k is in
      let x = get_below xs k (subst (λ (n : ℕ). n < length xs) w.1 (ltb-true (position_or_len test xs) (length xs) w.0)) in
      (x.0, x.1, found_at test xs k x.0 x.1 (sym w.1))

some_of : {X : Type 0} (o : Option X) → not (is_some o) ≡ false → (x : X) × (o ≡ Some x)
some_of None none = let e : true ≡ false = none in absurd (cc)
some_of (Some x) none = (x, refl)

-- a logger whose place in the view this is
pub logger_at : (view : List ℕ) (logger place : ℕ) → position (λ (id : ℕ). eqb id logger) view ≡ Some place → slice_get view place ≡ Some logger
logger_at view logger place is = let w = at_position (λ (id : ℕ). eqb id logger) view place is in w.1 ∙ ap Some (eqb-true w.0 logger w.2)

-- all loggers are present
all_present : (present : List Bool) (view : List ℕ) → first_missing view present ≡ None → filter (λ (id : ℕ). slice_index_or present id false) view ≡ view
all_present present [] none = refl
all_present present (v ∷ view) none = at (all_present present view) (slice_index_or present v false) none
  where
    at : (first_missing view present ≡ None → filter (λ (id : ℕ). slice_index_or present id false) view ≡ view)
        → (t : Bool) → cond (not t) (Some v) (first_missing view present) ≡ None → cond t (v ∷ filter (λ (id : ℕ). slice_index_or present id false) view) (filter (λ (id : ℕ). slice_index_or present id false) view) ≡ v ∷ view
    at more true none = ap (λ (l : List ℕ). v ∷ l) (more none)
    at more false none = absurd (none-some v (sym none))

pub lane_with : {D : Type 0} (ls : List (Lane D)) (k x : ℕ) → slice_get (map logger_of ls) k ≡ Some x → (l : Lane D) × (slice_get ls k ≡ Some l) × (logger_of l ≡ x)
lane_with [] k x is = absurd (none-some x is)
lane_with (l ∷ ls) zero x is = (l, refl, same_Some (logger_of l) x is)
lane_with (l ∷ ls) (suc k) x is = lane_with ls k x is

module _ {D : Type 0} (state : D → State) (shared : Shared D) (o : Opening D) where
  -- the lanes are those of the view
  pub loggers_are : CanOpen state shared o → first_missing o.view o.present.items ≡ None → map logger_of o.lanes.items ≡ o.view
  loggers_are can present = can.loggers ∙ all_present o.present.items o.view present

  -- each owned segment's logger has a place in the view
  pub place_is : IsNamesAnswer o None → (k : ℕ) (p : OwnedPart D) → slice_get o.owned.items k ≡ Some p → (place : ℕ) × (position (λ (id : ℕ). eqb id p.logger) o.view ≡ Some place)
  place_is named k p is = some_of (position (λ (id : ℕ). eqb id p.logger) o.view) (none_found (λ (q : OwnedPart D). not (is_named o.view q.logger)) o.owned.items k p named.2 is)

  -- at that place there is its lane
  pub lane_is : CanOpen state shared o → first_missing o.view o.present.items ≡ None → (logger place : ℕ) → position (λ (id : ℕ). eqb id logger) o.view ≡ Some place → (l : Lane D) × (slice_get o.lanes.items place ≡ Some l) × (logger_of l ≡ logger)
  lane_is can present logger place is = lane_with o.lanes.items place logger (ap (λ (v : List ℕ). slice_get v place) (loggers_are can present) ∙ logger_at o.view logger place is)

-- what was read at a place is what stands there
pub read_at : {X : Type 0} (xs : List X) (k : ℕ) (x y : X) → slice_get xs k ≡ Some y → x ≡ slice_index_or xs k x → x ≡ y
read_at xs k x y there read = same_Some x y (sym (there_get xs k x (slice_get_within xs k y there) read) ∙ there)
