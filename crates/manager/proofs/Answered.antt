-- The lanes of a manager in a write: which were turned away, which one took it, and the loop that asks them.
use Rattle.std.proofs.Common.{◌≡◌, ◌⊎◌, inl, inr, ⊎_elim, ◌<◌, ◌≤◌, ◌+◌, ◌-◌, ℕ, zero, suc, Bool, true, false, cond, not, List, [], ◌∷◌, ◌++◌, map, length, Some, refl, sym, ap, subst, ◌∙◌, arith}
use Rattle.std.specs.Prelude.{slice_get, slice_set, replicate, ◌==◌}
use Rattle.std.specs.List.{AllZip, list_any, AllByRecursion}
use Rattle.std.proofs.Math.ListN.{length-set}
use Rattle.std.proofs.lemmas.Bool.Decides.{eqb_tells}
use Rattle.std.proofs.lemmas.Option.{same_Some, none-some, slice_get_within}
use Rattle.turn_lock.specs.Passes.{pass_mine, pass_number}
use Rattle.offload_policy.specs.Placing.{may_hold}
use Rattle.offload_policy.specs.declared.Room.{Room}
use Rattle.offload_policy.specs.declared.Room.TheVariants.{Unknown, Yes, No}
use Rattle.wol_promise.specs.Ruled.{Noted, HasPassed, times_passed}
use Rattle.logger.specs.Lanes.{logger_of, held_in, pool_of}
use Rattle.logger.specs.declared.lane.Lane.{Lane}
use Rattle.manager.specs.Offers.{IsTurnedAway, HasTakenWrite, ChangesLane}
use Rattle.manager.specs.Stands.{AreNamed, IsNamed, nones_in, nones_at, passed_in, Keeps, IsReady, IsHome}
use Rattle.manager.specs.Writing.{HasAnswered, HaveAnswered}
use Rattle.manager.specs.declared.base.LaneBase.{LaneBase}
use Rattle.manager.proofs.Frames.{times_more}
use Rattle.volume_parts.proofs.Elements.{get_set, get_other, get_copies, length_copies, get_inside, zip_of, same_maps, all_set}
use Rattle.volume_parts.proofs.Placing.{is_passed, none_passed_beyond}
use Rattle.volume_parts.proofs.Lanes.{nones_none, nones_some}
use Rattle.wol_disk.specs.Disk.{State}
use Rattle.logger.specs.declared.shared.Shared.{Shared}
use Rattle.manager.specs.declared.base.ManagerBase.{ManagerBase}
use Rattle.manager.specs.declared.manager.Manager.{Manager}
pub use Rattle.volume_parts.proofs.Elements.{get_inside}

-- ---- Pools

nones_beyond : {D : Type 0} (lanes : List (Lane D)) (bs : List LaneBase) (k : ℕ) → length lanes ≤ k → nones_at lanes bs k ≡ 0
nones_beyond [] bs k le = refl
nones_beyond (l ∷ lanes) bs zero le = absurd (omega arith)
nones_beyond (l ∷ lanes) [] (suc k) le = nones_beyond lanes [] k (omega arith)
nones_beyond (l ∷ lanes) (b ∷ bs) (suc k) le = nones_beyond lanes bs k (omega arith)

nones_at_is : {D : Type 0} (lanes : List (Lane D)) (bs : List LaneBase) (k : ℕ) (l : Lane D) (b : LaneBase) → slice_get lanes k ≡ Some l → slice_get bs k ≡ Some b → nones_at lanes bs k ≡ nones_in (pass_mine (pool_of l)) - b.nones
nones_at_is [] bs k l b is is_b = absurd (none-some l is)
nones_at_is (x ∷ lanes) [] k l b is is_b = absurd (none-some b is_b)
nones_at_is (x ∷ lanes) (c ∷ bs) zero l b is is_b = λ i. nones_in (pass_mine (pool_of (same_Some x l is i))) - (same_Some c b is_b i).nones
nones_at_is (x ∷ lanes) (c ∷ bs) (suc k) l b is is_b = nones_at_is lanes bs k l b is is_b

record NamedAt {D : Type 0} (bs : List LaneBase) (k : ℕ) (l : Lane D) : Type 0 where
  base : LaneBase
  there : slice_get bs k ≡ Some base
  named : IsNamed l base

named_at : {D : Type 0} (lanes : List (Lane D)) (bs : List LaneBase) (k : ℕ) (l : Lane D) → AreNamed lanes bs → slice_get lanes k ≡ Some l → NamedAt bs k l
named_at [] bs k l all is = absurd (none-some l is)
named_at (x ∷ lanes) [] k l all is = absurd all
named_at {D} (x ∷ lanes) (b ∷ bs) zero l all is = record { base = b; there = refl; named = let P : Lane D → Type 0 = λ q. IsNamed q b in subst P (same_Some x l is) all.0 }
named_at (x ∷ lanes) (b ∷ bs) (suc k) l all is = let rest = named_at lanes bs k l all.1 is in record { base = rest.base; there = rest.there; named = rest.named }

module _ {D : Type 0} (count : ℕ) where
  -- ---- Lanes in turn

  -- none was asked yet
  pub none_asked : (rooms : List Room) (lanes : List (Lane D)) → rooms ≡ replicate (length lanes) Unknown → HaveAnswered count (λ k. false) rooms lanes lanes
  none_asked rooms lanes is = record {
    noted = ap length is ∙ length_copies Unknown (length lanes);
    same = refl;
    each = λ k r o n is_r is_o is_n. subst (λ (x : Room). HasAnswered count false x o n) (sym (get_copies Unknown (length lanes) k r (sym (ap (λ (l : List Room). slice_get l k) is) ∙ is_r)))
        (same_Some n o (sym is_n ∙ is_o));
  }

  module _ (rooms : List Room) (old mid new : List (Lane D)) (before : HaveAnswered count (λ k. false) rooms old mid) (lane : ℕ) (unknown : slice_get rooms lane ≡ Some Unknown) where
    -- one more was turned away
    pub one_turned_away : ChangesLane (IsTurnedAway count) lane mid new → HaveAnswered count (λ k. false) (slice_set rooms lane No) old new
    one_turned_away change = record {
      noted = length-set rooms lane No ∙ before.noted;
      same = ap length change.set ∙ (length-set mid lane change.after ∙ before.same);
      each = λ k r o n is_r is_o is_n. ⊎_elim (λ here. at_lane k r o n is_r is_o is_n here.1) (λ other. elsewhere k r o n is_r is_o is_n other.1) (eqb_tells lane k);
    }
      where
        at_lane : (k : ℕ) (r : Room) (o n : Lane D) → slice_get (slice_set rooms lane No) k ≡ Some r → slice_get old k ≡ Some o → slice_get new k ≡ Some n → lane ≡ k → HasAnswered count false r o n
        at_lane k r o n is_r is_o is_n here =
            let no_room : No ≡ r = same_Some No r (sym (get_set rooms lane Unknown No unknown) ∙ (ap (slice_get (slice_set rooms lane No)) here ∙ is_r)) in
            let first : change.before ≡ o = before.each lane Unknown o change.before unknown (ap (slice_get old) here ∙ is_o) change.there in
            let last : change.after ≡ n = same_Some change.after n (sym (get_set mid lane change.before change.after change.there) ∙ (sym (ap (λ (l : List (Lane D)). slice_get l lane) change.set) ∙ (ap (slice_get new) here ∙ is_n))) in
            subst (λ (x : Room). HasAnswered count false x o n) no_room (subst (λ (x : Lane D). IsTurnedAway count x n) first (subst (λ (x : Lane D). IsTurnedAway count change.before x) last change.change))

        elsewhere : (k : ℕ) (r : Room) (o n : Lane D) → slice_get (slice_set rooms lane No) k ≡ Some r → slice_get old k ≡ Some o → slice_get new k ≡ Some n → (lane ≡ k → ⊥) → HasAnswered count false r o n
        elsewhere k r o n is_r is_o is_n other =
            before.each k r o n (sym (get_other rooms lane k No (λ e. other (sym e))) ∙ is_r) is_o (sym (ap (λ (l : List (Lane D)). slice_get l k) change.set ∙ get_other mid lane k change.after (λ e. other (sym e))) ∙ is_n)

    -- one took the write
    pub one_takes : ChangesLane (HasTakenWrite count) lane mid new → HaveAnswered count (λ k. lane == k) rooms old new
    one_takes change = record {
      noted = before.noted;
      same = ap length change.set ∙ (length-set mid lane change.after ∙ before.same);
      each = λ k r o n is_r is_o is_n. ⊎_elim
          (λ here. subst (λ (t : Bool). HasAnswered count t r o n) (sym here.0) (at_lane k r o n is_r is_o is_n here.1))
          (λ other. subst (λ (t : Bool). HasAnswered count t r o n) (sym other.0) (elsewhere k r o n is_r is_o is_n other.1)) (eqb_tells lane k);
    }
      where
        at_lane : (k : ℕ) (r : Room) (o n : Lane D) → slice_get rooms k ≡ Some r → slice_get old k ≡ Some o → slice_get new k ≡ Some n → lane ≡ k → (r ≡ Unknown) × HasTakenWrite count o n
        at_lane k r o n is_r is_o is_n here =
            let first : change.before ≡ o = before.each lane Unknown o change.before unknown (ap (slice_get old) here ∙ is_o) change.there in
            let last : change.after ≡ n = same_Some change.after n (sym (get_set mid lane change.before change.after change.there) ∙ (sym (ap (λ (l : List (Lane D)). slice_get l lane) change.set) ∙ (ap (slice_get new) here ∙ is_n))) in
            (same_Some r Unknown (sym is_r ∙ (sym (ap (slice_get rooms) here) ∙ unknown)), subst (λ (x : Lane D). HasTakenWrite count x n) first (subst (λ (x : Lane D). HasTakenWrite count change.before x) last change.change))

        elsewhere : (k : ℕ) (r : Room) (o n : Lane D) → slice_get rooms k ≡ Some r → slice_get old k ≡ Some o → slice_get new k ≡ Some n → (lane ≡ k → ⊥) → HasAnswered count false r o n
        elsewhere k r o n is_r is_o is_n other =
            before.each k r o n is_r is_o (sym (ap (λ (l : List (Lane D)). slice_get l k) change.set ∙ get_other mid lane k change.after (λ e. other (sym e))) ∙ is_n)

  -- ---- What answers tell

  same_logger : (took : Bool) (r : Room) (o n : Lane D) → HasAnswered count took r o n → logger_of n ≡ logger_of o
  same_logger true r o n is = is.1.same.logger
  same_logger false No o n is = is.same.logger
  same_logger false Unknown o n is = ap logger_of is
  same_logger false Yes o n is = absurd is

  same_held_in : (r : Room) (o n : Lane D) → HasAnswered count false r o n → held_in n ≡ held_in o
  same_held_in No o n is = is.held
  same_held_in Unknown o n is = ap held_in is
  same_held_in Yes o n is = absurd is

  nones_of : (took : Bool) (r : Room) (o n : Lane D) → HasAnswered count took r o n → nones_in (pass_mine (pool_of n)) ≡ nones_in (pass_mine (pool_of o)) + cond (not (may_hold r)) 1 0
  nones_of true r o n is =
      let none = ap (λ (x : Room). cond {A = ℕ} (not (may_hold x)) 1 0) is.0 in
      let same : nones_in (pass_mine (pool_of n)) ≡ nones_in (pass_mine (pool_of o)) = ⊎_elim (λ e. ap nones_in e) (λ s. ap nones_in s.1 ∙ nones_some (pass_mine (pool_of o)) (pass_number (pool_of o)) s.0) is.1.pool in
      omega (arith, none, same)
  nones_of false No o n is = ap nones_in is.pool ∙ nones_none (pass_mine (pool_of o)) (pass_number (pool_of o))
  nones_of false Unknown o n is = let same = ap (λ (l : Lane D). nones_in (pass_mine (pool_of l))) is in omega (arith, same)
  nones_of false Yes o n is = absurd is

  module _ (took : ℕ → Bool) (rooms : List Room) (old new : List (Lane D)) (all : HaveAnswered count took rooms old new) where
    -- what is so of each answer
    each_so : (R : Lane D → Lane D → Type 0) → ((k : ℕ) (r : Room) (o n : Lane D) → slice_get rooms k ≡ Some r → slice_get old k ≡ Some o → slice_get new k ≡ Some n → HasAnswered count (took k) r o n → R o n) → AllZip R old new
    each_so R so = zip_of R old new all.same (λ k o n is_o is_n.
        let r = get_inside rooms k (let lt = slice_get_within old k o is_o in let e = all.noted in omega arith) in so k r.0 o n r.1 is_o is_n (all.each k r.0 o n r.1 is_o is_n))

    pub loggers_same : map logger_of new ≡ map logger_of old
    loggers_same = same_maps logger_of old new (each_so (λ o n. logger_of n ≡ logger_of o) (λ k r o n is_r is_o is_n is. same_logger (took k) r o n is))

    -- no pool is said to be empty more often than it was found so
    pub passed_more : (bs : List LaneBase) (notes : List Noted) (n : Noted) → AreNamed old bs → n.passed ≡ passed_in rooms → HasPassed (nones_at old bs) notes → HasPassed (nones_at new bs) (notes ++ n ∷ [])
    passed_more bs notes n named is has k =
        ⊎_elim (λ lt. inside (get_inside old k lt)) (λ past. beyond past) (below_or_past k (length old))
      where
        below_or_past : (a b : ℕ) → (a < b) ⊎ (b ≤ a)
        below_or_past a zero = inr (omega arith)
        below_or_past zero (suc b) = inl (omega arith)
        below_or_past (suc a) (suc b) = ⊎_elim (λ lt. inl (omega arith)) (λ le. inr (omega arith)) (below_or_past a b)

        inside : (o : Lane D) × (slice_get old k ≡ Some o) → times_passed k (notes ++ n ∷ []) ≤ nones_at new bs k
        inside there =
            let o = there.0 in
            let r = get_inside rooms k (let lt = slice_get_within old k o there.1 in let e = all.noted in omega arith) in
            let m = get_inside new k (let lt = slice_get_within old k o there.1 in let e = all.same in omega arith) in
            let b = named_at old bs k o named there.1 in
            let more = times_more k notes n in
            let passed = ap (λ (t : Bool). cond {A = ℕ} t 1 0) (ap (λ (ps : List ℕ). list_any (λ p. p == k) ps) is ∙ is_passed rooms k r.0 r.1) in
            let was = nones_at_is old bs k o b.base there.1 b.there in
            let now = nones_at_is new bs k m.0 b.base m.1 b.there in
            let found = nones_of (took k) r.0 o m.0 (all.each k r.0 o m.0 r.1 there.1 m.1) in
            let least = b.named.nones in
            omega (arith, more, passed, was, now, found, least, has k)

        beyond : length old ≤ k → times_passed k (notes ++ n ∷ []) ≤ nones_at new bs k
        beyond past =
            let more = times_more k notes n in
            let passed = ap (λ (t : Bool). cond {A = ℕ} t 1 0) (ap (λ (ps : List ℕ). list_any (λ p. p == k) ps) is ∙ none_passed_beyond rooms k (let e = all.noted in omega arith)) in
            let was = nones_beyond old bs k past in
            omega (arith, more, passed, was, has k)

  -- ---- Lanes of which none took the write

  module _ (rooms : List Room) (old new : List (Lane D)) (all : HaveAnswered count (λ k. false) rooms old new) where
    pub held_same : AllZip (λ o n. held_in n ≡ held_in o) old new
    held_same = each_so (λ k. false) rooms old new all (λ o n. held_in n ≡ held_in o) (λ k r o n is_r is_o is_n is. same_held_in r o n is)

-- some lanes were asked in vain, and nothing else changed
pub record Asking {D : Type 0} (tells : Bool) (state : D → State) (shared : Shared D) (count : ℕ) (old now : Manager D) : Type 0 where
  pub ready : IsReady state now
  pub at : IsHome shared now
  pub rest : now ≡ record old { lanes = now.lanes; rooms = now.rooms }
  pub lanes : HaveAnswered count (λ k. false) now.rooms.items old.lanes.items now.lanes.items
  pub unsure : AllByRecursion (λ (r : Room). r ≡ Yes → ⊥) now.rooms.items
  pub keeps : (b : ManagerBase) (notes : List Noted) → Keeps tells state old b notes → Keeps tells state now b notes

module _ {D : Type 0} (tells : Bool) (state : D → State) (shared : Shared D) (count : ℕ) where
  -- before a lane is asked
  pub asking_none : (m : Manager D) → IsReady state m → IsHome shared m → m.rooms.items ≡ replicate (length m.lanes.items) Unknown → Asking tells state shared count m m
  asking_none m ready at is = record {
    ready = ready;
    at = at;
    rest = refl;
    lanes = none_asked count m.rooms.items m.lanes.items is;
    unsure = subst (AllByRecursion (λ (r : Room). r ≡ Yes → ⊥)) (sym is) (copies (length m.lanes.items));
    keeps = λ b notes k. k;
  }
    where
      copies : (n : ℕ) → AllByRecursion (λ (r : Room). r ≡ Yes → ⊥) (replicate n Unknown)
      copies zero = tt
      copies (suc n) = ((λ e. cc), copies n)

  -- one was asked in vain
  pub asking_more : (old now new : Manager D) (lane : ℕ) → Asking tells state shared count old now → slice_get now.rooms.items lane ≡ Some Unknown
      → new ≡ record now { lanes = new.lanes; rooms = record { items = slice_set now.rooms.items lane No } } → ChangesLane (IsTurnedAway count) lane now.lanes.items new.lanes.items
      → IsReady state new → IsHome shared new → ((b : ManagerBase) (notes : List Noted) → Keeps tells state now b notes → Keeps tells state new b notes) → Asking tells state shared count old new
  asking_more old now new lane a unknown is change ready at keeps =
      let rooms : new.rooms.items ≡ slice_set now.rooms.items lane No = ap (λ (m : Manager D). m.rooms.items) is in record {
        ready = ready;
        at = at;
        rest = is ∙ ((λ i. record (a.rest i) { lanes = new.lanes; rooms = record { items = slice_set now.rooms.items lane No } }) ∙ (λ i. record old { lanes = new.lanes; rooms = record { items = sym rooms i } }));
        lanes = subst (λ (rs : List Room). HaveAnswered count (λ k. false) rs old.lanes.items new.lanes.items) (sym rooms)
            (one_turned_away count now.rooms.items old.lanes.items now.lanes.items new.lanes.items a.lanes lane unknown change);
        unsure = subst (AllByRecursion (λ (r : Room). r ≡ Yes → ⊥)) (sym rooms) (all_set (λ (r : Room). r ≡ Yes → ⊥) now.rooms.items lane No a.unsure (λ e. cc));
        keeps = λ b notes k. keeps b notes (a.keeps b notes k);
      }
