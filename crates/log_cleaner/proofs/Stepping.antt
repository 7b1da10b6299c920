-- Steps of a cleaning, one after another.
use Rattle.std.proofs.Common.{◌≡◌, ◌≢◌, ◌⊎◌, inl, inr, ⊎_elim, ◌<◌, ◌≤◌, ℕ, zero, suc, Bool, true, false, not, eqb, List, [], ◌∷◌, ◌++◌, length, Option, None, Some, Result, Ok, Err, refl, sym, ap, subst, ◌∙◌, arith, append_assoc, length-append}
use Rattle.std.specs.Prelude.{◌↔◌, Contains, IfSome, IsTrue, slice_get, slice_set, slice_index_or}
use Rattle.std.specs.List.{AllByRecursion}
use Rattle.std.specs.Option.{ForSome}
use Rattle.std.proofs.Math.ListN.{length-set}
use Rattle.std.proofs.lemmas.Option.{same_Some, slice_get_within}
use Rattle.std.proofs.lemmas.Bool.{ne_eqb}
use Rattle.std.proofs.lemmas.List.{append-nil, append_cancel_left}
use Rattle.wol_disk.specs.Disk.{State}
use Rattle.turn_lock.specs.Histories.{Entry, Begins}
use Rattle.turn_lock.specs.Passes.{pass_mine, pass_number}
use Rattle.seg_pool.specs.Holders.{Gave}
use Rattle.seg_pool.specs.Operations.{operation_of}
use Rattle.logger.specs.Lanes.{held_in, pool_of}
use Rattle.logger.specs.declared.lane.HeldSegment.{HeldSegment}
use Rattle.logger.specs.declared.lane.Lane.{Lane}
use Rattle.log_segment.specs.Segment.{disk_of}
use Rattle.wol_model.specs.Blocks.{Write}
use Rattle.wol_model.specs.Index.{Listed, Indexed, listed_in, is_covered, goes, has_going}
use Rattle.wol_promise.proofs.Lists.{all_back, all_front, all_mapped, all_map, member_map}
use Rattle.wol_promise.proofs.Wholes.{member_filter}
use Rattle.block_cells.specs.declared.record.Rec.{Rec}
use Rattle.redirect_map.specs.Index.{Contents, IsAnswer, entry_at}
use Rattle.garbage_list.proofs.Nexts.{answered}
use Rattle.manager.specs.Causes.{NoneRose, PartRose, PartRoseOrClaimed}
use Rattle.manager.specs.Offers.{ChangesLane}
use Rattle.manager.specs.Reading.{needs_of}
use Rattle.manager.specs.Reclaim.{OnFailed, OnTried, TellsStep, KeepsOn, Always, HasDropped, IsTrimmedLane, given_of}
use Rattle.manager.specs.Stands.{Keeps, entries_at}
use Rattle.manager.specs.declared.manager.Manager.{Manager}
use Rattle.manager.specs.declared.part.Part.{Part}
use Rattle.manager.specs.declared.part.Part.TheVariants.{Home, Segment}
use Rattle.manager.specs.declared.part.StepFault.{StepFault}
use Rattle.manager.specs.declared.part.StepFault.TheVariants as step
use Rattle.manager.proofs.Answered.{get_inside}
use Rattle.manager.proofs.Lanes.{get_set, get_other}
use Rattle.reclaimer.specs.Fetches.{going_entry}
use Rattle.reclaimer.specs.Steps.{HasGivenUp, StopsWithin}
use Rattle.reclaimer.specs.declared.answers.Gone.{Gone}
use Rattle.reclaimer.specs.declared.answers.Gone.TheVariants as gone
use Rattle.reclaimer.proofs.Idle.{idle}
use Rattle.log_cleaner.specs.Chunks.{HasLive, IsTidy, IsUppermost, NoneHomed}
use Rattle.log_cleaner.specs.Cleans.{AllAwake, CanClean, FindsAllEmpty, GoesOn, HasKept, HoldsCalm, StaysCalm}
use Rattle.log_cleaner.specs.Steps.{GivesAll, GivesSome, HasBroken, HasCopied, KeepsTidy, Settles, TidiesUp, step_fault}
use Rattle.log_cleaner.specs.Copies.{HoldFewer, indexes_of}
use Rattle.log_cleaner.proofs.Claiming.{HoldsOn, holds_indexes, holds_same, members}
use Rattle.log_cleaner.proofs.Copying.{copies_none, copies_plain, copies_then, keeps_none, keeps_then, leaves_then}
use Rattle.log_cleaner.proofs.Lives.{given_live, given_lived}
use Rattle.log_cleaner.proofs.Tidying.{given_covered, given_tidy, given_unhomed, given_upper, member_unmap, none_goes, tidy_of_upper}

-- ---- Entries of a pass

begins_same : (xs ys : List Entry) → ys ≡ xs → Begins xs ys
begins_same xs ys same = ([], append-nil xs ∙ sym same)

begins_more : (xs ys more : List Entry) → ys ≡ xs ++ more → Begins xs ys
begins_more xs ys more is = (more, sym is)

pub begins_then : (xs ys zs : List Entry) → Begins xs ys → Begins ys zs → Begins xs zs
begins_then xs ys zs first second = (first.0 ++ second.0, sym (append_assoc xs first.0 second.0) ∙ ap (λ (l : List Entry). l ++ second.0) first.1 ∙ second.1)

-- ---- Going on

pub goes_none : {D : Type 0} (m : Manager D) → CanClean m → GoesOn m m
goes_none {D} m can = record {
  same = record { id = refl; most = refl };
  can = can;
  covered = λ b. refl;
  home_up = refl;
  home_needs = refl;
  lanes = refl;
  pools = λ k o n is_o is_n. begins_same (pass_mine (pool_of o)) (pass_mine (pool_of n)) (ap (λ (l : Lane D). pass_mine (pool_of l)) (same_Some n o (sym is_n ∙ is_o)));
}

pub goes_then : {D : Type 0} (old mid new : Manager D) → GoesOn old mid → GoesOn mid new → GoesOn old new
goes_then old mid new first second = record {
  same = record { id = second.same.id ∙ first.same.id; most = second.same.most ∙ first.same.most };
  can = second.can;
  covered = λ b. second.covered b ∙ first.covered b;
  home_up = second.home_up ∙ first.home_up;
  home_needs = second.home_needs ∙ first.home_needs;
  lanes = second.lanes ∙ first.lanes;
  pools = λ k o n is_o is_n.
      let lt = slice_get_within old.lanes.items k o is_o in let long = first.lanes in
      let l = get_inside mid.lanes.items k (omega (arith, lt, long)) in
      begins_then (pass_mine (pool_of o)) (pass_mine (pool_of l.0)) (pass_mine (pool_of n)) (first.pools k o l.0 is_o l.1) (second.pools k l.0 n l.1 is_n);
}

-- an empty pool is found empty since an earlier moment too
pub empty_since : {D : Type 0} (old mid new : Manager D) → GoesOn old mid → FindsAllEmpty mid new → FindsAllEmpty old new
empty_since old mid new first empty k o n is_o is_n =
    let lt = slice_get_within old.lanes.items k o is_o in let long = first.lanes in
    let l = get_inside mid.lanes.items k (omega (arith, lt, long)) in
    let e = empty k l.0 n l.1 is_n in
    (e.0, begins_then (pass_mine (pool_of o)) (pass_mine (pool_of l.0)) e.0 (first.pools k o l.0 is_o l.1) e.1, e.2)

-- ---- Calls in which none of a disk failed

pub calm_none : {D : Type 0} (state : D → State) (m : Manager D) → StaysCalm state m m
calm_none {D} state m = record {
  home = refl;
  held = λ k o n is_o is_n h has kept. let same = same_Some o n (sym is_o ∙ is_n) in
      record { its = h; held = subst (λ (l : Lane D). Contains (held_in l) h) same has; index = refl; calm = refl };
}

pub calm_once : {D : Type 0} (state : D → State) (old new : Manager D) → NoneRose state old new → HoldsOn old.lanes.items new.lanes.items → StaysCalm state old new
calm_once {D} state old new none holds = record {
  home = none.home;
  held = λ k o n is_o is_n h has kept.
      let m = member_unmap (λ (g : HeldSegment D). g.index) (held_in n) h.index (holds k o n is_o is_n h has kept) in
      record { its = m.0; held = m.1; index = m.2; calm = none.held k o n is_o is_n h m.0 has m.1 m.2 };
}

pub calm_then : {D : Type 0} (state : D → State) (old mid new : Manager D) → GoesOn old mid → GoesOn mid new → StaysCalm state old mid → StaysCalm state mid new → StaysCalm state old new
calm_then {D} state old mid new on then_ first second = record {
  home = second.home ∙ first.home;
  held = λ k o n is_o is_n h has kept.
      let lt = slice_get_within old.lanes.items k o is_o in let long = on.lanes in
      let l = get_inside mid.lanes.items k (omega (arith, lt, long)) in
      let a = on.pools k o l.0 is_o l.1 in let b = then_.pools k l.0 n l.1 is_n in
      let parts : kept.0 ≡ a.0 ++ b.0 = append_cancel_left (pass_mine (pool_of o)) kept.0 (a.0 ++ b.0) (sym kept.1 ∙ sym b.1 ∙ ap (λ (l : List Entry). l ++ b.0) (sym a.1) ∙ append_assoc (pass_mine (pool_of o)) a.0 b.0) in
      let none = subst (AllByRecursion (λ (e : Entry). e.1 ≢ operation_of (Gave h.index))) parts kept.2 in
      let g = first.held k o l.0 is_o l.1 h has (a.0, sym a.1, all_front (λ (e : Entry). e.1 ≢ operation_of (Gave h.index)) a.0 b.0 none) in
      let f = second.held k l.0 n l.1 is_n g.its g.held (b.0, sym b.1, subst (λ (i : ℕ). AllByRecursion (λ (e : Entry). e.1 ≢ operation_of (Gave i)) b.0) (sym g.index) (all_back (λ (e : Entry). e.1 ≢ operation_of (Gave h.index)) a.0 b.0 none)) in
      record { its = f.its; held = f.held; index = f.index ∙ g.index; calm = f.calm ∙ g.calm };
}

module _ {D : Type 0} (tells : Bool) (state : D → State) where
  pub copied_none : (m : Manager D) → CanClean m → HasCopied tells state m m []
  copied_none m can = record { goes_on = goes_none m can; calm = calm_none state m; keeps = keeps_none tells state m; copied = copies_none tells state m; next = omega arith }

  pub copied_then : (old mid new : Manager D) (cs ds : List Write) → CanClean old → HasCopied tells state old mid cs → HasCopied tells state mid new ds → HasCopied tells state old new (cs ++ ds)
  copied_then old mid new cs ds can first second = record {
    goes_on = goes_then old mid new first.goes_on second.goes_on;
    calm = calm_then state old mid new first.goes_on second.goes_on first.calm second.calm;
    keeps = keeps_then tells state old mid new cs ds can.up first.keeps second.keeps;
    copied = copies_then tells state old mid new cs ds first.keeps first.copied second.copied;
    next = let a = first.next in let b = second.next in let l = length-append cs ds in omega (arith, a, b, l);
  }

  pub broken_then : (old mid new : Manager D) (p : Part) (cs fs : List Write) → CanClean old → HasCopied tells state old mid cs → HasBroken tells state mid new p fs → HasBroken tells state old new p (cs ++ fs)
  broken_then old mid new p cs fs can first second = record {
    down = second.down;
    rose = (second.rose.0, goes_then old mid second.rose.0 first.goes_on second.rose.1, calm_then state old mid second.rose.0 first.goes_on second.rose.1 first.calm second.rose.2, second.rose.3, second.rose.4);
    leaves = leaves_then tells state old mid new cs fs can.up second.copied.logged first.keeps second.leaves;
    copied = copies_then tells state old mid new cs fs first.keeps first.copied second.copied;
  }

-- ---- A step in which blocks are given up

all_set : (xs : List Bool) (k : ℕ) → AllByRecursion (λ x. x ≡ true) xs → AllByRecursion (λ x. x ≡ true) (slice_set xs k true)
all_set [] k all = tt
all_set (x ∷ xs) zero all = (refl, all.1)
all_set (x ∷ xs) (suc k) all = (all.0, all_set xs k all.1)

pub set_awake : (xs : List Bool) (k : ℕ) → AllByRecursion (λ x. x ≡ true) xs → AllByRecursion (λ x. x ≡ true) (slice_set xs k true)
set_awake xs k all = all_set xs k all

-- a part of a step rose
pub rose_of : {D : Type 0} (state : D → State) (old new : Manager D) (p : Part) → PartRose state old new p → PartRoseOrClaimed state old new p
rose_of state old new (Home volume) rose = rose
rose_of state old new (Segment volume index) rose = inl rose

-- one lane gave up blocks, and perhaps a segment
module _ {D : Type 0} (old new : List (Lane D)) (lane index : ℕ) (given : Type 0) (decided : given ⊎ (given → ⊥)) (c : ChangesLane (IsTrimmedLane index given) lane old new) where
  gained_at : (l m : Lane D) → IsTrimmedLane index given l m → Begins (pass_mine (pool_of l)) (pass_mine (pool_of m))
  gained_at l m t = ⊎_elim
      (λ is. begins_more (pass_mine (pool_of l)) (pass_mine (pool_of m)) ((pass_number (pool_of l), operation_of (Gave index)) ∷ []) (t.gave is).0)
      (λ not_. begins_same (pass_mine (pool_of l)) (pass_mine (pool_of m)) (t.kept not_).0)
      decided

  pub lane_pools : (k : ℕ) (o n : Lane D) → slice_get old k ≡ Some o → slice_get new k ≡ Some n → Begins (pass_mine (pool_of o)) (pass_mine (pool_of n))
  lane_pools k o n is_o is_n = at (Rattle.std.proofs.lemmas.Bool.cases_eq k lane)
    where
      at : (k ≡ lane) ⊎ (k ≡ lane → ⊥) → Begins (pass_mine (pool_of o)) (pass_mine (pool_of n))
      at (inl same) =
          let was : o ≡ c.before = same_Some o c.before (sym is_o ∙ ap (slice_get old) same ∙ c.there) in
          let now : n ≡ c.after = same_Some n c.after (sym is_n ∙ (λ i. slice_get (c.set i) (same i)) ∙ get_set old lane c.before c.after c.there) in
          subst (λ (l : Lane D). Begins (pass_mine (pool_of l)) (pass_mine (pool_of n))) (sym was) (subst (λ (l : Lane D). Begins (pass_mine (pool_of c.before)) (pass_mine (pool_of l))) (sym now)
          (gained_at c.before c.after c.change))
      at (inr other) =
          let now : n ≡ o = same_Some n o (sym is_n ∙ ap (λ (l : List (Lane D)). slice_get l k) c.set ∙ get_other old lane k c.after other ∙ is_o) in
          begins_same (pass_mine (pool_of o)) (pass_mine (pool_of n)) (ap (λ (l : Lane D). pass_mine (pool_of l)) now)

  -- each segment that is held was held before
  pub lane_fewer : HoldFewer old new
  lane_fewer = (ap length c.set ∙ length-set old lane c.after, each)
    where
      left_at : (l m : Lane D) → IsTrimmedLane index given l m → AllByRecursion (λ (i : ℕ). Contains (indexes_of l) i) (indexes_of m)
      left_at l m t = ⊎_elim
          (λ is. subst (λ (xs : List ℕ). AllByRecursion (λ (i : ℕ). Contains (indexes_of l) i) xs) (sym (t.gave is).1) (Rattle.log_cleaner.proofs.Lists.all_filter (λ (i : ℕ). Contains (indexes_of l) i) _ (indexes_of l) (members (indexes_of l))))
          (λ not_. subst (λ (xs : List ℕ). AllByRecursion (λ (i : ℕ). Contains (indexes_of l) i) xs) (sym (t.kept not_).1) (members (indexes_of l)))
          decided

      each : (k : ℕ) (o n : Lane D) → slice_get old k ≡ Some o → slice_get new k ≡ Some n → AllByRecursion (λ (i : ℕ). Contains (indexes_of o) i) (indexes_of n)
      each k o n is_o is_n = at (Rattle.std.proofs.lemmas.Bool.cases_eq k lane)
        where
          at : (k ≡ lane) ⊎ (k ≡ lane → ⊥) → AllByRecursion (λ (i : ℕ). Contains (indexes_of o) i) (indexes_of n)
          at (inl same) =
              let was : o ≡ c.before = same_Some o c.before (sym is_o ∙ ap (slice_get old) same ∙ c.there) in
              let now : n ≡ c.after = same_Some n c.after (sym is_n ∙ (λ i. slice_get (c.set i) (same i)) ∙ get_set old lane c.before c.after c.there) in
              subst (λ (l : Lane D). AllByRecursion (λ (i : ℕ). Contains (indexes_of l) i) (indexes_of n)) (sym was) (subst (λ (l : Lane D). AllByRecursion (λ (i : ℕ). Contains (indexes_of c.before) i) (indexes_of l)) (sym now)
              (left_at c.before c.after c.change))
          at (inr other) =
              let now : n ≡ o = same_Some n o (sym is_n ∙ ap (λ (l : List (Lane D)). slice_get l k) c.set ∙ get_other old lane k c.after other ∙ is_o) in
              subst (λ (l : Lane D). AllByRecursion (λ (i : ℕ). Contains (indexes_of o) i) (indexes_of l)) (sym now) (members (indexes_of o))

  -- and but for the one that was given back each is held still
  pub lane_holds : HoldsOn old new
  lane_holds k o n is_o is_n h has kept = at (Rattle.std.proofs.lemmas.Bool.cases_eq k lane)
    where
      trimmed : (l m : Lane D) → IsTrimmedLane index given l m → (h : HeldSegment D) → Contains (held_in l) h → HasKept h.index l m → Contains (indexes_of m) h.index
      trimmed l m t h has kept = ⊎_elim
          (λ is.
          let gave = t.gave is in
          let e : Entry = (pass_number (pool_of l), operation_of (Gave index)) in
          let more : kept.0 ≡ e ∷ [] = append_cancel_left (pass_mine (pool_of l)) kept.0 (e ∷ []) (sym kept.1 ∙ gave.0) in
          let none = subst (AllByRecursion (λ (x : Entry). x.1 ≢ operation_of (Gave h.index))) more kept.2 in
          let other : h.index ≡ index → ⊥ = λ same. none.0 (ap (λ (i : ℕ). operation_of (Gave i)) (sym same)) in
          subst (λ (xs : List ℕ). Contains xs h.index) (sym gave.1) (member_filter (λ (i : ℕ). not (eqb i index)) (indexes_of l) h.index (member_map (λ (g : HeldSegment D). g.index) (held_in l) h has) (ap not (ne_eqb h.index index other))))
          (λ not_. holds_indexes l m (t.kept not_).1 h has)
          decided

      at : (k ≡ lane) ⊎ (k ≡ lane → ⊥) → Contains (indexes_of n) h.index
      at (inl same) =
          let was : o ≡ c.before = same_Some o c.before (sym is_o ∙ ap (slice_get old) same ∙ c.there) in
          let now : n ≡ c.after = same_Some n c.after (sym is_n ∙ (λ i. slice_get (c.set i) (same i)) ∙ get_set old lane c.before c.after c.there) in
          subst (λ (l : Lane D). Contains (held_in l) h → HasKept h.index l n → Contains (indexes_of n) h.index) (sym was)
          (subst (λ (m : Lane D). Contains (held_in c.before) h → HasKept h.index c.before m → Contains (indexes_of m) h.index) (sym now) (trimmed c.before c.after c.change h)) has kept
      at (inr other) =
          let now : n ≡ o = same_Some n o (sym is_n ∙ ap (λ (l : List (Lane D)). slice_get l k) c.set ∙ get_other old lane k c.after other ∙ is_o) in
          holds_same o n (ap (λ (l : Lane D). held_in l) now) h has

module _ {D : Type 0} (old new : Manager D) (version : ℕ) (e : Indexed) {T : Type 0} (res : Result T StepFault) (can : CanClean old) (dropped : HasDropped version e old new res) where
  is_none : (n : ℕ) → (n ≡ 0) ⊎ (n ≡ 0 → ⊥)
  is_none zero = inl refl
  is_none (suc n) = inr (λ is. omega (arith, is))

  drop_pools : (k : ℕ) (o n : Lane D) → slice_get old.lanes.items k ≡ Some o → slice_get new.lanes.items k ≡ Some n → Begins (pass_mine (pool_of o)) (pass_mine (pool_of n))
  drop_pools = lane_pools old.lanes.items new.lanes.items e.listed.lane e.index (entries_at e.listed.lane e.index new.index.entries ≡ 0) (is_none (entries_at e.listed.lane e.index new.index.entries)) dropped.lanes

  -- each segment that is held was held before
  pub drop_fewer : HoldFewer old.lanes.items new.lanes.items
  drop_fewer = lane_fewer old.lanes.items new.lanes.items e.listed.lane e.index (entries_at e.listed.lane e.index new.index.entries ≡ 0) (is_none (entries_at e.listed.lane e.index new.index.entries)) dropped.lanes

  pub drop_holds : HoldsOn old.lanes.items new.lanes.items
  drop_holds = lane_holds old.lanes.items new.lanes.items e.listed.lane e.index (entries_at e.listed.lane e.index new.index.entries ≡ 0) (is_none (entries_at e.listed.lane e.index new.index.entries)) dropped.lanes

  pub drop_goes_on : new.down ≡ None → new.index.entries ≡ given_of version old.index.entries → GoesOn old new
  drop_goes_on up entries = record {
    same = record { id = ap (λ (m : Manager D). m.id) dropped.rest; most = ap (λ (m : Manager D). m.most) dropped.rest };
    can = record {
      up = up;
      unhomed = subst (λ (es : List Indexed). NoneHomed (listed_in es)) (sym entries) (given_unhomed old.index.entries version can.unhomed);
      awake = subst (λ (us : List Bool). AllByRecursion (λ up. up ≡ true) us) (sym (ap (λ (m : Manager D). m.ups.items) dropped.rest)) (set_awake old.ups.items e.listed.lane can.awake);
    };
    covered = λ b. ap (λ (es : List Indexed). is_covered (listed_in es) b) entries ∙ given_covered old.index.entries version can.unhomed b;
    home_up = ap (λ (m : Manager D). m.home_up) dropped.rest;
    home_needs = ap (λ (m : Manager D). needs_of m.spindle) dropped.rest;
    lanes = let c = dropped.lanes in ap length c.set ∙ length-set old.lanes.items e.listed.lane c.after;
    pools = drop_pools;
  }

-- ---- What stays tidy

pub tidy_none : {D : Type 0} (m : Manager D) → KeepsTidy m m
tidy_none m = record { tidy = λ f c some t. t; upper = λ v f c some x. x; live = λ v b. (λ h. h, λ h. h) }

pub tidy_then : {D : Type 0} (old mid new : Manager D) → KeepsTidy old mid → KeepsTidy mid new → KeepsTidy old new
tidy_then old mid new first second = record {
  tidy = λ f c some t. second.tidy f c some (first.tidy f c some t);
  upper = λ v f c some x. second.upper v f c some (first.upper v f c some x);
  live = λ v b. (λ h. (second.live v b).0 ((first.live v b).0 h), λ h. (first.live v b).1 ((second.live v b).1 h));
}

module _ {D : Type 0} (tells : Bool) (state : D → State) (old new : Manager D) (can : CanClean old) where
  pub gave_one : {T : Type 0} (version : ℕ) (e : Indexed) (res : Result T StepFault) → HasDropped version e old new res → new.down ≡ None → new.index.entries ≡ given_of version old.index.entries → NoneRose state old new → KeepsOn tells state old new Always
      → (IsTrue tells → StopsWithin tells state old new Always) → HasCopied tells state old new [] × KeepsTidy old new
  gave_one version e res dropped up entries none keeps stops = (
    record {
      goes_on = drop_goes_on old new version e res can dropped up entries;
      calm = calm_once state old new none (drop_holds old new version e res can dropped);
      keeps = λ b notes look k. subst (Keeps tells state new b) (sym (append-nil notes)) (keeps b notes tt k);
      copied = copies_plain tells state old new can.up (λ told. (None, drop_fewer old new version e res can dropped, λ b notes k. stops told b notes tt k));
      next = let e = ap (λ (m : Manager D). m.next) dropped.rest in omega (arith, e);
    },
    record {
      tidy = λ first count some t. subst (λ (es : List Indexed). IsTidy (listed_in es) first count) (sym entries) (given_tidy old.index.entries version can.unhomed first count some t);
      upper = λ u first count some x. subst (λ (es : List Indexed). IsUppermost (listed_in es) u first count) (sym entries) (given_upper old.index.entries version can.unhomed u first count some x);
      live = λ v b. subst (λ (es : List Indexed). HasLive (listed_in old.index.entries) v b ↔ HasLive (listed_in es) v b) (sym entries) (given_live old.index.entries version can.unhomed v b, given_lived old.index.entries version can.unhomed v b);
    },
  )

  -- by what a step of reclaim answers
  pub gave_more : (answer : Gone) → (answer ≡ gone.Nothing → ⊥) → HasGivenUp (Ok answer) old new → TellsStep state (Ok answer) old new → NoneRose state old new → KeepsOn tells state old new Always
      → (IsTrue tells → StopsWithin tells state old new Always) → HasCopied tells state old new [] × KeepsTidy old new
  gave_more (gone.Version version) some given told none keeps stops = by_entry (going_entry old) given
    where
      by_entry : (o : Option Indexed) → Rattle.std.specs.Prelude.IsSomeAnd o (λ e. (version ≡ e.listed.version) × Rattle.std.specs.Prelude.IsNone (entry_at new.index.entries version) × HasDropped version e old new (Ok (gone.Version version))) → HasCopied tells state old new [] × KeepsTidy old new
      by_entry None h = absurd h
      by_entry (Some e) h = gave_one version e (Ok (gone.Version version)) h.2 told.1 h.2.ok none keeps stops
  gave_more (gone.Trimmed version) some given told none keeps stops = by_entry (going_entry old) given
    where
      by_entry : (o : Option Indexed) → Rattle.std.specs.Prelude.IsSomeAnd o (λ e. (version ≡ e.listed.version) × Rattle.std.specs.Prelude.IsSome (entry_at new.index.entries version) × HasDropped version e old new (Ok (gone.Trimmed version))) → HasCopied tells state old new [] × KeepsTidy old new
      by_entry None h = absurd h
      by_entry (Some e) h = gave_one version e (Ok (gone.Trimmed version)) h.2 told.1 h.2.ok none keeps stops
  gave_more gone.Nothing some given told none keeps stops = absurd (some refl)

  -- a call of this part failed while a record was to give up blocks
  gave_broken : {T : Type 0} (version : ℕ) (e : Indexed) (p : Part) → TellsStep {T = T} state (Err (step.DiskFault p)) old new → Rattle.manager.specs.Reclaim.BreaksOff tells state old new Always
      → HasDropped {T = T} version e old new (Err (step.DiskFault p)) → (IsTrue tells → StopsWithin tells state old new Always) → HasBroken tells state old new p []
  gave_broken {T} version e p told broke dropped stops = record {
    down = told.1;
    rose = (old, goes_none old can, calm_none state old, rose_of state old new p told.2, drop_pools old new version e {T = T} (Err (step.DiskFault p)) can dropped);
    leaves = λ b notes n client note k. broke b notes n tt note k;
    copied = copies_plain tells state old new can.up (λ t. (None, drop_fewer old new version e {T = T} (Err (step.DiskFault p)) can dropped, λ b notes k. stops t b notes tt k));
  }

  -- a step that failed
  pub gave_failing : (fault : StepFault) → TellsStep {T = Gone} state (Err fault) old new → OnFailed {T = Gone} (Err fault) (Rattle.manager.specs.Reclaim.BreaksOff tells state old new Always)
      → HasGivenUp (Err fault) old new → (IsTrue tells → StopsWithin tells state old new Always) → GivesSome tells state old new (Err fault)
  gave_failing (step.DiskFault p) told broke given stops = by_entry (going_entry old) given
    where
      by_entry : (o : Option Indexed) → Rattle.std.specs.Prelude.IsSomeAnd o (λ e. HasDropped {T = Gone} e.listed.version e old new (Err (step.DiskFault p))) → HasBroken tells state old new p []
      by_entry None h = absurd h
      by_entry (Some e) h = gave_broken {T = Gone} e.listed.version e p told broke h stops
  gave_failing (step.Down p) told broke given stops = absurd (let wrong : None ≡ Some p = sym can.up ∙ told.0 in cc)

  -- and a record that couldn't
  pub gave_no_version : (version : ℕ) (e : Indexed) → entry_at old.index.entries version ≡ Some e → (fault : StepFault) → TellsStep {T = Bool} state (Err fault) old new → OnFailed {T = Bool} (Err fault) (Rattle.manager.specs.Reclaim.BreaksOff tells state old new Always)
      → OnTried {T = Bool} (Err fault) (ForSome (entry_at old.index.entries version) (λ e. HasDropped {T = Bool} version e old new (Err fault))) → (IsTrue tells → StopsWithin tells state old new Always) → GivesSome tells state old new (Err fault)
  gave_no_version version e there (step.DiskFault p) told broke dropped stops = gave_broken {T = Bool} version e p told broke (dropped e there) stops
  gave_no_version version e there (step.Down p) told broke dropped stops = absurd (let wrong : None ≡ Some p = sym can.up ∙ told.0 in cc)

module _ {D : Type 0} (tells : Bool) (state : D → State) (old mid new : Manager D) (can : CanClean old) (copied : HasCopied tells state old mid []) (keeps : KeepsTidy old mid) where
  -- after some records gave up what may go, others did
  pub gave_then : (res : Result (Unit {0}) StepFault) → GivesSome tells state mid new res → GivesSome tells state old new res
  gave_then (Ok done) given = (copied_then tells state old mid new [] [] can copied given.0, tidy_then old mid new keeps given.1)
  gave_then (Err (step.DiskFault p)) given = broken_then tells state old mid new p [] [] can copied given
  gave_then (Err (step.Down p)) given = absurd given

  -- or others gave up all
  pub gave_all_then : (all : Bool) (done : Unit {0}) → GivesAll tells state mid new (Ok done) → Settles tells state all old new (Ok done)
  gave_all_then all done given = (
    copied_then tells state old mid new [] [] can copied given.0,
    tidy_then old mid new keeps given.1,
    λ is. (λ first count some version x. given.2 first count some version (keeps.upper version first count some x), given.3),
  )

  -- or one failed
  pub gave_all_failing : (all : Bool) (fault : StepFault) → GivesAll tells state mid new (Err fault) → Settles tells state all old new (Err (step_fault fault))
  gave_all_failing all (step.DiskFault p) given = broken_then tells state old mid new p [] [] can copied given
  gave_all_failing all (step.Down p) given = absurd given

module _ {D : Type 0} (tells : Bool) (state : D → State) (old new : Manager D) where
  -- a step that failed, where all was to be given up
  pub gives_all_failing : (fault : StepFault) → GivesSome tells state old new (Err fault) → GivesAll tells state old new (Err fault)
  gives_all_failing (step.DiskFault p) given = given
  gives_all_failing (step.Down p) given = given

  -- as cleaning tells it
  pub settles_failing : (all : Bool) (fault : StepFault) → GivesSome tells state old new (Err fault) → Settles tells state all old new (Err (step_fault fault))
  settles_failing all (step.DiskFault p) given = given
  settles_failing all (step.Down p) given = absurd given

-- ---- Where nothing more may go

awake_at : (us : List Bool) (k : ℕ) → AllByRecursion (λ x. x ≡ true) us → k < length us → slice_index_or us k false ≡ true
awake_at [] k all lt = absurd (omega (arith, lt))
awake_at (u ∷ us) zero all lt = all.0
awake_at (u ∷ us) (suc k) all lt = awake_at us k all.1 (omega (arith, lt))

pub none_left : {D : Type 0} (m : Manager D) → AllAwake m → AllByRecursion (λ (e : Indexed). e.listed.lane < length m.ups.items) m.index.entries → going_entry m ≡ None
    → AllByRecursion (λ (e : Listed). (b : ℕ) → goes (listed_in m.index.entries) e b ≡ false) (listed_in m.index.entries)
none_left m awake lanes none = Rattle.log_cleaner.proofs.Lists.all_both
    (λ (e : Listed). e.lane < length m.ups.items)
    (λ (e : Listed). slice_index_or m.ups.items e.lane false ≡ true → (Rattle.wol_model.specs.Index.has_going (listed_in m.index.entries) e ≡ false) × (false ≡ true → Rattle.wol_model.specs.Index.has_due (listed_in m.index.entries) e ≡ false))
    (λ (e : Listed). (b : ℕ) → goes (listed_in m.index.entries) e b ≡ false)
    (λ e lt quiet. none_goes (listed_in m.index.entries) e (quiet (awake_at m.ups.items e.lane awake lt)).0)
    (listed_in m.index.entries)
    (all_mapped (λ (e : Listed). e.lane < length m.ups.items) (λ (e : Indexed). e.listed) m.index.entries lanes)
    (idle (record m { home_up = false }) refl none)

-- each entry's lane has its flag
pub lanes_within : {D : Type 0} (state : D → State) (m : Manager D) → Rattle.manager.specs.Stands.IsReady state m → m.down ≡ None → AllByRecursion (λ (e : Indexed). e.listed.lane < length m.ups.items) m.index.entries
lanes_within state m ready up = all_map (Rattle.manager.specs.Stands.IsPlacedIn m.lanes.items) (λ (e : Indexed). e.listed.lane < length m.ups.items)
    (λ e placed. let lt = slice_get_within m.lanes.items e.listed.lane placed.lane placed.lane_is in let f = ready.ready.flags in omega (arith, lt, f)) m.index.entries (ready.up up).placed

-- and is awake
pub each_awake : {D : Type 0} (state : D → State) (m : Manager D) → Rattle.manager.specs.Stands.IsReady state m → CanClean m → AllByRecursion (λ (e : Indexed). slice_index_or m.ups.items e.listed.lane false ≡ true) m.index.entries
each_awake state m ready can = all_map (λ (e : Indexed). e.listed.lane < length m.ups.items) (λ (e : Indexed). slice_index_or m.ups.items e.listed.lane false ≡ true) (λ e lt. awake_at m.ups.items e.listed.lane can.awake lt) m.index.entries (lanes_within state m ready can.up)

pub tidies_up : {D : Type 0} (state : D → State) (old new : Manager D) (first count : ℕ) → 1 ≤ count → Rattle.manager.specs.Stands.IsReady state new → CanClean new → going_entry new ≡ None → KeepsTidy old new → TidiesUp first count old new
tidies_up state old new first count some ready can none keeps version x =
    tidy_of_upper (listed_in new.index.entries) version first count (none_left new can.awake (lanes_within state new ready can.up) none) (keeps.upper version first count some x)

pub lowers_of : {D : Type 0} (answer : Gone) (old new : Manager D) → (answer ≡ gone.Nothing → ⊥) → Rattle.reclaimer.specs.Counts.LowersGone (Ok answer) old new → Rattle.wol_model.specs.Index.left (listed_in new.index.entries) < Rattle.wol_model.specs.Index.left (listed_in old.index.entries)
lowers_of (gone.Version version) old new some lower = lower
lowers_of (gone.Trimmed version) old new some lower = lower
lowers_of gone.Nothing old new some lower = absurd (some refl)

-- ---- One record

-- the entry of a record that was found
pub entry_found : (i index : Contents) → i ≡ index → (version : ℕ) (r : Rec) → IsAnswer (entry_at i.entries version) (Some r) → (e : Indexed) × (entry_at index.entries version ≡ Some e)
entry_found i index same version r is = let a = answered (entry_at i.entries version) r is in (a.entry, subst (λ (j : Contents). entry_at j.entries version ≡ Some a.entry) same a.is)

-- it has a block that goes, by the mask of these
pub goes_where : (i index : Contents) → i ≡ index → (version mask : ℕ) → (mask ≡ 0 → ⊥) → IfSome (entry_at i.entries version) (λ e. (0 < mask) ↔ (has_going (listed_in i.entries) e.listed ≡ true))
    → ForSome (entry_at index.entries version) (λ e. has_going (listed_in index.entries) e.listed ≡ true)
goes_where i index same version mask some told = subst (λ (j : Contents). ForSome (entry_at j.entries version) (λ e. has_going (listed_in j.entries) e.listed ≡ true)) same
    (λ e is. (subst (λ (o : Option Indexed). IfSome o (λ d. (0 < mask) ↔ (has_going (listed_in i.entries) d.listed ≡ true))) is told).0 (omega (arith, some)))
