-- From an opening to what was read back of it, and to what is handed on.
use Rattle.std.proofs.Common.{◌≡◌, inl, inr, ⊎_elim, ◌<◌, ℕ, Bool, true, false, cond, List, [], ◌∷◌, length, map, Option, Some, refl, sym, ap, subst, ◌∙◌, arith}
use Rattle.std.specs.Prelude.{option_map, IsTrue}
use Rattle.std.specs.List.{AllByRecursion, AllZip, filter}
use Rattle.wol_disk.specs.Disk.{Block, State, Values, IsDisk, IsImageOf, Rose, TellsContent, settled}
use Rattle.wol_disk.proofs.Moments.{started, then_leaves, widened}
use Rattle.wol_disk.proofs.Calls.{now_leaves}
use Rattle.wol_model.specs.Log.{Record}
use Rattle.log_segment.specs.Kept.{IsKeptOrIdle}
use Rattle.turn_lock.specs.Passes.{pass_mine, IsFree, IsSamePass}
use Rattle.spin_model.specs.Operations.{has_token}
use Rattle.logger.specs.Lanes.{AreAccesses}
use Rattle.manager_recovery.specs.Opening.{CanOpen}
use Rattle.spin_model.specs.Spun.{state_of, disk_of}
use Rattle.spin_model.specs.declared.spun.Spun.{Spun}
use Rattle.spin_model.specs.declared.spindle.Spindle.{Spindle}
use Rattle.spin_model.specs.declared.spindle.SpindleBase.{SpindleBase}
use Rattle.turn_lock.specs.declared.pass.PassOf.{PassOf}
use Rattle.log_layout.specs.declared.label.Label.{Label}
use Rattle.log_scan.specs.declared.Scan.{Scan}
use Rattle.logger.specs.declared.shared.Shared.{Shared}
use Rattle.manager_recovery.specs.Left.{IsSameOwned, IsAsBefore, HasNothing, IsLeftOf, Fate, Kept, Freed, kept_of, AreFates, IsFateOf, IsSameOrFree, IsUsedLane, IsHandedBack}
use Rattle.manager_recovery.specs.Owned.{IsIntact, all_owned}
use Rattle.manager.specs.declared.part.Part.TheVariants as part
use Rattle.manager_recovery.specs.declared.refusal.OpenRefusal.{OpenRefusal}
use Rattle.manager_recovery.specs.declared.refusal.OpenRefusal.TheVariants.{LabelDiffers, LoggerMissing, OutsideView, Damaged, Twins, DiskFault, NoMemory}
use Rattle.manager_recovery.specs.Refused.{HandsBackAll, IsRecoverable, SegmentRose}
use Rattle.manager_recovery.specs.Scanned.{IsSeenAgain, IsReadBack, IsSettledPart, IsThinning, has_some}
use Rattle.manager_recovery.specs.declared.opening.Opening.{Opening}
use Rattle.manager_recovery.specs.declared.opening.OwnedPart.{OwnedPart}
use Rattle.manager_recovery.proofs.Gifts.{lanes_same, all_given_kept, all_given_seen}
use Rattle.manager_recovery.proofs.Leaves.{leaves_parts}
use Rattle.manager_recovery.proofs.Lists.{zip_map, all_take, zip_get, zip_length, within, there_is}
use Rattle.manager_recovery.proofs.ScanAll.{zip_then}
use Rattle.manager_recovery.proofs.ScanLoop.{used_then}

module _ {D : Type 0} (tells : Bool) (state : D → State) (sound : (d : D) → IsDisk (state d)) (told : IsTrue tells → (d : D) → TellsContent (state d)) (shared : Shared D) where
  as_before : (p : Spun D) → IsAsBefore state p p
  as_before p = record { volume = refl; size = refl; any_moment = started (sound (disk_of p)) (λ c is. is) }

  all_kept : (ns : List (OwnedPart D)) → kept_of (map Kept ns) ≡ ns
  all_kept [] = refl
  all_kept (n ∷ ns) = λ i. n ∷ all_kept ns i

  kept_fates : (id : ℕ) (os ns : List (OwnedPart D)) → AllZip (IsSeenAgain state) os ns → AreFates state id os (map Kept ns)
  kept_fates id [] [] zip = tt
  kept_fates id [] (n ∷ ns) zip = absurd zip
  kept_fates id (o ∷ os) [] zip = absurd zip
  kept_fates id (o ∷ os) (n ∷ ns) zip = (record { same = zip.0.same; any_moment = λ vs is. widened zip.0.any_moment (λ c image. inl image) }, kept_fates id os ns zip.1)

  -- ---- Nothing was freed

  -- what was read back, and home perhaps synced, is handed back
  pub handed_read : (o n : Opening D) (home : Spun D) (spindle : PassOf Spindle SpindleBase) → IsReadBack state shared o n → IsAsBefore state n.home home → IsSamePass n.spindle spindle
      → IsFree spindle → has_token (pass_mine spindle) ≡ false → AreAccesses (pass_mine spindle) → IsHandedBack tells state shared o (record n { home = home; spindle = spindle })
  handed_read o n home spindle parts home_as pass free_ settled_ accesses_ =
      let home_is : n.home ≡ o.home = ap (λ (x : Opening D). x.home) parts.same in
      let spindle_is : n.spindle ≡ o.spindle = ap (λ (x : Opening D). x.spindle) parts.same in
      record {
        same = λ i. record (parts.same i) { home = home; spindle = spindle; lanes = n.lanes; owned = n.owned };
        spindle = subst (λ (s : PassOf Spindle SpindleBase). IsSamePass s spindle) spindle_is pass;
        spindle_free = free_;
        settled = settled_;
        accesses = accesses_;
        lanes = parts.lanes;
        fates = map Kept n.owned.items;
        owned = sym (all_kept n.owned.items);
        pools = all_given_kept o.owned.items n.owned.items o.lanes.items n.lanes.items parts.pools;
        parts = leaves_parts state o.want.id tells (λ t p. told t (disk_of p.part)) o.home home o.owned.items (map Kept n.owned.items)
            (subst (λ (h : Spun D). IsAsBefore state h home) home_is home_as) (kept_fates o.want.id o.owned.items n.owned.items parts.owned);
      }

  pub handed_early : (o n : Opening D) → CanOpen state shared o → IsReadBack state shared o n → IsHandedBack tells state shared o n
  handed_early o n can parts =
      let spindle_is : o.spindle ≡ n.spindle = sym (ap (λ (x : Opening D). x.spindle) parts.same) in
      handed_read o n n.home n.spindle parts (as_before n.home) (refl, refl)
      (subst (λ (s : PassOf Spindle SpindleBase). IsFree s) spindle_is can.spindle_free) (subst (λ (s : PassOf Spindle SpindleBase). has_token (pass_mine s) ≡ false) spindle_is can.settled)
      (subst (λ (s : PassOf Spindle SpindleBase). AreAccesses (pass_mine s)) spindle_is can.accesses)

  -- ---- Segments that have nothing were freed

  told_settled : (old new : Option (List (Values Block))) (vs : List (Values Block)) → new ≡ option_map settled old → old ≡ Some vs → new ≡ Some (settled vs)
  told_settled old new vs e is = e ∙ ap (option_map settled) is

  one_fate : (id : ℕ) (o n : OwnedPart D) (f : Fate D) → IsSeenAgain state o n → IsSettledPart state o n → IsFateOf state id n f → IsFateOf state id o f
  one_fate id o n f seen settled_ fate = record {
    same = same f fate.same;
    any_moment = λ vs is. then_leaves (widened seen.any_moment (λ c image. inl image)) (fate.any_moment (settled vs) (told_settled (state_of state o.part).values (state_of state n.part).values vs settled_.settled_ is)) left_back;
  }
    where
      image_back : (c : List Block) → IsImageOf (state_of state n.part).values c → IsImageOf (state_of state o.part).values c
      image_back c is = now_leaves seen.any_moment (sound (disk_of n.part)) c is

      left_back : (c : List Block) → IsLeftOf id (state_of state n.part).values c → IsLeftOf id (state_of state o.part).values c
      left_back c left = ⊎_elim (λ image. inl (image_back c image))
          (λ (w : (bs : List Block) × (rs : List Record) × IsImageOf (state_of state n.part).values bs × HasNothing id rs bs × IsKeptOrIdle id rs c). inr (w.0, w.1, image_back w.0 w.2, w.3, w.4)) left

      same : (f : Fate D) → IsSameOrFree state n f → IsSameOrFree state o f
      same (Kept m) is = (is.0 ∙ (λ i. record (seen.same.0 i) { part = m.part }), is.1 ∙ seen.same.1, is.2 ∙ seen.same.2)
      same (Freed g) is = (is.0, is.1 ∙ seen.same.1)

  all_fates : (id : ℕ) (os ns : List (OwnedPart D)) (fates : List (Fate D)) → AllZip (IsSeenAgain state) os ns → AllZip (IsSettledPart state) os ns → AreFates state id ns fates → AreFates state id os fates
  all_fates id [] [] [] seen settled_ each = tt
  all_fates id [] [] (f ∷ fates) seen settled_ each = absurd each
  all_fates id [] (n ∷ ns) fates seen settled_ each = absurd seen
  all_fates id (o ∷ os) [] fates seen settled_ each = absurd seen
  all_fates id (o ∷ os) (n ∷ ns) [] seen settled_ each = absurd each
  all_fates id (o ∷ os) (n ∷ ns) (f ∷ fates) seen settled_ each = (one_fate id o n f seen.0 settled_.0 each.0, all_fates id os ns fates seen.1 settled_.1 each.1)

  pub handed_thinned : (o n m : Opening D) (home : Spun D) (spindle : PassOf Spindle SpindleBase) → IsReadBack state shared o n → AllZip (IsSettledPart state) o.owned.items n.owned.items → IsAsBefore state n.home home → IsSamePass n.spindle spindle
      → IsFree spindle → has_token (pass_mine spindle) ≡ false → AreAccesses (pass_mine spindle) → IsThinning state shared (record n { home = home; spindle = spindle }) m → IsHandedBack tells state shared o m
  handed_thinned o n m home spindle parts settled_ home_as pass free_ over accesses_ thinned_ =
      let home_is : n.home ≡ o.home = ap (λ (x : Opening D). x.home) parts.same in
      let spindle_is : n.spindle ≡ o.spindle = ap (λ (x : Opening D). x.spindle) parts.same in
      let want : n.want ≡ o.want = ap (λ (x : Opening D). x.want) parts.same in
      let most : n.most ≡ o.most = ap (λ (x : Opening D). x.most) parts.same in
      let home_then : home ≡ m.home = sym (ap (λ (x : Opening D). x.home) thinned_.same) in
      let spindle_then : spindle ≡ m.spindle = sym (ap (λ (x : Opening D). x.spindle) thinned_.same) in
      let home_all : IsAsBefore state o.home m.home = subst (λ (h : Spun D). IsAsBefore state o.home h) home_then (subst (λ (h : Spun D). IsAsBefore state h home) home_is home_as) in
      record {
        same = thinned_.same ∙ (λ i. record (parts.same i) { home = home_then i; spindle = spindle_then i; lanes = m.lanes; owned = m.owned });
        spindle = subst (λ (s : PassOf Spindle SpindleBase). IsSamePass o.spindle s) spindle_then (subst (λ (s : PassOf Spindle SpindleBase). IsSamePass s spindle) spindle_is pass);
        spindle_free = subst (λ (s : PassOf Spindle SpindleBase). IsFree s) spindle_then free_;
        settled = subst (λ (s : PassOf Spindle SpindleBase). has_token (pass_mine s) ≡ false) spindle_then over;
        accesses = subst (λ (s : PassOf Spindle SpindleBase). AreAccesses (pass_mine s)) spindle_then accesses_;
        lanes = zip_then (IsUsedLane state shared o.want.id o.most) (IsUsedLane state shared n.want.id n.most) (IsUsedLane state shared o.want.id o.most)
            (λ x y z first second. used_then state shared o.want.id o.most x y z first (subst (λ (w : Label). IsUsedLane state shared w.id o.most y z) want (subst (λ (most_ : ℕ). IsUsedLane state shared n.want.id most_ y z) most second)))
            o.lanes.items n.lanes.items m.lanes.items parts.lanes thinned_.lanes;
        fates = thinned_.fates;
        owned = thinned_.owned;
        pools = all_given_seen state o.owned.items n.owned.items thinned_.fates parts.owned o.lanes.items n.lanes.items m.lanes.items (lanes_same state shared o.want.id o.most o.lanes.items n.lanes.items parts.lanes) parts.pools thinned_.pools;
        parts = leaves_parts state o.want.id tells (λ t p. told t (disk_of p.part)) o.home m.home o.owned.items thinned_.fates home_all
            (all_fates o.want.id o.owned.items n.owned.items thinned_.fates parts.owned settled_ (subst (λ (w : Label). AreFates state w.id n.owned.items thinned_.fates) want thinned_.each));
      }

  -- a fault of a segment as it was read back is one of the segment as it was
  pub rose_back : (o n : Opening D) (home : Spun D) (spindle : PassOf Spindle SpindleBase) (now : List (OwnedPart D)) (logger index : ℕ) → AllZip (IsSeenAgain state) o.owned.items n.owned.items → AllZip (IsSettledPart state) o.owned.items n.owned.items
      → (IsTrue tells → IsRecoverable state o) → SegmentRose tells state (record n { home = home; spindle = spindle }) now logger index → SegmentRose tells state o now logger index
  rose_back o n home spindle now logger index seen settled_ recoverable rose =
      let inside : rose.k < length o.owned.items = (let lt = within n.owned.items rose.k rose.before rose.was_there in let same = zip_length (IsSeenAgain state) o.owned.items n.owned.items seen in omega (arith, lt, same)) in
      let p = there_is o.owned.items rose.k inside in
      let again = zip_get (IsSeenAgain state) o.owned.items n.owned.items rose.k p.0 rose.before p.1 rose.was_there seen in
      let calm = (zip_get (IsSettledPart state) o.owned.items n.owned.items rose.k p.0 rose.before p.1 rose.was_there settled_).calm in
      record {
        k = rose.k;
        before = p.0;
        after = rose.after;
        was_there = p.1;
        is_there = rose.is_there;
        named = (rose.named.0 ∙ ap (λ (x : OwnedPart D). x.logger) again.same.0, rose.named.1 ∙ ap (λ (x : OwnedPart D). x.index) again.same.0, rose.named.2, rose.named.3);
        rose = subst (λ (c : ℕ). Rose c (state_of state rose.after.part).faults) calm rose.rose;
        intact = λ t. all_take (IsIntact o.want.id o.want.home) rose.k (all_owned state o.owned.items) (recoverable t).0;
        read_or_last = inr recoverable;
      }

pub all_filtered : (ss : List Scan) → AllByRecursion (λ s. has_some s ≡ true) (filter has_some ss)
all_filtered [] = tt
all_filtered (s ∷ ss) = at (all_filtered ss) (has_some s) refl
  where
    at : AllByRecursion (λ s. has_some s ≡ true) (filter has_some ss) → (b : Bool) → has_some s ≡ b → AllByRecursion (λ s. has_some s ≡ true) (cond b (s ∷ filter has_some ss) (filter has_some ss))
    at rest true is = (is, rest)
    at rest false is = rest

-- ---- All segments are handed back

pub hands_back : {D : Type 0} (state : D → State) (o n : Opening D) (r : OpenRefusal) → AllZip (IsSameOwned state) o.owned.items n.owned.items → HandsBackAll state o n r
hands_back state o n LabelDiffers same = same
hands_back state o n (LoggerMissing id) same = same
hands_back state o n (OutsideView logger segment) same = same
hands_back state o n (Damaged volume block) same = same
hands_back state o n (Twins first_volume first second_volume second) same = same
hands_back state o n (DiskFault (part.Home volume)) same = same
hands_back state o n (DiskFault (part.Segment volume index)) same = tt
hands_back state o n NoMemory same = same

pub read_hands_back : {D : Type 0} (state : D → State) (shared : Shared D) (o n m : Opening D) (r : OpenRefusal) → IsReadBack state shared o n → m.owned.items ≡ n.owned.items → HandsBackAll state o m r
read_hands_back state shared o n m r parts is =
    hands_back state o m r (subst (AllZip (IsSameOwned state) o.owned.items) (sym is) (zip_map (IsSeenAgain state) (IsSameOwned state) (λ x y seen. seen.same) o.owned.items n.owned.items parts.owned))
