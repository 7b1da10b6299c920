-- What recovery leaves and what the lanes hold, gathered for the manager.
use Rattle.std.proofs.Common.{◌≡◌, inl, inr, ⊎_elim, ◌+◌, ◌<◌, ◌≤◌, ◌^◌, ℕ, Bool, true, false, not, cond, List, [], ◌∷◌, map, MatchOption, Option, None, Some, refl, sym, ap, subst, ◌∙◌, arith}
use Rattle.std.specs.Prelude.{filter, IsPermutation, max}
use Rattle.std.specs.List.{AllByRecursion, AllZip, flat_map}
use Rattle.std.proofs.lemmas.List.Sorted.{IsPermutation-map, IsPermutation-sym, Contains-permutation}
use Rattle.wol_disk.specs.Disk.{State, IsAmong}
use Rattle.wol_model.specs.Heads.{IsViewList}
use Rattle.wol_model.specs.Index.{Indexed, AreRising}
use Rattle.redirect_map.specs.Index.{entry_of}
use Rattle.log_scan.specs.Scan.{IsInside}
use Rattle.log_scan.specs.declared.Found.{Found}
use Rattle.log_scan.specs.declared.Scan.{Scan}
use Rattle.spin_model.specs.Spun.{state_of}
use Rattle.logger.specs.Lanes.{logger_of}
use Rattle.logger.proofs.Held.{all_both}
use Rattle.turn_lock.specs.LockIds.{LockId}
use Rattle.seg_pool.specs.declared.base.PoolBase.{PoolBase}
use Rattle.logger.specs.declared.lane.HeldSegment.{HeldSegment}
use Rattle.logger.specs.declared.lane.Lane.{Lane}
use Rattle.logger.specs.declared.shared.Shared.{Shared}
use Rattle.manager_recovery.specs.Opening.{IsOpeningLane, HoldsOwned, AreInOrder}
use Rattle.manager_recovery.specs.Refused.{IsNamesAnswer, first_missing, first_outside, is_named}
use Rattle.manager_recovery.specs.Left.{IsSameOwned}
use Rattle.manager_recovery.specs.Recovery.{IsRecovered}
use Rattle.manager_recovery.specs.Scanned.{IsScanned, HoldsItsOwn, AreHeld, has_some, keeps_some, thinned, found_in, all_found, entries_from, next_found, next_of, lane_of, record_in}
use Rattle.manager_recovery.specs.declared.listing.FoundRecord.{FoundRecord}
use Rattle.manager_recovery.specs.declared.opening.Opening.{Opening}
use Rattle.manager_recovery.specs.declared.opening.OwnedPart.{OwnedPart}
use Rattle.manager_recovery.specs.declared.volume.Recovered.{Recovered}
use Rattle.manager_recovery.proofs.ByLogger.{all_among, all_from, among_filter, map_among, flat_among, among_contains, contains_among}
use Rattle.manager_recovery.proofs.Indexing.{all_named}
use Rattle.manager_recovery.proofs.Held.{loggers_same}
use Rattle.manager_recovery.proofs.OwnedHeld.{holds_own}
use Rattle.manager_recovery.proofs.OpenedKeeps.{IsLaneNow, IsGathered}
use Rattle.manager_recovery.proofs.Places.{loggers_are}
use Rattle.manager_recovery.proofs.Segs.{Seg, IsSeg, segs_of, all_segs, held_segs, places_segs, entries_at, entries_segs}
use Rattle.manager_recovery.proofs.ToldParts.{found_thinned, all_above, next_least}

-- ---- What stays of lists that are thinned

module _ {D : Type 0} where
  pub all_thinned : (P : OwnedPart D → Type 0) (os : List (OwnedPart D)) (ss : List Scan) → AllByRecursion P os → AllByRecursion P (thinned os ss)
  all_thinned P [] ss all = tt
  all_thinned P (o ∷ os) [] all = tt
  all_thinned P (o ∷ os) (s ∷ ss) all = at (has_some s) (all_thinned P os ss all.1)
    where
      at : (t : Bool) → AllByRecursion P (thinned os ss) → AllByRecursion P (cond t (o ∷ thinned os ss) (thinned os ss))
      at true rest = (all.0, rest)
      at false rest = rest

  pub zip_thinned : (R : OwnedPart D → Scan → Type 0) (os : List (OwnedPart D)) (ss : List Scan) → AllZip R os ss → AllZip R (thinned os ss) (filter has_some ss)
  zip_thinned R [] [] zip = tt
  zip_thinned R [] (s ∷ ss) zip = absurd zip
  zip_thinned R (o ∷ os) [] zip = absurd zip
  zip_thinned R (o ∷ os) (s ∷ ss) zip = at (has_some s) (zip_thinned R os ss zip.1)
    where
      at : (t : Bool) → AllZip R (thinned os ss) (filter has_some ss) → AllZip R (cond t (o ∷ thinned os ss) (thinned os ss)) (cond t (s ∷ filter has_some ss) (filter has_some ss))
      at true rest = (zip.0, rest)
      at false rest = rest

  named_same : (state : D → State) (view : List ℕ) (os ps : List (OwnedPart D)) → AllZip (IsSameOwned state) os ps → AllByRecursion (λ (o : OwnedPart D). is_named view o.logger ≡ true) os → AllByRecursion (λ (o : OwnedPart D). is_named view o.logger ≡ true) ps
  named_same state view [] [] zip all = tt
  named_same state view [] (p ∷ ps) zip all = absurd zip
  named_same state view (o ∷ os) [] zip all = absurd zip
  named_same state view (o ∷ os) (p ∷ ps) zip all = (ap (λ (q : OwnedPart D). is_named view q.logger) zip.0.0 ∙ all.0, named_same state view os ps zip.1 all.1)

  none_outside : (view : List ℕ) (os : List (OwnedPart D)) → AllByRecursion (λ (o : OwnedPart D). is_named view o.logger ≡ true) os → first_outside view os ≡ None
  none_outside view [] all = refl
  none_outside view (o ∷ os) all = ap (λ (t : Bool). cond (not t) (Some o) (first_outside view os)) all.0 ∙ none_outside view os all.1

  scan_among : (os : List (OwnedPart D)) (ss : List Scan) (hs : List (HeldSegment D)) (g : Seg D) → IsAmong (segs_of os ss hs) g → IsAmong ss g.scan
  scan_among [] ss hs g has = absurd has
  scan_among (o ∷ os) [] hs g has = absurd has
  scan_among (o ∷ os) (s ∷ ss) [] g has = absurd has
  scan_among (o ∷ os) (s ∷ ss) (h ∷ hs) g has = ⊎_elim (λ same. inl (ap (λ (q : Seg D). q.scan) same)) (λ more. inr (scan_among os ss hs g more)) has

zip_seconds : {A B : Type 0} (R : A → B → Type 0) (P : A → Type 0) (Q : B → Type 0) → ((a : A) (b : B) → P a → R a b → Q b) → (xs : List A) (ys : List B) → AllByRecursion P xs → AllZip R xs ys → AllByRecursion Q ys
zip_seconds R P Q so [] [] all zip = tt
zip_seconds R P Q so [] (b ∷ ys) all zip = absurd zip
zip_seconds R P Q so (a ∷ xs) [] all zip = absurd zip
zip_seconds R P Q so (a ∷ xs) (b ∷ ys) all zip = (so a b all.0 zip.0, zip_seconds R P Q so xs ys all.1 zip.1)

pub entry_versions : (rs : List FoundRecord) → map (λ (e : Indexed). e.listed.version) (entries_from rs) ≡ map (λ (r : FoundRecord). r.entry.version) rs
entry_versions [] = refl
entry_versions (r ∷ rs) = ap (λ l. r.entry.version ∷ l) (entry_versions rs)

-- ---- The next version is no greater than 2 ^ 63

small_found : (n : ℕ) (fs : List Found) → n ≤ 2 ^ 63 → AllByRecursion (λ (f : Found). f.head.version < 2 ^ 63) fs → next_found n fs ≤ 2 ^ 63
small_found n [] le all = le
small_found n (f ∷ fs) le all = let lt = all.0 in small_found (max n (f.head.version + 1)) fs (omega (arith, le, lt)) all.1

small_next : (n : ℕ) (ss : List Scan) → n ≤ 2 ^ 63 → AllByRecursion (λ (s : Scan). AllByRecursion (λ (f : Found). f.head.version < 2 ^ 63) s.records.items) ss → next_of n ss ≤ 2 ^ 63
small_next n [] le all = le
small_next n (s ∷ ss) le all = small_next (next_found n s.records.items) ss (small_found n s.records.items le all.0) all.1

heads_inside : {D : Type 0} (state : D → State) (id home : ℕ) (o : OwnedPart D) (s : Scan) → IsScanned state id home o s → AllByRecursion (IsInside (state_of state o.part).size id) s.records.items
heads_inside state id home o s scanned =
    let P : Option ℕ → Type 0 = λ v. MatchOption v (s.records.items ≡ []) (λ owner. AllByRecursion (IsInside (state_of state o.part).size owner) s.records.items) in
    subst P scanned.owner scanned.shape.heads

small_versions : {D : Type 0} (state : D → State) (id home : ℕ) (os : List (OwnedPart D)) (ss : List Scan) → AllZip (IsScanned state id home) os ss → AllByRecursion (λ (s : Scan). AllByRecursion (λ (f : Found). f.head.version < 2 ^ 63) s.records.items) ss
small_versions state id home [] [] zip = tt
small_versions state id home [] (s ∷ ss) zip = absurd zip
small_versions state id home (o ∷ os) [] zip = absurd zip
small_versions state id home (o ∷ os) (s ∷ ss) zip =
    (all_from (λ (f : Found). f.head.version < 2 ^ 63) s.records.items (λ f has. (all_among (IsInside (state_of state o.part).size id) s.records.items f (heads_inside state id home o s zip.0) has).in_range.version.1), small_versions state id home os ss zip.1)

-- ---- Gathered

module _ {D : Type 0} (tells : Bool) (state : D → State) (shared : Shared D) (o n : Opening D) (want : n.want ≡ o.want) (view : n.view ≡ o.view) (present : n.present ≡ o.present) (label : n.label ≡ o.label) (most : n.most ≡ o.most) (r : Recovered)
    (rec : IsRecovered tells state shared o n r) where
  abbrev In : OwnedPart D → Type 0
  In p = is_named n.view p.logger ≡ true

  pub all_in : AllByRecursion In n.owned.items
  all_in = subst (AllByRecursion In) (sym rec.left) (all_thinned In rec.read rec.scans (named_same state n.view o.owned.items rec.read rec.same
      (subst (λ (v : List ℕ). AllByRecursion (λ (p : OwnedPart D). is_named v p.logger ≡ true) o.owned.items) (sym view) (all_named o.view o.owned.items rec.named.2))))

  pub names_still : IsNamesAnswer n None
  names_still = (label ∙ (rec.named.0 ∙ sym want), (λ i. first_missing (view i) (present i).items) ∙ rec.named.1, none_outside n.view n.owned.items all_in)

  pub scanned_still : AllZip (IsScanned state n.want.id n.want.home) n.owned.items r.scans.items
  scanned_still =
      let zip = zip_thinned (IsScanned state o.want.id o.want.home) rec.read rec.scans rec.scanned in
      let one = subst (λ (l : List (OwnedPart D)). AllZip (IsScanned state o.want.id o.want.home) l (filter has_some rec.scans)) (sym rec.left) zip in
      let two = subst (AllZip (IsScanned state o.want.id o.want.home) n.owned.items) (sym rec.left_scans) one in
      subst (λ (w : _). AllZip (IsScanned state w.id w.home) n.owned.items r.scans.items) (sym want) two

  module _ (valid : IsViewList n.view) (lanes : List (Lane D)) (held : AreHeld state shared n.owned.items r.scans.items n.lanes.items lanes) where
    abbrev pub gs : List (Seg D)
    gs = segs_of n.owned.items r.scans.items held.segments

    found_all : all_found n.view n.owned.items r.scans.items ≡ all_found o.view rec.read rec.scans
    found_all = (λ i. all_found (view i) (rec.left i) (rec.left_scans i)) ∙ found_thinned o.view rec.read rec.scans

    pub entries_found : flat_map (entries_at state n.view) gs ≡ entries_from (all_found o.view rec.read rec.scans)
    entries_found = sym (entries_segs state n.view n.owned.items r.scans.items held.segments held.adopted) ∙ ap entries_from found_all

    same_entries : IsPermutation (flat_map (entries_at state n.view) gs) r.index.entries
    same_entries =
        let x = rec.index in
        subst (λ (l : List Indexed). IsPermutation l r.index.entries) (sym entries_found) (subst (IsPermutation (entries_from (all_found o.view rec.read rec.scans))) (sym x.is)
        (IsPermutation-map (λ (q : FoundRecord). entry_of q.entry 0) (all_found o.view rec.read rec.scans) x.sorted x.are_sorted.same))

    rising_entries : AreRising (map (λ (e : Indexed). e.listed.version) r.index.entries)
    rising_entries = let x = rec.index in subst AreRising (sym (ap (map (λ (e : Indexed). e.listed.version)) x.is ∙ entry_versions x.sorted)) x.are_sorted.rising

    lane_now : (old new : Lane D) → IsOpeningLane state shared n.want.id n.most old × HoldsOwned n.owned.items old → HoldsItsOwn state shared n.owned.items held.segments old new → IsLaneNow state shared n.want.id n.most gs new
    lane_now old new was has = record {
      lane = has.lane;
      at = has.at;
      owner = has.same.owner ∙ was.0.owner;
      untaken = has.taken ∙ was.0.untaken;
      long = let l = was.0.long in subst (λ (b : ℕ). n.most + 2 ≤ b) (ap (λ (i : LockId PoolBase). i.base.blocks) (sym has.same.pool.0)) l;
      all = holds_own state shared n.owned.items r.scans.items held.segments old new held.adopted has was.1;
      held = has.held ∙ held_segs state (logger_of new) n.owned.items r.scans.items held.segments held.adopted;
    }

    pub below_entry : (g : Seg D) (f : Found) → IsAmong gs g → IsAmong g.scan.records.items f → f.head.version < r.next
    below_entry g f has there =
        let in_scans : IsAmong rec.scans g.scan = (among_filter has_some rec.scans g.scan (subst (λ (l : List Scan). IsAmong l g.scan) rec.left_scans (scan_among n.owned.items r.scans.items held.segments g has))).0 in
        let all = all_among (λ (s : Scan). AllByRecursion (λ (x : Found). x.head.version < next_of 1 rec.scans) s.records.items) rec.scans g.scan (all_above 1 rec.scans) in_scans in
        subst (λ (k : ℕ). f.head.version < k) (sym rec.next) (all_among (λ (x : Found). x.head.version < next_of 1 rec.scans) g.scan.records.items f all there)

    pub gathered_all : AllByRecursion (IsSeg state n.lanes.items n.want.id n.want.home n.view) gs
    gathered_all = all_segs state n.lanes.items n.want.id n.want.home n.view n.owned.items r.scans.items held.segments scanned_still held.adopted rec.open_.owned rec.some all_in

    pub below_all : AllByRecursion (λ (e : Indexed). e.listed.version < r.next) (flat_map (entries_at state n.view) gs)
    below_all = all_from (λ (e : Indexed). e.listed.version < r.next) (flat_map (entries_at state n.view) gs) (λ e has.
        let w = flat_among (entries_at state n.view) gs e has in
        let q = map_among (λ (x : FoundRecord). entry_of x.entry 0) (found_in n.view w.0.part w.0.scan) e w.2 in
        let f = map_among (record_in (lane_of n.view w.0.part.logger) w.0.part) (filter keeps_some w.0.scan.records.items) q.0 q.1 in
        let there = (among_filter keeps_some w.0.scan.records.items f.0 f.1).0 in
        subst (λ (x : Indexed). x.listed.version < r.next) (sym (q.2 ∙ ap (λ (x : FoundRecord). entry_of x.entry 0) f.2)) (below_entry w.0 f.0 w.1 there))

    pub gathered : IsGathered state shared n r lanes gs
    gathered = record {
      can = rec.open_;
      view_ok = valid;
      loggers_before = loggers_are state shared n rec.open_ names_still.1;
      loggers = loggers_same state shared n.owned.items held.segments n.lanes.items lanes held.each ∙ loggers_are state shared n rec.open_ names_still.1;
      each = zip_seconds (HoldsItsOwn state shared n.owned.items held.segments) (λ (l : Lane D). IsOpeningLane state shared n.want.id n.most l × HoldsOwned n.owned.items l) (IsLaneNow state shared n.want.id n.most gs) lane_now n.lanes.items lanes
          (all_both (IsOpeningLane state shared n.want.id n.most) (HoldsOwned n.owned.items) n.lanes.items rec.open_.lanes rec.open_.all) held.each;
      all = gathered_all;
      order = subst AreInOrder (places_segs state n.owned.items r.scans.items held.segments held.adopted) rec.open_.in_order;
      same = same_entries;
      rising = rising_entries;
      next = (subst (λ (k : ℕ). 1 ≤ k) (sym rec.next) (next_least 1 rec.scans), subst (λ (k : ℕ). k ≤ 2 ^ 63) (sym rec.next) (small_next 1 rec.scans (omega arith) (small_versions state o.want.id o.want.home rec.read rec.scans rec.scanned)));
      below = all_from (λ (e : Indexed). e.listed.version < r.next) r.index.entries (λ e has.
          all_among (λ (x : Indexed). x.listed.version < r.next) (flat_map (entries_at state n.view) gs) e below_all
          (among_contains (flat_map (entries_at state n.view) gs) e
          (Contains-permutation r.index.entries (flat_map (entries_at state n.view) gs) e
          (IsPermutation-sym (flat_map (entries_at state n.view) gs) r.index.entries same_entries) (contains_among r.index.entries e has))));
    }
