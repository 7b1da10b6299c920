-- What a volume begins with when it is opened, whether or not its disks tell their content.
use Rattle.std.proofs.Common.{◌≡◌, inl, inr, ⊎_elim, ◌+◌, ◌<◌, ◌≤◌, ℕ, suc, Bool, true, false, not, cond, eqb, List, [], ◌∷◌, length, map, Option, Some, option_map, refl, sym, ap, subst, ◌∙◌, arith}
use Rattle.std.specs.Prelude.{filter, replicate, IsTrue, unwrap_or}
use Rattle.std.specs.List.{AllByRecursion, AllZip, flat_map}
use Rattle.std.specs.declared.alloc.Global.{Global}
use Rattle.std.specs.declared.vec.Vec.{Vec}
use Rattle.std.proofs.lemmas.List.{length-map, length-replicate}
use Rattle.std.proofs.lemmas.List.Sorted.{length_permutation}
use Rattle.wol_disk.specs.Disk.{State, Block, Values, IsDisk, TellsContent, IsAmong, IsImageOf, IsImage, only, reads, settled}
use Rattle.wol_disk.proofs.Images.{only_image}
use Rattle.wol_model.specs.Blocks.{Write, AreApart}
use Rattle.wol_model.specs.Extents.{Extent, IsValid, with_extents, newest_block}
use Rattle.wol_model.specs.Heads.{RecordHead, IsViewList}
use Rattle.wol_model.specs.Index.{Indexed, listed_in}
use Rattle.wol_model.specs.Log.{Record, extent_of, marks_of}
use Rattle.wol_model.specs.Recovered.{recovered, extents_of}
use Rattle.wol_model.proofs.Overlay.{overlay_length_from}
use Rattle.block_cells.proofs.Marks.{length-marks_of}
use Rattle.log_layout.specs.Values.{record_head}
use Rattle.log_scan.specs.declared.Found.{Found}
use Rattle.log_scan.specs.declared.Scan.{Scan}
use Rattle.wol_promise.specs.Manager.{versions}
use Rattle.wol_promise.specs.Stands.{LiesInVolume, LiesInHome, next_version}
use Rattle.spin_model.specs.Spun.{state_of}
use Rattle.spin_model.specs.declared.spun.Spun.{Spun}
use Rattle.turn_lock.specs.Passes.{pass_lock, pass_number}
use Rattle.log_layout.specs.declared.label.Label.{Label}
use Rattle.logger.specs.Lanes.{IsSameLane}
use Rattle.logger.specs.declared.lane.HeldSegment.{HeldSegment}
use Rattle.logger.specs.declared.lane.Lane.{Lane}
use Rattle.logger.specs.declared.shared.Shared.{Shared}
use Rattle.manager.specs.Seen.{look_of_manager}
use Rattle.manager.specs.Stands.{opened}
use Rattle.manager_recovery.specs.Owned.{IsListedOf, Owned, read_of, owned_of, all_owned, records_in, writes_in, recovered_of}
use Rattle.manager_recovery.specs.Left.{HasGiven, IsUsedLane, IsHandedBack}
use Rattle.manager_recovery.specs.Opened.{Opens, IsInLane, HoldsInOrder, StandsInOwned, base_at_opening, lane_at_opening, untold_write}
use Rattle.manager_recovery.proofs.Gifts.{counts_takes}
use Rattle.manager_recovery.proofs.InLanes.{all_in_lanes, all_in_order}
use Rattle.manager_recovery.specs.Recovery.{IsRecovered}
use Rattle.manager_recovery.specs.Scanned.{AreHeld, HoldsItsOwn, has_some, thinned}
use Rattle.manager_recovery.specs.declared.opening.Opening.{Opening}
use Rattle.manager_recovery.specs.declared.opening.OwnedPart.{OwnedPart}
use Rattle.manager_recovery.specs.declared.volume.Recovered.{Recovered}
use Rattle.manager_recovery.proofs.ByLogger.{all_among, all_from, among_get, among_at, contains_among, among_filter, filter_among, among_map, map_among, flat_among, apart_once, rising_counts}
use Rattle.manager_recovery.proofs.Gathered.{gs, gathered, scanned_still, entry_versions, below_all, below_entry}
use Rattle.manager_recovery.proofs.OpenedIndex.{entry_for, entry_here, in_volume, kept_among, valid_keeps, one_of_version, versions_once, named_at}
use Rattle.manager_recovery.proofs.ScanAll.{zip_then}
use Rattle.manager_recovery.proofs.ScanLoop.{then_same}
use Rattle.manager_recovery.proofs.OpenedKeeps.{IsGathered, is_home}
use Rattle.manager_recovery.proofs.OpenedStands.{IsBeginning, IsKnown, kept_of_all, recs_of, write_of_record, opened_base, opened_stands}
use Rattle.manager_recovery.proofs.SameNewest.{same_array}
use Rattle.manager_recovery.proofs.Segs.{Seg, IsSeg, lane_named, segs_of, records_segs, entries_at, entries_segs}
use Rattle.manager_recovery.proofs.ToldParts.{IsTold, AreHeads, all_told, records_at, all_records, keeps, kept_thinned, versions_found, records_before, owned_again, extents_are, next_is}

-- ---- Lists

long-reads : (vs : List (Values Block)) → length (reads vs) ≡ length vs
long-reads [] = refl
long-reads (v ∷ vs) = ap suc (long-reads vs)

all_mapped : {X Y : Type 0} (P : Y → Type 0) (f : X → Y) (xs : List X) → AllByRecursion (λ (x : X). P (f x)) xs → AllByRecursion P (map f xs)
all_mapped P f [] all = tt
all_mapped P f (x ∷ xs) all = (all.0, all_mapped P f xs all.1)

head_facts : (P : RecordHead → Type 0) (rs : List Record) (fs : List Found) → AreHeads rs fs → AllByRecursion (λ (f : Found). P (record_head f.head)) fs → AllByRecursion (λ (q : Record). P q.head) rs
head_facts P [] [] zip all = tt
head_facts P [] (f ∷ fs) zip all = absurd zip
head_facts P (q ∷ rs) [] zip all = absurd zip
head_facts P (q ∷ rs) (f ∷ fs) zip all = (subst P zip.0 all.0, head_facts P rs fs zip.1 all.1)

told_segs : {D : Type 0} (state : D → State) (id : ℕ) (os : List (OwnedPart D)) (ss : List Scan) (hs : List (HeldSegment D)) → AllZip (IsTold state id) os ss → AllByRecursion (λ (g : Seg D). IsTold state id g.part g.scan) (segs_of os ss hs)
told_segs state id [] ss hs zip = tt
told_segs state id (o ∷ os) [] hs zip = tt
told_segs state id (o ∷ os) (s ∷ ss) [] zip = tt
told_segs state id (o ∷ os) (s ∷ ss) (h ∷ hs) zip = (zip.0, told_segs state id os ss hs zip.1)

part_among : {D : Type 0} (os : List (OwnedPart D)) (ss : List Scan) (hs : List (HeldSegment D)) (g : Seg D) → IsAmong (segs_of os ss hs) g → IsAmong os g.part
part_among [] ss hs g has = absurd has
part_among (o ∷ os) [] hs g has = absurd has
part_among (o ∷ os) (s ∷ ss) [] g has = absurd has
part_among {D} (o ∷ os) (s ∷ ss) (h ∷ hs) g has = ⊎_elim (λ e. inl (ap (λ (x : Seg D). x.part) e)) (λ more. inr (part_among os ss hs g more)) has

thinned_among : {D : Type 0} (os : List (OwnedPart D)) (ss : List Scan) (p : OwnedPart D) → IsAmong (thinned os ss) p → IsAmong os p
thinned_among [] ss p has = absurd has
thinned_among (o ∷ os) [] p has = absurd has
thinned_among (o ∷ os) (s ∷ ss) p has = at (has_some s) has (thinned_among os ss p)
  where
    at : (t : Bool) → IsAmong (cond t (o ∷ thinned os ss) (thinned os ss)) p → (IsAmong (thinned os ss) p → IsAmong os p) → IsAmong (o ∷ os) p
    at true there rest = ⊎_elim (λ e. inl e) (λ more. inr (rest more)) there
    at false there rest = inr (rest there)

write_versions : (rs : List Record) → versions (map write_of_record rs) ≡ map (λ (q : Record). q.head.version) rs
write_versions [] = refl
write_versions (q ∷ rs) = ap (λ l. q.head.version ∷ l) (write_versions rs)

long_array : (home : List Block) (rs : List Extent) → length (with_extents home rs) ≡ length home
unfolding with_extents
long_array home rs = overlay_length_from 0 home (newest_block rs)

recovered_is : (id : ℕ) (home : List Block) (segments : List (List Block)) → recovered id home segments ≡ with_extents home (extents_of id segments)
unfolding recovered
recovered_is id home segments = refl

untold_versions : (es : List Indexed) → versions (map untold_write es) ≡ map (λ (e : Indexed). e.listed.version) es
untold_versions [] = refl
untold_versions (e ∷ es) = ap (λ l. e.listed.version ∷ l) (untold_versions es)

module _ {D : Type 0} (tells : Bool) (state : D → State) (shared : Shared D) (o n : Opening D) (want : n.want ≡ o.want) (view : n.view ≡ o.view) (present : n.present ≡ o.present) (label : n.label ≡ o.label) (most : n.most ≡ o.most) (r : Recovered)
    (rec : IsRecovered tells state shared o n r) (valid : IsViewList n.view) (lanes : Vec (Lane D) Global) (held : AreHeld state shared n.owned.items r.scans.items n.lanes.items lanes.items) where
  abbrev all_gs : List (Seg D)
  all_gs = gs tells state shared o n want view present label most r rec valid lanes.items held

  c : IsGathered state shared n r lanes.items all_gs
  c = gathered tells state shared o n want view present label most r rec valid lanes.items held

  -- ---- Disks that don't tell

  plain_beginning : tells ≡ false → IsBeginning state n r all_gs tells (map untold_write r.index.entries) (replicate n.want.home [])
  plain_beginning untold = record {
    apart = subst AreApart (sym (untold_versions r.index.entries)) (apart_once (map (λ (e : Indexed). e.listed.version) r.index.entries) (rising_counts (map (λ (e : Indexed). e.listed.version) r.index.entries) c.rising));
    below = subst (AllByRecursion (λ v. v < r.next)) (sym (untold_versions r.index.entries)) (all_mapped (λ v. v < r.next) (λ (e : Indexed). e.listed.version) r.index.entries c.below);
    lie = all_mapped (LiesInVolume n.want.home) untold_write r.index.entries (all_from (λ (e : Indexed). LiesInVolume n.want.home (untold_write e)) r.index.entries (λ e has.
        let v = in_volume state n.lanes.items n.want.id n.want.home n.view all_gs c.all c.order c.view_ok.distinct r.index.entries c.same c.rising e has in let lies = v.lies in let long = length-replicate {A = Block} (length e.listed.keep) [] in omega (arith, lies, long)));
    known = λ e has. record { write = untold_write e; among = among_map untold_write r.index.entries e has; version = refl; first = refl; count = length-replicate (length e.listed.keep) [] };
    sized = length-replicate n.want.home [];
    told = λ t. absurd (let bad : false ≡ true = sym untold ∙ t in cc);
  }

  -- ---- Disks that tell

  module _ (sound : (p : Spun D) → IsDisk (state_of state p)) (tells_all : (p : Spun D) → TellsContent (state_of state p)) (home_size : (state_of state o.home).size ≡ n.want.home) where
    told_read : AllZip (IsTold state o.want.id) rec.read rec.scans
    told_read = all_told state o.want.id o.want.home rec.read rec.scans (λ p. tells_all p.part) rec.scanned

    told_still : AllZip (IsTold state n.want.id) n.owned.items r.scans.items
    told_still = all_told state n.want.id n.want.home n.owned.items r.scans.items (λ p. tells_all p.part) (scanned_still tells state shared o n want view present label most r rec)

    told_gs : AllByRecursion (λ (g : Seg D). IsTold state n.want.id g.part g.scan) all_gs
    told_gs = told_segs state n.want.id n.owned.items r.scans.items held.segments told_still

    abbrev kept : List Record
    kept = kept_of_all state n r all_gs

    abbrev first_records : List Record
    first_records = records_in o.want.id (all_owned state o.owned.items)

    kept_is : filter keeps first_records ≡ kept
    kept_is =
        ap (filter keeps) (records_before state o.want.id o.owned.items rec.read rec.settled_)
        ∙ (sym (kept_thinned state o.want.id rec.read rec.scans told_read)
        ∙ ((λ i. filter keeps (all_records state (sym want i).id (sym rec.left i)))
        ∙ ap (filter keeps) (records_segs state n.want.id n.owned.items r.scans.items held.segments held.adopted)))

    versions_are : map (λ (q : Record). q.head.version) kept ≡ map (λ (e : Indexed). e.listed.version) (flat_map (entries_at state n.view) all_gs)
    versions_are =
        ap (λ (l : List Record). map (λ (q : Record). q.head.version) (filter keeps l)) (sym (records_segs state n.want.id n.owned.items r.scans.items held.segments held.adopted))
        ∙ (versions_found state n.want.id n.view n.owned.items r.scans.items told_still
        ∙ (sym (entry_versions _)
        ∙ ap (map (λ (e : Indexed). e.listed.version)) (entries_segs state n.view n.owned.items r.scans.items held.segments held.adopted)))

    abbrev first_writes : List Write
    first_writes = writes_in o.want.id (all_owned state o.owned.items)

    writes_are : first_writes ≡ map write_of_record kept
    writes_are = ap (map write_of_record) kept_is

    first_versions : versions first_writes ≡ map (λ (q : Record). q.head.version) kept
    first_versions = ap versions writes_are ∙ write_versions kept

    abbrev first_array : List Block
    first_array = recovered_of o.want.id (read_of (state_of state o.home)) (all_owned state o.owned.items)

    home_vs : (vs : List (Values Block)) × ((state_of state o.home).values ≡ Some vs)
    home_vs = tells_all o.home

    home_reads : read_of (state_of state o.home) ≡ reads home_vs.0
    home_reads = ap (λ (v : Option (List (Values Block))). unwrap_or (option_map reads v) []) home_vs.1

    is_sized : length first_array ≡ n.want.home
    is_sized =
        ap length (recovered_is o.want.id (read_of (state_of state o.home)) _)
        ∙ (long_array (read_of (state_of state o.home)) _
        ∙ (ap length home_reads ∙ (long-reads home_vs.0 ∙ ((sound o.home).each_block home_vs.0 home_vs.1 ∙ home_size))))

    image_is : (image : List Block) → IsImageOf (state_of state n.home).values image → image ≡ read_of (state_of state o.home)
    image_is image is =
        let values : (state_of state n.home).values ≡ Some (only (reads home_vs.0)) = rec.home ∙ ap (option_map settled) home_vs.1 in
        let here : IsImage (only (reads home_vs.0)) image = subst (λ (v : Option (List (Values Block))). IsImageOf v image) values is in
        only_image (reads home_vs.0) image here ∙ sym home_reads

    is_array : (image : List Block) → IsImageOf (state_of state n.home).values image → with_extents image (map extent_of kept) ≡ first_array
    is_array image is =
        let to : (x : Extent) → IsAmong (map extent_of first_records) x → IsValid x.cover → IsAmong (map extent_of kept) x = λ x has ok.
        let w = map_among extent_of first_records x has in
        let some = valid_keeps w.0 (subst (λ (y : Extent). IsValid y.cover) w.2 ok) in
        let here : IsAmong kept w.0 = subst (λ (l : List Record). IsAmong l w.0) kept_is (filter_among keeps first_records w.0 w.1 some) in
        subst (IsAmong (map extent_of kept)) (sym w.2) (among_map extent_of kept w.0 here) in
        let from : (y : Extent) → IsAmong (map extent_of kept) y → IsValid y.cover → IsAmong (map extent_of first_records) y = λ y has ok.
        let w = map_among extent_of kept y has in
        let f = among_filter keeps first_records w.0 (subst (λ (l : List Record). IsAmong l w.0) (sym kept_is) w.1) in
        subst (IsAmong (map extent_of first_records)) (sym w.2) (among_map extent_of first_records w.0 f.0) in
        let once : (x y : Extent) → IsAmong (map extent_of kept) x → IsAmong (map extent_of kept) y → IsValid x.cover → IsValid y.cover → x.cover.version ≡ y.cover.version → x ≡ y = λ x y a d ok ok' version.
        let v = map_among extent_of kept x a in let w = map_among extent_of kept y d in
        let same : v.0.head.version ≡ w.0.head.version = sym (ap (λ (e : Extent). e.cover.version) v.2) ∙ (version ∙ ap (λ (e : Extent). e.cover.version) w.2) in
        v.2 ∙ (ap extent_of (one_of_version state n.lanes.items n.want.id n.want.home n.view all_gs c.all c.order c.view_ok.distinct r.index.entries c.same c.rising told_gs versions_are v.0 w.0 v.1 w.1 same) ∙ sym w.2) in
        sym (same_array (map extent_of first_records) (map extent_of kept) to from once image)
        ∙ ((λ i. with_extents (image_is image is i) (sym (extents_are state o.want.id o.owned.items) i)) ∙ sym (recovered_is o.want.id (read_of (state_of state o.home)) (map (λ (s : Owned). s.blocks) (all_owned state o.owned.items))))

    is_seg : (g : Seg D) → IsAmong all_gs g → IsSeg state n.lanes.items n.want.id n.want.home n.view g
    is_seg g has = all_among (IsSeg state n.lanes.items n.want.id n.want.home n.view) all_gs g c.all has

    told_at : (g : Seg D) → IsAmong all_gs g → IsTold state n.want.id g.part g.scan
    told_at g has = all_among (λ (x : Seg D). IsTold state n.want.id x.part x.scan) all_gs g told_gs has

    records_below : AllByRecursion (λ (g : Seg D). AllByRecursion (λ (q : Record). q.head.version < r.next) (recs_of state n r all_gs g)) all_gs
    records_below = all_from (λ (g : Seg D). AllByRecursion (λ (q : Record). q.head.version < r.next) (recs_of state n r all_gs g)) all_gs (λ g has.
        head_facts (λ (h : RecordHead). h.version < r.next) (records_at state n.want.id g.part) g.scan.records.items (told_at g has).heads
        (all_from (λ (f : Found). f.head.version < r.next) g.scan.records.items (λ f there. below_entry tells state shared o n want view present label most r rec valid lanes.items held g f has there)))

    -- each record lies in home, also one that keeps nothing
    lies_at : (g : Seg D) → IsAmong all_gs g → (q : Record) → IsAmong (records_at state n.want.id g.part) q → LiesInHome n.want.home q
    lies_at g has q there =
        let k = among_get (records_at state n.want.id g.part) q there in
        let named = named_at state n.lanes.items n.want.id n.want.home n.view all_gs c.all c.order c.view_ok.distinct r.index.entries c.same c.rising told_gs g k.0 q has k.1 in let counted = named.counted in
        let within = all_among (λ (x : Record). x.head.first + x.head.count ≤ n.want.home) (records_at state n.want.id g.part) q
        (head_facts (λ (h : RecordHead). h.first + h.count ≤ n.want.home) (records_at state n.want.id g.part) g.scan.records.items (told_at g has).heads (is_seg g has).scanned.within) there in
        omega (arith, counted, within)

    records_within : AllByRecursion (λ (g : Seg D). AllByRecursion (LiesInHome n.want.home) (recs_of state n r all_gs g)) all_gs
    records_within = all_from (λ (g : Seg D). AllByRecursion (LiesInHome n.want.home) (recs_of state n r all_gs g)) all_gs (λ g has.
        all_from (LiesInHome n.want.home) (recs_of state n r all_gs g) (lies_at g has))

    record_lies : (q : Record) → IsAmong kept q → LiesInVolume n.want.home (write_of_record q)
    record_lies q has =
        let f = among_filter keeps (flat_map (recs_of state n r all_gs) all_gs) q has in
        let g = flat_among (recs_of state n r all_gs) all_gs q f.0 in
        lies_at g.0 g.1 q g.2

    is_known : (e : Indexed) → IsAmong r.index.entries e → IsKnown state n r all_gs first_writes e
    is_known e has =
        let h = entry_here state n.lanes.items n.want.id n.want.home n.view all_gs c.all c.order c.view_ok.distinct r.index.entries c.same c.rising e has in let g = h.seg in let f = h.found in
        let at = (told_at g h.among).found.each h.k f h.there in
        let q = at.whose in
        let named = named_at state n.lanes.items n.want.id n.want.home n.view all_gs c.all c.order c.view_ok.distinct r.index.entries c.same c.rising told_gs g h.k q h.among at.there in
        let some : keeps q ≡ true = sym (ap (λ (x : RecordHead). not (eqb x.mask 0)) at.head) ∙ h.kept in
        let in_kept = kept_among state n.lanes.items n.want.id n.want.home n.view all_gs c.all c.order c.view_ok.distinct r.index.entries c.same c.rising told_gs g q h.among (among_at (records_at state n.want.id g.part) h.k q at.there) some in
        let count : length q.blocks ≡ f.head.count = named.counted ∙ sym (ap (λ (x : RecordHead). x.count) at.head) in
        let it : IsKnown state n r all_gs first_writes (entry_for state n.lanes.items n.want.id n.want.home n.view all_gs c.all c.order c.view_ok.distinct r.index.entries c.same c.rising g f) = record {
          write = write_of_record q;
          among = subst (λ (l : List Write). IsAmong l (write_of_record q)) (sym writes_are) (among_map write_of_record kept q in_kept);
          version = ap (λ (x : RecordHead). Some x.version) (sym at.head);
          first = ap (λ (x : RecordHead). x.first) (sym at.head);
          count = count ∙ sym (length-marks_of f.head.count f.head.keep);
        } in
        subst (IsKnown state n r all_gs first_writes) (sym h.is) it

    told_beginning : IsBeginning state n r all_gs tells first_writes first_array
    told_beginning = record {
      apart = subst AreApart (sym first_versions) (apart_once (map (λ (q : Record). q.head.version) kept) (versions_once state n.lanes.items n.want.id n.want.home n.view all_gs c.all c.order c.view_ok.distinct r.index.entries c.same c.rising told_gs versions_are));
      below = subst (AllByRecursion (λ v. v < r.next)) (sym (first_versions ∙ versions_are)) (all_mapped (λ v. v < r.next) (λ (e : Indexed). e.listed.version) (flat_map (entries_at state n.view) all_gs) (below_all tells state shared o n want view present label most r rec valid lanes.items held));
      lie = subst (AllByRecursion (LiesInVolume n.want.home)) (sym writes_are) (all_mapped (LiesInVolume n.want.home) write_of_record kept (all_from (λ (q : Record). LiesInVolume n.want.home (write_of_record q)) kept record_lies));
      known = is_known;
      sized = is_sized;
      told = λ t. record { told = told_gs; versions_ = versions_are; records = writes_are; below = records_below; within = records_within; array_ = is_array };
    }

    next_told : r.next ≡ next_version (records_in o.want.id (all_owned state o.owned.items))
    next_told = rec.next ∙ (next_is state o.want.id rec.read rec.scans told_read ∙ ap next_version (sym (records_before state o.want.id o.owned.items rec.read rec.settled_)))

    -- a segment that is left was owned, and read the same
    was_owned : (g : Seg D) → IsAmong all_gs g → IsAmong (all_owned state o.owned.items) (owned_of state g.part)
    was_owned g has =
        let here = part_among n.owned.items r.scans.items held.segments g has in
        let read = thinned_among rec.read rec.scans g.part (subst (λ (l : List (OwnedPart D)). IsAmong l g.part) rec.left here) in
        subst (λ (l : List Owned). IsAmong l (owned_of state g.part)) (owned_again state o.want.id o.owned.items rec.read rec.same rec.settled_)
        (among_map (owned_of state) rec.read g.part read)

    listed_at : (e : Indexed) → IsAmong r.index.entries e → IsListedOf o.want.id o.view (all_owned state o.owned.items) e.listed
    listed_at e has =
        let h = entry_here state n.lanes.items n.want.id n.want.home n.view all_gs c.all c.order c.view_ok.distinct r.index.entries c.same c.rising e has in let g = h.seg in let f = h.found in
        let at = (told_at g h.among).found.each h.k f h.there in
        let q = at.whose in
        let entry = entry_for state n.lanes.items n.want.id n.want.home n.view all_gs c.all c.order c.view_ok.distinct r.index.entries c.same c.rising g f in
        let it : IsListedOf n.want.id n.view (all_owned state o.owned.items) entry.listed = record {
          segment = owned_of state g.part;
          owned = contains_among (all_owned state o.owned.items) (owned_of state g.part) (was_owned g h.among);
          lane = lane_named n.view g.part.logger h.is_seg.named;
          record_ = q;
          there = contains_among (records_at state n.want.id g.part) q (among_at (records_at state n.want.id g.part) h.k q at.there);
          version = ap (λ (x : RecordHead). x.version) at.head;
          first = ap (λ (x : RecordHead). x.first) at.head;
          keep = ap (λ (x : RecordHead). marks_of x.count x.mask) at.head;
          homed = ap (λ (x : RecordHead). marks_of x.count 0) at.head;
        } in
        subst (λ (l : Indexed). IsListedOf o.want.id o.view (all_owned state o.owned.items) l.listed) (sym h.is)
        (subst (λ (v : List ℕ). IsListedOf o.want.id v (all_owned state o.owned.items) entry.listed) view
        (subst (λ (w : Label). IsListedOf w.id n.view (all_owned state o.owned.items) entry.listed) want it))

    place_at : (e : Indexed) → IsAmong r.index.entries e → StandsInOwned o.want.id o.view (all_owned state o.owned.items) e
    place_at e has =
        let h = entry_here state n.lanes.items n.want.id n.want.home n.view all_gs c.all c.order c.view_ok.distinct r.index.entries c.same c.rising e has in let g = h.seg in let f = h.found in
        let at = (told_at g h.among).found.each h.k f h.there in
        let entry = entry_for state n.lanes.items n.want.id n.want.home n.view all_gs c.all c.order c.view_ok.distinct r.index.entries c.same c.rising g f in
        let it : StandsInOwned n.want.id n.view (all_owned state o.owned.items) entry = record {
          segment = owned_of state g.part;
          owned = contains_among (all_owned state o.owned.items) (owned_of state g.part) (was_owned g h.among);
          lane = lane_named n.view g.part.logger h.is_seg.named;
          index = refl;
          k = h.k;
          record_ = at.whose;
          there = at.there;
          version = ap (λ (x : RecordHead). x.version) at.head;
          first = ap (λ (x : RecordHead). x.first) at.head;
          pos = at.pos;
        } in
        subst (StandsInOwned o.want.id o.view (all_owned state o.owned.items)) (sym h.is)
        (subst (λ (v : List ℕ). StandsInOwned o.want.id v (all_owned state o.owned.items) entry) view
        (subst (λ (w : Label). StandsInOwned w.id n.view (all_owned state o.owned.items) entry) want it))

    places_told : AllByRecursion (StandsInOwned o.want.id o.view (all_owned state o.owned.items)) r.index.entries
    places_told = all_from (StandsInOwned o.want.id o.view (all_owned state o.owned.items)) r.index.entries place_at

    listed_told : AllByRecursion (IsListedOf o.want.id o.view (all_owned state o.owned.items)) (listed_in r.index.entries)
    listed_told = all_mapped (IsListedOf o.want.id o.view (all_owned state o.owned.items)) (λ (e : Indexed). e.listed) r.index.entries
        (all_from (λ (e : Indexed). IsListedOf o.want.id o.view (all_owned state o.owned.items) e.listed) r.index.entries listed_at)

    -- as many are listed
    many_told : length r.index.entries ≡ length first_writes
    many_told =
        length_permutation (flat_map (entries_at state n.view) all_gs) r.index.entries c.same
        ∙ sym (length-map (flat_map (entries_at state n.view) all_gs) (λ (e : Indexed). e.listed.version)) ∙ ap (λ (l : List ℕ). length l) (sym versions_are)
        ∙ length-map kept (λ (q : Record). q.head.version) ∙ sym (length-map kept write_of_record) ∙ ap (λ (l : List Write). length l) (sym writes_are)

  -- ---- The manager

  module _ (sound : (p : Spun D) → IsDisk (state_of state p)) (told : IsTrue tells → (p : Spun D) → TellsContent (state_of state p)) (back : IsHandedBack tells state shared o n) where
    same_lanes : AllZip IsSameLane o.lanes.items lanes.items
    same_lanes = zip_then (IsUsedLane state shared o.want.id o.most) (HoldsItsOwn state shared n.owned.items held.segments) IsSameLane (λ x y z u h. then_same state x y z u.same h.same) o.lanes.items n.lanes.items lanes.items back.lanes held.each

    arrays : List Block
    arrays = cond tells (recovered_of o.want.id (read_of (state_of state o.home)) (all_owned state o.owned.items)) (replicate o.want.home [])

    records : List Write
    records = cond tells (writes_in o.want.id (all_owned state o.owned.items)) (map untold_write r.index.entries)

    -- the base is that function of the opening and the manager
    same_base : (ws : List Write) (array : List Block) (b : IsBeginning state n r all_gs tells ws array) → array ≡ arrays → ws ≡ records
        → opened_base tells state shared n r lanes all_gs c ws array b ≡ base_at_opening tells state o (opened n.want.id n.home n.spindle lanes r.index r.next n.most)
    unfolding arrays records
    same_base ws array b array_is ws_is = λ i. record {
      volume = record {
        marker = record {};
        began = record {
          array = array_is i;
          records = ws_is i;
          next = r.next;
          owner = (want i).id;
          home_blocks = (want i).home;
          most = most i;
          view = view i;
          look = look_of_manager (opened n.want.id n.home n.spindle lanes r.index r.next n.most);
        };
        places = r.index.entries;
      };
      spindle = record { marker = record {}; id = pass_lock n.spindle };
      spindle_number = pass_number n.spindle;
      lanes = map (lane_at_opening tells state o (opened n.want.id n.home n.spindle lanes r.index r.next n.most)) lanes.items;
    }

    given_all : AllZip (HasGiven o.owned.items back.fates) o.lanes.items lanes.items
    given_all = zip_then (HasGiven o.owned.items back.fates) (HoldsItsOwn state shared n.owned.items held.segments) (HasGiven o.owned.items back.fates) (λ x y z given h. h.pool ∙ given) o.lanes.items n.lanes.items lanes.items back.pools held.each

    finish : (ws : List Write) (array : List Block) → (b : IsBeginning state n r all_gs tells ws array) → array ≡ arrays → ws ≡ records → (IsTrue tells → array ≡ recovered_of o.want.id (read_of (state_of state o.home)) (all_owned state o.owned.items)) → (IsTrue tells → ws ≡ writes_in o.want.id (all_owned state o.owned.items))
        → (IsTrue tells → r.next ≡ next_version (records_in o.want.id (all_owned state o.owned.items))) → length r.index.entries ≡ length ws
        → (IsTrue tells → AllByRecursion (IsListedOf o.want.id o.view (all_owned state o.owned.items)) (listed_in r.index.entries))
        → (IsTrue tells → AllByRecursion (StandsInOwned o.want.id o.view (all_owned state o.owned.items)) r.index.entries) → Opens tells state shared o (opened n.want.id n.home n.spindle lanes r.index r.next n.most)
    finish ws array b array_is ws_is is_array is_writes is_next many found placed = record {
      base = opened_base tells state shared n r lanes all_gs c ws array b;
      is_base = same_base ws array b array_is ws_is;
      begins = record { owner = ap (λ (w : _). w.id) want; home_blocks = ap (λ (w : _). w.home) want; most = most; view = view; array = is_array; records = is_writes; next = is_next; listed = length-map r.index.entries (λ (e : Indexed). e.listed) ∙ many; found = found };
      placed = placed;
      stands = opened_stands tells state shared n r lanes all_gs c ws array b;
      at = is_home state shared n r lanes all_gs c;
      spindle = back.spindle;
      lanes = same_lanes;
      named = rec.named;
      recoverable = rec.recoverable;
      fates = back.fates;
      pools = given_all;
      takes = counts_takes o.owned.items back.fates (lane_at_opening tells state o (opened n.want.id n.home n.spindle lanes r.index r.next n.most)) (λ l. refl) o.lanes.items lanes.items given_all;
      held = subst (AllByRecursion (IsInLane lanes.items)) back.owned (all_in_lanes state shared n r lanes.items all_gs c n.owned.items r.scans.items held.segments held.adopted refl);
      order = subst (λ (os : List (OwnedPart D)). AllByRecursion (HoldsInOrder os) lanes.items) back.owned (all_in_order state shared n.owned.items r.scans.items held.segments held.adopted n.lanes.items lanes.items held.each);
      parts = back.parts;
    }

    home_size : (state_of state o.home).size ≡ n.want.home
    home_size = sym back.parts.home.size ∙ rec.open_.home_size

    told_array : tells ≡ true → recovered_of o.want.id (read_of (state_of state o.home)) (all_owned state o.owned.items) ≡ arrays
    unfolding arrays
    told_array is = sym (ap (λ (t : Bool). cond t (recovered_of o.want.id (read_of (state_of state o.home)) (all_owned state o.owned.items)) (replicate o.want.home [])) is)

    told_writes : tells ≡ true → writes_in o.want.id (all_owned state o.owned.items) ≡ records
    unfolding records
    told_writes is = sym (ap (λ (t : Bool). cond t (writes_in o.want.id (all_owned state o.owned.items)) (map untold_write r.index.entries)) is)

    plain_array : tells ≡ false → replicate n.want.home [] ≡ arrays
    unfolding arrays
    plain_array is = ap (λ (w : Label). replicate w.home []) want ∙ sym (ap (λ (t : Bool). cond t (recovered_of o.want.id (read_of (state_of state o.home)) (all_owned state o.owned.items)) (replicate o.want.home [])) is)

    plain_writes : tells ≡ false → map untold_write r.index.entries ≡ records
    unfolding records
    plain_writes is = sym (ap (λ (t : Bool). cond t (writes_in o.want.id (all_owned state o.owned.items)) (map untold_write r.index.entries)) is)

    pub opens_as : (t : Bool) → tells ≡ t → Opens tells state shared o (opened n.want.id n.home n.spindle lanes r.index r.next n.most)
    opens_as true is = finish (first_writes sound (told is) home_size) (first_array sound (told is) home_size) (told_beginning sound (told is) home_size) (told_array is) (told_writes is) (λ t. refl) (λ t. refl) (λ t. next_told sound (told is) home_size) (many_told sound (told is) home_size) (λ t. listed_told sound (told is) home_size) (λ t. places_told sound (told is) home_size)
    opens_as false is = finish (map untold_write r.index.entries) (replicate n.want.home []) (plain_beginning is) (plain_array is) (plain_writes is) (λ t. absurd (let bad : false ≡ true = sym is ∙ t in cc)) (λ t. absurd (let bad : false ≡ true = sym is ∙ t in cc)) (λ t. absurd (let bad : false ≡ true = sym is ∙ t in cc)) (sym (length-map r.index.entries untold_write)) (λ t. absurd (let bad : false ≡ true = sym is ∙ t in cc)) (λ t. absurd (let bad : false ≡ true = sym is ∙ t in cc))
