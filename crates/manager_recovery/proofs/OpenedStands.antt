-- What such a manager stands for: what the volume began with, and no entries.
use Rattle.std.proofs.Common.{◌≡◌, inl, inr, ◌+◌, ◌<◌, ◌≤◌, ℕ, Bool, true, false, eqb, not, ◌||◌, List, [], ◌∷◌, ◌++◌, length, map, Option, None, Some, refl, sym, ap, subst, ◌∙◌, arith}
use Rattle.std.specs.Prelude.{slice_get, filter, replicate, Contains, IsTrue}
use Rattle.std.specs.List.{AllByRecursion, flat_map, list_any}
use Rattle.std.proofs.lemmas.List.{append-nil, length-map, length-replicate}
use Rattle.std.proofs.lemmas.Option.{same_Some, slice_get_within}
use Rattle.std.specs.declared.alloc.Global.{Global}
use Rattle.std.specs.declared.vec.Vec.{Vec}
use Rattle.wol_disk.specs.Disk.{State, Block, Values, IsAmong, IsImageOf, IsImage, reads}
use Rattle.wol_disk.proofs.Images.{only_image}
use Rattle.wol_model.specs.Blocks.{Write, AreApart}
use Rattle.wol_model.specs.Extents.{Extent, IsValid, with_extents, write_of}
use Rattle.wol_model.specs.Heads.{RecordHead, owned_block}
use Rattle.wol_model.specs.Index.{Listed, Indexed, AreRising, IsListed, listed_in}
use Rattle.wol_model.specs.Log.{Record, IsLog, extent_of, has_bit}
use Rattle.block_cells.proofs.Bits.{has_bit-zero}
use Rattle.block_cells.proofs.Marks.{length-marks_of}
use Rattle.wol_promise.specs.Manager.{Base, Held, ManagerSeen, AreInUse, WasWritten, SaysOwnerOrFree, extents_held, versions}
use Rattle.wol_promise.specs.Stands.{IsOpening, IsOpened, LiesInVolume, HasVersions, LiesInHome, LieInHome, AreKnown, HasPlaces, IsHeldBy, IsPlaced, Upholds}
use Rattle.wol_promise.proofs.Opens.{opens}
use Rattle.turn_lock.specs.Passes.{pass_lock, pass_number}
use Rattle.spin_model.specs.Spun.{state_of, volume_of}
use Rattle.spin_model.specs.declared.spun.Spun.{Spun}
use Rattle.log_segment.specs.Segment.{Holds, part_of}
use Rattle.logger.specs.Lanes.{logger_of, held_in, taken_in, pool_blocks}
use Rattle.logger.specs.declared.lane.HeldSegment.{HeldSegment}
use Rattle.logger.specs.declared.lane.Lane.{Lane}
use Rattle.logger.specs.declared.shared.Shared.{Shared}
use Rattle.manager.specs.Seen.{Logs, all_held, all_taken, parts_of, seen, look_of_manager}
use Rattle.manager.specs.Stands.{Stands, StandsAt, AreNamed, takes_of}
use Rattle.manager.specs.declared.base.LaneBase.{LaneBase}
use Rattle.manager.specs.declared.base.ManagerBase.{ManagerBase}
use Rattle.manager.proofs.Lanes.{all_at, none_taken}
use Rattle.manager.proofs.Entries.{same_place}
use Rattle.manager_recovery.specs.Opened.{lane_at_opening}
use Rattle.manager_recovery.specs.Opening.{IsOpeningLane, IsHeldIn}
use Rattle.manager_recovery.specs.Scanned.{lane_of, keeps_some}
use Rattle.manager_recovery.specs.declared.opening.Opening.{Opening}
use Rattle.manager_recovery.specs.declared.volume.Recovered.{Recovered}
use Rattle.manager_recovery.proofs.ByLogger.{on, all_among, all_from, among_get, among_at, contains_among, among_filter, filter_among, among_map, map_among, among_flat, flat_among}
use Rattle.manager_recovery.proofs.OpenedIndex.{entry_for, entry_here, inside_at, is_listed, index_is, distinct_shown, valid_keeps, keeps_valid, one_of_version, named_at}
use Rattle.manager_recovery.proofs.OpenedKeeps.{all_replicate, IsLaneNow, IsGathered, made, is_ready}
use Rattle.manager_recovery.proofs.Places.{lane_with}
use Rattle.manager_recovery.proofs.SameNewest.{same_array}
use Rattle.manager_recovery.proofs.Segs as segs
use Rattle.manager_recovery.proofs.Segs.{Seg, IsSeg, logger_of_seg, lane_named, shown, shown_at, logs_of, shown_is, lanes_hold, each_shown, is_shown, places_apart, records_of_all, extents_of_all}
use Rattle.manager_recovery.proofs.ToldParts.{IsTold, records_at, keeps}

-- the write that a record came from
abbrev pub write_of_record : Record → Write
write_of_record r = write_of (extent_of r)

-- ---- What the volume began with

module _ {D : Type 0} (state : D → State) (n : Opening D) (r : Recovered) (gs : List (Seg D)) where
  -- the records of a segment
  abbrev pub recs_of : Seg D → List Record
  recs_of g = records_at state n.want.id g.part

  -- those that keep a block
  abbrev pub kept_of_all : List Record
  kept_of_all = filter keeps (flat_map recs_of gs)

  -- where disks tell: the records are those of the segments, and with each image of home they make the array
  pub record IsToldBeginning (ws : List Write) (array : List Block) : Type 0 where
    pub told : AllByRecursion (λ (g : Seg D). IsTold state n.want.id g.part g.scan) gs
    pub versions_ : map (λ (q : Record). q.head.version) kept_of_all ≡ map (λ (e : Indexed). e.listed.version) (flat_map (segs.entries_at state n.view) gs)
    pub records : ws ≡ map write_of_record kept_of_all
    pub below : AllByRecursion (λ (g : Seg D). AllByRecursion (λ (q : Record). q.head.version < r.next) (recs_of g)) gs
    pub within : AllByRecursion (λ (g : Seg D). AllByRecursion (LiesInHome n.want.home) (recs_of g)) gs
    pub array_ : (image : List Block) → IsImageOf (state_of state n.home).values image → with_extents image (map extent_of kept_of_all) ≡ array

  -- a write of the beginning that an entry of the index is of
  pub record IsKnown (ws : List Write) (e : Indexed) : Type 0 where
    pub write : Write
    pub among : IsAmong ws write
    pub version : write.version ≡ Some e.listed.version
    pub first : write.first ≡ e.listed.first
    pub count : length write.blocks ≡ length e.listed.keep

  pub record IsBeginning (tells : Bool) (ws : List Write) (array : List Block) : Type 0 where
    pub apart : AreApart (versions ws)
    pub below : AllByRecursion (λ v. v < r.next) (versions ws)
    pub lie : AllByRecursion (LiesInVolume n.want.home) ws
    pub known : (e : Indexed) → IsAmong r.index.entries e → IsKnown ws e
    pub sized : length array ≡ n.want.home
    pub told : IsTrue tells → IsToldBeginning ws array

false_set : (ps : List ℕ) → AllByRecursion (λ m. m ≡ false) (map (has_bit 0) ps)
false_set [] = tt
false_set (p ∷ ps) = (has_bit-zero p, false_set ps)

listed_versions : (es : List Indexed) → map (λ (e : Listed). e.version) (listed_in es) ≡ map (λ (e : Indexed). e.listed.version) es
listed_versions [] = refl
listed_versions (e ∷ es) = ap (λ l. e.listed.version ∷ l) (listed_versions es)

all_listed : (P : Listed → Type 0) (es : List Indexed) → AllByRecursion (λ (e : Indexed). P e.listed) es → AllByRecursion P (listed_in es)
all_listed P [] all = tt
all_listed P (e ∷ es) all = (all.0, all_listed P es all.1)

-- a list of which one passes
any_found : {X : Type 0} (test : X → Bool) (xs : List X) → list_any test xs ≡ true → (x : X) × IsAmong xs x × (test x ≡ true)
any_found {X} test [] some = absurd (let bad : false ≡ true = some in cc)
any_found {X} test (x ∷ xs) some = at (test x) refl some (any_found test xs)
  where
    at : (u : Bool) → test x ≡ u → (u || list_any test xs) ≡ true → (list_any test xs ≡ true → (y : X) × IsAmong xs y × (test y ≡ true)) → (y : X) × IsAmong (x ∷ xs) y × (test y ≡ true)
    at true e some more = (x, inl refl, e)
    at false e some more = let w = more some in (w.0, inr w.1, w.2)

-- a log begins with its owner's block
says_owner : (owner : ℕ) (bs : List Block) (rs : List Record) → IsLog bs owner rs → SaysOwnerOrFree owner bs
says_owner owner [] rs log = let e = log.joined in absurd (cc)
says_owner owner (b ∷ bs) rs log = let e = log.joined in let same : b ≡ owned_block owner = cc in inl same

module _ {D : Type 0} (tells : Bool) (state : D → State) (shared : Shared D) (n : Opening D) (r : Recovered) (lanes : Vec (Lane D) Global) (gs : List (Seg D)) (c : IsGathered state shared n r lanes.items gs)
    (ws : List Write) (array : List Block) (b : IsBeginning state n r gs tells ws array) where
  abbrev recs : Seg D → List Record
  recs g = records_at state n.want.id g.part

  abbrev kept : List Record
  kept = filter keeps (flat_map recs gs)

  abbrev held_now : List (Held (Spun D))
  held_now = shown recs 0 n.view gs

  abbrev pub logs : Logs
  logs = logs_of recs gs lanes.items

  abbrev pub began : Base
  began = record {
    array = array;
    records = ws;
    next = r.next;
    owner = n.want.id;
    home_blocks = n.want.home;
    most = n.most;
    view = n.view;
    look = look_of_manager (made state shared n r lanes gs c);
  }

  abbrev plain : ManagerSeen (Spun D)
  plain = record { home = n.home; held = held_now; taken = []; indexed = r.index.entries; next = r.next; home_up = true; ups = replicate (length lanes.items) true; down = None }

  is_seg : (g : Seg D) → IsAmong gs g → IsSeg state n.lanes.items n.want.id n.want.home n.view g
  is_seg g has = all_among (IsSeg state n.lanes.items n.want.id n.want.home n.view) gs g c.all has

  held_each : AllByRecursion (λ (l : Lane D). held_in l ≡ map (λ (g : Seg D). g.held) (on logger_of_seg (logger_of l) gs)) lanes.items
  held_each = all_from (λ (l : Lane D). held_in l ≡ map (λ (g : Seg D). g.held) (on logger_of_seg (logger_of l) gs)) lanes.items (λ l has. (all_among (IsLaneNow state shared n.want.id n.most gs) lanes.items l c.each has).held)

  held_is : all_held 0 lanes.items logs ≡ held_now
  held_is = shown_is recs 0 gs lanes.items held_each ∙ ap (λ (v : List ℕ). shown recs 0 v gs) c.loggers

  taken_is : all_taken 0 lanes.items ≡ []
  taken_is = none_taken 0 lanes.items (all_from (λ (l : Lane D). taken_in l ≡ None) lanes.items (λ l has. (all_among (IsLaneNow state shared n.want.id n.most gs) lanes.items l c.each has).untaken))

  seen_is : seen (made state shared n r lanes gs c) logs ≡ plain
  seen_is = λ i. record { home = n.home; held = held_is i; taken = taken_is i; indexed = r.index.entries; next = r.next; home_up = true; ups = replicate (length lanes.items) true; down = None }

  -- what holds of each segment on its lane
  each : (P : Held (Spun D) → Type 0) → ((k : ℕ) (g : Seg D) → slice_get n.view k ≡ Some g.part.logger → IsAmong gs g → P (shown_at recs k g)) → AllByRecursion P held_now
  each P so = each_shown recs P (IsAmong gs) 0 n.view gs (all_from (IsAmong gs) gs (λ g has. has)) (λ k g is has. let z : k ≡ 0 + k = omega arith in subst (λ (i : ℕ). P (shown_at recs i g)) z (so k g is has))

  -- ---- The beginning

  opened_one : (e : Indexed) → IsAmong r.index.entries e → IsOpened began e.listed
  opened_one e has =
      let k = b.known e has in let h = entry_here state n.lanes.items n.want.id n.want.home n.view gs c.all c.order c.view_ok.distinct r.index.entries c.same c.rising e has in let f = h.found in let g = h.seg in
      let lane : lane_of n.view g.part.logger < length n.view = slice_get_within n.view (lane_of n.view g.part.logger) g.part.logger (lane_named n.view g.part.logger h.is_seg.named) in record {
        write = k.write;
        known = contains_among ws k.write k.among;
        version = k.version;
        first = k.first;
        count = k.count;
        lane = subst (λ (x : Indexed). x.listed.lane < length n.view) (sym h.is) lane;
        marked = (is_listed state n.lanes.items n.want.id n.want.home n.view gs c.all c.order c.view_ok.distinct r.index.entries c.same c.rising e has).marks;
        unhomed = subst (λ (x : Indexed). AllByRecursion (λ m. m ≡ false) x.listed.homed) (sym h.is) (false_set _);
      }

  is_opening : IsOpening began
  is_opening = record {
    home_up = refl;
    ups = all_replicate (λ up. up ≡ true) (length lanes.items) true refl;
    up = refl;
    lanes = length-replicate (length lanes.items) true ∙ (sym (length-map lanes.items logger_of) ∙ ap length c.loggers);
    next = refl;
    rising = subst AreRising (sym (listed_versions r.index.entries)) c.rising;
    listed = all_listed (IsOpened began) r.index.entries (all_from (λ (e : Indexed). IsOpened began e.listed) r.index.entries opened_one);
    sized = b.sized;
  }

  is_versioned : HasVersions began r.next [] None
  is_versioned = record {
    apart = subst AreApart (sym (append-nil (versions ws))) b.apart;
    below = subst (AllByRecursion (λ v. v < r.next)) (sym (append-nil (versions ws))) b.below;
    in_order = λ none. (refl, let e : r.next ≡ r.next + 0 = omega arith in e);
    least = c.next.0;
    most = c.next.1;
  }

  told_seg : (t : IsTrue tells) (g : Seg D) → IsAmong gs g → IsTold state n.want.id g.part g.scan
  told_seg t g has = all_among (λ (x : Seg D). IsTold state n.want.id x.part x.scan) gs g (b.told t).told has

  is_known : IsTrue tells → AreKnown began r.next [] [] held_now
  is_known t = record {
    written = each (λ (s : Held (Spun D)). AllByRecursion (λ (q : Record). IsValid (extent_of q).cover → WasWritten (ws ++ ([] ++ [])) q) s.records) (λ k g is has.
        all_from (λ (q : Record). IsValid (extent_of q).cover → WasWritten (ws ++ ([] ++ [])) q) (recs g) (λ q there valid.
        let w = write_of_record q in
        let in_kept = filter_among keeps (flat_map recs gs) q (among_flat recs gs g q has there) (valid_keeps q valid) in
        let in_ws : IsAmong ws w = subst (λ (l : List Write). IsAmong l w) (sym (b.told t).records) (among_map write_of_record kept q in_kept) in
        (w, subst (λ (l : List Write). Contains l w) (sym (append-nil ws)) (contains_among ws w in_ws), record { version = refl; first = refl; blocks = refl })));
    below = each (λ (s : Held (Spun D)). AllByRecursion (λ (q : Record). (IsValid (extent_of q).cover → ⊥) → q.head.version < r.next) s.records) (λ k g is has.
        all_from (λ (q : Record). (IsValid (extent_of q).cover → ⊥) → q.head.version < r.next) (recs g) (λ q there no_.
        all_among (λ (x : Record). x.head.version < r.next) (recs g) q (all_among (λ (x : Seg D). AllByRecursion (λ (y : Record). y.head.version < r.next) (recs x)) gs g (b.told t).below has) there));
    within = each (LieInHome n.want.home) (λ k g is has. all_among (λ (x : Seg D). AllByRecursion (LiesInHome n.want.home) (recs x)) gs g (b.told t).within has);
  }

  -- ---- Parts and places

  image_is : (t : IsTrue tells) (g : Seg D) (has : IsAmong gs g) (bs : List Block) → IsImageOf (state_of state (part_of g.held.segment)).values bs → IsLog bs n.want.id (recs g)
  image_is t g has bs image =
      let told = told_seg t g has in let a = (is_seg g has).adopted in
      let values : (state_of state (part_of g.held.segment)).values ≡ Some told.vs = ap (λ (p : Spun D). (state_of state p).values) a.part ∙ told.values in
      let is : IsImage told.vs bs = subst (λ (o : Option (List (Values Block))). IsImageOf o bs) values image in
      let same : bs ≡ reads told.vs = only_image (reads told.vs) bs (subst (λ (v : List (Values Block)). IsImage v bs) told.one is) in
      subst (λ (l : List Block). IsLog l n.want.id (recs g)) (sym same) told.log

  is_held_by : (k : ℕ) (g : Seg D) → slice_get n.view k ≡ Some g.part.logger → IsAmong gs g → IsHeldBy (parts_of tells state) began (shown_at recs k g)
  is_held_by k g is has =
      let s = is_seg g has in
      let w = lane_with n.lanes.items k g.part.logger (ap (λ (q : List ℕ). slice_get q k) c.loggers_before ∙ is) in
      let in_lane = all_at (λ (l : Lane D). logger_of l ≡ g.part.logger → IsHeldIn state g.part l) n.lanes.items k w.0 w.1 s.owned.held w.2 in
      let lane = all_at (IsOpeningLane state shared n.want.id n.most) n.lanes.items k w.0 w.1 c.can.lanes in
      let volume : volume_of (part_of g.held.segment) ≡ g.part.logger = ap (λ (p : Spun D). volume_of p) s.adopted.part ∙ (in_lane.volume ∙ w.2) in
      let size : (state_of state (part_of g.held.segment)).size ≡ pool_blocks w.0 = ap (λ (p : Spun D). (state_of state p).size) s.adopted.part ∙ in_lane.blocks in record {
        logger = is ∙ ap Some (sym volume);
        room = subst (λ (x : ℕ). n.most + 2 ≤ x) (sym size) lane.long;
        owned = λ bs may. says_owner n.want.id bs (recs g) (image_is may.0 g has bs may.1);
      }

  has_places : HasPlaces (parts_of tells state) began n.home held_now (replicate (length lanes.items) true)
  has_places = let can = c.can in record {
    flags = is_opening.lanes;
    few = c.view_ok.few;
    home_blocks = can.want.home;
    most = can.most;
    home_size = can.home_size;
    home_volume = can.home_volume;
    each = each (IsHeldBy (parts_of tells state) began) is_held_by;
    apart = places_apart recs 0 n.view gs (all_from (λ (g : Seg D). g.held.index ≡ g.part.index) gs (λ g has. (is_seg g has).adopted.index)) c.order;
  }

  is_placed : (e : Indexed) → IsAmong r.index.entries e → IsPlaced (parts_of tells state) held_now e
  is_placed e has =
      let h = entry_here state n.lanes.items n.want.id n.want.home n.view gs c.all c.order c.view_ok.distinct r.index.entries c.same c.rising e has in let f = h.found in let g = h.seg in
      let inside = inside_at state n.lanes.items n.want.id n.want.home n.view gs c.all c.order c.view_ok.distinct r.index.entries c.same c.rising g h.k f h.is_seg h.there in
      let lane = lane_of n.view g.part.logger in let fits = inside.fits in
      let long = length-marks_of f.head.count f.head.keep in
      let size : (state_of state (part_of g.held.segment)).size ≡ (state_of state g.part.part).size = ap (λ (p : Spun D). (state_of state p).size) h.is_seg.adopted.part in
      let it : IsPlaced (parts_of tells state) held_now (entry_for state n.lanes.items n.want.id n.want.home n.view gs c.all c.order c.view_ok.distinct r.index.entries c.same c.rising g f) = record {
        segment = shown_at recs (0 + lane) g;
        is_held = contains_among held_now (shown_at recs (0 + lane) g) (is_shown recs 0 lane n.view gs g h.among (lane_named n.view g.part.logger h.is_seg.named));
        lane = (let z : lane ≡ 0 + lane = omega arith in z);
        index = sym h.is_seg.adopted.index;
        behind = inside.behind;
        within = omega (arith, long, size, fits);
      } in
      subst (IsPlaced (parts_of tells state) held_now) (sym h.is) it

  -- ---- The array

  module _ (t : IsTrue tells) where
    all_kept : AllByRecursion (λ (s : Held (Spun D)). (q : Record) → IsAmong s.records q → keeps q ≡ true → IsAmong kept q) held_now
    all_kept = each (λ (s : Held (Spun D)). (q : Record) → IsAmong s.records q → keeps q ≡ true → IsAmong kept q) (λ k g is has q there some. filter_among keeps (flat_map recs gs) q (among_flat recs gs g q has there) some)

    to_kept : (x : Extent) → IsAmong (extents_held held_now) x → IsValid x.cover → IsAmong (map extent_of kept) x
    to_kept x has valid =
        let w = map_among extent_of (records_of_all recs held_now) x (subst (λ (l : List Extent). IsAmong l x) (extents_of_all recs held_now) has) in
        let s = flat_among (λ (h : Held (Spun D)). h.records) held_now w.0 w.1 in
        let some = valid_keeps w.0 (subst (λ (y : Extent). IsValid y.cover) w.2 valid) in
        let here = all_among (λ (h : Held (Spun D)). (q : Record) → IsAmong h.records q → keeps q ≡ true → IsAmong kept q) held_now s.0 all_kept s.1 w.0 s.2 some in
        subst (IsAmong (map extent_of kept)) (sym w.2) (among_map extent_of kept w.0 here)

    from_kept : (y : Extent) → IsAmong (map extent_of kept) y → IsValid y.cover → IsAmong (extents_held held_now) y
    from_kept y has valid =
        let w = map_among extent_of kept y has in
        let f = among_filter keeps (flat_map recs gs) w.0 w.1 in
        let g = flat_among recs gs w.0 f.0 in
        let lane = lane_of n.view g.0.part.logger in
        let there = among_flat (λ (h : Held (Spun D)). h.records) held_now (shown_at recs (0 + lane) g.0) w.0 (is_shown recs 0 lane n.view gs g.0 g.1 (lane_named n.view g.0.part.logger (is_seg g.0 g.1).named)) g.2 in
        subst (λ (l : List Extent). IsAmong l y) (sym (extents_of_all recs held_now)) (subst (IsAmong (map extent_of (records_of_all recs held_now))) (sym w.2) (among_map extent_of (records_of_all recs held_now) w.0 there))

    once : (x y : Extent) → IsAmong (map extent_of kept) x → IsAmong (map extent_of kept) y → IsValid x.cover → IsValid y.cover → x.cover.version ≡ y.cover.version → x ≡ y
    once x y a d valid valid' version =
        let v = map_among extent_of kept x a in let w = map_among extent_of kept y d in
        let same : v.0.head.version ≡ w.0.head.version = sym (ap (λ (e : Extent). e.cover.version) v.2) ∙ (version ∙ ap (λ (e : Extent). e.cover.version) w.2) in
        v.2 ∙ (ap extent_of (one_of_version state n.lanes.items n.want.id n.want.home n.view gs c.all c.order c.view_ok.distinct r.index.entries c.same c.rising (b.told t).told (b.told t).versions_ v.0 w.0 v.1 w.1 same) ∙ sym w.2)

    recovers : (image : List Block) → IsImageOf (state_of state n.home).values image → with_extents image (extents_held held_now) ≡ array
    recovers image is = same_array (extents_held held_now) (map extent_of kept) to_kept from_kept once image ∙ (b.told t).array_ image is

  -- ---- The whole

  upholds : Upholds (parts_of tells state) began plain [] [] None
  upholds = (opens (parts_of tells state) began plain is_opening refl refl is_versioned b.lie is_known has_places
      (each (λ (s : Held (Spun D)). s.broken ≡ false) (λ k g is has. (is_seg g has).adopted.whole)) refl
      (record { rising = c.rising; listed = all_from (λ (e : Indexed). IsListed (listed_in r.index.entries) e.listed) r.index.entries (is_listed state n.lanes.items n.want.id n.want.home n.view gs c.all c.order c.view_ok.distinct r.index.entries c.same c.rising) })
      c.below (all_from (IsPlaced (parts_of tells state) held_now) r.index.entries is_placed)
      (λ t. each (λ (s : Held (Spun D)). (bs : List Block) → IsTrue tells × IsImageOf (state_of state s.part).values bs → IsLog bs n.want.id s.records) (λ k g is has bs may. image_is may.0 g has bs may.1))
      (λ t. distinct_shown state n.lanes.items n.want.id n.want.home n.view gs c.all c.order c.view_ok.distinct r.index.entries c.same c.rising (b.told t).told (b.told t).versions_)
      (λ t. index_is state n.lanes.items n.want.id n.want.home n.view gs c.all c.order c.view_ok.distinct r.index.entries c.same c.rising (b.told t).told)
      (λ t image may. recovers t image may.1)).upholds

  abbrev lane_base : Lane D → LaneBase
  lane_base = lane_at_opening tells state n (made state shared n r lanes gs c)

  abbrev pub opened_base : ManagerBase
  opened_base = record {
    volume = record { marker = record {}; began = began; places = r.index.entries };
    spindle = record { marker = record {}; id = pass_lock n.spindle };
    spindle_number = pass_number n.spindle;
    lanes = map lane_base lanes.items;
  }

  all_named : (ls : List (Lane D)) → AreNamed ls (map lane_base ls)
  all_named [] = tt
  all_named (l ∷ ls) = (record { logger = refl; pool = refl; pool_number = refl; spindle = refl; spindle_number = refl; nones = omega arith }, all_named ls)

  took_none : (ls : List (Lane D)) → takes_of ls (map lane_base ls) ≡ 0
  took_none [] = refl
  took_none (l ∷ ls) = let rest = took_none ls in omega (arith, rest)

  abbrev HoldsIts : HeldSegment D → List Record → Type 0
  HoldsIts h rs = IsTrue tells → (made state shared n r lanes gs c).down ≡ None → Holds state h.segment rs

  holds_its : (g : Seg D) → IsAmong gs g → HoldsIts g.held (recs g)
  holds_its g has t up =
      let told = told_seg t g has in let s = is_seg g has in
      let owner : g.held.segment.owner ≡ n.want.id = same_Some g.held.segment.owner n.want.id (s.adopted.owner ∙ s.scanned.owner) in
      s.adopted.holds_ told.vs told.values (recs g) (subst (λ (i : ℕ). IsLog (reads told.vs) i (recs g)) (sym owner) told.log)

  in_use_one : IsTrue tells → (g : Seg D) → IsAmong gs g → (q : Record) × Contains (recs g) q × IsValid (extent_of q).cover
  in_use_one t g has =
      let told = told_seg t g has in let s = is_seg g has in
      let f = any_found keeps_some g.scan.records.items s.some in
      let k = among_get g.scan.records.items f.0 f.1 in
      let at = told.found.each k.0 f.0 k.1 in
      let some : keeps at.whose ≡ true = sym (ap (λ (h : RecordHead). not (eqb h.mask 0)) at.head) ∙ f.2 in
      (at.whose, contains_among (recs g) at.whose (among_at (recs g) k.0 at.whose at.there), keeps_valid n.want.id at.whose (named_at state n.lanes.items n.want.id n.want.home n.view gs c.all c.order c.view_ok.distinct r.index.entries c.same c.rising (b.told t).told g k.0 at.whose has at.there) some)

  pub opened_stands : Stands tells state (made state shared n r lanes gs c) opened_base []
  opened_stands = record {
    keeps = record {
      logs = logs;
      held = lanes_hold recs HoldsIts gs lanes.items held_each (all_from (λ (g : Seg D). HoldsIts g.held (recs g)) gs holds_its);
      upholds = subst (λ (m : ManagerSeen (Spun D)). Upholds (parts_of tells state) began m [] [] None) (sym seen_is) upholds;
      in_use = λ t up. subst AreInUse (sym held_is) (each (λ (s : Held (Spun D)). (q : Record) × Contains s.records q × IsValid (extent_of q).cover) (λ k g is has. in_use_one t g has));
      passed = λ k. omega arith;
      taken = let none = took_none lanes.items in omega (arith, none);
      still = all_from (λ (e : Indexed). e.listed.version < r.next → (old : Indexed) × Contains r.index.entries old × StandsAt old e) r.index.entries (λ e has lt. (e, contains_among r.index.entries e has, same_place e));
      ready = is_ready state shared n r lanes gs c;
      locks = record { pass = refl; number = refl; each = all_named lanes.items; owner = refl; most_ = refl; view = c.loggers };
    };
    look = refl;
  }
