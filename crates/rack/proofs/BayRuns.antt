-- The run of a bay, by what closing its rack leaves.
use Rattle.rack.proofs.ClosingBasics.{◌≡◌, ◌≢◌, ◌⊎◌, inl, inr, ⊎_elim, ◌<◌, ◌≤◌, ◌^◌, ◌+◌, ◌++◌, ℕ, Bool, true, false, List, [], ◌∷◌, length, Option, Some, None, refl, sym, ap, ◌∙◌, subst, arith, cond, not, eqb, is_some}
use Rattle.rack.proofs.ClosingBasics.{Contains, All, AllByRecursion, IsTrue, IfSome, slice_get, slice_index_or, slice_range, option_map, same_Some, none-some, eq-eqb, eqb-true, All-contains, append_assoc, Contains-append_right, length-map}
use Rattle.rack.proofs.ClosingBasics.{slice_get-map, slice_get_within, suc}
use Rattle.rack.proofs.ClosingTerms.{State, Block, Values, IsImage, IsImageOf, Rose, BayState, Told, Name, Image, at_name, Images, image_of, accepted, all_segments, segment_of, IsIdle, IsLog, Record}
use Rattle.rack.proofs.ClosingTerms.{Free, Owned, flight_of, writes, IsCut, AreDistinct, covers_of, extents_of, Listed, entries_of, last_look, Config, VolumeConf, HasNothing, HasHead, PartName}
use Rattle.rack.proofs.ClosingTerms.{head_place, MayLeave, shape_in, shapes_of, images_read, AreLeft, IsTold, notes_of, Station, Spun, image_here, IsImageOut, IsSegmentHere, ImageRest, Rack, base_of_station}
use Rattle.rack.proofs.ClosingTerms.{ComesFrom, from_here, from_pool, from_manager, IsLogOfStation, IsClosedVolume, RecoversTo, HasFaultyPart, AreListedOf, IsOnLogger, AreLeftOfParts, is_kept_home}
use Rattle.rack.proofs.ClosingTerms.{BeganWith, WereThere, HadRefused, HasFaulty, IsBegun, images_taken, IsStation, IsOpenBase, IsClosable, blocks_of_segment, recovered_but, part_named, place_in}
use Rattle.wol_config.specs.Configs.{IsValid}
use Rattle.wol_model.specs.History.{in_flight}
use Rattle.turn_lock.specs.Histories.{Entry}
use Rattle.volume_images.proofs.InOrder.{told_weaker}
use Rattle.rack_parts.proofs.Members.{a_value, first_in, later_in, of_recursion}
use Rattle.rack.specs.BayRuns.{History, Histories, VolumeRun, IsUnbroken, IsLogOfOpen, MayBeUsed, SegmentFate, kept, bare, used, LeavesSegments, WasBegun, HoldsVolume, KeepsArray, KeepsHome, ImagesLeft, BayLeft, BayRun, QuietRun, AreAllOpen, HasNoLog, UsesPools}
use Rattle.rack.specs.Opens.{KeepsOthers, LeavesFront, WasAccepted, front_of, IsGone}
use Rattle.logger_view.specs.Stored.{HasView}
use Rattle.turn_lock.specs.Passes.{lock_id}
use Rattle.wol_disk.specs.Disk.{reads}
use Rattle.wol_promise.specs.Manager.{Base}
use Rattle.wol_promise.specs.Ruled.{Noted}
use Rattle.rack.specs.Closes.{LeavesNoLog, SharePools}
use Rattle.rack.specs.PoolUses.{ArePools, HadLogger, PassesEmpty, TakesFew}
use Rattle.rack_parts.specs.Racks.{KeepToViews}
use Rattle.rack.specs.RackRuns.{BeganIn, IsHistoryOf, RunsRack}
use Rattle.rack.proofs.Cases.{by_option, none_or}
use Rattle.rack.proofs.KeptLogs.{image_slice}
use Rattle.rack.proofs.LeftImage.{accepted_same, may_at, out_taken}
use Rattle.rack.proofs.LeftVolumes.{IsOver, closed_recovers, front_was, is_out, shape_at}
use Rattle.rack.proofs.LoggersNamed.{image_is_read}
use Rattle.rack.proofs.Places.{some_at}
use Rattle.rack.proofs.SoundBefore.{IsClosed}
use Rattle.rack.proofs.StationParts.{one_place, place_of}
use Rattle.rack.proofs.ViewsLeft.{front_left}

-- a count that rose later rose
rose_before : (a b d : ℕ) → a ≤ b → Rose b d → Rose a d
rose_before a b d less (inl more) = inl (omega (arith, less, more))
rose_before a b d less (inr last) = inr last

-- a segment whose head says so is free
idle_of_free : (volumes : ℕ) (c : List Block) → HasHead volumes c Free → IsIdle c
idle_of_free volumes c head = go c head.first
  where
    go : (bs : List Block) → slice_get bs 0 ≡ Some head.block → IsIdle bs
    go [] is = absurd (none-some head.block is)
    go (b ∷ bs) is = same_Some b head.block is ∙ head.spelled.bytes

-- what is told after and what was told before
told_then : (H Q R : Told → Told → Type 0) (e o n : Option Told) → IsTold H e o → IsTold Q o n → ((t x y : Told) → H t x → Q x y → R t y) → IsTold R e n
told_then H Q R None None n had told then = told
told_then H Q R None (Some o) n had told then = absurd (cc had)
told_then H Q R (Some e) None n had told then = absurd had
told_then H Q R (Some e) (Some o) None had told then = absurd told
told_then H Q R (Some e) (Some o) (Some n) had told then = then e o n had told

module _ {D : Type 0} (tells : Bool) (state : D → State) (config : Config) (old bay new : BayState) (r : Rack D) (valid : IsValid config) (can : IsClosable state config bay r) (in_ : BeganIn tells state config old bay r)
    (volumes : All (IsClosedVolume tells config r.rest.images.items bay new) r.stations.items) (shared : SharePools tells config bay new r volumes) where
  abbrev out : List (Option (ImageRest D))
  out = r.rest.images.items

  abbrev Closed : Station D → Type 0
  Closed s = IsClosedVolume tells config out bay new s

  -- ---- Histories

  abbrev history : (s : Station D) → Closed s → History
  history s c = record { base = (base_of_station s).volume.began; notes = notes_of c.entries }

  at_first : (s : Station D) (ss : List (Station D)) → 0 < length (s ∷ ss)
  at_first s ss = omega arith

  at_later : (s : Station D) (ss : List (Station D)) (n : ℕ) → n < length ss → suc n < length (s ∷ ss)
  at_later s ss n lt = omega (arith, lt)

  abbrev behind : (s : Station D) (ss : List (Station D)) → All Closed (s ∷ ss) → All Closed ss
  behind s ss all n d lt = all (suc n) d (at_later s ss n lt)

  abbrev first : (s : Station D) (ss : List (Station D)) → All Closed (s ∷ ss) → Closed s
  first s ss all = all 0 s (at_first s ss)

  abbrev history_in : (ss : List (Station D)) → All Closed ss → (v : ℕ) → Option History
  history_in [] all v = None
  history_in (s ∷ ss) all v = cond (eqb s.id v) (Some (history s (first s ss all))) (history_in ss (behind s ss all) v)

  record IsFound (ss : List (Station D)) (v : ℕ) (h : History) : Type 0 where
    s : Station D
    has : Contains ss s
    id : s.id ≡ v
    closed : Closed s
    is : h ≡ history s closed

  found_in : (ss : List (Station D)) (all : All Closed ss) (v : ℕ) (h : History) → history_in ss all v ≡ Some h → IsFound ss v h
  found_in [] all v h at = absurd (none-some h at)
  found_in (s ∷ ss) all v h at = go (found_in ss (behind s ss all) v h) (eqb s.id v) refl at
    where
      go : (history_in ss (behind s ss all) v ≡ Some h → IsFound ss v h) → (t : Bool) → eqb s.id v ≡ t → cond t (Some (history s (first s ss all))) (history_in ss (behind s ss all) v) ≡ Some h → IsFound (s ∷ ss) v h
      go rest true e is = record { s = s; has = first_in s s ss refl; id = eqb-true s.id v e; closed = first s ss all; is = sym (same_Some (history s (first s ss all)) h is) }
      go rest false e is = let f = rest is in record { s = f.s; has = later_in s f.s ss f.has; id = f.id; closed = f.closed; is = f.is }

  none_in_it : (ss : List (Station D)) (all : All Closed ss) (v : ℕ) → history_in ss all v ≡ None → AllByRecursion (λ (t : Station D). v ≢ t.id) ss
  none_in_it [] all v none = tt
  none_in_it (t ∷ ss) all v none = go (none_in_it ss (behind t ss all) v) (eqb t.id v) refl none
    where
      go : (history_in ss (behind t ss all) v ≡ None → AllByRecursion (λ (u : Station D). v ≢ u.id) ss) → (b : Bool) → eqb t.id v ≡ b → cond b (Some (history t (first t ss all))) (history_in ss (behind t ss all) v) ≡ None → AllByRecursion (λ (u : Station D). v ≢ u.id) (t ∷ ss)
      go rest true e is = absurd (cc is)
      go rest false e is = ((λ same. let yes = eq-eqb t.id v (sym same) in cc (yes, e)), rest is)

  -- what holds of each closed volume holds of each history
  each_in : (P : Base → List Noted → Type 0) (ss : List (Station D)) (all : All Closed ss) → ((n : ℕ) (d : Station D) (within : n < length ss) → P (base_of_station (slice_index_or ss n d)).volume.began (notes_of (all n d within).entries))
      → (v : ℕ) (h : History) → history_in ss all v ≡ Some h → P h.base h.notes
  each_in P [] all each v h at = absurd (none-some h at)
  each_in P (s ∷ ss) all each v h at = go (each_in P ss (behind s ss all) (λ n d lt. each (suc n) d (at_later s ss n lt)) v h) (eqb s.id v) at
    where
      go : (history_in ss (behind s ss all) v ≡ Some h → P h.base h.notes) → (t : Bool) → cond t (Some (history s (first s ss all))) (history_in ss (behind s ss all) v) ≡ Some h → P h.base h.notes
      go rest true is = subst (λ (x : History). P x.base x.notes) (same_Some (history s (first s ss all)) h is) (each 0 s (at_first s ss))
      go rest false is = rest is

  abbrev histories : Histories
  histories v = history_in r.stations.items volumes v

  found : (v : ℕ) (h : History) → histories v ≡ Some h → IsFound r.stations.items v h
  found v h at = found_in r.stations.items volumes v h at

  -- a volume without a history has no station
  without : (v : ℕ) → histories v ≡ None → IsClosed r v
  without v none s has = of_recursion (λ (t : Station D). v ≢ t.id) r.stations.items s (none_in_it r.stations.items volumes v none) has

  of_found : (v : ℕ) (h : History) (f : IsFound r.stations.items v h) → IsHistoryOf f.s h
  of_found v h f = record {
    base = ap (λ (x : History). x.base) f.is;
    entries = f.closed.entries;
    notes = ap (λ (x : History). x.notes) f.is;
    worker_part = f.closed.worker_part;
    helper_part = f.closed.helper_part;
    keeper_part = f.closed.keeper_part;
    no_more = f.closed.no_more;
  }

  history_of : (s : Station D) → Contains r.stations.items s → (h : History) × (histories s.id ≡ Some h) × IsHistoryOf s h
  history_of s has = by_option (histories s.id) (λ none. absurd (without s.id none s has refl)) (λ h at.
      let f = found s.id h at in
      let same : f.s ≡ s = same_Some f.s s (sym (place_of r.stations.items f.s f.has) ∙ ap (slice_get r.stations.items) (one_place r.stations.items can.rising f.s s f.has has f.id) ∙ place_of r.stations.items s has) in
      (h, at, subst (λ (t : Station D). IsHistoryOf t h) same (of_found s.id h f)))

  owner_of : (s : Station D) → Contains r.stations.items s → (base_of_station s).volume.began.owner ≡ s.id
  owner_of s has = (All-contains (λ t. IsStation t) r.stations.items s can.stations has).id

  open_base : (s : Station D) → Contains r.stations.items s → IsOpenBase config r.shared out (base_of_station s)
  open_base s has = All-contains (λ t. IsOpenBase config r.shared out (base_of_station t)) r.stations.items s can.bases has

  -- a part that came back with a fault since opening did so since entry
  faulty_since : (v : ℕ) (view : List ℕ) (name : PartName) → IsTold (HasFaultyPart tells config v view name) bay.told new.told → IsTold (HasFaultyPart tells config v view name) old.told new.told
  faulty_since v view name told = told_then HasFaulty (HasFaultyPart tells config v view name) (HasFaultyPart tells config v view name) old.told bay.told new.told in_.faulty told (λ x y z had part. record {
    more = had.0 ++ part.more;
    more_is = part.more_is ∙ ap (λ (fs : List (Name × ℕ)). fs ++ part.more) had.1 ∙ append_assoc x.faulty had.0 part.more;
    conf = part.conf;
    conf_is = part.conf_is;
    among = Contains-append_right had.0 part.more (part.conf.name, place_in (part_named v name)) part.among;
    lies = part.lies;
  })

  run_of : (v : ℕ) (h : History) → histories v ≡ Some h → VolumeRun tells config v old new h
  run_of v h at =
      let f = found v h at in
      let view = (base_of_station f.s).volume.began.view in
      subst (VolumeRun tells config v old new) (sym f.is) (record {
        owner = owner_of f.s f.has ∙ f.id;
        opening = f.closed.opening;
        legal = f.closed.history;
        cause = λ broken. rose_before old.faults bay.faults new.faults in_.counts (f.closed.cause broken);
        part = λ broken.
            let p = f.closed.faulty broken in
            (p.0, p.1, subst (λ (n : ℕ). IsTold (HasFaultyPart tells config n view p.0) old.told new.told) f.id (faulty_since f.s.id view p.0 p.2));
      })

  -- ---- Images

  -- what is left of a station
  abbrev Leaves : (s : Station D) → Closed s → Told → Type 0
  Leaves s c exit = RecoversTo config out s c.entries exit
      × (IsUnbroken (history s c) → (last_look (history s c).base.look (history s c).notes).listed ≡ [] → LeavesNoLog config out s.id exit)

  leaves : (s : Station D) (c : Closed s) → IsTrue tells → IsTold (λ x y. Leaves s c y) bay.told new.told
  leaves s c telling = both bay.told new.told (c.recovers telling) (λ up empty. c.emptied telling up empty)
    where
      both : (o n : Option Told) → IsTold (λ x y. RecoversTo config out s c.entries y) o n
          → (IsUnbroken (history s c) → (last_look (history s c).base.look (history s c).notes).listed ≡ [] → IsTold (λ x y. LeavesNoLog config out s.id y) o n) → IsTold (λ x y. Leaves s c y) o n
      both None n is none = is
      both (Some o) None is none = is
      both (Some o) (Some n) is none = (is, none)

  module _ (entry exit : Told) (began : BeganWith state config entry r) (there : WereThere config out entry) (still : HadRefused config out entry exit) (parts : AreLeftOfParts state config r exit)
      (recovers : (s : Station D) (c : Closed s) → Leaves s c exit) where
    few : length (shapes_of config) ≤ 2 ^ 32
    few = let n = length-map config.volumes.items (shape_in config) in omega (arith, n, valid.count.1)

    not_here : (k : ℕ) → is_kept_home out k ≡ true → image_here out k ≡ None
    not_here k gone = none_or (image_here out k) (λ m e. cc (sym gone ∙ ap (λ (x : Option (ImageRest D)). not (is_some x)) e))

    begun_of : (v : ℕ) (h : History) → histories v ≡ Some h → WasBegun config (is_kept_home out) entry h
    begun_of v h at =
        let f = found v h at in
        let base = open_base f.s f.has in
        subst (WasBegun config (is_kept_home out) entry) (sym f.is) (record {
          own = ap not base.out;
          loggers = all_taken (base_of_station f.s).volume.began.view base.loggers_out;
          begun = All-contains (λ t. IsBegun config (images_taken config out entry) (base_of_station t).volume.began) r.stations.items f.s began.stations f.has;
        })
      where
        all_taken : (view : List ℕ) → AllByRecursion (IsImageOut out) view → AllByRecursion (λ l. is_kept_home out l ≡ false) view
        all_taken [] each = tt
        all_taken (l ∷ view) each = (ap not each.0, all_taken view each.1)

    module _ (images : Images) (left : AreLeft config exit images) where
      over : IsOver state config bay r entry exit images
      over = record { can = can; few = few; began = began; there = there; still = still; parts = parts; left = left }

      holds : (v : ℕ) (h : History) → histories v ≡ Some h → HoldsVolume config (is_kept_home out) h images
      holds v h at =
          let f = found v h at in
          let is = (recovers f.s f.closed).0 in
          let none = (recovers f.s f.closed).1 in
          let id = sym (owner_of f.s f.has) in
          let notes = notes_of f.closed.entries in
          let b = (base_of_station f.s).volume.began in
          let segments = all_segments (shapes_of config) (accepted (is_kept_home out) images) in
          subst (λ (x : History). HoldsVolume config (is_kept_home out) x images) (sym f.is) (record {
            array = subst (λ (w : ℕ). IsCut b.array (writes (entries_of notes)) (in_flight (entries_of notes)) (recovered_but (shapes_of config) (is_kept_home out) images w)) id (is.cut images left);
            distinct = subst (λ (w : ℕ). AreDistinct (covers_of (extents_of w segments))) id (is.distinct images left);
            listed = λ up. subst (λ (w : ℕ). AreListedOf (last_look b.look notes).listed (extents_of w segments)) id (is.listed images left up);
            on_loggers = λ up e has. subst (λ (w : ℕ). IsOnLogger (shapes_of config) images w b.view e) id (is.on_loggers images left up e has);
            emptied = λ up empty. subst (λ (w : ℕ). HasNoLog config (is_kept_home out) w images) id (λ k i z bs rs at taken here within log. none up empty images left k i z bs rs at (out_taken out k taken) here within log);
          })

      -- ---- Segments

      module _ (k i : ℕ) (v : VolumeConf) (before : Image) (at : slice_get config.volumes.items k ≡ Some v) (is : at_name v.name entry.images ≡ Some before) (within : i < v.segments) where
        abbrev Fate : List Block → Type 0
        Fate bs = SegmentFate (length (shapes_of config)) histories k (blocks_of_segment (shape_in config v) before i) bs

        may_be_used : (was : List Block) → HasHead (length (shapes_of config)) was Free ⊎ ((s : Station D) × Contains r.stations.items s × HasHead (length (shapes_of config)) was (Owned s.id)) ⊎ ((owner : ℕ) × (rs : List Record) × HasNothing owner rs was)
            → MayBeUsed (length (shapes_of config)) histories was
        may_be_used was (inl free) = inl (idle_of_free (length (shapes_of config)) was free)
        may_be_used was (inr (inl its)) = let h = history_of its.0 its.1 in inr (inl (its.0.id, h.0, h.1, its.2))
        may_be_used was (inr (inr nothing)) = inr (inr nothing)

        log_of_open : (s : Station D) → Contains r.stations.items s → Contains (base_of_station s).volume.began.view k → (bs : List Block) → IsLogOfStation s k bs → IsLogOfOpen histories k bs
        log_of_open s has view bs its =
            let h = history_of s has in
            let base = h.2.base in
            record {
              volume = s.id;
              history = h.0;
              opened = h.1;
              named = subst (λ b. Contains b.view k) (sym base) view;
              records = its.records;
              log = its.log;
              within = subst (λ b. AllByRecursion (λ (q : Record). q.head.first + q.head.count ≤ b.home_blocks) its.records) (sym base) its.within;
            }

        fate_of : (m : ImageRest D) → image_here out k ≡ Some m → (bs : List Block) → ComesFrom state r k i bs → Fate bs
        fate_of m here bs from = go from
          where
            gone : ((p : Spun D) → IsSegmentHere r.rest k i p → ⊥) → IsIdle bs ⊎ IsLogOfOpen histories k bs → Fate bs
            gone never now = let g = began.gone k i v before m at is here within never in used g.was g.had (may_be_used g.was g.said) now

            go : ComesFrom state r k i bs → Fate bs
            go (from_pool never idle) = gone never (inl idle)
            go (from_manager never s has view (inl idle) unbroken) = gone never (inl idle)
            go (from_manager never s has view (inr its) unbroken) = gone never (inr (log_of_open s has view bs its))
            go (from_here p place image) =
                let had = ⊎_elim (λ x. (began.left k v before x.0 at is x.1).segments i p x.2 bs image) (λ x. began.held x.0 k i v before p at is x.1 bs image) place in
                ⊎_elim
                (λ same. kept same)
                (λ less. ⊎_elim
                (λ log. bare less.0 had.0 less.1 less.2 less.3 (record { log = log; nothing = less.3.nothing }))
                (λ idle. used less.0 less.2 (inr (inr (had.0, less.1, less.3))) (inl idle))
                less.4)
                had.1

        fate : (blocks : List Block) → image_of images k ≡ Some blocks → Fate (segment_of (shape_in config v) blocks i)
        fate blocks here = by_option (image_here out k)
            (λ none.
            let may = subst (λ (c : Option (List Block)). MayLeave (at_name v.name entry.images) c) here (still k v at none (image_of images k) (may_at config exit images left k v at)) in
            let both = subst (λ (o : Option Image). MayLeave o (Some blocks)) is may in
            kept (image_slice before.blocks blocks (head_place (shape_in config v) i) (head_place (shape_in config v) (i + 1)) both.1))
            (λ m place.
            let x = parts images left k (shape_in config v) m (shape_at over k v at) place in
            let same : x.0 ≡ blocks = same_Some x.0 blocks (sym x.1 ∙ here) in
            subst (λ (c : List Block). Fate (segment_of (shape_in config v) c i)) same (fate_of m place (segment_of (shape_in config v) x.0 i) (x.2.segments i within)))

      -- label, view and home of a volume without a station
      home_kept : (v : ℕ) → IsClosed r v → KeepsHome config v entry images
      home_kept v closed conf before blocks at is here = go (is_kept_home out v) refl
        where
          go : (t : Bool) → is_kept_home out v ≡ t → IsImage (slice_range before.blocks 0 (2 + conf.home)) (slice_range blocks 0 (2 + conf.home))
          go true gone =
              let may = subst (λ (c : Option (List Block)). MayLeave (at_name conf.name entry.images) c) here (still v conf at (not_here v gone) (image_of images v) (may_at config exit images left v conf at)) in
              let both = subst (λ (o : Option Image). MayLeave o (Some blocks)) is may in
              image_slice before.blocks blocks 0 (2 + conf.home) both.1
          go false taken =
              let o = is_out over v conf at taken in
              let front = front_was over v conf at o in
              let now : o.now ≡ blocks = same_Some o.now blocks (sym o.now_is ∙ here) in
              let image : o.entered.image ≡ before = same_Some o.entered.image before (sym o.entered.there ∙ is) in
              subst (λ (i : Image). IsImage (slice_range i.blocks 0 (2 + conf.home)) (slice_range blocks 0 (2 + conf.home))) image
              (subst (IsImage (slice_range o.entered.image.blocks 0 (2 + conf.home))) (front.2.1 closed ∙ ap (λ (c : List Block). slice_range c 0 (2 + conf.home)) now) front.1)

      images_left : ImagesLeft config (is_kept_home out) histories entry images
      images_left = record {
        fronts = λ k lt taken. let (v, at) = some_at config.volumes.items k lt in front_left state config r r refl entry exit began there parts k v at (out_taken out k taken) images left;
        segments = λ k i v before blocks at is here within. fate k i v before at is within blocks here;
        opened = holds;
        there = λ k lt taken. let (v, at) = some_at config.volumes.items k lt in let o = is_out over k v at taken in (shape_in config v, o.now, shape_at over k v at, o.now_is, o.of_parts.sized);
        others = λ v none. closed_recovers over v (without v none);
        homes = λ v none. home_kept v (without v none);
      }

    bay_left : BayLeft config (is_kept_home out) histories entry exit
    bay_left = record {
      accepted_ = λ k v at taken. there k v at (out_taken out k taken);
      kept = λ k v at gone c may. still k v at (not_here k gone) c may;
      begun = begun_of;
      each = images_left;
    }

  -- ---- Pools

  -- where each volume was open, those began with the segments as the heads said
  pools_at : (views : ℕ → List ℕ) → KeepToViews views r → (entry : Told) → BeganWith state config entry r → WereThere config out entry → AreAllOpen config histories → ArePools config entry shared.pools
  pools_at views keep entry began there all k v at =
      let within = slice_get_within config.volumes.items k v at in
      let (l, lock) = some_at r.shared.pools.items k (let n = length-map config.volumes.items (shape_in config) in omega (arith, within, n, can.locks.pool_count)) in
      let (image, here) = a_value (image_here out k) (all_out k within) in
      record {
        holders = (lock_id l).base.holders;
        had = began.pools k v l image at lock here;
        legal = shared.legal k l lock;
        users = λ n never. shared.users k l lock views keep n (λ used. never (logger_had n used.0 used.1));
      }
    where
      at_home : (n : ℕ) → n < length config.volumes.items → (s : Station D) × Contains r.stations.items s × (s.id ≡ n)
      at_home n lt = let h = all n lt in let f = found n h.0 h.1 in (f.s, f.has, f.id)

      all_out : (n : ℕ) → n < length config.volumes.items → IsImageOut out n
      all_out n lt = let (s, has, id) = at_home n lt in subst (IsImageOut out) (owner_of s has ∙ id) (open_base s has).out

      logger_had : (n : ℕ) → n < length config.volumes.items → Contains (views n) k → HadLogger config entry n k
      logger_had n lt names =
          let (s, has, id) = at_home n lt in
          let (w, conf) = some_at config.volumes.items n lt in
          let was = there n w conf (all_out n lt) in
          let b = (base_of_station s).volume.began in
          let begun = All-contains (λ t. IsBegun config (images_taken config out entry) (base_of_station t).volume.began) r.stations.items s began.stations has in
          let read : image_of (images_taken config out entry) n ≡ Some (reads was.0.blocks) = accepted_same (is_kept_home out) (images_read config entry) n (ap not (all_out n lt)) ∙ image_is_read config entry n w was.0 conf was.1 was.2 in
          let view : HasView (reads was.0.blocks) b.view = begun.view (reads was.0.blocks) (ap (image_of (images_taken config out entry)) (owner_of s has ∙ id) ∙ read) in
          let same : views s.id ≡ b.view = All-contains (λ t. views t.id ≡ (base_of_station t).volume.began.view) r.stations.items s keep.opened has in
          (w, conf, was.0, was.1, b.view, view, subst (λ (ids : List ℕ). Contains ids k) (ap views (sym id) ∙ same) names)

  pools_told : (views : ℕ → List ℕ) → KeepToViews views r → AreAllOpen config histories → (o b n : Option Told) → IfSome o (λ t. BeganWith state config t r) → IfSome o (λ t. WereThere config out t) → IsTold (HadRefused config out) o b → IsTold (HadRefused config out) b n → IsTold (λ entry exit. ArePools config entry shared.pools) o n
  pools_told views keep all None None n began there first then = then
  pools_told views keep all None (Some b) n began there first then = absurd (cc first)
  pools_told views keep all (Some t) None n began there first then = absurd first
  pools_told views keep all (Some t) (Some b) None began there first then = absurd then
  pools_told views keep all (Some t) (Some b) (Some n) began there first then = pools_at views keep t began there all

  left_told : (o b n : Option Told) → IfSome o (λ t. BeganWith state config t r) → IfSome o (λ t. WereThere config out t) → IsTold (HadRefused config out) o b → IsTold (HadRefused config out) b n → IsTold (λ x y. AreLeftOfParts state config r y) b n
      → ((s : Station D) (c : Closed s) → IsTold (λ x y. Leaves s c y) b n) → IsTold (BayLeft config (is_kept_home out) histories) o n
  left_told None None n began there first then parts recovers = then
  left_told None (Some b) n began there first then parts recovers = absurd (cc first)
  left_told (Some t) None n began there first then parts recovers = absurd first
  left_told (Some t) (Some b) None began there first then parts recovers = absurd then
  left_told (Some t) (Some b) (Some n) began there first then parts recovers = bay_left t n began there (λ k v at none c may. first k v at none c (then k v at none c may)) parts recovers

  -- the run
  pub rack_run : (IsTrue tells → IsTold (HadRefused config out) bay.told new.told) → (IsTrue tells → IsTold (λ x y. AreLeftOfParts state config r y) bay.told new.told) → IsTold (KeepsOthers config) bay.told new.told → bay.faults ≤ new.faults → RunsRack tells config old new r
  rack_run kept_on parts others later = record {
    run = record {
      refused = is_kept_home out;
      histories = histories;
      runs = run_of;
      left = λ telling. left_told old.told bay.told new.told (in_.began telling) (in_.there telling) (in_.kept telling) (kept_on telling) (parts telling) (λ s c. leaves s c telling);
      others = told_then (KeepsOthers config) (KeepsOthers config) (KeepsOthers config) old.told bay.told new.told in_.others others (λ x y z first then name not. then name not ∙ first name not);
      counts = let sooner = in_.counts in omega (arith, sooner, later);
    };
    refused = refl;
    of = history_of;
    only = λ v h at. let f = found v h at in (f.s, f.has, f.id, of_found v h f);
    pools = λ views keep. record {
      pools = shared.pools;
      are_pools = λ telling all. pools_told views keep all old.told bay.told new.told (in_.began telling) (in_.there telling) (in_.kept telling) (kept_on telling);
      passed = λ v h at. each_in (PassesEmpty shared.pools) r.stations.items volumes shared.passed v h at;
      taken = λ v h at. each_in (TakesFew shared.pools) r.stations.items volumes shared.taken v h at;
    };
  }

-- ---- Where no volume is open

abbrev pub no_history : Histories
no_history v = None

-- no history was made
pub run_of_none : (tells : Bool) (config : Config) (old new : BayState) (refused : ℕ → Bool) → (IsTrue tells → IsTold (BayLeft config refused no_history) old.told new.told) → IsTold (KeepsOthers config) old.told new.told → old.faults ≤ new.faults → QuietRun tells config old new
run_of_none tells config old new refused left others counts = record {
  run = record { refused = refused; histories = no_history; runs = λ v h at. absurd (none-some h at); left = left; others = others; counts = counts };
  quiet = λ v h at. absurd (none-some h at);
}

-- no image may be left that might not have been before
pub left_of_less : (config : Config) (old new : Told) → ((name : Name) (c : Option (List Block)) → MayLeave (at_name name new.images) c → MayLeave (at_name name old.images) c) → BayLeft config (λ k. true) no_history old new
left_of_less config old new less = record {
  accepted_ = λ k v at is. absurd (cc is);
  kept = λ k v at is c may. less v.name c may;
  begun = λ v h at. absurd (none-some h at);
  each = λ images left. record {
    fronts = λ k lt is. absurd (cc is);
    segments = λ k i v before blocks at is here lt.
        let may = subst (λ (c : Option (List Block)). MayLeave (at_name v.name old.images) c) here (less v.name (image_of images k) (may_at config new images left k v at)) in
        let both = subst (λ (o : Option Image). MayLeave o (Some blocks)) is may in
        kept (image_slice before.blocks blocks (head_place (shape_in config v) i) (head_place (shape_in config v) (i + 1)) both.1);
    opened = λ v h at. absurd (none-some h at);
    there = λ k lt is. absurd (cc is);
    homes = λ v none conf before blocks at is here.
        let may = subst (λ (c : Option (List Block)). MayLeave (at_name conf.name old.images) c) here (less conf.name (image_of images v) (may_at config new images left v conf at)) in
        let both = subst (λ (o : Option Image). MayLeave o (Some blocks)) is may in
        image_slice before.blocks blocks 0 (2 + conf.home) both.1;
    others = λ v none. (images, record { count = left.count; each = λ k d lt. less (slice_index_or config.volumes.items k d).name (image_of images k) (left.each k d lt) }, refl);
  };
}
