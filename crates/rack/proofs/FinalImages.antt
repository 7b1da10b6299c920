-- The images that a crash leaves of a rack that was closed, by its parts.
use Rattle.rack.proofs.ClosingBasics.{◌≡◌, ◌≢◌, ◌<◌, ◌≤◌, ◌^◌, ◌⊎◌, inl, inr, ℕ, zero, suc, Bool, List, [], ◌∷◌, length, map, Option, Some, None, is_some, not, refl, sym, ap, ◌∙◌, subst, arith}
use Rattle.rack.proofs.ClosingBasics.{⊎_elim, ◌++◌, take, option_and_then, Contains, IsTrue, slice_get, unwrap_or, All, AllByRecursion, cases_eq, cases_lt, none-some, same_Some, slice_get_past}
use Rattle.rack.proofs.ClosingBasics.{All-contains, Contains-append_cases}
use Rattle.rack.proofs.ClosingTerms.{Block, State, IsImageOf, Told, BayState, Shape, Images, image_of, home_in, segment_of, all_segments, Listed, listed_in, Record, IsLog, after, Write}
use Rattle.rack.proofs.ClosingTerms.{AreDistinct, covers_of, flight_of, IsCut, extents_in, extents_of, recovered, Look, entries_of, last_look, Held, IsSoundOf, Config, state_of, volume_of, Spun}
use Rattle.rack.proofs.ClosingTerms.{part_of, logger_of, held_in, HeldSegment, Lane, all_held, notes_of, ManagerBase, Station, shapes_of, AreLeft, images_read, IsForeign, AreListedOf, IsOnLogger}
use Rattle.rack.proofs.ClosingTerms.{segments_out, recovered_out, IsQuiet, is_kept_home, image_here, segment_here, held_here, away_with, IsImageOut, IsSegmentHere, indexes_here, list_of}
use Rattle.rack.proofs.ClosingTerms.{IsOpenBase, base_of_station, HasBack, held_parts, Closing, IsClosing, KeepsButHome, GivesBack, ImageRest, Rack, Rest, VolumePasses, IsBegun, images_taken}
use Rattle.rack.proofs.ClosingTerms.{BeganWith, IsIdle, accepted, writes, whole, torn}
use Rattle.wol_model.specs.Images.{recovered_from}
use Rattle.wol_model.proofs.Overlay.{after_none}
use Rattle.manager.specs.declared.manager.Manager.{Manager}
use Rattle.rack_parts.proofs.Members.{first_in, later_in, here_within, of_map, in_map, none_in, is_member}
use Rattle.rack_parts.proofs.ManagerBack.{is_lane_of, lanes_with, with_lane}
use Rattle.rack.proofs.StationParts.{few_volumes, IsEnding, one_place, is_base, is_station, id_of, image_end, shape_of_image, same_out, was_there, rests_end, segment_end}
use Rattle.rack.proofs.StationParts.{index_within, closing_of, manager_of, entries_of_station, is_closing, home_there, lane_there, of_seen, says_owner}
use Rattle.rack.proofs.HeldSegments.{no_log, no_log_of_other, not_idle, each_held}
use Rattle.rack.proofs.StationRecovers.{blocks_in, IsThereNow, AreLeftNow, cut_now, whole_now, distinct_now, listed_now, on_loggers_now, sound_now}
use Rattle.rack.proofs.Unbroken.{unflown, unwritten}
pub use Rattle.rack.proofs.LeftImage.{volume_at, IsLeftNow, left_image, accepted_at}
use Rattle.rack.proofs.LeftImage.{accepted_same, accepted_is, out_taken}

-- ---- Where a segment that is left comes from

-- a lane that is away is that of a station, and none of the others
pub station_with : {D : Type 0} (ts : List (Station D)) (w k : ℕ) → ((t : Station D) × Contains ts t × (w ≡ (base_of_station t).volume.began.owner) × Contains (base_of_station t).volume.began.view k)
    ⊎ (Contains (away_with (map (λ (t : Station D). base_of_station t) ts)).lanes (w, k) → ⊥)
station_with [] w k = inr (λ has. none_in (w, k) has)
station_with {D} (t ∷ ts) w k = ⊎_elim
    (λ x. inl (t, first_in t t ts refl, x.0, x.1))
    (λ never. ⊎_elim
    (λ y. inl (y.0, later_in t y.0 ts y.1, y.2, y.3))
    (λ none. inr (λ has. ⊎_elim
    (λ mine. let x = with_lane (base_of_station t) w k mine in never x.0 x.1)
    none
    (Contains-append_cases (lanes_with (base_of_station t)) (away_with (map (λ (u : Station D). base_of_station u) ts)).lanes (w, k) has)))
    (station_with ts w k))
    (is_lane_of (base_of_station t) w k)

module _ {D : Type 0} {state : D → State} {tells : Bool} {config : Config} {b : BayState} {r : Rack D} {first second : Rest D} (ending : IsEnding state tells config b r first second) where
  open ending use {can, is, closed, filled, kept}

  abbrev bases : List ManagerBase
  bases = map (λ (t : Station D). base_of_station t) r.stations.items

  -- these blocks are left of a segment that was here, of a manager's, or of a free one of its pool
  pub data Origin (k i : ℕ) (bs : List Block) : Type 0 where
    was_here : (p : Spun D) → IsSegmentHere r.rest k i p → IsForeign state bases p → IsImageOf (state_of state p).values bs → Origin k i bs
    of_station : (t : Station D) (x : Contains r.stations.items t) (l : Lane D) (h : HeldSegment D) → Contains (manager_of ending t x).lanes.items l → logger_of l ≡ k → Contains (held_in l) h → h.index ≡ i → IsImageOf (state_of state (part_of h.segment)).values bs → Origin k i bs
    was_pooled : IsIdle bs → Origin k i bs

  module _ (k i : ℕ) (p : Spun D) (bs : List Block) (is_image : IsImageOf (state_of state p).values bs) where
    -- a segment in a list of a lane
    listed_origin : (w : ℕ) → Contains (held_here first w k) (i, p) → Origin k i bs
    listed_origin w has = ⊎_elim
        (λ x.
        let t = x.0 in
        let m = manager_of ending t x.1 in
        let ic = is_closing ending t x.1 in
        let l = of_map logger_of m.lanes.items k (subst (λ xs. Contains xs k) (sym ic.stands.keeps.locks.view) x.3) in
        let back = All-contains (HasBack first t.id) m.lanes.items l.0 ic.back l.1 in
        let list : held_here first w k ≡ held_parts l.0 = ap (λ n. held_here first n k) (x.2 ∙ id_of ending t x.1) ∙ ap (held_here first t.id) (sym l.2) ∙ back.held in
        let h = of_map (λ (h : HeldSegment D). (h.index, part_of h.segment)) (held_in l.0) (i, p) (subst (λ xs. Contains xs (i, p)) list has) in
        of_station t x.1 l.0 h.0 l.1 l.2 h.1 (ap (λ (e : ℕ × Spun D). e.0) h.2) (subst (λ (n : Spun D). IsImageOf (state_of state n).values bs) (sym (ap (λ (e : ℕ × Spun D). e.1) h.2)) is_image))
        (λ away. let there = subst (λ xs. Contains xs (i, p)) (closed.held w k away) has in was_here p (inr (w, there)) (can.foreign.held w k i p there) is_image)
        (station_with r.stations.items w k)

    -- one that was here all the time
    here_origin : (q : ImageRest D) → image_here first.images.items k ≡ Some q → segment_here q i ≡ Some p → (o : Option (ImageRest D)) → image_here r.rest.images.items k ≡ o → KeepsButHome o (image_here first.images.items k) → Origin k i bs
    here_origin q was there None e x = absurd (none-some q (sym x ∙ was))
    here_origin q was there (Some n) e x =
        let same : q ≡ record n { home = q.home } = subst (λ o. KeepsButHome (Some n) o) was x in
        let at : segment_here n i ≡ Some p = sym (ap (λ (m : ImageRest D). segment_here m i) same) ∙ there in
        was_here p (inl (n, e, at)) (can.foreign.places k i n p e at) is_image

    origin : (q : ImageRest D) → image_here second.images.items k ≡ Some q → segment_here q i ≡ Some p → Origin k i bs
    origin q here at =
        let was = was_there ending k q here in
        ⊎_elim
        (λ there. here_origin was.0 was.1 there (image_here r.rest.images.items k) refl (closed.images k))
        (λ more. ⊎_elim (λ w. listed_origin w.0 w.1) (λ blank. was_pooled (blank.idle bs is_image)) more)
        (was.2.only i p at)

-- The rack's images went back, and a crash leaves these of them.
pub record IsCrash {D : Type 0} (state : D → State) (tells : Bool) (config : Config) (b : BayState) (r : Rack D) (first second : Rest D) (old new : Told) (images : Images) : Type 0 where
  pub ending : IsEnding state tells config b r first second
  pub told : IsTrue tells
  pub given : GivesBack state config second.images.items 0 old new
  pub left : AreLeft config new images

module _ {D : Type 0} {state : D → State} {tells : Bool} {config : Config} {b : BayState} {r : Rack D} {first second : Rest D} {old new : Told} {images : Images} (crash : IsCrash state tells config b r first second old new images) where
  open crash use {ending, told, given, left, ending.{can, is, closed, kept, sound, tell_all}}

  -- the image of a volume whose parts went back
  pub left_now : (k : ℕ) (z : Shape) (q : ImageRest D) → slice_get (shapes_of config) k ≡ Some z → image_here second.images.items k ≡ Some q → (c : List Block) × (image_of images k ≡ Some c) × IsLeftNow state z q c
  left_now k z q at here = left_image state (tell_all told) sound config new images left k z q at ((rests_end ending).1 k z q at here) given.more (λ v of. given.back k v q (omega arith) of here)

  pub left_out : (k : ℕ) (z : Shape) (c : List Block) → slice_get (shapes_of config) k ≡ Some z → IsImageOut r.rest.images.items k → image_of images k ≡ Some c → (q : ImageRest D) × (image_here second.images.items k ≡ Some q) × IsLeftNow state z q c
  left_out k z c at out image =
      let q = image_end ending k out in
      let x = left_now k z q.0 at q.1 in
      (q.0, q.1, subst (λ d. IsLeftNow state z q.0 d) (same_Some x.0 c (sym x.1 ∙ image)) x.2)

  -- each of its segments has an origin
  pub left_origin : (k i : ℕ) (z : Shape) (q : ImageRest D) (c : List Block) → slice_get (shapes_of config) k ≡ Some z → image_here second.images.items k ≡ Some q → IsLeftNow state z q c → i < z.segments → Origin ending k i (segment_of z c i)
  left_origin k i z q c at here now within = let p = segment_end ending k i z q at here within in origin ending k i p.0 (segment_of z c i) (now.segments i p.0 p.1) q here p.1

  -- a volume's number is small
  pub owner_small : (t : Station D) → Contains r.stations.items t → (base_of_station t).volume.began.owner < 2 ^ 32
  owner_small t x =
      let q = image_end ending (base_of_station t).volume.began.owner (is_base ending t x).out in
      let within = here_within second.images.items (base_of_station t).volume.began.owner q.0 q.1 in
      omega (arith, within, kept.image_count, is.parts.images.0, few_volumes ending)

  -- ---- What is left of one station

  abbrev taken : Images
  taken = accepted (is_kept_home r.rest.images.items) images

  taken_there : (k : ℕ) (q : ImageRest D) → image_here second.images.items k ≡ Some q → image_of taken k ≡ image_of images k
  taken_there k q here = accepted_same (is_kept_home r.rest.images.items) images k (ap not (sym (same_out ending k) ∙ ap is_some here))

  module _ (s : Station D) (has : Contains r.stations.items s) where
    abbrev base : ManagerBase
    base = base_of_station s

    abbrev owner : ℕ
    owner = base.volume.began.owner

    abbrev m : Manager D
    m = manager_of ending s has

    abbrev notes : List Rattle.wol_promise.specs.Ruled.Noted
    notes = notes_of (entries_of_station ending s has)

    abbrev ic : IsClosing tells state first s (closing_of ending s has).0
    ic = is_closing ending s has

    open_base : IsOpenBase config r.shared r.rest.images.items base
    open_base = is_base ending s has

    abbrev home : List Block
    home = home_in (slice_get (shapes_of config) owner) (image_of images owner)

    -- home as it was closed
    home_left : IsImageOf (state_of state m.home).values home
    home_left =
        let q = home_there ending s has in
        let z = shape_of_image ending owner q.0 q.1 in
        let x = left_now owner z.0 q.0 z.1 q.1 in
        subst (λ bs. IsImageOf (state_of state m.home).values bs) (sym (λ i. home_in (z.1 i) (x.1 i))) (x.2.home m.home q.2)

    abbrev IsThere : Held (Spun D) → Type 0
    IsThere h = IsThereNow tells state told m base notes ic.stands.keeps open_base.apart (shapes_of config) taken home h

    there_now : (i : ℕ) (l : Lane D) (h : HeldSegment D) (rs : List Record) (broken : Bool) → Contains m.lanes.items l → Contains (held_in l) h → IsThere (record { part = part_of h.segment; lane = i; index = h.index; broken = broken; records = rs })
    there_now i l h rs broken in_lanes in_held =
        let t = lane_there ending s has l h in_lanes in_held in
        let z = shape_of_image ending (logger_of l) t.1 t.2 in
        let x = left_now (logger_of l) z.0 t.1 z.1 t.2 in
        record {
          shape = z.0;
          image = x.0;
          shape_is = subst (λ k. slice_get (shapes_of config) k ≡ Some z.0) (sym t.0) z.1;
          image_is = subst (λ k. image_of taken k ≡ Some x.0) (sym t.0) (taken_there (logger_of l) t.1 t.2 ∙ x.1);
          within = index_within ending (logger_of l) h.index z.0 t.1 (part_of h.segment) z.1 t.2 t.3;
          left = x.2.segments h.index (part_of h.segment) t.3;
        }

    -- a log of the volume is left only of a segment that its manager had
    pub only_held : (k i : ℕ) (bs : List Block) → Origin ending k i bs → ((l : Lane D) (h : HeldSegment D) → Contains m.lanes.items l → logger_of l ≡ k → Contains (held_in l) h → h.index ≡ i → ⊥) → (rs : List Record) → IsLog bs owner rs → ⊥
    only_held k i bs (was_here p there foreign im) never rs log = foreign (tell_all told) bs base rs im (in_map (λ (t : Station D). base_of_station t) r.stations.items s has) log
    only_held k i bs (was_pooled idle) never rs log = not_idle owner bs rs idle log
    only_held k i bs (of_station t x l h in_lanes logger in_held index im) never rs log = ⊎_elim
        (λ (e : x.0 ≡ has.0).
        let same = same_Some (closing_of ending t x).0 (closing_of ending s has).0 (sym (closing_of ending t x).1 ∙ ap (slice_get closed.closings) e ∙ (closing_of ending s has).1) in
        never l h (subst (λ (c : Closing D). Contains c.manager.lanes.items l) same in_lanes) logger in_held index)
        (λ (differs : x.0 ≢ has.0).
        no_log_of_other owner (base_of_station t).volume.began.owner bs rs (owner_small t x) (λ e. differs (sym (one_place r.stations.items can.rising s t has x (sym (id_of ending s has) ∙ e ∙ id_of ending t x))))
        (says_owner ending t x told l h in_lanes in_held bs im) log)
        (cases_eq x.0 has.0)

    other_now : (k i : ℕ) (z : Shape) (bs : List Block) → slice_get (shapes_of config) k ≡ Some z → image_of taken k ≡ Some bs → i < z.segments
        → AllByRecursion (λ (h : Held (Spun D)). ◌≢◌ {A = ℕ × ℕ} (volume_of h.part, h.index) (k, i)) (all_held 0 m.lanes.items ic.stands.keeps.logs) → extents_in owner (segment_of z bs i) ≡ []
    other_now k i z bs at image within never =
        let x = accepted_is (is_kept_home r.rest.images.items) images k bs image in
        let q = left_out k z bs at (out_taken r.rest.images.items k x.0) x.1 in
        no_log owner (segment_of z bs i) (only_held k i (segment_of z bs i) (left_origin k i z q.0 bs at q.1 q.2 within)
        (λ l h in_lanes logger in_held index. of_seen ending s has (λ (g : Held (Spun D)). ◌≢◌ {A = ℕ × ℕ} (volume_of g.part, g.index) (k, i)) ⊥ never l h in_lanes in_held
        (λ j rs broken x. let v = (lane_there ending s has l h in_lanes in_held).0 in x (λ e. ((v ∙ logger) e, index e)))))

    are_left : AreLeftNow tells state told m base notes ic.stands.keeps open_base.apart (shapes_of config) taken home
    are_left = record {
      sized = λ k z bs at image. let x = accepted_is (is_kept_home r.rest.images.items) images k bs image in (left_out k z bs at (out_taken r.rest.images.items k x.0) x.1).2.size;
      home_left = home_left;
      each = each_held IsThere 0 m.lanes.items ic.stands.keeps.logs there_now;
      others = other_now;
    }

    -- what it recovers to
    pub cut_left : IsCut base.volume.began.array (writes (entries_of notes)) (unwrap_or (flight_of (entries_of notes)) []) (recovered_out config r.rest.images.items images s.id)
    cut_left =
        subst (λ (v : ℕ). IsCut base.volume.began.array (writes (entries_of notes)) (unwrap_or (flight_of (entries_of notes)) []) (recovered_out config r.rest.images.items images v)) (id_of ending s has)
        (cut_now tells state told m base notes ic.stands.keeps open_base.apart (shapes_of config) taken home are_left)

    pub whole_left : flight_of (entries_of notes) ≡ None → recovered_out config r.rest.images.items images s.id ≡ after base.volume.began.array (writes (entries_of notes))
    whole_left up =
        subst (λ (v : ℕ). recovered_out config r.rest.images.items images v ≡ after base.volume.began.array (writes (entries_of notes))) (id_of ending s has)
        (whole_now tells state told m base notes ic.stands.keeps open_base.apart (shapes_of config) taken home are_left up)

    pub distinct_left : AreDistinct (covers_of (extents_of s.id (segments_out config r.rest.images.items images)))
    distinct_left =
        subst (λ (v : ℕ). AreDistinct (covers_of (extents_of v (segments_out config r.rest.images.items images)))) (id_of ending s has)
        (distinct_now tells state told m base notes ic.stands.keeps open_base.apart (shapes_of config) taken home are_left)

    look : listed_in m.index.entries ≡ (last_look base.volume.began.look notes).listed
    look = sym (ap (λ (k : Look). k.listed) ic.stands.look)

    -- the records that keep a block in them are those that its last look lists, where nothing broke
    pub listed_left : flight_of (entries_of notes) ≡ None → AreListedOf (last_look base.volume.began.look notes).listed (extents_of s.id (segments_out config r.rest.images.items images))
    listed_left up =
        subst (λ (v : ℕ). AreListedOf (last_look base.volume.began.look notes).listed (extents_of v (segments_out config r.rest.images.items images))) (id_of ending s has)
        (subst (λ (es : List Listed). AreListedOf es (extents_of owner (segments_out config r.rest.images.items images))) look
        (listed_now tells state told m base notes ic.stands.keeps open_base.apart (shapes_of config) taken home are_left up))

    -- and lie on their lanes' loggers
    pub on_loggers_left : flight_of (entries_of notes) ≡ None → (e : Listed) → Contains (last_look base.volume.began.look notes).listed e → IsOnLogger (shapes_of config) images s.id base.volume.began.view e
    on_loggers_left up e listed =
        let o = on_loggers_now tells state told m base notes ic.stands.keeps open_base.apart (shapes_of config) taken home are_left up e (subst (λ (es : List Listed). Contains es e) (sym look) listed) in
        record {
          its = o.its;
          image = o.image;
          there = (accepted_is (is_kept_home r.rest.images.items) images o.logger o.image o.there).1;
          index = o.index;
          within = o.within;
          records = o.records;
          log = subst (λ (v : ℕ). IsLog (segment_of o.shape o.image o.index) v o.records) (id_of ending s has) o.log;
          record_ = o.record_;
          among = o.among;
          is_its = o.is_its;
        }

    -- each of its segments is sound
    pub sound_left : (l : Lane D) (h : HeldSegment D) → Contains m.lanes.items l → Contains (held_in l) h → (z : Shape) (bs : List Block) → slice_get (shapes_of config) (logger_of l) ≡ Some z → image_of images (logger_of l) ≡ Some bs
        → IsSoundOf owner base.volume.began.home_blocks (segment_of z bs h.index)
    sound_left l h in_lanes in_held z bs at image =
        let t = lane_there ending s has l h in_lanes in_held in
        let same : blocks_in (slice_get (shapes_of config) (volume_of (part_of h.segment))) (image_of taken (volume_of (part_of h.segment))) h.index ≡ segment_of z bs h.index
        = ap (λ (k : ℕ). blocks_in (slice_get (shapes_of config) k) (image_of taken k) h.index) t.0 ∙ (λ j. blocks_in (at j) ((taken_there (logger_of l) t.1 t.2 ∙ image) j) h.index) in
        of_seen ending s has (λ (g : Held (Spun D)). IsSoundOf owner base.volume.began.home_blocks (blocks_in (slice_get (shapes_of config) (volume_of g.part)) (image_of taken (volume_of g.part)) g.index)) (IsSoundOf owner base.volume.began.home_blocks (segment_of z bs h.index))
        (sound_now tells state told m base notes ic.stands.keeps open_base.apart (shapes_of config) taken home are_left) l h in_lanes in_held
        (λ i rs broken x. subst (IsSoundOf owner base.volume.began.home_blocks) same x)

-- Whether a segment of an image that is out is here.

module _ {D : Type 0} (r : Rest D) (k i : ℕ) where
  -- among the lists of the first lanes
  is_listed : (n : ℕ) → ((w : ℕ) × Contains (indexes_here r w k) i) ⊎ ((w : ℕ) → w < n → Contains (indexes_here r w k) i → ⊥)
  is_listed zero = inr (λ w lt. absurd (omega (arith, lt)))
  is_listed (suc n) = ⊎_elim
      (λ has. inl (n, has))
      (λ never. ⊎_elim
      (λ found. inl found)
      (λ none. inr (λ w lt has. ⊎_elim (λ (less : w < n). none w less has) (λ (past : n ≤ w). never (subst (λ (x : ℕ). Contains (indexes_here r x k) i) (let e : w ≡ n = omega (arith, lt, past) in e) has)) (cases_lt w n)))
      (is_listed n))
      (is_member (indexes_here r n k) i)

  -- some segment is here at a place of an image that is out, or none is
  pub here_or_not : (m : ImageRest D) → image_here r.images.items k ≡ Some m → ((p : Spun D) × IsSegmentHere r k i p) ⊎ ((p : Spun D) → IsSegmentHere r k i p → ⊥)
  here_or_not m here = by_place (segment_here m i) refl
    where
      past : (w : ℕ) (p : Spun D) → length r.passes.items ≤ w → Contains (held_here r w k) (i, p) → ⊥
      past w p le has =
          let none : held_here r w k ≡ [] = ap (λ (o : Option (VolumePasses D)). list_of (option_and_then (λ (q : VolumePasses D). slice_get q.held.items k) o)) (slice_get_past r.passes.items w le) in
          none_in (i, p) (subst (λ (l : List (ℕ × Spun D)). Contains l (i, p)) none has)

      by_list : segment_here m i ≡ None → ((w : ℕ) × Contains (indexes_here r w k) i) ⊎ ((w : ℕ) → w < length r.passes.items → Contains (indexes_here r w k) i → ⊥)
          → ((p : Spun D) × IsSegmentHere r k i p) ⊎ ((p : Spun D) → IsSegmentHere r k i p → ⊥)
      by_list empty (inl x) = let h = of_map (λ (y : ℕ × Spun D). y.0) (held_here r x.0 k) i x.1 in inl (h.0.1, inr (x.0, subst (λ (n : ℕ). Contains (held_here r x.0 k) (n, h.0.1)) h.2 h.1))
      by_list empty (inr never) =
          inr (λ p is. ⊎_elim
          (λ x. none-some p (sym empty ∙ ap (λ (y : ImageRest D). segment_here y i) (same_Some m x.0 (sym here ∙ x.1)) ∙ x.2))
          (λ x. ⊎_elim (λ (less : x.0 < length r.passes.items). never x.0 less (in_map (λ (y : ℕ × Spun D). y.0) (held_here r x.0 k) (i, p) x.1)) (λ (le : length r.passes.items ≤ x.0). past x.0 p le x.1) (cases_lt x.0 (length r.passes.items)))
          is)

      by_place : (o : Option (Spun D)) → segment_here m i ≡ o → ((p : Spun D) × IsSegmentHere r k i p) ⊎ ((p : Spun D) → IsSegmentHere r k i p → ⊥)
      by_place (Some p) e = inl (p, inl (m, here, e))
      by_place None e = by_list e (is_listed (length r.passes.items))

-- What is left of open volumes to which nothing was written.

pub array_out : {D : Type 0} (config : Config) (out : List (Option (ImageRest D))) (images : Images) (v : ℕ) → IsImageOut out v → recovered_from (shapes_of config) (accepted (is_kept_home out) images) v ≡ recovered_out config out images v
unfolding recovered_from
array_out config out images v is_out =
    ap (λ (i : Option (List Block)). recovered v (home_in (slice_get (shapes_of config) v) i) (all_segments (shapes_of config) (accepted (is_kept_home out) images))) (accepted_same (is_kept_home out) images v (ap not is_out))

-- the only cut of nothing is the array
pub cut_none : (a : List Block) (ws flight : List Write) (x : List Block) → ws ≡ [] → flight ≡ [] → IsCut a ws flight x → x ≡ a
cut_none a ws flight x none empty (whole k few is) =
    let first : k ≡ 0 = (let long = ap length empty in omega (arith, few, long)) in
    is ∙ ap (λ (m : ℕ). after a (ws ++ take m flight)) first ∙ ap (λ (vs : List Write). after a (vs ++ [])) none ∙ after_none a
cut_none a ws flight x none empty (torn w one version blend) = absurd (cc (sym empty ∙ one))

pub left_quiet : {D : Type 0} {state : D → State} {tells : Bool} {config : Config} {b : BayState} {r : Rack D} {first second : Rest D} {old new : Told} {images : Images} (crash : IsCrash state tells config b r first second old new images)
    (entry : Told) → BeganWith state config entry r → All (λ s. IsQuiet s) r.stations.items → (s : Station D) → Contains r.stations.items s
    → recovered_out config r.rest.images.items images s.id ≡ recovered_out config r.rest.images.items (images_read config entry) s.id
left_quiet {config} {r} {images} crash entry began quiet s has =
    let station = is_station crash.ending s has in
    let whole = (is_closing crash.ending s has).whole in
    let es = entries_of_station crash.ending s has in
    let hush = All-contains (λ t. IsQuiet t) r.stations.items s quiet has in
    let begun = All-contains (λ t. IsBegun config (images_taken config r.rest.images.items entry) (base_of_station t).volume.began) r.stations.items s began.stations has in
    cut_none (base_of_station s).volume.began.array (writes (entries_of (notes_of es))) _ (recovered_out config r.rest.images.items images s.id) (unwritten s es station whole hush) (unflown s es station whole hush) (cut_left crash s has)
    ∙ begun.array ∙ array_out config r.rest.images.items (images_read config entry) (base_of_station s).volume.began.owner (is_base crash.ending s has).out
    ∙ ap (λ (v : ℕ). recovered_out config r.rest.images.items (images_read config entry) v) station.id
