-- What closing a rack leaves: what each part comes from, and what every volume recovers to.
use Rattle.rack.proofs.ClosingBasics.{◌≡◌, ◌<◌, ◌≤◌, ◌+◌, ◌⊎◌, inl, inr, ℕ, Bool, List, [], length, map, Option, Some, None, refl, sym, ap, ◌∙◌, subst, arith, ⊎_elim, ◌∷◌, ◌≢◌, ◌^◌, true, false}
use Rattle.rack.proofs.ClosingBasics.{not, eqb, option_map, is_some, option_and_then, Contains, slice_get, slice_index_or, IsTrue, slice_range, All, cases_lt, cases_eq, eqb-true, eq-eqb}
use Rattle.rack.proofs.ClosingBasics.{none-some, slice_get_past, slice_get-get_or, same_Some, slice_get-map, AllByRecursion, length-map, All-contains}
use Rattle.rack.proofs.ClosingTerms.{State, Block, IsImageOf, Values, IsImage, reads, image_reads, BayState, Told, Image, at_name, Shape, Images, image_of, segment_of, home_in}
use Rattle.rack.proofs.ClosingTerms.{recovered_from, segments_of, Record, IsNamed, IsIdle, IsLog, LiesInHome, IsSoundOf, Config, VolumeConf, state_of, Spun, part_of, logger_of, held_in}
use Rattle.rack.proofs.ClosingTerms.{HeldSegment, Lane, ManagerBase, Part, Station, may_be, shapes_of, AreLeft, shape_in, image_read, images_read, MayLeave, image_here, segment_here, held_here}
use Rattle.rack.proofs.ClosingTerms.{pool_pass, away_with, IsSegmentHere, IsImageOut, IsClosable, base_of_station, GivesBack, KeepsButHome, HasFaultHere, home_here, HasFaultAt, HasFaultIn}
use Rattle.rack.proofs.ClosingTerms.{IsFaultyPart, IsNamedHere, ComesFrom, from_here, from_pool, from_manager, IsLogOfStation, IsUnbroken, IsLeftOfParts, IsQuiet, has_station, is_kept_home}
use Rattle.rack.proofs.ClosingTerms.{ImageRest, Rack, Rest, VolumePasses, BeganWith, WereThere, HadRefused, IsBegun, RecoversSame, WasOpened, images_taken, AreLeftOfParts, IsStation}
use Rattle.rack.proofs.ClosingTerms.{ReadsAreLeft, recovered_but}
use Rattle.std.proofs.lemmas.List.Folds.{Any-from_list_any, list_any_at}
use Rattle.wol_promise.specs.Stands.{idle, log}
use Rattle.rack_parts.proofs.Members.{is_there, in_map, of_map, none_in, here_within, a_value, is_member}
use Rattle.rack.proofs.StationParts.{IsEnding, few_volumes, is_station, id_of, is_base, image_end, same_out, was_there, manager_of, entries_of_station, is_closing, in_view, of_seen}
use Rattle.rack.proofs.FinalImages.{IsCrash, left_now, left_origin, was_here, was_pooled, of_station, Origin, sound_left, here_or_not, left_quiet, IsLeftNow}
use Rattle.rack.proofs.VolumesClosed.{part_at, segment_at_place, fault_here, fault_listed}
use Rattle.rack.proofs.SoundBefore.{IsClosed, Came, has_come, keeps_came, reads_among, at_front}
use Rattle.rack.proofs.KeptImages.{IsEntered, IsKeptImage, AreTwo, IsBefore, kept_before, before_same, before_all}
use Rattle.rack.proofs.SameRecovered.{picked, ArePicked, recovered_same, recovered_none}
use Rattle.rack.proofs.LeftImage.{read_cases, volume_at, read_here, may_at, out_taken}
use Rattle.rack.proofs.Places.{both_slices, slice_join}
use Rattle.rack.proofs.Cases.{none_or, some_or}
use Rattle.rack.proofs.HeldSegments.{not_idle}
use Rattle.rack.proofs.Unbroken.{unbroken}
use Rattle.rack.proofs.Names.{names_differ}
use Rattle.rack.proofs.KeptImages as pieces
use Rattle.manager.specs.declared.part.Part.TheVariants as part

-- The parts that were here when a rack was closed, among the images that go back.

module _ {D : Type 0} {state : D → State} {tells : Bool} {config : Config} {b : BayState} {r : Rack D} {first second : Rest D} (ending : IsEnding state tells config b r first second) where
  open ending use {valid, can, is, closed, filled, kept}

  -- an image that was out: what it is at the end
  pub record IsThrough (k : ℕ) (m q : ImageRest D) : Type 0 where
    pub here : image_here second.images.items k ≡ Some q
    pub label : q.label ≡ m.label
    pub home : (p : Spun D) → m.home ≡ Some p → q.home ≡ Some p
    pub segments : (i : ℕ) (p : Spun D) → IsSegmentHere r.rest k i p → segment_here q i ≡ Some p

  homes_kept : (k : ℕ) (m : ImageRest D) (p : Spun D) → image_here r.rest.images.items k ≡ Some m → m.home ≡ Some p → home_here first k ≡ Some p
  homes_kept k m p here home = closed.homes k away ∙ ap (λ (o : Option (ImageRest D)). option_and_then (λ j. j.home) o) here ∙ home
    where
      away : Contains (map (λ (t : Station D). t.id) r.stations.items) k → ⊥
      away has =
          let t = of_map (λ (t : Station D). t.id) r.stations.items k has in
          let bases = map (λ (u : Station D). base_of_station u) r.stations.items in
          let gone = in_map (λ (d : ManagerBase). d.volume.began.owner) bases (base_of_station t.0) (in_map (λ (u : Station D). base_of_station u) r.stations.items t.0 t.1) in
          (can.rest.parts.homes k m here).0 (is_there m.home p home) (subst (λ (j : ℕ). Contains (away_with bases).homes j) (id_of ending t.0 t.1 ∙ t.2) gone)

  lists_kept : (k v i : ℕ) (m : ImageRest D) (p : Spun D) → image_here r.rest.images.items k ≡ Some m → Contains (held_here r.rest v k) (i, p) → Contains (held_here first v k) (i, p)
  lists_kept k v i m p here has = subst (λ (xs : List (ℕ × Spun D)). Contains xs (i, p)) (sym (closed.held v k away)) has
    where
      holding : Rattle.rack_parts.specs.Rests.IsHolding r.rest v k i
      holding = can.rest.parts.returned.held v k i (in_map (λ (h : ℕ × Spun D). h.0) (held_here r.rest v k) (i, p) has)

      row : v < length r.rest.passes.items
      row = ⊎_elim
          (λ (less : v < length r.rest.passes.items). less)
          (λ (past : length r.rest.passes.items ≤ v).
          absurd (none-some holding.0 (sym (ap (λ (o : Option (VolumePasses D)). option_and_then (λ q. slice_index_or q.pools.items k None) o) (slice_get_past r.rest.passes.items v past)) ∙ holding.1)))
          (cases_lt v (length r.rest.passes.items))

      away : Contains (away_with (map (λ (u : Station D). base_of_station u) r.stations.items)).lanes (v, k) → ⊥
      away = let within = here_within r.rest.images.items k m here in
          (can.rest.parts.pools.here v k row (omega (arith, within, can.rest.parts.images.0, can.locks.pool_count))).0 (is_there (pool_pass r.rest v k) holding.0 holding.1)

  image_through : (k : ℕ) (m : ImageRest D) → image_here r.rest.images.items k ≡ Some m → (q : ImageRest D) × IsThrough k m q
  image_through k m here =
      let q = image_end ending k (is_there (image_here r.rest.images.items k) m here) in
      let was = was_there ending k q.0 q.1 in
      let same : was.0 ≡ record m { home = was.0.home } = subst (λ (o : Option (ImageRest D)). KeepsButHome (Some m) o) was.1 (subst (λ (o : Option (ImageRest D)). KeepsButHome o (image_here first.images.items k)) here (closed.images k)) in (
        q.0,
        record {
          here = q.1;
          label = was.2.same.label ∙ ap (λ (n : ImageRest D). n.label) same;
          home = λ p home. was.2.same.home ∙ sym (ap (λ (o : Option (ImageRest D)). option_and_then (λ j. j.home) o) was.1) ∙ homes_kept k m p here home;
          segments = λ i p place. ⊎_elim
              (λ x. was.2.kept i p (ap (λ (n : ImageRest D). segment_here n i) same ∙ ap (λ (n : ImageRest D). segment_here n i) (same_Some m x.0 (sym here ∙ x.1)) ∙ x.2))
              (λ x. was.2.back x.0 i p (lists_kept k x.0 i m p here x.1))
              place;
        },
      )

  segment_through : (k i : ℕ) (p : Spun D) → IsSegmentHere r.rest k i p → (q : ImageRest D) × (image_here second.images.items k ≡ Some q) × (part_at q (2 + i) ≡ Some p)
  segment_through k i p place =
      let m = ⊎_elim
      (λ x. (x.0, x.1))
      (λ x. some_or (image_here r.rest.images.items k) (λ e. none_in (i, p) (subst (λ (xs : List (ℕ × Spun D)). Contains xs (i, p)) (can.rest.parts.returned.out x.0 k e) x.1)))
      place in
      let q = image_through k m.0 m.1 in
      (q.0, q.1.here, segment_at_place q.0 i ∙ q.1.segments i p place)

  -- a part with a fault is among those that go back
  pub fault_through : HasFaultIn state r.rest → HasFaultHere state second.images.items 0
  fault_through f = ⊎_elim
      (λ x.
      let q = image_through x.0 x.1 x.2 in
      ⊎_elim
      (λ label. fault_here ending x.0 0 q.0 f.part q.1.here (ap (λ (p : Spun D). Some p) (q.1.label ∙ label)) f.fault)
      (λ home. fault_here ending x.0 1 q.0 f.part q.1.here (q.1.home f.part home) f.fault)
      x.3)
      (λ x. let q = segment_through x.0 x.1 f.part x.2 in fault_here ending x.0 (2 + x.1) q.0 f.part q.1 q.2 f.fault)
      f.here

  -- and the bay's list has its name
  pub listed_through : (old new : Told) (given : GivesBack state config second.images.items 0 old new) (name : Part) → HasFaultAt state r.rest name → IsFaultyPart config name given.more
  listed_through old new given name f = go name f.here
    where
      go : (n : Part) → IsNamedHere r.rest n f.part → IsFaultyPart config n given.more
      go (part.Home volume) x = let q = image_through volume x.0 x.1 in fault_listed ending old new given volume 1 q.0 f.part q.1.here (q.1.home f.part x.2) f.fault
      go (part.Segment volume index) x = let q = segment_through volume index f.part x in fault_listed ending old new given volume (2 + index) q.0 f.part q.1 q.2 f.fault

  -- what stands under the name of an image that isn't out stays
  pub left_kept : (old new : Told) → GivesBack state config second.images.items 0 old new → HadRefused config r.rest.images.items old new
  left_kept old new given k v at none c = subst (λ o. MayLeave o c → MayLeave (at_name v.name old.images) c) (sym (given.others v.name others)) (λ may. may)
    where
      others : (j : ℕ) (w : VolumeConf) → 0 ≤ j → slice_get config.volumes.items j ≡ Some w → IsImageOut second.images.items j → v.name ≢ w.name
      others j w le at_j there_j = ⊎_elim
          (λ (e : k ≡ j).
          let no : is_some (image_here second.images.items j) ≡ false = same_out ending j ∙ ap (λ (n : ℕ). is_some (image_here r.rest.images.items n)) (sym e) ∙ ap is_some none in
          absurd (cc (no, there_j)))
          (λ (differs : k ≡ j → ⊥). names_differ config valid k j v w at at_j differs)
          (cases_eq k j)

-- The images that a crash leaves of a rack that was closed: what each of their parts comes from.

-- records that lie in home, by what their heads say
heads_within : (home_blocks owner : ℕ) (rs : List Record) → AllByRecursion (IsNamed owner) rs → AllByRecursion (LiesInHome home_blocks) rs → AllByRecursion (λ (q : Record). q.head.first + q.head.count ≤ home_blocks) rs
heads_within home_blocks owner [] named lie = tt
heads_within home_blocks owner (q ∷ rs) named lie = ((let counted = named.0.counted in let lies = lie.0 in omega (arith, counted, lies)), heads_within home_blocks owner rs named.1 lie.1)

module _ {D : Type 0} {state : D → State} {tells : Bool} {config : Config} {b : BayState} {r : Rack D} {first second : Rest D} {old new : Told} {images : Images} (crash : IsCrash state tells config b r first second old new images) where
  open crash use {ending, told, given, left, ending.{valid, can, is, closed, kept}}

  -- a segment of a station's manager is sound: it is idle, or a log of its volume
  idle_or_log : (k i : ℕ) (z : Shape) (c : List Block) → slice_get (shapes_of config) k ≡ Some z → image_of images k ≡ Some c → (t : Station D) (x : Contains r.stations.items t) (l : Lane D) (h : HeldSegment D)
      → Contains (manager_of ending t x).lanes.items l → logger_of l ≡ k → Contains (held_in l) h → h.index ≡ i → IsIdle (segment_of z c i) ⊎ IsLogOfStation t k (segment_of z c i)
  idle_or_log k i z c at image t x l h in_lanes logger in_held index =
      go (subst (λ (m : ℕ). IsSoundOf (base_of_station t).volume.began.owner (base_of_station t).volume.began.home_blocks (segment_of z c m)) index
      (sound_left crash t x l h in_lanes in_held z c (ap (slice_get (shapes_of config)) logger ∙ at) (ap (image_of images) logger ∙ image)))
    where
      go : IsSoundOf (base_of_station t).volume.began.owner (base_of_station t).volume.began.home_blocks (segment_of z c i) → IsIdle (segment_of z c i) ⊎ IsLogOfStation t k (segment_of z c i)
      go (idle is_idle) = inl is_idle
      go (log rs is_log lie) = inr (record {
        records = rs;
        log = subst (λ (v : ℕ). IsLog (segment_of z c i) v rs) (id_of ending t x) is_log;
        within = heads_within (base_of_station t).volume.began.home_blocks (base_of_station t).volume.began.owner rs is_log.named lie;
      })

  -- of a manager that never broke it isn't idle
  not_left_idle : (t : Station D) (x : Contains r.stations.items t) (l : Lane D) (h : HeldSegment D) → Contains (manager_of ending t x).lanes.items l → Contains (held_in l) h
      → (bs : List Block) → IsImageOf (state_of state (part_of h.segment)).values bs → IsUnbroken t → IsIdle bs → ⊥
  not_left_idle t x l h in_lanes in_held bs is_image quiet free =
      let ic = is_closing ending t x in
      let up = unbroken t (entries_of_station ending t x) (is_station ending t x) ic.whole quiet in
      of_seen ending t x (λ g. (c : List Block) → IsTrue tells × may_be state g.part c → IsLog c (base_of_station t).volume.began.owner g.records) ⊥ ((ic.stands.keeps.upholds.calm up).whole told).logs l h in_lanes in_held
      (λ i rs broken log. not_idle (base_of_station t).volume.began.owner bs rs free (log bs (told, is_image)))

  pub left_parts : (k : ℕ) (z : Shape) (m : ImageRest D) → slice_get (shapes_of config) k ≡ Some z → image_here r.rest.images.items k ≡ Some m → (c : List Block) × (image_of images k ≡ Some c) × IsLeftOfParts state z r k m c
  left_parts k z m at here = (
    x.0,
    x.1,
    record {
      sized = x.2.size;
      label = subst (λ (p : Spun D). IsImageOf (state_of state p).values (slice_range x.0 0 2)) q.1.label x.2.label;
      home = λ p home. x.2.home p (q.1.home p home);
      segments = λ i within. ⊎_elim
          (λ place. from_here place.0 place.1 (x.2.segments i place.0 (q.1.segments i place.0 place.1)))
          (λ never. of_origin i never (left_origin crash k i z q.0 x.0 at q.1.here x.2 within))
          (here_or_not r.rest k i m here);
    },
  )
    where
      q : (q : ImageRest D) × IsThrough ending k m q
      q = image_through ending k m here

      x : (c : List Block) × (image_of images k ≡ Some c) × IsLeftNow state z q.0 c
      x = left_now crash k z q.0 at q.1.here

      of_origin : (i : ℕ) → ((n : Spun D) → IsSegmentHere r.rest k i n → ⊥) → Origin ending k i (segment_of z x.0 i) → ComesFrom state r k i (segment_of z x.0 i)
      of_origin i never (was_here p there foreign im) = absurd (never p there)
      of_origin i never (was_pooled free) = from_pool never free
      of_origin i never (of_station t y l h in_lanes logger in_held index im) =
          let it = idle_or_log k i z x.0 at x.1 t y l h in_lanes logger in_held index in
          from_manager never t y (subst (λ (n : ℕ). Contains (base_of_station t).volume.began.view n) logger (in_view ending t y l in_lanes)) it
          (λ quiet. ⊎_elim (λ free. absurd (not_left_idle t y l h in_lanes in_held (segment_of z x.0 i) im quiet free)) (λ its. its) it)

-- What is left of a rack, against images that might have been left when it was opened.

-- an image as it reads is one that may be left of it
read_may : (o : Option Image) → MayLeave o (image_read o)
read_may None = tt
read_may (Some i) = ⊎_elim (λ r. subst (MayLeave (Some i)) (sym r.1) (r.0, image_reads i.blocks)) (λ r. subst (MayLeave (Some i)) (sym r.1) r.0) (read_cases i)

-- the images as they read are some that may be left
pub reads_are_left : ReadsAreLeft
reads_are_left config t = record {
  count = length-map config.volumes.items (λ (v : VolumeConf). image_read (at_name v.name t.images));
  each = λ k d lt. subst (λ (o : Option (List Block)). MayLeave (at_name (slice_index_or config.volumes.items k d).name t.images) o)
      (sym (read_here config t k (slice_index_or config.volumes.items k d) (slice_get-get_or config.volumes.items k d lt))) (read_may (at_name (slice_index_or config.volumes.items k d).name t.images));
}

-- What is left of a rack comes of what it began with.
pub record IsOver {D : Type 0} (state : D → State) (config : Config) (b : BayState) (r : Rack D) (entry new : Told) (images : Images) : Type 0 where
  pub can : IsClosable state config b r
  pub few : length (shapes_of config) ≤ 2 ^ 32
  pub began : BeganWith state config entry r
  pub there : WereThere config r.rest.images.items entry
  pub still : HadRefused config r.rest.images.items entry new
  pub parts : AreLeftOfParts state config r new
  pub left : AreLeft config new images

module _ {D : Type 0} {state : D → State} {config : Config} {b : BayState} {r : Rack D} {entry new : Told} {images : Images} (over : IsOver state config b r entry new images) where
  open over use {can, few, began, there, still, parts, left}

  abbrev pub shapes : List Shape
  shapes = shapes_of config

  abbrev pub refused : ℕ → Bool
  refused = is_kept_home r.rest.images.items

  pub shape_at : (k : ℕ) (v : VolumeConf) → slice_get config.volumes.items k ≡ Some v → slice_get shapes k ≡ Some (shape_in config v)
  shape_at k v at = slice_get-map (shape_in config) config.volumes.items k ∙ ap (option_map (shape_in config)) at

  -- the image of a volume that isn't refused: what is left of it, and what it was
  pub record IsOut (k : ℕ) (v : VolumeConf) : Type 0 where
    pub rest : ImageRest D
    pub here : image_here r.rest.images.items k ≡ Some rest
    pub entered : IsEntered (shape_in config v) (at_name v.name entry.images)
    pub now : List Block
    pub now_is : image_of images k ≡ Some now
    pub of_parts : IsLeftOfParts state (shape_in config v) r k rest now
    -- label and view are as they read
    pub label : slice_range now 0 2 ≡ slice_range (reads entered.image.blocks) 0 2

  pub is_out : (k : ℕ) (v : VolumeConf) → slice_get config.volumes.items k ≡ Some v → refused k ≡ false → IsOut k v
  is_out k v at taken =
      let m = a_value (image_here r.rest.images.items k) (out_taken r.rest.images.items k taken) in
      let i = there k v at (is_there (image_here r.rest.images.items k) m.0 m.1) in
      let image = parts images left k (shape_in config v) m.0 (shape_at k v at) m.1 in
      record {
        rest = m.0;
        here = m.1;
        entered = record { image = i.0; there = i.1; whole = i.2; size = i.3 };
        now = image.0;
        now_is = image.1;
        of_parts = image.2;
        label = (began.left k v i.0 m.0 at i.1 m.1).label (slice_range image.0 0 2) image.2.label;
      }

  pub has_station_or : (k : ℕ) → ((s : Station D) × Contains r.stations.items s × (s.id ≡ k)) ⊎ IsClosed r k
  has_station_or k = ⊎_elim
      (λ has. inl (of_map (λ (s : Station D). s.id) r.stations.items k has))
      (λ never. inr (λ s has e. never (subst (λ (n : ℕ). Contains (map (λ (t : Station D). t.id) r.stations.items) n) (sym e) (in_map (λ (t : Station D). t.id) r.stations.items s has))))
      (is_member (map (λ (s : Station D). s.id) r.stations.items) k)

  -- label and view are as they were, and so is the home of a volume without a station
  abbrev pub Fronts : (k : ℕ) → (now was : List Block) → Type 0
  Fronts k now was = ((i : ℕ) → i < 2 → slice_get was i ≡ slice_get now i) × (IsClosed r k → was ≡ now)

  abbrev pub Segments : (k : ℕ) → (now was : List Block) → Type 0
  Segments k now was = Came r k now was

  -- the home of a volume without a station is here
  home_of_closed : (k : ℕ) → IsClosed r k → Contains (away_with (map (λ (s : Station D). base_of_station s) r.stations.items)).homes k → ⊥
  home_of_closed k closed has =
      let m = of_map (λ (x : ManagerBase). x.volume.began.owner) (map (λ (s : Station D). base_of_station s) r.stations.items) k has in
      let s = of_map (λ (t : Station D). base_of_station t) r.stations.items m.0 m.1 in
      closed s.0 s.1 (sym m.2 ∙ ap (λ (x : ManagerBase). x.volume.began.owner) (sym s.2) ∙ (All-contains (λ u. IsStation u) r.stations.items s.0 can.stations s.1).id)

  pub front_was : (k : ℕ) (v : VolumeConf) → slice_get config.volumes.items k ≡ Some v → (o : IsOut k v)
      → (was : List Block) × IsImage (slice_range o.entered.image.blocks 0 (2 + v.home)) was × Fronts k (slice_range o.now 0 (2 + v.home)) was
  front_was k v at o = ⊎_elim
      (λ s. (slice_range (reads bs) 0 n, reads_among bs 0 n, (λ i lt. at_front n i (reads bs) (omega (arith, lt)) ∙ sym (at_front 2 i (reads bs) lt) ∙ ap (λ (l : List Block). slice_get l i) (sym o.label) ∙ at_front 2 i o.now lt ∙ sym (at_front n i o.now (omega (arith, lt))), λ closed. absurd (closed s.0 s.1 (sym s.2)))))
      (λ closed.
      let p = a_value o.rest.home ((can.rest.parts.homes k o.rest o.here).1 (home_of_closed k closed)) in
      let label = subst (λ (c : List Block). IsImage (slice_range bs 0 2) c) (sym o.label) (reads_among bs 0 2) in
      let home = (began.left k v o.entered.image o.rest at o.entered.there o.here).home p.0 p.1 (slice_range o.now 2 n) (o.of_parts.home p.0 p.1) in
      let both = both_slices bs 0 2 n (slice_range o.now 0 2) (slice_range o.now 2 n) (omega arith) (omega arith) label home in
      (slice_range o.now 0 n, subst (λ (c : List Block). IsImage (slice_range bs 0 n) c) (slice_join o.now 0 2 n (omega arith) (omega arith)) both, (λ i lt. refl, λ c. refl)))
      (has_station_or k)
    where
      bs : List (Values Block)
      bs = o.entered.image.blocks

      n : ℕ
      n = 2 + v.home

  pub kept_image : (k : ℕ) (v : VolumeConf) → slice_get config.volumes.items k ≡ Some v → refused k ≡ false → IsKeptImage (Fronts k) (Segments k) (shape_in config v) (at_name v.name entry.images) (image_of images k)
  kept_image k v at taken =
      let o = is_out k v at taken in
      record {
        entered = o.entered;
        now = o.now;
        is = o.now_is;
        sized = o.of_parts.sized;
        front = front_was k v at o;
        segments = λ i lt. let come = has_come state config few r entry began k i v o.entered.image o.rest (segment_of (shape_in config v) o.now i) at o.entered.there o.here lt (o.of_parts.segments i lt) in (come.was, come.had, come.came);
      }

  pub may_still : (k : ℕ) (v : VolumeConf) → slice_get config.volumes.items k ≡ Some v → refused k ≡ true → MayLeave (at_name v.name entry.images) (image_of images k)
  may_still k v at gone =
      let none = none_or (image_here r.rest.images.items k) (λ m e. cc (sym gone ∙ ap (λ (x : Option (ImageRest D)). not (is_some x)) e)) in
      still k v at none (image_of images k) (may_at config new images left k v at)

  -- images that might have been left at entry
  pub chosen : (before : Images) × IsBefore Fronts Segments config entry refused images kept_image may_still before
  chosen = kept_before Fronts Segments config entry refused images kept_image may_still

  abbrev pub before : Images
  before = chosen.0

  pub two_or_same : (k : ℕ) (z : Shape) → slice_get shapes k ≡ Some z → ((refused k ≡ true) × (image_of before k ≡ image_of images k)) ⊎ ((refused k ≡ false) × AreTwo (Fronts k) (Segments k) z (image_of images k) (image_of before k))
  two_or_same = pieces.two_or_same Fronts Segments config entry refused images kept_image may_still before chosen.1

  -- a volume without a station recovers to the same of them
  module _ (v : ℕ) (closed : IsClosed r v) where
    closed_but : recovered_but shapes refused images v ≡ recovered_but shapes refused before v
    closed_but = before_same Fronts Segments config entry refused images kept_image may_still before chosen.1 v (λ now was front. front.1 closed) left.count (λ k c d came. keeps_came r v k c d closed came)

    closed_all : recovered_from shapes images v ≡ recovered_from shapes before v
    closed_all = before_all Fronts Segments config entry refused images kept_image may_still before chosen.1 v (λ now was front. front.1 closed) left.count (λ k c d came. keeps_came r v k c d closed came)

    pub closed_recovers : (before : Images) × AreLeft config entry before × (recovered_from shapes images v ≡ recovered_from shapes before v)
    closed_recovers = (before, chosen.1.left, closed_all)

  -- ---- A volume with a station: as the images read at entry, but for those that weren't out

  record IsMixed (k : ℕ) (v : VolumeConf) (o : Option (List Block)) : Type 0 where
    may : MayLeave (at_name v.name entry.images) o
    gone : refused k ≡ true → o ≡ image_of images k
    taken : refused k ≡ false → image_of (images_read config entry) k ≡ o

  mixed : (k : ℕ) (v : VolumeConf) → slice_get config.volumes.items k ≡ Some v → (o : Option (List Block)) × IsMixed k v o
  mixed k v at = go (refused k) refl
    where
      go : (t : Bool) → refused k ≡ t → (o : Option (List Block)) × IsMixed k v o
      go true e = (image_of images k, record { may = may_still k v at e; gone = λ _. refl; taken = λ no. absurd (cc (e, no)) })
      go false e = (image_of (images_read config entry) k, record { may = may_at config entry (images_read config entry) (reads_are_left config entry) k v at; gone = λ no. absurd (cc (e, no)); taken = λ _. refl })

  open_recovers : (s : ℕ) → refused s ≡ false → recovered_but shapes refused images s ≡ recovered_but shapes refused (images_read config entry) s → (before : Images) × AreLeft config entry before × RecoversSame config refused true images before s
  open_recovers s taken same = (
    p.0,
    record { count = p.1.count; each = λ k d lt. (p.1.each k (slice_index_or config.volumes.items k d) (slice_get-get_or config.volumes.items k d lt)).may },
    record {
      but = but;
      all = ⊎_elim (λ no. absurd (cc no)) (λ none.
          recovered_none s refused shapes images none ∙ but
          ∙ sym (recovered_none s refused shapes p.0 (λ k z at gone. subst (λ (o : Option (List Block)). AllByRecursion (λ bs. (rs : List Record) → IsLog bs s rs → ⊥) (segments_of z o)) (sym (stays k z at gone)) (none k z at gone))));
    },
  )
    where
      p : (before : Images) × ArePicked config IsMixed mixed before
      p = picked config IsMixed mixed

      stays : (k : ℕ) (z : Shape) → slice_get shapes k ≡ Some z → refused k ≡ true → image_of p.0 k ≡ image_of images k
      stays k z at gone = let v = volume_at config k z at in (p.1.each k v.0 v.1).gone gone

      read_same : (k : ℕ) (z : Shape) → slice_get shapes k ≡ Some z → refused k ≡ false → image_of (images_read config entry) k ≡ image_of p.0 k
      read_same k z at taken_k = let v = volume_at config k z at in (p.1.each k v.0 v.1).taken taken_k

      own_home : (o : Option Shape) → slice_get shapes s ≡ o → home_in o (image_of (images_read config entry) s) ≡ home_in o (image_of p.0 s)
      own_home None e = refl
      own_home (Some z) e = ap (home_in (Some z)) (read_same s z e taken)

      but : recovered_but shapes refused images s ≡ recovered_but shapes refused p.0 s
      but = same ∙ recovered_same s refused shapes (images_read config entry) p.0 (length-map config.volumes.items (λ (w : VolumeConf). image_read (at_name w.name entry.images)) ∙ sym p.1.count)
          (own_home (slice_get shapes s) refl) (λ k z at taken_k. inl (read_same k z at taken_k))

-- ---- Stations by number

pub station_of : {D : Type 0} (r : Rack D) (v : ℕ) → has_station r v ≡ true → (s : Station D) × Contains r.stations.items s × (s.id ≡ v)
station_of {D} r v has = let a = Any-from_list_any (λ (s : Station D). eqb s.id v) r.stations.items has in (a.1, (a.0, a.2, a.3), eqb-true a.1.id v a.4)

pub no_station : {D : Type 0} (r : Rack D) (v : ℕ) → has_station r v ≡ false → IsClosed r v
no_station {D} r v none s has same =
    let there = list_any_at (λ (t : Station D). eqb t.id v) r.stations.items has.0 s has.1 (ap (λ (t : Station D). eqb t.id v) has.2 ∙ eq-eqb s.id v (sym same)) in
    cc (none, there)

-- What every volume recovers to once the rack is closed.

module _ {D : Type 0} {state : D → State} {tells : Bool} {config : Config} {b : BayState} {r : Rack D} {first second : Rest D} {old new : Told} {images : Images} (crash : IsCrash state tells config b r first second old new images) (entry : Told) (began : BeganWith state config entry r)
    (there : WereThere config r.rest.images.items entry) (had : HadRefused config r.rest.images.items entry old) where
  pub over : IsOver state config b r entry new images
  over = record {
    can = crash.ending.can;
    few = (let few = few_volumes crash.ending in omega (arith, few));
    began = began;
    there = there;
    still = λ k v at none c may. had k v at none c (left_kept crash.ending old new crash.given k v at none c may);
    parts = λ choice choice_left k z m at here. left_parts (record { ending = crash.ending; told = crash.told; given = crash.given; left = choice_left }) k z m at here;
    left = crash.left;
  }

  -- each volume, where nothing was written since it was opened
  pub volume_recovers : All (λ (s : Station D). IsQuiet s) r.stations.items → (v : ℕ) → (before : Images) × AreLeft config entry before × RecoversSame config (is_kept_home r.rest.images.items) (has_station r v) images before v
  volume_recovers quiet v = go (has_station r v) refl
    where
      go : (t : Bool) → has_station r v ≡ t → (before : Images) × AreLeft config entry before × RecoversSame config (is_kept_home r.rest.images.items) t images before v
      go true has =
          let s = station_of r v has in
          let out : IsImageOut r.rest.images.items s.0.id = subst (λ (n : ℕ). IsImageOut r.rest.images.items n) (id_of crash.ending s.0 s.1) (is_base crash.ending s.0 s.1).out in
          subst (λ (n : ℕ). (before : Images) × AreLeft config entry before × RecoversSame config (is_kept_home r.rest.images.items) true images before n) s.2 (open_recovers over s.0.id (ap not out) (left_quiet crash entry began quiet s.0 s.1))
      go false none = let closed = no_station r v none in (before over, (chosen over).1.left, record { but = closed_but over v closed; all = λ or. closed_all over v closed })

-- those with a station were opened
pub station_opened : {D : Type 0} {state : D → State} {tells : Bool} {config : Config} {b : BayState} {r : Rack D} {first second : Rest D} (ending : IsEnding state tells config b r first second) (entry : Told) → BeganWith state config entry r → (v : ℕ) → has_station r v ≡ true → WasOpened config (is_kept_home r.rest.images.items) entry v
station_opened {config} {r} ending entry began v has =
    let s = station_of r v has in
    record {
      base = (base_of_station s.0).volume.began;
      owner = id_of ending s.0 s.1 ∙ s.2;
      begun = All-contains (λ t. IsBegun config (images_taken config r.rest.images.items entry) (base_of_station t).volume.began) r.stations.items s.0 began.stations s.1;
      loggers = all_taken (base_of_station s.0).volume.began.view (is_base ending s.0 s.1).loggers_out;
    }
  where
    all_taken : (view : List ℕ) → AllByRecursion (IsImageOut r.rest.images.items) view → AllByRecursion (λ l. is_kept_home r.rest.images.items l ≡ false) view
    all_taken [] all = tt
    all_taken (l ∷ view) all = (ap not all.0, all_taken view all.1)
