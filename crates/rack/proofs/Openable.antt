-- What a volume is opened of can be taken out, and may be opened.
use Rattle.rack.proofs.Basics.{◌≡◌, ◌≢◌, ⊎_elim, ℕ, zero, suc, ◌<◌, ◌≤◌, Bool, true, false, List, ◌∷◌, length, map, filter, get_or, Option, None, Some, refl, sym, ap, ◌∙◌, subst, arith, ◌-◌}
use Rattle.rack.proofs.Basics.{◌*◌, slice_get, IsSome, is_some, Contains, All, ◌==◌, position, flat_map, eq-eqb, eqb-true, length-map, get_or-map, All-filter, filter_passes}
use Rattle.rack.proofs.Basics.{Contains-append_cases, recursion_from_All, filter_agree, none-some, same_Some, get_or_from_slice_get, slice_get_within, slice_get-get_or, mul-le-mul, []}
use Rattle.rack.proofs.Basics.{false≢true, get_or_default, All-contains, ◌^◌, ◌+◌}
use Rattle.rack.proofs.Terms.{State, Block, Values, IsImageOf, reads, Shape, IsShape, owned_block, BayState, IsValid, Config, pass_lock, lock_id, pass_number, pass_mine, Spun, ManagerBase}
use Rattle.rack.proofs.Terms.{Station, shapes_of, image_here, segment_here, pool_pass, spindle_pass, away_with, IsRestBut, IsPart, base_of_station, HasPlace, IsUsablePlace, CanTake}
use Rattle.rack.proofs.Terms.{IsOwnedPlace, segments_of, segment_in, TakesOpening, IsNewLane, IsTakenOf, loggers_out, holder_by, IsHomeAway, said_at, IsOpeningRack, Said, ImageRest, Rack}
use Rattle.rack.proofs.Terms.{image_reads, shape_of, Free, Owned, SegHead, holder, is_held_by, holds, state_of, IsAt, logger_of, pool_of, spindle_of, segments_in, pool_blocks, Lane}
use Rattle.rack.proofs.Terms.{IsOpeningLane, IsHeldIn, IsOwned, SaysOwner, HoldsOwned, CanOpen, place_of, Opening, OwnedPart, head_place, Rest, Shared, IsNamesAnswer, is_named, in_image}
use Rattle.rack.proofs.Terms.{of_head, IsStation, free_block, SpellsSegment, Record, IsLog, one_segment_head, SaysOwnerOrFree, IsSaidOf, Told, AreStillCut, VolumeConf, Image, at_name}
use Rattle.rack.proofs.Terms.{HadBefore, shape_in, IsDisk, TellsContent, IsFateOf, Kept, IsForeign, IsSegmentHere}
use Rattle.seg_pool.specs.declared.base.Holder.TheVariants.{HeldBy}
use Rattle.manager_recovery.proofs.Indexing.{all_named}
use Rattle.manager_recovery.proofs.Places.{at_position, loggers_are}
use Rattle.rack.proofs.Names.{valid_shape}
use Rattle.rack.proofs.Places.{some_at}
use Rattle.rack_parts.proofs.Members.{a_value, of_recursion, of_map, here_within, segment_in_image, in_map, none_in}
use Rattle.rack.proofs.Cases.{some_or, by_option}
use Rattle.rack_parts.specs.Parts.{segment_count}
use Rattle.rack.proofs.Fates.{kept_says}
use Rattle.rack.proofs.Without as without
use Rattle.wol_model.specs.Heads as head

-- ---- What the heads say

pub held_owner : (o : Option SegHead) (v : ℕ) → is_held_by v (of_head o) ≡ true → o ≡ Some (Owned v)
held_owner None v is = absurd (false≢true is)
held_owner (Some Free) v is = absurd (false≢true is)
held_owner (Some (Owned w)) v is = ap (λ (n : ℕ). Some (Owned n)) (eqb-true w v is)

-- what a volume holds by the heads is a place that it owns
pub owned_place : (said : List (Option Said)) (v k i : ℕ) → is_held_by v (holder_by (said_at said k) i) ≡ true → IsOwnedPlace said v k i
owned_place said v k i held = by_option (said_at said k)
    (λ e. absurd (false≢true (sym (ap (λ (x : Option Said). is_held_by v (holder_by x i)) e) ∙ held)))
    (λ s e. (s, slice_get-get_or said k None (here_within said k s e) ∙ ap Some e, held_owner (slice_get s.heads.items i) v (sym (ap (λ (x : Option Said). is_held_by v (holder_by x i)) e) ∙ held)))

-- a log of a volume says no other owner
pub one_owner : (w id : ℕ) (c : List Block) (rs : List Record) → w < 2 ^ 32 → SaysOwnerOrFree w c → IsLog c id rs → w ≡ id
one_owner w id [] rs known says log = absurd says
one_owner w id (x ∷ c) rs known says log =
    let first : x ≡ owned_block id = let both = log.joined in cc in
    let mine : SpellsSegment x (head.Owned id) = record { in_range = log.known; bytes = first } in
    ⊎_elim
    (λ (is : x ≡ owned_block w).
    let same : head.Owned w ≡ head.Owned id = one_segment_head x (head.Owned w) (head.Owned id) (record { in_range = known; bytes = is }) mine in
    cc)
    (λ (is : x ≡ free_block).
    let same : head.Free ≡ head.Owned id = one_segment_head x head.Free (head.Owned id) (record { in_range = tt; bytes = is }) mine in
    absurd (cc same))
    says

-- blocks of which the first is known
pub first_block : (bs : List Block) (x : Block) → slice_get bs 0 ≡ Some x → (rest : List Block) × (bs ≡ x ∷ rest)
first_block [] x first = absurd (none-some x first)
first_block (y ∷ bs) x first = (bs, ap (λ (z : Block). z ∷ bs) (same_Some y x first))

-- ---- What a volume is opened of may be taken out

-- the volumes that have a station were tried
pub ids_below : {D : Type 0} (state : D → State) (config : Config) (b : BayState) (said : List (Option Said)) (n : ℕ) (r : Rack D) → IsOpeningRack state config b said n r → (k : ℕ) → Contains (map (λ (s : Station D). s.id) r.stations.items) k → k < n
ids_below {D} state config b said n r ready k has =
    let found = of_map (λ (s : Station D). s.id) r.stations.items k has in
    let lt : found.0.id < n = subst (λ (s : Station D). s.id < n) found.1.2 (ready.tried.below found.1.0 found.0 found.1.1) in
    let e = found.2 in
    omega (arith, lt, e)

-- an element of lists behind one another comes from an element
pub contains_flat : {A B : Type 0} (f : A → List B) (xs : List A) (y : B) → Contains (flat_map f xs) y → (x : A) × Contains xs x × Contains (f x) y
contains_flat f [] y c = let l = c.1 in absurd (omega (arith, l))
contains_flat f (x ∷ xs) y c =
    ⊎_elim
    (λ here. (x, (0, omega arith, refl), here))
    (λ behind. let more = contains_flat f xs y behind in (more.0, (suc more.1.0, let l = more.1.1 in omega (arith, l), more.1.2), more.2))
    (Contains-append_cases (f x) (flat_map f xs) y c)

module _ {D : Type 0} (state : D → State) (config : Config) (valid : IsValid config) (b : BayState) (said : List (Option Said)) (id : ℕ) (r : Rack D) (own : Said)
    (ready : IsOpeningRack state config b said id r) (lt : id < length (shapes_of config)) (at : slice_get said id ≡ Some (Some own)) where
  abbrev bases : List ManagerBase
  bases = map (λ (s : Station D). base_of_station s) r.stations.items

  pub parts : IsRestBut state config r.shared (away_with bases) r.rest
  parts = ready.closable.rest.parts

  pub said_id : said_at said id ≡ Some own
  said_id = get_or_from_slice_get said id (Some own) None at

  pub image_id : (image : ImageRest D) × (image_here r.rest.images.items id ≡ Some image)
  image_id = some_or (image_here r.rest.images.items id) (λ e. none-some own (sym (ready.silent id e) ∙ said_id))

  -- the volume has no manager yet
  pub no_base : (m : ManagerBase) → Contains bases m → m.volume.began.owner ≢ id
  no_base m c is =
      let s = of_map (λ (s : Station D). base_of_station s) r.stations.items m c in
      let owner : m.volume.began.owner ≡ s.0.id = ap (λ (x : ManagerBase). x.volume.began.owner) (sym s.2) ∙ (All-contains (λ (x : Station D). IsStation x) r.stations.items s.0 ready.closable.stations s.1).id in
      let below = ids_below state config b said id r ready s.0.id (in_map (λ (x : Station D). x.id) r.stations.items s.0 s.1) in
      omega (arith, owner, below, is)

  pub no_home : Contains (away_with bases).homes id → ⊥
  no_home c = let m = of_map (λ (x : ManagerBase). x.volume.began.owner) bases id c in no_base m.0 m.1 m.2

  pub no_lane : (k : ℕ) → Contains (away_with bases).lanes (id, k) → ⊥
  no_lane k c =
      let m = contains_flat _ bases (id, k) c in
      let l = of_map (λ (j : ℕ). (m.0.volume.began.owner, j)) m.0.volume.began.view (id, k) m.2 in
      no_base m.0 m.1 (ap (λ (x : ℕ × ℕ). x.0) l.2)

  place : (k : ℕ) → k < length (shapes_of config) → HasPlace r.rest id k
  place k within = record { row = omega (arith, lt, parts.count); volumes = length (shapes_of config); rows = parts.rows; within = within }

  pub usable : (k : ℕ) → k < length (shapes_of config) → k ≢ id → IsUsablePlace r.rest id k (segments_of config k)
  usable k within other =
      let locks = ready.closable.locks in
      let row : id < length r.rest.passes.items = omega (arith, lt, parts.count) in
      let pool_in : k < length r.shared.pools.items = omega (arith, within, locks.pool_count) in
      let spindle_in : k < length r.shared.spindles.items = omega (arith, within, locks.spindle_count) in
      let p = a_value (pool_pass r.rest id k) ((parts.pools.here id k row pool_in).1 (no_lane k)) in
      let q = a_value (spindle_pass r.rest id k) ((parts.spindles.here id k row spindle_in).1 (λ c. ⊎_elim (no_lane k) (λ h. other (sym h.0)) c)) in
      let l = some_at r.shared.pools.items k pool_in in
      let m = some_at r.shared.spindles.items k spindle_in in
      let s = some_at (shapes_of config) k within in
      let pool_lock = locks.pools k s.0 l.0 s.1 l.1 in
      let spindle_lock = locks.spindles k m.0 m.1 in
      let pool_at = parts.pools.each id k l.0 p.0 l.1 p.1 in
      let spindle_at = parts.spindles.each id k m.0 q.0 m.1 q.1 in
      let segments : segments_of config k ≡ s.0.segments = ap segment_count s.1 in
      let holders : length (pass_lock p.0).base.holders ≡ s.0.segments = ap (λ i. length i.base.holders) pool_at.own ∙ pool_lock.room in
      record {
        place = place k within;
        pool = p.0;
        pool_here = p.1;
        pool_volume = ap (λ i. i.base.volume) pool_at.own ∙ pool_lock.volume;
        room = omega (arith, holders, segments);
        pool_free = pool_at.free;
        spindle = q.0;
        spindle_here = q.1;
        spindle_volume = ap (λ i. i.base.volume) spindle_at.own ∙ spindle_lock.volume;
        spindle_free = spindle_at.free;
        settled = parts.spindles.settled id k q.0 q.1;
        accesses = ready.closable.accesses id k q.0 q.1;
        held = ready.unheld id k;
      }

  out_within : (k : ℕ) → is_some (image_here r.rest.images.items k) ≡ true → k < length (shapes_of config)
  out_within k there = let x = a_value (image_here r.rest.images.items k) there in let l = here_within r.rest.images.items k x.0 x.1 in let count = parts.images.0 in omega (arith, l, count)

  -- a segment that isn't in its place is nowhere
  pub nowhere : (k i : ℕ) → ((p : Spun D) → segment_in r.rest k i ≡ Some p → ⊥) → (p : Spun D) → IsSegmentHere r.rest k i p → ⊥
  nowhere k i never p = ⊎_elim
      (λ x. never p (segment_in_image r.rest k x.0 x.1 i ∙ x.2))
      (λ x. none_in (i, p) (subst (λ (l : List (ℕ × Spun D)). Contains l (i, p)) (ready.unheld x.0 k) x.1))

  -- an image that says something is out
  says_at : (k : ℕ) (s : Said) → said_at said k ≡ Some s
      → (image : ImageRest D) × (image_here r.rest.images.items k ≡ Some image) × (shape : Shape) × (slice_get (shapes_of config) k ≡ Some shape) × IsSaidOf (length (shapes_of config)) k shape s
  says_at k s is =
      let image = some_or (image_here r.rest.images.items k) (λ e. none-some s (sym (ready.silent k e) ∙ is)) in
      let shape = some_at (shapes_of config) k (out_within k (ap is_some image.1)) in
      let of = ready.says k shape.0 shape.1 (ap is_some image.1) in
      (image.0, image.1, shape.0, shape.1, subst (IsSaidOf (length (shapes_of config)) k shape.0) (same_Some of.0 s (sym of.1 ∙ is)) of.2)

  -- a segment with the owner is in its place
  owned_here : (k i : ℕ) → IsOwnedPlace said id k i → IsSome (segment_in r.rest k i)
  owned_here k i c =
      let says = get_or_from_slice_get said k (Some c.0) None c.1 in
      let x = says_at k c.0 says in
      ap is_some (segment_in_image r.rest k x.0 x.1 i ∙ (ready.untouched.here id k i c.0 x.0 (omega arith) says c.2 x.1).1)

  pub can_take : (view : List ℕ) → own.view ≡ view → CanTake config r.rest said id view
  can_take view is =
      let image = image_id in
      let others_view : Contains view id → ⊥ = subst (λ (ids : List ℕ). Contains ids id → ⊥) is (says_at id own said_id).4.others in
      let out : ℕ → Bool = λ k. is_some (image_here r.rest.images.items k) in
      let passes = filter_passes out view in
      let not_id : All (λ k. k ≢ id) (filter out view) = All-filter out (λ k. k ≢ id) view (λ k d below e. others_view (k, below, let same_default : get_or view k id ≡ get_or view k d = get_or_default view k id d below in same_default ∙ e)) in
      record {
        images = parts.images.0;
        own = place id lt;
        image = image.0;
        out = image.1;
        home = (parts.homes id image.0 image.1).1 no_home;
        spindle = (parts.spindles.here id id (omega (arith, lt, parts.count)) (let c = ready.closable.locks.spindle_count in omega (arith, lt, c))).1 (λ c. ⊎_elim (no_lane id) (λ h. no_home h.1) c);
        others = others_view;
        lanes = λ k d below. usable (get_or (filter out view) k d) (out_within (get_or (filter out view) k d) (passes k d below)) (not_id k d below);
        owned = record {
          count = let a = ready.said_count in let c = parts.images.0 in omega (arith, a, c);
          out = λ k s found.
              let x = says_at k s (get_or_from_slice_get said k (Some s) None found) in
              let count = x.4.count in
              let few = (valid_shape config valid k x.2 x.3).0.segments in
              (x.0, x.1, count ∙ sym (parts.images.1 k x.2 x.0 x.3 x.1).count, omega (arith, few, count));
          here = owned_here;
        };
      }

  -- ---- The opening that was taken out may be opened

  module _ (view : List ℕ) (new : Rest D) (o : Opening D) (takes : TakesOpening state config r.rest new said id view o) where
    -- a lane that was taken out
    pub record IsTakenLane (l : Lane D) : Type 0 where
      pub within : logger_of l < length (shapes_of config)
      pub shape : Shape
      pub shape_is : slice_get (shapes_of config) (logger_of l) ≡ Some shape
      pub segments : segments_in l ≡ shape.segments
      pub blocks : pool_blocks l ≡ shape.segment_blocks
      pub placed : IsAt r.shared l
      pub number : pass_number (pool_of l) ≡ id
      pub spindle_number : pass_number (spindle_of l) ≡ id
      pub unused : pass_mine (pool_of l) ≡ []
      pub holders : (i : ℕ) → holder (pass_lock (pool_of l)).base.holders i ≡ holder_by (said_at said (logger_of l)) i

    taken_lane : (l : Lane D) → logger_of l < length (shapes_of config) → IsNewLane state r.rest id (segments_of config (logger_of l)) l → IsTakenLane l
    taken_lane l within is =
        let k = logger_of l in
        let locks = ready.closable.locks in
        let pool_in : k < length r.shared.pools.items = let c = locks.pool_count in omega (arith, within, c) in
        let spindle_in : k < length r.shared.spindles.items = let c = locks.spindle_count in omega (arith, within, c) in
        let p = some_at r.shared.pools.items k pool_in in
        let q = some_at r.shared.spindles.items k spindle_in in
        let s = some_at (shapes_of config) k within in
        let lock = locks.pools k s.0 p.0 s.1 p.1 in
        let pass = parts.pools.each id k p.0 (pool_of l) p.1 is.pool in
        let spindle = parts.spindles.each id k q.0 (spindle_of l) q.1 is.spindle in
        let segments : segments_of config k ≡ s.0.segments = ap segment_count s.1 in
        record {
          within = within;
          shape = s.0;
          shape_is = s.1;
          segments = is.size ∙ segments;
          blocks = ap (λ i. i.base.blocks) pass.own ∙ lock.blocks;
          placed = record {
            pool_in = let v = r.shared.pools.ok.0 in omega (arith, pool_in, v);
            spindle_in = let v = r.shared.spindles.ok.0 in omega (arith, spindle_in, v);
            pool = λ d. pass.own ∙ ap (λ x. lock_id x) (sym (get_or_from_slice_get r.shared.pools.items k p.0 d p.1));
            spindle = λ d. spindle.own ∙ ap (λ x. lock_id x) (sym (get_or_from_slice_get r.shared.spindles.items k q.0 d q.1));
          };
          number = pass.number_is;
          spindle_number = spindle.number_is;
          unused = ready.untouched.passes id k (pool_of l) (omega arith) is.pool;
          holders = λ i. ap (λ x. holder x.base.holders i) pass.own ∙ ready.pools k i p.0 p.1;
        }

    pub lane_out : (j : ℕ) (d : Lane D) → j < length o.lanes.items → logger_of (get_or o.lanes.items j d) < length (shapes_of config)
    lane_out j d below =
        let loggers = takes.lanes.loggers_are in
        let long : length (loggers_out r.rest view) ≡ length o.lanes.items = sym (ap (λ (l : List ℕ). length l) loggers) ∙ length-map o.lanes.items logger_of in
        let same : get_or (loggers_out r.rest view) j 0 ≡ logger_of (get_or o.lanes.items j d) = sym (ap (λ (l : List ℕ). get_or l j 0) loggers) ∙ get_or-map logger_of o.lanes.items j d 0 below in
        subst (λ (k : ℕ). k < length (shapes_of config)) same (out_within (get_or (loggers_out r.rest view) j 0) (Rattle.std.proofs.lemmas.List.Elements.filter_passes (λ k. is_some (image_here r.rest.images.items k)) view j 0 (omega (arith, below, long))))

    pub lanes_taken : All IsTakenLane o.lanes.items
    lanes_taken = λ j d below. taken_lane (get_or o.lanes.items j d) (lane_out j d below) (takes.lanes.each j d below)

    most_fits : (o.most ≤ config.segment_blocks - 2) × ((1 ≤ o.most) × (o.most ≤ 128))
    most_fits = let e = takes.most in let sb = valid.segment_blocks in (omega (arith, e, sb), (omega (arith, e, sb), omega (arith, e, sb)))

    want_shape : IsShape (shape_of o.want) × ((shape_of o.want).segment_blocks ≡ config.segment_blocks)
    want_shape = valid_shape config valid id (shape_of o.want) takes.shape

    opening_lane : (l : Lane D) → IsTakenLane l → IsNewLane state r.rest id (segments_of config (logger_of l)) l → IsOpeningLane state r.shared o.want.id o.most l
    opening_lane l taken is =
        let shape = valid_shape config valid (logger_of l) taken.shape taken.shape_is in
        let fits = most_fits in
        let sb = valid.segment_blocks in
        let blocks : pool_blocks l ≡ config.segment_blocks = taken.blocks ∙ shape.1 in
        record { lane = is.lane; at = taken.placed; owner = is.owner ∙ sym takes.id; bare = is.bare; untaken = is.untaken; long = omega (arith, fits.0, sb, blocks) }

    same_loggers : map logger_of o.lanes.items ≡ filter (λ k. get_or o.present.items k false) o.view
    same_loggers =
        takes.lanes.loggers_are
        ∙ filter_agree (λ k. is_some (image_here r.rest.images.items k)) (λ k. get_or o.present.items k false) (λ k. sym (ap (λ l. get_or l k false) takes.present ∙ at_some r.rest.images.items k)) view
        ∙ ap (filter (λ k. get_or o.present.items k false)) (sym takes.view_is)
      where
        at_some : (xs : List (Option (ImageRest D))) (k : ℕ) → get_or (map (λ (i : Option (ImageRest D)). is_some i) xs) k false ≡ is_some (get_or xs k None)
        at_some [] k = refl
        at_some (x ∷ xs) zero = refl
        at_some (x ∷ xs) (suc k) = at_some xs k

    -- an owned segment as it stood in its image
    pub record IsInImage (p : OwnedPart D) : Type 0 where
      pub image : ImageRest D
      pub out : image_here r.rest.images.items p.logger ≡ Some image
      pub there : segment_here image p.index ≡ Some p.part
      pub saying : Said
      pub said_is : said_at said p.logger ≡ Some saying
      pub head : slice_get saying.heads.items p.index ≡ Some (Owned id)
      pub shape : Shape
      pub shape_is : slice_get (shapes_of config) p.logger ≡ Some shape
      pub within : p.index < shape.segments
      pub part : IsPart state p.logger shape.segment_blocks p.part
      pub first : p.first_block ≡ head_place shape p.index

    part_in_image : (p : OwnedPart D) → IsTakenOf config takes.without_lanes said id p → IsInImage p
    part_in_image p is =
        let says = get_or_from_slice_get said p.logger (Some is.saying) None is.said_is in
        let x = says_at p.logger is.saying says in
        let there : segment_here x.0 p.index ≡ Some p.part = sym (segment_in_image r.rest p.logger x.0 x.1 p.index) ∙ sym (ap (λ y. in_image (image_here y.items p.logger) p.index) takes.lanes.passes.images) ∙ is.here in
        let count = x.4.count in
        let below = slice_get_within is.saying.heads.items p.index (Owned id) is.head in
        record {
          image = x.0;
          out = x.1;
          there = there;
          saying = is.saying;
          said_is = says;
          head = is.head;
          shape = x.2;
          shape_is = x.3;
          within = omega (arith, below, count);
          part = (parts.images.1 p.logger x.2 x.0 x.3 x.1).segments p.index p.part there;
          first = is.first x.2 x.3;
        }

    pub parts_in_images : All IsInImage o.owned.items
    parts_in_images = λ j d below. part_in_image (get_or o.owned.items j d) (takes.owned.each j d below)

    pub owned_in_image : (p : OwnedPart D) → Contains o.owned.items p → IsInImage p
    owned_in_image p = All-contains IsInImage o.owned.items p parts_in_images

    -- what one had at entry, by its place
    pub had_at : (t : Told) → AreStillCut state config t id said r.rest → (k i : ℕ) (v : VolumeConf) (before : Image) (part : OwnedPart D) → IsInImage part → part.logger ≡ k → part.index ≡ i → slice_get config.volumes.items k ≡ Some v
        → at_name v.name t.images ≡ Some before → HadBefore state before (head_place (shape_in config v) i) (head_place (shape_in config v) (i + 1)) part.part
    had_at t cut k i v before part was e f conf there =
        (cut.segments id k i v before was.saying was.image part.part (omega arith) conf there (ap (said_at said) (sym e) ∙ was.said_is) (ap (λ (j : ℕ). slice_get was.saying.heads.items j) (sym f) ∙ was.head)
        (ap (λ (j : ℕ). image_here r.rest.images.items j) (sym e) ∙ was.out) (ap (λ (j : ℕ). segment_here was.image j) (sym f) ∙ was.there)).had

    -- one that was kept says the volume or is free
    pub says_kept : ((d : D) → IsDisk (state d)) → ((d : D) → TellsContent (state d)) → (part kept : OwnedPart D) → IsInImage part → IsFateOf state o.want.id part (Kept kept) → (c : List Block) → IsImageOf (state_of state kept.part).values c → SaysOwnerOrFree id c
    says_kept sound told part kept was fate c im = subst (λ (w : ℕ). SaysOwnerOrFree w c) takes.id (kept_says state sound o.want.id told part kept fate
        (λ d before. subst (λ (w : ℕ). SaysOwnerOrFree w d) (sym takes.id) (ready.owners.says part.logger part.index id was.saying was.image part.part was.said_is was.head was.out was.there told d before)) c im)

    -- and is no log of a volume with a station
    pub foreign_kept : ((d : D) → IsDisk (state d)) → (part kept : OwnedPart D) → IsInImage part → IsFateOf state o.want.id part (Kept kept) → IsForeign state bases kept.part
    foreign_kept sound part kept was fate told c base rs im among log =
        let known : id < 2 ^ 32 = let n = valid.count in let l = length-map config.volumes.items (shape_in config) in omega (arith, lt, n, l) in
        no_base base among (sym (one_owner id base.volume.began.owner c rs known (says_kept sound told part kept was fate c im) log))

    held_in : (p : OwnedPart D) → IsInImage p → (l : Lane D) → IsTakenLane l → logger_of l ≡ p.logger → IsHeldIn state p l
    held_in p is l taken same =
        let shapes : taken.shape ≡ is.shape = same_Some taken.shape is.shape (sym taken.shape_is ∙ ap (λ (k : ℕ). slice_get (shapes_of config) k) same ∙ is.shape_is) in
        let who : holder (pass_lock (pool_of l)).base.holders p.index ≡ HeldBy id =
        taken.holders p.index ∙ ap (λ (k : ℕ). holder_by (said_at said k) p.index) same ∙ ap (λ (x : Option Said). holder_by x p.index) is.said_is ∙ ap of_head is.head in
        record {
          volume = is.part.of_volume ∙ sym same;
          blocks = is.part.sized ∙ sym (ap (λ (t : Shape). t.segment_blocks) shapes) ∙ sym taken.blocks;
          below = let w = is.within in let s = taken.segments in let e : taken.shape.segments ≡ is.shape.segments = ap (λ (t : Shape). t.segments) shapes in omega (arith, w, s, e);
          holding = ap (λ es. holds (pass_lock (pool_of l)).base (pass_number (pool_of l)) es p.index) taken.unused ∙ ap (is_held_by (pass_number (pool_of l))) who ∙ eq-eqb id (pass_number (pool_of l)) (sym taken.number);
        }

    owned_part : (p : OwnedPart D) → IsInImage p → IsOwned state o.lanes.items p
    owned_part p is =
        let shape = valid_shape config valid p.logger is.shape is.shape_is in
        let sb = valid.segment_blocks in
        let blocks : (state_of state p.part).size ≡ config.segment_blocks = is.part.sized ∙ shape.1 in
        let sbs = shape.1 in
        let home = shape.0.home in
        let few = shape.0.segments in
        let w = is.within in
        let f = is.first in
        let low : p.index ≤ 1024 = omega (arith, w, few) in
        let wide : is.shape.segment_blocks ≤ 65536 = omega (arith, sbs, sb) in
        let most : p.index * is.shape.segment_blocks ≤ 1024 * 65536 = mul-le-mul low wide in
        record {
          size = (omega (arith, blocks, sb), omega (arith, blocks, sb));
          last = omega (arith, f, home, most, blocks, sb);
          held = recursion_from_All (λ (l : Lane D). logger_of l ≡ p.logger → IsHeldIn state p l) o.lanes.items (λ j d below. held_in p is (get_or o.lanes.items j d) (lanes_taken j d below));
        }

    says_owner : (p : OwnedPart D) → IsInImage p → SaysOwner state o.want.id p
    says_owner p is vs told =
        let untouched = ready.untouched.here id p.logger p.index is.saying is.image (omega arith) is.said_is is.head is.out in
        let same : untouched.0 ≡ p.part = same_Some untouched.0 p.part (sym untouched.1 ∙ is.there) in
        let image : IsImageOf (state_of state untouched.0).values (reads vs) = subst (λ (x : Option (List (Values Block))). IsImageOf x (reads vs)) (sym (ap (λ (x : Spun D). (state_of state x).values) same ∙ told)) (image_reads vs) in
        let has = untouched.2 (reads vs) image in
        let block : has.block ≡ owned_block o.want.id = has.spelled.bytes ∙ ap owned_block (sym takes.id) in
        let split = first_block (reads vs) has.block has.first in
        (split.0, split.1 ∙ ap (λ (z : Block). z ∷ split.0) block)

    holds_owned : (l : Lane D) → IsTakenLane l → HoldsOwned o.owned.items l
    holds_owned l taken index held =
        let start : is_held_by (pass_number (pool_of l)) (holder (pass_lock (pool_of l)).base.holders index) ≡ true =
        sym (ap (λ es. holds (pass_lock (pool_of l)).base (pass_number (pool_of l)) es index) taken.unused) ∙ held in
        let said_so : is_held_by (pass_number (pool_of l)) (holder_by (said_at said (logger_of l)) index) ≡ true = sym (ap (is_held_by (pass_number (pool_of l))) (taken.holders index)) ∙ start in
        takes.owned.all (logger_of l) index (owned_place said id (logger_of l) index (sym (ap (λ (n : ℕ). is_held_by n (holder_by (said_at said (logger_of l)) index)) taken.number) ∙ said_so))

    pub can_open : CanOpen state r.shared o
    can_open =
        let locks = ready.closable.locks in
        let spindle_in : id < length r.shared.spindles.items = let c = locks.spindle_count in omega (arith, lt, c) in
        let q = some_at r.shared.spindles.items id spindle_in in
        let spindle = parts.spindles.each id id q.0 o.spindle q.1 takes.spindle_was in
        let image = image_id in
        let rest = parts.images.1 id (shape_of o.want) image.0 takes.shape image.1 in
        let home = subst (λ (h : Option (Spun D)). Rattle.std.specs.Prelude.IfSome h (IsPart state id (shape_of o.want).home)) (takes.home_was image.0 image.1) rest.home in
        let fits = most_fits in
        record {
          want = want_shape.0;
          home_volume = home.of_volume ∙ sym takes.id;
          home_size = home.sized;
          spindle_volume = ap (λ i. i.base.volume) spindle.own ∙ (locks.spindles id q.0 q.1).volume ∙ sym takes.id;
          spindle_free = spindle.free;
          settled = parts.spindles.settled id id o.spindle takes.spindle_was;
          accesses = ready.closable.accesses id id o.spindle takes.spindle_was;
          all = recursion_from_All (HoldsOwned o.owned.items) o.lanes.items (λ j d below. holds_owned (get_or o.lanes.items j d) (lanes_taken j d below));
          at = record {
            spindle_in = let v = r.shared.spindles.ok.0 in let i = takes.id in omega (arith, spindle_in, v, i);
            spindle_is = λ d. spindle.own ∙ ap (λ x. lock_id x) (sym (get_or_from_slice_get r.shared.spindles.items id q.0 d q.1)) ∙ ap (λ (k : ℕ). lock_id (get_or r.shared.spindles.items k d)) (sym takes.id);
            lanes_ = recursion_from_All (IsAt r.shared) o.lanes.items (λ j d below. (lanes_taken j d below).placed);
          };
          lanes = recursion_from_All (IsOpeningLane state r.shared o.want.id o.most) o.lanes.items (λ j d below. opening_lane (get_or o.lanes.items j d) (lanes_taken j d below) (takes.lanes.each j d below));
          loggers = same_loggers;
          most = fits.1;
          in_order = takes.owned.in_order;
          owned = recursion_from_All (IsOwned state o.lanes.items) o.owned.items (λ j d below. owned_part (get_or o.owned.items j d) (parts_in_images j d below));
          heads = recursion_from_All (SaysOwner state o.want.id) o.owned.items (λ j d below. says_owner (get_or o.owned.items j d) (parts_in_images j d below));
        }

    -- it has its row still
    pub place_away : (k : ℕ) → k < length (shapes_of config) → HasPlace new id k
    place_away k within = record {
      row = let n = without.rows_without state config said id view r.rest new o takes in let s = parts.count in omega (arith, n, s, lt);
      volumes = length (shapes_of config);
      rows = without.rows_stay state config said id view r.rest new o takes (length (shapes_of config)) parts.rows;
      within = within;
    }

    -- its home is away then, with the pass of its spindle
    pub home_away : IsHomeAway new id
    home_away =
        let image = image_id in
        let now = without.image_without state config said id view r.rest new o takes id image.0 image.1 in
        record { place = place_away id lt; image = now.0; out = now.1; home = now.2.own refl; spindle = takes.home.spindle_here }

-- ---- The names of a volume that was opened: all loggers of its view are out, and its segments lie on them

logger_named : (view : List ℕ) (logger : ℕ) → is_named view logger ≡ true → Contains view logger
logger_named view logger named =
    let place = a_value (position (λ id. id == logger) view) named in
    let found = at_position (λ id. id == logger) view place.0 place.1 in
    let same : found.0 ≡ logger = eqb-true found.0 logger found.2 in
    (place.0, slice_get_within view place.0 found.0 found.1, get_or_from_slice_get view place.0 found.0 logger found.1 ∙ same)

module _ {D : Type 0} (state : D → State) (config : Config) (shared : Shared D) (said : List (Option Said)) (id : ℕ) (view : List ℕ) (old new : Rest D) (o : Opening D) (takes : TakesOpening state config old new said id view o)
    (can : CanOpen state shared o) (named : IsNamesAnswer o None) where
  pub all_out : loggers_out old view ≡ view
  all_out = sym takes.lanes.loggers_are ∙ loggers_are state shared o can named.1 ∙ takes.view_is

  pub all_inside : (k i : ℕ) → Contains (map place_of o.owned.items) (k, i) → Contains view k
  all_inside k i c =
      let from = of_map place_of o.owned.items (k, i) c in
      let is = of_recursion (λ (x : OwnedPart D). is_named o.view x.logger ≡ true) o.owned.items from.0 (all_named o.view o.owned.items named.2) from.1 in
      let logger : from.0.logger ≡ k = ap (λ (x : ℕ × ℕ). x.0) from.2 in
      subst (λ (l : List ℕ). Contains l k) takes.view_is (subst (λ (n : ℕ). Contains o.view n) logger (logger_named o.view from.0.logger is))
