-- The rack of all volumes, against what was taken out for it.
use Rattle.rack.proofs.Basics.{◌≡◌, ⊎_elim, ℕ, ◌+◌, ◌<◌, ◌≤◌, Bool, List, [], ◌++◌, length, Option, None, Some, option_map, IfSome, refl, sym, ap, ◌∙◌, subst, arith, inl, inr, map, true, false}
use Rattle.rack.proofs.Basics.{is_some, slice_get, All, slice_range, Contains, IsTrue, slice_index_or, cases_lt, length-map, get_or_past, All-nil, none-some, same_Some, slice_get_within}
use Rattle.rack.proofs.Basics.{get_or_from_slice_get, slice_get-map, slice_get-get_or, option_map_or, ◌≢◌, zero, suc, ◌∷◌, option_and_then, IsSome, false≢true, eq-eqb}
use Rattle.rack.proofs.Terms.{State, Block, IsImageOf, reads, image_reads, Told, BayState, at_name, IsHome, Image, outs, Shape, IsValid, Config, VolumeConf, lock_id, pass_seen, pass_mine}
use Rattle.rack.proofs.Terms.{TurnLock, PassOf, SegHead, Free, Owned, segment_head, Spindle, SpindleBase, Spun, HasView, holder, PoolBase, Pool, FreeSegment, Station, notes_of, Part}
use Rattle.rack.proofs.Terms.{DiskFault, shape_in, shapes_of, NoneOut, ImageFault, head_place, IsTold, AreSettled, AreSpindlesOf, image_here, segment_here, IsImageOut, IsPart, IsImageRest}
use Rattle.rack.proofs.Terms.{IsSegmentHere, out_names, NamesVolumes, base_of_station, IsUnused, AreUnused, fault_in_image, RefusesVolume, IsAsRead, IsLeftHere, IsGone, AreViewsAsRead}
use Rattle.rack.proofs.Terms.{HasFaulty, KeepsOthers, WereThere, LeavesAll, KeepsAllSound, IsSaidOf, AreTried, IsOpeningRack, IsTaken, said_at, fault_at, IsCutOf, SaysOf, WasAtEntry}
use Rattle.rack.proofs.Terms.{HasBegun, AreRefusedBelow, view_at, StayedSo, HaveFaults, HasFaultOf, AreSameOut, IsSameBut, TakesFree, Supplies, IsIssuedPool, holder_by, of_head, in_image}
use Rattle.rack.proofs.Terms.{IsSetUp, Said, Issued, ImageRest, Rack, VolumeFault, Absent, WrongLength, Refused, LabelFault, BayFailed, images_taken, HadRefused, AreLeftOfParts, HasFaultAt}
use Rattle.rack.proofs.Terms.{IsNamedHere, has_station, is_kept_home, flight_in, IsQuiet, LeavesVolumes, LeavesNoneOut, SaysOwnerOrFree, Entry, lock_passes, pass_lock, pass_number, IsPassOf}
use Rattle.rack.proofs.Terms.{IsFree, IsNewPass, is_held_by, AreAccesses, HasHead, IsInOrder, IsPassAt, IsRow, pool_pass, spindle_pass, away_with, AreImageRests, IsPoolLock, IsSpindleLock}
use Rattle.rack.proofs.Terms.{ArePoolPasses, AreSpindlePasses, ArePlaced, IsHeldHere, AreLocks, IsRest, AreKeepers, IsStation, IsOpenBase, AreRising, AreOut, AreForeign, HaveHeads}
use Rattle.rack.proofs.Terms.{has_token, holds}
use Rattle.std.specs.Prelude.{vec_capacity}
use Rattle.wol_model.specs.History.{writes}
use Rattle.wol_promise.specs.Ruled.{entries_of}
use Rattle.rack_parts.proofs.Members.{none_in, a_value, element_at, here_within, segment_in_image}
use Rattle.rack.specs.Opens.{BeganWith, KeepsViews}
use Rattle.rack.specs.PoolUses.{HadSegments, holder_of}
use Rattle.rack.proofs.Places.{some_at}
use Rattle.rack.proofs.Names.{names_differ}
use Rattle.rack.proofs.CutParts.{reads_range}
use Rattle.rack.proofs.NewFaults.{told_each, told_with}
use Rattle.rack.proofs.ViewsLeft.{views_left}
use Rattle.rack.proofs.Cases.{by_option, none_or, some_or}
use Rattle.rack.specs.Opening.{IsOut}
use Rattle.rack.specs.declared.all.Taken.{Taken}
use Rattle.rack.proofs.Asking.{refuses_later}
use Rattle.rack.proofs.ImagesSent.{names_out, names_alike, none_named, names_home}
use Rattle.rack.proofs.StillThere.{kept_home, there_left}
use Rattle.rack.proofs.SameOut.{out_at}
use Rattle.turn_lock.specs.LockIds.{LockId}
use Rattle.seg_pool.specs.declared.base.Holder.TheVariants.{Elsewhere, HeldBy}
use Rattle.rack_parts.specs.declared.rack.VolumePasses.{VolumePasses}
use Rattle.rack_parts.proofs.LanesMoved.{all_read}
use Rattle.rack.proofs.Openable.{owned_place, held_owner}
use Rattle.rack.proofs.Without.{no_indexes, none_returned}
use Rattle.volume_images.specs.declared.reading.ImageFault.TheVariants as fault

-- ---- Before its first volume is opened

-- an element of a mapped list comes from one of the list
pub from_map : {X Y : Type 0} (f : X → Y) (xs : List X) (k : ℕ) (y : Y) → slice_get (map f xs) k ≡ Some y → (x : X) × (slice_get xs k ≡ Some x) × (f x ≡ y)
from_map f [] k y is = absurd (none-some y is)
from_map f (x ∷ xs) zero y is = (x, refl, same_Some (f x) y is)
from_map f (x ∷ xs) (suc k) y is = from_map f xs k y is

-- what stands in a row
row_of : {X Y : Type 0} (f : X → List (Option Y)) (rows : List X) (v k : ℕ) (y : Y) → option_and_then (λ q. slice_index_or (f q) k None) (slice_get rows v) ≡ Some y
    → (q : X) × (slice_get rows v ≡ Some q) × (k < length (f q))
row_of {X} f rows v k y here =
    let q = some_or (slice_get rows v) (λ e. none-some y (sym (ap (option_and_then (λ (x : X). slice_index_or (f x) k None)) e) ∙ here)) in
    (q.0, q.1, here_within (f q.0) k y (sym (ap (option_and_then (λ (x : X). slice_index_or (f x) k None)) q.1) ∙ here))

owner_held : (o : Option SegHead) (v : ℕ) → o ≡ Some (Owned v) → is_held_by v (of_head o) ≡ true
owner_held o v is = ap (λ (x : Option SegHead). is_held_by v (of_head x)) is ∙ eq-eqb v v refl

held_by_said : (said : Option Said) (i n : ℕ) → holder_by said i ≡ HeldBy n → (s : Said) × (said ≡ Some s) × (slice_get s.heads.items i ≡ Some (Owned n))
held_by_said None i n is = absurd (cc)
held_by_said (Some s) i n is = (s, refl, owned (slice_get s.heads.items i) is)
  where
    owned : (o : Option SegHead) → of_head o ≡ HeldBy n → o ≡ Some (Owned n)
    owned None is = absurd (cc)
    owned (Some Free) is = absurd (cc)
    owned (Some (Owned w)) is = owner_held_is w is
      where
        owner_held_is : (m : ℕ) → HeldBy m ≡ HeldBy n → Some (Owned m) ≡ Some (Owned n)
        owner_held_is m e = let same : m ≡ n = cc in ap (λ (x : ℕ). Some (Owned x)) same

some_head : (h : SegHead) → of_head (Some h) ≢ Elsewhere
some_head Free e = cc
some_head (Owned owner) e = cc

-- the image of volume k says this, its free segments went to the pool, and the others are here
pub record IsSupplier {D : Type 0} (volumes : ℕ) (said : Said) (r : ImageRest D) : Type 0 where
  pub count : length said.heads.items ≡ length r.segments.items
  pub free : (i : ℕ) → slice_get said.heads.items i ≡ Some Free → segment_here r i ≡ None
  pub owned : (i owner : ℕ) → slice_get said.heads.items i ≡ Some (Owned owner) → IsSome (segment_here r i) × (owner < volumes)

-- what always begins with an owner's head says the owner
pub says_owner : (volumes w : ℕ) (c : List Block) → HasHead volumes c (segment_head (Owned w)) → SaysOwnerOrFree w c
says_owner volumes w [] head = absurd (none-some head.block head.first)
says_owner volumes w (b ∷ bs) head = inl (same_Some b head.block head.first ∙ head.spelled.bytes)

module _ {D : Type 0} (state : D → State) (config : Config) (spindles : List (Issued Spindle SpindleBase)) (pools : List (Issued (Pool (FreeSegment D)) PoolBase)) (said : List (Option Said)) (r : Rack D) where
  abbrev volumes : ℕ
  volumes = length (shapes_of config)

  abbrev saying : ℕ → Option Said
  saying k = slice_index_or said k None

  -- what holds of the parts of a rack that is set up
  pub record AreFirst : Type 0 where
    pub set_up : IsSetUp spindles pools volumes r
    pub spindle_count : length spindles ≡ volumes
    pub spindles_are : AreSpindlesOf volumes config.timeout spindles
    pub pool_count : length pools ≡ volumes
    pub pools_are : (k : ℕ) (s : Shape) (i : Issued (Pool (FreeSegment D)) PoolBase) → slice_get (shapes_of config) k ≡ Some s → slice_get pools k ≡ Some i → IsIssuedPool volumes k s (saying k) i
    pub images : AreImageRests state config r.rest.images.items
    pub homes : (k : ℕ) (image : ImageRest D) → image_here r.rest.images.items k ≡ Some image → IsSome image.home
    pub out : (k : ℕ) (image : ImageRest D) → image_here r.rest.images.items k ≡ Some image → (s : Said) × (saying k ≡ Some s) × IsSupplier volumes s image
    pub silent : (k : ℕ) → image_here r.rest.images.items k ≡ None → saying k ≡ None

  module _ (first : AreFirst) where
    pools_long : length r.shared.pools.items ≡ volumes
    pools_long = ap length first.set_up.pool_locks ∙ length-map pools (λ (j : Issued (Pool (FreeSegment D)) PoolBase). j.lock) ∙ first.pool_count

    spindles_long : length r.shared.spindles.items ≡ volumes
    spindles_long = ap length first.set_up.spindle_locks ∙ length-map spindles (λ (j : Issued Spindle SpindleBase). j.lock) ∙ first.spindle_count

    -- a pass that is here is one of a volume at one
    pool_row : (v k : ℕ) (p : PassOf (Pool (FreeSegment D)) PoolBase) → pool_pass r.rest v k ≡ Some p → (v < volumes) × (k < volumes)
    pool_row v k p here =
        let q = row_of (λ (x : VolumePasses D). x.pools.items) r.rest.passes.items v k p here in
        let row = all_read (λ (x : VolumePasses D). IsRow volumes x) r.rest.passes.items v q.0 q.1 first.set_up.rows in
        let below = slice_get_within r.rest.passes.items v q.0 q.1 in
        (omega (arith, below, first.set_up.count), omega (arith, q.2, row.pools))

    spindle_row : (v k : ℕ) (p : PassOf Spindle SpindleBase) → spindle_pass r.rest v k ≡ Some p → (v < volumes) × (k < volumes)
    spindle_row v k p here =
        let q = row_of (λ (x : VolumePasses D). x.spindles.items) r.rest.passes.items v k p here in
        let row = all_read (λ (x : VolumePasses D). IsRow volumes x) r.rest.passes.items v q.0 q.1 first.set_up.rows in
        let below = slice_get_within r.rest.passes.items v q.0 q.1 in
        (omega (arith, below, first.set_up.count), omega (arith, q.2, row.spindles))

    -- and has its lock
    pub pool_there : (v k : ℕ) (p : PassOf (Pool (FreeSegment D)) PoolBase) → pool_pass r.rest v k ≡ Some p → (l : TurnLock (Pool (FreeSegment D)) PoolBase) × (slice_get r.shared.pools.items k ≡ Some l)
    pool_there v k p here = element_at r.shared.pools.items k (let row = pool_row v k p here in omega (arith, row.1, pools_long))

    pub spindle_there : (v k : ℕ) (p : PassOf Spindle SpindleBase) → spindle_pass r.rest v k ≡ Some p → (l : TurnLock Spindle SpindleBase) × (slice_get r.shared.spindles.items k ≡ Some l)
    spindle_there v k p here = element_at r.shared.spindles.items k (let row = spindle_row v k p here in omega (arith, row.1, spindles_long))

    pool_at : (k : ℕ) (l : TurnLock (Pool (FreeSegment D)) PoolBase) → slice_get r.shared.pools.items k ≡ Some l
        → (i : Issued (Pool (FreeSegment D)) PoolBase) × (slice_get pools k ≡ Some i) × (i.lock ≡ l) × ((s : Shape) × (slice_get (shapes_of config) k ≡ Some s) × IsIssuedPool volumes k s (saying k) i)
    pool_at k l is =
        let f = from_map (λ (i : Issued (Pool (FreeSegment D)) PoolBase). i.lock) pools k l (ap (λ (ls : List (TurnLock (Pool (FreeSegment D)) PoolBase)). slice_get ls k) (sym first.set_up.pool_locks) ∙ is) in
        let s = element_at (shapes_of config) k (let w = slice_get_within pools k f.0 f.1 in omega (arith, w, first.pool_count)) in
        (f.0, f.1, f.2, (s.0, s.1, first.pools_are k s.0 f.0 s.1 f.1))

    spindle_at : (k : ℕ) (l : TurnLock Spindle SpindleBase) → slice_get r.shared.spindles.items k ≡ Some l → (i : Issued Spindle SpindleBase) × (slice_get spindles k ≡ Some i) × (i.lock ≡ l)
    spindle_at k l is = from_map (λ (i : Issued Spindle SpindleBase). i.lock) spindles k l (ap (λ (ls : List (TurnLock Spindle SpindleBase)). slice_get ls k) (sym first.set_up.spindle_locks) ∙ is)

    -- a pass that is here is the new pass of its volume
    pub pool_new : (v k : ℕ) (l : TurnLock (Pool (FreeSegment D)) PoolBase) (p : PassOf (Pool (FreeSegment D)) PoolBase) → slice_get r.shared.pools.items k ≡ Some l → pool_pass r.rest v k ≡ Some p → IsNewPass l v p
    pool_new v k l p lock here =
        let at = pool_at k l lock in
        let lt = (pool_row v k p here).0 in
        let is : slice_get at.0.passes.items v ≡ Some p = sym (first.set_up.pool_passes v k at.0 lt at.1) ∙ here in
        let new = at.3.2.passes v p (slice_get_within at.0.passes.items v p is) in
        subst (λ (x : TurnLock (Pool (FreeSegment D)) PoolBase). IsNewPass x v p) at.2
        (subst (IsNewPass at.0.lock v) (get_or_from_slice_get at.0.passes.items v p p is) new)

    pub spindle_in : (v k : ℕ) (l : TurnLock Spindle SpindleBase) (p : PassOf Spindle SpindleBase) → slice_get r.shared.spindles.items k ≡ Some l → spindle_pass r.rest v k ≡ Some p
        → (i : Issued Spindle SpindleBase) × (slice_get spindles k ≡ Some i) × (i.lock ≡ l) × (v < volumes) × (slice_get i.passes.items v ≡ Some p)
    spindle_in v k l p lock here =
        let at = spindle_at k l lock in
        let lt = (spindle_row v k p here).0 in
        (at.0, at.1, at.2, lt, sym (first.set_up.spindle_passes v k at.0 lt at.1) ∙ here)

    in_order : (k : ℕ) (i : Issued Spindle SpindleBase) → slice_get spindles k ≡ Some i → IsInOrder i
    in_order k i is = subst IsInOrder (get_or_from_slice_get spindles k i i is) (first.spindles_are.each k i (slice_get_within spindles k i is))

    spindle_lock : (k : ℕ) (i : Issued Spindle SpindleBase) → slice_get spindles k ≡ Some i → IsSpindleLock volumes k config.timeout i.lock
    spindle_lock k i is = subst (λ (x : Issued Spindle SpindleBase). IsSpindleLock volumes k config.timeout x.lock) (get_or_from_slice_get spindles k i i is) (first.spindles_are.spindles k i (slice_get_within spindles k i is))

    -- a pass that was issued with the lock of a spindle
    spindle_own : (v k : ℕ) (l : TurnLock Spindle SpindleBase) (p : PassOf Spindle SpindleBase) (i : Issued Spindle SpindleBase) → slice_get spindles k ≡ Some i → i.lock ≡ l → slice_get i.passes.items v ≡ Some p → IsPassAt l v p
    spindle_own v k l p i is lock at =
        let order = in_order k i is in
        let within = slice_get_within i.passes.items v p at in
        let same = get_or_from_slice_get i.passes.items v p p at in
        let whole = order.whole.each v p within in
        record {
          own = subst (λ (x : TurnLock Spindle SpindleBase). IsPassOf x p) lock (subst (IsPassOf i.lock) same whole.0);
          free = subst IsFree same whole.1;
          number_is = ap pass_number (sym same) ∙ order.numbered v p within;
        }

    pools_here : ArePoolPasses r.shared (away_with []) r.rest
    pools_here = record {
      here = λ v k row within.
          let i = element_at pools k (omega (arith, within, pools_long, first.pool_count)) in
          let s = element_at (shapes_of config) k (let w = slice_get_within pools k i.0 i.1 in omega (arith, w, first.pool_count)) in
          let lt : v < volumes = omega (arith, row, first.set_up.count) in
          let p = element_at i.0.passes.items v (let c = (first.pools_are k s.0 i.0 s.1 i.1).count in omega (arith, c, lt)) in
          (λ some. none_in (v, k), λ none. ap is_some (first.set_up.pool_passes v k i.0 lt i.1 ∙ p.1));
      each = λ v k l p lock here. (pool_new v k l p lock here).at;
    }

    spindles_here : AreSpindlePasses r.shared (away_with []) r.rest
    spindles_here = record {
      here = λ v k row within.
          let i = element_at spindles k (omega (arith, within, spindles_long, first.spindle_count)) in
          let lt : v < volumes = omega (arith, row, first.set_up.count) in
          let size = (in_order k i.0 i.1).whole.count ∙ (spindle_lock k i.0 i.1).passes in
          let p = element_at i.0.passes.items v (omega (arith, size, lt)) in
          (λ some. λ out. ⊎_elim (none_in (v, k)) (λ own. none_in v own.1) out, λ none. ap is_some (first.set_up.spindle_passes v k i.0 lt i.1 ∙ p.1));
      each = λ v k l p lock here.
          let at = spindle_in v k l p lock here in
          spindle_own v k l p at.0 at.1 at.2 at.4;
      settled = λ v k p here.
          let lock = spindle_there v k p here in
          let at = spindle_in v k lock.0 p lock.1 here in
          let within = slice_get_within at.0.passes.items v p at.4 in
          let settled = first.spindles_are.settled k at.0 (slice_get_within spindles k at.0 at.1) in
          subst (λ (x : PassOf Spindle SpindleBase). has_token (pass_mine x) ≡ false) (get_or_from_slice_get at.0.passes.items v p p at.4)
          ((subst (λ (x : Issued Spindle SpindleBase). AreSettled k x) (get_or_from_slice_get spindles k at.0 at.0 at.1) settled).settled v p within);
    }

    -- who holds a segment of an image when its lock is made
    pub holder_is : (k i : ℕ) (l : TurnLock (Pool (FreeSegment D)) PoolBase) → slice_get r.shared.pools.items k ≡ Some l → holder (lock_id l).base.holders i ≡ holder_by (saying k) i
    holder_is k i l lock = (let at = pool_at k l lock in subst (λ (x : TurnLock (Pool (FreeSegment D)) PoolBase). holder (lock_id x).base.holders i ≡ holder_by (saying k) i) at.2 (at.3.2.holders i))

    -- what a new pass holds
    pub new_holds : (v k i : ℕ) (l : TurnLock (Pool (FreeSegment D)) PoolBase) (p : PassOf (Pool (FreeSegment D)) PoolBase) → slice_get r.shared.pools.items k ≡ Some l → pool_pass r.rest v k ≡ Some p
        → holds (pass_lock p).base (pass_number p) (pass_mine p) i ≡ is_held_by v (holder_by (saying k) i)
    new_holds v k i l p lock here =
        let new = pool_new v k l p lock here in
        ap (λ (es : List Entry). holds (pass_lock p).base (pass_number p) es i) new.mine
        ∙ ap (λ (x : LockId PoolBase). is_held_by (pass_number p) (holder x.base.holders i)) new.own
        ∙ ap (λ (n : ℕ). is_held_by n (holder (lock_id l).base.holders i)) new.number_is
        ∙ ap (is_held_by v) (holder_is k i l lock)

    pool_lock_at : (k : ℕ) (image : ImageRest D) → image_here r.rest.images.items k ≡ Some image → (l : TurnLock (Pool (FreeSegment D)) PoolBase) × (slice_get r.shared.pools.items k ≡ Some l)
    pool_lock_at k image is =
        let lt = here_within r.rest.images.items k image is in
        element_at r.shared.pools.items k (omega (arith, lt, first.images.0, pools_long))

    placed : ArePlaced r.shared (away_with []) r.rest
    placed = record {
      known = λ k i l image lock is within.
          let o = first.out k image is in
          let h = element_at o.0.heads.items i (omega (arith, within, o.2.count)) in
          λ gone. some_head h.0 (sym (ap of_head h.1) ∙ sym (ap (λ (s : Option Said). holder_by s i) o.1) ∙ sym (holder_is k i l lock) ∙ gone);
      known_passes = λ k i n l lock held.
          let at = pool_at k l lock in
          let owner = held_by_said (saying k) i n (sym (holder_is k i l lock) ∙ held) in
          let lt = owner_below k owner.0 owner.1 i n owner.2 in
          subst (λ (x : TurnLock (Pool (FreeSegment D)) PoolBase). n < lock_passes x) at.2 (subst (λ (m : ℕ). n < m) (sym at.3.2.lock.passes) lt);
      here = λ k i image is within.
          let o = first.out k image is in
          let l = pool_lock_at k image is in
          let h = element_at o.0.heads.items i (omega (arith, within, o.2.count)) in (
            λ some. (owned_here k i image is o.0 o.1 o.2 l.0 l.1 h.0 h.1 some, none_in (k, i)),
            λ both.
                let v = both.0.0 in let hold = both.0.1 in
                let owner = held_owner (slice_get o.0.heads.items i) v (ap (λ (s : Option Said). is_held_by v (holder_by s i)) (sym o.1) ∙ sym (new_holds v k i l.0 hold.0 l.1 hold.1) ∙ hold.2) in
                (o.2.owned i v owner).0,
          );
      others = λ k i l lock none. holder_is k i l lock ∙ ap (λ (s : Option Said). holder_by s i) (first.silent k none);
    }
      where
        owner_below : (k : ℕ) (s : Said) → saying k ≡ Some s → (i n : ℕ) → slice_get s.heads.items i ≡ Some (Owned n) → n < volumes
        owner_below k s is i n owned =
            let image = some_or (image_here r.rest.images.items k) (λ none. none-some s (sym (first.silent k none) ∙ is)) in
            let o = first.out k image.0 image.1 in
            (o.2.owned i n (ap (λ (x : Said). slice_get x.heads.items i) (same_Some o.0 s (sym o.1 ∙ is)) ∙ owned)).1

        owned_here : (k i : ℕ) (image : ImageRest D) → image_here r.rest.images.items k ≡ Some image → (s : Said) → saying k ≡ Some s → IsSupplier volumes s image
            → (l : TurnLock (Pool (FreeSegment D)) PoolBase) → slice_get r.shared.pools.items k ≡ Some l → (h : SegHead) → slice_get s.heads.items i ≡ Some h → IsSome (segment_here image i) → IsHeldHere r.rest k i
        owned_here k i image is s said_is supplier l lock Free head some = absurd (false≢true (sym (ap is_some (supplier.free i head)) ∙ some))
        owned_here k i image is s said_is supplier l lock (Owned owner) head some =
            let at = pool_at k l lock in
            let below : owner < volumes = (supplier.owned i owner head).1 in
            let p = element_at at.0.passes.items owner (let c = at.3.2.count in omega (arith, c, below)) in
            let here : pool_pass r.rest owner k ≡ Some p.0 = first.set_up.pool_passes owner k at.0 below at.1 ∙ p.1 in
            let holding = new_holds owner k i l p.0 lock here ∙ ap (λ (x : Option Said). is_held_by owner (holder_by x i)) said_is ∙ owner_held (slice_get s.heads.items i) owner head in
            (owner, (p.0, here, holding), no_indexes r.rest first.set_up.held owner k i)

    pub first_rest : IsRest state config r.shared [] r.rest
    first_rest = record {
      parts = record {
        images = first.images;
        homes = λ k image is. (λ some. none_in k, λ none. first.homes k image is);
        count = first.set_up.count;
        rows = first.set_up.rows;
        pools = pools_here;
        spindles = spindles_here;
        returned = none_returned state config r.rest first.set_up.held;
        placed = placed;
      };
      rooms = first.set_up.rooms;
    }

    pub first_locks : AreLocks config r.shared
    first_locks = record {
      pool_count = pools_long;
      spindle_count = spindles_long;
      pools = λ k s l shape lock.
          let at = pool_at k l lock in
          subst (λ (x : TurnLock (Pool (FreeSegment D)) PoolBase). IsPoolLock volumes k s x) at.2
          (subst (λ (x : Shape). IsPoolLock volumes k x at.0.lock) (same_Some at.3.0 s (sym at.3.1 ∙ shape)) at.3.2.lock);
      spindles = λ k l lock. (let at = spindle_at k l lock in subst (IsSpindleLock volumes k config.timeout) at.2 (spindle_lock k at.0 at.1));
    }

    pub first_keepers : AreKeepers config r.shared r.keepers.items
    first_keepers = (
      first.set_up.keeper_count,
      λ k l p lock keeper.
          let at = spindle_at k l lock in
          spindle_own volumes k l p at.0 at.1 at.2 (sym (first.set_up.keepers k at.0 at.1) ∙ keeper),
    )

    -- all that opening the volumes needs
    pub record IsReadyFirst (b : BayState) : Type 0 where
      pub out : AreOut config r.rest.images.items b
      pub tried : AreTried config 0 r
      pub says : (k : ℕ) (s : Shape) → slice_get (shapes_of config) k ≡ Some s → IsImageOut r.rest.images.items k → (own : Said) × (said_at said k ≡ Some own) × IsSaidOf (length (shapes_of config)) k s own
      pub said_count : length said ≡ length (shapes_of config)
      pub heads : (k : ℕ) (image : ImageRest D) (own : Said) → image_here r.rest.images.items k ≡ Some image → said_at said k ≡ Some own → HaveHeads state (length (shapes_of config)) own image
      pub accesses : (k : ℕ) (i : Issued Spindle SpindleBase) → slice_get spindles k ≡ Some i → All (λ p. AreAccesses (pass_mine p)) i.passes.items

    module _ (b : BayState) (ready : IsReadyFirst b) where
      none : r.stations.items ≡ []
      none = first.set_up.stations.0

      -- the image says what it is said to
      supplier : (k : ℕ) (image : ImageRest D) (own : Said) → image_here r.rest.images.items k ≡ Some image → said_at said k ≡ Some own → IsSupplier (length (shapes_of config)) own image
      supplier k image own is says =
          let o = first.out k image is in
          subst (λ (x : Said). IsSupplier (length (shapes_of config)) x image) (same_Some o.0 own (sym o.1 ∙ says)) o.2

      -- a pass of another's spindle wasn't used
      others_unused : (v k : ℕ) (p : PassOf Spindle SpindleBase) → v ≢ k → spindle_pass r.rest v k ≡ Some p → pass_mine p ≡ []
      others_unused v k p other here =
          let lock = spindle_there v k p here in
          let at = spindle_in v k lock.0 p lock.1 here in
          let settled : AreSettled k at.0 = subst (AreSettled k) (get_or_from_slice_get spindles k at.0 at.0 at.1) (first.spindles_are.settled k at.0 (slice_get_within spindles k at.0 at.1)) in
          ap (λ (x : PassOf Spindle SpindleBase). pass_mine x) (sym (get_or_from_slice_get at.0.passes.items v p p at.4)) ∙ settled.others v p other (slice_get_within at.0.passes.items v p at.4)

      pub first_opening : IsOpeningRack state config b said 0 r
      first_opening = record {
        being = record {
          closable = record {
            accesses = λ v k p here.
                let lock = spindle_there v k p here in
                let at = spindle_in v k lock.0 p lock.1 here in
                subst (λ (x : PassOf Spindle SpindleBase). AreAccesses (pass_mine x)) (get_or_from_slice_get at.0.passes.items v p p at.4)
                (ready.accesses k at.0 at.1 v p (slice_get_within at.0.passes.items v p at.4));
            out = ready.out;
            locks = first_locks;
            keepers = first_keepers;
            stations = subst (All (λ (s : Station D). IsStation s)) (sym none) (All-nil (λ (s : Station D). IsStation s));
            rising = subst (λ (l : List (Station D)). AreRising (map (λ (s : Station D). s.id) l)) (sym none) tt;
            bases = subst (All (λ (s : Station D). IsOpenBase config r.shared r.rest.images.items (base_of_station s))) (sym none) (All-nil (λ (s : Station D). IsOpenBase config r.shared r.rest.images.items (base_of_station s)));
            rest = subst (λ (l : List (Station D)). IsRest state config r.shared (map (λ (s : Station D). base_of_station s) l) r.rest) (sym none) (first_rest);
            foreign = subst (λ (l : List (Station D)). AreForeign state (map (λ (s : Station D). base_of_station s) l) r.rest) (sym none) (record {
              places = λ k i image p is here tells c base rs image_of has log. none_in base has;
              held = λ v k i p has tells c base rs image_of among log. none_in base among;
            });
          };
          fresh = subst (All (λ (s : Station D). IsUnused s.worker × IsUnused s.helper × IsUnused s.keeper)) (sym none) (All-nil (λ (s : Station D). IsUnused s.worker × IsUnused s.helper × IsUnused s.keeper));
          says = ready.says;
          silent = first.silent;
          pools = λ k i l lock. holder_is k i l lock;
          said_count = ready.said_count;
          unheld = first.set_up.held;
          since = λ v k i p here has.
              let lock = pool_there v k p here in
              owned_place said v k i (sym (new_holds v k i lock.0 p lock.1 here) ∙ has);
          owners = record {
            closed = λ k i w own image p says owned is here has. none_in w (subst (λ (l : List (Station D)). Contains (map (λ (s : Station D). s.id) l) w) none has);
            says = λ k i w own image p says owned is here tells c image_of. says_owner (length (shapes_of config)) w c (ready.heads k image own is says i p (Owned w) here owned c image_of);
            free = λ k i own image says free is. (supplier k image own is says).free i free;
          };
          users = record {
            opened = subst (All (λ (s : Station D). view_at said s.id ≡ (base_of_station s).volume.began.view)) (sym none) (All-nil (λ (s : Station D). view_at said s.id ≡ (base_of_station s).volume.began.view));
            unused = λ v k p other never here. others_unused v k p other here;
            unused_pools = λ v k p never here. (let lock = pool_there v k p here in (pool_new v k lock.0 p lock.1 here).mine);
          };
        };
        station_room = let e = ap length none in let c = first.set_up.stations.1 in omega (arith, e, c);
        manager_room = let e = ap length none in let c = first.set_up.managers in omega (arith, e, c);
        tried = ready.tried;
        untouched = record {
          passes = λ v k p behind here. (let lock = pool_there v k p here in (pool_new v k lock.0 p lock.1 here).mine);
          here = λ v k i own image behind says owned is.
              let found = a_value (segment_here image i) ((supplier k image own is says).owned i v owned).0 in
              (found.0, found.1, ready.heads k image own is says i found.0 (Owned v) found.1 owned);
        };
      }

-- ---- Faults

-- a fault that an image was refused for names its volume
names_of_refused : {D : Type 0} (tells : Bool) (state : D → State) (config : Config) (b b1 : BayState) (volumes k : ℕ) (v : VolumeConf) (f : VolumeFault) → k < volumes → RefusesVolume {D = D} tells state config [] b b1 k v f → NamesVolumes volumes f
names_of_refused tells state config b b1 volumes k v Absent lt r = tt
names_of_refused tells state config b b1 volumes k v (WrongLength bytes) lt r = tt
names_of_refused tells state config b b1 volumes k v LabelFault lt r = tt
names_of_refused tells state config b b1 volumes k v BayFailed lt r = tt
names_of_refused tells state config b b1 volumes k v (Refused why) lt r =
    ⊎_elim (λ image. subst (NamesVolumes volumes) (sym image.is_fault) (go image.image_fault)) (λ opening. absurd (cc opening.is_out)) r
  where
    go : (e : ImageFault) → NamesVolumes volumes (fault_in_image k e)
    go (fault.Damaged block) = lt
    go fault.LabelDiffers = tt
    go fault.LabelFault = tt
    go (fault.SegmentFault index) = lt

-- a refusal of an image is one of the rack where the image isn't out
refused_with : {D : Type 0} (tells : Bool) (state : D → State) (config : Config) (out : List (Option (ImageRest D))) (b b1 : BayState) (k : ℕ) (v : VolumeConf) (f : VolumeFault) → image_here out k ≡ None
    → RefusesVolume {D = D} tells state config [] b b1 k v f → RefusesVolume tells state config out b b1 k v f
refused_with tells state config out b b1 k v Absent none r = (none, r.1)
refused_with tells state config out b b1 k v (WrongLength bytes) none r = (none, r.1)
refused_with tells state config out b b1 k v BayFailed none r = ((none, r.0.1), r.1)
refused_with tells state config out b b1 k v LabelFault none r = record { not_out = none; image_fault = r.image_fault; is_fault = r.is_fault; said = r.said; cause = r.cause; faulty = r.faulty }
refused_with tells state config out b b1 k v (Refused why) none r =
    ⊎_elim (λ i. inl (record { not_out = none; image_fault = i.image_fault; is_fault = i.is_fault; said = i.said; cause = i.cause; faulty = i.faulty })) (λ o. absurd (cc o.is_out)) r

head_said : (o : Option SegHead) → of_head o ≡ holder_of (option_map segment_head o)
head_said None = refl
head_said (Some Free) = refl
head_said (Some (Owned owner)) = refl

-- the part of a volume is a part that is here
pub fault_here : {D : Type 0} (state : D → State) (said : List (Option Said)) (k : ℕ) (name : Part) (r : Rack D) → HasFaultOf state said k name r.rest → HasFaultAt state r.rest name
fault_here {D} state said k name r has = record {
  part = has.part;
  here = ⊎_elim (λ home. subst (λ (n : Part). IsNamedHere r.rest n has.part) (sym home.3) (home.0, home.1, home.2))
      (λ own.
      let image = some_or (image_here r.rest.images.items own.0) (λ e. none-some has.part (sym (ap (λ (x : Option (ImageRest D)). in_image x own.1) e) ∙ own.3)) in
      subst (λ (n : Part). IsNamedHere r.rest n has.part) (sym own.4) (inl (image.0, image.1, sym (segment_in_image r.rest own.0 image.0 image.1 own.1) ∙ own.3))) has.here;
  fault = has.fault;
}

-- each row of passes has one for each volume, and each spindle's one for its keeper besides
pub count_spindles : {D : Type 0} (tells : Bool) (state : D → State) (config : Config) (b b1 : BayState) (t : Taken D) → IsTaken tells state config b b1 t
    → All (λ (i : Issued Spindle SpindleBase). length i.passes.items ≡ length t.spindles.items + 1) t.spindles.items
count_spindles tells state config b b1 t taken k d lt =
    (taken.spindles.each k d lt).whole.count ∙ (taken.spindles.spindles k d lt).passes ∙ ap (λ (n : ℕ). n + 1) (sym taken.spindle_count)

-- the keepers' passes weren't used
pub fresh_passes : {D : Type 0} (tells : Bool) (state : D → State) (config : Config) (b b1 : BayState) (t : Taken D) (taken : IsTaken tells state config b b1 t)
    (r : Rack D) → IsSetUp t.spindles.items t.pools.items (length t.spindles.items) r → All (λ (p : PassOf Spindle SpindleBase). IsUnused p) r.keepers.items
fresh_passes {D} tells state config b b1 t taken r set_up = λ k d lt. unused k d lt
  where
    unused : (k : ℕ) (d : PassOf Spindle SpindleBase) → k < length r.keepers.items → IsUnused (slice_index_or r.keepers.items k d)
    unused k d lt =
        let i = some_at t.spindles.items k (let c = set_up.keeper_count in omega (arith, lt, c)) in
        let within = slice_get_within t.spindles.items k i.0 i.1 in
        let same = get_or_from_slice_get t.spindles.items k i.0 i.0 i.1 in
        let settled : AreSettled k i.0 = subst (AreSettled k) same (taken.spindles.settled k i.0 within) in
        let count = subst (λ (x : Issued Spindle SpindleBase). length x.passes.items ≡ length t.spindles.items + 1) same (count_spindles tells state config b b1 t taken k i.0 within) in
        let p = some_at i.0.passes.items (length t.spindles.items) (omega (arith, count)) in
        let is : slice_index_or r.keepers.items k d ≡ p.0 = get_or_from_slice_get r.keepers.items k p.0 d (set_up.keepers k i.0 i.1 ∙ p.1) in
        let last = settled.last (length t.spindles.items) p.0 count in
        let at = get_or_from_slice_get i.0.passes.items (length t.spindles.items) p.0 p.0 p.1 in
        subst IsUnused (sym is) (record { seen = ap pass_seen (sym at) ∙ last.0; mine = ap pass_mine (sym at) ∙ last.1 })

pub count_pools : {D : Type 0} (tells : Bool) (state : D → State) (config : Config) (b b1 : BayState) (t : Taken D) → IsTaken tells state config b b1 t
    → All (λ (i : Issued (Pool (FreeSegment D)) PoolBase). length i.passes.items ≡ length t.spindles.items) t.pools.items
count_pools tells state config b b1 t taken k d lt =
    let long = length-map config.volumes.items (shape_in config) in
    let count = taken.pool_count in
    let s = some_at (shapes_of config) k (omega (arith, lt, long, count)) in
    (taken.pools k s.0 (slice_index_or t.pools.items k d) s.1 (slice_get-get_or t.pools.items k d lt)).count ∙ sym taken.spindle_count

-- of what a bay tells, where it does
pub told_at : {P : Told → Type 0} (o : Option Told) → ((t : Told) → o ≡ Some t → P t) → IfSome o P
told_at None each = tt
told_at (Some t) each = each t refl

-- no pass of a station was used, so none wrote
pub quiet_stations : {D : Type 0} (stations : List (Station D)) → AreUnused stations → All (λ (s : Station D). IsQuiet s) stations
quiet_stations stations unused k d lt =
    let u = unused k d lt in
    let w0 = ap (λ m. writes (entries_of (notes_of m))) u.0.mine in
    let w1 = ap (λ m. writes (entries_of (notes_of m))) u.1.mine in
    let w2 = ap (λ m. writes (entries_of (notes_of m))) u.2.mine in
    ((ap flight_in u.0.mine, ap flight_in u.1.mine, ap flight_in u.2.mine), (w0, w1, w2))

-- ---- The rack of what was taken out

module _ {D : Type 0} (tells : Bool) (state : D → State) (config : Config) (valid : IsValid config) (b b1 : BayState) (t : Taken D) (taken : IsTaken tells state config b b1 t) where
  abbrev pub before : List (Option (ImageRest D))
  before = taken.before.out.items

  abbrev pub out : List (Option (ImageRest D))
  out = t.images.out.items

  abbrev pub said : List (Option Said)
  said = t.images.said.items

  pub many : length (shapes_of config) ≡ length config.volumes.items
  many = length-map config.volumes.items (shape_in config)

  pub same_said : (k : ℕ) → said_at said k ≡ said_at taken.before.said.items k
  same_said k = ap (λ (x : _). said_at x.items k) taken.same.0

  -- the same images are out
  pub alike : (k : ℕ) → is_some (image_here out k) ≡ is_some (image_here before k)
  alike k = go (said_at taken.before.said.items k) (image_here before k) (image_here out k) (taken.supplies k)
    where
      go : (o : Option Said) (p q : Option (ImageRest D)) → Supplies o p q → is_some q ≡ is_some p
      go None p q e = ap is_some e
      go (Some own) None q e = ap is_some e
      go (Some own) (Some r) None e = absurd e
      go (Some own) (Some r) (Some n) e = refl

  -- what is left here of an image that is out
  pub record IsLess (k : ℕ) (s : Shape) (n : ImageRest D) : Type 0 where
    pub was : ImageRest D
    pub was_is : image_here before k ≡ Some was
    pub of : IsOut state (length (shapes_of config)) k s taken.before was
    pub same : IsSameBut was n
    pub takes : TakesFree of.said.heads.items was.segments.items n.segments.items

  pub less : (k : ℕ) (s : Shape) (n : ImageRest D) → slice_get (shapes_of config) k ≡ Some s → image_here out k ≡ Some n → IsLess k s n
  less k s n is here =
      let q = some_or (image_here before k) (λ e. let f = alike k in let g = ap is_some e in let h = ap is_some here in cc (f, g, h)) in
      let of = taken.asked.out k s q.0 is q.1 in
      let takes : Supplies (Some of.said) (Some q.0) (Some n) = subst (λ (x : Option (ImageRest D)). Supplies (Some of.said) (Some q.0) x) here
      (subst (λ (x : Option (ImageRest D)). Supplies (Some of.said) x (image_here out k)) q.1 (subst (λ (x : Option Said). Supplies x (image_here before k) (image_here out k)) of.said_is (taken.supplies k))) in
      record { was = q.0; was_is = q.1; of = of; same = takes.0; takes = takes.1 }

  pub none_before : (k : ℕ) → image_here out k ≡ None → image_here before k ≡ None
  none_before k none = by_option (image_here before k)
      (λ e. e)
      (λ r e. let f = alike k in let g = ap is_some none in let h = ap is_some e in absurd (cc (f, g, h)))

  pub shape_at : (k : ℕ) → k < length config.volumes.items → (s : Shape) × (slice_get (shapes_of config) k ≡ Some s)
  shape_at k lt = some_at (shapes_of config) k (omega (arith, lt, many))

  pub volume_at : (k : ℕ) → k < length config.volumes.items → (v : VolumeConf) × (slice_get config.volumes.items k ≡ Some v)
  volume_at k lt = some_at config.volumes.items k lt

  pub within : (k : ℕ) (n : ImageRest D) → image_here out k ≡ Some n → k < length config.volumes.items
  within k n here =
      let lt = here_within out k n here in
      let c = taken.out_count in
      let d = taken.asked.out_count in
      omega (arith, lt, c, d)

  pub silent : (k : ℕ) → image_here out k ≡ None → said_at said k ≡ None
  silent k none =
      ⊎_elim
      (λ (lt : k < length config.volumes.items). let v = volume_at k lt in same_said k ∙ (taken.asked.refused k v.0 lt v.1 (none_before k none)).unsaid)
      (λ (past : length config.volumes.items ≤ k). same_said k ∙ get_or_past taken.before.said.items k None (let c = taken.asked.said_count in omega (arith, past, c)))
      (cases_lt k (length config.volumes.items))

  module _ (k : ℕ) (s : Shape) (n : ImageRest D) (l : IsLess k s n) where
    -- a segment that is still here is another's
    pub still : (i : ℕ) (p : Spun D) (h : SegHead) → slice_get l.of.said.heads.items i ≡ Some h → segment_here n i ≡ Some p → segment_here l.was i ≡ Some p
    still i p Free head there = absurd (none-some p (sym (l.takes.each i Free head) ∙ there))
    still i p (Owned owner) head there = sym (l.takes.each i (Owned owner) head) ∙ there

    pub still_here : (i : ℕ) (p : Spun D) → segment_here n i ≡ Some p → segment_here l.was i ≡ Some p
    still_here i p there =
        let w = here_within n.segments.items i p there in
        let h = some_at l.of.said.heads.items i (let a = l.of.says.count in let c = l.same.count in let d = l.of.rest.count in omega (arith, w, a, c, d)) in
        still i p h.0 h.1 there

    rest : IsImageRest state k s n
    rest = record {
      label = subst (IsPart state k 2) (sym l.same.label) l.of.rest.label;
      home = subst (λ (h : Option (Spun D)). IfSome h (IsPart state k s.home)) (sym l.same.home) l.of.rest.home;
      count = l.same.count ∙ l.of.rest.count;
      segments = λ i p there. l.of.rest.segments i p (still_here i p there);
      row = subst (λ x. (x.items ≡ []) × (s.segments ≤ vec_capacity x)) (sym l.same.row) l.of.rest.row;
      room = subst (λ x. (x.items ≡ []) × (2 + s.segments ≤ vec_capacity x)) (sym l.same.room) l.of.rest.room;
    }

    still_supplier : IsSupplier (length (shapes_of config)) l.of.said n
    still_supplier = record {
      count = let a = l.of.says.count in let c = l.same.count in let d = l.of.rest.count in omega (arith, a, c, d);
      free = λ i is. l.takes.each i Free is;
      owned = λ i owner is. (
        ap is_some (l.takes.each i (Owned owner) is) ∙ l.of.all.segments i (let w = slice_get_within l.of.said.heads.items i (Owned owner) is in let a = l.of.says.count in let d = l.of.rest.count in omega (arith, w, a, d)),
        l.of.says.configured i (Owned owner) is,
      );
    }

  module _ (home : NoneOut config b) (r : Rack D) (set_up : IsSetUp t.spindles.items t.pools.items (length t.spindles.items) r) (images_are : r.rest.images ≡ t.images.out) (faults_are : r.faults ≡ t.images.faults) where
    pub settled : (k : ℕ) (i : Issued Spindle SpindleBase) → slice_get t.spindles.items k ≡ Some i → AreSettled k i
    settled k i is = subst (AreSettled k) (get_or_from_slice_get t.spindles.items k i i is) (taken.spindles.settled k i (slice_get_within t.spindles.items k i is))

    spindles_many : length t.spindles.items ≡ length (shapes_of config)
    spindles_many = taken.spindle_count ∙ sym many

    pub here_is : (k : ℕ) → image_here r.rest.images.items k ≡ image_here out k
    here_is k = ap (λ (x : _). image_here x.items k) images_are

    pub first : AreFirst state config t.spindles.items t.pools.items said r
    first = record {
      set_up = subst (λ (m : ℕ). IsSetUp t.spindles.items t.pools.items m r) spindles_many set_up;
      spindle_count = spindles_many;
      spindles_are = subst (λ (m : ℕ). AreSpindlesOf m config.timeout t.spindles.items) (sym many) taken.spindles;
      pool_count = taken.pool_count ∙ sym many;
      pools_are = λ k s i is at. subst (λ (m : ℕ). IsIssuedPool m k s (said_at said k) i) (sym many) (subst (λ (o : Option Said). IsIssuedPool (length config.volumes.items) k s o i) (sym (same_said k)) (taken.pools k s i is at));
      images = (
        ap (λ (x : _). length x.items) images_are ∙ taken.out_count ∙ taken.asked.out_count ∙ sym many,
        λ k s n is here. rest k s n (less k s n is (sym (here_is k) ∙ here)),
      );
      homes = λ k n here.
          let h = sym (here_is k) ∙ here in
          let s = shape_at k (within k n h) in
          let l = less k s.0 n s.1 h in
          ap is_some l.same.home ∙ l.of.all.home;
      out = λ k n here.
          let h = sym (here_is k) ∙ here in
          let s = shape_at k (within k n h) in
          let l = less k s.0 n s.1 h in
          (l.of.said, same_said k ∙ l.of.said_is, still_supplier k s.0 n l);
      silent = λ k none. silent k (sym (here_is k) ∙ none);
    }

    tried : AreTried config 0 r
    tried = record {
      count = ap (λ (x : _). length x.items) faults_are ∙ ap (λ (x : _). length x.items) taken.same.1 ∙ taken.asked.fault_count ∙ sym many;
      known = λ k f at. known k f (subst (λ (x : _). slice_get x.items k ≡ Some (Some f)) (faults_are ∙ taken.same.1) at);
      below = subst (All (λ (s : Station D). s.id < 0)) (sym set_up.stations.0) (All-nil (λ (s : Station D). s.id < 0));
      tried = λ k lt. absurd (omega (arith, lt));
      further = λ k le lt.
          let now : fault_at r.faults.items k ≡ fault_at taken.before.faults.items k = ap (λ (x : _). fault_at x.items k) (faults_are ∙ taken.same.1) in
          (λ none. is_out k (omega (arith, lt, many)) (sym now ∙ none), λ there. now ∙ no_fault k (ap is_some (sym (here_is k)) ∙ there));
    }
      where
        known : (k : ℕ) (f : VolumeFault) → slice_get taken.before.faults.items k ≡ Some (Some f) → NamesVolumes (length (shapes_of config)) f
        known k f at =
            let lt : k < length config.volumes.items = let w = slice_get_within taken.before.faults.items k (Some f) at in let c = taken.asked.fault_count in omega (arith, w, c) in
            let is : fault_at taken.before.faults.items k ≡ Some f = get_or_from_slice_get taken.before.faults.items k (Some f) None at in
            by_option (image_here before k)
            (λ e.
            let v = volume_at k lt in
            let why = taken.asked.refused k v.0 lt v.1 e in
            subst (NamesVolumes (length (shapes_of config))) (same_Some why.fault f (sym why.fault_is ∙ is)) (names_of_refused tells state config b b1 (length (shapes_of config)) k v.0 why.fault (omega (arith, lt, many)) why.refuses))
            (λ n e. let s = shape_at k lt in absurd (none-some f (sym (taken.asked.out k s.0 n s.1 e).no_fault ∙ is)))

        is_out : (k : ℕ) → k < length config.volumes.items → fault_at taken.before.faults.items k ≡ None → IsImageOut r.rest.images.items k
        is_out k lt none = ap is_some (here_is k) ∙ alike k ∙ by_option (image_here before k)
            (λ e. let v = volume_at k lt in let why = taken.asked.refused k v.0 lt v.1 e in absurd (none-some why.fault (sym none ∙ why.fault_is)))
            (λ n e. ap is_some e)

        no_fault : (k : ℕ) → IsImageOut out k → fault_at taken.before.faults.items k ≡ None
        no_fault k there = by_option (image_here out k)
            (λ e. let g = ap is_some e in absurd (cc (g, there)))
            (λ n e. let s = shape_at k (within k n e) in (less k s.0 n s.1 e).of.no_fault)

    pub ready_first : IsReadyFirst state config t.spindles.items t.pools.items said r first b1
    ready_first = record {
      out = λ k v at.
          let lt = slice_get_within config.volumes.items k v at in
          let was : IsHome v.name b = subst (λ (w : VolumeConf). IsHome w.name b) (get_or_from_slice_get config.volumes.items k v v at) (home k v lt) in (
            λ there. names_out config valid before (length config.volumes.items) k v b b1 at (sym (alike k) ∙ ap is_some (sym (here_is k)) ∙ there) was taken.sent,
            λ none. names_home config valid before (length config.volumes.items) k v b b1 at (none_before k (sym (here_is k) ∙ none)) was taken.sent,
          );
      tried = tried;
      says = λ k s is there. says_at k s is (ap is_some (sym (here_is k)) ∙ there);
      said_count = ap (λ (x : _). length x.items) taken.same.0 ∙ taken.asked.said_count ∙ sym many;
      heads = λ k n own here is i p h there head.
          let e = sym (here_is k) ∙ here in
          let s = shape_at k (within k n e) in
          let l = less k s.0 n s.1 e in
          let same : own ≡ l.of.said = same_Some own l.of.said (sym is ∙ same_said k ∙ l.of.said_is) in
          let head_of : slice_get l.of.said.heads.items i ≡ Some h = subst (λ (x : Said). slice_get x.heads.items i ≡ Some h) same head in
          l.of.heads i p h (still k s.0 n l i p h head_of there) head_of;
      accesses = λ k i is. (settled k i is).accesses;
    }
      where
        says_at : (k : ℕ) (s : Shape) → slice_get (shapes_of config) k ≡ Some s → IsImageOut out k → (own : Said) × (said_at said k ≡ Some own) × IsSaidOf (length (shapes_of config)) k s own
        says_at k s is there = by_option (image_here out k)
            (λ e. let g = ap is_some e in absurd (cc (g, there)))
            (λ n e. let l = less k s n is e in (l.of.said, same_said k ∙ l.of.said_is, l.of.says))

    pub taken_opening : IsOpeningRack state config b1 said 0 r
    taken_opening = first_opening state config t.spindles.items t.pools.items said r first b1 ready_first

  -- ---- What such a rack began with, and why its other volumes are refused

  module _ (r : Rack D) (set_up : IsSetUp t.spindles.items t.pools.items (length t.spindles.items) r) (images_are : r.rest.images ≡ t.images.out) (faults_are : r.faults ≡ t.images.faults) where
    now : (k : ℕ) → image_here r.rest.images.items k ≡ image_here t.images.out.items k
    now k = ap (λ (x : _). image_here x.items k) images_are

    -- each fault is that of an image that isn't out
    pub refused_first : AreRefusedBelow tells state config b b1 0 r
    refused_first k v f or at is =
        let none : image_here r.rest.images.items k ≡ None = ⊎_elim (λ (lt : k < 0). absurd (omega (arith, lt))) (λ n. n) or in
        let why = taken.asked.refused k v (slice_get_within config.volumes.items k v at) at (none_before k (sym (now k) ∙ none)) in
        let same : fault_at r.faults.items k ≡ fault_at taken.before.faults.items k = ap (λ (x : _). fault_at x.items k) (faults_are ∙ taken.same.1) in
        subst (λ (g : VolumeFault). RefusesVolume tells state config r.rest.images.items b b1 k v g) (same_Some why.fault f (sym why.fault_is ∙ sym same ∙ is))
        (refused_with tells state config r.rest.images.items b b1 k v why.fault none why.refuses)

    shape_of_volume : (k : ℕ) (v : VolumeConf) → slice_get config.volumes.items k ≡ Some v → slice_get (shapes_of config) k ≡ Some (shape_in config v)
    shape_of_volume k v at = slice_get-map (shape_in config) config.volumes.items k ∙ ap (option_map (shape_in config)) at

    module _ (telling : IsTrue tells) (old : Told) (is : b.told ≡ Some old) where
      -- an image that is out as it was at entry
      record IsEntered (k : ℕ) (v : VolumeConf) (n : ImageRest D) : Type 0 where
        pub less : IsLess k (shape_in config v) n
        pub entry : WasAtEntry state config old k v less.of.said less.was

      entered : (k : ℕ) (v : VolumeConf) (n : ImageRest D) → slice_get config.volumes.items k ≡ Some v → image_here t.images.out.items k ≡ Some n → IsEntered k v n
      entered k v n at here =
          let l = less k (shape_in config v) n (shape_of_volume k v at) here in
          record { less = l; entry = taken.asked.entry telling old is k v l.of.said l.was at l.of.said_is l.was_is }

      still_at : (k : ℕ) (v : VolumeConf) (n : ImageRest D) (e : IsEntered k v n) (i : ℕ) (p : Spun D) → segment_here n i ≡ Some p → segment_here e.less.was i ≡ Some p
      still_at k v n e i p there = still_here k (shape_in config v) n e.less i p there

      -- the pools began with what the heads say
      had_segments : (k : ℕ) (v : VolumeConf) (l : TurnLock (Pool (FreeSegment D)) PoolBase) (n : ImageRest D) → slice_get config.volumes.items k ≡ Some v → slice_get r.shared.pools.items k ≡ Some l
          → image_here r.rest.images.items k ≡ Some n → HadSegments config old k v (lock_id l).base.holders
      had_segments k v l n at lock here =
          let e = entered k v n at (sym (now k) ∙ here) in
          let i = from_map (λ (x : Issued (Pool (FreeSegment D)) PoolBase). x.lock) t.pools.items k l (sym (ap (λ (ls : List (TurnLock (Pool (FreeSegment D)) PoolBase)). slice_get ls k) set_up.pool_locks) ∙ lock) in
          let issued = taken.pools k (shape_in config v) i.0 (shape_of_volume k v at) i.1 in
          let own_is = e.less.of.said_is in
          record {
            image = e.entry.image;
            there = e.entry.there;
            view = e.less.of.said.view;
            heads = map segment_head e.less.of.said.heads.items;
            accepted = e.entry.says.accepted;
            each = λ j. ap (λ (x : TurnLock (Pool (FreeSegment D)) PoolBase). holder (lock_id x).base.holders j) (sym i.2) ∙ issued.holders j ∙ ap (λ (s : Option Said). holder_by s j) own_is
                ∙ head_said (slice_get e.less.of.said.heads.items j) ∙ sym (ap holder_of (slice_get-map segment_head e.less.of.said.heads.items j));
          }

      pub begun_first : HasBegun state config old t.images.said.items 0 r
      begun_first = record {
        began = record {
          stations = subst (All (λ (s : Station D). Rattle.rack.specs.Owners.IsBegun config (images_taken config r.rest.images.items old) (base_of_station s).volume.began)) (sym set_up.stations.0)
              (All-nil (λ (s : Station D). Rattle.rack.specs.Owners.IsBegun config (images_taken config r.rest.images.items old) (base_of_station s).volume.began));
          placed = subst (All (λ (s : Station D). Rattle.rack.specs.Owners.BeganInPlace config (images_taken config r.rest.images.items old) (base_of_station s))) (sym set_up.stations.0)
              (All-nil (λ (s : Station D). Rattle.rack.specs.Owners.BeganInPlace config (images_taken config r.rest.images.items old) (base_of_station s)));
          left = λ k v before image at there here.
              let e = entered k v image at (sym (now k) ∙ here) in
              let same : e.entry.image ≡ before = same_Some e.entry.image before (sym e.entry.there ∙ there) in
              subst (λ (i : Image). IsLeftHere state (shape_in config v) i image) same
              (record {
                label = subst (IsAsRead state e.entry.image 0 2) (sym e.less.same.label) e.entry.cut.label;
                home = λ p home. (e.entry.cut.home p (sym e.less.same.home ∙ home)).had;
                segments = λ i p seg c im. (0, inl ((e.entry.cut.segments i p (still_at k v image e i p seg)).had c im));
              });
          held = λ w k i v before p at there has. absurd (none_in (i, p) (subst (λ (hs : List (ℕ × Spun D)). Contains hs (i, p)) (set_up.held w k) has));
          gone = λ k i v before image at there here lt none.
              let e = entered k v image at (sym (now k) ∙ here) in
              let same : e.entry.image ≡ before = same_Some e.entry.image before (sym e.entry.there ∙ there) in
              let count = e.less.of.says.count in
              let head = some_at e.less.of.said.heads.items i (omega (arith, lt, count)) in
              subst (λ (j : Image). IsGone (length (shapes_of config)) (shape_in config v) j r.stations.items i) same (gone k i v image e here none head.0 head.1);
          pools = had_segments;
        };
        cut = record {
          says = λ k v own at said_is. says_at k v own at said_is;
          homes = λ k v i image p le at there here home.
              let e = entered k v image at (sym (now k) ∙ here) in
              subst (λ (j : Image). IsCutOf state j 2 (2 + v.home) p) (same_Some e.entry.image i (sym e.entry.there ∙ there)) (e.entry.cut.home p (sym e.less.same.home ∙ home));
          segments = λ owner k j v i own image p le at there said_is owned here seg.
              let e = entered k v image at (sym (now k) ∙ here) in
              subst (λ (x : Image). IsCutOf state x (head_place (shape_in config v) j) (head_place (shape_in config v) (j + 1)) p) (same_Some e.entry.image i (sym e.entry.there ∙ there))
              (e.entry.cut.segments j p (still_at k v image e j p seg));
        };
      }
        where
          gone : (k i : ℕ) (v : VolumeConf) (image : ImageRest D) (e : IsEntered k v image) → image_here r.rest.images.items k ≡ Some image → ((p : Spun D) → IsSegmentHere r.rest k i p → ⊥)
              → (h : SegHead) → slice_get e.less.of.said.heads.items i ≡ Some h → IsGone (length (shapes_of config)) (shape_in config v) e.entry.image r.stations.items i
          gone k i v image e here none Free head =
              let first : ℕ = head_place (shape_in config v) i in
              let behind : ℕ = head_place (shape_in config v) (i + 1) in
              record {
                was = slice_range (reads e.entry.image.blocks) first behind;
                had = subst (λ (c : List Block). IsImageOf (Some (slice_range e.entry.image.blocks first behind)) c) (reads_range e.entry.image.blocks first behind) (image_reads (slice_range e.entry.image.blocks first behind));
                said = inl (e.entry.says.accepted.each i (segment_head Free) (slice_get-map segment_head e.less.of.said.heads.items i ∙ ap (option_map segment_head) head));
              }
          gone k i v image e here none (Owned owner) head =
              let within : i < length e.less.was.segments.items = (let w = slice_get_within e.less.of.said.heads.items i (Owned owner) head in let a = e.less.of.says.count in let d = e.less.of.rest.count in omega (arith, w, a, d)) in
              let found = a_value (segment_here e.less.was i) (e.less.of.all.segments i within) in
              absurd (none found.0 (inl (image, here, e.less.takes.each i (Owned owner) head ∙ found.1)))

          says_at : (k : ℕ) (v : VolumeConf) (own : Said) → slice_get config.volumes.items k ≡ Some v → said_at t.images.said.items k ≡ Some own → (i : Image) × (at_name v.name old.images ≡ Some i) × SaysOf (length (shapes_of config)) k (shape_in config v) i own
          says_at k v own at said_is = by_option (image_here t.images.out.items k)
              (λ e. absurd (none-some own (sym (silent k e) ∙ said_is)))
              (λ n e. let x = entered k v n at e in (x.entry.image, x.entry.there, subst (λ (y : Said). SaysOf (length (shapes_of config)) k (shape_in config v) x.entry.image y) (same_Some x.less.of.said own (sym (same_said k ∙ x.less.of.said_is) ∙ said_is)) x.entry.says))

  -- ---- The rack once its volumes were opened

  module _ (first_rack : Rack D) (images_are : first_rack.rest.images ≡ t.images.out) (r : Rack D) (same_out : AreSameOut first_rack r) where
    -- the same images are out as were taken out
    out_is : (k : ℕ) → is_some (image_here r.rest.images.items k) ≡ is_some (image_here before k)
    out_is k = out_at r.rest.images.items first_rack.rest.images.items same_out k ∙ ap (λ (x : _). is_some (image_here x.items k)) images_are ∙ alike k

    -- the names of the images that are out went out
    pub opened_out : outs b1 ≡ option_map (λ os. os ++ out_names config config.volumes.items r.rest.images.items) (outs b)
    opened_out = taken.sent.outs ∙ ap (λ names. option_map (λ os. os ++ names) (outs b)) (sym (names_alike config config.volumes.items r.rest.images.items taken.before.out.items out_is))

    -- where they came back nothing of the configuration is out
    pub opened_home : NoneOut config b → (b2 : BayState) → LeavesNoneOut config r.rest.images.items (outs b1) (outs b2) → outs b2 ≡ outs b
    opened_home home b2 none = none.again (outs b) (none_named config b home) opened_out

    told_stayed : {P : Told → Told → Type 0} → ((old new : Told) → StayedSo config taken.before.out.items (length config.volumes.items) old new → P old new) → IsTold P b.told b1.told
    told_stayed {P} each = told_each (StayedSo config taken.before.out.items (length config.volumes.items)) P b.told b1.told each taken.sent.stayed

    pub opened_faulty : IsTold HasFaulty b.told b1.told
    opened_faulty = told_stayed (λ old new s. s.faulty)

    pub opened_others : IsTold (KeepsOthers config) b.told b1.told
    opened_others = told_stayed (λ old new s. s.others)

    pub opened_unfaulty : ((k : ℕ) → k < length (shapes_of config) → IsImageOut r.rest.images.items k) → length (shapes_of config) ≡ length config.volumes.items → IsTold (λ old new. new.faulty ≡ old.faulty) b.told b1.told
    opened_unfaulty all many = told_stayed (λ old new s. s.unfaulty (λ k lt. sym (out_is k) ∙ all k (omega (arith, lt, many))))

    pub opened_kept : IsTold (HadRefused config r.rest.images.items) b.told b1.told
    opened_kept = told_stayed (λ old new s. λ k v at none c may.
        s.stayed v.name
        (λ j w there at' same.
        let none' : is_some (image_here taken.before.out.items k) ≡ false = sym (out_is k) ∙ ap is_some none in
        names_differ config valid j k w v at' at (λ (e : j ≡ k). let there' = sym (ap (λ (n : ℕ). is_some (image_here taken.before.out.items n)) e) ∙ there in cc (there', none')) same)
        c may)

    pub opened_failed : HaveFaults state t.images.said.items (length config.volumes.items) r → length r.faults.items ≡ length config.volumes.items
        → (k : ℕ) (p : Part) → slice_get r.faults.items k ≡ Some (Some (Refused (DiskFault p))) → IsImageOut r.rest.images.items k → HasFaultAt state r.rest p
    opened_failed have count k p at out =
        let lt : k < length config.volumes.items = (let w = slice_get_within r.faults.items k (Some (Refused (DiskFault p))) at in omega (arith, w, count)) in
        fault_here state t.images.said.items k p r (have k p lt out (get_or_from_slice_get r.faults.items k (Some (Refused (DiskFault p))) None at))

    -- what was said at entry of an image that is out
    entry_of : IsTrue tells → (old : Told) → b.told ≡ Some old → (k : ℕ) (v : VolumeConf) → slice_get config.volumes.items k ≡ Some v → IsImageOut r.rest.images.items k
        → (q : ImageRest D) × (of : IsOut state (length (shapes_of config)) k (shape_in config v) taken.before q) × WasAtEntry state config old k v of.said q
    entry_of telling old is k v at out =
        let q = some_or (image_here taken.before.out.items k) (λ e. let none = out_is k ∙ ap is_some e in cc (none, out)) in
        let of = taken.asked.out k (shape_in config v) q.0 (slice_get-map (shape_in config) config.volumes.items k ∙ ap (option_map (shape_in config)) at) q.1 in
        (q.0, of, taken.asked.entry telling old is k v of.said q.0 at of.said_is q.1)

    pub opened_there : IsTrue tells → (old : Told) → b.told ≡ Some old → WereThere config r.rest.images.items old
    opened_there telling old is k v at out =
        let w = entry_of telling old is k v at out in
        (w.2.image, w.2.there, w.2.says.whole, w.2.says.size, w.1.said.view, map segment_head w.1.said.heads.items, w.2.says.accepted)

    -- what the images say as they read is what was said of them
    pub opened_views : IsTrue tells → (old : Told) → b.told ≡ Some old → AreViewsAsRead config r.rest.images.items old (view_at t.images.said.items)
    opened_views telling old is k v at out =
        let w = entry_of telling old is k v at out in
        let view_is : w.1.said.view ≡ view_at t.images.said.items k = ap (λ (o : Option Said). option_map_or (λ (s : Said). s.view) o []) (sym w.1.said_is) ∙ ap (λ (x : _). view_at x.items k) (sym taken.same.0) in
        (w.2.image, w.2.there, subst (λ (ids : List ℕ). HasView (reads w.2.image.blocks) ids) view_is w.2.says.accepted.named.view)

    -- ---- After want of memory, once the rack is closed

    module _ (b2 : BayState) (counts : b1.faults ≤ b2.faults) (gained : IsTold HasFaulty b1.told b2.told) where
      not_out : (k : ℕ) → is_kept_home r.rest.images.items k ≡ true → image_here taken.before.out.items k ≡ None
      not_out k is = none_or (image_here taken.before.out.items k) (λ q e. let same = out_is k in let f = ap is_some e in cc (same, f, is))

      why_refused : (k : ℕ) (v : VolumeConf) → slice_get config.volumes.items k ≡ Some v → is_kept_home r.rest.images.items k ≡ true → (f : VolumeFault) × RefusesVolume {D = D} tells state config [] b b2 k v f
      why_refused k v at is =
          let why = taken.asked.refused k v (slice_get_within config.volumes.items k v at) at (not_out k is) in
          (why.fault, refuses_later tells state config [] b b1 b2 k v why.fault counts gained why.refuses)

      -- what closing says, where the bay told this at entry
      closed_told : {P Q : Told → Told → Type 0} → IsTold (HadRefused config r.rest.images.items) b1.told b2.told
          → ((old : Told) → b.told ≡ Some old → IsTold (λ mid new. HadRefused config r.rest.images.items old mid → P old new) b1.told b2.told)
          → ((old new : Told) → HadRefused config r.rest.images.items old new → P old new → Q old new) → IsTold Q b.told b2.told
      closed_told {P} {Q} still closing each = go b.told b1.told b2.told (opened_kept) still closing
        where
          go : (o o1 o2 : Option Told) → IsTold (HadRefused config r.rest.images.items) o o1 → IsTold (HadRefused config r.rest.images.items) o1 o2
              → ((old : Told) → o ≡ Some old → IsTold (λ mid new. HadRefused config r.rest.images.items old mid → P old new) o1 o2) → IsTold Q o o2
          go None None o2 kept still closed = still
          go None (Some t1) o2 kept still closed = absurd (cc kept)
          go (Some old) None o2 kept still closed = absurd kept
          go (Some old) (Some t1) None kept still closed = absurd still
          go (Some old) (Some t1) (Some t2) kept still closed = each old t2 (λ k v at none c may. kept k v at none c (still k v at none c may)) (closed old refl kept)

      pub closed_left : IsTrue tells → IsTold (HadRefused config r.rest.images.items) b1.told b2.told → IsTold (λ x y. AreLeftOfParts state config r y) b1.told b2.told
          → ((old : Told) → b.told ≡ Some old → IsTold (λ mid new. HadRefused config r.rest.images.items old mid → LeavesVolumes config r old new) b1.told b2.told)
          → IsTold (LeavesAll tells state config b b2) b.told b2.told
      closed_left telling still parts closing = closed_told {P = λ old new. LeavesVolumes config r old new × AreLeftOfParts state config r new × WereThere config r.rest.images.items old} still
          (λ old is. told_each (λ x y. (HadRefused config r.rest.images.items old x → LeavesVolumes config r old y) × AreLeftOfParts state config r y)
          (λ x y. HadRefused config r.rest.images.items old x → LeavesVolumes config r old y × AreLeftOfParts state config r y × WereThere config r.rest.images.items old) b1.told b2.told (λ x y both had. (both.0 had, both.1, opened_there telling old is))
          (told_with (λ x y. HadRefused config r.rest.images.items old x → LeavesVolumes config r old y) (λ x y. AreLeftOfParts state config r y) b1.told b2.told (closing old is) parts))
          (λ old new kept both. record {
            refused = is_kept_home r.rest.images.items;
            cause = why_refused;
            kept = λ k v at or c may. kept k v at (kept_home config r.rest.images.items old both.2 k v at or) c may;
            opened = has_station r;
            are_opened = both.0.are_opened;
            left = λ images left v there. both.0.each images left v;
            logs = λ k v at or. both.0.logs k (inr (kept_home config r.rest.images.items old both.2 k v at or));
            there = λ images left v all. there_left state config r old new kept both.1 images left v all;
          })

      pub closed_sound : IsTold (HadRefused config r.rest.images.items) b1.told b2.told
          → ((old : Told) → b.told ≡ Some old → IsTold (λ mid new. HadRefused config r.rest.images.items old mid → KeepsAllSound config old new) b1.told b2.told)
          → IsTold (KeepsAllSound config) b.told b2.told
      closed_sound still closing = closed_told still closing (λ old new kept sound. sound)

      -- no label or view was changed
      pub closed_views : IsTrue tells → IsTold (HadRefused config r.rest.images.items) b1.told b2.told → IsTold (λ x y. AreLeftOfParts state config r y) b1.told b2.told
          → ((old : Told) → b.told ≡ Some old → BeganWith state config old r) → IsTold (KeepsViews config) b.told b2.told
      closed_views telling still parts began = closed_told {P = λ old new. BeganWith state config old r × WereThere config r.rest.images.items old × AreLeftOfParts state config r new} still
          (λ old is. told_each (λ x y. AreLeftOfParts state config r y) (λ x y. HadRefused config r.rest.images.items old x → BeganWith state config old r × WereThere config r.rest.images.items old × AreLeftOfParts state config r y) b1.told b2.told
          (λ x y left had. (began old is, opened_there telling old is, left)) parts)
          (λ old new kept all. views_left state config r r refl old new all.0 all.1 all.2 kept)
