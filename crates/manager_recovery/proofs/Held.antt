-- The owned segments come into the hands of their lanes, one after the other.
use Rattle.std.proofs.Common.{◌≡◌, ◌≢◌, ◌<◌, ◌≤◌, ℕ, zero, suc, Bool, true, false, cond, eqb, List, [], ◌∷◌, ◌++◌, length, take, drop, map, reverse, None, Some, refl, sym, ap, subst, ◌∙◌, arith}
use Rattle.std.specs.Prelude.{slice_get, slice_set, slice_index_or, position}
use Rattle.std.specs.List.{AllByRecursion, AllZip}
use Rattle.std.proofs.lemmas.Bool.{ne_eqb, eq-eqb, eqb-true}
use Rattle.std.proofs.lemmas.List.{append-nil, reverse-append}
use Rattle.std.specs.Option.{option_to_list}
use Rattle.std.proofs.lemmas.Option.{same_Some, none-some, slice_get_within}
use Rattle.wol_disk.specs.Disk.{State}
use Rattle.wol_model.specs.Blocks.{AreApart}
use Rattle.turn_lock.specs.Passes.{pass_lock, pass_number, pass_mine}
use Rattle.turn_lock.specs.LockIds.{LockId}
use Rattle.seg_pool.specs.Operations.{holds}
use Rattle.seg_pool.specs.declared.base.PoolBase.{PoolBase}
use Rattle.spin_model.specs.Spun.{disk_of, volume_of}
use Rattle.log_scan.specs.declared.Scan.{Scan}
use Rattle.log_segment.specs.declared.free.FreeSegment.{FreeSegment}
use Rattle.logger.specs.Lanes.{IsLane, IsSameLane, logger_of, held_in, taken_in, pool_of, pool_blocks, segments_in, indexes_in, lane_owner}
use Rattle.logger.specs.declared.lane.HeldSegment.{HeldSegment}
use Rattle.logger.specs.declared.lane.Lane.{Lane}
use Rattle.logger.specs.declared.shared.Shared.{Shared}
use Rattle.manager.proofs.Lanes.{all_at}
use Rattle.manager_recovery.specs.Opening.{CanOpen, IsOpeningLane, IsHeldIn, IsOwned, AreInOrder, place_of}
use Rattle.manager_recovery.specs.Refused.{IsNamesAnswer}
use Rattle.manager_recovery.specs.Scanned.{IsScanned, IsAdopted, AreAdopted, held_on, HoldsItsOwn, AreHeld}
use Rattle.manager_recovery.specs.declared.opening.Opening.{Opening}
use Rattle.manager_recovery.specs.declared.opening.OwnedPart.{OwnedPart}
use Rattle.manager_recovery.proofs.Fronts.{front_at, around, zip_long, zip_at}
use Rattle.manager_recovery.proofs.Places.{lane_is, place_is, loggers_are, read_at}
use Rattle.manager_recovery.proofs.ScanLoop.{same_at, then_same}
use Rattle.manager_recovery.proofs.Thinning.{AreOther, others_front, zip_same}

-- ---- Lists

drop_cons : {X : Type 0} (xs : List X) (k : ℕ) (x : X) (ys : List X) → drop k xs ≡ x ∷ ys → (slice_get xs k ≡ Some x) × (ys ≡ drop (suc k) xs)
drop_cons [] zero x ys is = let e : [] ≡ x ∷ ys = is in absurd (cc)
drop_cons [] (suc k) x ys is = let e : [] ≡ x ∷ ys = is in absurd (cc)
drop_cons (z ∷ zs) zero x ys is = let e : z ∷ zs ≡ x ∷ ys = is in let a : z ≡ x = cc in let b : ys ≡ zs = cc in (ap Some a, b)
drop_cons (z ∷ zs) (suc k) x ys is = drop_cons zs k x ys is

drop_nothing : {X : Type 0} (xs : List X) (k : ℕ) → drop k xs ≡ [] → length xs ≤ k
drop_nothing [] k is = omega arith
drop_nothing (x ∷ xs) zero is = let e : x ∷ xs ≡ [] = is in absurd (cc)
drop_nothing (x ∷ xs) (suc k) is = let le = drop_nothing xs k is in omega (arith, le)

take_past : {X : Type 0} (xs : List X) (k : ℕ) → length xs ≤ k → take k xs ≡ xs
take_past [] zero le = refl
take_past [] (suc k) le = refl
take_past (x ∷ xs) zero le = absurd (omega arith)
take_past (x ∷ xs) (suc k) le = ap (λ l. x ∷ l) (take_past xs k (omega arith))

drop_past : {X : Type 0} (xs : List X) (k : ℕ) → length xs ≤ k → drop k xs ≡ []
drop_past [] zero le = refl
drop_past [] (suc k) le = refl
drop_past (x ∷ xs) zero le = absurd (omega arith)
drop_past (x ∷ xs) (suc k) le = drop_past xs k (omega arith)

pub reverse_twice : {X : Type 0} (xs : List X) → reverse (reverse xs) ≡ xs
reverse_twice [] = refl
reverse_twice (x ∷ xs) = ap reverse (reverse-append (x ∷ []) xs) ∙ (reverse-append (reverse xs) (x ∷ []) ∙ ap (λ l. x ∷ l) (reverse_twice xs))

-- ---- The segments of a logger

module _ {D : Type 0} (state : D → State) where
  adopted_more : (os : List (OwnedPart D)) (scans : List Scan) (hs : List (HeldSegment D)) (o : OwnedPart D) (s : Scan) (h : HeldSegment D) → AreAdopted state os scans hs → IsAdopted state o s h → AreAdopted state (os ++ o ∷ []) (scans ++ s ∷ []) (hs ++ h ∷ [])
  adopted_more [] [] [] o s h all here = (here, tt)
  adopted_more [] [] (g ∷ hs) o s h all here = absurd all
  adopted_more [] (t ∷ scans) hs o s h all here = absurd all
  adopted_more (p ∷ os) [] hs o s h all here = absurd all
  adopted_more (p ∷ os) (t ∷ scans) [] o s h all here = absurd all
  adopted_more (p ∷ os) (t ∷ scans) (g ∷ hs) o s h all here = (all.0, adopted_more os scans hs o s h all.1 here)

  choice : (t : Bool) (g : HeldSegment D) (xs ys zs : List (HeldSegment D)) → zs ≡ xs ++ ys → cond t (g ∷ zs) zs ≡ cond t (g ∷ xs) xs ++ ys
  choice true g xs ys zs e = ap (λ (l : List (HeldSegment D)). g ∷ l) e
  choice false g xs ys zs e = e

  held_more : (logger : ℕ) (os : List (OwnedPart D)) (scans : List Scan) (hs : List (HeldSegment D)) (o : OwnedPart D) (h : HeldSegment D) → AreAdopted state os scans hs
      → held_on logger (os ++ o ∷ []) (hs ++ h ∷ []) ≡ held_on logger os hs ++ cond (eqb o.logger logger) (h ∷ []) []
  held_more logger [] [] [] o h all = refl
  held_more logger [] [] (g ∷ hs) o h all = absurd all
  held_more logger [] (t ∷ scans) hs o h all = absurd all
  held_more logger (p ∷ os) [] hs o h all = absurd all
  held_more logger (p ∷ os) (t ∷ scans) [] o h all = absurd all
  held_more logger (p ∷ os) (t ∷ scans) (g ∷ hs) o h all = choice (eqb p.logger logger) g (held_on logger os hs) (cond (eqb o.logger logger) (h ∷ []) []) (held_on logger (os ++ o ∷ []) (hs ++ h ∷ [])) (held_more logger os scans hs o h all.1)

  -- a segment that comes later has an index of its own
  index_other : (o : OwnedPart D) (os : List (OwnedPart D)) (scans : List Scan) (hs : List (HeldSegment D)) → AreAdopted state os scans hs → AllByRecursion (λ (x : OwnedPart D). AreOther (place_of o) (place_of x)) os
      → AllByRecursion (λ (i : ℕ). o.index ≢ i) (map (λ (h : HeldSegment D). h.index) (held_on o.logger os hs))
  index_other o [] [] [] all other = tt
  index_other o [] [] (g ∷ hs) all other = absurd all
  index_other o [] (t ∷ scans) hs all other = absurd all
  index_other o (p ∷ os) [] hs all other = absurd all
  index_other o (p ∷ os) (t ∷ scans) [] all other = absurd all
  index_other o (p ∷ os) (t ∷ scans) (g ∷ hs) all other = at (eqb p.logger o.logger) refl (index_other o os scans hs all.1 other.1)
    where
      at : (b : Bool) → eqb p.logger o.logger ≡ b → AllByRecursion (λ (i : ℕ). o.index ≢ i) (map (λ (h : HeldSegment D). h.index) (held_on o.logger os hs))
          → AllByRecursion (λ (i : ℕ). o.index ≢ i) (map (λ (h : HeldSegment D). h.index) (cond b (g ∷ held_on o.logger os hs) (held_on o.logger os hs)))
      at true e rest = ((λ same. other.0 (sym (eqb-true p.logger o.logger e)) (same ∙ all.0.index)), rest)
      at false e rest = rest

module _ {D : Type 0} (state : D → State) (shared : Shared D) where
  module _ (os : List (OwnedPart D)) (scans : List Scan) (hs : List (HeldSegment D)) (all : AreAdopted state os scans hs) (o : OwnedPart D) (h : HeldSegment D) where
    -- a lane of another logger holds no more
    other_lane : (x l : Lane D) → (logger_of l ≡ o.logger → ⊥) → HoldsItsOwn state shared os hs x l → HoldsItsOwn state shared (os ++ o ∷ []) (hs ++ h ∷ []) x l
    other_lane x l other has = record {
      lane = has.lane;
      at = has.at;
      same = has.same;
      held = has.held ∙ sym (held_more state (logger_of l) os scans hs o h all ∙ ((λ i. held_on (logger_of l) os hs ++ cond (ne_eqb o.logger (logger_of l) (λ e. other (sym e)) i) (h ∷ []) []) ∙ append-nil (held_on (logger_of l) os hs)));
      taken = has.taken;
      pool = has.pool;
    }

    other_lanes : (logger : ℕ) → logger ≡ o.logger → (olds news : List (Lane D)) → AllByRecursion (λ (v : ℕ). logger ≢ v) (map logger_of news) → AllZip (HoldsItsOwn state shared os hs) olds news → AllZip (HoldsItsOwn state shared (os ++ o ∷ []) (hs ++ h ∷ [])) olds news
    other_lanes logger on [] [] apart zip = tt
    other_lanes logger on [] (n ∷ news) apart zip = absurd zip
    other_lanes logger on (x ∷ olds) [] apart zip = absurd zip
    other_lanes logger on (x ∷ olds) (n ∷ news) apart zip = (other_lane x n (λ e. apart.0 (on ∙ sym e)) zip.0, other_lanes logger on olds news apart.1 zip.1)

    apart_at : (v : ℕ) (news : List (Lane D)) (place : ℕ) (l : Lane D) → slice_get news place ≡ Some l → AllByRecursion (λ (w : ℕ). v ≢ w) (map logger_of news) → v ≢ logger_of l
    apart_at v [] place l is apart = absurd (none-some l is)
    apart_at v (n ∷ news) zero l is apart = subst (λ (q : Lane D). v ≢ logger_of q) (same_Some n l is) apart.0
    apart_at v (n ∷ news) (suc place) l is apart = apart_at v news place l is apart.1

    pub lanes_more : (olds news : List (Lane D)) (place : ℕ) (l m : Lane D) → AreApart (map logger_of news) → slice_get news place ≡ Some l → logger_of l ≡ o.logger → AllZip (HoldsItsOwn state shared os hs) olds news
        → ((x : Lane D) → HoldsItsOwn state shared os hs x l → HoldsItsOwn state shared (os ++ o ∷ []) (hs ++ h ∷ []) x m) → AllZip (HoldsItsOwn state shared (os ++ o ∷ []) (hs ++ h ∷ [])) olds (slice_set news place m)
    lanes_more [] [] place l m apart is on zip so = absurd (none-some l is)
    lanes_more [] (n ∷ news) place l m apart is on zip so = absurd zip
    lanes_more (x ∷ olds) [] place l m apart is on zip so = absurd zip
    lanes_more (x ∷ olds) (n ∷ news) zero l m apart is on zip so = let same = same_Some n l is in
        (so x (subst (HoldsItsOwn state shared os hs x) same zip.0), other_lanes (logger_of n) (ap logger_of same ∙ on) olds news apart.0 zip.1)
    lanes_more (x ∷ olds) (n ∷ news) (suc place) l m apart is on zip so =
        (other_lane x n (λ e. apart_at (logger_of n) news place l is apart.0 (e ∙ sym on)) zip.0, lanes_more olds news place l m apart.1 is on zip.1 so)

  pub loggers_same : (os : List (OwnedPart D)) (hs : List (HeldSegment D)) (olds news : List (Lane D)) → AllZip (HoldsItsOwn state shared os hs) olds news → map logger_of news ≡ map logger_of olds
  loggers_same os hs [] [] zip = refl
  loggers_same os hs [] (n ∷ news) zip = absurd zip
  loggers_same os hs (x ∷ olds) [] zip = absurd zip
  loggers_same os hs (x ∷ olds) (n ∷ news) zip = λ i. zip.0.same.logger i ∷ loggers_same os hs olds news zip.1 i

-- ---- The loop

-- the first k segments are held
pub record IsHeldTo {D : Type 0} (state : D → State) (shared : Shared D) (o n : Opening D) (scans : List Scan) (k : ℕ) : Type 0 where
  pub same : n ≡ record o { lanes = n.lanes; owned = n.owned }
  pub left : reverse n.owned.items ≡ drop k o.owned.items
  pub segments : List (HeldSegment D)
  pub adopted : AreAdopted state (take k o.owned.items) (take k scans) segments
  pub each : AllZip (HoldsItsOwn state shared (take k o.owned.items) segments) o.lanes.items n.lanes.items

module _ {D : Type 0} (state : D → State) (shared : Shared D) (o : Opening D) (can : CanOpen state shared o) (named : IsNamesAnswer o None) (scans : List Scan) (scanned : AllZip (IsScanned state o.want.id o.want.home) o.owned.items scans) where
  pub none_held : (n : Opening D) → n ≡ record o { owned = n.owned } → reverse n.owned.items ≡ o.owned.items → IsHeldTo state shared o n scans 0
  none_held n same left =
      let lanes : n.lanes ≡ o.lanes = ap (λ (q : Opening D). q.lanes) same in record {
        same = same ∙ (λ i. record o { lanes = sym lanes i; owned = n.owned });
        left = left;
        segments = [];
        adopted = tt;
        each = subst (AllZip (HoldsItsOwn state shared [] []) o.lanes.items) (ap (λ (v : _). v.items) (sym lanes))
            (zip_same (HoldsItsOwn state shared [] []) (IsOpeningLane state shared o.want.id o.most)
            (λ l is. record { lane = is.lane; at = is.at; same = record { logger = refl; owner = refl; segments = refl; pool = (refl, refl); spindle = (refl, refl) }; held = is.bare; taken = refl; pool = refl }) o.lanes.items can.lanes);
      }

  -- the next segment
  pub record IsNextPart (n : Opening D) (k : ℕ) (x : OwnedPart D) (rest : List (OwnedPart D)) : Type 0 where
    pub scan : Scan
    pub part_is : slice_get o.owned.items k ≡ Some x
    pub scan_is : slice_get scans k ≡ Some scan
    pub scanned_ : IsScanned state o.want.id o.want.home x scan
    pub owned : IsOwned state o.lanes.items x
    pub behind : reverse rest ≡ drop (suc k) o.owned.items

  pub next_part : (n : Opening D) (k : ℕ) (x : OwnedPart D) (rest : List (OwnedPart D)) → IsHeldTo state shared o n scans k → n.owned.items ≡ rest ++ x ∷ [] → IsNextPart n k x rest
  next_part n k x rest inv popped =
      let os = o.owned.items in
      let w = drop_cons os k x (reverse rest) (sym inv.left ∙ (ap reverse popped ∙ reverse-append rest (x ∷ []))) in
      let z = zip_at (IsScanned state o.want.id o.want.home) os scans k scanned (slice_get_within os k x w.0) in
      let same : z.0 ≡ x = same_Some z.0 x (sym z.2 ∙ w.0) in record {
        scan = z.1;
        part_is = w.0;
        scan_is = z.3;
        scanned_ = subst (λ (q : OwnedPart D). IsScanned state o.want.id o.want.home q z.1) same z.4;
        owned = all_at (IsOwned state o.lanes.items) os k x w.0 can.owned;
        behind = w.1;
      }

  module _ (n : Opening D) (k : ℕ) (x : OwnedPart D) (rest : List (OwnedPart D)) (inv : IsHeldTo state shared o n scans k) (next : IsNextPart n k x rest) where
    pub held_place : (place : ℕ) × (position (λ (id : ℕ). eqb id x.logger) n.view ≡ Some place)
    held_place = let w = place_is state shared o named k x next.part_is in (w.0, ap (λ (q : Opening D). position (λ (id : ℕ). eqb id x.logger) q.view) inv.same ∙ w.1)

    -- its lane, and what that was when the volume came
    pub record IsLaneOf (place : ℕ) (lane : Lane D) : Type 0 where
      pub before : Lane D
      pub was_lane : slice_get o.lanes.items place ≡ Some before
      pub lane_is : slice_get n.lanes.items place ≡ Some lane
      pub on : logger_of lane ≡ x.logger
      pub holds_own : HoldsItsOwn state shared (take k o.owned.items) inv.segments before lane
      pub ready : IsOpeningLane state shared o.want.id o.most before
      pub held : IsHeldIn state x before

    found_lane : (place : ℕ) → position (λ (id : ℕ). eqb id x.logger) n.view ≡ Some place → (l : Lane D) × (slice_get o.lanes.items place ≡ Some l) × (logger_of l ≡ x.logger)
    found_lane place found = lane_is state shared o can named.1 x.logger place (ap (λ (q : Opening D). position (λ (id : ℕ). eqb id x.logger) q.view) (sym inv.same) ∙ found)

    pub place_within : (place : ℕ) → position (λ (id : ℕ). eqb id x.logger) n.view ≡ Some place → place < length n.lanes.items
    place_within place found =
        let w = found_lane place found in
        let lt = slice_get_within o.lanes.items place w.0 w.1 in
        let long = zip_long (HoldsItsOwn state shared (take k o.owned.items) inv.segments) o.lanes.items n.lanes.items inv.each in
        omega (arith, lt, long)

    pub lane_of : (place : ℕ) → position (λ (id : ℕ). eqb id x.logger) n.view ≡ Some place → (l : Lane D) → l ≡ slice_index_or n.lanes.items place l → IsLaneOf place l
    lane_of place found l read =
        let w = found_lane place found in
        let z = zip_at (HoldsItsOwn state shared (take k o.owned.items) inv.segments) o.lanes.items n.lanes.items place inv.each (slice_get_within o.lanes.items place w.0 w.1) in
        let first : z.0 ≡ w.0 = same_Some z.0 w.0 (sym z.2 ∙ w.1) in
        let is : l ≡ z.1 = read_at n.lanes.items place l z.1 z.3 read in
        let has : HoldsItsOwn state shared (take k o.owned.items) inv.segments z.0 l = subst (HoldsItsOwn state shared (take k o.owned.items) inv.segments z.0) (sym is) z.4 in
        let on : logger_of z.0 ≡ x.logger = ap logger_of first ∙ w.2 in record {
          before = z.0;
          was_lane = z.2;
          lane_is = z.3 ∙ ap Some (sym is);
          on = has.same.logger ∙ on;
          holds_own = has;
          ready = all_at (IsOpeningLane state shared o.want.id o.most) o.lanes.items place z.0 z.2 can.lanes;
          held = all_at (λ (q : Lane D). logger_of q ≡ x.logger → IsHeldIn state x q) o.lanes.items place z.0 z.2 next.owned.held on;
        }

    module _ (place : ℕ) (l : Lane D) (at : IsLaneOf place l) where
      pub below : x.index < segments_in l
      below = subst (λ (m : ℕ). x.index < m) (sym at.holds_own.same.segments) at.held.below

      pub blocks_are : (state (disk_of x.part)).size ≡ pool_blocks l
      blocks_are = at.held.blocks ∙ ap (λ (i : LockId PoolBase). i.base.blocks) (sym at.holds_own.same.pool.0)

      pub holding_is : holds (pass_lock (pool_of l)).base (pass_number (pool_of l)) (pass_mine (pool_of l)) x.index ≡ true
      holding_is = let s = at.holds_own.same in (λ i. holds (s.pool.0 i).base (s.pool.1 i) (at.holds_own.pool i) x.index) ∙ at.held.holding

      pub volume_is : volume_of x.part ≡ logger_of l
      volume_is = at.held.volume ∙ sym at.holds_own.same.logger

      pub owner_is : lane_owner l ≡ o.want.id
      owner_is = at.holds_own.same.owner ∙ at.ready.owner

      pub apart_is : AllByRecursion (λ (i : ℕ). x.index ≢ i) (indexes_in l)
      apart_is =
          let os = o.owned.items in
          let order : AreInOrder (map place_of (take k os ++ x ∷ drop (suc k) os)) = subst (λ (l : List (OwnedPart D)). AreInOrder (map place_of l)) (around os k x next.part_is) can.in_order in
          let each = index_other state x (take k os) (take k scans) inv.segments inv.adopted (others_front (take k os) x (drop (suc k) os) order) in
          let held : held_in l ≡ held_on x.logger (take k os) inv.segments = at.holds_own.held ∙ ap (λ (v : ℕ). held_on v (take k os) inv.segments) at.on in
          let untaken : taken_in l ≡ None = at.holds_own.taken ∙ at.ready.untaken in
          let same : indexes_in l ≡ map (λ (h : HeldSegment D). h.index) (held_on x.logger (take k os) inv.segments) =
          (λ i. map (λ (h : HeldSegment D). h.index) (held i) ++ map (λ (t : ℕ × FreeSegment D). t.0) (option_to_list (untaken i))) ∙ append-nil (map (λ (h : HeldSegment D). h.index) (held_on x.logger (take k os) inv.segments)) in
          subst (AllByRecursion (λ (i : ℕ). x.index ≢ i)) (sym same) each

      pub held_next : AreApart o.view → (h : HeldSegment D) → IsAdopted state x next.scan h → (m : Lane D) → IsLane state m → IsSameLane l m → held_in m ≡ held_in l ++ h ∷ [] → taken_in m ≡ taken_in l → pass_mine (pool_of m) ≡ pass_mine (pool_of l)
          → (t : Opening D) → t ≡ record n { lanes = t.lanes; owned = t.owned } → t.lanes.items ≡ slice_set n.lanes.items place m → t.owned.items ≡ rest → IsHeldTo state shared o t scans (suc k)
      held_next apart h adopted m is same held taken pool t t_same lanes owned =
          let os = o.owned.items in let R = HoldsItsOwn state shared in
          let front : take (suc k) os ≡ take k os ++ x ∷ [] = front_at os k x next.part_is in
          let scans_front : take (suc k) scans ≡ take k scans ++ next.scan ∷ [] = front_at scans k next.scan next.scan_is in
          let loggers : AreApart (map logger_of n.lanes.items) = subst AreApart (sym (loggers_same state shared (take k os) inv.segments o.lanes.items n.lanes.items inv.each ∙ loggers_are state shared o can named.1)) apart in
          let here : (y : Lane D) → R (take k os) inv.segments y l → R (take k os ++ x ∷ []) (inv.segments ++ h ∷ []) y m = λ y has.
          let logger : logger_of m ≡ x.logger = same.logger ∙ at.on in record {
            lane = is;
            at = same_at state shared l m same has.at;
            same = then_same state y l m has.same same;
            held = held ∙ (ap (λ (l : List (HeldSegment D)). l ++ h ∷ []) (has.held ∙ ap (λ (v : ℕ). held_on v (take k os) inv.segments) (sym same.logger))
                ∙ (ap (λ (b : Bool). held_on (logger_of m) (take k os) inv.segments ++ cond b (h ∷ []) []) (sym (eq-eqb x.logger (logger_of m) (sym logger))) ∙ sym (held_more state (logger_of m) (take k os) (take k scans) inv.segments x h inv.adopted)));
            taken = taken ∙ has.taken;
            pool = pool ∙ has.pool;
          } in
          let each = lanes_more state shared (take k os) (take k scans) inv.segments inv.adopted x h o.lanes.items n.lanes.items place l m loggers at.lane_is at.on inv.each here in record {
            same = t_same ∙ ap (λ (q : Opening D). record q { lanes = t.lanes; owned = t.owned }) inv.same;
            left = ap reverse owned ∙ next.behind;
            segments = inv.segments ++ h ∷ [];
            adopted = subst (λ (l : List (OwnedPart D)). AreAdopted state l (take (suc k) scans) (inv.segments ++ h ∷ [])) (sym front) (subst (λ (l : List Scan). AreAdopted state (take k os ++ x ∷ []) l (inv.segments ++ h ∷ [])) (sym scans_front) (adopted_more state (take k os) (take k scans) inv.segments x next.scan h inv.adopted adopted));
            each = subst (λ (l : List (OwnedPart D)). AllZip (R l (inv.segments ++ h ∷ [])) o.lanes.items t.lanes.items) (sym front) (subst (AllZip (R (take k os ++ x ∷ []) (inv.segments ++ h ∷ [])) o.lanes.items) (sym lanes) each);
          }

  pub none_left : (n : Opening D) (k : ℕ) → IsHeldTo state shared o n scans k → length scans ≤ k → n.owned.items ≡ []
  none_left n k inv past =
      let long = zip_long (IsScanned state o.want.id o.want.home) o.owned.items scans scanned in
      sym (reverse_twice n.owned.items) ∙ ap reverse (inv.left ∙ drop_past o.owned.items k (omega (arith, long, past)))

  nil_of : {X : Type 0} (xs : List X) → length xs ≡ 0 → xs ≡ []
  nil_of [] none = refl
  nil_of (x ∷ xs) none = absurd (omega (arith, none))

  pub some_left : (n : Opening D) (k : ℕ) → IsHeldTo state shared o n scans k → k < length scans → length n.owned.items ≡ 0 → ⊥
  some_left n k inv more nothing =
      let none = nil_of n.owned.items nothing in
      let long = zip_long (IsScanned state o.want.id o.want.home) o.owned.items scans scanned in
      let past : length o.owned.items ≤ k = drop_nothing o.owned.items k (sym inv.left ∙ ap reverse none) in
      omega (arith, long, past, more)

  pub all_held_then : (n : Opening D) (k : ℕ) → IsHeldTo state shared o n scans k → length scans ≤ k → AreHeld state shared o.owned.items scans o.lanes.items n.lanes.items
  all_held_then n k inv past =
      let os = o.owned.items in
      let long = zip_long (IsScanned state o.want.id o.want.home) os scans scanned in
      let parts : take k os ≡ os = take_past os k (omega (arith, long, past)) in
      let all : take k scans ≡ scans = take_past scans k past in record {
        segments = inv.segments;
        adopted = subst (λ (l : List (OwnedPart D)). AreAdopted state l scans inv.segments) parts (subst (λ (l : List Scan). AreAdopted state (take k os) l inv.segments) all inv.adopted);
        each = subst (λ (l : List (OwnedPart D)). AllZip (HoldsItsOwn state shared l inv.segments) o.lanes.items n.lanes.items) parts inv.each;
      }
