-- The segments up to a place were read back, and what one more does.
use Rattle.std.proofs.Common.{◌≡◌, inl, ◌+◌, ◌≤◌, ℕ, Bool, true, false, not, cond, List, [], ◌∷◌, ◌++◌, length, take, drop, None, Some, refl, sym, ap, subst, ◌∙◌, arith}
use Rattle.std.specs.Prelude.{Result, Ok, Err, IfOk, IfErr, option_map, slice_get, IsTrue, Contains}
use Rattle.logger.proofs.Held.{length-map}
use Rattle.std.specs.List.{AllByRecursion, AllZip}
use Rattle.std.proofs.lemmas.Option.{none-some, get_or_from_slice_get, slice_get-map}
use Rattle.std.proofs.lemmas.List.{take-append-drop}
use Rattle.wol_disk.specs.Disk.{State, IsDisk}
use Rattle.log_scan.specs.declared.Scan.{Scan}
use Rattle.logger.specs.declared.lane.Lane.{Lane}
use Rattle.logger.specs.declared.shared.Shared.{Shared}
use Rattle.log_layout.specs.declared.label.Label.{Label}
use Rattle.manager.specs.declared.part.Part.TheVariants as part
use Rattle.manager_recovery.specs.Opening.{CanOpen, IsOpeningLane}
use Rattle.manager_recovery.specs.Owned.{all_owned, owned_of, AreIntact, IsIntact}
use Rattle.manager_recovery.specs.Left.{IsUsedLane}
use Rattle.manager_recovery.specs.Refused.{IsNamesAnswer, Refuses, first_outside, is_named}
use Rattle.manager_recovery.specs.Scanned.{HasGivenNone, IsSeenAgain, IsReadBack, IsSettledPart, IsScanned, IsScannedAt, AreReadBack, SegmentRefuses}
use Rattle.manager_recovery.specs.declared.opening.Opening.{Opening}
use Rattle.manager_recovery.specs.declared.opening.OwnedPart.{OwnedPart}
use Rattle.manager_recovery.specs.declared.refusal.OpenRefusal.{OpenRefusal}
use Rattle.manager_recovery.specs.declared.refusal.OpenRefusal.TheVariants.{LabelDiffers, LoggerMissing, OutsideView, Damaged, Twins, DiskFault, NoMemory}
use Rattle.manager_recovery.proofs.LogsNamed.{on_log}
use Rattle.manager_recovery.proofs.Lists.{take_snoc, take_all, drop_here, drop_get, drop_set, drop_more, take_set, set_get, zip_push, zip_change, zip_self, zip_length, all_push, within}
use Rattle.manager_recovery.proofs.ScanLoop.{used_self, used_then, seen_self, seen_then}

pub zip_then : {X Y Z : Type 0} (R : X → Y → Type 0) (S : Y → Z → Type 0) (T : X → Z → Type 0) → ((x : X) (y : Y) (z : Z) → R x y → S y z → T x z) → (xs : List X) (ys : List Y) (zs : List Z) → AllZip R xs ys → AllZip S ys zs → AllZip T xs zs
zip_then R S T f [] [] [] r s = tt
zip_then R S T f [] [] (c ∷ zs) r s = absurd s
zip_then R S T f [] (b ∷ ys) zs r s = absurd r
zip_then R S T f (a ∷ xs) [] zs r s = absurd r
zip_then R S T f (a ∷ xs) (b ∷ ys) [] r s = absurd s
zip_then R S T f (a ∷ xs) (b ∷ ys) (c ∷ zs) r s = (f a b c r.0 s.0, zip_then R S T f xs ys zs r.1 s.1)

-- ---- Names

outside_after : {D : Type 0} (state : D → State) (view : List ℕ) (os ns : List (OwnedPart D)) → AllZip (IsSeenAgain state) os ns → first_outside view os ≡ None → first_outside view ns ≡ None
outside_after state view [] [] zip none = refl
outside_after state view [] (n ∷ ns) zip none = absurd zip
outside_after state view (o ∷ os) [] zip none = absurd zip
outside_after {D} state view (o ∷ os) (n ∷ ns) zip none =
    (λ i. cond (not (is_named view (logger i))) (Some n) (first_outside view ns)) ∙ at (outside_after state view os ns zip.1) (is_named view o.logger) none
  where
    logger : n.logger ≡ o.logger
    logger = ap (λ (x : OwnedPart D). x.logger) zip.0.same.0

    at : (first_outside view os ≡ None → first_outside view ns ≡ None) → (b : Bool) → cond (not b) (Some o) (first_outside view os) ≡ None → cond (not b) (Some n) (first_outside view ns) ≡ None
    at rest true e = rest e
    at rest false e = absurd (none-some o (sym e))

pub names_after : {D : Type 0} (state : D → State) (shared : Shared D) (o n : Opening D) → IsReadBack state shared o n → IsNamesAnswer o None → IsNamesAnswer n None
names_after {D} state shared o n parts named =
    subst (λ (x : Opening D). IsNamesAnswer x None) (sym parts.same) (named.0, named.1, outside_after state o.view o.owned.items n.owned.items parts.owned named.2)

-- ---- Up to a place

pub record IsUpTo {D : Type 0} (tells : Bool) (state : D → State) (shared : Shared D) (o n : Opening D) (k : ℕ) (scans : List Scan) : Type 0 where
  pub open_ : CanOpen state shared n
  pub parts : IsReadBack state shared o n
  pub rest : drop k n.owned.items ≡ drop k o.owned.items
  pub scans_ : AllZip (IsScanned state o.want.id o.want.home) (take k n.owned.items) scans
  pub settled_ : AllZip (IsSettledPart state) (take k o.owned.items) (take k n.owned.items)
  pub intact : IsTrue tells → AreIntact o.want.id o.want.home (take k (all_owned state o.owned.items))

module _ {D : Type 0} (tells : Bool) (state : D → State) (sound : (d : D) → IsDisk (state d)) (shared : Shared D) where
  used_all : (id most : ℕ) (ls : List (Lane D)) → AllByRecursion (IsOpeningLane state shared id most) ls → AllZip (IsUsedLane state shared id most) ls ls
  used_all id most [] all = tt
  used_all id most (l ∷ ls) all = (used_self state shared id most l all.0, used_all id most ls all.1)

  pub at_start : (o : Opening D) → CanOpen state shared o → IsUpTo tells state shared o o 0 []
  at_start o can = record {
    open_ = can;
    parts = record {
      same = refl;
      lanes = used_all o.want.id o.most o.lanes.items can.lanes;
      pools = zip_self HasGivenNone (λ l. refl) o.lanes.items;
      owned = zip_self (IsSeenAgain state) (seen_self state sound) o.owned.items;
    };
    rest = refl;
    scans_ = tt;
    settled_ = tt;
    intact = λ t. tt;
  }

  module _ (o n m : Opening D) (k : ℕ) (scans : List Scan) (res : Result Scan OpenRefusal) (sofar : IsUpTo tells state shared o n k scans) (at : IsScannedAt tells state shared n m k res) where
    want : n.want ≡ o.want
    want = ap (λ (x : Opening D). x.want) sofar.parts.same

    most : n.most ≡ o.most
    most = ap (λ (x : Opening D). x.most) sofar.parts.same

    here : slice_get o.owned.items k ≡ Some at.before
    here = drop_get n.owned.items o.owned.items k at.before at.there sofar.rest

    pub parts_more : IsReadBack state shared o m
    parts_more = record {
      same = at.same ∙ (λ i. record (sofar.parts.same i) { lanes = m.lanes; owned = m.owned });
      lanes = zip_then (IsUsedLane state shared o.want.id o.most) (IsUsedLane state shared n.want.id n.most) (IsUsedLane state shared o.want.id o.most)
          (λ x y z first second. used_then state shared o.want.id o.most x y z first (subst (λ (w : Label). IsUsedLane state shared w.id o.most y z) want (subst (λ (most_ : ℕ). IsUsedLane state shared n.want.id most_ y z) most second)))
          o.lanes.items n.lanes.items m.lanes.items sofar.parts.lanes at.lanes;
      pools = zip_then HasGivenNone HasGivenNone HasGivenNone (λ x y z first second. second ∙ first) o.lanes.items n.lanes.items m.lanes.items sofar.parts.pools at.pools;
      owned = subst (AllZip (IsSeenAgain state) o.owned.items) (sym at.set)
          (zip_change (IsSeenAgain state) o.owned.items n.owned.items k at.before at.after at.there (λ x is. seen_then state sound x at.before at.after is at.seen) sofar.parts.owned);
    }

    owned_here : slice_get (all_owned state o.owned.items) k ≡ Some (owned_of state at.before)
    owned_here = slice_get-map (owned_of state) o.owned.items k ∙ (λ i. option_map (owned_of state) (here i))

    pub one_more : (s : Scan) → res ≡ Ok s → IsUpTo tells state shared o m (k + 1) (scans ++ s ∷ [])
    one_more s is =
        let ok : CanOpen state shared m × IsScanned state n.want.id n.want.home at.after s × IsSettledPart state at.before at.after × (IsTrue tells → IsIntact n.want.id n.want.home (owned_of state at.before)) =
        subst (λ (r : Result Scan OpenRefusal). IfOk r (λ x. CanOpen state shared m × IsScanned state n.want.id n.want.home at.after x × IsSettledPart state at.before at.after × (IsTrue tells → IsIntact n.want.id n.want.home (owned_of state at.before)))) is at.ok in
        let scanned : IsScanned state o.want.id o.want.home at.after s = subst (λ (w : Label). IsScanned state w.id w.home at.after s) want ok.1 in
        let front : take (k + 1) m.owned.items ≡ take k n.owned.items ++ at.after ∷ [] = ap (take (k + 1)) at.set ∙ take_set n.owned.items k at.after at.before at.there in
        record {
          open_ = ok.0;
          parts = parts_more;
          rest = ap (drop (k + 1)) at.set ∙ drop_set n.owned.items k at.after ∙ drop_more n.owned.items o.owned.items k sofar.rest;
          scans_ = subst (λ (l : List (OwnedPart D)). AllZip (IsScanned state o.want.id o.want.home) l (scans ++ s ∷ [])) (sym front) (zip_push (IsScanned state o.want.id o.want.home) (take k n.owned.items) scans at.after s sofar.scans_ scanned);
          settled_ = subst (λ (l : List (OwnedPart D)). AllZip (IsSettledPart state) l (take (k + 1) m.owned.items)) (sym (take_snoc o.owned.items k at.before here))
              (subst (AllZip (IsSettledPart state) (take k o.owned.items ++ at.before ∷ [])) (sym front) (zip_push (IsSettledPart state) (take k o.owned.items) (take k n.owned.items) at.before at.after sofar.settled_ ok.2));
          intact = λ t. subst (AreIntact o.want.id o.want.home) (sym (take_snoc (all_owned state o.owned.items) k (owned_of state at.before) owned_here))
              (all_push (IsIntact o.want.id o.want.home) (take k (all_owned state o.owned.items)) (owned_of state at.before) (sofar.intact t) (subst (λ (w : Label). IsIntact w.id w.home (owned_of state at.before)) want (ok.3 t)));
        }

    there_now : Contains m.owned.items at.after
    there_now =
        let got : slice_get m.owned.items k ≡ Some at.after = (λ i. slice_get (at.set i) k) ∙ set_get n.owned.items k at.after at.before at.there in
        (k, within m.owned.items k at.after got, get_or_from_slice_get m.owned.items k at.after at.after got)

    refuses_at : (named : IsNamesAnswer o None) (r : OpenRefusal) → SegmentRefuses tells state o.want.id o.want.home at.before at.after r → Refuses tells state o m r
    refuses_at named LabelDiffers why = absurd why
    refuses_at named (LoggerMissing id) why = absurd why
    refuses_at named (OutsideView logger segment) why = absurd why
    refuses_at named (Damaged volume block) why = (
      named,
      λ t.
          record {
            before = take k (all_owned state o.owned.items);
            segment = owned_of state at.before;
            after = drop (k + 1) (all_owned state o.owned.items);
            split = sym (take-append-drop k (all_owned state o.owned.items)) ∙ (λ i. take k (all_owned state o.owned.items) ++ drop_here (all_owned state o.owned.items) k (owned_of state at.before) owned_here i);
            intact = sofar.intact t;
            where_ = why.0;
            fault = why.1 t;
          },
      on_log o.owned.items k at.before volume here (sym why.0),
    )
    refuses_at named (Twins first_volume first second_volume second) why = absurd why
    refuses_at named (DiskFault (part.Home volume)) why = absurd why
    refuses_at named (DiskFault (part.Segment volume index)) why = (
      named,
      record {
        k = k;
        before = at.before;
        after = at.after;
        was_there = here;
        is_there = there_now;
        named = (why.0, why.1, why.0 ∙ sym (ap (λ (x : OwnedPart D). x.logger) at.seen.same.0), why.1 ∙ sym (ap (λ (x : OwnedPart D). x.index) at.seen.same.0));
        rose = why.2;
        intact = sofar.intact;
        read_or_last = inl parts_more.owned;
      },
    )
    refuses_at named NoMemory why = named

    pub refused_here : (named : IsNamesAnswer o None) (r : OpenRefusal) → res ≡ Err r → Refuses tells state o m r
    refused_here named r is =
        let why : SegmentRefuses tells state n.want.id n.want.home at.before at.after r = subst (λ (x : Result Scan OpenRefusal). IfErr x (SegmentRefuses tells state n.want.id n.want.home at.before at.after)) is at.err in
        refuses_at named r (subst (λ (w : Label). SegmentRefuses tells state w.id w.home at.before at.after r) want why)

  -- at the end
  pub at_end : (o n : Opening D) (k : ℕ) (scans : List Scan) → length o.owned.items ≤ k → IsUpTo tells state shared o n k scans → AreReadBack tells state shared o n scans
  at_end o n k scans le all =
      let same : length n.owned.items ≡ length o.owned.items = zip_length (IsSeenAgain state) o.owned.items n.owned.items all.parts.owned in
      let long : length n.owned.items ≤ k = omega (arith, same, le) in
      record {
        open_ = all.open_;
        scans_ = subst (λ (l : List (OwnedPart D)). AllZip (IsScanned state o.want.id o.want.home) l scans) (take_all n.owned.items k long) all.scans_;
        settled_ = subst (λ (l : List (OwnedPart D)). AllZip (IsSettledPart state) l n.owned.items) (take_all o.owned.items k le) (subst (AllZip (IsSettledPart state) (take k o.owned.items)) (take_all n.owned.items k long) all.settled_);
        intact = λ t. subst (AreIntact o.want.id o.want.home) (take_all (all_owned state o.owned.items) k (subst (λ (l : ℕ). l ≤ k) (sym (length-map (owned_of state) o.owned.items)) le)) (all.intact t);
      }
