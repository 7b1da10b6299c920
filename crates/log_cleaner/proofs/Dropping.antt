-- A segment goes with all its records, none of which has a live block: what that makes of the listed records, and of a cleaning.
use Rattle.std.proofs.Common.{◌≡◌, ◌⊎◌, inl, inr, ⊎_elim, ◌<◌, ◌≤◌, ◌+◌, ◌-◌, ℕ, Bool, true, false, not, ◌&&◌, List, [], ◌∷◌, length, Option, None, Some, Ok, Err, refl, sym, ap, subst, ◌∙◌, arith, eqb, ltb}
use Rattle.std.specs.Prelude.{◌↔◌, Contains, IfSome, IsTrue, IsSome, filter, slice_index_or}
use Rattle.std.specs.List.{AllByRecursion}
use Rattle.std.specs.Option.{ForSome}
use Rattle.std.proofs.Math.ListN.{length-set}
use Rattle.std.proofs.lemmas.Bool.{false≢true, eqb-true, cases_eq, cases_lt, eq-eqb, lt-ltb, ne_eqb}
use Rattle.std.proofs.lemmas.List.{append-nil}
use Rattle.std.proofs.lemmas.Option.{same_Some}
use Rattle.wol_disk.specs.Disk.{State}
use Rattle.wol_model.specs.Extents.{has_newer}
use Rattle.wol_model.specs.Index.{Listed, Indexed, block_numbers, cover_of, has_due, is_covered, is_due, is_homed, is_live, listed_covers, listed_in}
use Rattle.wol_model.specs.Log.{has_bit}
use Rattle.wol_model.proofs.Counts.{marked_within}
use Rattle.wol_promise.proofs.Covers.{any_found, any_member}
use Rattle.wol_promise.proofs.GiveUps.{newer_in}
use Rattle.wol_promise.proofs.Lists.{all_map, all_mapped, all_member, member_map}
use Rattle.wol_promise.proofs.Wholes.{above_of, member_filter, member_unfilter, one_newer}
use Rattle.block_cells.specs.Masks.{IsMask}
use Rattle.block_cells.specs.declared.record.Rec.{Rec}
use Rattle.block_cells.proofs.Bits.{has_bit-zero}
use Rattle.redirect_map.specs.Index.{IsAnswer, IsIndex, entry_at, has_version}
use Rattle.manager.specs.Reading.{needs_of}
use Rattle.manager.specs.Reclaim.{Always, BreaksOff, HasDroppedSegment, KeepsOn, NoneLiveIn, OnFailed, OnTried, TellsStep, lies_elsewhere}
use Rattle.manager.specs.Stands.{Keeps}
use Rattle.manager.specs.declared.manager.Manager.{Manager}
use Rattle.manager.specs.declared.part.StepFault.{StepFault}
use Rattle.manager.specs.declared.part.StepFault.TheVariants as step
use Rattle.manager.proofs.Entries.{Found, among, entry_of_version, some_of, not_there}
use Rattle.manager.proofs.Retiring.{covered_where}
use Rattle.manager.proofs.RunSources.{same_version}
use Rattle.reclaimer.specs.Steps.{StopsWithin}
use Rattle.log_cleaner.specs.Chunks.{HasLive, IsTidy, IsUppermost, KeepsNone, NoneHomed}
use Rattle.manager.specs.Causes.{NoneRose}
use Rattle.log_cleaner.specs.Cleans.{CanClean}
use Rattle.log_cleaner.specs.Steps.{GivesSome, HasCopied, HasNoneLiveIn, KeepsTidy}
use Rattle.log_cleaner.proofs.Copying.{copies_plain}
use Rattle.log_cleaner.proofs.Lists.{each_is_member}
use Rattle.log_cleaner.proofs.Lives.{IsTop, live_of, top_of}
use Rattle.log_cleaner.proofs.Stepping.{calm_none, calm_once, goes_none, lane_fewer, lane_holds, lane_pools, rose_of, set_awake}
use Rattle.log_cleaner.proofs.Telling.{not_found}
use Rattle.log_cleaner.proofs.Tidying.{both_true, range_has, not_so, both_ways, clash, covers, member_unmap, upper_of_tidy, within_first, any_map}

-- versions have a bound
bounded : (es : List Indexed) → (n : ℕ) × AllByRecursion (λ (d : Indexed). d.listed.version < n) es
bounded [] = (0, tt)
bounded (e ∷ es) = let rest = bounded es in
    (1 + e.listed.version + rest.0, (omega arith, all_map (λ (d : Indexed). d.listed.version < rest.0) (λ (d : Indexed). d.listed.version < 1 + e.listed.version + rest.0) (λ d lt. omega (arith, lt)) es rest.1))

-- ---- The listed records

module _ (es : List Indexed) (lane index : ℕ) (none : NoneLiveIn lane index es) where
  abbrev left : List Indexed
  left = filter (lies_elsewhere lane index) es

  L : List Listed
  L = listed_in es

  -- what is so of each record is so of those that are left
  left_all : (P : Listed → Type 0) → AllByRecursion P (listed_in es) → AllByRecursion P (listed_in (filter (lies_elsewhere lane index) es))
  left_all P all = all_mapped P (λ (d : Indexed). d.listed) left (each_is_member (λ (d : Indexed). P d.listed) left (λ d has.
      all_member P (listed_in es) d.listed all (member_map (λ (e : Indexed). e.listed) es d (member_unfilter (lies_elsewhere lane index) es d has))))

  pub left_unhomed : NoneHomed (listed_in es) → NoneHomed (listed_in (filter (lies_elsewhere lane index) es))
  left_unhomed all = left_all (λ (d : Listed). (b : ℕ) → is_homed d b ≡ false) all

  -- each block that a record of the segment keeps, a newer one keeps
  newer_there : (d : Indexed) → Contains es d → lies_elsewhere lane index d ≡ false → (b : ℕ) → covers d.listed b ≡ true → has_newer (listed_covers (listed_in es)) d.listed.version b ≡ true
  newer_there d has here b is = all_member (λ (e : Indexed). lies_elsewhere lane index e ≡ false → (cover_of e.listed).covers b ≡ true → has_newer (listed_covers (listed_in es)) e.listed.version b ≡ true) es d (covered_where lane index es none b) has here is

  any_listed : (xs : List Indexed) (b : ℕ) → is_covered (listed_in xs) b ≡ Rattle.std.specs.List.list_any (λ (e : Indexed). covers e.listed b) xs
  any_listed xs b = any_map (λ (d : Listed). covers d b) (λ (e : Indexed). e.listed) xs

  -- the same blocks are covered
  pub left_covered : (b : ℕ) → is_covered (listed_in (filter (lies_elsewhere lane index) es)) b ≡ is_covered (listed_in es) b
  left_covered b = both_ways (is_covered (listed_in left) b) (is_covered (listed_in es) b) to from
    where
      there : (d : Indexed) → Contains es d → lies_elsewhere lane index d ≡ true → covers d.listed b ≡ true → is_covered (listed_in left) b ≡ true
      there d has passes is = any_listed left b ∙ any_member (λ (e : Indexed). covers e.listed b) left d (member_filter (lies_elsewhere lane index) es d has passes) is

      to : is_covered (listed_in left) b ≡ true → is_covered (listed_in es) b ≡ true
      to is =
          let f = any_found (λ (e : Indexed). covers e.listed b) left (sym (any_listed left b) ∙ is) in
          any_listed es b ∙ any_member (λ (e : Indexed). covers e.listed b) es f.item (member_unfilter (lies_elsewhere lane index) es f.item f.among) f.passes

      from : is_covered (listed_in es) b ≡ true → is_covered (listed_in left) b ≡ true
      from is = let f = any_found (λ (e : Indexed). covers e.listed b) es (sym (any_listed es b) ∙ is) in at f.item f.among f.passes (lies_elsewhere lane index f.item) refl
        where
          at : (d : Indexed) → Contains es d → covers d.listed b ≡ true → (t : Bool) → lies_elsewhere lane index d ≡ t → is_covered (listed_in left) b ≡ true
          at d has keeps true passes = there d has passes keeps
          at d has keeps false here =
              let bound = bounded es in
              let a = above_of (lies_elsewhere lane index) es b bound.0 bound.1 (covered_where lane index es none b) bound.0 d.listed.version (omega arith) (newer_there d has here b keeps) in
              there a.entry a.among a.passes a.keeps

  -- a record that is the uppermost to keep just some blocks stays
  pub left_upper : (u first count : ℕ) → 1 ≤ count → IsUppermost (listed_in es) u first count → IsUppermost (listed_in (filter (lies_elsewhere lane index) es)) u first count
  left_upper u first count some x = at (lies_elsewhere lane index its.0) refl
    where
      its : (e : Indexed) × Contains es e × (e.listed ≡ x.one.record_)
      its = member_unmap (λ (d : Indexed). d.listed) es x.one.record_ x.one.listed

      keeps_first : covers its.0.listed first ≡ true
      keeps_first = (λ i. covers (its.2 i) first) ∙ x.one.keeps first ∙ within_first first count some

      at : (t : Bool) → lies_elsewhere lane index its.0 ≡ t → IsUppermost (listed_in left) u first count
      at true passes = record {
        one = record {
          record_ = x.one.record_;
          listed = subst (Contains (listed_in left)) its.2 (member_map (λ (d : Indexed). d.listed) left its.0 (member_filter (lies_elsewhere lane index) es its.0 its.1 passes));
          version_is = x.one.version_is;
          keeps = x.one.keeps;
        };
        above = left_all (λ (d : Listed). u < d.version → KeepsNone d first count) x.above;
      }
      at false here =
          let n = one_newer es its.0.listed.version first (newer_there its.0 its.1 here first keeps_first) in
          let v : its.0.listed.version ≡ u = ap (λ (d : Listed). d.version) its.2 ∙ x.one.version_is in
          absurd (clash (covers n.entry.listed first) n.keeps
          (all_member (λ (d : Listed). u < d.version → KeepsNone d first count) (listed_in es) n.entry.listed x.above (member_map (λ (d : Indexed). d.listed) es n.entry n.among) (let a = n.newer in omega (arith, a, v)) first (within_first first count some)))

  -- a chunk that is tidy stays so
  pub left_tidy : (first count : ℕ) → 1 ≤ count → IsTidy (listed_in es) first count → IsTidy (listed_in (filter (lies_elsewhere lane index) es)) first count
  left_tidy first count some t = record {
    version = t.version;
    one = (left_upper t.version first count some (upper_of_tidy (listed_in es) first count t)).one;
    alone = left_all (λ (d : Listed). (d.version ≡ t.version → ⊥) → KeepsNone d first count) t.alone;
  }

  -- what is live among those that are left was live
  pub left_live : (d : Listed) (b : ℕ) → is_live (listed_in (filter (lies_elsewhere lane index) es)) d b ≡ true → is_live (listed_in es) d b ≡ true
  left_live d b is =
      let parts = both_true (covers d b) (not (has_newer (listed_covers (listed_in left)) d.version b)) is in
      let none_newer : has_newer (listed_covers (listed_in es)) d.version b ≡ false = not_so (has_newer (listed_covers (listed_in es)) d.version b) (λ newer.
      let bound = bounded es in
      let a = above_of (lies_elsewhere lane index) es b bound.0 bound.1 (covered_where lane index es none b) bound.0 d.version (omega arith) newer in
      let still : has_newer (listed_covers (listed_in left)) d.version b ≡ true =
      newer_in left d.version b
      ∙ any_member (λ (e : Indexed). covers e.listed b && ltb d.version e.listed.version) left a.entry (member_filter (lies_elsewhere lane index) es a.entry a.among a.passes) (λ i. a.keeps i && lt-ltb d.version a.entry.listed.version a.newer i) in
      clash (not (has_newer (listed_covers (listed_in left)) d.version b)) parts.1 (ap not still)) in
      λ i. parts.0 i && not (none_newer i)

  was_there : (d : Listed) → Contains (listed_in left) d → Contains (listed_in es) d
  was_there d has =
      let m = member_unmap (λ (e : Indexed). e.listed) left d has in
      subst (Contains (listed_in es)) m.2 (member_map (λ (e : Indexed). e.listed) es m.0 (member_unfilter (lies_elsewhere lane index) es m.0 m.1))

  -- it is the same record's
  pub left_lived : (v b : ℕ) → HasLive (listed_in (filter (lies_elsewhere lane index) es)) v b → HasLive (listed_in es) v b
  left_lived v b x = (x.0, was_there x.0 x.1, x.2, left_live x.0 b x.3)

  -- and what was live is
  pub left_lives : (v b : ℕ) → HasLive (listed_in es) v b → HasLive (listed_in (filter (lies_elsewhere lane index) es)) v b
  left_lives v b x = at (lies_elsewhere lane index its.0) refl
    where
      its : (e : Indexed) × Contains es e × (e.listed ≡ x.0)
      its = member_unmap (λ (e : Indexed). e.listed) es x.0 x.1

      t : IsTop (listed_in es) x.0 b
      t = top_of (listed_in es) x.0 b x.3

      at : (p : Bool) → lies_elsewhere lane index its.0 ≡ p → HasLive (listed_in left) v b
      at true passes = (
        x.0,
        subst (Contains (listed_in left)) its.2 (member_map (λ (e : Indexed). e.listed) left its.0 (member_filter (lies_elsewhere lane index) es its.0 its.1 passes)),
        x.2,
        live_of (listed_in left) x.0 b (record { keeps = t.keeps; top = λ d has there less. t.top d (was_there d has) there less }),
      )
      at false here = absurd (clash (is_live (listed_in es) its.0.listed b) ((λ i. is_live (listed_in es) (its.2 i) b) ∙ x.3) (all_member (HasNoneLiveIn lane index es) es its.0 none its.1 here b))

-- ---- The cleaning

module _ {D : Type 0} (tells : Bool) (state : D → State) (old new : Manager D) (can : CanClean old) (lane index : ℕ) (none : NoneLiveIn lane index old.index.entries) where
  pub segment_gone : {T : Type 0} (done : T) → HasDroppedSegment {T = T} lane index old new (Ok done) → new.down ≡ None → NoneRose state old new → KeepsOn tells state old new Always → (IsTrue tells → StopsWithin tells state old new Always) → HasCopied tells state old new [] × KeepsTidy old new
  segment_gone {T} done dropped up calm keeps stops = (
    record {
      goes_on = record {
        same = record { id = ap (λ (m : Manager D). m.id) dropped.rest; most = ap (λ (m : Manager D). m.most) dropped.rest };
        can = record {
          up = up;
          unhomed = subst (λ (es : List Indexed). NoneHomed (listed_in es)) (sym dropped.ok) (left_unhomed old.index.entries lane index none can.unhomed);
          awake = subst (λ (us : List Bool). AllByRecursion (λ up. up ≡ true) us) (sym (ap (λ (m : Manager D). m.ups.items) dropped.rest)) (set_awake old.ups.items lane can.awake);
        };
        covered = λ b. ap (λ (es : List Indexed). is_covered (listed_in es) b) dropped.ok ∙ left_covered old.index.entries lane index none b;
        home_up = ap (λ (m : Manager D). m.home_up) dropped.rest;
        home_needs = ap (λ (m : Manager D). needs_of m.spindle) dropped.rest;
        lanes = let c = dropped.lanes in ap length c.set ∙ length-set old.lanes.items lane c.after;
        pools = lane_pools old.lanes.items new.lanes.items lane index (true ≡ true) (inl refl) dropped.lanes;
      };
      calm = calm_once state old new calm (lane_holds old.lanes.items new.lanes.items lane index (true ≡ true) (inl refl) dropped.lanes);
      keeps = λ b notes look k. subst (Keeps tells state new b) (sym (append-nil notes)) (keeps b notes tt k);
      copied = copies_plain tells state old new can.up (λ told. (None, lane_fewer old.lanes.items new.lanes.items lane index (true ≡ true) (inl refl) dropped.lanes, λ b notes k. stops told b notes tt k));
      next = let e = ap (λ (m : Manager D). m.next) dropped.rest in omega (arith, e);
    },
    record {
      tidy = λ first count some t. subst (λ (es : List Indexed). IsTidy (listed_in es) first count) (sym dropped.ok) (left_tidy old.index.entries lane index none first count some t);
      upper = λ u first count some x. subst (λ (es : List Indexed). IsUppermost (listed_in es) u first count) (sym dropped.ok) (left_upper old.index.entries lane index none u first count some x);
      live = λ v b. subst (λ (es : List Indexed). HasLive (listed_in old.index.entries) v b ↔ HasLive (listed_in es) v b) (sym dropped.ok) (left_lives old.index.entries lane index none v b, left_lived old.index.entries lane index none v b);
    },
  )

  -- or a call of the segment failed
  pub segment_broken : (T : Type 0) (fault : StepFault) → TellsStep {T = T} state (Err fault) old new → OnFailed {T = T} (Err fault) (BreaksOff tells state old new Always) → OnTried {T = T} (Err fault) (HasDroppedSegment {T = T} lane index old new (Err fault))
      → (IsTrue tells → StopsWithin tells state old new Always) → GivesSome tells state old new (Err fault)
  segment_broken T (step.DiskFault p) told broke dropped stops = record {
    down = told.1;
    rose = (old, goes_none old can, calm_none state old, rose_of state old new p told.2, lane_pools old.lanes.items new.lanes.items lane index (false ≡ true) (inr (λ is. false≢true is)) dropped.lanes);
    leaves = λ b notes n client note k. broke b notes n tt note k;
    copied = copies_plain tells state old new can.up (λ t. (None, lane_fewer old.lanes.items new.lanes.items lane index (false ≡ true) (inr (λ is. false≢true is)) dropped.lanes, λ b notes k. stops t b notes tt k));
  }
  segment_broken T (step.Down p) told broke dropped stops = absurd (let wrong : None ≡ Some p = sym can.up ∙ told.0 in cc)

-- what is so of the entry of a version, where a disk was to answer
pub tried_there : (es : List Indexed) (version : ℕ) (e : Indexed) → entry_at es version ≡ Some e → (T : Type 0) (fault : StepFault) (P : Indexed → Type 0) → OnTried {T = T} (Err fault) (ForSome (entry_at es version) P) → OnTried {T = T} (Err fault) (P e)
tried_there es version e is T (step.DiskFault p) P tried = tried e is
tried_there es version e is T (step.Down p) P tried = tt

-- ---- The test

-- the entry of its own version
pub entry_of_member : (es : List Indexed) → IsIndex es → (e : Indexed) → Contains es e → entry_at es e.listed.version ≡ Some e
entry_of_member es index e has = at (entry_at es e.listed.version) refl
  where
    at : (o : Option Indexed) → entry_at es e.listed.version ≡ o → entry_at es e.listed.version ≡ Some e
    at None none = absurd (not_found (has_version e.listed.version) es e none has (eq-eqb e.listed.version e.listed.version refl))
    at (Some d) is = let a = entry_of_version es e.listed.version d index.rising is in is ∙ ap Some (same_version es d e index.rising (among a) has a.version_is)

-- the record of a version
module _ (es : List Indexed) (version : ℕ) (r : Rec) (f : Found es version r) where
  if_some : (P : Indexed → Type 0) → P f.entry → IfSome (entry_at es version) P
  if_some P is = subst (λ (o : Option Indexed). IfSome o P) (sym f.is) is

  pub is_there : IsSome (entry_at es version)
  is_there = subst IsSome (sym f.is) refl

  pub covered_for : NoneLiveIn r.lane r.segment es → ForSome (entry_at es version) (λ e. NoneLiveIn e.listed.lane e.index es)
  covered_for none e is = let same = same_Some f.entry e (sym f.is ∙ is) in
      subst (λ (d : Indexed). NoneLiveIn d.listed.lane d.index es) same (subst (λ (k : ℕ). NoneLiveIn k f.entry.index es) f.record_.lane (subst (λ (s : ℕ). NoneLiveIn r.lane s es) f.record_.segment none))

  -- one that lies elsewhere
  pub other_lane : (lane segment : ℕ) → (r.lane ≡ lane → ⊥) → IfSome (entry_at es version) (HasNoneLiveIn lane segment es)
  other_lane lane segment ne = if_some (HasNoneLiveIn lane segment es) (λ here b. absurd (clash (lies_elsewhere lane segment f.entry)
      (ap not (not_there lane segment f.entry (inl (λ (same : f.entry.listed.lane ≡ lane). ne (f.record_.lane ∙ same))))) here))

  pub other_segment : (lane segment : ℕ) → (r.segment ≡ segment → ⊥) → IfSome (entry_at es version) (HasNoneLiveIn lane segment es)
  other_segment lane segment ne = if_some (HasNoneLiveIn lane segment es) (λ here b. absurd (clash (lies_elsewhere lane segment f.entry)
      (ap not (not_there lane segment f.entry (inr (λ (same : f.entry.index ≡ segment). ne (f.record_.segment ∙ same))))) here))

  -- one without a live block
  pub none_live : (lane segment live : ℕ) → live ≡ 0 → IfSome (entry_at es version) (λ e. IsMask e.listed.first (is_live (listed_in es) e.listed) live) → IfSome (entry_at es version) (HasNoneLiveIn lane segment es)
  none_live lane segment live zero_ mask = if_some (HasNoneLiveIn lane segment es) (λ here b. none b)
    where
      its : IsMask f.entry.listed.first (is_live (listed_in es) f.entry.listed) live
      its = some_of (λ (d : Indexed). IsMask d.listed.first (is_live (listed_in es) d.listed) live) (entry_at es version) f.entry mask f.is

      and_none : (c n : Bool) → (c ≡ true → (c && n) ≡ false) → (c && n) ≡ false
      and_none true n so = so refl
      and_none false n so = refl

      none : (b : ℕ) → is_live (listed_in es) f.entry.listed b ≡ false
      none b = and_none (covers f.entry.listed b) (not (has_newer (listed_covers (listed_in es)) f.entry.listed.version b)) (λ is.
          let w = marked_within f.entry.listed.first f.entry.listed.keep b is in
          let same : f.entry.listed.first + (b - f.entry.listed.first) ≡ b = (let low = w.0 in omega (arith, low)) in
          ap (is_live (listed_in es) f.entry.listed) (sym same) ∙ sym (its (b - f.entry.listed.first)) ∙ ap (λ (m : ℕ). has_bit m (b - f.entry.listed.first)) zero_ ∙ has_bit-zero (b - f.entry.listed.first))

-- the entry of a version that is there
pub entry_there : (es : List Indexed) (version : ℕ) → IsSome (entry_at es version) → (e : Indexed) × (entry_at es version ≡ Some e)
entry_there es version some = at (entry_at es version) refl some
  where
    at : (o : Option Indexed) → entry_at es version ≡ o → IsSome o → (e : Indexed) × (entry_at es version ≡ Some e)
    at None is none = absurd (false≢true none)
    at (Some e) is some_ = (e, is)

pub no_record : (es : List Indexed) (version : ℕ) (P : Indexed → Type 0) → IsAnswer (entry_at es version) None → IfSome (entry_at es version) P
no_record es version P is = at (entry_at es version) is
  where
    at : (o : Option Indexed) → IsAnswer o None → IfSome o P
    at None a = tt
    at (Some e) a = absurd a

pub live_zero : (n : ℕ) → not (eqb n 0) ≡ false → n ≡ 0
live_zero n is = ⊎_elim (λ same. same) (λ other. absurd (clash (not (eqb n 0)) (ap not (ne_eqb n 0 other)) is)) (cases_eq n 0)

-- ---- The walk over what is due

-- where no block is homed, a record without a due block has no live one
pub quiet_none : (es : List Listed) (e : Listed) → ((b : ℕ) → is_homed e b ≡ false) → has_due es e ≡ false → (b : ℕ) → is_live es e b ≡ false
quiet_none es e unhomed quiet b = not_so (is_live es e b) (λ is.
    let kept = both_true (covers e b) (not (has_newer (listed_covers es) e.version b)) is in
    let w = marked_within e.first e.keep b kept.0 in
    clash (has_due es e) (any_member (is_due es e) (block_numbers e) b (range_has e.first (length e.keep) b w.0 w.1) (λ i. is i && not (unhomed b i))) quiet)

-- the entries of lesser versions have none in the segment
abbrev pub NoneLiveBelow : (lane segment from : ℕ) → List Indexed → Type 0
NoneLiveBelow lane segment from es = AllByRecursion (λ e. e.listed.version < from → HasNoneLiveIn lane segment es e) es

pub below_none : (lane segment : ℕ) (es : List Indexed) → NoneLiveBelow lane segment 0 es
below_none lane segment es = each_is_member (λ (e : Indexed). e.listed.version < 0 → HasNoneLiveIn lane segment es e) es (λ e has lt. absurd (omega (arith, lt)))

module _ (lane segment from : ℕ) (es : List Indexed) (unhomed : NoneHomed (listed_in es)) (ups : List Bool) (awake : slice_index_or ups lane false ≡ true) (below : NoneLiveBelow lane segment from es) where
  in_lane : (e : Indexed) → lies_elsewhere lane segment e ≡ false → slice_index_or ups e.listed.lane false ≡ true
  in_lane e here = ap (λ (k : ℕ). slice_index_or ups k false) (eqb-true e.listed.lane lane (first (eqb e.listed.lane lane) (eqb e.index segment) here)) ∙ awake
    where
      first : (s t : Bool) → not (s && t) ≡ false → s ≡ true
      first true t is = refl
      first false t is = absurd (false≢true (sym is))

  not_home : (e : Indexed) → Contains es e → (b : ℕ) → is_homed e.listed b ≡ false
  not_home e has = all_member (λ (d : Listed). (b : ℕ) → is_homed d b ≡ false) (listed_in es) e.listed unhomed (member_map (λ (d : Indexed). d.listed) es e has)

  -- nothing is due from here on
  pub below_all : AllByRecursion (λ (e : Indexed). from ≤ e.listed.version → slice_index_or ups e.listed.lane false ≡ true → has_due (listed_in es) e.listed ≡ false) es → NoneLiveIn lane segment es
  below_all quiet = each_is_member (HasNoneLiveIn lane segment es) es (λ e has here. ⊎_elim
      (λ lt. all_member (λ (d : Indexed). d.listed.version < from → HasNoneLiveIn lane segment es d) es e below has lt here)
      (λ ge. quiet_none (listed_in es) e.listed (not_home e has) (all_member (λ (d : Indexed). from ≤ d.listed.version → slice_index_or ups d.listed.lane false ≡ true → has_due (listed_in es) d.listed ≡ false) es e quiet has ge (in_lane e here)))
      (cases_lt e.listed.version from))

  -- nothing is due between, and the record of this version has none
  pub below_more : IsIndex es → (version : ℕ) → AllByRecursion (λ (e : Indexed). from ≤ e.listed.version → e.listed.version < version → slice_index_or ups e.listed.lane false ≡ true → has_due (listed_in es) e.listed ≡ false) es
      → IfSome (entry_at es version) (HasNoneLiveIn lane segment es) → NoneLiveBelow lane segment (version + 1) es
  below_more index version quiet one = each_is_member (λ (e : Indexed). e.listed.version < version + 1 → HasNoneLiveIn lane segment es e) es (λ e has lt here. at e has here (cases_lt e.listed.version from) (cases_lt e.listed.version version) lt)
    where
      at : (e : Indexed) → Contains es e → lies_elsewhere lane segment e ≡ false → (e.listed.version < from) ⊎ (from ≤ e.listed.version) → (e.listed.version < version) ⊎ (version ≤ e.listed.version) → e.listed.version < version + 1 → (b : ℕ) → is_live (listed_in es) e.listed b ≡ false
      at e has here (inl less) other lt = all_member (λ (d : Indexed). d.listed.version < from → HasNoneLiveIn lane segment es d) es e below has less here
      at e has here (inr ge) (inl less) lt = quiet_none (listed_in es) e.listed (not_home e has) (all_member (λ (d : Indexed). from ≤ d.listed.version → d.listed.version < version → slice_index_or ups d.listed.lane false ≡ true → has_due (listed_in es) d.listed ≡ false) es e quiet has ge less (in_lane e here))
      at e has here (inr ge) (inr more) lt =
          let same : e.listed.version ≡ version = omega (arith, lt, more) in
          some_of (HasNoneLiveIn lane segment es) (entry_at es version) e one (ap (entry_at es) (sym same) ∙ entry_of_member es index e has) here

-- and of no records none
pub none_of_none : (lane segment : ℕ) (es : List Indexed) → length es ≡ 0 → NoneLiveIn lane segment es
none_of_none lane segment es empty = each_is_member (HasNoneLiveIn lane segment es) es (λ e has. absurd (let lt = has.1 in omega (arith, lt, empty)))

-- the lane of a record is awake where each is
pub awake_of : (es : List Indexed) (version : ℕ) (r : Rec) → Found es version r → IsIndex es → (ups : List Bool) → AllByRecursion (λ e. slice_index_or ups e.listed.lane false ≡ true) es → slice_index_or ups r.lane false ≡ true
awake_of es version r f index ups all = ap (λ (k : ℕ). slice_index_or ups k false) f.record_.lane ∙ all_member (λ (e : Indexed). slice_index_or ups e.listed.lane false ≡ true) es f.entry all (among (entry_of_version es version f.entry index.rising f.is))
