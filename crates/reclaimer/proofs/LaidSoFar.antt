-- The records of a group that were laid home so far.
use Rattle.std.proofs.Common.{◌≡◌, ⊎_elim, ◌<◌, ◌≤◌, ◌+◌, ◌^◌, ℕ, Bool, true, false, cond, not, ◌&&◌, List, [], ◌∷◌, ◌++◌, map, length, take, Option, None, Some, Result, Ok, Err, refl, sym, ap, subst, ◌∙◌, arith, length-append}
use Rattle.std.specs.Prelude.{find, filter, Contains, IsSome, IsSomeAnd, IsTrue, OnOk, replicate, slice_index_or, nat_le, if◌then◌else◌}
use Rattle.std.specs.List.{AllByRecursion, list_any}
use Rattle.std.proofs.lemmas.Bool.{and_parts, leb-true}
use Rattle.std.proofs.lemmas.Option.{none-some, same_Some}
use Rattle.wol_disk.specs.Disk.{State, IsDisk}
use Rattle.wol_model.specs.Index.{Indexed, listed_in, has_due, AreRising}
use Rattle.wol_promise.specs.Policy.{drained}
use Rattle.wol_promise.specs.Ruled.{Noted}
use Rattle.wol_promise.proofs.Lists.{all_map, all_member}
use Rattle.logger.specs.declared.shared.Shared.{Shared}
use Rattle.block_cells.specs.declared.record.Rec.{Rec}
use Rattle.redirect_map.specs.Index.{Contents, entry_at, HasVersion, IsAnswer, IsIndex}
use Rattle.garbage_list.specs.Least.{can_go_home, from_on, is_awake}
use Rattle.garbage_list.proofs.Nexts.{answered, unanswered, found_there, first_of_all}
use Rattle.manager.specs.Causes.{NoneRose}
use Rattle.manager.specs.Reclaim.{AreDue, AreLaid, BreaksOff, HasFetched, KeepsOn, Always, OnFailed, TellsStep}
use Rattle.manager.specs.Seen.{down_of, look_of_manager}
use Rattle.manager.specs.Stands.{Keeps, IsReady, IsHome, nones_at}
use Rattle.manager.specs.Stops.{HoldsOn}
use Rattle.manager.specs.declared.base.LaneBase.{LaneBase}
use Rattle.manager.specs.declared.base.ManagerBase.{ManagerBase}
use Rattle.manager.specs.declared.manager.Manager.{Manager}
use Rattle.manager.specs.declared.part.StepFault.{StepFault}
use Rattle.manager.specs.declared.part.StepFault.TheVariants.{DiskFault, Down}
use Rattle.manager.proofs.Calm.{none_home}
use Rattle.reclaimer.specs.Groups.{lanes_of, group_of, AllLaid, IsToMark, LaysEach, LaysRecord, ReadsLanes, none, more}
use Rattle.reclaimer.specs.declared.group.Laid.{Laid}
use Rattle.reclaimer.proofs.GiveUp.{set_same}
use Rattle.reclaimer.proofs.Firsts.{all_first, below, full_first, none_below, one_more, versions_of}
use Rattle.reclaimer.proofs.Groups.{all_both, all_pushed, calm_then, fault_then, reads_itself, reads_then, rising_pushed, same_many}
use Rattle.reclaimer.proofs.MoveHome.{entry_there}

-- ---- The record that is next

pub record Next (lanes : List Bool) (es : List Indexed) (from : ℕ) (r : Rec) : Type 0 where
  pub entry : Indexed
  pub found : find (from_on from (can_go_home lanes es)) es ≡ Some entry
  pub version : r.version ≡ entry.listed.version
  pub is : entry_at es r.version ≡ Some entry
  pub behind : from ≤ r.version
  pub awake : slice_index_or lanes entry.listed.lane false ≡ true
  pub due : has_due (listed_in es) entry.listed ≡ true

pub next_of : (lanes : List Bool) (es : List Indexed) (from : ℕ) (r : Rec) → IsIndex es → IsAnswer (find (from_on from (can_go_home lanes es)) es) (Some r) → Next lanes es from r
next_of lanes es from r index answer =
    let a = answered (find (from_on from (can_go_home lanes es)) es) r answer in
    let f = first_of_all (λ d. nat_le from d.version && (slice_index_or lanes d.lane false && has_due (listed_in es) d)) es a.entry index.rising a.is in
    let passes = and_parts (nat_le from a.entry.listed.version) (slice_index_or lanes a.entry.listed.lane false && has_due (listed_in es) a.entry.listed) f.passes in
    let both = and_parts (slice_index_or lanes a.entry.listed.lane false) (has_due (listed_in es) a.entry.listed) passes.1 in
    record {
      entry = a.entry;
      found = a.is;
      version = a.record_.version;
      is = ap (entry_at es) a.record_.version ∙ f.entry;
      behind = (let le = leb-true from a.entry.listed.version passes.0 in omega (arith, le, a.record_.version));
      awake = both.0;
      due = both.1;
    }

-- ---- So far

pub record LaidSoFar {D : Type 0} (tells : Bool) (state : D → State) (shared : Shared D) (any : Bool) (old m : Manager D) (group : List Laid) (from : ℕ) : Type 0 where
  pub ready : IsReady state m
  pub at : IsHome shared m
  pub up : m.down ≡ None
  pub awake : m.home_up ≡ true
  pub calm : NoneRose state old m
  pub same : m.index ≡ old.index
  pub lanes : lanes_of any m ≡ lanes_of any old
  pub look : any ≡ false → look_of_manager m ≡ look_of_manager old
  pub reads : ReadsLanes state old m
  pub drains : drained (look_of_manager m) ≡ drained (look_of_manager old)
  pub passed : (bs : List LaneBase) (k : ℕ) → nones_at old.lanes.items bs k ≤ nones_at m.lanes.items bs k
  pub lays : LaysEach state old (filter (below from (can_go_home (lanes_of any old) old.index.entries)) old.index.entries) group m
  pub rising : AreRising (map (λ (p : Laid). p.version) group)
  pub before : AllByRecursion (λ (p : Laid). p.version < from) group
  pub marks : AllByRecursion (IsToMark old.index.entries) group
  pub few : length group ≤ 128
  pub index : 0 < length group → IsIndex old.index.entries
  pub there : (b : ManagerBase) (notes : List Noted) → Keeps tells state old b notes → AllLaid tells state m group b notes
  pub keeps : KeepsOn tells state old m Always
  pub since : HoldsOn tells state old m (Keeps tells state old)

module _ {D : Type 0} (tells : Bool) (state : D → State) (sound : (d : D) → IsDisk (state d)) (shared : Shared D) (any : Bool) (old : Manager D) (up : old.down ≡ None) where
  each_from_zero : (es : List Indexed) → AllByRecursion (λ w. 0 ≤ w) (versions_of es)
  each_from_zero [] = tt
  each_from_zero (x ∷ xs) = (omega arith, each_from_zero xs)

  pub none_yet : IsReady state old → IsHome shared old → old.home_up ≡ true → LaidSoFar tells state shared any old old [] 0
  none_yet ready at awake = record {
    ready = ready;
    at = at;
    up = up;
    awake = awake;
    calm = none_home state old old ready refl refl;
    same = refl;
    lanes = refl;
    look = λ is. refl;
    reads = reads_itself state sound old;
    drains = refl;
    passed = λ bs k. omega arith;
    lays = subst (λ (es : List Indexed). LaysEach state old es [] old) (sym (none_below 0 (can_go_home (lanes_of any old) old.index.entries) old.index.entries (each_from_zero old.index.entries))) none;
    rising = tt;
    before = tt;
    marks = tt;
    few = omega arith;
    index = λ lt. absurd (omega arith);
    there = λ b notes k. tt;
    keeps = λ b notes always k. k;
    since = λ was b notes k s. s;
  }

  module _ (m : Manager D) (group : List Laid) (from : ℕ) (so : LaidSoFar tells state shared any old m group from) where
    entries_same : m.index.entries ≡ old.index.entries
    entries_same = ap (λ (c : Contents). c.entries) so.same

    -- the next record by what stood at first
    at_first : (o : Option Rec) → IsAnswer (find (from_on from (can_go_home (lanes_of any m) m.index.entries)) m.index.entries) o → IsAnswer (find (from_on from (can_go_home (lanes_of any old) old.index.entries)) old.index.entries) o
    at_first o answer = subst (λ (es : List Indexed). IsAnswer (find (from_on from (can_go_home (lanes_of any old) es)) es) o) entries_same
        (subst (λ (lanes : List Bool). IsAnswer (find (from_on from (can_go_home lanes m.index.entries)) m.index.entries) o) so.lanes answer)

    pub next_first : (r : Rec) → IsIndex m.index.entries → IsAnswer (find (from_on from (can_go_home (lanes_of any m) m.index.entries)) m.index.entries) (Some r) → Next (lanes_of any old) old.index.entries from r
    next_first r index answer = next_of (lanes_of any old) old.index.entries from r (subst IsIndex entries_same index) (at_first (Some r) answer)

    -- it has a due block
    pub next_due : (r : Rec) → Next (lanes_of any old) old.index.entries from r → IsSomeAnd (entry_at m.index.entries r.version) (λ e. has_due (listed_in m.index.entries) e.listed ≡ true)
    next_due r n = subst (λ (es : List Indexed). IsSomeAnd (entry_at es r.version) (λ e. has_due (listed_in es) e.listed ≡ true)) (sym entries_same)
        (subst (λ (o : Option Indexed). IsSomeAnd o (λ e. has_due (listed_in old.index.entries) e.listed ≡ true)) (sym n.is) n.due)

    -- the first ones are all, where there is no other
    pub lays_all : find (from_on from (can_go_home (lanes_of any old) old.index.entries)) old.index.entries ≡ None → LaysEach state old (group_of (lanes_of any old) old.index.entries) group m
    lays_all none_left = subst (λ (es : List Indexed). LaysEach state old es group m)
        (all_first from (can_go_home (lanes_of any old) old.index.entries) old.index.entries none_left (let n = same_many state old _ group m so.lays in omega (arith, n, so.few))) so.lays

    -- or they are as many as a group may have
    pub lays_full : AreRising (versions_of old.index.entries) → length group ≡ 128 → LaysEach state old (group_of (lanes_of any old) old.index.entries) group m
    lays_full rising full = subst (λ (es : List Indexed). LaysEach state old es group m)
        (full_first from (can_go_home (lanes_of any old) old.index.entries) old.index.entries rising (let n = same_many state old _ group m so.lays in omega (arith, n, full))) so.lays

    -- where none is next
    pub none_next : IsAnswer (find (from_on from (can_go_home (lanes_of any m) m.index.entries)) m.index.entries) None → LaysEach state old (group_of (lanes_of any old) old.index.entries) group m
    none_next answer = lays_all (unanswered (find (from_on from (can_go_home (lanes_of any old) old.index.entries)) old.index.entries) (at_first None answer))

    -- there is a version behind it
    pub next_small : (r : Rec) → Next (lanes_of any old) old.index.entries from r → r.version < 2 ^ 63
    next_small r n =
        let has = subst (λ (es : List Indexed). Contains es n.entry) (sym entries_same) (found_there (from_on from (can_go_home (lanes_of any old) old.index.entries)) old.index.entries n.entry n.found) in
        let lt = all_member (λ (e : Indexed). e.listed.version < m.next) m.index.entries n.entry so.ready.below has in
        omega (arith, lt, n.version, so.ready.next.1)

    -- what was refused
    pub stopped_fault : (T U : Type 0) (new : Manager D) (fault : StepFault) → TellsStep {T = T} state (Err fault) m new → TellsStep {T = U} state (Err fault) old new
    stopped_fault T U new fault told = fault_then state sound old m new so.reads so.calm T U fault up so.up told

    pub stopped_broke : (T U : Type 0) (new : Manager D) (fault : StepFault) → OnFailed {T = T} (Err fault) (BreaksOff tells state m new Always) → OnFailed {T = U} (Err fault) (BreaksOff tells state old new Always)
    stopped_broke T U new (DiskFault p) broke = λ b notes n always note k. broke b notes n tt note (so.keeps b notes tt k)
    stopped_broke T U new (Down p) broke = tt

    pub passed_then : (new : Manager D) → ((bs : List LaneBase) (k : ℕ) → nones_at m.lanes.items bs k ≤ nones_at new.lanes.items bs k) → (bs : List LaneBase) (k : ℕ) → nones_at old.lanes.items bs k ≤ nones_at new.lanes.items bs k
    passed_then new passed bs k = let a = so.passed bs k in let b = passed bs k in omega (arith, a, b)

    pub since_then : (new : Manager D) → HoldsOn tells state m new (Keeps tells state m) → HoldsOn tells state old new (Keeps tells state old)
    since_then new since was b notes kept s = since was b notes (so.keeps b notes tt kept) (so.since was b notes kept s)

    module _ (r : Rec) (index : IsIndex m.index.entries) (n : Next (lanes_of any old) old.index.entries from r) (new : Manager D) (mask : ℕ)
        (laid : (0 < mask) × (mask < 2 ^ 128) × IsSomeAnd (entry_at m.index.entries r.version) (λ e. LaysRecord state e mask m new)) (new_up : new.down ≡ None) where
      lays_it : LaysRecord state n.entry mask m new
      lays_it =
          let t = entry_there m.index.entries r.version (λ e. LaysRecord state e mask m new) laid.2 in
          subst (λ (e : Indexed). LaysRecord state e mask m new) (same_Some t.0 n.entry (sym t.1 ∙ ap (λ (es : List Indexed). entry_at es r.version) entries_same ∙ n.is)) t.2

      home_awake : new.home_up ≡ true
      home_awake = ap (λ (k : Manager D). k.home_up) lays_it.laid.rest

      -- where only the awake ones count
      flag_set : any ≡ false → slice_index_or m.ups.items n.entry.listed.lane false ≡ true
      flag_set is = ap (λ (l : List Bool). slice_index_or l n.entry.listed.lane false) (sym (λ i. if is i then replicate 16 true else m.ups.items) ∙ so.lanes) ∙ n.awake

      flags_stay : any ≡ false → new.ups.items ≡ m.ups.items
      flags_stay is = ap (λ (k : Manager D). k.ups.items) lays_it.laid.rest ∙ ap (λ (k : Manager D). k.ups.items) lays_it.fetched.rest ∙ set_same m.ups.items n.entry.listed.lane (flag_set is)

      lanes_stay : lanes_of any new ≡ lanes_of any m
      lanes_stay = by any refl
        where
          by : (t : Bool) → any ≡ t → lanes_of any new ≡ lanes_of any m
          by true is = (λ i. if is i then replicate 16 true else new.ups.items) ∙ sym (λ i. if is i then replicate 16 true else m.ups.items)
          by false is = (λ i. if is i then replicate 16 true else new.ups.items) ∙ flags_stay is ∙ sym (λ i. if is i then replicate 16 true else m.ups.items)

      look_stays : any ≡ false → look_of_manager new ≡ look_of_manager m
      look_stays is = ap look_of_manager lays_it.laid.rest
          ∙ (λ i. record { home_up = true; ups = (lays_it.fetched.rest i).ups.items; next = (lays_it.fetched.rest i).next; listed = listed_in (lays_it.fetched.rest i).index.entries; down = down_of new.down })
          ∙ (λ i. record { home_up = sym so.awake i; ups = set_same m.ups.items n.entry.listed.lane (flag_set is) i; next = m.next; listed = listed_in m.index.entries; down = down_of ((new_up ∙ sym so.up) i) })

      mark : Laid
      mark = record { version = r.version; mask = mask }

      lays_more : LaysEach state old (filter (below (r.version + 1) (can_go_home (lanes_of any old) old.index.entries)) old.index.entries) (group ++ record { version = r.version; mask = mask } ∷ []) new
      lays_more =
          let test = can_go_home (lanes_of any old) old.index.entries in
          let rising = subst IsIndex entries_same index in
          subst (λ (v : ℕ). LaysEach state old (filter (below (v + 1) test) old.index.entries) (group ++ record { version = v; mask = mask } ∷ []) new) (sym n.version)
          (subst (λ (es : List Indexed). LaysEach state old es (group ++ record { version = n.entry.listed.version; mask = mask } ∷ []) new) (sym (one_more from test old.index.entries n.entry rising.rising n.found))
          (more (filter (below from test) old.index.entries) group m new n.entry mask so.lays lays_it))

      pub laid_more : length group < 128 → IsReady state new → IsHome shared new → NoneRose state m new → new.index ≡ m.index → ReadsLanes state m new → drained (look_of_manager new) ≡ drained (look_of_manager m) → ((bs : List LaneBase) (k : ℕ) → nones_at m.lanes.items bs k ≤ nones_at new.lanes.items bs k) → AreDue m.index.entries r.version mask
          → ((b : ManagerBase) (notes : List Noted) → Keeps tells state m b notes → AreLaid tells state new r.version mask b notes)
          → ((v w : ℕ) (b : ManagerBase) (notes : List Noted) → AreDue m.index.entries v w → Keeps tells state m b notes → AreLaid tells state m v w b notes → AreLaid tells state new v w b notes)
          → KeepsOn tells state m new Always → HoldsOn tells state m new (Keeps tells state m) → LaidSoFar tells state shared any old new (group ++ record { version = r.version; mask = mask } ∷ []) (r.version + 1)
      laid_more room ready at calm same reads drains passed due there others keeps since = record {
        ready = ready;
        at = at;
        up = new_up;
        awake = home_awake;
        calm = calm_then state sound old m new so.reads so.calm calm;
        same = same ∙ so.same;
        lanes = lanes_stay ∙ so.lanes;
        look = λ is. look_stays is ∙ so.look is;
        reads = reads_then state sound old m new so.reads reads;
        drains = drains ∙ so.drains;
        passed = λ bs k. (let a = so.passed bs k in let b = passed bs k in omega (arith, a, b));
        lays = lays_more;
        rising = rising_pushed group (record { version = r.version; mask = mask }) so.rising (all_map (λ (p : Laid). p.version < from) (λ (p : Laid). p.version < r.version) (λ p lt. omega (arith, lt, n.behind)) group so.before);
        before = all_pushed (λ (p : Laid). p.version < r.version + 1) group (record { version = r.version; mask = mask })
            (all_map (λ (p : Laid). p.version < from) (λ (p : Laid). p.version < r.version + 1) (λ p lt. omega (arith, lt, n.behind)) group so.before) (omega arith);
        marks = all_pushed (IsToMark old.index.entries) group (record { version = r.version; mask = mask }) so.marks (record {
          there = subst IsSome (sym n.is) refl;
          due = subst (λ (es : List Indexed). AreDue es r.version mask) entries_same due;
          some = laid.0;
          fits = laid.1;
        });
        few = (let l = length-append group (record { version = r.version; mask = mask } ∷ []) in omega (arith, l, room));
        index = λ lt. subst IsIndex entries_same index;
        there = λ b notes k. all_pushed (λ (p : Laid). AreLaid tells state new p.version p.mask b notes) group (record { version = r.version; mask = mask })
            (all_both (IsToMark old.index.entries) (λ (p : Laid). AreLaid tells state m p.version p.mask b notes) (λ (p : Laid). AreLaid tells state new p.version p.mask b notes) group
            (λ p to laid_. others p.version p.mask b notes (subst (λ (es : List Indexed). AreDue es p.version p.mask) (sym entries_same) to.due) (so.keeps b notes tt k) laid_) so.marks (so.there b notes k))
            (there b notes (so.keeps b notes tt k));
        keeps = λ b notes always k. keeps b notes tt (so.keeps b notes tt k);
        since = since_then new since;
      }
