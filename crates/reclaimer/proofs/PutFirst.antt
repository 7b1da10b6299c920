-- A group: its records were laid home, home was synced, and their blocks were marked as home.
use Rattle.std.proofs.Common.{◌≡◌, ◌<◌, ◌≤◌, ◌+◌, ℕ, zero, suc, Bool, true, false, List, [], ◌∷◌, ◌++◌, map, length, take, Option, None, Some, Result, Ok, Err, is_ok, refl, sym, ap, subst, ◌∙◌, arith, eqb, length-append}
use Rattle.std.specs.Prelude.{find, filter, IfOk, IsTrue, OnErr, ◌↔◌, is_some}
use Rattle.std.specs.List.{AllByRecursion}
use Rattle.std.proofs.lemmas.Option.{none-some}
use Rattle.wol_disk.specs.Disk.{State, IsDisk}
use Rattle.wol_model.specs.Index.{Indexed, listed_in, left}
use Rattle.wol_promise.specs.Policy.{Look, AreReclaims, drained}
use Rattle.wol_promise.specs.Policy as policy
use Rattle.wol_promise.specs.Ruled.{Noted}
use Rattle.wol_promise.proofs.Lists.{all_map}
use Rattle.block_cells.specs.declared.record.Rec.{Rec}
use Rattle.redirect_map.specs.Index.{Contents, IsAnswer}
use Rattle.garbage_list.specs.Least.{can_go_home}
use Rattle.manager.specs.Causes.{NoneRose}
use Rattle.manager.specs.Reclaim.{OnFailed, OnKept, OnTried, AreHome, AreLaid, BreaksOff, HasSynced, KeepsOn, StopsSince, Always, TellsStep}
use Rattle.manager.specs.Seen.{down_of, look_of_manager}
use Rattle.manager.specs.Stands.{Keeps, IsReady, nones_at}
use Rattle.manager.specs.Stops.{HoldsOn, Stops}
use Rattle.logger.specs.declared.lane.Lane.{Lane}
use Rattle.manager.specs.declared.base.LaneBase.{LaneBase}
use Rattle.manager.specs.declared.base.ManagerBase.{ManagerBase}
use Rattle.manager.specs.declared.manager.Manager.{Manager}
use Rattle.manager.specs.declared.part.StepFault.{StepFault}
use Rattle.manager.specs.declared.part.StepFault.TheVariants.{DiskFault, Down}
use Rattle.manager.proofs.HomeSince.{since_itself, since_read, stops_since}
use Rattle.manager.proofs.ReadKeeps.{keeps_read}
use Rattle.reclaimer.specs.Counts.{CountsPut, TakesOff}
use Rattle.reclaimer.specs.Groups.{lanes_of, group_of, AllHome, AllLaid, HasPutGroup, LaysEach, PutsGroup, ReadsLanes, marked, none, more}
use Rattle.reclaimer.specs.Steps.{StopsWithin}
use Rattle.reclaimer.specs.declared.answers.Drain.{Drain}
use Rattle.reclaimer.specs.declared.answers.Drain.TheVariants.{Bare, Moved}
use Rattle.reclaimer.specs.declared.group.Laid.{Laid}
use Rattle.reclaimer.proofs.Counted.{index_stays, taken_since}
use Rattle.reclaimer.proofs.Firsts.{found_none, none_found}
use Rattle.reclaimer.proofs.Groups.{calm_then, fault_then, same_many}
use Rattle.reclaimer.proofs.LaysOne.{tried_as}
use Rattle.reclaimer.proofs.Moments.{tried_within, within}

nothing_in : {X : Type 0} (xs : List X) → length xs ≡ 0 → xs ≡ []
nothing_in [] is = refl
nothing_in (x ∷ xs) is = absurd (omega (arith, is))

-- where no record was laid nothing was changed
pub lays_none : {D : Type 0} (state : D → State) (old : Manager D) (es : List Indexed) (group : List Laid) (m : Manager D) → LaysEach state old es group m → length group ≡ 0 → m ≡ old
lays_none state old es group m none is = refl
lays_none state old es group m (more ds ps k n e mask rest lays) is = absurd (let a = length-append ps (record { version = e.listed.version; mask = mask } ∷ []) in omega (arith, a, is))

module _ {D : Type 0} (state : D → State) (any : Bool) (old m : Manager D) (group : List Laid) (lays : LaysEach state old (group_of (lanes_of any old) old.index.entries) group m) where
  -- and there is no record within reach that has a due block
  pub none_due : length group ≡ 0 → find (can_go_home (lanes_of any old) old.index.entries) old.index.entries ≡ None
  none_due is = found_none (can_go_home (lanes_of any old) old.index.entries) old.index.entries
      (nothing_in (group_of (lanes_of any old) old.index.entries) (same_many state old (group_of (lanes_of any old) old.index.entries) group m lays ∙ is))

  pub due_none : find (can_go_home (lanes_of any old) old.index.entries) old.index.entries ≡ None → length group ≡ 0
  due_none is =
      let empty : group_of (lanes_of any old) old.index.entries ≡ [] = ap (take 128) (none_found (can_go_home (lanes_of any old) old.index.entries) old.index.entries is) in
      sym (same_many state old (group_of (lanes_of any old) old.index.entries) group m lays) ∙ ap length empty

  -- a group that was laid has such a record
  pub not_none : 0 < length group → find (can_go_home (lanes_of any old) old.index.entries) old.index.entries ≡ None → ⊥
  not_none some is = let n = due_none is in omega (arith, n, some)

-- the answer is 0 exactly where there is no such record
pub nothing_any : (res : Result ℕ StepFault) (P : Type 0) → IfOk res (λ (count : ℕ). (count ≡ 0) ↔ P) → OnErr res (P → ⊥) → (let zero_ : Result ℕ StepFault = Ok 0 in res ≡ zero_) ↔ P
nothing_any (Ok count) P nothing due = ((λ is. nothing.0 (ap counted_in is)), (λ p. ap (λ (n : ℕ). let answer : Result ℕ StepFault = Ok n in answer) (nothing.1 p)))
  where
    counted_in : Result ℕ StepFault → ℕ
    counted_in (Ok n) = n
    counted_in (Err fault) = 0
nothing_any (Err fault) P nothing due = ((λ is. absurd (let no : false ≡ true = ap is_ok is in cc)), (λ p. absurd (due p)))

-- stopped at any moment since reads before the group
pub stops_group : {D : Type 0} (tells : Bool) (state : D → State) (sound : (d : D) → IsDisk (state d)) (old m : Manager D) → old.down ≡ None → IsReady state old → HoldsOn tells state old m (Keeps tells state old) → IsTrue tells → StopsSince tells state old m Always
stops_group tells state sound old m up ready since told was through b notes always kept =
    let up_was : was.down ≡ None = sym through.down ∙ up in
    let read = since_read tells state sound was was b notes (since_itself tells state sound was b notes up_was) old through.index through.lanes through.home in
    stops_since tells state sound was m b notes (since was b notes (keeps_read tells state was old b notes through ready up_was kept) read) told kept

-- so it is from its beginning on
pub within_any : {D : Type 0} (tells : Bool) (state : D → State) (sound : (d : D) → IsDisk (state d)) {T : Type 0} (res : Result T StepFault) (old new : Manager D) → TellsStep state res old new → OnTried res (IsTrue tells → StopsSince tells state old new Always)
    → IsTrue tells → StopsWithin tells state old new Always
within_any tells state sound (Ok x) old new told since is = within tells state sound Always old new (since is)
within_any tells state sound {T} (Err fault) old new told since is = tried_within tells state sound Always T is old new fault told since

module _ {D : Type 0} (tells : Bool) (state : D → State) (sound : (d : D) → IsDisk (state d)) (old m : Manager D) (up : old.down ≡ None) (up_m : m.down ≡ None) (ready : IsReady state old) (same : m.index ≡ old.index) (reads : ReadsLanes state old m) (calm : NoneRose state old m)
    (keeps : KeepsOn tells state old m Always) (since : HoldsOn tells state old m (Keeps tells state old)) where
  -- a refusal behind the laying
  pub refused_fault : (T U : Type 0) (new : Manager D) (fault : StepFault) → TellsStep {T = T} state (Err fault) m new → TellsStep {T = U} state (Err fault) old new
  refused_fault T U new fault told = fault_then state sound old m new reads calm T U fault up up_m told

  pub refused_broke : (T U : Type 0) (new : Manager D) (fault : StepFault) → OnFailed {T = T} (Err fault) (BreaksOff tells state m new Always) → OnFailed {T = U} (Err fault) (BreaksOff tells state old new Always)
  refused_broke T U new (DiskFault p) broke = λ b notes n always note k. broke b notes n tt note (keeps b notes tt k)
  refused_broke T U new (Down p) broke = tt

  pub refused_index : (T : Type 0) (new : Manager D) (fault : StepFault) → TellsStep {T = T} state (Err fault) m new → OnTried {T = T} (Err fault) (HasSynced {T = T} state m new (Err fault)) → new.index ≡ old.index
  refused_index T new (DiskFault p) told synced = ap (λ (k : Manager D). k.index) synced.rest ∙ same
  refused_index T new (Down p) told synced = ap (λ (k : Manager D). k.index) told.1 ∙ same

  pub refused_passed : (T : Type 0) (new : Manager D) (fault : StepFault) → TellsStep {T = T} state (Err fault) m new → OnTried {T = T} (Err fault) (HasSynced {T = T} state m new (Err fault)) → ((bs : List LaneBase) (k : ℕ) → nones_at old.lanes.items bs k ≤ nones_at m.lanes.items bs k)
      → (bs : List LaneBase) (k : ℕ) → nones_at old.lanes.items bs k ≤ nones_at new.lanes.items bs k
  refused_passed T new (DiskFault p) told synced passed bs k = subst (λ (ls : List (Lane D)). nones_at old.lanes.items bs k ≤ nones_at ls bs k) (sym (ap (λ (x : Manager D). x.lanes.items) synced.rest)) (passed bs k)
  refused_passed T new (Down p) told synced passed bs k = absurd (none-some p (sym up_m ∙ told.0))

  pub refused_awake : (T : Type 0) (new : Manager D) (fault : StepFault) → TellsStep {T = T} state (Err fault) m new → OnTried {T = T} (Err fault) (HasSynced {T = T} state m new (Err fault)) → new.home_up ≡ true
  refused_awake T new (DiskFault p) told synced = ap (λ (x : Manager D). x.home_up) synced.rest
  refused_awake T new (Down p) told synced = absurd (none-some p (sym up_m ∙ told.0))

  pub refused_stops : (T U : Type 0) (new : Manager D) (fault : StepFault) → OnTried {T = T} (Err fault) (HoldsOn tells state m new Always) → OnTried {T = U} (Err fault) (IsTrue tells → StopsSince tells state old new Always)
  refused_stops T U new fault on = tried_as T U fault (HoldsOn tells state m new Always) (IsTrue tells → StopsSince tells state old new Always)
      (λ h. stops_group tells state sound old new up ready (λ was b notes k s. h was b notes tt (since was b notes k s))) on

pub first_stops : {D : Type 0} (tells : Bool) (state : D → State) (sound : (d : D) → IsDisk (state d)) (T U : Type 0) (old new : Manager D) (fault : StepFault) → old.down ≡ None → IsReady state old
    → OnTried {T = T} (Err fault) (HoldsOn tells state old new (Keeps tells state old)) → OnTried {T = U} (Err fault) (IsTrue tells → StopsSince tells state old new Always)
first_stops tells state sound T U old new fault up ready since = tried_as T U fault (HoldsOn tells state old new (Keeps tells state old)) (IsTrue tells → StopsSince tells state old new Always) (stops_group tells state sound old new up ready) since

pub above_zero : (n : ℕ) → eqb n 0 ≡ false → 0 < n
above_zero zero is = absurd (let no : true ≡ false = is in cc)
above_zero (suc n) is = omega arith

-- a refusal changes no index: none was put home
pub refused_put : {D : Type 0} (state : D → State) (any : Bool) (old new : Manager D) (fault : StepFault) → old.down ≡ None → TellsStep {T = ℕ} state (Err fault) old new → new.index ≡ old.index → HasPutGroup state any (Err fault) old new
refused_put state any old new (DiskFault p) up told same = same
refused_put state any old new (Down p) up told same = absurd (none-some p (sym up ∙ told.0))

-- ---- The whole

module _ {D : Type 0} (tells : Bool) (state : D → State) (sound : (d : D) → IsDisk (state d)) (any : Bool) (old m synced new : Manager D) (group : List Laid) (blocks : ℕ)
    (lays : LaysEach state old (group_of (lanes_of any old) old.index.entries) group m) (some : 0 < length group) (same : m.index ≡ old.index) (awake : m.home_up ≡ true) (up_m : m.down ≡ None)
    (sync : HasSynced {T = Unit {0}} state m synced (Ok tt)) (up : synced.down ≡ None) (rest : new ≡ record synced { index = new.index }) (marks : new.index.entries ≡ marked group synced.index.entries) (many : length group ≤ blocks) where
  synced_index : synced.index ≡ old.index
  synced_index = ap (λ (k : Manager D). k.index) sync.rest ∙ same

  pub group_put : HasPutGroup state any (Ok blocks) old new
  group_put = (
    (λ zero_. absurd (omega (arith, zero_, some, many))),
    (λ lt. record {
      group = group;
      many = many;
      laid = m;
      synced = synced;
      each = lays;
      sync = sync;
      rest = rest;
      index = marks ∙ ap (λ (c : Contents). marked group c.entries) synced_index;
    }),
  )

  pub group_nothing : (blocks ≡ 0) ↔ (find (can_go_home (lanes_of any old) old.index.entries) old.index.entries ≡ None)
  group_nothing = (
    (λ is. absurd (omega (arith, is, some, many))),
    (λ none_. absurd (let n = due_none state any old m group lays none_ in omega (arith, n, some))),
  )

  look_synced : look_of_manager synced ≡ look_of_manager m
  look_synced = ap look_of_manager sync.rest ∙ (λ i. record { home_up = sym awake i; ups = m.ups.items; next = m.next; listed = listed_in m.index.entries; down = down_of ((up ∙ sym up_m) i) })

  pub group_look : look_of_manager m ≡ look_of_manager old → AreReclaims (look_of_manager synced) (look_of_manager new) → AreReclaims (look_of_manager old) (look_of_manager new)
  group_look is reclaims = subst (λ (l : Look). AreReclaims l (look_of_manager new)) (look_synced ∙ is) reclaims

  pub group_drains : drained (look_of_manager m) ≡ drained (look_of_manager old) → drained (look_of_manager new) ≡ drained (look_of_manager synced) → drained (look_of_manager new) ≡ drained (look_of_manager old)
  group_drains first last = last ∙ ap drained look_synced ∙ first

  pub group_passed : ((bs : List LaneBase) (k : ℕ) → nones_at old.lanes.items bs k ≤ nones_at m.lanes.items bs k) → (bs : List LaneBase) (k : ℕ) → nones_at old.lanes.items bs k ≤ nones_at new.lanes.items bs k
  group_passed passed bs k = subst (λ (ls : List (Lane D)). nones_at old.lanes.items bs k ≤ nones_at ls bs k) (sym (ap (λ (x : Manager D). x.lanes.items) rest ∙ ap (λ (x : Manager D). x.lanes.items) sync.rest)) (passed bs k)

  pub group_counted : TakesOff blocks 0 (look_of_manager synced) (look_of_manager new) → TakesOff blocks 0 (look_of_manager old) (look_of_manager new)
  group_counted taken = taken_since blocks 0 (look_of_manager old) (look_of_manager synced) (look_of_manager new) (ap (λ (c : Contents). listed_in c.entries) synced_index) taken

  pub group_lowers : left (listed_in new.index.entries) + length group ≤ left (listed_in synced.index.entries) → left (listed_in new.index.entries) < left (listed_in old.index.entries)
  group_lowers less = let l = ap (λ (c : Contents). left (listed_in c.entries)) synced_index in omega (arith, less, l, some)

  pub group_calm : ReadsLanes state old m → NoneRose state old m → NoneRose state m synced → NoneRose state old new
  group_calm reads first next = subst (NoneRose state old) (sym rest)
      (let both = calm_then state sound old m synced reads first next in record { home = both.home; held = both.held })

  pub group_keeps : KeepsOn tells state old m Always → ((b : ManagerBase) (notes : List Noted) → Keeps tells state old b notes → AllLaid tells state m group b notes) → KeepsOn tells state m synced Always
      → ((v w : ℕ) (b : ManagerBase) (notes : List Noted) → AreLaid tells state m v w b notes → AreHome tells state synced v w b notes) → KeepsOn tells state synced new (AllHome tells state synced group) → KeepsOn tells state old new Always
  group_keeps first laid second there third b notes always k =
      third b notes (all_map (λ (p : Laid). AreLaid tells state m p.version p.mask b notes) (λ (p : Laid). AreHome tells state synced p.version p.mask b notes) (λ p is. there p.version p.mask b notes is) group (laid b notes k))
      (second b notes tt (first b notes tt k))

  pub group_stops : old.down ≡ None → IsReady state old → HoldsOn tells state old m (Keeps tells state old) → HoldsOn tells state m synced Always → IsTrue tells → StopsSince tells state old new Always
  group_stops up_old ready since on told was through b notes always k = subst (λ (n : Manager D). Stops state was n None b notes []) (sym rest)
      (stops_group tells state sound old synced up_old ready (λ w c ns kept s. on w c ns tt (since w c ns kept s)) told was through b notes tt k)

-- ---- In a drain

pub none_answered : (q : Option Indexed) (o : Option Rec) → IsAnswer q o → is_some o ≡ false → q ≡ None
none_answered None o answer is = refl
none_answered (Some e) None answer is = absurd answer
none_answered (Some e) (Some r) answer is = absurd (let no : true ≡ false = is in cc)

pub due_some : (q : Option Indexed) (o : Option Rec) → IsAnswer q o → is_some o ≡ true → q ≡ None → ⊥
due_some q None answer is none_ = let no : false ≡ true = is in cc
due_some None (Some r) answer is none_ = answer
due_some (Some e) (Some r) answer is none_ = none-some e (sym none_)

-- what goes home where something is due is some blocks
pub blocks_above : (blocks : ℕ) (P : Type 0) → ((blocks ≡ 0) ↔ P) → (P → ⊥) → 0 < blocks
blocks_above zero P nothing not = absurd (not (nothing.0 refl))
blocks_above (suc n) P nothing not = omega arith

-- a refusal of a manager that isn't down is a fault
pub kept_refused : {D : Type 0} (state : D → State) (T U : Type 0) (old new : Manager D) (fault : StepFault) → old.down ≡ None → TellsStep {T = T} state (Err fault) old new → (P : Type 0) → OnKept {T = U} (Err fault) P
kept_refused state T U old new (DiskFault p) up told P = tt
kept_refused state T U old new (Down p) up told P = absurd (none-some p (sym up ∙ told.0))

abbrev pub is_bare : Result Drain StepFault → Bool
is_bare (Ok Bare) = true
is_bare (Ok (Moved blocks records)) = false
is_bare (Err fault) = false

-- another answer than that nothing is left
pub moved_not_bare : (answer : Result Drain StepFault) → is_bare answer ≡ false → (let bare : Result Drain StepFault = Ok Bare in answer ≡ bare) → ⊥
moved_not_bare answer is same = let no : false ≡ true = sym is ∙ ap is_bare same in cc
