-- The due blocks of one record are read and laid home.
use Rattle.std.proofs.Common.{◌≡◌, ⊎_elim, ◌<◌, ◌≤◌, ◌+◌, ◌-◌, ◌^◌, ℕ, zero, suc, Bool, true, false, not, List, length, take, Option, None, Some, Result, Ok, Err, refl, sym, ap, subst, ◌∙◌, arith, eqb}
use Rattle.std.specs.Prelude.{IsSomeAnd, IsTrue, slice_set}
use Rattle.std.specs.List.{AllZip, list_any}
use Rattle.std.specs.Option.{ForSome}
use Rattle.std.proofs.lemmas.Bool.{and_parts, eq-eqb, false≢true}
use Rattle.std.proofs.lemmas.Option.{same_Some, slice_get_within}
use Rattle.wol_disk.specs.Disk.{State, Block}
use Rattle.wol_model.specs.Extents.{has_newer}
use Rattle.wol_model.specs.Index.{Listed, Indexed, listed_in, listed_covers, is_due, is_live, is_homed, has_due, cover_of, block_numbers}
use Rattle.wol_model.specs.Log.{has_bit}
use Rattle.wol_model.proofs.Counts.{marked_within}
use Rattle.wol_promise.specs.Ruled.{Noted}
use Rattle.wol_promise.specs.Policy.{drained}
use Rattle.wol_promise.proofs.Covers.{any_found, any_member}
use Rattle.wol_promise.proofs.Lists.{member_map}
use Rattle.logger.specs.declared.lane.Lane.{Lane}
use Rattle.block_cells.specs.Masks.{IsMask}
use Rattle.redirect_map.specs.Index.{Contents, entry_at, has_version}
use Rattle.garbage_list.proofs.Nexts.{found_there}
use Rattle.manager.specs.Reading.{IsReadThrough, LaneRead}
use Rattle.manager.specs.Reclaim.{OnTried, TellsStep, AreDue, AreLaid, HasFetched, HasLaid}
use Rattle.manager.specs.Seen.{down_of, look_of_manager}
use Rattle.manager.specs.Stands.{nones_at}
use Rattle.manager.specs.declared.base.LaneBase.{LaneBase}
use Rattle.manager.specs.declared.base.ManagerBase.{ManagerBase}
use Rattle.manager.specs.declared.manager.Manager.{Manager}
use Rattle.manager.specs.declared.part.Part.{Part}
use Rattle.manager.specs.declared.part.StepFault.{StepFault}
use Rattle.manager.specs.declared.part.StepFault.TheVariants.{DiskFault, Down}
use Rattle.block_cells.proofs.Bits.{has_bit-zero}
use Rattle.reclaimer.specs.Fetches.{IsFetchOf}
use Rattle.reclaimer.specs.Groups.{LaysRecord, ReadsLanes}
use Rattle.reclaimer.specs.Records.{record_of}
use Rattle.reclaimer.specs.declared.room.Filled.{Filled}
use Rattle.reclaimer.proofs.Draining.{drained_same}
use Rattle.reclaimer.proofs.Pools.{fetched_no_fewer}
use Rattle.reclaimer.proofs.GiveUp.{some_and}
use Rattle.reclaimer.proofs.MoveHome.{fetch, version_is, same_index}

-- the mask of the due blocks of a record that has one isn't zero
pub mask_some : (es : List Listed) (e : Listed) (mask : ℕ) → IsMask e.first (is_due es e) mask → has_due es e ≡ true → 0 < mask
mask_some es e mask is has = at mask refl
  where
    bit : (i : ℕ) × (has_bit mask i ≡ true)
    bit =
        let f = any_found (is_due es e) (block_numbers e) has in
        let live = (and_parts (is_live es e f.item) (not (is_homed e f.item)) f.passes).0 in
        let covered = (and_parts ((cover_of e).covers f.item) (not (has_newer (listed_covers es) e.version f.item)) live).0 in
        let inside = marked_within e.first e.keep f.item covered in
        let same : e.first + (f.item - e.first) ≡ f.item = let a = inside.0 in omega arith in
        (f.item - e.first, is (f.item - e.first) ∙ ap (is_due es e) same ∙ f.passes)

    at : (n : ℕ) → mask ≡ n → 0 < n
    at zero empty = absurd (false≢true (sym (ap (λ (m : ℕ). has_bit m bit.0) empty ∙ has_bit-zero bit.0) ∙ bit.1))
    at (suc n) is_suc = omega arith

-- an entry's lane is that of a listed record
pub lane_listed : (es : List Indexed) (version : ℕ) (e : Indexed) → entry_at es version ≡ Some e → list_any (λ (d : Listed). eqb d.lane e.listed.lane) (listed_in es) ≡ true
lane_listed es version e is = any_member (λ (d : Listed). eqb d.lane e.listed.lane) (listed_in es) e.listed (member_map (λ (d : Indexed). d.listed) es e (found_there (has_version version) es e is)) (eq-eqb e.listed.lane e.listed.lane refl)

-- a refusal is told on
pub tried_as : (T U : Type 0) (fault : StepFault) (P Q : Type 0) → (P → Q) → OnTried {T = T} (Err fault) P → OnTried {T = U} (Err fault) Q
tried_as T U (DiskFault p) P Q so h = so h
tried_as T U (Down p) P Q so h = tt

module _ {D : Type 0} (state : D → State) (m m1 : Manager D) (version : ℕ) (e : Indexed) (is : entry_at m.index.entries version ≡ Some e) where
  -- where the record couldn't be read
  pub same_unread : (T : Type 0) (fault : StepFault) → TellsStep {T = T} state (Err fault) m m1 → OnTried {T = T} (Err fault) (ForSome (entry_at m.index.entries version) (λ d. HasFetched d.listed.lane m m1)) → m1.index ≡ m.index
  same_unread T (DiskFault p) told was = ap (λ (k : Manager D). k.index) (was e is).rest
  same_unread T (Down p) told was = ap (λ (k : Manager D). k.index) told.1

  -- or its blocks not be laid home
  pub same_unlaid : (T : Type 0) (mask : ℕ) (blocks : List Block) (new : Manager D) (fault : StepFault) → m1.index ≡ m.index → TellsStep {T = T} state (Err fault) m1 new → OnTried {T = T} (Err fault) (HasLaid {T = T} state version mask blocks m1 new (Err fault)) → new.index ≡ m.index
  same_unlaid T mask blocks new (DiskFault p) same told laid = ap (λ (k : Manager D). k.index) laid.rest ∙ same
  same_unlaid T mask blocks new (Down p) same told laid = ap (λ (k : Manager D). k.index) told.1 ∙ same

  module _ (f : Filled) (blocks : List Block) (long : length blocks ≡ 128) (few : (f.count ≤ 128) × (f.due < 2 ^ 128))
      (filled : IsSomeAnd (entry_at m.index.entries version) (λ d. IsSomeAnd (record_of (Some f) blocks) (IsFetchOf (listed_in m.index.entries) d) × (f.count ≡ length d.listed.keep)))
      (was : (d : Indexed) → entry_at m.index.entries version ≡ Some d → HasFetched d.listed.lane m m1) where
    mask_is : IsMask e.listed.first (is_due (listed_in m.index.entries) e.listed) f.due
    mask_is = (fetch m m1 version e is f blocks long few filled was).0.due

    pub due_here : AreDue m.index.entries version f.due
    due_here d there i bit = subst (λ (x : Indexed). is_due (listed_in m.index.entries) x.listed (x.listed.first + i) ≡ true) (same_Some e d (sym is ∙ there)) (sym (mask_is i) ∙ bit)

    pub due_read : AreDue m1.index.entries version f.due
    due_read = subst (λ (es : List Indexed). AreDue es version f.due) (sym (same_index m m1 version e is f blocks long few filled was)) due_here

    pub count_read : (d : Indexed) → entry_at m1.index.entries version ≡ Some d → length (take f.count blocks) ≡ length d.listed.keep
    count_read d there =
        let it = fetch m m1 version e is f blocks long few filled was in
        it.0.count ∙ ap (λ (x : Indexed). length x.listed.keep) (same_Some e d (sym is ∙ ap (λ (es : List Indexed). entry_at es version) (sym (same_index m m1 version e is f blocks long few filled was)) ∙ there))

    -- they were laid
    pub lays_one : (new : Manager D) → has_due (listed_in m.index.entries) e.listed ≡ true → HasLaid {T = Unit {0}} state version f.due (take f.count blocks) m1 new (Ok tt)
        → (0 < f.due) × (f.due < 2 ^ 128) × IsSomeAnd (entry_at m.index.entries version) (λ d. LaysRecord state d f.due m new)
    lays_one new has laid = (
      mask_some (listed_in m.index.entries) e.listed f.due mask_is has,
      few.1,
      some_and _ (entry_at m.index.entries version) e is (record {
        read = m1;
        blocks = take f.count blocks;
        fetched = was e is;
        due = mask_is;
        laid = subst (λ (v : ℕ). HasLaid {T = Unit {0}} state v f.due (take f.count blocks) m1 new (Ok tt)) (sym (version_is m m1 version e is f blocks long few filled was)) laid;
      }),
    )

    -- what was laid before is there still
    pub laid_read : (tells : Bool) (v w : ℕ) (b : ManagerBase) (notes : List Noted) → AreLaid tells state m v w b notes → AreLaid tells state m1 v w b notes
    laid_read tells v w b notes are = subst (λ (k : Manager D). AreLaid tells state k v w b notes) (sym (was e is).rest) are

  -- the look of which all is drained is the same
  pub drains_one : (T : Type 0) (res : Result T StepFault) (mask : ℕ) (blocks : List Block) (new : Manager D) → length m.ups.items ≡ length m.lanes.items → HasFetched e.listed.lane m m1 → HasLaid state version mask blocks m1 new res → new.down ≡ m.down
      → drained (look_of_manager new) ≡ drained (look_of_manager m)
  drains_one T res mask blocks new flags fetched laid same =
      ap (λ (k : Manager D). drained (look_of_manager k)) laid.rest
      ∙ ap (λ (k : Manager D). drained (record { home_up = true; ups = k.ups.items; next = k.next; listed = listed_in k.index.entries; down = down_of new.down })) fetched.rest
      ∙ ap (λ (p : Option Part). drained (record { home_up = true; ups = slice_set m.ups.items e.listed.lane true; next = m.next; listed = listed_in m.index.entries; down = down_of p })) same
      ∙ drained_same m.home_up true m.ups.items m.next (listed_in m.index.entries) (listed_in m.index.entries) (down_of m.down) e.listed.lane
      (let lt = slice_get_within m.lanes.items e.listed.lane fetched.lanes.before fetched.lanes.there in omega (arith, lt, flags)) (lane_listed m.index.entries version e is) (λ k other. refl)

  -- no pool was found empty
  pub passed_unread : (T : Type 0) (fault : StepFault) (bs : List LaneBase) (j : ℕ) → TellsStep {T = T} state (Err fault) m m1 → OnTried {T = T} (Err fault) (ForSome (entry_at m.index.entries version) (λ d. HasFetched d.listed.lane m m1)) → nones_at m.lanes.items bs j ≤ nones_at m1.lanes.items bs j
  passed_unread T (DiskFault p) bs j told was = fetched_no_fewer bs e.listed.lane m m1 (was e is) j
  passed_unread T (Down p) bs j told was = subst (λ (k : Manager D). nones_at m.lanes.items bs j ≤ nones_at k.lanes.items bs j) (sym told.1) (omega arith)

  pub passed_laid : (T : Type 0) (res : Result T StepFault) (mask : ℕ) (blocks : List Block) (new : Manager D) (bs : List LaneBase) (j : ℕ) → HasFetched e.listed.lane m m1 → HasLaid state version mask blocks m1 new res → nones_at m.lanes.items bs j ≤ nones_at new.lanes.items bs j
  passed_laid T res mask blocks new bs j fetched laid = subst (λ (ls : List (Lane D)). nones_at m.lanes.items bs j ≤ nones_at ls bs j) (sym (ap (λ (k : Manager D). k.lanes.items) laid.rest)) (fetched_no_fewer bs e.listed.lane m m1 fetched j)

  pub passed_unlaid : (T : Type 0) (mask : ℕ) (blocks : List Block) (new : Manager D) (fault : StepFault) (bs : List LaneBase) (j : ℕ) → HasFetched e.listed.lane m m1 → TellsStep {T = T} state (Err fault) m1 new → OnTried {T = T} (Err fault) (HasLaid {T = T} state version mask blocks m1 new (Err fault))
      → nones_at m.lanes.items bs j ≤ nones_at new.lanes.items bs j
  passed_unlaid T mask blocks new (DiskFault p) bs j fetched told laid = let res : Result T StepFault = Err (DiskFault p) in passed_laid T res mask blocks new bs j fetched laid
  passed_unlaid T mask blocks new (Down p) bs j fetched told laid = subst (λ (k : Manager D). nones_at m.lanes.items bs j ≤ nones_at k.lanes.items bs j) (sym told.1) (fetched_no_fewer bs e.listed.lane m m1 fetched j)

  -- home is awake still
  pub awake_unread : (T : Type 0) (fault : StepFault) → TellsStep {T = T} state (Err fault) m m1 → OnTried {T = T} (Err fault) (ForSome (entry_at m.index.entries version) (λ d. HasFetched d.listed.lane m m1)) → m1.home_up ≡ m.home_up
  awake_unread T (DiskFault p) told was = ap (λ (k : Manager D). k.home_up) (was e is).rest
  awake_unread T (Down p) told was = ap (λ (k : Manager D). k.home_up) told.1

  pub awake_unlaid : (T : Type 0) (mask : ℕ) (blocks : List Block) (new : Manager D) (fault : StepFault) → HasFetched e.listed.lane m m1 → m.home_up ≡ true → TellsStep {T = T} state (Err fault) m1 new → OnTried {T = T} (Err fault) (HasLaid {T = T} state version mask blocks m1 new (Err fault)) → new.home_up ≡ true
  awake_unlaid T mask blocks new (DiskFault p) fetched awake told laid = ap (λ (k : Manager D). k.home_up) laid.rest
  awake_unlaid T mask blocks new (Down p) fetched awake told laid = ap (λ (k : Manager D). k.home_up) told.1 ∙ ap (λ (k : Manager D). k.home_up) fetched.rest ∙ awake

  pub reads_one : (T : Type 0) (res : Result T StepFault) (mask : ℕ) (blocks : List Block) (new : Manager D) → IsReadThrough state m m1 → HasLaid state version mask blocks m1 new res → ReadsLanes state m new
  reads_one T res mask blocks new read laid = record {
    id = ap (λ (k : Manager D). k.id) laid.rest ∙ read.same.id;
    lanes = subst (AllZip (LaneRead state) m.lanes.items) (sym (ap (λ (k : Manager D). k.lanes.items) laid.rest)) read.lanes;
  }
