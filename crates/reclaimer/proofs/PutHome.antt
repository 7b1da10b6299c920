-- A call that puts fetched blocks home, by its answers.
use Rattle.std.proofs.Common.{◌≡◌, ◌≢◌, ◌<◌, ◌≤◌, ◌+◌, ◌^◌, ℕ, Bool, true, false, ◌&&◌, List, length, take, Option, None, Some, Result, Ok, Err, is_ok, refl, sym, ap, subst, ◌∙◌, eqb}
use Rattle.std.specs.Prelude.{IsTrue, is_some, count_by}
use Rattle.std.specs.Int.RustNames.{count_ones}
use Rattle.std.specs.Option.{option_map_or}
use Rattle.std.proofs.lemmas.Bool.{and_parts, eqb-true, false≢true}
use Rattle.std.proofs.lemmas.Nat.{zero_from_ones}
use Rattle.wol_disk.specs.Disk.{State, Block, IsDisk}
use Rattle.wol_model.specs.History.{writes}
use Rattle.wol_model.specs.Index.{Indexed, listed_in, is_due, block_numbers, left}
use Rattle.wol_model.specs.Log.{has_bit}
use Rattle.wol_promise.specs.Policy.{IsReclaim}
use Rattle.wol_promise.specs.Ruled.{Noted, entries_of}
use Rattle.wol_promise.specs.Stands.{IsDataOf}
use Rattle.block_cells.specs.Masks.{IsMask, in_mask}
use Rattle.redirect_map.specs.Index.{entry_at, changed, HasVersion, IsIndex}
use Rattle.manager.specs.Reclaim.{OnTried, OnFailed, TellsStep, BreaksOff, StopsSince, AreOf, HasStored, with_put}
use Rattle.manager.specs.Seen.{look_of_manager}
use Rattle.manager.specs.declared.base.ManagerBase.{ManagerBase}
use Rattle.manager.specs.declared.manager.Manager.{Manager}
use Rattle.manager.specs.declared.part.StepFault.{StepFault}
use Rattle.manager.specs.declared.part.StepFault.TheVariants.{DiskFault, Down}
use Rattle.manager.proofs.ReadThrough.{through_self}
use Rattle.reclaimer.specs.Counts.{TakesOff, CountsPut}
use Rattle.reclaimer.specs.Fetches.{HasData, is_still_due, goes_home, home_count}
use Rattle.reclaimer.specs.Records.{FetchedRecord, record_of}
use Rattle.reclaimer.specs.Steps.{HasPutHome, StopsWithin}
use Rattle.reclaimer.specs.declared.room.Filled.{Filled}
use Rattle.reclaimer.proofs.Counted.{index_stays, put_takes, ones_of_mask, lowered_by_mask}
use Rattle.reclaimer.proofs.Counting.{count_nothing}
use Rattle.reclaimer.proofs.GiveUp.{some_and, done_then}
use Rattle.reclaimer.proofs.Moments.{at_rest}
use Rattle.reclaimer.proofs.Putting.{seen, mask_is, counted_home, none_goes, empty_where, stored_as, put_reclaims}

-- while home is asleep nothing goes
pub asleep_none : {D : Type 0} (m : Manager D) (from : Option FetchedRecord) → m.home_up ≡ false → 0 ≡ home_count m from
asleep_none m None asleep = refl
asleep_none m (Some f) asleep = sym (count_nothing (goes_home m (Some f)) f.first (length f.blocks) (λ i lt j. asleep j && is_still_due m.index.entries f.version f.first (length f.blocks) f.due (f.first + i)))

-- the premise of a promise may be a stronger one
pub fails_so : {D : Type 0} (T : Type 0) (tells : Bool) (state : D → State) (old new : Manager D) (P Q : ManagerBase → List Noted → Type 0) → ((b : ManagerBase) (notes : List Noted) → Q b notes → P b notes) → (fault : StepFault)
    → OnFailed {T = T} (Err fault) (BreaksOff tells state old new P) → OnFailed {T = ℕ} (Err fault) (BreaksOff tells state old new Q)
fails_so T tells state old new P Q so (DiskFault p) broke = λ b notes n has note keeps. broke b notes n (so b notes has) note keeps
fails_so T tells state old new P Q so (Down p) broke = tt

-- what is known once it was asked which of the fetched blocks are still due
pub record IsAsked {D : Type 0} (m : Manager D) (f : Filled) (blocks : List Block) (from : Option FetchedRecord) (put : ℕ) : Type 0 where
  pub few : f.count ≤ 128
  pub long : length blocks ≡ 128
  pub from_is : from ≡ record_of (Some f) blocks
  pub up : m.home_up ≡ true
  pub fits : put < 2 ^ 128
  pub is : IsMask f.lbn (is_still_due m.index.entries f.version f.lbn f.count f.due) put

-- and where some of them go home
pub record IsGoing {D : Type 0} (m : Manager D) (f : Filled) (put : ℕ) : Type 0 where
  pub some : put ≢ 0
  pub index : IsIndex m.index.entries
  pub there : HasVersion m.index.entries f.version
  pub range : (e : Indexed) → entry_at m.index.entries f.version ≡ Some e → (f.lbn ≡ e.listed.first) × (f.count ≡ length e.listed.keep)

module _ {D : Type 0} {m : Manager D} {f : Filled} {blocks : List Block} {from : Option FetchedRecord} {put : ℕ} (a : IsAsked m f blocks from put) where
  pub counted_put : count_ones put ≡ home_count m from
  counted_put = counted_home m f blocks a.few a.long a.up put a.fits a.is ∙ ap (home_count m) (sym a.from_is)

  pub none_put : put ≡ 0 → (b : ℕ) → goes_home m from b ≡ false
  none_put empty b = ap (λ (o : Option FetchedRecord). goes_home m o b) a.from_is ∙ none_goes m f blocks a.few a.long a.up put a.fits a.is empty b

  pub none_counted : put ≡ 0 → 0 ≡ home_count m from
  none_counted empty = subst (λ (o : Option FetchedRecord). 0 ≡ home_count m o) (sym a.from_is)
      (sym (count_nothing (goes_home m (Some (seen m f blocks a.few a.long))) f.lbn (length (take f.count blocks)) (λ i lt. none_goes m f blocks a.few a.long a.up put a.fits a.is empty (f.lbn + i))))

  pub empty_put : ((b : ℕ) → goes_home m from b ≡ false) → put ≡ 0
  empty_put none = empty_where m f blocks a.few a.long a.up put a.fits a.is (λ b. ap (λ (o : Option FetchedRecord). goes_home m o b) (sym a.from_is) ∙ none b)

  -- the data that was fetched is that of the record
  pub data_are : IsGoing m f put → (tells : Bool) (lent : List Block) → lent ≡ blocks → (b : ManagerBase) (notes : List Noted) → HasData tells from b notes → AreOf tells m.index.entries f.version (take f.count lent) b notes
  data_are going tells lent same_lent b notes has told e there =
      let d : IsDataOf b.volume.began (writes (entries_of notes)) f.version f.lbn (take f.count blocks) = subst (λ (o : Option FetchedRecord). HasData tells o b notes) a.from_is has told in
      record {
        write = d.write;
        known = d.known;
        named = d.named;
        range = d.range ∙ (going.range e there).0;
        data_ = d.data_ ∙ ap (take f.count) (sym same_lent);
      }

  module _ (state : D → State) (going : IsGoing m f put) (new : Manager D) (lent : List Block) (same_lent : lent ≡ blocks) where
    -- it was done
    pub was_put : {T : Type 0} (r : Result T StepFault) → is_ok r ≡ true → HasStored state f.version put (take f.count lent) m new r → HasPutHome state (Ok (count_ones put)) m new from
    was_put r done h = let done_ : Result ℕ StepFault = Ok (count_ones put) in (
      λ zero_. absurd (going.some (zero_from_ones put zero_)),
      λ _. some_and _ from (seen m f blocks a.few a.long) a.from_is (
        put,
        mask_is m f blocks a.few a.long a.up put a.fits a.is,
        subst (λ (bs : List Block). HasStored state f.version put (take f.count bs) m new done_) same_lent (stored_as state f.version put (take f.count lent) m new r done_ (sym done) h),
      ),
    )

    -- home failed
    pub was_refused : (T : Type 0) (fault : StepFault) → TellsStep {T = T} state (Err fault) m new → OnTried {T = T} (Err fault) (HasStored {T = T} state f.version put (take f.count lent) m new (Err fault)) → HasPutHome state (Err fault) m new from
    was_refused T (DiskFault p) told h = let was : Result T StepFault = Err (DiskFault p) in let failed : Result ℕ StepFault = Err (DiskFault p) in some_and _ from (seen m f blocks a.few a.long) a.from_is (
      put,
      mask_is m f blocks a.few a.long a.up put a.fits a.is,
      subst (λ (bs : List Block). HasStored state f.version put (take f.count bs) m new failed) same_lent (stored_as state f.version put (take f.count lent) m new was failed refl h),
    )
    was_refused T (Down p) told h = told.1

    due_bits : (e : Indexed) → entry_at m.index.entries f.version ≡ Some e → (i : ℕ) → has_bit put i ≡ true → is_due (listed_in m.index.entries) e.listed (e.listed.first + i) ≡ true
    due_bits e is_its i bit =
        let test = λ (x : Indexed). eqb x.listed.first f.lbn && (eqb (length x.listed.keep) f.count && is_due (listed_in m.index.entries) x.listed (f.lbn + i)) in
        let all = and_parts (in_mask f.lbn f.due (f.lbn + i)) (option_map_or test (entry_at m.index.entries f.version) false) (sym (a.is i) ∙ bit) in
        let passes : test e ≡ true = ap (λ (o : Option Indexed). option_map_or test o false) (sym is_its) ∙ all.1 in
        let one = and_parts (eqb e.listed.first f.lbn) (eqb (length e.listed.keep) f.count && is_due (listed_in m.index.entries) e.listed (f.lbn + i)) passes in
        let two = and_parts (eqb (length e.listed.keep) f.count) (is_due (listed_in m.index.entries) e.listed (f.lbn + i)) one.1 in
        subst (λ (b : ℕ). is_due (listed_in m.index.entries) e.listed (b + i) ≡ true) (sym (eqb-true e.listed.first f.lbn one.0)) two.1

    module _ {T : Type 0} (r : Result T StepFault) (done : is_ok r ≡ true) (h : HasStored state f.version put (take f.count lent) m new r) where
      entry : (e : Indexed) × (entry_at m.index.entries f.version ≡ Some e)
      entry = at (entry_at m.index.entries f.version) refl going.there
        where
          at : (o : Option Indexed) → entry_at m.index.entries f.version ≡ o → is_some o ≡ true → (e : Indexed) × (entry_at m.index.entries f.version ≡ Some e)
          at None is_none some_ = absurd (false≢true some_)
          at (Some e) is_some_ some_ = (e, is_some_)

      -- the look goes on by a step of reclaim
      pub was_reclaimed : new.down ≡ m.down → IsReclaim (look_of_manager m) (look_of_manager new)
      was_reclaimed down = put_reclaims state f.version put (take f.count lent) m new r done h down a.up going.index entry.0 entry.1 (due_bits entry.0 entry.1)

      marked : new.index.entries ≡ changed f.version (with_put put) m.index.entries
      marked = done_then _ r done h.ok

      ones : count_ones put ≡ count_by (in_mask entry.0.listed.first put) (block_numbers entry.0.listed)
      ones = ones_of_mask m.index.entries new.index.entries going.index f.version entry.0 entry.1 put (due_bits entry.0 entry.1) marked a.fits

      -- the blocks that went home were due
      pub was_counted : TakesOff (count_ones put) 0 (look_of_manager m) (look_of_manager new)
      was_counted = put_takes m new going.index f.version entry.0 entry.1 put (due_bits entry.0 entry.1) marked (count_ones put) (sym ones)

      -- less is left
      pub was_lowered : 0 < count_ones put → left (listed_in new.index.entries) < left (listed_in m.index.entries)
      was_lowered some_ = lowered_by_mask m.index.entries new.index.entries going.index f.version entry.0 entry.1 put (due_bits entry.0 entry.1) marked (subst (λ (n : ℕ). 0 < n) ones some_)

-- home failed: as many blocks are due as before
pub refused_counted : {D : Type 0} (T : Type 0) (state : D → State) (version mask : ℕ) (blocks : List Block) (old new : Manager D) (fault : StepFault) → TellsStep {T = T} state (Err fault) old new
    → OnTried {T = T} (Err fault) (HasStored {T = T} state version mask blocks old new (Err fault)) → CountsPut (Err fault) (look_of_manager old) (look_of_manager new)
refused_counted T state version mask blocks old new (DiskFault p) told h = index_stays old new h.err
refused_counted {D} T state version mask blocks old new (Down p) told h = index_stays old new (ap (λ (k : Manager D). k.index) told.1)

-- ---- moments

module _ {D : Type 0} (tells : Bool) (state : D → State) (sound : (d : D) → IsDisk (state d)) (P Q : ManagerBase → List Noted → Type 0) (so : (b : ManagerBase) (notes : List Noted) → Q b notes → P b notes) where
  pub within_so : (old new : Manager D) → StopsSince tells state old new P → StopsWithin tells state old new Q
  within_so old new since b notes has keeps = since old (through_self state sound old) b notes (so b notes has) keeps

  pub tried_so : (T : Type 0) → IsTrue tells → (old new : Manager D) (fault : StepFault) → TellsStep {T = T} state (Err fault) old new → OnTried {T = T} (Err fault) (IsTrue tells → StopsSince tells state old new P) → StopsWithin tells state old new Q
  tried_so T told old new (DiskFault p) tells_ since = within_so old new (since told)
  tried_so T told old new (Down p) tells_ since = subst (λ (k : Manager D). StopsWithin tells state old k Q) (sym tells_.1) (at_rest tells state sound Q told old)
