-- A record that was read, and a step behind the read.
use Rattle.std.proofs.Common.{◌≡◌, ◌<◌, ◌≤◌, ◌+◌, ◌^◌, ℕ, Bool, true, false, not, List, length, take, Option, None, Some, Result, Ok, Err, is_ok, refl, sym, ap, subst, ◌∙◌, arith}
use Rattle.std.specs.Prelude.{IsSomeAnd, IsTrue, count_by}
use Rattle.std.specs.Int.RustNames.{count_ones}
use Rattle.std.proofs.lemmas.Bool.{and_parts, eqb-true}
use Rattle.std.proofs.lemmas.Option.{same_Some, none-some}
use Rattle.wol_disk.specs.Disk.{State, Block, IsDisk}
use Rattle.wol_model.specs.Extents.{has_newer}
use Rattle.wol_model.specs.Index.{Listed, Indexed, listed_in, listed_covers, is_due, is_live, is_homed, cover_of, block_numbers}
use Rattle.wol_model.proofs.Counts.{marked_within}
use Rattle.wol_promise.specs.Ruled.{Noted}
use Rattle.redirect_map.specs.Index.{entry_at, has_version}
use Rattle.manager.specs.Reading.{IsReadThrough}
use Rattle.manager.specs.Reclaim.{OnTried, OnFailed, TellsStep, KeepsOn, BreaksOff, StopsSince, Always, AreOf, HasFetched, HasStored}
use Rattle.manager.specs.Stands.{Keeps, IsReady}
use Rattle.manager.specs.declared.base.ManagerBase.{ManagerBase}
use Rattle.manager.specs.declared.manager.Manager.{Manager}
use Rattle.manager.specs.declared.part.StepFault.{StepFault}
use Rattle.manager.specs.declared.part.StepFault.TheVariants.{DiskFault, Down}
use Rattle.manager.proofs.ReadKeeps.{keeps_read}
use Rattle.manager.proofs.ReadThrough.{through_then, rose_through}
use Rattle.reclaimer.specs.Fetches.{IsFetchOf, HasData}
use Rattle.reclaimer.specs.Records.{record_of}
use Rattle.reclaimer.specs.declared.room.Filled.{Filled}
use Rattle.reclaimer.proofs.Fetching.{and_of}
use Rattle.garbage_list.proofs.Nexts.{found_passes}

-- the entry that there is
pub entry_there : (es : List Indexed) (version : ℕ) (P : Indexed → Type 0) → IsSomeAnd (entry_at es version) P → (e : Indexed) × (entry_at es version ≡ Some e) × P e
entry_there es version P some = at (entry_at es version) refl some
  where
    at : (o : Option Indexed) → entry_at es version ≡ o → IsSomeAnd o P → (e : Indexed) × (entry_at es version ≡ Some e) × P e
    at None is p = absurd p
    at (Some e) is p = (e, is, p)

module _ {D : Type 0} (m m1 : Manager D) (version : ℕ) (e : Indexed) (is : entry_at m.index.entries version ≡ Some e) (f : Filled) (blocks : List Block) (long : length blocks ≡ 128) (few : (f.count ≤ 128) × (f.due < 2 ^ 128))
    (filled : IsSomeAnd (entry_at m.index.entries version) (λ d. IsSomeAnd (record_of (Some f) blocks) (IsFetchOf (listed_in m.index.entries) d) × (f.count ≡ length d.listed.keep)))
    (was : (d : Indexed) → entry_at m.index.entries version ≡ Some d → HasFetched d.listed.lane m m1) where
  pub fetch : IsFetchOf (listed_in m.index.entries) e (record { version = f.version; first = f.lbn; due = f.due; blocks = take f.count blocks }) × (f.count ≡ length e.listed.keep)
  fetch = and_of _ (entry_at m.index.entries version) e filled is

  pub version_is : e.listed.version ≡ version
  version_is = eqb-true e.listed.version version (found_passes (has_version version) m.index.entries e is)

  pub same_index : m1.index.entries ≡ m.index.entries
  same_index = ap (λ (k : Manager D). k.index.entries) (was e is).rest

  same_entry : (x : Indexed) → entry_at m1.index.entries version ≡ Some x → e ≡ x
  same_entry x there = same_Some e x (sym is ∙ ap (λ (l : List Indexed). entry_at l version) (sym same_index) ∙ there)

  pub data_here : (tells : Bool) (b : ManagerBase) (notes : List Noted) → HasData tells (record_of (Some f) blocks) b notes → AreOf tells m1.index.entries version (take f.count blocks) b notes
  data_here tells b notes has told x there =
      let d = has told in record {
        write = d.write;
        known = d.known;
        named = d.named ∙ ap Some (fetch.0.version ∙ version_is);
        range = d.range ∙ fetch.0.first ∙ ap (λ (d : Indexed). d.listed.first) (same_entry x there);
        data_ = d.data_;
      }

-- ---- two steps, one behind the other

module _ {D : Type 0} (tells : Bool) (state : D → State) (sound : (d : D) → IsDisk (state d)) (m m1 new : Manager D) (P : ManagerBase → List Noted → Type 0) (ready : IsReady state m) (up : m.down ≡ None) (through : IsReadThrough state m m1) (ready1 : IsReady state m1)
    (so : (b : ManagerBase) (notes : List Noted) → Keeps tells state m b notes → P b notes) where
  pub keeps_both : KeepsOn tells state m1 new P → KeepsOn tells state m new Always
  keeps_both second b notes _ k = second b notes (so b notes k) (keeps_read tells state m m1 b notes through ready1 up k)

  pub breaks_both : BreaksOff tells state m1 new P → BreaksOff tells state m new Always
  breaks_both second b notes n _ note k = second b notes n (so b notes k) note (keeps_read tells state m m1 b notes through ready1 up k)

  pub stops_both : StopsSince tells state m1 new P → StopsSince tells state m new Always
  stops_both second was before b notes _ k =
      second was (through_then state sound was m m1 before through) b notes (so b notes (keeps_read tells state was m b notes before ready (sym before.down ∙ up) k)) k

  -- the refusal of the second is that of both
  pub fault_both : (T U : Type 0) (fault : StepFault) → m1.down ≡ None → TellsStep {T = T} state (Err fault) m1 new → TellsStep {T = U} state (Err fault) m new
  fault_both T U (DiskFault p) up1 told = (up, told.1, rose_through state sound m m1 new through p told.2)
  fault_both T U (Down p) up1 told = absurd (none-some p (sym up1 ∙ told.0))

  pub breaks_fault : (T U : Type 0) (fault : StepFault) → OnFailed {T = T} (Err fault) (BreaksOff tells state m1 new P) → OnFailed {T = U} (Err fault) (BreaksOff tells state m new Always)
  breaks_fault T U (DiskFault p) broke = breaks_both broke
  breaks_fault T U (Down p) broke = tt

  pub stops_fault : (T U : Type 0) (fault : StepFault) → OnTried {T = T} (Err fault) (IsTrue tells → StopsSince tells state m1 new P) → OnTried {T = U} (Err fault) (IsTrue tells → StopsSince tells state m new Always)
  stops_fault T U (DiskFault p) since = λ told. stops_both (since told)
  stops_fault T U (Down p) since = tt
