-- A run over a bay whose volumes couldn't all be opened.
use Rattle.replay.proofs.Basics.{◌≡◌, ◌≤◌, ℕ, Bool, true, List, [], sym, ap, subst, Option, None, Some, Err, inl, inr}
use Rattle.replay.proofs.Basics.{All, IfSome, IsTrue, slice_get}
use Rattle.replay.proofs.Terms.{Rose, State, BayState, Told, writes, entries_of, Config, VolumeConf, Entry, notes_of, Part, Station, Fault}
use Rattle.replay.proofs.Terms.{IsTold, IsClosedVolume, AreLeftOfParts, flight_in, HasFaultAt, HasFaultIn, IsQuiet, LeavesUnopened, LeavesVolumes, ListsFaulty, has_station}
use Rattle.replay.proofs.Terms.{is_kept_home, AreRefused, BeganWith, HasFaulty, KeepsAllSound, LeavesAll, RefusesVolume, WereThere}
use Rattle.replay.proofs.Terms.{HadRefused, AreUnused, IsRack, IsImageOut, Rack, VolumeFault, LeavesBay, LeavesViews, Replayed}
use Rattle.replay.proofs.Terms.{first_closed, RunsNone, Given, Options}
use Rattle.replay.specs.Replays.{closed}
use Rattle.rack.proofs.Asking.{refuses_later, rose_on}
use Rattle.rack.proofs.FailedParts.{gained_parts, part_came_back, part_failed}
use Rattle.rack.proofs.NewFaults.{told_each, told_with}
use Rattle.rack.proofs.StillThere.{kept_home, there_left}
use Rattle.rack.proofs.FirstClosed.{first_refused}
use Rattle.rack.proofs.Since.{not_out, refused_alone, refused_missing}
use Rattle.replay.proofs.CauseServed.{rose_from}
use Rattle.replay.proofs.RunFlown.{run_told}
use Rattle.manager_recovery.specs.declared.refusal.OpenRefusal.TheVariants as refusal
use Rattle.rack_parts.specs.declared.volume_fault.VolumeFault.TheVariants as fault
use Rattle.replay.specs.declared.stop.Stop.TheVariants as stop

-- ---- Passes that did nothing

pub quiet_all : {D : Type 0} (ss : List (Station D)) → AreUnused ss → All (λ (s : Station D). IsQuiet s) ss
quiet_all {D} ss unused k d lt =
    let (worker, helper, keeper) = unused k d lt in
    ((unbroken worker.mine, unbroken helper.mine, unbroken keeper.mine), (unwritten worker.mine, unwritten helper.mine, unwritten keeper.mine))
  where
    unbroken : {es : List Entry} → es ≡ [] → flight_in es ≡ []
    unbroken none = ap flight_in none

    unwritten : {es : List Entry} → es ≡ [] → writes (entries_of (notes_of es)) ≡ []
    unwritten none = ap (λ (l : List Entry). writes (entries_of (notes_of l))) none

-- ---- The bay

module _ {D : Type 0} (tells : Bool) (state : D → State) (config : Config) (entry opened last : BayState) (r : Rack D) (is : IsRack state config opened r) (refused : AreRefused tells state config entry opened r)
    (closing : opened.faults ≤ last.faults) (gained : IsTold HasFaulty opened.told last.told) where
  refused_last : AreRefused tells state config entry last r
  refused_last k v f conf at = refuses_later tells state config r.rest.images.items entry opened last k v f closing gained (refused k v f conf at)

  cause : (k : ℕ) (v : VolumeConf) → slice_get config.volumes.items k ≡ Some v → is_kept_home r.rest.images.items k ≡ true → (f : VolumeFault) × RefusesVolume {D = D} tells state config [] entry last k v f
  cause k v conf kept =
      let none = not_out r.rest.images.items k kept in
      let why = refused_missing tells state config opened entry last r is refused_last k v conf none in
      (why.0, refused_alone tells state config r.rest.images.items entry last k v why.0 none why.1)

  abbrev Stays : Told → Told → Type 0
  Stays old new = HadRefused config r.rest.images.items old new

  through : (e o n : Option Told) → IfSome e (λ t. BeganWith state config t r) → IfSome e (λ t. WereThere config r.rest.images.items t) → IsTold Stays e o → IsTold Stays o n
      → ((t : Told) → BeganWith state config t r → WereThere config r.rest.images.items t → IsTold (λ old new. Stays t old → LeavesVolumes config r t new × AreLeftOfParts state config r new) o n) → IsTold (LeavesAll tells state config entry last) e n
  through None None n began there kept stays leaves = stays
  through None (Some o) n began there kept stays leaves = absurd (cc kept)
  through (Some e) None n began there kept stays leaves = absurd kept
  through (Some e) (Some o) None began there kept stays leaves = absurd stays
  through (Some e) (Some o) (Some n) began there kept stays leaves =
      let all = leaves e began there kept in
      record {
        refused = is_kept_home r.rest.images.items;
        cause = cause;
        kept = λ k v conf or c may. let none = kept_home config r.rest.images.items e there k v conf or in kept k v conf none c (stays k v conf none c may);
        opened = has_station r;
        are_opened = all.0.are_opened;
        left = λ images left v is_there. all.0.each images left v;
        logs = λ k v conf or. all.0.logs k (inr (kept_home config r.rest.images.items e there k v conf or));
        there = λ images left v was. there_left state config r e n (λ k v conf none c may. kept k v conf none c (stays k v conf none c may)) all.1 images left v was;
      }

  pub leaves_bay : (IsTrue tells → IfSome entry.told (λ t. BeganWith state config t r)) → (IsTrue tells → IfSome entry.told (λ t. WereThere config r.rest.images.items t))
      → (IsTrue tells → IsTold Stays entry.told opened.told) → AreUnused r.stations.items → (IsTrue tells → IsTold Stays opened.told last.told) → (IsTrue tells → IsTold (λ x y. AreLeftOfParts state config r y) opened.told last.told)
      → ((t : Told) → IsTrue tells → BeganWith state config t r → WereThere config r.rest.images.items t → All (λ (s : Station D). IsQuiet s) r.stations.items → IsTold (λ old new. Stays t old → LeavesVolumes config r t new) opened.told last.told)
      → ((t : Told) → IsTrue tells → BeganWith state config t r → WereThere config r.rest.images.items t → IsTold (λ old new. Stays t old → KeepsAllSound config t new) opened.told last.told) → LeavesBay tells state config entry last
  leaves_bay began there kept unused stays parts volumes sound = record {
    left = λ telling. through entry.told opened.told last.told (began telling) (there telling) (kept telling) (stays telling) (λ t with was.
        told_each (λ x y. (Stays t x → LeavesVolumes config r t y) × AreLeftOfParts state config r y) (λ x y. Stays t x → LeavesVolumes config r t y × AreLeftOfParts state config r y) opened.told last.told (λ x y both had. (both.0 had, both.1))
        (told_with (λ x y. Stays t x → LeavesVolumes config r t y) (λ x y. AreLeftOfParts state config r y) opened.told last.told (volumes t telling with was (quiet_all r.stations.items unused)) (parts telling)));
    sound = λ telling. run_told state config r (KeepsAllSound config) Stays entry opened last (began telling) (there telling) (kept telling) (stays telling) (λ t with was. sound t telling with was);
  }

-- a volume wasn't open
pub runs_closed : {D S T : Type 0} (tells : Bool) (state : D → State) (left : S → Option (List ℕ)) (config : Config) (options : Options) (start now : Given S) (entry opened last : BayState) (old new : Rack D) (sink sink' : ℕ) (printed printed' : Option (List ℕ)) (f : Fault)
    → IsRack state config opened old → AreRefused tells state config entry opened old
    → ((k : ℕ) (p : Part) → slice_get old.faults.items k ≡ Some (Some (fault.Refused (refusal.DiskFault p))) → IsImageOut old.rest.images.items k → HasFaultAt state old.rest p)
    → (HasFaultIn state new.rest → Rose opened.faults last.faults) → entry.faults ≤ opened.faults → opened.faults ≤ last.faults → IsTold HasFaulty entry.told opened.told → IsTold (ListsFaulty state config new.rest) opened.told last.told
    → (IsTrue tells → IfSome entry.told (λ t. BeganWith state config t old)) → (IsTrue tells → IfSome entry.told (λ t. WereThere config old.rest.images.items t)) → first_closed 0 old.faults.items ≡ Some f
    → RunsNone tells left config options start now old new sink sink' printed printed' → LeavesViews tells state config entry last
    → AreUnused old.stations.items → All (IsClosedVolume tells config new.rest.images.items opened last) new.stations.items
    → (IsTrue tells → IsTold (HadRefused config old.rest.images.items) entry.told last.told) → (IsTrue tells → IsTold (LeavesUnopened config old) entry.told last.told)
    → Replayed {T = T} tells state left config options start now entry last sink sink' printed printed' (Err (stop.Fault f))
runs_closed {D} {S} {T} tells state left config options start now entry opened last old new sink sink' printed printed' f is refused failed rises opening closing first_gained faulty began there first none leaves fresh closed_ stays unopened =
    let lists = subst (λ (r : Rack D). IsTold (ListsFaulty state config r.rest) opened.told last.told) none.same faulty in
    let refused_now = refused_last tells state config entry opened last old is refused closing (gained_parts state config old.rest opened.told last.told lists) in
    let (k, why, told, first_) = first_refused state config opened old is tells entry last refused_now
    (λ k p at. elim (part_failed tells state config entry opened old is.fault_count refused failed k p at) [
      | inl has ↦ rose_from entry.faults opened.faults last.faults opening (subst (λ (r : Rack D). HasFaultIn state r.rest → Rose opened.faults last.faults) none.same rises has)
      | inr rose ↦ rose_on entry.faults opened.faults last.faults rose closing
    ])
    (part_came_back tells state config entry opened last old is.fault_count refused_now failed first_gained lists) began there fresh first_gained
    (subst (λ (r : Rack D). All (IsClosedVolume tells config r.rest.images.items opened last) r.stations.items) none.same closed_) stays unopened f first in
    subst (λ (x : Fault). Replayed {T = T} tells state left config options start now entry last sink sink' printed printed' (Err (stop.Fault x))) (sym told)
    (closed k why (record { unread = none.unread; calm = none.calm; kept = none.kept }) first_ leaves)
