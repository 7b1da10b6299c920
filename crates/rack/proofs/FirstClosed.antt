-- The first volume that isn't open, and why.
use Rattle.std.proofs.Common.{◌≡◌, ◌≢◌, ◌⊎◌, inl, inr, ◌<◌, ◌+◌, ℕ, zero, suc, Bool, List, [], ◌∷◌, length, map, refl, sym, ap, subst, ◌∙◌, Option, None, Some, arith}
use Rattle.std.specs.Prelude.{All, Contains, IfSome, IsTrue, slice_get, slice_index_or}
use Rattle.std.proofs.lemmas.List.{length-map}
use Rattle.std.proofs.lemmas.Option.{slice_get_within, slice_get-get_or, get_or_from_slice_get}
use Rattle.wol_disk.specs.Disk.{Rose, State}
use Rattle.wol_bay.specs.Bay.{BayState}
use Rattle.wol_config.specs.declared.config.Config.{Config}
use Rattle.wol_config.specs.declared.config.VolumeConf.{VolumeConf}
use Rattle.manager.specs.declared.part.Part.{Part}
use Rattle.manager.specs.declared.station.Station.{Station}
use Rattle.manager_recovery.specs.declared.refusal.OpenRefusal.TheVariants as refusal
use Rattle.report.specs.declared.fault.Fault.{Fault}
use Rattle.report.specs.declared.fault.Fault.TheVariants.{Volume}
use Rattle.rack.specs.Troubles.{trouble_of}
use Rattle.volume_images.specs.Left.{IsTold}
use Rattle.volume_images.specs.Refusals.{IsCallFault}
use Rattle.volume_images.specs.Volumes.{shape_in, shapes_of}
use Rattle.volume_images.specs.declared.reading.ImageFault.{ImageFault}
use Rattle.volume_images.specs.declared.reading.ImageFault.TheVariants as image
use Rattle.rack.specs.Closes.{CameBackFaulty, IsClosedVolume, LeavesUnopened}
use Rattle.rack.specs.Opens.{AreRefused, BeganWith, HasFaulty, RefusesVolume, WereThere, fault_in_image}
use Rattle.rack.specs.Owners.{HadRefused, KeepsLogs}
use Rattle.rack.specs.Racks.{AreUnused, IsRack, NamesVolumes}
use Rattle.rack_parts.specs.declared.rack.ImageRest.{ImageRest}
use Rattle.rack_parts.specs.declared.rack.Rack.{Rack}
use Rattle.rack_parts.specs.declared.volume_fault.VolumeFault.{VolumeFault}
use Rattle.rack_parts.specs.declared.volume_fault.VolumeFault.TheVariants as fault
use Rattle.rack_parts.proofs.Members.{in_map}
use Rattle.rack.proofs.NewFaults.{told_each}
use Rattle.rack.proofs.Places.{some_at}
use Rattle.rack.specs.NotOpened.{IsFirstClosed, IsOfCall, LeavesOpened, WasRefused, first_closed}
use Rattle.rack.specs.Sessions.{OpensAndCloses}
use Rattle.rack.proofs.OpenedKept.{leaves_opened}
use Rattle.spin_model.specs.Spindles.{SpindleView}

-- ---- Which volume

-- the first fault of these, those of the volumes from number n on
pub record IsFirst (n : ℕ) (faults : List (Option VolumeFault)) (told : Fault) : Type 0 where
  pub k : ℕ
  pub fault_ : VolumeFault
  pub here : slice_get faults k ≡ Some (Some fault_)
  pub told_is : told ≡ Volume (n + k) (trouble_of fault_)
  pub before : (j : ℕ) → j < k → slice_index_or faults j None ≡ None

pub first_is : (n : ℕ) (faults : List (Option VolumeFault)) (told : Fault) → first_closed n faults ≡ Some told → IsFirst n faults told
first_is n [] told first = absurd (cc first)
first_is n (Some f ∷ faults) told first =
    let same : Volume n (trouble_of f) ≡ told = cc first in
    record { k = zero; fault_ = f; here = refl; told_is = sym same ∙ ap (λ (m : ℕ). Volume m (trouble_of f)) (omega arith); before = λ j lt. absurd (omega (arith, lt)) }
first_is n (None ∷ faults) told first =
    let rest = first_is (n + 1) faults told first in
    record { k = suc rest.k; fault_ = rest.fault_; here = rest.here; told_is = rest.told_is ∙ ap (λ (m : ℕ). Volume m (trouble_of rest.fault_)) (omega arith); before = λ j lt. at j rest.k lt rest.before }
  where
    at : (j k : ℕ) → j < suc k → ((i : ℕ) → i < k → slice_index_or faults i None ≡ None) → slice_index_or (None ∷ faults) j None ≡ None
    at zero k lt before = refl
    at (suc j) k lt before = before j (omega (arith, lt))

-- where there is none, no volume has a fault
pub none_closed : (n : ℕ) (faults : List (Option VolumeFault)) → first_closed n faults ≡ None → (j : ℕ) → slice_index_or faults j None ≡ None
none_closed n [] none zero = refl
none_closed n [] none (suc j) = refl
none_closed n (None ∷ faults) none zero = refl
none_closed n (None ∷ faults) none (suc j) = none_closed (n + 1) faults none j
none_closed n (Some f ∷ faults) none j = absurd (cc none)

-- ---- Why

label_call : (k : ℕ) (i : ImageFault) → fault.LabelFault ≡ fault_in_image k i → IsCallFault i
label_call k (image.Damaged block) is = absurd (cc is)
label_call k image.LabelDiffers is = absurd (cc is)
label_call k image.LabelFault is = tt
label_call k (image.SegmentFault index) is = absurd (cc is)

-- where a call failed the count rose
call_rose : {D : Type 0} (tells : Bool) (state : D → State) (config : Config) (out : List (Option (ImageRest D))) (old new : BayState) (k : ℕ) (v : VolumeConf) (f : VolumeFault)
    → ((p : Part) → f ≡ fault.Refused (refusal.DiskFault p) → Rose old.faults new.faults) → RefusesVolume tells state config out old new k v f → IsOfCall f → Rose old.faults new.faults
call_rose tells state config out old new k v fault.Absent disk refused call = absurd call
call_rose tells state config out old new k v (fault.WrongLength bytes) disk refused call = absurd call
call_rose tells state config out old new k v fault.BayFailed disk (home, rose) call = rose
call_rose tells state config out old new k v fault.LabelFault disk refused call = refused.cause (label_call k refused.image_fault refused.is_fault)
call_rose tells state config out old new k v (fault.Refused (refusal.DiskFault p)) disk refused call = disk p refl
call_rose tells state config out old new k v (fault.Refused refusal.LabelDiffers) disk refused call = absurd call
call_rose tells state config out old new k v (fault.Refused (refusal.LoggerMissing id)) disk refused call = absurd call
call_rose tells state config out old new k v (fault.Refused (refusal.OutsideView logger segment)) disk refused call = absurd call
call_rose tells state config out old new k v (fault.Refused (refusal.Damaged volume block)) disk refused call = absurd call
call_rose tells state config out old new k v (fault.Refused (refusal.Twins first_volume first second_volume second)) disk refused call = absurd call
call_rose tells state config out old new k v (fault.Refused refusal.NoMemory) disk refused call = absurd call

-- ---- The rack

module _ {D : Type 0} (state : D → State) (config : Config) (b : BayState) (r : Rack D) (is : IsRack state config b r)
    (tells : Bool) (old new : BayState) (refused : AreRefused tells state config old new r)
    (failed : (k : ℕ) (p : Part) → slice_get r.faults.items k ≡ Some (Some (fault.Refused (refusal.DiskFault p))) → Rose old.faults new.faults)
    (part : (k : ℕ) (p : Part) → slice_get r.faults.items k ≡ Some (Some (fault.Refused (refusal.DiskFault p))) → IsTold (CameBackFaulty config p) old.told new.told)
    (began : IsTrue tells → IfSome old.told (λ t. BeganWith state config t r)) (there : IsTrue tells → IfSome old.told (λ t. WereThere config r.rest.images.items t))
    (fresh : AreUnused r.stations.items) (gained : IsTold HasFaulty old.told b.told) (closed : All (IsClosedVolume tells config r.rest.images.items b new) r.stations.items)
    (stays : IsTrue tells → IsTold (HadRefused config r.rest.images.items) old.told new.told) (unopened : IsTrue tells → IsTold (LeavesUnopened config r) old.told new.told) where
  abbrev out : List (Option (ImageRest D))
  out = r.rest.images.items

  -- a volume with a fault
  was_refused : (j : ℕ) (v : VolumeConf) (g : VolumeFault) → slice_get config.volumes.items j ≡ Some v → slice_get r.faults.items j ≡ Some (Some g) → WasRefused tells state config out old new j v g
  was_refused j v g conf here =
      let why = refused j v g conf here in record {
        refused = why;
        names = subst (λ (n : ℕ). NamesVolumes n g) (length-map config.volumes.items (shape_in config)) (is.known j g here);
        cause = call_rose tells state config out old new j v g (λ p same. failed j p (here ∙ ap (λ (x : VolumeFault). Some (Some x)) same)) why;
        part = λ p same. part j p (here ∙ ap (λ (x : VolumeFault). Some (Some x)) same);
        logs = λ telling. told_each (LeavesUnopened config r) (KeepsLogs config j) old.told new.told (λ x y left. left.logs j no_station) (unopened telling);
      }
    where
      -- it has no station
      no_station : (s : Station D) → Contains r.stations.items s → j ≢ s.id
      no_station s has same =
          let within : j < length (shapes_of config) = let less = slice_get_within config.volumes.items j v conf in omega (arith, less, length-map config.volumes.items (shape_in config)) in
          let opened : slice_index_or r.faults.items j None ≡ None = (is.faults j within).1 (subst (Contains (map (λ (t : Station D). t.id) r.stations.items)) (sym same) (in_map (λ (t : Station D). t.id) r.stations.items s has)) in
          let no : Some g ≡ None = sym (get_or_from_slice_get r.faults.items j (Some g) None here) ∙ opened in
          absurd (cc no)

  -- each volume keeps its records, or was refused
  each_left : (j : ℕ) (v : VolumeConf) → slice_get config.volumes.items j ≡ Some v → LeavesOpened tells config out old new j ⊎ ((g : VolumeFault) × WasRefused tells state config out old new j v g)
  each_left j v conf = at (slice_index_or r.faults.items j None) refl
    where
      within : j < length (shapes_of config)
      within = let less = slice_get_within config.volumes.items j v conf in omega (arith, less, length-map config.volumes.items (shape_in config))

      at : (o : Option VolumeFault) → slice_index_or r.faults.items j None ≡ o → LeavesOpened tells config out old new j ⊎ ((g : VolumeFault) × WasRefused tells state config out old new j v g)
      at None none = inl (leaves_opened state config b r is tells old new began fresh gained closed j within none)
      at (Some g) some = inr (g, was_refused j v g conf (slice_get-get_or r.faults.items j None (let count = is.fault_count in omega (arith, within, count)) ∙ ap (λ (o : Option VolumeFault). Some o) some))

  -- the first volume that isn't open, where nothing was done with the rack
  pub first_refused : (told : Fault) → first_closed 0 r.faults.items ≡ Some told → (k : ℕ) × (f : VolumeFault) × (told ≡ Volume k (trouble_of f)) × IsFirstClosed tells state config old new k f
  first_refused told first =
      let one = first_is 0 r.faults.items told first in
      let less = slice_get_within r.faults.items one.k (Some one.fault_) one.here in
      let (v, conf) = some_at config.volumes.items one.k (omega (arith, less, is.fault_count, length-map config.volumes.items (shape_in config))) in (
        one.k,
        one.fault_,
        one.told_is ∙ ap (λ (m : ℕ). Volume m (trouble_of one.fault_)) (omega arith),
        record {
          out = out;
          count = is.rest.parts.images.0 ∙ length-map config.volumes.items (shape_in config);
          there = there;
          kept = stays;
          each = each_left;
          before = λ j lt. leaves_opened state config b r is tells old new began fresh gained closed j (omega (arith, lt, less, is.fault_count)) (one.before j lt);
          conf = v;
          conf_is = conf;
          is_refused = was_refused one.k v one.fault_ conf one.here;
        },
      )

-- so of a session whose work left the rack as it was
pub first_unopened : {D : Type 0} (tells : Bool) (state : D → State) (config : Config) (did : Rack D → Rack D → Type 0) (old new : BayState) (spindles : List SpindleView) (session : OpensAndCloses tells state config did old new spindles)
    → session.after ≡ session.before → (told : Fault) → first_closed 0 session.before.faults.items ≡ Some told → (k : ℕ) × (f : VolumeFault) × (told ≡ Volume k (trouble_of f)) × IsFirstClosed tells state config old new k f
first_unopened {D} tells state config did old new spindles session same =
    first_refused state config session.bay session.before session.opened.rack tells old new session.refused session.failed session.part session.opened.began session.opened.there session.opened.fresh session.opened.faulty
    (subst (λ (r : Rack D). All (IsClosedVolume tells config r.rest.images.items session.bay new) r.stations.items) same session.closed.stations)
    session.kept (λ telling. subst (λ (r : Rack D). IsTold (LeavesUnopened config r) old.told new.told) same (session.left_unopened telling))
