-- The volumes of a rack can be looked at.
use Rattle.std.proofs.Common.{◌≡◌, ◌<◌, ◌≤◌, inl, inr, ℕ, zero, suc, Bool, List, [], ◌∷◌, length, Option, None, Some, map, refl, sym, ap, subst, ◌∙◌, arith}
use Rattle.std.specs.Prelude.{slice_index_or, IsSome}
use Rattle.std.specs.Option.{option_map}
use Rattle.std.specs.List.{AllByRecursion}
use Rattle.std.proofs.lemmas.List.Elements.{All-from_recursion, recursion_from_All}
use Rattle.std.proofs.lemmas.Option.{slice_get_within, slice_get-map, get_or_from_slice_get}
use Rattle.std.proofs.lemmas.List.{length-map}
use Rattle.wol_disk.specs.Disk.{State, Rose}
use Rattle.wol_bay.specs.Bay.{BayState}
use Rattle.wol_config.specs.declared.config.Config.{Config}
use Rattle.wol_config.specs.declared.config.VolumeConf.{VolumeConf}
use Rattle.logger.specs.declared.shared.Shared.{Shared}
use Rattle.manager.specs.declared.base.ManagerBase.{ManagerBase}
use Rattle.manager.specs.declared.station.Station.{Station}
use Rattle.report.specs.Names.{printed_names}
use Rattle.report.specs.Troubles.{IsAmong, trouble_status}
use Rattle.rack.specs.Troubles.{trouble_of}
use Rattle.volume_images.specs.Volumes.{shape_in, shapes_of}
use Rattle.rack.specs.Opens.{RefusesVolume, fault_in_image}
use Rattle.rack.specs.Racks.{IsOpenBase, IsRack, IsStation, NamesVolumes, base_of_station}
use Rattle.rack_parts.specs.declared.rack.ImageRest.{ImageRest}
use Rattle.rack_parts.specs.declared.rack.Rack.{Rack}
use Rattle.rack_parts.specs.declared.volume_fault.VolumeFault.{VolumeFault}
use Rattle.rack_parts.specs.declared.volume_fault.VolumeFault.TheVariants.{Absent, WrongLength, Refused, LabelFault, BayFailed}
use Rattle.volume_images.specs.Refusals.{IsCallFault}
use Rattle.volume_images.specs.declared.reading.ImageFault.{ImageFault}
use Rattle.volume_images.specs.declared.reading.ImageFault.TheVariants as image
use Rattle.manager.specs.declared.part.Part.{Part}
use Rattle.manager.specs.declared.part.Part.TheVariants as part
use Rattle.manager_recovery.specs.declared.refusal.OpenRefusal.TheVariants as refusal
use Rattle.report.proofs.VolumeNames.{is_named}
use Rattle.inspection.specs.Looks.{IsConfiguredBase}
use Rattle.inspection.specs.Racks.{CanLook}
use Rattle.inspection.proofs.Unhelped.{there_is}

-- an element that is there is within the list
some_within : {X : Type 0} (xs : List (Option X)) (k : ℕ) → IsSome (slice_index_or xs k None) → k < length xs
some_within [] k is = absurd (let no : Rattle.std.proofs.Common.false ≡ Rattle.std.proofs.Common.true = is in cc)
some_within (x ∷ xs) zero is = omega arith
some_within (x ∷ xs) (suc k) is = let less = some_within xs k is in omega (arith, less)

all_within : {X : Type 0} (xs : List (Option X)) (n : ℕ) (ks : List ℕ) → length xs ≡ n → AllByRecursion (λ (k : ℕ). IsSome (slice_index_or xs k None)) ks → AllByRecursion (λ (k : ℕ). k < n) ks
all_within xs n [] long all = tt
all_within xs n (k ∷ ks) long (h, hs) = (subst (λ (m : ℕ). k < m) long (some_within xs k h), all_within xs n ks long hs)

module _ {D : Type 0} (config : Config) (shared : Shared D) (images : List (Option (ImageRest D))) (long : length images ≡ length (shapes_of config)) where
  shapes : length (shapes_of config) ≡ length config.volumes.items
  shapes = length-map config.volumes.items (shape_in config)

  configured_base : (b : ManagerBase) → IsOpenBase config shared images b → IsConfiguredBase config shared b
  configured_base b is =
      let within : b.volume.began.owner < length config.volumes.items = (let less = some_within images b.volume.began.owner is.out in omega (arith, less, long, shapes)) in
      let there = there_is config.volumes.items b.volume.began.owner within in record {
        volume = there.0;
        there = there.1;
        home_blocks = is.home_blocks (shape_in config there.0) (slice_get-map (shape_in config) config.volumes.items b.volume.began.owner ∙ ap (option_map (shape_in config)) there.1);
        most = is.most;
        view = all_within images (length config.volumes.items) b.volume.began.view (long ∙ shapes) is.loggers_out;
        at = is.at;
      }

-- the volumes that a fault's text names are among the printed names
is_among : (volumes : List VolumeConf) (count : ℕ) → count ≡ length volumes → (f : VolumeFault) → NamesVolumes count f → IsAmong (length (printed_names volumes)) (trouble_of f)
is_among volumes count long Absent names = tt
is_among volumes count long (WrongLength bytes) names = tt
is_among volumes count long LabelFault names = tt
is_among volumes count long BayFailed names = tt
is_among volumes count long (Refused refusal.LabelDiffers) names = tt
is_among volumes count long (Refused (refusal.Damaged volume block)) names = is_named volumes volume (omega (arith, names, long))
is_among volumes count long (Refused (refusal.LoggerMissing id)) names = tt
is_among volumes count long (Refused (refusal.OutsideView logger segment)) names = is_named volumes logger (omega (arith, names, long))
is_among volumes count long (Refused (refusal.DiskFault (part.Home volume))) names = tt
is_among volumes count long (Refused (refusal.DiskFault (part.Segment volume index))) names = is_named volumes volume (omega (arith, names, long))
is_among volumes count long (Refused refusal.NoMemory) names = absurd names
is_among volumes count long (Refused (refusal.Twins volume first other second)) names = (is_named volumes volume (let less = names.0 in omega (arith, less, long)), is_named volumes other (let less = names.1 in omega (arith, less, long)))

module _ {D : Type 0} (state : D → State) (config : Config) (b : BayState) (r : Rack D) (is : IsRack state config b r) where
  configured_at : (ss : List (Station D)) → AllByRecursion (λ (s : Station D). IsStation s) ss → AllByRecursion (λ (s : Station D). IsOpenBase config r.shared r.rest.images.items (base_of_station s)) ss
      → AllByRecursion (λ (s : Station D). IsStation s × IsConfiguredBase config r.shared (base_of_station s)) ss
  configured_at [] a b = tt
  configured_at (s ∷ ss) a b = ((a.0, configured_base config r.shared r.rest.images.items is.rest.parts.images.0 (base_of_station s) b.0), configured_at ss a.1 b.1)

  pub can_look : CanLook config r
  can_look = record {
    count = is.fault_count ∙ length-map config.volumes.items (shape_in config);
    known = λ k f at. is_among config.volumes.items (length (shapes_of config)) (length-map config.volumes.items (shape_in config)) f (is.known k f at);
    open_ = λ k none. let within = slice_get_within r.faults.items k None none in
        (is.faults k (omega (arith, within, is.fault_count))).0 (get_or_from_slice_get r.faults.items k None None none);
    stations = All-from_recursion _ r.stations.items (configured_at r.stations.items (recursion_from_All _ r.stations.items is.stations) (recursion_from_All _ r.stations.items is.bases));
  }

-- ---- What status 4 comes of

in_image : (k : ℕ) (i : ImageFault) → LabelFault ≡ fault_in_image k i → IsCallFault i
in_image k (image.Damaged block) is = absurd (let no : LabelFault ≡ Refused (refusal.Damaged k block) = is in cc)
in_image k image.LabelDiffers is = absurd (let no : LabelFault ≡ Refused refusal.LabelDiffers = is in cc)
in_image k image.LabelFault is = tt
in_image k (image.SegmentFault index) is = absurd (let no : LabelFault ≡ Refused (refusal.DiskFault (part.Segment k index)) = is in cc)

-- a fault of a disk is counted
pub rose_of : {D : Type 0} (tells : Bool) (state : D → State) (config : Config) (out : List (Option (ImageRest D))) (old new : BayState) (k : ℕ) (v : VolumeConf) (f : VolumeFault) (count : ℕ) → NamesVolumes count f
    → RefusesVolume tells state config out old new k v f → ((p : Part) → f ≡ Refused (refusal.DiskFault p) → Rose old.faults new.faults) → trouble_status (trouble_of f) ≡ 4 → Rose old.faults new.faults
rose_of tells state config out old new k v Absent count names refuses failed four = absurd (omega (arith, four))
rose_of tells state config out old new k v (WrongLength bytes) count names refuses failed four = absurd (omega (arith, four))
rose_of tells state config out old new k v LabelFault count names refuses failed four = refuses.cause (in_image k refuses.image_fault refuses.is_fault)
rose_of tells state config out old new k v BayFailed count names refuses failed four = refuses.1
rose_of tells state config out old new k v (Refused refusal.LabelDiffers) count names refuses failed four = absurd (omega (arith, four))
rose_of tells state config out old new k v (Refused (refusal.Damaged volume block)) count names refuses failed four = absurd (omega (arith, four))
rose_of tells state config out old new k v (Refused (refusal.LoggerMissing id)) count names refuses failed four = absurd (omega (arith, four))
rose_of tells state config out old new k v (Refused (refusal.OutsideView logger segment)) count names refuses failed four = absurd (omega (arith, four))
rose_of tells state config out old new k v (Refused (refusal.DiskFault p)) count names refuses failed four = failed p refl
rose_of tells state config out old new k v (Refused refusal.NoMemory) count names refuses failed four = absurd names
rose_of tells state config out old new k v (Refused (refusal.Twins volume first other second)) count names refuses failed four = absurd (omega (arith, four))
