-- What a cleaning leaves in the bay, and the whole of it.
use Rattle.std.proofs.Common.{◌≡◌, ◌<◌, ℕ, Bool, true, false, cond, not, List, length, Option, None, Some, is_some, option_map, Result, Err, sym, ap, subst, ◌∙◌, arith}
use Rattle.std.specs.Prelude.{All, IfSome, IsTrue, slice_get, unwrap_or}
use Rattle.std.proofs.lemmas.List.{length-map}
use Rattle.std.proofs.lemmas.Option.{slice_get_within, slice_get-map, get_or_from_slice_get}
use Rattle.wol_disk.specs.Disk.{Block, Rose, State, reads}
use Rattle.wol_disk.proofs.Images.{image_reads}
use Rattle.wol_bay.specs.Bay.{BayState, Image, Told, at_name}
use Rattle.wol_model.specs.Images.{Images, image_of, recovered_from}
use Rattle.wol_config.specs.declared.config.Config.{Config}
use Rattle.wol_config.specs.declared.config.VolumeConf.{VolumeConf}
use Rattle.manager.specs.declared.station.Station.{Station}
use Rattle.report.specs.declared.fault.Fault.{Fault}
use Rattle.volume_images.specs.Left.{IsTold}
use Rattle.volume_images.specs.Volumes.{AreLeft, MayLeave, image_read, images_read, shape_in, shapes_of}
use Rattle.rack.specs.Closes.{AreLeftOfParts, IsQuiet, is_kept_home}
use Rattle.rack.specs.Opens.{LeavesAll, WereThere}
use Rattle.rack.specs.Owners.{HadRefused, RecoversSame}
use Rattle.rack.specs.Racks.{IsRack}
use Rattle.rack.specs.Rests.{IsImageOut}
use Rattle.rack_parts.specs.declared.rack.Rack.{Rack}
use Rattle.rack.proofs.StillThere.{kept_home, there_left}
use Rattle.rack.specs.Sessions.{KeepsArrays, OpensAndCloses}
use Rattle.spin_model.specs.Spindles.{SpindleView}
use Rattle.rack.specs.NotOpened.{first_closed}
use Rattle.replay.specs.declared.stop.Stop.{Stop}
use Rattle.replay.specs.declared.stop.Stop.TheVariants as stop
use Rattle.rack.proofs.AllOut.{recovered_all}
use Rattle.rack.proofs.FirstClosed.{first_unopened}
use Rattle.rack.proofs.ViewsKept.{fronts_kept}
use Rattle.replay.proofs.RacksServed.{a_member, station_count}
use Rattle.replay.proofs.RunClosed.{quiet_all}
use Rattle.cleaning.specs.Racks.{CanCleanAll, CleansRack}
use Rattle.cleaning.specs.Racks as racks
use Rattle.cleaning.specs.Runs.{CleansBay, Completes, MayComplete}
use Rattle.cleaning.specs.Runs as runs
use Rattle.cleaning.proofs.Closed.{none_first}
use Rattle.cleaning.proofs.Volumes.{all_out, all_out_after}
use Rattle.cleaning.proofs.Whole.{ends_for, kept_by, later_told, run_completes}

-- ---- A rack that was opened can be cleaned

pub can_clean_all : {D : Type 0} (state : D → State) (config : Config) (b : BayState) (r : Rack D) → IsRack state config b r → first_closed 0 r.faults.items ≡ None → CanCleanAll config r
can_clean_all state config b r is open_ = record {
  count = station_count state config b r is open_ ∙ length-map config.volumes.items (shape_in config);
  each = λ k d lt. (is.stations k d lt, (is.bases k d lt).at, (is.bases k d lt).most);
}

module _ {D : Type 0} (tells : Bool) (state : D → State) (config : Config) (did : Rack D → Rack D → Type 0) (old new : BayState) (spindles : List SpindleView) (session : OpensAndCloses tells state config did old new spindles) where
  abbrev out : List (Option (Rattle.rack_parts.specs.declared.rack.ImageRest.ImageRest D))
  out = session.before.rest.images.items

  module _ (open_ : first_closed 0 session.before.faults.items ≡ None) where
    outs : (k : ℕ) → k < length (shapes_of config) → IsImageOut out k
    outs = all_out tells state config did old new spindles session open_

    within : (k : ℕ) (v : VolumeConf) → slice_get config.volumes.items k ≡ Some v → k < length (shapes_of config)
    within k v conf = let less = slice_get_within config.volumes.items k v conf in omega (arith, less, length-map config.volumes.items (shape_in config))

    not_home : (k : ℕ) (v : VolumeConf) → slice_get config.volumes.items k ≡ Some v → is_kept_home out k ≡ true → ⊥
    not_home k v conf home = let no : false ≡ true = sym (ap not (outs k (within k v conf))) ∙ home in absurd (cc no)

    -- the images as they read might have been left
    read_left : (t : Told) → WereThere config out t → AreLeft config t (images_read config t)
    read_left t there = record { count = length-map config.volumes.items (λ (v : VolumeConf). image_read (at_name v.name t.images)); each = each }
      where
        each : (k : ℕ) (d : VolumeConf) → k < length config.volumes.items → MayLeave (at_name (Rattle.std.specs.Prelude.slice_index_or config.volumes.items k d).name t.images) (image_of (images_read config t) k)
        each k d lt =
            let (v, conf) = a_member config.volumes.items k lt in
            let was = there k v conf (outs k (within k v conf)) in
            let is_read : image_of (images_read config t) k ≡ Some (reads was.0.blocks)
            = ap (λ (o : Option (Option (List Block))). unwrap_or o None) (slice_get-map (λ (w : VolumeConf). image_read (at_name w.name t.images)) config.volumes.items k ∙ ap (option_map (λ (w : VolumeConf). image_read (at_name w.name t.images))) conf)
            ∙ ap image_read was.1 ∙ ap (λ (l : List ℕ). cond (Rattle.std.specs.Prelude.nat_eq (length l) 0) (Some (reads was.0.blocks)) None) was.2 in
            subst (λ (w : VolumeConf). MayLeave (at_name w.name t.images) (image_of (images_read config t) k)) (sym (get_or_from_slice_get config.volumes.items k v d conf))
            (subst (λ (o : Option Image). MayLeave o (image_of (images_read config t) k)) (sym was.1) (subst (λ (c : Option (List Block)). MayLeave (Some was.0) c) (sym is_read) (was.2, image_reads was.0.blocks)))

    -- no image was kept back
    none_kept : (t y : Told) → HadRefused config session.after.rest.images.items t y
    none_kept t y k v conf none c may = let no : false ≡ true = sym (ap is_some none) ∙ all_out_after tells state config did old new spindles session open_ k (within k v conf) in absurd (cc no)

    -- an array is the same without the images that were refused, since none was
    same_but : (t : Told) → WereThere config out t → (images : Images) → length images ≡ length config.volumes.items → (v : ℕ) → recovered_from (shapes_of config) images v ≡ recovered_from (shapes_of config) (images_read config t) v
        → RecoversSame config (is_kept_home out) false images (images_read config t) v
    same_but t there images count v same = record { but = recovered_all config out outs images count v ∙ same ∙ sym (recovered_all config out outs (images_read config t) (read_left t there).count v); all = λ or. same }

    leaves_all : (t y : Told) → WereThere config out t → AreLeftOfParts state config session.after y → KeepsArrays config t y → LeavesAll tells state config old new t y
    leaves_all t y there parts kept = record {
      refused = is_kept_home out;
      cause = λ k v conf home. absurd (not_home k v conf home);
      kept = λ k v conf or. let none = kept_home config out t there k v conf or in let no : false ≡ true = sym (ap is_some none) ∙ outs k (within k v conf) in absurd (cc no);
      logs = λ k v conf or. let none = kept_home config out t there k v conf or in let no : false ≡ true = sym (ap is_some none) ∙ outs k (within k v conf) in absurd (cc no);
      opened = λ v. false;
      are_opened = λ v no. absurd (cc no);
      left = λ images left_ v is_there. (images_read config t, read_left t there, same_but t there images left_.count v (kept images left_ v (slice_get_within (shapes_of config) v is_there.0 is_there.2)));
      there = λ images left_ v was. there_left state config session.after t y (none_kept t y) parts images left_ v was;
    }

    told_left : (e n : Option Told) → IfSome e (λ t. WereThere config out t) → IsTold (λ x y. AreLeftOfParts state config session.after y) e n → IsTold (KeepsArrays config) e n
        → IsTold (LeavesAll tells state config old new) e n
    told_left None n there parts told = told
    told_left (Some e) None there parts told = told
    told_left (Some e) (Some n) there parts told = leaves_all e n there parts told

    pub left_cleaned : IsTrue tells → IsTold (KeepsArrays config) old.told new.told → IsTold (LeavesAll tells state config old new) old.told new.told
    left_cleaned telling kept = told_left old.told new.told (session.opened.there telling)
        (later_told (AreLeftOfParts state config session.after) old.told session.bay.told new.told session.opened.faulty (session.closed.parts telling)) kept

  -- where nothing was cleaned
  left_untouched : session.after ≡ session.before → IsTrue tells → IsTold (LeavesAll tells state config old new) old.told new.told
  left_untouched same telling = session.left telling (subst (λ (r : Rack D). All (λ (s : Station D). IsQuiet s) r.stations.items) (sym same) (quiet_all session.before.stations.items session.opened.fresh))

  module _ (sink sink' : ℕ) (printed printed' : Option (List ℕ)) where
    pub left_by : (answer : Result (Unit {0}) Stop) → CleansRack tells state config session.before session.after sink sink' printed printed' answer → IsTrue tells → IsTold (LeavesAll tells state config old new) old.told new.told
    left_by answer (racks.closed f is same calm kept) telling = left_untouched same telling
    left_by answer (racks.ran r open_ worked all) telling = left_cleaned open_ telling (kept_by tells state config did old new spindles session open_ sink sink' printed printed' r all telling)

    pub cleans_by : (answer : Result (Unit {0}) Stop) → CleansRack tells state config session.before session.after sink sink' printed printed' answer → CleansBay tells state config old new sink sink' printed printed' answer
    cleans_by answer (racks.closed f is same calm kept) =
        let (k, g, told, first) = first_unopened tells state config did old new spindles session same f is in
        subst (λ (x : Fault). CleansBay tells state config old new sink sink' printed printed' (Err (stop.Fault x))) (sym told) (runs.closed k g calm kept first)
    cleans_by answer (racks.ran r open_ worked all) =
        runs.ran r (ends_for tells state config did old new spindles session open_ sink sink' printed printed' r all) (kept_by tells state config did old new spindles session open_ sink sink' printed printed' r all)
        (fronts_kept tells state config did old new spindles session (λ k lt. outs open_ k (omega (arith, lt, length-map config.volumes.items (shape_in config)))))

    pub completes_by : (answer : Result (Unit {0}) Stop) → CleansRack tells state config session.before session.after sink sink' printed printed' answer → MayComplete tells config old new sink sink' → Completes answer
    completes_by answer (racks.closed f is same calm kept) m = absurd (let no : None ≡ Some f = sym (none_first 0 session.before.faults.items all_open) ∙ is in cc no)
      where
        opens : (k : ℕ) → k < length (shapes_of config) → slice_get session.before.faults.items k ≡ Some None
        opens = (subst (λ (x : Option Told). IfSome x (λ t. Rattle.wol_model.specs.Images.AreSound (shapes_of config) (images_read config t) → (Rose old.faults new.faults → ⊥)
            → (k : ℕ) → k < length (shapes_of config) → slice_get session.before.faults.items k ≡ Some None)) m.looks.entry_is (session.complete m.looks.telling)) m.looks.sound m.looks.bay_calm

        all_open : (k : ℕ) → k < length session.before.faults.items → slice_get session.before.faults.items k ≡ Some None
        all_open k lt = opens k (let n = session.opened.rack.fault_count in omega (arith, lt, n))
    completes_by answer (racks.ran r open_ worked all) m = run_completes tells state config did old new spindles session open_ sink sink' printed printed' r (ends_for tells state config did old new spindles session open_ sink sink' printed printed' r all) m

-- the rack has again all that it came with
pub again_cleaned : {D : Type 0} (tells : Bool) (state : D → State) (config : Config) (old new : Rack D) (sink sink' : ℕ) (printed printed' : Option (List ℕ)) (answer : Result (Unit {0}) Stop) → CleansRack tells state config old new sink sink' printed printed' answer
    → Rattle.rack.specs.Again.IsRackAgain old new
again_cleaned tells state config old new sink sink' printed printed' answer (racks.closed f is same calm kept) = subst (Rattle.rack.specs.Again.IsRackAgain old) (sym same) (Rattle.cleaning.proofs.Stations.again_worked old old (Rattle.cleaning.proofs.Stations.worked_self old))
again_cleaned tells state config old new sink sink' printed printed' answer (racks.ran r open_ worked all) = Rattle.cleaning.proofs.Stations.again_worked old new worked
