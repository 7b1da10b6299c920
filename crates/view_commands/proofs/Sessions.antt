-- All volumes were opened, and closed behind a drain: what is told of the bay.
use Rattle.std.proofs.Common.{◌≡◌, ◌<◌, ℕ, Bool, true, false, List, length, Option, None, Some, option_map, Err, refl, sym, ap, ◌∙◌, subst, arith}
use Rattle.std.specs.Prelude.{slice_get, slice_range, slice_index_or, All, Contains, IfSome, IsSome, IsTrue}
use Rattle.std.proofs.lemmas.List.{length-map}
use Rattle.std.proofs.lemmas.Option.{slice_get-get_or, slice_get-map, slice_get_within}
use Rattle.wol_disk.specs.Disk.{Rose, State, reads}
use Rattle.wol_bay.specs.Bay.{BayState, Told, at_name}
use Rattle.wol_promise.specs.Policy.{PartName}
use Rattle.wol_config.specs.declared.config.Config.{Config}
use Rattle.wol_config.specs.declared.config.VolumeConf.{VolumeConf}
use Rattle.wol_model.specs.Images.{Images, image_of}
use Rattle.turn_lock.specs.Passes.{pass_seen}
use Rattle.manager.specs.declared.part.StepFault.{StepFault}
use Rattle.manager.specs.declared.part.StepFault.TheVariants.{DiskFault, Down}
use Rattle.manager.specs.declared.station.Station.{Station}
use Rattle.request_turns.specs.Turns.{IsBroken, faulty_part, notes_seen}
use Rattle.request_turns.proofs.Gaining.{down_breaks}
use Rattle.rack.specs.Troubles.{trouble_of_part}
use Rattle.spin_model.specs.Spindles.{SpindleView}
use Rattle.volume_images.specs.Left.{IsTold}
use Rattle.volume_images.specs.Volumes.{images_read, shape_in, shapes_of}
use Rattle.rack.specs.Closes.{AreLeftOfParts, HasFaultyPart, IsClosedVolume, IsQuiet, LeavesOpen, part_named, recovered_out}
use Rattle.rack.specs.Opens.{BeganWith, HasFaulty, WereThere}
use Rattle.rack.specs.Owners.{IsBegun, images_taken}
use Rattle.rack.specs.Racks.{IsStation, base_of_station}
use Rattle.rack.specs.Rests.{IsImageOut, image_here}
use Rattle.rack_parts.specs.declared.rack.ImageRest.{ImageRest}
use Rattle.rack_parts.specs.declared.rack.Rack.{Rack}
use Rattle.rack.specs.Sessions.{KeepsArrays, OpensAndCloses}
use Rattle.rack.proofs.Since.{rose_before, unmapped}
use Rattle.inspection.specs.Racks.{IsSameRack, numbers_of}
use Rattle.inspection.proofs.Quiet.{all_quiet}
use Rattle.inspection.proofs.SameRacks.{numbers_same}
use Rattle.inspection.proofs.Unhelped.{all_at, broken_still}
use Rattle.rack.proofs.AllOut.{recovered_all, taken_all}
use Rattle.rack.proofs.FirstClosed.{none_closed}
use Rattle.rack.proofs.OpenedKept.{opened_at, opened_out}
use Rattle.view_commands.specs.Drains.{AllOpen, IsDrained, trouble_of_step}
use Rattle.view_commands.specs.Runs.{FailsWith}
use Rattle.view_commands.specs.Runs as runs
use Rattle.view_commands.proofs.Emptied.{came}
use Rattle.view_commands.proofs.Kept.{KeepsFronts}

-- what holds of what is told where it says more
pub told_by : (P Q : Told → Told → Type 0) → ((x y : Told) → P x y → Q x y) → (o n : Option Told) → IsTold P o n → IsTold Q o n
told_by P Q f None n is = is
told_by P Q f (Some o) None is = is
told_by P Q f (Some o) (Some n) is = f o n is

-- what is left since opening is left since entry
pub told_since : (H : Told → Told → Type 0) (P : Told → Type 0) → (o m n : Option Told) → IsTold H o m → IsTold (λ x y. P y) m n → IsTold (λ x y. P y) o n
told_since H P None None n had is = is
told_since H P None (Some m) n had is = absurd (cc had)
told_since H P (Some o) None n had is = absurd had
told_since H P (Some o) (Some m) None had is = absurd is
told_since H P (Some o) (Some m) (Some n) had is = is

here_is : {X : Type 0} (o : Option X) → IsSome o → (x : X) × (o ≡ Some x)
here_is None is = absurd (let no : false ≡ true = is in cc)
here_is (Some x) is = (x, refl)

-- ---- Parts

pub step_trouble : (f : StepFault) → trouble_of_step f ≡ trouble_of_part (faulty_part f)
step_trouble (DiskFault p) = refl
step_trouble (Down p) = refl

module _ {D : Type 0} (tells : Bool) (state : D → State) (config : Config) (did : Rack D → Rack D → Type 0) (old new : BayState) (spindles : List SpindleView) (session : OpensAndCloses tells state config did old new spindles) where
  abbrev before : Rack D
  before = session.before

  abbrev after : Rack D
  after = session.after

  shapes_count : length (shapes_of config) ≡ length config.volumes.items
  shapes_count = length-map config.volumes.items (shape_in config)

  -- ---- All volumes were open

  module _ (all_open : AllOpen before.faults.items) (same : IsSameRack before after) where
    none_at : (k : ℕ) → k < length (shapes_of config) → slice_index_or before.faults.items k None ≡ None
    none_at k lt = none_closed 0 before.faults.items all_open k

    outs : (k : ℕ) → k < length (shapes_of config) → IsImageOut before.rest.images.items k
    outs k lt = opened_out state config session.bay before session.opened.rack k lt (none_at k lt)

    same_images : after.rest.images.items ≡ before.rest.images.items
    same_images = ap (λ (r : Rack D). r.rest.images.items) same.same

    pub outs_after : (k : ℕ) → k < length (shapes_of config) → IsImageOut after.rest.images.items k
    outs_after k lt = subst (λ (images : List (Option (ImageRest D))). IsImageOut images k) (sym same_images) (outs k lt)

    -- ---- Arrays

    quiet : All (λ (s : Station D). IsQuiet s) after.stations.items
    quiet = all_quiet before.stations.items after.stations.items same.each session.opened.fresh

    station_after : (k : ℕ) → k < length (shapes_of config) → (at : ℕ) × (s : Station D) × (slice_get after.stations.items at ≡ Some s) × (s.id ≡ k)
    station_after k lt =
        let (at, less, id) = subst (λ (ns : List ℕ). Contains ns k) (sym (numbers_same before.stations.items after.stations.items same.each)) ((session.opened.rack.faults k lt).0 (none_at k lt)) in
        let (s, there, is) = unmapped (λ (s : Station D). s.id) after.stations.items at k (slice_get-get_or (numbers_of after.stations.items) at k less ∙ ap (λ (n : ℕ). Some n) id) in
        (at, s, there, is)

    arrays_at : (entry mid : Told) → LeavesOpen config after entry mid → KeepsArrays config entry mid
    arrays_at entry mid leaves images left k lt =
        let (at, s, there, is) = station_after k lt in
        let out = after.rest.images.items in
        let here : recovered_out config out images s.id ≡ recovered_out config out (images_read config entry) s.id =
        all_at (λ (x : Station D). recovered_out config out images x.id ≡ recovered_out config out (images_read config entry) x.id) after.stations.items at s (leaves images left) there in
        let read_count : length (images_read config entry) ≡ length config.volumes.items = length-map config.volumes.items (λ (v : VolumeConf). Rattle.volume_images.specs.Volumes.image_read (at_name v.name entry.images)) in
        sym (recovered_all config out outs_after images left.count k)
        ∙ subst (λ (n : ℕ). recovered_out config out images n ≡ recovered_out config out (images_read config entry) n) is here
        ∙ recovered_all config out outs_after (images_read config entry) read_count k

    -- each volume recovers to its array at entry
    pub arrays : IsTrue tells → IsTold (KeepsArrays config) old.told new.told
    arrays telling = told_by (LeavesOpen config after) (KeepsArrays config) arrays_at old.told new.told (session.left_open telling quiet)

    -- ---- Labels and views

    fronts_at : (entry mid : Told) → BeganWith state config entry before → WereThere config before.rest.images.items entry → AreLeftOfParts state config after mid → KeepsFronts config entry mid
    fronts_at entry mid began there parts images left k v conf =
        let lt : k < length (shapes_of config) = (let within = slice_get_within config.volumes.items k v conf in omega (arith, within, shapes_count)) in
        let was = there k v conf (outs k lt) in
        let r = here_is (image_here before.rest.images.items k) (outs k lt) in
        let shape : slice_get (shapes_of config) k ≡ Some (shape_in config v) = slice_get-map (shape_in config) config.volumes.items k ∙ ap (option_map (shape_in config)) conf in
        let c = parts images left k (shape_in config v) r.0 shape (ap (λ (out : List (Option (ImageRest D))). image_here out k) same_images ∙ r.1) in
        let first = began.left k v was.0 r.0 conf was.1 r.1 in
        let opened = opened_at state config session.bay before session.opened.rack entry began k lt (none_at k lt) in
        let taken = taken_all config before.rest.images.items outs entry in
        let begun : IsBegun config (images_read config entry) opened.base = subst (λ (l : Images). IsBegun config l opened.base) taken opened.begun in
        let reads_are : image_of (images_read config entry) k ≡ Some (reads was.0.blocks) =
        Rattle.view_commands.proofs.Kept.read_at config entry k v conf ∙ ap Rattle.volume_images.specs.Volumes.image_read was.1 ∙ Rattle.view_commands.proofs.Kept.read_whole was.0 was.2 in
        record {
          was = was;
          blocks = c.0;
          here = c.1;
          sized = c.2.sized;
          front = first.label (slice_range c.0 0 2) c.2.label;
          ids = opened.base.view;
          view = begun.view (reads was.0.blocks) (ap (image_of (images_read config entry)) opened.owner ∙ reads_are);
        }

    -- label and view of each image are as they read at entry
    pub fronts : IsTrue tells → IsTold (KeepsFronts config) old.told new.told
    fronts telling = go old.told session.bay.told new.told (session.opened.began telling) (session.opened.there telling) session.opened.faulty (session.closed.parts telling)
      where
        go : (o b n : Option Told) → IfSome o (λ t. BeganWith state config t before) → IfSome o (λ t. WereThere config before.rest.images.items t)
            → IsTold HasFaulty o b → IsTold (λ x y. AreLeftOfParts state config after y) b n → IsTold (KeepsFronts config) o n
        go None None n began there had parts = parts
        go None (Some b) n began there had parts = absurd (cc had)
        go (Some o) None n began there had parts = absurd had
        go (Some o) (Some b) None began there had parts = absurd parts
        go (Some o) (Some b) (Some n) began there had parts = fronts_at o n began there parts

    -- ---- A drain that was refused

    module _ (volume : ℕ) (f : StepFault) (drained : IsDrained tells state before after volume (Err f)) where
      abbrev s : Station D
      s = drained.station

      ends : IsClosedVolume tells config after.rest.images.items session.bay new (record s { worker = drained.pass })
      ends = all_at (IsClosedVolume tells config after.rest.images.items session.bay new) after.stations.items drained.place (record s { worker = drained.pass }) session.closed.stations drained.now

      station : IsStation s
      station = all_at IsStation before.stations.items drained.place s session.opened.rack.stations drained.is_station.there

      owner : (base_of_station s).volume.began.owner ≡ volume
      owner = station.id ∙ drained.is_station.id

      broken : IsBroken (notes_seen drained.pass)
      broken = down_breaks (faulty_part f) (notes_seen drained.pass) drained.drained.cause

      named : (name : PartName) × (trouble_of_part (faulty_part f) ≡ trouble_of_part (part_named volume name)) × IsTold (HasFaultyPart tells config volume (base_of_station s).volume.began.view name) old.told new.told
      named = came tells state config did old new spindles session volume (Err f) drained (faulty_part f) drained.drained.cause

      rose : Rose old.faults new.faults
      rose = rose_before old.faults session.bay.faults new.faults session.sooner (ends.cause (broken_still (pass_seen drained.pass) ends.entries ends.worker_part.seen broken))

      begun : (o : Option Told) → IfSome o (λ t. BeganWith state config t before) → IfSome o (λ t. IsBegun config (images_read config t) (base_of_station s).volume.began)
      begun None is = tt
      begun (Some t) is = subst (λ (l : Images). IsBegun config l (base_of_station s).volume.began) (taken_all config before.rest.images.items outs t)
          (all_at (λ (w : Station D). IsBegun config (images_taken config before.rest.images.items t) (base_of_station w).volume.began) before.stations.items drained.place s is.stations drained.is_station.there)

      pub drain_fails : FailsWith tells config volume old new (trouble_of_step f)
      drain_fails = subst (FailsWith tells config volume old new) (sym (step_trouble f ∙ named.1)) (runs.part named.0 (base_of_station s).volume.began owner (λ telling. begun old.told (session.opened.began telling)) named.2 rose)

      pub drain_rose : Rose old.faults new.faults
      drain_rose = rose
