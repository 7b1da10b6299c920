-- What serving a volume of a bay comes to, from what was done with its rack.
use Rattle.std.proofs.Common.{◌≡◌, ◌<◌, ℕ, Bool, List, length, Option, None, Some, Result, Ok, Err, refl, sym, ◌∙◌, subst, arith}
use Rattle.std.specs.Prelude.{slice_get, IfSome, IsTrue}
use Rattle.std.proofs.lemmas.Option.{slice_get_within}
use Rattle.wol_disk.specs.Disk.{Rose, State}
use Rattle.wol_bay.specs.Bay.{BayState, Told}
use Rattle.wol_config.specs.Documents.{names_of, number_named}
use Rattle.wol_config.specs.declared.config.Config.{Config}
use Rattle.wol_model.specs.Images.{AreSound}
use Rattle.report.specs.declared.fault.Fault.{Fault}
use Rattle.spin_model.specs.Spindles.{SpindleView}
use Rattle.volume_images.specs.Left.{IsTold}
use Rattle.volume_images.specs.Volumes.{images_read, shapes_of}
use Rattle.rack.specs.Opens.{KeepsAllSound, LeavesAll}
use Rattle.rack_parts.specs.declared.rack.Rack.{Rack}
use Rattle.rack.specs.Sessions.{OpensAndCloses}
use Rattle.rack.specs.NotOpened.{first_closed}
use Rattle.rack.proofs.FirstClosed.{first_is, first_unopened}
use Rattle.rack.proofs.ViewsKept.{views_kept}
use Rattle.inspection.specs.Racks.{IsSameRack}
use Rattle.inspection.specs.Runs.{MayComplete}
use Rattle.inspection.proofs.Quiet.{all_quiet}
use Rattle.inspection.proofs.SameRacks.{rack_self}
use Rattle.nbd_session.specs.declared.ending.Shaken.{Shaken}
use Rattle.nbd_session.specs.Sessions.{CountsFaults}
use Rattle.nbd_session.specs.declared.session.Ended.{Ended}
use Rattle.nbd_session.specs.declared.session.NbdFault.{NbdFault}
use Rattle.nbd_session.specs.declared.session.NbdFault.TheVariants as fault
use Rattle.nbd_serving.specs.Racks.{ServesRack}
use Rattle.nbd_serving.specs.Racks as racks
use Rattle.nbd_serving.specs.Runs.{Completes, ServesNamed}
use Rattle.nbd_serving.specs.Runs as runs
use Rattle.nbd_serving.specs.Volumes.{KeepsBay}
use Rattle.nbd_serving.specs.Wires.{Wire, answer_of}
use Rattle.nbd_serving.specs.declared.serving.Beginning.{Beginning}
use Rattle.nbd_serving.specs.declared.stop.Stop.{Stop}
use Rattle.nbd_serving.specs.declared.stop.Stop.TheVariants as stop
use Rattle.nbd_serving.proofs.Begun.{counts_behind, faults_begun}
use Rattle.nbd_serving.proofs.Sessions.{all_kept, serves_open}

-- what isn't touched is sound as it was
pub sound_same : (config : Config) (o : Option Told) → IsTold (KeepsAllSound config) o o
sound_same config None = refl
sound_same config (Some t) = λ all images left. all images left

module _ {D : Type 0} (tells : Bool) (state : D → State) (config : Config) (begins : Beginning) (name : List ℕ) (volume : ℕ) (named : number_named (names_of config.volumes.items) name ≡ Some volume) (old new : BayState) (wire wire' : Wire) (spindles : List SpindleView)
    (answer : Result Ended Stop) (session : OpensAndCloses tells state config (λ before after. ServesRack tells config volume begins before after wire wire' answer) old new spindles) where
  abbrev did : Rack D → Rack D → Type 0
  did = λ before after. ServesRack tells config volume begins before after wire wire' answer

  untouched : session.after ≡ session.before → IsTrue tells → IsTold (LeavesAll tells state config old new) old.told new.told
  untouched same telling = session.left telling (all_quiet session.before.stations.items session.after.stations.items (subst (IsSameRack session.before) (sym same) (rack_self session.before)).each session.opened.fresh)

  -- where all volumes were open
  kept : first_closed 0 session.before.faults.items ≡ None → session.after ≡ session.before → (IsTrue tells → IsTold (KeepsAllSound config) old.told new.told) → KeepsBay {D = D} tells state config old new
  kept all_open same sound = record {
    kept = all_kept tells state config did old new spindles session all_open same;
    leaves = record { left = untouched same; sound = sound };
  }

  pub serves_named : (IsTrue tells → IsTold (KeepsAllSound config) old.told new.told) → ServesNamed tells state config begins name old new wire wire' answer
  serves_named sound = go answer session.done
    where
      go : (a : Result Ended Stop) → ServesRack tells config volume begins session.before session.after wire wire' a → ServesNamed tells state config begins name old new wire wire' a
      go a (racks.closed fault is same calm) =
          let first = first_unopened tells state config did old new spindles session same fault is in
          subst (λ (f : Fault). ServesNamed tells state config begins name old new wire wire' (Err (stop.Fault f))) (sym first.2)
          (runs.closed volume first.0 first.1 named first.3 (record { bay = record { left = untouched same; sound = sound }; views = views_kept tells state config did old new spindles session }) calm)
      go a (racks.unagreed why is begins_ same) = runs.unagreed volume why named begins_ (kept is same sound)
      go a (racks.unbegun f is begins_ same) = runs.unbegun volume f named begins_ (kept is same sound)
      go a (racks.open_ begun r all_open begins_ serves) = runs.served volume begun r named begins_ (serves_open tells state config did old new spindles session all_open volume begun wire' r serves)

  -- ---- Completeness

  all_there : MayComplete tells config old new wire.sink_faults wire'.sink_faults → (k : ℕ) → k < length (shapes_of config) → slice_get session.before.faults.items k ≡ Some None
  all_there m =
      let each = subst (λ (x : Option Told). IfSome x (λ t. AreSound (shapes_of config) (images_read config t) → (Rose old.faults new.faults → ⊥)
      → (k : ℕ) → k < length (shapes_of config) → slice_get session.before.faults.items k ≡ Some None)) m.entry_is (session.complete m.telling) in
      each m.sound m.bay_calm

  pub serves_complete : (Rose wire.source_faults wire'.source_faults → ⊥) → MayComplete tells config old new wire.sink_faults wire'.sink_faults → Completes answer
  serves_complete calm m = go answer session.done
    where
      by : (r : Result Ended NbdFault) → CountsFaults wire.source_faults wire'.source_faults wire.sink_faults wire'.sink_faults r → Completes (answer_of r)
      by (Ok e) counts = tt
      by (Err fault.Source) counts = absurd (calm counts.0)
      by (Err fault.Sink) counts = absurd (m.sink_calm counts.1)
      by (Err fault.NoMemory) counts = refl

      broke : (f : NbdFault) → CountsFaults {T = Shaken} wire.source_faults wire'.source_faults wire.sink_faults wire'.sink_faults (Err f) → Completes (answer_of (Err f))
      broke fault.Source counts = absurd (calm counts.0)
      broke fault.Sink counts = absurd (m.sink_calm counts.1)
      broke fault.NoMemory counts = refl

      go : (a : Result Ended Stop) → ServesRack tells config volume begins session.before session.after wire wire' a → Completes a
      go a (racks.closed fault is same unread) =
          let one = first_is 0 session.before.faults.items fault is in
          let within = slice_get_within session.before.faults.items one.k (Some one.fault_) one.here in
          absurd (cc (sym (all_there m one.k (omega (arith, within, session.opened.rack.fault_count))) ∙ one.here))
      go a (racks.unagreed why is begins_ same) = tt
      go a (racks.unbegun f is begins_ same) = broke f (faults_begun config volume begins wire wire' f begins_)
      go a (racks.open_ begun r all_open begins_ serves) = by r (counts_behind config volume begins wire begun wire' r begins_ serves.faults)
