-- A look in whose way nothing stands finds all volumes in order.
use Rattle.std.proofs.Common.{◌≡◌, ◌<◌, inl, inr, ℕ, zero, suc, Bool, List, [], ◌∷◌, length, Option, None, Some, Result, Ok, Err, refl, sym, ap, subst, ◌∙◌, arith}
use Rattle.std.specs.Prelude.{IfSome, slice_get}
use Rattle.std.proofs.lemmas.Option.{slice_get_within}
use Rattle.std.proofs.lemmas.List.{length-map}
use Rattle.wol_disk.specs.Disk.{Rose, State}
use Rattle.wol_bay.specs.Bay.{BayState, Told}
use Rattle.wol_model.specs.Images.{AreSound}
use Rattle.wol_config.specs.declared.config.Config.{Config}
use Rattle.report.specs.declared.trouble.Trouble.{Trouble}
use Rattle.volume_images.specs.Volumes.{images_read, shape_in, shapes_of}
use Rattle.rack_parts.specs.declared.rack.Rack.{Rack}
use Rattle.rack.specs.Sessions.{OpensAndCloses}
use Rattle.spin_model.specs.Spindles.{SpindleView}
use Rattle.inspection.specs.Lines.{PrintsBy, PrintsVolumes, Telling, first_of, first_trouble}
use Rattle.inspection.specs.Runs.{Completes, MayComplete}
use Rattle.inspection.specs.declared.asked.Asked.{Asked}
use Rattle.inspection.specs.declared.calls.Stop.{Stop}
use Rattle.inspection.specs.declared.calls.Stop.TheVariants.{Memory, Sink}
use Rattle.inspection.proofs.Telling.{part_rose}

first_none : (ts : List Telling) → ((k : ℕ) (t : Telling) → slice_get ts k ≡ Some t → t.trouble ≡ None) → first_trouble ts ≡ None
first_none [] each = refl
first_none (t ∷ ts) each = ap (λ (o : Option Trouble). first_of o (first_trouble ts)) (each zero t refl) ∙ first_none ts (λ k u is. each (suc k) u is)

ends : (result : Result (Option Trouble) Stop) (config : Config) (ts : List Telling) (faults faults' : ℕ) (printed printed' : Option (List ℕ)) → PrintsBy result config ts faults faults' printed printed' → (Rose faults faults' → ⊥) → first_trouble ts ≡ None → Completes result
ends (Ok trouble) config ts faults faults' printed printed' prints calm none = inl (ap (λ (o : Option Trouble). Ok o) (prints.1 ∙ none))
ends (Err Memory) config ts faults faults' printed printed' prints calm none = inr refl
ends (Err Sink) config ts faults faults' printed printed' prints calm none = absurd (calm prints.0)

pub look_completes : {D : Type 0} (tells : Bool) (state : D → State) (config : Config) (asked : Asked) (did : Rack D → Rack D → Type 0) (old new : BayState) (spindles : List SpindleView)
    (session : OpensAndCloses tells state config did old new spindles) (result : Result (Option Trouble) Stop) (faults faults' : ℕ) (printed printed' : Option (List ℕ))
    → PrintsVolumes tells state config asked session.before session.after result faults faults' printed printed' → MayComplete tells config old new faults faults' → Completes result
look_completes tells state config asked did old new spindles session result faults faults' printed printed' prints m =
    ends result config prints.told faults faults' printed printed' prints.prints m.sink_calm (first_none prints.told in_order)
  where
    open_ : (k : ℕ) → k < length (shapes_of config) → slice_get session.before.faults.items k ≡ Some None
    open_ =
        let each = subst (λ (x : Option Told). IfSome x (λ t. AreSound (shapes_of config) (images_read config t) → (Rose old.faults new.faults → ⊥)
        → (k : ℕ) → k < length (shapes_of config) → slice_get session.before.faults.items k ≡ Some None)) m.entry_is (session.complete m.telling) in
        each m.sound m.bay_calm

    in_order : (k : ℕ) (t : Telling) → slice_get prints.told k ≡ Some t → t.trouble ≡ None
    in_order k t at = elim (prints.are.each k t at) [
      | inl fault ↦
          let within = slice_get_within prints.told k t at in
          let few = prints.are.few in
          absurd (let no : Some None ≡ Some (Some fault.fault) = sym (open_ k (omega (arith, within, few, length-map config.volumes.items (shape_in config)))) ∙ fault.is_fault in cc no)
      | inr (inl order) ↦ order.trouble
      | inr (inr failed) ↦ absurd (m.bay_calm (part_rose tells state config asked did old new spindles session k t failed))
    ]
