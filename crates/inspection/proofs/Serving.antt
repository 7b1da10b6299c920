-- What a manager serves, as the configuration has it, when its turn comes.
use Rattle.std.proofs.Common.{◌≡◌, ◌<◌, ℕ, zero, suc, Bool, List, [], ◌∷◌, length, Option, Some, map, refl, sym, ap, subst, ◌∙◌, rules}
use Rattle.std.specs.Prelude.{slice_get}
use Rattle.std.specs.List.{AllByRecursion}
use Rattle.wol_disk.specs.Disk.{State}
use Rattle.wol_promise.specs.Manager.{SegmentPart}
use Rattle.wol_promise.specs.Ruled.{Noted}
use Rattle.wol_config.specs.declared.config.Config.{Config}
use Rattle.logger.specs.Lanes.{logger_of}
use Rattle.logger.specs.declared.shared.Shared.{Shared}
use Rattle.manager.specs.Seen.{down_of}
use Rattle.manager.specs.Stands.{Keeps}
use Rattle.manager.specs.declared.base.ManagerBase.{ManagerBase}
use Rattle.manager.specs.declared.manager.Manager.{Manager}
use Rattle.manager.specs.declared.part.Part.{Part}
use Rattle.manager.specs.declared.part.Part.TheVariants.{Home, Segment}
use Rattle.inspection.specs.Volumes.{IsVolumeOf}
use Rattle.report.specs.Names.{printed_names}
use Rattle.report.specs.Troubles.{IsAmong}
use Rattle.report.proofs.VolumeNames.{is_named}
use Rattle.rack.specs.Troubles.{trouble_of_part}
use Rattle.inspection.specs.Looks.{IsConfiguredBase}

-- of each element of a list that was mapped
all_mapped : {A B : Type 0} (P : B → Type 0) (f : A → B) (xs : List A) → AllByRecursion P (map f xs) → AllByRecursion (λ (x : A). P (f x)) xs
all_mapped P f [] h = tt
all_mapped P f (x ∷ xs) (h, hs) = (h, all_mapped P f xs hs)

-- of the element at an index
pub at_index : {A : Type 0} (P : A → Type 0) (xs : List A) (k : ℕ) (x : A) → AllByRecursion P xs → slice_get xs k ≡ Some x → P x
at_index P [] k x h is = absurd (let no : Rattle.std.proofs.Common.None ≡ Some x = is in cc)
at_index P (y ∷ ys) zero x (h, hs) is = let same : y ≡ x = (let e : Some y ≡ Some x = is in cc) in subst P same h
at_index P (y ∷ ys) (suc k) x (h, hs) is = at_index P ys k x hs is

module _ {D : Type 0} (tells : Bool) (state : D → State) (config : Config) (shared : Shared D) (m : Manager D) (b : ManagerBase) (notes : List Noted) (keeps : Keeps tells state m b notes)
    (base : IsConfiguredBase config shared b) where
  pub serves : (number : ℕ) → b.volume.began.owner ≡ number → IsVolumeOf state config number m
  serves number is = record {
    volume = base.volume;
    there = subst (λ (k : ℕ). slice_get config.volumes.items k ≡ Some base.volume) is base.there;
    loggers = all_mapped (λ (l : ℕ). l < length config.volumes.items) logger_of m.lanes.items
        (subst (λ (view : List ℕ). AllByRecursion (λ (l : ℕ). l < length config.volumes.items) view) (sym keeps.locks.view) base.view);
    home = sym base.home_blocks ∙ sym keeps.upholds.places.home_size;
    most = keeps.locks.most_ ∙ base.most;
  }

  -- a part that it keeps as down is told by the name of a configured volume
  pub known_part : (p : Part) → m.down ≡ Some p → IsAmong (length (printed_names config.volumes.items)) (trouble_of_part p)
  known_part (Home volume) is = tt
  known_part (Segment volume index) is =
      let failed = keeps.upholds.failed (SegmentPart volume index) (ap down_of is) in
      is_named config.volumes.items volume (at_index (λ (l : ℕ). l < length config.volumes.items) b.volume.began.view _ volume base.view failed.1.2)
