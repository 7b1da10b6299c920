-- The work with a rack was answered: what the change of the view comes to then.
use Rattle.std.proofs.Common.{◌≡◌, ◌<◌, ◌≤◌, ℕ, Bool, List, length, Some, Result, Ok, Err, refl, sym, ◌∙◌, subst, arith}
use Rattle.std.specs.Prelude.{slice_get, IsTrue}
use Rattle.std.proofs.lemmas.Option.{slice_get_within}
use Rattle.wol_disk.specs.Disk.{State}
use Rattle.wol_bay.specs.Bay.{BayState}
use Rattle.wol_config.specs.Configs.{IsValid}
use Rattle.wol_config.specs.declared.config.Config.{Config}
use Rattle.wol_config.specs.declared.config.VolumeConf.{VolumeConf}
use Rattle.wol_model.specs.Images.{segment_of}
use Rattle.wol_model.specs.Log.{IsLog}
use Rattle.report.specs.declared.fault.Fault.{Fault}
use Rattle.spin_model.specs.Spindles.{SpindleView}
use Rattle.volume_images.specs.Left.{IsTold}
use Rattle.volume_images.specs.Volumes.{shapes_of}
use Rattle.rack.specs.Closes.{LeavesNoLog}
use Rattle.rack.specs.Opens.{HasFaulty, KeepsAllSound, KeepsOthers, LeavesAll}
use Rattle.rack_parts.specs.declared.rack.Rack.{Rack}
use Rattle.rack.specs.Sessions.{KeepsArrays, OpensAndCloses}
use Rattle.inspection.specs.Racks.{IsSameRack}
use Rattle.inspection.specs.Runs.{MayComplete}
use Rattle.inspection.proofs.Unhelped.{there_is}
use Rattle.view_change.specs.Changes.{id_of}
use Rattle.view_change.specs.declared.answers.Change.{Change}
use Rattle.view_change.specs.declared.answers.Change.TheVariants.{Add, Remove}
use Rattle.view_commands.specs.Drains.{AllOpen, IsDrained, TellsChange, TellsRack}
use Rattle.view_commands.specs.Drains as drains
use Rattle.view_commands.specs.Images.{ChangesImage, ChangesInBay}
use Rattle.view_commands.specs.Orders.{IsOfWords}
use Rattle.view_commands.specs.Runs.{ChangesVolume, Completes}
use Rattle.view_commands.specs.Views.{LeavesThere}
use Rattle.view_commands.specs.declared.order.Stop.{Stop}
use Rattle.view_commands.specs.declared.order.Stop.TheVariants as stop
use Rattle.view_commands.specs.declared.order.ViewRefusal.{ViewRefusal}
use Rattle.view_commands.proofs.Changed.{HasNoLog, IsAddition}
use Rattle.view_commands.proofs.Emptied.{ends, lists_none, unbroken}
use Rattle.view_commands.proofs.Sessions.{outs_after, told_by, told_since}
use Rattle.view_commands.proofs.Whole.{WereAccepted, all_through, changed_completes, changed_open, ended_completes, ended_of, leaves_all, left_of, sound_gone_through, sound_through, told_then}

module _ (config : Config) (valid : IsValid config) (volume : ℕ) (within : volume < length config.volumes.items) (asked : Change) (fits : id_of asked < length config.volumes.items) {D : Type 0} (tells : Bool) (state : D → State) (old mid : BayState)
    (spindles : List SpindleView) (answer : Result (Unit {0}) Fault) (session : OpensAndCloses tells state config (λ before after. TellsRack tells state asked volume before after answer) old mid spindles) where
  v : VolumeConf
  v = (there_is config.volumes.items volume within).0

  conf : slice_get config.volumes.items volume ≡ Some v
  unfolding v
  conf = (there_is config.volumes.items volume within).1

  -- ---- It was refused

  module _ (f : Fault) (is : answer ≡ Err f) where
    refused : OpensAndCloses tells state config (λ before after. TellsRack tells state asked volume before after (Err f)) old mid spindles
    refused = subst (λ (a : Result (Unit {0}) Fault). OpensAndCloses tells state config (λ before after. TellsRack tells state asked volume before after a) old mid spindles) is session

    pub refused_content : (IsTrue tells → IsTold (KeepsAllSound config) old.told mid.told) → ChangesVolume tells state config volume asked old mid (Err (stop.Fault f))
    refused_content sound = ended_of config valid volume v conf asked fits tells state old mid spindles f refused sound

    pub refused_left : IsTrue tells → IsTold (LeavesAll tells state config old mid) old.told mid.told
    refused_left = left_of config valid volume v conf asked fits tells state old mid spindles f refused

    pub refused_complete : MayComplete tells config old mid 0 0 → Completes {T = List ℕ} (Err (stop.Fault f))
    refused_complete m = ended_completes config valid volume v conf asked fits tells state old mid spindles f refused m

  -- ---- It was done

  -- all were open, and no station but its worker's pass is another
  record IsDone : Type 0 where
    all_open : AllOpen session.before.faults.items
    same : IsSameRack session.before session.after

  module _ (is : answer ≡ Ok tt) (new : BayState) (result : Result (List ℕ) Stop)
      (changes : (w : VolumeConf) → slice_get config.volumes.items volume ≡ Some w → ChangesInBay tells config volume w asked mid new result) where
    is_done : IsDone
    is_done = go answer is session.done
      where
        go : (a : Result (Unit {0}) Fault) → a ≡ Ok tt → TellsRack tells state asked volume session.before session.after a → IsDone
        go a said (drains.closed fault tells_closed same told) = absurd (cc (sym told ∙ said))
        go a said (drains.open_ all_open same tells_change) = record { all_open = all_open; same = same }

    abbrev did : Rack D → Rack D → Type 0
    did = λ before after. TellsRack tells state asked volume before after answer

    later : old.faults ≤ mid.faults
    later = let first = session.sooner in let second = session.later in omega (arith, first, second)

    pub done_content : ((r : ViewRefusal) → result ≡ Err (stop.Refused r) → IsOfWords r → ⊥) → ChangesVolume tells state config volume asked old new result
    done_content known = changed_open config valid volume v conf asked fits tells state did old mid spindles session is_done.all_open is_done.same new result (changes v conf) later known

    pub done_left : IsTrue tells → IsTold (LeavesAll tells state config old new) old.told new.told
    done_left telling =
        told_by (λ x y. KeepsArrays config x y × LeavesThere config y × WereAccepted config x) (LeavesAll tells state config old new) (λ entry left is. leaves_all tells state config old new entry left is.0 is.1 is.2) old.told new.told
        (all_through config valid volume v conf asked fits tells state did old mid spindles session is_done.all_open is_done.same new result (changes v conf) later telling)

    pub done_others : IsTold (KeepsOthers config) old.told mid.told → IsTrue tells → IsTold (KeepsOthers config) old.told new.told
    done_others others telling =
        told_then (KeepsOthers config) (ChangesImage v.name volume asked result) (KeepsOthers config) (λ x y z one two name differs. two.others name (differs volume v conf) ∙ one name differs) old.told mid.told new.told others
        ((changes v conf).left telling)

    -- behind a drain no log of the volume is left
    no_log : (counts : ℕ × ℕ) → IsDrained tells state session.before session.after volume (Ok counts) → IsTrue tells → IsTold (λ x y. HasNoLog config volume y) old.told mid.told
    no_log counts drained telling =
        told_since HasFaulty (HasNoLog config volume) old.told session.bay.told mid.told session.opened.faulty
        (told_by (λ x y. LeavesNoLog config session.after.rest.images.items drained.station.id y) (λ x y. HasNoLog config volume y)
        (λ x y none images is_left k i s c rs at here lt lies.
        none images is_left k i s c rs at (outs_after tells state config did old mid spindles session is_done.all_open is_done.same k (slice_get_within (shapes_of config) k s at)) here lt
        (subst (λ (n : ℕ). IsLog (segment_of s c i) n rs) (sym drained.is_station.id) lies))
        session.bay.told mid.told
        ((ends tells state config did old mid spindles session volume (Ok counts) drained).emptied telling (unbroken tells state config did old mid spindles session volume counts drained) (lists_none tells state config did old mid spindles session volume counts drained)))

    pub done_sound : (IsTrue tells → IsTold (KeepsAllSound config) old.told mid.told) → IsTrue tells → IsTold (KeepsAllSound config) old.told new.told
    done_sound sound = go answer is session.done
      where
        go : (a : Result (Unit {0}) Fault) → a ≡ Ok tt → TellsRack tells state asked volume session.before session.after a → IsTrue tells → IsTold (KeepsAllSound config) old.told new.told
        go a said (drains.closed fault tells_closed same told) = absurd (cc (sym told ∙ said))
        go a said (drains.open_ all_open same tells_change) = by asked refl tells_change
          where
            by : (c : Change) → asked ≡ c → TellsChange tells state c volume session.before session.after a → IsTrue tells → IsTold (KeepsAllSound config) old.told new.told
            by (Add logger) is_add told =
                sound_through config valid volume v conf asked fits tells state did old mid spindles session is_done.all_open is_done.same new result (changes v conf) later (subst IsAddition (sym is_add) tt) sound
            by (Remove logger) is_gone (drains.done counts drained told) =
                sound_gone_through config valid volume v conf asked fits tells state did old mid spindles session is_done.all_open is_done.same new result (changes v conf) later (no_log counts drained) sound
            by (Remove logger) is_gone (drains.refused fault drained told) = absurd (cc (sym told ∙ said))
            by (Remove logger) is_gone (drains.no_memory unchanged told) = absurd (cc (sym told ∙ said))

    pub done_complete : (result ≡ Err stop.Sink → ⊥) → mid.faults ≤ new.faults → MayComplete tells config old new 0 0 → Completes result
    done_complete no_sink behind m = changed_completes config valid volume v conf asked fits tells state did old mid spindles session is_done.all_open is_done.same new result (changes v conf) later no_sink behind m
