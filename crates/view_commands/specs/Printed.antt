-- What is printed of a view that was changed.
use Rattle.std.specs.Prelude.{◌≡◌, ℕ, List, Option, Result, Ok, Err}
use Rattle.std.specs.Io.KnownBytes.{Appends}
use Rattle.wol_disk.specs.Disk.{Rose}
use Rattle.wol_io.specs.Streams.{AppendsFront}
use Rattle.wol_config.specs.declared.config.Config.{Config}
use Rattle.view_commands.specs.Orders.{view_text}
use Rattle.view_commands.specs.declared.order.Stop.{Stop}
use Rattle.view_commands.specs.declared.order.Stop.TheVariants as stop

-- nothing was printed, and the sink didn't fail
abbrev pub PrintsNothing : (faults faults' : ℕ) → (printed printed' : Option (List ℕ)) → Type 0
PrintsNothing faults faults' printed printed' = (faults' ≡ faults) × (printed' ≡ printed)

-- the line of this view of the volume, or a front of it where the sink failed; nothing where the
-- view wasn't changed
abbrev pub PrintsView : Config → (volume : ℕ) → (view : List ℕ) → Result (Unit {0}) Stop
    → (faults faults' : ℕ) → (printed printed' : Option (List ℕ)) → Type 0
PrintsView config volume view (Ok done) faults faults' printed printed' =
    (faults' ≡ faults) × Appends printed printed' (view_text config volume view)
PrintsView config volume view (Err stop.Sink) faults faults' printed printed' =
    Rose faults faults' × AppendsFront printed printed' (view_text config volume view)
PrintsView config volume view (Err (stop.Fault fault)) faults faults' printed printed' =
    PrintsNothing faults faults' printed printed'
PrintsView config volume view (Err (stop.Refused refusal)) faults faults' printed printed' =
    PrintsNothing faults faults' printed printed'
