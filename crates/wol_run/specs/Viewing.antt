-- What changing a view prints and leaves, and its exit status.
use Rattle.std.specs.Prelude.{◌≡◌, ◌≤◌, ℕ, ◌⊎◌, Bool, IsTrue, List, Option, None, Some, Result, Ok, Err}
use Rattle.wol_disk.specs.Disk.{State}
use Rattle.wol_bay.specs.Bay.{BayState, Told}
use Rattle.wol_config.specs.declared.config.Config.{Config}
use Rattle.report.specs.Faults.{fault_text, status_of}
use Rattle.report.specs.Names.{printed_names}
use Rattle.volume_images.specs.Left.{IsTold}
use Rattle.volume_images.specs.Volumes.{images_read}
use Rattle.rack.specs.Opens.{KeepsAllSound, KeepsOthers, LeavesAll}
use Rattle.command_words.specs.Table.{Named}
use Rattle.command_words.specs.Values.{named_by}
use Rattle.command_words.specs.declared.command.Command.{Command}
use Rattle.command_words.specs.declared.command.Command.TheVariants.{ViewAdd, ViewRemove}
use Rattle.view_change.specs.declared.answers.Change.{Change}
use Rattle.view_commands.specs.Orders.{AreNamed, change_of, refusal_text, unknown_word}
use Rattle.view_commands.specs.Runs.{ChangesView}
use Rattle.view_commands.specs.Views.{HasViewIn, MayNotChange}
use Rattle.view_commands.specs.declared.order.Order.{Order}
use Rattle.view_commands.specs.declared.order.Stop.{Stop}
use Rattle.view_commands.specs.declared.order.Stop.TheVariants as stop
use Rattle.view_commands.specs.declared.order.Verb.{Verb}
use Rattle.view_commands.specs.declared.order.Verb.TheVariants.{Add, Remove}
use Rattle.view_commands.specs.declared.order.ViewRefusal.{ViewRefusal}
use Rattle.wol_run.specs.Formatting.{IsNotBegun}
use Rattle.wol_run.specs.Tops.{EndsWith, TellsNoMemory}

-- the change of a view that a command makes; none of another command
abbrev pub view_change_by : Command → Option (Verb × Named)
view_change_by (ViewAdd names) = Some (Add, named_by names)
view_change_by (ViewRemove names) = Some (Remove, named_by names)
view_change_by command = None

-- the order to do so
pub record IsOrder (verb : Verb) (named : Named) (order : Order) : Type 0 where
  pub verb_is : order.verb ≡ verb
  pub volume : order.volume.now ≡ named.volume
  pub logger : order.logger.now ≡ named.logger

-- the view that the volume had at entry can't be changed so, for this
pub record RefusesView (config : Config) (volume : ℕ) (change : Change) (entry : Told)
    (refusal : ViewRefusal) : Type 0 where
  pub ids : List ℕ
  pub at_entry : HasViewIn (images_read config entry) volume ids
  pub cause : MayNotChange volume change ids refusal

-- why a change is refused: a word names no volume, or the view can't be changed so
abbrev pub RefusesChange : (tells : Bool) → Config → Order → (old new : BayState) → ViewRefusal
    → Type 0
RefusesChange tells config order old new refusal =
    (unknown_word config order ≡ Some refusal)
    ⊎ ((volume : ℕ) × (logger : ℕ) × AreNamed config order volume logger
    × (IsTrue tells → IsTold (λ entry left. RefusesView config volume (change_of order.verb logger)
    entry refusal) old.told new.told))

-- Behind what a change printed nothing more is written at its end and where the sink failed; else
-- the line of its fault or refusal, or, where there was no memory for that, the line of want of
-- memory.
abbrev pub EndsChange : {T : Type 0} → Config → Order → Result T Stop → (status : ℕ)
    → (printed new : Option (List ℕ)) → Type 0
EndsChange config order (Ok done) status printed new = (status ≡ 0) × (new ≡ printed)
EndsChange config order (Err stop.Sink) status printed new = (status ≡ 7) × (new ≡ printed)
EndsChange config order (Err (stop.Refused r)) status printed new =
    EndsWith (refusal_text order r) 15 status printed new
    ⊎ TellsNoMemory status printed new
EndsChange config order (Err (stop.Fault f)) status printed new =
    EndsWith (fault_text (printed_names config.volumes.items) f) (status_of f) status printed new
    ⊎ TellsNoMemory status printed new

-- the view of one of the configuration's volumes was to be changed
pub record IsViewChange {D : Type 0} (tells : Bool) (state : D → State) (verb : Verb)
    (named : Named) (config : Config) (old new : BayState) (sink sink' status : ℕ)
    (printed printed' : Option (List ℕ)) : Type 0 where
  pub order : Order
  pub is_order : IsOrder verb named order
  pub result : Result (Unit {0}) Stop
  -- the sink's count of faults then, which ends no lower
  pub sink_then : ℕ
  pub later : sink_then ≤ sink'
  pub printed_then : Option (List ℕ)
  -- each image that is left recovers to what an image at entry did, and sound images stay sound
  pub left_ : IsTrue tells → IsTold (LeavesAll tells state config old new) old.told new.told
  pub sound : IsTrue tells → IsTold (KeepsAllSound config) old.told new.told
  -- images of names that aren't configured are as they were
  pub others : IsTrue tells → IsTold (KeepsOthers config) old.told new.told
  pub changes : ChangesView tells state config order old new sink sink_then printed printed_then
      result
  pub ends : EndsChange config order result status printed_then printed'

-- a run of `view-add` or `view-remove`, by the configuration that was read (none: it wasn't had),
-- the bytes of its source and their count of faults, the bay, the sink's count of faults, the
-- status, and what the sink took
abbrev pub RunsViewChange : {D : Type 0} → (tells : Bool) → (D → State) → Verb → Named
    → (read : Option Config) → (left : Option (List ℕ)) → (faults faults' : ℕ)
    → (old new : BayState) → (sink sink' status : ℕ) → (printed printed' : Option (List ℕ))
    → Type 0
RunsViewChange tells state verb named (Some config) left faults faults' old new sink sink' status
    printed printed' =
    IsViewChange tells state verb named config old new sink sink' status printed printed'
RunsViewChange tells state verb named None left faults faults' old new sink sink' status printed
    printed' =
    IsNotBegun left faults faults' old new status printed printed'
