-- Why the program ended with its status: a row for each, in the order of their numbers. `read` is
-- the configuration that was read, where one was.
use Rattle.std.specs.Prelude.{◌≡◌, ◌≢◌, ◌≤◌, ◌<◌, ◌⊎◌, ◌+◌, ◌^◌, ◌++◌, ℕ, Bool, true, List, Option, None, Some, IfSome, IsTrue, ⊤, [], length, slice_get}
use Rattle.std.specs.Io.KnownBytes.{IsAtEnd}
use Rattle.wol_disk.specs.Disk.{Rose, State}
use Rattle.wol_model.specs.Trace.{TraceLine, requests}
use Rattle.wol_promise.specs.Manager.{Base}
use Rattle.wol_config.specs.Documents.{names_of, number_named}
use Rattle.wol_config.specs.declared.config.Config.{Config}
use Rattle.wol_config.specs.declared.config.VolumeConf.{VolumeConf}
use Rattle.volume_images.specs.Left.{IsTold}
use Rattle.volume_images.specs.Volumes.{images_read}
use Rattle.rack.specs.Closes.{is_kept_home}
use Rattle.rack.specs.Missing.{HasSegmentOf, NamesInView}
use Rattle.rack.specs.Opens.{RefusesVolume, WasAccepted, WereThere}
use Rattle.rack.specs.Owners.{IsBegun, WasOpened}
use Rattle.rack.specs.Rests.{image_here}
use Rattle.rack_parts.specs.declared.rack.ImageRest.{ImageRest}
use Rattle.rack_parts.specs.declared.volume_fault.VolumeFault.{VolumeFault}
use Rattle.rack_parts.specs.declared.volume_fault.VolumeFault.TheVariants.{Absent}
use Rattle.report.specs.Troubles.{trouble_status}
use Rattle.report.specs.declared.trouble.Trouble.{Trouble}
use Rattle.rack.specs.Troubles.{trouble_of}
use Rattle.trace_gen.specs.Generated.{targets_of}
use Rattle.replay.specs.Completes.{writes_to}
use Rattle.replay.specs.Givens.{HasGiven}
use Rattle.replay.specs.declared.session.Options.{Options as Serving}
use Rattle.cleaning.specs.Runs.{LacksVersions}
use Rattle.command_words.specs.Commands.{IsCommand, NoCommand}
use Rattle.command_words.specs.Table.{Named}
use Rattle.command_words.specs.Values.{missing_by}
use Rattle.command_words.specs.declared.command.Command.{Command}
use Rattle.command_words.specs.declared.command.MissingName.{MissingName}
use Rattle.command_words.specs.declared.command.Command.TheVariants.{Clean, FormatMissing, Replay, Soak}
use Rattle.nbd_serving.specs.declared.serving.Beginning.{Beginning}
use Rattle.view_commands.specs.Views.{IsDamagedIn}
use Rattle.view_commands.specs.declared.order.Order.{Order}
use Rattle.view_commands.specs.declared.order.Verb.{Verb}
use Rattle.view_commands.specs.declared.order.ViewRefusal.{ViewRefusal}
use Rattle.wol_run.specs.Commands.{changes_view, runs_trace, uses_bay, uses_config}
use Rattle.wol_run.specs.Outside.{Outside}
use Rattle.wol_run.specs.Replaying.{GivenLines, HasLeft, lines_of, options_as, trace_of}
use Rattle.wol_run.specs.Serving.{HasBadBytes, served_as}
use Rattle.wol_run.specs.Settings.{HasNoConfig}
use Rattle.wol_run.specs.Tops.{HasBadLine, HasMoreLines}
use Rattle.wol_run.specs.Viewing.{IsOrder, RefusesChange, view_change_by}
use Rattle.wol_config.specs.Configs.{most_of}

-- the words ask for a command that uses this
pub record AskFor (words : List (List ℕ)) (uses : Command → Bool) : Type 0 where
  pub command : Command
  pub is : IsCommand words command
  pub does : uses command ≡ true

-- The first volume of the configuration that isn't open was refused for a cause of this status.
-- Those before it were opened, of their own images and of those of the loggers of their views; an
-- image that is out was there and may be opened, and each other one was refused.
pub record IsClosedFor {D : Type 0} (tells : Bool) (state : D → State) (read : Option Config)
    (before after : Outside) (status : ℕ) : Type 0 where
  pub config : Config
  pub is_read : read ≡ Some config
  pub volume : ℕ
  pub conf : VolumeConf
  pub conf_is : slice_get config.volumes.items volume ≡ Some conf
  pub out : List (Option (ImageRest D))
  pub missing : (j : ℕ) (v : VolumeConf) → slice_get config.volumes.items j ≡ Some v
      → image_here out j ≡ None
      → (f : VolumeFault) × RefusesVolume tells state config out before.bay after.bay j v f
  pub there : IsTrue tells
      → IfSome before.bay.told (λ t. WereThere config out t)
  pub fault : VolumeFault
  pub refused : RefusesVolume tells state config out before.bay after.bay volume conf fault
  pub status_is : trouble_status (trouble_of fault) ≡ status
  pub first : (j : ℕ) → j < volume → IsTrue tells
      → IfSome before.bay.told (λ images. WasOpened config (is_kept_home out) images j)

-- how a command replays lines on the volumes, and which; none of another command
abbrev pub replayed_by : Command → (trace : Option (List ℕ)) → Option (Serving × GivenLines)
replayed_by (Replay options) trace = Some (options_as options, trace_of trace)
replayed_by (Soak asked options) trace = Some (options_as options, lines_of asked)
replayed_by command trace = None

-- A volume had no version left for a write: the next one at opening, and a number below that of the
-- writes that some first lines ask of it, come to 2^63 or more. These are the lines that were read,
-- but for one at most.
pub record HasNoVersion (tells : Bool) (read : Option Config) (words : List (List ℕ))
    (before after : Outside) : Type 0 where
  pub config : Config
  pub is_read : read ≡ Some config
  pub command : Command
  pub is : IsCommand words command
  pub how : Serving
  pub start : GivenLines
  pub replays : replayed_by command before.trace.bytes ≡ Some (how, start)
  pub now : GivenLines
  pub lines : List (Option TraceLine)
  pub more : List (Option TraceLine)
  pub given : HasGiven (λ bytes. bytes) (targets_of config) start now (lines ++ more)
  pub rest : HasLeft now after.trace.bytes
  pub ahead : length more ≤ 1
  pub base : Base
  pub begun : IsTrue tells
      → IsTold (λ entry exit. IsBegun config (images_read config entry) base)
      before.bay.told after.bay.told
  pub logged : ℕ
  pub few : logged < writes_to base.owner (requests (most_of config) (targets_of config) lines)
  pub spent : 2 ^ 63 ≤ base.next + logged

-- A volume had no version left for a copy: the next one at opening, and the number of chunks of
-- what lies in its logs, come to more than 2^63.
pub record HasNoVersionToCopy (tells : Bool) (read : Option Config) (before after : Outside) :
    Type 0 where
  pub config : Config
  pub is_read : read ≡ Some config
  pub base : Base
  pub begun : IsTrue tells
      → IsTold (λ entry exit. IsBegun config (images_read config entry) base)
      before.bay.told after.bay.told
  pub lacks : LacksVersions (most_of config) base

-- A view was to be changed, and that is refused: a word names no volume, or the view can't be
-- changed so.
pub record HasRefusal (tells : Bool) (read : Option Config) (words : List (List ℕ))
    (before after : Outside) : Type 0 where
  pub config : Config
  pub is_read : read ≡ Some config
  pub command : Command
  pub is : IsCommand words command
  pub verb : Verb
  pub named : Named
  pub changes : view_change_by command ≡ Some (verb, named)
  pub order : Order
  pub is_order : IsOrder verb named order
  pub refusal : ViewRefusal
  pub cause : RefusesChange tells config order before.bay after.bay refusal

-- the volume that is to be served isn't configured
pub record HasUnknownVolume (read : Option Config) (words : List (List ℕ)) : Type 0 where
  pub config : Config
  pub is_read : read ≡ Some config
  pub command : Command
  pub is : IsCommand words command
  pub begins : Beginning
  pub name : List ℕ
  pub serves : served_as command ≡ Some (begins, name)
  pub unknown : number_named (names_of config.volumes.items) name ≡ None

-- a volume was to be served, and what the client sent is no handshake or no requests
pub record HasBadClient (words : List (List ℕ)) (before after : Outside) : Type 0 where
  pub command : Command
  pub is : IsCommand words command
  pub begins : Beginning
  pub name : List ℕ
  pub serves : served_as command ≡ Some (begins, name)
  pub bad : HasBadBytes begins before.trace.bytes after.trace.bytes

-- The image of one volume of the configuration was to be made: no volume has the name, or it is volume
-- `id`, and this is so of it.
pub record AsksMissing (read : Option Config) (words : List (List ℕ))
    (IsSo : Config → (id : Option ℕ) → Type 0) : Type 0 where
  pub config : Config
  pub is_read : read ≡ Some config
  pub missing : MissingName
  pub is : IsCommand words (FormatMissing missing)
  pub so : IsSo config (number_named (names_of config.volumes.items) (missing_by missing))

-- an image that can't be made, since the volume has one, or since another names it in its view or has
-- a segment of its log; or since no volume has the name
abbrev pub MayNotMake : (tells : Bool) → (before after : Outside) → Config → Option ℕ → Type 0
MayNotMake tells before after config None = ⊤
MayNotMake tells before after config (Some id) =
    (k : ℕ) × (v : VolumeConf) × (slice_get config.volumes.items k ≡ Some v)
    × (IsTrue tells → IfSome before.bay.told (λ t. ((k ≡ id) × WasAccepted config t id v)
    ⊎ ((k ≢ id) × NamesInView config t id k v)
    ⊎ ((k ≢ id) × (index : ℕ) × HasSegmentOf config t id k v index)))

-- an image that can't be made, since that of this volume was refused for a cause of this status
abbrev pub MayNotRead : {D : Type 0} → (tells : Bool) → (D → State) → (before after : Outside)
    → (status : ℕ) → Config → Option ℕ → Type 0
MayNotRead tells state before after status config None = ⊥
MayNotRead {D} tells state before after status config (Some id) =
    (k : ℕ) × (v : VolumeConf) × (f : VolumeFault) × (slice_get config.volumes.items k ≡ Some v)
    × (k ≡ id → f ≢ Absent) × RefusesVolume {D = D} tells state config [] before.bay after.bay k v f
    × (trouble_status (trouble_of f) ≡ status)

-- A block of the label and view of a volume is damaged, as its image reads.
pub record HasDamagedView (tells : Bool) (read : Option Config) (before after : Outside) :
    Type 0 where
  pub config : Config
  pub is_read : read ≡ Some config
  pub volume : ℕ
  pub block : ℕ
  pub damaged : IsTrue tells
      → IsTold (λ entry left. IsDamagedIn (images_read config entry) volume block)
      before.bay.told after.bay.told

module _ {D : Type 0} (tells : Bool) (state : D → State) (read : Option Config)
    (words : List (List ℕ)) (before after : Outside) where
  pub data IsCause : (status : ℕ) → Type 0 where
    -- 0: the command was done; a trace whose lines it runs was read to its end
    done : (command : Command) → IsCommand words command
        → (AskFor words runs_trace → IsAtEnd after.trace.bytes) → IsCause 0
    -- 1: the words ask for no command
    no_command : NoCommand words → IsCause 1
    -- 2: the configuration is needed, and its bytes are none
    no_config : AskFor words uses_config → HasNoConfig before.config.bytes → IsCause 2
    -- 3: a line is no line of a trace
    bad_line : AskFor words runs_trace → HasBadLine before.trace.bytes → IsCause 3
    -- 4: a call of the bay or of a part of an image failed
    part_failed : AskFor words uses_bay → Rose before.bay.faults after.bay.faults → IsCause 4
    -- 5: an image has another length or label, is damaged, has a record twice, or has a segment of
    -- a volume whose view doesn't name it
    image : AskFor words uses_config → IsClosedFor tells state read before after 5 → IsCause 5
    -- 6: a view names a logger that isn't configured or whose image was refused
    no_logger : AskFor words uses_config → IsClosedFor tells state read before after 6 → IsCause 6
    -- 7: a call of the sink failed
    sink_failed : Rose before.sink.faults after.sink.faults → IsCause 7
    -- 8: a call of the source of the configuration or of the trace failed
    source_failed : Rose before.config.faults after.config.faults
        ⊎ Rose before.trace.faults after.trace.faults → IsCause 8
    -- 9: there was no memory
    no_memory : IsCause 9
    -- 10: there are more than 2^32 lines
    more_lines : AskFor words runs_trace → HasMoreLines before.trace.bytes → IsCause 10
    -- 11: a volume had no version left for a write
    no_version : AskFor words uses_config → HasNoVersion tells read words before after
        → IsCause 11
    -- 11 too: a volume had no version left for a copy
    no_version_to_copy : IsCommand words Clean → HasNoVersionToCopy tells read before after
        → IsCause 11
    -- 12: the bay has no image of a volume's name
    no_image : AskFor words uses_config → IsClosedFor tells state read before after 12
        → IsCause 12
    -- 14: a client's bytes are no handshake or no requests
    bad_client : HasBadClient words before after → IsCause 14
    -- 15: a word is no volume's name, or the view of the volume can't be changed so
    view_refused : HasRefusal tells read words before after → IsCause 15
    -- 15 too: the volume that is to be served isn't configured
    unknown_volume : HasUnknownVolume read words → IsCause 15
    -- 15 too: the image that is to be made is there, or a log of the volume, or no volume has the name
    not_made : AsksMissing read words (MayNotMake tells before after) → IsCause 15
    -- 5 too: before an image is made, another one, or its own that is there, is refused
    not_sound : AsksMissing read words (MayNotRead tells state before after 5) → IsCause 5
    -- 12 too: .. another one isn't there
    not_there : AsksMissing read words (MayNotRead tells state before after 12) → IsCause 12
    -- 5 too: the label or the view of a volume whose view is to be changed is damaged
    damaged_view : AskFor words changes_view → HasDamagedView tells read before after → IsCause 5
    -- 5, 6 and 12 too: the image of a volume whose view is to be changed is another as it is handed
    -- out again, which a bay that tells its images never does
    image_again : AskFor words changes_view → (t : Trouble) → trouble_status t ≢ 4
        → (IsTrue tells → IsTold (λ entry left. ⊥) before.bay.told after.bay.told)
        → IsCause (trouble_status t)
