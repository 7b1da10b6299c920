-- The headline of a run over a bay, which is where the images are.
--
-- `start` and `now` are where the lines come from, before and after the run; `entry` and `exit`
-- what the images held then, `faults` and `faults'` how many calls had failed, `taken` and
-- `taken'` what was printed; `each` asks for the lines of reads.
use Rattle.std.specs.Prelude.{◌≡◌, ◌≢◌, ◌⊎◌, ◌++◌, ℕ, Bool, true, List, [], length, take, Option, Some, slice_get, IsTrue}
use Rattle.std.specs.Io.KnownBytes.{Appends}
use Rattle.wol_disk.specs.Disk.{Rose, State}
use Rattle.wol_io.specs.Streams.{AppendsFront}
use Rattle.wol_bay.specs.Bay.{BayState, Told}
use Rattle.wol_model.specs.Trace.{TraceLine, requests}
use Rattle.wol_promise.specs.Manager.{Base}
use Rattle.wol_promise.specs.Outcomes.{Answered, of_volume}
use Rattle.wol_promise.specs.Policy.{PartName}
use Rattle.wol_promise.specs.Run.{joined_lines}
use Rattle.run_laws.specs.Answers.{answered_count, requests_in}
use Rattle.run_laws.specs.Headline.{Headline}
use Rattle.wol_config.specs.declared.config.Config.{Config}
use Rattle.wol_config.specs.declared.config.VolumeConf.{VolumeConf}
use Rattle.manager.specs.declared.part.Part.TheVariants.{Home}
use Rattle.volume_images.specs.Left.{IsTold}
use Rattle.volume_images.specs.Volumes.{AreLeft, images_read, shapes_of}
use Rattle.rack.specs.Closes.{CameBackFaulty, HasFaultyPart}
use Rattle.rack.specs.Opens.{WasAccepted}
use Rattle.rack.specs.Owners.{IsBegun}
use Rattle.trace_gen.specs.Generated.{targets_of}
use Rattle.replay.specs.Givens.{HasGiven, HasGivenAll}
use Rattle.replay.specs.Histories.{line_of_read}
use Rattle.replay.specs.NotOpened.{LeavesBay}
use Rattle.replay.specs.Summed.{lines_asked}
use Rattle.replay.specs.declared.given.Given.{Given}
use Rattle.wol_config.specs.Configs.{most_of}

-- These lines were printed, and then some ending; at status 9 some first ones of them, each whole,
-- and at 7 a prefix of that. Which ending it is, the clause on what the command did says.
pub record ArePrinted (lines : List (List ℕ)) (status : ℕ) (taken taken' : Option (List ℕ))
    : Type 0 where
  pub count : ℕ
  pub ending : List ℕ
  pub all : status ≢ 7 → status ≢ 9 → take count lines ≡ lines
  pub whole : status ≢ 7 → Appends taken taken' (joined_lines (take count lines) ++ ending)
  pub front : AppendsFront taken taken' (joined_lines (take count lines) ++ ending)

-- the image of each volume was there, of its length, with its own label, and its view and the heads
-- of its segments were accepted
abbrev pub AreAllOpen : Config → (entry : Told) → Type 0
AreAllOpen config entry = (k : ℕ) (v : VolumeConf) → slice_get config.volumes.items k ≡ Some v
    → WasAccepted config entry k v

-- A call of a disk of volume v failed: the bay's count rose, and a part of the volume came back with
-- a fault, its home or a segment of a logger in the view with which it was opened. Of such a
-- segment a crash leaves only what says that it is the volume's or free, so it may be a free one
-- that another volume failed to claim.
pub record HasFailed (config : Config) (entry exit : Told) (faults faults' v : ℕ) : Type 0 where
  pub rose : Rose faults faults'
  pub base : Base
  pub owner : base.owner ≡ v
  pub begun : IsBegun config (images_read config entry) base
  pub name : PartName
  pub part : HasFaultyPart true config v base.view name entry exit

pub record MeetsHeadline {S : Type 0} (left : S → Option (List ℕ)) (config : Config) (each : Bool)
    (start now : Given S) (entry exit : Told) (faults faults' status : ℕ)
    (taken taken' : Option (List ℕ)) : Type 0 where
  -- all volumes were open
  pub open_ : AreAllOpen config entry
  -- some first lines of the trace were taken, and these are their requests, each with its outcome
  pub lines : List (Option TraceLine)
  pub given : (more : List (Option TraceLine))
      × HasGiven left (targets_of config) start now (lines ++ more)
  pub answers : List Answered
  pub asked : requests_in answers ≡ requests (most_of config) (targets_of config) lines
  -- at status 0 these are all that come, and each request was answered
  pub done : status ≡ 0 → HasGivenAll left (targets_of config) start now lines
      × ((v : ℕ) → answered_count answers v ≡ length (of_volume v (requests_in answers)))
  -- of these the headline holds; a home of which a call failed came back with a fault
  pub headline : Headline (shapes_of config) (images_read config entry) (AreLeft config entry)
      (AreLeft config exit) (HasFailed config entry exit faults faults')
      (λ v. CameBackFaulty config (Home v) entry exit) (line_of_read config) answers
  -- the lines of the answered reads were printed, where they are asked for
  pub printed : ArePrinted (lines_asked config each answers) status taken taken'

-- A run that took no line: its status isn't 0, and what is left recovers as it might have before.
pub record HasNotBegun {D S : Type 0} (tells : Bool) (state : D → State) (config : Config)
    (start now : Given S) (old new : BayState) (status : ℕ) (taken taken' : Option (List ℕ))
    : Type 0 where
  pub refused : status ≢ 0
  pub unread : now ≡ start
  pub none : ArePrinted [] status taken taken'
  pub left : LeavesBay tells state config old new

-- Each run took no line, or meets the headline, at each status, where the contract knows what disks
-- hold: `tells`. It does for disks in memory. What real files hold no contract can know: the code
-- is the same for both, and has no way to ask which it runs on.
abbrev pub KeepsHeadline : {D S : Type 0} → (tells : Bool) → (D → State) → (S → Option (List ℕ))
    → Config → (each : Bool) → (start now : Given S) → (old new : BayState) → (status : ℕ)
    → (taken taken' : Option (List ℕ)) → Type 0
KeepsHeadline tells state left config each start now old new status taken taken' =
    HasNotBegun tells state config start now old new status taken taken'
    ⊎ (IsTrue tells → IsTold (λ entry exit.
    MeetsHeadline left config each start now entry exit old.faults new.faults status taken taken')
    old.told new.told)
