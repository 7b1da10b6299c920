-- When a run has to come to its end.
use Rattle.std.specs.Prelude.{◌≡◌, ◌⊎◌, ◌≤◌, ◌^◌, ◌+◌, ◌++◌, ℕ, Bool, List, Option, Result, Err, IsOk}
use Rattle.wol_bay.specs.Bay.{BayState}
use Rattle.wol_model.specs.Trace.{Request, TraceLine, requests, write_count}
use Rattle.wol_promise.specs.Manager.{Base}
use Rattle.wol_promise.specs.Outcomes.{of_volume}
use Rattle.wol_config.specs.declared.config.Config.{Config}
use Rattle.volume_images.specs.Volumes.{images_read}
use Rattle.rack.specs.Owners.{IsBegun}
use Rattle.rack.specs.Sessions as session
use Rattle.report.specs.declared.fault.Fault.TheVariants.{Memory}
use Rattle.trace_gen.specs.Generated.{targets_of}
use Rattle.replay.specs.Givens.{HasGiven, MayGiveAll}
use Rattle.replay.specs.declared.given.Given.{Given}
use Rattle.replay.specs.declared.stop.Stop.{Stop}
use Rattle.replay.specs.declared.stop.Stop.TheVariants as stop
use Rattle.wol_config.specs.Configs.{most_of}

-- how many of these requests are writes to volume v
abbrev pub writes_to : (v : ℕ) → List Request → ℕ
writes_to v rs = write_count (of_volume v rs)

-- Nothing stands in the way of a run: the images at entry are sound as they read; no call failed;
-- no line is bad or one too many; and each volume has versions for its writes.
pub record MayComplete {S : Type 0} (tells : Bool) (left : S → Option (List ℕ)) (config : Config)
    (start now : Given S) (old new : BayState) (sink sink' source source' : ℕ) : Type 0 where
  pub opens : session.MayComplete tells config old new sink sink'
  pub open opens use *
  pub gives : MayGiveAll left start now source source'
  pub open gives use *
  pub versions : (b : Base) → IsBegun config (images_read config entry) b
      → (run more : List (Option TraceLine))
      → HasGiven left (targets_of config) start now (run ++ more)
      → b.next + writes_to b.owner (requests (most_of config) (targets_of config) run) ≤ 2 ^ 63

-- it came to its end, or there was no memory
abbrev pub Completes : {T : Type 0} → Result T Stop → Type 0
Completes result = IsOk result ⊎ (result ≡ Err (stop.Fault Memory))
