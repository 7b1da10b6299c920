-- Labels and views behind a session, whatever was done with its rack.
use Rattle.std.proofs.Common.{◌<◌, ℕ, Bool, List, length}
use Rattle.std.specs.Prelude.{IsTrue}
use Rattle.wol_disk.specs.Disk.{State}
use Rattle.wol_bay.specs.Bay.{BayState, Told}
use Rattle.wol_config.specs.declared.config.Config.{Config}
use Rattle.spin_model.specs.Spindles.{SpindleView}
use Rattle.volume_images.specs.Left.{IsTold}
use Rattle.rack.specs.Opens.{KeepsViews, LeavesFronts}
use Rattle.rack.specs.Owners.{HadRefused}
use Rattle.rack.specs.Rests.{IsImageOut}
use Rattle.rack_parts.specs.declared.rack.Rack.{Rack}
use Rattle.rack.proofs.NewFaults.{told_each, told_with}
use Rattle.rack.proofs.Places.{some_at}
use Rattle.rack.proofs.ViewsLeft.{front_left, told_left, views_left}
use Rattle.rack.specs.Sessions.{OpensAndCloses}
use Rattle.rack.proofs.RacksAgain.{rest_again}

module _ {D : Type 0} (tells : Bool) (state : D → State) (config : Config) (did : Rack D → Rack D → Type 0) (old new : BayState) (spindles : List SpindleView) (session : OpensAndCloses tells state config did old new spindles) where
  abbrev Had : Told → Told → Type 0
  Had = HadRefused config session.before.rest.images.items

  -- none was changed
  pub views_kept : IsTrue tells → IsTold (KeepsViews config) old.told new.told
  views_kept telling =
      told_each (λ x y. (Had x y → KeepsViews config x y) × Had x y) (KeepsViews config) old.told new.told (λ x y both. both.0 both.1)
      (told_with (λ x y. Had x y → KeepsViews config x y) Had old.told new.told
      (told_left state config session.before session.after (λ x y. Had x y → KeepsViews config x y) old.told session.bay.told new.told
      (λ entry left began were parts. views_left state config session.before session.after (rest_again state config session.before session.after session.again) entry left began were parts)
      (session.opened.began telling) (session.opened.there telling) session.opened.faulty (session.closed.parts telling)) (session.kept telling))

  -- where all images were out, each is as it was read
  pub fronts_kept : ((k : ℕ) → k < length config.volumes.items → IsImageOut session.before.rest.images.items k) → IsTrue tells → IsTold (LeavesFronts config) old.told new.told
  fronts_kept all_out telling =
      told_left state config session.before session.after (LeavesFronts config) old.told session.bay.told new.told
      (λ entry left began were parts v lt. let (conf, at) = some_at config.volumes.items v lt in
      front_left state config session.before session.after (rest_again state config session.before session.after session.again) entry left began were parts v conf at (all_out v lt))
      (session.opened.began telling) (session.opened.there telling) session.opened.faulty (session.closed.parts telling)
