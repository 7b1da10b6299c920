-- A volume that stays ready over several turns.
use Rattle.std.proofs.Common.{ℕ, refl, ◌∙◌}
use Rattle.nbd_session.specs.Turns.{StaysReady}

module _ {V : Type 0} {can_take : V → Type 0} {home_of most_of : V → ℕ} where
  -- none so far
  pub stays : (v : V) → can_take v → StaysReady can_take home_of most_of v v
  stays v ready = record { ready = ready; same_home = refl; same_most = refl }

  -- some, and more of them
  pub stays_on : (u v w : V) → StaysReady can_take home_of most_of u v → StaysReady can_take home_of most_of v w → StaysReady can_take home_of most_of u w
  stays_on u v w before more = record { ready = more.ready; same_home = more.same_home ∙ before.same_home; same_most = more.same_most ∙ before.same_most }
