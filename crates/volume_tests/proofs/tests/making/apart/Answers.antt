use Rattle.std.proofs.Common.{sym, ap, subst, ◌∙◌}
use Rattle.volume_tests.specs.Locked.{HasOnePass, HasTwoPasses}
use Rattle.volume_tests.proofs.Steps.{sole_lane, home_lock, logger_lock, pool_lock}
use Rattle.volume_tests.proofs.tests.making.apart.Goals as goal

pub sole-requires : goal.sole-requires
sole-requires g c = let lane = sole_lane c.args.rig c.requires in (lane.0, ap (λ (v : _). v.items) c.release-home.ensures.lanes ∙ lane.1)

pub kept_sums-requires : goal.kept_sums-requires
kept_sums-requires g c = subst (HasTwoPasses c.both-home_lock.result.0 c.args.rig.keeper) (sym c.release-home.ensures.spindle) (home_lock c.args.rig c.requires c.both-home_lock.result.0 c.both-home_lock.result.1 c.both-home_lock.ensures)

pub sums_of-requires : goal.sums_of-requires
sums_of-requires g c =
    let sole = sym (ap (λ (v : _). v.items) c.release-home.ensures.lanes) ∙ c.sole.ensures in
    subst (HasOnePass c.both-home_lock.result.1) (sym c.release-held.ensures.spindle)
    (logger_lock c.args.rig c.requires c.sole.result sole c.both-home_lock.result.0 c.both-home_lock.result.1 c.both-home_lock.ensures)

pub unlocked-pool-requires : goal.unlocked-pool-requires
unlocked-pool-requires g c =
    let sole = sym (ap (λ (v : _). v.items) c.release-home.ensures.lanes) ∙ c.sole.ensures in
    subst (HasOnePass c.both-own_pool_lock.result.1) (sym c.release-held.ensures.pool)
    (pool_lock c.args.rig c.requires c.sole.result sole c.both-own_pool_lock.result.0 c.both-own_pool_lock.result.1 c.both-own_pool_lock.ensures)
