-- A group of records is given up, or none may go.
use Rattle.std.proofs.Common.{ℕ, refl, sym, ◌∙◌}
use Rattle.manager.proofs.Calm.{none_home}
use Rattle.manager.specs.Reclaim.{Always}
use Rattle.manager.specs.Seen.{look_of_manager}
use Rattle.manager.proofs.ReadThrough.{never_some}
use Rattle.wol_promise.specs.Policy.{none}
use Rattle.reclaimer.proofs.Moments.{within, at_rest, tried_within}
use Rattle.reclaimer.proofs.Reach.{within_own}
use Rattle.reclaimer.proofs.TakenOff.{nothing_taken}
use Rattle.reclaimer.proofs.give_up.give_up_group.Goals as goal

pub returns-in-Some-clause-any_moment : goal.returns-in-Some-clause-any_moment
returns-in-Some-clause-any_moment g c told = at_rest g.D.Disk.tells g.D.Disk.state g.met.D.Disk.sound Always told c.args.m.now

pub returns-in-Some-clause-counted : goal.returns-in-Some-clause-counted
returns-in-Some-clause-counted g c = nothing_taken (look_of_manager c.args.m.now) (look_of_manager c.args.m.now) refl

pub going-requires : goal.going-requires
going-requires g c = within_own g.D.Disk.state c.args.m.now c.requires.ready (sym c.down.ensures ∙ never_some c.down.result c.in_default.not-Some) c.index.result.now c.index.ensures c.ups.result.now c.ups.ensures

pub returns-in_default-going-clause-calm : goal.returns-in_default-going-clause-calm
returns-in_default-going-clause-calm g c = none_home g.D.Disk.state c.args.m.now c.args.m.now c.requires.ready refl refl

pub returns-in_default-going-clause-look : goal.returns-in_default-going-clause-look
returns-in_default-going-clause-look g c = none (look_of_manager c.args.m.now)

pub returns-in_default-going-clause-counted : goal.returns-in_default-going-clause-counted
returns-in_default-going-clause-counted g c = nothing_taken (look_of_manager c.args.m.now) (look_of_manager c.args.m.now) refl

pub returns-in_default-going-clause-any_moment : goal.returns-in_default-going-clause-any_moment
returns-in_default-going-clause-any_moment g c told = at_rest g.D.Disk.tells g.D.Disk.state g.met.D.Disk.sound Always told c.args.m.now

pub returns-in-Ok-clause-any_moment : goal.returns-in-Ok-clause-any_moment
returns-in-Ok-clause-any_moment g c told = within g.D.Disk.tells g.D.Disk.state g.met.D.Disk.sound Always c.args.m.now c.give_first.new.m (c.in-Ok.ensures.any_moment told)

pub returns-in-Err-clause-any_moment : goal.returns-in-Err-clause-any_moment
returns-in-Err-clause-any_moment g c told = tried_within g.D.Disk.tells g.D.Disk.state g.met.D.Disk.sound Always ℕ told c.args.m.now c.give_first.new.m c.in-Err.fault c.in-Err.ensures.fault c.in-Err.ensures.any_moment
