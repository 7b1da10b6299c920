use Rattle.std.proofs.Common.{◌-◌}
use Rattle.std.proofs.Math.Nat.{div-add-mod, mod-lt, mul-mod_right}
use Rattle.request_workers.proofs.Runs.{last_of}
use Rattle.request_workers.proofs.hands.last_run.Goals as goal

pub returns : goal.returns
returns g = last_of g.args.size g.args.desks _ _ (div-add-mod (g.args.desks - 1) g.args.size) g.requires.some (mod-lt (g.args.desks - 1) g.requires.size) (mul-mod_right _ _)
