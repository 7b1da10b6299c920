-- The disk of one logger more was looked at.
use Rattle.std.proofs.Common.{None, ◌≡◌, ◌<◌, ◌++◌, ℕ, false, List, length, map, get_or, take, drop, sym, ap, subst, ◌∙◌, arith}
use Rattle.std.specs.Prelude.{slice_get, slice_set, slice_index_or, Some}
use Rattle.std.specs.List.{AllByRecursion}
use Rattle.whatif.specs.declared.disk.Disk.{Disk}
use Rattle.whatif.specs.declared.volume.Volume.{Volume}
use Rattle.whatif.specs.Machine.{is_up}
use Rattle.whatif.proofs.Lists.{all_at, flags_step, got_at, one_more}
use Rattle.whatif.proofs.Seeing.{seen_all, seen_reach, up_of}
use Rattle.whatif.proofs.Spinning.{got}
use Rattle.whatif.proofs.volume.Volume.see.Goals as goal

pub loop-lane-preserved : goal.loop-lane-preserved
loop-lane-preserved c =
    let i = c.loop-lane.invariant in let home = c.see_home.new.self in let was = c.loop-lane.self in let k = c.loop-lane.lane in let disk = c.index.result.now in
    let none : Disk = record { from = 0; moment = 0; awake = false; since = 0; wakes = 0; sleeps = 0; standby = 0; up_at = None } in
    let lt : k < length home.loggers.items = (let a = c.loop-lane-test.true in let b = c.len-lane-end.ensures in omega (arith, a, b)) in
    let at : slice_get home.loggers.items k ≡ Some disk = got_at home.loggers.items k disk lt (c.index.ensures ∙ ap (λ (w : Volume). slice_index_or w.loggers.items k disk) i.rest) in
    let loggers : AllByRecursion (λ d. d < length c.args.disks.now) home.loggers.items = subst (λ (w : Volume). AllByRecursion (λ d. d < length c.args.disks.now) w.loggers.items) (sym c.see_home.ensures.rest) c.requires.within.loggers in
    let within : disk < length c.args.disks.now = all_at (λ d. d < length c.args.disks.now) home.loggers.items k disk loggers at in record {
      volume = c.see_logger.ensures.volume;
      rest = c.see_logger.ensures.rest ∙ ap (λ (w : Volume). (let x : Volume = record w { ups = c.see_logger.new.self.ups; settled = c.see_logger.new.self.settled } in x)) i.rest;
      seen = λ ss are. c.see_logger.ensures.flag ∙ ap (λ (l : List _). slice_set l k c.is_awake-in-loop-lane.result) (i.seen ss are)
          ∙ flags_step (is_up ss) home.loggers.items home.ups.items k disk c.is_awake-in-loop-lane.result c.see_home.ensures.volume.flags at
          (c.is_awake-in-loop-lane.ensures ∙ sym (up_of c.args.disks.now ss disk (get_or c.args.disks.now disk none) are (got c.args.disks.now disk none within)))
          ∙ ap (λ (n : ℕ). map (is_up ss) (take n home.loggers.items) ++ drop n home.ups.items) (one_more k);
    }

pub returns-clause-seen : goal.returns-clause-seen
returns-clause-seen c = λ ss are.
    let i = c.loop-lane.invariant in let v = c.args.self.now in
    let none : Disk = record { from = 0; moment = 0; awake = false; since = 0; wakes = 0; sleeps = 0; standby = 0; up_at = None } in
    seen_all v c.see_home.new.self c.loop-lane.self ss c.loop-lane.lane c.see_home.ensures.rest
    (c.see_home.ensures.flag ∙ c.is_awake.ensures ∙ sym (up_of c.args.disks.now ss v.own (get_or c.args.disks.now v.own none) are (got c.args.disks.now v.own none c.requires.within.own)))
    i.rest (i.seen ss are) (let a = c.loop-lane-test.false in let b = c.len-lane-end.ensures in omega (arith, a, b)) c.see_home.ensures.volume.flags

pub returns-clause-reach : goal.returns-clause-reach
returns-clause-reach c = seen_reach c.args.self.now c.see_home.new.self c.loop-lane.self c.see_home.ensures.rest c.loop-lane.invariant.rest
