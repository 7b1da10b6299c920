-- All that is due goes home, and then all that may go is given up.
use Rattle.std.proofs.Common.{[], ◌∷◌, Some, length, sym, subst, ◌∙◌}
use Rattle.whatif.specs.declared.volume.Volume.{Volume}
use Rattle.whatif.specs.Machine.{give_up, give_step, put_home, put_step}
use Rattle.whatif.specs.Logs.{Gives}
use Rattle.whatif.specs.Volumes.{IsWithin, look_in, reach_in}
use Rattle.whatif.proofs.Doing.{both_done}
use Rattle.whatif.proofs.Rounds.{all_done, none_done, one_more}
use Rattle.whatif.proofs.Steps.{step_none}
use Rattle.whatif.proofs.volume.Volume.reclaim.Goals as goal

pub puts-init : goal.puts-init
puts-init c = none_done put_step _ _ c.requires.volume c.if-self.false c.requires.within c.requires.kept

pub puts-preserved : goal.puts-preserved
puts-preserved c =
    let e = c.in-Some.ensures in
    one_more put_step _ _ c.puts.self _ _ _ (c.in-Some.logger ∷ c.put_home.new.self.own ∷ []) [] c.puts.invariant e.stays (e.step ∙ (λ j. Some (record { look = look_in c.put_home.new.self; uses = c.in-Some.logger ∷ (sym e.stays.reach j).own ∷ []; moves = [] }))) e.lowers c.access_at-in-Some.ensures.kept (c.access_at-in-Some.ensures.moments ∙ c.access_at.ensures.moments)
    (λ t ss are. c.access_at-in-Some.ensures.stands t _ (c.access_at.ensures.stands t ss are))

pub gives-init : goal.gives-init
gives-init c =
    let stays = c.in_default.ensures.stays in let done = c.puts.invariant in
    none_done give_step _ _ stays.volume stays.settled (subst (IsWithin (length c.puts.disks)) (sym stays.reach) done.within) done.kept

pub gives-preserved : goal.gives-preserved
gives-preserved c =
    let e = c.in-Some-give_up.ensures in let used = c.access_at-in-Some-give_up.ensures in
    one_more give_step _ _ c.gives.self _ _ _ (c.in-Some-give_up.given.disk ∷ []) (Gives c.in-Some-give_up.given ∷ []) c.gives.invariant e.stays e.step e.lowers used.kept used.moments (λ t ss are. used.stands t ss are)

pub returns-clause-done : goal.returns-clause-done
returns-clause-done c =
    let start : Volume = c.args.self.now in let put : Volume = c.put_home.new.self in
    let due = c.in_default.ensures.none in let going = c.in_default-give_up.ensures.none in
    let puts = all_done put_step start _ c.puts.self put c.puts.disks c.puts.invariant due.1 (step_none (put_home (reach_in start)) (look_in c.puts.self) _ due.0) in
    let gives = all_done give_step put _ c.gives.self c.give_up.new.self c.gives.disks c.gives.invariant going.1 (step_none (give_up (reach_in put)) (look_in c.gives.self) _ going.0) in
    let done = both_done start put c.give_up.new.self c.args.disks.now c.puts.disks c.gives.disks puts gives in
    record { reach = done.reach; look = done.look; store = done.store; disks = done.disks }
