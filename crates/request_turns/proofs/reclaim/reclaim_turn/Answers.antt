use Rattle.std.proofs.Common.{refl, subst, ◌∙◌}
use Rattle.turn_lock.specs.Passes.{pass_number}
use Rattle.manager.specs.Seen.{look_of_manager}
use Rattle.manager.specs.Stands.{IsReady, IsHome}
use Rattle.manager.specs.declared.manager.Manager.{Manager}
use Rattle.request_turns.specs.Closed.{HasReclaimed}
use Rattle.request_turns.proofs.ClosedTurn.{closed_stands, has_closed, closed_counted}
use Rattle.request_turns.proofs.Counting.{counted_turn}
use Rattle.request_turns.proofs.InPlace.{same_value, between, entered_still, stands_still}
use Rattle.request_turns.proofs.Taking.{home_at}
use Rattle.request_turns.proofs.reclaim.reclaim_turn.Goals as goal

pub change-answer-requires-clause-work : goal.change-answer-requires-clause-work
change-answer-requires-clause-work g c p at = let e = c.enter_in_place.ensures in let v = e.value in
    subst (λ (m : Manager g.row.D.Denot). IsReady g.D.Disk.state m × IsHome c.args.shared.now m) (same_value v.0 p.now c.enter_in_place.new.pass v.1 at)
    (v.2.keeps.ready, home_at _ _ _ _ _ _ _ e.same.0 v.2.keeps c.requires.shared)

pub leave_step_in_place-requires-clause-value : goal.leave_step_in_place-requires-clause-value
leave_step_in_place-requires-clause-value g c = let e = c.enter_in_place.ensures in let v = e.value in let k = c.change-answer.ensures in let w = k.worked v.0 v.1 in let a = c.change-answer.result.0 in
    let r = between (HasReclaimed g.D.Disk.tells g.D.Disk.state c.args.shared.now a c.change-answer.result.1) _ _ v.0 w.0 w.1.shows w.1.leaves w.1.met in
    (w.0, w.2, closed_stands _ _ v.0 w.0 a _ _ _ _ c.has_failed-failed.ensures (k.same.1 ∙ e.same.1 ∙ c.requires.pass.number_is) r.steps.keeps r.steps.broke r.steps.look (stands_still _ _ k.same k.seen _ _ v.0 v.2))

pub returns : goal.returns
returns g c = let e = c.enter_in_place.ensures in let v = e.value in let p = c.enter_in_place.new.pass in let j = c.change-answer.new.pass in let k = c.change-answer.ensures in let w = k.worked v.0 v.1 in
    let a = c.change-answer.result.0 in let failed = c.has_failed-failed.ensures in let l = c.leave_step_in_place.ensures w.0 w.2 in let add = c.add_unless.ensures in
    let r = between (HasReclaimed g.D.Disk.tells g.D.Disk.state c.args.shared.now a c.change-answer.result.1) _ _ v.0 w.0 w.1.shows w.1.leaves w.1.met in
    let i = entered_still p j k.same k.seen c.args.pass.now e.same e.seen e.mine e.own k.mine in
    let s = stands_still p j k.same k.seen g.D.Disk.tells g.D.Disk.state v.0 v.2 in record {
      closed = has_closed _ g.D.Disk.state v.0 w.0 a c.args.pass.now j _ _ _ failed c.refusal_in.ensures r.idle r.steps.down i.same i.begins i.mine i.owns l.left l.broken;
      counted = counted_turn _ _ j _ _ (look_of_manager v.0) _ _ i.same i.begins i.mine i.owns l.left refl s.look
          (closed_counted g.D.Disk.tells g.D.Disk.state v.0 w.0 a a (look_of_manager v.0) (pass_number j) _ _ _ _ _ failed r.fresh r.steps.taken add.done add.failed);
    }
