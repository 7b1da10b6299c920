use Rattle.std.proofs.Common.{◌≡◌, ◌∷◌, ◌++◌, [], false, None, length, Result, Ok, Err, refl, sym, ap, subst, ◌∙◌}
use Rattle.turn_lock.specs.Passes.{pass_lock}
use Rattle.wol_model.specs.History.{Broke}
use Rattle.wol_model.specs.Placing.{Full as Nowhere}
use Rattle.wol_promise.specs.Policy.{Look, drained, place_of}
use Rattle.wol_promise.specs.Ruled.{last_look}
use Rattle.manager.specs.Answers.{home_write}
use Rattle.manager.specs.Seen.{look_of_manager}
use Rattle.manager.specs.Stands.{Keeps, IsReady, IsHome, notes_of}
use Rattle.manager.specs.declared.manager.Manager.{Manager}
use Rattle.manager.specs.declared.part.StepFault.{StepFault}
use Rattle.request_turns.specs.Causes.{CanTake}
use Rattle.request_turns.specs.Counts.{IsTakenOff}
use Rattle.request_turns.specs.Full.{FitsVolume}
use Rattle.request_turns.specs.Tried.{HasDrained}
use Rattle.request_turns.specs.Turns.{look_in_place, notes_seen}
use Rattle.request_turns.proofs.Counting.{all_taken}
use Rattle.request_turns.proofs.DrainNotes.{broke_stands, write_broken}
use Rattle.request_turns.proofs.InPlace.{same_value, between, look_at, note_at, at_still, stands_at, left_from, written_from}
use Rattle.request_turns.proofs.Taking.{home_at}
use Rattle.request_turns.proofs.drain.drain_and_write.Goals as goal

pub change-answer-requires-clause-work : goal.change-answer-requires-clause-work
change-answer-requires-clause-work g c m at = let v = c.requires.refused.value in let l = pass_lock c.args.pass.now in
    subst (λ (x : Manager g.row.D.Denot). IsReady g.D.Disk.state x × IsHome c.args.shared.now x × (x.down ≡ None)) (same_value v.0 m.now c.args.pass.now v.1 at)
    (v.3.ready, home_at c.args.shared.now _ _ v.0 l l _ refl v.3 c.requires.blocks.at, v.2)

-- ---- It was drained

pub write_home-requires-clause-done : goal.write_home-requires-clause-done
write_home-requires-clause-done g c = let v = c.requires.refused.value in let k = c.change-answer.ensures in let w = k.worked v.0 v.1 in let p = c.args.pass.now in let i = c.change-answer.new.pass in
    let t = between (HasDrained g.D.Disk.tells g.D.Disk.state c.change-answer.result.0 c.change-answer.result.1) _ _ v.0 w.0 w.1.shows w.1.leaves w.1.met in
    let r : HasDrained g.D.Disk.tells g.D.Disk.state (Ok tt) c.change-answer.result.1 v.0 w.0 = subst (λ (x : Result (Unit {0}) StepFault). HasDrained g.D.Disk.tells g.D.Disk.state x c.change-answer.result.1 v.0 w.0) c.in-Ok.is t in
    at_still p i k.same k.seen (λ l es. IsTakenOff c.change-answer.result.1 (last_look l.base.volume.began.look (notes_of es)) (look_in_place i))
    (subst (IsTakenOff c.change-answer.result.1 (last_look (pass_lock p).base.volume.began.look (notes_seen p))) (sym (look_at w.0 i w.2))
    (subst (λ (x : Look). IsTakenOff c.change-answer.result.1 x (look_of_manager w.0)) (sym (look_at v.0 p v.1) ∙ c.requires.look) (all_taken r.none c.change-answer.result.1 (look_of_manager v.0) (look_of_manager w.0) r.fresh r.taken)))

pub write_home-requires-clause-bare : goal.write_home-requires-clause-bare
write_home-requires-clause-bare g c = let v = c.requires.refused.value in let k = c.change-answer.ensures in let w = k.worked v.0 v.1 in let p = c.args.pass.now in let i = c.change-answer.new.pass in
    let t = between (HasDrained g.D.Disk.tells g.D.Disk.state c.change-answer.result.0 c.change-answer.result.1) _ _ v.0 w.0 w.1.shows w.1.leaves w.1.met in
    let r : HasDrained g.D.Disk.tells g.D.Disk.state (Ok tt) c.change-answer.result.1 v.0 w.0 = subst (λ (x : Result (Unit {0}) StepFault). HasDrained g.D.Disk.tells g.D.Disk.state x c.change-answer.result.1 v.0 w.0) c.in-Ok.is t in
    at_still p i k.same k.seen (λ l es. look_in_place i ≡ drained (last_look l.base.volume.began.look (notes_of es))) (look_at w.0 i w.2 ∙ r.drained_.1 ∙ ap drained (sym (look_at v.0 p v.1) ∙ c.requires.look))

pub write_home-requires-clause-blocks : goal.write_home-requires-clause-blocks
write_home-requires-clause-blocks g c = let k = c.change-answer.ensures in
    at_still c.args.pass.now c.change-answer.new.pass k.same k.seen (λ l es. FitsVolume c.args.shared.now c.args.lbn (length c.args.from.now) l.base) c.requires.blocks

pub write_home-requires-clause-refused : goal.write_home-requires-clause-refused
write_home-requires-clause-refused g c = let v = c.requires.refused.value in let k = c.change-answer.ensures in let w = k.worked v.0 v.1 in let p = c.args.pass.now in let i = c.change-answer.new.pass in
    let t = between (HasDrained g.D.Disk.tells g.D.Disk.state c.change-answer.result.0 c.change-answer.result.1) _ _ v.0 w.0 w.1.shows w.1.leaves w.1.met in
    let r : HasDrained g.D.Disk.tells g.D.Disk.state (Ok tt) c.change-answer.result.1 v.0 w.0 = subst (λ (x : Result (Unit {0}) StepFault). HasDrained g.D.Disk.tells g.D.Disk.state x c.change-answer.result.1 v.0 w.0) c.in-Ok.is t in
    let f = c.requires.refused in record {
      kept = f.kept;
      full = at_still p i k.same k.seen (λ l es. place_of g.B.Memo.note.passed (last_look l.base.volume.began.look (notes_of es)) (home_write c.args.lbn c.args.from.now) ≡ Nowhere) f.full;
      takes = at_still p i k.same k.seen (λ l es. CanTake (notes_of es) (last_look l.base.volume.began.look (notes_of es))) f.takes;
      value = (w.0, w.2, r.drained_.0, at_still p i k.same k.seen (λ l es. Keeps g.D.Disk.tells g.D.Disk.state w.0 l.base (notes_of es ++ g.B.Memo.note ∷ [])) (r.keeps _ _ tt v.3));
    }

pub returns-in-Ok : goal.returns-in-Ok
returns-in-Ok g c = let v = c.requires.refused.value in let k = c.change-answer.ensures in let w = k.worked v.0 v.1 in let p = c.args.pass.now in let i = c.change-answer.new.pass in
    written_from p i k.same k.seen k.mine _ _ _ _ _ _ _ c.write_home.ensures

-- ---- The drain failed

pub leave_broken-requires-clause-value : goal.leave_broken-requires-clause-value
leave_broken-requires-clause-value g c = let v = c.requires.refused.value in let k = c.change-answer.ensures in let w = k.worked v.0 v.1 in let p = c.args.pass.now in let i = c.change-answer.new.pass in
    let t = between (HasDrained g.D.Disk.tells g.D.Disk.state c.change-answer.result.0 c.change-answer.result.1) _ _ v.0 w.0 w.1.shows w.1.leaves w.1.met in
    let r : HasDrained g.D.Disk.tells g.D.Disk.state (Err c.in-Err.fault) c.change-answer.result.1 v.0 w.0 = subst (λ (x : Result (Unit {0}) StepFault). HasDrained g.D.Disk.tells g.D.Disk.state x c.change-answer.result.1 v.0 w.0) c.in-Err.is t in (
      w.0,
      w.2,
      stands_at p i k.same k.seen _ _ w.0 _ _ (note_at p i k.same k.seen w.0 w.2 (Broke []) g.B.Memo.note.passed false)
          (broke_stands _ _ v.0 w.0 _ _ g.B.Memo.note _ c.in-Err.fault r.refused c.requires.refused.kept r.broke v.3),
    )

pub returns-in-Err : goal.returns-in-Err
returns-in-Err g c = let v = c.requires.refused.value in let k = c.change-answer.ensures in let w = k.worked v.0 v.1 in let p = c.args.pass.now in let i = c.change-answer.new.pass in
    let t = between (HasDrained g.D.Disk.tells g.D.Disk.state c.change-answer.result.0 c.change-answer.result.1) _ _ v.0 w.0 w.1.shows w.1.leaves w.1.met in
    let r : HasDrained g.D.Disk.tells g.D.Disk.state (Err c.in-Err.fault) c.change-answer.result.1 v.0 w.0 = subst (λ (x : Result (Unit {0}) StepFault). HasDrained g.D.Disk.tells g.D.Disk.state x c.change-answer.result.1 v.0 w.0) c.in-Err.is t in
    let l = c.leave_broken.ensures in
    let left = left_from p i k.same k.seen k.mine _ _ _ _ (note_at p i k.same k.seen w.0 w.2 (Broke []) g.B.Memo.note.passed false) l.left in
    rw c.refusal_of.ensures (write_broken _ w.0 _ _ g.B.Memo.note.passed c.in-Err.fault p _ _ r.refused left (λ d down. l.broken w.0 d w.2 down) r.down c.requires.refused.takes)
