use Rattle.std.proofs.Common.{◌<◌, false, [], map, slice_index_or, refl, sym, ap, subst, ◌∙◌, ℕ, length}
use Rattle.std.specs.List.{AllByRecursion}
use Rattle.turn_lock.specs.LockIds.{LockId}
use Rattle.turn_lock.specs.Passes.{pass_number, pass_seen}
use Rattle.wol_model.specs.History.{Kept}
use Rattle.wol_promise.specs.Policy.{Look}
use Rattle.wol_promise.specs.Ruled.{last_look}
use Rattle.manager.specs.Seen.{look_of_manager}
use Rattle.manager.specs.Stands.{notes_of}
use Rattle.manager.specs.declared.base.LaneBase.{LaneBase}
use Rattle.manager.specs.declared.base.ManagerBase.{ManagerBase}
use Rattle.manager.specs.declared.manager.Manager.{Manager}
use Rattle.request_turns.specs.Begun.{CanBeTold, WasTold}
use Rattle.request_turns.specs.Entries.{note_of}
use Rattle.request_turns.proofs.InPlace.{same_value, entered_still, stands_still}
use Rattle.request_turns.proofs.Turning.{turned}
use Rattle.request_turns.proofs.Waking.{told_after, named_view}
use Rattle.request_turns.proofs.begin.begin_volume.Goals as goal

pub change-requires-clause-work : goal.change-requires-clause-work
change-requires-clause-work g c p at = let e = c.enter_in_place.ensures in let v = e.value in
    subst (CanBeTold g.D.Disk.state c.args.volume c.args.awake.now) (same_value v.0 p.now c.enter_in_place.new.pass v.1 at) (record {
      ready = v.2.keeps.ready;
      volume_in = c.requires.volume;
      view_in = named_view _ v.0.lanes.items _ v.2.keeps.locks.each (subst (λ (l : LockId ManagerBase). AllByRecursion (λ (b : LaneBase). b.logger < length c.args.awake.now) l.base.lanes) (sym e.same.0) c.requires.view);
    })

pub leave_step_in_place-requires-clause-value : goal.leave_step_in_place-requires-clause-value
leave_step_in_place-requires-clause-value g c = let e = c.enter_in_place.ensures in let v = e.value in let k = c.change.ensures in let w = k.worked v.0 v.1 in
    let told : WasTold g.D.Disk.tells g.D.Disk.state c.args.volume c.args.awake.now v.0 w.0 = subst (λ (m : Manager g.row.D.Denot). WasTold g.D.Disk.tells g.D.Disk.state c.args.volume c.args.awake.now m w.0) w.1.shows
    (subst (WasTold g.D.Disk.tells g.D.Disk.state c.args.volume c.args.awake.now w.1.shown.now) w.1.leaves w.1.met) in
    (w.0, w.2, told_after g.D.Disk.tells g.D.Disk.state c.args.volume c.args.awake.now v.0 w.0 told _ _ _ (k.same.1 ∙ e.same.1 ∙ c.requires.pass.number_is) (stands_still _ _ k.same k.seen _ _ v.0 v.2))

pub returns : goal.returns
returns g c = let e = c.enter_in_place.ensures in let v = e.value in let k = c.change.ensures in let w = k.worked v.0 v.1 in let q = c.change.new.pass in
    let told : WasTold g.D.Disk.tells g.D.Disk.state c.args.volume c.args.awake.now v.0 w.0 = subst (λ (m : Manager g.row.D.Denot). WasTold g.D.Disk.tells g.D.Disk.state c.args.volume c.args.awake.now m w.0) w.1.shows
    (subst (WasTold g.D.Disk.tells g.D.Disk.state c.args.volume c.args.awake.now w.1.shown.now) w.1.leaves w.1.met) in
    let i = entered_still c.enter_in_place.new.pass q k.same k.seen c.args.pass.now e.same e.seen e.mine e.own k.mine in
    let s = stands_still c.enter_in_place.new.pass q k.same k.seen g.D.Disk.tells g.D.Disk.state v.0 v.2 in record {
      before = pass_seen q;
      note = note_of (pass_number q) Kept (look_of_manager w.0) [] false;
      turned = turned _ c.args.pass.now q c.leave_step_in_place.new.pass _ i.same i.begins i.mine i.owns (c.leave_step_in_place.ensures w.0 w.2).left refl;
      begun = record {
        does = refl;
        keeper = i.same.1 ∙ c.requires.pass.number_is;
        home = ap (λ (m : Manager g.row.D.Denot). m.home_up) told.flags ∙ ap (λ (o : ℕ). slice_index_or c.args.awake.now o false) (sym c.requires.owner);
        loggers = ap (λ (m : Manager g.row.D.Denot). m.ups.items) told.flags ∙ ap (map (λ (v : ℕ). slice_index_or c.args.awake.now v false)) (s.keeps.locks.view ∙ ap (λ (l : LockId ManagerBase). l.base.volume.began.view) i.same.0);
      };
      records = ap (λ (m : Manager g.row.D.Denot). (look_of_manager m).listed) told.flags ∙ sym (ap (λ (l : Look). l.listed) (ap (λ (k : LockId ManagerBase). last_look k.base.volume.began.look (notes_of (pass_seen q))) (sym i.same.0) ∙ s.look));
    }
