use Rattle.std.proofs.Common.{◌≡◌, ◌∙◌, refl, sym, ap, subst, length, map, List, arith}
use Rattle.std.specs.Option.{option_or}
use Rattle.std.proofs.lemmas.List.{with_items_is}
use Rattle.wol_model.specs.History.{helper}
use Rattle.window_desks.specs.Worked.{AreWorked, first_fault}
use Rattle.window_desks.specs.declared.desk.Desk.{Desk}
use Rattle.window_desks.specs.declared.floor.Floor.{Floor}
use Rattle.window_desks.proofs.Counted.{window_counts}
use Rattle.request_workers.proofs.Roomy.{sharing, all_ready, all_roomy, floor_after, floor_same}
use Rattle.request_workers.proofs.calls.window.Goals as goal

pub returns-in_err-hand_out-clause-floor : goal.returns-in_err-hand_out-clause-floor
returns-in_err-hand_out-clause-floor g c =
    let v = c.args.floor.now.desks in let d1 = c.hand_out.new.desks in
    let l1 : length d1 ≡ v.len = c.hand_out.auto.desks ∙ c.as_mut_slice.ensures.len in
    let e1 = with_items_is v d1 l1 in
    floor_same c.args.floor.now _ c.requires.floor refl refl refl refl (ap length e1 ∙ (c.hand_out.auto.desks ∙ ap length c.as_mut_slice.ensures.value))
    (rw e1 (rw c.as_mut_slice.ensures.value at c.hand_out.ensures.same))

pub run_window-requires-clause-can : goal.run_window-requires-clause-can
run_window-requires-clause-can g c =
    let f = c.args.floor.now in let v = f.desks in let d1 = c.hand_out.new.desks in
    let l1 : length d1 ≡ v.len = c.hand_out.auto.desks ∙ c.as_mut_slice.ensures.len in
    let e1 = with_items_is v d1 l1 in
    let s1 = c.hand_out.auto.desks ∙ ap length c.as_mut_slice.ensures.value in
    let on = c.requires.floor in
    let count = on.desks in let helpers = on.helpers in let few = c.requires.few in let long = ap length e1 in
    record {
      within = omega (arith, long, s1, count);
      ready = rw e1 (all_ready f.locks.now c.args.shared.now c.args.requests.now c.requires.shared v.items d1 on.desks s1 on.workers on.empty c.requires.within (rw c.as_mut_slice.ensures.value at c.in_ok-hand_out.ensures.handed));
      help = record {
        count = on.helpers;
        few = omega (arith, helpers, few);
        passes = on.help;
        sharing = sharing f.locks.now c.args.shared.now c.args.requests.now c.requires.shared helper f.helpers.items on.helpers on.help;
        cause = λ v f is. cc;
      };
    }

pub returns-clause-floor : goal.returns-clause-floor
returns-clause-floor g c =
    let v = c.args.floor.now.desks in let d1 = c.hand_out.new.desks in let n = c.run_window.new.floor in let ran = c.run_window.ensures.run in
    let e1 = with_items_is v d1 (c.hand_out.auto.desks ∙ c.as_mut_slice.ensures.len) in
    let s1 = c.hand_out.auto.desks ∙ ap length c.as_mut_slice.ensures.value in
    floor_after _ c.args.requests.now c.run_window.new.out.items c.args.reclaim c.args.floor.now n c.requires.floor
    (ap (λ (f : Floor g.row.D.Denot). f.locks) ran.on.only) (ap (λ (f : Floor g.row.D.Denot). f.keepers) ran.on.only) (ap (λ (f : Floor g.row.D.Denot). f.room) ran.on.only)
    (ran.desk_count ∙ (ap length e1 ∙ s1)) ran.on.count
    (all_roomy _ _ _ _ v.items d1 n.desks.items s1 (rw c.as_mut_slice.ensures.value at c.in_ok-hand_out.ensures.handed) (rw e1 at ran.worked)) ran.on.helped

pub returns-clause-run : goal.returns-clause-run
returns-clause-run g c =
    let v = c.args.floor.now.desks in let d1 = c.hand_out.new.desks in let n = c.run_window.new.floor in let ran = c.run_window.ensures.run in
    let h = c.args.floor.now.helpers in
    let e1 = with_items_is v d1 (c.hand_out.auto.desks ∙ c.as_mut_slice.ensures.len) in
    let s1 = c.hand_out.auto.desks ∙ ap length c.as_mut_slice.ensures.value in
    let worked : AreWorked g.D.Disk.tells c.args.requests.now c.run_window.new.out.items c.args.reclaim v.items n.desks.items =
    all_roomy _ _ _ _ v.items d1 n.desks.items s1 (rw c.as_mut_slice.ensures.value at c.in_ok-hand_out.ensures.handed) (rw e1 at ran.worked) in
    record {
      len = ran.len;
      worked = worked;
      helped = ran.on.helped;
      locks = ap (λ (f : Floor g.row.D.Denot). f.locks) ran.on.only;
      keepers = ap (λ (f : Floor g.row.D.Denot). f.keepers) ran.on.only;
      fault = c.or-fault.ensures ∙ ap (option_or n.help.fault) (c.refused_turn-refused.ensures ∙ ap (λ (ds : List (Desk g.row.D.Denot)). first_fault 0 (map (λ (d : Desk g.row.D.Denot). d.fault) ds)) c.as_slice-2.ensures.value);
      cause = ran.on.cause;
      kept = ran.on.all_kept;
      counted = λ honest helps. window_counts g.D.Disk.tells v.items n.desks.items h.items n.helpers.items c.new-floor.result n.help.tally c.reclaimed-tally.result
          (ran.desk_count ∙ (ap length e1 ∙ s1)) (λ k d i. (worked k d i).counted) c.new-floor.ensures ran.on.counted (rw c.as_slice.ensures.value at c.reclaimed-tally.ensures) honest helps;
    }
