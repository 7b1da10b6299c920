use Rattle.std.proofs.Common.{inr, ◌-◌, suc, List, slice_set, arith, refl, sym, ap, subst, ◌∙◌}
use Rattle.std.specs.Prelude.{Contains}
use Rattle.std.specs.List.{list_any}
use Rattle.wol_promise.proofs.Lists.{member_of}
use Rattle.spin_model.specs.Spun.{disk_of}
use Rattle.manager.proofs.Lanes.{all_at, get_set}
use Rattle.manager_recovery.specs.Owned.{all_owned, IsIntact}
use Rattle.manager_recovery.specs.Left.{IsFateOf, Kept, Freed}
use Rattle.manager_recovery.specs.Opening.{IsOwned}
use Rattle.manager_recovery.specs.Scanned.{has_some, keeps_some}
use Rattle.manager_recovery.specs.declared.opening.Opening.{Opening}
use Rattle.manager_recovery.specs.declared.opening.OwnedPart.{OwnedPart}
use Rattle.manager_recovery.proofs.Freeing.{facing, still, segment, part_within, scan_within, scan_same, stays_here, none_kept, scanned_here, never_missing, lane_within, lane_here, lane_ready, held_here}
use Rattle.manager_recovery.proofs.Fronts.{all_take}
use Rattle.manager_recovery.proofs.Thinning.{begun, freed, failed, lanes_apart}
use Rattle.manager_recovery.proofs.retiring.retire_bare.Goals as goal

pub loop-k-init : goal.loop-k-init
loop-k-init g c = begun g.D.Disk.state c.args.shared.now (λ p. g.met.D.Disk.sound (disk_of p)) c.args.opening.now c.args.scans.now.items c.args.opening.now.want.home c.requires.scanned c.len-k.result (let e = c.args.opening.now.owned.ok.0 in omega (arith, e, c.len-k.ensures)) c.requires.ready

pub index-requires : goal.index-requires
index-requires g c = let f = facing c.loop-k.invariant c.loop-k-test.true c.requires.scanned (λ p. g.met.D.Disk.sound (disk_of p)) in let e = c.loop-k.scans.ok.0 in omega (arith, scan_within f, e)

pub index-requires-in-loop-k-2 : goal.index-requires-in-loop-k-2
index-requires-in-loop-k-2 g c = let f = facing c.loop-k.invariant c.loop-k-test.true c.requires.scanned (λ p. g.met.D.Disk.sound (disk_of p)) in let e = c.loop-k.scans.ok.0 in omega (arith, scan_within f, e)

pub remove-requires : goal.remove-requires
remove-requires g c = let f = facing c.loop-k.invariant c.loop-k-test.true c.requires.scanned (λ p. g.met.D.Disk.sound (disk_of p)) in let e = c.loop-k.scans.ok.0 in omega (arith, scan_within f, e)

pub loop-k-preserved-then-keep_some : goal.loop-k-preserved-then-keep_some
loop-k-preserved-then-keep_some g c = let f = facing c.loop-k.invariant c.loop-k-test.true c.requires.scanned (λ p. g.met.D.Disk.sound (disk_of p)) in
    stays_here f c.index.result.now c.index.ensures (ap (list_any keeps_some) (sym c.deref.ensures.value) ∙ (sym c.keep_some.ensures ∙ c.if-keep_some.true))

pub unreachable-requires : goal.unreachable-requires
unreachable-requires g c = let f = facing c.loop-k.invariant c.loop-k-test.true c.requires.scanned (λ p. g.met.D.Disk.sound (disk_of p)) in
    never_missing f c.requires.named c.index-in-loop-k.result.now c.index-in-loop-k.ensures c.ids.result.now c.ids.ensures.value c.in_default.ensures

pub index_mut-lane-requires : goal.index_mut-lane-requires
index_mut-lane-requires g c = let f = facing c.loop-k.invariant c.loop-k-test.true c.requires.scanned (λ p. g.met.D.Disk.sound (disk_of p)) in
    let lt = lane_within f c.requires.named c.index-in-loop-k.result.now c.index-in-loop-k.ensures c.ids.result.now c.ids.ensures.value c.in-Some.place c.in-Some.ensures in
    let e = c.loop-k.opening.lanes.ok.0 in
    omega (arith, lt, e)

pub retire_at-requires : goal.retire_at-requires
retire_at-requires g c = let f = facing c.loop-k.invariant c.loop-k-test.true c.requires.scanned (λ p. g.met.D.Disk.sound (disk_of p)) in
    let l = c.index_mut-lane.result.now in
    let lane = lane_here f c.requires.named c.index-in-loop-k.result.now c.index-in-loop-k.ensures c.ids.result.now c.ids.ensures.value c.in-Some.place c.in-Some.ensures l c.index_mut-lane.ensures.value in
    let ready = lane_ready f c.in-Some.place l lane.0 in
    let scan = c.index-in-loop-k-2.result.now in
    record {
      lane = ready.lane;
      at = ready.at;
      empty = ready.bare;
      within = part_within f;
      held = held_here f c.in-Some.place l lane.0 lane.1;
      size = λ p there. (all_at (IsOwned g.D.Disk.state c.loop-k.opening.lanes.items) c.loop-k.opening.owned.items (c.loop-k.k - 1) p there c.loop-k.invariant.can.owned).size;
      scanned = scanned_here f scan c.index-in-loop-k-2.ensures;
      bare = ap has_some (scan_same f scan c.index-in-loop-k-2.ensures)
          ∙ none_kept f c.index.result.now c.index.ensures (ap (list_any keeps_some) (sym c.deref.ensures.value) ∙ (sym c.keep_some.ensures ∙ c.if-keep_some.false));
    }

pub loop-k-preserved : goal.loop-k-preserved
loop-k-preserved g c = let f = facing c.loop-k.invariant c.loop-k-test.true c.requires.scanned (λ p. g.met.D.Disk.sound (disk_of p)) in
    let l = c.index_mut-lane.result.now in
    let lane = lane_here f c.requires.named c.index-in-loop-k.result.now c.index-in-loop-k.ensures c.ids.result.now c.ids.ensures.value c.in-Some.place c.in-Some.ensures l c.index_mut-lane.ensures.value in
    let none = none_kept f c.index.result.now c.index.ensures (ap (list_any keeps_some) (sym c.deref.ensures.value) ∙ (sym c.keep_some.ensures ∙ c.if-keep_some.false)) in
    let at = segment f in let o = c.args.opening.now in let was = c.args.scans.now.items in let n = c.loop-k.opening in let is = c.loop-k.scans.items in let k = c.loop-k.k - 1 in
    let a = c.in-Ok.ensures in
    let w = a.ok.1 at.part at.part_at in
    let fate = subst (λ (q : Opening g.row.D.Denot). IsFateOf g.D.Disk.state q.want.id at.part (Freed w.0)) c.loop-k.invariant.same w.1 in
    freed g.D.Disk.state c.args.shared.now f.sound o was o.want.home f.scanned n is k (still f) at c.in-Some.place l lane.0 c.retire_at.new.lane a.same a.rest a.pool_free a.spindle_free a.settled a.accesses _ refl refl none lane.1 (λ i other has. a.kept at.part i at.part_at other has) a.ok.0 c.remove.new.self.items c.remove.ensures.items w.0 fate
    (lanes_apart g.D.Disk.state c.args.shared.now f.sound o was o.want.home f.scanned c.requires.named n is (suc k) (still f) c.ids.ensures.valid) (a.gave at.part at.part_at)

pub returns-in-Err : goal.returns-in-Err
returns-in-Err g c = let f = facing c.loop-k.invariant c.loop-k-test.true c.requires.scanned (λ p. g.met.D.Disk.sound (disk_of p)) in
    let l = c.index_mut-lane.result.now in
    let lane = lane_here f c.requires.named c.index-in-loop-k.result.now c.index-in-loop-k.ensures c.ids.result.now c.ids.ensures.value c.in-Some.place c.in-Some.ensures l c.index_mut-lane.ensures.value in
    let at = segment f in let o = c.args.opening.now in let was = c.args.scans.now.items in let n = c.loop-k.opening in let is = c.loop-k.scans.items in let k = c.loop-k.k - 1 in
    let a = c.in-Err.ensures in
    let w = a.err at.part at.part_at in
    let fate = subst (λ (q : Opening g.row.D.Denot). IsFateOf g.D.Disk.state q.want.id at.part (Kept w.0)) c.loop-k.invariant.same w.2 in
    let after = w.0 in let same = w.2.same.0 in record {
      parts = failed g.D.Disk.state c.args.shared.now f.sound o was o.want.home f.scanned n is k (still f) at c.in-Some.place l lane.0 c.retire_at.new.lane a.same a.rest a.pool_free a.spindle_free a.settled a.accesses _ refl refl w.0 fate w.1 a.gave_none;
      ok = tt;
      err = (
        at.part.logger,
        at.part.index,
        w.3,
        record {
          k = k;
          before = at.part;
          after = after;
          was_there = at.was_part;
          is_there = subst (λ (q : List (OwnedPart g.row.D.Denot)). Contains q after) (sym w.1) (member_of (slice_set n.owned.items k after) after k (get_set n.owned.items k at.part after at.part_at));
          named = (refl, refl, sym (ap (λ (q : OwnedPart g.row.D.Denot). q.logger) same), sym (ap (λ (q : OwnedPart g.row.D.Denot). q.index) same));
          rose = w.4;
          intact = λ told. all_take (IsIntact o.want.id o.want.home) k (all_owned g.D.Disk.state o.owned.items) (c.requires.recoverable told).0;
          read_or_last = inr c.requires.recoverable;
        },
      );
    }
