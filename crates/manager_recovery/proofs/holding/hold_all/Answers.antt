use Rattle.std.proofs.Common.{◌≡◌, ◌+◌, suc, reverse, refl, sym, ap, subst, ◌∙◌, arith}
use Rattle.std.proofs.lemmas.Option.{none-some, same_Some}
use Rattle.wol_model.specs.Blocks.{AreApart}
use Rattle.spin_model.specs.Spun.{state_of, volume_of}
use Rattle.spin_model.specs.declared.spun.Spun.{Spun}
use Rattle.log_scan.specs.declared.Scan.{Scan}
use Rattle.logger.specs.declared.lane.HeldSegment.{HeldSegment}
use Rattle.manager_recovery.specs.Scanned.{IsAdopted}
use Rattle.manager_recovery.specs.declared.opening.Opening.{Opening}
use Rattle.manager_recovery.proofs.Coming.{coming, next, scan_same, scanned_here, never_missing, lane_within, lane_here}
use Rattle.manager_recovery.proofs.Held.{IsHeldTo, reverse_twice, none_held, none_left, some_left, below, blocks_are, holding_is, volume_is, owner_is, apart_is, held_next, all_held_then}
use Rattle.manager_recovery.proofs.holding.hold_all.Goals as goal

pub loop-scan-init : goal.loop-scan-init
loop-scan-init g c = none_held g.D.Disk.state c.args.shared.now c.args.opening.now c.requires.ready c.requires.named c.args.scans.now c.requires.scanned _ refl (ap reverse c.reverse.ensures.items ∙ reverse_twice c.args.opening.now.owned.items)

pub unreachable-requires : goal.unreachable-requires
unreachable-requires g c =
    let e = c.loop-scan.opening.owned.ok.0 in let w = c.in_default.ensures in
    some_left g.D.Disk.state c.args.shared.now c.args.opening.now c.requires.ready c.requires.named c.args.scans.now c.requires.scanned c.loop-scan.opening c.loop-scan.scan-index c.loop-scan.invariant c.loop-scan-test.true (omega (arith, e, w.cases))

pub unreachable-requires-in_default-place_of : goal.unreachable-requires-in_default-place_of
unreachable-requires-in_default-place_of g c = let f = coming c.loop-scan.invariant c.requires.ready c.requires.named c.requires.scanned c.in-Some.field-0 c.pop.new.self.items c.in-Some.ensures.items in
    never_missing f c.ids.result.now c.ids.ensures.value c.in_default-place_of.ensures

pub adopt-requires : goal.adopt-requires
adopt-requires g c = let f = coming c.loop-scan.invariant c.requires.ready c.requires.named c.requires.scanned c.in-Some.field-0 c.pop.new.self.items c.in-Some.ensures.items in
    let scan = scanned_here f c.scan-item.result c.scan-item.is in
    record { size = (next f).owned.size; shape = scan.shape; scanned = scan.scanned }

pub unreachable-requires-in-Free : goal.unreachable-requires-in-Free
unreachable-requires-in-Free g c = let f = coming c.loop-scan.invariant c.requires.ready c.requires.named c.requires.scanned c.in-Some.field-0 c.pop.new.self.items c.in-Some.ensures.items in
    none-some c.args.opening.now.want.id (sym c.in-Free.ensures.free_owner ∙ (scanned_here f c.scan-item.result c.scan-item.is).owner)

pub index_mut-requires : goal.index_mut-requires
index_mut-requires g c = let f = coming c.loop-scan.invariant c.requires.ready c.requires.named c.requires.scanned c.in-Some.field-0 c.pop.new.self.items c.in-Some.ensures.items in
    let lt = lane_within f c.ids.result.now c.ids.ensures.value c.in-Some-place_of.place c.in-Some-place_of.ensures in
    let e = c.loop-scan.opening.lanes.ok.0 in
    omega (arith, lt, e)

pub hold-requires : goal.hold-requires
hold-requires g c = let f = coming c.loop-scan.invariant c.requires.ready c.requires.named c.requires.scanned c.in-Some.field-0 c.pop.new.self.items c.in-Some.ensures.items in
    let l = c.index_mut.result.now in
    let at = lane_here f c.ids.result.now c.ids.ensures.value c.in-Some-place_of.place c.in-Some-place_of.ensures l c.index_mut.ensures.value in
    let state = g.D.Disk.state in let s = c.args.shared.now in let o = c.args.opening.now in let scans = c.args.scans.now in let n = c.loop-scan.opening in let k = c.loop-scan.scan-index in
    let x = c.in-Some.field-0 in let rest = c.pop.new.self.items in let place = c.in-Some-place_of.place in let a = c.in-Held.ensures in
    record {
      lane = at.holds_own.lane;
      below = below state s o f.can f.named scans f.scanned n k x rest f.so_far (next f) place l at;
      apart = apart_is state s o f.can f.named scans f.scanned n k x rest f.so_far (next f) place l at;
      holds = holding_is state s o f.can f.named scans f.scanned n k x rest f.so_far (next f) place l at;
      shape = a.held;
      volume = ap (λ (p : Spun g.row.D.Denot). volume_of p) a.part ∙ volume_is state s o f.can f.named scans f.scanned n k x rest f.so_far (next f) place l at;
      owner = same_Some c.in-Held.segment.owner o.want.id (sym a.held_owner ∙ (scanned_here f c.scan-item.result c.scan-item.is).owner)
          ∙ sym (owner_is state s o f.can f.named scans f.scanned n k x rest f.so_far (next f) place l at);
      blocks = sym a.held.size
          ∙ (ap (λ (p : Spun g.row.D.Denot). (state_of state p).size) a.part ∙ blocks_are state s o f.can f.named scans f.scanned n k x rest f.so_far (next f) place l at);
    }

pub loop-scan-preserved : goal.loop-scan-preserved
loop-scan-preserved g c = let f = coming c.loop-scan.invariant c.requires.ready c.requires.named c.requires.scanned c.in-Some.field-0 c.pop.new.self.items c.in-Some.ensures.items in
    let l = c.index_mut.result.now in
    let at = lane_here f c.ids.result.now c.ids.ensures.value c.in-Some-place_of.place c.in-Some-place_of.ensures l c.index_mut.ensures.value in
    let state = g.D.Disk.state in let s = c.args.shared.now in let o = c.args.opening.now in let scans = c.args.scans.now in let x = c.in-Some.field-0 in let k = c.loop-scan.scan-index in
    let a = c.in-Held.ensures in let seg = c.in-Held.segment in
    let h : HeldSegment g.row.D.Denot = record { index = x.index; segment = seg } in
    let first : IsAdopted state x c.scan-item.result h = record { index = refl; part = a.part; shape = a.held; owner = sym a.held_owner; whole = a.whole; valid = a.valid; holds_ = a.holds } in
    let adopted : IsAdopted state x (next f).scan h = subst (λ (q : Scan). IsAdopted state x q h) (scan_same f c.scan-item.result c.scan-item.is) first in
    let e : suc k ≡ k + 1 = omega arith in
    let b = c.hold.ensures in
    subst (IsHeldTo state s o _ scans) e (held_next state s o f.can f.named scans f.scanned c.loop-scan.opening k x c.pop.new.self.items f.so_far (next f) c.in-Some-place_of.place l at
    (subst (λ (q : Opening g.row.D.Denot). AreApart q.view) f.so_far.same c.ids.ensures.valid.distinct) h adopted c.hold.new.self b.lane b.same b.held b.taken b.pool _ refl refl refl)

pub returns-clause-same : goal.returns-clause-same
returns-clause-same g c = c.loop-scan.invariant.same

pub returns-clause-none : goal.returns-clause-none
returns-clause-none g c = none_left g.D.Disk.state c.args.shared.now c.args.opening.now c.requires.ready c.requires.named c.args.scans.now c.requires.scanned c.loop-scan.opening c.loop-scan.scan-index c.loop-scan.invariant c.loop-scan-test.false

pub returns-clause-held : goal.returns-clause-held
returns-clause-held g c = all_held_then g.D.Disk.state c.args.shared.now c.args.opening.now c.requires.ready c.requires.named c.args.scans.now c.requires.scanned c.loop-scan.opening c.loop-scan.scan-index c.loop-scan.invariant c.loop-scan-test.false
