use Rattle.std.proofs.Common.{◌≡◌, List, ap, sym, subst, refl, ◌∙◌}
use Rattle.std.specs.List.{AllZip}
use Rattle.spin_model.specs.Spun.{disk_of}
use Rattle.log_scan.specs.declared.Scan.{Scan}
use Rattle.manager.specs.Stands.{IsReady, opened}
use Rattle.manager_recovery.specs.Opened.{Opens, NoneRoseAtOpening}
use Rattle.manager_recovery.specs.declared.opening.Opening.{Opening}
use Rattle.manager_recovery.specs.Scanned.{IsScanned, AreHeld}
use Rattle.manager_recovery.proofs.Beginning.{opens_as}
use Rattle.manager_recovery.proofs.CalmOpening.{held_calm}
use Rattle.manager_recovery.proofs.Gathered.{gs, gathered, names_still, scanned_still}
use Rattle.manager_recovery.proofs.OpenedKeeps.{is_ready}
use Rattle.manager_recovery.proofs.volume.manager_of.Goals as goal

pub hold_all-requires-clause-named : goal.hold_all-requires-clause-named
hold_all-requires-clause-named g c =
    let n = c.args.opening in let o = c.requires.ready.0 in let rec = c.requires.ready.1 in let same = c.requires.ready.2.same in
    names_still g.D.Disk.tells g.D.Disk.state c.args.shared.now o n (ap (λ q. q.want) same) (ap (λ q. q.view) same) (ap (λ q. q.present) same) (ap (λ q. q.label) same) (ap (λ q. q.most) same) c.args.recovered rec

pub hold_all-requires-clause-scanned : goal.hold_all-requires-clause-scanned
hold_all-requires-clause-scanned g c =
    let n = c.args.opening in let o = c.requires.ready.0 in let rec = c.requires.ready.1 in let same = c.requires.ready.2.same in
    subst (AllZip (IsScanned g.D.Disk.state n.want.id n.want.home) n.owned.items) (sym c.deref.ensures.value)
    (scanned_still g.D.Disk.tells g.D.Disk.state c.args.shared.now o n (ap (λ q. q.want) same) (ap (λ q. q.view) same) (ap (λ q. q.present) same) (ap (λ q. q.label) same) (ap (λ q. q.most) same) c.args.recovered rec)

pub new-requires : goal.new-requires
new-requires g c =
    let tells = g.D.Disk.tells in let state = g.D.Disk.state in let shared = c.args.shared.now in let n = c.args.opening in let r = c.args.recovered in
    let o = c.requires.ready.0 in let rec = c.requires.ready.1 in let back = c.requires.ready.2 in
    let same = back.same in let lanes = c.hold_all.new.opening.lanes in
    let held : AreHeld state shared n.owned.items r.scans.items n.lanes.items lanes.items = subst (λ (l : List Scan). AreHeld state shared n.owned.items l n.lanes.items lanes.items) c.deref.ensures.value c.hold_all.ensures.held in
    let want = ap (λ q. q.want) same in let view = ap (λ q. q.view) same in let present = ap (λ q. q.present) same in let label = ap (λ q. q.label) same in let most = ap (λ q. q.most) same in
    let all = gs tells state shared o n want view present label most r rec c.len-few.ensures.valid lanes.items held in
    let gathered_ = gathered tells state shared o n want view present label most r rec c.len-few.ensures.valid lanes.items held in
    let ready = is_ready state shared n r lanes all gathered_ in
    record {
      few = ready.ready.few;
      ready = subst (λ (q : Opening g.row.D.Denot). IsReady state (opened q.want.id q.home q.spindle lanes r.index r.next q.most)) (sym c.hold_all.ensures.same) ready;
    }

pub returns-clause-opens : goal.returns-clause-opens
returns-clause-opens g c o rec back =
    let tells = g.D.Disk.tells in let state = g.D.Disk.state in let shared = c.args.shared.now in let n = c.args.opening in let r = c.args.recovered in
    let same = back.same in let lanes = c.hold_all.new.opening.lanes in
    let held : AreHeld state shared n.owned.items r.scans.items n.lanes.items lanes.items = subst (λ (l : List Scan). AreHeld state shared n.owned.items l n.lanes.items lanes.items) c.deref.ensures.value c.hold_all.ensures.held in
    let want = ap (λ q. q.want) same in let view = ap (λ q. q.view) same in let present = ap (λ q. q.present) same in let label = ap (λ q. q.label) same in let most = ap (λ q. q.most) same in
    let stands = opens_as tells state shared o n want view present label most r rec c.len-few.ensures.valid lanes held (λ p. g.met.D.Disk.sound (disk_of p)) (λ t p. g.met.D.Disk.told t (disk_of p)) back tells refl in
    let value : c.new.result ≡ opened n.want.id n.home n.spindle lanes r.index r.next n.most =
    c.new.ensures.value ∙ ap (λ (q : Opening g.row.D.Denot). opened q.want.id q.home q.spindle lanes r.index r.next q.most) c.hold_all.ensures.same in
    subst (Opens tells state shared o) (sym value) stands

pub returns-clause-calm : goal.returns-clause-calm
returns-clause-calm g c o can rec =
    let state = g.D.Disk.state in let n = c.args.opening in let r = c.args.recovered in let lanes = c.hold_all.new.opening.lanes in
    let held : AreHeld state c.args.shared.now n.owned.items r.scans.items n.lanes.items lanes.items = subst (λ (l : List Scan). AreHeld state c.args.shared.now n.owned.items l n.lanes.items lanes.items) c.deref.ensures.value c.hold_all.ensures.held in
    let value : c.new.result ≡ opened n.want.id n.home n.spindle lanes r.index r.next n.most =
    c.new.ensures.value ∙ ap (λ (q : Opening g.row.D.Denot). opened q.want.id q.home q.spindle lanes r.index r.next q.most) c.hold_all.ensures.same in
    subst (NoneRoseAtOpening state o) (sym value)
    (record { home = rec.home_calm; held = held_calm state c.args.shared.now o n.owned.items rec.read rec.scans r.scans.items n.lanes.items lanes.items can.in_order rec.left rec.same rec.settled_ held })
