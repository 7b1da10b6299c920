use Rattle.wol_disk.specs.Disk.{Rose}
use Rattle.spin_model.specs.declared.spun.Spun.{Spun}
use Rattle.manager_recovery.specs.Recovery.{IsIndexOf, IsIndexRefusal}
use Rattle.manager_recovery.specs.Refused.{Refuses, HandsBackAll}
use Rattle.manager_recovery.specs.Scanned.{IsSeenAgain, all_found, next_of}
use Rattle.manager_recovery.proofs.BackRead.{versions_below, recoverable, recoverable_again, index_refuses, is_recovered}
use Rattle.std.proofs.Common.{◌≡◌, ◌+◌, ◌-◌, ◌<◌, ◌≤◌, ◌^◌, List, refl, sym, ap, subst, ◌∙◌, arith}
use Rattle.std.specs.List.{AllByRecursion}
use Rattle.spin_model.specs.Spun.{state_of}
use Rattle.log_scan.specs.declared.Found.{Found}
use Rattle.log_scan.specs.declared.Scan.{Scan}
use Rattle.manager_recovery.specs.Opening.{IsOwned}
use Rattle.manager_recovery.specs.declared.opening.OwnedPart.{OwnedPart}
use Rattle.manager_recovery.specs.declared.opening.Opening.{Opening}
use Rattle.manager_recovery.proofs.Lists.{all_map, zip_map}
use Rattle.manager_recovery.proofs.ScanAll.{names_after}
use Rattle.manager_recovery.specs.Left.{IsSameOwned}
use Rattle.manager_recovery.proofs.Recovering.{read_hands_back, handed_early, handed_read, handed_thinned, rose_back}
use Rattle.manager_recovery.proofs.ScanAll.{at_start}
use Rattle.manager_recovery.proofs.volume.recover.Goals as goal

pub returns-in-Some-clause-parts : goal.returns-in-Some-clause-parts
returns-in-Some-clause-parts g c =
    let o = c.args.opening.now in
    handed_early g.D.Disk.tells g.D.Disk.state g.met.D.Disk.sound g.met.D.Disk.told c.args.shared.now o o c.requires.ready (at_start g.D.Disk.tells g.D.Disk.state g.met.D.Disk.sound c.args.shared.now o c.requires.ready).parts

pub returns-in-Err-clause-parts : goal.returns-in-Err-clause-parts
returns-in-Err-clause-parts g c =
    handed_early g.D.Disk.tells g.D.Disk.state g.met.D.Disk.sound g.met.D.Disk.told c.args.shared.now c.args.opening.now c.scan_all.new.opening c.requires.ready c.scan_all.ensures.parts

pub next_version-next-requires : goal.next_version-next-requires
next_version-next-requires g c =
    subst (AllByRecursion (λ (s : Scan). AllByRecursion (λ (f : Found). f.head.version < 2 ^ 63) s.records.items)) (sym c.deref.ensures.value)
    (versions_below g.D.Disk.tells g.D.Disk.state g.met.D.Disk.told c.args.shared.now c.args.opening.now c.scan_all.new.opening c.in-Ok.scans.items c.scan_all.ensures.parts c.in-Ok.ensures.ok)

pub index_of-requires-clause-named : goal.index_of-requires-clause-named
index_of-requires-clause-named g c = names_after g.D.Disk.state c.args.shared.now c.args.opening.now c.scan_all.new.opening c.scan_all.ensures.parts c.in_default.ensures

pub index_of-requires-clause-fits : goal.index_of-requires-clause-fits
index_of-requires-clause-fits g c =
    let n = c.scan_all.new.opening in
    all_map (IsOwned g.D.Disk.state n.lanes.items) (λ (o : OwnedPart _). o.first_block + (state_of g.D.Disk.state o.part).size < 2 ^ 64) (λ o own. let w : o.first_block + (state_of g.D.Disk.state o.part).size ≤ 2 ^ 64 - 1 = own.last in omega (arith, w)) n.owned.items c.in-Ok.ensures.ok.open_.owned

pub returns-in-Err-index_of-clause-parts : goal.returns-in-Err-index_of-clause-parts
returns-in-Err-index_of-clause-parts g c =
    handed_early g.D.Disk.tells g.D.Disk.state g.met.D.Disk.sound g.met.D.Disk.told c.args.shared.now c.args.opening.now c.scan_all.new.opening c.requires.ready c.scan_all.ensures.parts

pub returns-in-Err-index_of-clause-err : goal.returns-in-Err-index_of-clause-err
returns-in-Err-index_of-clause-err g c =
    index_refuses g.D.Disk.tells g.D.Disk.state g.met.D.Disk.told c.args.shared.now c.args.opening.now c.scan_all.new.opening c.in-Ok.scans.items c.scan_all.ensures.parts c.in-Ok.ensures.ok c.in_default.ensures c.scan_all.new.opening c.in-Err-index_of.refusal
    (subst (λ (l : List Scan). IsIndexRefusal (all_found c.scan_all.new.opening.view c.scan_all.new.opening.owned.items l) c.in-Err-index_of.refusal) c.deref-2.ensures.value c.in-Err-index_of.ensures.err)

pub returns-in_default-synced-clause-parts : goal.returns-in_default-synced-clause-parts
returns-in_default-synced-clause-parts g c =
    handed_read g.D.Disk.tells g.D.Disk.state g.met.D.Disk.sound g.met.D.Disk.told c.args.shared.now c.args.opening.now c.scan_all.new.opening c.sync_part-synced.new.part c.sync_part-synced.new.spindle c.scan_all.ensures.parts c.sync_part-synced.ensures.part c.sync_part-synced.ensures.same c.sync_part-synced.ensures.free c.sync_part-synced.ensures.settled c.sync_part-synced.ensures.accesses

pub returns-in_default-synced-clause-err : goal.returns-in_default-synced-clause-err
returns-in_default-synced-clause-err g c =
    let n = c.scan_all.new.opening in
    let home : n.home ≡ c.args.opening.now.home = ap (λ (x : Opening _). x.home) c.scan_all.ensures.parts.same in (
      c.in_default.ensures,
      ap (λ (x : Opening _). x.want.id) c.scan_all.ensures.parts.same,
      subst (λ (h : Spun _). Rose (state_of g.D.Disk.state h).faults (state_of g.D.Disk.state c.sync_part-synced.new.part).faults) home (c.in_default-synced.ensures.cause refl),
      recoverable g.D.Disk.tells g.D.Disk.state g.met.D.Disk.told c.args.shared.now c.args.opening.now c.scan_all.new.opening c.in-Ok.scans.items c.scan_all.ensures.parts c.in-Ok.ensures.ok c.in-Ok-index_of.index.entries
          (subst (λ (l : List Scan). IsIndexOf (all_found n.view n.owned.items l) c.in-Ok-index_of.index.entries) c.deref-2.ensures.value c.in-Ok-index_of.ensures.ok),
    )

pub retire_bare-requires-clause-named : goal.retire_bare-requires-clause-named
retire_bare-requires-clause-named g c = names_after g.D.Disk.state c.args.shared.now c.args.opening.now c.scan_all.new.opening c.scan_all.ensures.parts c.in_default.ensures

pub retire_bare-requires-clause-recoverable : goal.retire_bare-requires-clause-recoverable
retire_bare-requires-clause-recoverable g c =
    let n = c.scan_all.new.opening in
    recoverable_again g.D.Disk.tells g.D.Disk.state g.met.D.Disk.told c.args.shared.now c.args.opening.now n c.in-Ok.scans.items c.scan_all.ensures.parts c.in-Ok.ensures.ok c.sync_part-synced.new.part c.sync_part-synced.new.spindle c.in-Ok-index_of.index.entries
    (subst (λ (l : List Scan). IsIndexOf (all_found n.view n.owned.items l) c.in-Ok-index_of.index.entries) c.deref-2.ensures.value c.in-Ok-index_of.ensures.ok)

pub returns-in-Ok-retire_bare-clause-ok : goal.returns-in-Ok-retire_bare-clause-ok
returns-in-Ok-retire_bare-clause-ok g c =
    let n = c.scan_all.new.opening in
    is_recovered g.D.Disk.tells g.D.Disk.state g.met.D.Disk.told c.args.shared.now c.args.opening.now c.scan_all.new.opening c.in-Ok.scans.items c.scan_all.ensures.parts c.in-Ok.ensures.ok c.retire_bare.new.opening _ c.sync_part-synced.new.part c.sync_part-synced.new.spindle c.in_default.ensures
    (subst (λ (l : List Scan). IsIndexOf (all_found n.view n.owned.items l) c.in-Ok-index_of.index.entries) c.deref-2.ensures.value c.in-Ok-index_of.ensures.ok)
    (c.next_version-next.ensures.value ∙ ap (next_of 1) c.deref.ensures.value) c.in-Ok-synced.ensures.values c.in-Ok-synced.ensures.calm c.retire_bare.ensures.parts
    c.in-Ok-retire_bare.ensures.ok.0 c.in-Ok-retire_bare.ensures.ok.1 c.in-Ok-retire_bare.ensures.ok.2

pub returns-in-Ok-retire_bare-clause-parts : goal.returns-in-Ok-retire_bare-clause-parts
returns-in-Ok-retire_bare-clause-parts g c =
    handed_thinned g.D.Disk.tells g.D.Disk.state g.met.D.Disk.sound g.met.D.Disk.told c.args.shared.now c.args.opening.now c.scan_all.new.opening c.retire_bare.new.opening c.sync_part-synced.new.part c.sync_part-synced.new.spindle
    c.scan_all.ensures.parts c.in-Ok.ensures.ok.settled_ c.sync_part-synced.ensures.part c.sync_part-synced.ensures.same c.sync_part-synced.ensures.free c.sync_part-synced.ensures.settled c.sync_part-synced.ensures.accesses c.retire_bare.ensures.parts

pub returns-in-Err-retire_bare-clause-parts : goal.returns-in-Err-retire_bare-clause-parts
returns-in-Err-retire_bare-clause-parts g c =
    handed_thinned g.D.Disk.tells g.D.Disk.state g.met.D.Disk.sound g.met.D.Disk.told c.args.shared.now c.args.opening.now c.scan_all.new.opening c.retire_bare.new.opening c.sync_part-synced.new.part c.sync_part-synced.new.spindle
    c.scan_all.ensures.parts c.in-Ok.ensures.ok.settled_ c.sync_part-synced.ensures.part c.sync_part-synced.ensures.same c.sync_part-synced.ensures.free c.sync_part-synced.ensures.settled c.sync_part-synced.ensures.accesses c.retire_bare.ensures.parts

pub returns-in-Err-retire_bare-clause-err : goal.returns-in-Err-retire_bare-clause-err
returns-in-Err-retire_bare-clause-err g c =
    let w = c.in-Err-retire_bare.ensures.err in
    subst (Refuses g.D.Disk.tells g.D.Disk.state c.args.opening.now c.retire_bare.new.opening) (sym w.2) (
      c.in_default.ensures,
      rose_back g.D.Disk.tells g.D.Disk.state g.met.D.Disk.sound g.met.D.Disk.told c.args.shared.now c.args.opening.now c.scan_all.new.opening c.sync_part-synced.new.part c.sync_part-synced.new.spindle c.retire_bare.new.opening.owned.items w.0 w.1
          c.scan_all.ensures.parts.owned c.in-Ok.ensures.ok.settled_
          (recoverable g.D.Disk.tells g.D.Disk.state g.met.D.Disk.told c.args.shared.now c.args.opening.now c.scan_all.new.opening c.in-Ok.scans.items c.scan_all.ensures.parts c.in-Ok.ensures.ok c.in-Ok-index_of.index.entries
          (subst (λ (l : List Scan). IsIndexOf (all_found c.scan_all.new.opening.view c.scan_all.new.opening.owned.items l) c.in-Ok-index_of.index.entries) c.deref-2.ensures.value c.in-Ok-index_of.ensures.ok)) w.3,
    )

pub returns-in-Some-clause-whole : goal.returns-in-Some-clause-whole
returns-in-Some-clause-whole g c =
    let o = c.args.opening.now in
    read_hands_back g.D.Disk.state c.args.shared.now o o o c.in-Some.refusal (at_start g.D.Disk.tells g.D.Disk.state g.met.D.Disk.sound c.args.shared.now o c.requires.ready).parts refl

pub returns-in-Err-clause-whole : goal.returns-in-Err-clause-whole
returns-in-Err-clause-whole g c = read_hands_back g.D.Disk.state c.args.shared.now c.args.opening.now c.scan_all.new.opening c.scan_all.new.opening c.in-Err.refusal c.scan_all.ensures.parts refl

pub returns-in-Err-index_of-clause-whole : goal.returns-in-Err-index_of-clause-whole
returns-in-Err-index_of-clause-whole g c = read_hands_back g.D.Disk.state c.args.shared.now c.args.opening.now c.scan_all.new.opening c.scan_all.new.opening c.in-Err-index_of.refusal c.scan_all.ensures.parts refl

pub returns-in_default-synced-clause-whole : goal.returns-in_default-synced-clause-whole
returns-in_default-synced-clause-whole g c =
    zip_map (IsSeenAgain g.D.Disk.state) (IsSameOwned g.D.Disk.state) (λ x y seen. seen.same) c.args.opening.now.owned.items c.scan_all.new.opening.owned.items c.scan_all.ensures.parts.owned

pub returns-in-Err-retire_bare-clause-whole : goal.returns-in-Err-retire_bare-clause-whole
returns-in-Err-retire_bare-clause-whole g c =
    let w = c.in-Err-retire_bare.ensures.err in
    subst (HandsBackAll g.D.Disk.state c.args.opening.now c.retire_bare.new.opening) (sym w.2) tt
