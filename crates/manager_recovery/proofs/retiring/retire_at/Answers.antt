use Rattle.std.proofs.Common.{◌≡◌, List, insert, slice_set, Some, refl, sym, ap, subst, ◌∙◌}
use Rattle.std.proofs.lemmas.Option.{same_Some, none-some}
use Rattle.wol_disk.specs.Disk.{Block, Values, LeavesOnly, Rose}
use Rattle.spin_model.specs.Spun.{state_of, volume_of}
use Rattle.spin_model.specs.declared.spun.Spun.{Spun}
use Rattle.log_segment.specs.Segment.{part_of, disk_of}
use Rattle.log_segment.specs.declared.free.FreeSegment.{FreeSegment}
use Rattle.logger.proofs.Held.{there_get, insert-remove}
use Rattle.manager.specs.declared.part.Part.TheVariants as part
use Rattle.manager_recovery.specs.Left.{IsLeftOf, IsFateOf, Kept, Freed}
use Rattle.manager_recovery.specs.declared.opening.OwnedPart.{OwnedPart}
use Rattle.manager_recovery.specs.declared.refusal.OpenRefusal.TheVariants as refusal
use Rattle.manager_recovery.proofs.Retired.{none_kept, left_of}
use Rattle.manager_recovery.proofs.retiring.retire_at.Goals as goal

pub adopt-requires-clause-size : goal.adopt-requires-clause-size
adopt-requires-clause-size g c = c.requires.size c.remove-logger.result (there_get c.args.owned.now.items c.args.k c.remove-logger.result c.requires.within c.remove-logger.ensures.value)

pub adopt-requires-clause-shape : goal.adopt-requires-clause-shape
adopt-requires-clause-shape g c = (c.requires.scanned c.remove-logger.result (there_get c.args.owned.now.items c.args.k c.remove-logger.result c.requires.within c.remove-logger.ensures.value)).1.shape

pub adopt-requires-clause-scanned : goal.adopt-requires-clause-scanned
adopt-requires-clause-scanned g c = (c.requires.scanned c.remove-logger.result (there_get c.args.owned.now.items c.args.k c.remove-logger.result c.requires.within c.remove-logger.ensures.value)).1.scanned

pub unreachable-requires : goal.unreachable-requires
unreachable-requires g c =
    let scanned = (c.requires.scanned c.remove-logger.result (there_get c.args.owned.now.items c.args.k c.remove-logger.result c.requires.within c.remove-logger.ensures.value)).1 in
    none-some c.args.id (sym c.in-Free.ensures.free_owner ∙ scanned.owner)

pub free_segment-requires-clause-holds : goal.free_segment-requires-clause-holds
free_segment-requires-clause-holds g c = (c.requires.held c.remove-logger.result (there_get c.args.owned.now.items c.args.k c.remove-logger.result c.requires.within c.remove-logger.ensures.value)).holding

pub free_segment-requires-clause-bare : goal.free_segment-requires-clause-bare
free_segment-requires-clause-bare g c = c.in-Held.ensures.valid ∙ none_kept c.args.scan.now.records.items c.requires.bare

pub free_segment-requires-clause-volume : goal.free_segment-requires-clause-volume
free_segment-requires-clause-volume g c =
    ap (λ (p : Spun g.row.D.Denot). volume_of p) c.in-Held.ensures.part
    ∙ (c.requires.held c.remove-logger.result (there_get c.args.owned.now.items c.args.k c.remove-logger.result c.requires.within c.remove-logger.ensures.value)).volume

pub free_segment-requires-clause-blocks : goal.free_segment-requires-clause-blocks
free_segment-requires-clause-blocks g c =
    sym c.in-Held.ensures.held.size ∙ ap (λ (p : Spun g.row.D.Denot). (state_of g.D.Disk.state p).size) c.in-Held.ensures.part
    ∙ (c.requires.held c.remove-logger.result (there_get c.args.owned.now.items c.args.k c.remove-logger.result c.requires.within c.remove-logger.ensures.value)).blocks

pub returns-in-Ok-clause-kept : goal.returns-in-Ok-clause-kept
returns-in-Ok-clause-kept g c o i is other holds =
    let r = c.remove-logger.result in
    let same = same_Some r o (sym (there_get c.args.owned.now.items c.args.k r c.requires.within c.remove-logger.ensures.value) ∙ is) in
    c.free_segment.ensures.kept i (λ e. other (e ∙ ap (λ (q : OwnedPart g.row.D.Denot). q.index) same)) holds

pub returns-in-Ok-back-clause-kept : goal.returns-in-Ok-back-clause-kept
returns-in-Ok-back-clause-kept g c o i is other holds =
    let r = c.remove-logger.result in
    let same = same_Some r o (sym (there_get c.args.owned.now.items c.args.k r c.requires.within c.remove-logger.ensures.value) ∙ is) in
    c.free_segment.ensures.kept i (λ e. other (e ∙ ap (λ (q : OwnedPart g.row.D.Denot). q.index) same)) holds

pub returns-in-Ok-clause-ok : goal.returns-in-Ok-clause-ok
returns-in-Ok-clause-ok g c =
    let state = g.D.Disk.state in let id = c.args.id in let r = c.remove-logger.result in let a = c.in-Held.ensures in let seg = c.in-Held.segment in
    let there = there_get c.args.owned.now.items c.args.k r c.requires.within c.remove-logger.ensures.value in
    let scan = c.requires.scanned r there in
    let owner = same_Some seg.owner id (sym a.held_owner ∙ scan.1.owner) in
    let freed = c.in-Ok.ensures.ok in let f = freed.0 in
    let fate : IsFateOf state id r (Freed f) = record {
      same = (freed.1.free, freed.1.volume ∙ ap (λ (p : Spun g.row.D.Denot). volume_of p) a.part);
      any_moment = left_of state id scan.0 r c.args.scan.now scan.1 c.requires.bare seg a.part owner a.holds (state_of state f.part) freed.1.any_moment;
    } in
    (c.remove-logger.ensures.items, λ o is. let P : OwnedPart g.row.D.Denot → Type 0 = λ q. (x : FreeSegment g.row.D.Denot) × IsFateOf state id q (Freed x) in subst P (same_Some r o (sym there ∙ is)) (f, fate))

pub returns-in-Ok-back-clause-err : goal.returns-in-Ok-back-clause-err
returns-in-Ok-back-clause-err g c =
    let state = g.D.Disk.state in let id = c.args.id in let r = c.remove-logger.result in let a = c.in-Held.ensures in let seg = c.in-Held.segment in let items = c.args.owned.now.items in
    let there = there_get items c.args.k r c.requires.within c.remove-logger.ensures.value in
    let scan = c.requires.scanned r there in
    let owner = same_Some seg.owner id (sym a.held_owner ∙ scan.1.owner) in
    let un = c.in-Err.ensures.err in
    let into : c.into_part-part.result ≡ part_of c.in-Err.segment = c.into_part-part.ensures in
    let n : OwnedPart g.row.D.Denot = record { logger = r.logger; index = r.index; first_block = r.first_block; part = c.into_part-part.result } in
    let M : Spun g.row.D.Denot → Type 0 = λ p. (vs : List (Values Block)) → (state_of state r.part).values ≡ Some vs → LeavesOnly (state_of state r.part) (state_of state p) (IsLeftOf id (state_of state r.part).values) in
    let moments : M (part_of c.in-Err.segment) = left_of state id scan.0 r c.args.scan.now scan.1 c.requires.bare seg a.part owner a.holds (disk_of state c.in-Err.segment) un.any_moment in
    let fate : IsFateOf state id r (Kept n) = record {
      same = (
        refl,
        ap (λ (p : Spun g.row.D.Denot). volume_of p) into ∙ (un.same.volume ∙ ap (λ (p : Spun g.row.D.Denot). volume_of p) a.part),
        ap (λ (p : Spun g.row.D.Denot). (state_of state p).size) into ∙ (un.size ∙ ap (λ (p : Spun g.row.D.Denot). (state_of state p).size) a.part),
      );
      any_moment = subst M (sym into) moments;
    } in
    let was : Rose (state_of state r.part).faults (disk_of state c.in-Err.segment).faults = subst (λ (p : Spun g.row.D.Denot). Rose (state_of state p).faults (disk_of state c.in-Err.segment).faults) a.part un.rose in
    let rose : Rose (state_of state r.part).faults (state_of state n.part).faults = subst (λ (p : Spun g.row.D.Denot). Rose (state_of state r.part).faults (state_of state p).faults) (sym into) was in
    let back : c.insert-back.new.self.items ≡ slice_set items c.args.k n = c.in-Ok-back.ensures.items ∙ (ap (λ (xs : List (OwnedPart g.row.D.Denot)). insert xs c.args.k n) c.remove-logger.ensures.items ∙ insert-remove items c.args.k r n there) in
    λ o is.
    let P : OwnedPart g.row.D.Denot → Type 0 = λ q. (x : OwnedPart g.row.D.Denot) × (c.insert-back.new.self.items ≡ slice_set items c.args.k x) × IsFateOf state id q (Kept x)
    × (refusal.DiskFault (part.Segment r.logger r.index) ≡ refusal.DiskFault (part.Segment q.logger q.index)) × Rose (state_of state q.part).faults (state_of state x.part).faults in
    subst P (same_Some r o (sym there ∙ is)) (n, back, fate, refl, rose)
