use Rattle.std.proofs.Common.{Bool, cond, nat_eq, ◌<◌, ◌≤◌, ◌∙◌, refl, sym, ap, subst, map, length, arith, [], ◌∷◌}
use Rattle.std.specs.HashMap.{get}
use Rattle.std.proofs.lemmas.List.{length-append}
use Rattle.std.specs.List.{AllByRecursion}
use Rattle.wol_model.specs.Log.{marks_of}
use Rattle.wol_model.specs.Index.{Indexed}
use Rattle.block_cells.specs.Runs.{runs_of}
use Rattle.block_cells.specs.Cells.{one_covers, version_in}
use Rattle.redirect_map.specs.Index.{Contents}
use Rattle.redirect_map.specs.Kept.{seen, AreEntries, NoneHomed}
use Rattle.redirect_map.proofs.Adding.{new_entry, below_new, some_run, entries_added, seen_added, zip_length}
use Rattle.redirect_map.proofs.Tabling.{all_added}
use Rattle.redirect_map.proofs.Without.{none_homed_added}
use Rattle.redirect_map.proofs.Celled.{keepers_few}
use Rattle.redirect_map.specs.Marks.{mask_of}
use Rattle.redirect_map.proofs.Marked.{marks_added}
use Rattle.redirect_map.proofs.index.Index.add_over.Goals as goal

pub push-requires-2-clause-newest : goal.push-requires-2-clause-newest
push-requires-2-clause-newest c = below_new c.args.entry c.self.inside.entries.items c.unhome.new.entries.items c.unhome.ensures.zip (subst (λ (v : Contents). AllByRecursion (λ (d : Indexed). d.listed.version < c.args.entry.version) v.entries) (sym c.self.view_is) c.requires.newest)

pub push-requires-2-clause-room : goal.push-requires-2-clause-room
push-requires-2-clause-room c =
    let room = subst (λ (v : Contents). runs_of (marks_of c.args.entry.count c.args.entry.keep) ≤ v.reserved) (sym c.self.view_is) c.requires.reserved in
    let one = some_run c.args.entry c.requires.is_new in
    omega (arith, room, one, c.unhome.ensures.room)

pub mark_all_exactly-requires : goal.mark_all_exactly-requires
unfolding new_entry
mark_all_exactly-requires c = record {
  entries = subst AreEntries (sym c.push-2.ensures.items) (entries_added c.args.entry c.self.inside.entries.items c.unhome.new.entries.items c.self.invariant.0 c.unhome.ensures.zip c.requires.is_new (subst (λ (v : Contents). AllByRecursion (λ (d : Indexed). d.listed.version < c.args.entry.version) v.entries) (sym c.self.view_is) c.requires.newest));
  newer = λ b on. ap version_in (c.cover.ensures.cells b ∙ ap (λ (t : Bool). cond t (one_covers c.args.entry.version (get nat_eq c.self.inside.blocks b)) (get nat_eq c.self.inside.blocks b)) on);
  marked = marks_added c.args.entry c.self.inside.entries.items c.unhome.new.entries.items c.push-2.new.self.items (get nat_eq c.self.inside.blocks) (get nat_eq c.cover.new.blocks)
      (mask_of c.self.inside.marks) (mask_of c.mark_blocks.new.marks) (mask_of c.push.new.self) c.new_mask.result c.unhome.ensures.zip c.push-2.ensures.items
      (subst (λ (v : Contents). AllByRecursion (λ (d : Indexed). d.listed.version < c.args.entry.version) v.entries) (sym c.self.view_is) c.requires.newest)
      c.self.invariant.2 c.mark_blocks.ensures.more c.mark_blocks.ensures.begun c.cover.ensures.cells c.push.ensures.masks c.new_mask.ensures.there c.new_mask.ensures.due;
}

pub invariant_of-self : goal.invariant_of-self
unfolding new_entry
invariant_of-self c = (
  subst AreEntries (sym c.push-2.ensures.items) (entries_added c.args.entry c.self.inside.entries.items c.unhome.new.entries.items c.self.invariant.0 c.unhome.ensures.zip c.requires.is_new (subst (λ (v : Contents). AllByRecursion (λ (d : Indexed). d.listed.version < c.args.entry.version) v.entries) (sym c.self.view_is) c.requires.newest)),
  all_added c.args.entry c.self.inside.entries.items c.unhome.new.entries.items c.push-2.new.self.items (get nat_eq c.self.inside.blocks) (get nat_eq c.cover.new.blocks) c.unhome.ensures.zip c.push-2.ensures.items c.self.invariant.1 c.cover.ensures.cells,
  c.mark_all_exactly.ensures.marked,
  (λ is. subst NoneHomed (sym c.push-2.ensures.items) (none_homed_added c.unhome.new.entries.items (new_entry c.args.entry) (c.unhome.ensures.none is) refl)),
)

pub push-requires : goal.push-requires
push-requires c =
    let room = subst (λ (v : Contents). runs_of (marks_of c.args.entry.count c.args.entry.keep) ≤ v.reserved) (sym c.self.view_is) c.requires.reserved in
    let one = some_run c.args.entry c.requires.is_new in
    omega (arith, room, one, c.mark_blocks.ensures.room)

pub returns : goal.returns
unfolding new_entry
returns c = record {
  entries = rw (← c.self.view_is) (ap (map seen) c.push-2.ensures.items ∙ seen_added c.args.entry c.self.inside.entries.items c.unhome.new.entries.items c.requires.is_new c.unhome.ensures.zip);
  room =
      let one = some_run c.args.entry c.requires.is_new in
      rw (← c.self.view_is) (omega (arith, one, c.unhome.ensures.room, c.push-2.ensures.room, c.cover.ensures.spare, c.requires.is_new.count, c.push.ensures.room, c.mark_blocks.ensures.room, c.mark_all_exactly.ensures.room));
}

pub cover-requires-clause-spare : goal.cover-requires-clause-spare
cover-requires-clause-spare c =
    let room = subst (λ (v : Contents). runs_of (marks_of c.args.entry.count c.args.entry.keep) ≤ v.reserved) (sym c.self.view_is) c.requires.reserved in
    let one = some_run c.args.entry c.requires.is_new in
    omega (arith, room, one, c.requires.is_new.count)

pub cover-requires-clause-few : goal.cover-requires-clause-few
unfolding new_entry
cover-requires-clause-few c = λ b.
    let few = keepers_few c.self.inside.entries.items b in
    let same = zip_length c.args.entry c.self.inside.entries.items c.unhome.new.entries.items c.unhome.ensures.zip in
    rw (c.self.invariant.1 b) (omega (arith, few, same, c.push-2.ensures.few, ap length c.push-2.ensures.items, length-append c.unhome.new.entries.items (new_entry c.args.entry ∷ [])))
