use Rattle.std.proofs.Common.{◌≡◌, nat_eq, ℕ, true, false, ◌<◌, ◌≤◌, ◌∙◌, refl, sym, ap, subst, map, length, arith, [], ◌∷◌}
use Rattle.std.specs.HashMap.{get}
use Rattle.std.proofs.lemmas.List.{length-append}
use Rattle.std.specs.List.{AllByRecursion, AllZip, list_any, range_with_len}
use Rattle.wol_model.specs.Log.{marks_of}
use Rattle.wol_model.specs.Index.{Indexed, listed_in, is_covered}
use Rattle.block_cells.specs.Runs.{runs_of}
use Rattle.block_cells.specs.Masks.{in_mask}
use Rattle.redirect_map.specs.Index.{Contents}
use Rattle.redirect_map.specs.Kept.{seen, one_keeps, IsUnhomed, AreEntries, NoneHomed}
use Rattle.redirect_map.proofs.Adding.{new_entry, below_new, some_run, entries_added, seen_added}
use Rattle.redirect_map.proofs.Tabling.{all_added}
use Rattle.redirect_map.proofs.Without.{unhomed_apart, none_homed_added}
use Rattle.redirect_map.proofs.Celled.{keepers_few}
use Rattle.redirect_map.specs.Marks.{mask_of}
use Rattle.redirect_map.proofs.Marked.{marks_added, nothing_begun}
use Rattle.redirect_map.proofs.Dues.{apart_keeps, apart_none}
use Rattle.redirect_map.proofs.index.Index.add_apart.Goals as goal

pub push-requires : goal.push-requires
push-requires c =
    let room = subst (λ (v : Contents). runs_of (marks_of c.args.entry.count c.args.entry.keep) ≤ v.reserved) (sym c.self.view_is) c.requires.can.reserved in
    let one = some_run c.args.entry c.requires.can.is_new in
    omega (arith, room, one)

pub push-requires-2-clause-newest : goal.push-requires-2-clause-newest
push-requires-2-clause-newest c = below_new c.args.entry c.self.inside.entries.items c.self.inside.entries.items
    (unhomed_apart c.args.entry c.self.inside.entries.items c.self.invariant.0.live (apart_keeps c.args.entry c.self.inside.entries.items c.self.invariant.0.ranges c.requires.can.is_new.keep_within (subst (λ (v : Contents). list_any (is_covered (listed_in v.entries)) (range_with_len c.args.entry.lbn c.args.entry.count) ≡ false) (sym c.self.view_is) c.requires.apart)))
    (subst (λ (v : Contents). AllByRecursion (λ (d : Indexed). d.listed.version < c.args.entry.version) v.entries) (sym c.self.view_is) c.requires.can.newest)

pub push-requires-2-clause-room : goal.push-requires-2-clause-room
push-requires-2-clause-room c =
    let room = subst (λ (v : Contents). runs_of (marks_of c.args.entry.count c.args.entry.keep) ≤ v.reserved) (sym c.self.view_is) c.requires.can.reserved in
    let one = some_run c.args.entry c.requires.can.is_new in
    omega (arith, room, one)

pub cover-requires-clause-spare : goal.cover-requires-clause-spare
cover-requires-clause-spare c =
    let room = subst (λ (v : Contents). runs_of (marks_of c.args.entry.count c.args.entry.keep) ≤ v.reserved) (sym c.self.view_is) c.requires.can.reserved in
    let one = some_run c.args.entry c.requires.can.is_new in
    omega (arith, room, one, c.requires.can.is_new.count)

pub cover-requires-clause-few : goal.cover-requires-clause-few
unfolding new_entry
cover-requires-clause-few c = λ b.
    let few = keepers_few c.self.inside.entries.items b in
    rw (c.self.invariant.1 b) (omega (arith, few, c.push-2.ensures.few, ap length c.push-2.ensures.items, length-append c.self.inside.entries.items (new_entry c.args.entry ∷ [])))

pub cover-requires-clause-fresh : goal.cover-requires-clause-fresh
cover-requires-clause-fresh c = λ fresh b on. apart_none c.self.inside.entries.items (get nat_eq c.self.inside.blocks) b c.self.invariant.1
    ((apart_keeps c.args.entry c.self.inside.entries.items c.self.invariant.0.ranges c.requires.can.is_new.keep_within (subst (λ (v : Contents). list_any (is_covered (listed_in v.entries)) (range_with_len c.args.entry.lbn c.args.entry.count) ≡ false) (sym c.self.view_is) c.requires.apart)) b on)

pub invariant_of-self : goal.invariant_of-self
unfolding new_entry
invariant_of-self c =
    let none : (b : ℕ) → in_mask c.args.entry.lbn c.args.entry.keep b ≡ true → one_keeps c.self.inside.entries.items b ≡ false = (apart_keeps c.args.entry c.self.inside.entries.items c.self.invariant.0.ranges c.requires.can.is_new.keep_within (subst (λ (v : Contents). list_any (is_covered (listed_in v.entries)) (range_with_len c.args.entry.lbn c.args.entry.count) ≡ false) (sym c.self.view_is) c.requires.apart)) in
    let zip : AllZip (IsUnhomed c.args.entry) c.self.inside.entries.items c.self.inside.entries.items = unhomed_apart c.args.entry c.self.inside.entries.items c.self.invariant.0.live none in
    let below : AllByRecursion (λ (d : Indexed). d.listed.version < c.args.entry.version) (map seen c.self.inside.entries.items) = (subst (λ (v : Contents). AllByRecursion (λ (d : Indexed). d.listed.version < c.args.entry.version) v.entries) (sym c.self.view_is) c.requires.can.newest) in (
      subst AreEntries (sym c.push-2.ensures.items) (entries_added c.args.entry c.self.inside.entries.items c.self.inside.entries.items c.self.invariant.0 zip c.requires.can.is_new below),
      all_added c.args.entry c.self.inside.entries.items c.self.inside.entries.items c.push-2.new.self.items (get nat_eq c.self.inside.blocks) (get nat_eq c.cover.new.blocks) zip c.push-2.ensures.items c.self.invariant.1 c.cover.ensures.cells,
      marks_added c.args.entry c.self.inside.entries.items c.self.inside.entries.items c.push-2.new.self.items (get nat_eq c.self.inside.blocks) (get nat_eq c.cover.new.blocks)
          (mask_of c.self.inside.marks) (mask_of c.self.inside.marks) (mask_of c.push.new.self) c.new_mask.result zip c.push-2.ensures.items below
          c.self.invariant.2 (λ v i on. on) (λ b on. nothing_begun true c.self.inside.entries.items (get nat_eq c.self.inside.blocks) (mask_of c.self.inside.marks) b (apart_none c.self.inside.entries.items (get nat_eq c.self.inside.blocks) b c.self.invariant.1 (none b on)))
          c.cover.ensures.cells c.push.ensures.masks c.new_mask.ensures.there c.new_mask.ensures.due,
      (λ is. subst NoneHomed (sym c.push-2.ensures.items) (none_homed_added c.self.inside.entries.items (new_entry c.args.entry) (c.self.invariant.3 is) refl)),
    )

pub returns : goal.returns
unfolding new_entry
returns c = record {
  entries = rw (← c.self.view_is) (ap (map seen) c.push-2.ensures.items ∙ seen_added c.args.entry c.self.inside.entries.items c.self.inside.entries.items c.requires.can.is_new
      (unhomed_apart c.args.entry c.self.inside.entries.items c.self.invariant.0.live (apart_keeps c.args.entry c.self.inside.entries.items c.self.invariant.0.ranges c.requires.can.is_new.keep_within (subst (λ (v : Contents). list_any (is_covered (listed_in v.entries)) (range_with_len c.args.entry.lbn c.args.entry.count) ≡ false) (sym c.self.view_is) c.requires.apart))));
  room =
      let one = some_run c.args.entry c.requires.can.is_new in
      rw (← c.self.view_is) (omega (arith, one, c.push-2.ensures.room, c.cover.ensures.spare, c.requires.can.is_new.count, c.push.ensures.room));
}
