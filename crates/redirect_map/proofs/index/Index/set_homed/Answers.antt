use Rattle.std.proofs.Common.{◌≡◌, ◌+◌, ℕ, true, false, List, map, sym, ap, subst, refl, ◌∙◌, set, nat_eq}
use Rattle.std.specs.Option.{ForSome}
use Rattle.wol_model.specs.Log.{has_bit}
use Rattle.wol_model.specs.Index.{listed_in, is_live}
use Rattle.redirect_map.specs.Index.{Contents, HasVersion, entry_at}
use Rattle.redirect_map.proofs.Answering.{is_there}
use Rattle.redirect_map.proofs.Changing.{homed_entry, entries_homed, changed_homed}
use Rattle.redirect_map.proofs.Celled.{cell_set_same}
use Rattle.std.specs.HashMap.{get}
use Rattle.redirect_map.specs.Marks.{mask_of}
use Rattle.redirect_map.specs.Cells.{AreTabled}
use Rattle.redirect_map.specs.declared.entry.Entry.{Entry}
use Rattle.redirect_map.specs.Kept.{seen, AreEntries, NoneHomed}
use Rattle.redirect_map.specs.Marked.{there_bit, AreMarked}
use Rattle.redirect_map.proofs.Answering.{range_at}
use Rattle.redirect_map.proofs.Marked.{get_set_here, marks_set}
use Rattle.redirect_map.specs.Listing.{place_in}
use Rattle.redirect_map.proofs.Without.{none_homed_set}
use Rattle.redirect_map.proofs.index.Index.set_homed.Goals as goal

pub listed-entry-requires-clause-there : goal.listed-entry-requires-clause-there
listed-entry-requires-clause-there c = subst (λ (v : Contents). HasVersion v.entries c.args.version) (sym c.self.view_is) c.requires.there

pub replace-requires-clause-there : goal.replace-requires-clause-there
replace-requires-clause-there c = is_there c.self.inside.entries.items c.args.version (subst (λ (v : Contents). HasVersion v.entries c.args.version) (sym c.self.view_is) c.requires.there)

pub replace-requires-clause-same : goal.replace-requires-clause-same
replace-requires-clause-same c = c.listed-entry.ensures.at.version_is

pub exact_mask-requires : goal.exact_mask-requires
unfolding homed_entry
exact_mask-requires c =
    let at = c.listed-entry.ensures.at in
    range_at (set c.self.inside.entries.items (place_in c.args.version c.self.inside.entries.items) (homed_entry c.listed-entry.result c.args.mask)) (place_in c.args.version c.self.inside.entries.items) (homed_entry c.listed-entry.result c.args.mask)
    (entries_homed c.self.inside.entries.items c.args.version (place_in c.args.version c.self.inside.entries.items) c.listed-entry.result c.args.mask c.self.invariant.0 at (subst (λ (v : Contents). ForSome (entry_at v.entries c.args.version) (λ e. (i : ℕ) → has_bit c.args.mask i ≡ true → is_live (listed_in v.entries) e.listed (e.listed.first + i) ≡ true)) (sym c.self.view_is) c.requires.live))
    (get_set_here c.self.inside.entries.items (place_in c.args.version c.self.inside.entries.items) (homed_entry c.listed-entry.result c.args.mask) c.listed-entry.result at.at)

pub invariant_of-self : goal.invariant_of-self
unfolding homed_entry
invariant_of-self c =
    let at = c.listed-entry.ensures.at in
    subst (λ (es : List Entry). AreEntries es × AreTabled es c.self.inside.blocks × AreMarked es (get nat_eq c.self.inside.blocks) (mask_of c.set.new.self) × (c.with_homes-self-inside.result ≡ false → NoneHomed es)) (sym c.replace.ensures.items) (
      entries_homed c.self.inside.entries.items c.args.version (place_in c.args.version c.self.inside.entries.items) c.listed-entry.result c.args.mask c.self.invariant.0 at (subst (λ (v : Contents). ForSome (entry_at v.entries c.args.version) (λ e. (i : ℕ) → has_bit c.args.mask i ≡ true → is_live (listed_in v.entries) e.listed (e.listed.first + i) ≡ true)) (sym c.self.view_is) c.requires.live),
      (λ b. c.self.invariant.1 b ∙ sym (cell_set_same c.self.inside.entries.items (place_in c.args.version c.self.inside.entries.items) c.listed-entry.result (homed_entry c.listed-entry.result c.args.mask) b at.at refl refl)),
      marks_set c.self.inside.entries.items (get nat_eq c.self.inside.blocks) (mask_of c.self.inside.marks) (mask_of c.set.new.self) (place_in c.args.version c.self.inside.entries.items) c.args.version c.exact_mask.result c.listed-entry.result (homed_entry c.listed-entry.result c.args.mask)
          c.self.invariant.0.rising at.at at.version_is at.version_is (ap (λ (v : ℕ). has_bit (mask_of c.self.inside.marks v) there_bit) (sym at.version_is) ∙ (c.self.invariant.2 (place_in c.args.version c.self.inside.entries.items) c.listed-entry.result at.at).there)
          c.set.ensures.masks c.exact_mask.ensures (λ j d found there. c.self.invariant.2 j d there),
      (λ is. none_homed_set c.self.inside.entries.items (place_in c.args.version c.self.inside.entries.items) (homed_entry c.listed-entry.result c.args.mask) (c.self.invariant.3 (c.with_homes-self-inside.ensures.was is)) (c.with_homes-self-inside.ensures.none is)),
    )

pub returns-clause-entries : goal.returns-clause-entries
unfolding homed_entry
returns-clause-entries c = rw (← c.self.view_is) (ap (map seen) c.replace.ensures.items ∙ changed_homed c.self.inside.entries.items c.args.version (place_in c.args.version c.self.inside.entries.items) c.listed-entry.result c.args.mask c.self.invariant.0 c.listed-entry.ensures.at)
