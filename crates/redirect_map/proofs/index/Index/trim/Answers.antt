use Rattle.std.proofs.Common.{◌≡◌, ◌+◌, ℕ, true, List, ◌∙◌, sym, ap, subst, map, arith, nat_eq, set, bit_and}
use Rattle.std.specs.HashMap.{get}
use Rattle.std.specs.List.{remove}
use Rattle.std.specs.Option.{ForSome}
use Rattle.wol_model.specs.Log.{has_bit}
use Rattle.wol_model.specs.Index.{listed_in, goes}
use Rattle.redirect_map.specs.declared.entry.Entry.{Entry}
use Rattle.redirect_map.specs.Cells.{cell_of}
use Rattle.redirect_map.specs.Index.{Contents, HasVersion, entry_at}
use Rattle.redirect_map.specs.Kept.{seen, AreEntries, NoneHomed}
use Rattle.redirect_map.proofs.Answering.{is_there, range_at}
use Rattle.redirect_map.proofs.Changing.{trimmed, entries_trimmed, changed_trimmed, entries_removed, changed_removed}
use Rattle.redirect_map.proofs.Tabling.{all_less, cell_emptied, cell_trimmed, mask_fits}
use Rattle.std.specs.Int.{bit_not, w128}
use Rattle.std.specs.Int.Bits.{and_zero_l}
use Rattle.redirect_map.proofs.Without.{none_homed_at, none_homed_removed, none_homed_set}
use Rattle.redirect_map.specs.Marks.{mask_of}
use Rattle.redirect_map.specs.Marked.{there_bit, AreMarked}
use Rattle.redirect_map.proofs.Marked.{get_set_here, marks_set, marks_removed, others_less}
use Rattle.redirect_map.proofs.Dues.{alone_few}
use Rattle.redirect_map.specs.Listing.{place_in}
use Rattle.redirect_map.proofs.index.Index.trim.Goals as goal

pub listed-entry-requires-clause-there : goal.listed-entry-requires-clause-there
listed-entry-requires-clause-there c = subst (λ (v : Contents). HasVersion v.entries c.args.version) (sym c.self.view_is) c.requires.there

pub remove-requires : goal.remove-requires
remove-requires c = is_there c.self.inside.entries.items c.args.version (subst (λ (v : Contents). HasVersion v.entries c.args.version) (sym c.self.view_is) c.requires.there)

pub replace-requires-clause-there : goal.replace-requires-clause-there
replace-requires-clause-there c = is_there c.self.inside.entries.items c.args.version (subst (λ (v : Contents). HasVersion v.entries c.args.version) (sym c.self.view_is) c.requires.there)

pub replace-requires-clause-same : goal.replace-requires-clause-same
replace-requires-clause-same c = c.listed-entry.ensures.at.version_is

table_removed : (c : goal.After-remove) → (b : ℕ) → get nat_eq c.uncover.new.blocks b ≡ cell_of (remove c.self.inside.entries.items (place_in c.args.version c.self.inside.entries.items)) b
table_removed c = all_less (get nat_eq c.self.inside.blocks) (get nat_eq c.uncover.new.blocks) c.self.inside.entries.items (remove c.self.inside.entries.items (place_in c.args.version c.self.inside.entries.items)) c.listed-entry.result.record.lbn c.args.mask c.self.invariant.1 c.uncover.ensures.cells
    (λ b. cell_emptied c.self.inside.entries.items c.args.version (place_in c.args.version c.self.inside.entries.items) c.listed-entry.result c.args.mask b c.self.invariant.0 c.listed-entry.ensures.at (subst (λ (v : Contents). ForSome (entry_at v.entries c.args.version) (λ e. (i : ℕ) → has_bit c.args.mask i ≡ true → goes (listed_in v.entries) e.listed (e.listed.first + i) ≡ true)) (sym c.self.view_is) c.requires.goes) (omega arith) c.if-entry-eq0.true)

pub invariant_of-self : goal.invariant_of-self
invariant_of-self c =
    let at = c.listed-entry.ensures.at in
    let same = c.remove.ensures.items in (
      subst AreEntries (sym same) (entries_removed c.self.inside.entries.items (place_in c.args.version c.self.inside.entries.items) c.self.invariant.0),
      subst (λ (es : List Entry). (b : ℕ) → get nat_eq c.uncover.new.blocks b ≡ cell_of es b) (sym same) (table_removed c),
      subst (λ (es : List Entry). AreMarked es (get nat_eq c.uncover.new.blocks) (mask_of c.set.new.self)) (sym same)
          (marks_removed c.self.inside.entries.items (get nat_eq c.uncover.new.blocks) (mask_of c.mark_given_up.new.marks) (mask_of c.set.new.self) (place_in c.args.version c.self.inside.entries.items) c.args.version 0 c.listed-entry.result
          c.self.invariant.0.rising at.at at.version_is c.set.ensures.masks
          (λ j d i found there. others_less c.self.inside.entries.items (remove c.self.inside.entries.items (place_in c.args.version c.self.inside.entries.items)) (get nat_eq c.self.inside.blocks) (get nat_eq c.uncover.new.blocks) (mask_of c.self.inside.marks) (mask_of c.mark_given_up.new.marks) c.listed-entry.result.record.lbn c.args.mask j i d c.self.invariant.2 c.mark_given_up.ensures.more c.mark_given_up.ensures.begun c.uncover.ensures.cells (table_removed c) found there)),
      (λ is. subst NoneHomed (sym same) (none_homed_removed c.self.inside.entries.items (place_in c.args.version c.self.inside.entries.items) (c.self.invariant.3 is))),
    )

pub invariant_of-self-else-entry-eq0 : goal.invariant_of-self-else-entry-eq0
unfolding trimmed
invariant_of-self-else-entry-eq0 c =
    let at = c.listed-entry.ensures.at in
    let table = all_less (get nat_eq c.self.inside.blocks) (get nat_eq c.uncover.new.blocks) c.self.inside.entries.items (set c.self.inside.entries.items (place_in c.args.version c.self.inside.entries.items) (trimmed c.listed-entry.result c.args.mask)) c.listed-entry.result.record.lbn c.args.mask c.self.invariant.1 c.uncover.ensures.cells
    (λ b. cell_trimmed c.self.inside.entries.items c.args.version (place_in c.args.version c.self.inside.entries.items) c.listed-entry.result c.args.mask b c.self.invariant.0 at (subst (λ (v : Contents). ForSome (entry_at v.entries c.args.version) (λ e. (i : ℕ) → has_bit c.args.mask i ≡ true → goes (listed_in v.entries) e.listed (e.listed.first + i) ≡ true)) (sym c.self.view_is) c.requires.goes) (omega arith)) in
    let same = c.replace.ensures.items in (
      subst AreEntries (sym same) (entries_trimmed c.self.inside.entries.items (place_in c.args.version c.self.inside.entries.items) c.listed-entry.result c.args.mask c.self.invariant.0 at.at (omega arith) (omega arith)),
      subst (λ (es : List Entry). (b : ℕ) → get nat_eq c.uncover.new.blocks b ≡ cell_of es b) (sym same) table,
      subst (λ (es : List Entry). AreMarked es (get nat_eq c.uncover.new.blocks) (mask_of c.set-else-entry-eq0.new.self)) (sym same) (marks_set c.self.inside.entries.items (get nat_eq c.uncover.new.blocks) (mask_of c.mark_given_up.new.marks) (mask_of c.set-else-entry-eq0.new.self) (place_in c.args.version c.self.inside.entries.items) c.args.version c.exact_mask.result c.listed-entry.result (trimmed c.listed-entry.result c.args.mask)
          c.self.invariant.0.rising at.at at.version_is at.version_is (ap (λ (v : ℕ). has_bit (mask_of c.mark_given_up.new.marks v) there_bit) (sym at.version_is) ∙ c.mark_given_up.ensures.more c.listed-entry.result.record.version there_bit (c.self.invariant.2 (place_in c.args.version c.self.inside.entries.items) c.listed-entry.result at.at).there)
          c.set-else-entry-eq0.ensures.masks c.exact_mask.ensures
          (λ j d found there. others_less c.self.inside.entries.items (set c.self.inside.entries.items (place_in c.args.version c.self.inside.entries.items) (trimmed c.listed-entry.result c.args.mask)) (get nat_eq c.self.inside.blocks) (get nat_eq c.uncover.new.blocks) (mask_of c.self.inside.marks) (mask_of c.mark_given_up.new.marks) c.listed-entry.result.record.lbn c.args.mask j j d c.self.invariant.2 c.mark_given_up.ensures.more c.mark_given_up.ensures.begun c.uncover.ensures.cells table found there)),
      (λ is. subst NoneHomed (sym same) (none_homed_set c.self.inside.entries.items (place_in c.args.version c.self.inside.entries.items) (trimmed c.listed-entry.result c.args.mask) (c.self.invariant.3 is)
          (ap (λ (m : ℕ). bit_and m (bit_not w128 c.args.mask)) (none_homed_at c.self.inside.entries.items (place_in c.args.version c.self.inside.entries.items) c.listed-entry.result (c.self.invariant.3 is) at.at) ∙ and_zero_l (bit_not w128 c.args.mask)))),
    )

pub mark_given_up-requires-clause-mask : goal.mark_given_up-requires-clause-mask
mark_given_up-requires-clause-mask c = mask_fits c.self.inside.entries.items c.args.version (place_in c.args.version c.self.inside.entries.items) c.listed-entry.result c.args.mask c.self.invariant.0 c.listed-entry.ensures.at (subst (λ (v : Contents). ForSome (entry_at v.entries c.args.version) (λ e. (i : ℕ) → has_bit c.args.mask i ≡ true → goes (listed_in v.entries) e.listed (e.listed.first + i) ≡ true)) (sym c.self.view_is) c.requires.goes)

pub returns-then-entry-eq0-clause-entries : goal.returns-then-entry-eq0-clause-entries
returns-then-entry-eq0-clause-entries c = rw (← c.self.view_is) (ap (map seen) c.remove.ensures.items ∙ changed_removed c.self.inside.entries.items c.args.version (place_in c.args.version c.self.inside.entries.items) c.listed-entry.result c.args.mask c.self.invariant.0 c.listed-entry.ensures.at (omega arith) c.if-entry-eq0.true)

pub returns-else-entry-eq0-clause-entries : goal.returns-else-entry-eq0-clause-entries
unfolding trimmed
returns-else-entry-eq0-clause-entries c = rw (← c.self.view_is) (ap (map seen) c.replace.ensures.items ∙ changed_trimmed c.self.inside.entries.items c.args.version (place_in c.args.version c.self.inside.entries.items) c.listed-entry.result c.args.mask c.self.invariant.0 c.listed-entry.ensures.at (omega arith) (omega arith))

pub uncover-requires-clause-mask : goal.uncover-requires-clause-mask
uncover-requires-clause-mask c = mask_fits c.self.inside.entries.items c.args.version (place_in c.args.version c.self.inside.entries.items) c.listed-entry.result c.args.mask c.self.invariant.0 c.listed-entry.ensures.at (subst (λ (v : Contents). ForSome (entry_at v.entries c.args.version) (λ e. (i : ℕ) → has_bit c.args.mask i ≡ true → goes (listed_in v.entries) e.listed (e.listed.first + i) ≡ true)) (sym c.self.view_is) c.requires.goes)

pub exact_mask-requires : goal.exact_mask-requires
unfolding trimmed
exact_mask-requires c =
    let items = c.self.inside.entries.items in
    let place = place_in c.args.version items in
    let at = c.listed-entry.ensures.at in
    range_at (set items place (trimmed c.listed-entry.result c.args.mask)) place (trimmed c.listed-entry.result c.args.mask)
    (entries_trimmed items place c.listed-entry.result c.args.mask c.self.invariant.0 at.at (omega arith) (omega arith))
    (get_set_here items place (trimmed c.listed-entry.result c.args.mask) c.listed-entry.result at.at)

pub mark_given_up-requires-clause-alone : goal.mark_given_up-requires-clause-alone
mark_given_up-requires-clause-alone c = alone_few c.self.inside.entries.items (get nat_eq c.self.inside.blocks) c.args.version (place_in c.args.version c.self.inside.entries.items) c.listed-entry.result c.args.mask c.self.invariant.0 c.self.invariant.1 c.listed-entry.ensures.at (subst (λ (v : Contents). ForSome (entry_at v.entries c.args.version) (λ e. (i : ℕ) → has_bit c.args.mask i ≡ true → goes (listed_in v.entries) e.listed (e.listed.first + i) ≡ true)) (sym c.self.view_is) c.requires.goes)

pub uncover-requires-clause-alone : goal.uncover-requires-clause-alone
uncover-requires-clause-alone c = alone_few c.self.inside.entries.items (get nat_eq c.self.inside.blocks) c.args.version (place_in c.args.version c.self.inside.entries.items) c.listed-entry.result c.args.mask c.self.invariant.0 c.self.invariant.1 c.listed-entry.ensures.at (subst (λ (v : Contents). ForSome (entry_at v.entries c.args.version) (λ e. (i : ℕ) → has_bit c.args.mask i ≡ true → goes (listed_in v.entries) e.listed (e.listed.first + i) ≡ true)) (sym c.self.view_is) c.requires.goes)
