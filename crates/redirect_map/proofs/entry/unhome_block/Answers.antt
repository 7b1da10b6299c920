use Rattle.std.proofs.Common.{◌∙◌, ◌-◌, ◌*◌, ◌%◌, ◌^◌, List, sym, ap, subst, Option, IsSome, is_some, eqb}
use Rattle.std.specs.List.{AllZip}
use Rattle.std.proofs.lemmas.Bool.{false≢true}
use Rattle.block_cells.specs.declared.blocks.Cell.{Cell}
use Rattle.redirect_map.specs.declared.entry.Entry.{Entry}
use Rattle.redirect_map.specs.Kept.{IsWithout}
use Rattle.redirect_map.specs.Listing.{place_in}
use Rattle.redirect_map.proofs.Answering.{range_at}
use Rattle.redirect_map.proofs.Celled.{cell_there}
use Rattle.redirect_map.proofs.Newest.{newest_found}
use Rattle.redirect_map.proofs.Listing.{newest_entry, found_at}
use Rattle.redirect_map.proofs.Without.{all_untouched, set_without, bit_within, cleared, cleared_without}
use Rattle.redirect_map.proofs.entry.unhome_block.Goals as goal

pub returns-in_default-clause-zip : goal.returns-in_default-clause-zip
returns-in_default-clause-zip c = all_untouched c.args.lbn c.args.entries.now.items c.requires.entries.live
    (sym (cell_there c.args.entries.now.items c.args.lbn) ∙ ap (λ (o : Option Cell). is_some o) (sym (c.requires.cells c.args.lbn) ∙ sym c.newest_of.ensures ∙ c.in_default.is))

pub returns-in_default-get-clause-zip : goal.returns-in_default-get-clause-zip
returns-in_default-get-clause-zip c = absurd (false≢true (subst (λ (o : Option Entry). IsSome o) (sym c.get.ensures ∙ c.in_default-get.is)
    (newest_found c.args.entries.now.items c.args.lbn c.in-Some.cell c.requires.entries (sym (c.requires.cells c.args.lbn) ∙ sym c.newest_of.ensures ∙ c.in-Some.is))))

pub overflow_sub-bit : goal.overflow_sub-bit
overflow_sub-bit c =
    let e = newest_entry c.args.entries.now.items c.args.lbn c.in-Some.cell c.in-Some-get.entry c.requires.entries (sym (c.requires.cells c.args.lbn) ∙ sym c.newest_of.ensures ∙ c.in-Some.is) (sym c.get.ensures ∙ c.in-Some-get.is) in
    (bit_within c.in-Some-get.entry c.args.lbn (range_at c.args.entries.now.items (place_in c.in-Some.cell.version c.args.entries.now.items) c.in-Some-get.entry c.requires.entries e.at) e.keeps_it).0

pub overflow_shl-entry : goal.overflow_shl-entry
overflow_shl-entry c =
    let e = newest_entry c.args.entries.now.items c.args.lbn c.in-Some.cell c.in-Some-get.entry c.requires.entries (sym (c.requires.cells c.args.lbn) ∙ sym c.newest_of.ensures ∙ c.in-Some.is) (sym c.get.ensures ∙ c.in-Some-get.is) in
    (bit_within c.in-Some-get.entry c.args.lbn (range_at c.args.entries.now.items (place_in c.in-Some.cell.version c.args.entries.now.items) c.in-Some-get.entry c.requires.entries e.at) e.keeps_it).1

pub replace-requires-clause-there : goal.replace-requires-clause-there
replace-requires-clause-there c = newest_found c.args.entries.now.items c.args.lbn c.in-Some.cell c.requires.entries (sym (c.requires.cells c.args.lbn) ∙ sym c.newest_of.ensures ∙ c.in-Some.is)

pub replace-requires-clause-same : goal.replace-requires-clause-same
replace-requires-clause-same c = (found_at c.args.entries.now.items c.in-Some.cell.version c.in-Some-get.entry (sym c.get.ensures ∙ c.in-Some-get.is)).version_is

pub replace-requires-clause-keeps : goal.replace-requires-clause-keeps
replace-requires-clause-keeps c =
    let e = newest_entry c.args.entries.now.items c.args.lbn c.in-Some.cell c.in-Some-get.entry c.requires.entries (sym (c.requires.cells c.args.lbn) ∙ sym c.newest_of.ensures ∙ c.in-Some.is) (sym c.get.ensures ∙ c.in-Some-get.is) in
    (range_at c.args.entries.now.items (place_in c.in-Some.cell.version c.args.entries.now.items) c.in-Some-get.entry c.requires.entries e.at).keeps

pub returns-clause-zip : goal.returns-clause-zip
unfolding cleared
returns-clause-zip c =
    let items = c.args.entries.now.items in
    let entry = c.in-Some-get.entry in
    let e = newest_entry items c.args.lbn c.in-Some.cell entry c.requires.entries (sym (c.requires.cells c.args.lbn) ∙ sym c.newest_of.ensures ∙ c.in-Some.is) (sym c.get.ensures ∙ c.in-Some-get.is) in
    subst (λ (es : List Entry). AllZip (IsWithout (λ b. eqb b c.args.lbn)) items es) (sym c.replace.ensures.items)
    (set_without items (place_in c.in-Some.cell.version items) entry (cleared entry (1 * 2 ^ (c.args.lbn - entry.record.lbn) % 2 ^ 128)) c.args.lbn e.at c.requires.entries.live e.keeps_it e.last
    (cleared_without entry c.args.lbn (range_at items (place_in c.in-Some.cell.version items) entry c.requires.entries e.at) e.keeps_it))
