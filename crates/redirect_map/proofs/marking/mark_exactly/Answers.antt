use Rattle.std.proofs.Common.{nat_eq, sym, ◌∙◌}
use Rattle.std.specs.HashMap.{get}
use Rattle.redirect_map.specs.Marks.{mask_of}
use Rattle.redirect_map.specs.Kept.{is_version}
use Rattle.redirect_map.proofs.Answering.{find_range}
use Rattle.redirect_map.proofs.Marked.{marks_exact}
use Rattle.redirect_map.proofs.marking.mark_exactly.Goals as goal

pub mask_under-requires-clause-entry : goal.mask_under-requires-clause-entry
mask_under-requires-clause-entry c = find_range (is_version c.args.version) c.args.entries.now.items c.in-Some.entry c.requires.entries.ranges (sym c.get.ensures ∙ c.in-Some.is)

pub returns : goal.returns
returns c = record {
  marked = marks_exact c.args.entries.now.items (get nat_eq c.args.blocks.now) (mask_of c.args.marks.now) (mask_of c.set.new.self) c.args.version c.mask_under.result c.in-Some.entry c.requires.entries.rising
      (sym c.get.ensures ∙ c.in-Some.is) c.set.ensures.masks c.mask_under.ensures c.requires.marked;
  room = c.set.ensures.room;
}
