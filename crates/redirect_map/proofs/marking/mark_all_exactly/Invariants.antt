use Rattle.std.proofs.Common.{◌≡◌, nat_eq}
use Rattle.std.specs.HashMap.{get}
use Rattle.redirect_map.specs.Marks.{mask_of}
use Rattle.redirect_map.specs.Marked.{AreMarked}
use Rattle.redirect_map.proofs.marking.mark_all_exactly.Given as goal

abbrev pub invariant-loop-version : goal.invariant-loop-version
invariant-loop-version l = record {
  marked : AreMarked l.entries.items (get nat_eq l.blocks) (mask_of l.marks);
  room : l.marks.room ≡ l.initial.marks.room;
}
