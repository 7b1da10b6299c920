use Rattle.std.proofs.Common.{◌≡◌, ◌+◌, ℕ, true, ◌&&◌, nat_lt, nat_eq}
use Rattle.std.specs.HashMap.{get}
use Rattle.redirect_map.specs.Marks.{IsWithin, mask_of}
use Rattle.block_cells.specs.Masks.{in_mask}
use Rattle.redirect_map.specs.Marked.{AreBegun}
use Rattle.redirect_map.proofs.marking.mark_blocks.Given as goal

-- the blocks so far
abbrev pub invariant-loop-i : goal.invariant-loop-i
invariant-loop-i l = record {
  more : (v : ℕ) → IsWithin (mask_of l.initial.marks v) (mask_of l.marks v);
  begun : (b : ℕ) → (in_mask l.first l.mask b && nat_lt b (l.first + l.i)) ≡ true → AreBegun l.covered l.entries.items (get nat_eq l.blocks) (mask_of l.marks) b;
  room : l.marks.room ≡ l.initial.marks.room;
}
