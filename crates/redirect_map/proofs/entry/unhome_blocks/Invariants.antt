use Rattle.std.proofs.Common.{◌≡◌, ◌+◌, ◌&&◌, nat_lt}
use Rattle.std.specs.List.{AllZip}
use Rattle.block_cells.specs.Masks.{in_mask}
use Rattle.redirect_map.specs.Kept.{IsWithout}
use Rattle.redirect_map.proofs.entry.unhome_blocks.Given as goal

-- the blocks so far are homed no more
abbrev pub invariant-loop-i : goal.invariant-loop-i
invariant-loop-i l =
    AllZip (IsWithout (λ b. in_mask l.newer.lbn l.newer.keep b && nat_lt b (l.newer.lbn + l.i))) l.initial.entries.items l.entries.items
    × (l.entries.room ≡ l.initial.entries.room)
