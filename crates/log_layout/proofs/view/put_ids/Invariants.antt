use Rattle.std.proofs.Common.{◌≡◌, ℕ, ◌-◌, ◌*◌, List, ◌++◌, length, take, replicate}
use Rattle.std.specs.List.{flat_map}
use Rattle.byteorder.specs.Endian.{little_bytes}
use Rattle.log_layout.proofs.view.put_ids.Given as goal

abbrev pub invariant-loop-i : goal.invariant-loop-i
invariant-loop-i l =
    (front : List ℕ) → length front ≡ 12 → l.initial.b ≡ front ++ replicate 500 0
    → l.b ≡ front ++ flat_map (little_bytes 4) (take l.i l.ids) ++ replicate (500 - 4 * l.i) 0
