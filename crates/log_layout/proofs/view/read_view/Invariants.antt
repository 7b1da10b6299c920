use Rattle.std.proofs.Common.{◌≡◌, ℕ, ◌+◌, ◌*◌, ◌<◌, get_or, length, drop}
use Rattle.byteorder.specs.Endian.{little_number}
use Rattle.log_layout.proofs.view.read_view.Given as goal

abbrev pub invariant-loop-i : goal.invariant-loop-i
invariant-loop-i l = record {
  room : length l.ids ≡ 16;
  read : (k : ℕ) → k < l.i → get_or l.ids k 0 ≡ little_number 4 (drop (12 + 4 * k) l.b);
}
