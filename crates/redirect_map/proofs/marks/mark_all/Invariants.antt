use Rattle.std.proofs.Common.{◌≡◌, ◌≤◌, ◌+◌, ◌==◌, ℕ, not, take, drop}
use Rattle.std.specs.List.{count_by}
use Rattle.redirect_map.specs.Marks.{mask_in, mask_of}
use Rattle.redirect_map.proofs.marks.mark_all.Given as goal

abbrev pub invariant-loop-place : goal.invariant-loop-place
invariant-loop-place l = record {
  masks : (v : ℕ) → mask_of l.marks v ≡ mask_in (take l.place l.versions) (take l.place l.masks) v;
  room : l.initial.marks.room + count_by (λ m. not (m == 0)) (drop l.place l.masks) ≤ l.marks.room + count_by (λ m. not (m == 0)) l.masks;
}
