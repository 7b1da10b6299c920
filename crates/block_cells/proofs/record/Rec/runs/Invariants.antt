use Rattle.std.proofs.Common.{◌≡◌, ◌+◌, ◌-◌, ◌≤◌, map}
use Rattle.std.specs.List.{range_with_len}
use Rattle.wol_model.specs.Log.{has_bit, marks_of}
use Rattle.block_cells.specs.Runs.{runs_of, runs_after}
use Rattle.block_cells.proofs.record.Rec.runs.Given as goal

-- what was counted and what is left to count; a run takes a block
abbrev pub invariant-loop-i : goal.invariant-loop-i
invariant-loop-i l =
    (l.runs + runs_after l.before (map (has_bit l.self.keep) (range_with_len l.i (l.self.count - l.i))) ≡ runs_of (marks_of l.self.count l.self.keep))
    × (l.runs ≤ l.i)
