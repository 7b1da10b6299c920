-- Laws of traces: where the pieces of a line lie, and what windows are.
use Rattle.std.specs.Prelude.{◌≡◌, ◌<◌, ◌≤◌, ◌+◌, ◌==◌, ℕ, List, Option, length, if◌then◌else◌, sum_by}
use Rattle.std.specs.List.{AllByRecursion, flat_map}
use Rattle.wol_model.specs.declared.trace.Piece.{Piece}
use Rattle.wol_model.specs.Trace.{TraceLine, Target, Timed, Window, pieces, blocks_touched, pieces_of, timed, started, windows}

-- a piece has a block, at most so many, and lies in a volume of `home` blocks
pub record LiesIn (home most : ℕ) (p : Piece) : Type 0 where
  pub some : 0 < p.count
  pub short : p.count ≤ most
  pub within : p.lbn + p.count ≤ home

-- each piece of a line lies in its volume
abbrev pub PiecesLie : Type 0
PiecesLie = (home most : ℕ) (l : TraceLine) → 1 ≤ home → 1 ≤ most
    → AllByRecursion (LiesIn home most) (pieces home most l)

-- together they are the blocks that the line touches
abbrev pub PiecesCover : Type 0
PiecesCover = (home most : ℕ) (l : TraceLine) → 1 ≤ home → 1 ≤ most
    → sum_by (λ (p : Piece). p.count) (pieces home most l)
    ≡ (if l.size == 0 then 0 else blocks_touched l)

-- a window begins with its first line; the others come within a second and are fewer than 4,096,
-- and with more than one line it has at most 65,536 pieces
pub record IsWindow (cost : Timed → ℕ) (w : Window) : Type 0 where
  pub some : 0 < length w.lines
  pub begins : started w.lines ≡ w.moment
  pub few : length w.lines ≤ 4096
  pub soon : AllByRecursion (λ (l : Timed). l.time < w.moment + 10000000) w.lines
  pub counted : sum_by cost w.lines ≡ w.pieces
  pub bounded : 1 < length w.lines → w.pieces ≤ 65536

-- the windows have the lines of the trace, each once and in order
abbrev pub WindowsHaveAll : Type 0
WindowsHaveAll = (most : ℕ) (targets : List Target) (lines : List (Option TraceLine))
    → flat_map (λ (w : Window). w.lines) (windows most targets lines) ≡ timed lines

-- each window of a trace is as the rules of windows say
abbrev pub WindowsAre : Type 0
WindowsAre = (most : ℕ) (targets : List Target) (lines : List (Option TraceLine))
    → AllByRecursion (IsWindow (pieces_of most targets)) (windows most targets lines)
