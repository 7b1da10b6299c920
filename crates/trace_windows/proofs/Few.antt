-- How many requests a line has.
use Rattle.std.proofs.Common.{◌≡◌, ℕ, zero, suc, ◌+◌, ◌-◌, ◌/◌, ◌%◌, ◌≤◌, Bool, true, false, List, [], ◌∷◌, length, Some, arith}
use Rattle.std.specs.Prelude.{if◌then◌else◌, ◌==◌, min}
use Rattle.std.proofs.lemmas.List.{length-map}
use Rattle.wol_model.specs.declared.trace.Piece.{Piece}
use Rattle.wol_model.specs.Trace.{Target, TraceLine, blocks_touched, cut_run, home_of, pieces, requests_on}
use Rattle.msr_trace.specs.Lines.{Fits}

-- a line has no more pieces than blocks
few_cut : (fuel home most first count : ℕ) → length (cut_run fuel home most first count) ≤ fuel
few_cut zero home most first count = omega arith
few_cut (suc fuel) home most first count =
    go (count == 0) (few_cut fuel home most ((first + min count (min most (home - first))) % home) (count - min count (min most (home - first)))) where
      go : (b : Bool) → length (cut_run fuel home most ((first + min count (min most (home - first))) % home) (count - min count (min most (home - first)))) ≤ fuel
          → length (if b then [] else record { lbn = first; count = min count (min most (home - first)) } ∷ cut_run fuel home most ((first + min count (min most (home - first))) % home) (count - min count (min most (home - first)))) ≤ suc fuel
      go true few = omega arith
      go false few = omega (arith, few)

few_touched : (line : TraceLine) → Fits line → blocks_touched line ≤ 131073
few_touched line fits = omega (arith, fits.size)

pub few_pieces : (home most : ℕ) (line : TraceLine) → Fits line → length (pieces home most line) ≤ 131073
unfolding pieces
few_pieces home most line fits = go (line.size == 0) where
  go : (b : Bool) → length (if b then [] else cut_run (blocks_touched line) home most (line.offset / 512 % home) (blocks_touched line)) ≤ 131073
  go true = omega arith
  go false = omega (arith, few_cut (blocks_touched line) home most (line.offset / 512 % home) (blocks_touched line), few_touched line fits)

-- a request for each piece
pub one_each : (most : ℕ) (targets : List Target) (number v : ℕ) (l : TraceLine) → length (requests_on most targets number l (Some v)) ≡ length (pieces (home_of targets v) most l)
one_each most targets number v l = length-map (pieces (home_of targets v) most l) (λ (p : Piece). record { line = number; volume = v; kind = l.kind; first = p.lbn; count = p.count })
