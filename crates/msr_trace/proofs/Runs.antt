-- The pieces of a run of blocks, one after another.
use Rattle.std.proofs.Common.{◌≡◌, ℕ, ◌+◌, ◌-◌, ◌%◌, ◌/◌, ◌≤◌, ◌<◌, ◌==◌, false, zero, suc, min, List, [], ◌∷◌, inl, inr, refl, sym, ap, arith}
use Rattle.std.specs.Prelude.{All}
use Rattle.std.specs.List.{AllByRecursion}
use Rattle.std.proofs.lemmas.List.Elements.{All-from_recursion}
use Rattle.std.proofs.lemmas.Bool.{cases_Bool, eqb-true, eqb-false, ne_eqb}
use Rattle.std.proofs.Math.Nat.{mod-eq_of_lt}
use Rattle.std.proofs.lemmas.Nat.{mod_below}
use Rattle.wol_model.specs.Trace.{TraceLine, blocks_touched, cut_run, pieces}
use Rattle.wol_model.specs.declared.trace.Piece.{Piece}
use Rattle.wol_model.specs.TraceLaws.{LiesIn}

no_run : (fuel home most first : ℕ) → cut_run fuel home most first 0 ≡ []
no_run zero home most first = refl
no_run (suc fuel) home most first = refl

-- enough fuel is as good as more
enough : (f g home most first count : ℕ) → count ≤ f → count ≤ g → 0 < most → first < home → cut_run f home most first count ≡ cut_run g home most first count
enough zero g home most first count a b m h = let e : count ≡ 0 = omega (arith, a) in rw e (sym (no_run g home most first))
enough (suc f) zero home most first count a b m h = let e : count ≡ 0 = omega (arith, b) in rw e refl
enough (suc f) (suc g) home most first count a b m h = elim (cases_Bool (count == 0)) [
  | inl none ↦ rw none refl
  | inr some ↦
      let positive : 0 < count = omega (arith, eqb-false count 0 some) in
      let n = min count (min most (home - first)) in
      let step : 0 < n = omega (arith, positive, m, h) in
      let within : (first + n) % home < home = mod_below (first + n) home (omega (arith, h)) in
      rw some (ap (λ (ps : List Piece). record { lbn = first; count = n } ∷ ps) (enough f g home most ((first + n) % home) (count - n) (omega (arith, a, step)) (omega (arith, b, step)) m within))
]

first_of : (fuel home most first count : ℕ) → 0 < count → count ≡ fuel → 0 < most → first < home
    → cut_run fuel home most first count ≡ record { lbn = first; count = min count (min most (home - first)) } ∷ cut_run (count - min count (min most (home - first))) home most ((first + min count (min most (home - first))) % home) (count - min count (min most (home - first)))
first_of zero home most first count c e m h = absurd (omega (arith, c, e))
first_of (suc fuel) home most first count c e m h =
    let some : (count == 0) ≡ false = ne_eqb count 0 (λ z. absurd (omega (arith, z, c))) in
    let n = min count (min most (home - first)) in
    let step : 0 < n = omega (arith, c, m, h) in
    let within : (first + n) % home < home = mod_below (first + n) home (omega (arith, h)) in
    rw some (ap (λ (ps : List Piece). record { lbn = first; count = n } ∷ ps) (enough fuel (count - n) home most ((first + n) % home) (count - n) (omega (arith, e, step)) (omega arith) m within))

-- the first piece, and then those of the rest
pub next_piece : (home most first count n : ℕ) → n ≡ min count (min most (home - first)) → 0 < count → 0 < most → first < home
    → cut_run count home most first count ≡ record { lbn = first; count = n } ∷ cut_run (count - n) home most ((first + n) % home) (count - n)
next_piece home most first count n e c m h = rw e (first_of count home most first count c refl m h)

lie : (fuel home most first count : ℕ) → 0 < most → first < home → AllByRecursion (LiesIn home most) (cut_run fuel home most first count)
lie zero home most first count m h = tt
lie (suc fuel) home most first count m h = elim (cases_Bool (count == 0)) [
  | inl none ↦ rw none tt
  | inr some ↦
      let positive : 0 < count = omega (arith, eqb-false count 0 some) in
      let n = min count (min most (home - first)) in
      let within : (first + n) % home < home = mod_below (first + n) home (omega (arith, h)) in
      rw some (record { some = omega (arith, positive, m, h); short = omega arith; within = omega (arith, h) }, lie fuel home most ((first + n) % home) (count - n) m within)
]

-- each piece lies in the volume
pub run_lies : (fuel home most first count : ℕ) → 0 < most → first < home → All (LiesIn home most) (cut_run fuel home most first count)
run_lies fuel home most first count m h = All-from_recursion (LiesIn home most) (cut_run fuel home most first count) (lie fuel home most first count m h)

-- the pieces of a line are the run of the blocks that it touches
pub line_run : (home most touched : ℕ) (l : TraceLine) → (0 < l.size → touched ≡ blocks_touched l) → (l.size ≡ 0 → touched ≡ 0) → cut_run touched home most (l.offset / 512 % home) touched ≡ pieces home most l
unfolding pieces
line_run home most touched l some none = elim (cases_Bool (l.size == 0)) [
  | inl zero_size ↦ let e : touched ≡ 0 = none (eqb-true l.size 0 zero_size) in rw (zero_size, e) refl
  | inr other ↦ let e : touched ≡ blocks_touched l = some (omega (arith, eqb-false l.size 0 other)) in rw (other, e) refl
]

-- a block within the volume is its own remainder
pub same_within : (block home : ℕ) → block < home → block ≡ block % home
same_within block home h = sym (mod-eq_of_lt h)
