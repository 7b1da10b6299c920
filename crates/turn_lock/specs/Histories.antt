-- Entries of a history.
use Rattle.std.specs.Prelude.{◌≡◌, ℕ, ◌==◌, ◌<◌, List, ◌++◌, filter, All}

-- the number of the pass, and the operation
abbrev pub Entry : Type 0
Entry = ℕ × List ℕ

-- the entries of the pass n, in order
abbrev pub own : ℕ → List Entry → List Entry
own n es = filter (λ (e : Entry). e.0 == n) es

-- ys begins with xs
abbrev pub Begins : List Entry → List Entry → Type 0
Begins xs ys = (more : List Entry) × (xs ++ more ≡ ys)

-- each entry is of a pass whose number is below n
abbrev pub AreNumberedBelow : ℕ → List Entry → Type 0
AreNumberedBelow n es = All (λ (e : Entry). e.0 < n) es
