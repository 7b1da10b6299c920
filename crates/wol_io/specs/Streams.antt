-- What a call of a sink does to the bytes that the sink took.
use Rattle.std.specs.Prelude.{◌≡◌, List, ℕ, ◌++◌, Option, Result, MatchResult}
use Rattle.std.specs.Io.KnownBytes.{Appends}

-- known bytes grow by a front of the piece
abbrev pub AppendsFront : Option (List ℕ) → Option (List ℕ) → List ℕ → Type 0
AppendsFront old new piece = (front rest : List ℕ) × (piece ≡ front ++ rest) × Appends old new front

-- known bytes grow by the whole piece at `Ok`, and by a front of it at `Err`
abbrev pub SinkTakes : {T E : Type 0} → Option (List ℕ) → Option (List ℕ) → Result T E → List ℕ
    → Type 0
SinkTakes old new result piece =
    MatchResult result (λ _. Appends old new piece) (λ _. AppendsFront old new piece)
