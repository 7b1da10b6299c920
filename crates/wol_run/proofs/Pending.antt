-- Lines that a sink took, and lines that wait.
use Rattle.std.proofs.Common.{◌≡◌, ℕ, zero, suc, ◌+◌, ◌-◌, ◌≤◌, List, [], ◌∷◌, ◌++◌, Option, inl, inr, refl, sym, ◌∙◌, append_assoc, append-nil, arith}
use Rattle.std.specs.Io.KnownBytes.{Appends}
use Rattle.wol_io.specs.Streams.{AppendsFront}
use Rattle.wol_io.proofs.Appending.{appends_both, appends_kept, appends_none, front_last, front_longer, keeps_same}
use Rattle.wol_model.specs.Trace.{Target, TraceLine}
use Rattle.msr_trace.specs.Spelling.{line_text}
use Rattle.wol_config.specs.declared.config.Config.{Config}
use Rattle.trace_gen.specs.Generated.{line, lines, targets_of, text_of}
use Rattle.trace_gen.proofs.Growing.{lines_more, text_more, written_more}
use Rattle.replay.specs.Prints.{HandsOn}
use Rattle.wol_run.specs.Generating.{first_lines}

-- of the first so many lines a sink took some, and the text has the others
pub record IsPending (config : Config) (seed so_far : ℕ) (printed now : Option (List ℕ)) (text : List ℕ) : Type 0 where
  pub some : ℕ
  pub few : some ≤ so_far
  pub handed : Appends printed now (first_lines config seed some)
  pub whole : first_lines config seed some ++ text ≡ first_lines config seed so_far

pub pending_none : (config : Config) (seed : ℕ) (printed : Option (List ℕ)) → IsPending config seed 0 printed printed []
pending_none config seed printed = record {
  some = 0;
  few = omega arith;
  handed = appends_none printed printed (keeps_same printed);
  whole = refl;
}

-- one line more waits
pub pending_line : (config : Config) (seed n : ℕ) (printed now : Option (List ℕ)) (text new : List ℕ) (l : TraceLine) → IsPending config seed n printed now text
    → l ≡ line (targets_of config) seed n → new ≡ text ++ (line_text l ++ 10 ∷ []) → IsPending config seed (n + 1) printed now new
pending_line config seed n printed now text new l p is h =
    let front = first_lines config seed p.some in
    let grown : front ++ new ≡ (front ++ text) ++ (line_text l ++ 10 ∷ []) = rw h (sym (append_assoc front text (line_text l ++ 10 ∷ []))) in
    record {
      some = p.some;
      few = omega (arith, p.few);
      handed = p.handed;
      whole = written_more (targets_of config) seed n (front ++ text) (front ++ new) l p.whole is grown;
    }

-- what waited was handed on, or waits on
pub pending_handed : (config : Config) (seed n : ℕ) (printed now new : Option (List ℕ)) (text left : List ℕ) → IsPending config seed n printed now text → HandsOn now new text left → IsPending config seed n printed new left
pending_handed config seed n printed now new text left p (inl (same, kept)) = record {
  some = p.some;
  few = p.few;
  handed = appends_kept printed now new (first_lines config seed p.some) p.handed kept;
  whole = rw same p.whole;
}
pending_handed config seed n printed now new text left p (inr (empty, more)) = record {
  some = n;
  few = omega arith;
  handed = rw p.whole at (appends_both printed now new (first_lines config seed p.some) text p.handed more);
  whole = rw empty (append-nil (first_lines config seed n));
}

-- nothing waits
pub pending_end : (config : Config) (seed n : ℕ) (printed now : Option (List ℕ)) (text : List ℕ) → IsPending config seed n printed now text → text ≡ [] → Appends printed now (first_lines config seed n)
pending_end config seed n printed now text p empty =
    let whole : first_lines config seed p.some ≡ first_lines config seed n = sym (append-nil (first_lines config seed p.some)) ∙ rw empty at p.whole in
    rw whole at p.handed

-- more lines begin with fewer
longer : (targets : List Target) (seed n d : ℕ) → (rest : List ℕ) × (text_of (lines targets seed (n + d)) ≡ text_of (lines targets seed n) ++ rest)
longer targets seed n zero =
    let none : n + 0 ≡ n = omega arith in ([], rw none (sym (append-nil (text_of (lines targets seed n)))))
longer targets seed n (suc d) =
    let next : n + suc d ≡ (n + d) + 1 = omega arith in
    let before = longer targets seed n d in
    let l = line targets seed (n + d) in (
      before.0 ++ (line_text l ++ 10 ∷ []),
      rw (next, lines_more targets seed (n + d), text_more (lines targets seed (n + d)) l, before.1) (append_assoc (text_of (lines targets seed n)) before.0 (line_text l ++ 10 ∷ [])),
    )

pub lines_longer : (config : Config) (seed n count : ℕ) → n ≤ count → (rest : List ℕ) × (first_lines config seed count ≡ first_lines config seed n ++ rest)
lines_longer config seed n count few =
    let split : n + (count - n) ≡ count = omega arith in
    let more = longer (targets_of config) seed n (count - n) in
    (more.0, rw split at more.1)

-- a front of what waits is a front of the lines, and of more lines
pub pending_front : (config : Config) (seed n count : ℕ) (printed now new : Option (List ℕ)) (text : List ℕ) → IsPending config seed n printed now text → n ≤ count → AppendsFront now new text → AppendsFront printed new (first_lines config seed count)
pending_front config seed n count printed now new text p few front =
    let all : AppendsFront printed new (first_lines config seed n) = rw p.whole at (front_last printed now new (first_lines config seed p.some) text p.handed front) in
    let more = lines_longer config seed n count few in
    rw more.1 (front_longer printed new (first_lines config seed n) more.0 all)
