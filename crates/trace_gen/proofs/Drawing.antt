-- Words one after another.
use Rattle.std.proofs.Common.{◌≡◌, ℕ, suc, ◌+◌, ap, ◌∙◌, replicate, arith}
use Rattle.rand_core.specs.Stream.{Stream, next_u64, u64_call}
use Rattle.rand_core.specs.Steps.{stream_of}
use Rattle.rand_xoshiro.specs.SplitMix64.{splitmix_steps}
use Rattle.trace_gen.specs.declared.words.Words.{Words}
use Rattle.trace_gen.specs.Generated.{word, words_of}

-- a word is given, and the state goes from s to t
abbrev pub Gives : (s t x : ℕ) → Type 0
Gives s t x = (x, stream_of splitmix_steps t) ≡ next_u64 (stream_of splitmix_steps s)

-- it is the first one from there on
first : (s t x : ℕ) → Gives s t x → x ≡ word s 0
unfolding next_u64
first s t x h = ap (λ (p : ℕ × Stream). p.0) h

-- the others come behind it
behind : (s t x k : ℕ) → Gives s t x → word t k ≡ word s (suc k)
unfolding next_u64
behind s t x k h = ap (λ (p : ℕ × Stream). p.1.u64_after (replicate k u64_call)) h

module _ (s t₁ t₂ t₃ t₄ t₅ v w x y z : ℕ) (h₁ : Gives s t₁ v) (h₂ : Gives t₁ t₂ w) (h₃ : Gives t₂ t₃ x) (h₄ : Gives t₃ t₄ y) (h₅ : Gives t₄ t₅ z) where
  after₂ : (k : ℕ) → word t₂ k ≡ word s (suc (suc k))
  after₂ k = behind t₁ t₂ w k h₂ ∙ behind s t₁ v (suc k) h₁

  after₄ : (k : ℕ) → word t₄ k ≡ word s (suc (suc (suc (suc k))))
  after₄ k = behind t₃ t₄ y k h₄ ∙ behind t₂ t₃ x (suc k) h₃ ∙ after₂ (suc (suc k))

  -- five words are the words of the first line
  pub five_drawn : let words : Words = record { volume = v; gap = w; kind = x; offset = y; size = z } in words ≡ words_of s 0
  five_drawn =
      let a : v ≡ word s 0 = first s t₁ v h₁ in
      let b : w ≡ word s 1 = first t₁ t₂ w h₂ ∙ behind s t₁ v 0 h₁ in
      let c : x ≡ word s 2 = first t₂ t₃ x h₃ ∙ after₂ 0 in
      let d : y ≡ word s 3 = first t₃ t₄ y h₄ ∙ behind t₂ t₃ x 0 h₃ ∙ after₂ 1 in
      let e : z ≡ word s 4 = first t₄ t₅ z h₅ ∙ after₄ 0 in
      cc

  -- and the next lines' words come behind them
  pub five_behind : (k : ℕ) → word t₅ k ≡ word s (5 + k)
  five_behind k =
      let e : suc (suc (suc (suc (suc k)))) ≡ 5 + k = omega arith in
      behind t₄ t₅ z k h₅ ∙ after₄ (suc k) ∙ ap (word s) e
