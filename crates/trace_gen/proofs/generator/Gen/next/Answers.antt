use Rattle.std.proofs.Common.{◌≡◌, ℕ, ap, ◌∙◌, arith, rules}
use Rattle.trace_gen.specs.Generated.{Generator, line, targets_of, words_of}
use Rattle.trace_gen.proofs.Standing.{moves_on, next_line}
use Rattle.trace_gen.proofs.Times.{time_small}
use Rattle.trace_gen.proofs.generator.Gen.next.Goals as goal

pub overflow_add-time : goal.overflow_add-time
overflow_add-time c = omega (arith, time_small c.self.inside.seed c.self.inside.given)

pub invariant_of-self : goal.invariant_of-self
invariant_of-self c =
    let copied : c.in_ok-generator.generator ≡ c.self.inside.words = search rules in
    moves_on _ _ _ _ _ _ _ c.self.invariant (c.draw-words.ensures.drawn ∙ ap (λ (s : ℕ). words_of s 0) copied) c.gap.ensures.content (rw copied at c.draw-words.ensures.rest)

pub returns-clause-line : goal.returns-clause-line
returns-clause-line c =
    let copied : c.in_ok-generator.generator ≡ c.self.inside.words = search rules in
    next_line _ _ _ _ _ _ _ _ _ c.self.invariant (c.draw-words.ensures.drawn ∙ ap (λ (s : ℕ). words_of s 0) copied) c.gap.ensures.content c.chosen.ensures.content c.in_ok-line.ensures
    ∙ ap (λ (g : Generator). line (targets_of c.args.config.now) g.seed g.given) c.self.view_is
