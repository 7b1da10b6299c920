-- A wait more is told.
use Rattle.std.proofs.Common.{◌≡◌, inl, inr, get_or, ◌∙◌, arith}
use Rattle.std.proofs.lemmas.Bool.{cases_eq, cases_lt}
use Rattle.whatif.proofs.Counting.{never_over, told_more}
use Rattle.whatif.proofs.waits.Waits.add.Goals as goal

pub returns-clause-told : goal.returns-clause-told
returns-clause-told c = λ waits is.
    let i = c.loop-k.invariant in let past = c.loop-k-test.false in let most = c.tenths_of-k-end.ensures.most in let all = c.tenths_of-k-end.ensures.all in
    told_more c.args.wake c.args.wait waits c.args.self.now _ is i.long
    (λ k lt. elim (cases_lt k c.tenths_of-k-end.result) [
      | inl within ↦ i.below k (omega (arith, within, past))
      | inr beyond ↦
          let none : c.args.wait ≡ 0 = elim (cases_eq c.args.wait 0) [ inl none_at_all ↦ none_at_all | inr waits_some ↦ absurd (let ten = all waits_some in omega (arith, beyond, lt, ten)) ] in
          i.beyond k (let bound = c.loop-k.auto.k-end in omega (arith, beyond, bound)) ∙ never_over c.args.wake k c.args.wait (get_or c.args.self.now.over k 0) none
    ])
    (let count = i.count in omega (arith, count)) (let sum = i.sum in let from = c.from-2.ensures in omega (arith, sum, from))
