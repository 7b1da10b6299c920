use Rattle.std.proofs.Common.{⊎_elim, ◌-◌, ◌*◌, ◌^◌, sym, ◌∙◌, arith}
use Rattle.std.proofs.lemmas.Bool.{cases_lt}
use Rattle.wol_model.specs.Index.{listed_in, is_covered}
use Rattle.log_cleaner.proofs.Finding.{smaller}
use Rattle.log_cleaner.proofs.Lists.{none_in, some_in}
use Rattle.log_cleaner.proofs.chunks.next_covered.Goals as goal

pub first_covered-requires-clause-there : goal.first_covered-requires-clause-there
first_covered-requires-clause-there c =
    let s = some_in (is_covered (listed_in c.args.index.now.entries)) c.widening.low c.min-count.result (sym c.covered-in-widening.ensures ∙ c.if-covered.true) in
    let h = s.high in (s.item, s.low, omega (arith, h), s.passes)

pub widening-preserved : goal.widening-preserved
widening-preserved c =
    let i = c.widening.invariant in let l = i.low_.0 in let t = c.widening-test.true in let w = i.width_.0 in
    let e = c.min-count.ensures in let f = c.min-width.ensures in
    let m = smaller c.widening.width (2 ^ 32 - c.widening.low) in let n = smaller (2 ^ 31) (c.widening.width * 2) in
    let inside = m.1 in let wide = n.0 in let some = n.2 (omega arith) (omega (arith, w)) in record {
      low_ = (omega (arith, l), omega (arith, e, inside, t));
      width_ = (omega (arith, f, some), omega (arith, f, wide));
      bare = λ b least less. ⊎_elim (λ lt. i.bare b least lt) (λ ge. none_in (is_covered (listed_in c.args.index.now.entries)) c.widening.low c.min-count.result b (sym c.covered-in-widening.ensures ∙ c.if-covered.false) ge less) (cases_lt b c.widening.low);
    }

pub returns-then-not-covered-clause-bare : goal.returns-then-not-covered-clause-bare
returns-then-not-covered-clause-bare c b least less =
    let i = c.widening.invariant in
    ⊎_elim (λ lt. i.bare b least lt) (λ ge. none_in (is_covered (listed_in c.args.index.now.entries)) c.widening.low (2 ^ 32 - c.widening.low) b (sym c.covered.ensures ∙ c.if-not-covered.true) ge (let l = i.low_.1 in omega (arith, less, l))) (cases_lt b c.widening.low)
