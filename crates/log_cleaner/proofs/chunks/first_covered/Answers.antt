use Rattle.std.proofs.Common.{◌-◌, ◌/◌, sym, ◌∙◌, arith}
use Rattle.wol_model.specs.Index.{listed_in, is_covered}
use Rattle.log_cleaner.proofs.Finding.{bare_right, found_left, found_right}
use Rattle.log_cleaner.proofs.chunks.first_covered.Goals as goal

pub search-preserved-then-covered : goal.search-preserved-then-covered
search-preserved-then-covered c =
    let i = c.search.invariant in let t = c.search-test.true in let o = i.order in let l = o.0 in let h = o.2 in record {
      order = (l, omega arith, omega (arith, t, h));
      bare = i.bare;
      there = found_left (is_covered (listed_in c.args.index.now.entries)) c.search.first ((c.search.last - c.search.first) / 2) _ (omega arith) (sym c.covered.ensures ∙ c.if-covered.true);
    }

pub search-preserved : goal.search-preserved
search-preserved c =
    let i = c.search.invariant in let t = c.search-test.true in let o = i.order in let l = o.0 in let h = o.2 in record {
      order = (omega (arith, l), omega (arith, t), h);
      bare = bare_right (is_covered (listed_in c.args.index.now.entries)) c.args.low c.search.first ((c.search.last - c.search.first) / 2) _ (omega arith) (sym c.covered.ensures ∙ c.if-covered.false) i.bare;
      there = found_right (is_covered (listed_in c.args.index.now.entries)) c.search.first c.search.last ((c.search.last - c.search.first) / 2) _ (omega arith) (sym c.covered.ensures ∙ c.if-covered.false) i.there;
    }
