use Rattle.std.proofs.Common.{◌≡◌, ◌+◌, ℕ, true, sym, ap, subst, ◌∙◌, ⊎_elim, arith}
use Rattle.std.proofs.lemmas.Bool.{cases_lt}
use Rattle.wol_model.specs.Index.{is_covered, listed_in}
use Rattle.block_cells.specs.Masks.{in_mask}
use Rattle.log_cleaner.proofs.Telling.{newest_covers, none_covers}
use Rattle.log_cleaner.proofs.chunks.chunk_len.Goals as goal

pub returns-in_default-clause-ends : goal.returns-in_default-clause-ends
returns-in_default-clause-ends c lt =
    ap (λ (k : ℕ). is_covered (listed_in c.args.index.now.entries) (c.args.lbn + k)) (sym c.from.ensures) ∙ none_covers c.args.index.now.entries (c.args.lbn + c.from.result) (rw c.in_default.is at c.newest.ensures)

pub kept_end-count-requires-clause-kept : goal.kept_end-count-requires-clause-kept
kept_end-count-requires-clause-kept c =
    subst (λ (k : ℕ). in_mask c.in-Some.record.lbn c.in-Some.record.keep (c.args.lbn + k) ≡ true) c.from.ensures
    (newest_covers c.args.index.now.entries (c.args.lbn + c.from.result) c.in-Some.record c.in-Some.ensures).0

pub records-preserved : goal.records-preserved
records-preserved c =
    let k = c.kept_end-count.ensures in let i = c.records.invariant in record {
      count = (let more = k.count.0 in omega (arith, more), k.count.1);
      run = λ b low high. ⊎_elim
          (λ lt. i.run b low lt)
          (λ ge. (newest_covers c.args.index.now.entries (c.args.lbn + c.from.result) c.in-Some.record c.in-Some.ensures).1 b (k.kept b ge high))
          (cases_lt b (c.args.lbn + c.records.count));
    }
