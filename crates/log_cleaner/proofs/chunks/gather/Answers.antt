use Rattle.std.proofs.Common.{◌<◌, ◌+◌, ℕ, List, [], ◌∷◌, ◌++◌, refl, sym, ap, subst, ◌∙◌, arith}
use Rattle.std.proofs.lemmas.List.{take_more_set}
use Rattle.std.proofs.Math.ListN.{length-set}
use Rattle.wol_model.specs.Index.{Listed, is_covered, listed_in}
use Rattle.log_segment.specs.declared.item.Item.{Item}
use Rattle.log_cleaner.specs.Chunks.{BecomesTidy, IsNext}
use Rattle.wol_promise.proofs.Lists.{all_push}
use Rattle.log_cleaner.proofs.Chunking.{end_push, next_push}
use Rattle.log_cleaner.proofs.chunks.gather.Goals as goal

pub loop-place-init : goal.loop-place-init
loop-place-init c = record {
  count = refl;
  low = omega arith;
  high = omega arith;
  long = refl;
  within = let f = c.from.ensures in omega (arith, f, c.requires.within);
  next = ([], refl, tt, tt, ap (λ (k : ℕ). c.args.first.lbn + k) c.from.ensures);
}

pub loop-place-preserved : goal.loop-place-preserved
loop-place-preserved c =
    let i = c.loop-place.invariant in let rest = i.next.0 in let chunk = c.in-Some.chunk in let place = c.loop-place.place in
    let es : List Listed = listed_in c.args.index.now.entries in let start = c.args.first.lbn + c.args.first.count in let added = c.from-in-loop-place.ensures in
    let lt : place < 8 = omega (arith, c.loop-place-test.true, c.requires.width) in record {
      count = refl;
      low = omega arith;
      high = omega (arith, lt);
      long = length-set c.loop-place.gathered.chunks place chunk ∙ i.long;
      within = let w = c.in-Some.ensures.within in omega (arith, w, added);
      next = (
        rest ++ chunk ∷ [],
        take_more_set c.loop-place.gathered.chunks place chunk (omega (arith, lt, i.long)) ∙ ap (λ (xs : List Item). xs ++ chunk ∷ []) i.next.1,
        next_push (is_covered es) es c.args.most start rest chunk i.next.2 (subst (λ (from : ℕ). IsNext (is_covered es) es c.args.most from chunk) i.next.4 c.in-Some.ensures.next),
        all_push (λ (j : Item). BecomesTidy es j.lbn j.count → ⊥) rest chunk i.next.3 c.in-Some.ensures.still,
        ap (λ (k : ℕ). chunk.lbn + k) added ∙ sym (end_push start rest chunk),
      );
    }

pub returns-clause-count : goal.returns-clause-count
returns-clause-count c = let i = c.loop-place.invariant in (omega (arith, i.count, i.low), omega (arith, i.count, i.high))
