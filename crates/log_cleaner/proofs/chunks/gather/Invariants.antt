use Rattle.std.proofs.Common.{◌≡◌, ◌+◌, ◌≤◌, ◌^◌, ◌∷◌, List, length, take}
use Rattle.std.specs.List.{AllByRecursion}
use Rattle.wol_model.specs.Index.{listed_in, is_covered}
use Rattle.log_segment.specs.declared.item.Item.{Item}
use Rattle.log_cleaner.specs.Chunks.{AreNext, BecomesTidy, end_of}
use Rattle.log_cleaner.proofs.chunks.gather.Given as goal

abbrev pub invariant-loop-place : goal.invariant-loop-place
invariant-loop-place l = record {
  count : l.gathered.count ≡ l.place;
  low : 1 ≤ l.place;
  high : l.place ≤ 8;
  long : length l.gathered.chunks ≡ 8;
  within : l.from ≤ 2 ^ 32;
  next : (rest : List Item) × (take l.place l.gathered.chunks ≡ l.fn.first ∷ rest) × AreNext (is_covered (listed_in l.index.entries)) (listed_in l.index.entries) l.most (l.fn.first.lbn + l.fn.first.count) rest
      × AllByRecursion (λ (i : Item). BecomesTidy (listed_in l.index.entries) i.lbn i.count → ⊥) rest × (l.from ≡ end_of (l.fn.first.lbn + l.fn.first.count) rest);
}
