use Rattle.std.proofs.Common.{◌≡◌, length}
use Rattle.std.specs.List.{AllByRecursion}
use Rattle.whatif.specs.declared.store.Shelf.{Shelf}
use Rattle.whatif.specs.Logs.{no_shelf}
use Rattle.whatif.specs.Volumes.{shelf_in}
use Rattle.whatif.proofs.store.Store.new.Given as goal

abbrev pub invariant-loop : goal.invariant-loop
invariant-loop l = record {
  count : length l.shelves.items ≡ l.counter;
  none : AllByRecursion (λ (h : Shelf). h.kept ≡ 0) l.shelves.items;
  first : AllByRecursion (λ (h : Shelf). shelf_in h ≡ no_shelf) l.shelves.items;
}
