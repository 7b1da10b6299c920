-- A volume of which nothing is logged.
use Rattle.std.proofs.Common.{◌≡◌, ◌<◌, ◌≤◌, ◌*◌, ℕ, length, sym, subst, arith, rules}
use Rattle.std.specs.List.{AllByRecursion}
use Rattle.std.proofs.lemmas.Bool.{false≢true}
use Rattle.whatif.specs.declared.store.Shelf.{Shelf}
use Rattle.whatif.specs.Volumes.{IsLogged}
use Rattle.whatif.proofs.Lists.{all_imply}
use Rattle.whatif.proofs.volume.Volume.new.Goals as goal

pub returns-clause-volume : goal.returns-clause-volume
returns-clause-volume c =
    let none = c.in_ok-new.ensures.none in record {
      few = c.requires.few;
      flags = search rules;
      rooms_ = search rules;
      logged = subst (AllByRecursion (IsLogged (length c.in_ok-vec-2.field-0.items) 1)) (sym c.new.ensures) tt;
      settled = λ is. absurd (false≢true is);
      store_ = record {
        kept = (let zero_ = none.0 in omega (arith, zero_));
        shelves_ = all_imply (λ (h : Shelf). h.kept ≡ 0) (λ (h : Shelf). h.kept ≤ 128 * 1) (λ h is. omega (arith, is)) c.in_ok-new.field-0.shelves.items none.1;
        within = subst (λ (n : ℕ). AllByRecursion (λ d. d < n) c.args.loggers.items) (sym c.in_ok-new.ensures.count) c.requires.within;
      };
    }
