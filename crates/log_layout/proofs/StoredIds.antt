-- The view of some ids, as `View::new` stores it.
use Rattle.std.proofs.Common.{◌≡◌, ℕ, ◌<◌, ◌≤◌, ◌^◌, List, ◌++◌, length, get_or, suc, [], ◌∷◌, take, drop, replicate, refl, ap}
use Rattle.std.specs.List.{AllByRecursion}
use Rattle.std.proofs.lemmas.List.{take_at, drop-replicate}
use Rattle.wol_model.specs.Blocks.{AreApart}
use Rattle.log_layout.specs.View.{IsStored}

pub stored_ids : (ids copied : List ℕ) → copied ≡ ids → length ids ≤ 16 → AllByRecursion (λ id. id < 2 ^ 32) ids → AreApart ids → IsStored (record { ids = copied ++ drop (length ids) (replicate 16 0); len = length ids })
stored_ids ids copied is few small apart =
    let same : take (length ids) (copied ++ drop (length ids) (replicate 16 0)) ≡ ids = rw is (take_at ids _ (length ids) refl) in
    record {
      valid = rw same (record { few = few; in_range = small; distinct = apart });
      counted = ap length same;
      zeros = rw (same, is) (ap (λ z. ids ++ z) (drop-replicate (length ids) 16 0));
    }

-- members that lie in a range one by one do so all
pub all_small : (ids : List ℕ) → ((i : ℕ) → get_or ids i 0 < 2 ^ 32) → AllByRecursion (λ id. id < 2 ^ 32) ids
all_small [] h = tt
all_small (id ∷ ids) h = (h 0, all_small ids (λ i. h (suc i)))
