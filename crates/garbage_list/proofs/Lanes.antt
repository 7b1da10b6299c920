-- A change of an index leaves its records on their lanes.
use Rattle.std.proofs.Common.{ℕ, Bool, true, false, cond, eqb, List, [], ◌∷◌}
use Rattle.std.specs.List.{AllByRecursion, filter}
use Rattle.wol_model.specs.Index.{Indexed}
use Rattle.redirect_map.specs.Index.{changed}

pub all_changed : (P : Indexed → Type 0) (version : ℕ) (f : Indexed → Indexed) (es : List Indexed) → ((e : Indexed) → P e → P (f e)) → AllByRecursion P es → AllByRecursion P (changed version f es)
all_changed P version f [] kept all = tt
all_changed P version f (e ∷ es) kept all = (at (eqb e.listed.version version), all_changed P version f es kept all.1)
  where
    at : (t : Bool) → P (cond t (f e) e)
    at true = kept e all.0
    at false = all.0

pub all_filtered : (P : Indexed → Type 0) (test : Indexed → Bool) (es : List Indexed) → AllByRecursion P es → AllByRecursion P (filter test es)
all_filtered P test [] all = tt
all_filtered P test (e ∷ es) all = at (test e) (all_filtered P test es all.1)
  where
    at : (t : Bool) → AllByRecursion P (filter test es) → AllByRecursion P (cond t (e ∷ filter test es) (filter test es))
    at true rest = (all.0, rest)
    at false rest = rest
