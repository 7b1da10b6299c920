-- Nothing is left to reclaim.
use Rattle.std.proofs.Common.{◌≡◌, Bool, true, false, cond, ◌&&◌, List, [], ◌∷◌, None, Some, refl, sym, ap, ◌∙◌}
use Rattle.std.specs.Prelude.{find, slice_index_or}
use Rattle.std.specs.List.{AllByRecursion}
use Rattle.std.proofs.lemmas.Option.{none-some}
use Rattle.wol_model.specs.Index.{Listed, Indexed, listed_in, has_due, has_going}
use Rattle.wol_promise.specs.Policy.{IsIdleLook}
use Rattle.garbage_list.specs.Least.{can_go, can_go_home}
use Rattle.manager.specs.Seen.{look_of_manager}
use Rattle.manager.specs.declared.manager.Manager.{Manager}
use Rattle.reclaimer.specs.Fetches.{due_entry, going_entry}

-- where nothing is found each fails
pub find_none : {X : Type 0} (p : X → Bool) (xs : List X) → find p xs ≡ None → AllByRecursion (λ x. p x ≡ false) xs
find_none p [] none = tt
find_none p (x ∷ xs) none = at (p x) refl none (find_none p xs)
  where
    at : (t : Bool) → p x ≡ t → cond t (Some x) (find p xs) ≡ None → (find p xs ≡ None → AllByRecursion (λ y. p y ≡ false) xs) → (p x ≡ false) × AllByRecursion (λ y. p y ≡ false) xs
    at true is found rest = absurd (none-some x (sym found))
    at false is found rest = (is, rest found)

pub fails_then : (a b : Bool) → a ≡ true → (a && b) ≡ false → b ≡ false
fails_then a b is fails = sym (λ i. is i && b) ∙ fails

idle_all : (ups : List Bool) (home_up : Bool) (all es : List Indexed) → AllByRecursion (λ (e : Indexed). can_go ups all e ≡ false) es → (home_up ≡ true → AllByRecursion (λ (e : Indexed). can_go_home ups all e ≡ false) es)
    → AllByRecursion (λ (e : Listed). slice_index_or ups e.lane false ≡ true → (has_going (listed_in all) e ≡ false) × (home_up ≡ true → has_due (listed_in all) e ≡ false)) (listed_in es)
idle_all ups home_up all [] going due = tt
idle_all ups home_up all (x ∷ es) going due = (
  λ awake. (fails_then (slice_index_or ups x.listed.lane false) (has_going (listed_in all) x.listed) awake going.0, λ up. fails_then (slice_index_or ups x.listed.lane false) (has_due (listed_in all) x.listed) awake (due up).0),
  idle_all ups home_up all es going.1 (λ up. (due up).1),
)

pub idle : {D : Type 0} (m : Manager D) → due_entry m ≡ None → going_entry m ≡ None → IsIdleLook (look_of_manager m)
idle m due going = idle_all m.ups.items m.home_up m.index.entries m.index.entries (find_none (can_go m.ups.items m.index.entries) m.index.entries going)
    (λ up. find_none (can_go_home m.ups.items m.index.entries) m.index.entries (sym (ap (λ (t : Bool). cond t (find (can_go_home m.ups.items m.index.entries) m.index.entries) None) up) ∙ due))
