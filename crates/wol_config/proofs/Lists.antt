-- Arrays of the file, as lists.
use Rattle.std.proofs.Common.{◌≡◌, ℕ, Bool, true, false, cond, suc, List, [], ◌∷◌, length, map, Option, Some, None, refl, ap, ◌∙◌, ◌&&◌}
use Rattle.std.specs.List.{list_all}
use Rattle.toml.specs.Data.{Data, array, Members, get_member}
use Rattle.toml.specs.View.{view, items_view}
use Rattle.toml.specs.declared.value.Value.{Value}
use Rattle.wol_config.specs.declared.key.Key.{Key}
use Rattle.wol_config.specs.declared.key.Key.TheVariants.{Volume, View}
use Rattle.wol_config.specs.declared.config.ConfigFault.{ConfigFault}
use Rattle.wol_config.specs.declared.config.ConfigFault.TheVariants.{WrongKind, OutOfRange}
use Rattle.wol_config.specs.Keys.{Rule, items_in, is_table, is_text, is_between, key_text, key_fault}

pub items_in-view : (vs : List Value) → items_in (items_view vs) ≡ map view vs
items_in-view [] = refl
items_in-view (v ∷ vs) = ap (λ ds. view v ∷ ds) (items_in-view vs)

pub length-items : (vs : List Value) → length (items_in (items_view vs)) ≡ length vs
length-items [] = refl
length-items (v ∷ vs) = ap suc (length-items vs)

pub all-items : (p : Data → Bool) (vs : List Value) → list_all p (items_in (items_view vs)) ≡ list_all (λ v. p (view v)) vs
all-items p [] = refl
all-items p (v ∷ vs) = ap (λ rest. p (view v) && rest) (all-items p vs)

-- what a list is refused for, by the kind of its members and by their number
abbrev pub list_fault : Key → Bool → Bool → Option ConfigFault
list_fault key all few = cond all (cond few None (Some (OutOfRange key))) (Some (WrongKind key))

pub fault_of_tables : (ms : Members) (vs : List Value) (all few : Bool) → get_member (key_text Volume) ms ≡ Some (array (items_view vs))
    → all ≡ list_all (λ v. is_table (view v)) vs → few ≡ is_between 1 64 (length vs) → key_fault Volume ms ≡ list_fault Volume all few
fault_of_tables ms vs all few found kind count =
    rw (found, all-items is_table vs, length-items vs, kind, count) refl

pub fault_of_texts : (ms : Members) (vs : List Value) (all few : Bool) → get_member (key_text View) ms ≡ Some (array (items_view vs))
    → all ≡ list_all (λ v. is_text (view v)) vs → few ≡ is_between 0 16 (length vs) → key_fault View ms ≡ list_fault View all few
fault_of_texts ms vs all few found kind count =
    rw (found, all-items is_text vs, length-items vs, kind, count) refl
