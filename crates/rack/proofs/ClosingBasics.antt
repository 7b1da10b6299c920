-- The words on lists, options, numbers and equations that these proofs are written in.
pub use Rattle.std.proofs.Common.{◌≡◌, ◌<◌, ◌≤◌, ◌+◌, ◌⊎◌, inl, inr, ℕ, List, [], length, Option, Some, None, refl, sym, ap, ◌∙◌, subst, arith, ◌≢◌, ⊎_elim, zero, suc, Bool, true, false, get_or, ◌^◌, option_map, ◌∷◌, ◌++◌, map, is_some, ◌==◌, cond, not, ◌-◌, ◌*◌, take, drop, replicate, append-nil, append_assoc, eqb, ◌||◌, ◌&&◌, IfSome, ltb}
pub use Rattle.std.specs.List.{AllZip, AllByRecursion, range_with_len, cons_option, list_any, position_or_len, flat_map}
pub use Rattle.std.specs.Prelude.{Contains, All, IsSome, slice_get, option_and_then, slice_index_or, slice_range, unwrap_or, AllPairs, IsTrue, count_by, filter, sum, find, ⊤}
pub use Rattle.std.proofs.lemmas.Bool.{cases_lt, cases_eq, eq-eqb, eqb-true, ne_eqb, lt-ltb}
pub use Rattle.std.proofs.lemmas.List.{length-map, take-map, drop-map, drop-drop, get_or_append_left, get_or_push, get_or_past, length_push, take_all, length-append, length-drop, length-take-le, drop-take, map-append}
pub use Rattle.std.proofs.lemmas.List.Elements.{All-contains, All-from_recursion, Contains-append_left, Contains-append_right, Contains-get_or, Contains-append_cases, filter-append}
pub use Rattle.std.proofs.lemmas.Option.{none-some, slice_get_within, get_or_from_slice_get, same_Some, slice_get-map, slice_get-get_or, slice_get_past}
pub use Rattle.std.proofs.lemmas.Grind.{flat_map-append}
pub use Rattle.std.proofs.lemmas.List.FromFn.{length-map-range_with_len, get_or-map-range_with_len}
pub use Rattle.std.proofs.Math.Seq.{drop-append-add, take-append_seam}
pub use Rattle.std.proofs.lemmas.List.Sums.{sum_by-cons, fails_before_first}
