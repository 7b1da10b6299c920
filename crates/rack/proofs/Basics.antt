-- The words on lists, options, numbers and equations that these proofs are written in.
pub use Rattle.std.proofs.Common.{◌≡◌, ⊎_elim, ℕ, ◌<◌, ◌≤◌, List, [], ◌∷◌, ◌++◌, length, Option, None, Some, refl, sym, ap, ◌∙◌, subst, arith, ◌⊎◌, inl, inr, ◌+◌, ◌^◌, map, vec_capacity, Bool, get_or, is_some, zero, suc, ◌-◌, true, false, option_map, IfSome, Result, Ok, Err, IfOk, IfErr, ◌≢◌, take, option_and_then, cond, eqb, reverse, append_assoc, append-nil, vec_len, filter, ◌*◌, ◌==◌, not, set, drop, rules}
pub use Rattle.std.specs.List.{AllByRecursion, AllZip, flat_map}
pub use Rattle.std.specs.Option.{option_map_or, option_to_list}
pub use Rattle.std.specs.Prelude.{slice_get, IsSome, All, Contains, slice_index_or, slice_set, AllPairs, MatchOption, position, unwrap_or, slice_range, IsErrOf, IsTrue, find, ◌↔◌}
pub use Rattle.std.specs.Vec.{with_item, with_items}
pub use Rattle.std.specs.declared.alloc.Global.{Global}
pub use Rattle.std.specs.declared.vec.Vec.{Vec}
pub use Rattle.std.proofs.Math.Nat.{mul-le-mul, suc-mul}
pub use Rattle.std.proofs.lemmas.Bool.{cases_lt, cases_eq, eq-eqb, ne_eqb, eqb-true, false≢true}
pub use Rattle.std.proofs.lemmas.Grind.{common_steps}
pub use Rattle.std.proofs.lemmas.List.{length_push, length-map, map_push, length-take, length-set, take-take, take_all, get_or-map, get_or_default, map-append, reverse-append, reverse-reverse, length-append, length-reverse, take_at, map_more, get_or_read, get_or-set_same, get_or-set_other, get_or_past, nil_from_length, with_items_is}
pub use Rattle.std.proofs.lemmas.List.Elements.{All-push, Contains-push, Contains-push_cases, Contains-append_left, filter_passes, All-nil, All-contains, All-contains_itself, All-filter, All-pop, Contains-append_cases, recursion_from_All, filter_agree, All-set, length_all_zip, Contains-append_right}
pub use Rattle.std.proofs.lemmas.Option.{same_Some, slice_get_within, none-some, slice_get-map, get_or_from_slice_get, slice_get-get_or, slice_get_past, MatchOption-at_some, MatchOption-at_none, slice_get_read}
