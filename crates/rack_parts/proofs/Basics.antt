-- The words on lists, options, numbers and equations that these proofs are written in.
pub use Rattle.std.proofs.Common.{◌≡◌, ◌<◌, ◌≤◌, ◌+◌, ◌⊎◌, inl, inr, ℕ, List, [], ◌∷◌, ◌++◌, length, get_or, set, Option, Some, None, sym, ap, ◌∙◌, subst, arith, ◌≢◌, ◌==◌, Bool, true, false, cond, map, refl, ◌-◌, option_and_then, vec_capacity, ⊎_elim, is_some, append_assoc, option_map, zero, suc, take, reverse, drop, ◌↔◌, ◌*◌, replicate, vec_len}
pub use Rattle.std.specs.List.{AllByRecursion, AllZip}
pub use Rattle.std.specs.Prelude.{slice_get, slice_index_or, All, Contains, IsSome, IfSome, slice_set, AllPairs, Result, Ok, Err, OnErr, MatchOption, slice_range}
pub use Rattle.std.specs.Vec.{with_item}
pub use Rattle.std.specs.declared.alloc.Global.{Global}
pub use Rattle.std.specs.declared.vec.Vec.{Vec}
pub use Rattle.std.proofs.lemmas.Bool.{cases_eq, cases_lt, false≢true, cases_Bool, eq-eqb, eqb-true}
pub use Rattle.std.proofs.lemmas.Bool.Decides.{nat_tests}
pub use Rattle.std.proofs.lemmas.List.{get_or-set_same, get_or-set_other, get_or_push, get_or_default, get_or_append_left, get_or_at, length_push, append-nil, length-set, get_or_past, get_or_read, length-take, get_or-map, length-map, map-append, reverse-append, length-reverse, get_or-reverse, length-append, take-append-drop, take_all, take_more, map_push, nil_from_length, length-drop, get_or-drop, drop_more, drop-drop, reverse-reverse, with_items_is, drop_all, set-set, set-get_or}
pub use Rattle.std.proofs.lemmas.List.Elements.{All-push, All-contains, Contains-append_left, Contains-get_or, All-nil, All-cons, All-head, All-tail, All-pop, All-weaker, All-set, Contains-push, All-from_recursion, All-append, Contains-append_right, Contains-append_cases, All-map, filter_more, Contains-push_cases, All-from_get_or}
pub use Rattle.std.proofs.lemmas.Option.{slice_get-get_or, slice_get_past, same_Some, slice_get_within, none-some, get_or_from_slice_get, slice_get-map, slice_get_read}
