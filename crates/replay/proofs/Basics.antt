-- The words on lists, options, numbers and equations that these proofs are written in.
pub use Rattle.std.proofs.Common.{◌≡◌, ◌≢◌, ℕ, Bool, true, false, refl, sym, ap, ◌∙◌, ◌==◌, ◌<◌, List, [], ◌++◌, length, map, subst, Some, inl, inr, ◌⊎◌, slice_index_or, ◌≤◌, ◌+◌, ◌∷◌, Option, None, arith, cond, is_some, ◌^◌, Result, Ok, Err, zero, suc, take, append-nil, length-append, drop, get_or, not, min, append_assoc, ◌-◌, Bor, ltb, replicate, zero-add, rules, ◌*◌}
pub use Rattle.std.specs.Io.KnownBytes.{Keeps, Appends}
pub use Rattle.std.specs.List.{AllByRecursion, count_by, list_any, filter, range_with_len, flat_map, cons_option}
pub use Rattle.std.specs.Option.{option_map_or, option_or}
pub use Rattle.std.specs.Prelude.{◌||◌, slice_get, IsTrue, if◌then◌else◌, sum_by, ⊤, Contains, All, IfSome, option_and_then, IfErr, IfOk, MatchResult, option_copied, option_map, unwrap_or, slice_set, OnErr, OnOk, ◌&&◌, vec_capacity}
pub use Rattle.std.specs.declared.alloc.Global.{Global}
pub use Rattle.std.specs.declared.vec.Vec.{Vec}
pub use Rattle.std.proofs.Math.Seq.{drop-append_seam, take-append-add, take-length}
pub use Rattle.std.proofs.lemmas.Bool.{cases_lt, eqb-false, eq-eqb, cases_eq, eqb-true}
pub use Rattle.std.proofs.lemmas.List.{length-map, drop_more, map-append, take_more, length-take-le, take-append-drop, get_or-set_same, get_or-set_other, with_items_is, get_or_default, length-set}
pub use Rattle.std.proofs.lemmas.List.Concat.{flat_map-append}
pub use Rattle.std.proofs.lemmas.List.Elements.{filter-append, All-map, All-from_recursion}
pub use Rattle.std.proofs.lemmas.List.Sums.{sum_by-append, sum_by-cons, count_by-le-length}
pub use Rattle.std.proofs.lemmas.Option.{none-some, slice_get_past, same_Some}
pub use Rattle.std.proofs.lemmas.Result.{err_from_is_err_and}
