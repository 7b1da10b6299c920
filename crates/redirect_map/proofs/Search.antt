-- Places of versions that rise.
use Rattle.std.proofs.Common.{◌≡◌, ⊎_elim, ◌<◌, ◌≤◌, ℕ, zero, suc, Bool, true, false, cond, List, [], ◌∷◌, map, length, get_or, Some, None, refl, sym, ap, ◌∙◌, subst, arith, ltb, Option, IsSome, IfNone}
use Rattle.std.specs.Prelude.{slice_get}
use Rattle.std.specs.List.{find, AllByRecursion}
use Rattle.std.specs.List.Sorted.{IsNonDecreasingBy, IsPartitionPoint}
use Rattle.std.proofs.lemmas.Bool.{cases_lt, ne_eqb, lt-ltb, ltb-true, false≢true}
use Rattle.std.proofs.lemmas.Option.{slice_get-get_or}
use Rattle.wol_model.specs.Index.{AreRising}
use Rattle.redirect_map.specs.declared.entry.Entry.{Entry}
use Rattle.redirect_map.specs.Kept.{is_version}
use Rattle.redirect_map.proofs.Seen.{all_at, all_before_map}

-- an entry of the rest has a greater version
pub above_get : (x : Entry) (xs : List Entry) (k : ℕ) (d : Entry) → AllByRecursion (λ w. x.record.version < w) (map (λ (e : Entry). e.record.version) xs) → k < length xs → x.record.version < (get_or xs k d).record.version
above_get x xs k d above within = all_at (λ (e : Entry). x.record.version < e.record.version) xs k (get_or xs k d) (all_before_map (λ w. x.record.version < w) (λ (e : Entry). e.record.version) xs above) (slice_get-get_or xs k d within)

pub strictly : (items : List Entry) (i j : ℕ) (d : Entry) → AreRising (map (λ (e : Entry). e.record.version) items) → i < j → j < length items → (get_or items i d).record.version < (get_or items j d).record.version
strictly [] i j d rising order within = absurd (omega arith)
strictly (x ∷ xs) i zero d rising order within = absurd (omega arith)
strictly (x ∷ xs) zero (suc j) d rising order within = above_get x xs j d rising.0 (omega arith)
strictly (x ∷ xs) (suc i) (suc j) d rising order within = strictly xs i j d rising.1 (omega arith) (omega arith)

pub rising_order : (items : List Entry) → AreRising (map (λ (e : Entry). e.record.version) items) → IsNonDecreasingBy (λ (e : Entry). e.record.version) items
rising_order items rising i j d order within = ⊎_elim
    (λ less. let h : (get_or items i d).record.version < (get_or items j d).record.version = strictly items i j d rising less within in omega arith)
    (λ more. let e : i ≡ j = omega arith in subst (λ (k : ℕ). (get_or items i d).record.version ≤ (get_or items k d).record.version) e (omega arith))
    (cases_lt i j)

none_found : (items : List Entry) (v : ℕ) (d : Entry) → ((j : ℕ) → j < length items → (get_or items j d).record.version ≡ v → ⊥) → find (is_version v) items ≡ None
none_found [] v d none = refl
none_found (x ∷ xs) v d none =
    ap (λ (t : Bool). cond t (Some x) (find (is_version v) xs)) (ne_eqb x.record.version v (none 0 (omega arith))) ∙ none_found xs v d (λ j within same. none (suc j) (omega arith) same)

-- no entry has this version where that at the place between lesser ones and others doesn't
pub not_there : (items : List Entry) (v k : ℕ) (d : Entry) → AreRising (map (λ (e : Entry). e.record.version) items)
    → IsPartitionPoint (λ (e : Entry). ltb e.record.version v ≡ true) (λ (e : Entry). ltb e.record.version v ≡ false) items k
    → (k < length items → (get_or items k d).record.version ≡ v → ⊥) → find (is_version v) items ≡ None
not_there items v k d rising point other = none_found items v d (λ j within same. ⊎_elim
    (λ before. let less : (get_or items j d).record.version < v = ltb-true (get_or items j d).record.version v (point.0 j d (omega arith) before) in absurd (omega arith))
    (λ from. ⊎_elim
    (λ later.
    let h : (get_or items k d).record.version < (get_or items j d).record.version = strictly items k j d rising later within in
    let lower : (get_or items k d).record.version < v = omega arith in
    absurd (false≢true (sym (point.1 k d (omega arith) (omega arith)) ∙ lt-ltb (get_or items k d).record.version v lower)))
    (λ here. let e : j ≡ k = omega arith in other (omega arith) (subst (λ (n : ℕ). (get_or items n d).record.version ≡ v) e same))
    (cases_lt k j))
    (cases_lt j k))

-- one place alone has an entry
pub place_unique : (items : List Entry) (p k : ℕ) (e : Entry) → AreRising (map (λ (d : Entry). d.record.version) items) → slice_get items p ≡ Some e → slice_get items k ≡ Some e → p ≡ k
place_unique [] p k e rising at there = absurd (cc)
place_unique (x ∷ xs) zero zero e rising at there = refl
place_unique (x ∷ xs) zero (suc k) e rising at there =
    let f : x ≡ e = cc in
    let less : x.record.version < e.record.version = all_at (λ (d : Entry). x.record.version < d.record.version) xs k e (all_before_map (λ w. x.record.version < w) (λ (d : Entry). d.record.version) xs rising.0) there in
    let same : x.record.version ≡ e.record.version = ap (λ (d : Entry). d.record.version) f in
    absurd (omega arith)
place_unique (x ∷ xs) (suc p) zero e rising at there =
    let f : x ≡ e = cc in
    let less : x.record.version < e.record.version = all_at (λ (d : Entry). x.record.version < d.record.version) xs p e (all_before_map (λ w. x.record.version < w) (λ (d : Entry). d.record.version) xs rising.0) at in
    let same : x.record.version ≡ e.record.version = ap (λ (d : Entry). d.record.version) f in
    absurd (omega arith)
place_unique (x ∷ xs) (suc p) (suc k) e rising at there = ap suc (place_unique xs p k e rising.1 at there)

pub some_place : (o : Option ℕ) (f : Option Entry) → IfNone o (f ≡ None) → IsSome f → IsSome o
some_place None f none there = absurd (false≢true (subst (λ (g : Option Entry). IsSome g) none there))
some_place (Some k) f none there = refl
