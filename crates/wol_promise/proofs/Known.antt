-- Records that were written, and versions.
use Rattle.std.proofs.Common.{◌≡◌, ◌⊎◌, inl, inr, ⊎_elim, ◌<◌, ◌+◌, ◌-◌, ◌^◌, ℕ, zero, suc, Bool, true, false, ◌&&◌, List, [], ◌∷◌, ◌++◌, length, Option, None, Some, refl, sym, ap, subst, ◌∙◌, arith, append_assoc, get_or, leb}
use Rattle.std.specs.Prelude.{Contains}
use Rattle.std.specs.List.{AllByRecursion, cons_option, range_with_len}
use Rattle.std.proofs.lemmas.Bool.{le-leb}
use Rattle.std.proofs.lemmas.Option.{same_Some}
use Rattle.std.proofs.lemmas.List.{append-nil}
use Rattle.std.proofs.lemmas.List.Elements.{Contains-append_left, Contains-append_right, Contains-push, filter_map-append}
use Rattle.wol_model.specs.Blocks.{Write, AreApart}
use Rattle.wol_model.specs.Extents.{IsValid, marked, write_of}
use Rattle.wol_model.specs.Log.{Record, extent_of, marks_of}
use Rattle.wol_promise.specs.Manager.{Held, Base, AllRecords, versions, WasWritten}
use Rattle.wol_promise.specs.Stands.{AreKnown, HasVersions}
use Rattle.wol_promise.proofs.Lists.{all_push, all_map, apart_push, range_push, length_push}

-- ---- versions

pub versions_joined : (ws vs : List Write) → versions (ws ++ vs) ≡ versions ws ++ versions vs
versions_joined ws vs = filter_map-append (λ (u : Write). u.version) ws vs

pub versions_push : (ws : List Write) (w : Write) (v : ℕ) → w.version ≡ Some v → versions (ws ++ w ∷ []) ≡ versions ws ++ v ∷ []
versions_push ws w v is = versions_joined ws (w ∷ []) ∙ ap (λ (o : Option ℕ). versions ws ++ cons_option o []) is

pub versions_home : (ws : List Write) (w : Write) → w.version ≡ None → versions (ws ++ w ∷ []) ≡ versions ws
versions_home ws w is = versions_joined ws (w ∷ []) ∙ ap (λ (o : Option ℕ). versions ws ++ cons_option o []) is ∙ append-nil (versions ws)

-- a write home more leaves the versions as they were
pub versions_with_home : (base : Base) (next : ℕ) (ws : List Write) (w : Write) → w.version ≡ None → HasVersions base next ws None → HasVersions base next (ws ++ w ∷ []) None
versions_with_home base next ws w is old = record {
  apart = subst (λ (l : List ℕ). AreApart (versions base.records ++ l)) (sym same) old.apart;
  below = subst (λ (l : List ℕ). AllByRecursion (λ v. v < next) (versions base.records ++ l)) (sym same) old.below;
  in_order = λ none. let was = old.in_order none in (same ∙ was.0 ∙ ap (λ (l : List ℕ). range_with_len base.next (length l)) (sym same), was.1 ∙ ap (λ (l : List ℕ). base.next + length l) (sym same));
  least = old.least;
  most = old.most;
}
  where
    same : versions (ws ++ w ∷ []) ≡ versions ws
    same = versions_home ws w is

-- a write to a log takes the next one
pub versions_with_log : (base : Base) (next : ℕ) (ws : List Write) (w : Write) → w.version ≡ Some next → next < 2 ^ 63 → HasVersions base next ws None → HasVersions base (next + 1) (ws ++ w ∷ []) None
versions_with_log base next ws w is room old = record {
  apart = subst AreApart (sym all) (apart_push (versions base.records ++ versions ws) next old.apart old.below);
  below = subst (AllByRecursion (λ v. v < next + 1)) (sym all) (all_push (λ v. v < next + 1) (versions base.records ++ versions ws) next (all_map (λ v. v < next) (λ v. v < next + 1) (λ v lt. omega arith) (versions base.records ++ versions ws) old.below) (omega arith));
  in_order = λ none. let was = old.in_order none in (
    push ∙ (λ i. was.0 i ++ was.1 i ∷ []) ∙ sym (range_push base.next (length (versions ws))) ∙ ap (range_with_len base.next) (sym (ap length push ∙ length_push (versions ws) next)),
    (let l : length (versions (ws ++ w ∷ [])) ≡ suc (length (versions ws)) = ap length push ∙ length_push (versions ws) next in omega (arith, was.1, l)),
  );
  least = omega (arith, old.least);
  most = omega (arith, room);
}
  where
    push : versions (ws ++ w ∷ []) ≡ versions ws ++ next ∷ []
    push = versions_push ws w next is

    all : versions base.records ++ versions (ws ++ w ∷ []) ≡ (versions base.records ++ versions ws) ++ next ∷ []
    all = ap (λ (l : List ℕ). versions base.records ++ l) push ∙ sym (append_assoc (versions base.records) (versions ws) (next ∷ []))

-- ---- records

pub written_more : (xs ys : List Write) (r : Record) → WasWritten xs r → WasWritten (xs ++ ys) r
written_more xs ys r is = (is.0, Contains-append_left xs ys is.0 is.1, is.2)

-- one more write, acknowledged or in flight
pub acknowledged : (records ws : List Write) (w : Write) (r : Record) → WasWritten (records ++ (ws ++ [])) r → WasWritten (records ++ ((ws ++ w ∷ []) ++ [])) r
acknowledged records ws w r is = subst (λ (l : List Write). WasWritten l r)
    (append_assoc records (ws ++ []) (w ∷ []) ∙ ap (λ (l : List Write). records ++ l) (ap (λ (l : List Write). l ++ w ∷ []) (append-nil ws) ∙ sym (append-nil (ws ++ w ∷ []))))
    (written_more (records ++ (ws ++ [])) (w ∷ []) r is)

pub flying : (records ws fl : List Write) (r : Record) → WasWritten (records ++ (ws ++ [])) r → WasWritten (records ++ (ws ++ fl)) r
flying records ws fl r is = subst (λ (l : List Write). WasWritten l r)
    (append_assoc records (ws ++ []) fl ∙ ap (λ (l : List Write). records ++ (l ++ fl)) (append-nil ws))
    (written_more (records ++ (ws ++ [])) fl r is)

-- the new record is the new write
pub is_new : (records ws : List Write) (r : Record) → WasWritten (records ++ ((ws ++ write_of (extent_of r) ∷ []) ++ [])) r
is_new records ws r = (
  write_of (extent_of r),
  Contains-append_right records ((ws ++ write_of (extent_of r) ∷ []) ++ []) (write_of (extent_of r)) (Contains-append_left (ws ++ write_of (extent_of r) ∷ []) [] (write_of (extent_of r)) (Contains-push ws (write_of (extent_of r)))),
  record { version = refl; first = refl; blocks = refl },
)

-- ---- a record is valid or not

any_mark : (marks : List Bool) → ((i : ℕ) × (get_or marks i false ≡ true)) ⊎ ((i : ℕ) → get_or marks i false ≡ false)
any_mark [] = inr (λ i. refl)
any_mark (true ∷ marks) = inl (0, refl)
any_mark (false ∷ marks) = ⊎_elim (λ some. inl (suc some.0, some.1)) (λ none. inr (λ i. by i none)) (any_mark marks)
  where
    by : (i : ℕ) → ((i : ℕ) → get_or marks i false ≡ false) → get_or (false ∷ marks) i false ≡ false
    by zero none = refl
    by (suc i) none = none i

pub valid_or_not : (r : Record) → IsValid (extent_of r).cover ⊎ (IsValid (extent_of r).cover → ⊥)
valid_or_not r = ⊎_elim
    (λ some. inl (r.head.first + some.0, at some.0 some.1))
    (λ none. inr (λ valid. let no : false ≡ true = sym (nowhere (leb r.head.first valid.0) (none (valid.0 - r.head.first))) ∙ valid.1 in cc))
    (any_mark (marks_of r.head.count r.head.mask))
  where
    at : (i : ℕ) → get_or (marks_of r.head.count r.head.mask) i false ≡ true → marked r.head.first (marks_of r.head.count r.head.mask) (r.head.first + i) ≡ true
    at i is =
        let le : leb r.head.first (r.head.first + i) ≡ true = le-leb r.head.first (r.head.first + i) (omega arith) in
        let e : r.head.first + i - r.head.first ≡ i = omega arith in
        rw (le, e) is

    nowhere : (t : Bool) {m : Bool} → m ≡ false → (t && m) ≡ false
    nowhere true none = none
    nowhere false none = refl

-- the version of a write among these
version_among : (ws : List Write) (next v : ℕ) (w : Write) → AllByRecursion (λ u. u < next) (versions ws) → Contains ws w → w.version ≡ Some v → v < next
version_among [] next v w below has is = absurd (let lt = has.1 in omega arith)
version_among (x ∷ ws) next v w below (zero, lt, same) is = by x.version (ap (λ (u : Write). u.version) same ∙ is) below
  where
    by : (o : Option ℕ) → o ≡ Some v → AllByRecursion (λ u. u < next) (cons_option o (versions ws)) → v < next
    by None other all = absurd (let e : None ≡ Some v = other in cc)
    by (Some u) same_version all = let e : u ≡ v = same_Some u v same_version in subst (λ (k : ℕ). k < next) e all.0
version_among (x ∷ ws) next v w below (suc k, lt, same) is = version_among ws next v w (rest x.version below) (k, omega arith, same) is
  where
    rest : (o : Option ℕ) → AllByRecursion (λ u. u < next) (cons_option o (versions ws)) → AllByRecursion (λ u. u < next) (versions ws)
    rest None all = all
    rest (Some u) all = all.1

-- so all records' versions are below the next while nothing broke
pub all_below : {P : Type 0} (base : Base) (next : ℕ) (ws : List Write) (held : List (Held P)) → HasVersions base next ws None → AreKnown base next ws [] held → AllRecords (λ r. r.head.version < next) held
all_below {P} base next ws [] versioned known = tt
all_below {P} base next ws (s ∷ held) versioned known = (each s.records known.written.0 known.below.0, all_below base next ws held versioned (record { written = known.written.1; below = known.below.1; within = known.within.1 }))
  where
    known_below : AllByRecursion (λ v. v < next) (versions (base.records ++ (ws ++ [])))
    known_below = subst (AllByRecursion (λ v. v < next)) (sym (versions_joined base.records (ws ++ []) ∙ ap (λ (l : List Write). versions base.records ++ versions l) (append-nil ws))) versioned.below

    each : (rs : List Record) → AllByRecursion (λ r. IsValid (extent_of r).cover → WasWritten (base.records ++ (ws ++ [])) r) rs → AllByRecursion (λ r. (IsValid (extent_of r).cover → ⊥) → r.head.version < next) rs → AllByRecursion (λ r. r.head.version < next) rs
    each [] written below = tt
    each (r ∷ rs) written below = (
      ⊎_elim (λ valid. let was = written.0 valid in version_among (base.records ++ (ws ++ [])) next r.head.version was.0 known_below was.1 was.2.version) (λ not_valid. below.0 not_valid) (valid_or_not r),
      each rs written.1 below.1,
    )
