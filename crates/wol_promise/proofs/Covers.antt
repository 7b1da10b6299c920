-- What an index says of covers is what the records of the held segments say.
use Rattle.std.proofs.Common.{◌≡◌, ◌⊎◌, inl, inr, ⊎_elim, ◌+◌, ℕ, zero, suc, Bool, true, false, not, ◌&&◌, ◌||◌, List, [], ◌∷◌, ◌++◌, map, Some, refl, sym, ap, subst, ◌∙◌, arith, ltb}
use Rattle.std.specs.Prelude.{Contains, slice_get}
use Rattle.std.specs.List.{AllByRecursion, list_any}
use Rattle.std.proofs.lemmas.List.Elements.{Contains-append_left, Contains-append_right}
use Rattle.wol_model.specs.Extents.{marked, Cover, Extent, IsValid, covers_of, has_newer, has_older, may_go}
use Rattle.wol_model.specs.Index.{Indexed, listed_in, listed_covers, cover_of, is_homed, goes}
use Rattle.wol_model.specs.Log.{Record, extent_of}
use Rattle.wol_model.proofs.Counts.{both, either, true_or, not_true, not_false}
use Rattle.wol_promise.specs.Manager.{Held, IsEntryOf, IsFound, IsBacked, IsIndexOf, extents_held, is_homed_in}
use Rattle.wol_promise.proofs.Lists.{member_map, member_of, member_front, member_behind}

-- ---- members that pass a test

pub any_member : {X : Type 0} (p : X → Bool) (xs : List X) (x : X) → Contains xs x → p x ≡ true → list_any p xs ≡ true
any_member p [] x has is = absurd (let lt = has.1 in omega arith)
any_member p (y ∷ ys) x (zero, lt, same) is = λ i. (ap p same ∙ is) i || list_any p ys
any_member p (y ∷ ys) x (suc k, lt, same) is = true_or (p y) (list_any p ys) (any_member p ys x (k, omega arith, same) is)

pub record Found {X : Type 0} (p : X → Bool) (xs : List X) : Type 0 where
  pub item : X
  pub among : Contains xs item
  pub passes : p item ≡ true

pub any_found : {X : Type 0} (p : X → Bool) (xs : List X) → list_any p xs ≡ true → Found p xs
any_found p [] is = absurd (let no : false ≡ true = is in cc)
any_found p (x ∷ xs) is = ⊎_elim
    (λ here. record { item = x; among = (0, omega arith, refl); passes = here })
    (λ there. let rest = any_found p xs there in record { item = rest.item; among = member_behind x xs rest.item rest.among; passes = rest.passes })
    (either (p x) (list_any p xs) is)

-- ---- records and entries

-- an entry has its record's cover
pub same_cover : {P : Type 0} (s : Held P) (k : ℕ) (r : Record) (e : Indexed) → IsEntryOf s k r e → cover_of e.listed ≡ (extent_of r).cover
same_cover s k r e is = λ i. record { version = is.version i; covers = marked (is.first i) (is.keep i) }

-- a record of a held segment is among the extents
pub extent_among : {P : Type 0} (held : List (Held P)) (s : Held P) (r : Record) → Contains held s → Contains s.records r → Contains (extents_held held) (extent_of r)
extent_among [] s r has is = absurd (let lt = has.1 in omega arith)
extent_among {P} (t ∷ held) s r has is = ⊎_elim
    (λ same. Contains-append_left (map extent_of t.records) (extents_held held) (extent_of r) (member_map extent_of t.records r (subst (λ (u : Held P). Contains u.records r) (sym same) is)))
    (λ there. Contains-append_right (map extent_of t.records) (extents_held held) (extent_of r) (extent_among held s r there is))
    (member_front t held s has)

-- each cover of the index is that of a held record
pub listed_is_held : {P : Type 0} (held : List (Held P)) (indexed : List Indexed) (c : Cover) → IsIndexOf indexed held → Contains (listed_covers (listed_in indexed)) c → Contains (covers_of (extents_held held)) c
listed_is_held {P} held indexed c is has = at indexed is.only has
  where
    at : (es : List Indexed) → AllByRecursion (IsBacked held) es → Contains (listed_covers (listed_in es)) c → Contains (covers_of (extents_held held)) c
    at [] all has = absurd (let lt = has.1 in omega arith)
    at (e ∷ es) all has = ⊎_elim
        (λ same. let b = all.0 in subst (Contains (covers_of (extents_held held))) (sym (same_cover b.segment b.k b.record_ e b.is_its) ∙ same)
        (member_map (λ (x : Extent). x.cover) (extents_held held) (extent_of b.record_) (extent_among held b.segment b.record_ b.is_held (member_of b.segment.records b.record_ b.k b.is_there))))
        (λ there. at es all.1 there)
        (member_front (cover_of e.listed) (listed_covers (listed_in es)) c has)

-- and each valid record's cover is in the index
pub held_is_listed : {P : Type 0} (held : List (Held P)) (indexed : List Indexed) (c : Cover) → IsIndexOf indexed held → Contains (covers_of (extents_held held)) c → IsValid c → Contains (listed_covers (listed_in indexed)) c
held_is_listed {P} held indexed c is has valid = at held is.each has
  where
    Each : Held P → Type 0
    Each s = (k : ℕ) (r : Record) → slice_get s.records k ≡ Some r → IsValid (extent_of r).cover → IsFound indexed s k r

    here : (s : Held P) (k : ℕ) (r : Record) → IsFound indexed s k r → (extent_of r).cover ≡ c → Contains (listed_covers (listed_in indexed)) c
    here s k r found same = subst (Contains (listed_covers (listed_in indexed))) (same_cover s k r found.entry found.is_its ∙ same)
        (member_map cover_of (listed_in indexed) found.entry.listed (member_map (λ (e : Indexed). e.listed) indexed found.entry found.listed))

    in_records : (s : Held P) (rs : List Record) (n : ℕ) (rest : List Extent) → ((k : ℕ) (r : Record) → slice_get rs k ≡ Some r → slice_get s.records (n + k) ≡ Some r) → Each s
        → Contains (covers_of (map extent_of rs ++ rest)) c → Contains (listed_covers (listed_in indexed)) c ⊎ Contains (covers_of rest) c
    in_records s [] n rest places all has = inr has
    in_records s (r ∷ rs) n rest places all has = ⊎_elim
        (λ same. inl (here s n r (all n r (let e : n + 0 ≡ n = omega arith in rw e at (places 0 r refl)) (subst IsValid (sym same) valid)) same))
        (λ there. in_records s rs (suc n) rest (λ k q is_q. let e : suc n + k ≡ n + suc k = omega arith in rw e (places (suc k) q is_q)) all there)
        (member_front (extent_of r).cover (covers_of (map extent_of rs ++ rest)) c has)

    at : (hs : List (Held P)) → AllByRecursion Each hs → Contains (covers_of (extents_held hs)) c → Contains (listed_covers (listed_in indexed)) c
    at [] all has = absurd (let lt = has.1 in omega arith)
    at (s ∷ hs) all has = ⊎_elim (λ there. there) (λ later. at hs all.1 later)
        (in_records s s.records 0 (extents_held hs) (λ k r is_r. let e : 0 + k ≡ k = omega arith in rw e is_r) all.0 has)

-- ---- What goes by the index may go by the records

pub newer_held : {P : Type 0} (held : List (Held P)) (indexed : List Indexed) (v b : ℕ) → IsIndexOf indexed held → has_newer (listed_covers (listed_in indexed)) v b ≡ true → has_newer (covers_of (extents_held held)) v b ≡ true
newer_held held indexed v b is newer =
    let found = any_found (λ (c : Cover). c.covers b && ltb v c.version) (listed_covers (listed_in indexed)) newer in
    any_member (λ (c : Cover). c.covers b && ltb v c.version) (covers_of (extents_held held)) found.item (listed_is_held held indexed found.item is found.among) found.passes

older_listed : {P : Type 0} (held : List (Held P)) (indexed : List Indexed) (v b : ℕ) → IsIndexOf indexed held → has_older (covers_of (extents_held held)) v b ≡ true → has_older (listed_covers (listed_in indexed)) v b ≡ true
older_listed held indexed v b is older =
    let found = any_found (λ (c : Cover). c.covers b && ltb c.version v) (covers_of (extents_held held)) older in
    any_member (λ (c : Cover). c.covers b && ltb c.version v) (listed_covers (listed_in indexed)) found.item (held_is_listed held indexed found.item is found.among (b, (both (found.item.covers b) (ltb found.item.version v) found.passes).0)) found.passes

pub goes_is_may_go : {P : Type 0} (held : List (Held P)) (indexed : List Indexed) (s : Held P) (k : ℕ) (r : Record) (e : Indexed) (b : ℕ) → IsIndexOf indexed held → IsEntryOf s k r e → Contains indexed e
    → goes (listed_in indexed) e.listed b ≡ true → may_go (covers_of (extents_held held)) (is_homed_in indexed) (extent_of r).cover b ≡ true
goes_is_may_go held indexed s k r e b is its has given =
    let parts = both ((cover_of e.listed).covers b) (has_newer (listed_covers (listed_in indexed)) e.listed.version b || (is_homed e.listed b && not (has_older (listed_covers (listed_in indexed)) e.listed.version b))) given in
    subst (λ (c : Cover). may_go (covers_of (extents_held held)) (is_homed_in indexed) c b ≡ true) (same_cover s k r e its)
    (λ i. parts.0 i && why (either (has_newer (listed_covers (listed_in indexed)) e.listed.version b) (is_homed e.listed b && not (has_older (listed_covers (listed_in indexed)) e.listed.version b)) parts.1) i)
  where
    v : ℕ
    v = e.listed.version

    why : (has_newer (listed_covers (listed_in indexed)) e.listed.version b ≡ true) ⊎ ((is_homed e.listed b && not (has_older (listed_covers (listed_in indexed)) e.listed.version b)) ≡ true)
        → (has_newer (covers_of (extents_held held)) e.listed.version b || (is_homed_in indexed b && not (has_older (covers_of (extents_held held)) e.listed.version b))) ≡ true
    why (inl newer) = λ i. newer_held held indexed e.listed.version b is newer i || (is_homed_in indexed b && not (has_older (covers_of (extents_held held)) e.listed.version b))
    why (inr homed) =
        let parts = both (is_homed e.listed b) (not (has_older (listed_covers (listed_in indexed)) e.listed.version b)) homed in
        true_or (has_newer (covers_of (extents_held held)) e.listed.version b) (is_homed_in indexed b && not (has_older (covers_of (extents_held held)) e.listed.version b))
        (λ i. any_member (λ (d : Indexed). is_homed d.listed b) indexed e has parts.0 i && not_false (has_older (covers_of (extents_held held)) e.listed.version b)
        (none_older (has_older (covers_of (extents_held held)) e.listed.version b) refl (not_true (has_older (listed_covers (listed_in indexed)) e.listed.version b) parts.1)) i)
      where
        none_older : (t : Bool) → has_older (covers_of (extents_held held)) e.listed.version b ≡ t → has_older (listed_covers (listed_in indexed)) e.listed.version b ≡ false → has_older (covers_of (extents_held held)) e.listed.version b ≡ false
        none_older true is_older none = absurd (let no : true ≡ false = sym (older_listed held indexed e.listed.version b is is_older) ∙ none in cc)
        none_older false is_older none = is_older
