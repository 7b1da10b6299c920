-- A chunk that is tidy is told to be.
use Rattle.std.proofs.Common.{◌≡◌, ⊎_elim, ◌<◌, ◌≤◌, ◌+◌, ◌^◌, ℕ, Bool, true, false, cond, ◌&&◌, not, List, [], ◌∷◌, map, None, Some, refl, sym, ap, ◌∙◌, arith, ltb}
use Rattle.std.specs.Prelude.{Contains, IfSome, find, is_some}
use Rattle.std.specs.List.{range_with_len}
use Rattle.std.specs.Option.{option_map}
use Rattle.std.proofs.lemmas.Bool.{cases_lt, cases_eq, eq-eqb, leb-true}
use Rattle.std.proofs.lemmas.Option.{none-some}
use Rattle.wol_model.specs.Extents.{Cover, marked, newest, has_newer, has_older}
use Rattle.wol_model.specs.Index.{Listed, Indexed, listed_in, cover_of, listed_covers, is_covered, is_live, is_older}
use Rattle.wol_model.specs.Log.{has_bit}
use Rattle.wol_promise.proofs.Covers.{any_found, any_member}
use Rattle.wol_promise.proofs.Lists.{all_member, member_map}
use Rattle.block_cells.specs.Masks.{IsMask, in_mask}
use Rattle.block_cells.specs.declared.record.Rec.{Rec}
use Rattle.block_cells.proofs.Marks.{in_mask-bit, marked-marks_of}
use Rattle.redirect_map.specs.Index.{IsAnswer, IsIndex, cover_at, entry_at, has_version}
use Rattle.manager.proofs.Entries.{among, entry_of_version, same_mask, some_of}
use Rattle.manager.proofs.RunContent.{IsNewest, newest_is, newest_listed}
use Rattle.garbage_list.proofs.Nexts.{Answered, answered, unanswered}
use Rattle.manager.proofs.RunSources.{same_version}
use Rattle.wol_promise.proofs.Woken.{covered_is}
use Rattle.log_cleaner.specs.Chunks.{IsTidy, KeepsNone, is_within}
use Rattle.log_cleaner.proofs.Finding.{covers_mask, found, found_is}
use Rattle.log_cleaner.proofs.Tidying.{clash, covers, member_unmap, not_so, within_first}

pub not_found : {X : Type 0} (p : X → Bool) (xs : List X) (x : X) → find p xs ≡ None → Contains xs x → p x ≡ true → ⊥
not_found p [] x none has is = (let lt = has.1 in omega arith)
not_found p (y ∷ ys) x none has is = ⊎_elim
    (λ (same : y ≡ x). none-some y (sym (sym (λ i. cond ((ap p same ∙ is) i) (Some y) (find p ys)) ∙ none)))
    (λ there. at (p y) refl none (λ rest. not_found p ys x rest there is))
    (Rattle.wol_promise.proofs.Lists.member_front y ys x has)
  where
    at : (t : Bool) → p y ≡ t → cond t (Some y) (find p ys) ≡ None → (find p ys ≡ None → ⊥) → ⊥
    at true here found rest = none-some y (sym found)
    at false here found rest = rest found

-- where there is no newest record none covers the block
pub none_covers : (es : List Indexed) (b : ℕ) → IsAnswer (newest cover_at es b) None → is_covered (listed_in es) b ≡ false
none_covers es b a = covered_is (listed_in es) b ∙ ap is_some (newest_listed es b ∙ ap (option_map (λ (e : Indexed). e.listed)) (unanswered (newest cover_at es b) a))

-- the newest record keeps the block, and what it keeps is covered
pub newest_covers : (es : List Indexed) (b : ℕ) (r : Rec) → IsAnswer (newest cover_at es b) (Some r) → (in_mask r.lbn r.keep b ≡ true) × ((x : ℕ) → in_mask r.lbn r.keep x ≡ true → is_covered (listed_in es) x ≡ true)
newest_covers es b r a = (
  sym (mask b) ∙ its.covers,
  λ x is. any_member (λ (d : Listed). covers d x) (listed_in es) n.entry.listed (member_map (λ (e : Indexed). e.listed) es n.entry its.among) (mask x ∙ is),
)
  where
    n : Answered (newest cover_at es b) r
    n = answered (newest cover_at es b) r a

    its : IsNewest cover_at es b n.entry
    its = newest_is cover_at es b n.entry n.is

    mask : (x : ℕ) → covers n.entry.listed x ≡ in_mask r.lbn r.keep x
    mask x = (λ i. marked (sym n.record_.first i) (sym n.record_.keep i) x) ∙ marked-marks_of r.lbn r.count r.keep x n.record_.within

-- a record covers its first block
pub is_found : (es : List Indexed) (first count : ℕ) → 1 ≤ count → IsTidy (listed_in es) first count → IsAnswer (newest cover_at es first) None → ⊥
is_found es first count some t a = clash (is_covered (listed_in es) first)
    (any_member (λ (d : Listed). covers d first) (listed_in es) t.one.record_ t.one.listed (t.one.keeps first ∙ within_first first count some))
    (none_covers es first a)

module _ (es : List Indexed) (index : IsIndex es) (first count : ℕ) (some : 1 ≤ count) (t : IsTidy (listed_in es) first count) where
  abbrev L : List Listed
  L = listed_in es

  inside : is_within first count first ≡ true
  inside = within_first first count some

  -- its record among the entries
  its : (e : Indexed) × Contains es e × (e.listed ≡ t.one.record_)
  its = member_unmap (λ (d : Indexed). d.listed) es t.one.record_ t.one.listed

  its_version : its.0.listed.version ≡ t.version
  its_version = ap (λ (d : Listed). d.version) its.2 ∙ t.one.version_is

  -- an entry that keeps one of its blocks is that one
  is_its : (e : Indexed) → Contains es e → (b : ℕ) → is_within first count b ≡ true → covers e.listed b ≡ true → e ≡ its.0
  is_its e has b within is = ⊎_elim
      (λ same. same_version es e its.0 index.rising has its.1 (same ∙ sym its_version))
      (λ other. absurd (clash (covers e.listed b) is (all_member (λ (d : Listed). (d.version ≡ t.version → ⊥) → KeepsNone d first count) L e.listed t.alone (member_map (λ (d : Indexed). d.listed) es e has) other b within)))
      (cases_eq e.listed.version t.version)

  module _ (newest_ : Rec) (a : IsAnswer (newest cover_at es first) (Some newest_)) where
    n : Answered (newest cover_at es first) newest_
    n = answered (newest cover_at es first) newest_ a

    n_is : n.entry ≡ its.0
    n_is = let x = newest_is cover_at es first n.entry n.is in is_its n.entry x.among first inside x.covers

    v : newest_.version ≡ its.0.listed.version
    v = n.record_.version ∙ ap (λ (e : Indexed). e.listed.version) n_is

    pub is_there : IsAnswer (entry_at es newest_.version) None → ⊥
    is_there b = not_found (has_version newest_.version) es its.0 (unanswered (entry_at es newest_.version) b) its.1 (eq-eqb its.0.listed.version newest_.version (sym v))

    module _ (r : Rec) (b : IsAnswer (entry_at es newest_.version) (Some r)) where
      abbrev f : Indexed
      f = (found es index newest_.version r b).entry

      f_is : f ≡ its.0
      f_is = let at = entry_of_version es newest_.version f index.rising (found es index newest_.version r b).is in same_version es f its.0 index.rising (among at) its.1 (at.version_is ∙ v)

      just : (x : ℕ) → covers f.listed x ≡ is_within first count x
      just x = ap (λ (e : Indexed). covers e.listed x) f_is ∙ (λ i. covers (its.2 i) x) ∙ t.one.keeps x

      pub mask_just : (x : ℕ) → in_mask r.lbn r.keep x ≡ is_within first count x
      mask_just x = sym (covers_mask es index newest_.version r b x) ∙ just x

      -- no other record keeps a block of it
      lone : (x : ℕ) → covers f.listed x ≡ true → (has_newer (listed_covers L) f.listed.version x ≡ false) × (has_older (listed_covers L) f.listed.version x ≡ false)
      lone x is = (
        not_so (has_newer (listed_covers L) f.listed.version x) (λ yes_.
            let g = any_found (λ (c : Cover). c.covers x && ltb f.listed.version c.version) (listed_covers L) yes_ in other g.item g.among (parts (g.item.covers x) (ltb f.listed.version g.item.version) g.passes).0
            (λ same. let lt = Rattle.std.proofs.lemmas.Bool.ltb-true f.listed.version g.item.version (parts (g.item.covers x) (ltb f.listed.version g.item.version) g.passes).1 in omega (arith, lt, same))),
        not_so (has_older (listed_covers L) f.listed.version x) (λ yes_.
            let g = any_found (λ (c : Cover). c.covers x && ltb c.version f.listed.version) (listed_covers L) yes_ in other g.item g.among (parts (g.item.covers x) (ltb g.item.version f.listed.version) g.passes).0
            (λ same. let lt = Rattle.std.proofs.lemmas.Bool.ltb-true g.item.version f.listed.version (parts (g.item.covers x) (ltb g.item.version f.listed.version) g.passes).1 in omega (arith, lt, same))),
      )
        where
          parts : (s u : Bool) → (s && u) ≡ true → (s ≡ true) × (u ≡ true)
          parts true u e = (refl, e)
          parts false u e = absurd (let wrong : false ≡ true = e in cc)

          other : (c : Cover) → Contains (listed_covers L) c → c.covers x ≡ true → (c.version ≡ f.listed.version → ⊥) → ⊥
          other c has keeps ne =
              let d = member_unmap cover_of L c has in
              let e = member_unmap (λ (y : Indexed). y.listed) es d.0 d.1 in
              let same = is_its e.0 e.1 x (sym (just x) ∙ is) ((λ i. covers (e.2 i) x) ∙ (λ i. (d.2 i).covers x) ∙ keeps) in
              ne (sym (ap (λ (z : Cover). z.version) d.2) ∙ sym (ap (λ (y : Listed). y.version) e.2) ∙ ap (λ (y : Indexed). y.listed.version) (same ∙ sym f_is))

      pub alone_is : (mask : ℕ) → mask < 2 ^ 128 → r.keep < 2 ^ 128 → IfSome (entry_at es r.version) (λ d. IsMask d.listed.first (λ x. is_live L d.listed x && not (is_older L d.listed x)) mask) → mask ≡ r.keep
      alone_is mask small small' alone = same_mask 128 mask r.keep small small' (λ i. map (λ (k : ℕ). bits k i) (range_with_len 0 128))
        where
          first_is : f.listed.first ≡ r.lbn
          first_is = sym (found es index newest_.version r b).record_.first

          and_so : (c nw old : Bool) → (c ≡ true → (nw ≡ false) × (old ≡ false)) → ((c && not nw) && not (c && old)) ≡ c
          and_so true nw old h = let p = h refl in λ i. not (p.0 i) && not (p.1 i)
          and_so false nw old h = refl

          bits : (k : ℕ) → has_bit mask k ≡ has_bit r.keep k
          bits k =
              some_of (λ (d : Indexed). IsMask d.listed.first (λ x. is_live L d.listed x && not (is_older L d.listed x)) mask) (entry_at es r.version) f alone (found_is es index newest_.version r b) k
              ∙ and_so (covers f.listed (f.listed.first + k)) (has_newer (listed_covers L) f.listed.version (f.listed.first + k)) (has_older (listed_covers L) f.listed.version (f.listed.first + k)) (lone (f.listed.first + k))
              ∙ covers_mask es index newest_.version r b (f.listed.first + k)
              ∙ (λ i. in_mask r.lbn r.keep (first_is i + k)) ∙ in_mask-bit r.lbn r.keep k
