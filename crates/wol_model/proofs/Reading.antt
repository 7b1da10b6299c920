-- Reading by an index.
use Rattle.std.proofs.Common.{◌≡◌, ◌⊎◌, inl, inr, ◌≤◌, ℕ, Bool, true, false, cond, ◌&&◌, ◌||◌, List, [], ◌∷◌, ◌++◌, Option, None, Some, refl, sym, ap, ◌∙◌, subst, arith, ltb}
use Rattle.std.proofs.lemmas.Option.{same_Some}
use Rattle.std.specs.Prelude.{unwrap_or}
use Rattle.std.specs.List.{AllByRecursion}
use Rattle.std.specs.Option.{option_and_then, option_map}
use Rattle.std.proofs.lemmas.Bool.Decides.{nat_tests}
use Rattle.wol_model.proofs.Live.{live_is_newest}
use Rattle.wol_model.proofs.Overlay.{overlay_get}
use Rattle.wol_model.proofs.Writing.{hd, of}
use Rattle.wol_model.specs.Extents.{Cover, Extent, newest, newer_of, newest_block, with_extents, has_newer, covers_of, IsValid}
use Rattle.wol_model.specs.IndexLaws.{IsOneOf, IndexFinds, IndexFindsNone, Reading}

-- what the newest one says of another
abbrev Bounds : ℕ → Option Cover → Cover → Type 0
Bounds b None c = c.covers b ≡ false
Bounds b (Some d) c = (d.covers b ≡ true) × (c.covers b ≡ true → c.version ≤ d.version)

raised : (b : ℕ) (e : Cover) (o : Option Cover) (c : Cover) → e.covers b ≡ true → Bounds b o c → Bounds b (newer_of (λ c. c) e o) c
raised b e None c covers low = (covers, λ is. absurd (let no : true ≡ false = sym is ∙ low in cc))
raised b e (Some d) c covers low = at (ltb e.version d.version) refl
  where
    at : (t : Bool) → ltb e.version d.version ≡ t → Bounds b (cond t (Some d) (Some e)) c
    at true is = low
    at false is = (covers, λ k. let le : c.version ≤ d.version = low.1 k in grind (arith, nat_tests))

bounds_own : (b : ℕ) (e : Cover) (o : Option Cover) → e.covers b ≡ true → ((d : Cover) → o ≡ Some d → d.covers b ≡ true) → Bounds b (newer_of (λ c. c) e o) e
bounds_own b e None covers all = (covers, λ k. omega arith)
bounds_own b e (Some d) covers all = at (ltb e.version d.version) refl
  where
    at : (t : Bool) → ltb e.version d.version ≡ t → Bounds b (cond t (Some d) (Some e)) e
    at true is = (all d refl, λ k. grind (arith, nat_tests))
    at false is = (covers, λ k. omega arith)

newest_covers : (cs : List Cover) (b : ℕ) (d : Cover) → newest (λ c. c) cs b ≡ Some d → d.covers b ≡ true
newest_covers [] b d is = cc
newest_covers (c ∷ cs) b d is = at (newest_covers cs b) (c.covers b) refl is
  where
    at : ((e : Cover) → newest (λ c. c) cs b ≡ Some e → e.covers b ≡ true) → (t : Bool) → c.covers b ≡ t → cond t (newer_of (λ c. c) c (newest (λ c. c) cs b)) (newest (λ c. c) cs b) ≡ Some d → d.covers b ≡ true
    at rest false k s = rest d s
    at rest true k s = of_two (newest (λ c. c) cs b) rest s
      where
        of_two : (o : Option Cover) → ((e : Cover) → o ≡ Some e → e.covers b ≡ true) → newer_of (λ c. c) c o ≡ Some d → d.covers b ≡ true
        of_two None all s = ap (λ (x : Cover). x.covers b) (sym (same_Some c d s)) ∙ k
        of_two (Some e) all s = chosen (ltb c.version e.version) s
          where
            chosen : (t : Bool) → cond t (Some e) (Some c) ≡ Some d → d.covers b ≡ true
            chosen true s = ap (λ (x : Cover). x.covers b) (sym (same_Some e d s)) ∙ all e refl
            chosen false s = ap (λ (x : Cover). x.covers b) (sym (same_Some c d s)) ∙ k

-- the newest one bounds each one that is listed
bounded : (cs : List Cover) (b : ℕ) (c : Cover) → IsOneOf c cs → Bounds b (newest (λ c. c) cs b) c
bounded [] b c one = absurd one
bounded (e ∷ cs) b c one = at (bounded cs b c) (e.covers b) refl one
  where
    at : (IsOneOf c cs → Bounds b (newest (λ c. c) cs b) c) → (t : Bool) → e.covers b ≡ t → (c ≡ e) ⊎ IsOneOf c cs → Bounds b (cond t (newer_of (λ c. c) e (newest (λ c. c) cs b)) (newest (λ c. c) cs b)) c
    at rest true k (inl same) = subst (Bounds b (newer_of (λ c. c) e (newest (λ c. c) cs b))) (sym same) (bounds_own b e (newest (λ c. c) cs b) k (newest_covers cs b))
    at rest true k (inr one) = raised b e (newest (λ c. c) cs b) c k (rest one)
    at rest false k (inl same) = hidden (newest (λ c. c) cs b) refl
      where
        hidden : (o : Option Cover) → newest (λ c. c) cs b ≡ o → Bounds b o c
        hidden None n = ap (λ (x : Cover). x.covers b) same ∙ k
        hidden (Some d) n = (newest_covers cs b d n, λ is. absurd (let no : true ≡ false = sym is ∙ ap (λ (x : Cover). x.covers b) same ∙ k in cc))
    at rest false k (inr one) = rest one

pub index_finds : IndexFinds
index_finds cs front back r b distinct listed found = live_is_newest front back r b distinct (newest_covers cs b r.cover found) (none_newer (front ++ r ∷ back) listed)
  where
    none_newer : (rs : List Extent) → AllByRecursion (λ s. IsValid s.cover → IsOneOf s.cover cs) rs → has_newer (covers_of rs) r.cover.version b ≡ false
    none_newer [] all = refl
    none_newer (s ∷ rs) all = λ i. here (s.cover.covers b) refl i || none_newer rs all.1 i
      where
        here : (t : Bool) → s.cover.covers b ≡ t → (t && ltb r.cover.version s.cover.version) ≡ false
        here false k = refl
        here true k = let low = subst (λ (o : Option Cover). Bounds b o s.cover) found (bounded cs b s.cover (all.0 (b, k))) in let le : s.cover.version ≤ r.cover.version = low.1 k in grind (arith, nat_tests)

pub index_finds_none : IndexFindsNone
unfolding newest_block
index_finds_none cs rs b listed none = ap (option_and_then (of b)) (nothing rs listed)
  where
    nothing : (rs : List Extent) → AllByRecursion (λ s. IsValid s.cover → IsOneOf s.cover cs) rs → newest hd rs b ≡ None
    nothing [] all = refl
    nothing (s ∷ rs) all = ap (λ (t : Bool). cond t (newer_of hd s (newest hd rs b)) (newest hd rs b)) (uncovered (s.cover.covers b) refl) ∙ nothing rs all.1
      where
        uncovered : (t : Bool) → s.cover.covers b ≡ t → s.cover.covers b ≡ false
        uncovered false k = k
        uncovered true k = subst (λ (o : Option Cover). Bounds b o s.cover) none (bounded cs b s.cover (all.0 (b, k)))

pub reading_lem : Reading
unfolding with_extents
reading_lem home rs b x at = overlay_get home (newest_block rs) b ∙ ap (option_map (λ z. unwrap_or (newest_block rs b) z)) at
