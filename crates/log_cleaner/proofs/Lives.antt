-- Live blocks: what they are, and that a write of other blocks and giving up what may go leave them.
use Rattle.std.proofs.Common.{◌≡◌, ⊎_elim, ◌<◌, ◌≤◌, ◌+◌, ℕ, Bool, true, false, not, ◌&&◌, List, [], ◌∷◌, ◌++◌, map, length, refl, sym, ap, subst, ◌∙◌, arith, ltb}
use Rattle.std.specs.Prelude.{Contains}
use Rattle.std.specs.List.{AllByRecursion}
use Rattle.std.proofs.lemmas.Bool.{cases_lt, eqb-true, lt-ltb, ltb-true}
use Rattle.std.proofs.lemmas.List.Elements.{Contains-append_left}
use Rattle.wol_model.specs.Blocks.{Write}
use Rattle.wol_model.specs.Extents.{Cover, has_newer}
use Rattle.wol_model.specs.Index.{Listed, Indexed, listed_in, cover_of, is_live, goes, listed_covers}
use Rattle.wol_model.proofs.Counts.{not_true}
use Rattle.wol_promise.specs.Policy.{Look, listing}
use Rattle.wol_promise.proofs.Covers.{any_found, any_member}
use Rattle.wol_promise.proofs.Lists.{all_mapped, all_member, all_push, member_map}
use Rattle.redirect_map.specs.Index.{IsIndex, has_version}
use Rattle.manager.specs.Reclaim.{given_of}
use Rattle.manager.proofs.RunSources.{same_version}
use Rattle.log_cleaner.specs.Chunks.{HasLive, NoneHomed, is_within}
use Rattle.log_cleaner.proofs.Lists.{each_is_member}
use Rattle.log_cleaner.proofs.Tidying.{From, both_true, clash, covers, given_from, marked_full, member_unmap, newer_of_goes, newest_, not_homed, not_so, older, then_, then_fewer, then_same, then_there, then_version}

-- ---- What a live block is

-- the record keeps it, and no newer one does
pub record IsTop (es : List Listed) (e : Listed) (b : ℕ) : Type 0 where
  pub keeps : covers e b ≡ true
  pub top : (d : Listed) → Contains es d → covers d b ≡ true → e.version < d.version → ⊥

pub newer_of_member : (es : List Listed) (version b : ℕ) (d : Listed) → Contains es d → covers d b ≡ true → version < d.version → has_newer (listed_covers es) version b ≡ true
newer_of_member es version b d has there less =
    any_member (λ (c : Cover). c.covers b && ltb version c.version) (listed_covers es) (cover_of d) (member_map cover_of es d has) ((λ i. there i && ltb version d.version) ∙ lt-ltb version d.version less)

pub top_of : (es : List Listed) (e : Listed) (b : ℕ) → is_live es e b ≡ true → IsTop es e b
top_of es e b is =
    let p = both_true (covers e b) (not (has_newer (listed_covers es) e.version b)) is in record {
      keeps = p.0;
      top = λ d has there less. clash (has_newer (listed_covers es) e.version b) (newer_of_member es e.version b d has there less) (not_true (has_newer (listed_covers es) e.version b) p.1);
    }

pub live_of : (es : List Listed) (e : Listed) (b : ℕ) → IsTop es e b → is_live es e b ≡ true
live_of es e b t = λ i. t.keeps i && not (none i)
  where
    none : has_newer (listed_covers es) e.version b ≡ false
    none = not_so (has_newer (listed_covers es) e.version b) (λ yes_.
        let f = any_found (λ (c : Cover). c.covers b && ltb e.version c.version) (listed_covers es) yes_ in
        let m = member_unmap cover_of es f.item f.among in
        let both = both_true (f.item.covers b) (ltb e.version f.item.version) f.passes in
        t.top m.0 m.1 ((λ i. (m.2 i).covers b) ∙ both.0) (subst (λ (c : Cover). e.version < c.version) (sym m.2) (ltb-true e.version f.item.version both.1)))

-- it is one of one version alone
pub one_live : (es : List Listed) (v u b : ℕ) → HasLive es v b → HasLive es u b → v ≡ u
one_live es v u b x y =
    let s = top_of es x.0 b x.3 in let t = top_of es y.0 b y.3 in let d = x.2 in let e = y.2 in
    ⊎_elim
    (λ (lt : x.0.version < y.0.version). absurd (s.top y.0 y.1 t.keeps lt))
    (λ (ge : y.0.version ≤ x.0.version). ⊎_elim
    (λ (lt : y.0.version < x.0.version). absurd (t.top x.0 x.1 s.keeps lt))
    (λ (le : x.0.version ≤ y.0.version). (let same : v ≡ u = omega (arith, le, ge, d, e) in same))
    (cases_lt y.0.version x.0.version))
    (cases_lt x.0.version y.0.version)

-- an index has one record of a version
pub same_listed : (es : List Indexed) → IsIndex es → (d e : Listed) → Contains (listed_in es) d → Contains (listed_in es) e → d.version ≡ e.version → d ≡ e
same_listed es index d e has_d has_e same =
    let m = member_unmap (λ (x : Indexed). x.listed) es d has_d in let n = member_unmap (λ (x : Indexed). x.listed) es e has_e in
    let v : m.0.listed.version ≡ n.0.listed.version = ap (λ (x : Listed). x.version) m.2 ∙ same ∙ sym (ap (λ (x : Listed). x.version) n.2) in
    sym m.2 ∙ ap (λ (x : Indexed). x.listed) (same_version es m.0 n.0 index.rising m.1 n.1 v) ∙ n.2

-- ---- A write

module _ (l : Look) (lane : ℕ) (w : Write) (unhomed : NoneHomed l.listed) (v b : ℕ) (outside : is_within w.first (length w.blocks) b ≡ false) where
  abbrev old_ : Listed → Listed
  old_ = older l lane w unhomed

  abbrev new_ : Listed
  new_ = newest_ l lane w unhomed

  not_new : covers new_ b ≡ true → ⊥
  not_new is = clash (is_within w.first (length w.blocks) b) (sym (marked_full w.first (length w.blocks) b) ∙ is) outside

  among : (e : Listed) → Contains l.listed e → Contains (listing l lane w) (old_ e)
  among e has = Contains-append_left (map old_ l.listed) (new_ ∷ []) (old_ e) (member_map old_ l.listed e has)

  -- a block that isn't of the write stays live
  pub listing_live : HasLive l.listed v b → HasLive (listing l lane w) v b
  listing_live x =
      let t = top_of l.listed x.0 b x.3 in
      let above = all_push (λ (d : Listed). covers d b ≡ true → x.0.version < d.version → ⊥) (map old_ l.listed) new_
      (all_mapped (λ (d : Listed). covers d b ≡ true → x.0.version < d.version → ⊥) old_ l.listed (each_is_member (λ (d : Listed). covers d b ≡ true → x.0.version < d.version → ⊥) l.listed (λ d has there less. t.top d has there less)))
      (λ there less. not_new there) in (
        old_ x.0,
        among x.0 x.1,
        x.2,
        live_of (listing l lane w) (old_ x.0) b (record {
          keeps = t.keeps;
          top = λ d has there less. all_member (λ (d : Listed). covers d b ≡ true → x.0.version < d.version → ⊥) (listing l lane w) d above has there less;
        }),
      )

  -- and was
  abbrev Was : Listed → Type 0
  Was d = d.version ≡ v → IsTop (listing l lane w) d b → HasLive l.listed v b

  pub listing_lived : HasLive (listing l lane w) v b → HasLive l.listed v b
  listing_lived x = all_member Was (listing l lane w) x.0 (all_push Was (map old_ l.listed) new_ (all_mapped Was old_ l.listed (each_is_member (λ (e : Listed). Was (old_ e)) l.listed olds)) (λ is t. absurd (not_new t.keeps)))
      x.1 x.2 (top_of (listing l lane w) x.0 b x.3)
    where
      olds : (e : Listed) → Contains l.listed e → Was (old_ e)
      olds e has is t = (e, has, is, live_of l.listed e b (record { keeps = t.keeps; top = λ d there keeps less. t.top (old_ d) (among d there) keeps less }))

-- ---- A step in which one record gives up what goes

module _ (es : List Indexed) (version : ℕ) (unhomed : NoneHomed (listed_in es)) where
  abbrev rest : List Indexed
  rest = given_of version es

  -- an entry where it stays
  abbrev kept : Indexed → Indexed
  kept e = then_ es version unhomed e

  -- what each that is left comes of
  record CameOf (d : Listed) : Type 0 where
    entry : Indexed
    among_ : Contains es entry
    is : (kept entry).listed ≡ d

  came_of : (d : Listed) → Contains (listed_in rest) d → CameOf d
  came_of d has =
      let g = member_unmap (λ (x : Indexed). x.listed) rest d has in
      let f = all_member (From es version unhomed) rest g.0 (given_from es version unhomed) g.1 in
      record { entry = f.0; among_ = f.1; is = ap (λ (x : Indexed). x.listed) (sym f.2) ∙ g.2 }

  came_version : (d : Listed) (c : CameOf d) → c.entry.listed.version ≡ d.version
  came_version d c = sym (then_version es version unhomed c.entry) ∙ ap (λ (x : Listed). x.version) c.is

  came_covers : (d : Listed) (c : CameOf d) (b : ℕ) → covers d b ≡ true → covers c.entry.listed b ≡ true
  came_covers d c b is = then_fewer es version unhomed c.entry b ((λ i. covers (c.is i) b) ∙ is)

  -- a block that doesn't go is kept
  stays : (e : Indexed) (b : ℕ) → Contains es e → covers e.listed b ≡ true → (has_version version e ≡ true → goes (listed_in es) e.listed b ≡ false)
      → Contains (listed_in rest) (kept e).listed × (covers (kept e).listed b ≡ true)
  stays e b has is still =
      let same : covers (kept e).listed b ≡ true = then_same es version unhomed e b (λ v c. still v) ∙ is in
      (member_map (λ (x : Indexed). x.listed) rest (kept e) (then_there es version unhomed e b has same), same)

  -- a live block stays live
  pub given_live : (v b : ℕ) → HasLive (listed_in es) v b → HasLive (listed_in (given_of version es)) v b
  given_live v b x =
      let m = member_unmap (λ (y : Indexed). y.listed) es x.0 x.1 in
      let t = top_of (listed_in es) x.0 b x.3 in
      let here : covers m.0.listed b ≡ true = (λ i. covers (m.2 i) b) ∙ t.keeps in
      let w = ap (λ (y : Listed). y.version) m.2 in
      let still : goes (listed_in es) m.0.listed b ≡ false = not_so (goes (listed_in es) m.0.listed b) (λ gone.
      let n = newer_of_goes (listed_in es) m.0.listed b (not_homed es version unhomed m.0 m.1 b) gone in
      t.top n.record_ n.listed n.keeps (let a = n.above in omega (arith, a, w))) in
      let s = stays m.0 b m.1 here (λ yes_. still) in
      let k = then_version es version unhomed m.0 in (
        (kept m.0).listed,
        s.0,
        k ∙ w ∙ x.2,
        live_of (listed_in rest) (kept m.0).listed b (record {
          keeps = s.1;
          top = λ d has there less.
              let c = came_of d has in
              t.top c.entry.listed (member_map (λ (y : Indexed). y.listed) es c.entry c.among_) (came_covers d c b there) (let u = came_version d c in omega (arith, less, u, k, w));
        }),
      )

  -- and was
  pub given_lived : (v b : ℕ) → HasLive (listed_in (given_of version es)) v b → HasLive (listed_in es) v b
  given_lived v b x = (
    c.entry.listed,
    member_map (λ (y : Indexed). y.listed) es c.entry c.among_,
    came_version x.0 c ∙ x.2,
    live_of (listed_in es) c.entry.listed b (record {
      keeps = came_covers x.0 c b t.keeps;
      top = λ e has there less. let m = member_unmap (λ (y : Indexed). y.listed) es e has in
          let w = ap (λ (y : Listed). y.version) m.2 in
          above m.0 m.1 ((λ i. covers (m.2 i) b) ∙ there) (omega (arith, less, w));
    }),
  )
    where
      c : CameOf x.0
      c = came_of x.0 x.1

      t : IsTop (listed_in rest) x.0 b
      t = top_of (listed_in rest) x.0 b x.3

      none_stays : (e : Indexed) → Contains es e → covers e.listed b ≡ true → c.entry.listed.version < e.listed.version → (has_version version e ≡ true → goes (listed_in es) e.listed b ≡ false) → ⊥
      none_stays e has there less still =
          let s = stays e b has there still in
          t.top (kept e).listed s.0 s.1 (let u = came_version x.0 c in let k = then_version es version unhomed e in omega (arith, less, u, k))

      above : (e : Indexed) → Contains es e → covers e.listed b ≡ true → c.entry.listed.version < e.listed.version → ⊥
      above e has there less = at (goes (listed_in es) e.listed b) refl (has_version version e) refl
        where
          at : (g : Bool) → goes (listed_in es) e.listed b ≡ g → (s : Bool) → has_version version e ≡ s → ⊥
          at false gone s is = none_stays e has there less (λ yes_. gone)
          at true gone false is = none_stays e has there less (λ yes_. absurd (clash (has_version version e) yes_ is))
          at true gone true is =
              let n = newer_of_goes (listed_in es) e.listed b (not_homed es version unhomed e has b) gone in
              let m = member_unmap (λ (y : Indexed). y.listed) es n.record_ n.listed in
              let a = n.above in let w = ap (λ (y : Listed). y.version) m.2 in let y = eqb-true e.listed.version version is in
              none_stays m.0 m.1 ((λ i. covers (m.2 i) b) ∙ n.keeps) (omega (arith, less, a, w))
              (λ yes_. absurd (let z = eqb-true m.0.listed.version version yes_ in omega (arith, a, w, y, z)))
