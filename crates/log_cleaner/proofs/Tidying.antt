-- What writing a chunk again and giving up what may go make of the listed records.
use Rattle.std.proofs.Common.{◌≡◌, ◌⊎◌, inl, inr, ⊎_elim, ◌<◌, ◌≤◌, ◌+◌, ◌-◌, ℕ, zero, suc, Bool, true, false, cond, not, ◌&&◌, ◌||◌, List, [], ◌∷◌, ◌++◌, map, length, refl, sym, ap, subst, ◌∙◌, arith, leb, ltb, get_or, replicate}
use Rattle.std.specs.Prelude.{Contains}
use Rattle.std.specs.List.{list_any, range_with_len, AllByRecursion}
use Rattle.std.proofs.lemmas.Bool.{leb-true, lt-ltb, le-ltb, ltb-true, eqb-true, cases_lt, ne_eqb}
use Rattle.std.proofs.lemmas.List.{get_or-replicate, get_or_past}
use Rattle.wol_model.specs.Blocks.{Write}
use Rattle.wol_model.specs.Extents.{Cover, marked, remarked, has_newer, has_older}
use Rattle.wol_model.specs.Index.{Listed, Indexed, listed_in, cover_of, is_homed, listed_covers, is_covered, goes, block_numbers, keeps_a_block, has_going}
use Rattle.wol_model.proofs.Counts.{marked_within}
use Rattle.wol_model.proofs.Marks.{remarked_is, none_marked}
use Rattle.wol_promise.specs.Policy.{Look, listing, is_in}
use Rattle.wol_promise.proofs.Covers.{any_found, any_member}
use Rattle.wol_promise.proofs.Lists.{all_map, all_mapped, all_member, all_push, member_map, member_front, member_behind}
use Rattle.wol_promise.proofs.Wholes.{member_filter}
use Rattle.redirect_map.specs.Index.{changed, has_version}
use Rattle.manager.specs.Reclaim.{with_kept, given_of}
use Rattle.log_cleaner.specs.Chunks.{KeepsNone, IsTidy, IsUppermost, NoneHomed, is_within}
use Rattle.log_cleaner.proofs.Lists.{all_filter, each_is_member}

abbrev pub covers : Listed → ℕ → Bool
covers e b = (cover_of e).covers b

-- ---- Small things

pub clash : (t : Bool) → t ≡ true → t ≡ false → ⊥
clash t is not_ = let wrong : true ≡ false = sym is ∙ not_ in cc

pub not_so : (t : Bool) → (t ≡ true → ⊥) → t ≡ false
not_so true never = absurd (never refl)
not_so false never = refl

pub both_ways : (a b : Bool) → (a ≡ true → b ≡ true) → (b ≡ true → a ≡ true) → a ≡ b
both_ways true b to from = sym (to refl)
both_ways false true to from = from refl
both_ways false false to from = refl

pub any_map : {X Y : Type 0} (p : Y → Bool) (f : X → Y) (xs : List X) → list_any p (map f xs) ≡ list_any (λ x. p (f x)) xs
any_map p f [] = refl
any_map p f (x ∷ xs) = λ i. p (f x) || any_map p f xs i

pub member_unmap : {X Y : Type 0} (f : X → Y) (xs : List X) (y : Y) → Contains (map f xs) y → (x : X) × Contains xs x × (f x ≡ y)
member_unmap f [] y has = absurd (let lt = has.1 in omega arith)
member_unmap f (x ∷ xs) y has = ⊎_elim
    (λ (same : f x ≡ y). (x, (0, omega arith, refl), same))
    (λ there. let r = member_unmap f xs y there in (r.0, member_behind x xs r.0 r.1, r.2))
    (member_front (f x) (map f xs) y has)

pub range_has : (a n b : ℕ) → a ≤ b → b < a + n → Contains (range_with_len a n) b
range_has a zero b le lt = absurd (omega (arith, le, lt))
range_has a (suc n) b le lt = ⊎_elim
    (λ later. member_behind a (range_with_len (a + 1) n) b (range_has (a + 1) n b (omega (arith, later)) (omega (arith, lt))))
    (λ here. (0, omega arith, (let same : a ≡ b = omega (arith, le, here) in same)))
    (cases_lt a b)

-- a record that covers a block keeps one
pub keeps_there : (e : Listed) (b : ℕ) → covers e b ≡ true → keeps_a_block e ≡ true
keeps_there e b is = let r = marked_within e.first e.keep b is in any_member (cover_of e).covers (block_numbers e) b (range_has e.first (length e.keep) b r.0 r.1) is

-- ---- Newer records

-- a block that a newer record keeps goes
pub goes_of_newer : (es : List Listed) (e d : Listed) (b : ℕ) → covers e b ≡ true → Contains es d → covers d b ≡ true → e.version < d.version → goes es e b ≡ true
goes_of_newer es e d b here has there less =
    let newer : has_newer (listed_covers es) e.version b ≡ true = any_member (λ (c : Cover). c.covers b && ltb e.version c.version) (listed_covers es) (cover_of d) (member_map cover_of es d has) ((λ i. there i && ltb e.version d.version) ∙ lt-ltb e.version d.version less) in
    (λ i. here i && (newer i || (is_homed e b && not (has_older (listed_covers es) e.version b))))

-- a block that isn't home goes only so
pub record Newer (es : List Listed) (version b : ℕ) : Type 0 where
  pub record_ : Listed
  pub listed : Contains es record_
  pub keeps : covers record_ b ≡ true
  pub above : version < record_.version

pub both_true : (a b : Bool) → (a && b) ≡ true → (a ≡ true) × (b ≡ true)
both_true true b is = (refl, is)
both_true false b is = absurd (let no : false ≡ true = is in cc)

pub newer_of_goes : (es : List Listed) (e : Listed) (b : ℕ) → is_homed e b ≡ false → goes es e b ≡ true → Newer es e.version b
newer_of_goes es e b home is =
    let parts = both_true (covers e b) (has_newer (listed_covers es) e.version b || (is_homed e b && not (has_older (listed_covers es) e.version b))) is in
    let f = any_found (λ (c : Cover). c.covers b && ltb e.version c.version) (listed_covers es) (alone (has_newer (listed_covers es) e.version b) (is_homed e b) (not (has_older (listed_covers es) e.version b)) home parts.1) in
    let m = member_unmap cover_of es f.item f.among in
    let both = both_true (f.item.covers b) (ltb e.version f.item.version) f.passes in
    record {
      record_ = m.0;
      listed = m.1;
      keeps = (λ i. (m.2 i).covers b) ∙ both.0;
      above = subst (λ (c : Cover). e.version < c.version) (sym m.2) (ltb-true e.version f.item.version both.1);
    }
  where
    alone : (n h o : Bool) → h ≡ false → (n || (h && o)) ≡ true → n ≡ true
    alone true h o home is = refl
    alone false true o home is = absurd (let wrong : true ≡ false = home in cc)
    alone false false o home is = absurd (let wrong : false ≡ true = is in cc)

-- ---- A step in which one record gives up what goes

module _ (es : List Indexed) (version : ℕ) (unhomed : NoneHomed (listed_in es)) where
  abbrev L : List Listed
  L = listed_in es

  abbrev given : List Indexed
  given = given_of version es

  -- what becomes of an entry, if it stays
  abbrev pub then_ : Indexed → Indexed
  then_ e = cond (has_version version e) (with_kept es e) e

  pub not_homed : (e : Indexed) → Contains es e → (b : ℕ) → is_homed e.listed b ≡ false
  not_homed e has = all_member (λ (d : Listed). (b : ℕ) → is_homed d b ≡ false) L e.listed unhomed (member_map (λ (d : Indexed). d.listed) es e has)

  covers_kept : (e : Indexed) (b : ℕ) → covers (with_kept es e).listed b ≡ (covers e.listed b && not (goes L e.listed b))
  covers_kept e b = remarked_is e.listed.first e.listed.keep (λ b m. m && not (goes L e.listed b)) b refl

  homed_kept : (e : Indexed) (b : ℕ) → is_homed (with_kept es e).listed b ≡ (is_homed e.listed b && not (goes L e.listed b))
  homed_kept e b = remarked_is e.listed.first e.listed.homed (λ b m. m && not (goes L e.listed b)) b refl

  pub then_version : (e : Indexed) → (then_ e).listed.version ≡ e.listed.version
  then_version e = at (has_version version e)
    where
      at : (t : Bool) → (cond t (with_kept es e) e).listed.version ≡ e.listed.version
      at true = refl
      at false = refl

  -- it keeps no other blocks than before
  pub then_fewer : (e : Indexed) (b : ℕ) → covers (then_ e).listed b ≡ true → covers e.listed b ≡ true
  then_fewer e b = at (has_version version e)
    where
      at : (t : Bool) → covers (cond t (with_kept es e) e).listed b ≡ true → covers e.listed b ≡ true
      at true is = (both_true (covers e.listed b) (not (goes L e.listed b)) (sym (covers_kept e b) ∙ is)).0
      at false is = is

  -- and the same where it doesn't go
  pub then_same : (e : Indexed) (b : ℕ) → (has_version version e ≡ true → covers e.listed b ≡ true → goes L e.listed b ≡ false) → covers (then_ e).listed b ≡ covers e.listed b
  then_same e b stays = at (has_version version e) refl
    where
      kept : (c g : Bool) → (c ≡ true → g ≡ false) → (c && not g) ≡ c
      kept true g s = λ i. not (s refl i)
      kept false g s = refl

      at : (t : Bool) → has_version version e ≡ t → covers (cond t (with_kept es e) e).listed b ≡ covers e.listed b
      at true is = covers_kept e b ∙ kept (covers e.listed b) (goes L e.listed b) (stays is)
      at false is = refl

  then_unhomed : (e : Indexed) → Contains es e → (b : ℕ) → is_homed (then_ e).listed b ≡ false
  then_unhomed e has b = at (has_version version e)
    where
      at : (t : Bool) → is_homed (cond t (with_kept es e) e).listed b ≡ false
      at true = homed_kept e b ∙ (λ i. not_homed e has b i && not (goes L e.listed b))
      at false = not_homed e has b

  -- it stays where it keeps a block
  pub then_there : (e : Indexed) (b : ℕ) → Contains es e → covers (then_ e).listed b ≡ true → Contains given (then_ e)
  then_there e b has keeps = member_filter (λ (d : Indexed). keeps_a_block d.listed) (changed version (with_kept es) es) (then_ e) (member_map then_ es e has) (keeps_there (then_ e).listed b keeps)

  -- each entry that is left comes of one
  abbrev pub From : Indexed → Type 0
  From d = (e : Indexed) × Contains es e × (d ≡ then_ e)

  pub given_from : AllByRecursion From given
  given_from = all_filter From (λ (d : Indexed). keeps_a_block d.listed) (changed version (with_kept es) es) (all_mapped From then_ es (each_is_member (λ (e : Indexed). From (then_ e)) es (λ e has. (e, has, refl))))

  pub given_unhomed : NoneHomed (listed_in given)
  given_unhomed = all_mapped (λ (d : Listed). (b : ℕ) → is_homed d b ≡ false) (λ (d : Indexed). d.listed) given
      (all_map From (λ (d : Indexed). (b : ℕ) → is_homed d.listed b ≡ false) (λ d f b. subst (λ (x : Indexed). is_homed x.listed b ≡ false) (sym f.2) (then_unhomed f.0 f.1 b)) given given_from)

  any_listed : (xs : List Indexed) (b : ℕ) → is_covered (listed_in xs) b ≡ list_any (λ (e : Indexed). covers e.listed b) xs
  any_listed xs b = any_map (λ (d : Listed). covers d b) (λ (e : Indexed). e.listed) xs

  -- the same blocks are covered
  pub given_covered : (b : ℕ) → is_covered (listed_in given) b ≡ is_covered L b
  given_covered b = both_ways (is_covered (listed_in given) b) (is_covered L b) to from
    where
      to : is_covered (listed_in given) b ≡ true → is_covered L b ≡ true
      to is =
          let f = any_found (λ (e : Indexed). covers e.listed b) given (sym (any_listed given b) ∙ is) in
          let g = all_member From given f.item given_from f.among in
          any_listed es b ∙ any_member (λ (e : Indexed). covers e.listed b) es g.0 g.1 (then_fewer g.0 b (subst (λ (x : Indexed). covers x.listed b ≡ true) g.2 f.passes))

      there : (e : Indexed) → Contains es e → covers e.listed b ≡ true → (has_version version e ≡ true → goes L e.listed b ≡ false) → is_covered (listed_in given) b ≡ true
      there e has is stays =
          let still = then_same e b (λ v c. stays v) ∙ is in
          any_listed given b ∙ any_member (λ (d : Indexed). covers d.listed b) given (then_ e) (then_there e b has still) still

      from : is_covered L b ≡ true → is_covered (listed_in given) b ≡ true
      from is = let f = any_found (λ (e : Indexed). covers e.listed b) es (sym (any_listed es b) ∙ is) in at f.item f.among f.passes (goes L f.item.listed b) refl
        where
          at : (e : Indexed) → Contains es e → covers e.listed b ≡ true → (t : Bool) → goes L e.listed b ≡ t → is_covered (listed_in given) b ≡ true
          at e has is false stays = there e has is (λ v. stays)
          at e has is true gone = by_version (has_version version e) refl
            where
              by_version : (t : Bool) → has_version version e ≡ t → is_covered (listed_in given) b ≡ true
              by_version false other = there e has is (λ v. absurd (clash (has_version version e) v other))
              by_version true same =
                  let n = newer_of_goes L e.listed b (not_homed e has b) gone in
                  let m = member_unmap (λ (d : Indexed). d.listed) es n.record_ n.listed in
                  there m.0 m.1 ((λ i. covers (m.2 i) b) ∙ n.keeps)
                  (λ v. absurd (let x = n.above in let y = eqb-true e.listed.version version same in let z = eqb-true m.0.listed.version version v in let w = ap (λ (d : Listed). d.version) m.2 in omega (arith, x, y, z, w)))

-- ---- Records that are uppermost

pub upper_of_tidy : (es : List Listed) (first count : ℕ) → (t : IsTidy es first count) → IsUppermost es t.version first count
upper_of_tidy es first count t = record {
  one = t.one;
  above = all_map (λ (e : Listed). (e.version ≡ t.version → ⊥) → KeepsNone e first count) (λ (e : Listed). t.version < e.version → KeepsNone e first count) (λ e none less. none (λ same. omega (arith, less, same))) es t.alone;
}

pub within_first : (first count : ℕ) → 1 ≤ count → is_within first count first ≡ true
within_first first count some = (λ i. at i && ltb first (first + count)) ∙ lt-ltb first (first + count) (omega (arith, some))
  where
    at : leb first first ≡ true
    at = Rattle.std.proofs.lemmas.Bool.le-leb first first (omega arith)

pub given_upper : (es : List Indexed) (version : ℕ) → NoneHomed (listed_in es) → (u first count : ℕ) → 1 ≤ count → IsUppermost (listed_in es) u first count → IsUppermost (listed_in (given_of version es)) u first count
given_upper es version unhomed u first count some x =
    let m = member_unmap (λ (d : Indexed). d.listed) es x.one.record_ x.one.listed in
    let e = m.0 in let has = m.1 in
    let just : (b : ℕ) → covers e.listed b ≡ is_within first count b = λ b. (λ i. covers (m.2 i) b) ∙ x.one.keeps b in
    let v : e.listed.version ≡ u = ap (λ (d : Listed). d.version) m.2 ∙ x.one.version_is in
    let stays : (b : ℕ) → covers e.listed b ≡ true → goes (listed_in es) e.listed b ≡ false = λ b is. not_so (goes (listed_in es) e.listed b) (λ gone.
    let n = newer_of_goes (listed_in es) e.listed b (not_homed es version unhomed e has b) gone in
    clash (covers n.record_ b) n.keeps (all_member (λ (d : Listed). u < d.version → KeepsNone d first count) (listed_in es) n.record_ x.above n.listed (let a = n.above in omega (arith, a, v)) b (sym (just b) ∙ is))) in
    let same : (b : ℕ) → covers (then_ es version unhomed e).listed b ≡ covers e.listed b = λ b. then_same es version unhomed e b (λ hv is. stays b is) in
    record {
      one = record {
        record_ = (then_ es version unhomed e).listed;
        listed = member_map (λ (d : Indexed). d.listed) (given_of version es) (then_ es version unhomed e) (then_there es version unhomed e first has (same first ∙ just first ∙ within_first first count some));
        version_is = then_version es version unhomed e ∙ v;
        keeps = λ b. same b ∙ just b;
      };
      above = all_mapped (λ (d : Listed). u < d.version → KeepsNone d first count) (λ (d : Indexed). d.listed) (given_of version es)
          (all_map (From es version unhomed) (λ (d : Indexed). u < d.listed.version → KeepsNone d.listed first count) (λ d f less b inside. not_so (covers d.listed b) (λ is.
          clash (covers f.0.listed b) (then_fewer es version unhomed f.0 b (subst (λ (y : Indexed). covers y.listed b ≡ true) f.2 is))
          (all_member (λ (y : Listed). u < y.version → KeepsNone y first count) (listed_in es) f.0.listed x.above (member_map (λ (y : Indexed). y.listed) es f.0 f.1)
          (let w = ap (λ (y : Indexed). y.listed.version) f.2 ∙ then_version es version unhomed f.0 in omega (arith, less, w)) b inside)))
          (given_of version es) (given_from es version unhomed));
    }

-- a chunk that is tidy stays so
pub given_tidy : (es : List Indexed) (version : ℕ) → NoneHomed (listed_in es) → (first count : ℕ) → 1 ≤ count → IsTidy (listed_in es) first count → IsTidy (listed_in (given_of version es)) first count
given_tidy es version unhomed first count some t = record {
  version = t.version;
  one = (given_upper es version unhomed t.version first count some (upper_of_tidy (listed_in es) first count t)).one;
  alone = all_mapped (λ (d : Listed). (d.version ≡ t.version → ⊥) → KeepsNone d first count) (λ (d : Indexed). d.listed) (given_of version es)
      (all_map (From es version unhomed) (λ (d : Indexed). (d.listed.version ≡ t.version → ⊥) → KeepsNone d.listed first count) (λ d f other b inside. not_so (covers d.listed b) (λ is.
      clash (covers f.0.listed b) (then_fewer es version unhomed f.0 b (subst (λ (y : Indexed). covers y.listed b ≡ true) f.2 is))
      (all_member (λ (y : Listed). (y.version ≡ t.version → ⊥) → KeepsNone y first count) (listed_in es) f.0.listed t.alone (member_map (λ (y : Indexed). y.listed) es f.0 f.1)
      (λ same. other (ap (λ (y : Indexed). y.listed.version) f.2 ∙ then_version es version unhomed f.0 ∙ same)) b inside)))
      (given_of version es) (given_from es version unhomed));
}

-- where nothing goes, uppermost records are alone
pub tidy_of_upper : (es : List Listed) (u first count : ℕ) → AllByRecursion (λ (e : Listed). (b : ℕ) → goes es e b ≡ false) es → IsUppermost es u first count → IsTidy es first count
tidy_of_upper es u first count none x = record {
  version = u;
  one = x.one;
  alone = each_is_member (λ (e : Listed). (e.version ≡ u → ⊥) → KeepsNone e first count) es (λ e has other b inside. not_so (covers e b) (λ is. at e has other b inside is (cases_lt u e.version)));
}
  where
    at : (e : Listed) → Contains es e → (e.version ≡ u → ⊥) → (b : ℕ) → is_within first count b ≡ true → covers e b ≡ true → (u < e.version) ⊎ (e.version ≤ u) → ⊥
    at e has other b inside is (inl less) = clash (covers e b) is (all_member (λ (d : Listed). u < d.version → KeepsNone d first count) es e x.above has less b inside)
    at e has other b inside is (inr more) =
        let v = x.one.version_is in
        clash (goes es e b) (goes_of_newer es e x.one.record_ b is x.one.listed (x.one.keeps b ∙ inside) (below e.version x.one.record_.version u other more v)) (all_member (λ (d : Listed). (c : ℕ) → goes es d c ≡ false) es e none has b)
      where
        below : (m n k : ℕ) → (m ≡ k → ⊥) → m ≤ k → n ≡ k → m < n
        below m n k ne le e = ⊎_elim (λ lt. omega (arith, lt, e)) (λ ge. absurd (ne (omega (arith, le, ge)))) (cases_lt m k)

-- nothing goes where no record has a block that goes
pub none_goes : (es : List Listed) (e : Listed) → has_going es e ≡ false → (b : ℕ) → goes es e b ≡ false
none_goes es e none b = not_so (goes es e b) (λ is.
    let parts = both_true (covers e b) (has_newer (listed_covers es) e.version b || (is_homed e b && not (has_older (listed_covers es) e.version b))) is in
    let r = marked_within e.first e.keep b parts.0 in
    clash (has_going es e) (any_member (goes es e) (block_numbers e) b (range_has e.first (length e.keep) b r.0 r.1) is) none)

-- ---- A write of a chunk

pub marked_full : (first n b : ℕ) → marked first (replicate n true) b ≡ is_within first n b
marked_full first n b = at (leb first b) refl
  where
    long : (m : ℕ) → length (replicate m true) ≡ m
    long zero = refl
    long (suc m) = ap suc (long m)

    inside : (k : ℕ) → b ≡ first + k → get_or (replicate n true) k false ≡ ltb b (first + n)
    inside k is = ⊎_elim
        (λ lt. get_or-replicate n k true false lt ∙ sym (lt-ltb b (first + n) (omega (arith, is, lt))))
        (λ past. let l = long n in get_or_past (replicate n true) k false (omega (arith, l, past)) ∙ sym (le-ltb b (first + n) (omega (arith, is, past))))
        (cases_lt k n)

    at : (t : Bool) → leb first b ≡ t → (t && get_or (replicate n true) (b - first) false) ≡ (t && ltb b (first + n))
    at true is = inside (b - first) (let le = leb-true first b is in omega (arith, le))
    at false is = refl

module _ (l : Look) (lane : ℕ) (w : Write) (unhomed : NoneHomed l.listed) where
  -- an older record, whose blocks are homed no more
  abbrev pub older : Listed → Listed
  older e = record e { homed = remarked e.first e.homed (λ b m. m && not (is_in w b)) }

  abbrev pub newest_ : Listed
  newest_ = record { version = l.next; first = w.first; keep = replicate (length w.blocks) true; lane = lane; homed = replicate (length w.blocks) false }

  pub listing_unhomed : NoneHomed (listing l lane w)
  listing_unhomed = all_push (λ (e : Listed). (b : ℕ) → is_homed e b ≡ false) (map older l.listed) newest_
      (all_mapped (λ (e : Listed). (b : ℕ) → is_homed e b ≡ false) older l.listed
      (all_map (λ (e : Listed). (b : ℕ) → is_homed e b ≡ false) (λ (e : Listed). (b : ℕ) → is_homed (older e) b ≡ false) (λ e none b. remarked_is e.first e.homed (λ b m. m && not (is_in w b)) b refl ∙ (λ i. none b i && not (is_in w b))) l.listed unhomed))
      (λ b. none_marked w.first (length w.blocks) b)

  pub listing_covered : ((b : ℕ) → is_within w.first (length w.blocks) b ≡ true → is_covered l.listed b ≡ true) → (b : ℕ) → is_covered (listing l lane w) b ≡ is_covered l.listed b
  listing_covered all b =
      any_joined (λ (e : Listed). covers e b) (map older l.listed) newest_ ∙ (λ i. any_map (λ (e : Listed). covers e b) older l.listed i || marked_full w.first (length w.blocks) b i)
      ∙ absorbed (is_covered l.listed b) (is_within w.first (length w.blocks) b) (all b)
    where
      any_joined : {X : Type 0} (p : X → Bool) (xs : List X) (x : X) → list_any p (xs ++ x ∷ []) ≡ (list_any p xs || p x)
      any_joined p [] x = or_no (p x)
        where
          or_no : (t : Bool) → (t || false) ≡ t
          or_no true = refl
          or_no false = refl
      any_joined p (y ∷ xs) x = (λ i. p y || any_joined p xs x i) ∙ assoc (p y) (list_any p xs) (p x)
        where
          assoc : (a b c : Bool) → (a || (b || c)) ≡ ((a || b) || c)
          assoc true b c = refl
          assoc false b c = refl

      absorbed : (c i : Bool) → (i ≡ true → c ≡ true) → (c || i) ≡ c
      absorbed true i all = refl
      absorbed false true all = sym (all refl)
      absorbed false false all = refl

  -- a chunk apart from it keeps its uppermost record
  pub listing_upper : (u first count : ℕ) → ((b : ℕ) → is_within first count b ≡ true → is_within w.first (length w.blocks) b ≡ false) → IsUppermost l.listed u first count → IsUppermost (listing l lane w) u first count
  listing_upper u first count apart x = record {
    one = record {
      record_ = older x.one.record_;
      listed = Rattle.std.proofs.lemmas.List.Elements.Contains-append_left (map older l.listed) (newest_ ∷ []) (older x.one.record_) (member_map older l.listed x.one.record_ x.one.listed);
      version_is = x.one.version_is;
      keeps = x.one.keeps;
    };
    above = all_push (λ (e : Listed). u < e.version → KeepsNone e first count) (map older l.listed) newest_
        (all_mapped (λ (e : Listed). u < e.version → KeepsNone e first count) older l.listed x.above)
        (λ less b inside. marked_full w.first (length w.blocks) b ∙ apart b inside);
  }

  -- and stays tidy
  pub listing_tidy : (first count : ℕ) → ((b : ℕ) → is_within first count b ≡ true → is_within w.first (length w.blocks) b ≡ false) → IsTidy l.listed first count → IsTidy (listing l lane w) first count
  listing_tidy first count apart t = record {
    version = t.version;
    one = (listing_upper t.version first count apart (upper_of_tidy l.listed first count t)).one;
    alone = all_push (λ (e : Listed). (e.version ≡ t.version → ⊥) → KeepsNone e first count) (map older l.listed) newest_
        (all_mapped (λ (e : Listed). (e.version ≡ t.version → ⊥) → KeepsNone e first count) older l.listed t.alone)
        (λ other b inside. marked_full w.first (length w.blocks) b ∙ apart b inside);
  }

  -- and its own has the record of the write
  pub listing_newest : AllByRecursion (λ (e : Listed). e.version < l.next) l.listed → IsUppermost (listing l lane w) l.next w.first (length w.blocks)
  listing_newest below = record {
    one = record {
      record_ = newest_;
      listed = Rattle.std.proofs.lemmas.List.Elements.Contains-push (map older l.listed) newest_;
      version_is = refl;
      keeps = λ b. marked_full w.first (length w.blocks) b;
    };
    above = all_push (λ (e : Listed). l.next < e.version → KeepsNone e w.first (length w.blocks)) (map older l.listed) newest_
        (all_mapped (λ (e : Listed). l.next < e.version → KeepsNone e w.first (length w.blocks)) older l.listed
        (all_map (λ (e : Listed). e.version < l.next) (λ (e : Listed). l.next < e.version → KeepsNone e w.first (length w.blocks)) (λ e lt gt. absurd (omega (arith, lt, gt))) l.listed below))
        (λ no. absurd (omega (arith, no)));
  }
