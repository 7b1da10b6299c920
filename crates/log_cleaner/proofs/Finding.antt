-- Covered blocks are found, and a record that keeps just a chunk.
use Rattle.std.proofs.Common.{◌≡◌, ◌⊎◌, inl, inr, ⊎_elim, ◌<◌, ◌≤◌, ◌+◌, ◌-◌, ◌^◌, ℕ, zero, suc, Bool, true, false, cond, ◌&&◌, not, List, Some, refl, sym, ap, ◌∙◌, arith, leb, ltb, eqb, nat_cmp, is_lt, Less, Equal, Greater}
use Rattle.std.specs.Prelude.{IfSome, is_some}
use Rattle.std.specs.List.{list_any, range_with_len}
use Rattle.std.proofs.lemmas.Bool.{cases_lt, leb-true, ltb-true, le-leb, lt-ltb, le-ltb}
use Rattle.std.specs.Ordering.{ord_min}
use Rattle.wol_model.specs.Extents.{Cover, marked, has_newer, has_older}
use Rattle.wol_model.specs.Index.{Listed, Indexed, listed_in, cover_of, listed_covers, is_live, is_older}
use Rattle.wol_model.specs.Log.{has_bit}
use Rattle.wol_promise.proofs.Covers.{any_member}
use Rattle.wol_promise.proofs.Lists.{member_map}
use Rattle.block_cells.specs.Masks.{IsMask, in_mask}
use Rattle.block_cells.specs.declared.record.Rec.{Rec}
use Rattle.block_cells.proofs.Bits.{has_bit-above}
use Rattle.block_cells.proofs.Marks.{marked-marks_of}
use Rattle.redirect_map.specs.Index.{HasVersion, IsAnswer, IsEntry, IsIndex, entry_at}
use Rattle.manager.proofs.Entries.{Found, among, entry_in, entry_of_version, found_of, some_of}
use Rattle.log_cleaner.specs.Chunks.{IsTidy, KeepsNone, is_within}
use Rattle.log_cleaner.proofs.Lists.{each_is_member, none_in, some_in}
use Rattle.log_cleaner.proofs.Tidying.{clash, covers, not_so}

-- ---- Halves of a range

pub found_left : (p : ℕ → Bool) (low half n : ℕ) → n ≡ half + 1 → list_any p (range_with_len low n) ≡ true → (x : ℕ) × (low ≤ x) × (x ≤ low + half) × (p x ≡ true)
found_left p low half n is some = let s = some_in p low n some in let l = s.low in let h = s.high in (s.item, l, omega (arith, h, is), s.passes)

pub found_right : (p : ℕ → Bool) (low high half n : ℕ) → n ≡ half + 1 → list_any p (range_with_len low n) ≡ false → (x : ℕ) × (low ≤ x) × (x ≤ high) × (p x ≡ true) → (x : ℕ) × (low + half + 1 ≤ x) × (x ≤ high) × (p x ≡ true)
found_right p low high half n is none t = (t.0, above (cases_lt (low + half) t.0), t.2, t.3)
  where
    above : (low + half < t.0) ⊎ (t.0 ≤ low + half) → low + half + 1 ≤ t.0
    above (inl lt) = omega (arith, lt)
    above (inr ge) = absurd (clash (p t.0) t.3 (none_in p low n t.0 none t.1 (omega (arith, ge, is))))

pub bare_right : (p : ℕ → Bool) (from low half n : ℕ) → n ≡ half + 1 → list_any p (range_with_len low n) ≡ false → ((x : ℕ) → from ≤ x → x < low → p x ≡ false) → (x : ℕ) → from ≤ x → x < low + half + 1 → p x ≡ false
bare_right p from low half n is none before x l h = ⊎_elim (λ lt. before x l lt) (λ ge. none_in p low n x none ge (omega (arith, h, is))) (cases_lt x low)

-- the smaller of two numbers
pub smaller : (a b : ℕ) → (ord_min nat_cmp a b ≤ a) × (ord_min nat_cmp a b ≤ b) × (1 ≤ a → 1 ≤ b → 1 ≤ ord_min nat_cmp a b)
smaller a b = by (ltb b a) (eqb b a) refl
  where
    by : (t e : Bool) → ltb b a ≡ t → (cond (is_lt (cond t Less (cond e Equal Greater))) b a ≤ a) × (cond (is_lt (cond t Less (cond e Equal Greater))) b a ≤ b) × (1 ≤ a → 1 ≤ b → 1 ≤ cond (is_lt (cond t Less (cond e Equal Greater))) b a)
    by true e is = let lt = ltb-true b a is in (omega (arith, lt), omega arith, λ some other. other)
    by false true is = (omega arith, ⊎_elim (λ lt. absurd (clash (ltb b a) (lt-ltb b a lt) is)) (λ le. le) (cases_lt b a), λ some other. some)
    by false false is = (omega arith, ⊎_elim (λ lt. absurd (clash (ltb b a) (lt-ltb b a lt) is)) (λ le. le) (cases_lt b a), λ some other. some)

-- ---- Masks

pub just_kept : (first count keep lbn n place : ℕ) → keep < 2 ^ count → count ≤ place → ((i : ℕ) → i < place → has_bit keep i ≡ is_within lbn n (first + i)) → first ≤ lbn → lbn + n ≤ first + count → (b : ℕ) → in_mask first keep b ≡ is_within lbn n b
just_kept first count keep lbn n place within long each le fits b = at (cases_lt b first)
  where
    before : (t : Bool) → leb first b ≡ t → b < first → in_mask first keep b ≡ is_within lbn n b
    before true is lt = absurd (let le2 = leb-true first b is in omega (arith, le2, lt))
    before false is lt = (λ i. is i && has_bit keep (b - first)) ∙ sym (λ i. outside i && ltb b (lbn + n))
      where
        outside : leb lbn b ≡ false
        outside = not_so (leb lbn b) (λ yes_. let l = leb-true lbn b yes_ in omega (arith, l, le, lt))

    at : (b < first) ⊎ (first ≤ b) → in_mask first keep b ≡ is_within lbn n b
    at (inl lt) = before (leb first b) refl lt
    at (inr ge) = (λ i. le-leb first b ge i && has_bit keep (b - first)) ∙ ⊎_elim
        (λ lt. each (b - first) lt ∙ (let e : first + (b - first) ≡ b = omega (arith, ge) in ap (is_within lbn n) e))
        (λ past. has_bit-above keep count (b - first) within (omega (arith, long, past)) ∙ sym (beyond past))
        (cases_lt (b - first) place)
      where
        and_false : (t : Bool) → (t && false) ≡ false
        and_false true = refl
        and_false false = refl

        beyond : place ≤ b - first → is_within lbn n b ≡ false
        beyond past = (λ i. leb lbn b && le-ltb b (lbn + n) (omega (arith, past, long, fits, ge)) i) ∙ and_false (leb lbn b)

within_at : (first n b : ℕ) → first ≤ b → b < first + n → is_within first n b ≡ true
within_at first n b low high = (λ i. le-leb first b low i && ltb b (first + n)) ∙ lt-ltb b (first + n) high

mask_parts : (first keep b : ℕ) → in_mask first keep b ≡ true → (first ≤ b) × (has_bit keep (b - first) ≡ true)
mask_parts first keep b is = at (leb first b) refl is
  where
    at : (t : Bool) → leb first b ≡ t → (t && has_bit keep (b - first)) ≡ true → (first ≤ b) × (has_bit keep (b - first) ≡ true)
    at true le bit = (leb-true first b le, bit)
    at false le bit = absurd (let wrong : false ≡ true = bit in cc)

-- a record that keeps just some blocks has them in its range
pub just_reaches : (first count keep lbn n : ℕ) → keep < 2 ^ count → 1 ≤ n → ((b : ℕ) → in_mask first keep b ≡ is_within lbn n b) → (first ≤ lbn) × (lbn + n ≤ first + count)
just_reaches first count keep lbn zero small some just = absurd (omega (arith, some))
just_reaches first count keep lbn (suc k) small some just =
    let low = (mask_parts first keep lbn (just lbn ∙ within_at lbn (suc k) lbn (omega arith) (omega arith))).0 in
    let high = mask_parts first keep (lbn + k) (just (lbn + k) ∙ within_at lbn (suc k) (lbn + k) (omega arith) (omega arith)) in
    let h = high.0 in (
      low,
      ⊎_elim (λ lt. omega (arith, lt, h)) (λ past. absurd (clash (has_bit keep (lbn + k - first)) high.1 (has_bit-above keep count (lbn + k - first) small past))) (cases_lt (lbn + k - first) count),
    )

-- and a mark for each block of it
pub just_marks : (first keep lbn n i : ℕ) → ((b : ℕ) → in_mask first keep b ≡ is_within lbn n b) → has_bit keep i ≡ is_within lbn n (first + i)
just_marks first keep lbn n i just =
    sym ((λ j. le-leb first (first + i) (omega arith) j && has_bit keep (first + i - first)) ∙ (let e : first + i - first ≡ i = omega arith in ap (has_bit keep) e)) ∙ just (first + i)

-- ---- A record that is alone

module _ (es : List Indexed) (index : IsIndex es) (version : ℕ) (r : Rec) (answer : IsAnswer (entry_at es version) (Some r)) where
  pub found : Found es version r
  found = found_of es version r answer

  same_version : r.version ≡ version
  same_version = found.record_.version ∙ (entry_of_version es version found.entry index.rising found.is).version_is

  pub found_is : entry_at es r.version ≡ Some found.entry
  found_is = ap (entry_at es) same_version ∙ found.is

  pub has_version_ : HasVersion es r.version
  has_version_ = ap is_some found_is

  pub entry_is : IsEntry (listed_in es) found.entry.listed
  entry_is = entry_in es found.entry index (among (entry_of_version es version found.entry index.rising found.is))

  pub in_range : r.lbn + r.count ≤ 2 ^ 32
  in_range = let w = entry_is.within in let f = found.record_.first in let n = found.record_.count in omega (arith, w, f, n)

  pub few : r.count ≤ 128
  few = let w = entry_is.count in let n = found.record_.count in omega (arith, w, n)

  abbrev L : List Listed
  L = listed_in es

  abbrev e : Listed
  e = found.entry.listed

  pub covers_mask : (b : ℕ) → covers e b ≡ in_mask r.lbn r.keep b
  covers_mask b = (λ i. marked (sym found.record_.first i) (sym found.record_.keep i) b) ∙ marked-marks_of r.lbn r.count r.keep b found.record_.within

  and_parts : (a b : Bool) → (a && b) ≡ true → (a ≡ true) × (b ≡ true)
  and_parts true b is = (refl, is)
  and_parts false b is = absurd (let wrong : false ≡ true = is in cc)

  not_parts : (t : Bool) → not t ≡ true → t ≡ false
  not_parts true is = absurd (let wrong : false ≡ true = is in cc)
  not_parts false is = refl

  -- what it keeps no other record keeps
  module _ (mask : ℕ) (alone : IfSome (entry_at es r.version) (λ d. IsMask d.listed.first (λ b. is_live L d.listed b && not (is_older L d.listed b)) mask)) (same : mask ≡ r.keep) where
    lone : (b : ℕ) → covers e b ≡ true → (has_newer (listed_covers L) e.version b ≡ false) × (has_older (listed_covers L) e.version b ≡ false)
    lone b is =
        let m = and_parts (leb r.lbn b) (has_bit r.keep (b - r.lbn)) (sym (covers_mask b) ∙ is) in
        let le = leb-true r.lbn b m.0 in
        let bits = some_of (λ (d : Indexed). IsMask d.listed.first (λ c. is_live L d.listed c && not (is_older L d.listed c)) mask) (entry_at es r.version) found.entry alone found_is in
        let f = found.record_.first in
        let at : e.first + (b - r.lbn) ≡ b = omega (arith, le, f) in
        let both = and_parts (is_live L e b) (not (is_older L e b)) (sym (bits (b - r.lbn) ∙ ap (λ (c : ℕ). is_live L e c && not (is_older L e c)) at) ∙ ap (λ (k : ℕ). has_bit k (b - r.lbn)) same ∙ m.1) in (
          not_parts (has_newer (listed_covers L) e.version b) (and_parts (covers e b) (not (has_newer (listed_covers L) e.version b)) both.0).1,
          sym (λ i. is i && has_older (listed_covers L) e.version b) ∙ not_parts (is_older L e b) both.1,
        )

    pub tidy_of_alone : (first count : ℕ) → ((b : ℕ) → in_mask r.lbn r.keep b ≡ is_within first count b) → IsTidy L first count
    tidy_of_alone first count just = record {
      version = e.version;
      one = record {
        record_ = e;
        listed = member_map (λ (d : Indexed). d.listed) es found.entry (among (entry_of_version es version found.entry index.rising found.is));
        version_is = refl;
        keeps = λ b. covers_mask b ∙ just b;
      };
      alone = each_is_member (λ (d : Listed). (d.version ≡ e.version → ⊥) → KeepsNone d first count) L (λ d has other b inside. not_so (covers d b) (λ is.
          let n = lone b (covers_mask b ∙ just b ∙ inside) in ⊎_elim
          (λ (lt : e.version < d.version). clash (has_newer (listed_covers L) e.version b) (any_member (λ (c : Cover). c.covers b && ltb e.version c.version) (listed_covers L) (cover_of d) (member_map cover_of L d has) ((λ i. is i && ltb e.version d.version) ∙ lt-ltb e.version d.version lt)) n.0)
          (λ (ge : d.version ≤ e.version). ⊎_elim
          (λ (lt : d.version < e.version). clash (has_older (listed_covers L) e.version b) (any_member (λ (c : Cover). c.covers b && ltb c.version e.version) (listed_covers L) (cover_of d) (member_map cover_of L d has) ((λ i. is i && ltb d.version e.version) ∙ lt-ltb d.version e.version lt)) n.1)
          (λ (le : e.version ≤ d.version). other (omega (arith, le, ge)))
          (cases_lt d.version e.version))
          (cases_lt e.version d.version)));
    }
