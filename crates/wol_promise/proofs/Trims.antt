-- One record of a held segment keeps fewer blocks, and its entry in the index too, or is gone from it.
use Rattle.std.proofs.Common.{◌≡◌, ◌≢◌, ◌⊎◌, inl, inr, ⊎_elim, ◌<◌, ◌≤◌, ℕ, zero, suc, false, List, [], ◌∷◌, ◌++◌, map, length, take, Some, refl, sym, ap, subst, ◌∙◌, arith}
use Rattle.std.specs.Prelude.{Contains, slice_get}
use Rattle.std.specs.List.{AllByRecursion, flat_map}
use Rattle.std.proofs.lemmas.List.{length-append}
use Rattle.std.proofs.lemmas.Option.{same_Some}
use Rattle.std.proofs.lemmas.Bool.{cases_lt}
use Rattle.wol_model.specs.Extents.{IsValid}
use Rattle.wol_model.specs.Index.{Indexed, listed_in, keeping, AreRising}
use Rattle.wol_model.specs.Log.{Record, extent_of, marks_of, written, position_of}
use Rattle.wol_promise.specs.Manager.{Held, IsEntryOf, IsFound, IsBacked, IsIndexOf}
use Rattle.wol_promise.specs.Stands.{place_in, ApartFrom, AreApartPlaces}
use Rattle.wol_promise.proofs.Lists.{all_front, all_back, all_joined, all_mid, member_mid, member_swap, member_front, member_behind, within_of}

-- ---- lists with one element in the middle

get_mid : {X : Type 0} (xs : List X) (x y : X) (ys : List X) (j : ℕ) (q : X) → slice_get (xs ++ y ∷ ys) j ≡ Some q → ((j ≡ length xs) × (y ≡ q)) ⊎ ((j ≢ length xs) × (slice_get (xs ++ x ∷ ys) j ≡ Some q))
get_mid [] x y ys zero q is = inl (refl, same_Some y q is)
get_mid [] x y ys (suc j) q is = inr ((λ e. absurd (let z : suc j ≡ 0 = e in omega arith)), is)
get_mid (z ∷ xs) x y ys zero q is = inr ((λ e. absurd (let n : 0 ≡ suc (length xs) = e in omega arith)), is)
get_mid (z ∷ xs) x y ys (suc j) q is = ⊎_elim (λ here. inl ((let e = here.0 in omega arith), here.1)) (λ other. inr ((λ e. other.0 (omega arith)), other.1)) (get_mid xs x y ys j q is)

get_here : {X : Type 0} (xs : List X) (x : X) (ys : List X) → slice_get (xs ++ x ∷ ys) (length xs) ≡ Some x
get_here [] x ys = refl
get_here (z ∷ xs) x ys = get_here xs x ys

member_without : {X : Type 0} (front : List X) (s : X) (back : List X) (x : X) → Contains (front ++ s ∷ back) x → Contains (front ++ back) x ⊎ (s ≡ x)
member_without [] s back x has = ⊎_elim (λ same. inr same) (λ there. inl there) (member_front s back x has)
member_without (y ∷ front) s back x has = ⊎_elim
    (λ same. inl (0, omega arith, same))
    (λ rest. ⊎_elim (λ there. inl (member_behind y (front ++ back) x there)) (λ same. inr same) (member_without front s back x rest))
    (member_front y (front ++ s ∷ back) x has)

all_with : {X : Type 0} (P Q R : X → Type 0) → ((x : X) → P x → Q x → R x) → (xs : List X) → AllByRecursion P xs → AllByRecursion Q xs → AllByRecursion R xs
all_with P Q R f [] ps qs = tt
all_with P Q R f (x ∷ xs) ps qs = (f x ps.0 qs.0, all_with P Q R f xs ps.1 qs.1)

-- ---- positions

-- heads stand one behind the other
positions_rise : (rs : List Record) (i j : ℕ) → i < j → i < length rs → position_of rs i < position_of rs j
positions_rise [] i j lt within = absurd (omega arith)
positions_rise (x ∷ rs) zero zero lt within = absurd (omega arith)
positions_rise (x ∷ rs) zero (suc j) lt within = omega arith
positions_rise (x ∷ rs) (suc i) zero lt within = absurd (omega arith)
positions_rise (x ∷ rs) (suc i) (suc j) lt within =
    omega (arith, positions_rise rs i j (omega arith) (omega arith), length-append (written x) (flat_map written (take i rs)), length-append (written x) (flat_map written (take j rs)))

same_position : (rs : List Record) (i j : ℕ) → i < length rs → j < length rs → position_of rs i ≡ position_of rs j → i ≡ j
same_position rs i j iw jw same = at (cases_lt i j) (cases_lt j i)
  where
    at : (i < j) ⊎ (j ≤ i) → (j < i) ⊎ (i ≤ j) → i ≡ j
    at (inl lt) other = absurd (let rise = positions_rise rs i j lt iw in omega arith)
    at (inr le) (inl lt) = absurd (let rise = positions_rise rs j i lt jw in omega arith)
    at (inr le) (inr ge) = omega arith

-- a record rewritten in place leaves positions as they were
positions_stay : (fs : List Record) (r k : Record) (gs : List Record) (j : ℕ) → length k.blocks ≡ length r.blocks → position_of (fs ++ k ∷ gs) j ≡ position_of (fs ++ r ∷ gs) j
positions_stay [] r k gs zero same = refl
positions_stay [] r k gs (suc j) same = omega (arith, length-append k.blocks (flat_map written (take j gs)), length-append r.blocks (flat_map written (take j gs)))
positions_stay (f ∷ fs) r k gs zero same = refl
positions_stay (f ∷ fs) r k gs (suc j) same =
    omega (arith, positions_stay fs r k gs j same, length-append (written f) (flat_map written (take j (fs ++ k ∷ gs))), length-append (written f) (flat_map written (take j (fs ++ r ∷ gs))))

-- ---- places and versions

other_places : {P : Type 0} (front : List (Held P)) (s : Held P) (back : List (Held P)) → AreApartPlaces (map place_in (front ++ s ∷ back))
    → AllByRecursion (λ (u : Held P). place_in u ≢ place_in s) front × AllByRecursion (λ (u : Held P). place_in u ≢ place_in s) back
other_places {P} [] s back apart = (tt, from back apart.0)
  where
    from : (l : List (Held P)) → ApartFrom (place_in s) (map place_in l) → AllByRecursion (λ (u : Held P). place_in u ≢ place_in s) l
    from [] all = tt
    from (v ∷ l) all = ((λ e. all.0 (sym e)), from l all.1)
other_places {P} (u ∷ front) s back apart = let rest = other_places front s back apart.1 in ((at front apart.0, rest.0), rest.1)
  where
    at : (l : List (Held P)) → ApartFrom (place_in u) (map place_in (l ++ s ∷ back)) → place_in u ≢ place_in s
    at [] all = all.0
    at (v ∷ l) all = at l all.1

other_versions : (front : List Indexed) (e : Indexed) (back : List Indexed) → AreRising (map (λ (d : Indexed). d.listed.version) (front ++ e ∷ back))
    → AllByRecursion (λ (d : Indexed). d.listed.version ≢ e.listed.version) front × AllByRecursion (λ (d : Indexed). d.listed.version ≢ e.listed.version) back
other_versions [] e back rising = (tt, from back rising.0)
  where
    from : (l : List Indexed) → AllByRecursion (λ w. e.listed.version < w) (map (λ (d : Indexed). d.listed.version) l) → AllByRecursion (λ (d : Indexed). d.listed.version ≢ e.listed.version) l
    from [] all = tt
    from (d ∷ l) all = ((λ same. absurd (let lt : e.listed.version < d.listed.version = all.0 in omega arith)), from l all.1)
other_versions (d ∷ front) e back rising = let rest = other_versions front e back rising.1 in ((at front rising.0, rest.0), rest.1)
  where
    at : (l : List Indexed) → AllByRecursion (λ w. d.listed.version < w) (map (λ (x : Indexed). x.listed.version) (l ++ e ∷ back)) → d.listed.version ≢ e.listed.version
    at [] all = λ same. absurd (let lt : d.listed.version < e.listed.version = all.0 in omega arith)
    at (x ∷ l) all = at l all.1

-- a record with another mask, in form 2
abbrev pub trimmed : Record → (mask : ℕ) → Record
trimmed r mask = record { head = record { form = 2; owner = r.head.owner; version = r.head.version; first = r.head.first; count = r.head.count; mask = mask }; blocks = r.blocks }

module _ {P : Type 0} (hf : List (Held P)) (old_part part : P) (lane index : ℕ) (hb : List (Held P)) (fs : List Record) (r : Record) (gs : List Record) (mask : ℕ)
    (front : List Indexed) (e : Indexed) (back : List Indexed) where
  abbrev pub k : Record
  k = trimmed r mask

  abbrev pub s : Held P
  s = record { part = old_part; lane = lane; index = index; broken = false; records = fs ++ r ∷ gs }

  abbrev pub t : Held P
  t = record { part = part; lane = lane; index = index; broken = false; records = fs ++ k ∷ gs }

  abbrev old : List Indexed
  old = front ++ e ∷ back

  abbrev pub e' : Indexed
  e' = record e { listed = keeping (listed_in old) e.listed }

  Other : Held P → ℕ → Type 0
  Other u j = (place_in u ≢ place_in s) ⊎ ((u ≡ s) × (j ≢ length fs))

  -- another record's entry isn't e
  not_e : (its : IsEntryOf s (length fs) r e) (u : Held P) (j : ℕ) (q : Record) (d : Indexed) → slice_get u.records j ≡ Some q → IsEntryOf u j q d → Other u j → e ≡ d → ⊥
  unfolding Other
  not_e its u j q d at is other same = ⊎_elim
      (λ apart. apart (λ i. (place.0 i, place.1 i)))
      (λ here. here.1 (same_position (fs ++ r ∷ gs) j (length fs) (subst (λ (v : Held P). j < length v.records) here.0 (within_of u.records q j at)) (within_of (fs ++ r ∷ gs) r (length fs) (get_here fs r gs))
      (sym (ap (λ (v : Held P). position_of v.records j) here.0) ∙ sym is.pos ∙ ap (λ (x : Indexed). x.pos) (sym same) ∙ its.pos)))
      other
    where
      place : (u.lane ≡ lane) × (u.index ≡ index)
      place = (sym is.lane ∙ ap (λ (x : Indexed). x.listed.lane) (sym same) ∙ its.lane, sym is.index ∙ ap (λ (x : Indexed). x.index) (sym same) ∙ its.index)

  module _ (new : List Indexed) (stays : (d : Indexed) → Contains old d → Contains new d ⊎ (e ≡ d)) (its : IsEntryOf s (length fs) r e) where
    Each : List Indexed → Held P → Type 0
    Each es u = (j : ℕ) (q : Record) → slice_get u.records j ≡ Some q → IsValid (extent_of q).cover → IsFound es u j q

    elsewhere : (u : Held P) → Each old u → place_in u ≢ place_in s → Each new u
    unfolding Each Other
    elsewhere u all apart j q at valid =
        let found = all j q at valid in
        ⊎_elim (λ there. record { entry = found.entry; listed = there; is_its = found.is_its }) (λ same. absurd (not_e its u j q found.entry at found.is_its (inl apart) same)) (stays found.entry found.listed)

    here : Each old s → (IsValid (extent_of k).cover → IsFound new t (length fs) k) → Each new t
    unfolding Each Other
    here all of_k j q at valid = ⊎_elim
        (λ mid. subst (λ (n : ℕ). IsFound new t n q) (sym mid.0) (subst (λ (x : Record). IsFound new t (length fs) x) mid.1 (of_k (subst (λ (x : Record). IsValid (extent_of x).cover) (sym mid.1) valid))))
        (λ other.
        let found = all j q other.1 valid in
        let moved : IsEntryOf t j q found.entry = (let is = found.is_its in record { version = is.version; first = is.first; keep = is.keep; lane = is.lane; index = is.index; pos = is.pos ∙ sym (positions_stay fs r k gs j refl) }) in
        ⊎_elim (λ there. record { entry = found.entry; listed = there; is_its = moved }) (λ same. absurd (not_e its s j q found.entry other.1 found.is_its (inr (refl, other.0)) same)) (stays found.entry found.listed))
        (get_mid fs r k gs j q at)

    pub each_trimmed : AreApartPlaces (map place_in (hf ++ s ∷ hb)) → (IsValid (extent_of k).cover → IsFound new t (length fs) k)
        → AllByRecursion (λ (u : Held P). (j : ℕ) (q : Record) → slice_get u.records j ≡ Some q → IsValid (extent_of q).cover → IsFound old u j q) (hf ++ s ∷ hb)
        → AllByRecursion (λ (u : Held P). (j : ℕ) (q : Record) → slice_get u.records j ≡ Some q → IsValid (extent_of q).cover → IsFound new u j q) (hf ++ t ∷ hb)
    unfolding Each
    each_trimmed apart of_k all =
        let others = other_places hf s hb apart in
        all_joined (Each new) hf (t ∷ hb) (all_with (Each old) (λ (u : Held P). place_in u ≢ place_in s) (Each new) elsewhere hf (all_front (Each old) hf (s ∷ hb) all) others.0)
        (here (all_mid (Each old) hf s hb all) of_k, all_with (Each old) (λ (u : Held P). place_in u ≢ place_in s) (Each new) elsewhere hb (all_back (Each old) hf (s ∷ hb) all).1 others.1)

  -- an entry of another record stays one
  backed_then : (its : IsEntryOf s (length fs) r e) (d : Indexed) → IsBacked (hf ++ s ∷ hb) d → d.listed.version ≢ e.listed.version → IsBacked (hf ++ t ∷ hb) d
  backed_then its d b other = ⊎_elim
      (λ there. record { segment = b.segment; is_held = there; k = b.k; record_ = b.record_; is_there = b.is_there; valid = b.valid; is_its = b.is_its })
      (λ same. moved same)
      (member_swap hf s t hb b.segment b.is_held)
    where
      moved : s ≡ b.segment → IsBacked (hf ++ t ∷ hb) d
      moved same =
          let at : slice_get (fs ++ r ∷ gs) b.k ≡ Some b.record_ = subst (λ (u : Held P). slice_get u.records b.k ≡ Some b.record_) (sym same) b.is_there in
          let is : IsEntryOf s b.k b.record_ d = subst (λ (u : Held P). IsEntryOf u b.k b.record_ d) (sym same) b.is_its in
          ⊎_elim
          (λ mid. absurd (other (is.version ∙ ap (λ (x : Record). x.head.version) (sym mid.1) ∙ sym its.version)))
          (λ elsewhere_. record {
            segment = t;
            is_held = member_mid hf t hb;
            k = b.k;
            record_ = b.record_;
            is_there = elsewhere_.1;
            valid = b.valid;
            is_its = record { version = is.version; first = is.first; keep = is.keep; lane = is.lane; index = is.index; pos = is.pos ∙ sym (positions_stay fs r k gs b.k refl) };
          })
          (get_mid fs k r gs b.k b.record_ at)

  -- where the record keeps a block still
  pub index_trimmed : IsEntryOf s (length fs) r e → (keeping (listed_in old) e.listed).keep ≡ marks_of r.head.count mask → IsValid (extent_of k).cover → AreApartPlaces (map place_in (hf ++ s ∷ hb))
      → AreRising (map (λ (d : Indexed). d.listed.version) old) → IsIndexOf old (hf ++ s ∷ hb) → IsIndexOf (front ++ e' ∷ back) (hf ++ t ∷ hb)
  index_trimmed its kept valid apart rising is = record {
    each = each_trimmed (front ++ e' ∷ back) (λ d has. member_swap front e e' back d has) its apart (λ v. record { entry = e'; listed = member_mid front e' back; is_its = of_k }) is.each;
    only = all_joined (IsBacked (hf ++ t ∷ hb)) front (e' ∷ back) (all_with (IsBacked (hf ++ s ∷ hb)) (λ (d : Indexed). d.listed.version ≢ e.listed.version) (IsBacked (hf ++ t ∷ hb)) (backed_then its) front (all_front (IsBacked (hf ++ s ∷ hb)) front (e ∷ back) is.only) others.0) (
      record { segment = t; is_held = member_mid hf t hb; k = length fs; record_ = k; is_there = get_here fs k gs; valid = valid; is_its = of_k },
      all_with (IsBacked (hf ++ s ∷ hb)) (λ (d : Indexed). d.listed.version ≢ e.listed.version) (IsBacked (hf ++ t ∷ hb)) (backed_then its) back (all_back (IsBacked (hf ++ s ∷ hb)) front (e ∷ back) is.only).1 others.1,
    );
  }
    where
      others : AllByRecursion (λ (d : Indexed). d.listed.version ≢ e.listed.version) front × AllByRecursion (λ (d : Indexed). d.listed.version ≢ e.listed.version) back
      others = other_versions front e back rising

      of_k : IsEntryOf t (length fs) k e'
      of_k = record { version = its.version; first = its.first; keep = kept; lane = its.lane; index = its.index; pos = its.pos ∙ sym (positions_stay fs r k gs (length fs) refl) }

  -- where it keeps none
  pub index_dropped : IsEntryOf s (length fs) r e → (IsValid (extent_of k).cover → ⊥) → AreApartPlaces (map place_in (hf ++ s ∷ hb))
      → AreRising (map (λ (d : Indexed). d.listed.version) old) → IsIndexOf old (hf ++ s ∷ hb) → IsIndexOf (front ++ back) (hf ++ t ∷ hb)
  index_dropped its gone apart rising is = record {
    each = each_trimmed (front ++ back) (λ d has. member_without front e back d has) its apart (λ v. absurd (gone v)) is.each;
    only = all_joined (IsBacked (hf ++ t ∷ hb)) front back (all_with (IsBacked (hf ++ s ∷ hb)) (λ (d : Indexed). d.listed.version ≢ e.listed.version) (IsBacked (hf ++ t ∷ hb)) (backed_then its) front (all_front (IsBacked (hf ++ s ∷ hb)) front (e ∷ back) is.only) others.0)
        (all_with (IsBacked (hf ++ s ∷ hb)) (λ (d : Indexed). d.listed.version ≢ e.listed.version) (IsBacked (hf ++ t ∷ hb)) (backed_then its) back (all_back (IsBacked (hf ++ s ∷ hb)) front (e ∷ back) is.only).1 others.1);
  }
    where
      others : AllByRecursion (λ (d : Indexed). d.listed.version ≢ e.listed.version) front × AllByRecursion (λ (d : Indexed). d.listed.version ≢ e.listed.version) back
      others = other_versions front e back rising
