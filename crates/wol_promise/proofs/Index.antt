-- A record more in a held segment, and its entry in the index.
use Rattle.std.proofs.Common.{◌≡◌, ⊎_elim, ◌<◌, ◌≤◌, ◌+◌, ℕ, zero, suc, Bool, true, false, not, ◌&&◌, ◌||◌, List, [], ◌∷◌, ◌++◌, map, length, take, Some, refl, sym, ap, subst, ◌∙◌, arith, ltb, replicate}
use Rattle.std.specs.Prelude.{slice_get}
use Rattle.std.specs.List.{AllByRecursion, flat_map}
use Rattle.std.proofs.Math.Bool.{or-false}
use Rattle.std.proofs.lemmas.List.{map-append}
use Rattle.std.proofs.lemmas.List.Elements.{Contains-append_left, Contains-push}
use Rattle.wol_model.specs.Extents.{Cover, remarked, IsValid, has_newer}
use Rattle.wol_model.specs.Log.{Record, extent_of, marks_of, written, position_of, end_of}
use Rattle.wol_model.specs.Index.{Listed, Indexed, listed_in, cover_of, is_homed, is_live, listed_covers, AreRising, IsListed}
use Rattle.wol_model.proofs.Marks.{remarked_is, none_marked}
use Rattle.wol_promise.specs.Manager.{Held, IsEntryOf, IsFound, IsBacked, IsIndexOf, IsSorted}
use Rattle.wol_promise.proofs.Lists.{all_push, all_swap, rising_push, member_map, member_mid, member_swap, get_push, get_left, get_last, take_left, within_of}

-- blocks that r covers are homed no more
abbrev pub cleared_listed : (covers : ℕ → Bool) → Listed → Listed
cleared_listed covers e = record e { homed = remarked e.first e.homed (λ b m. m && not (covers b)) }

abbrev pub cleared : (covers : ℕ → Bool) → Indexed → Indexed
cleared covers e = record e { listed = cleared_listed covers e.listed }

-- a held segment with one record more
abbrev pub grown : {P : Type 0} → Held P → P → Record → Held P
grown s part r = record s { part = part; records = s.records ++ r ∷ [] }

-- the entry of a record behind those of a segment
abbrev pub entry_of : {P : Type 0} → Held P → Record → Indexed
entry_of s r = record {
  listed = record { version = r.head.version; first = r.head.first; keep = marks_of r.head.count r.head.mask; lane = s.lane; homed = replicate r.head.count false };
  index = s.index;
  pos = end_of s.records;
}

abbrev pub indexed_with : {P : Type 0} → List Indexed → Held P → Record → List Indexed
indexed_with indexed s r = map (cleared (extent_of r).cover.covers) indexed ++ entry_of s r ∷ []

take_all_of : {X : Type 0} (xs : List X) → take (length xs) xs ≡ xs
take_all_of [] = refl
take_all_of (x ∷ xs) = λ i. x ∷ take_all_of xs i

-- a record's position stays, and the new one's is behind the last
position_stays : (rs : List Record) (r : Record) (k : ℕ) → k ≤ length rs → position_of (rs ++ r ∷ []) k ≡ position_of rs k
position_stays rs r k le = ap (λ (l : List Record). 1 + length (flat_map written l)) (take_left rs (r ∷ []) k le)

position_last : (rs : List Record) (r : Record) → end_of rs ≡ position_of (rs ++ r ∷ []) (length rs)
position_last rs r = ap (λ (l : List Record). 1 + length (flat_map written l)) (sym (take_left rs (r ∷ []) (length rs) (omega arith) ∙ take_all_of rs))

versions_of : (covers : ℕ → Bool) (es : List Indexed) → map (λ (e : Indexed). e.listed.version) (map (cleared covers) es) ≡ map (λ (e : Indexed). e.listed.version) es
versions_of covers [] = refl
versions_of covers (e ∷ es) = λ i. e.listed.version ∷ versions_of covers es i

listed_with : (covers : ℕ → Bool) (es : List Indexed) (e : Indexed) → listed_in (map (cleared covers) es ++ e ∷ []) ≡ map (cleared_listed covers) (listed_in es) ++ e.listed ∷ []
listed_with covers [] e = refl
listed_with covers (d ∷ es) e = λ i. cleared_listed covers d.listed ∷ listed_with covers es e i

covers_stay : (covers : ℕ → Bool) (es : List Listed) → listed_covers (map (cleared_listed covers) es) ≡ listed_covers es
covers_stay covers [] = refl
covers_stay covers (e ∷ es) = λ i. cover_of e ∷ covers_stay covers es i

length_remarked : (k : ℕ) (marks : List Bool) (f : ℕ → Bool → Bool) → length (remarked k marks f) ≡ length marks
length_remarked k [] f = refl
length_remarked k (m ∷ marks) f = ap suc (length_remarked (k + 1) marks f)

both : (a b : Bool) → (a && b) ≡ true → (a ≡ true) × (b ≡ true)
both true b e = (refl, e)
both false b e = cc

newer_push : (cs : List Cover) (c : Cover) (v b : ℕ) → has_newer (cs ++ c ∷ []) v b ≡ (has_newer cs v b || (c.covers b && ltb v c.version))
newer_push [] c v b = or-false (c.covers b && ltb v c.version)
newer_push (d ∷ cs) c v b = (λ i. (d.covers b && ltb v d.version) || newer_push cs c v b i) ∙ assoc (d.covers b && ltb v d.version) (has_newer cs v b) (c.covers b && ltb v c.version)
  where
    assoc : (x y z : Bool) → (x || (y || z)) ≡ ((x || y) || z)
    assoc true y z = refl
    assoc false y z = refl

-- what is homed still is live still
cleared_is_listed : (es : List Listed) (n : Listed) (e : Listed) → IsListed es e → IsListed (map (cleared_listed (cover_of n).covers) es ++ n ∷ []) (cleared_listed (cover_of n).covers e)
cleared_is_listed es n e is = record {
  marks = length_remarked e.first e.homed (λ b m. m && not ((cover_of n).covers b)) ∙ is.marks;
  homed_are_live = λ b homed.
      let parts = both (is_homed e b) (not ((cover_of n).covers b)) (sym (remarked_is e.first e.homed (λ c m. m && not ((cover_of n).covers c)) b refl) ∙ homed) in
      live b (is.homed_are_live b parts.0) parts.1;
}
  where
    not_true : (t : Bool) → not t ≡ true → t ≡ false
    not_true true e = cc
    not_true false e = refl

    live : (b : ℕ) → is_live es e b ≡ true → not ((cover_of n).covers b) ≡ true → is_live (map (cleared_listed (cover_of n).covers) es ++ n ∷ []) (cleared_listed (cover_of n).covers e) b ≡ true
    live b was apart =
        (λ i. (cover_of e).covers b && not (has_newer (same i) e.version b))
        ∙ (λ i. (cover_of e).covers b && not (newer_push (listed_covers es) (cover_of n) e.version b i))
        ∙ (λ i. (cover_of e).covers b && not (has_newer (listed_covers es) e.version b || (not_true ((cover_of n).covers b) apart i && ltb e.version (cover_of n).version)))
        ∙ (λ i. (cover_of e).covers b && not (or-false (has_newer (listed_covers es) e.version b) i)) ∙ was
      where
        same : listed_covers (map (cleared_listed (cover_of n).covers) es ++ n ∷ []) ≡ listed_covers es ++ cover_of n ∷ []
        same = map-append cover_of (map (cleared_listed (cover_of n).covers) es) (n ∷ []) ∙ ap (λ (l : List Cover). l ++ cover_of n ∷ []) (covers_stay (cover_of n).covers es)

module _ {P : Type 0} (front : List (Held P)) (s : Held P) (back : List (Held P)) (part : P) (r : Record) (indexed : List Indexed) where
  abbrev covers : ℕ → Bool
  covers = (extent_of r).cover.covers

  abbrev before : List (Held P)
  before = front ++ s ∷ back

  abbrev now : List (Held P)
  now = front ++ grown s part r ∷ back

  abbrev entries : List Indexed
  entries = indexed_with indexed s r

  Each : List Indexed → Held P → Type 0
  Each es t = (k : ℕ) (q : Record) → slice_get t.records k ≡ Some q → IsValid (extent_of q).cover → IsFound es t k q

  -- an older entry is found with its marks cleared
  still_found : (t : Held P) (k : ℕ) (q : Record) → IsFound indexed t k q → IsFound entries t k q
  still_found t k q found = record {
    entry = cleared covers found.entry;
    listed = Contains-append_left (map (cleared covers) indexed) (entry_of s r ∷ []) (cleared covers found.entry) (member_map (cleared covers) indexed found.entry found.listed);
    is_its = let is = found.is_its in record { version = is.version; first = is.first; keep = is.keep; lane = is.lane; index = is.index; pos = is.pos };
  }

  found_here : Each indexed s → Each entries (grown s part r)
  unfolding Each
  found_here all k q at valid = ⊎_elim
      (λ old.
      let found = still_found s k q (all k q old.1 valid) in
      let is = found.is_its in
      record { entry = found.entry; listed = found.listed; is_its = record { version = is.version; first = is.first; keep = is.keep; lane = is.lane; index = is.index; pos = is.pos ∙ sym (position_stays s.records r k (let lt = old.0 in omega arith)) } })
      (λ new. subst (λ (n : ℕ). IsFound entries (grown s part r) n q) (sym new.0) (subst (λ (p : Record). IsFound entries (grown s part r) (length s.records) p) new.1 last))
      (get_push s.records r q k at)
    where
      last : IsFound entries (grown s part r) (length s.records) r
      last = record { entry = entry_of s r; listed = Contains-push (map (cleared covers) indexed) (entry_of s r); is_its = record { version = refl; first = refl; keep = refl; lane = refl; index = refl; pos = position_last s.records r } }

  still_backed : (e : Indexed) → IsBacked before e → IsBacked now (cleared covers e)
  still_backed e backed = ⊎_elim
      (λ there. let is = backed.is_its in record { segment = backed.segment; is_held = there; k = backed.k; record_ = backed.record_; is_there = backed.is_there; valid = backed.valid; is_its = record { version = is.version; first = is.first; keep = is.keep; lane = is.lane; index = is.index; pos = is.pos } })
      (λ same. moved same)
      (member_swap front s (grown s part r) back backed.segment backed.is_held)
    where
      moved : s ≡ backed.segment → IsBacked now (cleared covers e)
      moved same =
          let is = subst (λ (t : Held P). IsEntryOf t backed.k backed.record_ e) (sym same) backed.is_its in
          let there : slice_get s.records backed.k ≡ Some backed.record_ = subst (λ (t : Held P). slice_get t.records backed.k ≡ Some backed.record_) (sym same) backed.is_there in
          record {
            segment = grown s part r;
            is_held = member_mid front (grown s part r) back;
            k = backed.k;
            record_ = backed.record_;
            is_there = get_left s.records (r ∷ []) backed.record_ backed.k there;
            valid = backed.valid;
            is_its = record { version = is.version; first = is.first; keep = is.keep; lane = is.lane; index = is.index; pos = is.pos ∙ sym (position_stays s.records r backed.k (let lt = within_of s.records backed.record_ backed.k there in omega arith)) };
          }

  all_backed : (es : List Indexed) → AllByRecursion (IsBacked before) es → AllByRecursion (IsBacked now) (map (cleared covers) es)
  all_backed [] all = tt
  all_backed (e ∷ es) all = (still_backed e all.0, all_backed es all.1)

  pub index_grows : IsValid (extent_of r).cover → IsIndexOf indexed before → IsIndexOf entries now
  unfolding Each
  index_grows valid is = record {
    each = all_swap (Each indexed) (Each entries) (λ t all k q at v. still_found t k q (all k q at v)) front s (grown s part r) back found_here is.each;
    only = all_push (IsBacked now) (map (cleared covers) indexed) (entry_of s r) (all_backed indexed is.only) (record {
      segment = grown s part r;
      is_held = member_mid front (grown s part r) back;
      k = length s.records;
      record_ = r;
      is_there = get_last s.records r;
      valid = valid;
      is_its = record { version = refl; first = refl; keep = refl; lane = refl; index = refl; pos = position_last s.records r };
    });
  }

  all_listed : (es : List Indexed) → AllByRecursion (λ (e : Indexed). IsListed (listed_in indexed) e.listed) es
      → AllByRecursion (λ (e : Indexed). IsListed (map (cleared_listed covers) (listed_in indexed) ++ (entry_of s r).listed ∷ []) e.listed) (map (cleared covers) es)
  all_listed [] all = tt
  all_listed (e ∷ es) all = (cleared_is_listed (listed_in indexed) (entry_of s r).listed e.listed all.0, all_listed es all.1)

  pub sorted_grows : length (marks_of r.head.count r.head.mask) ≡ r.head.count → AllByRecursion (λ (e : Indexed). e.listed.version < r.head.version) indexed → IsSorted indexed → IsSorted entries
  sorted_grows counted low is = record {
    rising = subst AreRising (sym (map-append (λ (e : Indexed). e.listed.version) (map (cleared covers) indexed) (entry_of s r ∷ []) ∙ ap (λ (l : List ℕ). l ++ r.head.version ∷ []) (versions_of covers indexed)))
        (rising_push (map (λ (e : Indexed). e.listed.version) indexed) r.head.version is.rising (lower indexed low));
    listed = subst (λ (l : List Listed). AllByRecursion (λ (e : Indexed). IsListed l e.listed) entries) (sym (listed_with covers indexed (entry_of s r)))
        (all_push (λ (e : Indexed). IsListed (map (cleared_listed covers) (listed_in indexed) ++ (entry_of s r).listed ∷ []) e.listed) (map (cleared covers) indexed) (entry_of s r) (all_listed indexed is.listed)
        (record { marks = length_replicate r.head.count ∙ sym counted; homed_are_live = λ b homed. absurd (let no : false ≡ true = sym (none_marked r.head.first r.head.count b) ∙ homed in cc) }));
  }
    where
      lower : (es : List Indexed) → AllByRecursion (λ (e : Indexed). e.listed.version < r.head.version) es → AllByRecursion (λ v. v < r.head.version) (map (λ (e : Indexed). e.listed.version) es)
      lower [] all = tt
      lower (e ∷ es) all = (all.0, lower es all.1)

      length_replicate : (n : ℕ) → length (replicate n false) ≡ n
      length_replicate zero = refl
      length_replicate (suc n) = ap suc (length_replicate n)
