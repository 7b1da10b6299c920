-- The due blocks of listed records, where blocks become homed and where a record gives up what may go.
use Rattle.std.proofs.Common.{◌≡◌, ⊎_elim, ◌<◌, ◌≤◌, ◌+◌, ℕ, zero, suc, Bool, true, false, cond, not, ◌&&◌, ◌||◌, List, [], ◌∷◌, ◌++◌, map, length, length-append, refl, sym, ap, subst, ◌∙◌, arith, eqb, ltb}
use Rattle.std.specs.Prelude.{Contains}
use Rattle.std.specs.List.{AllByRecursion, list_any, filter, flat_map, count_by, range_with_len}
use Rattle.std.proofs.Math.Bool.{and-true, and-false}
use Rattle.std.proofs.lemmas.Bool.{ltb-true, lt-ltb, ne_eqb, eq-eqb, cases_lt}
use Rattle.std.proofs.lemmas.List.{map-append}
use Rattle.std.proofs.lemmas.List.Concat.{flat_map-append}
use Rattle.std.proofs.lemmas.List.Elements.{filter-append, filter_agree}
use Rattle.std.proofs.lemmas.List.Folds.{list_any-append}
use Rattle.std.proofs.lemmas.List.Sums.{length-filter}
use mathlib.Core.Path.{fun_ext}
use Rattle.wol_model.specs.Extents.{Cover, has_newer, has_older}
use Rattle.wol_model.specs.Index.{Listed, cover_of, is_homed, listed_covers, is_due, goes, block_numbers, keeps_a_block, homing, keeping, AreRising}
use Rattle.wol_model.proofs.Counts.{both, either, not_true, true_or, marked_within, marked_set, length_remarked, due_by}
use Rattle.wol_model.proofs.Marks.{remarked_is}
use Rattle.wol_model.proofs.Newest.{any_parts}
use Rattle.wol_promise.proofs.Covers.{any_found, any_member}
use Rattle.wol_promise.proofs.Lists.{all_map, all_mid, all_parts, all_joined, member_map, member_behind}
use Rattle.reclaimer.proofs.TakenOff.{Taken, some_go, dues_in, each_member, filter_each, filter_nothing, filter_twice, filter_both}

-- ---- truth values

not_either : (x y z : Bool) → (x && not (y || z)) ≡ ((x && not y) && not z)
not_either true true z = refl
not_either true false z = refl
not_either false y z = refl

none_newer : (x : Bool) (n : ℕ) → (x && ltb n n) ≡ false
none_newer x n = at (x && ltb n n) refl
  where
    at : (t : Bool) → (x && ltb n n) ≡ t → (x && ltb n n) ≡ false
    at false is = is
    at true is = let lt = ltb-true n n (both x (ltb n n) is).1 in absurd (omega arith)

-- ---- the due blocks of one record

-- by the covers of all
abbrev pub dues_by : List Cover → Listed → List (ℕ × ℕ)
dues_by cs e = map (λ b. (e.version, b)) (filter (due_by cs e) (block_numbers e))

of_other : (v w : ℕ) (bs : List ℕ) → eqb w v ≡ false → AllByRecursion (λ (p : ℕ × ℕ). eqb p.0 v ≡ false) (map (λ b. (w, b)) bs)
of_other v w [] other = tt
of_other v w (b ∷ bs) other = (other, of_other v w bs other)

of_others : (v : ℕ) (cs : List Cover) (es : List Listed) → AllByRecursion (λ (d : Listed). eqb d.version v ≡ false) es → AllByRecursion (λ (p : ℕ × ℕ). eqb p.0 v ≡ false) (flat_map (dues_by cs) es)
of_others v cs [] all = tt
of_others v cs (e ∷ es) all = all_joined (λ (p : ℕ × ℕ). eqb p.0 v ≡ false) (dues_by cs e) (flat_map (dues_by cs) es) (of_other v e.version (filter (due_by cs e) (block_numbers e)) all.0) (of_others v cs es all.1)

dues_around : (cs : List Cover) (front : List Listed) (e : Listed) (back : List Listed) → flat_map (dues_by cs) (front ++ e ∷ back) ≡ flat_map (dues_by cs) front ++ (dues_by cs e ++ flat_map (dues_by cs) back)
dues_around cs front e back = flat_map-append (dues_by cs) front (e ∷ back)

-- ---- versions

all_unmapped : {X Y : Type 0} (P : Y → Type 0) (f : X → Y) (xs : List X) → AllByRecursion P (map f xs) → AllByRecursion (λ x. P (f x)) xs
all_unmapped P f [] all = tt
all_unmapped P f (x ∷ xs) all = (all.0, all_unmapped P f xs all.1)

abbrev pub HasOther : ℕ → Listed → Type 0
HasOther v d = eqb d.version v ≡ false

-- where versions rise, the others have other versions
pub others_differ : (front : List Listed) (e : Listed) (back : List Listed) → AreRising (map (λ (d : Listed). d.version) (front ++ e ∷ back)) → AllByRecursion (HasOther e.version) front × AllByRecursion (HasOther e.version) back
others_differ [] e back rising = (tt, all_map (λ (d : Listed). e.version < d.version) (HasOther e.version) (λ d lt. ne_eqb d.version e.version (λ same. omega arith)) back (all_unmapped (λ w. e.version < w) (λ (d : Listed). d.version) back rising.0))
others_differ (d ∷ front) e back rising =
    let rest = others_differ front e back rising.1 in
    let lt : d.version < e.version = all_mid (λ (x : Listed). d.version < x.version) front e back (all_unmapped (λ w. d.version < w) (λ (x : Listed). x.version) (front ++ e ∷ back) rising.0) in
    ((ne_eqb d.version e.version (λ same. omega arith), rest.0), rest.1)

-- ---- blocks become homed

module _ (front back : List Listed) (e : Listed) (put : ℕ → Bool) (rising : AreRising (map (λ (d : Listed). d.version) (front ++ e ∷ back))) (sized : length e.homed ≡ length e.keep)
    (due : (b : ℕ) → put b ≡ true → is_due (front ++ e ∷ back) e b ≡ true) where
  abbrev known : List Cover
  known = listed_covers (front ++ e ∷ back)

  abbrev e' : Listed
  e' = homing put e

  same_covers : listed_covers (front ++ e' ∷ back) ≡ known
  same_covers = map-append cover_of front (e' ∷ back) ∙ sym (map-append cover_of front (e ∷ back))

  due_then : (b : ℕ) → due_by known e' b ≡ (due_by known e b && not (put b))
  due_then b = at ((cover_of e).covers b) refl
    where
      at : (t : Bool) → (cover_of e).covers b ≡ t → due_by known e' b ≡ (due_by known e b && not (put b))
      at false is = (λ i. (is i && not (has_newer known e.version b)) && not (is_homed e' b)) ∙ sym (λ i. ((is i && not (has_newer known e.version b)) && not (is_homed e b)) && not (put b))
      at true is =
          let r = marked_within e.first e.keep b is in
          let homed : is_homed e' b ≡ (is_homed e b || put b) = marked_set e.first e.homed (λ d m. m || put d) b r.0 (let l = r.1 in omega (arith, l, sized)) in
          (λ i. ((cover_of e).covers b && not (has_newer known e.version b)) && not (homed i)) ∙ not_either ((cover_of e).covers b && not (has_newer known e.version b)) (is_homed e b) (put b)

  dues_then : dues_by known e' ≡ map (λ b. (e.version, b)) (filter (λ b. not (put b)) (filter (due_by known e) (block_numbers e)))
  dues_then = ap (map (λ b. (e.version, b))) (filter_agree (due_by known e') (λ b. due_by known e b && not (put b)) due_then (block_numbers e) ∙ filter_both (due_by known e) (λ b. not (put b)) (block_numbers e))

  how_many : count_by (λ b. not (not (put b))) (filter (due_by known e) (block_numbers e)) ≡ count_by put (block_numbers e)
  how_many =
      let dues = filter (due_by known e) (block_numbers e) in
      sym (length-filter (λ b. not (not (put b))) dues)
      ∙ ap length (filter_agree (λ b. not (not (put b))) put (λ b. twice (put b)) dues ∙ filter_twice put (due_by known e) (block_numbers e) due)
      ∙ length-filter put (block_numbers e)
    where
      twice : (t : Bool) → not (not t) ≡ t
      twice true = refl
      twice false = refl

  pub homed_taken : Taken (count_by put (block_numbers e)) (dues_in (front ++ e ∷ back)) (dues_in (front ++ e' ∷ back))
  homed_taken =
      let others = others_differ front e back rising in
      let go = some_go e.version (flat_map (dues_by known) front) (flat_map (dues_by known) back) (filter (due_by known e) (block_numbers e)) (λ b. not (put b)) (of_others e.version known front others.0) (of_others e.version known back others.1) in
      let before : dues_in (front ++ e ∷ back) ≡ flat_map (dues_by known) front ++ (dues_by known e ++ flat_map (dues_by known) back) = dues_around known front e back in
      let behind : dues_in (front ++ e' ∷ back) ≡ flat_map (dues_by known) front ++ (map (λ b. (e.version, b)) (filter (λ b. not (put b)) (filter (due_by known e) (block_numbers e))) ++ flat_map (dues_by known) back) =
      ap (λ (l : List Cover). flat_map (dues_by l) (front ++ e' ∷ back)) same_covers ∙ dues_around known front e' back ∙ (λ i. flat_map (dues_by known) front ++ (dues_then i ++ flat_map (dues_by known) back)) in
      subst (λ (n : ℕ). Taken n (dues_in (front ++ e ∷ back)) (dues_in (front ++ e' ∷ back))) how_many
      (subst (λ (ps : List (ℕ × ℕ)). Taken (count_by (λ b. not (not (put b))) (filter (due_by known e) (block_numbers e))) ps (dues_in (front ++ e' ∷ back))) (sym before)
      (subst (λ (ps : List (ℕ × ℕ)). Taken (count_by (λ b. not (not (put b))) (filter (due_by known e) (block_numbers e))) (flat_map (dues_by known) front ++ (dues_by known e ++ flat_map (dues_by known) back)) ps) (sym behind) go))

-- ---- records that keep nothing

range_member : (a n b : ℕ) → a ≤ b → b < a + n → Contains (range_with_len a n) b
range_member a zero b le lt = absurd (omega arith)
range_member a (suc n) b le lt = ⊎_elim
    (λ later. member_behind a (range_with_len (a + 1) n) b (range_member (a + 1) n b (omega arith) (omega arith)))
    (λ here. (0, omega arith, (let same : a ≡ b = omega arith in same)))
    (cases_lt a b)

keeps_there : (e : Listed) (b : ℕ) → (cover_of e).covers b ≡ true → keeps_a_block e ≡ true
keeps_there e b is = let r = marked_within e.first e.keep b is in any_member (cover_of e).covers (block_numbers e) b (range_member e.first (length e.keep) b r.0 r.1) is

nothing_kept : (e : Listed) → keeps_a_block e ≡ false → (b : ℕ) → (cover_of e).covers b ≡ false
nothing_kept e none b = at ((cover_of e).covers b) refl
  where
    at : (t : Bool) → (cover_of e).covers b ≡ t → (cover_of e).covers b ≡ false
    at false is = is
    at true is = absurd (let no : true ≡ false = sym (keeps_there e b is) ∙ none in cc)

newer_kept : (es : List Listed) (v b : ℕ) → has_newer (listed_covers (filter keeps_a_block es)) v b ≡ has_newer (listed_covers es) v b
newer_kept [] v b = refl
newer_kept (d ∷ es) v b = at (keeps_a_block d) refl (newer_kept es v b)
  where
    at : (t : Bool) → keeps_a_block d ≡ t → has_newer (listed_covers (filter keeps_a_block es)) v b ≡ has_newer (listed_covers es) v b
        → has_newer (listed_covers (cond t (d ∷ filter keeps_a_block es) (filter keeps_a_block es))) v b ≡ has_newer (listed_covers (d ∷ es)) v b
    at true is rest = λ i. ((cover_of d).covers b && ltb v d.version) || rest i
    at false is rest = rest ∙ (λ i. (sym (nothing_kept d is b) i && ltb v d.version) || has_newer (listed_covers es) v b)

dues_kept : (cs : List Cover) (es : List Listed) → flat_map (dues_by cs) (filter keeps_a_block es) ≡ flat_map (dues_by cs) es
dues_kept cs [] = refl
dues_kept cs (d ∷ es) = at (keeps_a_block d) refl (dues_kept cs es)
  where
    at : (t : Bool) → keeps_a_block d ≡ t → flat_map (dues_by cs) (filter keeps_a_block es) ≡ flat_map (dues_by cs) es → flat_map (dues_by cs) (cond t (d ∷ filter keeps_a_block es) (filter keeps_a_block es)) ≡ dues_by cs d ++ flat_map (dues_by cs) es
    at true is rest = λ i. dues_by cs d ++ rest i
    at false is rest =
        let none : dues_by cs d ≡ [] = ap (map (λ b. (d.version, b))) (filter_nothing (due_by cs d) (block_numbers d) (each_member (λ b. due_by cs d b ≡ false) (block_numbers d) (λ b has i. (nothing_kept d is b i && not (has_newer cs d.version b)) && not (is_homed d b)))) in
        rest ∙ (λ i. sym none i ++ flat_map (dues_by cs) es)

-- without those that keep nothing the same blocks are due
dues_of_kept : (es : List Listed) → dues_in (filter keeps_a_block es) ≡ flat_map (dues_by (listed_covers es)) es
dues_of_kept es =
    let same : (d : Listed) → dues_by (listed_covers (filter keeps_a_block es)) d ≡ dues_by (listed_covers es) d =
    λ d. ap (map (λ b. (d.version, b))) (filter_agree (due_by (listed_covers (filter keeps_a_block es)) d) (due_by (listed_covers es) d) (λ b i. ((cover_of d).covers b && not (newer_kept es d.version b i)) && not (is_homed d b)) (block_numbers d)) in
    ap (λ (f : Listed → List (ℕ × ℕ)). flat_map f (filter keeps_a_block es)) (fun_ext same) ∙ dues_kept (listed_covers es) es

-- ---- a record gives up what may go

newer_than_older : (es : List Listed) (v w b : ℕ) → v ≤ w → has_newer (listed_covers es) w b ≡ true → has_newer (listed_covers es) v b ≡ true
newer_than_older es v w b le is =
    let f = any_found (λ c. c.covers b && ltb w c.version) (listed_covers es) is in
    let parts = both (f.item.covers b) (ltb w f.item.version) f.passes in
    let lt = ltb-true w f.item.version parts.1 in
    any_member (λ c. c.covers b && ltb v c.version) (listed_covers es) f.item f.among (λ i. parts.0 i && lt-ltb v f.item.version (omega arith) i)

module _ (front back : List Listed) (e : Listed) where
  abbrev es : List Listed
  es = front ++ e ∷ back

  abbrev f' : Listed
  f' = keeping es e

  abbrev pub given : List Listed
  given = front ++ f' ∷ back

  abbrev then_all : List Cover
  then_all = listed_covers given

  keeps_then : (b : ℕ) → (cover_of f').covers b ≡ ((cover_of e).covers b && not (goes es e b))
  keeps_then b = remarked_is e.first e.keep (λ c m. m && not (goes es e c)) b refl

  homed_then : (b : ℕ) → is_homed f' b ≡ (is_homed e b && not (goes es e b))
  homed_then b = remarked_is e.first e.homed (λ c m. m && not (goes es e c)) b refl

  newer_around : (d : Listed) (v b : ℕ) → has_newer (listed_covers (front ++ d ∷ back)) v b ≡ (has_newer (listed_covers front) v b || (((cover_of d).covers b && ltb v d.version) || has_newer (listed_covers back) v b))
  newer_around d v b = any_parts cover_of (λ c. c.covers b && ltb v c.version) front (d ∷ back)

  own_newer : (b : ℕ) → has_newer then_all e.version b ≡ has_newer (listed_covers es) e.version b
  own_newer b = newer_around f' e.version b
      ∙ (λ i. has_newer (listed_covers front) e.version b || ((none_newer ((cover_of f').covers b) e.version ∙ sym (none_newer ((cover_of e).covers b) e.version)) i || has_newer (listed_covers back) e.version b))
      ∙ sym (newer_around e e.version b)

  -- the record is newer than this one wherever this one covers a block and is older
  abbrev SeesOlder : Listed → Type 0
  SeesOlder d = (b : ℕ) → (cover_of d).covers b ≡ true → d.version < e.version → has_older (listed_covers es) e.version b ≡ true

  -- where a block goes that an older record covers, a newer record covers it
  newer_there : (b : ℕ) → goes es e b ≡ true → has_older (listed_covers es) e.version b ≡ true → has_newer (listed_covers es) e.version b ≡ true
  newer_there b is older = ⊎_elim (λ newer. newer)
      (λ homed. absurd (let no : true ≡ false = sym older ∙ not_true (has_older (listed_covers es) e.version b) (both (is_homed e b) (not (has_older (listed_covers es) e.version b)) homed).1 in cc))
      (either (has_newer (listed_covers es) e.version b) (is_homed e b && not (has_older (listed_covers es) e.version b)) (both ((cover_of e).covers b) (has_newer (listed_covers es) e.version b || (is_homed e b && not (has_older (listed_covers es) e.version b))) is).1)

  beside : (v b : ℕ) → v ≤ e.version → has_newer (listed_covers es) e.version b ≡ true → (x : Bool) → (has_newer (listed_covers front) v b || (x || has_newer (listed_covers back) v b)) ≡ true
  beside v b le newer x = ⊎_elim
      (λ in_front. λ i. newer_than_older front v e.version b le in_front i || (x || has_newer (listed_covers back) v b))
      (λ rest. ⊎_elim
      (λ here. absurd (let no : false ≡ true = sym (none_newer ((cover_of e).covers b) e.version) ∙ here in cc))
      (λ in_back. true_or (has_newer (listed_covers front) v b) (x || has_newer (listed_covers back) v b) (true_or x (has_newer (listed_covers back) v b) (newer_than_older back v e.version b le in_back)))
      (either ((cover_of e).covers b && ltb e.version e.version) (has_newer (listed_covers back) e.version b) rest))
      (either (has_newer (listed_covers front) e.version b) (((cover_of e).covers b && ltb e.version e.version) || has_newer (listed_covers back) e.version b) (sym (newer_around e e.version b) ∙ newer))

  newer_same : (d : Listed) → SeesOlder d → (b : ℕ) → (cover_of d).covers b ≡ true → has_newer then_all d.version b ≡ has_newer (listed_covers es) d.version b
  newer_same d older b covers = newer_around f' d.version b ∙ at (goes es e b) (ltb d.version e.version) refl refl ∙ sym (newer_around e d.version b)
    where
      with_e : Bool → Bool
      with_e x = has_newer (listed_covers front) d.version b || ((x && ltb d.version e.version) || has_newer (listed_covers back) d.version b)

      at : (g t : Bool) → goes es e b ≡ g → ltb d.version e.version ≡ t → (has_newer (listed_covers front) d.version b || (((cover_of f').covers b && ltb d.version e.version) || has_newer (listed_covers back) d.version b))
          ≡ (has_newer (listed_covers front) d.version b || (((cover_of e).covers b && ltb d.version e.version) || has_newer (listed_covers back) d.version b))
      at false t stays is = λ i. has_newer (listed_covers front) d.version b || (((keeps_then b ∙ (λ j. (cover_of e).covers b && not (stays j)) ∙ and-true ((cover_of e).covers b)) i && ltb d.version e.version) || has_newer (listed_covers back) d.version b)
      at true false goes_ is =
          (λ i. has_newer (listed_covers front) d.version b || (((λ j. (cover_of f').covers b && is j) ∙ and-false ((cover_of f').covers b) ∙ sym (and-false ((cover_of e).covers b)) ∙ (λ j. (cover_of e).covers b && sym is j)) i || has_newer (listed_covers back) d.version b))
      at true true goes_ is =
          let lt = ltb-true d.version e.version is in
          let newer = newer_there b goes_ (older b covers lt) in
          beside d.version b (omega arith) newer ((cover_of f').covers b && ltb d.version e.version) ∙ sym (beside d.version b (omega arith) newer ((cover_of e).covers b && ltb d.version e.version))

  dues_same : (d : Listed) → SeesOlder d → dues_by then_all d ≡ dues_by (listed_covers es) d
  dues_same d older = ap (map (λ b. (d.version, b))) (filter_agree (due_by then_all d) (due_by (listed_covers es) d) (λ b. at b ((cover_of d).covers b) refl) (block_numbers d))
    where
      at : (b : ℕ) (t : Bool) → (cover_of d).covers b ≡ t → due_by then_all d b ≡ due_by (listed_covers es) d b
      at b true is = λ i. ((cover_of d).covers b && not (newer_same d older b is i)) && not (is_homed d b)
      at b false is = (λ i. (is i && not (has_newer then_all d.version b)) && not (is_homed d b)) ∙ sym (λ i. (is i && not (has_newer (listed_covers es) d.version b)) && not (is_homed d b))

  own_due : (b : ℕ) → due_by then_all f' b ≡ due_by (listed_covers es) e b
  own_due b = at (goes es e b) refl
    where
      at : (g : Bool) → goes es e b ≡ g → due_by then_all f' b ≡ due_by (listed_covers es) e b
      at false stays = λ i. ((keeps_then b ∙ (λ j. (cover_of e).covers b && not (stays j)) ∙ and-true ((cover_of e).covers b)) i && not (own_newer b i)) && not ((homed_then b ∙ (λ j. is_homed e b && not (stays j)) ∙ and-true (is_homed e b)) i)
      at true is = (λ i. ((keeps_then b ∙ (λ j. (cover_of e).covers b && not (is j)) ∙ and-false ((cover_of e).covers b)) i && not (has_newer then_all e.version b)) && not (is_homed f' b))
          ∙ sym (⊎_elim
          (λ newer. (λ i. ((cover_of e).covers b && not (newer i)) && not (is_homed e b)) ∙ (λ i. and-false ((cover_of e).covers b) i && not (is_homed e b)))
          (λ homed. (λ i. ((cover_of e).covers b && not (has_newer (listed_covers es) e.version b)) && not ((both (is_homed e b) (not (has_older (listed_covers es) e.version b)) homed).0 i)) ∙ and-false ((cover_of e).covers b && not (has_newer (listed_covers es) e.version b)))
          (either (has_newer (listed_covers es) e.version b) (is_homed e b && not (has_older (listed_covers es) e.version b)) (both ((cover_of e).covers b) (has_newer (listed_covers es) e.version b || (is_homed e b && not (has_older (listed_covers es) e.version b))) is).1))

  own_dues : dues_by then_all f' ≡ dues_by (listed_covers es) e
  own_dues = ap (map (λ b. (e.version, b))) (ap (λ (n : ℕ). filter (due_by then_all f') (range_with_len e.first n)) (length_remarked e.first e.keep (λ c m. m && not (goes es e c))) ∙ filter_agree (due_by then_all f') (due_by (listed_covers es) e) own_due (block_numbers e))

  flat_same : (ds : List Listed) → AllByRecursion SeesOlder ds → flat_map (dues_by then_all) ds ≡ flat_map (dues_by (listed_covers es)) ds
  flat_same [] older = refl
  flat_same (d ∷ ds) older = λ i. dues_same d older.0 i ++ flat_same ds older.1 i

  -- the same blocks are due
  pub given_dues : dues_in (filter keeps_a_block given) ≡ dues_in es
  given_dues =
      let older = all_parts SeesOlder front e back (each_member SeesOlder es (λ d has b covers lt. any_member (λ c. c.covers b && ltb c.version e.version) (listed_covers es) (cover_of d) (member_map cover_of es d has) (λ i. covers i && lt-ltb d.version e.version lt i))) in
      dues_of_kept given ∙ dues_around then_all front f' back
      ∙ (λ i. flat_same front older.0 i ++ (own_dues i ++ flat_same back older.1 i))
      ∙ sym (dues_around (listed_covers es) front e back)

  module _ (front_keeps : AllByRecursion (λ (d : Listed). keeps_a_block d ≡ true) front) (back_keeps : AllByRecursion (λ (d : Listed). keeps_a_block d ≡ true) back) where
    kept_given : filter keeps_a_block given ≡ front ++ cond (keeps_a_block f') (f' ∷ back) back
    kept_given = filter-append keeps_a_block front (f' ∷ back) ∙ (λ i. filter_each keeps_a_block front front_keeps i ++ cond (keeps_a_block f') (f' ∷ filter_each keeps_a_block back back_keeps i) (filter_each keeps_a_block back back_keeps i))

    -- one record fewer where it keeps nothing
    pub length_given : length (filter keeps_a_block given) + cond (keeps_a_block f') 0 1 ≡ length es
    length_given = at (keeps_a_block f') kept_given
      where
        at : (t : Bool) → filter keeps_a_block given ≡ front ++ cond t (f' ∷ back) back → length (filter keeps_a_block given) + cond t 0 1 ≡ length es
        at true is = let l = ap length is in let m = length-append front (f' ∷ back) in let n = length-append front (e ∷ back) in omega (arith, l, m, n)
        at false is = let l = ap length is in let m = length-append front back in let n = length-append front (e ∷ back) in omega (arith, l, m, n)

    none_of : (ds : List Listed) → AllByRecursion (HasOther e.version) ds → list_any (λ (d : Listed). eqb d.version e.version) ds ≡ false
    none_of [] others = refl
    none_of (d ∷ ds) others = λ i. others.0 i || none_of ds others.1 i

    -- its version is listed still where it keeps a block
    pub version_given : AllByRecursion (HasOther e.version) front × AllByRecursion (HasOther e.version) back → list_any (λ (d : Listed). eqb d.version e.version) (filter keeps_a_block given) ≡ keeps_a_block f'
    version_given others = ap (list_any (λ (d : Listed). eqb d.version e.version)) kept_given
        ∙ list_any-append (λ (d : Listed). eqb d.version e.version) front (cond (keeps_a_block f') (f' ∷ back) back)
        ∙ (λ i. none_of front others.0 i || list_any (λ (d : Listed). eqb d.version e.version) (cond (keeps_a_block f') (f' ∷ back) back))
        ∙ at (keeps_a_block f')
      where
        at : (t : Bool) → list_any (λ (d : Listed). eqb d.version e.version) (cond t (f' ∷ back) back) ≡ t
        at true = λ i. eq-eqb e.version e.version refl i || list_any (λ (d : Listed). eqb d.version e.version) back
        at false = none_of back others.1
