-- Records that may have a due block, or one that goes, and their marks.
use Rattle.std.proofs.Common.{◌≡◌, ◌⊎◌, inl, inr, ⊎_elim, ◌<◌, ◌≤◌, ◌+◌, ◌-◌, ◌^◌, ℕ, zero, suc, Bool, true, false, cond, not, ◌&&◌, ◌||◌, List, [], ◌∷◌, ◌++◌, map, set, Option, Some, None, refl, sym, ap, ◌∙◌, subst, arith, eqb, ltb, leb, bit_and, bit_or, is_some, slice_index_or}
use Rattle.std.specs.Prelude.{slice_get, IfSome, IfNone}
use Rattle.std.specs.Int.{bit_not, w128}
use Rattle.std.specs.List.{AllByRecursion, AllZip, list_any, remove, find}
use Rattle.std.proofs.lemmas.Bool.{cases_lt, cases_eq, ne_eqb, eq-eqb, eqb-true, lt-ltb, leb-true, false≢true, and_parts, not-true, false_from_ne_true, or_left, or_right}
use Rattle.wol_model.specs.Log.{has_bit}
use Rattle.wol_model.specs.Index.{listed_in, Indexed, AreRising, block_numbers}
use Rattle.std.proofs.lemmas.Option.{none-some, same_Some}
use Rattle.redirect_map.specs.Marks.{IsWithin, AreApart}
use Rattle.block_cells.specs.declared.record.Rec.{Rec}
use Rattle.block_cells.specs.declared.blocks.Cell.{Cell}
use Rattle.block_cells.specs.Masks.{in_mask}
use Rattle.block_cells.specs.Cells.{is_held, one_covers, take_one, version_in}
use Rattle.block_cells.proofs.Bits.{has_bit-zero, has_bit-above, has_bit-and, has_bit-or, has_bit-without}
use Rattle.block_cells.proofs.Stepping.{next_block, no_block, all_blocks}
use Rattle.redirect_map.specs.declared.entry.Entry.{Entry}
use Rattle.redirect_map.specs.declared.going.Sought.{Sought}
use Rattle.redirect_map.specs.declared.going.Sought.TheVariants.{Due, Going}
use Rattle.redirect_map.specs.Index.{is_sought, has_sought, PassesOverNone}
use Rattle.redirect_map.specs.Kept.{seen, keeps, is_version, IsInRange, IsUnhomed, AreEntries, NoneHomed}
use Rattle.redirect_map.specs.Cells.{cell_of}
use Rattle.redirect_map.specs.Marked.{there_bit, lane_bit, is_home, is_due_of, goes_of, sought_of, IsMarked, AreMarked, AreThere, begins, AreBegun}
use Rattle.redirect_map.proofs.Seen.{all_from_places, all_of_map, all_before_map, all_at}
use Rattle.redirect_map.proofs.Answering.{wide, any_block, no_any, same_version}
use Rattle.redirect_map.proofs.Adding.{new_entry}
use Rattle.redirect_map.proofs.Search.{place_unique}
use Rattle.redirect_map.proofs.Without.{none_homed_at}
use Rattle.redirect_map.proofs.Celled.{cell_there, one_there}
use Rattle.redirect_map.proofs.Dues.{sought_same}

-- ---- One record by its masks

-- a block that an entry keeps is bit i of its masks
record BitOf (e : Entry) (b : ℕ) : Type 0 where
  from : leb e.record.lbn b ≡ true
  place : e.record.lbn + (b - e.record.lbn) ≡ b
  kept : has_bit e.record.keep (b - e.record.lbn) ≡ true
  within : ltb (b - e.record.lbn) e.record.count ≡ true

bit_of : (e : Entry) (b : ℕ) → IsInRange e → keeps e b ≡ true → BitOf e b
bit_of e b r on =
    let parts = and_parts (leb e.record.lbn b) (has_bit e.record.keep (b - e.record.lbn)) on in
    let start : e.record.lbn ≤ b = leb-true e.record.lbn b parts.0 in
    record {
      from = parts.0;
      place = omega arith;
      kept = parts.1;
      within = ⊎_elim (λ less. lt-ltb (b - e.record.lbn) e.record.count less)
          (λ more. absurd (false≢true (sym (has_bit-above e.record.keep e.record.count (b - e.record.lbn) r.keep_within more) ∙ parts.1)))
          (cases_lt (b - e.record.lbn) e.record.count);
    }

pub not_zero : (m i : ℕ) → has_bit m i ≡ true → m ≡ 0 → ⊥
not_zero m i on none = false≢true (sym (has_bit-zero i) ∙ ap (λ (n : ℕ). has_bit n i) (sym none) ∙ on)

home_bit : (e : Entry) (b : ℕ) → leb e.record.lbn b ≡ true → is_home e b ≡ has_bit e.homed (b - e.record.lbn)
home_bit e b from = ap (λ (t : Bool). t && has_bit e.homed (b - e.record.lbn)) from

-- what `held` answers of a block that the entry keeps
told : (e : Entry) (alone : Bool) (mask b : ℕ) (F : ℕ → Option Cell) → BitOf e b → ((i : ℕ) → has_bit mask i ≡ (ltb i e.record.count && is_held e.record.version alone (F (e.record.lbn + i))))
    → has_bit mask (b - e.record.lbn) ≡ is_held e.record.version alone (F b)
told e alone mask b F bit bits = bits (b - e.record.lbn) ∙ (λ i. bit.within i && is_held e.record.version alone (F (bit.place i)))

pub some_due : (e : Entry) (live b : ℕ) (F : ℕ → Option Cell) → IsInRange e → live < 2 ^ 128 → ((i : ℕ) → has_bit live i ≡ (ltb i e.record.count && is_held e.record.version false (F (e.record.lbn + i))))
    → is_due_of e b (F b) ≡ true → bit_and live (bit_not w128 e.homed) ≡ 0 → ⊥
some_due e live b F r fits bits due =
    let parts = and_parts (keeps e b) (is_held e.record.version false (F b) && not (is_home e b)) due in
    let more = and_parts (is_held e.record.version false (F b)) (not (is_home e b)) parts.1 in
    let bit = bit_of e b r parts.0 in
    let on : has_bit live (b - e.record.lbn) ≡ true = told e false live b F bit bits ∙ more.0 in
    let off : has_bit e.homed (b - e.record.lbn) ≡ false = sym (home_bit e b bit.from) ∙ not-true (is_home e b) more.1 in
    not_zero (bit_and live (bit_not w128 e.homed)) (b - e.record.lbn)
    (has_bit-without live e.homed (b - e.record.lbn) fits (wide e.homed e.record.count r.homed_within r.count) ∙ (λ i. on i && not (off i)))

pub some_going : (e : Entry) (live alone b : ℕ) (F : ℕ → Option Cell) → IsInRange e → live < 2 ^ 128 → ((i : ℕ) → has_bit live i ≡ (ltb i e.record.count && is_held e.record.version false (F (e.record.lbn + i))))
    → ((i : ℕ) → has_bit alone i ≡ (ltb i e.record.count && is_held e.record.version true (F (e.record.lbn + i))))
    → goes_of e b (F b) ≡ true → bit_or (bit_and e.record.keep (bit_not w128 live)) (bit_and e.homed alone) ≡ 0 → ⊥
some_going e live alone b F r fits bits more going =
    let parts = and_parts (keeps e b) (not (is_held e.record.version false (F b)) || (is_home e b && is_held e.record.version true (F b))) going in
    let bit = bit_of e b r parts.0 in
    not_zero (bit_or (bit_and e.record.keep (bit_not w128 live)) (bit_and e.homed alone)) (b - e.record.lbn)
    (has_bit-or (bit_and e.record.keep (bit_not w128 live)) (bit_and e.homed alone) (b - e.record.lbn)
    ∙ (λ i. has_bit-without e.record.keep live (b - e.record.lbn) (wide e.record.keep e.record.count r.keep_within r.count) fits i || has_bit-and e.homed alone (b - e.record.lbn) i)
    ∙ (λ i. (bit.kept i && not (told e false live b F bit bits i)) || (sym (home_bit e b bit.from) i && told e true alone b F bit more i))
    ∙ parts.1)

-- ---- What a change leaves of the marks of another record

held_before : (v : ℕ) (o : Option Cell) → is_held v false (take_one o) ≡ true → is_held v false o ≡ true
held_before v None held = held
held_before v (Some c) held = at (ltb 1 c.keepers) held
  where
    at : (t : Bool) → is_held v false (cond t (Some (record { version = c.version; keepers = c.keepers - 1 })) None) ≡ true → is_held v false (Some c) ≡ true
    at true same = same
    at false none = absurd (false≢true none)

held_after : (v : ℕ) (o : Option Cell) → is_some {T = Cell} (take_one o) ≡ true → is_held v false o ≡ is_held v false (take_one o)
held_after v None some = refl
held_after v (Some c) some = at (ltb 1 c.keepers) some
  where
    at : (t : Bool) → is_some {T = Cell} (cond t (Some (record { version = c.version; keepers = c.keepers - 1 })) None) ≡ true → is_held v false (Some c) ≡ is_held v false (cond t (Some (record { version = c.version; keepers = c.keepers - 1 })) None)
    at true same = refl
    at false none = absurd (false≢true none)

-- another record gives up the blocks of a mask
pub marked_less : (F G : ℕ → Option Cell) (e : Entry) (m n first mask : ℕ) → IsMarked F m e → IsWithin m n → ((b : ℕ) → G b ≡ cond (in_mask first mask b) (take_one (F b)) (F b))
    → ((b : ℕ) → keeps e b ≡ true → is_some (G b) ≡ true) → ((b : ℕ) → in_mask first mask b ≡ true → begins false e b (F b) ≡ true → has_bit n (lane_bit Going e.record.lane) ≡ true) → IsMarked G n e
marked_less F G e m n first mask before more less kept begun = record {
  there = more there_bit before.there;
  due = λ b on. at_due b (in_mask first mask b) (subst (λ (o : Option Cell). is_due_of e b o ≡ true) (less b) on);
  going = λ b on. at_going b (in_mask first mask b) refl (subst (λ (o : Option Cell). goes_of e b o ≡ true) (less b) on) (λ keep. subst (λ (o : Option Cell). is_some o ≡ true) (less b) (kept b keep));
}
  where
    at_due : (b : ℕ) (t : Bool) → is_due_of e b (cond t (take_one (F b)) (F b)) ≡ true → has_bit n (lane_bit Due e.record.lane) ≡ true
    at_due b false on = more (lane_bit Due e.record.lane) (before.due b on)
    at_due b true on =
        let parts = and_parts (keeps e b) (is_held e.record.version false (take_one (F b)) && not (is_home e b)) on in
        let rest = and_parts (is_held e.record.version false (take_one (F b))) (not (is_home e b)) parts.1 in
        more (lane_bit Due e.record.lane) (before.due b (λ i. parts.0 i && (held_before e.record.version (F b) rest.0 i && rest.1 i)))

    at_going : (b : ℕ) (t : Bool) → in_mask first mask b ≡ t → goes_of e b (cond t (take_one (F b)) (F b)) ≡ true → (keeps e b ≡ true → is_some (cond t (take_one (F b)) (F b)) ≡ true) → has_bit n (lane_bit Going e.record.lane) ≡ true
    at_going b false out on some = more (lane_bit Going e.record.lane) (before.going b on)
    at_going b true inside on some =
        let parts = and_parts (keeps e b) (not (is_held e.record.version false (take_one (F b))) || (is_home e b && is_held e.record.version true (take_one (F b)))) on in
        held (is_held e.record.version false (take_one (F b))) refl parts.0 parts.1
      where
        held : (h : Bool) → is_held e.record.version false (take_one (F b)) ≡ h → keeps e b ≡ true → (not h || (is_home e b && is_held e.record.version true (take_one (F b)))) ≡ true → has_bit n (lane_bit Going e.record.lane) ≡ true
        held false off keep rest =
            let old : is_held e.record.version false (F b) ≡ false = held_after e.record.version (F b) (some keep) ∙ off in
            more (lane_bit Going e.record.lane) (before.going b (λ i. keep i && (not (old i) || (is_home e b && is_held e.record.version true (F b)))))
        held true on_held keep rest = begun b inside rest

home_less : (r : Rec) (o n : Entry) (b : ℕ) → IsUnhomed r o n → in_mask o.record.lbn n.homed b ≡ (is_home o b && not (in_mask r.lbn r.keep b))
home_less r o n b h = at (leb o.record.lbn b) refl
  where
    at : (t : Bool) → leb o.record.lbn b ≡ t → (t && has_bit n.homed (b - o.record.lbn)) ≡ ((t && has_bit o.homed (b - o.record.lbn)) && not (in_mask r.lbn r.keep b))
    at false is = refl
    at true is =
        let start : o.record.lbn ≤ b = leb-true o.record.lbn b is in
        let place : o.record.lbn + (b - o.record.lbn) ≡ b = omega arith in
        h.homed (b - o.record.lbn) ∙ ap (λ (k : ℕ). has_bit o.homed (b - o.record.lbn) && not (in_mask r.lbn r.keep k)) place

and_true : (t : Bool) → (t && true) ≡ t
and_true true = refl
and_true false = refl

not_held : (v : ℕ) (r : Rec) (o : Option Cell) → v < r.version → is_held v false (one_covers r.version o) ≡ false
not_held v r o less = ap (λ (t : Bool). t && true) (ne_eqb r.version v (λ same. absurd (omega arith)))

-- a newer record is added
pub marked_under : (r : Rec) (F G : ℕ → Option Cell) (o n : Entry) (m k : ℕ) → IsUnhomed r o n → o.record.version < r.version → IsMarked F m o → IsWithin m k
    → ((b : ℕ) → G b ≡ cond (in_mask r.lbn r.keep b) (one_covers r.version (F b)) (F b)) → ((b : ℕ) → in_mask r.lbn r.keep b ≡ true → begins true o b (F b) ≡ true → has_bit k (lane_bit Going o.record.lane) ≡ true) → IsMarked G k n
marked_under r F G o n m k h older before more covers begun = record {
  there = more there_bit before.there;
  due = λ b on. subst (λ (d : Rec). has_bit k (lane_bit Due d.lane) ≡ true) (sym h.same) (at_due b (in_mask r.lbn r.keep b) refl (sym (due_same b) ∙ on));
  going = λ b on. subst (λ (d : Rec). has_bit k (lane_bit Going d.lane) ≡ true) (sym h.same) (at_going b (in_mask r.lbn r.keep b) refl (sym (going_same b) ∙ on));
}
  where
    due_same : (b : ℕ) → is_due_of n b (G b) ≡ (keeps o b && (is_held o.record.version false (cond (in_mask r.lbn r.keep b) (one_covers r.version (F b)) (F b)) && not (is_home o b && not (in_mask r.lbn r.keep b))))
    due_same b = ap (λ (d : Rec). in_mask d.lbn d.keep b && (is_held d.version false (G b) && not (in_mask d.lbn n.homed b))) h.same
        ∙ (λ i. keeps o b && (is_held o.record.version false (covers b i) && not (home_less r o n b h i)))

    going_same : (b : ℕ) → goes_of n b (G b) ≡ (keeps o b && (not (is_held o.record.version false (cond (in_mask r.lbn r.keep b) (one_covers r.version (F b)) (F b))) || ((is_home o b && not (in_mask r.lbn r.keep b)) && is_held o.record.version true (cond (in_mask r.lbn r.keep b) (one_covers r.version (F b)) (F b)))))
    going_same b = ap (λ (d : Rec). in_mask d.lbn d.keep b && (not (is_held d.version false (G b)) || (in_mask d.lbn n.homed b && is_held d.version true (G b)))) h.same
        ∙ (λ i. keeps o b && (not (is_held o.record.version false (covers b i)) || (home_less r o n b h i && is_held o.record.version true (covers b i))))

    at_due : (b : ℕ) (t : Bool) → in_mask r.lbn r.keep b ≡ t → (keeps o b && (is_held o.record.version false (cond t (one_covers r.version (F b)) (F b)) && not (is_home o b && not t))) ≡ true → has_bit k (lane_bit Due o.record.lane) ≡ true
    at_due b true inside on =
        let parts = and_parts (keeps o b) (is_held o.record.version false (one_covers r.version (F b)) && not (is_home o b && false)) on in
        let held = and_parts (is_held o.record.version false (one_covers r.version (F b))) (not (is_home o b && false)) parts.1 in
        absurd (false≢true (sym (not_held o.record.version r (F b) older) ∙ held.0))
    at_due b false out on = more (lane_bit Due o.record.lane) (before.due b (ap (λ (t : Bool). keeps o b && (is_held o.record.version false (F b) && not t)) (sym (and_true (is_home o b))) ∙ on))

    at_going : (b : ℕ) (t : Bool) → in_mask r.lbn r.keep b ≡ t → (keeps o b && (not (is_held o.record.version false (cond t (one_covers r.version (F b)) (F b))) || ((is_home o b && not t) && is_held o.record.version true (cond t (one_covers r.version (F b)) (F b))))) ≡ true
        → has_bit k (lane_bit Going o.record.lane) ≡ true
    at_going b true inside on =
        let parts = and_parts (keeps o b) (not (is_held o.record.version false (one_covers r.version (F b))) || ((is_home o b && false) && is_held o.record.version true (one_covers r.version (F b)))) on in
        held (is_held o.record.version false (F b)) refl parts.0
      where
        held : (t : Bool) → is_held o.record.version false (F b) ≡ t → keeps o b ≡ true → has_bit k (lane_bit Going o.record.lane) ≡ true
        held true is keep = begun b inside is
        held false is keep = more (lane_bit Going o.record.lane) (before.going b (λ i. keep i && (not (is i) || (is_home o b && is_held o.record.version true (F b)))))
    at_going b false out on = more (lane_bit Going o.record.lane) (before.going b (ap (λ (t : Bool). keeps o b && (not (is_held o.record.version false (F b)) || (t && is_held o.record.version true (F b)))) (sym (and_true (is_home o b))) ∙ on))

-- the record that was added
pub marked_new : (r : Rec) (F G : ℕ → Option Cell) (m : ℕ) → ((b : ℕ) → G b ≡ cond (in_mask r.lbn r.keep b) (one_covers r.version (F b)) (F b)) → has_bit m there_bit ≡ true → has_bit m (lane_bit Due r.lane) ≡ true → IsMarked G m (new_entry r)
unfolding new_entry
marked_new r F G m covers there due = record {
  there = there;
  due = λ b on. due;
  going = λ b on.
      let parts = and_parts (in_mask r.lbn r.keep b) (not (is_held r.version false (G b)) || (in_mask r.lbn 0 b && is_held r.version true (G b))) on in
      absurd (none b (sym (λ i. not (held b parts.0 i) || (home b i && is_held r.version true (G b))) ∙ parts.1));
}
  where
    held : (b : ℕ) → in_mask r.lbn r.keep b ≡ true → is_held r.version false (G b) ≡ true
    held b on = ap (is_held r.version false) (covers b ∙ ap (λ (t : Bool). cond t (one_covers r.version (F b)) (F b)) on) ∙ ap (λ (t : Bool). t && true) (eq-eqb r.version r.version refl)

    home : (b : ℕ) → in_mask r.lbn 0 b ≡ false
    home b = ap (λ (t : Bool). leb r.lbn b && t) (has_bit-zero (b - r.lbn)) ∙ none_of (leb r.lbn b)
      where
        none_of : (t : Bool) → (t && false) ≡ false
        none_of true = refl
        none_of false = refl

    none : (b : ℕ) → false ≡ true → ⊥
    none b wrong = false≢true wrong

-- ---- All records

versions_apart : (items : List Entry) (j k : ℕ) (d e : Entry) → AreRising (map (λ (x : Entry). x.record.version) items) → slice_get items j ≡ Some d → slice_get items k ≡ Some e → (j ≡ k → ⊥) → d.record.version ≡ e.record.version → ⊥
versions_apart items j k d e rising here there apart same =
    let first = same_version items j d rising here in
    let second = same_version items k e rising there in
    let f : Some d ≡ Some e = sym first ∙ ap (λ (v : ℕ). find (is_version v) items) same ∙ second in
    let g : d ≡ e = cc in
    apart (place_unique items j k d rising here (there ∙ ap Some (sym g)))

get_set : {X : Type 0} (xs : List X) (k j : ℕ) (y d : X) → slice_get (set xs k y) j ≡ Some d → ((j ≡ k) × (y ≡ d)) ⊎ ((j ≡ k → ⊥) × (slice_get xs j ≡ Some d))
get_set [] k j y d at = absurd (cc)
get_set (x ∷ xs) zero zero y d at = inl (refl, cc)
get_set (x ∷ xs) zero (suc j) y d at = inr ((λ same. absurd (omega arith)), at)
get_set (x ∷ xs) (suc k) zero y d at = inr ((λ same. absurd (omega arith)), at)
get_set (x ∷ xs) (suc k) (suc j) y d at = ⊎_elim
    (λ here. inl (ap suc here.0, here.1))
    (λ other. inr ((λ same. other.0 (omega arith)), other.1))
    (get_set xs k j y d at)

pub get_set_here : {X : Type 0} (xs : List X) (k : ℕ) (y d : X) → slice_get xs k ≡ Some d → slice_get (set xs k y) k ≡ Some y
get_set_here [] k y d at = absurd (cc)
get_set_here (x ∷ xs) zero y d at = refl
get_set_here (x ∷ xs) (suc k) y d at = get_set_here xs k y d at

get_removed : {X : Type 0} (xs : List X) (k j : ℕ) (d : X) → slice_get (remove xs k) j ≡ Some d → (i : ℕ) × (i ≡ k → ⊥) × (slice_get xs i ≡ Some d)
get_removed [] zero j d at = absurd (cc)
get_removed [] (suc k) j d at = absurd (cc)
get_removed (x ∷ xs) zero j d at = (suc j, (λ same. absurd (omega arith)), at)
get_removed (x ∷ xs) (suc k) zero d at = (0, (λ same. absurd (omega arith)), at)
get_removed (x ∷ xs) (suc k) (suc j) d at = let found = get_removed xs k j d at in (suc found.0, (λ same. found.1 (omega arith)), found.2)

get_pushed : {X : Type 0} (xs : List X) (y d : X) (j : ℕ) → slice_get (xs ++ y ∷ []) j ≡ Some d → (slice_get xs j ≡ Some d) ⊎ (y ≡ d)
get_pushed [] y d zero at = inr (cc)
get_pushed [] y d (suc j) at = absurd (cc)
get_pushed (x ∷ xs) y d zero at = inl at
get_pushed (x ∷ xs) y d (suc j) at = get_pushed xs y d j at

get_zipped : (r : Rec) (old new : List Entry) (j : ℕ) (n : Entry) → AllZip (IsUnhomed r) old new → slice_get new j ≡ Some n → (o : Entry) × (slice_get old j ≡ Some o) × IsUnhomed r o n
get_zipped r [] [] j n all at = absurd (cc)
get_zipped r [] (y ∷ ys) j n all at = absurd all
get_zipped r (x ∷ xs) [] j n all at = absurd all
get_zipped r (x ∷ xs) (y ∷ ys) zero n all at = let f : y ≡ n = cc in (x, refl, subst (λ (d : Entry). IsUnhomed r x d) f all.0)
get_zipped r (x ∷ xs) (y ∷ ys) (suc j) n all at = get_zipped r xs ys j n all.1 at

-- the mask of a version that is there becomes another, and those of others stay
own_mask : (M N : ℕ → ℕ) (version v mask : ℕ) → ((w : ℕ) → N w ≡ cond (eqb w version && not (eqb (M w) 0)) mask (M w)) → v ≡ version → has_bit (M v) there_bit ≡ true → N v ≡ mask
own_mask M N version v mask sets same there = sets v ∙ (λ i. cond (eq-eqb v version same i && not (ne_eqb (M v) 0 (not_zero (M v) there_bit there) i)) mask (M v))

other_mask : (M N : ℕ → ℕ) (version v mask : ℕ) → ((w : ℕ) → N w ≡ cond (eqb w version && not (eqb (M w) 0)) mask (M w)) → (v ≡ version → ⊥) → N v ≡ M v
other_mask M N version v mask sets other = sets v ∙ ap (λ (t : Bool). cond (t && not (eqb (M v) 0)) mask (M v)) (ne_eqb v version other)

-- one entry in place of another, with a mask of its own
pub marks_set : (items : List Entry) (G : ℕ → Option Cell) (M N : ℕ → ℕ) (k version mask : ℕ) (e f : Entry) → AreRising (map (λ (d : Entry). d.record.version) items) → slice_get items k ≡ Some e → e.record.version ≡ version → f.record.version ≡ version
    → has_bit (M version) there_bit ≡ true → ((w : ℕ) → N w ≡ cond (eqb w version && not (eqb (M w) 0)) mask (M w)) → IsMarked G mask f
    → ((j : ℕ) (d : Entry) → slice_get (set items k f) j ≡ Some d → slice_get items j ≡ Some d → IsMarked G (M d.record.version) d) → AreMarked (set items k f) G N
marks_set items G M N k version mask e f rising at old new there sets mine others j d found = ⊎_elim
    (λ here.
    let g : f ≡ d = here.1 in
    let own : d.record.version ≡ version = ap (λ (x : Entry). x.record.version) (sym g) ∙ new in
    let masked : N d.record.version ≡ mask = own_mask M N version d.record.version mask sets own (ap (λ (v : ℕ). has_bit (M v) there_bit) own ∙ there) in
    subst (λ (m : ℕ). IsMarked G m d) (sym masked) (subst (λ (x : Entry). IsMarked G mask x) g mine))
    (λ apart.
    let differs : d.record.version ≡ version → ⊥ = λ same. versions_apart items j k d e rising apart.1 at apart.0 (same ∙ sym old) in
    subst (λ (m : ℕ). IsMarked G m d) (sym (other_mask M N version d.record.version mask sets differs)) (others j d found apart.1))
    (get_set items k j f d found)

-- the mask of one version becomes exact
pub marks_exact : (items : List Entry) (G : ℕ → Option Cell) (M N : ℕ → ℕ) (version mask : ℕ) (e : Entry) → AreRising (map (λ (d : Entry). d.record.version) items) → find (is_version version) items ≡ Some e
    → ((w : ℕ) → N w ≡ cond (eqb w version && not (eqb (M w) 0)) mask (M w)) → IsMarked G mask e → AreMarked items G M → AreMarked items G N
marks_exact items G M N version mask e rising found sets mine marked k d at = ⊎_elim
    (λ same.
    let own : find (is_version version) items ≡ Some d = ap (λ (v : ℕ). find (is_version v) items) (sym same) ∙ same_version items k d rising at in
    let g : e ≡ d = cc in
    subst (λ (m : ℕ). IsMarked G m d) (sym (own_mask M N version d.record.version mask sets same (marked k d at).there)) (subst (λ (x : Entry). IsMarked G mask x) g mine))
    (λ other. subst (λ (m : ℕ). IsMarked G m d) (sym (other_mask M N version d.record.version mask sets other)) (marked k d at))
    (cases_eq d.record.version version)

-- an entry is taken out
pub marks_removed : (items : List Entry) (G : ℕ → Option Cell) (M N : ℕ → ℕ) (k version mask : ℕ) (e : Entry) → AreRising (map (λ (d : Entry). d.record.version) items) → slice_get items k ≡ Some e → e.record.version ≡ version
    → ((w : ℕ) → N w ≡ cond (eqb w version && not (eqb (M w) 0)) mask (M w)) → ((j : ℕ) (d : Entry) (i : ℕ) → slice_get (remove items k) j ≡ Some d → slice_get items i ≡ Some d → IsMarked G (M d.record.version) d) → AreMarked (remove items k) G N
marks_removed items G M N k version mask e rising at old sets others j d found =
    let from = get_removed items k j d found in
    let differs : d.record.version ≡ version → ⊥ = λ same. versions_apart items from.0 k d e rising from.2 at from.1 (same ∙ sym old) in
    subst (λ (m : ℕ). IsMarked G m d) (sym (other_mask M N version d.record.version mask sets differs)) (others j d from.0 found from.2)

pub there_after : (items : List Entry) (M N : ℕ → ℕ) → AreThere items M → ((v : ℕ) → IsWithin (M v) (N v)) → AreThere items N
there_after items M N there more k e at = more e.record.version there_bit (there k e at)

pub are_there : (items : List Entry) (F : ℕ → Option Cell) (M : ℕ → ℕ) → AreMarked items F M → AreThere items M
are_there items F M marked k e at = (marked k e at).there

-- a record is added
pub marks_added : (r : Rec) (old new all : List Entry) (F G : ℕ → Option Cell) (M N P : ℕ → ℕ) (mask : ℕ) → AllZip (IsUnhomed r) old new → all ≡ new ++ new_entry r ∷ [] → AllByRecursion (λ (d : Indexed). d.listed.version < r.version) (map seen old)
    → AreMarked old F M → ((v : ℕ) → IsWithin (M v) (N v)) → ((b : ℕ) → in_mask r.lbn r.keep b ≡ true → AreBegun true old F N b) → ((b : ℕ) → G b ≡ cond (in_mask r.lbn r.keep b) (one_covers r.version (F b)) (F b))
    → ((v : ℕ) → P v ≡ cond (eqb v r.version) mask (cond (ltb v r.version) (N v) 0)) → has_bit mask there_bit ≡ true → has_bit mask (lane_bit Due r.lane) ≡ true → AreMarked all G P
unfolding new_entry
marks_added r old new all F G M N P mask zipped is below marked more begun covers pushed there due = subst (λ (es : List Entry). AreMarked es G P) (sym is) (λ j d found. ⊎_elim
    (λ before.
    let from = get_zipped r old new j d zipped before in
    let lower : from.0.record.version < r.version = all_at (λ (x : Entry). x.record.version < r.version) old j from.0 (all_before_map (λ (x : Indexed). x.listed.version < r.version) seen old below) from.1 in
    let same : d.record.version ≡ from.0.record.version = ap (λ (x : Rec). x.version) from.2.same in
    let stays : P d.record.version ≡ N from.0.record.version = ap P same ∙ pushed from.0.record.version
    ∙ (λ i. cond (ne_eqb from.0.record.version r.version (λ e. absurd (omega arith)) i) mask (cond (lt-ltb from.0.record.version r.version lower i) (N from.0.record.version) 0)) in
    subst (λ (m : ℕ). IsMarked G m d) (sym stays) (marked_under r F G from.0 d (M from.0.record.version) (N from.0.record.version) from.2 lower (marked j from.0 from.1) (more from.0.record.version) covers (λ b inside starts. begun b inside j from.0 from.1 starts)))
    (λ here. subst (λ (x : Entry). IsMarked G (P x.record.version) x) here
    (subst (λ (m : ℕ). IsMarked G m (new_entry r)) (sym (pushed r.version ∙ ap (λ (t : Bool). cond t mask (cond (ltb r.version r.version) (N r.version) 0)) (eq-eqb r.version r.version refl))) (marked_new r F G mask covers there due)))
    (get_pushed new (new_entry r) d j found))

-- the records that stay where one gives up blocks
pub others_less : (items new : List Entry) (F G : ℕ → Option Cell) (M N : ℕ → ℕ) (first mask j i : ℕ) (d : Entry) → AreMarked items F M → ((v : ℕ) → IsWithin (M v) (N v)) → ((b : ℕ) → in_mask first mask b ≡ true → AreBegun false items F N b)
    → ((b : ℕ) → G b ≡ cond (in_mask first mask b) (take_one (F b)) (F b)) → ((b : ℕ) → G b ≡ cell_of new b) → slice_get new j ≡ Some d → slice_get items i ≡ Some d → IsMarked G (N d.record.version) d
others_less items new F G M N first mask j i d marked more begun less table found at = marked_less F G d (M d.record.version) (N d.record.version) first mask (marked i d at) (more d.record.version) less
    (λ b keep. ap (λ (o : Option Cell). is_some o) (table b) ∙ cell_there new b ∙ one_there new j d b found keep)
    (λ b inside starts. begun b inside i d at starts)

-- ---- What has no mark

no_blocks : (p : ℕ → Bool) (bs : List ℕ) → ((b : ℕ) → p b ≡ true → ⊥) → list_any p bs ≡ false
no_blocks p bs none = any_block p (λ b. false) (λ b. false_from_ne_true (p b) (none b)) bs ∙ no_any bs

both_bits : (m bits i : ℕ) → AreApart m bits → has_bit m i ≡ true → has_bit bits i ≡ true → ⊥
both_bits m bits i apart on wanted = false≢true (sym (apart i) ∙ (λ j. on j && wanted j))

marked_sought : (sought : Sought) (known : ℕ → Option Cell) (mask b : ℕ) (e : Entry) → IsMarked known mask e → sought_of sought e b (known b) ≡ true → has_bit mask (lane_bit sought e.record.lane) ≡ true
marked_sought Due known mask b e marked on = marked.due b on
marked_sought Going known mask b e marked on = marked.going b on

none_sought : (sought : Sought) (items : List Entry) (F : ℕ → Option Cell) (M : ℕ → ℕ) (lanes : List Bool) (bits : ℕ) (C : ℕ → Type 0) → AreEntries items → ((x : ℕ) → F x ≡ cell_of items x) → AreMarked items F M
    → ((lane : ℕ) → slice_index_or lanes lane false ≡ true → has_bit bits (lane_bit sought lane) ≡ true) → ((w : ℕ) → C w → AreApart (M w) bits)
    → (k : ℕ) (e : Entry) → slice_get items k ≡ Some e → C e.record.version → slice_index_or lanes e.record.lane false ≡ true → has_sought sought (listed_in (map seen items)) (seen e).listed ≡ false
none_sought sought items F M lanes bits C es table marked wanted apart k e at asked awake = no_blocks (is_sought sought (listed_in (map seen items)) (seen e).listed) (block_numbers (seen e).listed)
    (λ b on. both_bits (M e.record.version) bits (lane_bit sought e.record.lane) (apart e.record.version asked)
    (marked_sought sought F (M e.record.version) b e (marked k e at) (sought_same sought items F k e b es table at ∙ on)) (wanted e.record.lane awake))

-- in the words of contracts
pub all_seen : (items : List Entry) (P : Indexed → Type 0) → ((k : ℕ) (e : Entry) → slice_get items k ≡ Some e → P (seen e)) → AllByRecursion P (map seen items)
all_seen items P each = all_of_map P seen items (all_from_places (λ (e : Entry). P (seen e)) items each)

-- ---- A block that begins to go of its newest record

begun_none : (covered : Bool) (e : Entry) (b : ℕ) → begins covered e b None ≡ true → ⊥
begun_none true e b starts = false≢true starts
begun_none false e b starts = false≢true (and_parts (is_home e b) false starts).1

-- it is the newest one
begun_version : (covered : Bool) (e : Entry) (b : ℕ) (c : Cell) → begins covered e b (Some c) ≡ true → (e.record.version ≡ c.version) × ((covered || (eqb c.keepers 2 && is_home e b)) ≡ true)
begun_version true e b c starts = (sym (eqb-true c.version e.record.version (and_parts (eqb c.version e.record.version) true starts).0), refl)
begun_version false e b c starts =
    let parts = and_parts (is_home e b) (is_held e.record.version true (take_one (Some c))) starts in
    at (ltb 1 c.keepers) refl parts.0 parts.1
  where
    at : (t : Bool) → ltb 1 c.keepers ≡ t → is_home e b ≡ true → is_held e.record.version true (cond t (Some (record { version = c.version; keepers = c.keepers - 1 })) None) ≡ true → (e.record.version ≡ c.version) × ((eqb c.keepers 2 && is_home e b) ≡ true)
    at false is home none = absurd (false≢true none)
    at true is home held =
        let rest = and_parts (eqb c.version e.record.version) (eqb (c.keepers - 1) 1) held in
        let one : c.keepers - 1 ≡ 1 = eqb-true (c.keepers - 1) 1 rest.1 in
        let two : c.keepers ≡ 2 = omega arith in
        (sym (eqb-true c.version e.record.version rest.0), λ i. eq-eqb c.keepers 2 two i && home i)

pub nothing_begun : (covered : Bool) (items : List Entry) (F : ℕ → Option Cell) (M : ℕ → ℕ) (b : ℕ) → F b ≡ None → AreBegun covered items F M b
nothing_begun covered items F M b none k e at starts = absurd (begun_none covered e b (subst (λ (o : Option Cell). begins covered e b o ≡ true) none starts))

-- the entry that is found
begun_entry : (covered : Bool) (items : List Entry) (k : ℕ) (e : Entry) (b : ℕ) (c : Cell) (o : Option Entry) → AreRising (map (λ (x : Entry). x.record.version) items) → slice_get items k ≡ Some e → begins covered e b (Some c) ≡ true → o ≡ find (is_version c.version) items → o ≡ Some e
begun_entry covered items k e b c o rising at starts found = found ∙ ap (λ (v : ℕ). find (is_version v) items) (sym (begun_version covered e b c starts).0) ∙ same_version items k e rising at

pub begun_never : (covered : Bool) (items : List Entry) (F : ℕ → Option Cell) (M : ℕ → ℕ) (b : ℕ) (c : Cell) (o : Option Entry) → AreRising (map (λ (x : Entry). x.record.version) items) → F b ≡ Some c → o ≡ find (is_version c.version) items → o ≡ None → AreBegun covered items F M b
begun_never covered items F M b c o rising is found none k e at starts =
    let hit = begun_entry covered items k e b c o rising at (subst (λ (x : Option Cell). begins covered e b x ≡ true) is starts) found in
    absurd (cc)

pub begun_not : (covered : Bool) (items : List Entry) (F : ℕ → Option Cell) (M : ℕ → ℕ) (b : ℕ) (c : Cell) (d : Entry) → AreRising (map (λ (x : Entry). x.record.version) items) → F b ≡ Some c → Some d ≡ find (is_version c.version) items
    → (covered || (eqb c.keepers 2 && is_home d b)) ≡ false → AreBegun covered items F M b
begun_not covered items F M b c d rising is found off k e at starts =
    let on = subst (λ (x : Option Cell). begins covered e b x ≡ true) is starts in
    let hit = begun_entry covered items k e b c (Some d) rising at on found in
    let g : d ≡ e = cc in
    absurd (false≢true (sym off ∙ ap (λ (x : Entry). covered || (eqb c.keepers 2 && is_home x b)) g ∙ (begun_version covered e b c on).1))

pub begun_marked : (covered : Bool) (items : List Entry) (F : ℕ → Option Cell) (M N : ℕ → ℕ) (b : ℕ) (c : Cell) (d : Entry) → AreRising (map (λ (x : Entry). x.record.version) items) → F b ≡ Some c → Some d ≡ find (is_version c.version) items → AreThere items M
    → (has_bit (M c.version) there_bit ≡ true → has_bit (N c.version) (lane_bit Going d.record.lane) ≡ true) → AreBegun covered items F N b
begun_marked covered items F M N b c d rising is found there going k e at starts =
    let on = subst (λ (x : Option Cell). begins covered e b x ≡ true) is starts in
    let hit = begun_entry covered items k e b c (Some d) rising at on found in
    let g : d ≡ e = cc in
    let own = (begun_version covered e b c on).0 in
    ap (λ (v : ℕ). has_bit (N v) (lane_bit Going e.record.lane)) own ∙ ap (λ (x : Entry). has_bit (N c.version) (lane_bit Going x.record.lane)) (sym g) ∙ going (ap (λ (v : ℕ). has_bit (M v) there_bit) (sym own) ∙ there k e at)

-- a mask with a bit more
pub more_with : (M N : ℕ → ℕ) (v mask new bit w : ℕ) → mask ≡ M v → ((u : ℕ) → N u ≡ cond (eqb u v && not (eqb (M u) 0)) new (M u)) → ((j : ℕ) → has_bit new j ≡ (has_bit mask j || eqb j bit)) → IsWithin (M w) (N w)
more_with M N v mask new bit w is sets bits i on = ap (λ (m : ℕ). has_bit m i) (sets w) ∙ at (eqb w v) refl (eqb (M w) 0)
  where
    at : (s : Bool) → eqb w v ≡ s → (t : Bool) → has_bit (cond (s && not t) new (M w)) i ≡ true
    at false off t = on
    at true here true = on
    at true here false = bits i ∙ or_left (has_bit mask i) (eqb i bit) (ap (λ (m : ℕ). has_bit m i) (is ∙ ap M (sym (eqb-true w v here))) ∙ on)

pub going_with : (M N : ℕ → ℕ) (v mask new bit : ℕ) → ((u : ℕ) → N u ≡ cond (eqb u v && not (eqb (M u) 0)) new (M u)) → ((j : ℕ) → has_bit new j ≡ (has_bit mask j || eqb j bit)) → has_bit (M v) there_bit ≡ true → has_bit (N v) bit ≡ true
going_with M N v mask new bit sets bits there = ap (λ (m : ℕ). has_bit m bit) (own_mask M N v v new sets refl there) ∙ bits bit ∙ or_right (has_bit mask bit) (eqb bit bit) (eq-eqb bit bit refl)

-- ---- The blocks of a mask, one by one

pub begun_first : (covered : Bool) (items : List Entry) (F : ℕ → Option Cell) (M : ℕ → ℕ) (first mask b : ℕ) → (in_mask first mask b && ltb b (first + 0)) ≡ true → AreBegun covered items F M b
begun_first covered items F M first mask b on = absurd (false≢true (sym (no_block first mask b) ∙ on))

pub begun_next : (covered : Bool) (items : List Entry) (F : ℕ → Option Cell) (M N : ℕ → ℕ) (first mask i b : ℕ) → ((v : ℕ) → IsWithin (M v) (N v)) → ((in_mask first mask b && ltb b (first + i)) ≡ true → AreBegun covered items F M b)
    → (has_bit mask i ≡ true → AreBegun covered items F N (first + i)) → (in_mask first mask b && ltb b (first + (i + 1))) ≡ true → AreBegun covered items F N b
begun_next covered items F M N first mask i b more before here on = at (in_mask first mask b && ltb b (first + i)) (eqb b (first + i)) refl refl (next_block first mask i b ∙ on)
  where
    at : (s t : Bool) → (in_mask first mask b && ltb b (first + i)) ≡ s → eqb b (first + i) ≡ t → (s || (has_bit mask i && t)) ≡ true → AreBegun covered items F N b
    at true t is same some = λ k e found starts. more e.record.version (lane_bit Going e.record.lane) (before is k e found starts)
    at false true is same some = subst (λ (x : ℕ). AreBegun covered items F N x) (sym (eqb-true b (first + i) same)) (here (and_parts (has_bit mask i) true some).0)
    at false false is same some = absurd (false≢true (and_parts (has_bit mask i) false some).1)

pub begun_all : (covered : Bool) (items : List Entry) (F : ℕ → Option Cell) (M : ℕ → ℕ) (first mask count i b : ℕ) → mask < 2 ^ count → count ≤ i → ((in_mask first mask b && ltb b (first + i)) ≡ true → AreBegun covered items F M b) → in_mask first mask b ≡ true → AreBegun covered items F M b
begun_all covered items F M first mask count i b fits done before on = before (all_blocks first mask count i b fits done ∙ on)

-- the answer of the marks
pub first_sought : (sought : Sought) (items : List Entry) (F : ℕ → Option Cell) (M : ℕ → ℕ) (lanes : List Bool) (bits start : ℕ) (o : Option ℕ) → AreEntries items → ((x : ℕ) → F x ≡ cell_of items x) → AreMarked items F M
    → ((lane : ℕ) → slice_index_or lanes lane false ≡ true → has_bit bits (lane_bit sought lane) ≡ true)
    → IfSome o (λ v. (start ≤ v) × (bit_and (M v) bits ≡ 0 → ⊥)) → IfSome o (λ v. (w : ℕ) → start ≤ w → w < v → AreApart (M w) bits) → IfNone o ((w : ℕ) → start ≤ w → AreApart (M w) bits)
    → PassesOverNone sought lanes (map seen items) start o
first_sought sought items F M lanes bits start None es table marked wanted found least none = record {
  from = tt;
  least = tt;
  none = all_seen items (λ e. start ≤ e.listed.version → slice_index_or lanes e.listed.lane false ≡ true → has_sought sought (listed_in (map seen items)) e.listed ≡ false)
      (λ k e at late awake. none_sought sought items F M lanes bits (λ w. start ≤ w) es table marked wanted none k e at late awake);
}
first_sought sought items F M lanes bits start (Some v) es table marked wanted found least none = record {
  from = found.0;
  least = all_seen items (λ e. start ≤ e.listed.version → e.listed.version < v → slice_index_or lanes e.listed.lane false ≡ true → has_sought sought (listed_in (map seen items)) e.listed ≡ false)
      (λ k e at late less awake. none_sought sought items F M lanes bits (λ w. (start ≤ w) × (w < v)) es table marked wanted (λ w c. least w c.0 c.1) k e at (late, less) awake);
  none = tt;
}

-- the same marks
marked_same : (items : List Entry) (F G : ℕ → Option Cell) (M N : ℕ → ℕ) → ((b : ℕ) → G b ≡ F b) → ((v : ℕ) → N v ≡ M v) → AreMarked items F M → AreMarked items G N
marked_same items F G M N known masks marked k e at =
    subst (λ (m : ℕ). IsMarked G m e) (sym (masks e.record.version)) (subst (λ (H : ℕ → Option Cell). IsMarked H (M e.record.version) e) (λ i b. sym (known b) i) (marked k e at))

-- the same entries, of which the same is known
pub all_kept : (items now : List Entry) (F G : ℕ → Option Cell) (M N : ℕ → ℕ) (homes : Bool) → now ≡ items → ((b : ℕ) → G b ≡ F b) → ((v : ℕ) → N v ≡ M v)
    → AreEntries items × ((b : ℕ) → F b ≡ cell_of items b) × AreMarked items F M × (homes ≡ false → NoneHomed items) → AreEntries now × ((b : ℕ) → G b ≡ cell_of now b) × AreMarked now G N × (homes ≡ false → NoneHomed now)
all_kept items now F G M N homes same known masks all = subst (λ (es : List Entry). AreEntries es × ((b : ℕ) → G b ≡ cell_of es b) × AreMarked es G N × (homes ≡ false → NoneHomed es)) (sym same)
    (all.0, (λ b. known b ∙ all.1 b), marked_same items F G M N known masks all.2, all.3)

-- a newer record keeps all blocks of a record, where its mask, moved, has all bits
pub under_from : (first keep newer_first newer_keep moved b : ℕ) → keep < 2 ^ 128 → moved < 2 ^ 128 → ((i : ℕ) → has_bit moved i ≡ (ltb i 128 && in_mask newer_first newer_keep (first + i)))
    → bit_and keep (bit_not w128 moved) ≡ 0 → in_mask first keep b ≡ true → in_mask newer_first newer_keep b ≡ true
under_from first keep newer_first newer_keep moved b fits moved_fits bits none on =
    let parts = and_parts (leb first b) (has_bit keep (b - first)) on in
    let start = leb-true first b parts.0 in
    let at : first + (b - first) ≡ b = omega (arith, start) in
    let bit : has_bit moved (b - first) ≡ true = seen (has_bit keep (b - first)) (has_bit moved (b - first)) parts.1
    (sym (has_bit-without keep moved (b - first) fits moved_fits) ∙ ap (λ (m : ℕ). has_bit m (b - first)) none ∙ has_bit-zero (b - first)) in
    ap (in_mask newer_first newer_keep) (sym at) ∙ (and_parts (ltb (b - first) 128) (in_mask newer_first newer_keep (first + (b - first))) (sym (bits (b - first)) ∙ bit)).1
  where
    seen : (k m : Bool) → k ≡ true → (k && not m) ≡ false → m ≡ true
    seen k true kept none_ = refl
    seen true false kept none_ = absurd (false≢true (sym none_))
    seen false false kept none_ = kept

-- a record whose blocks all have a newer record has none that is due
pub marked_beneath : (known : ℕ → Option Cell) (mask version : ℕ) (e : Entry) → (e.record.version ≡ version → ⊥) → ((b : ℕ) → keeps e b ≡ true → version_in (known b) ≡ Some version)
    → has_bit mask there_bit ≡ true → has_bit mask (lane_bit Going e.record.lane) ≡ true → IsMarked known mask e
marked_beneath known mask version e other newer there going_ = record {
  there = there;
  due = λ b on. absurd (false≢true (sym (by (known b) (newer b (and_parts (keeps e b) (is_held e.record.version false (known b) && not (is_home e b)) on).0))
      ∙ (and_parts (is_held e.record.version false (known b)) (not (is_home e b)) (and_parts (keeps e b) (is_held e.record.version false (known b) && not (is_home e b)) on).1).0));
  going = λ b on. going_;
}
  where
    by : (c : Option Cell) → version_in c ≡ Some version → is_held e.record.version false c ≡ false
    by None is = absurd (none-some version is)
    by (Some c) is = ap (λ (t : Bool). t && true) (ne_eqb c.version e.record.version (λ same. other (sym same ∙ same_Some c.version version is)))

-- no block begins to go of an entry that has none homed
pub begun_unhomed : (items : List Entry) (known : ℕ → Option Cell) (masks : ℕ → ℕ) (b : ℕ) → NoneHomed items → AreBegun false items known masks b
begun_unhomed items known masks b none k e there begun_ =
    absurd (false≢true (sym (ap (λ (m : ℕ). in_mask e.record.lbn m b) (none_homed_at items k e none there) ∙ no_mask (leb e.record.lbn b) (b - e.record.lbn)) ∙ (and_parts (is_home e b) (is_held e.record.version true (take_one (known b))) begun_).0))
  where
    no_mask : (t : Bool) (i : ℕ) → (t && has_bit 0 i) ≡ false
    no_mask true i = has_bit-zero i
    no_mask false i = refl
