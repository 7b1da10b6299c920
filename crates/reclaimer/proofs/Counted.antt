-- What the steps of reclaim take off a manager's look.
use Rattle.std.proofs.Common.{◌≡◌, ◌<◌, ◌≤◌, ◌+◌, ◌^◌, ℕ, Bool, true, false, cond, not, ◌||◌, List, [], ◌∷◌, ◌++◌, map, length, Some, Result, is_ok, refl, sym, ap, subst, ◌∙◌, arith, eqb}
use Rattle.std.specs.Prelude.{is_none, slice_get, slice_set, if◌then◌else◌}
use Rattle.std.specs.List.{AllByRecursion, list_any, filter, count_by}
use Rattle.std.specs.Int.RustNames.{count_ones}
use Rattle.std.proofs.lemmas.Bool.{and_parts, eqb-true}
use Rattle.std.proofs.Math.ListN.{length-set}
use Rattle.wol_model.specs.Extents.{has_newer}
use Rattle.wol_model.specs.Index.{Listed, Indexed, listed_in, listed_covers, cover_of, is_homed, is_live, is_due, has_going, block_numbers, keeps_a_block, homing, keeping, AreRising, left}
use Rattle.wol_model.specs.Log.{has_bit}
use Rattle.wol_model.proofs.Counts.{counted, marked_within}
use Rattle.wol_promise.specs.Policy.{Look}
use Rattle.wol_promise.proofs.Covers.{any_found}
use Rattle.block_cells.specs.Masks.{in_mask}
use Rattle.block_cells.proofs.Marks.{in_mask-bit}
use Rattle.redirect_map.specs.Index.{Contents, entry_at, changed, has_version, IsEntry, IsIndex}
use Rattle.manager.specs.Reclaim.{HasDropped, with_kept, with_put, given_of}
use Rattle.manager.specs.Seen.{look_of_manager}
use Rattle.manager.specs.declared.manager.Manager.{Manager}
use Rattle.manager.specs.declared.part.StepFault.{StepFault}
use Rattle.manager.proofs.Entries.{entry_of_version, among, entry_in}
use Rattle.manager.proofs.StoreHome.{bit_of}
use Rattle.wol_promise.proofs.Lowering.{around, put_lowers, given_lowers, filter_listed}
use Rattle.reclaimer.specs.Counts.{TakesOff}
use Rattle.reclaimer.proofs.Counting.{blocks_counted}
use Rattle.reclaimer.proofs.Draining.{all_keep}
use Rattle.reclaimer.proofs.Dues.{homed_taken, given_dues, length_given, version_given, others_differ}
use Rattle.reclaimer.proofs.GiveUp.{done_then}
use Rattle.garbage_list.proofs.Nexts.{Spot, spot_of_version, found_passes}
use Rattle.reclaimer.proofs.Putting.{never}
use Rattle.reclaimer.proofs.TakenOff.{Taken, dues_in, taken_none, takes_off, nothing_taken}
use Rattle.wol_promise.proofs.Lists.{all_parts}

-- ---- at a place of the listed records

abbrev versions : List Listed → List ℕ
versions listed = map (λ (d : Listed). d.version) listed

put_taken : (listed : List Listed) (place : ℕ) (x : Listed) (put : ℕ → Bool) → slice_get listed place ≡ Some x → AreRising (versions listed) → length x.homed ≡ length x.keep → ((b : ℕ) → put b ≡ true → is_due listed x b ≡ true)
    → Taken (count_by put (block_numbers x)) (dues_in listed) (dues_in (slice_set listed place (homing put x)))
put_taken listed place x put is rising sized due =
    let a = around listed place x is in
    let taken = homed_taken a.front a.back x put (subst (λ (l : List Listed). AreRising (versions l)) a.is rising) sized (λ b p. subst (λ (l : List Listed). is_due l x b ≡ true) a.is (due b p)) in
    subst (λ (l : List Listed). Taken (count_by put (block_numbers x)) (dues_in listed) (dues_in l)) (sym (a.set (homing put x)))
    (subst (λ (l : List Listed). Taken (count_by put (block_numbers x)) (dues_in l) (dues_in (a.front ++ homing put x ∷ a.back))) (sym a.is) taken)

module _ (listed : List Listed) (place : ℕ) (x : Listed) (is : slice_get listed place ≡ Some x) where
  abbrev given : List Listed
  given = filter keeps_a_block (slice_set listed place (keeping listed x))

  pub given_taken : Taken 0 (dues_in listed) (dues_in given)
  given_taken =
      let a = around listed place x is in
      let now : given ≡ filter keeps_a_block (a.front ++ keeping (a.front ++ x ∷ a.back) x ∷ a.back) = ap (filter keeps_a_block) (a.set (keeping listed x) ∙ (λ i. a.front ++ keeping (a.is i) x ∷ a.back)) in
      taken_none (dues_in listed) (dues_in given) (ap dues_in now ∙ given_dues a.front a.back x ∙ sym (ap dues_in a.is))

  -- one record fewer where the version is listed no more
  fewer_listed : AreRising (versions listed) → AllByRecursion (λ (d : Listed). keeps_a_block d ≡ true) listed → length given + cond (list_any (λ (d : Listed). eqb d.version x.version) given) 0 1 ≡ length listed
  fewer_listed rising keep =
      let a = around listed place x is in
      let now : given ≡ filter keeps_a_block (a.front ++ keeping (a.front ++ x ∷ a.back) x ∷ a.back) = ap (filter keeps_a_block) (a.set (keeping listed x) ∙ (λ i. a.front ++ keeping (a.is i) x ∷ a.back)) in
      let others = others_differ a.front x a.back (subst (λ (l : List Listed). AreRising (versions l)) a.is rising) in
      let parts = all_parts (λ (d : Listed). keeps_a_block d ≡ true) a.front x a.back (subst (λ (l : List Listed). AllByRecursion (λ (d : Listed). keeps_a_block d ≡ true) l) a.is keep) in
      (λ i. length (now i) + cond (list_any (λ (d : Listed). eqb d.version x.version) (now i)) 0 1)
      ∙ (λ i. length (filter keeps_a_block (a.front ++ keeping (a.front ++ x ∷ a.back) x ∷ a.back)) + cond (version_given a.front a.back x parts.0 parts.1 others i) 0 1)
      ∙ length_given a.front a.back x parts.0 parts.1 ∙ sym (ap length a.is)

-- ---- in an index

rising_listed : (es : List Indexed) → map (λ (e : Indexed). e.listed.version) es ≡ versions (listed_in es)
rising_listed [] = refl
rising_listed (e ∷ es) = λ i. e.listed.version ∷ rising_listed es i

rising_in : (es : List Indexed) → IsIndex es → AreRising (versions (listed_in es))
rising_in es index = subst AreRising (rising_listed es) index.rising

none_of_version : (es : List Indexed) (version : ℕ) → is_none (entry_at es version) ≡ not (list_any (λ (d : Listed). eqb d.version version) (listed_in es))
none_of_version [] version = refl
none_of_version (e ∷ es) version = at (eqb e.listed.version version) (none_of_version es version)
  where
    at : (t : Bool) → is_none (entry_at es version) ≡ not (list_any (λ (d : Listed). eqb d.version version) (listed_in es)) → is_none (cond t (Some e) (entry_at es version)) ≡ not (t || list_any (λ (d : Listed). eqb d.version version) (listed_in es))
    at true rest = refl
    at false rest = rest

-- the blocks of a mask that are due lie in the record's range
bits_within : (es : List Listed) (e : Listed) (mask : ℕ) → ((b : ℕ) → in_mask e.first mask b ≡ true → is_due es e b ≡ true) → (b : ℕ) → e.first + length e.keep ≤ b → in_mask e.first mask b ≡ false
bits_within es e mask due b le = never (in_mask e.first mask b) (λ is.
    let live = (and_parts (is_live es e b) (not (is_homed e b)) (due b is)).0 in
    let covered = (and_parts ((cover_of e).covers b) (not (has_newer (listed_covers es) e.version b)) live).0 in
    let within = marked_within e.first e.keep b covered in
    omega (arith, within.1, le))

counted_any : (p : ℕ → Bool) (bs : List ℕ) → 0 < count_by p bs → list_any p bs ≡ true
counted_any p [] some = absurd (omega arith)
counted_any p (b ∷ bs) some = at (p b) refl (counted_any p bs)
  where
    at : (t : Bool) → p b ≡ t → (0 < count_by p bs → list_any p bs ≡ true) → (t || list_any p bs) ≡ true
    at true is rest = refl
    at false is rest =
        let c = counted p b bs in let none = ap (λ (t : Bool). cond {A = ℕ} t 1 0) is in
        rest (omega (arith, some, c, none))

module _ (es new : List Indexed) (index : IsIndex es) (version : ℕ) (e : Indexed) (there : entry_at es version ≡ Some e) (mask : ℕ) (due : (i : ℕ) → has_bit mask i ≡ true → is_due (listed_in es) e.listed (e.listed.first + i) ≡ true)
    (new_is : new ≡ changed version (with_put mask) es) where
  spot : Spot es version e
  spot = spot_of_version es version e index.rising there

  entry : IsEntry (listed_in es) e.listed
  entry = entry_in es e index (among (entry_of_version es version e index.rising there))

  listed_now : listed_in new ≡ slice_set (listed_in es) spot.place (homing (in_mask e.listed.first mask) e.listed)
  listed_now = ap listed_in new_is ∙ spot.then_is (with_put mask)

  each_due : (b : ℕ) → in_mask e.listed.first mask b ≡ true → is_due (listed_in es) e.listed b ≡ true
  each_due = bit_of e.listed.first mask (λ b. is_due (listed_in es) e.listed b ≡ true) due

  pub taken_by_mask : Taken (count_by (in_mask e.listed.first mask) (block_numbers e.listed)) (dues_in (listed_in es)) (dues_in (listed_in new))
  taken_by_mask = subst (λ (l : List Listed). Taken (count_by (in_mask e.listed.first mask) (block_numbers e.listed)) (dues_in (listed_in es)) (dues_in l)) (sym listed_now)
      (put_taken (listed_in es) spot.place e.listed (in_mask e.listed.first mask) spot.there (rising_in es index) entry.homed.marks each_due)

  pub ones_of_mask : mask < 2 ^ 128 → count_ones mask ≡ count_by (in_mask e.listed.first mask) (block_numbers e.listed)
  ones_of_mask fits = blocks_counted mask e.listed.first (length e.listed.keep) (in_mask e.listed.first mask) fits entry.count (λ i. sym (in_mask-bit e.listed.first mask i)) (bits_within (listed_in es) e.listed mask each_due)

  pub same_length : length (listed_in new) + 0 ≡ length (listed_in es)
  same_length = let l = ap length listed_now in let m = length-set (listed_in es) spot.place (homing (in_mask e.listed.first mask) e.listed) in omega (arith, l, m)

  pub lowered_by_mask : 0 < count_by (in_mask e.listed.first mask) (block_numbers e.listed) → left (listed_in new) < left (listed_in es)
  lowered_by_mask some =
      let f = any_found (in_mask e.listed.first mask) (block_numbers e.listed) (counted_any (in_mask e.listed.first mask) (block_numbers e.listed) some) in
      let lower = put_lowers (listed_in es) spot.place e.listed (in_mask e.listed.first mask) f.item spot.there entry.homed.marks each_due f.passes in
      let l = ap left listed_now in
      omega (arith, lower, l)

module _ (es new : List Indexed) (index : IsIndex es) (version : ℕ) (e : Indexed) (there : entry_at es version ≡ Some e) (new_is : new ≡ given_of version es) where
  given_spot : Spot es version e
  given_spot = spot_of_version es version e index.rising there

  given_now : listed_in new ≡ filter keeps_a_block (slice_set (listed_in es) given_spot.place (keeping (listed_in es) e.listed))
  given_now = ap listed_in new_is ∙ filter_listed (changed version (with_kept es) es) ∙ ap (filter keeps_a_block) (given_spot.then_is (with_kept es))

  pub taken_given : Taken 0 (dues_in (listed_in es)) (dues_in (listed_in new))
  taken_given = subst (λ (l : List Listed). Taken 0 (dues_in (listed_in es)) (dues_in l)) (sym given_now) (given_taken (listed_in es) given_spot.place e.listed given_spot.there)

  pub lowered_given : has_going (listed_in es) e.listed ≡ true → left (listed_in new) < left (listed_in es)
  lowered_given some =
      let lower = given_lowers (listed_in es) given_spot.place e.listed given_spot.there some in
      let l = ap left given_now in
      omega (arith, lower, l)

  pub length_now : length (listed_in new) + (if is_none (entry_at new version) then 1 else 0) ≡ length (listed_in es)
  length_now =
      let version_is : e.listed.version ≡ version = eqb-true e.listed.version version (found_passes (has_version version) es e there) in
      (λ i. length (listed_in new) + cond (none_of_version new version i) 1 0)
      ∙ (λ i. length (given_now i) + cond (not (list_any (λ (d : Listed). eqb d.version (sym version_is i)) (given_now i))) 1 0)
      ∙ ap (λ (n : ℕ). length now + n) (turned (list_any (λ (d : Listed). eqb d.version e.listed.version) now))
      ∙ fewer_listed (listed_in es) given_spot.place e.listed given_spot.there (rising_in es index) (all_keep es index)
    where
      now : List Listed
      now = filter keeps_a_block (slice_set (listed_in es) given_spot.place (keeping (listed_in es) e.listed))

      turned : (t : Bool) → cond {A = ℕ} (not t) 1 0 ≡ cond t 0 1
      turned true = refl
      turned false = refl

-- ---- what a call takes off

module _ {D : Type 0} (old new : Manager D) where
  pub index_stays : new.index ≡ old.index → TakesOff 0 0 (look_of_manager old) (look_of_manager new)
  index_stays same = nothing_taken (look_of_manager old) (look_of_manager new) (ap (λ (i : Contents). listed_in i.entries) same)

  module _ (index : IsIndex old.index.entries) (version : ℕ) (e : Indexed) (there : entry_at old.index.entries version ≡ Some e) where
    pub drop_takes : {T : Type 0} (res : Result T StepFault) → is_ok res ≡ true → HasDropped version e old new res → TakesOff 0 (if is_none (entry_at new.index.entries version) then 1 else 0) (look_of_manager old) (look_of_manager new)
    drop_takes res done d =
        let is = done_then _ res done d.ok in
        takes_off 0 (if is_none (entry_at new.index.entries version) then 1 else 0) (look_of_manager old) (look_of_manager new) (taken_given old.index.entries new.index.entries index version e there is) (length_now old.index.entries new.index.entries index version e there is)

    module _ (mask : ℕ) (due : (i : ℕ) → has_bit mask i ≡ true → is_due (listed_in old.index.entries) e.listed (e.listed.first + i) ≡ true) (is : new.index.entries ≡ changed version (with_put mask) old.index.entries) where
      pub put_takes : (n : ℕ) → count_by (in_mask e.listed.first mask) (block_numbers e.listed) ≡ n → TakesOff n 0 (look_of_manager old) (look_of_manager new)
      put_takes n many = takes_off n 0 (look_of_manager old) (look_of_manager new)
          (subst (λ (k : ℕ). Taken k (dues_in (listed_in old.index.entries)) (dues_in (listed_in new.index.entries))) many (taken_by_mask old.index.entries new.index.entries index version e there mask due is))
          (same_length old.index.entries new.index.entries index version e there mask due is)

-- what is taken off a look whose records are listed the same
pub taken_since : (blocks records : ℕ) (l k m : Look) → k.listed ≡ l.listed → TakesOff blocks records k m → TakesOff blocks records l m
taken_since blocks records l k m same taken = takes_off blocks records l m
    (subst (λ (ps : List (ℕ × ℕ)). Taken blocks ps (dues_in m.listed)) (ap dues_in same) (record { fewer = taken.homed; others = taken.due }))
    (taken.gone_ ∙ ap length same)
