-- Fetched blocks that are still due are put home.
use Rattle.std.proofs.Common.{◌≡◌, ◌≢◌, ⊎_elim, ◌<◌, ◌≤◌, ◌+◌, ◌-◌, ◌^◌, ℕ, zero, suc, Bool, true, false, not, ◌&&◌, List, length, take, Option, None, Some, Result, is_ok, refl, sym, ap, ◌∙◌, arith, eqb, bit_and}
use Rattle.std.specs.Prelude.{IfSome, count_by}
use Rattle.std.specs.List.{range_with_len}
use Rattle.std.specs.Option.{option_map_or}
use Rattle.std.specs.Int.RustNames.{count_ones}
use Rattle.std.proofs.lemmas.Bool.{and_parts, eq-eqb, eqb-true, lt-leb, cases_lt, false≢true}
use Rattle.std.proofs.lemmas.Nat.{zero_from_ones}
use Rattle.wol_disk.specs.Disk.{State, Block}
use Rattle.wol_model.specs.Extents.{has_newer}
use Rattle.wol_model.specs.Index.{Indexed, listed_in, listed_covers, is_due, is_live, is_homed, cover_of}
use Rattle.wol_model.specs.Log.{has_bit}
use Rattle.wol_model.proofs.Masks.{mask_and}
use Rattle.wol_model.proofs.Counts.{marked_within}
use Rattle.wol_promise.specs.Policy.{IsReclaim, puts_home}
use Rattle.block_cells.specs.Masks.{IsMask, in_mask}
use Rattle.block_cells.specs.declared.record.Rec.{Rec}
use Rattle.block_cells.proofs.Bits.{has_bit-zero}
use Rattle.block_cells.proofs.Marks.{in_mask-bit}
use Rattle.redirect_map.specs.Index.{entry_at, IsAnswer, IsIndex}
use Rattle.manager.specs.Reclaim.{HasStored, with_put}
use Rattle.manager.specs.Seen.{down_of, look_of_manager}
use Rattle.manager.specs.declared.manager.Manager.{Manager}
use Rattle.manager.specs.declared.part.StepFault.{StepFault}
use Rattle.manager.proofs.StoreHome.{bit_of}
use Rattle.manager.proofs.Entries.{found_of, some_of}
use Rattle.reclaimer.specs.Fetches.{is_still_due, goes_home, home_count}
use Rattle.reclaimer.specs.Records.{FetchedRecord}
use Rattle.reclaimer.specs.declared.room.Filled.{Filled}
use Rattle.reclaimer.proofs.Counting.{blocks_counted, no_blocks}
use Rattle.reclaimer.proofs.GiveUp.{ok_as, err_as, done_then}
use Rattle.garbage_list.proofs.Nexts.{spot_of_version}
use Rattle.reclaimer.proofs.ReadRecord.{length_take}

-- ---- which blocks

-- the blocks of both masks are those that are still due
pub still : (es : List Indexed) (version lbn count due mask : ℕ) (r : Rec) → IsAnswer (entry_at es version) (Some r) → r.lbn ≡ lbn → r.count ≡ count → IfSome (entry_at es version) (λ e. IsMask e.listed.first (is_due (listed_in es) e.listed) mask)
    → IsMask lbn (is_still_due es version lbn count due) (bit_and due mask)
still es version lbn count due mask r answer begins long is i =
    let f = found_of es version r answer in
    let first : f.entry.listed.first ≡ lbn = sym f.record_.first ∙ begins in
    let many : length f.entry.listed.keep ≡ count = sym f.record_.count ∙ long in
    let masked = some_of (λ (e : Indexed). IsMask e.listed.first (is_due (listed_in es) e.listed) mask) (entry_at es version) f.entry is f.is i in
    let tested = sym (λ j. eq-eqb f.entry.listed.first lbn first j && (eq-eqb (length f.entry.listed.keep) count many j && is_due (listed_in es) f.entry.listed (sym first j + i))) in
    mask_and due mask i
    ∙ (λ j. sym (in_mask-bit lbn due i) j && masked j)
    ∙ (λ j. in_mask lbn due (lbn + i) && tested j)
    ∙ (λ j. in_mask lbn due (lbn + i) && option_map_or (λ (e : Indexed). eqb e.listed.first lbn && (eqb (length e.listed.keep) count && is_due (listed_in es) e.listed (lbn + i))) (sym f.is j) false)

-- ---- what goes home

-- a block that is still due lies in the record's range
in_range : (es : List Indexed) (first count b : ℕ) (o : Option Indexed) → option_map_or (λ (e : Indexed). eqb e.listed.first first && (eqb (length e.listed.keep) count && is_due (listed_in es) e.listed b)) o false ≡ true → b < first + count
in_range es first count b None is = absurd (false≢true is)
in_range es first count b (Some e) is =
    let one = and_parts (eqb e.listed.first first) (eqb (length e.listed.keep) count && is_due (listed_in es) e.listed b) is in
    let two = and_parts (eqb (length e.listed.keep) count) (is_due (listed_in es) e.listed b) one.1 in
    let live = (and_parts (is_live (listed_in es) e.listed b) (not (is_homed e.listed b)) two.1).0 in
    let covered = (and_parts ((cover_of e.listed).covers b) (not (has_newer (listed_covers (listed_in es)) e.listed.version b)) live).0 in
    let within = marked_within e.listed.first e.listed.keep b covered in
    let f = eqb-true e.listed.first first one.0 in
    let l = eqb-true (length e.listed.keep) count two.0 in
    omega (arith, within.1, f, l)

pub never : (t : Bool) → (t ≡ true → ⊥) → t ≡ false
never true not_true = absurd (not_true refl)
never false not_true = refl

module _ {D : Type 0} (m : Manager D) (f : Filled) (blocks : List Block) (few : f.count ≤ 128) (long : length blocks ≡ 128) where
  -- the fetch, as contracts see it
  abbrev pub seen : FetchedRecord
  seen = record { version = f.version; first = f.lbn; due = f.due; blocks = take f.count blocks }

  pub size : length (take f.count blocks) ≡ f.count
  size = length_take f.count blocks (omega (arith, few, long))

  -- while home is asleep nothing goes
  pub none_asleep : m.home_up ≡ false → (b : ℕ) → goes_home m (Some seen) b ≡ false
  none_asleep asleep b = λ j. asleep j && is_still_due m.index.entries f.version f.lbn (length (take f.count blocks)) f.due b

  module _ (up : m.home_up ≡ true) (put : ℕ) (fits : put < 2 ^ 128) (is : IsMask f.lbn (is_still_due m.index.entries f.version f.lbn f.count f.due) put) where
    goes_is : (b : ℕ) → goes_home m (Some seen) b ≡ is_still_due m.index.entries f.version f.lbn f.count f.due b
    goes_is b = λ j. up j && is_still_due m.index.entries f.version f.lbn (size j) f.due b

    pub mask_is : IsMask f.lbn (goes_home m (Some seen)) put
    mask_is i = is i ∙ sym (goes_is (f.lbn + i))

    behind : (b : ℕ) → f.lbn + f.count ≤ b → goes_home m (Some seen) b ≡ false
    behind b le = goes_is b ∙ never (is_still_due m.index.entries f.version f.lbn f.count f.due b) (λ passes.
        let parts = and_parts (in_mask f.lbn f.due b) (option_map_or (λ (e : Indexed). eqb e.listed.first f.lbn && (eqb (length e.listed.keep) f.count && is_due (listed_in m.index.entries) e.listed b)) (entry_at m.index.entries f.version) false) passes in
        let lt = in_range m.index.entries f.lbn f.count b (entry_at m.index.entries f.version) parts.1 in
        omega (arith, lt, le))

    pub counted_home : count_ones put ≡ home_count m (Some seen)
    counted_home = blocks_counted put f.lbn f.count (goes_home m (Some seen)) fits few mask_is behind ∙ ap (λ (n : ℕ). count_by (goes_home m (Some seen)) (range_with_len f.lbn n)) (sym size)

    -- none goes where the mask is empty
    pub none_goes : put ≡ 0 → (b : ℕ) → goes_home m (Some seen) b ≡ false
    none_goes empty b = goes_is b ∙ ⊎_elim
        (λ lt. let before = lt-leb f.lbn b lt in
        λ j. (before j && has_bit f.due (b - f.lbn)) && option_map_or (λ (e : Indexed). eqb e.listed.first f.lbn && (eqb (length e.listed.keep) f.count && is_due (listed_in m.index.entries) e.listed b)) (entry_at m.index.entries f.version) false)
        (λ le. let same : f.lbn + (b - f.lbn) ≡ b = omega arith in
        ap (is_still_due m.index.entries f.version f.lbn f.count f.due) (sym same) ∙ sym (is (b - f.lbn)) ∙ ap (λ (k : ℕ). has_bit k (b - f.lbn)) empty ∙ has_bit-zero (b - f.lbn))
        (cases_lt b f.lbn)

    -- and only there
    pub empty_where : ((b : ℕ) → goes_home m (Some seen) b ≡ false) → put ≡ 0
    empty_where none = no_blocks put f.lbn (goes_home m (Some seen)) fits mask_is none

    pub some_counted : put ≢ 0 → 0 < count_ones put
    some_counted some = above (count_ones put) (λ zero_. some (zero_from_ones put zero_))
      where
        above : (n : ℕ) → (n ≡ 0 → ⊥) → 0 < n
        above zero nonzero = absurd (nonzero refl)
        above (suc n) nonzero = omega arith

-- ---- the step

pub stored_as : {D T U : Type 0} (state : D → State) (version mask : ℕ) (blocks : List Block) (old new : Manager D) (r : Result T StepFault) (s : Result U StepFault) → is_ok s ≡ is_ok r → HasStored state version mask blocks old new r → HasStored state version mask blocks old new s
stored_as state version mask blocks old new r s like h = record {
  rest = h.rest;
  used = h.used;
  home = λ e is. let p = h.home e is in record { volume = p.volume; size = p.size; ok = ok_as _ r s like p.ok; images = p.images; any_moment = p.any_moment; cause = err_as _ r s like p.cause; calm = ok_as _ r s like p.calm };
  ok = ok_as _ r s like h.ok;
  err = err_as _ r s like h.err;
}

-- the look goes on by a step of reclaim
pub put_reclaims : {D T : Type 0} (state : D → State) (version mask : ℕ) (blocks : List Block) (old new : Manager D) (r : Result T StepFault) → is_ok r ≡ true → HasStored state version mask blocks old new r → new.down ≡ old.down → old.home_up ≡ true → IsIndex old.index.entries
    → (e : Indexed) → entry_at old.index.entries version ≡ Some e → ((i : ℕ) → has_bit mask i ≡ true → is_due (listed_in old.index.entries) e.listed (e.listed.first + i) ≡ true) → IsReclaim (look_of_manager old) (look_of_manager new)
put_reclaims state version mask blocks old new r done h down up index e is due =
    let spot = spot_of_version old.index.entries version e index.rising is in
    let listed = ap listed_in (done_then _ r done h.ok) ∙ spot.then_is (with_put mask) in
    puts_home spot.place (in_mask e.listed.first mask) e.listed up spot.there (bit_of e.listed.first mask (λ b. is_due (listed_in old.index.entries) e.listed b ≡ true) due)
    (ap look_of_manager h.rest ∙ (λ i. record { home_up = sym up i; ups = old.ups.items; next = old.next; listed = listed i; down = down_of (down i) }))
