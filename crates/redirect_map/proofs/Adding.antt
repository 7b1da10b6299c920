-- What changes in an index where a record is added.
use Rattle.std.proofs.Common.{◌≡◌, ◌<◌, ◌≤◌, ◌+◌, ◌^◌, ℕ, suc, Bool, true, false, not, ◌&&◌, ◌||◌, List, [], ◌∷◌, ◌++◌, map, length, refl, sym, ap, ◌∙◌, subst, ⊎_elim, arith}
use Rattle.std.specs.List.{AllByRecursion, AllZip, list_any}
use Rattle.std.proofs.lemmas.Nat.{pow_pos}
use Rattle.std.proofs.lemmas.List.{map-append}
use Rattle.std.proofs.lemmas.List.Folds.{list_any-append, list_any_at}
use Rattle.std.proofs.lemmas.Bool.{cases_lt, and_parts, or_from, false≢true, false_from_ne_true, not-true}
use Rattle.wol_model.specs.Log.{has_bit, marks_of}
use Rattle.wol_model.specs.Index.{Indexed, AreRising}
use Rattle.block_cells.specs.declared.record.Rec.{Rec}
use Rattle.block_cells.specs.Masks.{in_mask}
use Rattle.block_cells.specs.Runs.{runs_after, runs_of}
use Rattle.block_cells.proofs.Bits.{has_bit-above, has_bit-zero, some_bit, small_from_bits}
use Rattle.block_cells.proofs.Marks.{marks_at, marked-marks_of, length-marks_of}
use Rattle.redirect_map.specs.declared.entry.Entry.{Entry}
use Rattle.redirect_map.specs.Index.{entry_of, cover_at, unhomed, IsNew}
use Rattle.redirect_map.specs.Kept.{seen, keeps, one_keeps, IsInRange, IsUnhomed, AreLive, AreEntries}
use Rattle.redirect_map.proofs.Seen.{all_before_map}
use Rattle.redirect_map.proofs.Answering.{wide}
use Rattle.redirect_map.proofs.Changing.{remarked-marks_of}

unfoldable pub new_entry : Rec → Entry
new_entry r = record { «record» = r; homed = 0 }

-- ---- Room

a_run : (before : Bool) (marks : List Bool) → before ≡ false → list_any (λ m. m) marks ≡ true → 1 ≤ runs_after before marks
a_run true marks out some = absurd (false≢true (sym out))
a_run false [] out some = absurd (false≢true some)
a_run false (false ∷ marks) out some = a_run false marks refl some
a_run false (true ∷ marks) out some = omega arith

pub some_run : (r : Rec) → IsNew r → 1 ≤ runs_of (marks_of r.count r.keep)
some_run r new =
    let one = some_bit r.keep new.keeps (wide r.keep r.count new.keep_within new.count) in
    let low : one.0 < length (marks_of r.count r.keep) = rw (length-marks_of r.count r.keep) (inside one.0 one.1) in
    a_run false (marks_of r.count r.keep) refl (list_any_at (λ m. m) (marks_of r.count r.keep) one.0 false low (marks_at r.count r.keep one.0 new.keep_within ∙ one.1))
  where
    inside : (i : ℕ) → has_bit r.keep i ≡ true → i < r.count
    inside i on = ⊎_elim (λ less. less) (λ more. absurd (false≢true (sym (has_bit-above r.keep r.count i new.keep_within more) ∙ on))) (cases_lt i r.count)

-- ---- The entries

versions_same : (r : Rec) (old new : List Entry) → AllZip (IsUnhomed r) old new → map (λ (d : Entry). d.record.version) new ≡ map (λ (d : Entry). d.record.version) old
versions_same r [] [] all = refl
versions_same r [] (n ∷ ns) all = absurd all
versions_same r (o ∷ os) [] all = absurd all
versions_same r (o ∷ os) (n ∷ ns) all = λ i. (all.0.same i).version ∷ versions_same r os ns all.1 i

all_push : (P : ℕ → Type 0) (vs : List ℕ) (v : ℕ) → AllByRecursion P vs → P v → AllByRecursion P (vs ++ v ∷ [])
all_push P [] v all here = (here, tt)
all_push P (w ∷ vs) v all here = (all.0, all_push P vs v all.1 here)

pub rising_push : (vs : List ℕ) (v : ℕ) → AreRising vs → AllByRecursion (λ w. w < v) vs → AreRising (vs ++ v ∷ [])
rising_push [] v rising below = (tt, tt)
rising_push (w ∷ vs) v rising below = (all_push (λ x. w < x) vs v rising.0 below.0, rising_push vs v rising.1 below.1)

keeps_same : (r : Rec) (o n : Entry) (b : ℕ) → IsUnhomed r o n → keeps n b ≡ keeps o b
keeps_same r o n b h = ap (λ (d : Rec). in_mask d.lbn d.keep b) h.same

one_same : (r : Rec) (old new : List Entry) (b : ℕ) → AllZip (IsUnhomed r) old new → one_keeps new b ≡ one_keeps old b
one_same r [] [] b all = refl
one_same r [] (n ∷ ns) b all = absurd all
one_same r (o ∷ os) [] b all = absurd all
one_same r (o ∷ os) (n ∷ ns) b all = λ i. keeps_same r o n b all.0 i || one_same r os ns b all.1 i

homed_parts : (r : Rec) (o n : Entry) (i : ℕ) → IsUnhomed r o n → has_bit n.homed i ≡ true → (has_bit o.homed i ≡ true) × (in_mask r.lbn r.keep (o.record.lbn + i) ≡ false)
homed_parts r o n i h on =
    let parts = and_parts (has_bit o.homed i) (not (in_mask r.lbn r.keep (o.record.lbn + i))) (sym (h.homed i) ∙ on) in
    (parts.0, not-true (in_mask r.lbn r.keep (o.record.lbn + i)) parts.1)

range_same : (r : Rec) (o n : Entry) → IsUnhomed r o n → IsInRange o → IsInRange n
range_same r o n h range =
    let P : Rec → Type 0 = λ d. (1 ≤ d.count) × (d.count ≤ 128) × (d.lbn + d.count ≤ 2 ^ 32) × (0 < d.keep) × (d.keep < 2 ^ d.count) in
    let facts = subst P (sym h.same) (range.some, range.count, range.within, range.keeps, range.keep_within) in
    let Q : Rec → Type 0 = λ d. n.homed < 2 ^ d.count in
    let low : n.homed < 2 ^ o.record.count = small_from_bits n.homed o.record.count (λ i high. false_from_ne_true (has_bit n.homed i)
    (λ on. false≢true (sym (has_bit-above o.homed o.record.count i range.homed_within high) ∙ (homed_parts r o n i h on).0))) in
    record { some = facts.0; count = facts.1; within = facts.2; keeps = facts.3; keep_within = facts.4; homed_within = subst Q (sym h.same) low }

ranges_new : (r : Rec) (old new : List Entry) → IsInRange (new_entry r) → AllZip (IsUnhomed r) old new → AllByRecursion IsInRange old → AllByRecursion IsInRange (new ++ new_entry r ∷ [])
ranges_new r [] [] here all ranges = (here, tt)
ranges_new r [] (n ∷ ns) here all ranges = absurd all
ranges_new r (o ∷ os) [] here all ranges = absurd all
ranges_new r (o ∷ os) (n ∷ ns) here all ranges = (range_same r o n all.0 ranges.0, ranges_new r os ns here all.1 ranges.1)

none_more : (r : Rec) (old new : List Entry) (b : ℕ) → AllZip (IsUnhomed r) old new → one_keeps old b ≡ false → in_mask r.lbn r.keep b ≡ false → one_keeps (new ++ new_entry r ∷ []) b ≡ false
unfolding new_entry
none_more r old new b all none out = list_any-append (λ e. keeps e b) new (new_entry r ∷ []) ∙ or_from (one_keeps new b) (one_keeps (new_entry r ∷ []) b) (one_same r old new b all ∙ none) (or_from (in_mask r.lbn r.keep b) false out refl)

live_new : (r : Rec) (old new : List Entry) → AllZip (IsUnhomed r) old new → AreLive old → AreLive (new ++ new_entry r ∷ [])
unfolding new_entry
live_new r [] [] all live = ((λ i on. absurd (false≢true (sym (has_bit-zero i) ∙ on))), tt)
live_new r [] (n ∷ ns) all live = absurd all
live_new r (o ∷ os) [] all live = absurd all
live_new r (o ∷ os) (n ∷ ns) all live = (
  (λ i on.
      let parts = homed_parts r o n i all.0 on in
      let facts = live.0 i parts.0 in
      let P : Rec → Type 0 = λ d. (has_bit d.keep i ≡ true) × (one_keeps (ns ++ new_entry r ∷ []) (d.lbn + i) ≡ false) in
      subst P (sym all.0.same) (facts.0, none_more r os ns (o.record.lbn + i) all.1 facts.1 parts.1)),
  live_new r os ns all.1 live.1,
)

-- all are older than a record that is newer than all were
pub below_new : (r : Rec) (old new : List Entry) → AllZip (IsUnhomed r) old new → AllByRecursion (λ (d : Indexed). d.listed.version < r.version) (map seen old) → AllByRecursion (λ (d : Entry). d.record.version < r.version) new
below_new r [] [] all below = tt
below_new r [] (n ∷ ns) all below = absurd all
below_new r (o ∷ os) [] all below = absurd all
below_new r (o ∷ os) (n ∷ ns) all below = (subst (λ (d : Rec). d.version < r.version) (sym all.0.same) below.0, below_new r os ns all.1 below.1)

-- an index with a further record
pub entries_added : (r : Rec) (old new : List Entry) → AreEntries old → AllZip (IsUnhomed r) old new → IsNew r → AllByRecursion (λ (d : Indexed). d.listed.version < r.version) (map seen old) → AreEntries (new ++ new_entry r ∷ [])
unfolding new_entry
entries_added r old new es all fresh below =
    let here : IsInRange (new_entry r) = record { some = fresh.some; count = fresh.count; within = fresh.within; keeps = fresh.keeps; keep_within = fresh.keep_within; homed_within = pow_pos r.count } in
    record {
      rising = subst AreRising (sym (map-append (λ (d : Entry). d.record.version) new (new_entry r ∷ []) ∙ ap (λ vs. vs ++ r.version ∷ []) (versions_same r old new all)))
          (rising_push (map (λ (d : Entry). d.record.version) old) r.version es.rising (below_all old (all_before_map (λ (d : Indexed). d.listed.version < r.version) seen old below)));
      ranges = ranges_new r old new here all es.ranges;
      live = live_new r old new all es.live;
    }
  where
    below_all : (xs : List Entry) → AllByRecursion (λ (d : Entry). d.record.version < r.version) xs → AllByRecursion (λ w. w < r.version) (map (λ (d : Entry). d.record.version) xs)
    below_all [] below = tt
    below_all (x ∷ xs) below = (below.0, below_all xs below.1)

-- ---- What contracts see of it

seen_unhomed : (r : Rec) (o n : Entry) → IsNew r → IsUnhomed r o n → seen n ≡ unhomed (cover_at (entry_of r 0)) (seen o)
seen_unhomed r o n fresh h =
    let bits : (i : ℕ) → has_bit n.homed i ≡ (has_bit o.homed i && not ((cover_at (entry_of r 0)).covers (o.record.lbn + i))) =
    λ i. h.homed i ∙ ap (λ (t : Bool). has_bit o.homed i && not t) (sym (marked-marks_of r.lbn r.count r.keep (o.record.lbn + i) fresh.keep_within)) in
    ap (λ (d : Rec). entry_of d n.homed) h.same
    ∙ (λ j. record {
      listed = record {
        version = o.record.version;
        first = o.record.lbn;
        keep = marks_of o.record.count o.record.keep;
        lane = o.record.lane;
        homed = remarked-marks_of o.record.lbn o.record.count o.homed n.homed (λ b m. m && not ((cover_at (entry_of r 0)).covers b)) bits j;
      };
      index = o.record.segment;
      pos = o.record.pos;
    })

all_unhomed : (r : Rec) (old new : List Entry) → IsNew r → AllZip (IsUnhomed r) old new → map seen new ≡ map (unhomed (cover_at (entry_of r 0))) (map seen old)
all_unhomed r [] [] fresh all = refl
all_unhomed r [] (n ∷ ns) fresh all = absurd all
all_unhomed r (o ∷ os) [] fresh all = absurd all
all_unhomed r (o ∷ os) (n ∷ ns) fresh all = λ i. seen_unhomed r o n fresh all.0 i ∷ all_unhomed r os ns fresh all.1 i

pub seen_added : (r : Rec) (old new : List Entry) → IsNew r → AllZip (IsUnhomed r) old new → map seen (new ++ new_entry r ∷ []) ≡ map (unhomed (cover_at (entry_of r 0))) (map seen old) ++ entry_of r 0 ∷ []
unfolding new_entry
seen_added r old new fresh all = map-append seen new (new_entry r ∷ []) ∙ ap (λ (es : List Indexed). es ++ entry_of r 0 ∷ []) (all_unhomed r old new fresh all)

pub zip_length : (r : Rec) (old new : List Entry) → AllZip (IsUnhomed r) old new → length new ≡ length old
zip_length r [] [] all = refl
zip_length r [] (n ∷ ns) all = absurd all
zip_length r (o ∷ os) [] all = absurd all
zip_length r (o ∷ os) (n ∷ ns) all = ap suc (zip_length r os ns all.1)
