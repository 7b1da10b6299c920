-- The only record.
use Rattle.std.proofs.Common.{◌≡◌, ◌+◌, ℕ, zero, suc, Bool, true, false, not, ◌&&◌, ◌||◌, List, [], ◌∷◌, map, take, drop, length, Some, refl, sym, ap, ◌∙◌, arith}
use Rattle.std.specs.Prelude.{slice_get, IfSome}
use Rattle.wol_model.specs.Log.{has_bit}
use Rattle.wol_model.specs.Index.{listed_in, is_live, goes}
use Rattle.block_cells.specs.Masks.{IsMask}
use Rattle.block_cells.proofs.Marks.{in_mask-bit}
use Rattle.redirect_map.specs.declared.entry.Entry.{Entry}
use Rattle.redirect_map.specs.Index.{entry_at}
use Rattle.redirect_map.specs.Kept.{seen, one_keeps, AreEntries, IsAt}
use Rattle.redirect_map.proofs.Seen.{covers_seen, newer_at, older_at}
use Rattle.redirect_map.proofs.Answering.{range_at, of_entry, live_there, homed_there, live_entry}

-- no other stands before it, or behind it
none_behind : (items : List Entry) (k : ℕ) (e : Entry) → length items ≡ 1 → slice_get items k ≡ Some e → drop (suc k) items ≡ []
none_behind [] k e one at = absurd (omega arith)
none_behind (x ∷ []) zero e one at = refl
none_behind (x ∷ []) (suc k) e one at = absurd (cc)
none_behind (x ∷ y ∷ ys) k e one at = absurd (omega arith)

none_before : (items : List Entry) (k : ℕ) (e : Entry) → length items ≡ 1 → slice_get items k ≡ Some e → take k items ≡ []
none_before [] k e one at = absurd (omega arith)
none_before (x ∷ []) zero e one at = refl
none_before (x ∷ []) (suc k) e one at = absurd (cc)
none_before (x ∷ y ∷ ys) k e one at = absurd (omega arith)

and_true : (t : Bool) → (t && true) ≡ t
and_true true = refl
and_true false = refl

pub live_only : (items : List Entry) (version k : ℕ) (e : Entry) → AreEntries items → IsAt items version k e → length items ≡ 1
    → IfSome (entry_at (map seen items) version) (λ d. IsMask d.listed.first (is_live (listed_in (map seen items)) d.listed) e.record.keep)
live_only items version k e es at one = of_entry items version k e (λ d. IsMask d.listed.first (is_live (listed_in (map seen items)) d.listed) e.record.keep) at
    (λ i. sym (live_there items version k e i es at
    ∙ ap (λ (xs : List Entry). has_bit e.record.keep i && not (one_keeps xs (e.record.lbn + i))) (none_behind items k e one at.at)
    ∙ and_true (has_bit e.record.keep i)))

pub going_only : (items : List Entry) (version k : ℕ) (e : Entry) → AreEntries items → IsAt items version k e → length items ≡ 1
    → IfSome (entry_at (map seen items) version) (λ d. IsMask d.listed.first (goes (listed_in (map seen items)) d.listed) e.homed)
going_only items version k e es at one = of_entry items version k e (λ d. IsMask d.listed.first (goes (listed_in (map seen items)) d.listed) e.homed) at (λ i. sym (bits i))
  where
    kept : (i : ℕ) (k h : Bool) → (h ≡ true → k ≡ true) → (k && (false || (h && not false))) ≡ h
    kept i true true all = refl
    kept i true false all = refl
    kept i false true all = all refl
    kept i false false all = refl

    bits : (i : ℕ) → goes (listed_in (map seen items)) (seen e).listed (e.record.lbn + i) ≡ has_bit e.homed i
    bits i = (λ j. (covers_seen e (e.record.lbn + i) (range_at items k e es at.at) ∙ in_mask-bit e.record.lbn e.record.keep i) j
        && ((newer_at items k e (e.record.lbn + i) es.rising es.ranges at.at ∙ ap (λ (xs : List Entry). one_keeps xs (e.record.lbn + i)) (none_behind items k e one at.at)) j
        || (homed_there items version k e i es at j
        && not ((older_at items k e (e.record.lbn + i) es.rising es.ranges at.at ∙ ap (λ (xs : List Entry). one_keeps xs (e.record.lbn + i)) (none_before items k e one at.at)) j))))
        ∙ kept i (has_bit e.record.keep i) (has_bit e.homed i) (λ on. (live_entry items k e es.live at.at i on).0)
