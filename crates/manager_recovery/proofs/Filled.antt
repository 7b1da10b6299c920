-- Records of rising versions go into an index.
use Rattle.std.proofs.Common.{◌≡◌, ◌+◌, ◌<◌, ℕ, zero, suc, Bool, true, false, not, ◌&&◌, List, [], ◌∷◌, ◌++◌, take, map, Some, refl, sym, subst, ◌∙◌}
use Rattle.std.specs.Prelude.{slice_get}
use Rattle.std.specs.List.{AllByRecursion, range_with_len}
use Rattle.std.proofs.lemmas.Option.{same_Some, none-some}
use Rattle.std.proofs.lemmas.List.{map-append}
use Rattle.wol_model.specs.Extents.{Cover, remarked}
use Rattle.wol_model.specs.Index.{Indexed, AreRising}
use Rattle.wol_model.specs.Log.{has_bit, marks_of}
use Rattle.block_cells.proofs.Bits.{has_bit-zero}
use Rattle.block_cells.specs.declared.record.Rec.{Rec}
use Rattle.redirect_map.specs.Index.{entry_of, unhomed, cover_at}
use Rattle.manager_recovery.specs.Scanned.{entries_from}
use Rattle.manager_recovery.specs.declared.listing.FoundRecord.{FoundRecord}
use Rattle.manager_recovery.proofs.Lists.{take_snoc}

-- marks that are all false stay so
none_left : (first : ℕ) (places : List ℕ) (keep : ℕ → Bool) → remarked first (map (has_bit 0) places) (λ b m. m && keep b) ≡ map (has_bit 0) places
none_left first [] keep = refl
none_left first (p ∷ places) keep = λ i. at (has_bit 0 p) (has_bit-zero p) i ∷ none_left (first + 1) places keep i
  where
    at : (m : Bool) → m ≡ false → (m && keep first) ≡ m
    at true is = absurd (let bad : true ≡ false = is in cc)
    at false is = refl

-- an entry without homed blocks has none to lose
pub nothing_lost : (c : Cover) (r : Rec) → unhomed c (entry_of r 0) ≡ entry_of r 0
nothing_lost c r = λ i. record {
  listed = record { version = r.version; first = r.lbn; keep = marks_of r.count r.keep; lane = r.lane; homed = none_left r.lbn (range_with_len 0 r.count) (λ b. not (c.covers b)) i };
  index = r.segment;
  pos = r.pos;
}

none_lost : (c : Cover) (rs : List FoundRecord) → map (unhomed c) (entries_from rs) ≡ entries_from rs
none_lost c [] = refl
none_lost c (r ∷ rs) = λ i. nothing_lost c r.entry i ∷ none_lost c rs i

pub filled_more : (rs : List FoundRecord) (k : ℕ) (r : FoundRecord) (old new : List Indexed) → slice_get rs k ≡ Some r → old ≡ entries_from (take k rs)
    → new ≡ map (unhomed (cover_at (entry_of r.entry 0))) old ++ entry_of r.entry 0 ∷ [] → new ≡ entries_from (take (k + 1) rs)
filled_more rs k r old new is was added =
    added ∙ (λ i. map (unhomed (cover_at (entry_of r.entry 0))) (was i) ++ entry_of r.entry 0 ∷ [])
    ∙ (λ i. none_lost (cover_at (entry_of r.entry 0)) (take k rs) i ++ entry_of r.entry 0 ∷ [])
    ∙ sym (map-append (λ (q : FoundRecord). entry_of q.entry 0) (take k rs) (r ∷ []))
    ∙ (λ i. entries_from (sym (take_snoc rs k r is) i))

below_next : (rs : List FoundRecord) (k : ℕ) (r : FoundRecord) → slice_get rs k ≡ Some r → AreRising (map (λ (q : FoundRecord). q.entry.version) rs)
    → AllByRecursion (λ (e : Indexed). e.listed.version < r.entry.version) (entries_from (take k rs))
below_next [] k r is rising = absurd (none-some r is)
below_next (q ∷ rs) zero r is rising = tt
below_next (q ∷ rs) (suc k) r is rising = (later rs k is rising.0, below_next rs k r is rising.1)
  where
    later : (rs : List FoundRecord) (k : ℕ) → slice_get rs k ≡ Some r → AllByRecursion (λ w. q.entry.version < w) (map (λ (q : FoundRecord). q.entry.version) rs) → q.entry.version < r.entry.version
    later [] k is all = absurd (none-some r is)
    later (p ∷ rs) zero is all = subst (λ (x : FoundRecord). q.entry.version < x.entry.version) (same_Some p r is) all.0
    later (p ∷ rs) (suc k) is all = later rs k is all.1

pub newest_yet : (rs : List FoundRecord) (k : ℕ) (r : FoundRecord) (entries : List Indexed) → slice_get rs k ≡ Some r → AreRising (map (λ (q : FoundRecord). q.entry.version) rs)
    → entries ≡ entries_from (take k rs) → AllByRecursion (λ (e : Indexed). e.listed.version < r.entry.version) entries
newest_yet rs k r entries is rising same = subst (AllByRecursion (λ (e : Indexed). e.listed.version < r.entry.version)) (sym same) (below_next rs k r is rising)
