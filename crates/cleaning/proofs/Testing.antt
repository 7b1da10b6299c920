-- Whether a manager can be cleaned.
use Rattle.std.proofs.Common.{◌≡◌, ⊎_elim, ◌<◌, ◌+◌, ◌-◌, ◌^◌, ℕ, zero, suc, Bool, true, false, ◌&&◌, List, [], ◌∷◌, length, map, Option, Some, refl, sym, ap, subst, ◌∙◌, arith, leb}
use Rattle.std.specs.Prelude.{IfSome, is_some, slice_get, slice_index_or}
use Rattle.std.specs.List.{AllByRecursion, range_with_len}
use Rattle.std.proofs.lemmas.Bool.{cases_lt, leb-true}
use Rattle.std.proofs.lemmas.Option.{same_Some}
use Rattle.wol_model.specs.Index.{Indexed, Listed, is_homed, listed_in}
use Rattle.wol_model.specs.Log.{has_bit}
use Rattle.wol_promise.proofs.Lists.{all_mapped, all_member, member_map, member_of}
use Rattle.block_cells.specs.Masks.{IsMask}
use Rattle.block_cells.specs.declared.record.Rec.{Rec}
use Rattle.block_cells.proofs.Bits.{has_bit-above}
use Rattle.redirect_map.specs.Index.{HasVersion, IsIndex, IsRecordOf, entry_at}
use Rattle.redirect_map.proofs.Versions.{entry_at-own}
use Rattle.manager.proofs.Entries.{same_mask}
use Rattle.log_cleaner.specs.Chunks.{NoneHomed}
use Rattle.inspection.proofs.Unhelped.{there_is}

-- what holds at each place of a list holds of each element
pub from_places : {X : Type 0} (P : X → Type 0) (xs : List X) → ((k : ℕ) (x : X) → slice_get xs k ≡ Some x → P x) → AllByRecursion P xs
from_places P [] each = tt
from_places P (x ∷ xs) each = (each zero x refl, from_places P xs (λ k y is. each (suc k) y is))

pub none_homed_in : (es : List Indexed) → ((k : ℕ) (e : Indexed) → slice_get es k ≡ Some e → (b : ℕ) → is_homed e.listed b ≡ false) → NoneHomed (listed_in es)
none_homed_in es each = all_mapped (λ (e : Listed). (b : ℕ) → is_homed e b ≡ false) (λ (e : Indexed). e.listed) es (from_places (λ (e : Indexed). (b : ℕ) → is_homed e.listed b ≡ false) es each)

-- what holds of those before a place and of the one there holds of those up to it
pub up_to : (es : List Indexed) (n : ℕ) → ((k : ℕ) (e : Indexed) → k < n → slice_get es k ≡ Some e → (b : ℕ) → is_homed e.listed b ≡ false) → ((e : Indexed) → slice_get es n ≡ Some e → (b : ℕ) → is_homed e.listed b ≡ false)
    → (k : ℕ) (e : Indexed) → k < n + 1 → slice_get es k ≡ Some e → (b : ℕ) → is_homed e.listed b ≡ false
up_to es n before here k e lt at = ⊎_elim (λ less. before k e less at) (λ more. here e (subst (λ (j : ℕ). slice_get es j ≡ Some e) (let same : k ≡ n = omega (arith, lt, more) in same) at)) (cases_lt k n)

module _ (es : List Indexed) (index : IsIndex es) (place : ℕ) (r : Rec) (within : place < length es) (of : IfSome (slice_get es place) (λ e. IsRecordOf e r)) where
  here : (x : Indexed) × (slice_get es place ≡ Some x)
  here = there_is es place within

  record_ : IsRecordOf here.0 r
  record_ = subst (λ (o : Option Indexed). IfSome o (λ x. IsRecordOf x r)) here.1 of

  known : entry_at es r.version ≡ Some here.0
  known = subst (λ (v : ℕ). entry_at es v ≡ Some here.0) (sym record_.version) (entry_at-own es place here.0 index.rising here.1)

  pub version_there : HasVersion es r.version
  version_there = ap is_some known

  module _ (mask : ℕ) (homed : IfSome (entry_at es r.version) (λ d. IsMask d.listed.first (is_homed d.listed) mask)) where
    bits : IsMask here.0.listed.first (is_homed here.0.listed) mask
    bits = subst (λ (o : Option Indexed). IfSome o (λ d. IsMask d.listed.first (is_homed d.listed) mask)) known homed

    -- no block is homed where the mask is empty
    pub none_here : mask ≡ 0 → (x : Indexed) → slice_get es place ≡ Some x → (b : ℕ) → is_homed x.listed b ≡ false
    none_here empty x at b = subst (λ (y : Indexed). is_homed y.listed b ≡ false) (same_Some here.0 x (sym here.1 ∙ at)) (by (leb here.0.listed.first b) refl)
      where
        by : (t : Bool) → leb here.0.listed.first b ≡ t → is_homed here.0.listed b ≡ false
        by true le =
            let l = leb-true here.0.listed.first b le in
            let whole : here.0.listed.first + (b - here.0.listed.first) ≡ b = omega (arith, l) in
            ap (is_homed here.0.listed) (sym whole) ∙ sym (bits (b - here.0.listed.first)) ∙ ap (λ (m : ℕ). has_bit m (b - here.0.listed.first)) empty
            ∙ has_bit-above 0 0 (b - here.0.listed.first) (omega arith) (omega arith)
        by false le = λ i. le i && slice_index_or here.0.listed.homed (b - here.0.listed.first) false

    -- and one is where it isn't
    pub some_here : mask < 2 ^ 128 → (mask ≡ 0 → ⊥) → NoneHomed (listed_in es) → ⊥
    some_here small some none = some (same_mask 128 mask 0 small (omega arith) (λ i. map (λ (k : ℕ). each k i) (range_with_len 0 128)))
      where
        each : (k : ℕ) → has_bit mask k ≡ has_bit 0 k
        each k =
            bits k
            ∙ all_member (λ (d : Listed). (b : ℕ) → is_homed d b ≡ false) (listed_in es) here.0.listed none (member_map (λ (d : Indexed). d.listed) es here.0 (member_of es here.0 place here.1)) (here.0.listed.first + k)
            ∙ sym (has_bit-above 0 0 k (omega arith) (omega arith))
