-- Heads and their positions, as they are found one after the other.
use Rattle.std.proofs.Common.{◌≡◌, ℕ, zero, suc, ◌+◌, cond, eqb, not, List, [], ◌∷◌, ◌++◌, length, take, Some, refl, sym, ◌∙◌, ap, arith, length-append}
use Rattle.std.specs.Prelude.{slice_get}
use Rattle.std.specs.List.{flat_map, AllByRecursion}
use Rattle.std.proofs.lemmas.Option.{none-some, same_Some}
use Rattle.std.proofs.lemmas.List.Sums.{sum_by-cons}
use Rattle.wol_model.specs.Heads.{RecordHead}
use Rattle.wol_model.specs.Log.{Record, written}
use Rattle.log_layout.specs.Values.{record_head}
use Rattle.log_segment.specs.Records.{count_valid}
use Rattle.log_scan.specs.declared.Found.{Found}
use Rattle.log_scan.specs.Scan.{AreFound}
use Rattle.log_scan.specs.Adopted.{count_kept}
use Rattle.log_scan.specs.Reading.{ArePlaced}

-- one more
pub placed_push : (at : ℕ) (rs : List Record) (r : Record) (fs : List Found) (f : Found) → ArePlaced at rs fs → f.pos ≡ at + length (flat_map written rs) → record_head f.head ≡ r.head → ArePlaced at (rs ++ r ∷ []) (fs ++ f ∷ [])
placed_push at [] r [] f p place head = (omega (arith, place), head, tt)
placed_push at [] r (g ∷ fs) f p place head = absurd p
placed_push at (q ∷ rs) r [] f p place head = absurd p
placed_push at (q ∷ rs) r (g ∷ fs) f p place head =
    (p.0, p.1, placed_push (at + 1 + length q.blocks) rs r fs f p.2 (omega (arith, place, length-append q.blocks (flat_map written rs))) head)

placed_all : (at : ℕ) (rs : List Record) (fs : List Found) → ArePlaced at rs fs → length fs ≡ length rs
placed_all at [] [] p = refl
placed_all at [] (f ∷ fs) p = absurd p
placed_all at (r ∷ rs) [] p = absurd p
placed_all at (r ∷ rs) (f ∷ fs) p = ap suc (placed_all (at + 1 + length r.blocks) rs fs p.2)

record IsThere (at : ℕ) (rs : List Record) (k : ℕ) (f : Found) : Type 0 where
  pub whose : Record
  pub there : slice_get rs k ≡ Some whose
  pub pos : f.pos ≡ at + length (flat_map written (take k rs))
  pub head : record_head f.head ≡ whose.head

placed_each : (at : ℕ) (rs : List Record) (fs : List Found) (k : ℕ) (f : Found) → ArePlaced at rs fs → slice_get fs k ≡ Some f → IsThere at rs k f
placed_each at [] [] zero f p is = absurd (none-some f is)
placed_each at [] [] (suc k) f p is = absurd (none-some f is)
placed_each at [] (g ∷ fs) k f p is = absurd p
placed_each at (r ∷ rs) [] k f p is = absurd p
placed_each at (r ∷ rs) (g ∷ fs) zero f p is =
    let same : g ≡ f = same_Some g f is in
    record { whose = r; there = refl; pos = ap (λ (x : Found). x.pos) (sym same) ∙ omega (arith, p.0); head = ap (λ (x : Found). record_head x.head) (sym same) ∙ p.1 }
placed_each at (r ∷ rs) (g ∷ fs) (suc k) f p is =
    let t = placed_each (at + 1 + length r.blocks) rs fs k f p.2 is in
    record { whose = t.whose; there = t.there; pos = omega (arith, t.pos, length-append r.blocks (flat_map written (take k rs))); head = t.head }

pub are_found : (rs : List Record) (fs : List Found) → ArePlaced 1 rs fs → AreFound rs fs
are_found rs fs p = record {
  each = λ k f is. let t = placed_each 1 rs fs k f p is in record { whose = t.whose; there = t.there; pos = t.pos; head = t.head };
  all = placed_all 1 rs fs p;
}

pub all_push : {X : Type 0} (P : X → Type 0) (xs : List X) (x : X) → AllByRecursion P xs → P x → AllByRecursion P (xs ++ x ∷ [])
all_push P [] x all is = (is, tt)
all_push P (y ∷ xs) x all is = (all.0, all_push P xs x all.1 is)

-- as many of the heads keep a block as of the records
same_counts : (rs : List Record) (fs : List Found) → ((k : ℕ) (f : Found) → slice_get fs k ≡ Some f → (r : Record) × (slice_get rs k ≡ Some r) × (record_head f.head ≡ r.head)) → length fs ≡ length rs → count_kept fs ≡ count_valid rs
same_counts [] [] each all = refl
same_counts [] (f ∷ fs) each all = absurd (omega (arith, all))
same_counts (r ∷ rs) [] each all = absurd (omega (arith, all))
same_counts (r ∷ rs) (f ∷ fs) each all =
    let first = each 0 f refl in
    let same : record_head f.head ≡ r.head = first.2 ∙ ap (λ (q : Record). q.head) (sym (same_Some r first.0 first.1)) in
    let p : Found → ℕ = λ x. cond (not (eqb x.head.keep 0)) 1 0 in
    let q : Record → ℕ = λ x. cond (not (eqb x.head.mask 0)) 1 0 in
    let one : p f ≡ q r = ap (λ (h : RecordHead). cond (not (eqb h.mask 0)) 1 0) same in
    omega (arith, one, sum_by-cons p f fs, sum_by-cons q r rs, same_counts rs fs (λ k g is. each (suc k) g is) (omega (arith, all)))

pub kept_are_valid : (rs : List Record) (fs : List Found) → AreFound rs fs → count_kept fs ≡ count_valid rs
kept_are_valid rs fs found = same_counts rs fs (λ k f is. let e = found.each k f is in (e.whose, e.there, e.head)) found.all
