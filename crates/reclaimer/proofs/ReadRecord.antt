-- The record of a version, as it is read.
use Rattle.std.proofs.Common.{◌≡◌, ◌≤◌, ℕ, zero, suc, Bool, List, [], ◌∷◌, ◌++◌, length, take, Some, refl, sym, ap, subst, ◌∙◌, arith}
use Rattle.std.specs.Prelude.{IfSome, IsSomeAnd, IsTrue}
use Rattle.wol_disk.specs.Disk.{Block}
use Rattle.wol_model.specs.History.{writes}
use Rattle.wol_model.specs.Index.{Indexed, listed_in, is_due}
use Rattle.wol_promise.specs.Ruled.{Noted, entries_of}
use Rattle.wol_promise.specs.Stands.{IsDataOf}
use Rattle.block_cells.specs.Masks.{IsMask}
use Rattle.block_cells.specs.declared.record.Rec.{Rec}
use Rattle.redirect_map.specs.Index.{Contents, entry_at, IsAnswer, IsIndex, IsRecordOf}
use Rattle.manager.specs.Reclaim.{AreOf}
use Rattle.manager.specs.declared.base.ManagerBase.{ManagerBase}
use Rattle.manager.proofs.Entries.{found_of, some_of, entry_of_version, among, entry_in}
use Rattle.reclaimer.specs.Fetches.{IsFetchOf}
use Rattle.reclaimer.proofs.GiveUp.{some_and}

-- the first elements of two lists joined
pub front_of : {X : Type 0} (n : ℕ) (xs ys : List X) → length xs ≡ n → take n (xs ++ ys) ≡ xs
front_of {X} n xs ys is = ap (λ (k : ℕ). take k (xs ++ ys)) (sym is) ∙ whole xs
  where
    whole : (zs : List X) → take (length zs) (zs ++ ys) ≡ zs
    whole [] = refl
    whole (z ∷ zs) = λ i. z ∷ whole zs i

pub length_take : {X : Type 0} (n : ℕ) (xs : List X) → n ≤ length xs → length (take n xs) ≡ n
length_take zero xs le = refl
length_take (suc n) [] le = absurd (omega arith)
length_take (suc n) (x ∷ xs) le = ap suc (length_take n xs (omega arith))

-- the entry of a version, of which a record was answered
pub record OfVersion (es : List Indexed) (version : ℕ) (r : Rec) : Type 0 where
  pub entry : Indexed
  pub is : entry_at es version ≡ Some entry
  pub version_is : entry.listed.version ≡ version
  pub record_ : IsRecordOf entry r
  pub few : r.count ≤ 128

pub of_version : (es : List Indexed) (version : ℕ) (r : Rec) (index : Contents) → index.entries ≡ es → IsIndex index.entries → IsAnswer (entry_at index.entries version) (Some r) → OfVersion es version r
of_version es version r index same sound answer =
    let sound' = subst IsIndex same sound in
    let f = found_of es version r (subst (λ (l : List Indexed). IsAnswer (entry_at l version) (Some r)) same answer) in
    let a = entry_of_version es version f.entry sound'.rising f.is in
    let c = (entry_in es f.entry sound' (among a)).count in
    record { entry = f.entry; is = f.is; version_is = a.version_is; record_ = f.record_; few = let n = f.record_.count in omega arith }

module _ (es : List Indexed) (version : ℕ) (r : Rec) (o : OfVersion es version r) (out rest : List Block) (long : length out ≡ r.count) where
  pub fetch_of : (due : ℕ) (index : Contents) → index.entries ≡ es → IfSome (entry_at index.entries version) (λ e. IsMask e.listed.first (is_due (listed_in index.entries) e.listed) due)
      → IsSomeAnd (entry_at es version) (λ e. IsFetchOf (listed_in es) e (record { version = version; first = r.lbn; due = due; blocks = take r.count (out ++ rest) }) × (r.count ≡ length e.listed.keep))
  fetch_of due index same mask = some_and _ (entry_at es version) o.entry o.is (
    record {
      version = sym o.version_is;
      first = o.record_.first;
      count = ap length (front_of r.count out rest long) ∙ long ∙ o.record_.count;
      due = some_of (λ (e : Indexed). IsMask e.listed.first (is_due (listed_in es) e.listed) due) (entry_at es version) o.entry
          (subst (λ (l : List Indexed). IfSome (entry_at l version) (λ e. IsMask e.listed.first (is_due (listed_in l) e.listed) due)) same mask) o.is;
    },
    o.record_.count,
  )

  pub data_of : (tells : Bool) (b : ManagerBase) (notes : List Noted) → AreOf tells es version out b notes → IsTrue tells → IsDataOf b.volume.began (writes (entries_of notes)) version r.lbn (take r.count (out ++ rest))
  data_of tells b notes are told =
      let d = are told o.entry o.is in record {
        write = d.write;
        known = d.known;
        named = d.named;
        range = d.range ∙ sym o.record_.first;
        data_ = d.data_ ∙ sym (front_of r.count out rest long);
      }
