-- A segment none of whose records keeps a block, and what becomes of it.
use Rattle.std.proofs.Common.{◌≡◌, inr, ℕ, zero, suc, Bool, true, false, not, cond, ◌||◌, eqb, List, [], ◌∷◌, Option, Some, MatchOption, refl, sym, ap, subst, ◌∙◌, arith}
use Rattle.std.specs.List.{AllByRecursion, list_any}
use Rattle.std.proofs.lemmas.Bool.{ne_eqb}
use Rattle.std.proofs.lemmas.List.Sums.{sum_by-cons}
use Rattle.wol_disk.specs.Disk.{State, Block, Values, LeavesOnly, IsImageOf, reads}
use Rattle.wol_disk.proofs.Images.{image_reads}
use Rattle.wol_disk.proofs.Moments.{widened}
use Rattle.wol_model.specs.Log.{Record, IsLog, IsIdle, end_of}
use Rattle.spin_model.specs.Spun.{state_of}
use Rattle.spin_model.specs.declared.spun.Spun.{Spun}
use Rattle.log_segment.specs.Kept.{IsKeptOrIdle}
use Rattle.log_segment.specs.Records.{count_valid}
use Rattle.log_segment.specs.Segment.{Holds, disk_of, part_of, owner_of}
use Rattle.log_segment.specs.declared.segment.Segment.{Segment}
use Rattle.log_scan.specs.Adopted.{count_kept}
use Rattle.log_scan.specs.Scan.{AreFound}
use Rattle.log_scan.specs.declared.Found.{Found}
use Rattle.log_scan.specs.declared.Scan.{Scan}
use Rattle.log_scan.proofs.Placed.{kept_are_valid}
use Rattle.manager_recovery.specs.Left.{IsLeftOf}
use Rattle.manager_recovery.specs.Scanned.{IsScanned, has_some, keeps_some}
use Rattle.manager_recovery.specs.declared.opening.OwnedPart.{OwnedPart}

-- ---- None of the records keeps a block

or_false : (a b : Bool) → (a || b) ≡ false → (a ≡ false) × (b ≡ false)
or_false true b none = let e : true ≡ false = none in absurd (cc)
or_false false b none = (refl, none)

pub none_kept : (fs : List Found) → list_any keeps_some fs ≡ false → count_kept fs ≡ 0
none_kept [] none = refl
none_kept (f ∷ fs) none =
    let w = or_false (keeps_some f) (list_any keeps_some fs) none in
    let rest = none_kept fs w.1 in
    let here : cond {A = ℕ} (keeps_some f) 1 0 ≡ 0 = ap (λ (t : Bool). cond t 1 0) w.0 in
    omega (arith, sum_by-cons (λ (x : Found). cond (not (eqb x.head.keep 0)) 1 0) f fs, here, rest)

counts_none : (m : ℕ) → cond {A = ℕ} (not (eqb m 0)) 1 0 ≡ 0 → m ≡ 0
counts_none zero none = refl
counts_none (suc m) none =
    let no : eqb (suc m) 0 ≡ false = ne_eqb (suc m) 0 (λ e. omega arith) in
    let same : 1 ≡ cond {A = ℕ} (not (eqb (suc m) 0)) 1 0 = ap (λ (t : Bool). cond {A = ℕ} (not t) 1 0) (sym no) in
    absurd (omega (arith, same, none))

pub all_nothing : (rs : List Record) → count_valid rs ≡ 0 → AllByRecursion (λ (r : Record). r.head.mask ≡ 0) rs
all_nothing [] none = tt
all_nothing (r ∷ rs) none =
    let q : Record → ℕ = λ x. cond (not (eqb x.head.mask 0)) 1 0 in
    let e = sum_by-cons q r rs in
    let here : q r ≡ 0 = omega (arith, e, none) in
    let rest : count_valid rs ≡ 0 = omega (arith, e, none) in
    (counts_none r.head.mask here, all_nothing rs rest)

-- ---- The log of a segment that was scanned

module _ {D : Type 0} (state : D → State) (id home : ℕ) (o : OwnedPart D) (s : Scan) (scanned : IsScanned state id home o s) where
  -- its records are those that were found
  pub log_of : (vs : List (Values Block)) → (state_of state o.part).values ≡ Some vs → (rs : List Record) × IsLog (reads vs) id rs × AreFound rs s.records.items × (s.end ≡ end_of rs)
  log_of vs is =
      let P : Option ℕ → Type 0 = λ w. MatchOption w (IsIdle (reads vs) × (s.records.items ≡ []) × (s.end ≡ 1)) (λ v. (rs : List Record) × IsLog (reads vs) v rs × AreFound rs s.records.items × (s.end ≡ end_of rs)) in
      let found : P (Some id) = subst P scanned.owner (scanned.scanned vs is).1 in
      found

  -- the images that a call leaves which frees it or fails to
  pub left_of : has_some s ≡ false → (seg : Segment D) → part_of seg ≡ o.part → owner_of seg ≡ id → ((vs : List (Values Block)) → (state_of state o.part).values ≡ Some vs → (rs : List Record) → IsLog (reads vs) (owner_of seg) rs → Holds state seg rs)
      → (new : State) → ((rs : List Record) → Holds state seg rs → LeavesOnly (disk_of state seg) new (IsKeptOrIdle (owner_of seg) rs))
      → (vs : List (Values Block)) → (state_of state o.part).values ≡ Some vs → LeavesOnly (state_of state o.part) new (IsLeftOf id (state_of state o.part).values)
  left_of bare seg part owner holds new leaves vs is =
      let w = log_of vs is in let rs = w.0 in
      let has : Holds state seg rs = holds vs is rs (subst (λ (i : ℕ). IsLog (reads vs) i rs) (sym owner) w.1) in
      let P : Spun D → Type 0 = λ p. LeavesOnly (state_of state p) new (IsKeptOrIdle (owner_of seg) rs) in
      let moved : LeavesOnly (state_of state o.part) new (IsKeptOrIdle (owner_of seg) rs) = subst P part (leaves rs has) in
      let image : IsImageOf (state_of state o.part).values (reads vs) = subst (λ (v : Option (List (Values Block))). IsImageOf v (reads vs)) (sym is) (image_reads vs) in
      let nothing : AllByRecursion (λ (r : Record). r.head.mask ≡ 0) rs = all_nothing rs (sym (kept_are_valid rs s.records.items w.2) ∙ none_kept s.records.items bare) in
      widened moved (λ c k. inr (reads vs, rs, image, record { log = w.1; nothing = nothing }, subst (λ (i : ℕ). IsKeptOrIdle i rs c) owner k))
