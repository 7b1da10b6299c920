-- What a scan says of the part that it was made of.
use Rattle.std.proofs.Common.{◌≡◌, ℕ, List, [], Option, None, Some, MatchOption, refl, sym, ◌∙◌, ap, subst}
use Rattle.wol_disk.specs.Disk.{Block, Values, only, reads, IsImage, IsImageOf}
use Rattle.wol_disk.proofs.Images.{only_image}
use Rattle.wol_model.specs.Log.{Record, IsIdle, IsLog, end_of}
use Rattle.wol_model.proofs.Spellings.{one_log}
use Rattle.log_segment.specs.Records.{count_valid}
use Rattle.log_scan.specs.declared.Scan.{Scan}
use Rattle.log_scan.specs.Scan.{IsScanOf, AreFound}
use Rattle.log_scan.specs.Adopted.{count_kept}
use Rattle.log_scan.proofs.Placed.{kept_are_valid}

abbrev pub IsScanned : Option (List (Values Block)) → Scan → Type 0
IsScanned o s = (vs : List (Values Block)) → o ≡ Some vs → (vs ≡ only (reads vs)) × IsScanOf (reads vs) s

scanned_idle : (bs : List Block) (s : Scan) → s.owner ≡ None → IsScanOf bs s → IsIdle bs
scanned_idle bs s none scan =
    let P : Option ℕ → Type 0 = λ o. MatchOption o (IsIdle bs × (s.records.items ≡ []) × (s.end ≡ 1)) (λ owner. (rs : List Record) × IsLog bs owner rs × AreFound rs s.records.items × (s.end ≡ end_of rs)) in
    let idle : IsIdle bs × (s.records.items ≡ []) × (s.end ≡ 1) = subst P none scan in
    idle.0

-- a segment that a scan found free says so in each image
pub free_in_all : (o : Option (List (Values Block))) (s : Scan) → s.owner ≡ None → IsScanned o s → (c : List Block) → IsImageOf o c → IsIdle c
free_in_all None s none scanned c i = absurd i
free_in_all (Some vs) s none scanned c i =
    let w = scanned vs refl in
    let P : List (Values Block) → Type 0 = λ l. IsImage l c in
    let same : c ≡ reads vs = only_image (reads vs) c (subst P w.0 i) in
    subst IsIdle (sym same) (scanned_idle (reads vs) s none w.1)

pub record Agrees (s : Scan) (rs : List Record) : Type 0 where
  pub place : s.end ≡ end_of rs
  pub valid : count_kept s.records.items ≡ count_valid rs

-- the records of the log are those of the scan
pub scan_agrees : (bs : List Block) (s : Scan) (owner : ℕ) (rs : List Record) → s.owner ≡ Some owner → IsScanOf bs s → IsLog bs owner rs → Agrees s rs
scan_agrees bs s owner rs some scan log =
    let P : Option ℕ → Type 0 = λ o. MatchOption o (IsIdle bs × (s.records.items ≡ []) × (s.end ≡ 1)) (λ v. (qs : List Record) × IsLog bs v qs × AreFound qs s.records.items × (s.end ≡ end_of qs)) in
    let w : (qs : List Record) × IsLog bs owner qs × AreFound qs s.records.items × (s.end ≡ end_of qs) = subst P some scan in
    let same : w.0 ≡ rs = (one_log bs owner owner w.0 rs w.1 log).1 in
    record { place = w.3 ∙ ap end_of same; valid = kept_are_valid w.0 s.records.items w.2 ∙ ap count_valid same }
