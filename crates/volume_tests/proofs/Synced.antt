-- What a scan says of the disk that it leaves.
use Rattle.std.proofs.Common.{◌≡◌, List, Option, None, Some, option_map, refl, sym, ◌∙◌, ap, subst}
use Rattle.std.proofs.lemmas.Option.{none-some, same_Some}
use Rattle.wol_disk.specs.Disk.{Block, Values, only, settled, reads}
use Rattle.wol_disk.proofs.Images.{reads_only}
use Rattle.log_scan.specs.declared.Scan.{Scan}
use Rattle.log_scan.specs.Scan.{IsScanOf}

pub still_scanned : (old new : Option (List (Values Block))) (s : Scan) → new ≡ option_map settled old → ((vs : List (Values Block)) → old ≡ Some vs → IsScanOf (reads vs) s)
    → (vs : List (Values Block)) → new ≡ Some vs → (vs ≡ only (reads vs)) × IsScanOf (reads vs) s
still_scanned None new s e scan vs is = absurd (none-some vs (sym e ∙ is))
still_scanned (Some ws) new s e scan vs is =
    let same : only (reads ws) ≡ vs = same_Some (only (reads ws)) vs (sym e ∙ is) in
    let read : reads ws ≡ reads vs = sym (reads_only (reads ws)) ∙ ap reads same in
    (sym same ∙ ap only read, subst (λ (l : List Block). IsScanOf l s) read (scan ws refl))
