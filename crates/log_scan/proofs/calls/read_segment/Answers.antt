use Rattle.std.proofs.Common.{◌≡◌, ◌<◌, ◌^◌, List, [], ◌∷◌, drop, inl, inr, sym, ◌∙◌, ap, subst, refl, Err}
use Rattle.wol_disk.specs.Disk.{Block}
use Rattle.wol_model.specs.Heads.{IsSegmentHead, owned_block, segment_block}
use Rattle.log_layout.specs.declared.segment.SegHead.{SegHead}
use Rattle.log_layout.specs.Values.{segment_head}
use Rattle.log_scan.specs.declared.ScanFault.TheVariants.{Damaged}
use Rattle.log_scan.specs.Scan.{HasNoHead}
use Rattle.log_scan.specs.Reading.{IsReading}
use Rattle.log_scan.proofs.Walk.{fault_damaged, headless_damaged, stands_behind}
use Rattle.log_scan.proofs.calls.read_segment.Goals as goal

pub returns-in-None-clause-damaged : goal.returns-in-None-clause-damaged
returns-in-None-clause-damaged g c bs block is e =
    let s = c.in-Ok.ensures.block bs is in
    let none : HasNoHead bs = subst HasNoHead (sym s.here) c.in-None.ensures.none in
    let at : block ≡ 0 = cc in
    (headless_damaged bs none, inl (at, none))

pub returns-in-Err-read_records-clause-damaged : goal.returns-in-Err-read_records-clause-damaged
returns-in-Err-read_records-clause-damaged g c bs block is e =
    let f : c.in-Err-read_records.fault ≡ Damaged block = cc in
    let s = c.in-Ok.ensures.block bs is in
    let d = c.in-Err-read_records.ensures.damaged bs block (c.read_block.ensures.values ∙ is) in
    let seg = c.in-Some-Owned.ensures.found in
    let owner = c.in-Some-Owned.owner in
    let own : c.in-Ok.block ≡ owned_block owner = seg.bytes ∙ ap (λ (h : SegHead). segment_block (segment_head h)) c.in-Some-Owned.field-0-is in
    let whole : bs ≡ owned_block owner ∷ s.rest = s.here ∙ ap (λ (b : Block). b ∷ s.rest) own in
    let known : owner < 2 ^ 32 = subst (λ (h : SegHead). IsSegmentHead (segment_head h)) c.in-Some-Owned.field-0-is seg.in_range in
    let start : IsReading bs owner 1 [] = record { known = known; rs = []; joined = whole ∙ ap (λ (l : List Block). owned_block owner ∷ drop 1 l) (sym whole); place = refl; named = tt; placed = tt } in
    let r = d start (ap Err f) in
    (fault_damaged bs owner block r.1.0 r.1.1 r.0, inr (owner, r.1.1.rs, stands_behind bs owner block r.1.0 r.1.1, r.0))
