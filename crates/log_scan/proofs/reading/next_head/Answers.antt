use Rattle.std.proofs.Common.{◌≡◌, ℕ, ◌≤◌, length, sym, ◌∙◌, ap, subst, arith}
use Rattle.wol_disk.specs.Disk.{only}
use Rattle.wol_disk.specs.RecordSound.{length-only}
use Rattle.wol_model.specs.Heads.{RecordHead}
use Rattle.wol_model.proofs.Spellings.{one_record_head}
use Rattle.spin_model.specs.Spun.{disk_of}
use Rattle.log_layout.specs.Values.{record_head}
use Rattle.log_scan.proofs.Blocks.{not_so}
use Rattle.log_scan.proofs.reading.next_head.Goals as goal
use Rattle.log_scan.proofs.reading.next_head.Goals.{else-head-owner-via-then-head-owner+else-head-blocks, else-head-owner-via-else-head-owner}

pub returns-else-head-owner-clause-damaged : goal.returns-else-head-owner-clause-damaged
returns-else-head-owner-clause-damaged g c bs block is e =
    let s = c.in-Ok.ensures.block bs is in
    let size : length bs ≡ c.args.blocks = sym (length-only bs) ∙ (g.met.D.Disk.sound (disk_of c.args.part.now)).each_block (only bs) is ∙ c.requires.size in (
      cc,
      record {
        block = c.in-Ok.block;
        rest = s.rest;
        here = s.here;
        no_gate = λ p. not_so c.is_gate.result _ c.is_gate.ensures c.if-is_gate.false p;
        no_head = λ h spelled own fits.
            let same : record_head c.in-Some.head ≡ h = one_record_head c.in-Ok.block (record_head c.in-Some.head) h c.in-Some.ensures.found spelled in
            let owner : c.in-Some.head.owner ≡ c.args.owner = ap (λ (k : RecordHead). k.owner) same ∙ own in
            let count : c.in-Some.head.count ≤ length s.rest = let P : ℕ → Type 0 = λ n. n ≤ length s.rest in subst P (sym (ap (λ (k : RecordHead). k.count) same)) fits in
            elim c.else-head-owner.branch [
              | else-head-owner-via-then-head-owner+else-head-blocks w ↦ omega (arith, s.size, size, count, w.if-head-blocks.false)
              | else-head-owner-via-else-head-owner w ↦ w.if-head-owner.false owner
            ];
      },
    )
