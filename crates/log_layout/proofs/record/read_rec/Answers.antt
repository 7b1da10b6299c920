use Rattle.std.proofs.Common.{◌≡◌, ◌≤◌, inl, inr, true, sym, ◌∙◌, ap, subst, arith}
use Rattle.std.proofs.lemmas.Slice.Eq.{bytes_eq-Decides}
use Rattle.wol_model.specs.Heads.{IsRecordHead, head_block}
use Rattle.log_layout.specs.declared.record.RecHead.{RecHead}
use Rattle.log_layout.specs.Values.{record_head}
use Rattle.log_layout.proofs.Decode.{head_of, spelled_record, count_within}
use Rattle.log_layout.proofs.record.read_rec.Goals as goal

pub returns-then-not-is_in_range-clause-none : goal.returns-then-not-is_in_range-clause-none
returns-then-not-is_in_range-clause-none c h s =
    let same : c.fields-head.result ≡ head_of h = c.fields-head.ensures ∙ spelled_record c.args.b.now h s in
    let ranges : IsRecordHead (record_head c.fields-head.result) = subst (λ (v : RecHead). IsRecordHead (record_head v)) (sym same) s.in_range in
    let told = c.is_in_range.ensures.1 ranges in
    grind (arith, told)

pub returns-else-eq-clause-none : goal.returns-else-eq-clause-none
returns-else-eq-clause-none c h s =
    let same : c.fields-head.result ≡ head_of h = c.fields-head.ensures ∙ spelled_record c.args.b.now h s in
    let bytes : c.write_rec.new.b ≡ c.args.b.now = c.write_rec.ensures ∙ ap (λ (v : RecHead). head_block (record_head v)) same ∙ sym s.bytes in
    let yes : c.eq.result ≡ true = c.eq.ensures ∙ (bytes_eq-Decides c.write_rec.new.b c.args.b.now).1 bytes in
    cc (yes, c.if-eq.false)

pub returns-then-count-eq0-clause-none : goal.returns-then-count-eq0-clause-none
returns-then-count-eq0-clause-none c h s =
    let (least, most) = count_within c.args.b.now h s in
    elim c.then-count-eq0.either [
      | inl none ↦ absurd (let n : 1 ≤ 0 = rw none at (rw (← c.u32_at-count.ensures) at least) in omega arith)
      | inr many ↦ absurd (omega (arith, many.1, most, c.u32_at-count.ensures))
    ]
