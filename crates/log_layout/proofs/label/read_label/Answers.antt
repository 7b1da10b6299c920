use Rattle.std.proofs.Common.{◌≡◌, true, sym, ◌∙◌, ap, subst, arith}
use Rattle.std.proofs.lemmas.Slice.Eq.{bytes_eq-Decides}
use Rattle.wol_model.specs.Heads.{IsShape, label_block}
use Rattle.log_layout.specs.declared.label.Label.{Label}
use Rattle.log_layout.specs.Values.{shape_of}
use Rattle.log_layout.proofs.Decode.{label_of, spelled_label}
use Rattle.log_layout.proofs.label.read_label.Goals as goal

pub returns-then-not-is_in_range-clause-none : goal.returns-then-not-is_in_range-clause-none
returns-then-not-is_in_range-clause-none c id shape s =
    let same : c.fields-label.result ≡ label_of id shape = c.fields-label.ensures ∙ spelled_label c.args.b.now id shape s in
    let ranges : IsShape (shape_of c.fields-label.result) = subst (λ (v : Label). IsShape (shape_of v)) (sym same) s.in_range in
    let told = c.is_in_range.ensures.1 ranges in
    grind (arith, told)

pub returns-else-eq-clause-none : goal.returns-else-eq-clause-none
returns-else-eq-clause-none c id shape s =
    let same : c.fields-label.result ≡ label_of id shape = c.fields-label.ensures ∙ spelled_label c.args.b.now id shape s in
    let bytes : c.write_label.new.b ≡ c.args.b.now = c.write_label.ensures ∙ ap (λ (v : Label). label_block v.id (shape_of v)) same ∙ sym s.bytes in
    let yes : c.eq.result ≡ true = c.eq.ensures ∙ (bytes_eq-Decides c.write_label.new.b c.args.b.now).1 bytes in
    cc (yes, c.if-eq.false)
