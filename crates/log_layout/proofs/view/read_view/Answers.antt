use Rattle.std.proofs.Common.{◌≡◌, true, take, sym, ap, subst, ◌∙◌, arith, length-set}
use Rattle.std.proofs.lemmas.Slice.Eq.{bytes_eq-Decides}
use Rattle.wol_model.specs.Heads.{IsViewList, view_block}
use Rattle.log_layout.proofs.ViewBlocks.{spelled_length, spelled_ids, one_more_id}
use Rattle.log_layout.proofs.view.read_view.Goals as goal

pub returns-then-count-gt-MOST-clause-none : goal.returns-then-count-gt-MOST-clause-none
returns-then-count-gt-MOST-clause-none c ids s = let n = spelled_length c.args.b.now ids s in omega (arith, s.in_range.few, n, c.u32_at-count.ensures)

pub loop-i-preserved : goal.loop-i-preserved
loop-i-preserved c = record {
  room = length-set c.loop-i.ids c.loop-i.i c.u32_at.result ∙ c.loop-i.invariant.room;
  read = one_more_id c.args.b.now c.loop-i.ids c.loop-i.i c.u32_at.result (omega arith) c.u32_at.ensures c.loop-i.invariant.read;
}

pub returns-in_default-clause-none : goal.returns-in_default-clause-none
returns-in_default-clause-none c ids s =
    let same : take c.u32_at-count.result c.loop-i.ids ≡ ids =
    spelled_ids c.args.b.now ids c.loop-i.ids c.u32_at-count.result s c.u32_at-count.ensures (omega arith) (λ k lower. c.loop-i.invariant.read k (omega arith)) in
    c.in_default.ensures (subst IsViewList (sym same) s.in_range)

pub returns-else-eq-clause-none : goal.returns-else-eq-clause-none
returns-else-eq-clause-none c ids s =
    let same : take c.u32_at-count.result c.loop-i.ids ≡ ids =
    spelled_ids c.args.b.now ids c.loop-i.ids c.u32_at-count.result s c.u32_at-count.ensures (omega arith) (λ k lower. c.loop-i.invariant.read k (omega arith)) in
    let seen : c.in-Some.view ≡ ids = c.in-Some.ensures.1 ∙ same in
    let bytes : c.write_view.new.b ≡ c.args.b.now = c.write_view.ensures ∙ ap view_block seen ∙ sym s.bytes in
    let yes : c.eq.result ≡ true = c.eq.ensures ∙ (bytes_eq-Decides c.write_view.new.b c.args.b.now).1 bytes in
    cc (yes, c.if-eq.false)
