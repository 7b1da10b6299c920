use Rattle.std.proofs.Common.{◌≡◌, ◌+◌, ℕ, take, ◌∷◌, [], ◌++◌, length, sym, ap, ◌∙◌, arith}
use Rattle.std.specs.Prelude.{sum_by}
use Rattle.std.proofs.Math.Seq.{take-length}
use Rattle.std.proofs.lemmas.List.{take_more}
use Rattle.std.proofs.lemmas.List.Sums.{sum_by_push}
use Rattle.request_turns.proofs.Counting.{more_is, more_both, none_more}
use Rattle.window_desks.specs.declared.desk.Desk.{Desk}
use Rattle.request_workers.proofs.calls.reclaimed.Goals as goal

pub loop-desk-init : goal.loop-desk-init
loop-desk-init g c = none_more c.args.help.now.tally

pub loop-desk-preserved : goal.loop-desk-preserved
loop-desk-preserved g c =
    let i = c.loop-desk.desk-index in let ds = c.args.desks.now in let d = c.desk-item.result in
    let next : take (i + 1) ds ≡ take i ds ++ d ∷ [] = take_more ds i d c.loop-desk-test.true ∙ ap (λ (x : Desk g.row.D.Denot). take i ds ++ x ∷ []) (sym c.desk-item.is) in
    let blocks = λ (x : Desk g.row.D.Denot). x.tally.blocks in let records = λ (x : Desk g.row.D.Denot). x.tally.records in
    more_is _ _ _ _ c.args.help.now.tally c.add.new.self (sym (ap (sum_by blocks) next ∙ sum_by_push blocks (take i ds) d)) (sym (ap (sum_by records) next ∙ sum_by_push records (take i ds) d))
    (more_both _ _ _ _ c.args.help.now.tally c.loop-desk.tally c.add.new.self c.loop-desk.invariant c.add.ensures)

pub returns : goal.returns
returns g c =
    let ds = c.args.desks.now in
    let end : c.loop-desk.desk-index ≡ length ds = (let a = c.loop-desk.auto.desk-index-end in let b = c.loop-desk-test.false in omega arith) in
    let all : take c.loop-desk.desk-index ds ≡ ds = ap (λ (n : ℕ). take n ds) end ∙ take-length ds in
    let blocks = λ (x : Desk g.row.D.Denot). x.tally.blocks in let records = λ (x : Desk g.row.D.Denot). x.tally.records in
    more_is _ _ _ _ c.args.help.now.tally c.loop-desk.tally (ap (sum_by blocks) all) (ap (sum_by records) all) c.loop-desk.invariant
