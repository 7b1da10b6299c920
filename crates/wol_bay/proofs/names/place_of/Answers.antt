use Rattle.std.proofs.Common.{◌≡◌, ◌∙◌, sym, ap, true, false, Some, arith, rules}
use Rattle.std.specs.Str.{bytes_eq}
use Rattle.wol_bay.proofs.NameLists.{value_step, value_here, without_step, without_here, same_element}
use Rattle.wol_bay.proofs.names.place_of.Goals as goal

pub loop-i-preserved : goal.loop-i-preserved
loop-i-preserved g c =
    let other : bytes_eq (g.T.Entry.name_of c.index-entries-i.result) c.args.name.now ≡ false = search rules in
    record {
      value = c.loop-i.invariant.value ∙ value_step g.T.Entry.name_of c.args.name.now c.args.entries.now c.loop-i.i c.index-entries-i.result (omega arith) c.index-entries-i.is other;
      others = c.loop-i.invariant.others ∙ without_step g.T.Entry.name_of c.args.name.now c.args.entries.now c.loop-i.i c.index-entries-i.result (omega arith) c.index-entries-i.is other;
    }

pub returns-then-eq-clause-found : goal.returns-then-eq-clause-found
returns-then-eq-clause-found g c =
    let same : bytes_eq (g.T.Entry.name_of c.index-entries-i.result) c.args.name.now ≡ true = search rules in
    sym (c.loop-i.invariant.others ∙ without_here g.T.Entry.name_of c.args.name.now c.args.entries.now c.loop-i.i c.index-entries-i.result (omega arith) c.index-entries-i.is same)

pub returns-then-eq-clause-value : goal.returns-then-eq-clause-value
returns-then-eq-clause-value g c e is =
    let x = c.index-entries-i.result in
    let same : bytes_eq (g.T.Entry.name_of x) c.args.name.now ≡ true = search rules in
    c.loop-i.invariant.value ∙ value_here g.T.Entry.name_of c.args.name.now c.args.entries.now c.loop-i.i x (omega arith) c.index-entries-i.is same
    ∙ ap Some (same_element c.args.entries.now c.loop-i.i x e (omega arith) c.index-entries-i.is is)
