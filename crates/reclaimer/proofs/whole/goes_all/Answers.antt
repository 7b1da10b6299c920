-- A record keeps nothing that may not go.
use Rattle.std.proofs.Common.{arith}
use Rattle.std.proofs.lemmas.Bool.{eqb-true}
use Rattle.reclaimer.proofs.Fronts.{all_go_of}
use Rattle.reclaimer.proofs.whole.goes_all.Goals as goal

pub returns : goal.returns
returns c is = all_go_of c.args.index.now.entries c.args.record.now c.requires.index c.requires.there c.may_go.result (omega arith) c.may_go.ensures.value (eqb-true _ 0 is)
