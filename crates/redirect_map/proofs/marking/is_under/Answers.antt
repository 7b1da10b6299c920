use Rattle.std.proofs.Common.{arith}
use Rattle.std.proofs.lemmas.Bool.{eqb-true}
use Rattle.redirect_map.proofs.Marked.{under_from}
use Rattle.redirect_map.proofs.marking.is_under.Goals as goal

pub returns : goal.returns
returns c = λ is b on. under_from c.args.one.now.lbn c.args.one.now.keep c.args.newer.now.lbn c.args.newer.now.keep c.moved.result b (omega arith) c.moved.type_inv c.moved.ensures (eqb-true _ _ is) on
