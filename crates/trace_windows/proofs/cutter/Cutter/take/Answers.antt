use Rattle.std.proofs.Common.{refl, sym}
use Rattle.trace_gen.specs.Generated.{targets_of}
use Rattle.trace_windows.specs.Cutting.{Cutting, HasCut}
use Rattle.trace_windows.proofs.Taking.{takes_blank}
use Rattle.trace_windows.proofs.cutter.Cutter.take.Goals as goal
use Rattle.wol_config.specs.Configs.{most_of}

pub returns-in-None-clause-ok : goal.returns-in-None-clause-ok
returns-in-None-clause-ok c = λ ls given cut.
    let i = c.self.inside in
    let old : Cutting = record { tally = i.tally; current = i.current; whole = i.whole } in
    let before : HasCut (most_of c.args.config.now) (targets_of c.args.config.now) ls given old = rw (sym c.self.view_is) at cut in
    rw c.in-None.is (takes_blank (most_of c.args.config.now) (targets_of c.args.config.now) ls given old (record { tally = c.add_blank.new.self; current = i.current; whole = c.clear.new.self }) before refl c.clear.ensures c.add_blank.ensures)
