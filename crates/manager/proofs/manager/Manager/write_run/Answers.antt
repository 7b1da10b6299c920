use Rattle.std.proofs.Common.{sym, subst, arith}
use Rattle.std.specs.Prelude.{Result}
use Rattle.manager.specs.Groups.{HasRun, TellsRun, ruled_run}
use Rattle.manager.specs.declared.part.Place.{Place}
use Rattle.manager.specs.declared.part.WriteRefusal.{WriteRefusal}
use Rattle.manager.proofs.manager.Manager.write_run.Goals as goal

pub told-requires : goal.told-requires
told-requires g c = let w = c.write_some.ensures.few in omega (arith, w)

pub returns-clause-run : goal.returns-clause-run
returns-clause-run g c =
    let m = c.args.self.now in let new = c.write_some.new.self in let ran = c.write_some.result in (
      ran.items,
      subst (λ (r : Result Place WriteRefusal). HasRun g.D.Disk.tells g.D.Disk.state c.args.items.now c.args.from.now ran.items r (ruled_run m new c.args.items.now c.args.from.now) m new) (sym c.told.ensures.place) c.write_some.ensures.run,
      c.told.ensures.count,
    )

pub returns-clause-told : goal.returns-clause-told
returns-clause-told g c =
    let w = c.write_some.ensures in
    subst (λ (r : Result Place WriteRefusal). TellsRun g.D.Disk.state c.args.items.now c.args.from.now r c.args.self.now c.write_some.new.self) (sym c.told.ensures.place) (record {
      placed = w.placed;
      answered = w.answered;
      waking_home = w.waking_home;
      waking_logs = w.waking_logs;
      down = w.down;
      versions = w.versions;
      memory = w.memory;
      fault = w.fault;
      calm = w.calm;
      unchanged = w.unchanged;
    })
