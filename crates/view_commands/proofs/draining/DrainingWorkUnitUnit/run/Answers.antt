use Rattle.std.proofs.Common.{Ok, refl, sym, ap, subst, ◌∙◌}
use Rattle.inspection.proofs.Opened.{can_look}
use Rattle.inspection.proofs.SameRacks.{again_same, rack_self}
use Rattle.rack.specs.NotOpened.{first_closed}
use Rattle.view_change.specs.declared.answers.Change.{Change}
use Rattle.view_commands.specs.Drains as drains
use Rattle.view_commands.specs.Drains.{TellsChange}
use Rattle.view_commands.proofs.DrainedRack.{has_station, never_some}
use Rattle.view_commands.proofs.draining.DrainingWorkUnitUnit.run.Goals as goal

pub returns-in-Some-clause-again : goal.returns-in-Some-clause-again
returns-in-Some-clause-again g c = again_same _ _ (rack_self _)

pub returns-in-Some-clause-did : goal.returns-in-Some-clause-did
returns-in-Some-clause-did g c = drains.closed c.in-Some.fault (ap (first_closed 0) (sym c.as_slice.ensures.value) ∙ sym c.first_closed.ensures ∙ c.in-Some.is) refl refl

pub drain_volume-requires-clause-rack : goal.drain_volume-requires-clause-rack
drain_volume-requires-clause-rack g c = can_look _ _ _ _ c.requires.rack.1

pub drain_volume-requires-clause-there : goal.drain_volume-requires-clause-there
drain_volume-requires-clause-there g c =
    has_station c.args.config.now c.args.rack.now (can_look _ _ _ _ c.requires.rack.1) (ap (first_closed 0) (sym c.as_slice.ensures.value) ∙ sym c.first_closed.ensures ∙ never_some c.first_closed.result c.in_default.not-Some) c.args.self.volume c.requires.ready

pub returns-in-Add-clause-again : goal.returns-in-Add-clause-again
returns-in-Add-clause-again g c = again_same _ _ (rack_self _)

pub returns-in-Add-clause-did : goal.returns-in-Add-clause-did
returns-in-Add-clause-did g c =
    drains.open_ (ap (first_closed 0) (sym c.as_slice.ensures.value) ∙ sym c.first_closed.ensures ∙ never_some c.first_closed.result c.in_default.not-Some) (rack_self _)
    (subst (λ (x : Change). TellsChange g.D.Disk.tells g.D.Disk.state x c.args.self.volume c.args.rack.now c.args.rack.now (Ok tt)) (sym c.in-Add.is) (refl, refl))

pub returns-in-Remove-clause-again : goal.returns-in-Remove-clause-again
returns-in-Remove-clause-again g c = again_same _ _ c.drain_volume.ensures.same

pub returns-in-Remove-clause-did : goal.returns-in-Remove-clause-did
returns-in-Remove-clause-did g c =
    drains.open_ (ap (first_closed 0) (sym c.as_slice.ensures.value) ∙ sym c.first_closed.ensures ∙ never_some c.first_closed.result c.in_default.not-Some) c.drain_volume.ensures.same
    (subst (λ (x : Change). TellsChange g.D.Disk.tells g.D.Disk.state x c.args.self.volume c.args.rack.now c.drain_volume.new.rack c.drain_volume.result) (sym c.in-Remove.is) c.drain_volume.ensures.drained)
