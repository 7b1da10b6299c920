use Rattle.std.proofs.Common.{inr, refl}
use Rattle.std.proofs.lemmas.Result.{err_from_is_err_and}
use Rattle.rack.specs.Sessions.{IsClosed, IsOpened, OpensAndCloses}
use Rattle.rack.proofs.RacksAgain.{closable_again, rest_again}
use Rattle.rack.proofs.Since.{began_in, home_again, none_out_still, opens_and_closes, sound_since}
use Rattle.rack.proofs.FailedParts.{gained_parts}
use Rattle.inspection.specs.Lines.{PrintsVolumes}
use Rattle.inspection.proofs.Completing.{look_completes}
use Rattle.inspection.proofs.Opened.{can_look}
use Rattle.inspection.proofs.SameRacks.{again_same}
use Rattle.inspection.proofs.Whole.{inspected, nothing_told}
use Rattle.inspection.proofs.calls.inspect.Given as given
use Rattle.inspection.proofs.calls.inspect.Goals.{After-close_all}
use Rattle.inspection.proofs.calls.inspect.Goals as goal

-- the rack was opened, and stood so before the look
opened : (g : given.Over) (c : After-close_all g) → IsOpened g.B.Part.Disk.tells g.B.Part.Disk.state c.args.config.now (g.B.Bay.state c.args.bay.now) (g.B.Bay.state c.open_all.new.bay) c.in_ok-rack.rack
opened g c = let o = c.in_ok-rack.ensures in record { rack = o.rack; fresh = o.fresh; fresh_keepers = o.fresh_keepers; began = o.began; there = o.there; kept = o.kept; faulty = o.faulty; unfaulty = o.unfaulty }

-- it was looked at and closed
session : (g : given.Over) (c : After-close_all g) → OpensAndCloses g.B.Part.Disk.tells g.B.Part.Disk.state c.args.config.now
    (λ before after. PrintsVolumes g.B.Part.Disk.tells g.B.Part.Disk.state c.args.config.now c.args.asked before after c.print_volumes-answer.result (g.K.Sink.faults c.args.out.now) (g.K.Sink.faults c.print_volumes-answer.new.out) (g.K.Sink.taken c.args.out.now) (g.K.Sink.taken c.print_volumes-answer.new.out))
    (g.B.Bay.state c.args.bay.now) (g.B.Bay.state c.close_all.new.bay) c.close_all.result.items
session g c =
    let o = c.in_ok-rack.ensures in let e = c.close_all.ensures in let p = c.print_volumes-answer.ensures in
    let tells = g.B.Part.Disk.tells in let state = g.B.Part.Disk.state in let config = c.args.config.now in
    let old = g.B.Bay.state c.args.bay.now in let bay = g.B.Bay.state c.open_all.new.bay in let new = g.B.Bay.state c.close_all.new.bay in
    let closed : IsClosed tells state config bay new c.print_volumes-answer.new.rack c.close_all.result.items = record { count = e.count; each = e.spindles; stations = e.stations.0; pools = e.stations.1; parts = e.parts; lists = e.faulty } in
    opens_and_closes tells state config old bay new c.in_ok-rack.rack c.print_volumes-answer.new.rack (again_same _ _ p.same) (opened g c) o.counts e.counts e.kept o.refused
    (gained_parts state config c.print_volumes-answer.new.rack.rest bay.told new.told e.faulty)
    _ _ p closed o.failed o.complete e.cause e.left e.volumes e.unopened
    (e.run old (began_in tells state config old bay new c.in_ok-rack.rack c.print_volumes-answer.new.rack (again_same _ _ p.same) (opened g c) o.counts e.counts e.kept c.open_all.ensures.others))

pub returns-in_err-rack-clause-none_out : goal.returns-in_err-rack-clause-none_out
returns-in_err-rack-clause-none_out g c = none_out_still c.args.config.now (g.B.Bay.state c.args.bay.now) (g.B.Bay.state c.open_all.new.bay) c.in_err-rack.ensures.home c.requires.home

pub returns-in_err-rack-clause-content : goal.returns-in_err-rack-clause-content
returns-in_err-rack-clause-content g c =
    let p = err_from_is_err_and c.from_residual.result c.from_residual.ensures.1 in
    rw (p.1, p.2) (nothing_told _ _ _ _ _ _ _ _ _ refl c.in_err-rack.ensures.run)

pub returns-in_err-rack-clause-complete : goal.returns-in_err-rack-clause-complete
returns-in_err-rack-clause-complete g c =
    let p = err_from_is_err_and c.from_residual.result c.from_residual.ensures.1 in
    λ m. inr (rw (p.1, p.2) refl)

pub print_volumes-answer-requires-clause-rack : goal.print_volumes-answer-requires-clause-rack
print_volumes-answer-requires-clause-rack g c κs within = can_look _ _ (g.B.Bay.state c.open_all.new.bay) _ c.in_ok-rack.ensures.rack

pub close_all-requires-clause-rack : goal.close_all-requires-clause-rack
close_all-requires-clause-rack g c =
    closable_again g.B.Part.Disk.state c.args.config.now c.in_ok-rack.rack c.print_volumes-answer.new.rack (again_same _ _ c.print_volumes-answer.ensures.same) (g.B.Bay.state c.open_all.new.bay) c.in_ok-rack.ensures.rack

pub returns-clause-home : goal.returns-clause-home
returns-clause-home g c =
    home_again c.args.config.now (g.B.Bay.state c.args.bay.now) (g.B.Bay.state c.open_all.new.bay) (g.B.Bay.state c.close_all.new.bay) c.in_ok-rack.rack c.print_volumes-answer.new.rack
    (rest_again g.B.Part.Disk.state c.args.config.now c.in_ok-rack.rack c.print_volumes-answer.new.rack (again_same _ _ c.print_volumes-answer.ensures.same)) c.requires.home c.in_ok-rack.ensures.out c.close_all.ensures.home

pub returns-clause-none_out : goal.returns-clause-none_out
returns-clause-none_out g c = none_out_still c.args.config.now (g.B.Bay.state c.args.bay.now) (g.B.Bay.state c.close_all.new.bay) (returns-clause-home g c) c.requires.home

pub returns-clause-sound : goal.returns-clause-sound
returns-clause-sound g c =
    let o = c.in_ok-rack.ensures in let e = c.close_all.ensures in
    λ telling. sound_since g.B.Part.Disk.tells g.B.Part.Disk.state c.args.config.now (g.B.Bay.state c.args.bay.now) (g.B.Bay.state c.open_all.new.bay) (g.B.Bay.state c.close_all.new.bay) c.in_ok-rack.rack c.print_volumes-answer.new.rack
    (again_same _ _ c.print_volumes-answer.ensures.same) (opened g (goal.at.returns-clause-sound g c).After-close_all) o.counts e.counts e.kept telling (λ t began there. e.sound t telling began there)

pub returns-clause-content : goal.returns-clause-content
returns-clause-content g c = let s = session g (goal.at.returns-clause-content g c).After-close_all in inspected _ _ _ _ _ _ _ _ s _ _ _ _ _ s.done

pub returns-clause-later : goal.returns-clause-later
returns-clause-later g c = (session g (goal.at.returns-clause-later g c).After-close_all).done.later

pub returns-clause-complete : goal.returns-clause-complete
returns-clause-complete g c = let s = session g (goal.at.returns-clause-complete g c).After-close_all in look_completes _ _ _ _ _ _ _ _ s _ _ _ _ _ s.done
