use Rattle.rack.specs.Sessions.{IsClosed, IsOpened}
use Rattle.rack.proofs.RacksAgain.{closable_again, rest_again}
use Rattle.rack.proofs.FailedParts.{gained_parts}
use Rattle.rack.proofs.ImagesSent.{others_then}
use Rattle.rack.proofs.Since.{began_in, home_again, none_out_still, opens_and_closes, sound_since}
use Rattle.rack.proofs.opened.with_open.Given as given
use Rattle.rack.proofs.opened.with_open.Goals.{After-close_all-spindles}
use Rattle.rack.proofs.opened.with_open.Goals as goal

-- the rack was opened, and stood so before the work
opened : (g : given.Over) (c : After-close_all-spindles g) → IsOpened g.B.Part.Disk.tells g.B.Part.Disk.state c.args.config.now (g.B.Bay.state c.args.bay.now) (g.B.Bay.state c.open_all.new.bay) c.in_ok-rack.rack
opened g c = let o = c.in_ok-rack.ensures in record { rack = o.rack; fresh = o.fresh; fresh_keepers = o.fresh_keepers; began = o.began; there = o.there; kept = o.kept; faulty = o.faulty; unfaulty = o.unfaulty }

pub returns-in_err-rack-clause-none_out : goal.returns-in_err-rack-clause-none_out
returns-in_err-rack-clause-none_out g c = none_out_still c.args.config.now (g.B.Bay.state c.args.bay.now) (g.B.Bay.state c.open_all.new.bay) c.in_err-rack.ensures.home c.requires.home

pub run-answer-requires-clause-rack : goal.run-answer-requires-clause-rack
run-answer-requires-clause-rack g c = (g.B.Bay.state c.open_all.new.bay, c.in_ok-rack.ensures.rack)

pub close_all-spindles-requires-clause-rack : goal.close_all-spindles-requires-clause-rack
close_all-spindles-requires-clause-rack g c =
    closable_again g.B.Part.Disk.state c.args.config.now c.in_ok-rack.rack c.run-answer.new.rack c.run-answer.ensures.again (g.B.Bay.state c.open_all.new.bay) c.in_ok-rack.ensures.rack

pub returns-clause-home : goal.returns-clause-home
returns-clause-home g c =
    home_again c.args.config.now (g.B.Bay.state c.args.bay.now) (g.B.Bay.state c.open_all.new.bay) (g.B.Bay.state c.close_all-spindles.new.bay) c.in_ok-rack.rack c.run-answer.new.rack
    (rest_again g.B.Part.Disk.state c.args.config.now c.in_ok-rack.rack c.run-answer.new.rack c.run-answer.ensures.again) c.requires.home c.in_ok-rack.ensures.out c.close_all-spindles.ensures.home

pub returns-clause-none_out : goal.returns-clause-none_out
returns-clause-none_out g c = none_out_still c.args.config.now (g.B.Bay.state c.args.bay.now) (g.B.Bay.state c.close_all-spindles.new.bay) (returns-clause-home g c) c.requires.home

pub returns-clause-sound : goal.returns-clause-sound
returns-clause-sound g c =
    let o = c.in_ok-rack.ensures in let e = c.close_all-spindles.ensures in
    λ telling. sound_since g.B.Part.Disk.tells g.B.Part.Disk.state c.args.config.now (g.B.Bay.state c.args.bay.now) (g.B.Bay.state c.open_all.new.bay) (g.B.Bay.state c.close_all-spindles.new.bay) c.in_ok-rack.rack c.run-answer.new.rack c.run-answer.ensures.again
    (opened g (goal.at.returns-clause-sound g c).After-close_all-spindles) o.counts e.counts e.kept telling (λ t began there. e.sound t telling began there)

pub returns-clause-did : goal.returns-clause-did
returns-clause-did g c =
    let o = c.in_ok-rack.ensures in let e = c.close_all-spindles.ensures in
    let tells = g.B.Part.Disk.tells in let state = g.B.Part.Disk.state in let config = c.args.config.now in
    let old = g.B.Bay.state c.args.bay.now in let bay = g.B.Bay.state c.open_all.new.bay in let new = g.B.Bay.state c.close_all-spindles.new.bay in
    let closed : IsClosed tells state config bay new c.run-answer.new.rack c.close_all-spindles.result.items = record { count = e.count; each = e.spindles; stations = e.stations.0; pools = e.stations.1; parts = e.parts; lists = e.faulty } in
    opens_and_closes tells state config old bay new c.in_ok-rack.rack c.run-answer.new.rack c.run-answer.ensures.again (opened g (goal.at.returns-clause-did g c).After-close_all-spindles) o.counts e.counts e.kept o.refused
    (gained_parts state config c.run-answer.new.rack.rest bay.told new.told e.faulty)
    _ _ c.run-answer.ensures.did closed o.failed o.complete e.cause e.left e.volumes e.unopened
    (e.run old (began_in tells state config old bay new c.in_ok-rack.rack c.run-answer.new.rack c.run-answer.ensures.again (opened g (goal.at.returns-clause-did g c).After-close_all-spindles) o.counts e.counts e.kept c.open_all.ensures.others))

pub returns-clause-others : goal.returns-clause-others
returns-clause-others g c =
    others_then c.args.config.now (g.B.Bay.state c.args.bay.now).told (g.B.Bay.state c.open_all.new.bay).told (g.B.Bay.state c.close_all-spindles.new.bay).told c.open_all.ensures.others c.close_all-spindles.ensures.others
