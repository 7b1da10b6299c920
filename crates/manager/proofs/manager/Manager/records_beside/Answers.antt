-- How many records lie in a segment.
use Rattle.std.proofs.Common.{◌≡◌, ◌<◌, None, Some, length, sym, ◌∙◌, arith}
use Rattle.std.proofs.lemmas.Option.{none-some}
use Rattle.manager.specs.declared.part.Part.{Part}
use Rattle.manager.proofs.DropCall.{IsFound, found_as, lane_in}
use Rattle.manager.proofs.FetchRec.{lane_within}
use Rattle.manager.proofs.RetireCall.{retirable, so_many}
use Rattle.manager.proofs.manager.Manager.records_beside.Given as given
use Rattle.manager.proofs.manager.Manager.records_beside.Goals.{In-Some}
use Rattle.manager.proofs.manager.Manager.records_beside.Goals as goal

found : (g : given.Over) (c : In-Some g) → IsFound g.D.Disk.state c.args.self.now c.args.version c.in-Some.record
found g c = found_as g.D.Disk.state c.args.self.now c.args.version c.in-Some.record c.requires.ready (λ p is. none-some p (sym c.requires.up ∙ is)) c.in-Some.ensures.index c.in-Some.ensures.value

pub index-requires : goal.index-requires
index-requires g c = let l = c.args.self.now.lanes.ok.0 in
    omega (arith, l, lane_within g.D.Disk.state c.args.self.now c.requires.ready (λ p is. none-some p (sym c.requires.up ∙ is)) c.args.version c.in-Some.record c.in-Some.ensures.index c.in-Some.ensures.value)

pub valid-requires : goal.valid-requires
valid-requires g c = let call = found g (goal.at.valid-requires g c).In-Some in retirable call (lane_in call c.index.result.now c.index.ensures)

pub returns : goal.returns
returns g c d is = let call = found g (goal.at.returns g c).In-Some in so_many call (lane_in call c.index.result.now c.index.ensures) c.valid.result c.valid.ensures d is
