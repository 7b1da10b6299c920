use Rattle.std.proofs.Common.{arith}
use Rattle.logger.proofs.Held.{within}
use Rattle.logger.proofs.Places.{index_there, found}
use Rattle.logger.proofs.lane.Lane.valid.Goals as goal

pub place_of_index-place-requires : goal.place_of_index-place-requires
place_of_index-place-requires g c = let s = c.requires in index_there c.deref.result.now c.args.self.now.held.items s.place c.args.segment s.segment c.deref.ensures.value s.there s.named

pub index-requires : goal.index-requires
index-requires g c = let at = c.place_of_index-place.ensures in omega (arith, within c.deref.result.now c.place_of_index-place.result at.segment at.there, c.deref.ensures.len)

pub returns : goal.returns
returns g c =
    let items = c.args.self.now.held.items in let p = c.place_of_index-place.result in
    let f = found c.deref.result.now items p c.args.segment c.index.result.now c.deref.ensures.value c.place_of_index-place.ensures c.index.ensures in record {
      place = p;
      segment = c.index.result.now;
      there = f.there;
      named = f.named;
      counted = c.valid.ensures;
    }
