use Rattle.std.proofs.Common.{Some, ap}
use Rattle.wol_bay.proofs.BayMoves.{lost}
use Rattle.wol_bay.proofs.ImagesApart.{left_apart}
use Rattle.wol_bay.proofs.memory.MemBay.remove.Goals as goal

pub returns-clause-gone : goal.returns-clause-gone
returns-clause-gone c = ap Some (lost c.args.name.now c.args.self.now.images.items c.take_by_name-removed.new.entries.items c.args.self.now.out.items c.args.self.now.faulty.items c.take_by_name-removed.ensures.entries)

pub invariant_of-self-clause-apart : goal.invariant_of-self-clause-apart
invariant_of-self-clause-apart c = left_apart c.args.name.now c.args.self.now.images.items c.take_by_name-removed.new.entries.items c.args.self.now.apart c.take_by_name-removed.ensures.entries
