use Rattle.std.proofs.Common.{◌+◌, refl, sym, subst}
use Rattle.redirect_map.specs.Index.{cover_at, entry_of}
use Rattle.index_tests.specs.Below.{AreBelow}
use Rattle.index_tests.proofs.Kept.{below_added}
use Rattle.index_tests.proofs.tests.steps.add_next.Goals as goal

pub returns : goal.returns
returns c = subst (AreBelow (c.args.record.version + 1)) (sym c.add.ensures.entries)
    (below_added c.args.record.version (cover_at (entry_of c.args.record 0)) (entry_of c.args.record 0) _ (subst (AreBelow c.args.record.version) (sym c.reserve.ensures.unchanged) c.requires.below) refl c.requires.lane)
