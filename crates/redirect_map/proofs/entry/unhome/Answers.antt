use Rattle.redirect_map.proofs.Without.{unhomed_none}
use Rattle.redirect_map.proofs.entry.unhome.Goals as goal

pub returns-then-not-homes-clause-zip : goal.returns-then-not-homes-clause-zip
returns-then-not-homes-clause-zip c = unhomed_none c.args.newer.now c.args.entries.now.items (c.requires.homes c.if-not-homes.true)
