use Rattle.std.proofs.Common.{refl}
use Rattle.command_words.proofs.values.options_of.Goals as goal

pub returns-clause-some : goal.returns-clause-some
returns-clause-some c = record {
  workers = (c.in_ok-workers_of.ensures c.in_ok-workers_of.field-0).0 refl;
  reclaim = (c.in_ok-mode_of.ensures c.in_ok-mode_of.field-0).0 refl;
  each = c.is_given.ensures;
}
