use Rattle.std.proofs.Common.{◌≡◌, ◌<◌, ◌≤◌, length, not, ◌&&◌, eqb}
use Rattle.std.specs.List.{AllByRecursion, filter, range_with_len}
use Rattle.whatif.specs.Policies.{allows}
use Rattle.whatif.proofs.views.others_of.Given as goal

abbrev pub invariant-loop-logger : goal.invariant-loop-logger
invariant-loop-logger l = record {
  loggers : l.loggers.items ≡ filter (λ w. not (eqb l.volume w) && allows l.policy l.volumes l.volume w) (range_with_len 0 l.logger);
  within : AllByRecursion (λ d. d < length l.volumes) l.loggers.items;
  few : length l.loggers.items ≤ l.logger;
}
