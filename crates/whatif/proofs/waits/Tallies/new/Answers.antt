-- No request yet.
use Rattle.std.proofs.Common.{rules}
use Rattle.whatif.proofs.Counting.{none_few, none_tallied}
use Rattle.whatif.proofs.waits.Tallies.new.Goals as goal

pub returns-clause-told : goal.returns-clause-told
returns-clause-told c = none_tallied c.args.volumes _ c.new-2.result (search rules) c.new.ensures.told c.new-2.ensures.told c.in_ok-new.ensures.told

pub returns-clause-few : goal.returns-clause-few
returns-clause-few c = none_few c.args.volumes _ c.new-2.result (search rules) c.new.ensures.few c.new-2.ensures.few c.in_ok-new.ensures.none c.in_ok-new.ensures.disks
