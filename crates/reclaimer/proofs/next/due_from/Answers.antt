-- The least version is that of the first entry.
use Rattle.std.proofs.Common.{◌&&◌, ◌∙◌, true, false, sym, slice_index_or}
use Rattle.std.specs.Prelude.{nat_le}
use Rattle.wol_model.specs.Index.{listed_in, has_due}
use Rattle.garbage_list.proofs.Nexts.{answer_of_first}
use Rattle.garbage_list.specs.Least.{can_go_home, from_on}
use Rattle.reclaimer.proofs.Empty.{none_of_none}
use Rattle.reclaimer.proofs.next.due_from.Goals as goal

pub returns-clause-answer : goal.returns-clause-answer
returns-clause-answer c =
    let es = c.args.index.now.entries in
    answer_of_first (λ d. nat_le c.args.from d.version && (slice_index_or c.args.lanes.now d.lane false && has_due (listed_in es) d)) es c.in_ok-version.version c.find.result c.find.ensures.index.rising (sym c.in_ok-version.ensures.value) c.find.ensures.value

pub returns-then-is_empty-clause-answer : goal.returns-then-is_empty-clause-answer
returns-then-is_empty-clause-answer c = none_of_none (from_on c.args.from (can_go_home c.args.lanes.now c.args.index.now.entries)) c.args.index.now.entries (sym c.is_empty.ensures ∙ c.if-is_empty.true)
