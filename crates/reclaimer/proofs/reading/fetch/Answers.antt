-- The next record with due blocks is read, or there is none.
use Rattle.std.proofs.Common.{refl, ◌≡◌, ◌++◌, true, rules, length, take, drop, Option, Some, Result, Ok, sym, ap, arith, ◌∙◌}
use Rattle.manager.specs.Reclaim.{Always}
use Rattle.manager.specs.declared.part.StepFault.{StepFault}
use Rattle.manager.proofs.Calm.{none_home}
use Rattle.manager.proofs.ReadThrough.{never_some}
use Rattle.reclaimer.specs.Fetches.{FindsDue}
use Rattle.reclaimer.specs.Records.{FetchedRecord, record_of}
use Rattle.reclaimer.specs.Steps.{HasFetchedNext}
use Rattle.reclaimer.specs.declared.answers.Fetched.{Fetched}
use Rattle.reclaimer.specs.declared.room.Filled.{Filled}
use Rattle.reclaimer.proofs.Fetching.{DueNext, due_of, due_there, stays_empty, lent_back, fetched_look, next_fetched, finds_due, not_fetched, look_of_fault}
use Rattle.reclaimer.proofs.Moments.{within, at_rest, tried_within}
use Rattle.reclaimer.proofs.Reach.{within_own}
use Rattle.reclaimer.specs.declared.answers.Fetched.TheVariants as fetched
use Rattle.reclaimer.proofs.reading.fetch.Given as given
use Rattle.reclaimer.proofs.reading.fetch.Goals.{In-Ok, In-Some-due_next}
use Rattle.reclaimer.proofs.reading.fetch.Goals as goal

-- the record that is next
next : (g : given.Over) (c : In-Some-due_next g) → DueNext c.args.m.now c.in-Some-due_next.record
next g c =
    let up : c.args.m.now.home_up ≡ true = search rules in
    due_of c.args.m.now c.in-Some-due_next.record c.index.result.now c.ups.result.now up c.index.ensures c.ups.ensures c.in-Some-due_next.ensures.index c.in-Some-due_next.ensures.answer

-- it was read into the blocks that were lent
reads : (g : given.Over) (c : In-Ok g) → DueNext c.args.m.now c.in-Some-due_next.record → (
    let into : Option FetchedRecord = record_of (Some c.in-Ok.filled) (take c.into.inside.blocks.len (c.read_record.new.blocks ++ drop (length c.read_record.new.blocks) c.into.inside.blocks.items)) in
    let answer : Result Fetched StepFault = Ok (fetched.Some c.in-Ok.filled.version c.in-Ok.filled.count) in HasFetchedNext answer c.args.m.now c.read_record.new.m into × FindsDue answer c.read_record.new.m into
    )
reads g c d =
    let back = ap (λ bs. record_of (Some c.in-Ok.filled) bs) (lent_back c.into.inside.blocks.len c.read_record.new.blocks c.into.inside.blocks.items (let n = c.read_record.auto.blocks in let k = c.deref_mut.ensures.len in let l = c.into.inside.blocks.ok in omega arith)) in (
      next_fetched g.D.Disk.state c.args.m.now c.read_record.new.m c.in-Some-due_next.record d c.in-Ok.filled c.read_record.new.blocks _ back c.in-Ok.ensures.filled c.in-Ok.ensures.fetched,
      finds_due g.D.Disk.state c.args.m.now c.read_record.new.m c.in-Some-due_next.record d c.in-Ok.filled c.read_record.new.blocks _ back c.in-Ok.ensures.filled c.in-Ok.ensures.fetched,
    )

pub returns-in-Some-clause-any_moment : goal.returns-in-Some-clause-any_moment
returns-in-Some-clause-any_moment g c told = at_rest g.D.Disk.tells g.D.Disk.state g.met.D.Disk.sound Always told c.args.m.now

pub returns-then-not-home_up-clause-any_moment : goal.returns-then-not-home_up-clause-any_moment
returns-then-not-home_up-clause-any_moment g c told = at_rest g.D.Disk.tells g.D.Disk.state g.met.D.Disk.sound Always told c.args.m.now

pub due_next-requires : goal.due_next-requires
due_next-requires g c = within_own g.D.Disk.state c.args.m.now c.requires.ready (sym c.down.ensures ∙ never_some c.down.result c.in_default.not-Some) c.index.result.now c.index.ensures c.ups.result.now c.ups.ensures

pub returns-in_default-due_next-clause-any_moment : goal.returns-in_default-due_next-clause-any_moment
returns-in_default-due_next-clause-any_moment g c told = at_rest g.D.Disk.tells g.D.Disk.state g.met.D.Disk.sound Always told c.args.m.now

pub read_record-requires-clause-there : goal.read_record-requires-clause-there
read_record-requires-clause-there g c = due_there c.args.m.now c.in-Some-due_next.record (next g (goal.at.read_record-requires-clause-there g c).In-Some-due_next)

pub returns-in-Ok-clause-fetched : goal.returns-in-Ok-clause-fetched
returns-in-Ok-clause-fetched g c = let p = goal.at.returns-in-Ok-clause-fetched g c in (reads g p.In-Ok (next g p.In-Some-due_next)).0

pub returns-in-Ok-clause-due : goal.returns-in-Ok-clause-due
returns-in-Ok-clause-due g c = let p = goal.at.returns-in-Ok-clause-due g c in (reads g p.In-Ok (next g p.In-Some-due_next)).1

pub returns-in-Ok-clause-look : goal.returns-in-Ok-clause-look
returns-in-Ok-clause-look g c =
    let d = next g (goal.at.returns-in-Ok-clause-look g c).In-Some-due_next in
    fetched_look c.args.m.now c.read_record.new.m d.entry.listed.lane d.awake (c.in-Ok.ensures.fetched d.entry d.is) (c.in-Ok.ensures.fault.1 ∙ sym c.in-Ok.ensures.fault.0)

pub returns-in-Ok-clause-any_moment : goal.returns-in-Ok-clause-any_moment
returns-in-Ok-clause-any_moment g c told = within g.D.Disk.tells g.D.Disk.state g.met.D.Disk.sound Always c.args.m.now c.read_record.new.m (c.in-Ok.ensures.any_moment told)

pub returns-in-Err-clause-fetched : goal.returns-in-Err-clause-fetched
returns-in-Err-clause-fetched g c =
    not_fetched g.D.Disk.state c.args.m.now c.read_record.new.m c.in-Some-due_next.record (next g (goal.at.returns-in-Err-clause-fetched g c).In-Some-due_next) Filled c.in-Err.fault _ (stays_empty c.into.inside.filled c.into.inside.blocks.items _ (c.into.view_is ∙ c.clear.ensures)) c.in-Err.ensures.fault c.in-Err.ensures.fetched

pub returns-in-Err-clause-look : goal.returns-in-Err-clause-look
returns-in-Err-clause-look g c =
    look_of_fault g.D.Disk.state c.args.m.now c.read_record.new.m Filled c.in-Err.fault c.in-Err.ensures.fault

pub returns-in-Err-clause-any_moment : goal.returns-in-Err-clause-any_moment
returns-in-Err-clause-any_moment g c told =
    tried_within g.D.Disk.tells g.D.Disk.state g.met.D.Disk.sound Always Filled told c.args.m.now c.read_record.new.m c.in-Err.fault c.in-Err.ensures.fault c.in-Err.ensures.any_moment

pub returns-then-not-home_up-clause-calm : goal.returns-then-not-home_up-clause-calm
returns-then-not-home_up-clause-calm g c = none_home g.D.Disk.state c.args.m.now c.args.m.now c.requires.ready refl refl

pub returns-in_default-due_next-clause-calm : goal.returns-in_default-due_next-clause-calm
returns-in_default-due_next-clause-calm g c = none_home g.D.Disk.state c.args.m.now c.args.m.now c.requires.ready refl refl
