-- A read, answered or refused.
use Rattle.std.proofs.Common.{◌≡◌, ◌+◌, sym, ap, subst, ◌∙◌, Some, []}
use Rattle.std.specs.Prelude.{slice_range}
use Rattle.wol_model.specs.Blocks.{after}
use Rattle.wol_model.specs.History.{writes}
use Rattle.wol_promise.specs.Ruled.{entries_of}
use Rattle.manager.specs.Causes.{PartRose}
use Rattle.manager.specs.Stands.{nones_at}
use Rattle.manager.proofs.Frames.{stands_kept, none_passed}
use Rattle.manager.proofs.ReadKeeps.{stands_read, stands_broken}
use Rattle.volume_parts.proofs.PartReads.{never_some}
use Rattle.manager.proofs.ReadThrough.{rose_down, through_self, through_but_down}
use Rattle.manager.proofs.ReadStops.{stops_read, stops_down}
use Rattle.manager.proofs.manager.Manager.read.Goals as goal

pub read_runs-requires-clause-serves : goal.read_runs-requires-clause-serves
read_runs-requires-clause-serves g c = record { ready = c.requires.ready; at = c.requires.at; up = never_some c.args.self.now.down c.in_default.not-Some }

pub returns-in-Some-clause-stands : goal.returns-in-Some-clause-stands
returns-in-Some-clause-stands g c b notes n client note k =
    stands_kept g.D.Disk.tells g.D.Disk.state c.args.self.now b notes n [] note (none_passed (nones_at c.args.self.now.lanes.items b.lanes) notes n note.passed_is k.passed) k

pub returns-in-Some-clause-any_moment : goal.returns-in-Some-clause-any_moment
returns-in-Some-clause-any_moment g c told b notes k = stops_down g.D.Disk.tells g.D.Disk.state g.met.D.Disk.sound told c.args.self.now b notes k c.in-Some.part c.in-Some.is

pub returns-in-Some-clause-read : goal.returns-in-Some-clause-read
returns-in-Some-clause-read g c = through_self g.D.Disk.state g.met.D.Disk.sound c.args.self.now

pub returns-in-Ok-clause-read : goal.returns-in-Ok-clause-read
returns-in-Ok-clause-read g c = through_but_down g.D.Disk.state g.met.D.Disk.sound c.args.self.now c.read_runs.new.self c.read_runs.ensures.read

pub returns-in-Err-clause-read : goal.returns-in-Err-clause-read
returns-in-Err-clause-read g c = through_but_down g.D.Disk.state g.met.D.Disk.sound c.args.self.now c.read_runs.new.self c.read_runs.ensures.read

pub returns-in-Ok-clause-stands : goal.returns-in-Ok-clause-stands
returns-in-Ok-clause-stands g c b notes n client note k =
    stands_read g.D.Disk.tells g.D.Disk.state c.args.self.now c.read_runs.new.self b notes c.read_runs.ensures.read c.read_runs.ensures.ready (never_some c.args.self.now.down c.in_default.not-Some) k n c.args.lbn c.read_runs.new.out client note
    (λ told. c.in-Ok.ensures.content told b notes k ∙ ap (λ m. slice_range (after b.volume.began.array (writes (entries_of notes))) c.args.lbn (c.args.lbn + m)) (sym c.read_runs.auto.out))

pub returns-in-Ok-clause-any_moment : goal.returns-in-Ok-clause-any_moment
returns-in-Ok-clause-any_moment g c told b notes k = stops_read g.D.Disk.tells g.D.Disk.state g.met.D.Disk.sound told c.args.self.now b notes k c.read_runs.new.self c.read_runs.ensures.read c.read_runs.ensures.ready (never_some c.args.self.now.down c.in_default.not-Some)

pub returns-in-Err-clause-stands : goal.returns-in-Err-clause-stands
returns-in-Err-clause-stands g c b notes n client note k =
    stands_broken g.D.Disk.tells g.D.Disk.state c.args.self.now c.read_runs.new.self b notes c.read_runs.ensures.read c.read_runs.ensures.ready (never_some c.args.self.now.down c.in_default.not-Some) k c.in-Err.part c.in-Err.ensures.cause n note

pub returns-in-Err-clause-cause : goal.returns-in-Err-clause-cause
returns-in-Err-clause-cause g c p is =
    let same : c.in-Err.part ≡ p = cc in
    (ap Some same, rose_down g.D.Disk.state c.args.self.now c.read_runs.new.self (Some c.in-Err.part) p (subst (PartRose g.D.Disk.state c.args.self.now c.read_runs.new.self) same c.in-Err.ensures.cause))

pub returns-in-Err-clause-any_moment : goal.returns-in-Err-clause-any_moment
returns-in-Err-clause-any_moment g c told b notes k = stops_read g.D.Disk.tells g.D.Disk.state g.met.D.Disk.sound told c.args.self.now b notes k c.read_runs.new.self c.read_runs.ensures.read c.read_runs.ensures.ready (never_some c.args.self.now.down c.in_default.not-Some)
