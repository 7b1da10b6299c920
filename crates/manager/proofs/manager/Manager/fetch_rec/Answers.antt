-- The record of a version is read, or can't be.
use Rattle.std.proofs.Common.{ℕ, Some, refl, sym, ap, subst, ◌∙◌}
use Rattle.manager.specs.Reclaim.{AreOf, HasFetched}
use Rattle.volume_parts.proofs.Entries.{found_of}
use Rattle.manager.proofs.HomeSince.{since_read}
use Rattle.manager.proofs.FetchRec.{same_record, same_entry, version_of, fetched_down}
use Rattle.manager.proofs.ReadKeeps.{keeps_read, stands_broken}
use Rattle.manager.proofs.ReadStops.{stops_read}
use Rattle.volume_parts.proofs.PartReads.{never_some}
use Rattle.manager.proofs.ReadThrough.{rose_down, through_then}
use Rattle.manager.proofs.manager.Manager.fetch_rec.Goals as goal

pub read_record-requires-clause-serves : goal.read_record-requires-clause-serves
read_record-requires-clause-serves g c = record { ready = c.requires.ready; at = c.requires.at; up = never_some c.args.self.now.down c.in_default.not-Some }

pub read_record-requires-clause-there : goal.read_record-requires-clause-there
read_record-requires-clause-there g c =
    let es = c.args.self.now.index.entries in let r = c.in-Some-find.record in let e = c.in-Some-find.ensures in
    same_record es c.args.version r e.index e.value

pub read_record-requires-clause-count : goal.read_record-requires-clause-count
read_record-requires-clause-count g c =
    let f = found_of c.args.self.now.index.entries c.args.version c.in-Some-find.record c.in-Some-find.ensures.value in
    c.requires.count f.entry f.is ∙ sym f.record_.count

pub returns-in-Ok-clause-fetched : goal.returns-in-Ok-clause-fetched
returns-in-Ok-clause-fetched g c e is =
    let f = found_of c.args.self.now.index.entries c.args.version c.in-Some-find.record c.in-Some-find.ensures.value in
    subst (λ (k : ℕ). HasFetched k c.args.self.now c.read_record.new.self) (f.record_.lane ∙ ap (λ x. x.listed.lane) (same_entry _ f.entry e f.is is)) c.read_record.ensures.fetched

pub returns-in-Ok-clause-content : goal.returns-in-Ok-clause-content
returns-in-Ok-clause-content g c b notes k =
    let es = c.args.self.now.index.entries in let r = c.in-Some-find.record in let e = c.in-Some-find.ensures in
    subst (λ (v : ℕ). AreOf g.D.Disk.tells es v c.read_record.new.out b notes) (version_of es c.args.version r e.index e.value) (c.in-Ok.ensures.content b notes k)

pub returns-in-Ok-clause-keeps : goal.returns-in-Ok-clause-keeps
returns-in-Ok-clause-keeps g c b notes _ k =
    keeps_read g.D.Disk.tells g.D.Disk.state c.args.self.now c.read_record.new.self b notes c.read_record.ensures.read c.read_record.ensures.ready (never_some c.args.self.now.down c.in_default.not-Some) k

pub returns-in-Ok-clause-any_moment : goal.returns-in-Ok-clause-any_moment
returns-in-Ok-clause-any_moment g c told was through b notes _ k =
    let m = c.args.self.now in let n = c.read_record.new.self in
    stops_read g.D.Disk.tells g.D.Disk.state g.met.D.Disk.sound told was b notes k n (through_then g.D.Disk.state g.met.D.Disk.sound was m n through c.read_record.ensures.read) c.read_record.ensures.ready
    (sym through.down ∙ never_some m.down c.in_default.not-Some)

pub returns-in-Err-clause-fault : goal.returns-in-Err-clause-fault
returns-in-Err-clause-fault g c =
    (never_some c.args.self.now.down c.in_default.not-Some, refl, rose_down g.D.Disk.state c.args.self.now c.read_record.new.self (Some c.in-Err.part) c.in-Err.part c.in-Err.ensures.cause)

pub returns-in-Err-clause-fetched : goal.returns-in-Err-clause-fetched
returns-in-Err-clause-fetched g c e is =
    let f = found_of c.args.self.now.index.entries c.args.version c.in-Some-find.record c.in-Some-find.ensures.value in
    subst (λ (k : ℕ). HasFetched k c.args.self.now (record c.read_record.new.self { down = Some c.in-Err.part })) (f.record_.lane ∙ ap (λ x. x.listed.lane) (same_entry _ f.entry e f.is is))
    (fetched_down c.args.self.now c.read_record.new.self c.in-Some-find.record.lane (Some c.in-Err.part) c.read_record.ensures.fetched)

pub returns-in-Err-clause-broke : goal.returns-in-Err-clause-broke
returns-in-Err-clause-broke g c b notes n _ note k =
    stands_broken g.D.Disk.tells g.D.Disk.state c.args.self.now c.read_record.new.self b notes c.read_record.ensures.read c.read_record.ensures.ready (never_some c.args.self.now.down c.in_default.not-Some) k c.in-Err.part c.in-Err.ensures.cause n note

pub returns-in-Err-clause-any_moment : goal.returns-in-Err-clause-any_moment
returns-in-Err-clause-any_moment g c told was through b notes _ k =
    let m = c.args.self.now in let n = c.read_record.new.self in
    stops_read g.D.Disk.tells g.D.Disk.state g.met.D.Disk.sound told was b notes k n (through_then g.D.Disk.state g.met.D.Disk.sound was m n through c.read_record.ensures.read) c.read_record.ensures.ready
    (sym through.down ∙ never_some m.down c.in_default.not-Some)

pub returns-in-Ok-clause-since : goal.returns-in-Ok-clause-since
returns-in-Ok-clause-since g c was b notes _ since =
    let r = c.read_record.ensures.read in
    since_read g.D.Disk.tells g.D.Disk.state g.met.D.Disk.sound was c.args.self.now b notes since _ r.index r.lanes r.home

pub returns-in-Err-clause-since : goal.returns-in-Err-clause-since
returns-in-Err-clause-since g c was b notes _ since =
    let r = c.read_record.ensures.read in
    since_read g.D.Disk.tells g.D.Disk.state g.met.D.Disk.sound was c.args.self.now b notes since _ r.index r.lanes r.home
