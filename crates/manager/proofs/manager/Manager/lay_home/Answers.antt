-- Due blocks are laid home.
use Rattle.std.proofs.Common.{ℕ, Some, refl, sym, ap, ◌∙◌, arith}
use Rattle.std.proofs.lemmas.Option.{same_Some}
use Rattle.spin_model.specs.Spun.{state_of}
use Rattle.wol_model.specs.Index.{Indexed}
use Rattle.wol_promise.proofs.Lists.{all_member}
use Rattle.std.specs.Prelude.{IsTrue}
use Rattle.manager.specs.Reclaim.{put_block, AreOf, StopsSince}
use Rattle.manager.specs.Stands.{IsInVolume}
use Rattle.manager.specs.Stops.{HoldsOn, HoldsSince}
use Rattle.manager.specs.declared.part.Part.TheVariants.{Home}
use Rattle.manager.proofs.Calm.{none_home}
use Rattle.volume_parts.proofs.Entries.{found_of, entry_of_version, among, entry_in}
use Rattle.manager.proofs.Frames.{ready_homed}
use Rattle.volume_parts.proofs.Accesses.{laid_same, laid_like}
use Rattle.volume_parts.proofs.PartReads.{never_some}
use Rattle.manager.proofs.StoreHome.{put_fails, put_stops}
use Rattle.manager.proofs.HomeSince.{since_laid}
use Rattle.manager.proofs.LaidHome.{agree_due, laid_still, laid_there, lay_keeps}
use Rattle.manager.proofs.manager.Manager.lay_home.Given as given
use Rattle.manager.proofs.manager.Manager.lay_home.Goals.{After-lay_at}
use Rattle.manager.proofs.manager.Manager.lay_home.Goals as goal

-- the call stopped at any moment
stops : (g : given.Over) (c : After-lay_at g) → IsTrue g.D.Disk.tells
    → StopsSince g.D.Disk.tells g.D.Disk.state c.args.self.now (record c.args.self.now { home = c.lay_at.new.part }) (AreOf g.D.Disk.tells c.args.self.now.index.entries c.args.version c.args.from.now)
stops g c told was read b notes known keeps =
    let m = c.args.self.now in let f = found_of m.index.entries c.args.version c.in-Some-find.record c.in-Some-find.ensures.value in
    let at = entry_of_version m.index.entries c.args.version f.entry c.in-Some-find.ensures.index.rising f.is in
    let put = laid_same g.D.Disk.state m.home c.lay_at.new.part (put_block c.in-Some-find.record.lbn c.args.mask c.args.from.now) (put_block f.entry.listed.first c.args.mask c.args.from.now)
    (ap (λ (n : ℕ). put_block n c.args.mask c.args.from.now) f.record_.first) c.lay_at.ensures.laid in
    put_stops g.D.Disk.tells g.D.Disk.state g.met.D.Disk.sound told was m read c.requires.ready (sym read.down ∙ never_some m.down c.in_default.not-Some) b notes keeps c.args.version c.args.mask c.args.from.now f.entry at
    (c.requires.count f.entry f.is) (c.requires.due f.entry f.is) (λ t. known t f.entry f.is) c.lay_at.new.part put.any_moment

held_on : (g : given.Over) (c : After-lay_at g) → HoldsOn g.D.Disk.tells g.D.Disk.state c.args.self.now (record c.args.self.now { home = c.lay_at.new.part }) (AreOf g.D.Disk.tells c.args.self.now.index.entries c.args.version c.args.from.now)
held_on g c was b notes known before =
    let m = c.args.self.now in let f = found_of m.index.entries c.args.version c.in-Some-find.record c.in-Some-find.ensures.value in
    let at = entry_of_version m.index.entries c.args.version f.entry c.in-Some-find.ensures.index.rising f.is in
    let put = laid_same g.D.Disk.state m.home c.lay_at.new.part (put_block c.in-Some-find.record.lbn c.args.mask c.args.from.now) (put_block f.entry.listed.first c.args.mask c.args.from.now)
    (ap (λ (n : ℕ). put_block n c.args.mask c.args.from.now) f.record_.first) c.lay_at.ensures.laid in
    since_laid g.D.Disk.tells g.D.Disk.state g.met.D.Disk.sound was m b notes before c.args.version c.args.mask c.args.from.now f.entry at
    (c.requires.count f.entry f.is) (c.requires.due f.entry f.is) (λ t. known t f.entry f.is) c.lay_at.new.part put.any_moment

pub lay_at-requires-clause-few : goal.lay_at-requires-clause-few
lay_at-requires-clause-few g c =
    let m = c.args.self.now in let f = found_of m.index.entries c.args.version c.in-Some-find.record c.in-Some-find.ensures.value in
    let e = entry_in m.index.entries f.entry c.in-Some-find.ensures.index (among (entry_of_version m.index.entries c.args.version f.entry c.in-Some-find.ensures.index.rising f.is)) in
    omega (arith, e.count, c.requires.count f.entry f.is)

pub lay_at-requires-clause-fits : goal.lay_at-requires-clause-fits
lay_at-requires-clause-fits g c =
    let m = c.args.self.now in let f = found_of m.index.entries c.args.version c.in-Some-find.record c.in-Some-find.ensures.value in
    let lies = (all_member (IsInVolume (state_of g.D.Disk.state m.home).size) m.index.entries f.entry c.requires.ready.ranges
    (among (entry_of_version m.index.entries c.args.version f.entry c.in-Some-find.ensures.index.rising f.is))).lies in
    omega (arith, lies, f.record_.first, c.requires.count f.entry f.is)

pub returns-in-Ok-clause-ready : goal.returns-in-Ok-clause-ready
returns-in-Ok-clause-ready g c =
    let m = c.args.self.now in let p = c.in-Ok.ensures in
    ready_homed g.D.Disk.state m c.lay_at.new.part c.lay_at.new.spindle m.down p.laid.volume p.laid.size p.same p.free p.settled p.used (never_some m.down c.in_default.not-Some) c.requires.ready

pub returns-in-Ok-clause-laid : goal.returns-in-Ok-clause-laid
returns-in-Ok-clause-laid g c =
    let m = c.args.self.now in let p = c.in-Ok.ensures in let f = found_of m.index.entries c.args.version c.in-Some-find.record c.in-Some-find.ensures.value in
    record {
      rest = refl;
      used = p.used;
      home = λ e is. laid_like g.D.Disk.state m.home c.lay_at.new.part (put_block e.listed.first c.args.mask c.args.from.now) _ _ refl
          (laid_same g.D.Disk.state m.home c.lay_at.new.part (put_block c.in-Some-find.record.lbn c.args.mask c.args.from.now) (put_block e.listed.first c.args.mask c.args.from.now)
          (ap (λ (n : ℕ). put_block n c.args.mask c.args.from.now) (f.record_.first ∙ ap (λ (d : Indexed). d.listed.first) (same_Some f.entry e (sym f.is ∙ is)))) p.laid);
    }

pub returns-in-Ok-clause-keeps : goal.returns-in-Ok-clause-keeps
returns-in-Ok-clause-keeps g c b notes known keeps =
    let m = c.args.self.now in let p = c.in-Ok.ensures in let f = found_of m.index.entries c.args.version c.in-Some-find.record c.in-Some-find.ensures.value in
    let at = entry_of_version m.index.entries c.args.version f.entry c.in-Some-find.ensures.index.rising f.is in
    let laid = laid_same g.D.Disk.state m.home c.lay_at.new.part (put_block c.in-Some-find.record.lbn c.args.mask c.args.from.now) (put_block f.entry.listed.first c.args.mask c.args.from.now)
    (ap (λ (n : ℕ). put_block n c.args.mask c.args.from.now) f.record_.first) p.laid in
    lay_keeps g.D.Disk.tells g.D.Disk.state m b notes keeps (never_some m.down c.in_default.not-Some) c.args.version c.args.mask c.args.from.now f.entry at (c.requires.count f.entry f.is) (c.requires.due f.entry f.is)
    (λ told. known told f.entry f.is) c.lay_at.new.part c.lay_at.new.spindle laid.volume laid.size p.same laid.images (returns-in-Ok-clause-ready g c)

pub returns-in-Ok-clause-any_moment : goal.returns-in-Ok-clause-any_moment
returns-in-Ok-clause-any_moment g c = stops g (goal.at.returns-in-Ok-clause-any_moment g c).After-lay_at

pub returns-in-Err-clause-broke : goal.returns-in-Err-clause-broke
returns-in-Err-clause-broke g c b notes n known note keeps =
    let m = c.args.self.now in let p = c.in-Err.ensures in let f = found_of m.index.entries c.args.version c.in-Some-find.record c.in-Some-find.ensures.value in
    let at = entry_of_version m.index.entries c.args.version f.entry c.in-Some-find.ensures.index.rising f.is in
    let laid = laid_same g.D.Disk.state m.home c.lay_at.new.part (put_block c.in-Some-find.record.lbn c.args.mask c.args.from.now) (put_block f.entry.listed.first c.args.mask c.args.from.now)
    (ap (λ (n : ℕ). put_block n c.args.mask c.args.from.now) f.record_.first) p.laid in
    put_fails g.D.Disk.tells g.D.Disk.state m b notes keeps (never_some m.down c.in_default.not-Some) c.args.version c.args.mask c.args.from.now f.entry at (c.requires.count f.entry f.is) (c.requires.due f.entry f.is)
    (λ told. known told f.entry f.is) c.lay_at.new.part c.lay_at.new.spindle m.index laid.volume laid.size p.same n note laid.images laid.cause
    (ready_homed g.D.Disk.state m c.lay_at.new.part c.lay_at.new.spindle (Some (Home m.id)) laid.volume laid.size p.same p.free p.settled p.used (never_some m.down c.in_default.not-Some) c.requires.ready)

pub returns-in-Err-clause-any_moment : goal.returns-in-Err-clause-any_moment
returns-in-Err-clause-any_moment g c = stops g (goal.at.returns-in-Err-clause-any_moment g c).After-lay_at

pub returns-in-Ok-clause-calm : goal.returns-in-Ok-clause-calm
returns-in-Ok-clause-calm g c = none_home g.D.Disk.state c.args.self.now _ c.requires.ready c.in-Ok.ensures.laid.calm refl

pub returns-in-Ok-clause-there : goal.returns-in-Ok-clause-there
returns-in-Ok-clause-there g c b notes known told e is =
    let m = c.args.self.now in let p = c.in-Ok.ensures in let f = found_of m.index.entries c.args.version c.in-Some-find.record c.in-Some-find.ensures.value in
    let laid = laid_same g.D.Disk.state m.home c.lay_at.new.part (put_block c.in-Some-find.record.lbn c.args.mask c.args.from.now) (put_block e.listed.first c.args.mask c.args.from.now)
    (ap (λ (n : ℕ). put_block n c.args.mask c.args.from.now) (f.record_.first ∙ ap (λ (d : Indexed). d.listed.first) (same_Some f.entry e (sym f.is ∙ is)))) p.laid in
    (c.args.from.now, c.requires.count e is, known told e is, laid_there (state_of g.D.Disk.state m.home).values (state_of g.D.Disk.state c.lay_at.new.part).values (put_block e.listed.first c.args.mask c.args.from.now) laid.ok)

pub returns-in-Ok-clause-others : goal.returns-in-Ok-clause-others
returns-in-Ok-clause-others g c v w b notes due known keeps was told d is =
    let m = c.args.self.now in let p = c.in-Ok.ensures in let f = found_of m.index.entries c.args.version c.in-Some-find.record c.in-Some-find.ensures.value in
    let rising = c.in-Some-find.ensures.index.rising in
    let at = entry_of_version m.index.entries c.args.version f.entry rising f.is in
    let laid = laid_same g.D.Disk.state m.home c.lay_at.new.part (put_block c.in-Some-find.record.lbn c.args.mask c.args.from.now) (put_block f.entry.listed.first c.args.mask c.args.from.now)
    (ap (λ (n : ℕ). put_block n c.args.mask c.args.from.now) f.record_.first) p.laid in
    let has = was told d is in (
      has.0,
      has.1,
      has.2,
      laid_still (state_of g.D.Disk.state m.home).values (state_of g.D.Disk.state c.lay_at.new.part).values (put_block f.entry.listed.first c.args.mask c.args.from.now) (put_block d.listed.first w has.0)
          (agree_due g.D.Disk.tells g.D.Disk.state m b notes keeps (never_some m.down c.in_default.not-Some) told
          c.args.version c.args.mask c.args.from.now f.entry at (c.requires.count f.entry f.is) (c.requires.due f.entry f.is) (known told f.entry f.is)
          v w has.0 d (entry_of_version m.index.entries v d rising is) has.1 (due d is) has.2)
          laid.ok has.3,
    )

pub returns-in-Ok-clause-since : goal.returns-in-Ok-clause-since
returns-in-Ok-clause-since g c was b notes known before =
    let s = held_on g (goal.at.returns-in-Ok-clause-since g c).After-lay_at was b notes known before in
    record { up = s.up; index = s.index; lanes = s.lanes; home = s.home }

pub returns-in-Err-clause-since : goal.returns-in-Err-clause-since
returns-in-Err-clause-since g c was b notes known before =
    let s = held_on g (goal.at.returns-in-Err-clause-since g c).After-lay_at was b notes known before in
    record { up = s.up; index = s.index; lanes = s.lanes; home = s.home }
