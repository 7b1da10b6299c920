-- Due blocks are put home.
use Rattle.std.proofs.Common.{◌≡◌, ◌+◌, ⊎_elim, ℕ, true, Some, refl, sym, ap, ◌∙◌, arith}
use Rattle.std.proofs.lemmas.Option.{same_Some}
use Rattle.spin_model.specs.Spun.{state_of}
use Rattle.wol_model.specs.Index.{Indexed, listed_in, is_live}
use Rattle.wol_model.specs.Log.{has_bit}
use Rattle.wol_model.proofs.Counts.{both, either}
use Rattle.wol_promise.proofs.Lists.{all_member}
use Rattle.block_cells.proofs.Bits.{has_bit-or}
use Rattle.redirect_map.specs.Index.{entry_at}
use Rattle.std.specs.Prelude.{IsTrue}
use Rattle.manager.specs.Reclaim.{put_block, AreOf, StopsSince}
use Rattle.manager.specs.Stands.{IsInVolume}
use Rattle.manager.specs.declared.part.Part.TheVariants.{Home}
use Rattle.manager.proofs.Calm.{none_home}
use Rattle.volume_parts.proofs.Entries.{some_of, found_of, entry_of_version, among, entry_in, noted_home}
use Rattle.manager.proofs.Frames.{ready_homed}
use Rattle.volume_parts.proofs.Accesses.{put_same, put_like}
use Rattle.volume_parts.proofs.PartReads.{never_some}
use Rattle.manager.proofs.StoreHome.{ready_put, put_keeps, put_fails, put_stops}
use Rattle.manager.proofs.manager.Manager.store_home.Given as given
use Rattle.manager.proofs.manager.Manager.store_home.Goals.{After-put_at}
use Rattle.manager.proofs.manager.Manager.store_home.Goals as goal

-- the call stopped at any moment
stops : (g : given.Over) (c : After-put_at g) → IsTrue g.D.Disk.tells
    → StopsSince g.D.Disk.tells g.D.Disk.state c.args.self.now (record c.args.self.now { home = c.put_at.new.part }) (AreOf g.D.Disk.tells c.args.self.now.index.entries c.args.version c.args.from.now)
stops g c told was read b notes known keeps =
    let m = c.args.self.now in let f = found_of m.index.entries c.args.version c.in-Some-find.record c.in-Some-find.ensures.value in
    let at = entry_of_version m.index.entries c.args.version f.entry c.in-Some-find.ensures.index.rising f.is in
    let put = put_same g.D.Disk.state m.home c.put_at.new.part (put_block c.in-Some-find.record.lbn c.args.mask c.args.from.now) (put_block f.entry.listed.first c.args.mask c.args.from.now)
    (ap (λ (n : ℕ). put_block n c.args.mask c.args.from.now) f.record_.first) c.put_at.ensures.put in
    put_stops g.D.Disk.tells g.D.Disk.state g.met.D.Disk.sound told was m read c.requires.ready (sym read.down ∙ never_some m.down c.in_default.not-Some) b notes keeps c.args.version c.args.mask c.args.from.now f.entry at
    (c.requires.count f.entry f.is) (c.requires.due f.entry f.is) (λ t. known t f.entry f.is) c.put_at.new.part put.any_moment

pub put_at-requires-clause-few : goal.put_at-requires-clause-few
put_at-requires-clause-few g c =
    let m = c.args.self.now in let f = found_of m.index.entries c.args.version c.in-Some-find.record c.in-Some-find.ensures.value in
    let e = entry_in m.index.entries f.entry c.in-Some-find.ensures.index (among (entry_of_version m.index.entries c.args.version f.entry c.in-Some-find.ensures.index.rising f.is)) in
    omega (arith, e.count, c.requires.count f.entry f.is)

pub put_at-requires-clause-fits : goal.put_at-requires-clause-fits
put_at-requires-clause-fits g c =
    let m = c.args.self.now in let f = found_of m.index.entries c.args.version c.in-Some-find.record c.in-Some-find.ensures.value in
    let lies = (all_member (IsInVolume (state_of g.D.Disk.state m.home).size) m.index.entries f.entry c.requires.ready.ranges
    (among (entry_of_version m.index.entries c.args.version f.entry c.in-Some-find.ensures.index.rising f.is))).lies in
    omega (arith, lies, f.record_.first, c.requires.count f.entry f.is)

pub set_homed-requires-clause-live : goal.set_homed-requires-clause-live
set_homed-requires-clause-live g c e is i set =
    let m = c.args.self.now in let homed = c.homed-homed.result in
    ⊎_elim
    (λ was. some_of (λ (d : Indexed). (j : ℕ) → has_bit homed j ≡ true → is_live (listed_in m.index.entries) d.listed (d.listed.first + j) ≡ true) (entry_at m.index.entries c.args.version) e c.homed-homed.ensures.live is i was)
    (λ now. (both (is_live (listed_in m.index.entries) e.listed (e.listed.first + i)) _ (c.requires.due e is i now)).0)
    (either (has_bit homed i) (has_bit c.args.mask i) (sym (has_bit-or homed c.args.mask i) ∙ set))

pub returns-in-Ok-clause-ready : goal.returns-in-Ok-clause-ready
returns-in-Ok-clause-ready g c =
    let m = c.args.self.now in let p = c.in-Ok.ensures in let f = found_of m.index.entries c.args.version c.in-Some-find.record c.in-Some-find.ensures.value in
    ready_put g.D.Disk.state m c.args.version c.args.mask c.put_at.new.part c.put_at.new.spindle true c.set_homed.new.self m.down p.put.volume p.put.size p.same p.free p.settled p.used
    (noted_home m.index.entries c.set_homed.new.self.entries c.args.version f.entry c.homed-homed.result c.args.mask c.in-Some-find.ensures.index f.is c.homed-homed.ensures.value c.set_homed.ensures.entries)
    c.requires.ready (never_some m.down c.in_default.not-Some)

pub returns-in-Ok-clause-stored : goal.returns-in-Ok-clause-stored
returns-in-Ok-clause-stored g c =
    let m = c.args.self.now in let p = c.in-Ok.ensures in let f = found_of m.index.entries c.args.version c.in-Some-find.record c.in-Some-find.ensures.value in
    record {
      rest = refl;
      used = p.used;
      home = λ e is. put_like g.D.Disk.state m.home c.put_at.new.part (put_block e.listed.first c.args.mask c.args.from.now) _ _ refl
          (put_same g.D.Disk.state m.home c.put_at.new.part (put_block c.in-Some-find.record.lbn c.args.mask c.args.from.now) (put_block e.listed.first c.args.mask c.args.from.now)
          (ap (λ (n : ℕ). put_block n c.args.mask c.args.from.now) (f.record_.first ∙ ap (λ (d : Indexed). d.listed.first) (same_Some f.entry e (sym f.is ∙ is)))) p.put);
      ok = noted_home m.index.entries c.set_homed.new.self.entries c.args.version f.entry c.homed-homed.result c.args.mask c.in-Some-find.ensures.index f.is c.homed-homed.ensures.value c.set_homed.ensures.entries;
      err = tt;
    }

pub returns-in-Ok-clause-keeps : goal.returns-in-Ok-clause-keeps
returns-in-Ok-clause-keeps g c b notes known keeps =
    let m = c.args.self.now in let p = c.in-Ok.ensures in let f = found_of m.index.entries c.args.version c.in-Some-find.record c.in-Some-find.ensures.value in
    let at = entry_of_version m.index.entries c.args.version f.entry c.in-Some-find.ensures.index.rising f.is in
    let put = put_same g.D.Disk.state m.home c.put_at.new.part (put_block c.in-Some-find.record.lbn c.args.mask c.args.from.now) (put_block f.entry.listed.first c.args.mask c.args.from.now)
    (ap (λ (n : ℕ). put_block n c.args.mask c.args.from.now) f.record_.first) p.put in
    put_keeps g.D.Disk.tells g.D.Disk.state m b notes keeps (never_some m.down c.in_default.not-Some) c.args.version c.args.mask c.args.from.now f.entry at (c.requires.count f.entry f.is) (c.requires.due f.entry f.is)
    (λ told. known told f.entry f.is) c.put_at.new.part c.put_at.new.spindle c.set_homed.new.self put.volume put.size p.same
    (noted_home m.index.entries c.set_homed.new.self.entries c.args.version f.entry c.homed-homed.result c.args.mask c.in-Some-find.ensures.index f.is c.homed-homed.ensures.value c.set_homed.ensures.entries)
    (λ told. put.ok) (returns-in-Ok-clause-ready g c)

pub returns-in-Ok-clause-any_moment : goal.returns-in-Ok-clause-any_moment
returns-in-Ok-clause-any_moment g c = stops g (goal.at.returns-in-Ok-clause-any_moment g c).After-put_at

pub returns-in-Err-clause-broke : goal.returns-in-Err-clause-broke
returns-in-Err-clause-broke g c b notes n known note keeps =
    let m = c.args.self.now in let p = c.in-Err.ensures in let f = found_of m.index.entries c.args.version c.in-Some-find.record c.in-Some-find.ensures.value in
    let at = entry_of_version m.index.entries c.args.version f.entry c.in-Some-find.ensures.index.rising f.is in
    let put = put_same g.D.Disk.state m.home c.put_at.new.part (put_block c.in-Some-find.record.lbn c.args.mask c.args.from.now) (put_block f.entry.listed.first c.args.mask c.args.from.now)
    (ap (λ (n : ℕ). put_block n c.args.mask c.args.from.now) f.record_.first) p.put in
    put_fails g.D.Disk.tells g.D.Disk.state m b notes keeps (never_some m.down c.in_default.not-Some) c.args.version c.args.mask c.args.from.now f.entry at (c.requires.count f.entry f.is) (c.requires.due f.entry f.is)
    (λ told. known told f.entry f.is) c.put_at.new.part c.put_at.new.spindle m.index put.volume put.size p.same n note put.images put.cause
    (ready_homed g.D.Disk.state m c.put_at.new.part c.put_at.new.spindle (Some (Home m.id)) put.volume put.size p.same p.free p.settled p.used (never_some m.down c.in_default.not-Some) c.requires.ready)

pub returns-in-Err-clause-any_moment : goal.returns-in-Err-clause-any_moment
returns-in-Err-clause-any_moment g c = stops g (goal.at.returns-in-Err-clause-any_moment g c).After-put_at

pub returns-in-Ok-clause-calm : goal.returns-in-Ok-clause-calm
returns-in-Ok-clause-calm g c = none_home g.D.Disk.state c.args.self.now _ c.requires.ready c.in-Ok.ensures.put.calm refl
