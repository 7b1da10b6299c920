-- A request more.
use Rattle.std.proofs.Common.{refl, sym, subst}
use Rattle.std.specs.Vec.{with_item}
use Rattle.whatif.specs.declared.waits.Told.{Told}
use Rattle.whatif.specs.declared.waits.Tallies.{Tallies}
use Rattle.whatif.specs.Waits.{AreTold, Waited, of_volume}
use Rattle.whatif.proofs.Counting.{few_more, tallied_more}
use Rattle.whatif.proofs.waits.Tallies.add.Goals as goal

pub returns-clause-few : goal.returns-clause-few
returns-clause-few c =
    let old = c.args.self.now in let volume = c.args.ask.now.volume in let t = c.add-2.new.self in
    let new : Tallies = record { all = c.add.new.self; each = with_item old.each volume t; logged = c.log_if.new.logged } in
    few_more _ c.args.asked old new volume t c.requires.few c.add.ensures.few refl c.add-2.ensures.few c.log_if.ensures.count c.log_if.ensures.disks

pub returns-clause-told : goal.returns-clause-told
returns-clause-told c = λ ws are.
    let old = c.args.self.now in let a = c.args.ask.now in let t = c.add-2.new.self in
    let new : Tallies = record { all = c.add.new.self; each = with_item old.each a.volume t; logged = c.log_if.new.logged } in
    let w : Waited = record { volume = a.volume; kind = a.kind; wait = c.args.wait; held = c.args.held.now } in
    tallied_more c.args.wake ws w old new _ t are c.requires.volume (c.add.ensures.told ws a.volume c.args.held.now are.all) refl
    (λ told. c.add-2.ensures.told (of_volume a.volume ws) a.volume c.args.held.now (subst (λ (x : Told). AreTold c.args.wake (of_volume a.volume ws) x) (sym c.index_mut.ensures.value) told)) c.log_if.ensures.told
