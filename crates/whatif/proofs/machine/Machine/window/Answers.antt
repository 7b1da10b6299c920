-- A window is run.
use Rattle.std.proofs.Common.{◌≡◌, ◌+◌, ℕ, List, length, sym, ap, subst, ◌∙◌, arith}
use Rattle.std.specs.Vec.{with_items}
use Rattle.std.proofs.lemmas.List.{with_items_is}
use Rattle.whatif.specs.declared.disk.Disk.{Disk}
use Rattle.whatif.specs.declared.volume.Volume.{Volume}
use Rattle.whatif.specs.Policies.{machine_after}
use Rattle.whatif.specs.Stands.{AreReady, Stands}
use Rattle.whatif.specs.Waits.{AreFewIn}
use Rattle.whatif.proofs.Turning.{ready_later}
use Rattle.whatif.proofs.machine.Machine.window.Goals as goal

pub run-requires-clause-ready : goal.run-requires-clause-ready
run-requires-clause-ready c =
    let m = c.args.self.now in
    subst (λ (ds : List Disk). AreReady c.as_mut_slice.result.now ds m.asked c.args.at) (sym c.as_mut_slice-2.ensures.value)
    (subst (λ (vs : List Volume). AreReady vs m.disks.items m.asked c.args.at) (sym c.as_mut_slice.ensures.value) (ready_later m.volumes.items m.disks.items m.asked m.moment c.args.at c.requires.later c.requires.machine.ready))

pub run-requires-clause-tallies : goal.run-requires-clause-tallies
run-requires-clause-tallies c =
    let m = c.args.self.now in subst (λ (vs : List Volume). AreFewIn (length vs) m.asked m.tallies) (sym c.as_mut_slice.ensures.value) c.requires.machine.tallies

pub returns-clause-run : goal.returns-clause-run
returns-clause-run c = λ p c' from ws run.
    let m = c.args.self.now in let vs = c.run.new.volumes in let ds = c.run.new.disks in
    let volumes : (with_items m.volumes vs).items ≡ vs = with_items_is m.volumes vs (let a = c.run.auto.volumes in let b = c.as_mut_slice.ensures.len in omega (arith, a, b)) in
    let disks : (with_items m.disks ds).items ≡ ds = with_items_is m.disks ds (let a = c.run.auto.disks in let b = c.as_mut_slice-2.ensures.len in omega (arith, a, b)) in
    let was : Stands c.as_mut_slice.result.now c.as_mut_slice-2.result.now (machine_after p c' from ws) =
    subst (λ (l : List Disk). Stands c.as_mut_slice.result.now l (machine_after p c' from ws)) (sym c.as_mut_slice-2.ensures.value)
    (subst (λ (l : List Volume). Stands l m.disks.items (machine_after p c' from ws)) (sym c.as_mut_slice.ensures.value) run.stands) in
    let stands = c.in_ok-run.ensures.run p c' from ws run.rules was in record {
      rules = run.rules;
      powers = run.powers;
      tallies = c.in_ok-run.ensures.waits p c' from ws run.rules was run.tallies;
      stands = rw (volumes, disks) stands;
    }

pub returns-clause-machine : goal.returns-clause-machine
returns-clause-machine c =
    let m = c.args.self.now in let vs = c.run.new.volumes in let ds = c.run.new.disks in
    let volumes : (with_items m.volumes vs).items ≡ vs = with_items_is m.volumes vs (let a = c.run.auto.volumes in let b = c.as_mut_slice.ensures.len in omega (arith, a, b)) in
    let disks : (with_items m.disks ds).items ≡ ds = with_items_is m.disks ds (let a = c.run.auto.disks in let b = c.as_mut_slice-2.ensures.len in omega (arith, a, b)) in
    let same : length c.as_mut_slice.result.now ≡ length (with_items m.volumes vs).items = sym (ap length volumes ∙ c.run.auto.volumes) in record {
      few = (let a = ap length volumes in let b = c.run.auto.volumes in let d = c.as_mut_slice.ensures.value in let e = ap length d in let f = c.requires.machine.few in omega (arith, a, b, e, f));
      timeout = c.requires.machine.timeout;
      powers = c.requires.machine.powers;
      tallies = subst (λ (n : ℕ). AreFewIn n (m.asked + length c.args.asks.now) c.run.new.tallies) same c.in_ok-run.ensures.tallies;
      ready = rw (volumes, disks) c.in_ok-run.ensures.ready;
    }
