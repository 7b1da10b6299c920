-- One request more was served.
use Rattle.std.proofs.Common.{◌≡◌, ◌+◌, ℕ, List, [], ◌∷◌, length, map, get_or, take, sym, subst, arith}
use Rattle.std.proofs.lemmas.List.{take_all}
use Rattle.wol_model.specs.declared.trace.Kind.TheVariants as kind
use Rattle.whatif.specs.declared.policy.Ask.{Ask}
use Rattle.whatif.specs.Machine.{Turn, asking}
use Rattle.whatif.specs.Stands.{AreReady, HaveTurned, HaveWaited}
use Rattle.whatif.specs.Waits.{AreFewIn}
use Rattle.whatif.proofs.Lists.{got_at, same_default}
use Rattle.whatif.proofs.Turning.{asked_more, turned_more}
use Rattle.whatif.proofs.Waited.{none_waited, taken_more, waited_more}
use Rattle.whatif.proofs.machine.serve_all.Goals as goal

pub serve-requires-clause-tallies : goal.serve-requires-clause-tallies
serve-requires-clause-tallies c = subst (λ (n : ℕ). AreFewIn n (c.args.asked + c.loop-place.place) c.loop-place.tallies) (sym c.loop-place.auto.volumes) c.loop-place.invariant.tallies

pub loop-place-init : goal.loop-place-init
loop-place-init c = record {
  ready = subst (λ (n : ℕ). AreReady c.args.volumes.now c.args.disks.now n c.args.moment) (let sum : c.args.asked ≡ c.args.asked + 0 = omega arith in sum) c.requires.ready;
  tallies = subst (λ (n : ℕ). AreFewIn (length c.args.volumes.now) n c.args.tallies.now) (let sum : c.args.asked ≡ c.args.asked + 0 = omega arith in sum) c.requires.tallies;
  waited = none_waited c.args.wake c.args.volumes.now c.args.disks.now c.args.tallies.now;
  turned = λ t m stands. stands;
}

pub loop-place-preserved : goal.loop-place-preserved
loop-place-preserved c =
    let i = c.loop-place.invariant in let k = c.loop-place.place in let e = c.in_ok-serve.ensures in
    let none : Ask = record { volume = 0; kind = kind.Read; lbn = 0; count = 0 } in
    let a = get_or c.args.asks.now k none in
    let sum : c.args.asked + k + 1 ≡ c.args.asked + (k + 1) = omega arith in record {
      ready = subst (λ (n : ℕ). AreReady c.serve.new.volumes c.serve.new.disks n c.args.moment) sum e.ready;
      tallies = subst (λ (n : ℕ). AreFewIn (length c.args.volumes.now) n c.serve.new.tallies) sum (subst (λ (n : ℕ). AreFewIn n (c.args.asked + k + 1) c.serve.new.tallies) c.loop-place.auto.volumes e.tallies);
      waited = subst (λ (as_ : List Ask). HaveWaited c.args.wake as_ c.args.volumes.now c.args.disks.now c.args.tallies.now c.serve.new.tallies)
          (sym (taken_more c.args.asks.now k a (got_at c.args.asks.now k a c.loop-place-test.true (same_default c.args.asks.now k none a c.loop-place-test.true))))
          (waited_more c.args.wake (take k c.args.asks.now) (a ∷ []) c.args.volumes.now c.loop-place.volumes c.args.disks.now c.loop-place.disks c.args.tallies.now c.loop-place.tallies c.serve.new.tallies i.turned i.waited e.waits);
      turned = subst (λ (ts : List Turn). HaveTurned ts c.args.volumes.now c.args.disks.now c.serve.new.volumes c.serve.new.disks)
          (sym (asked_more c.args.asks.now k a (got_at c.args.asks.now k a c.loop-place-test.true (same_default c.args.asks.now k none a c.loop-place-test.true))))
          (turned_more (map asking (take k c.args.asks.now)) (asking a ∷ []) c.args.volumes.now c.loop-place.volumes c.serve.new.volumes c.args.disks.now c.loop-place.disks c.serve.new.disks i.turned e.turn);
    }

pub returns-clause-turns : goal.returns-clause-turns
returns-clause-turns c =
    subst (λ (l : List Ask). HaveTurned (map asking l) c.args.volumes.now c.args.disks.now c.loop-place.volumes c.loop-place.disks) (take_all c.loop-place.place c.args.asks.now c.loop-place-test.false) c.loop-place.invariant.turned

pub returns-clause-waits : goal.returns-clause-waits
returns-clause-waits c =
    subst (λ (l : List Ask). HaveWaited c.args.wake l c.args.volumes.now c.args.disks.now c.args.tallies.now c.loop-place.tallies) (take_all c.loop-place.place c.args.asks.now c.loop-place-test.false) c.loop-place.invariant.waited
