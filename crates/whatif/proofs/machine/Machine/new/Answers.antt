-- A machine before its first window.
use Rattle.std.proofs.Common.{◌≡◌, ◌≤◌, ℕ, List, length, replicate, refl, sym, ap, subst, ◌∙◌, arith, rules}
use Rattle.std.specs.List.{AllByRecursion}
use Rattle.whatif.specs.declared.disk.Disk.{Disk}
use Rattle.whatif.specs.Disks.{IsKept, moments_of}
use Rattle.whatif.specs.Stands.{IsAmong}
use Rattle.whatif.specs.Waits.{AreFewIn, AreTallied, Waited}
use Rattle.whatif.proofs.Waited.{no_waits}
use Rattle.whatif.proofs.New.{new_kept, new_moments, stands_first}
use Rattle.whatif.proofs.machine.Machine.new.Goals as goal

pub returns-clause-machine : goal.returns-clause-machine
returns-clause-machine c =
    let made = rw c.as_slice.ensures.value at c.in_ok-volumes.ensures.volumes in
    let n = length c.in_ok-volumes.volumes.items in
    let count : c.len-2.result ≡ n = (let a = c.len-2.ensures in let b = c.in_ok-volumes.volumes.ok.0 in omega (arith, a, b)) in
    let disks : c.in_ok-disks.disks.items ≡ replicate c.len.result c.new.result = search rules in
    let long : length c.in_ok-disks.disks.items ≡ n = (let a = c.in_ok-disks.ensures.len in let b = c.len.ensures in omega (arith, a, b)) in record {
      few = (let count = made.count in let few = c.requires.count.1 in omega (arith, count, few));
      timeout = c.requires.timeout.0;
      powers = c.requires.powers;
      tallies = subst (λ (n : ℕ). AreFewIn n 0 c.in_ok-tallies.tallies) count c.in_ok-tallies.ensures.few;
      ready = record {
        count = long;
        volumes = subst (λ (k : ℕ). AllByRecursion (IsAmong k 0) c.in_ok-volumes.volumes.items) (sym made.count ∙ sym long) made.all;
        kept = subst (AllByRecursion IsKept) (sym disks) (new_kept c.len.result c.new.result c.new.ensures.kept);
        moments = subst (λ (ds : List Disk). AllByRecursion (λ t. t ≤ c.args.from) (moments_of ds)) (sym disks) (new_moments c.len.result c.args.from c.new.result c.new.ensures.moment);
      };
    }

pub returns-clause-run : goal.returns-clause-run
returns-clause-run c =
    let made = rw c.as_slice.ensures.value at c.in_ok-volumes.ensures.volumes in
    let n = length c.in_ok-volumes.volumes.items in
    let count : c.len.result ≡ n = (let a = c.len.ensures in let b = c.in_ok-volumes.volumes.ok.0 in omega (arith, a, b)) in
    let disks : c.in_ok-disks.disks.items ≡ replicate c.len.result c.new.result = search rules in record {
      rules = record { timeout = refl; sleeps = c.goes_down.ensures; wake = refl };
      powers = refl;
      tallies = subst (λ (ws : List Waited). AreTallied c.args.config.now.wake ws c.in_ok-tallies.tallies) (sym (no_waits c.args.policy c.args.config.now c.args.from)) (c.in_ok-tallies.ensures.told c.args.config.now.wake);
      stands = stands_first c.args.policy c.args.config.now c.args.from c.in_ok-volumes.volumes.items c.in_ok-disks.disks.items c.new.result made.count made.made (disks ∙ ap (λ (k : ℕ). replicate k c.new.result) count) (c.new.ensures.stands c.args.config.now.timeout);
    }
