-- One disk more had its moment.
use Rattle.std.proofs.Common.{None, ◌<◌, ◌≤◌, ◌++◌, ℕ, false, length, map, get_or, take, drop, refl, sym, subst, arith}
use Rattle.std.specs.Prelude.{slice_set}
use Rattle.std.specs.List.{AllByRecursion}
use Rattle.wol_model.specs.Journal.{SpindleState, Began, used}
use Rattle.whatif.specs.declared.disk.Disk.{Disk}
use Rattle.whatif.specs.Disks.{AreDisks, IsDisk, IsKept, moments_of}
use Rattle.whatif.proofs.Lists.{all_set, flags_all, map_set, one_more, zip_length}
use Rattle.whatif.proofs.Spinning.{got}
use Rattle.whatif.proofs.Sums.{moment_at}
use Rattle.whatif.proofs.Turning.{zip_step}
use Rattle.whatif.proofs.machine.begin_disks.Goals as goal

pub loop-place-preserved : goal.loop-place-preserved
loop-place-preserved c =
    let i = c.loop-place.invariant in let ds = c.loop-place.disks in let k = c.loop-place.place in let e = c.begin.new.self in
    let none : Disk = record { from = 0; moment = 0; awake = false; since = 0; wakes = 0; sleeps = 0; standby = 0; up_at = None } in
    let f = λ (s : SpindleState). used c.args.timeout s 0 (Began c.args.at) in
    let lt : k < length ds = (let a = c.loop-place-test.true in let b = c.loop-place.auto.disks in omega (arith, a, b)) in
    let old : (get_or ds k none).moment ≤ c.args.at = moment_at ds k c.args.at none lt i.moments in
    let new : e.moment ≤ c.args.at = (let m = c.begin.ensures.moment in omega (arith, m, old)) in record {
      kept = all_set IsKept ds k e i.kept c.begin.ensures.kept;
      moments = subst (AllByRecursion (λ t. t ≤ c.args.at)) (sym (map_set (λ (d : Disk). d.moment) ds k e)) (all_set (λ t. t ≤ c.args.at) (moments_of ds) k e.moment i.moments new);
      began = λ ss are. subst (λ (n : ℕ). AreDisks (slice_set ds k e) (map f (take n ss) ++ drop n ss)) (one_more k)
          (zip_step f ds ss k (get_or ds k none) e (i.began ss are) (got ds k none lt) (λ s is. c.begin.ensures.stands s is));
    }

pub returns-clause-began : goal.returns-clause-began
returns-clause-began c = λ ss are.
    let i = c.loop-place.invariant in
    let f = λ (s : SpindleState). used c.args.timeout s 0 (Began c.args.at) in
    let long = zip_length IsDisk c.args.disks.now ss are in
    subst (AreDisks c.loop-place.disks) (flags_all f ss ss c.loop-place.place refl (let past = c.loop-place-test.false in omega (arith, long, past))) (i.began ss are)
