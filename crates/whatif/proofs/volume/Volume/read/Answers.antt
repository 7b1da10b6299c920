-- Blocks are read by runs that one disk has.
use Rattle.std.proofs.Common.{◌≡◌, ◌≤◌, ◌<◌, ◌+◌, ◌-◌, ℕ, List, length, map, refl, sym, ap, subst, ◌∙◌, max, arith}
use Rattle.std.specs.List.{range_with_len}
use Rattle.wol_model.specs.Blocks.{changed_at}
use Rattle.wol_model.specs.Index.{listed_in}
use Rattle.wol_model.specs.Journal.{SpindleState}
use Rattle.wol_promise.specs.Policy.{Look, woken}
use Rattle.wol_promise.proofs.Woken.{woken_more, woken_none}
use Rattle.whatif.specs.Disks.{AreDisks}
use Rattle.whatif.specs.Machine.{accessed, all_accessed, source_of}
use Rattle.whatif.specs.Volumes.{IsWithin, look_in, reach_in}
use Rattle.whatif.specs.Waits.{lag_among, wait_on}
use Rattle.whatif.proofs.Doing.{read_more, same_length, same_within, source_within}
use Rattle.whatif.proofs.Waiting.{late_more, run_read}
use Rattle.whatif.proofs.volume.Volume.read.Goals as goal

pub runs-init : goal.runs-init
runs-init c = record {
  few = omega arith;
  volume = c.requires.volume;
  reach = refl;
  store = refl;
  look = sym (woken_none (look_in c.args.self.now) c.args.lbn);
  within = c.requires.within;
  kept = c.requires.kept;
  moments = refl;
  used = λ t ss are. are;
  late = λ t ss are. refl;
}

pub access_at-requires-clause-within : goal.access_at-requires-clause-within
access_at-requires-clause-within c =
    let v = c.runs.self in let e = c.wake_source-disk.ensures in let first = c.args.lbn + c.from.result in let some = e.some in
    subst (λ (d : ℕ). d < length c.runs.disks) (sym (e.source first (omega arith) (omega (arith, some)))) (source_within (length c.runs.disks) (reach_in v) (listed_in v.index.entries) first c.runs.invariant.within)

pub lag_at-requires-clause-within : goal.lag_at-requires-clause-within
lag_at-requires-clause-within c =
    let v = c.runs.self in let e = c.wake_source-disk.ensures in let first = c.args.lbn + c.from.result in let some = e.some in
    let same = same_length c.runs.disks c.access_at.new.disks c.access_at.ensures.moments in
    subst (λ (n : ℕ). c.wake_source-disk.result.0 < n) same
    (subst (λ (d : ℕ). d < length c.runs.disks) (sym (e.source first (omega arith) (omega (arith, some)))) (source_within (length c.runs.disks) (reach_in v) (listed_in v.index.entries) first c.runs.invariant.within))

pub runs-preserved : goal.runs-preserved
runs-preserved c =
    let k = c.runs.invariant in let e = c.wake_source-disk.ensures in let was = c.runs.self in let start = c.args.self.now in let i = c.runs.done in let n = c.wake_source-disk.result.1 in let d = c.wake_source-disk.result.0 in
    let lbn = c.args.lbn in let ds = c.access_at.new.disks in let wake = c.args.spin_up in let w = c.max-wait.result in
    let some : 1 ≤ n = e.some in let from : c.from.result ≡ i = c.from.ensures in
    let f : ℕ → ℕ = source_of (reach_in start) (listed_in start.index.entries) in
    let listed : listed_in was.index.entries ≡ listed_in start.index.entries = ap (λ (l : Look). l.listed) k.look in
    let source : (b : ℕ) → lbn + i ≤ b → b < lbn + i + n → d ≡ f b = λ b le lt. e.source b (omega (arith, le, from)) (omega (arith, lt, from)) ∙ (λ j. source_of (k.reach j) (listed j) b) in
    let here : d ≡ f (lbn + i) = source (lbn + i) (omega arith) (omega (arith, some)) in
    let whole : i + 1 + (n - 1) ≡ i + n = omega (arith, some) in
    let read : (t : ℕ) (ss : List SpindleState) → AreDisks c.args.disks.now ss → AreDisks ds (all_accessed t (map f (range_with_len lbn (i + n))) ss) × (w ≡ wait_on t wake (map f (range_with_len lbn (i + n))) ss) = (λ t ss are.
    let before = all_accessed t (map f (range_with_len lbn i)) ss in
    let then : AreDisks ds (changed_at d (accessed t) before) = c.access_at.ensures.stands t before (k.used t ss are) in
    let used : AreDisks ds (all_accessed t (map f (range_with_len lbn (i + 1))) ss) = subst (AreDisks ds) (sym (read_more t f lbn i ss)) (subst (λ (x : ℕ). AreDisks ds (changed_at x (accessed t) before)) here then) in
    let late : w ≡ wait_on t wake (map f (range_with_len lbn (i + 1))) ss = c.max-wait.ensures
    ∙ (λ j. max (k.late t ss are j) (c.lag_at.ensures.value (changed_at d (accessed t) before) then j))
    ∙ (λ j. max (wait_on t wake (map f (range_with_len lbn i)) ss) (lag_among wake (changed_at (here j) (accessed t) before) (here j)))
    ∙ sym (late_more t wake f lbn i ss) in
    let high : (ts : List SpindleState) → AreDisks ds ts → lag_among wake ts d ≤ w = λ ts so. (let value = c.lag_at.ensures.value ts so in let is = c.max-wait.ensures in omega (arith, value, is)) in
    let all = run_read t wake w d ds (c.access_at.ensures.again t) high f lbn ss (i + 1) (n - 1) (λ b le lt. sym (source b (omega (arith, le)) (omega (arith, lt, some)))) used late in
    subst (λ (x : ℕ). AreDisks ds (all_accessed t (map f (range_with_len lbn x)) ss) × (w ≡ wait_on t wake (map f (range_with_len lbn x)) ss)) whole all) in record {
      few = (let most = e.most in let test = c.runs-test.true in omega (arith, most, test));
      volume = e.volume;
      reach = e.reach ∙ k.reach;
      store = e.store ∙ k.store;
      look = (rw c.from.ensures at e.look) ∙ ap (λ (l : Look). woken l (lbn + i) n) k.look ∙ woken_more (look_in start) lbn i n;
      within = same_within (length c.runs.disks) (length ds) (reach_in c.wake_source-disk.new.self) (same_length c.runs.disks ds c.access_at.ensures.moments) (subst (IsWithin (length c.runs.disks)) (sym e.reach) k.within);
      kept = c.access_at.ensures.kept;
      moments = c.access_at.ensures.moments ∙ k.moments;
      used = λ t ss are. (read t ss are).0;
      late = λ t ss are. (read t ss are).1;
    }
