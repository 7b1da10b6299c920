-- A request was served, where there was memory for it.
use Rattle.std.proofs.Common.{◌≡◌, ◌≤◌, ◌+◌, ℕ, List, [], ◌∷◌, Ok, Err, Result, ap, arith}
use Rattle.std.specs.Prelude.{OnOk, slice_get, slice_set, Some}
use Rattle.std.specs.List.{AllByRecursion}
use Rattle.wol_disk.specs.declared.disk.NoMemory.{NoMemory}
use Rattle.wol_promise.specs.Policy.{Look}
use Rattle.whatif.specs.declared.policy.Ask.{Ask}
use Rattle.whatif.specs.declared.disk.Disk.{Disk}
use Rattle.whatif.specs.declared.volume.Volume.{Volume}
use Rattle.whatif.specs.Disks.{IsKept, moments_of}
use Rattle.whatif.specs.Machine.{answering, asking}
use Rattle.whatif.specs.Stands.{AreReady, HaveTurned, IsAmong}
use Rattle.whatif.specs.Volumes.{HasDone, IsVolume, look_in, reach_in}
use Rattle.whatif.proofs.Lists.{all_at}
use Rattle.whatif.proofs.Turning.{ready_turn, stands_turn}
use Rattle.whatif.proofs.Written.{asked_next}

-- what was asked is counted
next_asked : (vs : List Volume) (ds es : List Disk) (asked moment : ℕ) (a : Ask) (v w : Volume) → AreReady vs ds asked moment → slice_get vs a.volume ≡ Some v → HasDone (answering a.kind a.lbn a.count) v w ds es → w.next ≤ (asked + 1) + 1
next_asked vs ds es asked moment a v w ready at done =
    let was = (all_at (IsAmong _ asked) vs a.volume v ready.volumes at).next in
    let is = ap (λ (l : Look). l.next) done.look in
    let more = asked_next a.kind a.lbn a.count (reach_in v) (look_in v) in
    omega (arith, was, is, more)

pub served_ready : (r : Result (Unit {0}) NoMemory) (vs : List Volume) (ds es : List Disk) (asked moment : ℕ) (a : Ask) (v w : Volume) → AreReady vs ds asked moment → slice_get vs a.volume ≡ Some v → OnOk r (IsVolume w) → OnOk r (AllByRecursion IsKept es)
    → OnOk r (moments_of es ≡ moments_of ds) → OnOk r (HasDone (answering a.kind a.lbn a.count) v w ds es) → OnOk r (AreReady (slice_set vs a.volume w) es (asked + 1) moment)
served_ready (Ok x) vs ds es asked moment a v w ready at volume kept moments done =
    ready_turn vs ds es asked (asked + 1) moment a.volume v w ready at volume done.reach (next_asked vs ds es asked moment a v w ready at done) (omega arith) kept moments
served_ready (Err e) vs ds es asked moment a v w ready at volume kept moments done = tt

pub served_turn : (r : Result (Unit {0}) NoMemory) (vs : List Volume) (ds es : List Disk) (a : Ask) (v w : Volume) → slice_get vs a.volume ≡ Some v → OnOk r (HasDone (answering a.kind a.lbn a.count) v w ds es)
    → OnOk r (HaveTurned (asking a ∷ []) vs ds (slice_set vs a.volume w) es)
served_turn (Ok x) vs ds es a v w at done = stands_turn vs ds es a.volume v w (answering a.kind a.lbn a.count) at done
served_turn (Err e) vs ds es a v w at done = tt
