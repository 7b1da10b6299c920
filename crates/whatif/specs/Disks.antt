-- A disk's sums, and the journal that they are of.
use Rattle.std.specs.Prelude.{◌≡◌, ℕ, ◌+◌, ◌-◌, ◌*◌, ◌<◌, ◌≤◌, Bool, true, false, List, [], map, IfSome}
use Rattle.std.specs.List.{AllByRecursion, AllZip}
use Rattle.wol_model.specs.Journal.{SpindleState, wakes, sleeps, standby}
use Rattle.whatif.specs.declared.disk.Disk.{Disk}
use Rattle.whatif.specs.Waits.{last_up}

-- the time in standby until a moment
abbrev pub standby_of : Disk → (awake : Bool) → (to : ℕ) → ℕ
standby_of d true to = d.standby
standby_of d false to = d.standby + (to - d.since)

-- moments in order; the time in standby is over before; and of two turns down one is at least
-- 10,000 units behind the other
pub record IsKept (d : Disk) : Type 0 where
  pub order : d.since ≤ d.moment
  pub standby : d.from + d.standby ≤ d.since
  pub sleeps : d.from + 10000 * d.sleeps ≤ d.since
  pub wakes : d.wakes ≤ d.sleeps
  pub asleep : d.awake ≡ false → d.wakes < d.sleeps
  pub raised : IfSome d.up_at (λ u. u ≤ d.moment)

-- the disk has the sums of this spindle, which nobody needs now
pub record IsDisk (d : Disk) (s : SpindleState) : Type 0 where
  pub from : s.from ≡ d.from
  pub moment : s.now ≡ d.moment
  pub awake : s.awake ≡ d.awake
  pub last_use : d.awake ≡ true → s.last_use ≡ d.since
  pub needing : s.needing ≡ []
  pub wakes : wakes s.journal ≡ d.wakes
  pub sleeps : sleeps s.journal ≡ d.sleeps
  pub standby : (to : ℕ) → standby s.journal to ≡ standby_of d d.awake to
  pub raised : last_up s.journal ≡ d.up_at

-- all disks
abbrev pub AreDisks : List Disk → List SpindleState → Type 0
AreDisks ds ss = AllZip IsDisk ds ss

-- the moments that came at disks
abbrev pub moments_of : List Disk → List ℕ
moments_of ds = map (λ (d : Disk). d.moment) ds

-- each disk is in order, and no moment that came at one is past this one
pub record AreKeptTo (moment : ℕ) (ds : List Disk) : Type 0 where
  pub each : AllByRecursion IsKept ds
  pub moments : AllByRecursion (λ t. t ≤ moment) (moments_of ds)
