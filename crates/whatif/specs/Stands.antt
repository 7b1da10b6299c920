-- What a machine of the program stands for.
use Rattle.std.specs.Prelude.{◌≡◌, ℕ, ◌+◌, ◌<◌, ◌≤◌, ◌^◌, List, ◌++◌, map, length}
use Rattle.std.specs.List.{AllByRecursion, range_with_len}
use Rattle.wol_model.specs.Journal.{ArePowers}
use Rattle.wol_config.specs.declared.config.Config.{Config}
use Rattle.wol_config.specs.declared.config.VolumeConf.{VolumeConf}
use Rattle.whatif.specs.declared.policy.Policy.{Policy}
use Rattle.whatif.specs.declared.policy.Ask.{Ask}
use Rattle.whatif.specs.declared.machine.Machine.{Machine}
use Rattle.whatif.specs.declared.machine.Rules.{Rules}
use Rattle.whatif.specs.declared.waits.Tallies.{Tallies}
use Rattle.whatif.specs.declared.disk.Disk.{Disk}
use Rattle.whatif.specs.declared.volume.Volume.{Volume}
use Rattle.whatif.specs.Machine.{Asked, Turn, after_turns, first_volume}
use Rattle.whatif.specs.Machine as machine
use Rattle.whatif.specs.Policies.{machine_after, goes_down, reach_of, waits_by}
use Rattle.whatif.specs.Waits.{AreFewIn, AreTallied, Waited, waits_among}
use Rattle.whatif.specs.Disks.{AreDisks, IsKept, moments_of}
use Rattle.whatif.specs.Volumes.{IsVolume, IsWithin, reach_in, volume_in}

-- its volumes and its disks are those of this machine
pub record Stands (vs : List Volume) (ds : List Disk) (m : machine.Machine) : Type 0 where
  pub volumes : m.volumes ≡ map volume_in vs
  pub disks : AreDisks ds m.spindles

-- a volume among so many disks, of which so much was asked
pub record IsAmong (disks asked : ℕ) (v : Volume) : Type 0 where
  pub volume : IsVolume v
  pub within : IsWithin disks (reach_in v)
  pub next : v.next ≤ asked + 1

-- all volumes and their disks, at this moment
pub record AreReady (vs : List Volume) (ds : List Disk) (asked moment : ℕ) : Type 0 where
  pub count : length ds ≡ length vs
  pub volumes : AllByRecursion (IsAmong (length ds) asked) vs
  pub kept : AllByRecursion IsKept ds
  pub moments : AllByRecursion (λ t. t ≤ moment) (moments_of ds)

-- volumes and disks had these turns
abbrev pub HaveTurned : List Turn → (vs : List Volume) → (ds : List Disk) → (ws : List Volume)
    → (es : List Disk) → Type 0
HaveTurned turns vs ds ws es = (timeout : ℕ) (m : machine.Machine) → Stands vs ds m
    → Stands ws es (after_turns timeout turns m)

-- .. and requests, of whom this is told
abbrev pub HaveWaited : (wake : ℕ) → List Ask → (vs : List Volume) → (ds : List Disk)
    → (old new : Tallies) → Type 0
HaveWaited wake asks vs ds old new = (timeout : ℕ) (m : machine.Machine) (ws : List Waited)
    → Stands vs ds m → AreTallied wake ws old
    → AreTallied wake (ws ++ waits_among timeout wake asks m) new

-- all volumes, of which nothing is logged yet
pub record AreNew (p : Policy) (whole : ℕ) (confs : List VolumeConf) (vs : List Volume) :
    Type 0 where
  pub count : length vs ≡ length confs
  pub all : AllByRecursion (IsAmong (length confs) 0) vs
  pub made : map volume_in vs
      ≡ map (λ n. first_volume whole (reach_of p confs n)) (range_with_len 0 (length vs))

-- what is so of each machine
pub record IsMachine (m : Machine) : Type 0 where
  pub few : length m.volumes.items ≤ 64
  pub timeout : 10000 ≤ m.rules.timeout
  pub powers : ArePowers m.powers
  pub ready : AreReady m.volumes.items m.disks.items m.asked m.moment
  pub tallies : AreFewIn (length m.volumes.items) m.asked m.tallies

-- a request of one of so many volumes
pub record IsAsk (volumes : ℕ) (a : Ask) : Type 0 where
  pub volume : a.volume < volumes
  pub some : 1 ≤ a.count
  pub few : a.count ≤ 128
  pub blocks : a.lbn + a.count ≤ 2 ^ 32

-- the rules are those of the policy
pub record AreRules (p : Policy) (c : Config) (r : Rules) : Type 0 where
  pub timeout : r.timeout ≡ c.timeout
  pub sleeps : r.sleeps ≡ goes_down p
  pub wake : r.wake ≡ c.wake

-- it has run these windows by this policy, from this beginning of the account on
pub record HasRun (p : Policy) (c : Config) (from : ℕ) (ws : List Asked) (m : Machine) :
    Type 0 where
  pub rules : AreRules p c m.rules
  pub powers : m.powers ≡ c.powers
  pub stands : Stands m.volumes.items m.disks.items (machine_after p c from ws)
  pub tallies : AreTallied c.wake (waits_by p c from ws) m.tallies
