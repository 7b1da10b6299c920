-- Laws of the policies.
use Rattle.std.specs.Prelude.{◌≡◌, ◌≢◌, ◌⊎◌, ℕ, ◌<◌, ◌≤◌, true, List, [], ◌∷◌, ◌++◌, map, Some, slice_get, ◌==◌}
use Rattle.std.specs.List.{AllByRecursion, list_any}
use Rattle.std.specs.Option.{option_map_or}
use Rattle.wol_config.specs.declared.config.Config.{Config}
use Rattle.wol_config.specs.declared.config.VolumeConf.{VolumeConf}
use Rattle.whatif.specs.declared.policy.Policy.{Policy}
use Rattle.whatif.specs.declared.policy.Policy.TheVariants.{SpinDown, Host}
use Rattle.wol_model.specs.Journal.{SpindleState, wakes}
use Rattle.whatif.specs.Machine.{Asked, Machine, Turn, Volume, after_turns, all_accessed, all_wakes, asking, begun, turned}
use Rattle.whatif.specs.Policies.{compared, machine_after, setting_of, waits_by}
use Rattle.whatif.specs.Waits.{Waited, wait_on, waits_among}

-- no two volumes are of one host
abbrev pub AreOnHostsOfTheirOwn : List VolumeConf → Type 0
AreOnHostsOfTheirOwn vs = (k j : ℕ) (v w : VolumeConf) → k ≢ j → slice_get vs k ≡ Some v
    → slice_get vs j ≡ Some w → v.host ≢ w.host

-- then off-loading within hosts is spin-down alone
abbrev pub HostIsSpinDown : Type 0
HostIsSpinDown = (c : Config) (from : ℕ) (ws : List Asked) (to : ℕ)
    → AreOnHostsOfTheirOwn c.volumes.items
    → compared Host c from ws to ≡ compared SpinDown c from ws to

-- no request waits longer than a disk takes to come up
abbrev pub NoneWaitsLonger : Type 0
NoneWaitsLonger = (p : Policy) (c : Config) (from : ℕ) (ws : List Asked)
    → AllByRecursion (λ (w : Waited). w.wait ≤ c.wake) (waits_by p c from ws)

-- a request for whose uses a disk comes up waits as long as that takes
abbrev pub RisersWait : Type 0
RisersWait = (timeout wake : ℕ) (uses : List ℕ) (ss : List SpindleState)
    → all_wakes ss < all_wakes (all_accessed timeout uses ss) → wait_on timeout wake uses ss ≡ wake

-- how often the disk at a place came up
abbrev pub ups_of : List SpindleState → (d : ℕ) → ℕ
ups_of ss d = option_map_or (λ (s : SpindleState). wakes s.journal) (slice_get ss d) 0

-- a disk that a turn uses comes up no more in later turns of its window
abbrev pub UsedStayUp : Type 0
UsedStayUp = (timeout : ℕ) (t : Turn) (later : List Turn) (m : Machine) (v : Volume) (d : ℕ)
    → slice_get m.volumes t.volume ≡ Some v
    → list_any (λ u. u == d) (t.action v.reach v.look).uses ≡ true
    → ups_of (after_turns timeout later (turned timeout t m)).spindles d
    ≡ ups_of (turned timeout t m).spindles d

-- the machine behind the requests of a window, before its volumes reclaim
abbrev pub behind_requests : Policy → Config → (from : ℕ) → List Asked → Asked → Machine
behind_requests p c from ws w = after_turns c.timeout (map asking w.asks)
    (begun (setting_of p c) w.moment (machine_after p c from ws))

-- no disk comes up for what is reclaimed
abbrev pub ReclaimWakesNone : Type 0
ReclaimWakesNone = (p : Policy) (c : Config) (from : ℕ) (ws : List Asked) (w : Asked) (d : ℕ)
    → ups_of (machine_after p c from (ws ++ w ∷ [])).spindles d
    ≡ ups_of (behind_requests p c from ws w).spindles d

-- a request of the window waits as long as a disk takes to come up
abbrev pub OneWaits : Policy → Config → (from : ℕ) → List Asked → Asked → Type 0
OneWaits p c from ws w = list_any (λ (x : Waited). x.wait == c.wake) (waits_among c.timeout c.wake
    w.asks (begun (setting_of p c) w.moment (machine_after p c from ws))) ≡ true

-- so it is for each disk that comes up in a window
abbrev pub EachUpIsWaited : Type 0
EachUpIsWaited = (p : Policy) (c : Config) (from : ℕ) (ws : List Asked) (w : Asked) (d : ℕ)
    → ups_of (machine_after p c from ws).spindles d
    < ups_of (machine_after p c from (ws ++ w ∷ [])).spindles d → OneWaits p c from ws w

-- no request waits at all, or the longest wait is as long as a disk takes to come up
abbrev pub LongestIsWake : Type 0
LongestIsWake = (p : Policy) (c : Config) (from : ℕ) (ws : List Asked)
    → AllByRecursion (λ (x : Waited). x.wait ≡ 0) (waits_by p c from ws)
    ⊎ (list_any (λ (x : Waited). x.wait == c.wake) (waits_by p c from ws) ≡ true)
