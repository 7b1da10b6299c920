-- What is printed of the policies.
use Rattle.std.specs.Prelude.{ℕ, true, false, length, List, [], ◌∷◌, ◌++◌, codes, decimal}
use Rattle.std.specs.Prelude.{Option, map, slice_get, if◌then◌else◌}
use Rattle.std.specs.List.{flat_map, range_with_len}
use Rattle.std.specs.Option.{option_map_or}
use Rattle.wol_model.specs.declared.journal.Powers.{Powers}
use Rattle.wol_model.specs.Journal.{SpindleState, awake_time, millijoules, sleeps, standby, units, wakes}
use Rattle.wol_model.specs.declared.trace.Kind.{Kind}
use Rattle.wol_model.specs.declared.trace.Kind.TheVariants.{Read, Write}
use Rattle.report.specs.Words.{line_of}
use Rattle.wol_config.specs.declared.config.Config.{Config}
use Rattle.wol_config.specs.declared.config.VolumeConf.{VolumeConf}
use Rattle.whatif.specs.declared.policy.Policy.{Policy}
use Rattle.whatif.specs.declared.policy.Policy.TheVariants.{Always, SpinDown, Host, All, Views}
use Rattle.whatif.specs.declared.policy.Compared.{Compared}
use Rattle.whatif.specs.declared.policy.Details.{Details}
use Rattle.whatif.specs.declared.policy.Used.{Used}
use Rattle.whatif.specs.Machine.{Asked}
use Rattle.whatif.specs.Policies.{compared, machine_after, waits_by}
use Rattle.whatif.specs.Waits.{Waited, greatest, helds, late_ms, of_disk, of_volume, over, sum_ms, waits_of}
use Rattle.whatif.specs.declared.logged.Held.{Held}

-- a policy's name
abbrev pub name_of : Policy → List ℕ
name_of Always = codes "always"
name_of SpinDown = codes "spindown"
name_of Host = codes "host"
name_of All = codes "all"
name_of Views = codes "views"

-- the line of a policy: how often disks woke and slept, and the energy in mJ
unfoldable pub policy_text : Policy → Compared → List ℕ
policy_text p c = line_of (name_of p ∷ codes "wakes" ∷ decimal c.wakes ∷ codes "sleeps"
    ∷ decimal c.sleeps ∷ codes "energy" ∷ decimal (millijoules c.units) ∷ [])

abbrev pub kind_text : Kind → List ℕ
kind_text Read = codes "reads"
kind_text Write = codes "writes"

-- the line of the reads or of the writes: how many there are, how many wait, how late one in a hundred
-- and one in a thousand are, and all their waits together, in ms
unfoldable pub waits_text : Policy → Kind → (wake : ℕ) → (waits : List ℕ) → List ℕ
waits_text p kind wake waits = line_of (name_of p ∷ kind_text kind ∷ decimal (length waits) ∷ codes "wait"
    ∷ decimal (over wake 0 waits) ∷ codes "p99" ∷ decimal (late_ms wake 100 waits)
    ∷ codes "p999" ∷ decimal (late_ms wake 1000 waits) ∷ codes "sum" ∷ decimal (sum_ms waits) ∷ [])

-- the line of logs: how many writes went to them, the most blocks that all together kept at one moment,
-- and the most segments that one disk held
unfoldable pub logged_text : Policy → List Held → List ℕ
logged_text p hs = line_of (name_of p ∷ codes "logged" ∷ decimal (length hs) ∷ codes "blocks"
    ∷ decimal (greatest (map (λ (h : Held). h.all) hs)) ∷ codes "segments"
    ∷ decimal (greatest (map (λ (h : Held). h.segments) hs)) ∷ [])

-- the lines of reads, of writes and of logs
unfoldable pub long_text : Policy → (wake : ℕ) → List Waited → List ℕ
long_text p wake ws = waits_text p Read wake (waits_of false ws)
    ++ waits_text p Write wake (waits_of true ws) ++ logged_text p (helds ws)

-- what a disk used until its account ends
abbrev pub used_of : Powers → (to : ℕ) → SpindleState → Used
used_of powers to s = record {
  wakes = wakes s.journal;
  sleeps = sleeps s.journal;
  awake = awake_time s.journal s.from to;
  standby = standby s.journal to;
  units = units powers s.journal s.from to;
}

abbrev pub nothing_used : Used
nothing_used = record { wakes = 0; sleeps = 0; awake = 0; standby = 0; units = 0 }

-- .. the disk at a place among others
abbrev pub used_at : Powers → (to : ℕ) → List SpindleState → (k : ℕ) → Used
used_at powers to ss k = option_map_or (used_of powers to) (slice_get ss k) nothing_used

abbrev pub conf_at : List VolumeConf → (k : ℕ) → Option VolumeConf
conf_at vs k = slice_get vs k

abbrev pub shown_name : Option VolumeConf → List ℕ
shown_name v = option_map_or (λ (w : VolumeConf). w.name) v []

-- by the views of the configuration, the number of segments that its disk has
abbrev pub offered : Policy → Option VolumeConf → List (List ℕ)
offered Views v = codes "of" ∷ decimal (option_map_or (λ (w : VolumeConf). w.segments) v 0) ∷ []
offered p v = []

-- how many words its line has
abbrev pub volume_words : Policy → ℕ
volume_words Views = 27
volume_words p = 25

-- the line of a volume: what its own disk used, how many of its reads and writes there are and wait, and
-- the most blocks and segments of others on its disk
unfoldable pub volume_text : Policy → Option VolumeConf → Used → (wake : ℕ) → List Waited → List Held → List ℕ
volume_text p v u wake ws hs = line_of (name_of p ∷ codes "volume" ∷ shown_name v ∷ codes "wakes"
    ∷ decimal u.wakes ∷ codes "sleeps" ∷ decimal u.sleeps ∷ codes "awake" ∷ decimal u.awake
    ∷ codes "standby" ∷ decimal u.standby ∷ codes "energy" ∷ decimal (millijoules u.units)
    ∷ codes "reads" ∷ decimal (length (waits_of false ws)) ∷ codes "wait"
    ∷ decimal (over wake 0 (waits_of false ws)) ∷ codes "writes"
    ∷ decimal (length (waits_of true ws)) ∷ codes "wait"
    ∷ decimal (over wake 0 (waits_of true ws)) ∷ codes "blocks"
    ∷ decimal (greatest (map (λ (h : Held). h.blocks) hs)) ∷ codes "segments"
    ∷ decimal (greatest (map (λ (h : Held). h.segments) hs)) ∷ offered p v)

-- .. of each volume in order
unfoldable pub volumes_text : Policy → Config → (from : ℕ) → List Asked → (to : ℕ) → List ℕ
volumes_text p c from ws to = flat_map
    (λ k. volume_text p (conf_at c.volumes.items k)
    (used_at c.powers to (machine_after p c from ws).spindles k) c.wake
    (of_volume k (waits_by p c from ws)) (of_disk k (helds (waits_by p c from ws))))
    (range_with_len 0 (length c.volumes.items))

-- all that is told of a policy
unfoldable pub told_text : Details → Policy → Config → (from : ℕ) → List Asked → (to : ℕ) → List ℕ
told_text details p c from ws to = policy_text p (compared p c from ws to)
    ++ (if details.long then long_text p c.wake (waits_by p c from ws) else [])
    ++ (if details.volumes then volumes_text p c from ws to else [])

-- .. and of each of them
unfoldable pub details_text : Details → Config → (from : ℕ) → List Asked → (to : ℕ) → List ℕ
details_text details c from ws to =
    told_text details Always c from ws to ++ told_text details SpinDown c from ws to
    ++ told_text details Host c from ws to ++ told_text details All c from ws to
    ++ told_text details Views c from ws to

-- the four lines of windows
unfoldable pub whatif_text : Config → (from : ℕ) → List Asked → (to : ℕ) → List ℕ
whatif_text c from ws to =
    policy_text Always (compared Always c from ws to)
    ++ policy_text SpinDown (compared SpinDown c from ws to)
    ++ policy_text Host (compared Host c from ws to) ++ policy_text All (compared All c from ws to)
