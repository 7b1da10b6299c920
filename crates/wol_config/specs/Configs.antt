-- What a configuration is, and when it is valid.
use Rattle.std.specs.Prelude.{◌≡◌, ◌≢◌, ◌⊎◌, ℕ, ◌*◌, ◌-◌, ◌^◌, ◌<◌, ◌≤◌, Bool, true, List, length, map, min, Option, Some, None, IsUtf8, All, AllPairs, slice_index_or}
use Rattle.std.specs.List.{list_all}
use Rattle.toml.specs.Data.{Members}
use Rattle.toml.specs.Parse.{parse_document}
use Rattle.wol_model.specs.Heads.{IsViewList}
use Rattle.wol_model.specs.Journal.{ArePowers}
use Rattle.wol_config.specs.declared.key.Key.TheVariants.{Name, SegmentBlocks, TimeoutMs, AwakeMw, StandbyMw, WakeMj, WakeMs}
use Rattle.wol_config.specs.declared.config.VolumeConf.{VolumeConf}
use Rattle.wol_config.specs.declared.config.Config.{Config}
use Rattle.wol_config.specs.declared.config.ConfigFault.{ConfigFault}
use Rattle.wol_config.specs.declared.config.ConfigFault.TheVariants.{NotToml, TooLong, NoMemory}
use Rattle.wol_config.specs.Keys.{is_name_byte, is_host_byte}
use Rattle.wol_config.specs.Documents.{number_or, number_at, text_at, view_in, volume_in, tables_in, numbers_named, document_fault}

-- the volume that a table is, among volumes of these names
abbrev pub volume_of : (names : List (List ℕ)) → Members → VolumeConf
volume_of names volume = record (volume_in volume) { view = numbers_named names (view_in volume) }

-- the volumes of a document
abbrev pub volumes_of : List Members → List VolumeConf
volumes_of tables = map (volume_of (map (text_at Name) tables)) tables

-- the most blocks of a request on a configuration's volumes: what a record may have, and a segment
-- of this size has room for
abbrev pub most_of : Config → ℕ
most_of config = min 128 (config.segment_blocks - 2)

-- a document without fault is this configuration; a millisecond is 10,000 units of 100 ns
pub record IsConfigOf (document : Members) (config : Config) : Type 0 where
  pub faultless : document_fault document ≡ None
  pub segment_blocks : config.segment_blocks ≡ number_at SegmentBlocks document
  pub timeout : config.timeout ≡ number_or 60000 TimeoutMs document * 10000
  pub awake_mw : config.powers.awake_mw ≡ number_at AwakeMw document
  pub standby_mw : config.powers.standby_mw ≡ number_at StandbyMw document
  pub wake_mj : config.powers.wake_mj ≡ number_at WakeMj document
  pub wake : config.wake ≡ number_or 10000 WakeMs document * 10000
  pub volumes : config.volumes.items ≡ volumes_of (tables_in document)

abbrev pub byte_limit : ℕ
byte_limit = 1048576

-- the bytes are few enough, and are this document
pub record IsDocument (bytes : List ℕ) (document : Members) : Type 0 where
  pub few : length bytes ≤ byte_limit
  pub text : IsUtf8 bytes
  pub parsed : parse_document bytes ≡ Some document

-- what a call that meets this first fault, or finds no memory, answers
abbrev pub IsAnswer : Option ConfigFault → ConfigFault → Type 0
IsAnswer fault e = (e ≡ NoMemory) ⊎ (fault ≡ Some e)

-- what bytes may be refused for: nothing but want of memory comes where another fault is the first
abbrev pub IsRefusal : List ℕ → ConfigFault → Type 0
IsRefusal bytes NoMemory = length bytes ≤ byte_limit
IsRefusal bytes TooLong = byte_limit < length bytes
IsRefusal bytes NotToml =
    (length bytes ≤ byte_limit) × ((document : Members) → ¬ IsDocument bytes document)
IsRefusal bytes fault =
    (document : Members) × IsDocument bytes document × (document_fault document ≡ Some fault)

abbrev pub IsName : List ℕ → Type 0
IsName name = (1 ≤ length name) × (length name ≤ 32) × (list_all is_name_byte name ≡ true)

abbrev pub IsHost : List ℕ → Type 0
IsHost host = (1 ≤ length host) × (length host ≤ 64) × (list_all is_host_byte host ≡ true)

-- the ranges of a volume among so many, and its view, which doesn't name the volume itself
pub record IsValidVolume (count number : ℕ) (volume : VolumeConf) : Type 0 where
  pub name : IsName volume.name
  pub host : IsHost volume.host
  pub disk : volume.disk < 2 ^ 32
  pub home : (1 ≤ volume.home) × (volume.home ≤ 2 ^ 32)
  pub segments : volume.segments ≤ 1024
  pub known : All (λ logger. logger < count) volume.view
  pub others : All (λ logger. logger ≢ number) volume.view
  pub view : IsViewList volume.view

-- neither the name nor host and disk together are the same
pub record AreApart (v w : VolumeConf) : Type 0 where
  pub names : v.name ≢ w.name
  pub disks : v.host ≡ w.host → v.disk ≢ w.disk

-- each value is in its range, and the volumes are apart
pub record IsValid (config : Config) : Type 0 where
  pub segment_blocks : (4 ≤ config.segment_blocks) × (config.segment_blocks ≤ 65536)
  pub timeout : (10000 ≤ config.timeout) × (config.timeout ≤ 864000000000)
  pub powers : ArePowers config.powers
  pub wake : config.wake ≤ 6000000000
  pub count : (1 ≤ length config.volumes.items) × (length config.volumes.items ≤ 64)
  pub volumes : (n : ℕ) (d : VolumeConf) → n < length config.volumes.items
      → IsValidVolume (length config.volumes.items) n (slice_index_or config.volumes.items n d)
  pub apart : AllPairs AreApart config.volumes.items
