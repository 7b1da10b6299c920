-- The configuration that a source of bytes has.
use Rattle.std.specs.Prelude.{◌≡◌, ◌≢◌, ℕ, ◌<◌, ◌≤◌, ◌⊎◌, ⊤, List, [], ◌++◌, length, Option, None, Some, IfSome}
use Rattle.toml.specs.Data.{Members}
use Rattle.wol_disk.specs.Disk.{Rose}
use Rattle.wol_config.specs.declared.config.Config.{Config}
use Rattle.wol_config.specs.declared.config.ConfigFault.{ConfigFault}
use Rattle.wol_config.specs.declared.config.ConfigFault.TheVariants.{NoMemory}
use Rattle.wol_config.specs.Configs.{IsDocument, IsConfigOf, IsRefusal, IsValid, byte_limit}
use Rattle.report.specs.declared.fault.Fault.{Fault}
use Rattle.report.specs.declared.fault.Fault.TheVariants as fault
use Rattle.report.specs.Faults.{fault_text, status_of}
use Rattle.report.specs.Names.{printed_names}

-- bytes that were taken of a source that tells are all that was left; or they are its first ones,
-- and too many
abbrev pub IsTaken : (left : Option (List ℕ)) → (bytes : List ℕ) → Type 0
IsTaken None bytes = ⊤
IsTaken (Some all) bytes =
    ((all ≡ bytes) × (length bytes ≤ byte_limit))
    ⊎ ((rest : List ℕ) × (all ≡ bytes ++ rest) × (byte_limit < length bytes))

-- what is left of a source, where it tells, is a document of this configuration; elsewhere it is
-- some valid configuration
abbrev pub HasConfig : (left : Option (List ℕ)) → Config → Type 0
HasConfig None config = IsValid config
HasConfig (Some bytes) config =
    (document : Members) × IsDocument bytes document × IsConfigOf document config

-- The configuration that was read of a source, or none where it wasn't had, and this is so of it.
pub record OfRead (left : Option (List ℕ)) (Is : Option Config → Type 0) : Type 0 where
  pub read : Option Config
  pub has : IfSome read (HasConfig left)
  pub is : Is read

-- a source that tells, and has a configuration
pub record IsConfigured (left : Option (List ℕ)) : Type 0 where
  pub bytes : List ℕ
  pub told : left ≡ Some bytes
  pub config : Config
  pub has : HasConfig (Some bytes) config

-- what is left of a source, where it tells, is no configuration, and this is the first fault of it
abbrev pub IsRefusedFor : (left : Option (List ℕ)) → ConfigFault → Type 0
IsRefusedFor None why = ⊤
IsRefusedFor (Some bytes) why = IsRefusal bytes why

-- what is left of a source is no configuration, for some fault; want of memory is none
pub record HasNoConfig (left : Option (List ℕ)) : Type 0 where
  pub why : ConfigFault
  pub fault : why ≢ NoMemory
  pub refused : IsRefusedFor left why

-- why a configuration wasn't had of a source: its bytes are none, or its count of faults rose, or
-- there was no memory
abbrev pub IsUnread : Fault → (left : Option (List ℕ)) → (faults faults' : ℕ) → Type 0
IsUnread (fault.Config why) left faults faults' = (why ≢ NoMemory) × IsRefusedFor left why
IsUnread fault.ConfigSource left faults faults' = Rose faults faults'
IsUnread fault.Memory left faults faults' = ⊤
IsUnread _ left faults faults' = ⊥

-- the line of a fault that names no volume
abbrev pub line_of_fault : Fault → List ℕ
line_of_fault e = fault_text (printed_names []) e

-- Status 2, 8 or 9: the configuration wasn't had, and the text is the line that says why.
pub record IsFaultLine (left : Option (List ℕ)) (faults faults' : ℕ) (text : List ℕ)
    (status : ℕ) : Type 0 where
  pub fault : Fault
  pub cause : IsUnread fault left faults faults'
  pub line_ : text ≡ line_of_fault fault
  pub told : status ≡ status_of fault
