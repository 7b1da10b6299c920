-- The table of keys: what the value at each of them has to be.
use Rattle.std.specs.Prelude.{ℕ, ◌-◌, ◌^◌, ℤ, pos, negsuc, Bool, true, false, not, ◌&&◌, ◌||◌, ◌==◌, nat_le, if◌then◌else◌, List, [], ◌∷◌, length, Option, Some, None, is_some, codes}
use Rattle.std.specs.List.{list_all}
use Rattle.toml.specs.Data.{Data, string, integer, array, Items, no_items, item, Members, get_member, as_table, as_str}
use Rattle.wol_config.specs.declared.key.Key.{Key}
use Rattle.wol_config.specs.declared.key.Key.TheVariants.{SegmentBlocks, TimeoutMs, AwakeMw, StandbyMw, WakeMj, WakeMs, Volume, Name, Host, Disk, HomeBlocks, Segments, View}
use Rattle.wol_config.specs.declared.config.ConfigFault.{ConfigFault}
use Rattle.wol_config.specs.declared.config.ConfigFault.TheVariants.{Missing, WrongKind, OutOfRange}

-- each key as it stands in the file
abbrev pub key_text : Key → List ℕ
key_text SegmentBlocks = codes "segment_blocks"
key_text TimeoutMs = codes "timeout_ms"
key_text AwakeMw = codes "awake_mw"
key_text StandbyMw = codes "standby_mw"
key_text WakeMj = codes "wake_mj"
key_text WakeMs = codes "wake_ms"
key_text Volume = codes "volume"
key_text Name = codes "name"
key_text Host = codes "host"
key_text Disk = codes "disk"
key_text HomeBlocks = codes "home_blocks"
key_text Segments = codes "segments"
key_text View = codes "view"

-- what a value has to be: an integer from least to most; a text of 1 to most such bytes; an array
-- of least to most tables; an array of at most so many texts
pub data Rule : Type 0 where
  number_from_to : (least most : ℕ) → Rule
  text_of : (most : ℕ) → (ℕ → Bool) → Rule
  tables_from_to : (least most : ℕ) → Rule
  texts_up_to : (most : ℕ) → Rule

abbrev pub is_between : ℕ → ℕ → ℕ → Bool
is_between least most n = nat_le least n && nat_le n most

-- a to z, 0 to 9, _ and -
abbrev pub is_name_byte : ℕ → Bool
is_name_byte b = (is_between 97 122 b || is_between 48 57 b) || (b == 95 || b == 45)

-- 33 to 126, and neither a comma nor a quotation mark
abbrev pub is_host_byte : ℕ → Bool
is_host_byte b = is_between 33 126 b && not (b == 44 || b == 34)

-- the table of keys
abbrev pub rule_of : Key → Rule
rule_of SegmentBlocks = number_from_to 4 65536
rule_of TimeoutMs = number_from_to 1 86400000
rule_of AwakeMw = number_from_to 0 1000000
rule_of StandbyMw = number_from_to 0 1000000
rule_of WakeMj = number_from_to 0 1000000000
rule_of WakeMs = number_from_to 0 600000
rule_of Volume = tables_from_to 1 64
rule_of Name = text_of 32 is_name_byte
rule_of Host = text_of 64 is_host_byte
rule_of Disk = number_from_to 0 (2 ^ 32 - 1)
rule_of HomeBlocks = number_from_to 1 (2 ^ 32)
rule_of Segments = number_from_to 0 1024
rule_of View = texts_up_to 16

-- the keys that may be missing
abbrev pub may_miss : Key → Bool
may_miss TimeoutMs = true
may_miss WakeMs = true
may_miss _ = false

abbrev pub items_in : Items → List Data
items_in no_items = []
items_in (item d ds) = d ∷ items_in ds

abbrev pub is_table : Data → Bool
is_table d = is_some (as_table d)

abbrev pub is_text : Data → Bool
is_text d = is_some (as_str d)

-- the value is of the rule's kind
abbrev pub is_of_kind : Rule → Data → Bool
is_of_kind (number_from_to least most) (integer z) = true
is_of_kind (text_of most good) (string s) = true
is_of_kind (tables_from_to least most) (array ds) = list_all is_table (items_in ds)
is_of_kind (texts_up_to most) (array ds) = list_all is_text (items_in ds)
is_of_kind rule d = false

abbrev pub is_within : ℕ → ℕ → ℤ → Bool
is_within least most (pos n) = is_between least most n
is_within least most (negsuc n) = false

-- a value of the rule's kind lies in its range
abbrev pub is_in_range : Rule → Data → Bool
is_in_range (number_from_to least most) (integer z) = is_within least most z
is_in_range (text_of most good) (string s) = is_between 1 most (length s) && list_all good s
is_in_range (tables_from_to least most) (array ds) = is_between least most (length (items_in ds))
is_in_range (texts_up_to most) (array ds) = is_between 0 most (length (items_in ds))
is_in_range rule d = false

-- what a key with this value is refused for
abbrev pub value_fault : Rule → Key → Data → Option ConfigFault
value_fault rule key d =
    if is_of_kind rule d then (if is_in_range rule d then None else Some (OutOfRange key))
    else Some (WrongKind key)

-- what a key is refused for by this rule, by the value at it
abbrev pub judged : Rule → Key → Option Data → Option ConfigFault
judged rule key None = if may_miss key then None else Some (Missing key)
judged rule key (Some d) = value_fault rule key d

-- what a key of this table is refused for
abbrev pub key_fault : Key → Members → Option ConfigFault
key_fault key ms = judged (rule_of key) key (get_member (key_text key) ms)
