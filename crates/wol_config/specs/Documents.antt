-- What a document is refused for: the first fault in the order of the table of keys.
use Rattle.std.specs.Prelude.{ℕ, ◌+◌, pos, Bool, true, false, not, ◌&&◌, ◌||◌, ◌==◌, if◌then◌else◌, List, [], ◌∷◌, ◌++◌, length, map, position, Option, Some, None, is_some, option_map, unwrap_or}
use Rattle.std.specs.List.{list_all, list_any}
use Rattle.std.specs.Option.{option_or}
use Rattle.std.specs.Str.{bytes_eq}
use Rattle.toml.specs.Data.{Data, string, integer, array, table, Members, no_members, get_member}
use Rattle.wol_config.specs.declared.key.Key.{Key}
use Rattle.wol_config.specs.declared.key.Key.TheVariants.{SegmentBlocks, TimeoutMs, AwakeMw, StandbyMw, WakeMj, WakeMs, Volume, Name, Host, Disk, HomeBlocks, Segments, View}
use Rattle.wol_config.specs.declared.config.VolumeConf.{VolumeConf}
use Rattle.wol_config.specs.declared.config.ConfigFault.{ConfigFault}
use Rattle.wol_config.specs.declared.config.ConfigFault.TheVariants.{Twice, BadView}
use Rattle.wol_config.specs.Keys.{key_text, key_fault, items_in}

-- ---- The values of a table

-- a value as a number, as a text, as its items, and as the members of a table
abbrev pub number_of : Data → ℕ
number_of (integer (pos n)) = n
number_of _ = 0

abbrev pub text_of : Data → List ℕ
text_of (string s) = s
text_of _ = []

abbrev pub list_of : Data → List Data
list_of (array ds) = items_in ds
list_of _ = []

abbrev pub members_of : Data → Members
members_of (table ms) = ms
members_of _ = no_members

-- the number at a key, or this one where the key is missing
abbrev pub number_or : ℕ → Key → Members → ℕ
number_or default key ms = unwrap_or (option_map number_of (get_member (key_text key) ms)) default

abbrev pub number_at : Key → Members → ℕ
number_at key ms = number_or 0 key ms

abbrev pub text_at : Key → Members → List ℕ
text_at key ms = unwrap_or (option_map text_of (get_member (key_text key) ms)) []

abbrev pub list_at : Key → Members → List Data
list_at key ms = unwrap_or (option_map list_of (get_member (key_text key) ms)) []

-- the tables of the volumes, and the texts of a volume's view
abbrev pub tables_in : Members → List Members
tables_in document = map members_of (list_at Volume document)

abbrev pub view_in : Members → List (List ℕ)
view_in volume = map text_of (list_at View volume)

-- the volume that a table is, but for its view
abbrev pub volume_in : Members → VolumeConf
volume_in volume = record {
  name = text_at Name volume;
  host = text_at Host volume;
  disk = number_at Disk volume;
  home = number_at HomeBlocks volume;
  segments = number_at Segments volume;
  view = [];
}

-- ---- Faults of keys

-- the first fault among these keys of a table
abbrev pub first_fault : List Key → Members → Option ConfigFault
first_fault [] ms = None
first_fault (key ∷ keys) ms = option_or (key_fault key ms) (first_fault keys ms)

abbrev pub power_keys : List Key
power_keys = AwakeMw ∷ StandbyMw ∷ WakeMj ∷ []

abbrev pub document_keys : List Key
document_keys = SegmentBlocks ∷ TimeoutMs ∷ power_keys ++ WakeMs ∷ Volume ∷ []

abbrev pub volume_keys : List Key
volume_keys = Name ∷ Host ∷ Disk ∷ HomeBlocks ∷ Segments ∷ View ∷ []

-- the first fault among the keys of the volumes in turn
abbrev pub volumes_fault : List Members → Option ConfigFault
volumes_fault [] = None
volumes_fault (volume ∷ later) = option_or (first_fault volume_keys volume) (volumes_fault later)

-- ---- Volumes that stand twice

-- both have one name, or one host and disk
abbrev pub are_twins : VolumeConf → VolumeConf → Bool
are_twins v w = bytes_eq v.name w.name || (bytes_eq v.host w.host && (v.disk == w.disk))

-- the first volume that is the twin of an earlier one
abbrev pub twice_fault : (earlier volumes : List VolumeConf) → Option ConfigFault
twice_fault earlier [] = None
twice_fault earlier (v ∷ later) =
    if list_any (are_twins v) earlier then Some (Twice (length earlier) v.name)
    else twice_fault (earlier ++ v ∷ []) later

-- ---- Views

abbrev pub names_of : List VolumeConf → List (List ℕ)
names_of volumes = map (λ (v : VolumeConf). v.name) volumes

-- the number of the volume of this name
abbrev pub number_named : (names : List (List ℕ)) → List ℕ → Option ℕ
number_named names name = position (λ other. bytes_eq other name) names

abbrev pub is_known : (names : List (List ℕ)) → List ℕ → Bool
is_known names name = is_some (number_named names name)

-- the numbers of the volumes that a view names
abbrev pub numbers_named : (names view : List (List ℕ)) → List ℕ
numbers_named names view = map (λ name. unwrap_or (number_named names name) 0) view

abbrev pub stands_in : List ℕ → ℕ → Bool
stands_in ns n = list_any (λ m. m == n) ns

-- no number stands twice
abbrev pub are_apart : List ℕ → Bool
are_apart [] = true
are_apart (n ∷ ns) = not (stands_in ns n) && are_apart ns

-- the view of volume n names known volumes, not itself, and none twice
abbrev pub is_good_view : (names : List (List ℕ)) → (n : ℕ) → (view : List (List ℕ)) → Bool
is_good_view names n view =
    list_all (is_known names) view
    && (not (stands_in (numbers_named names view) n) && are_apart (numbers_named names view))

-- the first volume, from number n on, whose view isn't good
abbrev pub view_fault : (names : List (List ℕ)) → (n : ℕ) → List Members → Option ConfigFault
view_fault names n [] = None
view_fault names n (volume ∷ later) =
    if is_good_view names n (view_in volume) then view_fault names (n + 1) later
    else Some (BadView n (text_at Name volume))

-- ---- The document

-- the first fault of the volumes of these tables
abbrev pub tables_fault : List Members → Option ConfigFault
tables_fault tables =
    option_or (volumes_fault tables) (option_or (twice_fault [] (map volume_in tables))
    (view_fault (map (text_at Name) tables) 0 tables))

-- the first fault of a document
abbrev pub document_fault : Members → Option ConfigFault
document_fault document =
    option_or (first_fault document_keys document) (tables_fault (tables_in document))
