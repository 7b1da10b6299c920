-- The names that volumes are printed by.
use Rattle.std.specs.Prelude.{ℕ, List, [], ◌∷◌, length, codes, slice_index_or}
use Rattle.wol_config.specs.declared.config.VolumeConf.{VolumeConf}
use Rattle.wol_config.specs.Documents.{names_of}

-- the names of volumes by their numbers; where no volumes are given, that of the one volume of
-- `solo`
abbrev pub printed_names : List VolumeConf → List (List ℕ)
printed_names [] = codes "solo" ∷ []
printed_names (v ∷ vs) = names_of (v ∷ vs)

-- the name of the volume with this number
abbrev pub name_at : (names : List (List ℕ)) → (number : ℕ) → List ℕ
name_at names number = slice_index_or names number []
