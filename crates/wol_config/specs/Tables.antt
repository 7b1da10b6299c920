-- What the values of arrays are, one by one.
use Rattle.std.specs.Prelude.{ℕ, List, map}
use Rattle.toml.specs.Data.{Members}
use Rattle.toml.specs.View.{view}
use Rattle.toml.specs.declared.value.Value.{Value}
use Rattle.wol_config.specs.declared.key.Key.TheVariants.{Name}
use Rattle.wol_config.specs.Documents.{members_of, text_of, text_at}

-- the members of each table
abbrev pub members_in : List Value → List Members
members_in tables = map (λ v. members_of (view v)) tables

-- the name in each table
abbrev pub names_in : List Value → List (List ℕ)
names_in tables = map (text_at Name) (members_in tables)

-- the bytes of each text
abbrev pub texts_in : List Value → List (List ℕ)
texts_in texts = map (λ v. text_of (view v)) texts
