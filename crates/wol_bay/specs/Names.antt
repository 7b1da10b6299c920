-- Lists whose entries have names.
use Rattle.std.specs.Prelude.{List, map}
use Rattle.wol_bay.specs.Bay.{Name}

-- each entry under its name
abbrev pub by_name : {T : Type 0} → (T → Name) → List T → List (Name × T)
by_name name_of entries = map (λ e. (name_of e, e)) entries
