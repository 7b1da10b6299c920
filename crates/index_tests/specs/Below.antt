-- Indexes of which a test knows the versions and the lanes.
use Rattle.std.specs.Prelude.{◌<◌, ℕ, List}
use Rattle.std.specs.List.{AllByRecursion}
use Rattle.wol_model.specs.Index.{Indexed}

-- all versions are below `next`, and there are three lanes
abbrev pub AreBelow : ℕ → List Indexed → Type 0
AreBelow next es = AllByRecursion (λ e. (e.listed.version < next) × (e.listed.lane < 3)) es
