-- A list of entries with dead places: what is listed, and where.
use Rattle.std.specs.Prelude.{◌≡◌, ◌+◌, ◌==◌, ℕ, suc, Bool, not, List, [], ◌∷◌, map, filter, length, Option, None, Some, false, if◌then◌else◌}
use Rattle.wol_model.specs.Index.{AreRising}
use Rattle.redirect_map.specs.declared.entry.Entry.{Entry}
use Rattle.redirect_map.specs.Kept.{is_version}

-- what contracts see: the entries that keep a block, and for how many more there is room
pub record Listing : Type 0 where
  pub items : List Entry
  pub room : ℕ

-- the entry keeps a block, so its place isn't dead
abbrev pub is_listed : Entry → Bool
is_listed e = not (e.record.keep == 0)

-- the place of the first entry of this version
abbrev pub place_in : ℕ → List Entry → ℕ
place_in v [] = 0
place_in v (e ∷ es) = if is_version v e then 0 else suc (place_in v es)

-- what is so of all places
pub record ArePlaces (places : List Entry) (dead : ℕ) : Type 0 where
  pub rising : AreRising (map (λ e. e.record.version) places)
  pub counted : length (filter is_listed places) + dead ≡ length places

-- there is such a place, and it is dead
abbrev pub is_dead : Option Entry → Bool
is_dead None = false
is_dead (Some e) = e.record.keep == 0
