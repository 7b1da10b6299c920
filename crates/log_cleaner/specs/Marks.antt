-- Marks of segments that may have live blocks.
use Rattle.std.specs.Prelude.{◌≡◌, ◌+◌, ◌*◌, ◌%◌, ℕ, Bool, true, false, List, slice_index_or}
use Rattle.std.specs.List.{AllByRecursion}
use Rattle.wol_model.specs.Index.{Indexed, listed_in, is_live}

-- which mark the segment of this index of this lane has
abbrev pub mark_of : (lane index : ℕ) → ℕ
mark_of lane index = (index + 257 * lane) % 4096

-- each record that has a live block lies in a segment that is marked
abbrev pub AreMarked : List Bool → List Indexed → Type 0
AreMarked marks es = AllByRecursion (λ e. (b : ℕ) → is_live (listed_in es) e.listed b ≡ true
    → slice_index_or marks (mark_of e.listed.lane e.index) false ≡ true) es
