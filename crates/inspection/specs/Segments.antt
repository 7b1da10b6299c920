-- The segments in which the records of an index lie.
use Rattle.std.specs.Prelude.{◌≡◌, ℕ, ◌==◌, ◌&&◌, Bool, List, [], ◌∷◌, ◌++◌, length, if◌then◌else◌}
use Rattle.std.specs.List.{IsDistinct, list_any}
use Rattle.std.specs.Set.{is_member}
use Rattle.wol_model.specs.Index.{Indexed}

-- the lane of a record, and the index of its segment there
abbrev pub place_of : Indexed → ℕ × ℕ
place_of e = (e.listed.lane, e.index)

abbrev pub is_same_place : (p q : ℕ × ℕ) → Bool
is_same_place p q = (p.0 == q.0) && (p.1 == q.1)

-- so many different places stand in a list
pub record HasDifferent (places : List (ℕ × ℕ)) (count : ℕ) : Type 0 where
  pub different : List (ℕ × ℕ)
  pub apart : IsDistinct is_same_place different
  pub same : (p : ℕ × ℕ) → is_member is_same_place different p ≡ is_member is_same_place places p
  pub counted : count ≡ length different

-- a list of places with one more, unless it is there
abbrev pub noted : (places : List (ℕ × ℕ)) → (p : ℕ × ℕ) → List (ℕ × ℕ)
noted places p = if list_any (is_same_place p) places then places else places ++ p ∷ []
