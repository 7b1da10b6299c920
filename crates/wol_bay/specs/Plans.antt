-- The calls of parts that are to fail when their image is out next.
use Rattle.std.specs.Prelude.{ℕ, nat_eq, ◌&&◌, not, Bool, List, [], ◌∷◌, filter, string_bytes, if◌then◌else◌}
use Rattle.std.specs.Str.{bytes_eq}
use Rattle.wol_bay.specs.Bay.{Name}
use Rattle.wol_bay.specs.declared.plans.Plan.{Plan}

-- A call that is to fail when the image is out next.
pub record Planned : Type 0 where
  pub name : Name
  -- the place of the part
  pub part : ℕ
  pub call : ℕ

abbrev pub planned_of : Plan → Planned
planned_of p = record { name = string_bytes p.name; part = p.part; call = p.call }

-- it is for this part of this image
abbrev pub is_for : Name → ℕ → Planned → Bool
is_for name place p = bytes_eq p.name name && nat_eq p.part place

-- the calls of one part that are to fail
abbrev pub calls_for : Name → ℕ → List Planned → List ℕ
calls_for name place [] = []
calls_for name place (p ∷ ps) =
    if is_for name place p then p.call ∷ calls_for name place ps else calls_for name place ps

-- the plans for other images
abbrev pub plans_without : Name → List Planned → List Planned
plans_without name plans = filter (λ p. not (bytes_eq p.name name)) plans
