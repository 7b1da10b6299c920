-- A bay in memory, as callers see it: it tells all.
use Rattle.std.specs.Prelude.{◌≡◌, ℕ, ◌+◌, List, [], ◌∷◌, Option, Some, map, flat_map, option_map, string_bytes, ⊤}
use Rattle.std.specs.Arc.{arc_value}
use Rattle.wol_disk.specs.Memory.{plan_of}
use Rattle.wol_disk.specs.Plan.{no_plan}
use Rattle.wol_disk.specs.Stop.{inner_of, fuse_of}
use Rattle.wol_disk.specs.declared.stop.Fuse.{Fuse}
use Rattle.wol_disk.specs.declared.stop.StopDisk.{StopDisk}
use Rattle.wol_disk.specs.declared.memory.MemDisk.{MemDisk}
pub use Rattle.wol_bay.specs.Held.{named_image}
use Rattle.wol_bay.specs.Plans.{Planned, planned_of, calls_for}
use Rattle.wol_bay.specs.Bay.{Name, each_place, BayState, Told}
use Rattle.wol_bay.specs.declared.held.Image as held
use Rattle.wol_bay.specs.declared.held.Leave.{Leave}
use Rattle.wol_bay.specs.declared.held.Faulty.{Faulty}
use Rattle.wol_bay.specs.declared.memory.MemBay.{MemBay}

abbrev pub named_sizes : Leave → Name × List ℕ
named_sizes l = (string_bytes l.name, l.sizes.items)

abbrev pub named_places : Faulty → List (Name × ℕ)
named_places f = each_place (string_bytes f.name) f.places.items

-- a part that has its plan, and the fuse of the bay
pub record IsArmed (name : Name) (place : ℕ) (plans : List Planned) (fuse : Option Fuse)
    (part : StopDisk MemDisk) : Type 0 where
  pub plan : plan_of (inner_of part) ≡ record no_plan { calls = calls_for name place plans }
  pub same_fuse : option_map arc_value (fuse_of part) ≡ fuse

-- parts that have theirs, the first at place k
abbrev pub AreArmed : Name → ℕ → List Planned → Option Fuse → List (StopDisk MemDisk) → Type 0
AreArmed name k plans fuse [] = ⊤
AreArmed name k plans fuse (part ∷ parts) =
    IsArmed name k plans fuse part × AreArmed name (k + 1) plans fuse parts

abbrev pub plans_of : MemBay → List Planned
plans_of b = map planned_of b.plans.items

-- the fuse for what goes out
abbrev pub bay_fuse : MemBay → Option Fuse
bay_fuse b = option_map arc_value b.fuse

-- what such a bay tells
abbrev pub told_of : List held.Image → List Leave → List Faulty → Told
told_of images out faulty = record {
  images = map named_image images;
  out = map named_sizes out;
  faulty = flat_map named_places faulty;
}

abbrev pub mem_bay_state : MemBay → BayState
mem_bay_state b =
    record { told = Some (told_of b.images.items b.out.items b.faulty.items); faults = b.faults }
