-- The parts that no manager and no pool has are no logs of the volumes that are open.
use Rattle.std.specs.Prelude.{◌≡◌, ℕ, List, Some, Contains}
use Rattle.wol_disk.specs.Disk.{Block, State, TellsContent, IsImageOf}
use Rattle.wol_model.specs.Log.{Record, IsLog}
use Rattle.spin_model.specs.Spun.{state_of}
use Rattle.spin_model.specs.declared.spun.Spun.{Spun}
use Rattle.manager.specs.declared.base.ManagerBase.{ManagerBase}
use Rattle.rack_parts.specs.Rests.{image_here, segment_here, held_here}
use Rattle.rack_parts.specs.declared.rack.ImageRest.{ImageRest}
use Rattle.rack_parts.specs.declared.rack.Rest.{Rest}

-- where all disks tell their content: none of its images is a log of a volume with a manager
abbrev pub IsForeign : {D : Type 0} → (D → State) → List ManagerBase → Spun D → Type 0
IsForeign {D} state bases p = ((d : D) → TellsContent (state d))
    → (c : List Block) (b : ManagerBase) (rs : List Record) → IsImageOf (state_of state p).values c
    → Contains bases b → IsLog c b.volume.began.owner rs → ⊥

-- the segments that are here, in their places or with a lane's list
pub record AreForeign {D : Type 0} (state : D → State) (bases : List ManagerBase) (r : Rest D) :
    Type 0 where
  pub places : (k i : ℕ) (image : ImageRest D) (p : Spun D)
      → image_here r.images.items k ≡ Some image → segment_here image i ≡ Some p
      → IsForeign state bases p
  pub held : (v k i : ℕ) (p : Spun D) → Contains (held_here r v k) (i, p) → IsForeign state bases p
