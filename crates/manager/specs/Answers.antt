-- The operation that an answer stands for, and where a write goes.
use Rattle.std.specs.Prelude.{⊤, ◌≡◌, ℕ, List, [], ◌∷◌, Some, Result, Ok, Err, slice_get}
use Rattle.wol_disk.specs.Disk.{Block}
use Rattle.wol_model.specs.Blocks.{Write}
use Rattle.wol_model.specs.History.{Operation, Wrote, Read, Kept, Broke}
use Rattle.wol_model.specs.Placing.{Home as AtHome, Log as InLog, Full as Nowhere}
use Rattle.manager.specs.declared.part.Part.{Part}
use Rattle.manager.specs.declared.part.Place.{Place}
use Rattle.manager.specs.declared.part.Sources.{Sources}
use Rattle.manager.specs.declared.part.ReadRefusal.{ReadRefusal}
use Rattle.manager.specs.declared.part.WriteRefusal.{WriteRefusal}
use Rattle.manager.specs.declared.part.WriteRefusal.TheVariants.{Full, DiskFault, Down, VersionsSpent, NoMemory}
use Rattle.wol_model.specs.Placing as placing
use Rattle.manager.specs.declared.part.Part.TheVariants as part
use Rattle.manager.specs.declared.part.Place.TheVariants as place
use Rattle.manager.specs.declared.part.ReadRefusal.TheVariants as refused_read
pub use Rattle.volume_parts.specs.Items.{home_write, log_write}

-- the write whose part failed: to a log where that is a segment, and home else
abbrev pub failed_write : (next first : ℕ) → List Block → Part → Write
failed_write next first blocks (part.Home volume) = home_write first blocks
failed_write next first blocks (part.Segment volume index) = log_write next first blocks

-- what a write with this answer leaves in the history
abbrev pub written : (next first : ℕ) → List Block → Result Place WriteRefusal → Operation
written next first blocks (Ok place.Home) = Wrote (home_write first blocks ∷ [])
written next first blocks (Ok (place.Log logger)) = Wrote (log_write next first blocks ∷ [])
written next first blocks (Err (DiskFault p)) = Broke (failed_write next first blocks p ∷ [])
written next first blocks (Err Full) = Kept
written next first blocks (Err (Down p)) = Kept
written next first blocks (Err VersionsSpent) = Kept
written next first blocks (Err NoMemory) = Kept

-- what a read with this answer leaves
abbrev pub was_read : (first : ℕ) → (reply : List Block) → Result Sources ReadRefusal → Operation
was_read first reply (Ok sources) = Read first reply
was_read first reply (Err (refused_read.DiskFault p)) = Broke []
was_read first reply (Err (refused_read.Down p)) = Kept

-- the place that an answer tells is this one of the rule; loggers go by their place in the view
abbrev pub IsPlaceOf : (view : List ℕ) → Result Place WriteRefusal → placing.Place → Type 0
IsPlaceOf view (Ok place.Home) p = p ≡ AtHome
IsPlaceOf view (Ok (place.Log logger)) p =
    (lane : ℕ) × (slice_get view lane ≡ Some logger) × (p ≡ InLog lane)
IsPlaceOf view (Err Full) p = p ≡ Nowhere
IsPlaceOf view (Err (DiskFault (part.Home volume))) p = p ≡ AtHome
IsPlaceOf view (Err (DiskFault (part.Segment logger index))) p =
    (lane : ℕ) × (slice_get view lane ≡ Some logger) × (p ≡ InLog lane)
IsPlaceOf view (Err (Down d)) p = ⊤
IsPlaceOf view (Err VersionsSpent) p = ⊤
IsPlaceOf view (Err NoMemory) p = ⊤
