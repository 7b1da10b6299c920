-- What became of a lane that was offered a write.
use Rattle.std.specs.Prelude.{◌≡◌, ℕ, List, slice_get, Some}
use Rattle.manager.specs.declared.part.Part.{Part}
use Rattle.manager.specs.declared.part.Part.TheVariants as part
pub use Rattle.volume_parts.specs.Offers.{IsTurnedAway, HasTakenWrite, ChangesLane}

-- a segment of the logger at this place of the view
abbrev pub IsOn : (view : List ℕ) → (lane : ℕ) → Part → Type 0
IsOn view lane (part.Home volume) = ⊥
IsOn view lane (part.Segment logger index) = slice_get view lane ≡ Some logger
