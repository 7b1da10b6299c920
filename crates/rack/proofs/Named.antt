-- Two parts of a volume that have one name are told alike.
use Rattle.std.proofs.Common.{◌≡◌, ℕ, refl}
use Rattle.manager.specs.Seen.{name_of}
use Rattle.manager.specs.declared.part.Part.{Part}
use Rattle.manager.specs.declared.part.Part.TheVariants as part
use Rattle.rack.specs.Closes.{part_named}
use Rattle.rack.specs.Troubles.{trouble_of_part}

pub named_alike : (v : ℕ) (p : Part) → trouble_of_part p ≡ trouble_of_part (part_named v (name_of p))
named_alike v (part.Home volume) = refl
named_alike v (part.Segment volume index) = refl
