-- An image that a bay in memory keeps, as it is told.
use Rattle.std.specs.Prelude.{string_bytes}
use Rattle.wol_bay.specs.Bay.{Name, Image}
use Rattle.wol_bay.specs.Stored.{stored_blocks}
use Rattle.wol_bay.specs.declared.held.Image as held

abbrev pub named_image : held.Image → Name × Image
named_image i =
    (string_bytes i.name, record { blocks = stored_blocks i.parts.items; rest = i.rest.items })
