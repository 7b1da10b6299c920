-- The image that a format leaves of a volume, by its parts.
use Rattle.std.specs.Prelude.{◌≡◌, ◌⊎◌, ◌-◌, ◌+◌, ℕ, List, [], ◌∷◌, replicate, slice_get, Some}
use Rattle.wol_disk.specs.Disk.{Block}
use Rattle.wol_disk.specs.Zeros.{zeros, zero_block}
use Rattle.wol_model.specs.Heads.{Shape, label_block, view_block, free_block}
use Rattle.volume_images.specs.Settled.{joined_blocks}
use Rattle.volume_images.specs.declared.fault.PartName.{PartName}
use Rattle.volume_images.specs.declared.fault.PartName.TheVariants.{Bay, Label, Home, Segment}

-- the sizes of an image's parts in blocks: label and view, home, and each segment
abbrev pub part_sizes : Shape → List ℕ
part_sizes s = 2 ∷ s.home ∷ replicate s.segments s.segment_blocks

-- the place of a part among them; the bay is none of them
abbrev pub place_of : PartName → ℕ
place_of Bay = 0
place_of Label = 0
place_of Home = 1
place_of (Segment index) = 2 + index

-- the parts as a bay hands them out
abbrev pub blank_parts : Shape → List (List Block)
blank_parts s = zeros 2 ∷ zeros s.home ∷ replicate s.segments (zeros s.segment_blocks)

-- a free segment: its head, and zeros
abbrev pub free_segment : (blocks : ℕ) → List Block
free_segment blocks = free_block ∷ zeros (blocks - 1)

-- the parts of a whole formatted image: label and view, a home of zeros, and free segments
abbrev pub formatted_parts : (id : ℕ) → Shape → (ids : List ℕ) → List (List Block)
formatted_parts id s ids = (label_block id s ∷ view_block ids ∷ []) ∷ zeros s.home
    ∷ replicate s.segments (free_segment s.segment_blocks)

-- a whole formatted image of volume `id`
unfoldable pub formatted : (id : ℕ) → Shape → (ids : List ℕ) → List Block
formatted id s ids = joined_blocks (formatted_parts id s ids)

-- block 0 is zero, so the image has no label
abbrev pub HasZeroLabel : List Block → Type 0
HasZeroLabel c = slice_get c 0 ≡ Some zero_block

-- what a stop within a format leaves of an image
abbrev pub IsUnlabelledOrFormatted : (id : ℕ) → Shape → (ids : List ℕ) → List Block → Type 0
IsUnlabelledOrFormatted id s ids c = HasZeroLabel c ⊎ (c ≡ formatted id s ids)
