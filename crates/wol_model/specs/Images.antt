-- Images of volumes: their parts, what each volume recovers to, and which choices of images are
-- sound.
use Rattle.std.specs.Prelude.{◌≡◌, ◌≢◌, ◌<◌, ◌≤◌, ◌*◌, ℕ, ◌+◌, Bool, List, [], ◌∷◌, ◌++◌, map, Option, None, Some, length, slice_get, slice_range, Contains, ◌==◌, if◌then◌else◌, unwrap_or}
use Rattle.std.specs.List.{AllByRecursion, range_with_len}
use Rattle.wol_disk.specs.Disk.{Block}
use Rattle.wol_model.specs.Heads.{Shape, SpellsLabel, SpellsView}
use Rattle.wol_model.specs.Extents.{AreDistinct, covers_of}
use Rattle.wol_model.specs.Log.{Record, IsIdle, IsLog}
use Rattle.wol_model.specs.Recovered.{extents_of, recovered}

-- ---- The parts of an image: label and view, home, and the segments one after another

-- the number of blocks of an image
abbrev pub image_size : Shape → ℕ
image_size s = 2 + s.home + s.segments * s.segment_blocks

-- home: the blocks behind label and view
abbrev pub home_of : Shape → List Block → List Block
home_of s image = slice_range image 2 (2 + s.home)

-- segment `index`: so many blocks, one segment behind the other
abbrev pub segment_of : Shape → List Block → (index : ℕ) → List Block
segment_of s image i =
    slice_range image (2 + s.home + i * s.segment_blocks) (2 + s.home + (i + 1) * s.segment_blocks)

-- an image that isn't there or has another length gives no segments
abbrev pub segments_of : Shape → Option (List Block) → List (List Block)
segments_of s None = []
segments_of s (Some image) = if length image == image_size s
    then map (segment_of s image) (range_with_len 0 s.segments) else []

-- one choice of images: for each configured volume its image, if it is there
abbrev pub Images : Type 0
Images = List (Option (List Block))

-- the image of a volume, if it is there
abbrev pub image_of : Images → (volume : ℕ) → Option (List Block)
image_of images v = unwrap_or (slice_get images v) None

-- the same without the images that were refused
abbrev pub accepted_from : (volume : ℕ) → (refused : ℕ → Bool) → Images → Images
accepted_from v refused [] = []
accepted_from v refused (image ∷ images) =
    (if refused v then None else image) ∷ accepted_from (v + 1) refused images

-- the same from volume 0 on
abbrev pub accepted : (refused : ℕ → Bool) → Images → Images
accepted refused images = accepted_from 0 refused images

-- the segments of all images, in order
abbrev pub all_segments : List Shape → Images → List (List Block)
all_segments [] images = []
all_segments (s ∷ shapes) [] = []
all_segments (s ∷ shapes) (image ∷ images) = segments_of s image ++ all_segments shapes images

-- the image of home, empty where there is no image
abbrev pub home_in : Option Shape → Option (List Block) → List Block
home_in None image = []
home_in (Some s) None = []
home_in (Some s) (Some image) = home_of s image

-- the array of volume v
unfoldable pub recovered_from : List Shape → Images → (v : ℕ) → List Block
recovered_from shapes images v =
    recovered v (home_in (slice_get shapes v) (image_of images v)) (all_segments shapes images)

-- ---- Sound images

-- a view of configured volumes other than its own
abbrev pub NamesOthers : (volumes own : ℕ) → (ids : List ℕ) → Type 0
NamesOthers volumes own ids = AllByRecursion (λ id. (id < volumes) × (id ≢ own)) ids

-- a segment is idle, or a log of a volume whose view names this logger, with records that lie in
-- that volume
pub data IsSoundSegment (shapes : List Shape) (views : List (List ℕ)) (logger : ℕ)
    (bs : List Block) : Type 0 where
  idle : IsIdle bs → IsSoundSegment shapes views logger bs
  log : (owner : ℕ) (s : Shape) (ids : List ℕ) (rs : List Record) → slice_get shapes owner ≡ Some s
      → slice_get views owner ≡ Some ids → Contains ids logger
      → IsLog bs owner rs → AllByRecursion (λ r. r.head.first + r.head.count ≤ s.home) rs
      → IsSoundSegment shapes views logger bs

-- an image has its volume's length, label and view, and each of its segments is sound
pub record IsSoundImage (shapes : List Shape) (views : List (List ℕ)) (v : ℕ) (s : Shape)
    (ids : List ℕ) (image : List Block) : Type 0 where
  pub sized : length image ≡ image_size s
  pub label : (block : Block) × (slice_get image 0 ≡ Some block) × SpellsLabel block v s
  pub view : (block : Block) × (slice_get image 1 ≡ Some block) × SpellsView block ids
      × NamesOthers (length shapes) v ids
  pub segments : AllByRecursion (IsSoundSegment shapes views v) (segments_of s (Some image))

-- a choice of images is sound where each volume's image is there and sound, and no two valid
-- records of a volume have one version
pub record AreSound (shapes : List Shape) (images : Images) : Type 0 where
  pub views : List (List ℕ)
  pub each : (v : ℕ) (s : Shape) → slice_get shapes v ≡ Some s
      → (image : List Block) × (ids : List ℕ) × (slice_get images v ≡ Some (Some image))
      × (slice_get views v ≡ Some ids) × IsSoundImage shapes views v s ids image
  pub distinct : (v : ℕ) → v < length shapes
      → AreDistinct (covers_of (extents_of v (all_segments shapes images)))
