-- What a bay tells, and what its calls do to that.
use Rattle.std.specs.Prelude.{◌≡◌, ◌*◌, ◌/◌, ℕ, drop, ◌+◌, List, [], ◌∷◌, ◌++◌, length, map, Option, None, Some, option_map, IfSome, IsSome, if◌then◌else◌}
use Rattle.std.specs.Simd.{first_chunks}
use Rattle.std.specs.Str.{bytes_eq}
use Rattle.wol_disk.specs.Disk.{Block, Values, only}
use Rattle.wol_disk.specs.Record.{chosen}

-- the bytes of an image's name
abbrev pub Name : Type 0
Name = List ℕ

-- An image that is in the bay: the values of its blocks since the last sync, and the bytes behind
-- its last block.
pub record Image : Type 0 where
  pub blocks : List (Values Block)
  pub rest : List ℕ

-- its length in bytes
abbrev pub byte_length : Image → ℕ
byte_length i = 512 * length i.blocks + length i.rest

-- What a bay tells: its images, the names that are out with the sizes of their parts, and the parts
-- that came back with a fault, each by its name and place.
pub record Told : Type 0 where
  pub images : List (Name × Image)
  pub out : List (Name × List ℕ)
  pub faulty : List (Name × ℕ)

-- A bay at one moment, and its count of faults.
pub record BayState : Type 0 where
  pub told : Option Told
  pub faults : ℕ

-- what stands under a name
abbrev pub at_name : {A : Type 0} → Name → List (Name × A) → Option A
at_name name [] = None
at_name name (e ∷ es) = if bytes_eq e.0 name then Some e.1 else at_name name es

-- the entries without that name's
abbrev pub without : {A : Type 0} → Name → List (Name × A) → List (Name × A)
without name [] = []
without name (e ∷ es) = if bytes_eq e.0 name then es else e ∷ without name es

-- no two entries have one name
abbrev pub AreApart : {A : Type 0} → List (Name × A) → Type 0
AreApart es = (name : Name) → at_name name (without name es) ≡ None

-- no two images have one name
abbrev pub AreNamedApart : Told → Type 0
AreNamedApart t = AreApart t.images

-- the names that are out, where they are told
abbrev pub outs : BayState → Option (List (Name × List ℕ))
outs b = option_map (λ t. t.out) b.told

-- the name isn't out
abbrev pub IsHome : Name → BayState → Type 0
IsHome name b = IfSome b.told (λ t. at_name name t.out ≡ None)

-- the name is out with parts of these sizes
abbrev pub IsOut : Name → List ℕ → BayState → Type 0
IsOut name sizes b = IfSome b.told (λ t. at_name name t.out ≡ Some sizes)

-- an image has the name
abbrev pub Holds : Name → BayState → Type 0
Holds name b = IfSome b.told (λ t. IsSome (at_name name t.images))

-- an image is gone for good
abbrev pub removed : Name → Told → Told
removed name t = record t { images = without name t.images }

-- this image stands under the name, whatever stood there
abbrev pub with_image : Name → Image → Told → Told
with_image name i t = record t { images = without name t.images ++ (name, i) ∷ [] }

-- the image that these bytes are: their whole blocks, the same in every image of the disk, and the
-- bytes behind the last
abbrev pub image_of : List ℕ → Image
image_of bytes = record {
  blocks = only (first_chunks 512 (length bytes / 512) bytes);
  rest = drop (length bytes / 512 * 512) bytes;
}

-- one of the images that a crash may leave: of each block one value, by the number that is chosen
-- for it
abbrev pub crashed : List ℕ → Image → Image
crashed choice i = record i { blocks = only (chosen choice i.blocks) }

abbrev pub restarted_as : Name → List ℕ → Option Image → Told → Told
restarted_as name choice None t = t
restarted_as name choice (Some i) t = with_image name (crashed choice i) t

-- the image of a name is left so
abbrev pub restarted : Name → List ℕ → Told → Told
restarted name choice t = restarted_as name choice (at_name name t.images) t

-- an image went out
abbrev pub sent_out : Name → List ℕ → Told → Told
sent_out name sizes t =
    record { images = without name t.images; out = t.out ++ (name, sizes) ∷ []; faulty = t.faulty }

-- the images with this one, where its blocks are told
abbrev pub stored : Name → Option (List (Values Block)) → List (Name × Image) → List (Name × Image)
stored name None images = without name images
stored name (Some vs) images = without name images ++ (name, record { blocks = vs; rest = [] }) ∷ []

-- parts of an image, by their places
abbrev pub each_place : Name → List ℕ → List (Name × ℕ)
each_place name places = map (λ place. (name, place)) places

-- an image came back, with faults at these places
abbrev pub came_back : Name → Option (List (Values Block)) → List ℕ → Told → Told
came_back name blocks places t = record {
  images = stored name blocks t.images;
  out = without name t.out;
  faulty = t.faulty ++ each_place name places;
}
