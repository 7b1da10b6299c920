-- What the images of a configuration say of one volume as they read: which segments it owns, and
-- what it recovers to.
use Rattle.std.specs.Prelude.{false, true, ◌≡◌, ◌≢◌, ◌⊎◌, ◌<◌, ◌+◌, ◌-◌, ℕ, Bool, List, ◌∷◌, length, map, Option, None, Some, is_some, not, slice_get, slice_range, Contains, All}
use Rattle.std.specs.List.{AllByRecursion}
use Rattle.wol_disk.specs.Disk.{Block, State, Values, IsImage}
use Rattle.wol_model.specs.Heads.{Shape, Owned as OwnedHead, owned_block}
use Rattle.wol_model.specs.Index.{Indexed}
use Rattle.wol_model.specs.Images.{Images, image_of, home_of, home_in, segment_of, segments_of, all_segments, accepted, recovered_from}
use Rattle.wol_model.specs.Log.{Record, IsLog}
use Rattle.wol_model.specs.Recovered.{recovered}
use Rattle.wol_bay.specs.Bay.{Image, Told, at_name}
use Rattle.wol_config.specs.declared.config.Config.{Config}
use Rattle.wol_config.specs.declared.config.VolumeConf.{VolumeConf}
use Rattle.wol_promise.specs.Manager.{Base}
use Rattle.wol_promise.specs.Stands.{next_version}
use Rattle.log_layout.specs.Values.{shape_of}
use Rattle.logger_view.specs.Stored.{HasView}
use Rattle.log_segment.specs.Kept.{IsKeptOrIdle}
use Rattle.spin_model.specs.Spun.{state_of}
use Rattle.manager.specs.declared.base.ManagerBase.{ManagerBase}
use Rattle.manager_recovery.specs.Left.{HasNothing}
use Rattle.manager_recovery.specs.Opened.{StandsInOwned}
use Rattle.manager_recovery.specs.Opening.{AreInOrder}
use Rattle.manager_recovery.specs.Owned.{IsListedOf, Owned, all_owned, read_of, records_in, writes_in, heads_in, AreIntact, HaveNoTwins}
use Rattle.manager_recovery.specs.declared.opening.Opening.{Opening}
use Rattle.volume_images.specs.Accepted.{HasHead, head_place}
use Rattle.volume_images.specs.Volumes.{shape_in, shapes_of, images_read, AreLeft, MayLeave}
use Rattle.rack_parts.specs.Rests.{image_here}
use Rattle.rack_parts.specs.declared.rack.ImageRest.{ImageRest}
use Rattle.wol_config.specs.Configs.{most_of}

-- the images as they read, where one that isn't out gives no segments
abbrev pub images_taken : {D : Type 0} → Config → List (Option (ImageRest D)) → Told → Images
images_taken config out t = accepted (λ k. not (is_some (image_here out k))) (images_read config t)

-- what volume v recovers to where refused images give no segments
abbrev pub recovered_but : List Shape → (refused : ℕ → Bool) → Images → (v : ℕ) → List Block
recovered_but shapes refused images v =
    recovered v (home_in (slice_get shapes v) (image_of images v))
    (all_segments shapes (accepted refused images))

-- no image that is refused has a log of volume v
abbrev pub HasNoLogIn : List Shape → (refused : ℕ → Bool) → Images → (v : ℕ) → Type 0
HasNoLogIn shapes refused images v = (k : ℕ) (s : Shape) → slice_get shapes k ≡ Some s
    → refused k ≡ true → AllByRecursion (λ bs. (rs : List Record) → IsLog bs v rs → ⊥)
    (segments_of s (image_of images k))

-- Volume v recovers to what it recovers to of the images before where refused images give no
-- segments; and where they give theirs, if it wasn't opened or they have no log of it.
pub record RecoversSame (config : Config) (refused : ℕ → Bool) (opened : Bool)
    (images before : Images) (v : ℕ) : Type 0 where
  pub but : recovered_but (shapes_of config) refused images v
      ≡ recovered_but (shapes_of config) refused before v
  pub all : (opened ≡ false) ⊎ HasNoLogIn (shapes_of config) refused images v
      → recovered_from (shapes_of config) images v ≡ recovered_from (shapes_of config) before v

-- of an image that isn't out a crash may leave only what it might have left before
abbrev pub HadRefused : {D : Type 0} → Config → List (Option (ImageRest D)) → (old new : Told)
    → Type 0
HadRefused config out old new =
    (k : ℕ) (v : VolumeConf) → slice_get config.volumes.items k ≡ Some v → image_here out k ≡ None
    → (c : Option (List Block)) → MayLeave (at_name v.name new.images) c
    → MayLeave (at_name v.name old.images) c

-- ---- The logs of a volume that wasn't opened

-- the blocks of a segment of an image
abbrev pub blocks_of_segment : Shape → Image → (index : ℕ) → List (Values Block)
blocks_of_segment s image i = slice_range image.blocks (head_place s i) (head_place s (i + 1))

-- they are a segment of volume v: each image of them says so
abbrev pub IsSegmentOf : (volumes v : ℕ) → List (Values Block) → Type 0
IsSegmentOf volumes v before = (c : List Block) → IsImage before c → HasHead volumes c (OwnedHead v)

-- a log of another volume
abbrev pub IsLogOfOther : (v : ℕ) → List Block → Type 0
IsLogOfOther v left = (w : ℕ) × (rs : List Record) × (w ≢ v) × IsLog left w rs

-- It is left as it might have been before. Or it might have been a log of records of the volume none
-- of which keeps a block: then it is left so, or free, or a log of another volume.
abbrev pub KeepsLog : (v : ℕ) → (before : List (Values Block)) → (left : List Block) → Type 0
KeepsLog v before left = IsImage before left
    ⊎ ((was : List Block) × (rs : List Record) × IsImage before was × HasNothing v rs was
    × (IsKeptOrIdle v rs left ⊎ IsLogOfOther v left))

-- Whatever images a crash leaves, each segment of volume v stays, block for block, but for logs that
-- have nothing; and a segment that is left as one of the volume was one before, so none is forged.
-- It is so also where the volume's own image isn't there.
abbrev pub KeepsLogs : Config → (v : ℕ) → (old new : Told) → Type 0
KeepsLogs config v old new =
    (images : Images) → AreLeft config new images
    → (k i : ℕ) (logger : VolumeConf) (before : Image) (blocks : List Block)
    → slice_get config.volumes.items k ≡ Some logger
    → at_name logger.name old.images ≡ Some before
    → image_of images k ≡ Some blocks → i < logger.segments
    → IsSegmentOf (length (shapes_of config)) v (blocks_of_segment (shape_in config logger) before i)
    ⊎ HasHead (length (shapes_of config)) (segment_of (shape_in config logger) blocks i)
    (OwnedHead v)
    → KeepsLog v (blocks_of_segment (shape_in config logger) before i)
    (segment_of (shape_in config logger) blocks i)

-- ---- What a volume owns

-- a segment of these images
pub record IsSegmentIn (shapes : List Shape) (images : Images) (o : Owned) : Type 0 where
  pub image : List Block
  pub shape : Shape
  pub there : image_of images o.logger ≡ Some image
  pub shape_is : slice_get shapes o.logger ≡ Some shape
  pub within : o.index < shape.segments
  pub blocks_are : o.blocks ≡ segment_of shape image o.index
  pub first_is : o.first ≡ head_place shape o.index

-- one that reads as owned by volume v
pub record IsOwnedIn (shapes : List Shape) (images : Images) (v : ℕ) (o : Owned) : Type 0 where
  pub segment : IsSegmentIn shapes images o
  pub rest : List Block
  pub owner : o.blocks ≡ owned_block v ∷ rest

-- all of these, by rising logger and index
pub record AreOwnedIn (shapes : List Shape) (images : Images) (v : ℕ) (os : List Owned) :
    Type 0 where
  pub in_order : AreInOrder (map (λ (o : Owned). (o.logger, o.index)) os)
  pub each : All (IsOwnedIn shapes images v) os
  pub all : (o : Owned) → IsOwnedIn shapes images v o → Contains os o

-- What a volume begins with: the array that these images recover to, its records in them that keep
-- blocks, and the version above all of theirs. None of its segments is damaged, and no two of its
-- records have one version; as many are listed, each of them one of these.
pub record IsBegun (config : Config) (images : Images) (b : Base) : Type 0 where
  pub array : b.array ≡ recovered_from (shapes_of config) images b.owner
  pub owned : List Owned
  pub are_owned : AreOwnedIn (shapes_of config) images b.owner owned
  pub intact : AreIntact b.owner b.home_blocks owned
  pub no_twins : HaveNoTwins (heads_in b.owner owned)
  pub records : b.records ≡ writes_in b.owner owned
  pub next : b.next ≡ next_version (records_in b.owner owned)
  pub listed : length b.look.listed ≡ length b.records
  pub found : AllByRecursion (IsListedOf b.owner b.view owned) b.look.listed
  pub view : (image : List Block) → image_of images b.owner ≡ Some image → HasView image b.view
  pub most : b.most ≡ most_of config

-- Each of these records of volume v stands where these images have it: in a segment that they have
-- as the volume's, on the logger of its lane, with its head at that position.
pub record StandAsRead (config : Config) (images : Images) (v : ℕ) (view : List ℕ)
    (es : List Indexed) : Type 0 where
  pub owned : List Owned
  pub are_owned : AreOwnedIn (shapes_of config) images v owned
  pub each : AllByRecursion (StandsInOwned v view owned) es

-- so do the records that a volume had listed when it was opened
abbrev pub BeganInPlace : Config → Images → ManagerBase → Type 0
BeganInPlace config images b =
    StandAsRead config images b.volume.began.owner b.volume.began.view b.volume.places

-- volume v was opened of the images that weren't refused, among them those of the loggers of its
-- view
pub record WasOpened (config : Config) (refused : ℕ → Bool) (entry : Told) (v : ℕ) : Type 0 where
  pub base : Base
  pub owner : base.owner ≡ v
  pub begun : IsBegun config (accepted refused (images_read config entry)) base
  pub loggers : AllByRecursion (λ l. refused l ≡ false) base.view

-- what volume v is opened of: what the configuration and these images say
pub record IsOpeningOf {D : Type 0} (state : D → State) (config : Config)
    (out : List (Option (ImageRest D))) (images : Images) (v : ℕ) (o : Opening D) : Type 0 where
  pub id : o.want.id ≡ v
  pub shape : slice_get (shapes_of config) v ≡ Some (shape_of o.want)
  pub label : o.label ≡ o.want
  pub view : (image : List Block) → image_of images v ≡ Some image → HasView image o.view
  pub present : o.present.items ≡ map (λ (i : Option (ImageRest D)). is_some i) out
  pub most : o.most ≡ most_of config
  pub home : (image : List Block) → image_of images v ≡ Some image
      → read_of (state_of state o.home) ≡ home_of (shape_of o.want) image
  pub owned : AreOwnedIn (shapes_of config) images v (all_owned state o.owned.items)
