-- The images that were taken out, what they say, and how far their volumes are opened. `state` is
-- that of a part's disk.
use Rattle.std.specs.Prelude.{true, ◌≡◌, ◌≢◌, ◌⊎◌, ◌≤◌, ◌<◌, ◌+◌, ◌++◌, ◌↔◌, ℕ, Bool, List, [], map, length, vec_capacity, Option, None, Some, is_some, option_map, slice_get, slice_index_or, slice_range, Contains, IsTrue, All}
use Rattle.std.specs.Option.{option_map_or}
use Rattle.wol_disk.specs.Disk.{Block, State, TellsContent, IsImageOf, reads}
use Rattle.wol_model.specs.Heads.{Shape}
use Rattle.wol_model.specs.Images.{image_size}
use Rattle.wol_promise.specs.Manager.{SaysOwnerOrFree}
use Rattle.wol_bay.specs.Bay.{Name, Image, Told, BayState, at_name, outs, sent_out}
use Rattle.wol_config.specs.declared.config.Config.{Config}
use Rattle.wol_config.specs.declared.config.VolumeConf.{VolumeConf}
use Rattle.turn_lock.specs.Passes.{lock_id, pass_lock, pass_number, pass_mine}
use Rattle.turn_lock.specs.declared.lock.TurnLock.{TurnLock}
use Rattle.turn_lock.specs.declared.pass.PassOf.{PassOf}
use Rattle.log_layout.specs.Values.{segment_head}
use Rattle.log_layout.specs.declared.segment.SegHead.{SegHead}
use Rattle.log_layout.specs.declared.segment.SegHead.TheVariants.{Free, Owned}
use Rattle.log_segment.specs.declared.free.FreeSegment.{FreeSegment}
use Rattle.seg_pool.specs.Operations.{holds}
use Rattle.seg_pool.specs.Holders.{holder}
use Rattle.seg_pool.specs.declared.base.PoolBase.{PoolBase}
use Rattle.seg_pool.specs.declared.pool.Pool.{Pool}
use Rattle.spin_model.specs.Spun.{state_of}
use Rattle.spin_model.specs.declared.spun.Spun.{Spun}
use Rattle.manager.specs.declared.station.Station.{Station}
use Rattle.manager_recovery.specs.Owned.{read_of}
use Rattle.volume_images.specs.Accepted.{HasHead, IsConfigured, IsAccepted, head_place}
use Rattle.volume_images.specs.Formatted.{part_sizes}
use Rattle.volume_images.specs.Left.{IsTold}
use Rattle.volume_images.specs.Volumes.{shape_in, shapes_of, MayLeave}
use Rattle.rack_parts.specs.Rests.{image_here, segment_here, pool_pass, held_here, IsImageOut, IsImageRest, out_names}
use Rattle.rack_parts.specs.Locks.{AreSpindlesOf}
use Rattle.rack_parts.specs.Parts.{holder_by, IsIssuedPool, Supplies, IsOwnedPlace, segment_in}
use Rattle.rack_parts.specs.Racks.{IsClosable, NamesVolumes, AreUnused, KeepToViews}
use Rattle.rack_parts.specs.Closing.{IsComplete}
use Rattle.rack.specs.BayRuns.{QuietRun}
use Rattle.rack.specs.Opens.{HadBefore, IsAsRead, BeganWith, HasFaulty, KeepsOthers, KeepsAllSound, KeepsViews, LeavesAll, RefusesVolume}
use Rattle.rack.specs.declared.all.Taken.{Taken}
use Rattle.rack_parts.specs.declared.heads_said.Said.{Said}
use Rattle.rack.specs.declared.images.Images.{Images}
use Rattle.rack_parts.specs.declared.locks.Issued.{Issued}
use Rattle.rack_parts.specs.declared.rack.ImageRest.{ImageRest}
use Rattle.rack_parts.specs.declared.rack.Rack.{Rack}
use Rattle.rack_parts.specs.declared.rack.Rest.{Rest}
use Rattle.manager.specs.declared.part.Part.{Part}
use Rattle.manager.specs.declared.part.Part.TheVariants.{Home, Segment}
use Rattle.manager_recovery.specs.declared.refusal.OpenRefusal.TheVariants.{DiskFault}
use Rattle.rack_parts.specs.declared.volume_fault.VolumeFault.{VolumeFault}
use Rattle.rack_parts.specs.declared.volume_fault.VolumeFault.TheVariants.{Refused}

-- ---- One image that is out

-- every image that the segment may have begins with this head, which is configured
abbrev pub AlwaysSays : {D : Type 0} → (D → State) → (volumes : ℕ) → Spun D → SegHead → Type 0
AlwaysSays state volumes p h =
    (c : List Block) → IsImageOf (state_of state p).values c → HasHead volumes c (segment_head h)

-- what the image of volume k says: a view without the volume itself, and configured heads
pub record IsSaidOf (volumes k : ℕ) (s : Shape) (said : Said) : Type 0 where
  pub others : Contains said.view k → ⊥
  pub count : length said.heads.items ≡ s.segments
  pub configured : (i : ℕ) (h : SegHead) → slice_get said.heads.items i ≡ Some h
      → IsConfigured volumes (segment_head h)

-- the segments that are here have these heads
abbrev pub HaveHeads : {D : Type 0} → (D → State) → (volumes : ℕ) → Said → ImageRest D → Type 0
HaveHeads {D} state volumes said r = (i : ℕ) (p : Spun D) (h : SegHead) → segment_here r i ≡ Some p
    → slice_get said.heads.items i ≡ Some h → AlwaysSays state volumes p h

-- a part of the image at entry: it reads as these blocks do, and has no image that they hadn't
pub record IsCutOf {D : Type 0} (state : D → State) (i : Image) (first behind : ℕ) (p : Spun D) :
    Type 0 where
  pub reads_as : read_of (state_of state p) ≡ slice_range (reads i.blocks) first behind
  pub had : HadBefore state i first behind p

-- what the image at entry says as it reads
pub record SaysOf (volumes k : ℕ) (s : Shape) (i : Image) (said : Said) : Type 0 where
  pub whole : i.rest ≡ []
  pub size : length i.blocks ≡ image_size s
  pub accepted :
      IsAccepted volumes k s (reads i.blocks) said.view (map segment_head said.heads.items)

-- the parts that are here are cut from the image at entry
pub record AreCutOf {D : Type 0} (state : D → State) (s : Shape) (i : Image) (r : ImageRest D) :
    Type 0 where
  pub label : IsAsRead state i 0 2 r.label
  pub home : (p : Spun D) → r.home ≡ Some p → IsCutOf state i 2 (2 + s.home) p
  pub segments : (j : ℕ) (p : Spun D) → segment_here r j ≡ Some p
      → IsCutOf state i (head_place s j) (head_place s (j + 1)) p

-- ---- The images that were asked for, in order

-- what the image of volume k says, where it is out
abbrev pub said_at : List (Option Said) → (k : ℕ) → Option Said
said_at said k = slice_index_or said k None

-- the view that it says then
abbrev pub view_at : List (Option Said) → (k : ℕ) → List ℕ
view_at said k = option_map_or (λ (s : Said). s.view) (said_at said k) []

abbrev pub fault_at : List (Option VolumeFault) → (k : ℕ) → Option VolumeFault
fault_at faults k = slice_index_or faults k None

-- the image of volume k was refused for this
pub record IsRefused {D : Type 0} (tells : Bool) (state : D → State) (config : Config)
    (b b' : BayState) (k : ℕ) (v : VolumeConf) (i : Images D) : Type 0 where
  pub unsaid : said_at i.said.items k ≡ None
  pub fault : VolumeFault
  pub fault_is : fault_at i.faults.items k ≡ Some fault
  pub refuses : RefusesVolume {D = D} tells state config [] b b' k v fault

-- the image of volume k is out, and all of it is here
pub record IsOut {D : Type 0} (state : D → State) (volumes k : ℕ) (s : Shape) (i : Images D)
    (r : ImageRest D) : Type 0 where
  pub said : Said
  pub said_is : said_at i.said.items k ≡ Some said
  pub no_fault : fault_at i.faults.items k ≡ None
  pub rest : IsImageRest state k s r
  pub all : IsComplete r
  pub says : IsSaidOf volumes k s said
  pub heads : HaveHeads state volumes said r

-- the image of volume k as it was at entry
pub record WasAtEntry {D : Type 0} (state : D → State) (config : Config) (t : Told) (k : ℕ)
    (v : VolumeConf) (said : Said) (r : ImageRest D) : Type 0 where
  pub image : Image
  pub there : at_name v.name t.images ≡ Some image
  pub says : SaysOf (length (shapes_of config)) k (shape_in config v) image said
  pub cut : AreCutOf state (shape_in config v) image r

-- the first n images were asked for
pub record AreAsked {D : Type 0} (tells : Bool) (state : D → State) (config : Config)
    (b b' : BayState) (n : ℕ) (i : Images D) : Type 0 where
  pub said_count : length i.said.items ≡ n
  pub out_count : length i.out.items ≡ n
  pub fault_count : length i.faults.items ≡ n
  pub refused : (k : ℕ) (v : VolumeConf) → k < n → slice_get config.volumes.items k ≡ Some v
      → image_here i.out.items k ≡ None → IsRefused tells state config b b' k v i
  pub out : (k : ℕ) (s : Shape) (r : ImageRest D) → slice_get (shapes_of config) k ≡ Some s
      → image_here i.out.items k ≡ Some r → IsOut state (length (shapes_of config)) k s i r
  pub entry : IsTrue tells → (t : Told) → b.told ≡ Some t
      → (k : ℕ) (v : VolumeConf) (said : Said) (r : ImageRest D)
      → slice_get config.volumes.items k ≡ Some v
      → said_at i.said.items k ≡ Some said → image_here i.out.items k ≡ Some r
      → WasAtEntry state config t k v said r

-- ---- The bay meanwhile

-- the image of this name may be left only as before, and those of others are as they were
pub record StayedAs (name : Name) (old new : Told) : Type 0 where
  pub here : (c : Option (List Block)) → MayLeave (at_name name new.images) c
      → MayLeave (at_name name old.images) c
  pub others : (other : Name) → other ≢ name → at_name other new.images ≡ at_name other old.images
  pub faulty : HasFaulty old new

-- the next image went out, and all of it is here
pub record IsNextOpened {D : Type 0} (tells : Bool) (state : D → State) (config : Config) (k : ℕ)
    (v : VolumeConf) (b b' : BayState) (said : Said) (r : ImageRest D) : Type 0 where
  pub rest : IsImageRest state k (shape_in config v) r
  pub all : IsComplete r
  pub says : IsSaidOf (length (shapes_of config)) k (shape_in config v) said
  pub heads : HaveHeads state (length (shapes_of config)) said r
  pub sent : b'.told ≡ option_map (sent_out v.name (part_sizes (shape_in config v))) b.told
  pub counts : b.faults ≤ b'.faults
  pub entry : IsTrue tells → (t : Told) → b.told ≡ Some t → WasAtEntry state config t k v said r

-- the next image was refused for this, and is in the bay
pub record IsNextRefused {D : Type 0} (tells : Bool) (state : D → State) (config : Config) (k : ℕ)
    (v : VolumeConf) (b b' : BayState) (fault : VolumeFault) : Type 0 where
  pub refuses : RefusesVolume {D = D} tells state config [] b b' k v fault
  pub outs : outs b' ≡ outs b
  pub left : IsTold (StayedAs v.name) b.told b'.told
  pub counts : b.faults ≤ b'.faults

-- nothing was taken out
pub record IsBackAtOnce (b b' : BayState) : Type 0 where
  pub outs : outs b' ≡ outs b
  pub same : IsTold (λ old new. new ≡ old) b.told b'.told
  pub counts : b.faults ≤ b'.faults

-- of no image may a crash leave more than before
abbrev pub LeavesNoMore : (old new : Told) → Type 0
LeavesNoMore old new = (name : Name) (c : Option (List Block))
    → MayLeave (at_name name new.images) c → MayLeave (at_name name old.images) c

-- the first n images of the configuration were asked for: those that aren't out may be left only as
-- before, and the further ones are as they were
pub record StayedSo {D : Type 0} (config : Config) (out : List (Option (ImageRest D))) (n : ℕ)
    (old new : Told) : Type 0 where
  pub stayed : (name : Name) → ((k : ℕ) (v : VolumeConf) → IsImageOut out k
      → slice_get config.volumes.items k ≡ Some v → v.name ≡ name → ⊥)
      → (c : Option (List Block)) → MayLeave (at_name name new.images) c
      → MayLeave (at_name name old.images) c
  pub further : (k : ℕ) (v : VolumeConf) → n ≤ k → slice_get config.volumes.items k ≡ Some v
      → at_name v.name new.images ≡ at_name v.name old.images
  pub faulty : HasFaulty old new
  pub unfaulty : ((k : ℕ) → k < n → IsImageOut out k) → new.faulty ≡ old.faulty
  pub others : KeepsOthers config old new

-- the bay while the first n images were asked for
pub record HasSentOut {D : Type 0} (config : Config) (out : List (Option (ImageRest D))) (n : ℕ)
    (b b' : BayState) : Type 0 where
  pub outs : outs b' ≡ option_map (λ os. os ++ out_names config config.volumes.items out) (outs b)
  pub stayed : IsTold (StayedSo config out n) b.told b'.told
  pub counts : b.faults ≤ b'.faults

-- all images are in the bay again
pub record HasAllBack (tells : Bool) (b b' : BayState) : Type 0 where
  pub outs : outs b' ≡ outs b
  pub left : IsTrue tells → IsTold LeavesNoMore b.told b'.told
  pub counts : b.faults ≤ b'.faults

-- The images went out, and the locks are made. The pools have the free segments of what was here of
-- the images before.
pub record IsTaken {D : Type 0} (tells : Bool) (state : D → State) (config : Config)
    (b b' : BayState) (t : Taken D) : Type 0 where
  pub before : Images D
  pub same : (t.images.said ≡ before.said) × (t.images.faults ≡ before.faults)
  pub asked : AreAsked tells state config b b' (length config.volumes.items) before
  pub sent : HasSentOut config before.out.items (length config.volumes.items) b b'
  pub out_count : length t.images.out.items ≡ length before.out.items
  pub supplies : (k : ℕ) → Supplies (said_at before.said.items k) (image_here before.out.items k)
      (image_here t.images.out.items k)
  pub spindle_count : length t.spindles.items ≡ length config.volumes.items
  pub spindles : AreSpindlesOf (length config.volumes.items) config.timeout t.spindles.items
  pub pool_count : length t.pools.items ≡ length config.volumes.items
  pub pools : (k : ℕ) (s : Shape) (i : Issued (Pool (FreeSegment D)) PoolBase)
      → slice_get (shapes_of config) k ≡ Some s → slice_get t.pools.items k ≡ Some i
      → IsIssuedPool (length config.volumes.items) k s (said_at before.said.items k) i

-- There was no memory: each image is in the bay again, and recovers to what one at entry did, also
-- after a stop within; no label or view was changed.
pub record BringsAllBack {D : Type 0} (tells : Bool) (state : D → State) (config : Config)
    (b b' : BayState) : Type 0 where
  pub home : outs b' ≡ outs b
  pub left : IsTrue tells → IsTold (LeavesAll tells state config b b') b.told b'.told
  pub sound : IsTrue tells → IsTold (KeepsAllSound config) b.told b'.told
  pub views : IsTrue tells → IsTold (KeepsViews config) b.told b'.told
  pub run : QuietRun tells config b b'

-- ---- The rack while its volumes are opened, of which the first n were tried

-- the pools began with what the heads say
abbrev pub BeganAsSaid : {D : Type 0} → List (TurnLock (Pool (FreeSegment D)) PoolBase)
    → List (Option Said) → Type 0
BeganAsSaid {D} pools said = (k i : ℕ) (l : TurnLock (Pool (FreeSegment D)) PoolBase)
    → slice_get pools k ≡ Some l → holder (lock_id l).base.holders i ≡ holder_by (said_at said k) i

-- nothing of the volumes from n on was touched: their passes weren't used, and their segments are
-- here
pub record AreUntouched {D : Type 0} (state : D → State) (volumes n : ℕ) (said : List (Option Said))
    (r : Rest D) : Type 0 where
  pub passes : (v k : ℕ) (p : PassOf (Pool (FreeSegment D)) PoolBase) → n ≤ v
      → pool_pass r v k ≡ Some p → pass_mine p ≡ []
  pub here : (v k i : ℕ) (own : Said) (image : ImageRest D) → n ≤ v → said_at said k ≡ Some own
      → slice_get own.heads.items i ≡ Some (Owned v) → image_here r.images.items k ≡ Some image
      → (p : Spun D) × (segment_here image i ≡ Some p) × AlwaysSays state volumes p (Owned v)

-- the same of what they read: they are cut from the images at entry
pub record AreStillCut {D : Type 0} (state : D → State) (config : Config) (t : Told) (n : ℕ)
    (said : List (Option Said)) (r : Rest D) : Type 0 where
  pub says : (k : ℕ) (v : VolumeConf) (own : Said) → slice_get config.volumes.items k ≡ Some v
      → said_at said k ≡ Some own
      → (i : Image) × (at_name v.name t.images ≡ Some i)
      × SaysOf (length (shapes_of config)) k (shape_in config v) i own
  pub homes : (k : ℕ) (v : VolumeConf) (i : Image) (image : ImageRest D) (p : Spun D) → n ≤ k
      → slice_get config.volumes.items k ≡ Some v → at_name v.name t.images ≡ Some i
      → image_here r.images.items k ≡ Some image → image.home ≡ Some p
      → IsCutOf state i 2 (2 + v.home) p
  pub segments : (owner k j : ℕ) (v : VolumeConf) (i : Image) (own : Said) (image : ImageRest D)
      (p : Spun D) → n ≤ owner → slice_get config.volumes.items k ≡ Some v
      → at_name v.name t.images ≡ Some i
      → said_at said k ≡ Some own → slice_get own.heads.items j ≡ Some (Owned owner)
      → image_here r.images.items k ≡ Some image → segment_here image j ≡ Some p
      → IsCutOf state i (head_place (shape_in config v) j) (head_place (shape_in config v) (j + 1))
      p

-- A segment that is here is no station's by its head, and where all disks tell their content each
-- of its images says its owner or is free.
pub record AreOwnersHere {D : Type 0} (state : D → State) (said : List (Option Said)) (r : Rack D) :
    Type 0 where
  pub closed : (k i w : ℕ) (own : Said) (image : ImageRest D) (p : Spun D)
      → said_at said k ≡ Some own → slice_get own.heads.items i ≡ Some (Owned w)
      → image_here r.rest.images.items k ≡ Some image
      → segment_here image i ≡ Some p → Contains (map (λ (s : Station D). s.id) r.stations.items) w
      → ⊥
  pub says : (k i w : ℕ) (own : Said) (image : ImageRest D) (p : Spun D) → said_at said k ≡ Some own
      → slice_get own.heads.items i ≡ Some (Owned w) → image_here r.rest.images.items k ≡ Some image
      → segment_here image i ≡ Some p → ((d : D) → TellsContent (state d)) → (c : List Block)
      → IsImageOf (state_of state p).values c → SaysOwnerOrFree w c
  -- free ones went to their pools
  pub free : (k i : ℕ) (own : Said) (image : ImageRest D) → said_at said k ≡ Some own
      → slice_get own.heads.items i ≡ Some Free → image_here r.rest.images.items k ≡ Some image
      → segment_here image i ≡ None

-- volumes below n have a station or a fault; of the others those have a fault whose image isn't out
pub record AreTried {D : Type 0} (config : Config) (n : ℕ) (r : Rack D) : Type 0 where
  pub count : length r.faults.items ≡ length (shapes_of config)
  pub known : (k : ℕ) (f : VolumeFault) → slice_get r.faults.items k ≡ Some (Some f)
      → NamesVolumes (length (shapes_of config)) f
  pub below : All (λ (s : Station D). s.id < n) r.stations.items
  pub tried : (k : ℕ) → k < n → (fault_at r.faults.items k ≡ None)
      ↔ Contains (map (λ (s : Station D). s.id) r.stations.items) k
  pub further : (k : ℕ) → n ≤ k → k < length (shapes_of config) → (fault_at r.faults.items k ≡ None)
      ↔ IsImageOut r.rest.images.items k

-- a rack of images that say this, with the stations that were opened so far
pub record IsBeingOpened {D : Type 0} (state : D → State) (config : Config) (b : BayState)
    (said : List (Option Said)) (r : Rack D) : Type 0 where
  pub closable : IsClosable state config b r
  pub fresh : AreUnused r.stations.items
  pub says : (k : ℕ) (s : Shape) → slice_get (shapes_of config) k ≡ Some s
      → IsImageOut r.rest.images.items k
      → (own : Said) × (said_at said k ≡ Some own) × IsSaidOf (length (shapes_of config)) k s own
  pub silent : (k : ℕ) → image_here r.rest.images.items k ≡ None → said_at said k ≡ None
  pub pools : BeganAsSaid r.shared.pools.items said
  pub said_count : length said ≡ length (shapes_of config)
  pub unheld : (v k : ℕ) → held_here r.rest v k ≡ []
  -- a pass that is here holds only what its volume owned at the beginning
  pub since : (v k i : ℕ) (p : PassOf (Pool (FreeSegment D)) PoolBase)
      → pool_pass r.rest v k ≡ Some p
      → holds (pass_lock p).base (pass_number p) (pass_mine p) i ≡ true → IsOwnedPlace said v k i
  pub owners : AreOwnersHere state said r
  -- also those whose opening was refused used only disks of the views that their images say
  pub users : KeepToViews (view_at said) r

-- the rack while its volumes are opened, of which the first n were tried
pub record IsOpeningRack {D : Type 0} (state : D → State) (config : Config) (b : BayState)
    (said : List (Option Said)) (n : ℕ) (r : Rack D) : Type 0 where
  pub being : IsBeingOpened state config b said r
  pub open being use *
  pub station_room : length r.stations.items + (length (shapes_of config))
      ≤ vec_capacity r.stations + n
  pub manager_room : length r.stations.items + (length (shapes_of config))
      ≤ vec_capacity r.rest.rooms.managers + n
  pub tried : AreTried config n r
  pub untouched : AreUntouched state (length (shapes_of config)) n said r.rest

-- what it began with so far, where the bay told this at entry
pub record HasBegun {D : Type 0} (state : D → State) (config : Config) (t : Told)
    (said : List (Option Said)) (n : ℕ) (r : Rack D) : Type 0 where
  pub began : BeganWith state config t r
  pub cut : AreStillCut state config t n said r.rest

-- each fault of the first n volumes, and of those whose images aren't out, has its cause
abbrev pub AreRefusedBelow : {D : Type 0} → (tells : Bool) → (D → State) → Config
    → (old new : BayState) → (n : ℕ) → Rack D → Type 0
AreRefusedBelow tells state config old new n r =
    (k : ℕ) (v : VolumeConf) (f : VolumeFault) → (k < n) ⊎ (image_here r.rest.images.items k ≡ None)
    → slice_get config.volumes.items k ≡ Some v → fault_at r.faults.items k ≡ Some f
    → RefusesVolume tells state config r.rest.images.items old new k v f

-- the part of volume k with this name is here and had a fault: its home, or a segment whose head
-- names the volume
pub record HasFaultOf {D : Type 0} (state : D → State) (said : List (Option Said)) (k : ℕ)
    (name : Part) (r : Rest D) : Type 0 where
  pub part : Spun D
  pub here : ((image : ImageRest D) × (image_here r.images.items k ≡ Some image)
      × (image.home ≡ Some part) × (name ≡ Home k))
      ⊎ ((j : ℕ) × (i : ℕ) × IsOwnedPlace said k j i × (segment_in r j i ≡ Some part)
      × (name ≡ Segment j i))
  pub fault : 0 < (state_of state part).faults

-- each of the first n volumes whose image is out and which is refused for a fault of a disk has
-- that part
abbrev pub HaveFaults : {D : Type 0} → (D → State) → (said : List (Option Said)) → (n : ℕ) → Rack D
    → Type 0
HaveFaults state said n r = (k : ℕ) (p : Part) → k < n → IsImageOut r.rest.images.items k
    → fault_at r.faults.items k ≡ Some (Refused (DiskFault p)) → HasFaultOf state said k p r.rest

-- the same images are out
abbrev pub AreSameOut : {D : Type 0} → (old new : Rack D) → Type 0
AreSameOut {D} old new = map (λ (i : Option (ImageRest D)). is_some i) new.rest.images.items
    ≡ map (λ (i : Option (ImageRest D)). is_some i) old.rest.images.items

-- after want of memory: the rack may be closed, and no pass of its stations was used
pub record IsStopped {D : Type 0} (state : D → State) (config : Config) (b : BayState)
    (old new : Rack D) : Type 0 where
  pub closable : IsClosable state config b new
  pub fresh : AreUnused new.stations.items
  pub same_out : AreSameOut old new
