-- What the heads of segments say, part by part. `state` is that of a part's disk.
use Rattle.std.specs.Prelude.{◌≡◌, ◌<◌, ℕ, List, length, slice_get, slice_index_or, Some}
use Rattle.wol_disk.specs.Disk.{Block, Values, State, Rose, IsImageOf, reads}
use Rattle.wol_model.specs.Heads.{Shape}
use Rattle.spin_model.specs.Spun.{state_of}
use Rattle.spin_model.specs.declared.spun.Spun.{Spun}
use Rattle.log_layout.specs.Values.{segment_head}
use Rattle.log_layout.specs.declared.segment.SegHead.{SegHead}
use Rattle.volume_images.specs.Accepted.{HasHead, IsHeadless, IsConfigured, head_place}

-- the first n segments have these heads, where they tell their content
pub record SayHeads {D : Type 0} (state : D → State) (volumes : ℕ) (segments : List (Spun D))
    (n : ℕ) (heads : List SegHead) : Type 0 where
  pub count : length heads ≡ n
  pub each : (i : ℕ) (d : Spun D) (vs : List (Values Block)) (h : SegHead) → i < n
      → (state_of state (slice_index_or segments i d)).values ≡ Some vs
      → slice_get heads i ≡ Some h → HasHead volumes (reads vs) (segment_head h)
  -- also where they don't
  pub configured : (i : ℕ) (h : SegHead) → slice_get heads i ≡ Some h
      → IsConfigured volumes (segment_head h)

-- every image that the segments may have begins with these heads
abbrev pub AlwaysSay : {D : Type 0} → (D → State) → (volumes : ℕ) → List (Spun D) → List SegHead
    → Type 0
AlwaysSay {D} state volumes segments heads =
    (i : ℕ) (d : Spun D) (h : SegHead) → i < length segments → slice_get heads i ≡ Some h
    → (c : List Block) → IsImageOf (state_of state (slice_index_or segments i d)).values c
    → HasHead volumes c (segment_head h)

-- the block is the place of the head of a segment that has none, and those before it have theirs
pub record IsDamagedSegment {D : Type 0} (state : D → State) (volumes : ℕ) (s : Shape)
    (segments : List (Spun D)) (block : ℕ) : Type 0 where
  pub index : ℕ
  pub within : index < length segments
  pub place : block ≡ head_place s index
  pub heads : List SegHead
  pub before : SayHeads state volumes segments index heads
  pub headless : (d : Spun D) (vs : List (Values Block))
      → (state_of state (slice_index_or segments index d)).values ≡ Some vs
      → IsHeadless volumes (reads vs)

-- the count of the part at this place rose
abbrev pub RoseAt : {D : Type 0} → (D → State) → (place : ℕ) → (old new : List (Spun D)) → Type 0
RoseAt {D} state place old new = (place < length old)
    × ((d : Spun D) → Rose (state_of state (slice_index_or old place d)).faults
    (state_of state (slice_index_or new place d)).faults)

-- no count rose
abbrev pub AreCalm : {D : Type 0} → (D → State) → (old new : List (Spun D)) → Type 0
AreCalm {D} state old new = (k : ℕ) (d : Spun D) → k < length old
    → (state_of state (slice_index_or new k d)).faults
    ≡ (state_of state (slice_index_or old k d)).faults
