-- The segments that lanes hold, as the promise of wol_promise sees them, and their images since a
-- moment.
use Rattle.std.specs.Prelude.{⊤, ℕ, ◌+◌, Bool, List, [], ◌∷◌, ◌++◌, Option, None, Some, IsTrue, ◌≡◌, ◌≢◌, Contains}
use Rattle.wol_disk.specs.Disk.{State, Block, IsImageOf}
use Rattle.wol_model.specs.Log.{Record}
use Rattle.spin_model.specs.Spun.{state_of, volume_of}
use Rattle.spin_model.specs.declared.spun.Spun.{Spun}
use Rattle.log_segment.specs.Segment.{part_of}
use Rattle.wol_promise.specs.Manager.{Parts, Held}
use Rattle.logger.specs.Lanes.{held_in, taken_in}
use Rattle.logger.specs.declared.lane.Lane.{Lane}
use Rattle.logger.specs.declared.lane.HeldSegment.{HeldSegment}
use Rattle.wol_promise.specs.Stands.{place_in}

-- the images of a part
abbrev pub may_be : {D : Type 0} → (D → State) → Spun D → List Block → Type 0
may_be state p bs = IsImageOf (state_of state p).values bs

-- what contracts see of the parts of a type of disks, which tell their content or don't; those that
-- don't have no images to speak of
abbrev pub parts_of : {D : Type 0} → (tells : Bool) → (D → State) → Parts (Spun D)
parts_of tells state = record {
  told = IsTrue tells;
  may_be = λ p bs. IsTrue tells × may_be state p bs;
  size = λ p. (state_of state p).size;
  volume = volume_of;
  faults = λ p. (state_of state p).faults;
}

-- the records of each held segment, lane by lane
abbrev pub Logs : Type 0
Logs = List (List (List Record))

-- the segments that the lane at place k of the view holds, with their records
abbrev pub held_with : {D : Type 0} → (k : ℕ) → List (HeldSegment D) → List (List Record)
    → List (Held (Spun D))
held_with k [] logs = []
held_with k (h ∷ hs) [] = []
held_with k (h ∷ hs) (rs ∷ logs) = record {
  part = part_of h.segment;
  lane = k;
  index = h.index;
  broken = is_broken h;
  records = rs;
} ∷ held_with k hs logs
  where
    is_broken : {D : Type 0} → HeldSegment D → Bool
    is_broken h = h.segment.broken

-- those of all lanes from place k on
abbrev pub all_held : {D : Type 0} → (k : ℕ) → List (Lane D) → Logs → List (Held (Spun D))
all_held k [] logs = []
all_held k (l ∷ lanes) [] = []
all_held k (l ∷ lanes) (ls ∷ logs) = held_with k (held_in l) ls ++ all_held (k + 1) lanes logs

-- the taken segments, by lane and index
abbrev pub all_taken : {D : Type 0} → (k : ℕ) → List (Lane D) → List (ℕ × ℕ)
all_taken k [] = []
all_taken k (l ∷ lanes) = taken_at k (taken_in l) (all_taken (k + 1) lanes)
  where
    taken_at : {T : Type 0} → ℕ → Option (ℕ × T) → List (ℕ × ℕ) → List (ℕ × ℕ)
    taken_at k None rest = rest
    taken_at k (Some t) rest = (k, t.0) ∷ rest

-- each segment with the list at its place
abbrev pub AllHold : {D : Type 0} → (HeldSegment D → List Record → Type 0) → List (HeldSegment D)
    → List (List Record) → Type 0
AllHold R [] [] = ⊤
AllHold R [] (rs ∷ logs) = ⊥
AllHold R (h ∷ hs) [] = ⊥
AllHold R (h ∷ hs) (rs ∷ logs) = R h rs × AllHold R hs logs

-- each segment of each lane
abbrev pub AllLanesHold : {D : Type 0} → (HeldSegment D → List Record → Type 0) → List (Lane D)
    → Logs → Type 0
AllLanesHold R [] [] = ⊤
AllLanesHold R [] (ls ∷ logs) = ⊥
AllLanesHold R (l ∷ lanes) [] = ⊥
AllLanesHold R (l ∷ lanes) (ls ∷ logs) = AllHold R (held_in l) ls × AllLanesHold R lanes logs

-- an image that the part had since it was the old one
abbrev pub ImageSince : {D : Type 0} → (D → State) → (old new : Spun D) → List Block → Type 0
ImageSince state old new bs = (state_of state new).since (state_of state old).clock bs

-- an image of a held segment at a moment since the call began: of one that was held then, or of the
-- one that was claimed in the call, since it was a free one
pub data HeldSince {D : Type 0} (state : D → State) (before : List (Held (Spun D)))
    (claimed : Option (Spun D)) (s : Held (Spun D)) (bs : List Block) : Type 0 where
  was_held : (o : Held (Spun D)) → Contains before o → place_in o ≡ place_in s
      → ImageSince state o.part s.part bs → HeldSince state before claimed s bs
  was_free : (p : Spun D) → claimed ≡ Some p
      → ((o : Held (Spun D)) → Contains before o → place_in o ≢ place_in s)
      → ImageSince state p s.part bs → HeldSince state before claimed s bs
