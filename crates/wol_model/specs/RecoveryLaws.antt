-- Laws of recovery: what changes, and what doesn't, in the array that home and records stand for.
use Rattle.std.specs.Prelude.{◌≡◌, ◌<◌, ℕ, Bool, true, List, [], ◌∷◌, ◌++◌}
use Rattle.std.specs.List.{AllByRecursion}
use Rattle.wol_disk.specs.Disk.{Block, IsBlend}
use Rattle.wol_model.specs.Blocks.{Write, after}
use Rattle.wol_model.specs.Extents.{Extent, with_extents, may_go, covers_of, AreDistinct, CoversNothing, KeepsAll, write_of, GivesUp, HoldsHomed, IsUncovered, IsCovered}
use Rattle.wol_model.specs.Log.{Record, IsLog, IsIdle, extent_of}
use Rattle.wol_model.specs.Recovered.{extents_of, recovered}

-- giving up blocks of an extent that may go changes nothing
abbrev pub GivingUp : Type 0
GivingUp = (home : List Block) (front back : List Extent) (r s : Extent) (homed given : ℕ → Bool)
    → HoldsHomed home (front ++ r ∷ back) homed
    → AreDistinct (covers_of (front ++ r ∷ back))
    → ((b : ℕ) → given b ≡ true → may_go (covers_of (front ++ r ∷ back)) homed r.cover b ≡ true)
    → GivesUp given r s
    → with_extents home (front ++ s ∷ back) ≡ with_extents home (front ++ r ∷ back)

-- extents that cover nothing count for nothing
abbrev pub Emptied : Type 0
Emptied = (home : List Block) (front empty back : List Extent) → AllByRecursion CoversNothing empty
    → with_extents home (front ++ (empty ++ back)) ≡ with_extents home (front ++ back)

-- an extent above all others is a write
abbrev pub Logging : Type 0
Logging = (home : List Block) (front back : List Extent) (r : Extent) → KeepsAll r
    → AllByRecursion (λ s. s.cover.version < r.cover.version) front
    → AllByRecursion (λ s. s.cover.version < r.cover.version) back
    → with_extents home (front ++ r ∷ back)
    ≡ after (with_extents home (front ++ back)) (write_of r ∷ [])

-- a write home of blocks that nothing covers is a write
abbrev pub WritingHome : Type 0
WritingHome = (home : List Block) (rs : List Extent) (w : Write) → IsUncovered rs w
    → with_extents (after home (w ∷ [])) rs ≡ after (with_extents home rs) (w ∷ [])

-- and where it is cut short, some of its blocks are written
abbrev pub CutShort : Type 0
CutShort = (home x : List Block) (rs : List Extent) (w : Write) → IsUncovered rs w
    → IsBlend home (after home (w ∷ [])) x
    → IsBlend (with_extents home rs) (after (with_extents home rs) (w ∷ [])) (with_extents x rs)

-- a write home of covered blocks changes nothing, also where it is cut short
abbrev pub PuttingHome : Type 0
PuttingHome = (home x : List Block) (rs : List Extent) (w : Write) → IsCovered rs w
    → IsBlend home (after home (w ∷ [])) x → with_extents x rs ≡ with_extents home rs

-- ---- The same of images. Of one segment's image, the others staying as they are:

-- blocks that may go are given up
abbrev pub Trimming : Type 0
Trimming = (owner : ℕ) (home : List Block) (before later : List (List Block)) (old new : List Block)
    (front back : List Record) (r s : Record) (homed given : ℕ → Bool)
    → IsLog old owner (front ++ r ∷ back) → IsLog new owner (front ++ s ∷ back)
    → GivesUp given (extent_of r) (extent_of s)
    → AreDistinct (covers_of (extents_of owner (before ++ old ∷ later)))
    → HoldsHomed home (extents_of owner (before ++ old ∷ later)) homed
    → ((b : ℕ) → given b ≡ true → may_go (covers_of (extents_of owner (before ++ old ∷ later)))
    homed (extent_of r).cover b ≡ true)
    → recovered owner home (before ++ new ∷ later) ≡ recovered owner home (before ++ old ∷ later)

-- a log without a valid record becomes idle
abbrev pub Retiring : Type 0
Retiring = (owner : ℕ) (home : List Block) (before later : List (List Block)) (old new : List Block)
    (rs : List Record)
    → IsLog old owner rs → AllByRecursion (λ r. CoversNothing (extent_of r)) rs → IsIdle new
    → recovered owner home (before ++ new ∷ later) ≡ recovered owner home (before ++ old ∷ later)

-- an idle one becomes a log without records
abbrev pub Claiming : Type 0
Claiming = (owner : ℕ) (home : List Block) (before later : List (List Block)) (old new : List Block)
    → IsIdle old → IsLog new owner []
    → recovered owner home (before ++ new ∷ later) ≡ recovered owner home (before ++ old ∷ later)

-- a record above all others is appended
abbrev pub Appending : Type 0
Appending = (owner : ℕ) (home : List Block) (before later : List (List Block))
    (old new : List Block) (rs : List Record) (r : Record)
    → IsLog old owner rs → IsLog new owner (rs ++ r ∷ []) → KeepsAll (extent_of r)
    → AllByRecursion (λ s. s.cover.version < r.head.version)
    (extents_of owner (before ++ old ∷ later))
    → recovered owner home (before ++ new ∷ later)
    ≡ after (recovered owner home (before ++ old ∷ later)) (write_of (extent_of r) ∷ [])
