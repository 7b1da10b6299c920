-- What a choice of images of a volume's disks holds while nothing has failed, and the steps that
-- keep it so.
use Rattle.std.specs.Prelude.{◌≡◌, ◌<◌, ℕ, ◌+◌, Bool, true, false, not, ◌&&◌, ◌||◌, List, [], ◌∷◌, ◌++◌, None, Some, is_some}
use Rattle.std.specs.List.{AllByRecursion}
use Rattle.wol_disk.specs.Disk.{Block, IsBlend}
use Rattle.wol_model.specs.Blocks.{Write, last_written, after}
use Rattle.wol_model.specs.Extents.{Extent, newest_block, with_extents, may_go, covers_of, AreDistinct, CoversNothing, KeepsAll, write_of, GivesUp, HoldsHomed, IsUncovered}
use Rattle.wol_model.specs.History.{IsCut}

-- An image of home and records stand for the array after the writes; home holds the blocks of this
-- set; and no version comes twice or is still to come.
pub record Holds (a : List Block) (ws : List Write) (next : ℕ) (home : List Block)
    (rs : List Extent) (homed : ℕ → Bool) : Type 0 where
  pub stands : with_extents home rs ≡ after a ws
  pub is_home : HoldsHomed home rs homed
  pub distinct : AreDistinct (covers_of rs)
  pub below : AllByRecursion (λ r. r.cover.version < next) rs

-- a volume is opened: it stands for what it recovers to
abbrev pub OpeningStep : Type 0
OpeningStep = (next : ℕ) (home : List Block) (rs : List Extent) → AreDistinct (covers_of rs)
    → AllByRecursion (λ r. r.cover.version < next) rs
    → Holds (with_extents home rs) [] next home rs (λ b. false)

-- a write to a log
abbrev pub LoggingStep : Type 0
LoggingStep = (a : List Block) (ws : List Write) (next : ℕ) (home : List Block)
    (front back : List Extent) (homed : ℕ → Bool) (r : Extent)
    → Holds a ws next home (front ++ back) homed → KeepsAll r → r.cover.version ≡ next
    → Holds a (ws ++ write_of r ∷ []) (next + 1) home (front ++ r ∷ back)
    (λ b. homed b && not (r.cover.covers b))

-- a write home
abbrev pub HomeStep : Type 0
HomeStep = (a : List Block) (ws : List Write) (next : ℕ) (home : List Block) (rs : List Extent)
    (homed : ℕ → Bool) (w : Write)
    → Holds a ws next home rs homed → IsUncovered rs w
    → Holds a (ws ++ w ∷ []) next (after home (w ∷ [])) rs homed

-- while it goes on
abbrev pub HomeInFlight : Type 0
HomeInFlight = (a : List Block) (ws : List Write) (next : ℕ) (home x : List Block)
    (rs : List Extent) (homed : ℕ → Bool) (w : Write)
    → Holds a ws next home rs homed → IsUncovered rs w → w.version ≡ None
    → IsBlend home (after home (w ∷ [])) x
    → IsCut a ws (w ∷ []) (with_extents x rs)

-- these writes have what the newest records have for their blocks
abbrev pub IsData : List Extent → List Write → Type 0
IsData rs puts = (b : ℕ) (x : Block) → last_written puts b ≡ Some x → newest_block rs b ≡ Some x

-- blocks of records are put home
abbrev pub PuttingStep : Type 0
PuttingStep = (a : List Block) (ws : List Write) (next : ℕ) (home : List Block) (rs : List Extent)
    (homed : ℕ → Bool) (puts : List Write)
    → Holds a ws next home rs homed → IsData rs puts
    → Holds a ws next (after home puts) rs (λ b. homed b || is_some (last_written puts b))

-- while they are put there
abbrev pub PuttingInFlight : Type 0
PuttingInFlight = (a : List Block) (ws : List Write) (next : ℕ) (home x : List Block)
    (rs : List Extent) (homed : ℕ → Bool) (puts : List Write)
    → Holds a ws next home rs homed → IsData rs puts → IsBlend home (after home puts) x
    → with_extents x rs ≡ after a ws

-- blocks of a record that may go are given up
abbrev pub GivingUpStep : Type 0
GivingUpStep = (a : List Block) (ws : List Write) (next : ℕ) (home : List Block)
    (front back : List Extent) (homed given : ℕ → Bool) (r s : Extent)
    → Holds a ws next home (front ++ r ∷ back) homed
    → ((b : ℕ) → given b ≡ true → may_go (covers_of (front ++ r ∷ back)) homed r.cover b ≡ true)
    → GivesUp given r s
    → Holds a ws next home (front ++ s ∷ back) homed

-- a record that covers nothing is forgotten
abbrev pub EmptyStep : Type 0
EmptyStep = (a : List Block) (ws : List Write) (next : ℕ) (home : List Block)
    (front back : List Extent) (homed : ℕ → Bool) (r : Extent)
    → Holds a ws next home (front ++ r ∷ back) homed → CoversNothing r
    → Holds a ws next home (front ++ back) homed

-- what is known to be homed may be forgotten
abbrev pub FewerHomed : Type 0
FewerHomed = (a : List Block) (ws : List Write) (next : ℕ) (home : List Block) (rs : List Extent)
    (homed fewer : ℕ → Bool)
    → Holds a ws next home rs homed → ((b : ℕ) → fewer b ≡ true → homed b ≡ true)
    → Holds a ws next home rs fewer
