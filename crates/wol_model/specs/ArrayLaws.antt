-- Laws of arrays after writes.
use Rattle.std.specs.Prelude.{◌≡◌, ◌≤◌, ℕ, ◌+◌, List, [], ◌∷◌, ◌++◌, Option, None, map, length, take, drop}
use Rattle.wol_disk.specs.Disk.{Block, put, IsBlend}
use Rattle.wol_model.specs.Blocks.{Write, after}

-- no writes leave the array as it is
abbrev pub AfterNothing : Type 0
AfterNothing = (a : List Block) → after a [] ≡ a

-- more writes go on from the array after the first ones
abbrev pub AfterMore : Type 0
AfterMore = (a : List Block) (ws vs : List Write) → after a (ws ++ vs) ≡ after (after a ws) vs

-- writes leave its length
abbrev pub AfterLength : Type 0
AfterLength = (a : List Block) (ws : List Write) → length (after a ws) ≡ length a

-- one write puts its blocks in the array, as a write of a disk does
abbrev pub AfterPut : Type 0
AfterPut = (a : List Block) (w : Write) → after a (w ∷ []) ≡ put w.first w.blocks a

-- a write within an array, by slices
abbrev pub AfterWithin : Type 0
AfterWithin = (a : List Block) (first : ℕ) (blocks : List Block) (version : Option ℕ)
    → first + length blocks ≤ length a
    → after a (record { first = first; blocks = blocks; version = version } ∷ [])
    ≡ take first a ++ (blocks ++ drop (first + length blocks) a)

-- the same write, to home
abbrev pub unversioned : Write → Write
unversioned w = record { first = w.first; blocks = w.blocks; version = None }

-- versions don't matter to what is written
abbrev pub AfterVersions : Type 0
AfterVersions = (a : List Block) (ws : List Write) → after a (map unversioned ws) ≡ after a ws

-- an array before writes is a blend of itself before and after them
abbrev pub BlendBefore : Type 0
BlendBefore = (a : List Block) (ws : List Write) → IsBlend a (after a ws) a

-- and at the other end
abbrev pub BlendAfter : Type 0
BlendAfter = (a : List Block) (ws : List Write) → IsBlend a (after a ws) (after a ws)
