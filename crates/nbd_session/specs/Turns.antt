-- What is asked of a volume in one turn, and what it answers.
use Rattle.std.specs.Prelude.{◌≡◌, ℕ, List, Result, Ok, Err}
use Rattle.wol_disk.specs.Disk.{Block}
use Rattle.nbd_session.specs.declared.volume.Refusal.{Refusal}

-- one turn: whether the volume is up, a read and a write of some blocks from a place on; done or
-- refused
pub data Turn : Type 0 where
  Looked : Turn
  NotLooked : (refusal : Refusal) → Turn
  Read : (at : ℕ) (blocks : List Block) → Turn
  NotRead : (at count : ℕ) (refusal : Refusal) → Turn
  Wrote : (at : ℕ) (blocks : List Block) → Turn
  NotWrote : (at : ℕ) (blocks : List Block) (refusal : Refusal) → Turn

-- the turn of a look with this answer
abbrev pub look_turn : {T : Type 0} → Result T Refusal → Turn
look_turn (Ok done) = Looked
look_turn (Err refusal) = NotLooked refusal

-- the turn of a read that asked for so many blocks, and gave these
abbrev pub read_turn : {T : Type 0} → (at count : ℕ) → List Block → Result T Refusal → Turn
read_turn at count blocks (Ok done) = Read at blocks
read_turn at count blocks (Err refusal) = NotRead at count refusal

-- the turn of a write of these blocks
abbrev pub write_turn : {T : Type 0} → (at : ℕ) → List Block → Result T Refusal → Turn
write_turn at blocks (Ok done) = Wrote at blocks
write_turn at blocks (Err refusal) = NotWrote at blocks refusal

-- a volume that can take turns still, with as many blocks as before, and as many in one turn
pub record StaysReady {V : Type 0} (can_take : V → Type 0) (home_of most_of : V → ℕ) (v w : V) :
    Type 0 where
  pub ready : can_take w
  pub same_home : home_of w ≡ home_of v
  pub same_most : most_of w ≡ most_of v
