-- A range is read and written in pieces, one turn each.
use Rattle.std.specs.Prelude.{◌≡◌, ◌+◌, ◌-◌, ◌*◌, ◌++◌, ◌<◌, ℕ, List, [], length, min, take, All, Result, Ok, Err}
use Rattle.nbd_session.specs.declared.volume.Refusal.{Refusal}
use Rattle.wol_disk.specs.Disk.{Block, bytes_of}
use Rattle.nbd_session.specs.Turns.{Turn, Read, Wrote, NotRead, NotWrote}

-- each of these blocks has all its bytes
abbrev pub AreWhole : List Block → Type 0
AreWhole blocks = All (λ b. length b ≡ 512) blocks

-- the blocks of the next piece of a range of so many blocks, of which some are done
abbrev pub piece_of : (most count done : ℕ) → ℕ
piece_of most count done = min most (count - done)

-- the first blocks of a range were transferred, piece by piece, each in the turn that is made of its
-- place and its blocks: they hold these bytes
pub data HasTransferred {V : Type 0} (turned : Turn → V → V → Type 0)
    (turn_of : (at : ℕ) → List Block → Turn) (most at count : ℕ) (v : V) :
    (done : ℕ) → List ℕ → V → Type 0 where
  none : HasTransferred turned turn_of most at count v 0 [] v
  next : (done : ℕ) (got : List ℕ) (m w : V) (blocks : List Block)
      → HasTransferred turned turn_of most at count v done got m → done < count
      → length blocks ≡ piece_of most count done → AreWhole blocks
      → turned (turn_of (at + done) blocks) m w
      → HasTransferred turned turn_of most at count v (done + length blocks)
      (got ++ bytes_of blocks) w

-- the first blocks of a range were read, piece by piece
abbrev pub HasRead : {V : Type 0} → (turned : Turn → V → V → Type 0) → (most at count : ℕ) → V
    → (done : ℕ) → List ℕ → V → Type 0
HasRead turned = HasTransferred turned Read

-- the first blocks of a range were written, piece by piece
abbrev pub HasWritten : {V : Type 0} → (turned : Turn → V → V → Type 0) → (most at count : ℕ) → V
    → (done : ℕ) → List ℕ → V → Type 0
HasWritten turned = HasTransferred turned Wrote

-- the first blocks of a range were read, and then a piece was refused
pub record HasNotRead {V : Type 0} (turned : Turn → V → V → Type 0) (most at count : ℕ) (v w : V)
    (refusal : Refusal) : Type 0 where
  pub done : ℕ
  pub got : List ℕ
  pub m : V
  pub before : HasRead turned most at count v done got m
  pub more : done < count
  pub last : turned (NotRead (at + done) (piece_of most count done) refusal) m w

-- the first blocks of a range were written, and then a piece was refused
pub record HasNotWritten {V : Type 0} (turned : Turn → V → V → Type 0) (most at count : ℕ)
    (given : List ℕ) (v w : V) (refusal : Refusal) : Type 0 where
  pub done : ℕ
  pub got : List ℕ
  pub m : V
  pub before : HasWritten turned most at count v done got m
  pub more : done < count
  pub blocks : List Block
  pub size : length blocks ≡ piece_of most count done
  pub whole : AreWhole blocks
  pub last : turned (NotWrote (at + done) blocks refusal) m w
  pub rest : List ℕ
  pub is : given ≡ got ++ bytes_of blocks ++ rest

-- a piece of so many blocks was read, and stands in these bytes behind as many as were done; or it
-- was refused
abbrev pub ReadsPiece : {V T : Type 0} → (turned : Turn → V → V → Type 0) → (at count done : ℕ)
    → (old new : List ℕ) → (v w : V) → Result T Refusal → Type 0
ReadsPiece turned at count done old new v w (Ok x) =
    (blocks : List Block) × (length blocks ≡ count) × AreWhole blocks × turned (Read at blocks) v w
    × (take (512 * (done + count)) new ≡ take (512 * done) old ++ bytes_of blocks)
ReadsPiece turned at count done old new v w (Err refusal) = turned (NotRead at count refusal) v w
