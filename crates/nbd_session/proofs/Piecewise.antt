-- A range, piece by piece.
use Rattle.std.proofs.Common.{◌≡◌, ◌<◌, ◌≤◌, ◌+◌, ◌*◌, ◌/◌, ℕ, zero, suc, List, [], ◌∷◌, ◌++◌, length, take, drop, refl, sym, ◌∙◌, ap, subst, arith, append_assoc, length-drop, Result, Ok, Err, MatchResult}
use Rattle.std.proofs.Math.Seq.{take-add, take-length}
use Rattle.std.proofs.lemmas.List.{length-take-le, take-append-drop}
use Rattle.std.specs.Simd.{first_chunks}
use Rattle.wol_disk.specs.Disk.{Block, bytes_of}
use Rattle.nbd_session.specs.declared.volume.Refusal.{Refusal}
use Rattle.std.specs.List.{AllByRecursion}
use Rattle.std.proofs.lemmas.List.Elements.{All-drop, All-from_recursion, All-take}
use Rattle.nbd_session.specs.Ranges.{AreWhole, HasRead, HasTransferred, HasWritten, HasNotWritten, ReadsPiece, piece_of}
use Rattle.nbd_session.specs.Turns.{Turn, Wrote, NotWrote}

pub bytes-append : (xs ys : List Block) → bytes_of (xs ++ ys) ≡ bytes_of xs ++ bytes_of ys
bytes-append [] ys = refl
bytes-append (x ∷ xs) ys = ap (λ (bs : List ℕ). x ++ bs) (bytes-append xs ys) ∙ sym (append_assoc x (bytes_of xs) (bytes_of ys))

-- the blocks in so many bytes
pub bytes-chunks : (count : ℕ) (xs : List ℕ) → bytes_of (first_chunks 512 count xs) ≡ take (count * 512) xs
bytes-chunks zero xs = refl
bytes-chunks (suc count) xs =
    let e : suc count * 512 ≡ 512 + count * 512 = omega arith in
    rw (e, take-add 512 (count * 512) xs) (ap (λ (bs : List ℕ). take 512 xs ++ bs) (bytes-chunks count (drop 512 xs)))

-- blocks up to one, those of a piece, and those behind it
pub bytes-more : (blocks : List Block) (done piece : ℕ) → bytes_of (take (done + piece) blocks) ≡ bytes_of (take done blocks) ++ bytes_of (take piece (drop done blocks))
bytes-more blocks done piece = rw (take-add done piece blocks) (bytes-append (take done blocks) (take piece (drop done blocks)))

pub bytes-parts : (blocks : List Block) (done piece : ℕ) → bytes_of blocks ≡ bytes_of (take done blocks) ++ bytes_of (take piece (drop done blocks)) ++ bytes_of (drop (done + piece) blocks)
bytes-parts blocks done piece =
    ap (λ (bs : List Block). bytes_of bs) (sym (take-append-drop (done + piece) blocks)) ∙ bytes-append (take (done + piece) blocks) (drop (done + piece) blocks) ∙ ap (λ (bs : List ℕ). bs ++ bytes_of (drop (done + piece) blocks)) (bytes-more blocks done piece)

-- bytes cut into blocks are these bytes
pub whole_chunks : (xs : List ℕ) (count : ℕ) (blocks : List Block) → length xs ≡ 512 * count → blocks ≡ first_chunks 512 (length xs / 512) xs → bytes_of blocks ≡ xs
whole_chunks xs count blocks size is =
    let e : length xs / 512 * 512 ≡ length xs = omega arith in
    ap (λ (bs : List Block). bytes_of bs) is ∙ bytes-chunks (length xs / 512) xs ∙ ap (λ (n : ℕ). take n xs) e ∙ take-length xs

-- bytes are cut into whole blocks
pub chunks_whole : (count : ℕ) (xs : List ℕ) → count * 512 ≤ length xs → AllByRecursion (λ (b : Block). length b ≡ 512) (first_chunks 512 count xs)
chunks_whole zero xs fits = tt
chunks_whole (suc count) xs fits =
    let long : 512 ≤ length xs = omega arith in
    let rest : count * 512 ≤ length (drop 512 xs) = omega (arith, length-drop 512 xs) in
    (length-take-le 512 xs long, chunks_whole count (drop 512 xs) rest)

pub whole_of : (xs : List ℕ) (blocks : List Block) → blocks ≡ first_chunks 512 (length xs / 512) xs → AreWhole blocks
whole_of xs blocks is =
    let fits : length xs / 512 * 512 ≤ length xs = omega arith in
    let IsWhole : Block → Type 0 = λ (b : Block). length b ≡ 512 in
    All-from_recursion IsWhole blocks (subst (λ (bs : List Block). AllByRecursion IsWhole bs) (sym is) (chunks_whole (length xs / 512) xs fits))

-- a piece of whole blocks is one
whole_part : (done piece : ℕ) (blocks : List Block) → AreWhole blocks → AreWhole (take piece (drop done blocks))
whole_part done piece blocks whole =
    let IsWhole : Block → Type 0 = λ (b : Block). length b ≡ 512 in
    All-take IsWhole piece (drop done blocks) (All-drop IsWhole done blocks whole)

module _ {V : Type 0} (turned : Turn → V → V → Type 0) (most at count : ℕ) (v : V) where
  reads_piece : (done piece : ℕ) (old new : List ℕ) (m w : V) → HasRead turned most at count v done (take (512 * done) old) m → done < count → piece ≡ piece_of most count done → ReadsPiece {T = Unit {0}} turned (at + done) piece done old new m w (Ok tt) → HasRead turned most at count v (done + piece) (take (512 * (done + piece)) new) w
  reads_piece done piece old new m w so more is (blocks, size, whole, took, put) =
      let P : ℕ → Type 0 = λ (n : ℕ). HasRead turned most at count v (done + n) (take (512 * done) old ++ bytes_of blocks) w in
      let Q : List ℕ → Type 0 = λ (bs : List ℕ). HasRead turned most at count v (done + piece) bs w in
      subst Q (sym put) (subst P size (HasTransferred.next done (take (512 * done) old) m w blocks so more (size ∙ is) whole took))

  -- one more piece was read, into room of so many blocks
  pub reads_on : (done len piece : ℕ) (old new : List ℕ) (m w : V) → HasRead turned most at count v done (take (512 * done) old) m → ReadsPiece {T = Unit {0}} turned (at + done) len done old new m w (Ok tt) → done < count → piece ≡ piece_of most count done → len ≡ piece → HasRead turned most at count v (done + piece) (take (512 * (done + piece)) new) w
  reads_on done len piece old new m w so read more is same =
      reads_piece done piece old new m w so more is (subst (λ (n : ℕ). ReadsPiece {T = Unit {0}} turned (at + done) n done old new m w (Ok tt)) same read)

  -- one more piece was written
  pub writes_on : (done piece : ℕ) (blocks part : List Block) (m w : V) → HasWritten turned most at count v done (bytes_of (take done blocks)) m → turned (Wrote (at + done) part) m w → part ≡ take piece (drop done blocks) → length (take piece (drop done blocks)) ≡ piece → piece ≡ piece_of most count done → done < count → AreWhole blocks → HasWritten turned most at count v (done + piece) (bytes_of (take (done + piece) blocks)) w
  writes_on done piece blocks part m w so took same size is more whole =
      let P : ℕ → Type 0 = λ (n : ℕ). HasWritten turned most at count v (done + n) (bytes_of (take done blocks) ++ bytes_of (take piece (drop done blocks))) w in
      let Q : List ℕ → Type 0 = λ (bs : List ℕ). HasWritten turned most at count v (done + piece) bs w in
      let R : List Block → Type 0 = λ (bs : List Block). turned (Wrote (at + done) bs) m w in
      subst Q (sym (bytes-more blocks done piece)) (subst P size (HasTransferred.next done (bytes_of (take done blocks)) m w (take piece (drop done blocks)) so more (size ∙ is) (whole_part done piece blocks whole) (subst R same took)))

  -- a piece was refused
  pub writes_no_more : (done piece : ℕ) (blocks part : List Block) (m w : V) (refusal : Refusal) → HasWritten turned most at count v done (bytes_of (take done blocks)) m → turned (NotWrote (at + done) part refusal) m w → part ≡ take piece (drop done blocks) → length (take piece (drop done blocks)) ≡ piece → piece ≡ piece_of most count done → done < count → AreWhole blocks → HasNotWritten turned most at count (bytes_of blocks) v w refusal
  writes_no_more done piece blocks part m w refusal so took same size is more whole =
      let R : List Block → Type 0 = λ (bs : List Block). turned (NotWrote (at + done) bs refusal) m w in
      record {
        done = done;
        got = bytes_of (take done blocks);
        m = m;
        before = so;
        more = more;
        blocks = take piece (drop done blocks);
        size = size ∙ is;
        whole = whole_part done piece blocks whole;
        last = subst R same took;
        rest = bytes_of (drop (done + piece) blocks);
        is = bytes-parts blocks done piece;
      }

-- what was written of blocks is what was written of their bytes
pub written_bytes : {V : Type 0} (turned : Turn → V → V → Type 0) (most at count : ℕ) (v w : V) (blocks : List Block) (xs : List ℕ) (result : Result (Unit {0}) Refusal) → length blocks ≡ count → bytes_of blocks ≡ xs
    → MatchResult result (λ (x : Unit {0}). HasWritten turned most at (length blocks) v (length blocks) (bytes_of blocks) w) (λ (r : Refusal). HasNotWritten turned most at (length blocks) (bytes_of blocks) v w r)
    → MatchResult result (λ (x : Unit {0}). HasWritten turned most at count v count xs w) (λ (r : Refusal). HasNotWritten turned most at count xs v w r)
written_bytes turned most at count v w blocks xs (Ok x) n is h =
    let P : ℕ → Type 0 = λ (k : ℕ). HasWritten turned most at k v k (bytes_of blocks) w in
    let Q : List ℕ → Type 0 = λ (bs : List ℕ). HasWritten turned most at count v count bs w in
    subst Q is (subst P n h)
written_bytes turned most at count v w blocks xs (Err r) n is h =
    let P : ℕ → Type 0 = λ (k : ℕ). HasNotWritten turned most at k (bytes_of blocks) v w r in
    let Q : List ℕ → Type 0 = λ (bs : List ℕ). HasNotWritten turned most at count bs v w r in
    subst Q is (subst P n h)
