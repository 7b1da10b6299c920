-- Blocks laid behind those that are there.
use Rattle.std.proofs.Common.{◌≡◌, inr, ⊎_elim, ℕ, zero, suc, ◌+◌, ◌<◌, ◌≤◌, List, [], ◌∷◌, ◌++◌, length, take, drop, refl, sym, ◌∙◌, ap, subst, arith, append_assoc, take-append-drop, length-append, length-drop}
use Rattle.std.specs.Prelude.{slice_set}
use Rattle.std.specs.List.{flat_map}
use Rattle.std.proofs.lemmas.List.{take_at, length-take-le}
use Rattle.wol_disk.specs.Disk.{Block, put, IsBlend}
use Rattle.wol_disk.proofs.Images.{put_nothing, blend_one}
use Rattle.wol_model.specs.Heads.{owned_block, gate_block}
use Rattle.wol_model.specs.Log.{Record, IsLog, EndsLog, written, end_of}

pub put_past : (p l xs : List Block) (at k : ℕ) → at ≡ length p + k → put at xs (p ++ l) ≡ p ++ put k xs l
put_past [] l xs at k e = let same : at ≡ k = omega arith in ap (λ (n : ℕ). put n xs l) same
put_past (x ∷ p) l xs zero k e = absurd (omega arith)
put_past (x ∷ p) l xs (suc at) k e = ap (λ l. x ∷ l) (put_past p l xs at k (omega arith))

put_over : (xs mid tail : List Block) → length xs ≡ length mid → put 0 xs (mid ++ tail) ≡ xs ++ tail
put_over [] [] tail e = put_nothing 0 tail
put_over [] (m ∷ mid) tail e = absurd (omega arith)
put_over (x ∷ xs) [] tail e = absurd (omega arith)
put_over (x ∷ xs) (m ∷ mid) tail e = ap (λ l. x ∷ l) (put_over xs mid tail (omega arith))

-- one block written over another
pub put_one : (p l : List Block) (x y : Block) (at : ℕ) → length p ≡ at → put at (x ∷ []) (p ++ y ∷ l) ≡ p ++ x ∷ l
put_one p l x y at e = put_past p (y ∷ l) (x ∷ []) at 0 (omega arith) ∙ ap (λ (m : List Block). p ++ x ∷ m) (put_nothing 0 l)

-- a list that is longer than its front goes on
record GoesOn (xs : List Block) : Type 0 where
  pub first : Block
  pub more : List Block
  pub is : xs ≡ first ∷ more

goes_on_if : (xs : List Block) → 1 ≤ length xs → GoesOn xs
goes_on_if [] le = absurd (omega arith)
goes_on_if (x ∷ xs) le = record { first = x; more = xs; is = refl }

take_one_more : (p : List Block) (x : Block) (l : List Block) (n : ℕ) → n ≡ length p → take (n + 1) (p ++ x ∷ l) ≡ p ++ x ∷ []
take_one_more p x l n e = ap (take (n + 1)) (sym (append_assoc p (x ∷ []) l)) ∙ take_at (p ++ x ∷ []) l (n + 1) (omega (arith, length-append p (x ∷ [])))

-- what has the front of a segment up to its gate has its records
pub same_records : (owner : ℕ) (rs : List Record) (bs c : List Block) (n : ℕ) → IsLog bs owner rs → n ≡ end_of rs → n + 1 ≤ length bs → take (n + 1) c ≡ take (n + 1) bs → IsLog c owner rs
same_records owner rs bs c n log e le same = record {
  known = log.known;
  rest = gate_block ∷ drop (n + 1) c;
  joined = sym (take-append-drop (n + 1) c) ∙ ap (λ l. l ++ drop (n + 1) c) (same ∙ was ∙ ap (λ x. front ++ x ∷ []) is_gate) ∙ append_assoc front (gate_block ∷ []) (drop (n + 1) c);
  named = log.named;
  ends = refl;
}
  where
    front : List Block
    front = owned_block owner ∷ flat_map written rs

    size : length bs ≡ length front + length log.rest
    size = ap length log.joined ∙ length-append front log.rest

    g : GoesOn log.rest
    g = goes_on_if log.rest (omega (arith, size, e, le))

    place : n ≡ length front
    place = omega (arith, e)

    is_gate : g.first ≡ gate_block
    is_gate = subst EndsLog g.is log.ends

    was : take (n + 1) bs ≡ front ++ g.first ∷ []
    was = ap (take (n + 1)) (log.joined ∙ ap (λ l. front ++ l) g.is) ∙ take_one_more front g.first g.more n place

-- a gate behind the blocks, unless the segment ends there
pub record IsBehind (ys : List Block) (next size : ℕ) : Type 0 where
  pub inside : next < size → ys ≡ gate_block ∷ []
  pub at_end : size ≤ next → ys ≡ []

pub behind_take : (b : Block) (m next size : ℕ) → b ≡ gate_block → (next < size → m ≡ 1) → (size ≤ next → m ≡ 0) → IsBehind (take m (b ∷ [])) next size
behind_take b m next size is one none = record {
  inside = λ lt. ap (λ (k : ℕ). take k (b ∷ [])) (one lt) ∙ ap (λ x. x ∷ []) is;
  at_end = λ le. ap (λ (k : ℕ). take k (b ∷ [])) (none le);
}

-- what a gate written over the tail leaves
gated_tail : (ys tail : List Block) (next size : ℕ) → size ≡ next + length tail → IsBehind ys next size → EndsLog (put 0 ys tail)
gated_tail ys [] next size e b = tt
gated_tail ys (t ∷ tail) next size e b = let is : ys ≡ gate_block ∷ [] = b.inside (omega arith) in subst (λ (l : List Block). EndsLog (put 0 l (t ∷ tail))) (sym is) refl

-- blocks written behind a gate, and what comes behind them
pub laid_behind : (front tail xs ys : List Block) (n : ℕ) → length front ≡ n → EndsLog tail → n + 1 + length xs ≤ length (front ++ tail) → IsBehind ys (n + 1 + length xs) (length (front ++ tail))
    → (rest : List Block) × EndsLog rest × (put (n + 1 + length xs) ys (put (n + 1) xs (front ++ tail)) ≡ front ++ (gate_block ∷ (xs ++ rest)))
laid_behind front [] xs ys n e ends fits b = absurd (omega (arith, length-append front []))
laid_behind front (g ∷ more) xs ys n e ends fits b =
    let size : length (front ++ (g ∷ more)) ≡ length front + suc (length more) = length-append front (g ∷ more) in
    let tail = drop (length xs) more in
    let mid = take (length xs) more in
    let mid_size : length xs ≡ length mid = sym (length-take-le (length xs) more (omega (arith, size, fits, e))) in
    let cut : g ∷ more ≡ gate_block ∷ (mid ++ tail) = λ i. ends i ∷ sym (take-append-drop (length xs) more) i in (
      put 0 ys tail,
      gated_tail ys tail (n + 1 + length xs) (length (front ++ (g ∷ more))) (omega (arith, size, fits, e, length-drop (length xs) more)) b,
      ap (λ (l : List Block). put (n + 1 + length xs) ys (put (n + 1) xs (front ++ l))) cut
          ∙ ap (put (n + 1 + length xs) ys) (put_past front (gate_block ∷ (mid ++ tail)) xs (n + 1) 1 (omega (arith, e)) ∙ ap (λ l. front ++ gate_block ∷ l) (put_over xs mid tail mid_size))
          ∙ put_past front (gate_block ∷ (xs ++ tail)) ys (n + 1 + length xs) (suc (length xs)) (omega (arith, e))
          ∙ ap (λ l. front ++ gate_block ∷ l) (put_past xs tail ys (length xs) 0 (omega arith)),
    )

-- an image that is a blend stays one where a block is written that the second has there
pub put_stays : (at : ℕ) (x : Block) (a f d : List Block) → IsBlend a f d → put at (x ∷ []) f ≡ f → IsBlend a f (put at (x ∷ []) d)
put_stays at x [] [] [] b e = tt
put_stays at x [] [] (z ∷ d) b e = absurd b
put_stays at x [] (y ∷ f) d b e = absurd b
put_stays at x (w ∷ a) [] d b e = absurd b
put_stays at x (w ∷ a) (y ∷ f) [] b e = absurd b
put_stays zero x (w ∷ a) (y ∷ f) (z ∷ d) b e = let first : x ≡ y = cc in (inr first, subst (λ (l : List Block). IsBlend a f l) (sym (put_nothing 0 d)) b.1)
put_stays (suc at) x (w ∷ a) (y ∷ f) (z ∷ d) b e = let more : put at (x ∷ []) f ≡ f = cc in (b.0, put_stays at x a f d b.1 more)

pub blend_stays : (at : ℕ) (x : Block) (a f d c : List Block) → IsBlend a f d → put at (x ∷ []) f ≡ f → IsBlend d (put at (x ∷ []) d) c → IsBlend a f c
blend_stays at x a f d c b e way =
    ⊎_elim (λ same. subst (λ (l : List Block). IsBlend a f l) (sym same) b) (λ new. subst (λ (l : List Block). IsBlend a f l) (sym new) (put_stays at x a f d b e)) (blend_one at x d c way)

-- lists with one front
pub blend_past : (xs l m c : List Block) → IsBlend (xs ++ l) (xs ++ m) c → (d : List Block) × (c ≡ xs ++ d) × IsBlend l m d
blend_past [] l m c b = (c, refl, b)
blend_past (x ∷ xs) l m [] b = absurd b
blend_past (x ∷ xs) l m (z ∷ c) b =
    let rest = blend_past xs l m c b.1 in
    let first : z ≡ x = ⊎_elim (λ p. p) (λ p. p) b.0 in
    (rest.0, λ i. first i ∷ rest.1 i, rest.2)

-- ---- One write of blocks and of the gate behind them

-- two writes, one behind the other, are one
pub put_both : (xs ys bs : List Block) (at next : ℕ) → next ≡ at + length xs → put next ys (put at xs bs) ≡ put at (xs ++ ys) bs
put_both xs ys [] at next e = refl
put_both xs ys (b ∷ bs) (suc at) zero e = absurd (omega (arith, e))
put_both xs ys (b ∷ bs) (suc at) (suc next) e = ap (λ l. b ∷ l) (put_both xs ys bs at next (omega (arith, e)))
put_both [] ys (b ∷ bs) zero next e = let same : next ≡ 0 = omega (arith, e) in ap (λ (n : ℕ). put n ys (b ∷ bs)) same
put_both (x ∷ xs) ys (b ∷ bs) zero zero e = absurd (omega (arith, e))
put_both (x ∷ xs) ys (b ∷ bs) zero (suc next) e = ap (λ l. x ∷ l) (put_both xs ys bs zero next (omega (arith, e)))

take_past : (xs l : List Block) (m n : ℕ) → n ≡ length xs + m → take n (xs ++ l) ≡ xs ++ take m l
take_past [] l m n e = let same : n ≡ m = omega (arith, e) in ap (λ (k : ℕ). take k l) same
take_past (x ∷ xs) l m zero e = absurd (omega (arith, e))
take_past (x ∷ xs) l m (suc n) e = ap (λ l. x ∷ l) (take_past xs l m n (omega (arith, e)))

first_at_most : (x : Block) (l : List Block) (m : ℕ) → m ≤ 1 → take m (x ∷ l) ≡ take m (x ∷ [])
first_at_most x l zero le = refl
first_at_most x l (suc zero) le = refl
first_at_most x l (suc (suc m)) le = absurd (omega (arith, le))

-- the front of a copy that has a gate behind the blocks
pub gated_front : (xs both rest : List Block) (g : Block) (m : ℕ) → both ≡ xs ++ (g ∷ rest) → m ≤ 1 → take (length xs + m) both ≡ xs ++ take m (g ∷ [])
gated_front xs both rest g m is le = ap (take (length xs + m)) is ∙ take_past xs (g ∷ rest) m (length xs + m) refl ∙ ap (λ l. xs ++ l) (first_at_most g rest m le)

-- a gate among other blocks, from its place on
pub gate_at : (zs : List Block) (n : ℕ) (g : Block) → n < length zs → drop n (slice_set zs n g) ≡ g ∷ drop (suc n) zs
gate_at [] n g lt = absurd (omega (arith, lt))
gate_at (z ∷ zs) zero g lt = refl
gate_at (z ∷ zs) (suc n) g lt = gate_at zs n g (omega (arith, lt))
