-- Blocks that were read ahead.
use Rattle.std.proofs.Common.{◌≡◌, ℕ, zero, suc, ◌+◌, ◌<◌, ◌≤◌, List, [], ◌∷◌, ◌++◌, length, length-drop, take, drop, get_or, Option, refl, sym, ap, subst, ◌∙◌, arith}
use Rattle.std.specs.Prelude.{IfSome}
use Rattle.std.proofs.lemmas.List.{get_or-take, get_or-drop, length-take-le}
use Rattle.wol_disk.specs.Disk.{Block, State, Values, IsDisk, only, reads}
use Rattle.wol_disk.specs.RecordSound.{length-only}
use Rattle.wol_disk.proofs.Images.{reads_only}
use Rattle.log_scan.specs.Reading.{AreAhead, StandsAt}

-- what stands at a place
stands_at : (bs : List Block) (p : ℕ) → p < length bs → StandsAt bs p (get_or bs p [])
stands_at [] p lt = absurd (omega (arith, lt))
stands_at (x ∷ bs) zero lt = record { rest = bs; here = refl; size = omega arith }
stands_at (x ∷ bs) (suc p) lt = let s = stands_at bs p (omega (arith, lt)) in record { rest = s.rest; here = s.here; size = (let e = s.size in omega (arith, e)) }

front : (xs ys : List Block) (k : ℕ) → k < length xs → get_or (xs ++ ys) k [] ≡ get_or xs k []
front [] ys k lt = absurd (omega (arith, lt))
front (x ∷ xs) ys zero lt = refl
front (x ∷ xs) ys (suc k) lt = front xs ys k (omega (arith, lt))

-- what was read of blocks with one image, in front of what was there
pub ahead_read : {d : State} → IsDisk d → (at count : ℕ) (out rest : List Block) → at + count ≤ d.size → IfSome d.values (λ vs. out ≡ take count (drop at (reads vs))) → AreAhead d.values at count (out ++ rest)
ahead_read {d} sound at count out rest fits told bs is k lt =
    let P : Option (List (Values Block)) → Type 0 = λ o. IfSome o (λ vs. out ≡ take count (drop at (reads vs))) in
    let read : out ≡ take count (drop at bs) = subst P is told ∙ ap (λ (l : List Block). take count (drop at l)) (reads_only bs) in
    let size : length bs ≡ d.size = sym (length-only bs) ∙ sound.each_block (only bs) is in
    let long : length (take count (drop at bs)) ≡ count = length-take-le count (drop at bs) (let e = length-drop at bs in omega (arith, e, size, fits)) in
    let value : get_or bs (at + k) [] ≡ get_or (out ++ rest) k [] = sym (get_or-drop at bs k []) ∙ sym (get_or-take count (drop at bs) k [] lt) ∙ sym (front (take count (drop at bs)) rest k (omega (arith, long, lt))) ∙ ap (λ (l : List Block). get_or (l ++ rest) k []) (sym read) in
    subst (λ (b : Block). StandsAt bs (at + k) b) value (stands_at bs (at + k) (omega (arith, fits, size, lt)))

-- so it is while nothing is written
pub still_ahead : {old new : Option (List (Values Block))} (from count : ℕ) (room : List Block) → new ≡ old → AreAhead old from count room → AreAhead new from count room
still_ahead from count room same ahead bs is k lt = ahead bs (sym same ∙ is) k lt
