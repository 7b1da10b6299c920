-- One block read.
use Rattle.std.proofs.Common.{◌≡◌, ℕ, zero, suc, ◌<◌, ◌≤◌, List, [], ◌∷◌, length, take, drop, get_or, Option, Bool, true, false, IsTrue, ◌↔◌, sym, ap, subst, arith, length-drop}
use Rattle.wol_disk.specs.Disk.{Block, State, Values, Passes, IsDisk, IsImageOf, LeavesOnly}
use Rattle.wol_disk.proofs.Moments.{started, then_leaves}
use Rattle.wol_disk.proofs.Calls.{read_goes_on}
use Rattle.log_scan.specs.Reading.{StandsAt}

stands : (bs : List Block) (at : ℕ) (b : Block) → at < length bs → b ∷ [] ≡ take 1 (drop at bs) → StandsAt bs at b
stands [] at b lt e = absurd (omega arith)
stands (x ∷ bs) zero b lt e = let same : b ≡ x = cc in record { rest = bs; here = ap (λ y. y ∷ bs) (sym same); size = omega arith }
stands (x ∷ bs) (suc at) b lt e = let s = stands bs at b (omega arith) e in record { rest = s.rest; here = s.here; size = omega (arith, s.size) }

one_of : (xs ys : List Block) → xs ≡ take 1 ys → 1 ≤ length ys → get_or xs 0 [] ∷ [] ≡ take 1 ys
one_of xs [] e le = absurd (omega arith)
one_of xs (y ∷ ys) e le = ap (λ (l : List Block). get_or l 0 [] ∷ []) e

pub stands_read : (bs : List Block) (at : ℕ) (out : List Block) → at < length bs → out ≡ take 1 (drop at bs) → StandsAt bs at (get_or out 0 [])
stands_read bs at out lt e = stands bs at (get_or out 0 []) lt (one_of out (drop at bs) e (omega (arith, length-drop at bs)))

pub not_so : (r : Bool) (P : Type 0) → (IsTrue r ↔ P) → r ≡ false → P → ⊥
not_so true P i e p = cc
not_so false P i e p = let t : false ≡ true = i.1 p in cc

-- while nothing is written each image is one of those at the start
pub begun : {d : State} → IsDisk d → LeavesOnly d d (IsImageOf d.values)
begun s = started s (λ c i. i)

pub one_read : {old new : State} {F : Type 0} → IsDisk old → new.values ≡ old.values → Passes old new F → LeavesOnly old new (IsImageOf old.values)
one_read {old} s same p = read_goes_on {P = IsImageOf old.values} (begun s) s same p

pub still_more : {start old new : State} → LeavesOnly start old (IsImageOf start.values) → old.values ≡ start.values → LeavesOnly old new (IsImageOf old.values) → LeavesOnly start new (IsImageOf start.values)
still_more l same more = then_leaves l more (λ c i. let P : Option (List (Values Block)) → Type 0 = λ o. IsImageOf o c in subst P same i)
