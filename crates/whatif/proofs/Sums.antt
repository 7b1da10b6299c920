-- Sums over disks that are gone through.
use Rattle.std.proofs.Common.{◌≡◌, ◌<◌, ◌≤◌, ◌+◌, ℕ, zero, suc, List, [], ◌∷◌, length, get_or, map, take, refl, sym, ap, ◌∙◌, arith}
use Rattle.std.specs.Prelude.{sum_by}
use Rattle.std.specs.List.{AllByRecursion}
use Rattle.std.proofs.lemmas.List.Sums.{sum_by-cons}
use Rattle.wol_model.specs.Journal.{SpindleState}
use Rattle.whatif.specs.declared.disk.Disk.{Disk}
use Rattle.whatif.specs.Disks.{AreDisks, IsDisk, moments_of}

pub moment_at : (ds : List Disk) (k to : ℕ) (d : Disk) → k < length ds → AllByRecursion (λ t. t ≤ to) (moments_of ds) → (get_or ds k d).moment ≤ to
moment_at [] k to d lt all = absurd (omega arith)
moment_at (x ∷ ds) zero to d lt all = all.0
moment_at (x ∷ ds) (suc k) to d lt all = moment_at ds k to d (omega arith) all.1

-- the spindle of the disk at a place, which joins the sums
pub record At (ds : List Disk) (ss : List SpindleState) (k : ℕ) (d : Disk) : Type 0 where
  pub state : SpindleState
  pub is : IsDisk d state
  pub more : (f : SpindleState → ℕ) → sum_by f (take (suc k) ss) ≡ sum_by f (take k ss) + f state

pub at_place : (ds : List Disk) (ss : List SpindleState) (k : ℕ) (d : Disk) → k < length ds → AreDisks ds ss → At ds ss k (get_or ds k d)
at_place [] ss k d lt are = absurd (omega arith)
at_place (x ∷ ds) [] k d lt are = absurd are
at_place (x ∷ ds) (s ∷ ss) zero d lt are = record { state = s; is = are.0; more = λ f. sum_by-cons f s [] ∙ first (f s) }
  where
    first : (n : ℕ) → n + 0 ≡ 0 + n
    first n = omega arith
at_place (x ∷ ds) (s ∷ ss) (suc k) d lt are =
    let rest = at_place ds ss k d (omega arith) are.1 in record {
      state = rest.state;
      is = rest.is;
      more = λ f. sum_by-cons f s (take (suc k) ss) ∙ ap (λ (n : ℕ). f s + n) (rest.more f) ∙ joined (f s) (sum_by f (take k ss)) (f rest.state) ∙ ap (λ (n : ℕ). n + f rest.state) (sym (sum_by-cons f s (take k ss)));
    }
  where
    joined : (a b c : ℕ) → a + (b + c) ≡ (a + b) + c
    joined a b c = omega arith

-- ---- sums over lists that are gone through

pub sum_more : {X : Type 0} (f : X → ℕ) (xs : List X) (k : ℕ) (d : X) → k < length xs → sum_by f (take (k + 1) xs) ≡ sum_by f (take k xs) + f (get_or xs k d)
sum_more {X} f xs k d lt = let more : k + 1 ≡ suc k = omega arith in ap (λ (n : ℕ). sum_by f (take n xs)) more ∙ at xs k lt
  where
    first : (n : ℕ) → n + 0 ≡ 0 + n
    first n = omega arith

    joined : (a b c : ℕ) → a + (b + c) ≡ (a + b) + c
    joined a b c = omega arith

    at : (ys : List X) (j : ℕ) → j < length ys → sum_by f (take (suc j) ys) ≡ sum_by f (take j ys) + f (get_or ys j d)
    at [] j lt = absurd (omega arith)
    at (y ∷ ys) zero lt = sum_by-cons f y [] ∙ first (f y)
    at (y ∷ ys) (suc j) lt = sum_by-cons f y (take (suc j) ys) ∙ ap (λ (n : ℕ). f y + n) (at ys j (omega arith)) ∙ joined (f y) (sum_by f (take j ys)) (f (get_or ys j d)) ∙ ap (λ (n : ℕ). n + f (get_or ys j d)) (sym (sum_by-cons f y (take j ys)))

pub sum_mapped : {X Y : Type 0} (f : Y → ℕ) (g : X → Y) (xs : List X) → sum_by f (map g xs) ≡ sum_by (λ x. f (g x)) xs
sum_mapped f g [] = refl
sum_mapped f g (x ∷ xs) = sum_by-cons f (g x) (map g xs) ∙ ap (λ (n : ℕ). f (g x) + n) (sum_mapped f g xs) ∙ sym (sum_by-cons (λ y. f (g y)) x xs)
