-- What is left after a record's blocks are home or given up is less.
use Rattle.std.proofs.Common.{◌≡◌, ◌<◌, ℕ, zero, suc, Bool, true, false, cond, List, [], ◌∷◌, ◌++◌, length, Some, refl, ap, subst, ◌∙◌, arith}
use Rattle.std.specs.Prelude.{filter, slice_get, slice_set}
use Rattle.std.proofs.lemmas.Option.{same_Some, none-some}
use Rattle.wol_model.specs.Index.{Listed, Indexed, listed_in, is_due, goes, has_going, keeps_a_block, homing, keeping, block_numbers, left}
use Rattle.wol_model.proofs.DrainGives.{giving_up_lowers}
use Rattle.wol_model.proofs.DrainPuts.{putting_lowers}
use Rattle.wol_promise.proofs.Covers.{any_found}

-- around the element at a place
pub record Around {X : Type 0} (xs : List X) (k : ℕ) (x : X) : Type 0 where
  pub front : List X
  pub back : List X
  pub is : xs ≡ front ++ x ∷ back
  pub set : (y : X) → slice_set xs k y ≡ front ++ y ∷ back

pub around : {X : Type 0} (xs : List X) (k : ℕ) (x : X) → slice_get xs k ≡ Some x → Around xs k x
around [] k x is = absurd (none-some x is)
around (z ∷ xs) zero x is = record { front = []; back = xs; is = λ i. same_Some z x is i ∷ xs; set = λ y. refl }
around (z ∷ xs) (suc k) x is = let rest = around xs k x is in record { front = z ∷ rest.front; back = rest.back; is = λ i. z ∷ rest.is i; set = λ y i. z ∷ rest.set y i }

pub given_lowers : (listed : List Listed) (place : ℕ) (x : Listed) → slice_get listed place ≡ Some x → has_going listed x ≡ true → left (filter keeps_a_block (slice_set listed place (keeping listed x))) < left listed
given_lowers listed place x is some =
    let a = around listed place x is in
    let f = any_found (goes listed x) (block_numbers x) some in
    let lower = giving_up_lowers a.front a.back x f.item (subst (λ (l : List Listed). goes l x f.item ≡ true) a.is f.passes) in
    let now : filter keeps_a_block (slice_set listed place (keeping listed x)) ≡ filter keeps_a_block (a.front ++ keeping (a.front ++ x ∷ a.back) x ∷ a.back) = ap (filter keeps_a_block) (a.set (keeping listed x) ∙ (λ i. a.front ++ keeping (a.is i) x ∷ a.back)) in
    let l = ap left now in let r = ap left a.is in
    omega (arith, lower, l, r)

pub put_lowers : (listed : List Listed) (place : ℕ) (x : Listed) (put : ℕ → Bool) (b : ℕ) → slice_get listed place ≡ Some x → length x.homed ≡ length x.keep → ((c : ℕ) → put c ≡ true → is_due listed x c ≡ true) → put b ≡ true
    → left (slice_set listed place (homing put x)) < left listed
put_lowers listed place x put b is sized due is_put =
    let a = around listed place x is in
    let lower = putting_lowers a.front a.back x put b sized (λ c p. subst (λ (l : List Listed). is_due l x c ≡ true) a.is (due c p)) is_put in
    let l = ap left (a.set (homing put x)) in let r = ap left a.is in
    omega (arith, lower, l, r)

-- ---- records that keep a block

pub filter_listed : (es : List Indexed) → listed_in (filter (λ e. keeps_a_block e.listed) es) ≡ filter keeps_a_block (listed_in es)
filter_listed [] = refl
filter_listed (x ∷ es) = at (keeps_a_block x.listed) (filter_listed es)
  where
    at : (t : Bool) → listed_in (filter (λ e. keeps_a_block e.listed) es) ≡ filter keeps_a_block (listed_in es)
        → listed_in (cond t (x ∷ filter (λ e. keeps_a_block e.listed) es) (filter (λ e. keeps_a_block e.listed) es)) ≡ cond t (x.listed ∷ filter keeps_a_block (listed_in es)) (filter keeps_a_block (listed_in es))
    at true rest = λ i. x.listed ∷ rest i
    at false rest = rest
