-- Sums and answers that a goal over a whole call needs, stated apart from all that is known there.
use Rattle.std.proofs.Common.{◌≤◌, ◌+◌, ℕ, List, length, take, arith}
use Rattle.std.proofs.lemmas.List.{length-take-le}
use Rattle.std.proofs.lemmas.List.Sums.{sum_by-take-le}
use Rattle.log_segment.specs.Records.{count_of}
use Rattle.log_segment.specs.declared.item.Item.{Item}

-- ---- The first ones of a list

pub take_some : {X : Type 0} (n : ℕ) (xs : List X) → 1 ≤ n → n ≤ length xs → 1 ≤ length (take n xs)
take_some n xs one le = let l = length-take-le n xs le in omega (arith, l)

pub take_below : {X : Type 0} (n : ℕ) (xs : List X) (most : ℕ) → n ≤ length xs → length xs ≤ most → length (take n xs) ≤ most
take_below n xs most le few = let l = length-take-le n xs le in omega (arith, l)

pub take_room : {X : Type 0} (n : ℕ) (xs : List X) (next most : ℕ) → n ≤ length xs → next + length xs ≤ most → next + length (take n xs) ≤ most
take_room n xs next most le room = let l = length-take-le n xs le in omega (arith, l)

pub take_within : {X : Type 0} (n : ℕ) (xs : List X) (most : ℕ) → n ≤ length xs → n ≤ most → length (take n xs) ≤ most
take_within n xs most le few = let l = length-take-le n xs le in omega (arith, l)

pub take_after : {X : Type 0} (n : ℕ) (xs : List X) (next most : ℕ) → n ≤ length xs → next + n ≤ most → next + length (take n xs) ≤ most
take_after n xs next most le room = let l = length-take-le n xs le in omega (arith, l)

-- as many as there are of them
pub of_front : {X : Type 0} (n k : ℕ) (xs : List X) → k ≤ length xs → n ≤ length (take k xs) → n ≤ k
of_front n k xs le few = let l = length-take-le k xs le in omega (arith, l)

pub of_all : {X : Type 0} (n k : ℕ) (xs : List X) → k ≤ length xs → n ≤ length (take k xs) → n ≤ length xs
of_all n k xs le few = let l = length-take-le k xs le in omega (arith, l)

pub count_below : (n : ℕ) (items : List Item) (most : ℕ) → count_of items ≤ most → count_of (take n items) ≤ most
count_below n items most few = let l = sum_by-take-le (λ (i : Item). i.count) items n in omega (arith, l)

-- ---- Sums

pub few_room : (n len next most : ℕ) → n ≤ len → next + len ≤ most → next + n ≤ most
few_room n len next most le room = omega arith

pub two_more : (a b c : ℕ) → a ≤ b → b + 2 ≤ c → a + 2 ≤ c
two_more a b c le room = omega arith

pub at_most : (a b c : ℕ) → a ≤ b → b ≤ c → a ≤ c
at_most a b c le more = omega arith
