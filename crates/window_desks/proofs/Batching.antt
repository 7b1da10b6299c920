-- Requests that go together, and lists cut in two.
use Rattle.std.proofs.Common.{◌≡◌, ◌⊎◌, ◌≤◌, ◌<◌, ◌+◌, ◌-◌, zero, suc, max, ℕ, List, [], ◌∷◌, ◌++◌, length, take, drop, get_or, refl, ap, sym, ◌∙◌, subst, inl, inr, arith}
use Rattle.std.specs.Prelude.{sum_by, All}
use Rattle.std.proofs.lemmas.List.{take-take, drop-take, drop-drop, take-append-drop, length-take, length-drop, length-take-le, get_or-take, drop_all}
use Rattle.std.proofs.lemmas.List.Elements.{All-take, All-drop, All-more, All-get_or}
use Rattle.std.proofs.lemmas.List.Sums.{sum_by_more, sum_by-take-le, sum_by-take-drop}
use Rattle.window_desks.specs.Batches.{AreWrites, blocks_of, IsBatch, IsFirstBatch}
use Rattle.trace_windows.specs.declared.request.Request.{Request}
use Rattle.wol_model.specs.declared.trace.Kind.TheVariants as kind

-- ---- Lists

front_and_next : {X : Type 0} (xs : List X) (n m : ℕ) → take n xs ++ take m (drop n xs) ≡ take (n + m) xs
front_and_next xs n m =
    let front : take n (take (n + m) xs) ≡ take n xs = take-take n (n + m) xs (omega arith) in
    ap (λ l. l ++ take m (drop n xs)) (sym front) ∙ (ap (λ l. take n (take (n + m) xs) ++ l) (sym (drop-take n m xs)) ∙ take-append-drop n (take (n + m) xs))

-- a part of a list, and the part behind it
pub parts_joined : {X : Type 0} (xs : List X) (a b c : ℕ) → a ≤ b → b ≤ c → take (b - a) (drop a xs) ++ take (c - b) (drop b xs) ≡ take (c - a) (drop a xs)
parts_joined xs a b c ab bc =
    let to : a + (b - a) ≡ b = omega arith in let all : (b - a) + (c - b) ≡ c - a = omega arith in
    let behind : drop (b - a) (drop a xs) ≡ drop b xs = drop-drop (b - a) a xs ∙ ap (λ k. drop k xs) to in
    ap (λ l. take (b - a) (drop a xs) ++ take (c - b) l) (sym behind) ∙ (front_and_next (drop a xs) (b - a) (c - b) ∙ ap (λ k. take k (drop a xs)) all)

-- some first ones of a part
pub front_of_part : {X : Type 0} (xs : List X) (a b n : ℕ) → n ≤ b - a → take n (take (b - a) (drop a xs)) ≡ take (a + n - a) (drop a xs)
front_of_part xs a b n few = let is : n ≡ a + n - a = omega arith in take-take n (b - a) (drop a xs) few ∙ ap (λ k. take k (drop a xs)) is

-- a part without its first ones
pub back_of_part : {X : Type 0} (xs : List X) (a b c : ℕ) → a ≤ b → b ≤ c → drop (b - a) (take (c - a) (drop a xs)) ≡ take (c - b) (drop b xs)
back_of_part xs a b c ab bc =
    let to : a + (b - a) ≡ b = omega arith in let all : (b - a) + (c - b) ≡ c - a = omega arith in
    ap (λ k. drop (b - a) (take k (drop a xs))) (sym all) ∙ (drop-take (b - a) (c - b) (drop a xs) ∙ ap (λ l. take (c - b) l) (drop-drop (b - a) a xs ∙ ap (λ k. drop k xs) to))

pub part_length : {X : Type 0} (xs : List X) (a b : ℕ) → a ≤ b → b ≤ length xs → length (take (b - a) (drop a xs)) ≡ b - a
part_length xs a b ab within = length-take-le (b - a) (drop a xs) (let l = length-drop a xs in omega (arith, l))

-- ---- Batches

-- what is left of a batch is one
pub batch_left : (rs : List Request) (n : ℕ) → n < length rs → IsBatch rs → IsBatch (drop n rs)
batch_left rs n less (inl one) = inl (let l = length-drop n rs in omega (arith, l, one))
batch_left rs n less (inr many) =
    let parts = sum_by-take-drop (λ (r : Request). r.count) rs n in
    inr (All-drop (λ (r : Request). r.kind ≡ kind.Write) n rs many.0, omega (arith, parts, many.1))

batch_front : (rs : List Request) (k : ℕ) → k < length rs → AreWrites (take k rs) → blocks_of (take k rs) ≤ 128 → IsBatch (take (max k 1) rs)
batch_front rs zero less writes few = inl (length-take-le 1 rs (omega arith))
batch_front rs (suc k) less writes few =
    let is : suc k ≡ max (suc k) 1 = omega arith in subst (λ n. IsBatch (take n rs)) is (inr (writes, few))

-- a longer one has request k
none_longer : (rs : List Request) (k : ℕ) (d : Request) (n : ℕ) → k < n → 2 ≤ n → n ≤ length rs → ((get_or rs k d).kind ≡ kind.Write → blocks_of (take k rs) + (get_or rs k d).count ≤ 128 → ⊥) → IsBatch (take n rs) → ⊥
none_longer rs k d n less two within not (inl one) = let l = length-take-le n rs within in omega (arith, one, l)
none_longer rs k d n less two within not (inr many) =
    let count = λ (r : Request). r.count in
    let l = length-take-le n rs within in
    let at : get_or (take n rs) k d ≡ get_or rs k d = get_or-take n rs k d less in
    let writes : (get_or rs k d).kind ≡ kind.Write = subst (λ (r : Request). r.kind ≡ kind.Write) at (All-get_or (λ (r : Request). r.kind ≡ kind.Write) (take n rs) k d (omega (arith, l)) many.0) in
    let more = sum_by_more count rs k d (omega arith) in
    let inner : take (k + 1) (take n rs) ≡ take (k + 1) rs = take-take (k + 1) n rs (omega arith) in
    let fits = subst (λ (l : List Request). sum_by count l ≤ sum_by count (take n rs)) inner (sum_by-take-le count (take n rs) (k + 1)) in
    not writes (omega (arith, more, fits, many.1))

-- request k doesn't join those before it
pub batch_ends : (rs : List Request) (k : ℕ) (d : Request) (left : ℕ) → k < length rs → AreWrites (take k rs) → left + blocks_of (take k rs) ≡ 128 → ((get_or rs k d).kind ≡ kind.Write → (get_or rs k d).count ≤ left → ⊥) → IsFirstBatch rs (max k 1)
batch_ends rs k d left less writes all not = record {
  some = omega arith;
  within = omega arith;
  batch = batch_front rs k less writes (omega (arith, all));
  longest = λ n more within. none_longer rs k d n (omega arith) (omega arith) within (λ is few. not is (omega (arith, all, few)));
}

-- all of them go together
pub batch_all : (rs : List Request) (k left : ℕ) → 1 ≤ length rs → k ≡ length rs → AreWrites (take k rs) → left + blocks_of (take k rs) ≡ 128 → IsFirstBatch rs (length rs)
batch_all rs k left some same writes all = record {
  some = some;
  within = omega arith;
  batch = subst (λ n. IsBatch (take n rs)) same (inr (writes, omega (arith, all)));
  longest = λ n more within is. omega (arith, more, within);
}

-- request k joins those before it
pub batch_more : (rs : List Request) (k : ℕ) (d : Request) (left : ℕ) → k < length rs → AreWrites (take k rs) → left + blocks_of (take k rs) ≡ 128 → (get_or rs k d).kind ≡ kind.Write → (get_or rs k d).count ≤ left
    → AreWrites (take (k + 1) rs) × (left - (get_or rs k d).count + blocks_of (take (k + 1) rs) ≡ 128)
batch_more rs k d left less writes all is few =
    let more = sum_by_more (λ (r : Request). r.count) rs k d less in
    (All-more (λ (r : Request). r.kind ≡ kind.Write) rs k d less writes is, omega (arith, more, all, few))

-- ---- The batch of a desk that begins at a place

module _ (rs : List Request) (at count : ℕ) (in_list : at ≤ length rs) (within : count ≤ length (take (length rs - at) (drop at rs))) where
  pub batch_within : at + count ≤ length rs
  batch_within = let l = length-take-le (length rs - at) (drop at rs) (let d = length-drop at rs in omega (arith, d)) in omega (arith, l, within)

  -- what is left of it from another place on
  pub batch_rest : IsBatch (take count (take (length rs - at) (drop at rs))) → (next : ℕ) → at ≤ next → next < at + count → IsBatch (take (at + count - next) (drop next rs))
  batch_rest is next order less =
      let all = batch_within in
      let front : take count (take (length rs - at) (drop at rs)) ≡ take (at + count - at) (drop at rs) = front_of_part rs at (length rs) count (omega (arith, all)) in
      let long = part_length rs at (at + count) (omega arith) all in
      subst IsBatch (back_of_part rs at next (at + count) order (omega arith)) (batch_left (take (at + count - at) (drop at rs)) (next - at) (omega (arith, long, order, less)) (subst IsBatch front is))
