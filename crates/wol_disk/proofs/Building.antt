-- A disk that is made of the values of its blocks.
use Rattle.std.proofs.Common.{◌≡◌, ℕ, zero, suc, ◌+◌, ◌<◌, ◌≤◌, List, [], ◌∷◌, ◌++◌, length, take, get_or, map, refl, sym, ap, ◌∙◌, arith, append_assoc, Vec, Result, Ok, Err, OnOk}
use Rattle.std.proofs.lemmas.List.{take_more, map-append}
use Rattle.wol_disk.specs.Disk.{Values, Block, fresh, renewed, only, added}
use Rattle.wol_disk.specs.Later.{with_later, added_each}
use Rattle.wol_disk.specs.BlockValues.{oldest_of, later_of, values_of, all_values}
use Rattle.wol_disk.specs.Record.{values_after}
use Rattle.wol_disk.specs.declared.values.BlockValues.{BlockValues}
use Rattle.wol_disk.specs.declared.record.Call.{Call}
use Rattle.wol_disk.specs.declared.record.Call.TheVariants.{Wrote}
use Rattle.wol_disk.proofs.Recorded.{wrote}
use Rattle.std.specs.declared.alloc.Global.{Global}

-- what a write that is no call of the disk leaves, whatever it answered
pub wrote_either : {T E : Type 0} (r : Result T E) (a : List Block) (at : ℕ) (xs : List Block) (calls calls' : List Call) → OnOk r ((v : Vec Block Global) × (v.items ≡ xs) × (calls' ≡ calls ++ Wrote at v ∷ []))
    → OnOk r (values_after calls' (only a) ≡ added at xs (values_after calls (only a)))
wrote_either (Ok x) a at xs calls calls' more = wrote a a at xs more.0 calls calls' refl more.1 more.2
wrote_either (Err e) a at xs calls calls' more = tt

-- one value more at the end
pub with_push : (xs : List Block) (x : Block) (v : Values Block) → with_later (xs ++ x ∷ []) v ≡ renewed x (with_later xs v)
with_push [] x v = refl
with_push (y ∷ xs) x v = with_push xs x (renewed y v)

pub each_push : (at : ℕ) (xs : List Block) (x : Block) (vs : List (Values Block)) → added_each at (xs ++ x ∷ []) vs ≡ added at (x ∷ []) (added_each at xs vs)
each_push at [] x vs = refl
each_push at (y ∷ xs) x vs = each_push at xs x (added at (y ∷ []) vs)

pub each_more : (at k : ℕ) (xs : List Block) (x : Block) (vs : List (Values Block)) → k < length xs → x ≡ get_or xs k x → added_each at (take (k + 1) xs) vs ≡ added at (x ∷ []) (added_each at (take k xs) vs)
each_more at k xs x vs lt is = ap (λ l. added_each at l vs) (take_more xs k x lt ∙ ap (λ (y : Block). take k xs ++ y ∷ []) (sym is)) ∙ each_push at (take k xs) x vs

added_nothing : (rest : List (Values Block)) → added zero [] rest ≡ rest
added_nothing [] = refl
added_nothing (v ∷ vs) = refl

-- it changes the one block
added_here : (front rest : List (Values Block)) (v : Values Block) (x : Block) → added (length front) (x ∷ []) (front ++ v ∷ rest) ≡ front ++ renewed x v ∷ rest
added_here [] rest v x = ap (λ l. renewed x v ∷ l) (added_nothing rest)
added_here (w ∷ front) rest v x = ap (λ l. w ∷ l) (added_here front rest v x)

each_here : (front rest : List (Values Block)) (v : Values Block) (xs : List Block) → added_each (length front) xs (front ++ v ∷ rest) ≡ front ++ with_later xs v ∷ rest
each_here front rest v [] = refl
each_here front rest v (x ∷ xs) = ap (added_each (length front) xs) (added_here front rest v x) ∙ each_here front rest (renewed x v) xs

-- one block's values more in the list
pub listed_more : (list list' : List BlockValues) (b : BlockValues) (before all : List (Values Block)) (k : ℕ) → list' ≡ list ++ b ∷ [] → all_values list ≡ before ++ take k all → k < length all → values_of b ≡ get_or all k (values_of b)
    → all_values list' ≡ before ++ take (k + 1) all
listed_more list list' b before all k more is lt e =
    ap all_values more ∙ map-append values_of list (b ∷ []) ∙ ap (λ l. l ++ values_of b ∷ []) is ∙ append_assoc before (take k all) (values_of b ∷ [])
    ∙ ap (λ l. before ++ l) (sym (take_more all k (values_of b) lt ∙ ap (λ (v : Values Block). take k all ++ v ∷ []) (sym e)))

-- blocks of which the first k have all their values, and the others the oldest
abbrev pub built : ℕ → List BlockValues → List (Values Block)
built k [] = []
built zero (b ∷ bs) = only (map oldest_of (b ∷ bs))
built (suc k) (b ∷ bs) = values_of b ∷ built k bs

pub built_none : (bs : List BlockValues) → built 0 bs ≡ only (map oldest_of bs)
built_none [] = refl
built_none (b ∷ bs) = refl

pub built_all : (k : ℕ) (bs : List BlockValues) → length bs ≤ k → built k bs ≡ all_values bs
built_all k [] le = refl
built_all zero (b ∷ bs) le = absurd (omega (arith, le))
built_all (suc k) (b ∷ bs) le = ap (λ l. values_of b ∷ l) (built_all k bs (omega (arith, le)))

pub length-built : (k : ℕ) (bs : List BlockValues) → length (built k bs) ≡ length bs
length-built k [] = refl
length-built zero (b ∷ bs) = ap suc (ap length (sym (built_none bs)) ∙ length-built zero bs)
length-built (suc k) (b ∷ bs) = ap suc (length-built k bs)

each_cons : (k : ℕ) (xs : List Block) (w : Values Block) (vs : List (Values Block)) → added_each (suc k) xs (w ∷ vs) ≡ w ∷ added_each k xs vs
each_cons k [] w vs = refl
each_cons k (x ∷ xs) w vs = each_cons k xs w (added k (x ∷ []) vs)

pub built_more : (k : ℕ) (bs : List BlockValues) (b : BlockValues) → k < length bs → b ≡ get_or bs k b → added_each k (later_of b) (built k bs) ≡ built (k + 1) bs
built_more k [] b lt is = absurd (omega (arith, lt))
built_more zero (x ∷ bs) b lt is =
    each_here [] (only (map oldest_of bs)) (fresh (oldest_of x)) (later_of b) ∙ ap (λ (y : BlockValues). with_later (later_of y) (fresh (oldest_of x)) ∷ only (map oldest_of bs)) is
    ∙ ap (λ l. values_of x ∷ l) (sym (built_none bs))
built_more (suc k) (x ∷ bs) b lt is =
    let s : suc (k + 1) ≡ suc k + 1 = omega arith in
    each_cons k (later_of b) (values_of x) (built k bs) ∙ ap (λ l. values_of x ∷ l) (built_more k bs b (omega (arith, lt)) is) ∙ ap (λ (n : ℕ). built n (x ∷ bs)) s
