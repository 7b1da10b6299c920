-- Pairs of versions and blocks, some of which go: what is taken off adds up.
use Rattle.std.proofs.Common.{◌≡◌, ◌⊎◌, ⊎_elim, ◌+◌, ℕ, suc, Bool, true, false, cond, not, ◌&&◌, ◌||◌, List, [], ◌∷◌, ◌++◌, map, length, length-append, refl, sym, ap, subst, ◌∙◌, arith, eqb}
use Rattle.std.specs.Prelude.{Contains}
use Rattle.std.specs.List.{AllByRecursion, list_any, filter, flat_map, count_by}
use Rattle.std.proofs.lemmas.Bool.{eq-eqb, eqb-true}
use Rattle.std.proofs.lemmas.List.Elements.{filter-append}
use Rattle.std.proofs.lemmas.List.Filters.{length-filter_both}
use Rattle.std.proofs.lemmas.List.Sums.{length-filter}
use Rattle.wol_model.specs.Index.{Listed, is_due, block_numbers}
use Rattle.wol_model.proofs.Counts.{either, true_or}
use Rattle.wol_promise.specs.Policy.{Look}
use Rattle.wol_promise.specs.Report.{is_among}
use Rattle.wol_promise.proofs.Covers.{any_found, any_member}
use Rattle.wol_promise.proofs.Lists.{all_map, all_front, all_back, all_member, member_front, member_behind}
use Rattle.reclaimer.specs.Counts.{TakesOff, TakenAddsUp, NothingTaken}

-- ---- filters

-- each passes
pub filter_each : {X : Type 0} (p : X → Bool) (xs : List X) → AllByRecursion (λ x. p x ≡ true) xs → filter p xs ≡ xs
filter_each p [] all = refl
filter_each p (x ∷ xs) all = (λ i. cond (all.0 i) (x ∷ filter p xs) (filter p xs)) ∙ (λ i. x ∷ filter_each p xs all.1 i)

-- none does
pub filter_nothing : {X : Type 0} (p : X → Bool) (xs : List X) → AllByRecursion (λ x. p x ≡ false) xs → filter p xs ≡ []
filter_nothing p [] all = refl
filter_nothing p (x ∷ xs) all = (λ i. cond (all.0 i) (x ∷ filter p xs) (filter p xs)) ∙ filter_nothing p xs all.1

-- the same pass
pub filter_same : {X : Type 0} (p q : X → Bool) (xs : List X) → AllByRecursion (λ x. p x ≡ q x) xs → filter p xs ≡ filter q xs
filter_same p q [] all = refl
filter_same p q (x ∷ xs) all = λ i. cond (all.0 i) (x ∷ filter_same p q xs all.1 i) (filter_same p q xs all.1 i)

-- what passes the one passes the other
pub filter_twice : {X : Type 0} (p q : X → Bool) (xs : List X) → ((x : X) → p x ≡ true → q x ≡ true) → filter p (filter q xs) ≡ filter p xs
filter_twice p q [] so = refl
filter_twice {X} p q (x ∷ xs) so = at (q x) (p x) refl refl (filter_twice p q xs so)
  where
    at : (t s : Bool) → q x ≡ t → p x ≡ s → filter p (filter q xs) ≡ filter p xs → filter p (cond t (x ∷ filter q xs) (filter q xs)) ≡ cond s (x ∷ filter p xs) (filter p xs)
    at true s is passes rest = λ i. cond (passes i) (x ∷ rest i) (rest i)
    at false true is passes rest = absurd (let no : false ≡ true = sym is ∙ so x passes in cc)
    at false false is passes rest = rest

-- what passes both
pub filter_both : {X : Type 0} (p q : X → Bool) (xs : List X) → filter (λ x. p x && q x) xs ≡ filter q (filter p xs)
filter_both p q [] = refl
filter_both {X} p q (x ∷ xs) = at (p x) (filter_both p q xs)
  where
    at : (t : Bool) → filter (λ y. p y && q y) xs ≡ filter q (filter p xs) → cond (t && q x) (x ∷ filter (λ y. p y && q y) xs) (filter (λ y. p y && q y) xs) ≡ filter q (cond t (x ∷ filter p xs) (filter p xs))
    at true rest = λ i. cond (q x) (x ∷ rest i) (rest i)
    at false rest = rest

pub filter_mapped : {X Y : Type 0} (p : Y → Bool) (f : X → Y) (xs : List X) → filter p (map f xs) ≡ map f (filter (λ x. p (f x)) xs)
filter_mapped p f [] = refl
filter_mapped {X} p f (x ∷ xs) = at (p (f x)) (filter_mapped p f xs)
  where
    at : (t : Bool) → filter p (map f xs) ≡ map f (filter (λ y. p (f y)) xs) → cond t (f x ∷ filter p (map f xs)) (filter p (map f xs)) ≡ map f (cond t (x ∷ filter (λ y. p (f y)) xs) (filter (λ y. p (f y)) xs))
    at true rest = λ i. f x ∷ rest i
    at false rest = rest

-- those that fail and those that pass are all
pub failed_and_passed : {X : Type 0} (p : X → Bool) (xs : List X) → count_by (λ x. not (p x)) xs + length (filter p xs) ≡ length xs
failed_and_passed p xs = let both = length-filter_both p (λ x. not (p x)) (λ x. refl) xs in let l = length-filter (λ x. not (p x)) xs in omega (arith, both, l)

-- ---- members

pub each_member : {X : Type 0} (P : X → Type 0) (xs : List X) → ((x : X) → Contains xs x → P x) → AllByRecursion P xs
each_member P [] so = tt
each_member P (x ∷ xs) so = (so x (0, omega arith, refl), each_member P xs (λ y has. so y (member_behind x xs y has)))

pub kept_passes : {X : Type 0} (p : X → Bool) (xs : List X) → AllByRecursion (λ x. p x ≡ true) (filter p xs)
kept_passes p [] = tt
kept_passes {X} p (x ∷ xs) = at (p x) refl (kept_passes p xs)
  where
    at : (t : Bool) → p x ≡ t → AllByRecursion (λ y. p y ≡ true) (filter p xs) → AllByRecursion (λ y. p y ≡ true) (cond t (x ∷ filter p xs) (filter p xs))
    at true is rest = (is, rest)
    at false is rest = rest

kept_member : {X : Type 0} (p : X → Bool) (xs : List X) (x : X) → Contains xs x → p x ≡ true → Contains (filter p xs) x
kept_member p [] x has is = absurd (let lt = has.1 in omega arith)
kept_member {X} p (y ∷ ys) x has is = at (p y) refl (member_front y ys x has) (λ there. kept_member p ys x there is)
  where
    at : (t : Bool) → p y ≡ t → (y ≡ x) ⊎ Contains ys x → (Contains ys x → Contains (filter p ys) x) → Contains (cond t (y ∷ filter p ys) (filter p ys)) x
    at true passes where_ rest = ⊎_elim (λ same. (0, omega arith, same)) (λ there. member_behind y (filter p ys) x (rest there)) where_
    at false fails where_ rest = ⊎_elim (λ same. absurd (let no : false ≡ true = sym fails ∙ ap p same ∙ is in cc)) rest where_

-- ---- pairs

-- each pair is among its list
pub all_among : (ps : List (ℕ × ℕ)) → AllByRecursion (λ p. is_among ps p ≡ true) ps
all_among [] = tt
all_among (q ∷ ps) = (
  λ i. (eq-eqb q.0 q.0 refl i && eq-eqb q.1 q.1 refl i) || is_among ps q,
  all_map (λ p. is_among ps p ≡ true) (λ p. is_among (q ∷ ps) p ≡ true) (λ p is. true_or (eqb q.0 p.0 && eqb q.1 p.1) (is_among ps p) is) ps (all_among ps),
)

-- what is among some is among all
among_kept : (q : ℕ × ℕ → Bool) (ps : List (ℕ × ℕ)) (p : ℕ × ℕ) → is_among (filter q ps) p ≡ true → is_among ps p ≡ true
among_kept q [] p is = is
among_kept q (r ∷ ps) p is = at (q r) is (among_kept q ps p)
  where
    at : (t : Bool) → is_among (cond t (r ∷ filter q ps) (filter q ps)) p ≡ true → (is_among (filter q ps) p ≡ true → is_among ps p ≡ true) → is_among (r ∷ ps) p ≡ true
    at true found rest = ⊎_elim (λ here. λ i. here i || is_among ps p) (λ there. true_or (eqb r.0 p.0 && eqb r.1 p.1) (is_among ps p) (rest there)) (either (eqb r.0 p.0 && eqb r.1 p.1) (is_among (filter q ps) p) found)
    at false found rest = true_or (eqb r.0 p.0 && eqb r.1 p.1) (is_among ps p) (rest found)

-- Of these pairs so many are no longer among those, which have no others.
pub record Taken (blocks : ℕ) (ps qs : List (ℕ × ℕ)) : Type 0 where
  pub fewer : count_by (λ p. not (is_among qs p)) ps ≡ blocks
  pub others : qs ≡ filter (is_among qs) ps

pub taken_twice : (a b : ℕ) (ps qs rs : List (ℕ × ℕ)) → Taken a ps qs → Taken b qs rs → Taken (a + b) ps rs
taken_twice a b ps qs rs one two = record { fewer = count; others = all }
  where
    all : rs ≡ filter (is_among rs) ps
    all = two.others ∙ ap (filter (is_among rs)) one.others
        ∙ filter_twice (is_among rs) (is_among qs) ps (λ p is. among_kept (is_among rs) qs p (ap (λ (xs : List (ℕ × ℕ)). is_among xs p) (sym two.others) ∙ is))

    count : count_by (λ p. not (is_among rs p)) ps ≡ a + b
    count =
        let x = failed_and_passed (is_among qs) ps in let y = failed_and_passed (is_among rs) qs in let z = failed_and_passed (is_among rs) ps in
        let l = ap length one.others in let m = ap length two.others in let n = ap length all in let f = one.fewer in let g = two.fewer in
        omega (arith, x, y, z, l, m, n, f, g)

pub taken_none : (ps qs : List (ℕ × ℕ)) → qs ≡ ps → Taken 0 ps qs
taken_none ps qs same = subst (Taken 0 ps) (sym same) (record { fewer = count; others = sym all })
  where
    all : filter (is_among ps) ps ≡ ps
    all = filter_each (is_among ps) ps (all_among ps)

    count : count_by (λ p. not (is_among ps p)) ps ≡ 0
    count = let x = failed_and_passed (is_among ps) ps in let l = ap length all in omega (arith, x, l)

-- ---- blocks of one version go

none_there : (v b : ℕ) (ps : List (ℕ × ℕ)) → AllByRecursion (λ p. eqb p.0 v ≡ false) ps → is_among ps (v, b) ≡ false
none_there v b [] all = refl
none_there v b (p ∷ ps) all = λ i. (all.0 i && eqb p.1 b) || none_there v b ps all.1 i

of_version : (v b : ℕ) (cs : List ℕ) → is_among (map (λ c. (v, c)) cs) (v, b) ≡ list_any (λ c. eqb c b) cs
of_version v b [] = refl
of_version v b (c ∷ cs) = λ i. (eq-eqb v v refl i && eqb c b) || of_version v b cs i

among_joined : (ps qs : List (ℕ × ℕ)) (p : ℕ × ℕ) → is_among (ps ++ qs) p ≡ (is_among ps p || is_among qs p)
among_joined [] qs p = refl
among_joined (r ∷ ps) qs p = (λ i. (eqb r.0 p.0 && eqb r.1 p.1) || among_joined ps qs p i) ∙ assoc (eqb r.0 p.0 && eqb r.1 p.1) (is_among ps p) (is_among qs p)
  where
    assoc : (x y z : Bool) → (x || (y || z)) ≡ ((x || y) || z)
    assoc true y z = refl
    assoc false y z = refl

or_false_right : (x : Bool) → (x || false) ≡ x
or_false_right true = refl
or_false_right false = refl

-- a number of a list is among those that are kept where it passes
kept_there : (q : ℕ → Bool) (bs : List ℕ) (b : ℕ) → Contains bs b → list_any (λ c. eqb c b) (filter q bs) ≡ q b
kept_there q bs b has = at (q b) (list_any (λ c. eqb c b) (filter q bs)) refl refl
  where
    at : (t s : Bool) → q b ≡ t → list_any (λ c. eqb c b) (filter q bs) ≡ s → s ≡ t
    at true true is found = refl
    at false false is found = refl
    at true false is found = sym found ∙ any_member (λ c. eqb c b) (filter q bs) b (kept_member q bs b has is) (eq-eqb b b refl)
    at false true is found =
        let f = any_found (λ c. eqb c b) (filter q bs) found in
        let passes = all_member (λ c. q c ≡ true) (filter q bs) f.item (kept_passes q bs) f.among in
        sym passes ∙ ap q (eqb-true f.item b f.passes) ∙ is

module _ (v : ℕ) (front back : List (ℕ × ℕ)) (bs : List ℕ) (q : ℕ → Bool) (before : AllByRecursion (λ p. eqb p.0 v ≡ false) front) (behind : AllByRecursion (λ p. eqb p.0 v ≡ false) back) where
  abbrev of_v : List ℕ → List (ℕ × ℕ)
  of_v cs = map (λ c. (v, c)) cs

  abbrev were : List (ℕ × ℕ)
  were = front ++ (of_v bs ++ back)

  abbrev are : List (ℕ × ℕ)
  are = front ++ (of_v (filter q bs) ++ back)

  kept_is : (b : ℕ) → Contains bs b → is_among are (v, b) ≡ q b
  kept_is b has =
      among_joined front (of_v (filter q bs) ++ back) (v, b)
      ∙ (λ i. none_there v b front before i || among_joined (of_v (filter q bs)) back (v, b) i)
      ∙ (λ i. of_version v b (filter q bs) i || none_there v b back behind i)
      ∙ or_false_right (list_any (λ c. eqb c b) (filter q bs))
      ∙ kept_there q bs b has

  kept_all : are ≡ filter (is_among are) were
  kept_all =
      let each = all_among are in
      let in_front = filter_each (is_among are) front (all_front (λ p. is_among are p ≡ true) front (of_v (filter q bs) ++ back) each) in
      let in_back = filter_each (is_among are) back (all_back (λ p. is_among are p ≡ true) (of_v (filter q bs)) back (all_back (λ p. is_among are p ≡ true) front (of_v (filter q bs) ++ back) each)) in
      let in_mid : filter (is_among are) (of_v bs) ≡ of_v (filter q bs) = filter_mapped (is_among are) (λ c. (v, c)) bs ∙ ap of_v (filter_same (λ c. is_among are (v, c)) q bs (each_member (λ c. is_among are (v, c) ≡ q c) bs kept_is)) in
      sym (filter-append (is_among are) front (of_v bs ++ back)
      ∙ (λ i. in_front i ++ filter-append (is_among are) (of_v bs) back i)
      ∙ (λ i. front ++ (in_mid i ++ in_back i)))

  length_of_v : (cs : List ℕ) → length (of_v cs) ≡ length cs
  length_of_v [] = refl
  length_of_v (c ∷ cs) = ap suc (length_of_v cs)

  pub some_go : Taken (count_by (λ b. not (q b)) bs) (front ++ (map (λ c. (v, c)) bs ++ back)) (front ++ (map (λ c. (v, c)) (filter q bs) ++ back))
  some_go = record { fewer = count; others = kept_all }
    where
      count : count_by (λ p. not (is_among are p)) were ≡ count_by (λ b. not (q b)) bs
      count =
          let x = failed_and_passed (is_among are) were in let y = failed_and_passed q bs in let all = ap length kept_all in
          let l = length-append front (of_v bs ++ back) in let m = length-append front (of_v (filter q bs) ++ back) in
          let l2 = length-append (of_v bs) back in let m2 = length-append (of_v (filter q bs)) back in
          let l3 = length_of_v bs in let m3 = length_of_v (filter q bs) in
          omega (arith, x, y, all, l, m, l2, m2, l3, m3)

-- ---- looks

-- the due blocks of records, each with its version
abbrev pub dues_in : List Listed → List (ℕ × ℕ)
dues_in es = flat_map (λ e. map (λ b. (e.version, b)) (filter (is_due es e) (block_numbers e))) es

pub takes_off : (blocks records : ℕ) (l m : Look) → Taken blocks (dues_in l.listed) (dues_in m.listed) → length m.listed + records ≡ length l.listed → TakesOff blocks records l m
takes_off blocks records l m taken long = record { homed = taken.fewer; due = taken.others; gone_ = long }

taken_of : (blocks records : ℕ) (l m : Look) → TakesOff blocks records l m → Taken blocks (dues_in l.listed) (dues_in m.listed)
taken_of blocks records l m t = record { fewer = t.homed; others = t.due }

pub taken_adds_up : TakenAddsUp
taken_adds_up a b r s l k m one two =
    takes_off (a + b) (r + s) l m (taken_twice a b (dues_in l.listed) (dues_in k.listed) (dues_in m.listed) (taken_of a r l k one) (taken_of b s k m two))
    (let x = one.gone_ in let y = two.gone_ in omega (arith, x, y))

pub nothing_taken : NothingTaken
nothing_taken l m same = takes_off 0 0 l m (taken_none (dues_in l.listed) (dues_in m.listed) (ap dues_in same)) (let e = ap length same in omega (arith, e))
