-- What is known of each block, against the entries.
use Rattle.std.proofs.Common.{◌≡◌, ◌<◌, ◌≤◌, ◌+◌, ◌-◌, ℕ, zero, suc, Bool, true, false, cond, not, ◌&&◌, ◌||◌, List, [], ◌∷◌, ◌++◌, map, length, take, drop, set, Option, Some, None, refl, sym, ap, ◌∙◌, subst, arith, eqb, is_some}
use Rattle.std.specs.Prelude.{slice_get}
use Rattle.std.specs.List.{AllByRecursion, remove}
use Rattle.std.proofs.Math.Bool.{and-false, and-true}
use Rattle.std.proofs.lemmas.Bool.{ne_eqb, eq-eqb, lt-ltb, false≢true, or_left, or_right}
use Rattle.wol_model.specs.Index.{AreRising}
use Rattle.block_cells.specs.declared.blocks.Cell.{Cell}
use Rattle.block_cells.specs.Cells.{with_older, keepers_of, is_held, take_one, one_covers}
use Rattle.redirect_map.specs.declared.entry.Entry.{Entry}
use Rattle.redirect_map.specs.Kept.{keeps, one_keeps}
use Rattle.redirect_map.specs.Cells.{cell_of}
use Rattle.redirect_map.proofs.Seen.{all_at, all_before_map}

-- ---- Whether there is one

some_older : (t : Bool) (v : ℕ) (c : Option Cell) → is_some (with_older t v c) ≡ (t || is_some c)
some_older false v c = refl
some_older true v None = refl
some_older true v (Some c) = refl

pub cell_there : (items : List Entry) (b : ℕ) → is_some (cell_of items b) ≡ one_keeps items b
cell_there [] b = refl
cell_there (x ∷ xs) b = some_older (keeps x b) x.record.version (cell_of xs b) ∙ ap (λ (t : Bool). keeps x b || t) (cell_there xs b)

-- ---- The newest record

-- the place of the newest record of the block
pub record IsNewest (items : List Entry) (b : ℕ) (c : Cell) (k : ℕ) (e : Entry) : Type 0 where
  pub at : slice_get items k ≡ Some e
  pub version_is : e.record.version ≡ c.version
  pub keeps_it : keeps e b ≡ true
  pub last : one_keeps (drop (suc k) items) b ≡ false

pub newest_place : (items : List Entry) (b : ℕ) (c : Cell) → cell_of items b ≡ Some c → (k : ℕ) × (e : Entry) × IsNewest items b c k e
newest_place [] b c is = absurd (cc)
newest_place (x ∷ xs) b c is = here (λ d there. newest_place xs b d there) (keeps x b) refl (cell_of xs b) refl is
  where
    later : ((d : Cell) → cell_of xs b ≡ Some d → (k : ℕ) × (e : Entry) × IsNewest xs b d k e) → (d : Cell) → cell_of xs b ≡ Some d → d.version ≡ c.version → (k : ℕ) × (e : Entry) × IsNewest (x ∷ xs) b c k e
    later rest d there same =
        let found = rest d there in
        (suc found.0, found.1, record { at = found.2.at; version_is = found.2.version_is ∙ same; keeps_it = found.2.keeps_it; last = found.2.last })

    here : ((d : Cell) → cell_of xs b ≡ Some d → (k : ℕ) × (e : Entry) × IsNewest xs b d k e) → (t : Bool) → keeps x b ≡ t → (o : Option Cell) → cell_of xs b ≡ o → with_older t x.record.version o ≡ Some c → (k : ℕ) × (e : Entry) × IsNewest (x ∷ xs) b c k e
    here rest false keep None there is = absurd (cc)
    here rest false keep (Some d) there is = let f : d ≡ c = cc in later rest d there (ap (λ (y : Cell). y.version) f)
    here rest true keep None there is =
        let y : Cell = record { version = x.record.version; keepers = 1 } in
        let f : y ≡ c = cc in
        (0, x, record { at = refl; version_is = ap (λ (z : Cell). z.version) f; keeps_it = keep; last = sym (cell_there xs b) ∙ ap (λ (o : Option Cell). is_some o) there })
    here rest true keep (Some d) there is =
        let y : Cell = record { version = d.version; keepers = d.keepers + 1 } in
        let f : y ≡ c = cc in
        later rest d there (ap (λ (z : Cell). z.version) f)

-- ---- How many records

pub keepers_few : (items : List Entry) (b : ℕ) → keepers_of (cell_of items b) ≤ length items
keepers_few [] b = omega arith
keepers_few (x ∷ xs) b = at (keeps x b) (cell_of xs b) (keepers_few xs b)
  where
    at : (t : Bool) (o : Option Cell) → keepers_of o ≤ length xs → keepers_of (with_older t x.record.version o) ≤ suc (length xs)
    at false o few = omega arith
    at true None few = omega arith
    at true (Some c) few = omega arith

some_keeper : (items : List Entry) (b : ℕ) (c : Cell) → cell_of items b ≡ Some c → 1 ≤ c.keepers
some_keeper [] b c is = absurd (cc)
some_keeper (x ∷ xs) b c is = at (λ d there. some_keeper xs b d there) (keeps x b) (cell_of xs b) refl is
  where
    at : ((d : Cell) → cell_of xs b ≡ Some d → 1 ≤ d.keepers) → (t : Bool) (o : Option Cell) → cell_of xs b ≡ o → with_older t x.record.version o ≡ Some c → 1 ≤ c.keepers
    at rest false None there is = absurd (cc)
    at rest false (Some d) there is = let f : d ≡ c = cc in subst (λ (z : Cell). 1 ≤ z.keepers) f (rest d there)
    at rest true None there is =
        let y : Cell = record { version = x.record.version; keepers = 1 } in
        let f : y ≡ c = cc in
        subst (λ (z : Cell). 1 ≤ z.keepers) f (omega arith)
    at rest true (Some d) there is =
        let y : Cell = record { version = d.version; keepers = d.keepers + 1 } in
        let f : y ≡ c = cc in
        subst (λ (z : Cell). 1 ≤ z.keepers) f (omega arith)

-- ---- Live blocks

above_at : (x : Entry) (xs : List Entry) (k : ℕ) (e : Entry) → AllByRecursion (λ w. x.record.version < w) (map (λ (d : Entry). d.record.version) xs) → slice_get xs k ≡ Some e → x.record.version < e.record.version
above_at x xs k e above at = all_at (λ (d : Entry). x.record.version < d.record.version) xs k e (all_before_map (λ w. x.record.version < w) (λ (d : Entry). d.record.version) xs above) at

version_above : (x : Entry) (xs : List Entry) (b : ℕ) (c : Cell) → AllByRecursion (λ w. x.record.version < w) (map (λ (d : Entry). d.record.version) xs) → cell_of xs b ≡ Some c → x.record.version < c.version
version_above x xs b c above is =
    let found = newest_place xs b c is in
    let less : x.record.version < found.1.record.version = above_at x xs found.0 found.1 above found.2.at in
    let same : found.1.record.version ≡ c.version = found.2.version_is in
    omega arith

-- the record at a place is the newest of a block where it keeps it and no later one does
pub held_at : (items : List Entry) (k : ℕ) (e : Entry) (b : ℕ) → AreRising (map (λ (d : Entry). d.record.version) items) → slice_get items k ≡ Some e
    → is_held e.record.version false (cell_of items b) ≡ (keeps e b && not (one_keeps (drop (suc k) items) b))
held_at [] k e b rising at = absurd (cc)
held_at (x ∷ xs) zero e b rising at =
    let f : x ≡ e = cc in
    subst (λ (d : Entry). is_held d.record.version false (cell_of (x ∷ xs) b) ≡ (keeps d b && not (one_keeps xs b))) f (here (keeps x b) (cell_of xs b) refl)
  where
    here : (t : Bool) (o : Option Cell) → cell_of xs b ≡ o → is_held x.record.version false (with_older t x.record.version o) ≡ (t && not (one_keeps xs b))
    here t None there = rw (sym (cell_there xs b) ∙ ap (λ (c : Option Cell). is_some c) there) (none t)
      where
        none : (t : Bool) → is_held x.record.version false (with_older t x.record.version None) ≡ (t && true)
        none true = ap (λ (s : Bool). s && true) (eq-eqb x.record.version x.record.version refl)
        none false = refl
    here t (Some c) there = rw (sym (cell_there xs b) ∙ ap (λ (o : Option Cell). is_some o) there) (some t)
      where
        other : eqb c.version x.record.version ≡ false
        other = let less : x.record.version < c.version = version_above x xs b c rising.0 there in ne_eqb c.version x.record.version (λ same. absurd (omega arith))

        some : (t : Bool) → is_held x.record.version false (with_older t x.record.version (Some c)) ≡ (t && false)
        some true = ap (λ (s : Bool). s && true) other
        some false = ap (λ (s : Bool). s && true) other
held_at (x ∷ xs) (suc k) e b rising at = same (keeps x b) (cell_of xs b) ∙ held_at xs k e b rising.1 at
  where
    same : (t : Bool) (o : Option Cell) → is_held e.record.version false (with_older t x.record.version o) ≡ is_held e.record.version false o
    same false o = refl
    same true None =
        let less : x.record.version < e.record.version = above_at x xs k e rising.0 at in
        ap (λ (s : Bool). s && true) (ne_eqb x.record.version e.record.version (λ equal. absurd (omega arith)))
    same true (Some c) = refl

-- and it is the only one where no earlier one keeps it either
pub alone_at : (items : List Entry) (k : ℕ) (e : Entry) (b : ℕ) → AreRising (map (λ (d : Entry). d.record.version) items) → slice_get items k ≡ Some e
    → is_held e.record.version true (cell_of items b) ≡ (is_held e.record.version false (cell_of items b) && not (one_keeps (take k items) b))
alone_at [] k e b rising at = absurd (cc)
alone_at (x ∷ xs) zero e b rising at =
    let f : x ≡ e = cc in
    subst (λ (d : Entry). is_held d.record.version true (cell_of (x ∷ xs) b) ≡ (is_held d.record.version false (cell_of (x ∷ xs) b) && true)) f (here (keeps x b) (cell_of xs b) refl)
  where
    here : (t : Bool) (o : Option Cell) → cell_of xs b ≡ o → is_held x.record.version true (with_older t x.record.version o) ≡ (is_held x.record.version false (with_older t x.record.version o) && true)
    here true None there = sym (and-true (eqb x.record.version x.record.version && true))
    here false None there = refl
    here t (Some c) there = some t
      where
        other : eqb c.version x.record.version ≡ false
        other = let less : x.record.version < c.version = version_above x xs b c rising.0 there in ne_eqb c.version x.record.version (λ same. absurd (omega arith))

        some : (t : Bool) → is_held x.record.version true (with_older t x.record.version (Some c)) ≡ (is_held x.record.version false (with_older t x.record.version (Some c)) && true)
        some true = rw other refl
        some false = rw other refl
alone_at (x ∷ xs) (suc k) e b rising at = step (keeps x b) (cell_of xs b) refl (alone_at xs k e b rising.1 at)
  where
    step : (t : Bool) (o : Option Cell) → cell_of xs b ≡ o → is_held e.record.version true o ≡ (is_held e.record.version false o && not (one_keeps (take k xs) b))
        → is_held e.record.version true (with_older t x.record.version o) ≡ (is_held e.record.version false (with_older t x.record.version o) && not (t || one_keeps (take k xs) b))
    step false o there rest = rest
    step true None there rest =
        let less : x.record.version < e.record.version = above_at x xs k e rising.0 at in
        let other : eqb x.record.version e.record.version ≡ false = ne_eqb x.record.version e.record.version (λ equal. absurd (omega arith)) in
        rw other refl
    step true (Some c) there rest =
        let one : 1 ≤ c.keepers = some_keeper xs b c there in
        let many : eqb (c.keepers + 1) 1 ≡ false = ne_eqb (c.keepers + 1) 1 (λ same. absurd (omega arith)) in
        rw (many, and-false (eqb c.version e.record.version)) (sym (and-false (eqb c.version e.record.version && true)))

-- ---- One entry more

pub cell_push : (items : List Entry) (e : Entry) (b : ℕ) → cell_of (items ++ e ∷ []) b ≡ cond (keeps e b) (one_covers e.record.version (cell_of items b)) (cell_of items b)
cell_push [] e b = at (keeps e b)
  where
    at : (t : Bool) → with_older t e.record.version None ≡ cond t (one_covers e.record.version None) None
    at true = refl
    at false = refl
cell_push (x ∷ xs) e b = ap (with_older (keeps x b) x.record.version) (cell_push xs e b) ∙ at (keeps x b) (keeps e b) (cell_of xs b)
  where
    at : (s t : Bool) (o : Option Cell) → with_older s x.record.version (cond t (one_covers e.record.version o) o) ≡ cond t (one_covers e.record.version (with_older s x.record.version o)) (with_older s x.record.version o)
    at false true o = refl
    at false false o = refl
    at true true None = refl
    at true true (Some c) = refl
    at true false o = refl

-- ---- One entry in place of another

pub cell_set_same : (items : List Entry) (k : ℕ) (e f : Entry) (b : ℕ) → slice_get items k ≡ Some e → f.record.version ≡ e.record.version → keeps f b ≡ keeps e b → cell_of (set items k f) b ≡ cell_of items b
cell_set_same [] k e f b at version keep = refl
cell_set_same (x ∷ xs) zero e f b at version keep =
    let g : x ≡ e = cc in
    λ i. with_older ((keep ∙ ap (λ (d : Entry). keeps d b) (sym g)) i) ((version ∙ ap (λ (d : Entry). d.record.version) (sym g)) i) (cell_of xs b)
cell_set_same (x ∷ xs) (suc k) e f b at version keep = ap (with_older (keeps x b) x.record.version) (cell_set_same xs k e f b at version keep)

pub one_there : (xs : List Entry) (k : ℕ) (e : Entry) (b : ℕ) → slice_get xs k ≡ Some e → keeps e b ≡ true → one_keeps xs b ≡ true
one_there [] k e b at keep = absurd (cc)
one_there (x ∷ xs) zero e b at keep =
    let f : x ≡ e = cc in
    or_left (keeps x b) (one_keeps xs b) (ap (λ (d : Entry). keeps d b) f ∙ keep)
one_there (x ∷ xs) (suc k) e b at keep = or_right (keeps x b) (one_keeps xs b) (one_there xs k e b at keep)

-- where a record of the list is there
none_there : (xs : List Entry) (b : ℕ) → one_keeps xs b ≡ true → cell_of xs b ≡ None → ⊥
none_there xs b one none = false≢true (sym (ap (λ (o : Option Cell). is_some o) none) ∙ cell_there xs b ∙ one)

two_keepers : (items : List Entry) (k : ℕ) (e : Entry) (b : ℕ) (c : Cell) → slice_get items k ≡ Some e → keeps e b ≡ true → one_keeps (drop (suc k) items) b ≡ true → cell_of items b ≡ Some c → 2 ≤ c.keepers
two_keepers [] k e b c at keep later is = absurd (cc)
two_keepers (x ∷ xs) zero e b c at keep later is =
    let g : x ≡ e = cc in
    here (keeps x b) (ap (λ (d : Entry). keeps d b) g ∙ keep) (cell_of xs b) refl is
  where
    here : (t : Bool) → t ≡ true → (o : Option Cell) → cell_of xs b ≡ o → with_older t x.record.version o ≡ Some c → 2 ≤ c.keepers
    here false wrong o there is = absurd (false≢true wrong)
    here true right None there is = absurd (none_there xs b later there)
    here true right (Some d) there is =
        let one : 1 ≤ d.keepers = some_keeper xs b d there in
        let y : Cell = record { version = d.version; keepers = d.keepers + 1 } in
        let f : y ≡ c = cc in
        subst (λ (z : Cell). 2 ≤ z.keepers) f (omega arith)
two_keepers (x ∷ xs) (suc k) e b c at keep later is = here (λ d there. two_keepers xs k e b d at keep later there) (keeps x b) (cell_of xs b) refl is
  where
    here : ((d : Cell) → cell_of xs b ≡ Some d → 2 ≤ d.keepers) → (t : Bool) (o : Option Cell) → cell_of xs b ≡ o → with_older t x.record.version o ≡ Some c → 2 ≤ c.keepers
    here rest t None there is = absurd (none_there xs b (one_there xs k e b at keep) there)
    here rest false (Some d) there is = let f : d ≡ c = cc in subst (λ (z : Cell). 2 ≤ z.keepers) f (rest d there)
    here rest true (Some d) there is =
        let two : 2 ≤ d.keepers = rest d there in
        let y : Cell = record { version = d.version; keepers = d.keepers + 1 } in
        let f : y ≡ c = cc in
        subst (λ (z : Cell). 2 ≤ z.keepers) f (omega arith)

taken : (c : Cell) (n v : ℕ) → c.keepers ≡ n + 1 → 1 ≤ n → c.version ≡ v → take_one (Some c) ≡ Some (record { version = v; keepers = n })
taken c n v many some same =
    let more : 1 < c.keepers = omega arith in
    let less : c.keepers - 1 ≡ n = omega arith in
    ap (λ (t : Bool). cond t (Some (record { version = c.version; keepers = c.keepers - 1 })) None) (lt-ltb 1 c.keepers more) ∙ (λ i. Some (record { version = same i; keepers = less i }))

-- an entry keeps the block no more: one that no older one keeps, or one that a newer one keeps
pub cell_set_less : (items : List Entry) (k : ℕ) (e f : Entry) (b : ℕ) → slice_get items k ≡ Some e → keeps e b ≡ true → keeps f b ≡ false
    → (one_keeps (take k items) b ≡ true → one_keeps (drop (suc k) items) b ≡ true) → cell_of (set items k f) b ≡ take_one (cell_of items b)
cell_set_less [] k e f b at keep gone newer = absurd (cc)
cell_set_less (x ∷ xs) zero e f b at keep gone newer =
    let g : x ≡ e = cc in
    ap (λ (t : Bool). with_older t f.record.version (cell_of xs b)) gone ∙ here (keeps x b) (ap (λ (d : Entry). keeps d b) g ∙ keep) (cell_of xs b) refl
  where
    here : (t : Bool) → t ≡ true → (o : Option Cell) → cell_of xs b ≡ o → o ≡ take_one (with_older t x.record.version o)
    here false wrong o there = absurd (false≢true wrong)
    here true right None there = refl
    here true right (Some d) there = sym (taken (record { version = d.version; keepers = d.keepers + 1 }) d.keepers d.version refl (some_keeper xs b d there) refl)
cell_set_less (x ∷ xs) (suc k) e f b at keep gone newer =
    ap (with_older (keeps x b) x.record.version) (cell_set_less xs k e f b at keep gone (λ one. newer (or_right (keeps x b) (one_keeps (take k xs) b) one)))
    ∙ here (keeps x b) (λ on. newer (or_left (keeps x b) (one_keeps (take k xs) b) on)) (cell_of xs b) refl
  where
    here : (t : Bool) → (t ≡ true → one_keeps (drop (suc k) xs) b ≡ true) → (o : Option Cell) → cell_of xs b ≡ o → with_older t x.record.version (take_one o) ≡ take_one (with_older t x.record.version o)
    here false later o there = refl
    here true later None there = absurd (none_there xs b (one_there xs k e b at keep) there)
    here true later (Some d) there =
        let two : 2 ≤ d.keepers = two_keepers xs k e b d at keep (later refl) there in
        let less : d.keepers - 1 + 1 ≡ d.keepers = omega arith in
        let few : 1 ≤ d.keepers - 1 = omega arith in
        let all : d.keepers ≡ d.keepers - 1 + 1 = omega arith in
        ap (with_older true x.record.version) (taken d (d.keepers - 1) d.version all few refl)
        ∙ (λ i. Some (record { version = d.version; keepers = less i }))
        ∙ sym (taken (record { version = d.version; keepers = d.keepers + 1 }) d.keepers d.version refl (omega arith) refl)

-- an entry that keeps nothing may be taken out
pub cell_removed : (items : List Entry) (k : ℕ) (e f : Entry) (b : ℕ) → slice_get items k ≡ Some e → keeps f b ≡ false → cell_of (remove items k) b ≡ cell_of (set items k f) b
cell_removed [] k e f b at gone = absurd (cc)
cell_removed (x ∷ xs) zero e f b at gone = sym (ap (λ (t : Bool). with_older t f.record.version (cell_of xs b)) gone)
cell_removed (x ∷ xs) (suc k) e f b at gone = ap (with_older (keeps x b) x.record.version) (cell_removed xs k e f b at gone)
