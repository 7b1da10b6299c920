-- What is told of waits, when one more is told.
use Rattle.std.proofs.Common.{◌≡◌, ◌≢◌, ◌<◌, ◌≤◌, ◌+◌, ◌*◌, ◌⊎◌, inl, inr, ℕ, zero, suc, Bool, true, false, cond, not, List, [], ◌∷◌, ◌++◌, map, length, get_or, set, replicate, leb, eqb, eq-eqb, max, Option, refl, sym, ap, subst, ◌∙◌, append-nil, length-append, arith}
use Rattle.whatif.specs.declared.logged.Held.{Held}
use Rattle.whatif.specs.declared.logged.Most.{Most}
use Rattle.std.proofs.lemmas.Grind.{flat_map-append}
use Rattle.std.specs.Prelude.{position, option_to_list, slice_index, unwrap_or, codes, decimal, ◌/◌}
use Rattle.std.specs.List.{AllByRecursion, position_or_len, count_by, filter, range_with_len, sum_by}
use Rattle.std.proofs.lemmas.Bool.{cases_eq, le-ltb, ne_eqb}
use Rattle.std.proofs.lemmas.List.{get_or-replicate, get_or-set_other, get_or-set_same, length-map, length-replicate, length-set, map-append}
use Rattle.std.proofs.lemmas.List.Elements.{filter-append}
use Rattle.std.proofs.lemmas.List.FromFn.{fill_by_all, get_or-map-range_with_len}
use Rattle.std.proofs.lemmas.List.Sums.{sum_by-append, sum_by-cons}
use Rattle.wol_model.specs.declared.trace.Kind.{Kind}
use Rattle.wol_model.specs.declared.trace.Kind.TheVariants as kind
use Rattle.report.specs.Words.{line_of}
use Rattle.whatif.specs.declared.policy.Policy.{Policy}
use Rattle.whatif.specs.Lines.{kind_text, name_of, waits_text}
use Rattle.wol_model.specs.Trace.{is_write}
use Rattle.whatif.specs.declared.waits.Tallies.{Tallies}
use Rattle.whatif.specs.declared.waits.Told.{Told}
use Rattle.whatif.specs.declared.waits.Waits.{Waits}
use Rattle.whatif.proofs.Lists.{all_imply, all_set}
use Rattle.whatif.proofs.New.{range_more}
use Rattle.whatif.specs.Waits.{AreFew, AreFewIn, AreTallied, AreTold, IsFew, AreLogged, IsMost, IsTold, Waited, greatest, helds, of_disk, is_over, late, late_ms, of_volume, over, waits_of}

-- ---- sums and counts

pub one_sum : (f : ℕ → ℕ) (xs : List ℕ) (x : ℕ) → sum_by f (xs ++ x ∷ []) ≡ sum_by f xs + f x
one_sum f xs x = sum_by-append f xs (x ∷ []) ∙ ap (λ (n : ℕ). sum_by f xs + n) (sum_by-cons f x [] ∙ none (f x))
  where
    none : (n : ℕ) → n + 0 ≡ n
    none n = omega arith

-- a wait more
pub told_more : (wake wait : ℕ) (waits : List ℕ) (old new : Waits) → IsTold wake waits old → length new.over ≡ 10
    → ((k : ℕ) → k < 10 → get_or new.over k 0 ≡ get_or old.over k 0 + cond (is_over wake k wait) 1 0)
    → new.count ≡ old.count + 1 → new.sum ≡ old.sum + wait → IsTold wake (waits ++ wait ∷ []) new
told_more wake wait waits old new is long at count sum_is = record {
  count = (let was = is.count in omega (arith, count, was, length-append waits (wait ∷ [])));
  over_ = fill_by_all (λ k. over wake k (waits ++ wait ∷ [])) new.over 10 0 long (λ k lt.
      let was : get_or old.over k 0 ≡ over wake k waits = ap (λ (l : List ℕ). get_or l k 0) is.over_ ∙ get_or-map-range_with_len (λ j. over wake j waits) 0 10 k k 0 lt (omega arith) in
      at k lt ∙ ap (λ (n : ℕ). n + cond (is_over wake k wait) 1 0) was ∙ sym (one_sum (λ x. cond (is_over wake k x) 1 0) waits wait));
  sum_ = sum_is ∙ ap (λ (n : ℕ). n + wait) is.sum_ ∙ sym (one_sum (λ x. x) waits wait);
}

-- who doesn't wait is late by no tenth
pub never_over : (wake k wait before : ℕ) → wait ≡ 0 → before ≡ before + cond (is_over wake k wait) 1 0
never_over wake k wait before none =
    let no : is_over wake k wait ≡ false = le-ltb (k * wake) (10 * wait) (omega (arith, none)) in
    let sum : before ≡ before + 0 = omega arith in
    sum ∙ ap (λ (b : Bool). before + cond b 1 0) (sym no)

-- ---- lateness

position_or_len-map : {X Y : Type 0} (p : Y → Bool) (f : X → Y) (xs : List X) → position_or_len p (map f xs) ≡ position_or_len (λ x. p (f x)) xs
position_or_len-map p f [] = refl
position_or_len-map p f (x ∷ xs) = ap (λ n. cond (not (p (f x))) (1 + n) 0) (position_or_len-map p f xs)

position-map : {X Y : Type 0} (p : Y → Bool) (f : X → Y) (xs : List X) → position p (map f xs) ≡ position (λ x. p (f x)) xs
position-map p f xs = rw (position_or_len-map p f xs, length-map xs f) refl

pub late_told : (wake share : ℕ) (waits : List ℕ) (t : Waits) → IsTold wake waits t → unwrap_or (position (λ n. leb (share * n) t.count) t.over) 10 ≡ late wake share waits
late_told wake share waits t is =
    (λ i. unwrap_or (position (λ n. leb (share * n) (is.count i)) (is.over_ i)) 10)
    ∙ ap (λ (o : Option ℕ). unwrap_or o 10) (position-map (λ n. leb (share * n) (length waits)) (λ k. over wake k waits) (range_with_len 0 10))

-- ---- requests

more_reads : (w : Waited) (ws : List Waited) → waits_of false (ws ++ w ∷ []) ≡ waits_of false ws ++ waits_of false (w ∷ [])
more_reads w ws = ap (map (λ (x : Waited). x.wait)) (filter-append (λ (x : Waited). not (is_write x.kind)) ws (w ∷ []))
    ∙ map-append (λ (x : Waited). x.wait) (filter (λ (x : Waited). not (is_write x.kind)) ws) (filter (λ (x : Waited). not (is_write x.kind)) (w ∷ []))

more_writes : (w : Waited) (ws : List Waited) → waits_of true (ws ++ w ∷ []) ≡ waits_of true ws ++ waits_of true (w ∷ [])
more_writes w ws = ap (map (λ (x : Waited). x.wait)) (filter-append (λ (x : Waited). is_write x.kind) ws (w ∷ []))
    ∙ map-append (λ (x : Waited). x.wait) (filter (λ (x : Waited). is_write x.kind) ws) (filter (λ (x : Waited). is_write x.kind) (w ∷ []))

pub told_read : (wake wait volume : ℕ) (held : Option Held) (ws : List Waited) (old : Told) (r : Waits) → AreTold wake ws old → ((waits : List ℕ) → IsTold wake waits old.reads → IsTold wake (waits ++ wait ∷ []) r)
    → AreTold wake (ws ++ record { volume = volume; kind = kind.Read; wait = wait; held = held } ∷ []) (record old { reads = r })
told_read wake wait volume held ws old r are more =
    let w : Waited = record { volume = volume; kind = kind.Read; wait = wait; held = held } in record {
      reads = subst (λ (l : List ℕ). IsTold wake l r) (sym (more_reads w ws)) (more (waits_of false ws) are.reads);
      writes = subst (λ (l : List ℕ). IsTold wake l old.writes) (sym (more_writes w ws ∙ append-nil (waits_of true ws))) are.writes;
    }

pub told_write : (wake wait volume : ℕ) (held : Option Held) (ws : List Waited) (old : Told) (r : Waits) → AreTold wake ws old → ((waits : List ℕ) → IsTold wake waits old.writes → IsTold wake (waits ++ wait ∷ []) r)
    → AreTold wake (ws ++ record { volume = volume; kind = kind.Write; wait = wait; held = held } ∷ []) (record old { writes = r })
told_write wake wait volume held ws old r are more =
    let w : Waited = record { volume = volume; kind = kind.Write; wait = wait; held = held } in record {
      reads = subst (λ (l : List ℕ). IsTold wake l old.reads) (sym (more_reads w ws ∙ append-nil (waits_of false ws))) are.reads;
      writes = subst (λ (l : List ℕ). IsTold wake l r) (sym (more_writes w ws)) (more (waits_of true ws) are.writes);
    }

-- ---- the line

pub line_told : (p : Policy) (k : Kind) (wake : ℕ) (waits : List ℕ) (t : Waits) (name kind_ : List ℕ) (none hundred thousand : ℕ) → IsTold wake waits t → name ≡ name_of p → kind_ ≡ kind_text k → none ≡ slice_index t.over 0 → hundred ≡ late_ms wake 100 waits → thousand ≡ late_ms wake 1000 waits
    → line_of (name ∷ kind_ ∷ decimal t.count ∷ codes "wait" ∷ decimal none ∷ codes "p99" ∷ decimal hundred ∷ codes "p999" ∷ decimal thousand ∷ codes "sum" ∷ decimal (t.sum / 10000) ∷ []) ≡ waits_text p k wake waits
unfolding waits_text
line_told p k wake waits t name kind_ none hundred thousand is of named zero_ two three =
    let first : none ≡ over wake 0 waits = zero_ ∙ ap (λ (l : List ℕ). slice_index l 0) is.over_ in
    λ i. line_of (of i ∷ named i ∷ decimal (is.count i) ∷ codes "wait" ∷ decimal (first i) ∷ codes "p99" ∷ decimal (two i) ∷ codes "p999" ∷ decimal (three i) ∷ codes "sum" ∷ decimal (is.sum_ i / 10000) ∷ [])

-- ---- all volumes, and each

other_volume : (k : ℕ) (w : Waited) (ws : List Waited) → w.volume ≢ k → of_volume k (ws ++ w ∷ []) ≡ of_volume k ws
other_volume k w ws other =
    let no : eqb w.volume k ≡ false = ne_eqb w.volume k other in
    filter-append (λ (x : Waited). eqb x.volume k) ws (w ∷ []) ∙ (λ i. filter (λ (x : Waited). eqb x.volume k) ws ++ cond (no i) (w ∷ []) []) ∙ append-nil (filter (λ (x : Waited). eqb x.volume k) ws)

own_volume : (w : Waited) (ws : List Waited) → of_volume w.volume (ws ++ w ∷ []) ≡ of_volume w.volume ws ++ w ∷ []
own_volume w ws =
    let yes : eqb w.volume w.volume ≡ true = eq-eqb w.volume w.volume refl in
    filter-append (λ (x : Waited). eqb x.volume w.volume) ws (w ∷ []) ∙ (λ i. filter (λ (x : Waited). eqb x.volume w.volume) ws ++ cond (yes i) (w ∷ []) [])

helds_more : (ws : List Waited) (w : Waited) → helds (ws ++ w ∷ []) ≡ helds ws ++ option_to_list w.held
helds_more ws w = flat_map-append (λ (x : Waited). option_to_list x.held) ws (w ∷ []) ∙ ap (λ (l : List Held). helds ws ++ l) (append-nil (option_to_list w.held))

-- a request more
pub tallied_more : (wake : ℕ) (ws : List Waited) (w : Waited) (old new : Tallies) (d t : Told) → AreTallied wake ws old → w.volume < length old.each.items → AreTold wake (ws ++ w ∷ []) new.all
    → new.each.items ≡ set old.each.items w.volume t → (AreTold wake (of_volume w.volume ws) (get_or old.each.items w.volume d) → AreTold wake (of_volume w.volume ws ++ w ∷ []) t)
    → ((hs : List Held) → AreLogged hs old.logged → AreLogged (hs ++ option_to_list w.held) new.logged) → AreTallied wake (ws ++ w ∷ []) new
tallied_more wake ws w old new d t are within all items told logged = record {
  all = all;
  logged = subst (λ (hs : List Held). AreLogged hs new.logged) (sym (helds_more ws w)) (logged (helds ws) are.logged);
  each = λ k e lt. at k e (let long = ap length items in omega (arith, lt, long, length-set old.each.items w.volume t)) (cases_eq k w.volume);
}
  where
    at : (k : ℕ) (e : Told) → k < length old.each.items → (k ≡ w.volume) ⊎ (k ≢ w.volume) → AreTold wake (of_volume k (ws ++ w ∷ [])) (get_or new.each.items k e)
    at k e lt (inl same) =
        let here : get_or new.each.items w.volume e ≡ t = ap (λ (l : List Told). get_or l w.volume e) items ∙ get_or-set_same old.each.items w.volume t e within in
        subst (λ (j : ℕ). AreTold wake (of_volume j (ws ++ w ∷ [])) (get_or new.each.items j e)) (sym same)
        (subst (λ (x : Told). AreTold wake (of_volume w.volume (ws ++ w ∷ [])) x) (sym here) (subst (λ (l : List Waited). AreTold wake l t) (sym (own_volume w ws)) (told (are.each w.volume d within))))
    at k e lt (inr other) =
        let here : get_or new.each.items k e ≡ get_or old.each.items k e = ap (λ (l : List Told). get_or l k e) items ∙ get_or-set_other old.each.items w.volume k t e other in
        subst (λ (x : Told). AreTold wake (of_volume k (ws ++ w ∷ [])) x) (sym here) (subst (λ (l : List Waited). AreTold wake l (get_or old.each.items k e)) (sym (other_volume k w ws (λ is. other (sym is)))) (are.each k e lt))

-- no request yet
pub none_tallied : (n : ℕ) (t : Tallies) (d : Told) → t.each.items ≡ replicate n d → ((wake : ℕ) → AreTold wake [] t.all) → ((wake : ℕ) → AreTold wake [] d) → AreLogged [] t.logged → (wake : ℕ) → AreTallied wake [] t
none_tallied n t d items all one logged wake = record {
  logged = logged;
  all = all wake;
  each = λ k e lt.
      let within : k < n = (let long = ap length items in omega (arith, lt, long, length-replicate n d)) in
      subst (λ (x : Told). AreTold wake [] x) (sym (ap (λ (l : List Told). get_or l k e) items ∙ get_or-replicate n k d e within)) (one wake);
}

few_each : (n : ℕ) (d : Told) → AreFew 0 d → AllByRecursion (AreFew 0) (replicate n d)
few_each zero d few = tt
few_each (suc n) d few = (few, few_each n d few)

pub none_few : (n : ℕ) (t : Tallies) (d : Told) → t.each.items ≡ replicate n d → AreFew 0 t.all → AreFew 0 d → t.logged.count ≡ 0 → length t.logged.each.items ≡ n → AreFewIn n 0 t
none_few n t d items all one zero_ disks = record {
  logged = (omega (arith, zero_));
  disks = disks;
  count = ap length items ∙ length-replicate n d;
  all = all;
  each = subst (AllByRecursion (AreFew 0)) (sym items) (few_each n d one);
}

fewer : (asked : ℕ) (w : Waits) → IsFew asked w → IsFew (asked + 1) w
fewer asked w few = record {
  count = (let a = few.count in omega (arith, a));
  over_ = λ k lt. (let a = few.over_ k lt in omega (arith, a));
  sum_ = (let a = few.sum_ in omega (arith, a));
}

-- one more may be told of
pub few_more : (n asked : ℕ) (old new : Tallies) (volume : ℕ) (t : Told) → AreFewIn n asked old → AreFew (asked + 1) new.all → new.each.items ≡ set old.each.items volume t → AreFew (asked + 1) t → new.logged.count ≤ old.logged.count + 1 → length new.logged.each.items ≡ length old.logged.each.items → AreFewIn n (asked + 1) new
few_more n asked old new volume t few all items one count disks = record {
  logged = (let was = few.logged in omega (arith, was, count));
  disks = disks ∙ few.disks;
  count = ap length items ∙ length-set old.each.items volume t ∙ few.count;
  all = all;
  each = subst (AllByRecursion (AreFew (asked + 1))) (sym items)
      (all_set (AreFew (asked + 1)) old.each.items volume t (all_imply (AreFew asked) (AreFew (asked + 1)) (λ x is. record { reads = fewer asked x.reads is.reads; writes = fewer asked x.writes is.writes }) old.each.items few.each) one);
}

-- ---- logs

greatest_more : (ns : List ℕ) (n : ℕ) → greatest (ns ++ n ∷ []) ≡ max (greatest ns) n
greatest_more [] n = most n
  where
    most : (m : ℕ) → max m 0 ≡ max 0 m
    most m = omega arith
greatest_more (x ∷ ns) n = ap (max x) (greatest_more ns n) ∙ joined x (greatest ns) n
  where
    joined : (a b c : ℕ) → max a (max b c) ≡ max (max a b) c
    joined a b c = omega arith

-- the most of one more
pub raised : (f : Held → ℕ) (hs : List Held) (h : Held) (old new : ℕ) → old ≡ greatest (map f hs) → new ≡ max old (f h) → new ≡ greatest (map f (hs ++ h ∷ []))
raised f hs h old new was is = is ∙ ap (λ (n : ℕ). max n (f h)) was ∙ sym (greatest_more (map f hs) (f h)) ∙ sym (ap greatest (map-append f hs (h ∷ [])))

other_disk : (k : ℕ) (h : Held) (hs : List Held) → h.disk ≢ k → of_disk k (hs ++ h ∷ []) ≡ of_disk k hs
other_disk k h hs other =
    let no : eqb h.disk k ≡ false = ne_eqb h.disk k other in
    filter-append (λ (x : Held). eqb x.disk k) hs (h ∷ []) ∙ (λ i. filter (λ (x : Held). eqb x.disk k) hs ++ cond (no i) (h ∷ []) []) ∙ append-nil (filter (λ (x : Held). eqb x.disk k) hs)

own_disk : (h : Held) (hs : List Held) → of_disk h.disk (hs ++ h ∷ []) ≡ of_disk h.disk hs ++ h ∷ []
own_disk h hs =
    let yes : eqb h.disk h.disk ≡ true = eq-eqb h.disk h.disk refl in
    filter-append (λ (x : Held). eqb x.disk h.disk) hs (h ∷ []) ∙ (λ i. filter (λ (x : Held). eqb x.disk h.disk) hs ++ cond (yes i) (h ∷ []) [])

-- each disk's, where that of the log is raised
pub each_raised : (hs : List Held) (h : Held) (old new : List Most) (d m : Most) → ((k : ℕ) (e : Most) → k < length old → IsMost (of_disk k hs) (get_or old k e)) → new ≡ set old h.disk m
    → (h.disk < length old → IsMost (of_disk h.disk hs) (get_or old h.disk d) → IsMost (of_disk h.disk hs ++ h ∷ []) m) → (k : ℕ) (e : Most) → k < length new → IsMost (of_disk k (hs ++ h ∷ [])) (get_or new k e)
each_raised hs h old new d m was items raise k e lt = at (let long = ap length items in omega (arith, lt, long, length-set old h.disk m)) (cases_eq k h.disk)
  where
    at : k < length old → (k ≡ h.disk) ⊎ (k ≢ h.disk) → IsMost (of_disk k (hs ++ h ∷ [])) (get_or new k e)
    at lt (inl same) =
        let within : h.disk < length old = (omega (arith, lt, same)) in
        let here : get_or new h.disk e ≡ m = ap (λ (l : List Most). get_or l h.disk e) items ∙ get_or-set_same old h.disk m e within in
        subst (λ (j : ℕ). IsMost (of_disk j (hs ++ h ∷ [])) (get_or new j e)) (sym same)
        (subst (λ (x : Most). IsMost (of_disk h.disk (hs ++ h ∷ [])) x) (sym here) (subst (λ (l : List Held). IsMost l m) (sym (own_disk h hs)) (raise within (was h.disk d within))))
    at lt (inr other) =
        let here : get_or new k e ≡ get_or old k e = ap (λ (l : List Most). get_or l k e) items ∙ get_or-set_other old h.disk k m e other in
        subst (λ (x : Most). IsMost (of_disk k (hs ++ h ∷ [])) x) (sym here) (subst (λ (l : List Held). IsMost l (get_or old k e)) (sym (other_disk k h hs (λ is. other (sym is)))) (was k e lt))

-- .. and where there is no such disk
pub each_same : (hs : List Held) (h : Held) (old : List Most) → ((k : ℕ) (e : Most) → k < length old → IsMost (of_disk k hs) (get_or old k e)) → length old ≤ h.disk → (k : ℕ) (e : Most) → k < length old → IsMost (of_disk k (hs ++ h ∷ [])) (get_or old k e)
each_same hs h old was past k e lt = subst (λ (l : List Held). IsMost l (get_or old k e)) (sym (other_disk k h hs (λ is. absurd (omega (arith, is, past, lt))))) (was k e lt)

pub none_most : (n : ℕ) (d : Most) (ms : List Most) → ms ≡ replicate n d → d.blocks ≡ 0 → d.segments ≡ 0 → (k : ℕ) (e : Most) → k < length ms → IsMost [] (get_or ms k e)
none_most n d ms items blocks segments k e lt =
    let within : k < n = (let long = ap length items in omega (arith, lt, long, length-replicate n d)) in
    subst (λ (x : Most). IsMost [] x) (sym (ap (λ (l : List Most). get_or l k e) items ∙ get_or-replicate n k d e within)) (record { blocks = blocks; segments = segments })

-- one bit more is counted
pub bit_more : (f : ℕ → Bool) (k : ℕ) → count_by f (range_with_len 0 (k + 1)) ≡ count_by f (range_with_len 0 k) + cond (f k) 1 0
bit_more f k = ap (count_by f) (range_more k) ∙ one_sum (λ x. cond (f x) 1 0) (range_with_len 0 k) k

pub one_at_most : (b : Bool) → cond b 1 0 ≤ 1
one_at_most true = omega arith
one_at_most false = omega arith
