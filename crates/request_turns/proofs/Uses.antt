-- Accesses that steps of reclaim begin.
use Rattle.std.proofs.Common.{◌≡◌, ◌+◌, ◌&&◌, ℕ, zero, suc, Bool, true, false, cond, List, [], ◌∷◌, ◌++◌, map, length, take, find, Option, None, Some, Ok, refl, sym, ap, subst, ◌∙◌, ⊎_elim, arith, length-append, ◌*◌, ◌≤◌, slice_index_or, slice_get, slice_set, if◌then◌else◌}
use Rattle.std.specs.Prelude.{IsSomeAnd, filter}
use Rattle.std.specs.List.{AllByRecursion}
use Rattle.std.proofs.lemmas.Bool.{cases_lt, cases_eq}
use Rattle.std.proofs.lemmas.List.{map-append}
use Rattle.std.proofs.lemmas.List.Sums.{sum_by-append}
use Rattle.wol_disk.specs.Disk.{State}
use Rattle.wol_model.specs.Index.{Indexed, listed_in, has_due, has_going}
use Rattle.wol_model.specs.Journal.{Use, Needed, Done}
use Rattle.wol_promise.specs.Policy.{Look, IsReclaim, AreReclaims}
use Rattle.wol_promise.specs.Policy as policy
use Rattle.wol_promise.specs.Report.{no_longer_due}
use Rattle.wol_promise.specs.Spindle.{is_need, needs_in}
use Rattle.turn_lock.specs.Histories.{Entry}
use Rattle.turn_lock.specs.Passes.{pass_mine}
use Rattle.turn_lock.specs.declared.pass.PassOf.{PassOf}
use Rattle.spin_model.specs.Operations.{operation_of, use_of}
use Rattle.spin_model.specs.declared.spindle.Spindle.{Spindle}
use Rattle.spin_model.specs.declared.spindle.SpindleBase.{SpindleBase}
use Rattle.logger.specs.Lanes.{HasUsed, spindle_of}
use Rattle.logger.specs.declared.lane.Lane.{Lane}
use Rattle.manager.specs.Accesses.{HasUsedOnce}
use Rattle.manager.specs.Reading.{needs_of}
use Rattle.manager.specs.Seen.{look_of_manager}
use Rattle.manager.specs.declared.manager.Manager.{Manager}
use Rattle.manager.proofs.Lanes.{get_set, get_other}
use Rattle.reclaimer.specs.Counts.{TakesOff, CountsPut}
use Rattle.reclaimer.specs.Fetches.{going_entry}
use Rattle.reclaimer.specs.Groups.{group_of, lanes_of, HasPutGroup, LaysEach, LaysRecord}
use Rattle.reclaimer.specs.Groups as laying
use Rattle.reclaimer.specs.Wholes.{CountsGroup, GivesFirst, HasGivenGroup}
use Rattle.reclaimer.specs.Wholes as gives
use Rattle.reclaimer.specs.declared.group.Laid.{Laid}
use Rattle.reclaimer.proofs.TakenOff.{taken_adds_up, nothing_taken}
use Rattle.request_turns.specs.Counts.{HasTaken}
use Rattle.request_turns.specs.Used.{NeedsFor, NeedsOnlyWhere, ReclaimUses, is_up_at}
use Rattle.request_turns.specs.declared.tally.Tally.{Tally}

abbrev SpindlePass : Type 0
SpindlePass = PassOf Spindle SpindleBase

abbrev uses_in : List Entry → List Use
uses_in entries = map (λ (e : Entry). use_of e.1) entries

-- ---- Passes

needed_once : (p q : SpindlePass) (n k : ℕ) → pass_mine q ≡ pass_mine p ++ (n, operation_of Needed) ∷ (k, operation_of Done) ∷ [] → needs_of q ≡ needs_of p + 1
needed_once p q n k is =
    ap (λ (entries : List Entry). needs_in (uses_in entries)) is
    ∙ ap needs_in (map-append (λ (e : Entry). use_of e.1) (pass_mine p) ((n, operation_of Needed) ∷ (k, operation_of Done) ∷ []))
    ∙ sum_by-append (λ (u : Use). cond (is_need u) 1 0) (uses_in (pass_mine p)) (Needed ∷ Done ∷ [])

for_none : (p q : SpindlePass) (blocks : ℕ) → q ≡ p → blocks ≡ 0 → NeedsFor p q blocks
for_none p q blocks same none = let e : needs_of q ≡ needs_of p = ap needs_of same in
    record { no_less = omega (arith, e); some = λ lt. absurd (omega (arith, lt, none)); few = omega (arith, e) }

for_then : (p q r : SpindlePass) (a b : ℕ) → NeedsFor p q a → NeedsFor q r b → NeedsFor p r (a + b)
for_then p q r a b f g = record {
  no_less = omega (arith, f.no_less, g.no_less);
  some = λ lt. ⊎_elim (λ less. let one = f.some less in omega (arith, one, g.no_less)) (λ none. let one = g.some (omega (arith, lt, none)) in omega (arith, one, f.no_less)) (cases_lt 0 a);
  few = omega (arith, f.few, g.few);
}

only_none : (p : SpindlePass) (up : Bool) → NeedsOnlyWhere p p up
only_none p up = record { no_less = omega arith; only = λ lt. absurd (omega (arith, lt)) }

only_then : (p q r : SpindlePass) (up : Bool) → NeedsOnlyWhere p q up → NeedsOnlyWhere q r up → NeedsOnlyWhere p r up
only_then p q r up a b = record {
  no_less = omega (arith, a.no_less, b.no_less);
  only = λ lt. ⊎_elim (λ less. a.only less) (λ same. b.only (omega (arith, lt, same))) (cases_lt (needs_of p) (needs_of q));
}

-- ---- Lanes

-- of these lanes one was used once, whose logger is awake
one_used : {D : Type 0} (lanes new : List (Lane D)) (j : ℕ) (l m : Lane D) → slice_get lanes j ≡ Some l → new ≡ slice_set lanes j m → HasUsed l m → (up : ℕ → Bool) → up j ≡ true
    → (k : ℕ) (o : Lane D) → slice_get lanes k ≡ Some o → (p : Lane D) × (slice_get new k ≡ Some p) × NeedsOnlyWhere (spindle_of o) (spindle_of p) (up k)
one_used {D} lanes new j l m there set used up awake k o was = ⊎_elim
    (λ same.
    let old : Some l ≡ Some o = sym there ∙ ap (slice_get lanes) (sym same) ∙ was in
    let is : l ≡ o = cc (old) in
    let one = needed_once (spindle_of l) (spindle_of m) _ _ used in (
      m,
      ap (λ (ls : List (Lane D)). slice_get ls k) set ∙ ap (slice_get (slice_set lanes j m)) same ∙ get_set lanes j l m there,
      subst (λ (q : Lane D). NeedsOnlyWhere (spindle_of q) (spindle_of m) (up k)) is
          (record { no_less = omega (arith, one); only = λ lt. ap up same ∙ awake }),
    ))
    (λ other. (o, ap (λ (ls : List (Lane D)). slice_get ls k) set ∙ get_other lanes j k m other ∙ was, only_none (spindle_of o) (up k)))
    (cases_eq k j)

none_used : {D : Type 0} (lanes new : List (Lane D)) → new ≡ lanes → (up : ℕ → Bool) → (k : ℕ) (o : Lane D) → slice_get lanes k ≡ Some o → (p : Lane D) × (slice_get new k ≡ Some p) × NeedsOnlyWhere (spindle_of o) (spindle_of p) (up k)
none_used {D} lanes new same up k o was = (o, ap (λ (ls : List (Lane D)). slice_get ls k) same ∙ was, only_none (spindle_of o) (up k))

-- ---- What is next

and_first : (a b : Bool) → (a && b) ≡ true → a ≡ true
and_first true b is = refl
and_first false b is = is

found_passes : {X : Type 0} (test : X → Bool) (xs : List X) (x : X) → find test xs ≡ Some x → test x ≡ true
found_passes test [] x is = absurd (cc (is))
found_passes {X} test (y ∷ xs) x is = by (test y) refl is (λ at. found_passes test xs x at)
  where
    by : (b : Bool) → test y ≡ b → (if b then Some y else find test xs) ≡ Some x → (find test xs ≡ Some x → test x ≡ true) → test x ≡ true
    by true passes at later = let e : y ≡ x = cc (at) in subst (λ (z : X). test z ≡ true) e passes
    by false fails at later = later at

some_is : {X : Type 0} (P : X → Type 0) (o : Option X) → IsSomeAnd o P → (x : X) × (o ≡ Some x) × P x
some_is P None p = absurd p
some_is P (Some x) p = (x, refl, p)

found_awake : (ups : List Bool) (also : Indexed → Bool) (es : List Indexed) (e : Indexed) → find (λ (d : Indexed). slice_index_or ups d.listed.lane false && also d) es ≡ Some e → slice_index_or ups e.listed.lane false ≡ true
found_awake ups also es e is = and_first (slice_index_or ups e.listed.lane false) (also e) (found_passes (λ (d : Indexed). slice_index_or ups d.listed.lane false && also d) es e is)

module _ {D : Type 0} (m : Manager D) (e : Indexed) where
  going_up : going_entry m ≡ Some e → is_up_at m e.listed.lane ≡ true
  going_up is = let es = m.index.entries in found_awake m.ups.items (λ (d : Indexed). has_going (listed_in es) d.listed) es e is

-- ---- Steps

ups_kept : (l m : Look) → IsReclaim l m → m.ups ≡ l.ups
ups_kept l m (policy.puts_home k put e up at due is) = ap (λ (x : Look). x.ups) is
ups_kept l m (policy.gives_up k e first at is) = ap (λ (x : Look). x.ups) is

ups_all : (l m : Look) → AreReclaims l m → m.ups ≡ l.ups
ups_all l m (policy.none x) = refl
ups_all l m (policy.more x k y step rest) = ups_all k m rest ∙ ups_kept l k step

-- ---- Groups

-- the logger of the record is awake
abbrev IsAwake : List Bool → Indexed → Type 0
IsAwake lanes e = slice_index_or lanes e.listed.lane false ≡ true

passing_awake : (lanes : List Bool) (also : Indexed → Bool) (es : List Indexed) → AllByRecursion (IsAwake lanes) (filter (λ (d : Indexed). slice_index_or lanes d.listed.lane false && also d) es)
passing_awake lanes also [] = tt
passing_awake lanes also (x ∷ xs) = by (passing_awake lanes also xs) (slice_index_or lanes x.listed.lane false && also x) refl
  where
    by : AllByRecursion (IsAwake lanes) (filter (λ (d : Indexed). slice_index_or lanes d.listed.lane false && also d) xs) → (t : Bool) → (slice_index_or lanes x.listed.lane false && also x) ≡ t
        → AllByRecursion (IsAwake lanes) (cond t (x ∷ filter (λ (d : Indexed). slice_index_or lanes d.listed.lane false && also d) xs) (filter (λ (d : Indexed). slice_index_or lanes d.listed.lane false && also d) xs))
    by rest true is = (and_first (slice_index_or lanes x.listed.lane false) (also x) is, rest)
    by rest false is = rest

first_awake : (lanes : List Bool) (n : ℕ) (es : List Indexed) → AllByRecursion (IsAwake lanes) es → AllByRecursion (IsAwake lanes) (take n es)
first_awake lanes zero [] all = tt
first_awake lanes (suc n) [] all = tt
first_awake lanes zero (x ∷ xs) all = tt
first_awake lanes (suc n) (x ∷ xs) all = (all.0, first_awake lanes n xs all.1)

-- of a group each record is on a logger that is awake
group_awake : (lanes : List Bool) (also : Indexed → Bool) (es : List Indexed) (n : ℕ) → AllByRecursion (IsAwake lanes) (take n (filter (λ (d : Indexed). slice_index_or lanes d.listed.lane false && also d) es))
group_awake lanes also es n = first_awake lanes n (filter (λ (d : Indexed). slice_index_or lanes d.listed.lane false && also d) es) (passing_awake lanes also es)

module _ {D : Type 0} where
  ups_by_look : (m n : Manager D) → (look_of_manager n).ups ≡ (look_of_manager m).ups → (k : ℕ) → is_up_at n k ≡ is_up_at m k
  ups_by_look m n same k = ap (λ (ups : List Bool). slice_index_or ups k false) same

  pub uses_none : (m : Manager D) → ReclaimUses m m
  uses_none m = record {
    home = for_none m.spindle m.spindle _ refl (nothing_taken (look_of_manager m) (look_of_manager m) refl).homed;
    ups = λ k. refl;
    lanes = none_used m.lanes.items m.lanes.items refl (is_up_at m);
  }

  pub uses_same : (m n : Manager D) → n ≡ m → ReclaimUses m n
  uses_same m n same = subst (ReclaimUses m) (sym same) (uses_none m)

  uses_joined : (a b r s : ℕ) (l m n : Manager D) → TakesOff a r (look_of_manager l) (look_of_manager m) → TakesOff b s (look_of_manager m) (look_of_manager n) → ReclaimUses l m → ReclaimUses m n → ReclaimUses l n
  uses_joined a b r s l m n one two first next =
      let takes = taken_adds_up a b r s (look_of_manager l) (look_of_manager m) (look_of_manager n) one two in
      let sum : no_longer_due (look_of_manager l) (look_of_manager m) + no_longer_due (look_of_manager m) (look_of_manager n) ≡ no_longer_due (look_of_manager l) (look_of_manager n) =
      omega (arith, takes.homed, one.homed, two.homed) in record {
        home = subst (NeedsFor l.spindle n.spindle) sum (for_then l.spindle m.spindle n.spindle _ _ first.home next.home);
        ups = λ k. next.ups k ∙ first.ups k;
        lanes = λ k o was. let mid = first.lanes k o was in let last = next.lanes k mid.0 mid.1 in
            (last.0, last.1, only_then (spindle_of o) (spindle_of mid.0) (spindle_of last.0) (is_up_at l k) mid.2 (subst (NeedsOnlyWhere (spindle_of mid.0) (spindle_of last.0)) (first.ups k) last.2));
      }

  pub uses_then : (t u v : Tally) (l m n : Manager D) → HasTaken t u (look_of_manager l) (look_of_manager m) → HasTaken u v (look_of_manager m) (look_of_manager n) → ReclaimUses l m → ReclaimUses m n → ReclaimUses l n
  uses_then t u v l m n a b first next = uses_joined a.blocks b.blocks a.records b.records l m n a.taken b.taken first next

  -- what the records of a group asked for that were laid home
  record LaidUses (old m : Manager D) (up : ℕ → Bool) (many : ℕ) : Type 0 where
    home : needs_of m.spindle ≡ needs_of old.spindle + many
    lanes : (k : ℕ) (o : Lane D) → slice_get old.lanes.items k ≡ Some o → (p : Lane D) × (slice_get m.lanes.items k ≡ Some p) × NeedsOnlyWhere (spindle_of o) (spindle_of p) (up k)

  laid_uses : (state : D → State) (old : Manager D) (up : ℕ → Bool) (es : List Indexed) (group : List Laid) (m : Manager D) → LaysEach state old es group m → AllByRecursion (λ (e : Indexed). up e.listed.lane ≡ true) es → LaidUses old m up (length group)
  laid_uses state old up es group m laying.none all = record { home = omega arith; lanes = none_used old.lanes.items old.lanes.items refl up }
  laid_uses state old up es group n (laying.more ds ps m k e mask rest lays) all =
      let before = laid_uses state old up ds ps m rest (front ds e all) in
      let f = lays.fetched in let laid = lays.laid in
      let one = needed_once lays.read.spindle k.spindle _ _ laid.used in
      let same = ap (λ (x : Manager D). needs_of x.spindle) f.rest in
      let many = length-append ps (record { version = e.listed.version; mask = mask } ∷ []) in record {
        home = omega (arith, one, same, many, before.home);
        lanes = λ j o was. let mid = before.lanes j o was in
            let now = one_used m.lanes.items lays.read.lanes.items e.listed.lane f.lanes.before f.lanes.after f.lanes.there f.lanes.set f.lanes.change.used up (back ds e all) j mid.0 mid.1 in
            (now.0, ap (λ (x : Manager D). slice_get x.lanes.items j) laid.rest ∙ now.1, only_then (spindle_of o) (spindle_of mid.0) (spindle_of now.0) (up j) mid.2 now.2);
      }
    where
      front : (xs : List Indexed) (x : Indexed) → AllByRecursion (λ (d : Indexed). up d.listed.lane ≡ true) (xs ++ x ∷ []) → AllByRecursion (λ (d : Indexed). up d.listed.lane ≡ true) xs
      front [] x all = tt
      front (y ∷ ys) x all = (all.0, front ys x all.1)

      back : (xs : List Indexed) (x : Indexed) → AllByRecursion (λ (d : Indexed). up d.listed.lane ≡ true) (xs ++ x ∷ []) → up x.listed.lane ≡ true
      back [] x all = all.0
      back (y ∷ ys) x all = back ys x all.1

  -- a group went home, or none
  pub uses_put : (state : D → State) (m n : Manager D) (count : ℕ) → HasPutGroup state false (Ok count) m n → AreReclaims (look_of_manager m) (look_of_manager n) → CountsPut (Ok count) (look_of_manager m) (look_of_manager n) → ReclaimUses m n
  uses_put state m n zero h reclaims counted = uses_same m n (h.0 refl)
  uses_put state m n (suc c) h reclaims counted =
      let g = h.1 (omega arith) in
      let laid = laid_uses state m (is_up_at m) (group_of (lanes_of false m) m.index.entries) g.group g.laid g.each (group_awake m.ups.items (λ (d : Indexed). has_due (listed_in m.index.entries) d.listed) m.index.entries 128) in
      let one = needed_once g.laid.spindle g.synced.spindle _ _ g.sync.used in
      let same = ap (λ (x : Manager D). needs_of x.spindle) g.rest in
      let all = counted.homed in record {
        home = record {
          no_less = omega (arith, one, same, laid.home);
          some = λ lt. omega (arith, one, same, laid.home);
          few = omega (arith, one, same, laid.home, all, g.many);
        };
        ups = ups_by_look m n (ups_all (look_of_manager m) (look_of_manager n) reclaims);
        lanes = λ k o was. let now = laid.lanes k o was in (now.0, ap (λ (x : Manager D). slice_get x.lanes.items k) (g.rest ∙ (λ i. record (g.sync.rest i) { index = n.index })) ∙ now.1, now.2);
      }

  -- a record gave something up, or a segment went whole
  pub uses_group : (m n : Manager D) (records : ℕ) → HasGivenGroup (Ok (Some records)) m n → AreReclaims (look_of_manager m) (look_of_manager n) → CountsGroup (Ok (Some records)) (look_of_manager m) (look_of_manager n) → ReclaimUses m n
  uses_group m n records h reclaims counted = let d = some_is _ (going_entry m) h in by d.0 d.1 d.2
    where
      by : (e : Indexed) → going_entry m ≡ Some e → GivesFirst e m n (Ok records) → ReclaimUses m n
      by e is (gives.one r many) = let lanes = r.lanes in record {
        home = for_none m.spindle n.spindle _ (ap (λ (k : Manager D). k.spindle) r.rest) counted.homed;
        ups = ups_by_look m n (ups_all (look_of_manager m) (look_of_manager n) reclaims);
        lanes = one_used m.lanes.items n.lanes.items e.listed.lane lanes.before lanes.after lanes.there lanes.set lanes.change.used (is_up_at m) (going_up m e is);
      }
      by e is (gives.whole go r many) = let lanes = r.lanes in record {
        home = for_none m.spindle n.spindle _ (ap (λ (k : Manager D). k.spindle) r.rest) counted.homed;
        ups = ups_by_look m n (ups_all (look_of_manager m) (look_of_manager n) reclaims);
        lanes = one_used m.lanes.items n.lanes.items e.listed.lane lanes.before lanes.after lanes.there lanes.set lanes.change.used (is_up_at m) (going_up m e is);
      }

  -- a body that wakes home in a turn that puts nothing home is no reclaim: the clause refuses it
  pub not_for_nothing : (m n : Manager D) → look_of_manager n ≡ look_of_manager m → HasUsedOnce m.spindle n.spindle → ReclaimUses m n → ⊥
  not_for_nothing m n same used r =
      let one = needed_once m.spindle n.spindle _ _ used in
      let none = (nothing_taken (look_of_manager m) (look_of_manager n) (ap (λ (l : Look). l.listed) same)).homed in
      let most = r.home.few in absurd (omega (arith, one, none, most))
