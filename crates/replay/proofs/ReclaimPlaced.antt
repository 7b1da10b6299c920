-- What is counted of reclaim stands in the histories of closed volumes.
use Rattle.replay.proofs.Basics.{◌≡◌, ◌≢◌, ◌<◌, ◌≤◌, ◌+◌, ◌++◌, ℕ, zero, suc, Bool, true, List, [], ◌∷◌, length, map, min, refl, sym, ap}
use Rattle.replay.proofs.Basics.{subst, ◌∙◌, Option, None, Some, is_some, inl, inr, arith, All, IsTrue, slice_get, slice_index_or, sum_by}
use Rattle.replay.proofs.Basics.{AllByRecursion, length-map, sum_by-cons}
use Rattle.replay.proofs.Terms.{BayState, Write, Broke, Kept, Operation, Read, Wrote, flight_from, flight_of, helper, keeper, worker, Look}
use Rattle.replay.proofs.Terms.{AreGone, blocks_put_home, logged_writes, put_home_by, Noted, entries_of, last_look, HasHistory, Config}
use Rattle.replay.proofs.Terms.{Begins, Entry, own, IsFree, pass_mine, pass_number, pass_seen, notes_of, Station, added_between, added_up}
use Rattle.replay.proofs.Terms.{dropped_by, records_dropped, IsHonest, ManagerPass, began, AreOthersIdle, IsWhole, dropped_by_pass}
use Rattle.replay.proofs.Terms.{home_by_pass, records_add_up, nothing_more, AreHonest, all_between, AreSameButRoom, workers_of, IsMoved}
use Rattle.replay.proofs.Terms.{Desk, Floor, Reclaim, all_added, IsClosedVolume, AreUnused, IsUnused, base_of_station, ImageRest}
use Rattle.replay.proofs.Terms.{most_count, History, is_broken, CountsReclaimed, ServedFromStart, ServedWindow}
use Rattle.replay.proofs.EntriesOwn.{all_of_three}
use Rattle.replay.proofs.HistoriesLeft.{histories_count, histories_of, history_at}
use Rattle.replay.proofs.KeeperIdle.{IsIdlePass, IsKeeperIdle, all_others_idle, ended_idle, idle_through, own_joined}
use Rattle.replay.proofs.PassesRuled.{IsRuled}
use Rattle.replay.proofs.RacksServed.{a_member, at_place, mapped, there_at, unmapped}
use Rattle.replay.proofs.ReclaimCounted.{AreFree, HaveCounted, IsReady, no_fewer, ready_still, served_desks, served_reclaimed}
use Rattle.replay.proofs.StationsRan.{AreNumbered, EndsOn, moved_at, worker_same}
use Rattle.replay.proofs.VolumesRan.{HasRan, has_ran}

-- ---- Sums

-- what passes came to in between is a sum over histories, place by place
between_sum : {D : Type 0} (worth : Bool → Look → Look → ℕ) (ps qs : List (ManagerPass D)) (hs : List History) (g : History → ℕ) → length qs ≡ length ps → length hs ≡ length ps
    → ((k : ℕ) (p q : ManagerPass D) (h : History) → slice_get ps k ≡ Some p → slice_get qs k ≡ Some q → slice_get hs k ≡ Some h → added_between worth p q ≡ g h) → all_between worth ps qs ≡ sum_by g hs
between_sum worth [] [] [] g same sized each = refl
between_sum worth [] [] (h ∷ hs) g same sized each = absurd (omega (arith, sized))
between_sum worth [] (q ∷ qs) hs g same sized each = absurd (omega (arith, same))
between_sum worth (p ∷ ps) [] hs g same sized each = absurd (omega (arith, same))
between_sum worth (p ∷ ps) (q ∷ qs) [] g same sized each = absurd (omega (arith, sized))
between_sum worth (p ∷ ps) (q ∷ qs) (h ∷ hs) g same sized each =
    let first = each 0 p q h refl refl refl in
    let rest = between_sum worth ps qs hs g (omega (arith, same)) (omega (arith, sized)) (λ k x y z a b c. each (suc k) x y z a b c) in
    let sum = sum_by-cons g h hs in
    omega (arith, first, rest, sum)

both_sums : (f g e : History → ℕ) (hs : List History) → ((k : ℕ) (h : History) → slice_get hs k ≡ Some h → e h ≡ f h + g h) → sum_by e hs ≡ sum_by f hs + sum_by g hs
both_sums f g e [] each = refl
both_sums f g e (h ∷ hs) each =
    let first = each 0 h refl in
    let rest = both_sums f g e hs (λ k x there. each (suc k) x there) in
    let a = sum_by-cons e h hs in
    let b = sum_by-cons f h hs in
    let c = sum_by-cons g h hs in
    omega (arith, first, rest, a, b, c)

-- ---- Passes

pub honest_unused : {D : Type 0} (tells : Bool) (p : ManagerPass D) → IsUnused p → IsHonest tells p
honest_unused tells p unused = record {
  history = subst (λ (es : List Entry). HasHistory (IsTrue tells) (began p) (notes_of es)) (sym unused.seen) (record { replies = λ told. tt; breaks = tt; helpers = tt; ruled = tt });
  mine = ap (own (pass_number p)) unused.seen ∙ sym unused.mine;
}

idle_unused : {D : Type 0} (p : ManagerPass D) → pass_number p ≡ keeper → IsUnused p → IsIdlePass p
idle_unused p number unused = record {
  number = number;
  mine = ap (own keeper) unused.seen ∙ sym unused.mine;
  idle = subst (λ (es : List Entry). IsKeeperIdle (began p).look (notes_of es)) (sym unused.seen) tt;
}

-- what a pass's own entries come to in a history is what they came to since it was unused
own_added : {D : Type 0} (tells : Bool) (worth : Bool → Look → Look → ℕ) (number : ℕ) (p q : ManagerPass D) (es : List Entry) (look : Look) → IsUnused p → IsHonest tells q → pass_number p ≡ number → pass_number q ≡ number
    → (began p).look ≡ look → Begins (pass_seen q) es → own number es ≡ pass_mine q → added_between worth p q ≡ added_up worth number look (notes_of es)
own_added tells worth number p q es look unused honest is same at (rest, all) mine =
    let seen : own number (pass_seen q) ≡ pass_mine q = ap (λ (n : ℕ). own n (pass_seen q)) (sym same) ∙ honest.mine in
    let whole : own number (pass_seen q) ++ own number rest ≡ own number (pass_seen q) = sym (own_joined number (pass_seen q) rest) ∙ ap (own number) all ∙ mine ∙ sym seen in
    let none : own (pass_number p) rest ≡ [] = ap (λ (n : ℕ). own n rest) is ∙ nothing_more (own number (pass_seen q)) (own number rest) whole in
    sym (all_added worth p q es rest unused.seen (sym all) none) ∙ (λ i. added_up worth (is i) (at i) (notes_of es))

-- ---- Whole entries

whole_all : (notes : List Noted) → flight_of (entries_of notes) ≡ None → AllByRecursion (λ (n : Noted). IsWhole n.entry.operation) notes
whole_all [] none = tt
whole_all (n ∷ notes) none = at n.entry.operation none (λ rest. whole_all notes rest)
  where
    at : (o : Operation) → flight_from o (flight_of (entries_of notes)) ≡ None → (flight_of (entries_of notes) ≡ None → AllByRecursion (λ (m : Noted). IsWhole m.entry.operation) notes) → IsWhole o × AllByRecursion (λ (m : Noted). IsWhole m.entry.operation) notes
    at (Broke ws) gone rest = absurd (cc gone)
    at (Wrote ws) gone rest = (tt, rest gone)
    at (Read first reply) gone rest = (tt, rest gone)
    at Kept gone rest = (tt, rest gone)

none_flew : (x : Option (List Write)) → (is_some x ≡ true → ⊥) → x ≡ None
none_flew None never = refl
none_flew (Some ws) never = absurd (never refl)

-- the records that are gone of a history that follows the rules
pub records_gone : (told : Type 0) (h : History) → HasHistory told h.base h.notes → AllByRecursion IsRuled h.notes → (IsTrue (is_broken h) → ⊥)
    → AreGone (records_dropped h.base.look h.notes) (length h.base.look.listed) (logged_writes h.notes) (length (last_look h.base.look h.notes).listed)
records_gone told h legal ruled whole = records_add_up h.base.look h.notes legal.ruled ruled (whole_all h.notes (none_flew (flight_of (entries_of h.notes)) whole))

-- ---- Floors

each_of : {D : Type 0} (f : Station D → ManagerPass D) (P : ManagerPass D → Type 0) (ss : List (Station D)) → ((v : ℕ) (s : Station D) → slice_get ss v ≡ Some s → P (f s)) → (k : ℕ) (d : ManagerPass D) → k < length (map f ss)
    → P (slice_index_or (map f ss) k d)
each_of f P ss all k d lt =
    let (s, there, same) = unmapped f ss k (slice_index_or (map f ss) k d) (there_at (map f ss) k d lt) in
    subst P same (all k s there)

-- desks that are the same but for room are as many
desks_kept : {D : Type 0} (ds es : List (Desk D)) → AreSameButRoom ds es → length ds ≤ length es
desks_kept {D} ds es all = no_fewer (length ds) (length es) (λ k lt. (let (one, here) = a_member ds k lt in
    at es k one (λ x. (all k x lt).id ∙ ap (λ (y : Desk D). y.id) ((at_place ds k one here).1 x))))
  where
    apart : (n : ℕ) → n + 1 ≡ n → ⊥
    apart n eq = omega (arith, eq)

    at : (ys : List (Desk D)) (j : ℕ) (one : Desk D) → ((x : Desk D) → (slice_index_or ys j x).id ≡ one.id) → j < length ys
    at [] j one same = absurd (apart one.id (same (record one { id = one.id + 1 })))
    at (y ∷ ys) zero one same = omega arith
    at (y ∷ ys) (suc j) one same = let rest : j < length ys = at ys j one same in omega (arith, rest)

module _ {D : Type 0} (tells : Bool) (mode : Reclaim) (config : Config) (out : List (Option (ImageRest D))) (opened left_ : BayState) (olds news : List (Station D)) (closed : All (IsClosedVolume tells config out opened left_) news)
    (before middle after : Floor D) (ps qs : List _) (moved : IsMoved olds before) (back : IsMoved news after) (ss : List ServedWindow) (served : ServedFromStart tells mode ss before ps middle qs) (ends : EndsOn tells middle after)
    (unused : AreUnused olds) (numbers : (v : ℕ) (s : Station D) → slice_get olds v ≡ Some s → AreNumbered s) (new_numbers : (v : ℕ) (s : Station D) → slice_get news v ≡ Some s → AreNumbered s)
    (free : (v : ℕ) (s : Station D) → slice_get olds v ≡ Some s → IsFree s.worker × IsFree s.helper)
    (looks : (v : ℕ) (old new : Station D) → slice_get olds v ≡ Some old → slice_get news v ≡ Some new
    → (began old.worker ≡ (base_of_station new).volume.began) × (began old.helper ≡ (base_of_station new).volume.began) × (began new.keeper ≡ (base_of_station new).volume.began))
    (same : length news ≡ length olds) (some : 1 ≤ length olds) where
  one : (s : Station D) × (slice_get olds 0 ≡ Some s)
  one = a_member olds 0 (omega (arith, some))

  apart : pass_number one.0.worker ≢ pass_number one.0.helper
  apart is = let number = numbers 0 one.0 one.1 in let wrong : worker ≡ helper = sym number.0 ∙ is ∙ number.1 in absurd (cc wrong)

  unused_at : (v : ℕ) (s : Station D) → slice_get olds v ≡ Some s → IsUnused s.worker × IsUnused s.helper × IsUnused s.keeper
  unused_at v s there = let (less, is) = at_place olds v s there in subst (λ (x : Station D). IsUnused x.worker × IsUnused x.helper × IsUnused x.keeper) (is s) (unused v s less)

  desks_of : (xs : List (Station D)) (f : Floor D) → IsMoved xs f → length f.desks.items ≡ length xs
  desks_of xs f m = sym (length-map f.desks.items (λ (d : Desk D). d.id)) ∙ ap length m.ids ∙ length-map xs (λ (s : Station D). s.id)

  helpers_of : (xs : List (Station D)) (f : Floor D) → IsMoved xs f → length f.helpers.items ≡ length xs
  helpers_of xs f m = ap length m.helpers ∙ length-map xs (λ (s : Station D). s.helper)

  middle_helpers : middle.helpers ≡ after.helpers
  middle_helpers = elim ends [
    | inl is ↦ sym (ap (λ (x : Floor D). x.helpers) is)
    | inr not_run ↦ sym not_run.helpers
  ]

  desks_same : length middle.desks.items ≡ length before.desks.items
  desks_same =
      let low = served_desks tells mode ss before ps middle qs served in
      let first = desks_of olds before moved in
      let last = desks_of news after back in
      elim ends [
        | inl is ↦ (let e : length after.desks.items ≡ length middle.desks.items = ap (λ (x : Floor D). length x.desks.items) is in omega (arith, e, first, last, same))
        | inr not_run ↦ (let high = desks_kept middle.desks.items after.desks.items not_run.desks in omega (arith, low, high, first, last, same))
      ]

  helpers_same : length middle.helpers.items ≡ length before.helpers.items
  helpers_same = ap (λ x. length x.items) middle_helpers ∙ helpers_of news after back ∙ same ∙ sym (helpers_of olds before moved)

  ready : IsReady tells mode before
  ready = record {
    workers = subst (λ l. AreHonest tells l) (sym moved.workers) (each_of (λ (s : Station D). s.worker) (λ p. IsHonest tells p) olds (λ v s there. honest_unused tells s.worker (unused_at v s there).0));
    helpers = subst (λ l. AreHonest tells l) (sym moved.helpers) (each_of (λ (s : Station D). s.helper) (λ p. IsHonest tells p) olds (λ v s there. honest_unused tells s.helper (unused_at v s there).1));
    free = subst (λ l. AreFree l) (sym moved.workers) (each_of (λ (s : Station D). s.worker) (λ p. IsFree p) olds (λ v s there. (free v s there).0));
    helpers_free = subst (λ l. AreFree l) (sym moved.helpers) (each_of (λ (s : Station D). s.helper) (λ p. IsFree p) olds (λ v s there. (free v s there).1));
  }

  counted : HaveCounted tells mode (sum_by (λ (s : ServedWindow). s.answer.blocks) ss) (sum_by (λ (s : ServedWindow). s.answer.records) ss) before middle
  counted = served_reclaimed tells mode one.0.worker one.0.helper apart ss before ps middle qs served ready desks_same helpers_same

  ready_then : IsReady tells mode middle
  ready_then = ready_still tells mode _ _ before middle counted ready

  hs : List History
  hs = histories_of tells config out opened left_ news closed

  hs_count : length hs ≡ length olds
  unfolding hs
  hs_count = histories_count tells config out opened left_ news closed ∙ same

  module _ (k : ℕ) (h : History) (here : slice_get hs k ≡ Some h) where
    ran : HasRan tells config out opened left_ olds news k h
    unfolding hs
    ran = has_ran tells config out opened left_ olds news closed same k h here

    open ran use {old, is_old}
    open ran.now use {station as new, there as is_new, closed as its, is as is_left}

    abbrev es : List Entry
    es = its.entries

    notes_are : h.notes ≡ notes_of es
    notes_are = ap (λ (x : History). x.notes) is_left

    look_is : h.base.look ≡ (base_of_station new).volume.began.look
    look_is = ap (λ (x : History). x.base.look) is_left

    bases : (began old.worker ≡ (base_of_station new).volume.began) × (began old.helper ≡ (base_of_station new).volume.began) × (began new.keeper ≡ (base_of_station new).volume.began)
    bases = looks k old new is_old is_new

    own_of : (n : ℕ) (p : ManagerPass D) → pass_number p ≡ n → own (pass_number p) es ≡ pass_mine p → own n es ≡ pass_mine p
    own_of n p is mine = ap (λ (x : ℕ). own x es) (sym is) ∙ mine

    worker_then : (q : ManagerPass D) → slice_get (workers_of middle) k ≡ Some q → q ≡ new.worker
    worker_then q there =
        let (x, desk_there, made) = unmapped (λ (d : Desk D). d.worker) middle.desks.items k q there in
        let (lt, place) = at_place middle.desks.items k x desk_there in
        let now = worker_same tells mode ss olds news before middle after ps qs moved back unused served ends k old new is_old is_new (numbers k old is_old) in
        sym made ∙ ap (λ (d : Desk D). d.worker) (sym (place _)) ∙ sym now

    helper_then : (q : ManagerPass D) → slice_get middle.helpers.items k ≡ Some q → q ≡ new.helper
    helper_then q there =
        let made : slice_get middle.helpers.items k ≡ Some new.helper = ap (λ x. slice_get x.items k) middle_helpers ∙ ap (λ l. slice_get l k) back.helpers ∙ mapped (λ (s : Station D). s.helper) news k new is_new in
        cc (sym there ∙ made)

    worker_was : (p : ManagerPass D) → slice_get (workers_of before) k ≡ Some p → p ≡ old.worker
    worker_was p there =
        let made : slice_get (workers_of before) k ≡ Some old.worker = ap (λ l. slice_get l k) moved.workers ∙ mapped (λ (s : Station D). s.worker) olds k old is_old in
        cc (sym there ∙ made)

    helper_was : (p : ManagerPass D) → slice_get before.helpers.items k ≡ Some p → p ≡ old.helper
    helper_was p there =
        let made : slice_get before.helpers.items k ≡ Some old.helper = ap (λ l. slice_get l k) moved.helpers ∙ mapped (λ (s : Station D). s.helper) olds k old is_old in
        cc (sym there ∙ made)

    worker_adds : (worth : Bool → Look → Look → ℕ) (p q : ManagerPass D) → slice_get (workers_of before) k ≡ Some p → slice_get (workers_of middle) k ≡ Some q → added_between worth p q ≡ added_up worth worker h.base.look h.notes
    worker_adds worth p q first last =
        let (lt, place) = at_place (workers_of middle) k q last in
        let honest = subst (λ (x : ManagerPass D). IsHonest tells x) (place q ∙ worker_then q last) (ready_then.workers k q lt) in
        (λ i. added_between worth (worker_was p first i) (worker_then q last i))
        ∙ own_added tells worth worker old.worker new.worker es (base_of_station new).volume.began.look (unused_at k old is_old).0 honest (numbers k old is_old).0 (new_numbers k new is_new).0 (ap (λ x. x.look) bases.0)
        its.worker_part.seen (own_of worker new.worker (new_numbers k new is_new).0 its.worker_part.mine)
        ∙ (λ i. added_up worth worker (sym look_is i) (sym notes_are i))

    helper_adds : (worth : Bool → Look → Look → ℕ) (p q : ManagerPass D) → slice_get before.helpers.items k ≡ Some p → slice_get middle.helpers.items k ≡ Some q → added_between worth p q ≡ added_up worth helper h.base.look h.notes
    helper_adds worth p q first last =
        let (lt, place) = at_place middle.helpers.items k q last in
        let honest = subst (λ (x : ManagerPass D). IsHonest tells x) (place q ∙ helper_then q last) (ready_then.helpers k q lt) in
        (λ i. added_between worth (helper_was p first i) (helper_then q last i))
        ∙ own_added tells worth helper old.helper new.helper es (base_of_station new).volume.began.look (unused_at k old is_old).1 honest (numbers k old is_old).1 (new_numbers k new is_new).1 (ap (λ x. x.look) bases.1)
        its.helper_part.seen (own_of helper new.helper (new_numbers k new is_new).1 its.helper_part.mine)
        ∙ (λ i. added_up worth helper (sym look_is i) (sym notes_are i))

    others_idle_here : AreOthersIdle h.base.look h.notes
    others_idle_here =
        let (d, desk_there) = a_member before.desks.items k (let sized = desks_of olds before moved in let less = (at_place olds k old is_old).0 in omega (arith, less, sized)) in
        let first = moved_at olds before moved k old is_old d old.worker in
        let last = moved_at news after back k new is_new d old.worker in
        let begin = subst (λ (x : ManagerPass D). IsIdlePass x) (sym first.keeper_is) (idle_unused old.keeper (numbers k old is_old).2 (unused_at k old is_old).2) in
        let end = ended_idle tells mode k old.worker (numbers k old is_old).0 ss before ps middle qs after served ends (first.keeper, begin) in
        let idle = subst (λ (x : ManagerPass D). IsIdlePass x) last.keeper_is end.1 in
        let all = idle_through new.keeper es idle its.keeper_part.seen (own_of keeper new.keeper (new_numbers k new is_new).2 its.keeper_part.mine) in
        let kept = subst (λ (l : Look). IsKeeperIdle l (notes_of es)) (ap (λ x. x.look) bases.2) all in
        subst (λ (l : Look). AreOthersIdle l h.notes) (sym look_is) (subst (λ (ns : List Noted). AreOthersIdle (base_of_station new).volume.began.look ns) (sym notes_are)
        (all_others_idle (base_of_station new).volume.began.look es its.no_more kept))

  pub others_idle : (k : ℕ) (h : History) → slice_get (histories_of tells config out opened left_ news closed) k ≡ Some h → AreOthersIdle h.base.look h.notes
  unfolding hs
  others_idle k h here = others_idle_here k h here

  -- ---- All volumes

  sum_of : (worth : Bool → Look → Look → ℕ) (total : History → ℕ) → ((k : ℕ) (h : History) → slice_get hs k ≡ Some h → total h ≡ added_up worth worker h.base.look h.notes + added_up worth helper h.base.look h.notes)
      → all_between worth (workers_of before) (workers_of middle) + all_between worth before.helpers.items middle.helpers.items ≡ sum_by total hs
  sum_of worth total each =
      let first = desks_of olds before moved in
      let second = helpers_of olds before moved in
      let w = length-map before.desks.items (λ (d : Desk D). d.worker) in
      let m = length-map middle.desks.items (λ (d : Desk D). d.worker) in
      let by_worker = between_sum worth (workers_of before) (workers_of middle) hs (λ (h : History). added_up worth worker h.base.look h.notes) (omega (arith, w, m, desks_same)) (omega (arith, w, first, hs_count)) (λ k p q h a b there. worker_adds k h there worth p q a b) in
      let by_helper = between_sum worth before.helpers.items middle.helpers.items hs (λ (h : History). added_up worth helper h.base.look h.notes) helpers_same (omega (arith, second, hs_count)) (λ k p q h a b there. helper_adds k h there worth p q a b) in
      let both = both_sums (λ (h : History). added_up worth worker h.base.look h.notes) (λ (h : History). added_up worth helper h.base.look h.notes) total hs each in
      omega (arith, by_worker, by_helper, both)

  pub counts_reclaimed : ((v : ℕ) (h : History) → slice_get (histories_of tells config out opened left_ news closed) v ≡ Some h → HasHistory (IsTrue tells) h.base h.notes × AllByRecursion IsRuled h.notes)
      → CountsReclaimed ss (histories_of tells config out opened left_ news closed)
  unfolding hs
  counts_reclaimed rules = record {
    blocks = counted.blocks_are ∙ ap (λ (n : ℕ). min n most_count) (sum_of put_home_by (λ (h : History). blocks_put_home h.base.look h.notes) (λ k h here. home_by_pass h.base.look h.notes (others_idle_here k h here)));
    records = counted.records_are ∙ ap (λ (n : ℕ). min n most_count) (sum_of dropped_by (λ (h : History). records_dropped h.base.look h.notes) (λ k h here. dropped_by_pass h.base.look h.notes (others_idle_here k h here)));
    gone = λ v h here whole. records_gone (IsTrue tells) h (rules v h here).0 (rules v h here).1 whole;
  }

-- ---- Without a window

no_sum : (g : History → ℕ) (hs : List History) → ((k : ℕ) (h : History) → slice_get hs k ≡ Some h → g h ≡ 0) → sum_by g hs ≡ 0
no_sum g [] each = refl
no_sum g (h ∷ hs) each =
    let first = each 0 h refl in
    let rest = no_sum g hs (λ k x there. each (suc k) x there) in
    let sum = sum_by-cons g h hs in
    omega (arith, first, rest, sum)

no_entries : (es : List Entry) → AllByRecursion (λ (e : Entry). ⊥) es → es ≡ []
no_entries [] none = refl
no_entries (e ∷ rest) none = absurd none.0

-- passes that weren't used made no entries
pub none_noted : {D : Type 0} (tells : Bool) (config : Config) (out : List (Option (ImageRest D))) (opened left_ : BayState) (ss : List (Station D)) (closed : All (IsClosedVolume tells config out opened left_) ss)
    → ((v : ℕ) (s : Station D) → slice_get ss v ≡ Some s → AreNumbered s) → AreUnused ss → (k : ℕ) (h : History) → slice_get (histories_of tells config out opened left_ ss closed) k ≡ Some h → h.notes ≡ []
none_noted {D} tells config out opened left_ ss closed numbers unused k h here =
    let at = history_at tells config out opened left_ ss closed k h here in
    let (less, is) = at_place ss k at.station at.there in
    let free = subst (λ (x : Station D). IsUnused x.worker × IsUnused x.helper × IsUnused x.keeper) (is at.station) (unused k at.station less) in
    let number = numbers k at.station at.there in
    let c = at.closed in
    let by = λ (n : ℕ) (p : ManagerPass D) (is_ : pass_number p ≡ n) (mine : own (pass_number p) c.entries ≡ pass_mine p) (u : IsUnused p). ap (λ (x : ℕ). own x c.entries) (sym is_) ∙ mine ∙ u.mine in
    let gone = λ (n : ℕ) (e : own n c.entries ≡ []). subst (λ (l : List Entry). AllByRecursion (λ (x : Entry). ⊥) l) (sym e) tt in
    let empty = no_entries c.entries (all_of_three (λ (e : Entry). ⊥) c.entries c.no_more (gone worker (by worker at.station.worker number.0 c.worker_part.mine free.0)) (gone helper (by helper at.station.helper number.1 c.helper_part.mine free.1))
    (gone keeper (by keeper at.station.keeper number.2 c.keeper_part.mine free.2))) in
    ap (λ (x : History). x.notes) at.is ∙ ap notes_of empty

-- .. and leave nothing
pub none_reclaimed : {D : Type 0} (tells : Bool) (config : Config) (out : List (Option (ImageRest D))) (opened left_ : BayState) (ss : List (Station D)) (closed : All (IsClosedVolume tells config out opened left_) ss)
    → ((v : ℕ) (s : Station D) → slice_get ss v ≡ Some s → AreNumbered s) → AreUnused ss
    → ((v : ℕ) (h : History) → slice_get (histories_of tells config out opened left_ ss closed) v ≡ Some h → HasHistory (IsTrue tells) h.base h.notes × AllByRecursion IsRuled h.notes)
    → CountsReclaimed [] (histories_of tells config out opened left_ ss closed)
none_reclaimed {D} tells config out opened left_ ss closed numbers unused rules = record {
  blocks = ap (λ (n : ℕ). min n most_count) (sym (no_sum (λ (h : History). blocks_put_home h.base.look h.notes) hs (λ k h here. ap (λ (ns : List Noted). blocks_put_home h.base.look ns) (none k h here))));
  records = ap (λ (n : ℕ). min n most_count) (sym (no_sum (λ (h : History). records_dropped h.base.look h.notes) hs (λ k h here. ap (λ (ns : List Noted). records_dropped h.base.look ns) (none k h here))));
  gone = λ v h here whole. records_gone (IsTrue tells) h (rules v h here).0 (rules v h here).1 whole;
}
  where
    hs : List History
    hs = histories_of tells config out opened left_ ss closed

    none : (k : ℕ) (h : History) → slice_get (histories_of tells config out opened left_ ss closed) k ≡ Some h → h.notes ≡ []
    none k h here = none_noted tells config out opened left_ ss closed numbers unused k h here
