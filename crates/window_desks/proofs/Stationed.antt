-- Locks and passes made of stations are whole, and so are the stations of these.
use Rattle.std.proofs.Common.{◌≡◌, ◌<◌, ◌≤◌, ◌+◌, ℕ, List, [], ◌∷◌, ◌++◌, map, reverse, length, vec_capacity, get_or, refl, ap, ◌∙◌, sym, subst, arith}
use Rattle.std.proofs.lemmas.List.{append_assoc, get_or-map, length-map, length_push, map-append, reverse-append}
use Rattle.std.proofs.lemmas.List.Elements.{All-get_or}
use Rattle.request_turns.specs.Helped.{ManagerLock}
use Rattle.window_desks.specs.declared.desk.Desk.{Desk}
use Rattle.manager.specs.declared.station.Station.{Station}
use Rattle.window_desks.specs.declared.floor.Passes.{Passes}
use Rattle.window_desks.specs.Stations.{AreLeaving, AreMoved, AreSetUp, AreStations}
use Rattle.window_desks.specs.Floors.{AreWhole}

some_of : {A : Type 0} (xs : List A) (k : ℕ) → k < length xs → A
some_of [] k h = absurd (omega (arith, h))
some_of (x ∷ xs) k h = x

-- an element of a list that shows the same as another list
shown : {A B C : Type 0} (g : C → B) (f : A → B) (xs : List A) (ys : List C) (k : ℕ) (a : A) (c : C) → map g ys ≡ map f xs → k < length xs → k < length ys → g (get_or ys k c) ≡ f (get_or xs k a)
shown g f xs ys k a c e h i = let b = f a in sym (get_or-map g ys k c b i) ∙ (ap (λ t. get_or t k b) e ∙ get_or-map f xs k a b h)

moved_to : {A B : Type 0} (f : A → B) (xs : List A) (ys : List B) (k : ℕ) (a : A) (b : B) → ys ≡ map f xs → k < length xs → get_or ys k b ≡ f (get_or xs k a)
moved_to f xs ys k a b e h = ap (λ t. get_or t k b) e ∙ get_or-map f xs k a b h

module _ {D : Type 0} (ss : List (Station D)) (ls : List (ManagerLock D)) (f : Passes D) (m : AreMoved ss ls f) where
  lock_count : length ls ≡ length ss
  lock_count = ap length m.locks ∙ length-map ss (λ (s : Station D). s.lock)

  desk_count : length f.desks.items ≡ length ss
  desk_count = sym (length-map f.desks.items (λ (d : Desk D). d.id)) ∙ (ap length m.ids ∙ length-map ss (λ (s : Station D). s.id))

  helper_count : length f.helpers.items ≡ length ss
  helper_count = ap length m.helpers ∙ length-map ss (λ (s : Station D). s.helper)

  keeper_count : length f.keepers.items ≡ length ss
  keeper_count = ap length m.keepers ∙ length-map ss (λ (s : Station D). s.keeper)

pub whole_of : {D : Type 0} (ss : List (Station D)) (ls : List (ManagerLock D)) (f : Passes D) → AreSetUp ss ls f → AreStations ss → AreWhole ls f
whole_of {D} ss ls f set a =
    let m = set.moved in
    record {
      desks = desk_count ss ls f m ∙ sym (lock_count ss ls f m);
      helpers = helper_count ss ls f m ∙ sym (lock_count ss ls f m);
      keepers = keeper_count ss ls f m ∙ sym (lock_count ss ls f m);
      numbered = λ k d h. let i = subst (λ n. k < n) (desk_count ss ls f m) h in let s = some_of ss k i in
          shown (λ (x : Desk D). x.id) (λ (x : Station D). x.id) ss f.desks.items k s d m.ids i h ∙ (a k s i).id;
      owners = λ k l h. let i = subst (λ n. k < n) (lock_count ss ls f m) h in let s = some_of ss k i in
          rw (moved_to (λ (x : Station D). x.lock) ss ls k s l m.locks i) (a k s i).owner;
      workers = λ k l d h. let i = subst (λ n. k < n) (desk_count ss ls f m) h in let s = some_of ss k i in
          rw (moved_to (λ (x : Station D). x.lock) ss ls k s l m.locks i, shown (λ (x : Desk D). x.worker) (λ (x : Station D). x.worker) ss f.desks.items k s d m.workers i h) (a k s i).worker_;
      empty = λ k d h. All-get_or (λ (x : Desk D). x.outcomes.items ≡ []) f.desks.items k d h set.empty;
      help = λ k l d h. let i = subst (λ n. k < n) (helper_count ss ls f m) h in let s = some_of ss k i in
          rw (moved_to (λ (x : Station D). x.lock) ss ls k s l m.locks i, moved_to (λ (x : Station D). x.helper) ss f.helpers.items k s d m.helpers i) (a k s i).helper_;
      keep = λ k l d h. let i = subst (λ n. k < n) (keeper_count ss ls f m) h in let s = some_of ss k i in
          rw (moved_to (λ (x : Station D). x.lock) ss ls k s l m.locks i, moved_to (λ (x : Station D). x.keeper) ss f.keepers.items k s d m.keepers i) (a k s i).keeper_;
      left = set.left;
      room = let count = lock_count ss ls f m in let room = set.room in omega arith;
    }

pub stations_of : {D : Type 0} (ss : List (Station D)) (ls : List (ManagerLock D)) (f : Passes D) → AreMoved ss ls f → AreWhole ls f → AreStations ss
stations_of {D} ss ls f m is k s h =
    let locks = subst (λ n. k < n) (sym (lock_count ss ls f m)) h in
    let desks = subst (λ n. k < n) (sym (desk_count ss ls f m)) h in
    let helpers = subst (λ n. k < n) (sym (helper_count ss ls f m)) h in
    let keepers = subst (λ n. k < n) (sym (keeper_count ss ls f m)) h in
    let d = some_of f.desks.items k desks in
    let l = some_of ls k locks in
    let helper = some_of f.helpers.items k helpers in
    let keeper = some_of f.keepers.items k keepers in
    let lock_is = moved_to (λ (x : Station D). x.lock) ss ls k s l m.locks h in
    record {
      id = sym (shown (λ (x : Desk D). x.id) (λ (x : Station D). x.id) ss f.desks.items k s d m.ids h desks) ∙ is.numbered k d desks;
      owner = rw (← lock_is) (is.owners k l locks);
      own_passes = record {
        worker_ = rw (← lock_is, ← shown (λ (x : Desk D). x.worker) (λ (x : Station D). x.worker) ss f.desks.items k s d m.workers h desks) (is.workers k l d desks);
        helper_ = rw (← lock_is, ← moved_to (λ (x : Station D). x.helper) ss f.helpers.items k s helper m.helpers h) (is.help k l helper helpers);
        keeper_ = rw (← lock_is, ← moved_to (λ (x : Station D). x.keeper) ss f.keepers.items k s keeper m.keepers h) (is.keep k l keeper keepers);
      };
    }

empty_of : {A : Type 0} (xs : List A) → length xs ≡ 0 → xs ≡ []
empty_of [] e = refl
empty_of (x ∷ xs) e = absurd (omega (arith, e))

front_gone : {A : Type 0} (xs front back : List A) → xs ≡ front ++ back → front ≡ [] → xs ≡ back
front_gone {A} xs front back e none = e ∙ ap (λ (ys : List A). ys ++ back) none

-- the last of some things goes to the end of others, which are read backwards
moved_over : {A B : Type 0} (f : A → B) (all_ front : List B) (back : List A) (a : A)
    → all_ ≡ (front ++ f a ∷ []) ++ map f (reverse back)
    → all_ ≡ front ++ map f (reverse (back ++ a ∷ []))
moved_over f all_ front back a e =
    e ∙ (append_assoc front (f a ∷ []) (map f (reverse back))
    ∙ ap (λ xs. front ++ map f xs) (sym (reverse-append back (a ∷ []))))

-- how many are left where the last of as many went
one_less : {A B : Type 0} (xs : List A) (a : A) (ys : List B) (b : B)
    → length (xs ++ a ∷ []) ≡ length (ys ++ b ∷ []) → length xs ≡ length ys
one_less xs a ys b e = let m = length_push xs a in let n = length_push ys b in omega (arith, e, m, n)

-- one more station is made, of the last lock, desk and passes
pub station_made : {D : Type 0} (ls : List (ManagerLock D)) (p : Passes D)
    (ms : List (ManagerLock D)) (q r : Passes D) (lock : ManagerLock D) (d : Desk D) (s : Station D)
    → AreLeaving ls p (ms ++ lock ∷ []) q
    → q.desks.items ≡ r.desks.items ++ d ∷ [] → q.helpers.items ≡ r.helpers.items ++ s.helper ∷ []
    → q.keepers.items ≡ r.keepers.items ++ s.keeper ∷ [] → r.room.items ≡ q.room.items ++ s ∷ []
    → vec_capacity r.room ≡ vec_capacity q.room
    → s.lock ≡ lock → s.id ≡ d.id → s.worker ≡ d.worker → AreLeaving ls p ms r
station_made {D} ls p ms q r lock d s l desks helpers keepers room capacity lock_is id_is worker_is =
    record {
      locks = locks_;
      ids = ids_;
      workers = workers_;
      helpers = helpers_;
      keepers = keepers_;
      desk_count = one_less r.desks.items d ms lock (sym (ap length desks) ∙ l.desk_count);
      helper_count = one_less r.helpers.items s.helper ms lock (sym (ap length helpers) ∙ l.helper_count);
      keeper_count = one_less r.keepers.items s.keeper ms lock (sym (ap length keepers) ∙ l.keeper_count);
      room = room_;
    }
  where
    back : {B : Type 0} (f : Station D → B) (xs : List B) (ys : List B) → xs ≡ ys ++ map f (reverse (q.room.items ++ s ∷ [])) → xs ≡ ys ++ map f (reverse r.room.items)
    back f xs ys e = rw room e

    locks_ : ls ≡ ms ++ map (λ (x : Station D). x.lock) (reverse r.room.items)
    locks_ = back (λ (x : Station D). x.lock) ls ms (moved_over (λ (x : Station D). x.lock) ls ms q.room.items s (rw lock_is l.locks))

    ids_ : map (λ (x : Desk D). x.id) p.desks.items ≡ map (λ (x : Desk D). x.id) r.desks.items ++ map (λ (x : Station D). x.id) (reverse r.room.items)
    ids_ = back (λ (x : Station D). x.id) (map (λ (x : Desk D). x.id) p.desks.items) (map (λ (x : Desk D). x.id) r.desks.items)
        (moved_over (λ (x : Station D). x.id) (map (λ (x : Desk D). x.id) p.desks.items) (map (λ (x : Desk D). x.id) r.desks.items) q.room.items s
        (rw id_is (l.ids ∙ ap (λ ys. ys ++ map (λ (x : Station D). x.id) (reverse q.room.items)) (ap (map (λ (x : Desk D). x.id)) desks ∙ map-append (λ (x : Desk D). x.id) r.desks.items (d ∷ [])))))

    workers_ : map (λ (x : Desk D). x.worker) p.desks.items ≡ map (λ (x : Desk D). x.worker) r.desks.items ++ map (λ (x : Station D). x.worker) (reverse r.room.items)
    workers_ = back (λ (x : Station D). x.worker) (map (λ (x : Desk D). x.worker) p.desks.items) (map (λ (x : Desk D). x.worker) r.desks.items)
        (moved_over (λ (x : Station D). x.worker) (map (λ (x : Desk D). x.worker) p.desks.items) (map (λ (x : Desk D). x.worker) r.desks.items) q.room.items s
        (rw worker_is (l.workers ∙ ap (λ ys. ys ++ map (λ (x : Station D). x.worker) (reverse q.room.items)) (ap (map (λ (x : Desk D). x.worker)) desks ∙ map-append (λ (x : Desk D). x.worker) r.desks.items (d ∷ [])))))

    helpers_ : p.helpers.items ≡ r.helpers.items ++ map (λ (x : Station D). x.helper) (reverse r.room.items)
    helpers_ = back (λ (x : Station D). x.helper) p.helpers.items r.helpers.items (moved_over (λ (x : Station D). x.helper) p.helpers.items r.helpers.items q.room.items s (rw (← helpers) l.helpers))

    keepers_ : p.keepers.items ≡ r.keepers.items ++ map (λ (x : Station D). x.keeper) (reverse r.room.items)
    keepers_ = back (λ (x : Station D). x.keeper) p.keepers.items r.keepers.items (moved_over (λ (x : Station D). x.keeper) p.keepers.items r.keepers.items q.room.items s (rw (← keepers) l.keepers))

    room_ : length ms + length r.room.items ≤ vec_capacity r.room
    room_ = let m = length_push ms lock in let n = length_push q.room.items s in let k = ap length room in let h = l.room in omega (arith, m, n, k, h, capacity)

-- all stations are made
pub moved_of : {D : Type 0} (ls : List (ManagerLock D)) (f : Passes D) (ms : List (ManagerLock D)) (g : Passes D) → AreLeaving ls f ms g → length ms ≡ 0 → AreMoved (reverse g.room.items) ls f
moved_of {D} ls f ms g l none =
    let desks = empty_of g.desks.items (l.desk_count ∙ none) in
    record {
      locks = front_gone ls ms (map (λ (s : Station D). s.lock) (reverse g.room.items)) l.locks (empty_of ms none);
      ids = front_gone (map (λ (d : Desk D). d.id) f.desks.items) (map (λ (d : Desk D). d.id) g.desks.items) (map (λ (s : Station D). s.id) (reverse g.room.items)) l.ids (ap (map (λ (d : Desk D). d.id)) desks);
      workers = front_gone (map (λ (d : Desk D). d.worker) f.desks.items) (map (λ (d : Desk D). d.worker) g.desks.items) (map (λ (s : Station D). s.worker) (reverse g.room.items)) l.workers (ap (map (λ (d : Desk D). d.worker)) desks);
      helpers = front_gone f.helpers.items g.helpers.items (map (λ (s : Station D). s.helper) (reverse g.room.items)) l.helpers (empty_of g.helpers.items (l.helper_count ∙ none));
      keepers = front_gone f.keepers.items g.keepers.items (map (λ (s : Station D). s.keeper) (reverse g.room.items)) l.keepers (empty_of g.keepers.items (l.keeper_count ∙ none));
    }
