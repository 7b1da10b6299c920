-- One more station is moved.
use Rattle.std.proofs.Common.{rules, ◌≡◌, ◌≤◌, ◌+◌, ℕ, List, [], ◌∷◌, ◌++◌, All, map, reverse, length, vec_capacity, ap, ◌∙◌, sym, append_assoc, length-append, arith}
use Rattle.std.proofs.lemmas.List.{map-append, reverse-append}
use Rattle.std.proofs.lemmas.List.Elements.{All-append}
use Rattle.window_desks.specs.declared.desk.Desk.{Desk}
use Rattle.std.specs.declared.alloc.Global.{Global}
use Rattle.std.specs.declared.vec.Vec.{Vec}
use Rattle.request_turns.specs.Helped.{ManagerLock}
use Rattle.manager.specs.declared.station.Station.{Station}
use Rattle.window_desks.specs.declared.floor.Passes.{Passes}
use Rattle.window_desks.specs.Stations.{AreMoving}

-- a list of parts with one more
pushed : {A B : Type 0} (f : A → B) (xs ys : List B) (ms : List A) (a : A) → xs ≡ map f ms → ys ≡ xs ++ f a ∷ [] → ys ≡ map f (ms ++ a ∷ [])
pushed f xs ys ms a h e = e ∙ (ap (λ t. t ++ f a ∷ []) h ∙ sym (map-append f ms (a ∷ [])))

mapped : {A B C : Type 0} (g : C → B) (f : A → B) (xs ys : List C) (ms : List A) (c : C) (a : A) → map g xs ≡ map f ms → ys ≡ xs ++ c ∷ [] → g c ≡ f a → map g ys ≡ map f (ms ++ a ∷ [])
mapped g f xs ys ms c a h e same = ap (map g) e ∙ (map-append g xs (c ∷ []) ∙ (ap (λ t. t ++ g c ∷ []) h ∙ (ap (λ b. map f ms ++ b ∷ []) same ∙ sym (map-append f ms (a ∷ [])))))

fits : {A C : Type 0} (xs ys : List A) (x : A) (rs ts : List C) (r : C) (n m : ℕ) → length xs + length rs ≤ n → ys ≡ xs ++ x ∷ [] → rs ≡ ts ++ r ∷ [] → m ≡ n → length ys + length ts ≤ m
fits xs ys x rs ts r n m h e f c =
    let a : length ys ≡ length xs + 1 = ap length e ∙ length-append xs (x ∷ []) in
    let b : length rs ≡ length ts + 1 = ap length f ∙ length-append ts (r ∷ []) in omega arith

-- the station s was taken of the room, and its parts were put into the lists
pub record Moves {D : Type 0} (s : Station D) (d : Desk D) (ls : Vec (ManagerLock D) Global) (f : Passes D) (ms : Vec (ManagerLock D) Global) (h : Passes D) : Type 0 where
  pub room : f.room.items ≡ h.room.items ++ s ∷ []
  pub locks : ms.items ≡ ls.items ++ s.lock ∷ []
  pub desks : h.desks.items ≡ f.desks.items ++ d ∷ []
  pub helpers : h.helpers.items ≡ f.helpers.items ++ s.helper ∷ []
  pub keepers : h.keepers.items ≡ f.keepers.items ++ s.keeper ∷ []
  pub id : d.id ≡ s.id
  pub worker : d.worker ≡ s.worker
  pub empty : d.outcomes.items ≡ []
  pub lock_room : vec_capacity ms ≡ vec_capacity ls
  pub desk_room : vec_capacity h.desks ≡ vec_capacity f.desks
  pub helper_room : vec_capacity h.helpers ≡ vec_capacity f.helpers
  pub keeper_room : vec_capacity h.keepers ≡ vec_capacity f.keepers
  pub station_room : vec_capacity h.room ≡ vec_capacity f.room

pub moving_more : {D : Type 0} (ss : List (Station D)) (s : Station D) (d : Desk D) (ls : Vec (ManagerLock D) Global) (f : Passes D) (ms : Vec (ManagerLock D) Global) (h : Passes D) → AreMoving ss ls f → Moves s d ls f ms h → AreMoving ss ms h
moving_more {D} ss s d ls f ms h m v = record {
  done = m.done ++ s ∷ [];
  parts = m.parts ∙ (ap (λ t. m.done ++ t) (ap reverse v.room ∙ reverse-append h.room.items (s ∷ [])) ∙ sym (append_assoc m.done (s ∷ []) (reverse h.room.items)));
  moved = record {
    locks = pushed (λ (x : Station D). x.lock) ls.items ms.items m.done s m.moved.locks v.locks;
    ids = mapped (λ (x : Desk D). x.id) (λ (x : Station D). x.id) f.desks.items h.desks.items m.done d s m.moved.ids v.desks v.id;
    workers = mapped (λ (x : Desk D). x.worker) (λ (x : Station D). x.worker) f.desks.items h.desks.items m.done d s m.moved.workers v.desks v.worker;
    helpers = pushed (λ (x : Station D). x.helper) f.helpers.items h.helpers.items m.done s m.moved.helpers v.helpers;
    keepers = pushed (λ (x : Station D). x.keeper) f.keepers.items h.keepers.items m.done s m.moved.keepers v.keepers;
  };
  empty = let one : All (λ (x : Desk D). x.outcomes.items ≡ []) (d ∷ []) = (let e = v.empty in search rules) in rw v.desks (All-append (λ (x : Desk D). x.outcomes.items ≡ []) f.desks.items (d ∷ []) m.empty one);
  lock_room = fits ls.items ms.items s.lock f.room.items h.room.items s _ _ m.lock_room v.locks v.room v.lock_room;
  desk_room = fits f.desks.items h.desks.items d f.room.items h.room.items s _ _ m.desk_room v.desks v.room v.desk_room;
  helper_room = fits f.helpers.items h.helpers.items s.helper f.room.items h.room.items s _ _ m.helper_room v.helpers v.room v.helper_room;
  keeper_room = fits f.keepers.items h.keepers.items s.keeper f.room.items h.room.items s _ _ m.keeper_room v.keepers v.room v.keeper_room;
  room = let same = v.station_room in let old = m.room in omega arith;
}
