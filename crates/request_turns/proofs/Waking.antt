-- A keeper's turn in which a manager is told which disks are awake.
use Rattle.std.proofs.Common.{◌≡◌, ◌<◌, ℕ, Bool, false, List, [], ◌∷◌, ◌++◌, All, length, map, take, slice_index_or, refl, sym, ap, subst, ◌∙◌, arith}
use Rattle.std.specs.List.{AllByRecursion}
use Rattle.std.proofs.lemmas.List.{length-map}
use Rattle.std.proofs.lemmas.List.Elements.{All-nil, All-cons}
use Rattle.wol_disk.specs.Disk.{State}
use Rattle.wol_model.specs.History.{Kept, keeper}
use Rattle.wol_promise.specs.Policy.{Look}
use Rattle.wol_promise.specs.Ruled.{IsKeep}
use Rattle.wol_promise.specs.Ruled as ruled
use Rattle.wol_promise.specs.Ruled.{Noted}
use Rattle.manager.specs.Seen.{look_of_manager}
use Rattle.logger.specs.Lanes.{logger_of}
use Rattle.logger.specs.declared.lane.Lane.{Lane}
use Rattle.manager.specs.Stands.{Leaves, Stands, AreNamed, nones_at}
use Rattle.manager.specs.declared.base.LaneBase.{LaneBase}
use Rattle.manager.specs.declared.base.ManagerBase.{ManagerBase}
use Rattle.manager.specs.declared.manager.Manager.{Manager}
use Rattle.manager.proofs.Frames.{stands_kept, none_passed}
use Rattle.request_turns.specs.Begun.{HasFlags, WasTold}
use Rattle.request_turns.specs.Entries.{note_of}

module _ {D : Type 0} (tells : Bool) (state : D → State) (old new : Manager D) (home : Bool) (ups : List Bool) (is : new ≡ record old { home_up = home; ups = record { items = ups } }) where
  only_flags : look_of_manager new ≡ record (look_of_manager old) { home_up = (look_of_manager new).home_up; ups = (look_of_manager new).ups }
  only_flags = subst (λ (n : Manager D). look_of_manager n ≡ record (look_of_manager old) { home_up = (look_of_manager n).home_up; ups = (look_of_manager n).ups }) (sym is) refl

  as_many : length ups ≡ length old.ups.items → length (look_of_manager new).ups ≡ length (look_of_manager old).ups
  as_many same = subst (λ (n : Manager D). length (look_of_manager n).ups ≡ length (look_of_manager old).ups) (sym is) same

  pub told_stands : (b : ManagerBase) (notes : List Noted) (pass : ℕ) → pass ≡ keeper → length ups ≡ length old.ups.items → Leaves tells state old new Kept [] pass → Stands tells state old b notes
      → Stands tells state new b (notes ++ note_of pass Kept (look_of_manager new) [] false ∷ [])
  told_stands b notes pass number same leaves was = leaves b notes (note_of pass Kept (look_of_manager new) [] false) refl (record {
    operation_is = refl;
    look_is = refl;
    passed_is = refl;
    drain = refl;
    follows = λ _. (refl, subst (λ (l : Look). IsKeep [] pass l (look_of_manager new)) (sym was.look) (ruled.flags number (as_many same) only_flags));
  }) was.keeps

-- the same of a manager that was told by its keeper
pub told_after : {D : Type 0} (tells : Bool) (state : D → State) (volume : ℕ) (awake : List Bool) (old new : Manager D) → WasTold tells state volume awake old new
    → (b : ManagerBase) (notes : List Noted) (pass : ℕ) → pass ≡ keeper → Stands tells state old b notes → Stands tells state new b (notes ++ note_of pass Kept (look_of_manager new) [] false ∷ [])
told_after tells state volume awake old new told b notes pass number s =
    let f : ℕ → Bool = λ v. slice_index_or awake v false in
    told_stands tells state old new _ _ told.flags b notes pass number
    (length-map (map logger_of old.lanes.items) f ∙ (length-map old.lanes.items logger_of ∙ sym s.keeps.ready.ready.flags)) (told.leaves pass) s

-- .. and one that has these flags was told of them: nothing of it changes
pub told_already : {D : Type 0} (tells : Bool) (state : D → State) (volume : ℕ) (awake : List Bool) (m : Manager D) → HasFlags volume awake m → WasTold tells state volume awake m m
told_already tells state volume awake m f = record {
  leaves = λ pass b notes n same note k. stands_kept tells state m b notes n [] note (none_passed (nones_at m.lanes.items b.lanes) notes n note.passed_is k.passed) k;
  flags = λ t. record m { home_up = f.home t; ups = record { items = f.ups t } };
}

module _ {L : Type 0} (flags ups : List Bool) (lanes : List L) (g : L → ℕ) (f : ℕ → Bool) (long : length ups ≡ length lanes) (front : take (length lanes) flags ≡ map f (map g lanes)) where
  pub told_flags : take (length ups) flags ≡ map f (map g lanes)
  told_flags = ap (λ (n : ℕ). take n flags) long ∙ front

  pub told_long : length (take (length ups) flags) ≡ length ups
  told_long = ap length (ap (λ (n : ℕ). take n flags) long ∙ front) ∙ (length-map (map g lanes) f ∙ (length-map lanes g ∙ sym long))

-- the loggers of the view are in reach where those of the base are
pub named_view : {D : Type 0} (n : ℕ) (lanes : List (Lane D)) (bs : List LaneBase) → AreNamed lanes bs → AllByRecursion (λ (b : LaneBase). b.logger < n) bs → All (λ (v : ℕ). v < n) (map logger_of lanes)
named_view n [] bs named each = All-nil (λ (v : ℕ). v < n)
named_view n (l ∷ ls) [] named each = absurd named
named_view n (l ∷ ls) (b ∷ bs) named each = All-cons (λ (v : ℕ). v < n) (logger_of l) (map logger_of ls) (let same : b.logger ≡ logger_of l = sym named.0.logger in let lt : b.logger < n = each.0 in omega arith) (named_view n ls bs named.1 each.1)
