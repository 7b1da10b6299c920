-- A rack that a work left can be closed, and began with the same.
use Rattle.std.proofs.Common.{◌≡◌, ◌⊎◌, inl, inr, ℕ, zero, suc, List, [], ◌∷◌, length, map, Some, refl, sym, ap, subst, ◌∙◌, arith}
use Rattle.std.specs.Prelude.{slice_get, All, Contains}
use Rattle.std.specs.List.{AllZip}
use Rattle.std.specs.declared.alloc.Global.{Global}
use Rattle.std.specs.declared.vec.Vec.{Vec}
use Rattle.std.proofs.lemmas.List.Elements.{All-from_recursion, recursion_from_All}
use Rattle.wol_disk.specs.Disk.{State}
use Rattle.wol_model.specs.Heads.{Free, Owned, Shape}
use Rattle.wol_model.specs.Log.{Record}
use Rattle.wol_bay.specs.Bay.{BayState, Image, Told}
use Rattle.wol_config.specs.declared.config.Config.{Config}
use Rattle.turn_lock.specs.Passes.{lock_id, IsPassAt}
use Rattle.turn_lock.specs.declared.lock.TurnLock.{TurnLock}
use Rattle.turn_lock.specs.declared.pass.PassOf.{PassOf}
use Rattle.spin_model.specs.declared.spindle.Spindle.{Spindle}
use Rattle.spin_model.specs.declared.spindle.SpindleBase.{SpindleBase}
use Rattle.manager.specs.declared.base.ManagerBase.{ManagerBase}
use Rattle.manager.specs.declared.manager.Manager.{Manager}
use Rattle.manager.specs.declared.station.Station.{Station}
use Rattle.manager.proofs.Touched.{zip_all}
use Rattle.manager_recovery.specs.Left.{HasNothing}
use Rattle.volume_images.specs.Accepted.{HasHead}
use Rattle.volume_images.specs.Volumes.{shape_in, shapes_of}
use Rattle.rack.specs.Foreign.{AreForeign}
use Rattle.rack.specs.Opens.{BeganWith, IsGone}
use Rattle.rack.specs.Owners.{BeganInPlace, IsBegun, images_taken}
use Rattle.wol_model.specs.Index.{AreRising}
use Rattle.rack.specs.Racks.{IsClosable, IsOpenBase, IsRack, IsStation, KeepToViews, base_of_station}
use Rattle.rack.specs.Rests.{IsRest}
use Rattle.rack_parts.specs.declared.rack.Rack.{Rack}
use Rattle.rack.specs.Again.{IsPassAgain, IsRackAgain, IsStationAgain}

-- ---- Lists whose elements are related one by one

module _ {X Y : Type 0} (R : X → Y → Type 0) where
  zip_count : (xs : List X) (ys : List Y) → AllZip R xs ys → length ys ≡ length xs
  zip_count [] [] zip = refl
  zip_count [] (y ∷ ys) zip = absurd zip
  zip_count (x ∷ xs) [] zip = absurd zip
  zip_count (x ∷ xs) (y ∷ ys) zip = let rest = zip_count xs ys zip.1 in omega (arith, rest)

  -- what stands at a place is related to what stood there
  zip_at : (xs : List X) (ys : List Y) → AllZip R xs ys → (k : ℕ) (y : Y) → slice_get ys k ≡ Some y → (x : X) × (slice_get xs k ≡ Some x) × R x y
  zip_at [] [] zip k y is = absurd (cc is)
  zip_at [] (y ∷ ys) zip k z is = absurd zip
  zip_at (x ∷ xs) [] zip k z is = absurd zip
  zip_at (x ∷ xs) (y ∷ ys) zip zero z is = (x, refl, subst (R x) (let same : y ≡ z = cc is in same) zip.0)
  zip_at (x ∷ xs) (y ∷ ys) zip (suc k) z is = zip_at xs ys zip.1 k z is

  zip_member : (xs : List X) (ys : List Y) → AllZip R xs ys → (x : X) → Contains xs x → (y : Y) × Contains ys y × R x y
  zip_member [] ys zip x (k, less, is) = absurd (omega (arith, less))
  zip_member (x ∷ xs) [] zip z has = absurd zip
  zip_member (x ∷ xs) (y ∷ ys) zip z (zero, less, is) = (y, (zero, omega arith, refl), subst (λ (w : X). R w y) is zip.0)
  zip_member (x ∷ xs) (y ∷ ys) zip z (suc k, less, is) =
      let (w, (j, within, there), same) = zip_member xs ys zip.1 z (k, omega (arith, less), is) in (w, (suc j, omega (arith, within), there), same)

  zip_map : {Z : Type 0} (f : X → Z) (h : Y → Z) → ((x : X) (y : Y) → R x y → h y ≡ f x) → (xs : List X) (ys : List Y) → AllZip R xs ys → map h ys ≡ map f xs
  zip_map f h each [] [] zip = refl
  zip_map f h each [] (y ∷ ys) zip = absurd zip
  zip_map f h each (x ∷ xs) [] zip = absurd zip
  zip_map {Z} f h each (x ∷ xs) (y ∷ ys) zip = ap (λ (z : Z). z ∷ map h ys) (each x y zip.0) ∙ ap (λ (zs : List Z). f x ∷ zs) (zip_map f h each xs ys zip.1)

  pub zip_weaker : (S : X → Y → Type 0) → ((x : X) (y : Y) → R x y → S x y) → (xs : List X) (ys : List Y) → AllZip R xs ys → AllZip S xs ys
  zip_weaker S each [] [] zip = tt
  zip_weaker S each [] (y ∷ ys) zip = absurd zip
  zip_weaker S each (x ∷ xs) [] zip = absurd zip
  zip_weaker S each (x ∷ xs) (y ∷ ys) zip = (each x y zip.0, zip_weaker S each xs ys zip.1)

  pub zip_each : (P : X → Type 0) (Q : Y → Type 0) → ((x : X) (y : Y) → R x y → P x → Q y) → (xs : List X) (ys : List Y) → AllZip R xs ys → All P xs → All Q ys
  zip_each P Q each xs ys zip all = All-from_recursion Q ys (zip_all R P Q each xs ys zip (recursion_from_All P xs all))

-- ---- Passes and stations

pass_again : {T B : Type 0} (l : TurnLock T B) (n : ℕ) (p q : PassOf T B) → IsPassAgain p q → IsPassAt l n p → IsPassAt l n q
pass_again l n p q again at = record { own = again.same.0 ∙ at.own; free = again.free at.free; number_is = again.same.1 ∙ at.number_is }

module _ {D : Type 0} where
  base_again : (s t : Station D) → IsStationAgain s t → base_of_station t ≡ base_of_station s
  base_again s t again = ap (λ (l : TurnLock (Manager D) ManagerBase). (lock_id l).base) again.lock

  bases_again : (ss ts : List (Station D)) → AllZip IsStationAgain ss ts → map (λ (s : Station D). base_of_station s) ts ≡ map (λ (s : Station D). base_of_station s) ss
  bases_again = zip_map IsStationAgain (λ (s : Station D). base_of_station s) (λ (s : Station D). base_of_station s) base_again

  pub numbers_again : (ss ts : List (Station D)) → AllZip IsStationAgain ss ts → map (λ (s : Station D). s.id) ts ≡ map (λ (s : Station D). s.id) ss
  numbers_again = zip_map IsStationAgain (λ (s : Station D). s.id) (λ (s : Station D). s.id) (λ s t again. again.id)

  -- what is said of the bases of stations is said of them again
  of_bases : (P : ManagerBase → Type 0) (ss ts : List (Station D)) → AllZip IsStationAgain ss ts → All (λ (s : Station D). P (base_of_station s)) ss → All (λ (s : Station D). P (base_of_station s)) ts
  of_bases P = zip_each IsStationAgain (λ (s : Station D). P (base_of_station s)) (λ (s : Station D). P (base_of_station s)) (λ s t again is. subst P (sym (base_again s t again)) is)

-- ---- The rack

module _ {D : Type 0} (state : D → State) (config : Config) (r : Rack D) (ks : Vec (PassOf Spindle SpindleBase) Global) (ts : Vec (Station D) Global) (keepers : AllZip IsPassAgain r.keepers.items ks.items)
    (stations : AllZip IsStationAgain r.stations.items ts.items) where
  abbrev pub left_rack : Rack D
  left_rack = record r { keepers = ks; stations = ts }

  closable_with : (b : BayState) → IsRack state config b r → IsClosable state config b left_rack
  closable_with b is = record {
    out = is.out;
    locks = is.locks;
    keepers = (
      zip_count IsPassAgain r.keepers.items ks.items keepers ∙ is.keepers.0,
      λ k l p lock there. (
          let (before, was, again) = zip_at IsPassAgain r.keepers.items ks.items keepers k p there in
          pass_again l (length (shapes_of config)) before p again (is.keepers.1 k l before lock was)),
    );
    stations = zip_each IsStationAgain IsStation IsStation (λ s t again was. again.passes was) r.stations.items ts.items stations is.stations;
    rising = subst AreRising (sym (numbers_again r.stations.items ts.items stations)) is.rising;
    bases = of_bases (λ (b : ManagerBase). IsOpenBase config r.shared r.rest.images.items b) r.stations.items ts.items stations is.bases;
    rest = subst (λ (bs : List ManagerBase). IsRest state config r.shared bs r.rest) (sym (bases_again r.stations.items ts.items stations)) is.rest;
    foreign = subst (λ (bs : List ManagerBase). AreForeign state bs r.rest) (sym (bases_again r.stations.items ts.items stations)) is.foreign;
    accesses = is.accesses;
  }

  gone_with : (shape : Shape) (before : Image) (i : ℕ) → IsGone (length (shapes_of config)) shape before r.stations.items i → IsGone (length (shapes_of config)) shape before ts.items i
  gone_with shape before i gone = record { was = gone.was; had = gone.had; said = said gone.said }
    where
      said : HasHead (length (shapes_of config)) gone.was Free ⊎ ((station : Station D) × Contains r.stations.items station × HasHead (length (shapes_of config)) gone.was (Owned station.id)) ⊎ ((owner : ℕ) × (rs : List Record) × HasNothing owner rs gone.was)
          → HasHead (length (shapes_of config)) gone.was Free ⊎ ((station : Station D) × Contains ts.items station × HasHead (length (shapes_of config)) gone.was (Owned station.id)) ⊎ ((owner : ℕ) × (rs : List Record) × HasNothing owner rs gone.was)
      said (inl free) = inl free
      said (inr (inl (s, has, head))) =
          let (t, there, again) = zip_member IsStationAgain r.stations.items ts.items stations s has in
          inr (inl (t, there, subst (λ (n : ℕ). HasHead (length (shapes_of config)) gone.was (Owned n)) (sym again.id) head))
      said (inr (inr nothing)) = inr (inr nothing)

  began_with : (t : Told) → BeganWith state config t r → BeganWith state config t left_rack
  began_with t began = record {
    stations = of_bases (λ (b : ManagerBase). IsBegun config (images_taken config r.rest.images.items t) b.volume.began) r.stations.items ts.items stations began.stations;
    placed = of_bases (λ (b : ManagerBase). BeganInPlace config (images_taken config r.rest.images.items t) b) r.stations.items ts.items stations began.placed;
    left = began.left;
    held = began.held;
    gone = λ k i v before image conf at here lt none. gone_with (shape_in config v) before i (began.gone k i v before image conf at here lt none);
    pools = began.pools;
  }

  views_with : (views : ℕ → List ℕ) → KeepToViews views r → KeepToViews views left_rack
  views_with views keep = record {
    opened = zip_each IsStationAgain (λ (s : Station D). views s.id ≡ (base_of_station s).volume.began.view) (λ (s : Station D). views s.id ≡ (base_of_station s).volume.began.view)
        (λ s t again is. ap views again.id ∙ is ∙ ap (λ (b : ManagerBase). b.volume.began.view) (sym (base_again s t again))) r.stations.items ts.items stations keep.opened;
    unused = keep.unused;
    unused_pools = keep.unused_pools;
  }

module _ {D : Type 0} (state : D → State) (config : Config) (r q : Rack D) (again : IsRackAgain r q) where
  -- it can be closed
  pub closable_again : (b : BayState) → IsRack state config b r → IsClosable state config b q
  closable_again b is = subst (IsClosable state config b) (sym again.only) (closable_with state config r q.keepers q.stations again.keepers again.stations b is)

  -- it began with the same
  pub began_again : (t : Told) → BeganWith state config t r → BeganWith state config t q
  began_again t began = subst (BeganWith state config t) (sym again.only) (began_with state config r q.keepers q.stations again.keepers again.stations t began)

  -- its volumes kept to the same views
  pub views_again : (views : ℕ → List ℕ) → KeepToViews views r → KeepToViews views q
  views_again views keep = subst (KeepToViews views) (sym again.only) (views_with state config r q.keepers q.stations again.keepers again.stations views keep)

  pub rest_again : q.rest ≡ r.rest
  rest_again = ap (λ (w : Rack D). w.rest) again.only
