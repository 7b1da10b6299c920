-- A rack of whose stations only the workers' passes are others.
use Rattle.std.proofs.Common.{◌≡◌, ℕ, List, [], ◌∷◌, Some, map, refl, sym, ap, subst, ◌∙◌}
use Rattle.std.specs.Prelude.{slice_get, slice_set, Contains}
use Rattle.std.specs.List.{AllZip}
use Rattle.std.specs.declared.alloc.Global.{Global}
use Rattle.std.specs.declared.vec.Vec.{Vec}
use Rattle.wol_config.specs.declared.config.Config.{Config}
use Rattle.turn_lock.specs.Passes.{IsFree, IsSamePass}
use Rattle.manager.specs.declared.base.ManagerBase.{ManagerBase}
use Rattle.manager.specs.declared.station.Station.{Station}
use Rattle.manager.proofs.ReadThrough.{zip_self, zip_set, zip_then}
use Rattle.rack.specs.Racks.{IsStation, base_of_station}
use Rattle.rack_parts.specs.declared.rack.Rack.{Rack}
use Rattle.rack.specs.Again.{IsRackAgain}
use Rattle.inspection.specs.Looks.{IsConfiguredBase}
use Rattle.inspection.specs.Racks.{numbers_of, CanLook, IsSameStation, IsSameRack}
use Rattle.inspection.proofs.WorkedRacks.{again_by, all_by, station_by}

module _ {D : Type 0} where
  pub station_self : (s : Station D) → IsSameStation s s
  station_self s = record { same = refl; pass = (refl, refl); free = λ f. f; helps = λ h. h }

  station_then : (s t u : Station D) → IsSameStation s t → IsSameStation t u → IsSameStation s u
  station_then s t u a b = record {
    same = b.same ∙ ap (λ (w : Station D). record w { worker = u.worker }) a.same;
    pass = (b.pass.0 ∙ a.pass.0, b.pass.1 ∙ a.pass.1);
    free = λ f. b.free (a.free f);
    helps = λ h. b.helps (a.helps h);
  }

  pub rack_self : (r : Rack D) → IsSameRack r r
  rack_self r = record { same = refl; each = zip_self IsSameStation station_self r.stations.items }

  pub rack_then : (r q p : Rack D) → IsSameRack r q → IsSameRack q p → IsSameRack r p
  rack_then r q p a b = record {
    same = b.same ∙ ap (λ (w : Rack D). record w { stations = p.stations }) a.same;
    each = zip_then IsSameStation station_then r.stations.items q.stations.items p.stations.items a.each b.each;
  }

  -- what the stations share that a look leaves as it is
  map_same : {X : Type 0} (f : Station D → X) → ((s t : Station D) → IsSameStation s t → f t ≡ f s) → (ss ts : List (Station D)) → AllZip IsSameStation ss ts → map f ts ≡ map f ss
  map_same f each [] [] zip = refl
  map_same f each [] (t ∷ ts) zip = absurd zip
  map_same f each (s ∷ ss) [] zip = absurd zip
  map_same {X} f each (s ∷ ss) (t ∷ ts) zip = ap (λ (x : X). x ∷ map f ts) (each s t zip.0) ∙ ap (λ (xs : List X). f s ∷ xs) (map_same f each ss ts zip.1)

  pub numbers_same : (ss ts : List (Station D)) → AllZip IsSameStation ss ts → numbers_of ts ≡ numbers_of ss
  numbers_same = map_same (λ (s : Station D). s.id) (λ s t is. ap (λ (w : Station D). w.id) is.same)

  pub only : (s t : Station D) → IsSameStation s t → (t ≡ record s { worker = t.worker }) × IsSamePass s.worker t.worker × (IsFree s.worker → IsFree t.worker)
  only s t is = (is.same, is.pass, is.free)

  can_look_with : (config : Config) (r : Rack D) (ts : Vec (Station D) Global) → AllZip IsSameStation r.stations.items ts.items → CanLook config r → CanLook config (record r { stations = ts })
  can_look_with config r ts zip can = record {
    count = can.count;
    known = can.known;
    open_ = λ k is. subst (λ (ns : List ℕ). Contains ns k) (sym (numbers_same r.stations.items ts.items zip)) (can.open_ k is);
    stations = all_by IsSameStation only (λ (s : Station D). IsStation s × IsConfiguredBase config r.shared (base_of_station s)) (λ (s : Station D). IsStation s × IsConfiguredBase config r.shared (base_of_station s))
        (λ s t is was. (station_by IsSameStation only s t is was.0, subst (λ (b : ManagerBase). IsConfiguredBase config r.shared b) (ap (λ (w : Station D). base_of_station w) (sym is.same)) was.1)) r.stations.items ts.items zip can.stations;
  }

  pub can_look_still : (config : Config) (r q : Rack D) → IsSameRack r q → CanLook config r → CanLook config q
  can_look_still config r q is can = subst (CanLook config) (sym is.same) (can_look_with config r q.stations is.each can)

  -- the rack has again all that it came with
  pub again_same : (r q : Rack D) → IsSameRack r q → IsRackAgain r q
  again_same r q is = again_by IsSameStation only r q is.same is.each

  -- one station was looked at
  pub rack_set : (r : Rack D) (ts : Vec (Station D) Global) (place : ℕ) (s t : Station D) → slice_get r.stations.items place ≡ Some s → IsSameStation s t → ts.items ≡ slice_set r.stations.items place t
      → IsSameRack r (record r { stations = ts })
  rack_set r ts place s t there is set = record {
    same = refl;
    each = subst (AllZip IsSameStation r.stations.items) (sym set) (zip_set IsSameStation station_self r.stations.items place s t there is);
  }
