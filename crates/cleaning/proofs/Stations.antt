-- A rack of whose stations only the workers' passes are others, one of which cleaned its volume.
use Rattle.std.proofs.Common.{◌≡◌, ◌<◌, ℕ, Bool, List, [], ◌∷◌, length, get_or, Some, Result, refl, sym, ap, subst, ◌∙◌, arith}
use Rattle.std.specs.Prelude.{slice_get, slice_set}
use Rattle.std.specs.List.{AllZip}
use Rattle.std.specs.declared.alloc.Global.{Global}
use Rattle.std.specs.declared.vec.Vec.{Vec}
use Rattle.std.proofs.lemmas.Option.{slice_get_read}
use Rattle.wol_disk.specs.Disk.{State}
use Rattle.wol_config.specs.declared.config.Config.{Config}
use Rattle.turn_lock.specs.Passes.{IsFree, IsSamePass}
use Rattle.manager.specs.Stands.{IsShared}
use Rattle.manager.specs.declared.station.Station.{Station}
use Rattle.manager.proofs.Lanes.{get_set, get_other}
use Rattle.manager.proofs.ReadThrough.{zip_self, zip_set, zip_then}
use Rattle.rack.specs.Racks.{IsStation, base_of_station}
use Rattle.rack_parts.specs.declared.rack.Rack.{Rack}
use Rattle.rack.specs.Again.{IsRackAgain}
use Rattle.inspection.proofs.WorkedRacks.{again_by, all_by, station_by}
use Rattle.log_cleaner.specs.declared.answer.Cleaned.{Cleaned}
use Rattle.log_cleaner.specs.declared.answer.CleanFault.{CleanFault}
use Rattle.cleaning.specs.Racks.{CanCleanAll, CleansStation, IsSameButWorked, IsWorked}
use Rattle.cleaning.specs.Turns.{CleansIn}
use Rattle.wol_config.specs.Configs.{most_of}

module _ {D : Type 0} where
  station_self : (s : Station D) → IsSameButWorked s s
  station_self s = record { same = refl; pass = (refl, refl); free = λ f. f }

  station_then : (s t u : Station D) → IsSameButWorked s t → IsSameButWorked t u → IsSameButWorked s u
  station_then s t u a b = record {
    same = b.same ∙ ap (λ (w : Station D). record w { worker = u.worker }) a.same;
    pass = (b.pass.0 ∙ a.pass.0, b.pass.1 ∙ a.pass.1);
    free = λ f. b.free (a.free f);
  }

  pub worked_self : (r : Rack D) → IsWorked r r
  worked_self r = record { same = refl; each = zip_self IsSameButWorked station_self r.stations.items }

  pub worked_then : (r q p : Rack D) → IsWorked r q → IsWorked q p → IsWorked r p
  worked_then r q p a b = record { same = b.same ∙ ap (λ (w : Rack D). record w { stations = p.stations }) a.same; each = zip_then IsSameButWorked station_then r.stations.items q.stations.items p.stations.items a.each b.each }

  only : (s t : Station D) → IsSameButWorked s t → (t ≡ record s { worker = t.worker }) × IsSamePass s.worker t.worker × (IsFree s.worker → IsFree t.worker)
  only s t is = (is.same, is.pass, is.free)

  zip_length : (ss ts : List (Station D)) → AllZip IsSameButWorked ss ts → length ts ≡ length ss
  zip_length [] [] zip = refl
  zip_length [] (t ∷ ts) zip = absurd zip
  zip_length (s ∷ ss) [] zip = absurd zip
  zip_length (s ∷ ss) (t ∷ ts) zip = ap Rattle.std.proofs.Common.suc (zip_length ss ts zip.1)

  -- what a rack's volumes need to be cleaned
  abbrev pub CanCleanStation : Config → Rattle.logger.specs.declared.shared.Shared.Shared D → Station D → Type 0
  CanCleanStation config shared s = IsStation s × IsShared shared (base_of_station s) × ((base_of_station s).volume.began.most ≡ most_of config)

  can_with : (config : Config) (r : Rack D) (ts : Vec (Station D) Global) → AllZip IsSameButWorked r.stations.items ts.items → CanCleanAll config r → CanCleanAll config (record r { stations = ts })
  can_with config r ts zip can = record {
    count = zip_length r.stations.items ts.items zip ∙ can.count;
    each = all_by IsSameButWorked only (CanCleanStation config r.shared) (CanCleanStation config r.shared) (λ s t is was. (
      station_by IsSameButWorked only s t is was.0,
      subst (λ (u : Station D). IsShared r.shared (base_of_station u)) (sym is.same) was.1,
      subst (λ (u : Station D). (base_of_station u).volume.began.most ≡ most_of config) (sym is.same) was.2,
    )) r.stations.items ts.items zip can.each;
  }

  pub can_still : (config : Config) (r q : Rack D) → IsWorked r q → CanCleanAll config r → CanCleanAll config q
  can_still config r q is can = subst (CanCleanAll config) (sym is.same) (can_with config r q.stations is.each can)

  -- what is so of the station that was read at a place
  pub can_at : (config : Config) (r : Rack D) (k : ℕ) (s : Station D) → CanCleanAll config r → k < length config.volumes.items → s ≡ get_or r.stations.items k s → CanCleanStation config r.shared s
  can_at config r k s can within read = subst (CanCleanStation config r.shared) (sym read) (can.each k s (let n = can.count in omega (arith, n, within)))

  -- the rack has again all that it came with
  pub again_worked : (r q : Rack D) → IsWorked r q → IsRackAgain r q
  again_worked r q is = again_by IsSameButWorked only r q is.same is.each

-- one volume was cleaned
module _ {D : Type 0} (tells : Bool) (state : D → State) (config : Config) (r : Rack D) (ts : Vec (Station D) Global) (k : ℕ) (b t : Station D) (within : k < length r.stations.items) (was : b ≡ get_or r.stations.items k b)
    (same : IsSameButWorked b t) (set : ts.items ≡ slice_set r.stations.items k t) where
  there : slice_get r.stations.items k ≡ Some b
  there = slice_get_read r.stations.items (length r.stations.items) k b refl within was

  pub volume_worked : IsWorked r (record r { stations = ts })
  volume_worked = record { same = refl; each = subst (AllZip IsSameButWorked r.stations.items) (sym set) (zip_set IsSameButWorked station_self r.stations.items k b t there same) }

  pub volume_others : (j : ℕ) → (j ≡ k → ⊥) → slice_get ts.items j ≡ slice_get r.stations.items j
  volume_others j other = ap (λ (ss : List (Station D)). slice_get ss j) set ∙ get_other r.stations.items k j t other

  pub volume_cleans : (result : Result Cleaned CleanFault) → CleansIn tells state (most_of config) b.worker t.worker result → CleansStation tells state config r (record r { stations = ts }) k result
  volume_cleans result cleans = record {
    station = b;
    there = there;
    pass = t.worker;
    now = ap (λ (ss : List (Station D)). slice_get ss k) set ∙ get_set r.stations.items k b t there ∙ ap Some same.same;
    cleans = cleans;
  }
