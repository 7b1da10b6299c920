-- A rack of whose stations only the workers' passes are others, whatever else is so of each of them.
use Rattle.std.proofs.Common.{◌≡◌, List, refl, sym, ap, subst, ◌∙◌}
use Rattle.std.specs.Prelude.{All}
use Rattle.std.specs.List.{AllZip}
use Rattle.std.specs.declared.alloc.Global.{Global}
use Rattle.std.specs.declared.vec.Vec.{Vec}
use Rattle.std.proofs.lemmas.List.Elements.{All-from_recursion, recursion_from_All}
use Rattle.spin_model.specs.declared.spindle.Spindle.{Spindle}
use Rattle.spin_model.specs.declared.spindle.SpindleBase.{SpindleBase}
use Rattle.turn_lock.specs.Passes.{IsFree, IsSamePass}
use Rattle.turn_lock.specs.declared.pass.PassOf.{PassOf}
use Rattle.manager.specs.declared.station.Station.{Station}
use Rattle.manager.proofs.Touched.{zip_all}
use Rattle.manager.proofs.ReadThrough.{zip_self}
use Rattle.rack.specs.Racks.{IsStation}
use Rattle.rack_parts.specs.declared.rack.Rack.{Rack}
use Rattle.rack.specs.Again.{IsPassAgain, IsRackAgain, IsStationAgain}
use Rattle.rack.proofs.RacksAgain.{zip_weaker}

module _ {D : Type 0} (S : Station D → Station D → Type 0) (only : (s t : Station D) → S s t → (t ≡ record s { worker = t.worker }) × IsSamePass s.worker t.worker × (IsFree s.worker → IsFree t.worker)) where
  pub station_by : (s t : Station D) → S s t → IsStation s → IsStation t
  station_by s t is was =
      let o = only s t is in
      subst IsStation (sym o.0) (record {
        id = was.id;
        passes = was.passes;
        own_passes = record {
          worker_ = record { own = o.1.0 ∙ was.worker_.own; free = o.2 was.worker_.free; number_is = o.1.1 ∙ was.worker_.number_is };
          helper_ = was.helper_;
          keeper_ = was.keeper_;
        };
      })

  pub all_by : (P Q : Station D → Type 0) → ((s t : Station D) → S s t → P s → Q t) → (ss ts : List (Station D)) → AllZip S ss ts → All P ss → All Q ts
  all_by P Q f ss ts zip all = All-from_recursion Q ts (zip_all S P Q f ss ts zip (recursion_from_All P ss all))

  -- the rack has again all that it came with
  pub again_by : (r q : Rack D) → q ≡ record r { stations = q.stations } → AllZip S r.stations.items q.stations.items → IsRackAgain r q
  again_by r q rest zip =
      let keepers : q.keepers ≡ r.keepers = ap (λ (w : Rack D). w.keepers) rest in record {
        only = rest ∙ ap (λ (ks : Vec (PassOf Spindle SpindleBase) Global). record r { keepers = ks; stations = q.stations }) (sym keepers);
        keepers = subst (λ (ks : Vec (PassOf Spindle SpindleBase) Global). AllZip IsPassAgain r.keepers.items ks.items) (sym keepers) (zip_self IsPassAgain (λ p. record { same = (refl, refl); free = λ f. f }) r.keepers.items);
        stations = zip_weaker S IsStationAgain (λ s t same. record {
          id = ap (λ (w : Station D). w.id) (only s t same).0;
          lock = ap (λ (w : Station D). w.lock) (only s t same).0;
          passes = station_by s t same;
        }) r.stations.items q.stations.items zip;
      }
